-- The stages of a disk that becomes the first member of a new group.
use Rattle.std.specs.Prelude.{◌≡◌, ◌⊎◌, ℕ, ◌≤◌, Some, None}
use Rattle.bay.specs.Image.{Image, ChangesOnly}
use Rattle.change_directory.specs.declared.copy.DirCopy.{DirCopy}
use Rattle.change_directory.specs.Changes.{content_in}
use Rattle.change_directory.specs.Formatting.{AreShut}
use Rattle.disk_forming.specs.Gates.{MayCloseAll}
use Rattle.disk_forming.specs.Forming.{ShowsBodies, MetaOf}
use Rattle.mounted_groups.specs.Planned.{Plan, content_of_plan, header_body, claim_body, status_body}

-- ---- the directory copy

-- the copy of disk 0, of the usual shape
abbrev pub first_copy : ℕ → DirCopy
first_copy slot = record { number = 0; slot = slot; dir_blocks = 1024; sector = 512 }

-- its content is that of the new group
abbrev pub HasFirst : ℕ → Plan → Image → Type 0
HasFirst slot plan image = content_in (first_copy slot) image ≡ Some (content_of_plan plan)

-- there is none yet, or it is that of the new group
abbrev pub HasNoneOrFirst : ℕ → Plan → Image → Type 0
HasNoneOrFirst slot plan image = (content_in (first_copy slot) image ≡ None) ⊎ HasFirst slot plan image

-- ---- all parts

-- The parts come in this order: header, directory copy, claim, status record.
pub data IsForming (slot : ℕ) (plan : Plan) (image : Image) : Type 0 where
  not_yet_formed : ShowsBodies slot 512 None None None image → IsForming slot plan image
  formed_to_header : ShowsBodies slot 512 (Some (header_body plan)) None None image → HasNoneOrFirst slot plan image → IsForming slot plan image
  formed_to_claim : ShowsBodies slot 512 (Some (header_body plan)) (Some (claim_body plan)) None image → HasFirst slot plan image → IsForming slot plan image
  fully_formed : ShowsBodies slot 512 (Some (header_body plan)) (Some (claim_body plan)) (Some (status_body plan)) image → HasFirst slot plan image → IsForming slot plan image

-- all parts are there
pub record HasAllParts (slot : ℕ) (plan : Plan) (image : Image) : Type 0 where
  pub shows : ShowsBodies slot 512 (Some (header_body plan)) (Some (claim_body plan)) (Some (status_body plan)) image
  pub content : HasFirst slot plan image

-- the disk has its parts up to one of them, and nothing behind its directory region has changed
pub record Forms (slot : ℕ) (plan : Plan) (old new : Image) : Type 0 where
  pub is_forming : IsForming slot plan new
  pub elsewhere : ChangesOnly (MetaOf slot 1024) old new

-- While a disk is given its parts, its gates are closed first, that of its old header before all others.
abbrev pub MayForm : ℕ → Plan → Image → Image → Type 0
MayForm slot plan old new = MayCloseAll slot 512 1024 old new ⊎ Forms slot plan old new

-- the disk has all its parts, and nothing behind its directory region has changed
pub record HasFormed (slot : ℕ) (plan : Plan) (old new : Image) : Type 0 where
  pub has_all : HasAllParts slot plan new
  pub elsewhere : ChangesOnly (MetaOf slot 1024) old new

-- ---- between the steps

-- The disk, which has 25 units at least, has its header, and no log slot is open.
pub record IsHeaded (slot : ℕ) (plan : Plan) (image : Image) : Type 0 where
  pub shows : ShowsBodies slot 512 (Some (header_body plan)) None None image
  pub shut : AreShut (first_copy slot) image
  pub room : 26214400 ≤ image.size slot
