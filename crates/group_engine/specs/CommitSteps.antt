-- How far a directory commit may have come on an image of all disks.
use Rattle.std.specs.Prelude.{◌≡◌, ◌≢◌, ◌⊎◌, ℕ, ◌+◌, ◌*◌, ◌<◌, ◌≤◌, Bool, List, [], ◌∷◌, length, Some, IsTrue}
use Rattle.asm_group.specs.Group.{Group}
use Rattle.asm_formats.specs.Bytes.{block_size}
use Rattle.asm_formats.specs.Regions.{region_start, region_end}
use Rattle.asm_formats.specs.Header.{Header}
use Rattle.asm_formats.specs.Items.{Item}
use Rattle.asm_formats.specs.Content.{Content}
use Rattle.asm_formats.specs.Metadata.{header_of}
use Rattle.asm_formats.specs.Places.{SameElsewhere}
use Rattle.asm_formats.specs.Status.{Status}
use Rattle.asm_formats.specs.Among.{IsAmong}
use Rattle.asm_images.specs.Members.{ImageBytes, Member, all_members, disk_of}
use Rattle.asm_images.specs.Describing.{DescribesGroup}
use Rattle.asm_images.specs.Directories.{IsNamed}
use Rattle.asm_images.specs.PutLaws.{bytes_of}
use Rattle.asm_images.specs.Sound.{SoundBy}
use Rattle.asm_images.specs.Stands.{HoldsBytes, Standing}

-- the content of these items under a commit number
abbrev pub content_of_items : ℕ → List Item → Content
content_of_items number items = record { commit = number; items = Some items }

-- at most the directory region of the disk changes
pub record ChangesRegion (old new : List ℕ) : Type 0 where
  pub len : ℕ
  pub same : SameElsewhere old new (region_start * block_size) len
  pub inside : (h : Header) → header_of old ≡ Some h → region_start * block_size + len ≤ region_end h.shape.dir_blocks * block_size

-- Disks change in their directory regions alone. Each copy that the record names had the content before, and has it or the one after.
pub record IsCommitting (id : ℕ) (r : Status) (before after : Content) (old new : ImageBytes) : Type 0 where
  pub size : length new ≡ length old
  pub disks : (slot : ℕ) → slot < length old → ChangesRegion (bytes_of old slot) (bytes_of new slot)
  pub decode : (slot : ℕ) → slot < length old → IsTrue (disk_of old slot).decodes → IsTrue (disk_of new slot).decodes
  pub was : (m : Member) → IsAmong (all_members id old) m → IsNamed r m.header → m.disk.content ≡ Some before
  pub either : (m : Member) → IsAmong (all_members id new) m → IsNamed r m.header → (m.disk.content ≡ Some before) ⊎ (m.disk.content ≡ Some after)

-- each copy that the record names has the content
abbrev pub AllHave : ℕ → Status → Content → ImageBytes → Type 0
AllHave id r c image = (m : Member) → IsAmong (all_members id image) m → IsNamed r m.header → m.disk.content ≡ Some c

-- The disks as they are hold another group once the directories have these items: they describe it, and its known bytes stand in the
-- current copies. What the items say of the bytes is all that callers show of an image.
pub record Becomes (id : ℕ) (r : Status) (g : Group) (items : List Item) (h : Group) (image : ImageBytes) : Type 0 where
  pub name : h.name ≡ g.name
  pub shape : h.shape ≡ g.shape
  pub describes : DescribesGroup r items h
  pub bytes : HoldsBytes image (all_members id image) r items h

-- While a commit is on its way, the image stands for the group before or the one after.
abbrev pub CommittingIsSound : Type 0
CommittingIsSound =
    (id number next : ℕ) (r : Status) (g h : Group) (items later : List Item) (old new : ImageBytes) → number ≢ next → SoundBy id old (g ∷ []) (Some r) []
    → Becomes id r g later h old → IsCommitting id r (content_of_items number items) (content_of_items next later) old new
    → SoundBy id new (g ∷ h ∷ []) (Some r) []

-- Once each named copy has the content after, it stands for the one after.
abbrev pub CommittedIsSound : Type 0
CommittedIsSound =
    (id number next : ℕ) (r : Status) (g h : Group) (items later : List Item) (old new : ImageBytes) → number ≢ next → SoundBy id old (g ∷ []) (Some r) []
    → Becomes id r g later h old → IsCommitting id r (content_of_items number items) (content_of_items next later) old new → AllHave id r (content_of_items next later) new
    → SoundBy id new (h ∷ []) (Some r) []

-- Where these disks are left, Status and directories are there as before.
abbrev pub CommittingIsStanding : Type 0
CommittingIsStanding =
    (id : ℕ) (slots : ℕ → Bool) (r : Status) (groups : List Group) (before after : Content) (old new : ImageBytes) → SoundBy id old groups (Some r) []
    → IsCommitting id r before after old new → Standing id old slots → Standing id new slots
