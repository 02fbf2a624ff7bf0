-- What it means that disks hold a group.
use Rattle.std.specs.Prelude.{◌≡◌, ℕ, ◌+◌, ◌*◌, ◌≤◌, Bool, List, get_or, Some, IsTrue}
use Rattle.std.specs.List.{list_all}
use Rattle.std.specs.Option.{is_some}
use Rattle.std.specs.FinMap as maps
use Rattle.asm_group.specs.Group.{Known, Free, File, Group}
use Rattle.asm_formats.specs.Regions.{units_in}
use Rattle.asm_formats.specs.Status.{Status, Entry, entry_of}
use Rattle.asm_formats.specs.Items.{Item, Home}
use Rattle.asm_formats.specs.Content.{Content}
use Rattle.asm_formats.specs.Among.{IsAmong}
use Rattle.asm_images.specs.Members.{ImageBytes, Member, byte, all_members, readable_members, AreDistinct}
use Rattle.asm_images.specs.Register.{status}
use Rattle.asm_images.specs.Directories.{directories}
use Rattle.asm_images.specs.Copies.{IsCurrent}
use Rattle.asm_images.specs.Describing.{LiesIn, DescribesGroup}

-- the image has at least the units of the disk's entry
abbrev pub HasEntryUnits : Status → Member → Type 0
HasEntryUnits r m = (e : Entry) → entry_of r.entries m.header.number ≡ Some e → e.birth ≡ m.header.birth → e.units ≤ units_in m.header.shape m.disk.size

-- the disk is one of the group, and each of its open slots decodes
pub record IsDiskOf (g : Group) (r : Status) (m : Member) : Type 0 where
  pub claims : IsTrue (list_all is_some m.disk.claims)
  pub statuses : IsTrue (list_all is_some m.disk.statuses)
  pub directories : IsTrue m.disk.decodes
  pub name : m.header.group ≡ g.name
  pub shape : m.header.shape ≡ g.shape
  pub units : HasEntryUnits r m

-- each known byte of each file stands in every current copy of its extent
abbrev pub HoldsBytes : ImageBytes → List Member → Status → List Item → Group → Type 0
HoldsBytes image ms r items g =
    (f o b i inner copy : ℕ) (file : File) (h : Home) (m : Member) → maps.get g.files f ≡ Some file → get_or file.cells o Free ≡ Known b
    → LiesIn g.shape file.stripe o i inner → IsAmong ms m → IsCurrent r items f i copy h m
    → byte image m.slot (h.unit * g.shape.au + inner) ≡ b

-- With this record as Status and this content as Directories the disks hold the group: all members, and those that can be read.
pub record Describes (image : ImageBytes) (all readable : List Member) (r : Status) (content : Content) (g : Group) : Type 0 where
  pub distinct : AreDistinct all
  pub disks : (m : Member) → IsAmong readable m → IsDiskOf g r m
  pub items : List Item
  pub decodes : content.items ≡ Some items
  pub describes : DescribesGroup r items g
  pub bytes : HoldsBytes image all r items g

-- Standing: Status and Directories are both there, where the disks in these slots can be read.
pub record Standing (id : ℕ) (image : ImageBytes) (slots : ℕ → Bool) : Type 0 where
  pub record_ : Status
  pub content : Content
  pub status_is : status id (readable_members id image slots) ≡ Some record_
  pub directories_is : directories record_ (readable_members id image slots) ≡ Some content

-- Stands: what these disks say and hold is this group.
abbrev pub Stands : (id : ℕ) (image : ImageBytes) (slots : ℕ → Bool) → Standing id image slots → Group → Type 0
Stands id image slots s g = Describes image (all_members id image) (readable_members id image slots) s.record_ s.content g
