-- What a new group is made of, and what is so of it before anything is written.
use Rattle.std.specs.Prelude.{◌≡◌, ◌≢◌, ⊤, ℕ, ◌*◌, ◌<◌, ◌≤◌, true, false, List, [], ◌∷◌, length, if◌then◌else◌, Some, IsTrue}
use Rattle.bay.specs.State.{BayState}
use Rattle.asm_formats.specs.Bytes.{block_size}
use Rattle.asm_formats.specs.Header.{is_header}
use Rattle.asm_formats.specs.Regions.{region_end}
use Rattle.asm_formats.specs.Sets.{has_bit}
use Rattle.asm_formats.specs.Status.{Entry, is_status}
use Rattle.asm_group.specs.Shape.{Shape, is_shape}
use Rattle.asm_formats.specs.Among.{IsAmong}
use Rattle.directory_store.specs.change_directory.declared.copy.DirCopy.{DirCopy}
use Rattle.directory_store.specs.Contents.{ArePutItems}
use Rattle.mounted_groups.specs.Holding.{IsHeldSlot}
use Rattle.mounted_groups.specs.group_recovery.NamedCopies.{directory_copy_of}
use Rattle.mounted_groups.specs.group_recovery.Verdicts.{member_of}
use Rattle.mounted_groups.specs.group_recovery.declared.finding.Headed.{Headed}
use Rattle.status_register.specs.Holders.{is_of}
use Rattle.status_register.specs.declared.member.Member.{Member}
use Rattle.new_groups.specs.declared.draft.Draft.{Draft}
use Rattle.new_groups.specs.declared.lists.Lists.{Lists}

-- ---- lists

abbrev pub member_list : List Headed → List Member
member_list [] = []
member_list (h ∷ hs) = member_of h ∷ member_list hs

-- those whose disks are in a set
abbrev pub holder_list : ℕ → List Headed → List Member
holder_list set [] = []
holder_list set (h ∷ hs) = if has_bit set h.header.number then member_of h ∷ holder_list set hs else holder_list set hs

abbrev pub copy_list : ℕ → List Headed → List DirCopy
copy_list set [] = []
copy_list set (h ∷ hs) = if has_bit set h.header.number then directory_copy_of h ∷ copy_list set hs else copy_list set hs

-- the members with the sizes of their images
abbrev pub disk_list : List Headed → List (Member × ℕ)
disk_list [] = []
disk_list (h ∷ hs) = (member_of h, h.size) ∷ disk_list hs

-- the lists are those of the draft's disks
pub record AreLists (d : Draft) (l : Lists) : Type 0 where
  pub members : l.members.items ≡ member_list d.disks.items
  pub holders : l.holders.items ≡ holder_list d.status.holders d.disks.items
  pub copies : l.copies.items ≡ copy_list d.status.directories d.disks.items

-- ---- what is so of a draft

-- the header is one of the formats and has the shape's sector and pages, and the disk is that of its number's entry
pub record IsRight (s : Shape) (entries : List Entry) (h : Headed) : Type 0 where
  pub header : is_header h.header ≡ true
  pub sector : h.header.shape.sector ≡ s.sector
  pub pages : h.header.shape.dir_blocks ≡ s.dir_blocks
  pub entry : is_of entries (member_of h) ≡ true

-- no two of the disks have one slot or one number
abbrev pub AreDisksApart : List Headed → Type 0
AreDisksApart [] = ⊤
AreDisksApart (h ∷ hs) = ((k : Headed) → IsAmong hs k → (k.slot ≢ h.slot) × (k.header.number ≢ h.header.number)) × AreDisksApart hs

-- each disk of the set is there
abbrev pub HaveDisks : ℕ → List Headed → Type 0
HaveDisks set hs = (d : ℕ) → d < 64 → has_bit set d ≡ true → (h : Headed) × IsAmong hs h × (h.header.number ≡ d)

-- The parts of the draft agree: its record is one of the formats, its disks are those of the entries, and the disks of the record's sets
-- are among them.
pub record HasAgreeingParts (d : Draft) : Type 0 where
  pub status : IsTrue (is_status d.status)
  pub alive : d.status.gone ≡ false
  pub shape : IsTrue (is_shape d.shape)
  pub few : length d.disks.items ≤ 64
  pub right : (h : Headed) → IsAmong d.disks.items h → IsRight d.shape d.status.entries h
  pub apart : AreDisksApart d.disks.items
  pub holders : HaveDisks d.status.holders d.disks.items
  pub directories : HaveDisks d.status.directories d.disks.items
  pub items : ArePutItems d.first.put

-- The disk is attached in one of the first slots, reaches to the end of its directory region, and no other group holds it.
pub record IsFreeDisk (n : ℕ) (held : List ℕ) (h : Headed) (state : BayState) : Type 0 where
  pub inside : h.slot < n
  pub attached : state.attached h.slot ≡ Some h.size
  pub long : region_end h.header.shape.dir_blocks * block_size ≤ h.size
  pub free : IsHeldSlot held h.slot → ⊥

abbrev pub AreFreeDisks : ℕ → List ℕ → List Headed → BayState → Type 0
AreFreeDisks n held hs state = (h : Headed) → IsAmong hs h → IsFreeDisk n held h state
