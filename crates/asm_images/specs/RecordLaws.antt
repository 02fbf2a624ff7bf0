-- Records that may be taken for Status where another may: after a change of modes or entries, and without some directory copies.
use Rattle.std.specs.Prelude.{◌≡◌, ℕ, ◌≤◌, Bool, true, List, map, Option, Some, IsTrue}
use Rattle.std.specs.List.{list_all}
use Rattle.std.specs.Option.{is_some, option_map}
use Rattle.asm_group.specs.Shape.{Shape}
use Rattle.asm_group.specs.Group.{Group}
use Rattle.asm_formats.specs.Sets.{has_bit, elements}
use Rattle.asm_formats.specs.Header.{Header}
use Rattle.asm_formats.specs.Status.{Status, Entry, entry_of}
use Rattle.asm_formats.specs.Items.{Item}
use Rattle.asm_formats.specs.Content.{Content}
use Rattle.asm_formats.specs.Among.{IsAmong}
use Rattle.asm_placement.specs.Placed.{places_fit}
use Rattle.asm_placement.specs.Partners.{HasPartners}
use Rattle.asm_images.specs.Members.{ImageBytes, Member, all_members, within}
use Rattle.asm_images.specs.Directories.{directories}
use Rattle.asm_images.specs.Copies.{is_kept}
use Rattle.asm_images.specs.Describing.{has_info_in_items, AreRegular}
use Rattle.asm_images.specs.Stands.{HasEntryUnits}
use Rattle.asm_images.specs.Sound.{IsCovered}

-- of an entry its number, its birth, its units, and whether its failure group is a quorum one
abbrev pub bare : Entry → ℕ × ℕ × ℕ × Bool
bare e = (e.number, e.birth, e.units, e.quorum)

-- s has the disks, births and directory copies of r, under other modes and partners; no disk that was Forced serves again
pub record ChangesModes (r s : Status) : Type 0 where
  pub directories : s.directories ≡ r.directories
  pub births : r.births ≤ s.births
  pub entries : map bare s.entries ≡ map bare r.entries
  pub kept : (d : ℕ) (h : Header) → IsTrue (is_kept s d h) → IsTrue (is_kept r d h)
  pub partners : HasPartners s.entries

-- A record with other modes may be taken for Status as the record may.
abbrev pub ModesAreCovered : Type 0
ModesAreCovered =
    (id : ℕ) (image : ImageBytes) (groups : List Group) (r s : Status) → ChangesModes r s → IsCovered id image (all_members id image) groups r
    → IsCovered id image (all_members id image) groups s

-- So may the record that names fewer directory copies.
abbrev pub FewerCopiesAreCovered : Type 0
FewerCopiesAreCovered =
    (id : ℕ) (image : ImageBytes) (groups : List Group) (r : Status) (fewer : ℕ) → ((d : ℕ) → has_bit fewer d ≡ true → has_bit r.directories d ≡ true)
    → IsCovered id image (all_members id image) groups r → IsCovered id image (all_members id image) groups (record r { directories = fewer })

-- ---- other entries

-- for some set of disks that are left, the items are the directories under the record
pub record IsReadUnder (r : Status) (ms : List Member) (items : List Item) : Type 0 where
  pub readable : ℕ → Bool
  pub content : Content
  pub found : directories r (within readable ms) ≡ Some content
  pub decodes : content.items ≡ Some items

-- the birth of an entry
abbrev pub birth_of : Option Entry → Option ℕ
birth_of o = option_map (λ (e : Entry). e.birth) o

-- s has other entries than r, and what the directories say fits them: each entry has its disk record, and all homes lie in their units, on regular disks.
-- The disks with directory copies keep their births. Of the disks that r has entries of, s keeps none that r doesn't keep.
pub record ChangesEntries (ms : List Member) (r s : Status) : Type 0 where
  pub directories : s.directories ≡ r.directories
  pub births : r.births ≤ s.births
  pub named : (d : ℕ) → IsAmong (elements r.directories) d → birth_of (entry_of s.entries d) ≡ birth_of (entry_of r.entries d)
  pub kept : (d : ℕ) (h : Header) → IsTrue (is_some (entry_of r.entries d)) → IsTrue (is_kept s d h) → IsTrue (is_kept r d h)
  pub infos : (items : List Item) → IsReadUnder r ms items → IsTrue (list_all (has_info_in_items items) s.entries)
  pub places : (shape : Shape) (items : List Item) → IsReadUnder r ms items → IsTrue (places_fit shape r.entries items) → IsTrue (places_fit shape s.entries items)
  pub regular : (items : List Item) → IsReadUnder r ms items → AreRegular r.entries items → AreRegular s.entries items
  pub units : (m : Member) → IsAmong ms m → HasEntryUnits s m
  pub partners : HasPartners s.entries

-- Such a record may be taken for Status as the record may: disks are added, resized, or leave.
abbrev pub EntriesAreCovered : Type 0
EntriesAreCovered =
    (id : ℕ) (image : ImageBytes) (groups : List Group) (r s : Status) → ChangesEntries (all_members id image) r s → IsCovered id image (all_members id image) groups r
    → IsCovered id image (all_members id image) groups s
