-- What the end of a rebalance says, and what full extents bear.
use Rattle.std.specs.Prelude.{◌≡◌, ℕ, ◌<◌, true, false, ◌&&◌, ◌||◌, List, length, None, Some}
use Rattle.asm_formats.specs.asm_group.Shape.{Shape}
use Rattle.asm_formats.specs.Status.{Status, Entry}
use Rattle.asm_formats.specs.Items.{Item}
use Rattle.asm_formats.specs.Among.{IsAmong}
use Rattle.asm_placement.specs.Modes.{is_online, leaves}
use Rattle.asm_placement.specs.DiskSets.{is_among}
use Rattle.asm_placement.specs.TableDisks.{directory_target, status_target}
use Rattle.asm_placement.specs.Space.{has_room}
use Rattle.asm_placement.specs.Choices.{is_eligible}
use Rattle.asm_placement.specs.Copies.{Copy, home, units, all_copies, entry_at_home, is_on, is_marked, has_source, wants_fill, wants_shift, is_doubled, is_whole_copy, has_full_redundancy}
use Rattle.asm_placement.specs.Rebalancing.{done, lacks_space, lost_extent, next, IsBalanced}
use Rattle.asm_placement.specs.Work.{is_absent}

-- Nothing is left to do: of all copies of files, by a status record and directories.
pub record IsDone (s : Shape) (r : Status) (items : List Item) : Type 0 where
  -- each copy is there, on a disk that doesn't leave, and shares its failure group with no other
  pub present : (x : Copy) → IsAmong (all_copies items) x → is_absent x ≡ false
  pub staying : (x : Copy) → IsAmong (all_copies items) x → is_on leaves r.entries x ≡ false
  pub single : (x : Copy) → IsAmong (all_copies items) x → is_doubled r.entries x ≡ false
  -- each copy on an Online disk is current, and each extent has a usable copy
  pub current : (x : Copy) → IsAmong (all_copies items) x → is_on is_online r.entries x ≡ true → is_marked items x ≡ false
  pub usable : (x : Copy) → IsAmong (all_copies items) x → has_source r.entries items (all_copies items) x ≡ true
  pub balanced : IsBalanced s r.entries items
  -- no directory copy is due, no next holders stand and no status move is due
  pub directories : directory_target s.kind r ≡ None
  pub tables : status_target s.kind r ≡ None

abbrev pub DoneMeans : Type 0
DoneMeans = (s : Shape) (r : Status) (items : List Item) → next s r items ≡ done → IsDone s r items

-- no disk that may take the place of the copy has room
abbrev pub HasNoPlace : Shape → List Entry → List Item → Copy → Type 0
HasNoPlace s es items x = (e : Entry) → IsAmong es e → (is_eligible es x.copy x.homes e && has_room s items (units s x) e) ≡ false

-- The extent has a copy that must go elsewhere and can't, each extent has a usable copy, and no other copy that must go elsewhere can.
pub record IsOutOfSpace (s : Shape) (r : Status) (items : List Item) (f i : ℕ) : Type 0 where
  pub copy : Copy
  pub among : IsAmong (all_copies items) copy
  pub file : copy.file ≡ f
  pub index : copy.index ≡ i
  pub due : (wants_fill r.entries copy || wants_shift r.entries copy) ≡ true
  pub no_place : HasNoPlace s r.entries items copy
  pub usable : (x : Copy) → IsAmong (all_copies items) x → has_source r.entries items (all_copies items) x ≡ true
  pub others : (x : Copy) → IsAmong (all_copies items) x → (wants_fill r.entries x || wants_shift r.entries x) ≡ true → HasNoPlace s r.entries items x

abbrev pub NoSpaceMeans : Type 0
NoSpaceMeans = (s : Shape) (r : Status) (items : List Item) (f i : ℕ) → next s r items ≡ lacks_space f i → IsOutOfSpace s r items f i

-- The extent has a copy, and none that is usable.
pub record IsLost (r : Status) (items : List Item) (f i : ℕ) : Type 0 where
  pub copy : Copy
  pub among : IsAmong (all_copies items) copy
  pub file : copy.file ≡ f
  pub index : copy.index ≡ i
  pub unusable : has_source r.entries items (all_copies items) copy ≡ false

abbrev pub LostMeans : Type 0
LostMeans = (s : Shape) (r : Status) (items : List Item) (f i : ℕ) → next s r items ≡ lost_extent f i → IsLost r items f i

-- While an extent is full, losing fewer failure groups than it has copies leaves it a current copy on an Online disk of another.
abbrev pub FullBears : Type 0
FullBears =
    (es : List Entry) (items : List Item) (extent : List Copy) (groups : List ℕ) → has_full_redundancy es items extent ≡ true → length groups < length extent
    → (x : Copy) × IsAmong extent x × (is_whole_copy es items x ≡ true) × ((e : Entry) → entry_at_home es (home x) ≡ Some e → is_among groups e.failgroup ≡ false)
