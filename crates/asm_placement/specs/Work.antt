-- The work that a rebalance has left, which each committed move lowers.
use Rattle.std.specs.Prelude.{◌≡◌, ◌⊎◌, ℕ, suc, ◌+◌, ◌-◌, ◌<◌, Bool, true, ◌&&◌, not, List, [], ◌∷◌, length, if◌then◌else◌, ◌==◌, Option, None, Some, IsTrue}
use Rattle.std.specs.List.{list_all}
use Rattle.std.specs.Option.{is_none}
use Rattle.asm_formats.specs.asm_group.Shape.{Shape}
use Rattle.asm_formats.specs.Status.{Status, Entry, is_status}
use Rattle.asm_formats.specs.Items.{Item, is_item, item_key, is_same_key}
use Rattle.asm_placement.specs.Modes.{is_online, leaves}
use Rattle.asm_placement.specs.TableDisks.{targets, copies_due, groups_with_copy, is_status_move_due}
use Rattle.asm_placement.specs.Space.{used_units, share, total}
use Rattle.asm_placement.specs.Copies.{Copy, home, all_copies, entry_at_home, is_on, is_marked, is_doubled}
use Rattle.asm_placement.specs.Rebalancing.{Move, move, next}
use Rattle.asm_placement.specs.Moves.{record_after, items_after}

-- how many copies pass a test
abbrev pub count : (Copy → Bool) → List Copy → ℕ
count test [] = 0
count test (x ∷ xs) = if test x then suc (count test xs) else count test xs

abbrev pub is_marked_online : List Entry → List Item → Copy → Bool
is_marked_online es items x = is_marked items x && is_on is_online es x

abbrev pub is_absent : Copy → Bool
is_absent x = is_none (home x)

-- marked copies on Online disks, absent copies, doubled copies, and copies on Dropping or Forced disks
unfoldable pub copies_to_do : List Entry → List Item → ℕ
copies_to_do es items =
    let all = all_copies items in
    count (is_marked_online es items) all + count is_absent all + count (is_doubled es) all + count (is_on leaves es) all

-- directory copies due, two for next holders that stand, and one for a status move that is due
unfoldable pub tables_to_do : Shape → Status → ℕ
tables_to_do s r =
    (copies_due s.kind r.entries - length (groups_with_copy r))
    + (if r.next_holders == 0 then 0 else 2) + (if is_status_move_due s.kind r then 1 else 0)

-- copies on disks that aren't Online
unfoldable pub elsewhere : List Entry → List Item → ℕ
elsewhere es items = count (is_on (λ mode. not (is_online mode)) es) (all_copies items)

-- how far the used units of the Online regular disks are from their shares
abbrev pub distance : ℕ → ℕ → ℕ
distance a b = (a - b) + (b - a)

unfoldable pub unevenness : Shape → List Entry → List Item → ℕ
unevenness s es items = total (λ (e : Entry). distance (used_units s items e.number) (share s items es e)) (targets es)

-- the work that is left, in three numbers of which the first counts most
pub record Work : Type 0 where
  pub to_do : ℕ
  pub elsewhere : ℕ
  pub unevenness : ℕ

abbrev pub work : Shape → Status → List Item → Work
work s r items = record { to_do = copies_to_do r.entries items + tables_to_do s r; elsewhere = elsewhere r.entries items; unevenness = unevenness s r.entries items }

abbrev pub IsLess : Work → Work → Type 0
IsLess a b = (a.to_do < b.to_do) ⊎ ((a.to_do ≡ b.to_do) × ((a.elsewhere < b.elsewhere) ⊎ ((a.elsewhere ≡ b.elsewhere) × (a.unevenness < b.unevenness))))

-- ---- records of a group

-- no two items have one key
abbrev pub keys_differ : List Item → Bool
keys_differ [] = true
keys_differ (i ∷ items) = list_all (λ j. not (is_same_key (item_key i) (item_key j))) items && keys_differ items

-- the disk, where it has an entry, is regular
abbrev pub is_regular : Option Entry → Bool
is_regular None = true
is_regular (Some e) = not e.quorum

-- A status record and the items of a directory content, no copy of which lies on a quorum disk.
pub record AreGroupRecords (r : Status) (items : List Item) : Type 0 where
  pub status : IsTrue (is_status r)
  pub allowed : IsTrue (list_all is_item items)
  pub keys : IsTrue (keys_differ items)
  pub regular : IsTrue (list_all (λ x. is_regular (entry_at_home r.entries (home x))) (all_copies items))

-- each move lowers the work
abbrev pub WorkFalls : Type 0
WorkFalls =
    (s : Shape) (r : Status) (items : List Item) (m : Move) → AreGroupRecords r items → next s r items ≡ move m
    → IsLess (work s (record_after m r) (items_after m items)) (work s r items)
