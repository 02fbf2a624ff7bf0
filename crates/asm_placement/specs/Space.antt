-- Used and free units of the disks, and the order in which disks are tried.
use Rattle.std.specs.Prelude.{ℕ, ◌+◌, ◌-◌, ◌*◌, ◌/◌, Bool, ◌&&◌, ◌||◌, not, List, [], ◌∷◌, find, if◌then◌else◌, nat_lt, nat_le, ◌==◌, Option, Some, None}
use Rattle.std.specs.List.{range_with_len, list_any}
use Rattle.std.specs.Option.{is_some}
use Rattle.asm_formats.specs.asm_group.Shape.{Shape}
use Rattle.asm_formats.specs.Regions.{reserved_units}
use Rattle.asm_formats.specs.Status.{Entry}
use Rattle.asm_formats.specs.Items.{Item}
use Rattle.asm_placement.specs.Placed.{Placed, placed}
use Rattle.asm_placement.specs.TableDisks.{targets}

-- units of the disk that may hold user bytes
abbrev pub user_units : Shape → Entry → ℕ
user_units s e = e.units - reserved_units s

-- units under homes on a disk
abbrev pub units_on : ℕ → List Placed → ℕ
units_on d [] = 0
units_on d (p ∷ ps) = if p.home.disk == d then p.len + units_on d ps else units_on d ps

unfoldable pub used_units : Shape → List Item → ℕ → ℕ
used_units s items d = units_on d (placed s.step items)

-- no home meets n units from unit u on
abbrev pub is_free_run : List Placed → ℕ → ℕ → ℕ → Bool
is_free_run ps d n u = not (list_any (λ (p : Placed). (p.home.disk == d) && nat_lt p.home.unit (u + n) && nat_lt u (p.home.unit + p.len)) ps)

-- the lowest run of n free user units
unfoldable pub lowest_run : Shape → List Item → ℕ → Entry → Option ℕ
lowest_run s items n e = find (is_free_run (placed s.step items) e.number n) (range_with_len (reserved_units s) (e.units + 1 - (reserved_units s + n)))

abbrev pub has_room : Shape → List Item → ℕ → Entry → Bool
has_room s items n e = is_some (lowest_run s items n e)

-- a is tried before b: it is less full, by cross products, or as full and of a lower number
abbrev pub is_tried_before : Shape → List Item → Entry → Entry → Bool
is_tried_before s items a b =
    let full_a = used_units s items a.number * user_units s b in
    let full_b = used_units s items b.number * user_units s a in
    nat_lt full_a full_b || ((full_a == full_b) && nat_lt a.number b.number)

-- the disk of these that is tried first, in the fuller-last order
abbrev pub earlier : Shape → List Item → Entry → Option Entry → Option Entry
earlier s items e None = Some e
earlier s items e (Some best) = if is_tried_before s items best e then Some best else Some e

unfoldable pub tried_first : Shape → List Item → List Entry → Option Entry
tried_first s items [] = None
tried_first s items (e ∷ es) = earlier s items e (tried_first s items es)

-- ---- shares

-- a sum over disks
abbrev pub total : (Entry → ℕ) → List Entry → ℕ
total f [] = 0
total f (e ∷ es) = f e + total f es

abbrev pub used_of_all : Shape → List Item → List Entry → ℕ
used_of_all s items es = total (λ (e : Entry). used_units s items e.number) (targets es)

abbrev pub units_of_all : Shape → List Entry → ℕ
units_of_all s es = total (user_units s) (targets es)

-- the part of all used units of the Online regular disks that falls to the disk, rounded down
unfoldable pub share : Shape → List Item → List Entry → Entry → ℕ
share s items es e = if units_of_all s es == 0 then 0 else used_of_all s items es * user_units s e / units_of_all s es

-- the disk has n used units more than its share at least, or n fewer
abbrev pub is_above : Shape → List Item → List Entry → ℕ → Entry → Bool
is_above s items es n e = nat_le (share s items es e + n) (used_units s items e.number)

abbrev pub is_below : Shape → List Item → List Entry → ℕ → Entry → Bool
is_below s items es n e = nat_le (used_units s items e.number + n) (share s items es e)
