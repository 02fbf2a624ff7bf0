-- Free units by maps and by the records.
use Rattle.std.proofs.Common.{◌≡◌, ℕ, ◌+◌, Bool, true, false, cond, List, [], ◌∷◌, refl, ap, ◌∙◌, Option, Some, None}
use Rattle.std.specs.Prelude.{IsSomeAnd, slice_get}
use Rattle.asm_group.specs.Shape.{Shape}
use Rattle.asm_formats.specs.Items.{Item}
use Rattle.asm_formats.specs.Status.{Entry}
use Rattle.asm_placement.specs.Space.{total}
use Rattle.asm_world.specs.Reports.{GroupRow}
use Rattle.allocator.specs.UnitMaps.{UnitMap}
use Rattle.extent_copies.specs.partnership.UnitsOf.{AreUnits, AreUnitsOf}
use Rattle.group_reports.specs.Disks.{counted_disks, free_at, free_in, free_units, is_counted, offline_disks, row_by}

free_is : (s : Shape) (items : List Item) (e : Entry) (o : Option UnitMap) → IsSomeAnd o (AreUnits s items e) → free_in o ≡ free_units s items e
free_is s items e None none = absurd none
free_is s items e (Some m) are = rw (are.first, are.units, are.used) refl

all_free : (s : Shape) (items : List Item) (ms : List UnitMap) (es : List Entry) → AreUnitsOf s items es ms → total (free_at ms) (counted_disks es) ≡ total (free_units s items) (counted_disks es)
all_free s items ms [] are = refl
all_free s items ms (e ∷ es) are = by (is_counted e) (all_free s items ms es are.1)
  where
    by : (b : Bool) → total (free_at ms) (counted_disks es) ≡ total (free_units s items) (counted_disks es) → total (free_at ms) (cond b (e ∷ counted_disks es) (counted_disks es)) ≡ total (free_units s items) (cond b (e ∷ counted_disks es) (counted_disks es))
    by true later = rw (free_is s items e (slice_get ms e.number) are.0, later) refl
    by false later = later

pub row_placed : (s : Shape) (items : List Item) (ms : List UnitMap) (es : List Entry) (power : Option ℕ) (t : GroupRow) → AreUnitsOf s items es ms → t ≡ row_by (free_at ms) power es → t ≡ row_by (free_units s items) power es
row_placed s items ms es power t are is = is ∙ ap (λ (n : ℕ). record (row_by (free_at ms) power es) { free = n }) (all_free s items ms es are)
