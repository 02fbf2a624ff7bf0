-- Used and user units of the disks that may take copies, and shares of them.
use Rattle.std.specs.Prelude.{ℕ, ◌+◌, ◌-◌, ◌*◌, ◌/◌, Bool, false, List, filter, if◌then◌else◌, nat_le, slice_get, ◌==◌, Option, Some, None}
use Rattle.std.specs.List.{range_with_len}
use Rattle.asm_group.specs.Shape.{Shape}
use Rattle.asm_formats.specs.Status.{Entry}
use Rattle.asm_formats.specs.Items.{Item}
use Rattle.allocator.specs.UnitMaps.{UnitMap, total_of, used_of}
use Rattle.asm_placement.specs.Modes.{is_target}
use Rattle.asm_placement.specs.DiskSets.{set_of}
use Rattle.asm_placement.specs.TableDisks.{targets}
use Rattle.asm_placement.specs.Space.{total, used_of_all, units_of_all}

pub record Sums : Type 0 where
  pub used : ℕ
  pub units : ℕ

-- by the records of a group
abbrev pub sums_of : Shape → List Item → List Entry → Sums
sums_of s items es = record { used = used_of_all s items es; units = units_of_all s es }

-- by maps, each at the place of its disk's number
abbrev pub used_in : Option UnitMap → ℕ
used_in None = 0
used_in (Some m) = used_of m

abbrev pub total_in : Option UnitMap → ℕ
total_in None = 0
total_in (Some m) = total_of m

abbrev pub used_at : List UnitMap → Entry → ℕ
used_at ms e = used_in (slice_get ms e.number)

abbrev pub total_at : List UnitMap → Entry → ℕ
total_at ms e = total_in (slice_get ms e.number)

abbrev pub sums_at : List UnitMap → List Entry → Sums
sums_at ms es = record { used = total (used_at ms) (targets es); units = total (total_at ms) (targets es) }

-- with the units of a disk, where it may take copies
abbrev pub with_target : Sums → List UnitMap → Entry → Sums
with_target t ms e = if is_target e then record { used = t.used + used_at ms e; units = t.units + total_at ms e } else t

-- the part of the used units that falls to so many user units, rounded down
unfoldable pub share_of : Sums → ℕ → ℕ
share_of t units = if t.units == 0 then 0 else t.used * units / t.units

abbrev pub share_at : Sums → Option UnitMap → ℕ
share_at t None = 0
share_at t (Some m) = share_of t (total_of m)

-- the disk of the map has n used units more than its share at least, or n fewer
abbrev pub is_above_at : Sums → ℕ → Option UnitMap → Bool
is_above_at t n None = false
is_above_at t n (Some m) = nat_le (share_of t (total_of m) + n) (used_of m)

abbrev pub is_below_at : Sums → ℕ → Option UnitMap → Bool
is_below_at t n None = false
is_below_at t n (Some m) = nat_le (used_of m + n) (share_of t (total_of m))

abbrev pub is_below_of : Sums → ℕ → List UnitMap → ℕ → Bool
is_below_of t n ms k = is_below_at t n (slice_get ms k)

-- the disks of a number from k on that have n fewer, as a set
unfoldable pub below_from : Sums → ℕ → List UnitMap → ℕ → ℕ
below_from t n ms k = set_of (filter (is_below_of t n ms) (range_with_len k (64 - k)))

abbrev pub below_set : Sums → ℕ → List UnitMap → ℕ
below_set t n ms = below_from t n ms 0
