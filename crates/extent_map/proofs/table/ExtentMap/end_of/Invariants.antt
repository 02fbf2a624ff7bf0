use Rattle.std.proofs.Common.{◌≡◌, ℕ, ◌-◌, ◌<◌, ◌≤◌, true, false}
use Rattle.extent_map.specs.Extents.{has_extent}
use Rattle.extent_map.proofs.table.ExtentMap.end_of.Given as goal

abbrev pub invariant-loop-low : goal.invariant-loop-low
invariant-loop-low l = record {
  order : l.low ≤ l.high;
  most : l.high ≤ 1099511627520;
  there : (i : ℕ) → i < l.low → has_extent l.self l.file i ≡ true;
  none : (i : ℕ) → l.high ≤ i → has_extent l.self l.file i ≡ false;
}

abbrev pub decreases-loop-low : goal.decreases-loop-low
decreases-loop-low l = l.high - l.low
