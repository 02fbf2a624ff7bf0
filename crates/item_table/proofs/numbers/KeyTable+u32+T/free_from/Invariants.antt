use Rattle.std.proofs.Common.{◌≤◌, ◌<◌, ◌-◌, ◌^◌, ℕ}
use Rattle.std.specs.Prelude.{IsTrue}
use Rattle.item_table.specs.Numbers.{has_number}
use Rattle.item_table.proofs.numbers.KeyTable+u32+T.free_from.Given as goal

abbrev pub invariant-loop-free : goal.invariant-loop-free
invariant-loop-free g l = record {
  at_least : l.least ≤ l.free;
  taken : (k : ℕ) → l.least ≤ k → k < l.free → IsTrue (has_number l.self k);
}

abbrev pub decreases-loop-free : goal.decreases-loop-free
decreases-loop-free g l = 2 ^ 32 - l.free
