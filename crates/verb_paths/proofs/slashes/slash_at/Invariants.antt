use Rattle.std.proofs.Common.{◌≡◌, ◌+◌, drop}
use Rattle.asm_base.specs.Paths.{slash_at}
use Rattle.verb_paths.proofs.slashes.slash_at.Given as goal

abbrev pub invariant-loop-b : goal.invariant-loop-b
invariant-loop-b l = record {
  before : l.n + slash_at (drop l.b-index l.bytes) ≡ slash_at l.bytes;
  at : l.n ≡ l.b-index;
}
