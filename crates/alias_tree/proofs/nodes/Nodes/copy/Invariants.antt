use Rattle.std.proofs.Common.{◌≡◌, ◌++◌}
use Rattle.asm_base.specs.Records.{Ascend}
use Rattle.alias_tree.specs.Nodes.{is_before}
use Rattle.alias_tree.proofs.nodes.Nodes.copy.Given as goal

abbrev pub invariant-loop-number : goal.invariant-loop-number
invariant-loop-number l = record {
  copied : l.copy ++ l.number-iterator ≡ l.self;
  ascend : Ascend is_before l.self;
}
