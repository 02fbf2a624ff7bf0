use Rattle.std.proofs.Common.{◌≡◌, drop}
use Rattle.alias_tree.specs.Nodes.{number_from}
use Rattle.alias_tree.proofs.tree.AliasTree.find_parts.Given as goal

abbrev pub invariant-loop-part : goal.invariant-loop-part
invariant-loop-part l = number_from l.self l.at (drop l.part-index l.parts) ≡ number_from l.self 0 l.parts
