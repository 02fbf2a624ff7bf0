use Rattle.std.specs.Prelude.{IsTrue}
use Rattle.std.specs.List.{AllByRecursion}
use Rattle.asm_formats.specs.Items.{is_item}
use Rattle.alias_tree.specs.Nodes.{item_of_node}
use Rattle.alias_tree.specs.Places.{SoFar}
use Rattle.alias_tree.proofs.faults.twin_in.Given as goal

abbrev pub invariant-loop-number : goal.invariant-loop-number
invariant-loop-number l = record {
  so_far : SoFar l.nodes l.number-iterator l.places;
  items : AllByRecursion (λ x. IsTrue (is_item (item_of_node x))) l.number-iterator;
}
