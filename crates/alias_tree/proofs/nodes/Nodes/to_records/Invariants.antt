use Rattle.std.proofs.Common.{◌≡◌, ◌++◌, map}
use Rattle.std.specs.Prelude.{IsTrue}
use Rattle.std.specs.List.{AllByRecursion}
use Rattle.asm_formats.specs.Items.{is_item}
use Rattle.alias_tree.specs.Nodes.{item_of_node, record_of_node}
use Rattle.alias_tree.proofs.nodes.Nodes.to_records.Given as goal

abbrev pub invariant-loop-number : goal.invariant-loop-number
invariant-loop-number l = record {
  put : l.change.put ++ map record_of_node l.number-iterator ≡ l.fn.change.put ++ map record_of_node l.self;
  gone : l.change.gone ≡ l.fn.change.gone;
  items : AllByRecursion (λ x. IsTrue (is_item (item_of_node x))) l.number-iterator;
}
