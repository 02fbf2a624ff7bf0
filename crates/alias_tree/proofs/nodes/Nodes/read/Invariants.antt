use Rattle.std.proofs.Common.{◌≡◌, []}
use Rattle.asm_base.specs.Records.{Ascend, add_item, read_from}
use Rattle.asm_base.specs.Tables.{entry_of_record}
use Rattle.alias_tree.specs.Nodes.{node_of_item, is_before, is_key_of_node}
use Rattle.alias_tree.proofs.nodes.Nodes.read.Given as goal

abbrev pub invariant-loop-key : goal.invariant-loop-key
invariant-loop-key l = record {
  read : read_from is_key_of_node (add_item is_before (entry_of_record node_of_item)) l.nodes l.key-iterator ≡ read_from is_key_of_node (add_item is_before (entry_of_record node_of_item)) [] l.records;
  ascending : Ascend is_before l.nodes;
}
