use Rattle.std.proofs.Common.{◌≡◌, List, [], Option, Some, map}
use Rattle.std.specs.Prelude.{IfSome}
use Rattle.std.proofs.lemmas.Result.{IfOk-weaker}
use Rattle.asm_base.specs.Records.{add_item, of_kinds, read_from}
use Rattle.asm_base.specs.Tables.{IsItemTable, entry_of_record}
use Rattle.alias_tree.specs.Nodes.{Numbered, node_of_item, is_before, is_key_of_node, item_of_node, record_of_node}
use Rattle.alias_tree.proofs.Rules.{nodes_again, nodes_found}
use Rattle.alias_tree.proofs.nodes.Nodes.from_records.Goals as goal

pub returns-clause-found : goal.returns-clause-found
returns-clause-found c =
    IfOk-weaker c.read.result (λ (read : Option (List Numbered)). read ≡ read_from is_key_of_node (add_item is_before (entry_of_record node_of_item)) [] c.args.records.now)
    (λ (read : Option (List Numbered)). IfSome read (λ t. IsItemTable is_before item_of_node t × (of_kinds is_key_of_node c.args.records.now ≡ map record_of_node t)))
    (λ read e. nodes_found c.args.records.now read e) c.read.ensures

pub returns-clause-only : goal.returns-clause-only
returns-clause-only c =
    IfOk-weaker c.read.result (λ (read : Option (List Numbered)). read ≡ read_from is_key_of_node (add_item is_before (entry_of_record node_of_item)) [] c.args.records.now)
    (λ (read : Option (List Numbered)). (t : List Numbered) → IsItemTable is_before item_of_node t → of_kinds is_key_of_node c.args.records.now ≡ map record_of_node t → read ≡ Some t)
    (λ read e t fits same. nodes_again c.args.records.now read e t fits same) c.read.ensures
