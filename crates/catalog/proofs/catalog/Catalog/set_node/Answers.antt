use Rattle.std.proofs.Common.{[], ◌∷◌, ap, ◌∙◌}
use Rattle.asm_base.specs.Records.{DirectoryRecord}
use Rattle.catalog.proofs.TreePlans.{node_is_item, node_planned}
use Rattle.catalog.proofs.catalog.Catalog.set_node.Goals as goal

pub node_record-requires : goal.node_record-requires
node_record-requires c = node_is_item c.args.self.now.tables.nodes c.args.number c.args.node.now c.requires.table

pub returns : goal.returns
returns c =
    node_planned c.args.self.now c.in_ok-change.change.put c.in_ok-change.change.gone c.keeps_rules.ensures c.args.number c.args.node.now c.requires.table c.requires.kept c.requires.room
    (c.in_ok-change.ensures.put ∙ ap (λ (x : DirectoryRecord). x ∷ []) c.in_ok-entry.ensures) c.in_ok-change.ensures.gone
