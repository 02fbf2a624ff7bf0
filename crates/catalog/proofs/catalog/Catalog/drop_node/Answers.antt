use Rattle.std.proofs.Common.{ap, sym, ◌∙◌}
use Rattle.asm_formats.specs.Items.{Node}
use Rattle.catalog.proofs.TreePlans.{dir_gone}
use Rattle.catalog.proofs.catalog.Catalog.drop_node.Goals as goal

pub returns-in_ok-change-in-Directory : goal.returns-in_ok-change-in-Directory
returns-in_ok-change-in-Directory c =
    dir_gone c.args.self.now c.in_ok-change-in-Directory.change.put c.in_ok-change-in-Directory.change.gone c.keeps_rules.ensures c.args.number c.in-Some.node.now c.node_key.result c.requires.table c.in-Some.ensures
    (sym (ap (λ (x : Node). x.kind) c.node-2.view_is) ∙ c.in-Directory.is) c.node_key.ensures c.in_ok-change-in-Directory.ensures.put c.in_ok-change-in-Directory.ensures.gone
