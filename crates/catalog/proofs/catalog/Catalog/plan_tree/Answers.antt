use Rattle.plan_records.specs.alias_edits.Edits.{edit_meant, nodes_after}
use Rattle.plan_records.specs.alias_tree.Trees.{tree_of}
use Rattle.catalog.proofs.TreeEditPlans.{may_change, plan_refused}
use Rattle.catalog.proofs.catalog.Catalog.plan_tree.Goals as goal

pub plan_change-requires-clause-may : goal.plan_change-requires-clause-may
plan_change-requires-clause-may c =
    may_change c.args.self.now.shape c.args.self.now.tables c.keeps_rules.ensures.rules (edit_meant c.args.edit.now) c.in-Ok.change (tree_of (nodes_after c.args.self.now.tables.nodes c.in-Ok.change)) c.in-Ok.ensures.change c.in-Ok.ensures.done c.requires.files

pub returns-in-Err-plan_change-clause-refused : goal.returns-in-Err-plan_change-clause-refused
returns-in-Err-plan_change-clause-refused c =
    plan_refused c.args.self.now (edit_meant c.args.edit.now) c.in-Ok.change (tree_of (nodes_after c.args.self.now.tables.nodes c.in-Ok.change)) c.in-Err-plan_change.refusal c.in-Ok.ensures.change c.in-Ok.ensures.done c.in-Err-plan_change.ensures.refused
