use Rattle.std.proofs.Common.{sym, ◌∙◌}
use Rattle.asm_group.specs.TreeEdits.{is_alias_of}
use Rattle.alias_tree.proofs.Leading.{leads_is}
use Rattle.alias_tree.proofs.tree.AliasTree.has_alias.Goals as goal

pub returns-in-Some : goal.returns-in-Some
returns-in-Some c = rw c.in-Some.is (rw (← c.self.view_is) (c.has_alias.ensures ∙ sym (leads_is c.self.inside.nodes (is_alias_of c.in-Some.file) c.self.invariant.0)))
