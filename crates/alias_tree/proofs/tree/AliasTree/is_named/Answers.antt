use Rattle.std.proofs.Common.{sym, ◌∙◌}
use Rattle.asm_group.specs.TreeEdits.{names_file}
use Rattle.alias_tree.proofs.Leading.{leads_is}
use Rattle.alias_tree.proofs.tree.AliasTree.is_named.Goals as goal

pub returns : goal.returns
returns c = c.is_some.ensures ∙ (c.name_of.ensures.there ∙ sym (leads_is c.args.self.now (names_file c.args.file) c.name_of.ensures.table))
