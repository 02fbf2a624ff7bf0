use Rattle.std.proofs.Common.{◌≡◌, Some, sym, subst, ◌∙◌}
use Rattle.std.proofs.lemmas.Option.{none-some}
use Rattle.asm_group.specs.Names.{folded_path}
use Rattle.alias_tree.specs.Nodes.{IsNodeTable}
use Rattle.alias_tree.specs.Trees.{number_by}
use Rattle.alias_tree.proofs.Lookups.{there_number}
use Rattle.alias_tree.proofs.Leading.{entries_are}
use Rattle.alias_tree.proofs.Ways.{by_folded}
use Rattle.alias_tree.proofs.tree.AliasTree.has_entries.Goals as goal

pub returns-in-Some : goal.returns-in-Some
returns-in-Some c =
    let now : number_by c.args.self.now 0 (folded_path c.args.parts.now) ≡ Some c.in-Some.number = sym (by_folded c.args.self.now c.args.parts.now 0) ∙ (sym c.find_parts.ensures ∙ c.in-Some.is) in
    let at : number_by c.self.inside.nodes 0 (folded_path c.args.parts.now) ≡ Some c.in-Some.number = rw (← c.self.view_is) at now in
    rw (← c.self.view_is) (entries_are c.self.inside.nodes c.self.inside.places c.args.parts.now c.in-Some.number c.has_under.result c.self.invariant.0 c.self.invariant.1 c.has_under.ensures.ordered at c.has_under.ensures.has)

pub returns-in-None : goal.returns-in-None
returns-in-None c =
    let n = there_number c.args.self.now c.args.parts.now (subst IsNodeTable c.self.view_is c.self.invariant.0) c.requires in
    absurd (none-some n.0 (sym c.in-None.is ∙ (c.find_parts.ensures ∙ (by_folded c.args.self.now c.args.parts.now 0 ∙ n.1))))
