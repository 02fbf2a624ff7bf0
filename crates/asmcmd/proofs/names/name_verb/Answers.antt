use Rattle.std.proofs.Common.{◌≡◌, refl, sym, subst, ◌∙◌, inl, inr}
use Rattle.std.specs.Prelude.{codes}
use Rattle.std.specs.Option.{option_map}
use Rattle.asm_grammar.specs.Reads.{Gives}
use Rattle.asm_grammar.specs.Syntax.{Maybe}
use Rattle.asm_world.specs.Grammar.{◌▸◌, ◌∣◌}
use Rattle.asm_world.specs.Verbs as g
use Rattle.asm_world.specs.Verbs.{verb_word}
use Rattle.asm_world.specs.VerbMeaning.{of_names}
use Rattle.asmcmd.specs.Rows.{list_rest, later_names}
use Rattle.asmcmd.specs.Verbs.{meant_verb}
use Rattle.asmcmd.proofs.Choices.{taken, passed}
use Rattle.asmcmd.proofs.names.name_verb.Goals as goal

pub returns-then-lists : goal.returns-then-lists
returns-then-lists c =
    let t = taken (codes "ls") list_rest (verb_word (codes "cd") ▸ g.path ∣ verb_word (codes "pwd") ∣ verb_word (codes "mkdir") ▸ g.path ∣ verb_word (codes "rm") ▸ g.path ∣ later_names) of_names c.args.place.rest.now c.try_exact-lists.result.1.rest.now c.args.place.left c.try_exact-lists.result.1.left (rw c.if-lists.true at c.try_exact-lists.ensures) in
    subst (λ o. Gives (λ v. option_map meant_verb v) c.present.result o) (sym (t)) (c.present.ensures _ c.list.ensures)

pub returns : goal.returns
returns c =
    let p1 = passed (codes "ls") (g.ls) (verb_word (codes "cd") ▸ g.path ∣ verb_word (codes "pwd") ∣ verb_word (codes "mkdir") ▸ g.path ∣ verb_word (codes "rm") ▸ g.path ∣ later_names) of_names c.args.place.rest.now c.try_exact-lists.result.1.rest.now c.args.place.left c.try_exact-lists.result.1.left refl (rw c.if-lists.false at c.try_exact-lists.ensures) in
    let p2 = passed (codes "cd") (verb_word (codes "cd") ▸ g.path) (verb_word (codes "pwd") ∣ verb_word (codes "mkdir") ▸ g.path ∣ verb_word (codes "rm") ▸ g.path ∣ later_names) (λ u. of_names (inr u)) c.try_exact-lists.result.1.rest.now c.try_exact-goes.result.1.rest.now c.try_exact-lists.result.1.left c.try_exact-goes.result.1.left refl (rw c.if-goes.false at c.try_exact-goes.ensures) in
    let p3 = passed (codes "pwd") (verb_word (codes "pwd")) (verb_word (codes "mkdir") ▸ g.path ∣ verb_word (codes "rm") ▸ g.path ∣ later_names) (λ u. of_names (inr (inr u))) c.try_exact-goes.result.1.rest.now c.try_exact-tells.result.1.rest.now c.try_exact-goes.result.1.left c.try_exact-tells.result.1.left refl (rw c.if-tells.false at c.try_exact-tells.ensures) in
    let p4 = passed (codes "mkdir") (verb_word (codes "mkdir") ▸ g.path) (verb_word (codes "rm") ▸ g.path ∣ later_names) (λ u. of_names (inr (inr (inr u)))) c.try_exact-tells.result.1.rest.now c.try_exact-makes.result.1.rest.now c.try_exact-tells.result.1.left c.try_exact-makes.result.1.left refl (rw c.if-makes.false at c.try_exact-makes.ensures) in
    let p5 = passed (codes "rm") (verb_word (codes "rm") ▸ g.path) (later_names) (λ u. of_names (inr (inr (inr (inr u))))) c.try_exact-makes.result.1.rest.now c.try_exact-removes.result.1.rest.now c.try_exact-makes.result.1.left c.try_exact-removes.result.1.left refl (rw c.if-removes.false at c.try_exact-removes.ensures) in
    subst (λ o. Gives (λ v. option_map meant_verb v) c.later_name_verb.result o) (sym (p1 ∙ p2 ∙ p3 ∙ p4 ∙ p5)) c.later_name_verb.ensures
