use Rattle.std.proofs.Common.{◌≡◌, refl, sym, subst, ◌∙◌, inl, inr}
use Rattle.std.specs.Prelude.{codes}
use Rattle.std.specs.Option.{option_map}
use Rattle.asm_grammar.specs.Reads.{Gives}
use Rattle.asm_grammar.specs.Syntax.{Maybe}
use Rattle.asm_world.specs.Grammar.{◌▸◌, ◌∣◌}
use Rattle.asm_world.specs.Verbs as g
use Rattle.asm_world.specs.Verbs.{verb_word}
use Rattle.asmcmd.specs.Rows.{copy_rest, find_rest, alias_rest, later_names_of}
use Rattle.asmcmd.specs.Verbs.{meant_verb}
use Rattle.asmcmd.proofs.Choices.{taken, passed}
use Rattle.asmcmd.proofs.names.later_name_verb.Goals as goal

pub returns-then-copies : goal.returns-then-copies
returns-then-copies c =
    let t = taken (codes "cp") copy_rest (g.du ∣ g.find ∣ verb_word (codes "mkalias") ▸ alias_rest ∣ verb_word (codes "rmalias") ▸ g.path) later_names_of c.args.place.rest.now c.try_exact-copies.result.1.rest.now c.args.place.left c.try_exact-copies.result.1.left (rw c.if-copies.true at c.try_exact-copies.ensures) in
    subst (λ o. Gives (λ v. option_map meant_verb v) c.present.result o) (sym (t)) (c.present.ensures _ c.copy.ensures)

pub returns-then-finds : goal.returns-then-finds
returns-then-finds c =
    let p1 = passed (codes "cp") (g.cp) (g.du ∣ g.find ∣ verb_word (codes "mkalias") ▸ alias_rest ∣ verb_word (codes "rmalias") ▸ g.path) later_names_of c.args.place.rest.now c.try_exact-copies.result.1.rest.now c.args.place.left c.try_exact-copies.result.1.left refl (rw c.if-copies.false at c.try_exact-copies.ensures) in
    let p2 = passed (codes "du") (g.du) (g.find ∣ verb_word (codes "mkalias") ▸ alias_rest ∣ verb_word (codes "rmalias") ▸ g.path) (λ u. later_names_of (inr u)) c.try_exact-copies.result.1.rest.now c.try_exact-measures.result.1.rest.now c.try_exact-copies.result.1.left c.try_exact-measures.result.1.left refl (rw c.if-measures.false at c.try_exact-measures.ensures) in
    let t = taken (codes "find") find_rest (verb_word (codes "mkalias") ▸ alias_rest ∣ verb_word (codes "rmalias") ▸ g.path) (λ u. later_names_of (inr (inr u))) c.try_exact-measures.result.1.rest.now c.try_exact-finds.result.1.rest.now c.try_exact-measures.result.1.left c.try_exact-finds.result.1.left (rw c.if-finds.true at c.try_exact-finds.ensures) in
    subst (λ o. Gives (λ v. option_map meant_verb v) c.present-then-finds.result o) (sym (p1 ∙ p2 ∙ t)) (c.present-then-finds.ensures _ c.find.ensures)

pub returns-then-adds : goal.returns-then-adds
returns-then-adds c =
    let p1 = passed (codes "cp") (g.cp) (g.du ∣ g.find ∣ verb_word (codes "mkalias") ▸ alias_rest ∣ verb_word (codes "rmalias") ▸ g.path) later_names_of c.args.place.rest.now c.try_exact-copies.result.1.rest.now c.args.place.left c.try_exact-copies.result.1.left refl (rw c.if-copies.false at c.try_exact-copies.ensures) in
    let p2 = passed (codes "du") (g.du) (g.find ∣ verb_word (codes "mkalias") ▸ alias_rest ∣ verb_word (codes "rmalias") ▸ g.path) (λ u. later_names_of (inr u)) c.try_exact-copies.result.1.rest.now c.try_exact-measures.result.1.rest.now c.try_exact-copies.result.1.left c.try_exact-measures.result.1.left refl (rw c.if-measures.false at c.try_exact-measures.ensures) in
    let p3 = passed (codes "find") (g.find) (verb_word (codes "mkalias") ▸ alias_rest ∣ verb_word (codes "rmalias") ▸ g.path) (λ u. later_names_of (inr (inr u))) c.try_exact-measures.result.1.rest.now c.try_exact-finds.result.1.rest.now c.try_exact-measures.result.1.left c.try_exact-finds.result.1.left refl (rw c.if-finds.false at c.try_exact-finds.ensures) in
    let t = taken (codes "mkalias") alias_rest (verb_word (codes "rmalias") ▸ g.path) (λ u. later_names_of (inr (inr (inr u)))) c.try_exact-finds.result.1.rest.now c.try_exact-adds.result.1.rest.now c.try_exact-finds.result.1.left c.try_exact-adds.result.1.left (rw c.if-adds.true at c.try_exact-adds.ensures) in
    subst (λ o. Gives (λ v. option_map meant_verb v) c.present-then-adds.result o) (sym (p1 ∙ p2 ∙ p3 ∙ t)) (c.present-then-adds.ensures _ c.make_alias.ensures)
