use Rattle.std.proofs.Common.{arith, ◌≡◌, ◌∙◌, ap, length, sym}
use Rattle.asm_group.specs.Names.{Bytes, Path, folded}
use Rattle.asm_group.specs.TreeEdits.{up}
use Rattle.alias_tree.specs.Nodes.{child}
use Rattle.alias_edits.proofs.Fronts.{below_file, name_free, name_taken}
use Rattle.alias_edits.proofs.filing.file_refusal.Goals as goal

pub returns-then-not-may_hang : goal.returns-then-not-may_hang
returns-then-not-may_hang c =
    sym (below_file c.args.tree.now c.args.path.now.parts c.args.front.there c.args.front.number c.keeps_rule.ensures c.requires.front (sym c.may_hang.ensures ∙ c.if-not-may_hang.true))

pub returns-then-front-above : goal.returns-then-front-above
returns-then-front-above c =
    sym (name_free c.args.tree.now c.args.path.now.parts c.args.front.there c.args.front.number c.keeps_rule.ensures c.requires.some c.requires.front (sym c.may_hang.ensures ∙ c.if-not-may_hang.false) (λ all.
    let same : length c.above.result.now ≡ length (up c.args.path.now.parts) = ap (λ (q : Path). length q) c.above.ensures in
    absurd (omega (arith, c.if-front-above.true, all, same))))

pub returns-in-Some : goal.returns-in-Some
returns-in-Some c =
    let same : length c.above.result.now ≡ length (up c.args.path.now.parts) = ap (λ (q : Path). length q) c.above.ensures in
    sym (name_taken c.args.tree.now c.args.path.now.parts c.args.front.there c.args.front.number c.in-Some.field-0 c.keeps_rule.ensures c.requires.some c.requires.front (sym c.may_hang.ensures ∙ c.if-not-may_hang.false)
    (omega (arith, c.if-front-above.false, c.requires.front.few, same))
    (ap (λ (x : Bytes). child c.args.tree.now c.args.front.number (folded x)) (sym c.last.ensures) ∙ (sym c.child.ensures ∙ c.in-Some.is)))

pub returns-in-None : goal.returns-in-None
returns-in-None c =
    sym (name_free c.args.tree.now c.args.path.now.parts c.args.front.there c.args.front.number c.keeps_rule.ensures c.requires.some c.requires.front (sym c.may_hang.ensures ∙ c.if-not-may_hang.false)
    (λ all. ap (λ (x : Bytes). child c.args.tree.now c.args.front.number (folded x)) (sym c.last.ensures) ∙ (sym c.child.ensures ∙ c.in-None.is)))
