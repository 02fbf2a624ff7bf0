use Rattle.std.proofs.Common.{◌≡◌, ◌∙◌, false, sym, ap}
use Rattle.std.proofs.lemmas.Bool.{false≢true}
use Rattle.asm_formats.specs.Sets.{has_bit}
use Rattle.asm_formats.specs.Status.{Status}
use Rattle.group_engine.proofs.Sets.{element_bit}
use Rattle.group_engine.proofs.mounted.Mounted.is_right_copy.Goals as goal

pub returns-then-not-has : goal.returns-then-not-has
returns-then-not-has c = λ named.
    let next = c.args.next.now in
    let number = c.args.copy.now.number in
    let out : has_bit next.directories number ≡ false = ap (λ (x : Status). has_bit x.directories number) (sym c.next.view_is) ∙ sym c.has.ensures ∙ c.if-not-has.true in
    absurd (false≢true (sym out ∙ element_bit next.directories number named))
