use Rattle.std.proofs.Common.{ℕ, Option, Some, ap, max, set, sym, subst, ◌∙◌}
use Rattle.asm_formats.specs.Items.{Home}
use Rattle.disk_modes.specs.Ends.{HasEnds, IsHomeEnd}
use Rattle.disk_modes.proofs.Ends.{one_end}
use Rattle.disk_modes.proofs.sizes.end_behind_home.Goals as goal

pub returns-then-place-ends : goal.returns-then-place-ends
returns-then-place-ends c =
    let home : Home = record { disk = c.home.inside.disk; unit = c.home.inside.unit } in
    subst (λ (o : Option Home). HasEnds (IsHomeEnd c.args.units o) c.args.ends.now (set c.args.ends.now home.disk c.max.result)) (ap Some c.home.view_is ∙ sym c.in-Some.is)
    (subst (λ (end : ℕ). HasEnds (IsHomeEnd c.args.units (Some home)) c.args.ends.now (set c.args.ends.now home.disk end)) (sym c.max.ensures) (one_end c.args.ends.now c.args.units home c.if-place-ends.true))
