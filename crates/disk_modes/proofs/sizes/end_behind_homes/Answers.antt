use Rattle.std.proofs.Common.{ap, subst, ◌∙◌, ℕ}
use Rattle.asm_group.specs.Shape.{Shape}
use Rattle.asm_placement.specs.Layout.{units_of}
use Rattle.disk_modes.specs.Ends.{HasEnds, IsCopyEnd}
use Rattle.disk_modes.proofs.Ends.{three_ends}
use Rattle.disk_modes.proofs.sizes.end_behind_homes.Goals as goal

pub returns : goal.returns
returns c = subst (λ (n : ℕ). HasEnds (IsCopyEnd n c.args.homes.now) c.args.ends.now c.end_behind_home-3.new.ends)
    (c.units_of-units.ensures.units ∙ ap (λ (s : Shape). units_of s.step c.args.index) (c.units_of.view_is ∙ c.shape.ensures.shape))
    (three_ends c.units_of-units.result c.homes.inside.first c.homes.inside.second c.homes.inside.third c.args.homes.now c.homes.view_is c.end_behind_home.ensures c.end_behind_home-2.ensures c.end_behind_home-3.ensures)
