use Rattle.std.proofs.Common.{None, ◌∙◌, sym}
use Rattle.catalog.specs.Spares.{unit_maps_in}
use Rattle.catalog.proofs.ApplyingLaws.{kept_after, units_kept}
use Rattle.catalog.proofs.catalog.Catalog.apply.Goals as goal

pub invariant_of-self-2 : goal.invariant_of-self-2
invariant_of-self-2 c =
    kept_after c.args.self.now c.self.inside.parts c.in-Some.next c.replace-parts.result c.replace-parts.new.dest c.self.inside.shape c.self.inside.units.items c.follow.new.units.items c.self.inside.spare (unit_maps_in c.self.inside.next_units) None c.in-Some.kept c.args.change.now.put c.args.change.now.gone
    c.self.view_is c.requires (sym c.replace.ensures.value ∙ c.in-Some.ensures.ready) c.replace-parts.ensures.value c.replace-parts.ensures.after c.self.invariant c.follow.ensures

pub returns-clause-units : goal.returns-clause-units
returns-clause-units c =
    units_kept c.args.self.now c.self.inside.parts c.in-Some.next c.replace-parts.new.dest c.self.inside.shape c.self.inside.units.items c.follow.new.units.items c.self.inside.spare (unit_maps_in c.self.inside.next_units) c.in-Some.kept c.args.change.now.put c.args.change.now.gone
    c.self.view_is c.requires (sym c.replace.ensures.value ∙ c.in-Some.ensures.ready) c.replace-parts.ensures.after c.follow.ensures
