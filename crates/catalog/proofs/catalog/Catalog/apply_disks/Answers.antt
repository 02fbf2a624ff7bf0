use Rattle.std.proofs.Common.{◌∙◌, sym}
use Rattle.catalog.specs.Spares.{ready_tables, unit_maps_in}
use Rattle.catalog.proofs.ApplyingLaws.{disks_kept, disks_made, disks_others, disks_stay, disks_taken, kept_units}
use Rattle.catalog.proofs.catalog.Catalog.apply_disks.Goals as goal

pub invariant_of-self : goal.invariant_of-self
invariant_of-self c =
    kept_units c.self.inside.parts c.self.inside.shape c.self.inside.units.items c.put_in.new.units.items (ready_tables c.self.inside.spare) (unit_maps_in c.self.inside.next_units) (unit_maps_in c.take.new.self) c.self.inside.spare c.args.next.now.entries c.self.invariant
    (disks_taken c.args.self.now c.self.inside.parts c.self.inside.shape c.self.inside.units.items c.put_in.new.units.items (ready_tables c.self.inside.spare) c.self.inside.next_units c.in-Some.changed c.args.next.now.entries c.self.view_is c.requires c.in-Some.ensures.value c.put_in.ensures)

pub returns-in-Some-clause-units : goal.returns-in-Some-clause-units
returns-in-Some-clause-units c =
    disks_taken c.args.self.now c.self.inside.parts c.self.inside.shape c.self.inside.units.items c.put_in.new.units.items (ready_tables c.self.inside.spare) c.self.inside.next_units c.in-Some.changed c.args.next.now.entries c.self.view_is c.requires c.in-Some.ensures.value c.put_in.ensures

pub returns-in-Some-clause-made : goal.returns-in-Some-clause-made
returns-in-Some-clause-made c =
    disks_made c.args.self.now c.self.inside.parts c.self.inside.shape c.self.inside.units.items c.put_in.new.units.items (ready_tables c.self.inside.spare) c.self.inside.next_units c.in-Some.changed c.self.view_is c.in-Some.ensures.value c.put_in.ensures

pub returns-in-Some-clause-others : goal.returns-in-Some-clause-others
returns-in-Some-clause-others c =
    disks_others c.args.self.now c.put_in.new.units.items c.args.next.now.entries c.requires (disks_made c.args.self.now c.self.inside.parts c.self.inside.shape c.self.inside.units.items c.put_in.new.units.items (ready_tables c.self.inside.spare) c.self.inside.next_units c.in-Some.changed c.self.view_is c.in-Some.ensures.value c.put_in.ensures)

pub returns-in_default-clause-units : goal.returns-in_default-clause-units
returns-in_default-clause-units c =
    disks_stay c.args.self.now c.self.inside.parts c.self.inside.shape c.self.inside.units.items (ready_tables c.self.inside.spare) c.self.inside.next_units c.args.next.now.entries c.self.view_is c.requires (sym c.in_default.is ∙ c.take.ensures.value)

pub returns-in_default-clause-made : goal.returns-in_default-clause-made
returns-in_default-clause-made c =
    disks_kept c.args.self.now c.self.inside.parts c.self.inside.shape c.self.inside.units.items (ready_tables c.self.inside.spare) c.self.inside.next_units c.self.view_is (sym c.in_default.is ∙ c.take.ensures.value)

pub returns-in_default-clause-others : goal.returns-in_default-clause-others
returns-in_default-clause-others c =
    disks_others c.args.self.now c.self.inside.units.items c.args.next.now.entries c.requires (disks_kept c.args.self.now c.self.inside.parts c.self.inside.shape c.self.inside.units.items (ready_tables c.self.inside.spare) c.self.inside.next_units c.self.view_is (sym c.in_default.is ∙ c.take.ensures.value))
