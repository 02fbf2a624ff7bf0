use Rattle.std.proofs.Common.{◌∙◌, sym, arith}
use Rattle.catalog_tables.proofs.SameUnits.{all_have, one_lacks}
use Rattle.catalog_tables.proofs.placing.have_units.Goals as goal

pub returns-then-map_units-units_in : goal.returns-then-map_units-units_in
returns-then-map_units-units_in c =
    sym (one_lacks c.args.units.now c.args.entries.now c.loop-number.number (omega arith) (λ same. c.if-map_units-units_in.true (c.map_units.ensures ∙ same ∙ sym c.units_in.ensures)))

pub returns : goal.returns
returns c = sym (all_have c.args.units.now c.args.entries.now c.loop-number.number c.loop-number.invariant (omega arith))
