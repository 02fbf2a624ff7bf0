use Rattle.std.proofs.Common.{◌+◌, ◌∙◌, refl, arith}
use Rattle.std.proofs.lemmas.List.{length-set}
use Rattle.partnership.proofs.Rows.{place_more, some_units}
use Rattle.partnership.proofs.row.choose_row.Goals as goal

pub choose_next-requires-clause-some : goal.choose_next-requires-clause-some
choose_next-requires-clause-some c = some_units c.args.step (c.args.first + c.loop-place.place) c.units_of.result c.units_of.ensures.units

pub loop-place-preserved : goal.loop-place-preserved
loop-place-preserved c = record {
  places = length-set c.loop-place.row c.loop-place.place c.in-Some.homes ∙ c.loop-place.invariant.places;
  row = place_more (record { entries = c.args.disks.now; copies = c.args.copies; step = c.args.step }) c.args.first c.loop-place.place (c.args.first + c.loop-place.place) c.args.units.now c.loop-place.units c.choose_next.new.units c.loop-place.row c.in-Some.homes
      refl (omega arith) c.loop-place.invariant.row (rw c.units_of.ensures.units at c.in-Some.ensures.chosen) (rw c.units_of.ensures.units at c.in-Some.ensures.used);
}
