use Rattle.std.proofs.Common.{arith}
use Rattle.catalog_units.specs.Giving.{changed_keys}
use Rattle.catalog_units.proofs.ChangeUnits.{given_view, length_keys}
use Rattle.catalog_units.proofs.changed_units.give_one.Goals as goal

pub returns-then-is_new : goal.returns-then-is_new
returns-then-is_new c =
    given_view c.args.step (changed_keys c.args.put.now c.args.gone.now) c.args.place c.key.inside.kind c.key.inside.a c.key.inside.b c.key_at-key.result c.args.extents.now c.args.units.now c.give_at.new.units
    c.key.view_is (omega (arith, c.requires.place, length_keys c.args.put.now c.args.gone.now)) c.key_at-key.ensures c.if-is_new.ensures.new c.give_at.ensures
