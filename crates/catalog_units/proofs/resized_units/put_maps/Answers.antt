use Rattle.std.proofs.Common.{◌∙◌, arith}
use Rattle.catalog_units.proofs.ResizedUnits.{put_end, put_next}
use Rattle.catalog_units.proofs.resized_units.put_maps.Goals as goal

pub loop-number-preserved : goal.loop-number-preserved
loop-number-preserved c = put_next _ c.put_map.new.units _ _ _ _ _ c.in-Some.ensures.steps.0 c.put_map.ensures c.loop-number.invariant

pub returns : goal.returns
returns c = put_end c.loop-number.units c.loop-number.number-iterator.rest.items _ (omega (arith, c.loop-number.number-iterator.rest.ok, c.in-None.ensures.steps.0)) c.loop-number.invariant
