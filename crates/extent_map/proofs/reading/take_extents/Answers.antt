use Rattle.std.proofs.Common.{[], ◌∷◌, length, ap, arith}
use Rattle.std.proofs.lemmas.List.{length-append}
use Rattle.asm_base.specs.Readings.{repeated}
use Rattle.asm_base.proofs.Loops.{goes_on}
use Rattle.record_values.specs.Values.{extent_reading}
use Rattle.extent_map.proofs.reading.take_extents.Goals as goal

pub loop-i-preserved : goal.loop-i-preserved
loop-i-preserved c = record {
  read = rw c.in_ok-push.ensures.ok (goes_on extent_reading c.loop-i.homes 256 c.loop-i.i c.loop-i.from c.take_extent.new.from c.in-Some.extent (repeated 256 extent_reading c.args.from.now) c.loop-i-test.true c.in-Some.ensures c.loop-i.invariant.read);
  size = omega (arith, c.loop-i.invariant.size, ap length c.in_ok-push.ensures.ok, length-append c.loop-i.homes (c.in-Some.extent ∷ []));
}
