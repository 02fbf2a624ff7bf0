use Rattle.std.proofs.Common.{◌≡◌, ◌-◌, length}
use Rattle.asm_base.specs.Readings.{repeated}
use Rattle.asm_base.proofs.Loops.{after_front}
use Rattle.record_values.specs.Values.{extent_reading}
use Rattle.extent_map.proofs.reading.take_extents.Given as goal

abbrev pub invariant-loop-i : goal.invariant-loop-i
invariant-loop-i l = record {
  read : after_front l.homes (repeated (256 - l.i) extent_reading l.from) ≡ repeated 256 extent_reading l.fn.from;
  size : length l.homes ≡ l.i;
}
