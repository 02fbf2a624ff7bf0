use Rattle.std.proofs.Common.{◌≡◌, ◌-◌, length, take}
use Rattle.asm_base.specs.Readings.{repeated}
use Rattle.asm_base.proofs.Loops.{after_front}
use Rattle.status_table.specs.Readings.{entry_reading}
use Rattle.status_table.proofs.reading.take_entries.Given as goal

abbrev pub invariant-loop-i : goal.invariant-loop-i
invariant-loop-i l = record {
  read : after_front (take l.i l.entries) (repeated (l.count - l.i) entry_reading l.from) ≡ repeated l.count entry_reading l.fn.from;
  size : length l.entries ≡ 64;
}
