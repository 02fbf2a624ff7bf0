use Rattle.std.proofs.Common.{◌≡◌, ◌-◌}
use Rattle.asm_base.specs.Readings.{repeated}
use Rattle.asm_base.proofs.Loops.{after_front}
use Rattle.record_values.specs.Values.{template_reading}
use Rattle.template_directory.proofs.reading.take_counted.Given as goal

abbrev pub invariant-loop : goal.invariant-loop
invariant-loop l = record {
  read : after_front l.templates (repeated (l.count - l.counter) template_reading l.from) ≡ repeated l.count template_reading l.fn.from;
}
