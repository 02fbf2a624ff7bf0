use Rattle.std.proofs.Common.{arith, length-set}
use Rattle.asm_base.specs.Readings.{repeated}
use Rattle.asm_base.proofs.Loops.{stores}
use Rattle.asm_formats.specs.Status.{Entry}
use Rattle.status_table.specs.Readings.{entry_reading}
use Rattle.status_table.proofs.reading.take_entries.Goals as goal

pub loop-i-preserved : goal.loop-i-preserved
loop-i-preserved c = record {
  read = stores entry_reading c.loop-i.entries c.args.count c.loop-i.i c.loop-i.from c.take_entry.new.from c.in_ok-entries.field-0 (repeated c.args.count entry_reading c.args.from.now) c.loop-i-test.true (omega arith) c.in_ok-entries.ensures c.loop-i.invariant.read;
  size = omega (arith, length-set {A = Entry});
}
