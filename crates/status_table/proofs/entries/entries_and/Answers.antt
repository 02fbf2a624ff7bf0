use Rattle.std.proofs.Common.{arith, length-set}
use Rattle.asm_formats.specs.Status.{Entry}
use Rattle.status_table.proofs.Inserted.{insert_more}
use Rattle.status_table.proofs.entries.entries_and.Goals as goal

pub loop-i-preserved : goal.loop-i-preserved
loop-i-preserved c = record {
  made = insert_more c.args.added c.args.entries.now c.loop-i.made c.loop-i.i c.loop-i.left c.index-entries-i.result c.in_order-first.result.0 c.in_order-first.result.1 c.loop-i-test.true (omega arith) c.loop-i.invariant.made c.index-entries-i.is c.in_order-first.ensures;
  size = omega (arith, length-set {A = Entry});
}
