use Rattle.std.proofs.Common.{arith, length-set}
use Rattle.asm_formats.specs.Status.{Entry}
use Rattle.group_recovery.proofs.Entries.{more_kept, more_moded}
use Rattle.group_recovery.proofs.record.all_moded.Goals as goal

pub loop-i-preserved : goal.loop-i-preserved
loop-i-preserved c = record {
  made = more_moded c.args.quorate.now c.args.marked c.args.now c.args.entries.now c.loop-i.after c.loop-i.i c.index-entries-i.result c.moded.result
      c.loop-i-test.true (omega arith) c.loop-i.invariant.made c.index-entries-i.is c.moded.ensures.value;
  size = omega (arith, length-set {A = Entry});
  kept = more_kept c.args.entries.now c.loop-i.after c.loop-i.i c.index-entries-i.result c.moded.result
      c.loop-i-test.true (omega arith) c.index-entries-i.is c.moded.ensures.kept c.loop-i.invariant.kept;
}
