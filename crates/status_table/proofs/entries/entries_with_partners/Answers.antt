use Rattle.std.proofs.Common.{arith, length-set}
use Rattle.asm_formats.specs.Status.{Entry}
use Rattle.status_table.proofs.Steps.{partners_more}
use Rattle.status_table.proofs.Kept.{kept_more}
use Rattle.status_table.proofs.entries.entries_with_partners.Goals as goal

pub loop-i-preserved : goal.loop-i-preserved
loop-i-preserved c = record {
  made = partners_more c.args.entries.now c.loop-i.changed c.args.partners.now c.loop-i.i c.index-entries-i.result c.entry_with_partners.result c.index-partners-i.result c.loop-i-test.true (omega arith) c.requires.same_length c.loop-i.invariant.made c.index-entries-i.is c.index-partners-i.is c.entry_with_partners.ensures.value;
  size = omega (arith, length-set {A = Entry});
  kept = kept_more c.args.entries.now c.loop-i.changed c.loop-i.i c.index-entries-i.result c.entry_with_partners.result c.loop-i-test.true (omega arith) c.index-entries-i.is c.entry_with_partners.ensures.kept c.loop-i.invariant.kept;
}
