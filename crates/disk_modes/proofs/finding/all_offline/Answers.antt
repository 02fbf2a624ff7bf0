use Rattle.std.proofs.Common.{ap}
use Rattle.asm_formats.specs.Status.{Entry, is_offline_entry}
use Rattle.disk_modes.proofs.Found.{all_found, none_found, one_found}
use Rattle.disk_modes.proofs.finding.all_offline.Goals as goal

pub loop-entry-init : goal.loop-entry-init
loop-entry-init c = none_found is_offline_entry c.args.entries.now c.empty-disks.result c.empty-disks.ensures

pub loop-entry-preserved : goal.loop-entry-preserved
loop-entry-preserved c =
    one_found is_offline_entry c.args.entries.now c.loop-entry.entry-index c.entry-item.result c.entry.inside.number c.loop-entry.disks c.with_if-disks.result c.is_offline.result
    c.loop-entry-test.true c.entry-item.is (ap (λ (e : Entry). e.number) c.entry.view_is) c.is_offline.ensures c.with_if-disks.ensures c.loop-entry.invariant

pub returns : goal.returns
returns c = all_found is_offline_entry c.args.entries.now c.loop-entry.entry-index c.loop-entry.disks c.loop-entry-test.false c.loop-entry.invariant
