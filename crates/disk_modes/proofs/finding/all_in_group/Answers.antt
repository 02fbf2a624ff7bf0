use Rattle.std.proofs.Common.{ap}
use Rattle.asm_formats.specs.Status.{Entry}
use Rattle.disk_modes.specs.Finding.{is_in_failgroup_of_sort}
use Rattle.disk_modes.proofs.Found.{all_found, none_found, one_found}
use Rattle.disk_modes.proofs.finding.all_in_group.Goals as goal

pub loop-entry-init : goal.loop-entry-init
loop-entry-init c = none_found (is_in_failgroup_of_sort c.args.m.now.catalog c.args.sort c.args.name.now) c.args.entries.now c.empty-disks.result c.empty-disks.ensures

pub loop-entry-preserved : goal.loop-entry-preserved
loop-entry-preserved c =
    one_found (is_in_failgroup_of_sort c.args.m.now.catalog c.args.sort c.args.name.now) c.args.entries.now c.loop-entry.entry-index c.entry-item.result c.entry.inside.number c.loop-entry.disks c.with_if-disks.result c.lies_in.result
    c.loop-entry-test.true c.entry-item.is (ap (λ (e : Entry). e.number) c.entry.view_is) c.lies_in.ensures c.with_if-disks.ensures c.loop-entry.invariant

pub returns : goal.returns
returns c = all_found (is_in_failgroup_of_sort c.args.m.now.catalog c.args.sort c.args.name.now) c.args.entries.now c.loop-entry.entry-index c.loop-entry.disks c.loop-entry-test.false c.loop-entry.invariant
