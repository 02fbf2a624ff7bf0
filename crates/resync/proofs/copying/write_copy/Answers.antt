use Rattle.std.proofs.Common.{ap, ◌∙◌}
use Rattle.asm_formats.specs.Items.{Home}
use Rattle.file_extents.specs.group_engine.Mounts.{slot_at}
use Rattle.file_extents.proofs.group_engine.Endings.{on_true}
use Rattle.file_extents.proofs.Chains.{kept}
use Rattle.resync.proofs.copying.write_copy.Goals as goal

pub returns-then-not-is_run-clause-keeps : goal.returns-then-not-is_run-clause-keeps
returns-then-not-is_run-clause-keeps g c = kept c.args.m.now (g.B.Bay.state c.args.bay.now) c.requires.takes

pub write_spare-requires-clause-run : goal.write_spare-requires-clause-run
write_spare-requires-clause-run g c = (c.units_of-units.result, on_true c.is_run.result c.is_run.ensures c.if-not-is_run.false)

pub returns-in-Err-clause-cause : goal.returns-in-Err-clause-cause
returns-in-Err-clause-cause g c =
    let run = on_true c.is_run.result c.is_run.ensures c.if-not-is_run.false in
    let number = ap (λ (h : Home). h.disk) c.to.view_is in
    let attached = ap (λ (h : Home). slot_at c.args.m.now.disks h.disk) c.to.view_is in
    (number, (run.slot, attached ∙ run.at, c.in-Err.ensures.cause run.slot run.at))
