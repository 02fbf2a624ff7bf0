use Rattle.group_pieces.proofs.group_engine.Endings.{on_true}
use Rattle.file_extents.proofs.Chains.{kept}
use Rattle.file_extents.proofs.sparing.write_copy.Goals as goal

pub returns-then-not-is_run-clause-keeps : goal.returns-then-not-is_run-clause-keeps
returns-then-not-is_run-clause-keeps g c = kept c.args.m.now (g.B.Bay.state c.args.bay.now) c.requires.takes

pub write_spare-requires-clause-run : goal.write_spare-requires-clause-run
write_spare-requires-clause-run g c = (c.units_of-units.result, on_true c.is_run.result c.is_run.ensures c.if-not-is_run.false)

pub returns-in-Err-clause-failed : goal.returns-in-Err-clause-failed
returns-in-Err-clause-failed g c =
    let run = on_true c.is_run.result c.is_run.ensures c.if-not-is_run.false in
    (run.number, (run.slot, run.at, c.in-Err.ensures.cause run.slot run.at))
