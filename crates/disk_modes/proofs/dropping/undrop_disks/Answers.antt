use Rattle.std.proofs.lemmas.Result.{err_from_is_err_and}
use Rattle.disk_modes.proofs.Drops.{undrops_done}
use Rattle.disk_modes.proofs.Getting.{may_undrop}
use Rattle.disk_modes.proofs.Held.{held_here}
use Rattle.disk_modes.proofs.Steps.{kept, shut_cause}
use Rattle.disk_modes.proofs.dropping.undrop_disks.Goals as goal

pub returns-in_err-takes_calls-clause-keeps : goal.returns-in_err-takes_calls-clause-keeps
returns-in_err-takes_calls-clause-keeps g c = kept c.args.m.now (g.B.Bay.state c.args.bay.now) c.requires.takes

pub returns-in_err-takes_calls-clause-cause : goal.returns-in_err-takes_calls-clause-cause
returns-in_err-takes_calls-clause-cause g c =
    let f = err_from_is_err_and c.from_residual.result c.from_residual.ensures.1 in
    rw (f.1, f.2) (shut_cause c.args.m.now (g.B.Bay.state c.args.bay.now) c.in_err-takes_calls.field-0.0 c.in_err-takes_calls.ensures.cause)

pub returns-clause-done : goal.returns-clause-done
returns-clause-done g c =
    undrops_done c.args.m.now c.change_disks.new.m c.status.result.now c.entries.result.now c.undropping-changes.result c.change_disks.result c.status.ensures c.entries.ensures.entries c.undropping-changes.ensures c.change_disks.ensures.done

pub returns-in_err-takes_calls-clause-held : goal.returns-in_err-takes_calls-clause-held
returns-in_err-takes_calls-clause-held g c = held_here c.args.m.now (g.B.Bay.state c.args.bay.now)

pub returns-clause-held : goal.returns-clause-held
returns-clause-held g c = c.change_disks.ensures.held (may_undrop c.args.m.now c.entries.result.now c.undropping-changes.result c.undropping-changes.ensures)
