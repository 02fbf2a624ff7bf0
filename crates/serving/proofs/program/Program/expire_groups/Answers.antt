use Rattle.std.proofs.Common.{Ok, Err}
use Rattle.std.proofs.lemmas.Result.{err_from_is_err_and}
use Rattle.disk_commands.specs.group_turns.Turns.{BeforeText}
use Rattle.serving.proofs.Stories.{tells_err, tells_none, tells_then}
use Rattle.serving.proofs.program.Program.expire_groups.Goals as goal

pub loop-place-init : goal.loop-place-init
loop-place-init g c = tells_none BeforeText tt c.args.self.now c.requires.ready

pub expire_group-requires : goal.expire_group-requires
expire_group-requires g c = record { ready = c.loop-place.invariant.ready }

pub loop-place-preserved : goal.loop-place-preserved
loop-place-preserved g c = tells_then BeforeText tt (Ok tt) _ _ _ c.loop-place.invariant c.in_ok-expire_group.ensures

pub returns-in_err-expire_group : goal.returns-in_err-expire_group
returns-in_err-expire_group g c =
    let p = err_from_is_err_and c.from_residual.result c.from_residual.ensures.1 in
    rw (p.1, p.2) (tells_then BeforeText tt (Err _) _ _ _ c.loop-place.invariant c.in_err-expire_group.ensures)

pub returns : goal.returns
returns g c = c.loop-place.invariant
