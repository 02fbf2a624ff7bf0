use Rattle.std.proofs.Common.{Ok, Err}
use Rattle.std.proofs.lemmas.Result.{err_from_is_err_and}
use Rattle.disk_commands.specs.group_turns.Turns.{BeforeText}
use Rattle.serving.proofs.Stories.{tells_err, tells_none, tells_ok, tells_then}
use Rattle.serving.proofs.program.Program.expire_group.Goals as goal

pub loop-init : goal.loop-init
loop-init g c = tells_none BeforeText tt c.args.self.now c.requires.ready

pub take_turn-requires : goal.take_turn-requires
take_turn-requires g c = record { ready = c.loop.invariant.ready }

pub loop-preserved : goal.loop-preserved
loop-preserved g c = tells_then BeforeText tt (Ok tt) _ _ _ c.loop.invariant (tells_ok BeforeText _ tt _ _ c.in_ok-take_turn.ensures)

pub returns-in_err-take_turn : goal.returns-in_err-take_turn
returns-in_err-take_turn g c =
    let p = err_from_is_err_and c.from_residual.result c.from_residual.ensures.1 in
    rw (p.1, p.2) (tells_then BeforeText tt (Err _) _ _ _ c.loop.invariant (tells_err BeforeText _ _ _ c.in_err-take_turn.ensures))

pub returns-then-not-branch : goal.returns-then-not-branch
returns-then-not-branch g c = tells_then BeforeText tt (Ok tt) _ _ _ c.loop.invariant (tells_ok BeforeText _ tt _ _ c.in_ok-take_turn.ensures)
