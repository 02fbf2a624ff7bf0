use Rattle.std.proofs.Common.{Ok, Err}
use Rattle.std.proofs.lemmas.Result.{err_from_is_err_and}
use Rattle.disk_commands.specs.group_turns.Turns.{AfterReply}
use Rattle.serving.proofs.Stories.{tells_err, tells_ok, tells_then}
use Rattle.serving.proofs.program.Program.slice_group.Goals as goal

pub returns-in_err-take_turn : goal.returns-in_err-take_turn
returns-in_err-take_turn g c =
    let p = err_from_is_err_and c.from_residual.result c.from_residual.ensures.1 in
    rw (p.1, p.2) (tells_err AfterReply _ _ _ c.in_err-take_turn.ensures)

pub returns : goal.returns
returns g c = tells_then AfterReply _ (Ok tt) _ _ _ c.in_ok-take_turn.ensures (tells_ok AfterReply _ tt _ _ c.in_ok-take_turn-2.ensures)

pub returns-in_err-take_turn-2 : goal.returns-in_err-take_turn-2
returns-in_err-take_turn-2 g c =
    let p = err_from_is_err_and c.from_residual-in_err-take_turn-2.result c.from_residual-in_err-take_turn-2.ensures.1 in
    rw (p.1, p.2) (tells_then AfterReply _ (Err _) _ _ _ c.in_ok-take_turn.ensures (tells_err AfterReply _ _ _ c.in_err-take_turn-2.ensures))
