use Rattle.group_pieces.proofs.Steps.{keeps_itself, shut_cause}
use Rattle.group_pieces.proofs.WholePiece.{piece_shut}
use Rattle.group_pieces.proofs.piece.write_piece.Goals as goal

pub returns-in-Err-clause-keeps : goal.returns-in-Err-clause-keeps
returns-in-Err-clause-keeps g c = keeps_itself c.args.m.now (g.B.Bay.state c.args.bay.now) c.requires.takes

pub returns-in-Err-clause-cause : goal.returns-in-Err-clause-cause
returns-in-Err-clause-cause g c =
    let s = g.B.Bay.state c.args.bay.now in
    shut_cause c.args.m.now c.args.x c.args.inner s s c.in-Err.refusal c.in-Err.ensures.cause

pub returns-in-Err-clause-held : goal.returns-in-Err-clause-held
returns-in-Err-clause-held g c =
    piece_shut c.args.m.now c.args.x c.args.inner c.args.bytes.now _ (g.B.Bay.state c.args.bay.now) (g.met.B.Bay.sound c.args.bay.now) c.requires.piece c.in-Err.ensures.cause
