use Rattle.std.proofs.Common.{subst}
use Rattle.file_extents.specs.group_pieces.Reads.{IsReadCause}
use Rattle.file_extents.specs.group_pieces.declared.reading.ReadError.{ReadError}
use Rattle.group_contents.proofs.Lost.{lost_at}
use Rattle.group_contents.proofs.reading.read_one.Goals as goal

pub returns-in-Err-Lost-clause-cause : goal.returns-in-Err-Lost-clause-cause
returns-in-Err-Lost-clause-cause g c =
    let m = c.args.m.now in
    let s = g.B.Bay.state c.args.bay.now in
    let t = g.B.Bay.state c.read_piece.new.bay in
    let why = subst (λ (r : ReadError). IsReadCause m c.args.piece.x c.args.piece.inner s t r) c.in-Err-Lost.field-0-is c.in-Err-Lost.ensures.cause in
    (lost_at m c.args.piece.x c.args.piece.inner 0 why, c.requires.file)

pub returns-in-Err-Fault-clause-cause : goal.returns-in-Err-Fault-clause-cause
returns-in-Err-Fault-clause-cause g c =
    let m = c.args.m.now in
    let s = g.B.Bay.state c.args.bay.now in
    let t = g.B.Bay.state c.read_piece.new.bay in
    let why = subst (λ (r : ReadError). IsReadCause m c.args.piece.x c.args.piece.inner s t r) c.in-Err-Fault.field-0-is c.in-Err-Fault.ensures.cause in
    why.rose
