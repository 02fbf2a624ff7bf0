use Rattle.std.proofs.Common.{Err, subst}
use Rattle.refusal_lines.specs.declared.refusal.Refusal.{Refusal}
use Rattle.refusal_lines.specs.declared.refusal.Refusal.TheVariants as cause
use Rattle.file_extents.specs.group_pieces.Held.{PieceStays}
use Rattle.file_extents.specs.group_pieces.Pieces.{WritePieceCause}
use Rattle.group_contents.proofs.Chains.{fault_puts, fills_put, more_failed, piece_fails}
use Rattle.group_contents.proofs.Written.{piece_gives, piece_refuses, piece_stays}
use Rattle.group_contents.proofs.writing.write_one.Goals as goal

pub returns-in-Ok-clause-failed : goal.returns-in-Ok-clause-failed
returns-in-Ok-clause-failed g c =
    more_failed c.args.m.now c.args.failed c.in-Ok.more c.joined.result (g.B.Bay.state c.args.bay.now) (g.B.Bay.state c.write_piece.new.bay) c.joined.ensures c.in-Ok.ensures.failed

pub returns-in-Err-Lost-clause-cause : goal.returns-in-Err-Lost-clause-cause
returns-in-Err-Lost-clause-cause g c =
    fills_put c.args.m.now c.write_piece.new.m c.args.failed (g.B.Bay.state c.args.bay.now) (g.B.Bay.state c.write_piece.new.bay) c.lost_on_the_way.result c.lost_on_the_way.ensures

pub returns-in-Err-WriteFault-clause-cause : goal.returns-in-Err-WriteFault-clause-cause
returns-in-Err-WriteFault-clause-cause g c =
    let m = c.args.m.now in
    let x = c.args.piece.x in
    let inner = c.args.piece.inner in
    let new = c.write_piece.new.m in
    let s = g.B.Bay.state c.args.bay.now in
    let t = g.B.Bay.state c.write_piece.new.bay in
    fault_puts m new c.args.failed s t c.in-Err-WriteFault.disk c.failed_on_the_way.result
    (piece_fails m x inner c.args.failed s t c.in-Err-WriteFault.disk
    (subst (λ (r : Refusal). WritePieceCause m x inner new s t r) c.in-Err-WriteFault.field-0-is c.in-Err-WriteFault.ensures.cause))
    c.failed_on_the_way.ensures

pub returns-in-Err-Dismounted-clause-cause : goal.returns-in-Err-Dismounted-clause-cause
returns-in-Err-Dismounted-clause-cause g c =
    let m = c.args.m.now in
    let new = c.write_piece.new.m in
    let s = g.B.Bay.state c.args.bay.now in
    let t = g.B.Bay.state c.write_piece.new.bay in
    subst (λ (r : Refusal). WritePieceCause m c.args.piece.x c.args.piece.inner new s t r) c.in-Err-Dismounted.field-0-is c.in-Err-Dismounted.ensures.cause

pub returns-in-Ok-clause-held : goal.returns-in-Ok-clause-held
returns-in-Ok-clause-held g c =
    piece_gives c.args.m.now c.write_piece.new.m c.args.piece.x c.args.piece.inner c.in-Ok.more c.joined.result c.args.bytes.now (g.B.Bay.state c.args.bay.now) (g.B.Bay.state c.write_piece.new.bay)
    c.in-Ok.ensures.held

pub returns-in-Err-Lost-clause-held : goal.returns-in-Err-Lost-clause-held
returns-in-Err-Lost-clause-held g c =
    let new = c.write_piece.new.m in
    piece_refuses c.args.m.now new c.args.piece.x c.args.piece.inner c.in-Err-Lost.field-0 c.lost_on_the_way.result c.args.bytes.now (g.B.Bay.state c.args.bay.now) (g.B.Bay.state c.write_piece.new.bay)
    (piece_stays new c.lost_on_the_way.result (subst (λ (r : Refusal). PieceStays (Err r) new) c.in-Err-Lost.field-0-is c.in-Err-Lost.ensures.held.mounted)) c.in-Err-Lost.ensures.held

pub returns-in-Err-WriteFault-clause-held : goal.returns-in-Err-WriteFault-clause-held
returns-in-Err-WriteFault-clause-held g c =
    let new = c.write_piece.new.m in
    piece_refuses c.args.m.now new c.args.piece.x c.args.piece.inner c.in-Err-WriteFault.field-0 c.failed_on_the_way.result c.args.bytes.now (g.B.Bay.state c.args.bay.now) (g.B.Bay.state c.write_piece.new.bay)
    (piece_stays new c.failed_on_the_way.result (subst (λ (r : Refusal). PieceStays (Err r) new) c.in-Err-WriteFault.field-0-is c.in-Err-WriteFault.ensures.held.mounted)) c.in-Err-WriteFault.ensures.held

pub returns-in-Err-Dismounted-clause-held : goal.returns-in-Err-Dismounted-clause-held
returns-in-Err-Dismounted-clause-held g c =
    let new = c.write_piece.new.m in
    piece_refuses c.args.m.now new c.args.piece.x c.args.piece.inner c.in-Err-Dismounted.field-0 (cause.Dismounted c.in-Err-Dismounted.disk) c.args.bytes.now (g.B.Bay.state c.args.bay.now) (g.B.Bay.state c.write_piece.new.bay)
    tt c.in-Err-Dismounted.ensures.held
