use Rattle.std.proofs.Common.{sym, subst}
use Rattle.file_extents.proofs.group_engine.Causes.{calls_keep}
use Rattle.file_extents.proofs.Chains.{takes_on}
use Rattle.resync.specs.Copying.{CopyCause}
use Rattle.resync.specs.declared.copying.CopyError.{CopyError}
use Rattle.resync.proofs.Chains.{copies_on, on_err, unread_copies}
use Rattle.resync.proofs.copying.copy_piece.Goals as goal

pub write_copy-requires-clause-takes : goal.write_copy-requires-clause-takes
write_copy-requires-clause-takes g c = takes_on c.read_piece.ensures.keeps

pub returns-in-Ok-clause-keeps : goal.returns-in-Ok-clause-keeps
returns-in-Ok-clause-keeps g c = calls_keep c.read_piece.ensures.keeps c.write_copy.ensures.keeps

pub returns-in-Ok-clause-cause : goal.returns-in-Ok-clause-cause
returns-in-Ok-clause-cause g c =
    let t = g.B.Bay.state c.read_piece.new.bay in
    let u = g.B.Bay.state c.write_copy.new.bay in
    on_err (CopyCause c.args.m.now c.args.to.disk t u) (CopyCause c.args.m.now c.args.to.disk (g.B.Bay.state c.args.bay.now) u) c.write_copy.result
    (copies_on c.read_piece.ensures.keeps u c.args.to.disk) c.write_copy.ensures.cause

pub returns-in-Err-clause-cause : goal.returns-in-Err-clause-cause
returns-in-Err-clause-cause g c =
    let m = c.args.m.now in
    let s = g.B.Bay.state c.args.bay.now in
    let t = g.B.Bay.state c.read_piece.new.bay in
    subst (λ (e : CopyError). CopyCause m c.args.to.disk s t e) (sym c.unread.ensures) (unread_copies m c.args.x c.args.inner c.args.to.disk s t c.in-Err.error c.in-Err.ensures.cause)
