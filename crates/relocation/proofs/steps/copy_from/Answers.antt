use Rattle.resync.proofs.file_extents.Chains.{kept}
use Rattle.relocation.proofs.Chains.{copy_faults}
use Rattle.relocation.proofs.steps.copy_from.Goals as goal

pub returns-in_default-clause-keeps : goal.returns-in_default-clause-keeps
returns-in_default-clause-keeps g c = kept c.args.m.now (g.B.Bay.state c.args.bay.now) c.requires.takes

pub returns-then-len-buffer-clause-keeps : goal.returns-then-len-buffer-clause-keeps
returns-then-len-buffer-clause-keeps g c = kept c.args.m.now (g.B.Bay.state c.args.bay.now) c.requires.takes

pub returns-in-Err-clause-cause : goal.returns-in-Err-clause-cause
returns-in-Err-clause-cause g c =
    copy_faults c.args.m.now c.args.to.disk (g.B.Bay.state c.args.bay.now) (g.B.Bay.state c.copy_piece.new.bay) c.in-Err.error c.in-Err.ensures.cause
