use Rattle.std.proofs.Common.{inl, refl}
use Rattle.file_extents.proofs.Chains.{kept}
use Rattle.group_contents.proofs.resizing.give_back_fault.Goals as goal

pub returns-in-Err-clause-keeps : goal.returns-in-Err-clause-keeps
returns-in-Err-clause-keeps g c = kept c.args.m.now (g.B.Bay.state c.args.bay.now) c.requires.takes

pub returns-in-Err-clause-cause : goal.returns-in-Err-clause-cause
returns-in-Err-clause-cause g c = inl refl
