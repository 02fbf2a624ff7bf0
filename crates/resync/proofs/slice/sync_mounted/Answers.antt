use Rattle.file_extents.proofs.Chains.{kept}
use Rattle.resync.proofs.slice.sync_mounted.Goals as goal

pub returns-then-not-is_back-clause-keeps : goal.returns-then-not-is_back-clause-keeps
returns-then-not-is_back-clause-keeps g c = kept c.args.m.now (g.B.Bay.state c.args.bay.now) c.requires.takes

pub next_stale-requires : goal.next_stale-requires
next_stale-requires g c = record { shape = (c.requires.takes c.requires.mounted).0.shape }

pub returns-in-Err-clause-keeps : goal.returns-in-Err-clause-keeps
returns-in-Err-clause-keeps g c = kept c.args.m.now (g.B.Bay.state c.args.bay.now) c.requires.takes
