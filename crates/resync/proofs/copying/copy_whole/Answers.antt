use Rattle.std.proofs.Common.{arith}
use Rattle.file_extents.proofs.group_engine.Causes.{calls_keep}
use Rattle.file_extents.proofs.Chains.{kept, takes_on}
use Rattle.resync.proofs.Chains.{copies_on}
use Rattle.resync.proofs.copying.copy_whole.Goals as goal

pub loop-copied-init : goal.loop-copied-init
loop-copied-init g c = kept c.args.m.now (g.B.Bay.state c.args.bay.now) c.requires.takes

pub copy_piece-requires-clause-takes : goal.copy_piece-requires-clause-takes
copy_piece-requires-clause-takes g c = takes_on c.loop-copied.invariant

pub loop-copied-preserved : goal.loop-copied-preserved
loop-copied-preserved g c = calls_keep c.loop-copied.invariant c.copy_piece.ensures.keeps

pub loop-copied-smaller : goal.loop-copied-smaller
loop-copied-smaller g c = omega (arith, c.in-Some.ensures.some, c.loop-copied-test.true)

pub returns-in-Err-clause-keeps : goal.returns-in-Err-clause-keeps
returns-in-Err-clause-keeps g c = calls_keep c.loop-copied.invariant c.copy_piece.ensures.keeps

pub returns-in-Err-clause-cause : goal.returns-in-Err-clause-cause
returns-in-Err-clause-cause g c = copies_on c.loop-copied.invariant (g.B.Bay.state c.copy_piece.new.bay) c.args.to.disk c.in-Err.error c.in-Err.ensures.cause

pub overflow_add-copied : goal.overflow_add-copied
overflow_add-copied g c = omega (arith, c.in-Some.ensures.end)
