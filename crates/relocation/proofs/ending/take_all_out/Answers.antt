use Rattle.std.proofs.Common.{Err}
use Rattle.resync.proofs.group_engine.Members.{lets_join}
use Rattle.relocation.proofs.Chains.{ends_more, lets_takes, nothing_lets}
use Rattle.relocation.proofs.ending.take_all_out.Goals as goal

pub loop-disk-init : goal.loop-disk-init
loop-disk-init g c = record { mounted = c.requires.mounted; lets = nothing_lets c.args.m.now (g.B.Bay.state c.args.bay.now) c.requires.takes }

pub take_out_if-requires-clause-takes : goal.take_out_if-requires-clause-takes
take_out_if-requires-clause-takes g c = lets_takes c.loop-disk.invariant.lets

pub loop-disk-preserved : goal.loop-disk-preserved
loop-disk-preserved g c = record { mounted = c.in-Ok.ensures.mounted; lets = lets_join c.loop-disk.invariant.lets c.take_out_if.ensures.lets }

pub returns-in-Err : goal.returns-in-Err
returns-in-Err g c = ends_more (Err c.in-Err.refusal) c.loop-disk.invariant.lets c.loop-disk.invariant.mounted c.in-Err.ensures

pub returns : goal.returns
returns g c = record { lets = c.loop-disk.invariant.lets; mounted = c.loop-disk.invariant.mounted; cause = tt }
