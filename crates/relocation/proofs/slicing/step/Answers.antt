use Rattle.resync.proofs.group_engine.Members.{lets_join}
use Rattle.relocation.proofs.Chains.{lets_takes, slice_on}
use Rattle.relocation.proofs.slicing.step.Goals as goal

pub ended-requires-clause-takes : goal.ended-requires-clause-takes
ended-requires-clause-takes g c = lets_takes c.ask.ensures.lets

pub do_step-requires : goal.do_step-requires
do_step-requires g c = record { mounted = c.ask.ensures.mounted; takes = lets_takes c.ask.ensures.lets }

pub returns-in-Ok-clause-lets : goal.returns-in-Ok-clause-lets
returns-in-Ok-clause-lets g c = lets_join c.ask.ensures.lets c.ended.ensures.lets

pub returns-in-Err-clause-lets : goal.returns-in-Err-clause-lets
returns-in-Err-clause-lets g c = lets_join c.ask.ensures.lets c.ended.ensures.lets

pub returns-in-Err-clause-cause : goal.returns-in-Err-clause-cause
returns-in-Err-clause-cause g c = slice_on c.ask.ensures.lets c.ask.ensures.mounted c.ended.new.m (g.B.Bay.state c.ended.new.bay) c.in-Err.refusal c.in-Err.ensures.cause

pub returns-in-Ok-do_step : goal.returns-in-Ok-do_step
returns-in-Ok-do_step g c = record { lets = lets_join c.ask.ensures.lets c.do_step.ensures.lets; mounted = c.in-Ok-do_step.ensures.mounted; cause = tt; ends = tt }

pub returns-in-Err-do_step : goal.returns-in-Err-do_step
returns-in-Err-do_step g c = record {
  lets = lets_join c.ask.ensures.lets c.do_step.ensures.lets;
  mounted = tt;
  ends = tt;
  cause = slice_on c.ask.ensures.lets c.ask.ensures.mounted c.do_step.new.m (g.B.Bay.state c.do_step.new.bay) c.in-Err-do_step.refusal c.in-Err-do_step.ensures.cause;
}
