use Rattle.world_steps.proofs.Runs.{is_run, joins, premises_join, stays}
use Rattle.world_steps.proofs.runs_go_from_states.Goals as goal

pub returns : goal.returns
returns g c = record {
  premises = premises_join g.M.Measure.outside g.P.StatePremise.meets;
  join = joins g.M.Measure.outside g.P.StatePremise.meets;
  runs = is_run g.M.Measure.outside g.P.StatePremise.meets;
  stay = stays g.M.Measure.outside g.P.StatePremise.meets g.L.Later.leaves;
}
