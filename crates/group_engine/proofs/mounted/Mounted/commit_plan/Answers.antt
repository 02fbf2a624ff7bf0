use Rattle.std.specs.Prelude.{IfErr}
use Rattle.group_engine.specs.Commits.{StatusCause}
use Rattle.group_engine.proofs.Planned.{planned_answer}
use Rattle.group_engine.proofs.mounted.Mounted.commit_plan.Goals as goal

pub commit-requires : goal.commit-requires
commit-requires g c =
    let plan = c.requires.plan in
    record {
      whole = λ is. (c.requires.takes is).0;
      ready = λ is. (c.requires.takes is).1;
      few = plan.1.few;
      items = plan.1.items;
      leaves = λ is. (plan.0, record { after = plan.1.after; rules = plan.1.rules; units = plan.1.units });
    }

pub returns : goal.returns
returns g c =
    let e = c.commit.ensures in
    let s = g.B.Bay.state c.args.bay.now in
    let t = g.B.Bay.state c.commit.new.bay in
    let cause : IfErr c.commit.result (StatusCause c.args.self.now c.commit.new.self s t) =
    planned_answer c.args.self.now c.args.change.now.put c.args.change.now.gone c.requires.plan.0 s c.blocks_are_counted.ensures.plans c.requires.takes c.shows_places.ensures c.requires.plan.1
    c.commit.new.self t c.commit.result e.cause in
    record {
      goes = record { keeps = e.keeps; mounted = e.mounted; cause = cause };
      commits = record {
        cause = cause;
        applied = e.applied;
        held = λ is. record { keeps = e.keeps; flight = e.flight; status = e.status; mounted = e.mounted; applied = e.applied; cause = e.cause; moments = e.moments is; done = e.done is; refused = e.refused; idle = e.idle is; turns = e.turns };
      };
      status = e.status;
    }
