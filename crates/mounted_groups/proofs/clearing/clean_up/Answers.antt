use Rattle.std.proofs.lemmas.Result.{IfErr-weaker, err_from_is_err_and}
use Rattle.group_engine.specs.Pending.{EndsOn}
use Rattle.group_engine.proofs.Endings.{ends_on}
use Rattle.mounted_groups.proofs.Clears.{status_clear}
use Rattle.mounted_groups.proofs.LeftOver.{stays_of}
use Rattle.mounted_groups.proofs.clearing.clean_up.Goals as goal

pub end_pending-requires-clause-whole : goal.end_pending-requires-clause-whole
end_pending-requires-clause-whole g c = c.in_ok-drop_records.ensures.ends.goes.keeps.whole

pub end_pending-requires-clause-ready : goal.end_pending-requires-clause-ready
end_pending-requires-clause-ready g c = c.in_ok-drop_records.ensures.ends.goes.keeps.ready

pub returns-in_err-drop_records : goal.returns-in_err-drop_records
returns-in_err-drop_records g c =
    let p = err_from_is_err_and c.from_residual.result c.from_residual.ensures.1 in
    let ends = c.in_err-drop_records.ensures.ends in
    rw (p.1, p.2) (record {
      ends = ends;
      ended = tt;
      cause = status_clear c.args.m.now c.drop_records.new.m (g.B.Bay.state c.args.bay.now) (g.B.Bay.state c.drop_records.new.bay) c.in_err-drop_records.field-0.0 c.requires.mounted ends.goes.cause;
    })

pub returns : goal.returns
returns g c =
    let a = c.args.m.now in
    let b = c.end_pending.new.self in
    let s = g.B.Bay.state c.args.bay.now in
    let t = g.B.Bay.state c.end_pending.new.bay in
    let is = c.end_pending.ensures in
    let last : EndsOn c.drop_records.new.m c.end_pending.result b (g.B.Bay.state c.drop_records.new.bay) t = record {
      goes = record { keeps = is.keeps; mounted = is.mounted; cause = is.cause };
      status = is.status;
      names = is.names;
      turns = is.turns;
      moments = is.moments;
      stays = stays_of c.end_pending.result is.done is.closed;
    } in
    let ends : EndsOn a c.end_pending.result b s t = ends_on c.end_pending.result c.in_ok-drop_records.ensures.ends last in
    record {
      ends = ends;
      ended = is.ended;
      cause = IfErr-weaker c.end_pending.result _ _ (λ given why. status_clear a b s t given c.requires.mounted why) ends.goes.cause;
    }
