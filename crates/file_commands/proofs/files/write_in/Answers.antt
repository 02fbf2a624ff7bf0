use Rattle.std.proofs.Common.{refl, subst}
use Rattle.catalog_tables.specs.Rules.{KeepsRules}
use Rattle.catalog_tables.specs.Tables.{Catalogued}
use Rattle.session.specs.Desks.{paths_on}
use Rattle.file_commands.proofs.WrittenSession.{answered_refused, out_of, reply_is, written_session}
use Rattle.file_commands.proofs.files.write_in.Goals as goal

pub returns-in-Err : goal.returns-in-Err
returns-in-Err g c = record {
  answers = answered_refused c.args.text.now _ c.args.desk.now _ c.in-Err.refusal refl refl refl refl c.refused.ensures.reply c.refused.ensures.found c.requires.ready (λ w below knows.
      out_of (paths_on c.args.desk.now) c.args.text.now c.args.group.now c.args.desk.now.session (g.B.Bay.state c.args.desk.now.bay) w below knows c.in-Err.refusal c.in-Err.ensures.cause c.args.work.now c.requires.asks);
}

pub returns : goal.returns
returns g c =
    let work = c.work-done.ensures in
    let found = c.in-Ok.ensures.found in
    record {
      answers = record {
        paths = refl;
        host_stays = λ is. refl;
        ready = work.carries.ready;
        served = λ w below knows.
            let d = written_session (paths_on c.args.desk.now) c.args.text.now c.args.group.now c.args.desk.now.session c.work-done.new.self
            (g.B.Bay.state c.args.desk.now.bay) (g.B.Bay.state c.work-done.new.bay) (g.met.B.Bay.sound c.args.desk.now.bay) (g.met.B.Bay.sound c.work-done.new.bay)
            (record {
              ready = c.requires.ready;
              carries = work.carries;
              m = c.in-Ok.m.now;
              is = found;
              rules = subst (λ (k : Catalogued). KeepsRules k.shape k.tables) c.catalog.ensures c.shape-group.ensures.rules.rules;
            })
            c.work-done.result w below knows c.args.work.now c.requires.asks (work.works (c.in-Ok.m.now, found)) in (
              d.0,
              d.1,
              d.2,
              rw (reply_is c.work-done.result c.answer_of.result.reply c.answer_of.ensures.done c.answer_of.ensures.refused, c.answer_of.ensures.found) d.3,
            );
      };
    }
