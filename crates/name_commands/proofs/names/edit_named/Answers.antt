use Rattle.std.proofs.Common.{refl}
use Rattle.session.specs.Desks.{paths_on}
use Rattle.name_commands.proofs.EditedGroups.{edited_session, reply_is}
use Rattle.name_commands.proofs.RefusedEdits.{answered-refused, out_refused}
use Rattle.name_commands.proofs.names.edit_named.Goals as goal

pub returns-in-Err : goal.returns-in-Err
returns-in-Err g c = record {
  answers = answered-refused c.args.text.now _ c.args.desk.now _ c.in-Err.refusal refl refl refl refl c.refused.ensures.reply c.refused.ensures.found c.requires.ready (λ w below knows.
      out_refused (paths_on c.args.desk.now) c.args.text.now c.args.desk.now.session (g.B.Bay.state c.args.desk.now.bay) w below knows c.args.group.now c.requires.asks.change c.requires.asks.asks c.in-Err.refusal c.in-Err.ensures.cause);
}

pub returns : goal.returns
returns g c =
    let work = c.edit-done.ensures in
    record {
      answers = record {
        paths = refl;
        host_stays = λ is. refl;
        ready = work.carries.ready;
        served = λ w below knows.
            let d = edited_session (paths_on c.args.desk.now) c.args.text.now c.args.group.now c.args.edit.now c.requires.allowed c.args.desk.now.session c.edit-done.new.self c.requires.asks
            (g.B.Bay.state c.args.desk.now.bay) (g.B.Bay.state c.edit-done.new.bay) (g.met.B.Bay.sound c.args.desk.now.bay) (g.met.B.Bay.sound c.edit-done.new.bay)
            work.apart work.paired work.carries c.edit-done.result (work.edits (c.in_default.field-0.now, c.in_default.ensures.found)) w below knows in (
              d.0,
              d.1,
              d.2,
              rw (reply_is c.edit-done.result c.answer_of.result.reply c.answer_of.ensures.done c.answer_of.ensures.refused, c.answer_of.ensures.found) d.3,
            );
      };
    }
