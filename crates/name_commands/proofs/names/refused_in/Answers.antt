use Rattle.std.proofs.Common.{refl}
use Rattle.session.specs.Desks.{paths_on}
use Rattle.name_commands.proofs.RefusedEdits.{answered-refused, out_refused, vain_refused}
use Rattle.name_commands.proofs.names.refused_in.Goals as goal

pub returns-in-Err : goal.returns-in-Err
returns-in-Err g c = record {
  answers = answered-refused c.args.text.now _ c.args.desk.now _ c.in-Err.earlier refl refl refl refl c.refused.ensures.reply c.refused.ensures.found c.requires.ready (λ w below knows.
      out_refused (paths_on c.args.desk.now) c.args.text.now c.args.desk.now.session (g.B.Bay.state c.args.desk.now.bay) w below knows c.args.group.now c.requires.vain.change c.requires.vain.asks c.in-Err.earlier c.in-Err.ensures.cause);
}

pub returns : goal.returns
returns g c = record {
  answers = answered-refused c.args.text.now _ c.args.desk.now _ c.args.refusal refl refl refl refl c.refused-2.ensures.reply c.refused-2.ensures.found c.requires.ready (λ w below knows.
      vain_refused (paths_on c.args.desk.now) c.args.text.now c.args.desk.now.session (g.B.Bay.state c.args.desk.now.bay) w below knows c.args.group.now c.args.refusal c.requires.vain c.in_default.ensures.entered);
}
