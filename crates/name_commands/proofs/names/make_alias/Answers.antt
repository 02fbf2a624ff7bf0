use Rattle.std.proofs.Common.{refl}
use Rattle.session.specs.Desks.{paths_on}
use Rattle.name_commands.proofs.AskedEdits.{mkalias_asked, mkalias_edits, mkalias_nowhere}
use Rattle.name_commands.proofs.RefusedEdits.{answered-refused, no_target}
use Rattle.name_commands.proofs.names.make_alias.Goals as goal

pub alias_path-requires-clause-asks : goal.alias_path-requires-clause-asks
alias_path-requires-clause-asks g c =
    rw c.as_slice-in-Ok.ensures (mkalias_asked c.args.desk.now.session.place c.args.text.now c.args.path c.args.alias c.requires.asked c.in-Ok.alias (rw (c.place.ensures, c.as_slice.ensures) at c.in-Ok.ensures.led))

pub returns : goal.returns
returns g c = record {
  answers = answered-refused c.args.text.now _ c.args.desk.now _ c.in-Err.refusal refl refl refl refl c.refused.ensures.reply c.refused.ensures.found c.requires.ready (λ w below knows.
      no_target (paths_on c.args.desk.now) c.args.text.now c.args.desk.now.session (g.B.Bay.state c.args.desk.now.bay) w below knows c.args.alias
      (mkalias_edits c.args.desk.now.session.place c.args.text.now c.args.path c.args.alias c.requires.asked)
      (mkalias_nowhere c.args.desk.now.session.place c.args.text.now c.args.path c.args.alias c.requires.asked) c.in-Err.refusal (rw (c.place.ensures, c.as_slice.ensures) at c.in-Err.ensures.cause));
}
