use Rattle.std.proofs.Common.{refl}
use Rattle.session.specs.Desks.{paths_on}
use Rattle.name_commands.proofs.AskedEdits.{led_asked, led_nowhere}
use Rattle.name_commands.proofs.RefusedEdits.{answered-refused, no_target}
use Rattle.name_commands.proofs.names.edit_verb.Goals as goal

pub edit_by_verb-requires-clause-asks : goal.edit_by_verb-requires-clause-asks
edit_by_verb-requires-clause-asks g c =
    led_asked c.args.desk.now.session.place _ c.args.path.now c.args.kind c.requires.asks c.in-Ok.path c.in-Ok-copy.group (rw c.place.ensures at c.in-Ok.ensures.led) c.in-Ok-copy.ensures c.edit_at.result c.edit_at.ensures

pub returns-in-Err : goal.returns-in-Err
returns-in-Err g c = record {
  answers = answered-refused c.args.text.now _ c.args.desk.now _ c.in-Err.refusal refl refl refl refl c.refused.ensures.reply c.refused.ensures.found c.requires.ready (λ w below knows.
      no_target (paths_on c.args.desk.now) c.args.text.now c.args.desk.now.session (g.B.Bay.state c.args.desk.now.bay) w below knows c.args.path.now c.requires.asks.is_edit
      (led_nowhere c.args.desk.now.session.place _ c.args.path.now c.args.kind c.requires.asks) c.in-Err.refusal (rw c.place.ensures at c.in-Err.ensures.cause));
}
