use Rattle.std.proofs.Common.{refl, sym, ◌∙◌}
use Rattle.refusal_lines.specs.Refusals.{meaning_of}
use Rattle.session.proofs.Desks.{from-same}
use Rattle.group_commands.proofs.Named.{too_many, exists_already}
use Rattle.group_commands.proofs.groups.create_external.Goals as goal

pub returns-then-is_full : goal.returns-then-is_full
returns-then-is_full g c = record {
  answers = record {
    paths = refl;
    host_stays = λ is. refl;
    ready = c.requires.ready;
    served = λ w below knows. (
      w,
      below,
      knows,
      rw (c.refused.ensures.reply, c.refused.ensures.found, c.too_many_groups.ensures) (too_many _ c.args.text.now _ _ c.requires.says _ _ w (sym (c.is_full.ensures w knows.entries_are) ∙ c.if-is_full.true)),
    );
  };
}

pub returns-then-has : goal.returns-then-has
unfolding meaning_of
returns-then-has g c = record {
  answers = record {
    paths = refl;
    host_stays = λ is. refl;
    ready = c.requires.ready;
    served = λ w below knows. (
      w,
      below,
      knows,
      rw (c.refused-then-has.ensures.reply, c.refused-then-has.ensures.found)
          (exists_already _ c.args.text.now _ _ c.requires.says _ _ w (sym (c.is_full.ensures w knows.entries_are) ∙ c.if-is_full.false) (rw knows.entries_are (sym c.has.ensures ∙ c.if-has.true))),
    );
  };
}

pub returns-then-is_err : goal.returns-then-is_err
returns-then-is_err g c = record { answers = from-same c.args.text.now _ c.args.desk.now _ _ refl refl c.make_room.ensures refl c.no_memory.ensures.answers }

pub returns-in-Ok : goal.returns-in-Ok
returns-in-Ok g c = record { answers = from-same c.args.text.now _ c.args.desk.now _ _ refl refl c.make_room.ensures refl c.form.ensures.answers }

pub returns-in-Err : goal.returns-in-Err
returns-in-Err g c = record { answers = from-same c.args.text.now _ c.args.desk.now _ _ refl refl c.make_room.ensures refl c.no_memory-in-Err.ensures.answers }
