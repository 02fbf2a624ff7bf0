use Rattle.std.proofs.Common.{refl}
use Rattle.group_commands.proofs.Creations.{creation_stays, other_creation}
use Rattle.session.proofs.Desks.{answered-still, from-same}
use Rattle.group_commands.proofs.groups.create_any.Goals as goal

pub returns-then-is_full : goal.returns-then-is_full
returns-then-is_full g c = record {
  answers = answered-still c.args.text.now _ c.args.desk.now _ (other_creation c.args.text.now c.args.name c.args.kind c.args.groups c.args.attributes c.requires.asked c.requires.other) refl refl refl c.requires.ready;
}

pub returns-then-has : goal.returns-then-has
returns-then-has g c = record {
  answers = answered-still c.args.text.now _ c.args.desk.now _ (other_creation c.args.text.now c.args.name c.args.kind c.args.groups c.args.attributes c.requires.asked c.requires.other) refl refl refl c.requires.ready;
}

pub returns-then-is_err : goal.returns-then-is_err
returns-then-is_err g c = record {
  answers = answered-still c.args.text.now _ c.args.desk.now _ (other_creation c.args.text.now c.args.name c.args.kind c.args.groups c.args.attributes c.requires.asked c.requires.other) refl refl refl (rw c.make_room.ensures c.requires.ready);
}

pub form_any-requires-clause-none : goal.form_any-requires-clause-none
form_any-requires-clause-none g c = other_creation c.args.text.now c.args.name c.args.kind c.args.groups c.args.attributes c.requires.asked c.requires.other

pub form_any-requires-clause-still : goal.form_any-requires-clause-still
form_any-requires-clause-still g c = creation_stays c.args.text.now c.args.name c.args.kind c.args.groups c.args.attributes c.requires.asked

pub returns-in-Ok : goal.returns-in-Ok
returns-in-Ok g c = record { answers = from-same c.args.text.now _ c.args.desk.now _ _ refl refl c.make_room.ensures refl c.form_any.ensures.answers }

pub returns-in-Err : goal.returns-in-Err
returns-in-Err g c = record {
  answers = answered-still c.args.text.now _ c.args.desk.now _ (other_creation c.args.text.now c.args.name c.args.kind c.args.groups c.args.attributes c.requires.asked c.requires.other) refl refl refl (rw c.make_room.ensures c.requires.ready);
}
