use Rattle.std.proofs.Common.{subst, sym}
use Rattle.group_pieces.specs.Usable.{AreNone}
use Rattle.group_pieces.proofs.Places.{first_is_there, none_is_there}
use Rattle.group_pieces.proofs.usable.is_lost.Goals as goal

pub returns-in-None-clause-yes : goal.returns-in-None-clause-yes
returns-in-None-clause-yes c = λ is. subst AreNone c.usable_copies-places.ensures.value (none_is_there c.usable_copies-places.result (sym c.in-None.ensures))

pub returns-in-Some-clause-no : goal.returns-in-Some-clause-no
returns-in-Some-clause-no c = λ is none.
    first_is_there c.usable_copies-places.result c.in-Some.field-0 (sym c.in-Some.ensures) (subst AreNone (sym c.usable_copies-places.ensures.value) none)
