use Rattle.std.proofs.Common.{refl}
use Rattle.refusal_lines.specs.Refusals.{meaning_of}
use Rattle.mounted_groups.proofs.create.make_ready.Goals as goal

pub returns-in_default-clause-err : goal.returns-in_default-clause-err
unfolding meaning_of
returns-in_default-clause-err c = refl

pub returns-in_default-first_bodies-clause-err : goal.returns-in_default-first_bodies-clause-err
unfolding meaning_of
returns-in_default-first_bodies-clause-err c = refl
