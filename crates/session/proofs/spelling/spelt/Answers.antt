use Rattle.std.proofs.Common.{inr, refl}
use Rattle.refusal_lines.specs.Refusals.{meaning_of}
use Rattle.session.proofs.spelling.spelt.Goals as goal

pub returns-in-Err : goal.returns-in-Err
unfolding meaning_of
returns-in-Err c = inr refl
