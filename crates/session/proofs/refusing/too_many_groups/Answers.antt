use Rattle.std.proofs.Common.{refl}
use Rattle.refusal_lines.specs.Refusals.{meaning_of}
use Rattle.session.proofs.refusing.too_many_groups.Goals as goal

pub returns : goal.returns
unfolding meaning_of
returns c = refl
