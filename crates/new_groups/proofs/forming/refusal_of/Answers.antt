use Rattle.std.proofs.Common.{refl}
use Rattle.refusal_lines.specs.Refusals.{meaning_of}
use Rattle.new_groups.proofs.forming.refusal_of.Goals as goal

pub returns-in-NoMemory : goal.returns-in-NoMemory
unfolding meaning_of
returns-in-NoMemory c = rw c.in-NoMemory.is refl
