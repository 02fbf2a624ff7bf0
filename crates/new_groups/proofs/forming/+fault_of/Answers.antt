use Rattle.refusal_lines.specs.Refusals.{meaning_of}
use Rattle.new_groups.proofs.forming.+fault_of.Goals as goal

pub returns-in_default : goal.returns-in_default
unfolding meaning_of
returns-in_default t c = tt
