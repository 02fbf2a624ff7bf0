use Rattle.std.proofs.Common.{refl}
use Rattle.refusal_lines.specs.Refusals.{meaning_of}
use Rattle.serving.proofs.Ending.{said_other}
use Rattle.serving.proofs.printing.is_want_of_memory.Goals as goal

pub returns-in_default : goal.returns-in_default
returns-in_default c = said_other c.args.refusal.now c.in_default.not-NoMemory

pub returns-in-NoMemory : goal.returns-in-NoMemory
unfolding meaning_of
returns-in-NoMemory c = rw c.in-NoMemory.is refl
