use Rattle.command_line.proofs.Takings.{not_taken}
use Rattle.command_line.proofs.words.take.Goals as goal

pub returns-in_default-clause-usage : goal.returns-in_default-clause-usage
returns-in_default-clause-usage c = λ is generate images taken. not_taken _ _ c.in_default.field-0 c.in_default.ensures.misuse generate images taken
