use Rattle.asm_grammar.proofs.Plain.{number_is_number, size_is_size}
use Rattle.asm_grammar.proofs.laws.numbers_are_as_said.Goals as goal

pub returns : goal.returns
returns c = λ bytes. (number_is_number bytes, size_is_size bytes)
