use Rattle.asm_grammar.proofs.Parts.{text_is}
use Rattle.asm_grammar.proofs.laws.texts_are_as_said.Goals as goal

pub returns : goal.returns
returns c = text_is
