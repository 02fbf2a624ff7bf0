use Rattle.std.proofs.Common.{sym}
use Rattle.asm_grammar.proofs.Sizes.{says_size, says_none}
use Rattle.asm_grammar.proofs.words.judge_size.Goals as goal

pub returns-then-len-word-clause-says : goal.returns-then-len-word-clause-says
returns-then-len-word-clause-says c = sym (says_none c.args.text.now c.args.word.now _ c.requires c.size_prefix-len.ensures.len (sym c.if-not-starts_with_digit.ensures) c.if-len-word.true)

pub returns-clause-says : goal.returns-clause-says
returns-clause-says c = sym (says_size c.args.text.now c.args.word.now _ _ c.requires c.size_prefix-len.ensures.len c.size_prefix-len.ensures.value (sym c.if-not-starts_with_digit.ensures) c.if-len-word.false)
