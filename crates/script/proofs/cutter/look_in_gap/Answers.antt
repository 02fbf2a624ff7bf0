use Rattle.std.proofs.Common.{sym, inr, ◌∙◌, arith}
use Rattle.asm_grammar.specs.FirstWord.{is_first_word_byte}
use Rattle.script.proofs.Looking.{gap-blank, gap-comment, gap-waits, gap-statement, gap-line, shorter, Decided}
use Rattle.script.proofs.Cutting.{within-front}
use Rattle.script.proofs.cutter.look_in_gap.Goals as goal
use Rattle.script.proofs.cutter.look_in_gap.Goals.{else-rest-lt7-via-then-rest-lt7+else-word_len-rest, else-rest-lt7-via-else-rest-lt7}

pub returns-then-is_blank : goal.returns-then-is_blank
returns-then-is_blank c = gap-blank _ c.requires (sym c.if-is_blank.ensures)

pub returns-then-begins_comment : goal.returns-then-begins_comment
returns-then-begins_comment c = gap-comment _ (sym c.if-begins_comment.ensures)

pub returns-then-word_len-rest : goal.returns-then-word_len-rest
returns-then-word_len-rest c = gap-waits _ (sym c.if-is_blank.ensures) (sym c.if-begins_comment.ensures) c.if-rest-lt7.true (sym c.word_len.ensures.len ∙ c.if-word_len-rest.true)

pub returns-then-opens_statement : goal.returns-then-opens_statement
returns-then-opens_statement c =
    let d : Decided c.args.rest.now = elim c.else-rest-lt7.branch [
      | else-rest-lt7-via-then-rest-lt7+else-word_len-rest w ↦ shorter _ _ w.word_len.ensures.len w.word_len.ensures.within w.if-word_len-rest.false
      | else-rest-lt7-via-else-rest-lt7 w ↦ inr (omega (arith, w.if-rest-lt7.false))
    ] in
    gap-statement _ (sym c.if-is_blank.ensures) (sym c.if-begins_comment.ensures) d (within-front is_first_word_byte _) (sym c.if-opens_statement.ensures)

pub returns-else-opens_statement : goal.returns-else-opens_statement
returns-else-opens_statement c =
    let d : Decided c.args.rest.now = elim c.else-rest-lt7.branch [
      | else-rest-lt7-via-then-rest-lt7+else-word_len-rest w ↦ shorter _ _ w.word_len.ensures.len w.word_len.ensures.within w.if-word_len-rest.false
      | else-rest-lt7-via-else-rest-lt7 w ↦ inr (omega (arith, w.if-rest-lt7.false))
    ] in
    gap-line _ (sym c.if-is_blank.ensures) (sym c.if-begins_comment.ensures) d (within-front is_first_word_byte _) (sym c.if-opens_statement.ensures)
