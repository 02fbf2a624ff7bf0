use Rattle.std.proofs.Common.{ap, sym, ◌∙◌}
use Rattle.written_sql.specs.Lines.{Line, statement_line}
use Rattle.group_sql.specs.Said.{statement_said}
use Rattle.written_sql.proofs.Texts.{whole_text, text_says}
use Rattle.written_sql.proofs.writing.write_statement.Goals as goal

pub returns-clause-said : goal.returns-clause-said
returns-clause-said c =
    let x = statement_said c.args.statement.now in
    let words = sym c.in-Some.is ∙ (c.in_ok-line.ensures ∙ ap (λ l. statement_line x l) c.new.ensures) in
    let text = c.into_bytes.ensures ∙ (ap (λ (l : Line). l.bytes) c.in_ok-line-2.ensures ∙ whole_text x c.in-Some.line words) in
    text_says x c.into_bytes.result.items text
