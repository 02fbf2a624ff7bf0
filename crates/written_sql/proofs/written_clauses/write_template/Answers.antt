use Rattle.std.proofs.Common.{◌≡◌, IfOk, sym, subst}
use Rattle.written_sql.specs.Lines.{put_maybe, bracketed_words, bracketed_value}
use Rattle.written_sql.proofs.Wholes.{template_put}
use Rattle.written_sql.proofs.written_clauses.write_template.Goals as goal

pub returns : goal.returns
returns c =
    let words = c.args.words.now in
    let at = rw (c.in_ok-line.ensures, c.in_ok-key.ensures) at c.in_ok-key-2.ensures in
    let e = subst (λ l. IfOk c.write_bracketed.result (λ longer. longer ≡ put_maybe bracketed_words (bracketed_value words) l)) at c.write_bracketed.ensures in
    subst (λ z. IfOk c.write_bracketed.result (λ longer. longer ≡ z)) (sym (template_put c.args.name.now words c.args.line)) e
