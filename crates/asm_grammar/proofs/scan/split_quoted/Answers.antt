use Rattle.std.proofs.Common.{◌≡◌, ◌+◌, drop, length, true, false, ap, sym, ◌∙◌}
use Rattle.asm_grammar.specs.Bytes.{is_text_byte, run_of, after_run}
use Rattle.asm_grammar.specs.Word.{starts_with_quote}
use Rattle.asm_grammar.proofs.Readers.{inside, beyond, quoted_open, quoted_fits}
use Rattle.asm_grammar.proofs.scan.split_quoted.Goals as goal

-- The bytes inside end at no quote.
pub returns-then-not-begins_quote-2-clause-near : goal.returns-then-not-begins_quote-2-clause-near
returns-then-not-begins_quote-2-clause-near c =
    let front : c.split_run.result.0.now ≡ inside c.args.text.now = c.split_run.ensures.front ∙ ap (λ x. run_of is_text_byte x) c.after_first.ensures in
    let rest : c.split_run.result.1.now ≡ beyond c.args.text.now = c.split_run.ensures.rest ∙ ap (λ x. after_run is_text_byte x) c.after_first.ensures in
    let begins : starts_with_quote c.args.text.now ≡ true = sym c.begins_quote.ensures ∙ c.if-not-begins_quote.false in
    let ends : starts_with_quote (beyond c.args.text.now) ≡ false = ap (λ x. starts_with_quote x) (sym rest) ∙ (sym c.begins_quote-2.ensures ∙ c.if-not-begins_quote-2.true) in
    ap (λ x. length x + 1) front ∙ sym (quoted_open c.args.text.now begins ends).1

pub returns-clause-says : goal.returns-clause-says
returns-clause-says c =
    let front : c.split_run.result.0.now ≡ inside c.args.text.now = c.split_run.ensures.front ∙ ap (λ x. run_of is_text_byte x) c.after_first.ensures in
    let rest : c.split_run.result.1.now ≡ beyond c.args.text.now = c.split_run.ensures.rest ∙ ap (λ x. after_run is_text_byte x) c.after_first.ensures in
    let behind : c.after_first-2.result.now ≡ drop 1 (beyond c.args.text.now) = c.after_first-2.ensures ∙ ap (λ x. drop 1 x) rest in
    let begins : starts_with_quote c.args.text.now ≡ true = sym c.begins_quote.ensures ∙ c.if-not-begins_quote.false in
    let ends : starts_with_quote (beyond c.args.text.now) ≡ true = ap (λ x. starts_with_quote x) (sym rest) ∙ (sym c.begins_quote-2.ensures ∙ c.if-not-begins_quote-2.false) in
    rw (front, behind) (sym (quoted_fits c.args.text.now begins ends).0)

pub returns-clause-near : goal.returns-clause-near
returns-clause-near c =
    let front : c.split_run.result.0.now ≡ inside c.args.text.now = c.split_run.ensures.front ∙ ap (λ x. run_of is_text_byte x) c.after_first.ensures in
    let rest : c.split_run.result.1.now ≡ beyond c.args.text.now = c.split_run.ensures.rest ∙ ap (λ x. after_run is_text_byte x) c.after_first.ensures in
    let begins : starts_with_quote c.args.text.now ≡ true = sym c.begins_quote.ensures ∙ c.if-not-begins_quote.false in
    let ends : starts_with_quote (beyond c.args.text.now) ≡ true = ap (λ x. starts_with_quote x) (sym rest) ∙ (sym c.begins_quote-2.ensures ∙ c.if-not-begins_quote-2.false) in
    ap (λ x. length x + 2) front ∙ sym (quoted_fits c.args.text.now begins ends).1
