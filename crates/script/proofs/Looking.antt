-- What the byte at a place does, as the program looks at it.
use Rattle.std.proofs.Common.{◌≡◌, ◌≢◌, ◌==◌, ◌<◌, ◌≤◌, ℕ, true, false, if◌then◌else◌, ◌⊎◌, inl, List, [], ◌∷◌, length, get_or, refl, sym, ap, subst, arith}
use Rattle.std.proofs.lemmas.Bool.{eqb-true}
use Rattle.std.specs.List.{prefix_len}
use Rattle.asm_grammar.specs.Bytes.{is_blank}
use Rattle.asm_grammar.specs.FirstWord.{is_first_word_byte, opens_statement}
use Rattle.script.specs.Script.{between, comment, line, in_statement, in_quotes, begins_comment}
use Rattle.script.specs.Scanning.{Steps}
use Rattle.script.specs.declared.cutter.State.TheVariants.{Gap, Comment, Line, Statement, Quote}
use Rattle.script.specs.declared.cutter.Step.TheVariants.{Skip, Take, EndsBefore, EndsWith, Waits}
use Rattle.script.proofs.Cutting.{on_test, blank-skips, comment-begins, comment-goes_on, comment-ends, line-goes_on, line-ends, statement-ends, statement-goes_on, quote-begins, quote-ends, quote-goes_on, command-begins, word-waits}

pub gap-blank : (rest : List ℕ) → 0 < length rest → is_blank (get_or rest 0 0) ≡ true → Steps between rest (Skip Gap)
gap-blank [] l e = tt
gap-blank (b ∷ bs) l e = (tt, tt, blank-skips b bs e)

pub gap-comment : (rest : List ℕ) → begins_comment rest ≡ true → Steps between rest (Skip Comment)
gap-comment [] e = tt
gap-comment (b ∷ bs) e = (tt, tt, comment-begins b bs e)

pub gap-waits : (rest : List ℕ) → is_blank (get_or rest 0 0) ≡ false → begins_comment rest ≡ false → length rest < 7 → prefix_len is_first_word_byte rest ≡ length rest → Steps between rest Waits
gap-waits [] e f l w = tt
gap-waits (b ∷ bs) e f l w = (refl, word-waits b bs e f w, omega arith)

abbrev pub Decided : List ℕ → Type 0
Decided rest = (prefix_len is_first_word_byte rest < length rest) ⊎ (6 < length rest)

pub shorter : (rest : List ℕ) (n : ℕ) → n ≡ prefix_len is_first_word_byte rest → n ≤ length rest → n ≢ length rest → Decided rest
shorter rest n e l d = inl (omega arith)

pub gap-statement : (rest : List ℕ) → is_blank (get_or rest 0 0) ≡ false → begins_comment rest ≡ false → Decided rest → prefix_len is_first_word_byte rest ≤ length rest → opens_statement rest ≡ true → Steps between rest (Take Statement)
gap-statement [] e f d w o = tt
gap-statement (b ∷ bs) e f d w o = (refl, tt, command-begins b bs in_statement e f d w (ap (λ v. if v then in_statement else line) o) tt)

pub gap-line : (rest : List ℕ) → is_blank (get_or rest 0 0) ≡ false → begins_comment rest ≡ false → Decided rest → prefix_len is_first_word_byte rest ≤ length rest → opens_statement rest ≡ false → Steps between rest (Take Line)
gap-line [] e f d w o = tt
gap-line (b ∷ bs) e f d w o = (refl, tt, command-begins b bs line e f d w (ap (λ v. if v then in_statement else line) o) tt)

other : (a b : ℕ) → a ≢ b → (a == b) ≡ false
other a b n = on_test (a == b) (λ e. absurd (n (eqb-true a b e))) (λ e. e)

pub comment-feed : (rest : List ℕ) → get_or rest 0 0 ≡ 10 → Steps comment rest (Skip Gap)
comment-feed [] e = tt
comment-feed (b ∷ bs) e = subst (λ x. Steps comment (x ∷ bs) (Skip Gap)) (sym e) (tt, tt, comment-ends bs)

pub comment-byte : (rest : List ℕ) → get_or rest 0 0 ≢ 10 → Steps comment rest (Skip Comment)
comment-byte [] e = tt
comment-byte (b ∷ bs) e = (tt, tt, comment-goes_on b bs (other b 10 e))

pub line-feed : (rest : List ℕ) → get_or rest 0 0 ≡ 10 → Steps line rest EndsBefore
line-feed [] e = tt
line-feed (b ∷ bs) e = subst (λ x. Steps line (x ∷ bs) EndsBefore) (sym e) (tt, line-ends bs)

pub line-byte : (rest : List ℕ) → get_or rest 0 0 ≢ 10 → Steps line rest (Take Line)
line-byte [] e = tt
line-byte (b ∷ bs) e = (refl, tt, line-goes_on b bs (other b 10 e))

pub statement-semicolon : (rest : List ℕ) → get_or rest 0 0 ≡ 59 → Steps in_statement rest EndsWith
statement-semicolon [] e = tt
statement-semicolon (b ∷ bs) e = subst (λ x. Steps in_statement (x ∷ bs) EndsWith) (sym e) (tt, statement-ends bs)

pub statement-quote : (rest : List ℕ) → get_or rest 0 0 ≡ 39 → Steps in_statement rest (Take Quote)
statement-quote [] e = tt
statement-quote (b ∷ bs) e = subst (λ x. Steps in_statement (x ∷ bs) (Take Quote)) (sym e) (refl, tt, quote-begins bs)

pub statement-byte : (rest : List ℕ) → get_or rest 0 0 ≢ 59 → get_or rest 0 0 ≢ 39 → Steps in_statement rest (Take Statement)
statement-byte [] e f = tt
statement-byte (b ∷ bs) e f = (refl, tt, statement-goes_on b bs (other b 39 f) (other b 59 e))

pub quote-quote : (rest : List ℕ) → get_or rest 0 0 ≡ 39 → Steps in_quotes rest (Take Statement)
quote-quote [] e = tt
quote-quote (b ∷ bs) e = subst (λ x. Steps in_quotes (x ∷ bs) (Take Statement)) (sym e) (refl, tt, quote-ends bs)

pub quote-byte : (rest : List ℕ) → get_or rest 0 0 ≢ 39 → Steps in_quotes rest (Take Quote)
quote-byte [] e = tt
quote-byte (b ∷ bs) e = (refl, tt, quote-goes_on b bs (other b 39 e))
