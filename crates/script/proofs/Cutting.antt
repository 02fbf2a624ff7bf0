-- What each byte does, and how a cutter goes on by it.
use Rattle.std.proofs.Common.{◌≡◌, ◌==◌, ◌||◌, ◌<◌, ◌≤◌, ℕ, suc, Bool, true, false, if◌then◌else◌, ◌⊎◌, inl, inr, List, [], ◌∷◌, ◌++◌, length, map, take, refl, sym, ◌∙◌, ap, arith, codes}
use Rattle.std.proofs.lemmas.Bool.{false≢true, true≢false, eqb-true}
use Rattle.std.proofs.lemmas.Bool.Decides.{nat_tests}
use Rattle.std.proofs.lemmas.List.{take-append-le}
use Rattle.std.proofs.lemmas.List.Folds.{length-prefix_len}
use Rattle.std.proofs.lemmas.List.Sums.{prefix_len-le-length}
use Rattle.std.specs.List.{prefix_len}
use Rattle.std.specs.Str.{bytes_eq}
use Rattle.std.specs.Char.{to_ascii_lowercase}
use Rattle.asm_grammar.specs.Bytes.{is_blank}
use Rattle.asm_grammar.specs.FirstWord.{is_first_word_byte, is_keyword, opens_statement}
use Rattle.script.specs.Script.{ScriptPlace, between, comment, line, in_statement, in_quotes, place_of_first_byte, begins_comment, onto, onto_at, cut}
use Rattle.script.specs.Scanning.{IsCommandOpen, onto_all, Leads, FirstIs, Unended}

-- a test is true or false, with the equation
pub on_test : {P : Type 0} (b : Bool) → (b ≡ true → P) → (b ≡ false → P) → P
on_test true t f = t refl
on_test false t f = f refl

-- ---- the length of a front, head by head

pub front-stops : (p : ℕ → Bool) (b : ℕ) (bs : List ℕ) → p b ≡ false → prefix_len p (b ∷ bs) ≡ 0
front-stops p b bs e = rw e refl

pub front-goes_on : (p : ℕ → Bool) (b : ℕ) (bs : List ℕ) → p b ≡ true → prefix_len p (b ∷ bs) ≡ suc (prefix_len p bs)
front-goes_on p b bs e = rw e (omega arith)

pub front-more : (p : ℕ → Bool) (bs more : List ℕ) → prefix_len p bs < length bs → prefix_len p (bs ++ more) ≡ prefix_len p bs
front-more p [] more short = absurd (omega arith)
front-more p (b ∷ bs) more short = on_test (p b)
    (λ t. let longer = front-goes_on p b bs t in
    front-goes_on p b (bs ++ more) t ∙ ap suc (front-more p bs more (omega (arith, longer, short))) ∙ sym longer)
    (λ f. front-stops p b (bs ++ more) f ∙ sym (front-stops p b bs f))

pub opens-more : (bs more : List ℕ) → prefix_len is_first_word_byte bs < length bs → opens_statement (bs ++ more) ≡ opens_statement bs
unfolding opens_statement
opens-more bs more short =
    let same : take (prefix_len is_first_word_byte (bs ++ more)) (bs ++ more) ≡ take (prefix_len is_first_word_byte bs) bs =
    ap (λ n. take n (bs ++ more)) (front-more is_first_word_byte bs more short)
    ∙ take-append-le (prefix_len is_first_word_byte bs) bs more (omega arith) in
    ap (λ word. is_keyword word (codes "CREATE") || is_keyword word (codes "ALTER") || is_keyword word (codes "DROP")) same

pub front-no_less : (p : ℕ → Bool) (bs more : List ℕ) → prefix_len p bs ≤ prefix_len p (bs ++ more)
front-no_less p [] more = omega arith
front-no_less p (b ∷ bs) more = on_test (p b)
    (λ t. omega (arith, front-goes_on p b bs t, front-goes_on p b (bs ++ more) t, front-no_less p bs more))
    (λ f. omega (arith, front-stops p b bs f))

-- ---- gaps

pub blank-skips : (b : ℕ) (bs : List ℕ) → is_blank b ≡ true → Leads between (b ∷ bs) [] between bs
unfolding cut onto_all
blank-skips b bs e closed more = rw e refl

dashes : (b c : ℕ) (bs : List ℕ) → begins_comment (b ∷ c ∷ bs) ≡ true → (b ≡ 45) × (c ≡ 45)
dashes b c bs begins = grind (arith, nat_tests)

pub comment-begins : (b : ℕ) (bs : List ℕ) → begins_comment (b ∷ bs) ≡ true → Leads between (b ∷ bs) [] comment bs
unfolding cut onto_all
comment-begins b [] begins closed more = absurd (false≢true begins)
comment-begins b (c ∷ bs) begins closed more = let d = dashes b c bs begins in rw (d.0, d.1) refl

pub comment-goes_on : (b : ℕ) (bs : List ℕ) → (b == 10) ≡ false → Leads comment (b ∷ bs) [] comment bs
unfolding cut onto_all
comment-goes_on b bs e closed more = rw (e, cut) refl

pub comment-ends : (bs : List ℕ) → Leads comment (10 ∷ bs) [] between bs
unfolding cut onto_all
comment-ends bs closed more = refl

-- ---- lines and statements

pub line-goes_on : (b : ℕ) (bs : List ℕ) → (b == 10) ≡ false → Leads line (b ∷ bs) (b ∷ []) line bs
unfolding cut onto_all
line-goes_on b bs e closed more = rw e refl

pub line-ends : (bs : List ℕ) → FirstIs line (10 ∷ bs) [] (10 ∷ bs)
unfolding cut
line-ends bs closed more = refl

pub statement-ends : (bs : List ℕ) → FirstIs in_statement (59 ∷ bs) (59 ∷ []) bs
unfolding cut
statement-ends bs closed more = refl

pub quote-begins : (bs : List ℕ) → Leads in_statement (39 ∷ bs) (39 ∷ []) in_quotes bs
unfolding cut onto_all
quote-begins bs closed more = refl

pub quote-ends : (bs : List ℕ) → Leads in_quotes (39 ∷ bs) (39 ∷ []) in_statement bs
unfolding cut onto_all
quote-ends bs closed more = refl

pub statement-goes_on : (b : ℕ) (bs : List ℕ) → (b == 39) ≡ false → (b == 59) ≡ false → Leads in_statement (b ∷ bs) (b ∷ []) in_statement bs
unfolding cut onto_all
statement-goes_on b bs e f closed more = rw (f, e, cut) refl

pub quote-goes_on : (b : ℕ) (bs : List ℕ) → (b == 39) ≡ false → Leads in_quotes (b ∷ bs) (b ∷ []) in_quotes bs
unfolding cut onto_all
quote-goes_on b bs e closed more = rw (e, cut) refl

-- ---- the first byte of a command

bytes-differ : (xs ys : List ℕ) → length ys < length xs → bytes_eq xs ys ≡ false
bytes-differ [] ys l = absurd (omega arith)
bytes-differ (x ∷ xs) [] l = refl
bytes-differ (x ∷ xs) (y ∷ ys) l = on_test (x == y)
    (λ e. rw e (bytes-differ xs ys (omega arith)))
    (λ e. rw e refl)

map-length : (f : ℕ → ℕ) (xs : List ℕ) → length (map f xs) ≡ length xs
map-length f [] = refl
map-length f (x ∷ xs) = let e = map-length f xs in omega arith

no_keyword : (word keyword : List ℕ) → length keyword < length word → is_keyword word keyword ≡ false
no_keyword word keyword l = bytes-differ (map to_ascii_lowercase word) (map to_ascii_lowercase keyword)
    (omega (arith, map-length to_ascii_lowercase word, map-length to_ascii_lowercase keyword))

pub opens-short : (bs : List ℕ) → 6 < prefix_len is_first_word_byte bs → opens_statement bs ≡ false
unfolding opens_statement
opens-short bs l =
    let word : List ℕ = take (prefix_len is_first_word_byte bs) bs in
    let long : length word ≡ prefix_len is_first_word_byte bs = length-prefix_len is_first_word_byte bs in
    rw (no_keyword word (codes "CREATE") (omega (arith, long)), no_keyword word (codes "ALTER") (omega (arith, long)), no_keyword word (codes "DROP") (omega (arith, long))) refl

short-or-all : (n m : ℕ) → n ≤ m → (n < m) ⊎ (n ≡ m)
short-or-all n m l = on_test (n == m) (λ e. inr (eqb-true n m e)) (λ e. inl (grind (arith, nat_tests)))

-- the first word has its end among the bytes, or is longer than each keyword
pub opens-decided : (bs more : List ℕ) → (prefix_len is_first_word_byte bs < length bs) ⊎ (6 < length bs) → prefix_len is_first_word_byte bs ≤ length bs →
    opens_statement (bs ++ more) ≡ opens_statement bs
opens-decided bs more (inl short) within = opens-more bs more short
opens-decided bs more (inr long) within = elim (short-or-all (prefix_len is_first_word_byte bs) (length bs) within) [
  | inl short ↦ opens-more bs more short
  | inr all ↦ opens-short (bs ++ more) (omega (arith, front-no_less is_first_word_byte bs more)) ∙ sym (opens-short bs (omega arith))
]

off-word : (b k : ℕ) → is_first_word_byte k ≡ false → is_first_word_byte b ≡ true → (b == k) ≡ false
off-word b k off word = on_test (b == k)
    (λ e. absurd (true≢false (sym word ∙ (ap is_first_word_byte (eqb-true b k e) ∙ off))))
    (λ e. e)

lone-byte : (b : ℕ) (more : List ℕ) → (b == 45) ≡ false → begins_comment (b ∷ more) ≡ false
lone-byte b [] e = refl
lone-byte b (c ∷ more) e = rw e refl

begins-same : (b : ℕ) (bs more : List ℕ) → (prefix_len is_first_word_byte (b ∷ bs) < length (b ∷ bs)) ⊎ (6 < length (b ∷ bs)) → begins_comment (b ∷ (bs ++ more)) ≡ begins_comment (b ∷ bs)
begins-same b [] more (inr l) = absurd (omega arith)
begins-same b [] more (inl l) = on_test (is_first_word_byte b)
    (λ t. absurd (omega (arith, front-goes_on is_first_word_byte b [] t)))
    (λ f. on_test (b == 45)
    (λ e. absurd (true≢false (ap is_first_word_byte (sym (eqb-true b 45 e)) ∙ f)))
    (λ e. lone-byte b more e))
begins-same b (c ∷ bs) more d = refl

place-of-first : (b : ℕ) (bs : List ℕ) → is_blank b ≡ false → begins_comment (b ∷ bs) ≡ false → place_of_first_byte (b ∷ bs) ≡ (if opens_statement (b ∷ bs) then in_statement else line)
place-of-first b bs e f = rw (e, f) refl

onto_at-open : (place : ScriptPlace) (b : ℕ) (commands : List (List ℕ)) → IsCommandOpen place → onto_at place b commands ≡ onto b commands
onto_at-open between b commands is = absurd is
onto_at-open comment b commands is = absurd is
onto_at-open line b commands is = refl
onto_at-open in_statement b commands is = refl
onto_at-open in_quotes b commands is = refl

pub command-begins : (b : ℕ) (bs : List ℕ) (place : ScriptPlace) → is_blank b ≡ false → begins_comment (b ∷ bs) ≡ false
    → (prefix_len is_first_word_byte (b ∷ bs) < length (b ∷ bs)) ⊎ (6 < length (b ∷ bs)) → prefix_len is_first_word_byte (b ∷ bs) ≤ length (b ∷ bs)
    → (if opens_statement (b ∷ bs) then in_statement else line) ≡ place → IsCommandOpen place → Leads between (b ∷ bs) (b ∷ []) place bs
unfolding cut onto_all
command-begins b bs place e f decided within is opened closed more =
    let at : place_of_first_byte (b ∷ (bs ++ more)) ≡ place =
    place-of-first b (bs ++ more) e (begins-same b bs more decided ∙ f)
    ∙ ap (λ v. if v then in_statement else line) (opens-decided (b ∷ bs) more decided within) ∙ is in
    ap (λ p. onto_at p b (cut closed p (bs ++ more))) at ∙ onto_at-open place b (cut closed place (bs ++ more)) opened

word-passes : (p : ScriptPlace) (b : ℕ) (bs : List ℕ) → (p ≡ in_statement) ⊎ (p ≡ line) → is_first_word_byte b ≡ true → (closed : Bool) → cut closed p (b ∷ bs) ≡ onto b (cut closed p bs)
unfolding cut
word-passes p b bs (inl e) t closed = rw e (rw (off-word b 59 refl t, off-word b 39 refl t, cut) refl)
word-passes p b bs (inr e) t closed = rw e (rw (off-word b 10 refl t, cut) refl)

words-open : (p : ScriptPlace) (bs : List ℕ) → (p ≡ in_statement) ⊎ (p ≡ line) → length bs ≤ prefix_len is_first_word_byte bs → (cut false p bs ≡ []) × (cut true p bs ≡ bs ∷ [])
unfolding cut
words-open p [] (inl e) l = rw e (refl, refl)
words-open p [] (inr e) l = rw e (refl, refl)
words-open p (b ∷ bs) which l = on_test (is_first_word_byte b)
    (λ t. let rest = words-open p bs which (omega (arith, front-goes_on is_first_word_byte b bs t, l)) in
    let passes : (closed : Bool) → cut closed p (b ∷ bs) ≡ onto b (cut closed p bs) = λ closed. word-passes p b bs which t closed in
    (passes false ∙ ap (onto b) rest.0, passes true ∙ ap (onto b) rest.1))
    (λ f. absurd (omega (arith, front-stops is_first_word_byte b bs f)))

waits-at : (b : ℕ) (bs : List ℕ) (place : ScriptPlace) → place_of_first_byte (b ∷ bs) ≡ place → (place ≡ in_statement) ⊎ (place ≡ line) → IsCommandOpen place
    → prefix_len is_first_word_byte (b ∷ bs) ≡ length (b ∷ bs) → Unended between (b ∷ bs) 0
unfolding cut
waits-at b bs place at which opened all =
    let first : (closed : Bool) → cut closed between (b ∷ bs) ≡ onto b (cut closed place bs) =
    λ closed. ap (λ p. onto_at p b (cut closed p bs)) at ∙ onto_at-open place b (cut closed place bs) opened in
    let long : length bs ≤ prefix_len is_first_word_byte bs = on_test (is_first_word_byte b)
    (λ t. omega (arith, front-goes_on is_first_word_byte b bs t, all))
    (λ f. absurd (omega (arith, front-stops is_first_word_byte b bs f, all))) in
    let rest = words-open place bs which long in
    (first false ∙ ap (onto b) rest.0, first true ∙ ap (onto b) rest.1)

pub word-waits : (b : ℕ) (bs : List ℕ) → is_blank b ≡ false → begins_comment (b ∷ bs) ≡ false → prefix_len is_first_word_byte (b ∷ bs) ≡ length (b ∷ bs) → Unended between (b ∷ bs) 0
word-waits b bs e f all = on_test (opens_statement (b ∷ bs))
    (λ o. waits-at b bs in_statement (place-of-first b bs e f ∙ ap (λ v. if v then in_statement else line) o) (inl refl) tt all)
    (λ o. waits-at b bs line (place-of-first b bs e f ∙ ap (λ v. if v then in_statement else line) o) (inr refl) tt all)

pub within-front : (p : ℕ → Bool) (bs : List ℕ) → prefix_len p bs ≤ length bs
within-front p bs = prefix_len-le-length p bs
