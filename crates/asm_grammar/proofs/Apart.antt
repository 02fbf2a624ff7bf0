-- Where one word fits a text, no word that is apart from it does.
use Rattle.std.proofs.Common.{◌≡◌, ℕ, true, false, not, inl, inr, List, [], ◌∷◌, length, map, refl, sym, subst, ◌∙◌, Option, Some, None}
use Rattle.std.specs.List.{list_all}
use Rattle.std.specs.Prelude.{is_some, ◌==◌}
use Rattle.std.proofs.lemmas.Bool.{eqb-true, eq-eqb}
use Rattle.asm_grammar.specs.Argument.{Kind, Exact, Text, GroupPath, HostPath, is_of, argument_of}
use Rattle.asm_grammar.proofs.Stages.{of_is, of_run, exact_is, path_or_outside}
use Rattle.asm_grammar.specs.Bytes.{is_filled, is_word, upper, run_of, after_run}
use Rattle.asm_grammar.specs.Word.{Word, Keyword, Mark, Quoted, Argument, End, same_bytes, with_rest, gap, fit_here, fits, mark_of, quoted_of}
use Rattle.asm_grammar.specs.Reading.{any_fits, apart, kinds_apart, all_words_apart}
use Rattle.asm_grammar.proofs.Tests.{both, not_true, one_of, is_true_or_false, same_is, found_when, false_unless}

pub same_self : (xs : List ℕ) → same_bytes xs xs ≡ true
same_self [] = refl
same_self (x ∷ xs) = rw (eq-eqb x x refl) (same_self xs)

some_rest : {A : Type 0} (r : List ℕ) (o : Option A) → is_some (with_rest r o) ≡ is_some o
some_rest r None = refl
some_rest r (Some v) = refl

no_word : (b : ℕ) (text k : List ℕ) → not (length k == 0) ≡ true → is_word b ≡ false → same_bytes (map upper (run_of is_word (b ∷ text))) k ≡ false
no_word b text [] solid n = cc
no_word b text (c ∷ k) solid n = rw n refl

key_or_key : (u j k : List ℕ) → not (same_bytes j k) ≡ true → same_bytes u k ≡ true → same_bytes u j ≡ false
key_or_key u j k differ there =
    false_unless (same_bytes u j) (λ h.
    let x : u ≡ k = same_is u k there in
    let y : u ≡ j = same_is u j h in
    let s : same_bytes u u ≡ true = same_self u in
    let t : same_bytes j k ≡ true = subst (λ z. same_bytes z k ≡ true) y there in
    let f : same_bytes j k ≡ false = not_true (same_bytes j k) differ in cc)

pub mark_is : (m b : ℕ) (text : List ℕ) → is_some (mark_of m (b ∷ text)) ≡ true → b ≡ m
mark_is m b text e =
    elim (is_true_or_false (b == m)) [ inl h ↦ eqb-true b m h | inr h ↦ absurd (let f = rw h at e in cc) ]

pub quote_is : (b : ℕ) (text : List ℕ) → is_some (quoted_of (b ∷ text)) ≡ true → b ≡ 39
quote_is b text e =
    elim (is_true_or_false (b == 39)) [ inl h ↦ eqb-true b 39 h | inr h ↦ absurd (let f = rw h at e in cc) ]

-- A byte that is none of a word's doesn't begin a keyword.
no_key : (k : List ℕ) (b : ℕ) (text : List ℕ) → not (length k == 0) ≡ true → is_word b ≡ false → is_some (fit_here (Keyword k) (b ∷ text)) ≡ false
no_key k b text solid n =
    found_when {A = Unit {0}} (after_run is_word (b ∷ text)) (same_bytes (map upper (run_of is_word (b ∷ text))) k) tt ∙ no_word b text k solid n

pub rest_of : (k : Kind) (text : List ℕ) → is_some (fit_here (Argument k) text) ≡ is_of k (run_of is_filled text)
rest_of k text = some_rest (after_run is_filled text) (argument_of k (run_of is_filled text)) ∙ of_is k (run_of is_filled text)

pub same_gap : (w other : Word) → apart w other ≡ true → gap w ≡ gap other
same_gap (Keyword j) (Keyword k) a = refl
same_gap (Keyword k) (Mark m) a = refl
same_gap (Mark m) (Keyword k) a = refl
same_gap (Mark m) (Mark n) a = refl
same_gap (Keyword k) Quoted a = refl
same_gap Quoted (Keyword k) a = refl
same_gap (Mark m) Quoted a = refl
same_gap Quoted (Mark m) a = refl
same_gap (Argument k) (Argument j) a = refl
same_gap (Argument k) End a = refl
same_gap w other a = cc

exact_parts : (other : Kind) (bytes run : List ℕ) → is_of other bytes ≡ false → is_of other run ≡ true → is_of (Exact bytes) run ≡ false
exact_parts other bytes run n there = false_unless (is_of (Exact bytes) run) (λ e. let t = subst (λ x. is_of other x ≡ true) (exact_is bytes run e) there in cc)

parts_exact : (k : Kind) (bytes run : List ℕ) → not (is_of k bytes) ≡ true → is_of (Exact bytes) run ≡ true → is_of k run ≡ false
parts_exact k bytes run n there = subst (λ x. is_of k x ≡ false) (sym (exact_is bytes run there)) (not_true (is_of k bytes) n)

-- A word of one kind is none of a kind that is apart from it.
pub kinds_part : (k other : Kind) (run : List ℕ) → kinds_apart k other ≡ true → is_of other run ≡ true → is_of k run ≡ false
kinds_part (Exact bytes) other run a there = exact_parts other bytes run (not_true (is_of other bytes) a) there
kinds_part (Text GroupPath) (Text HostPath) run a there = false_unless (is_of (Text GroupPath) run) (λ e. path_or_outside run e there)
kinds_part (Text HostPath) (Text GroupPath) run a there = false_unless (is_of (Text HostPath) run) (λ e. path_or_outside run there e)
kinds_part k (Exact bytes) run a there = parts_exact k bytes run a there
kinds_part k other run a there = cc

pub apart_here : (w other : Word) (text : List ℕ) → apart w other ≡ true → is_some (fit_here other text) ≡ true → is_some (fit_here w text) ≡ false
apart_here (Keyword j) (Keyword k) text a there =
    let u = map upper (run_of is_word text) in
    found_when {A = Unit {0}} (after_run is_word text) (same_bytes u j) tt
    ∙ key_or_key u j k a (sym (found_when {A = Unit {0}} (after_run is_word text) (same_bytes u k) tt) ∙ there)
apart_here (Keyword k) (Mark m) [] a there = cc
apart_here (Keyword k) (Mark m) (b ∷ text) a there =
    let p = both (not (length k == 0)) (not (is_word m)) a in
    no_key k b text p.0 (subst (λ z. is_word z ≡ false) (sym (mark_is m b text there)) (not_true (is_word m) p.1))
apart_here (Keyword k) Quoted [] a there = cc
apart_here (Keyword k) Quoted (b ∷ text) a there =
    no_key k b text a (subst (λ z. is_word z ≡ false) (sym (quote_is b text there)) refl)
apart_here (Mark m) other [] a there = refl
apart_here (Mark m) (Keyword k) (b ∷ text) a there =
    false_unless (is_some (mark_of m (b ∷ text))) (λ e.
    let p = both (not (length k == 0)) (not (is_word m)) a in
    let n = no_key k b text p.0 (subst (λ z. is_word z ≡ false) (sym (mark_is m b text e)) (not_true (is_word m) p.1)) in cc)
apart_here (Mark m) (Mark n) (b ∷ text) a there =
    false_unless (is_some (mark_of m (b ∷ text))) (λ e.
    let x : b ≡ m = mark_is m b text e in
    let y : b ≡ n = mark_is n b text there in
    let z : m ≡ n = sym x ∙ y in
    let t : (m == n) ≡ true = eq-eqb m n z in
    let f : (m == n) ≡ false = not_true (m == n) a in cc)
apart_here (Mark m) Quoted (b ∷ text) a there =
    false_unless (is_some (mark_of m (b ∷ text))) (λ e.
    let z : m ≡ 39 = sym (mark_is m b text e) ∙ quote_is b text there in
    let t : (m == 39) ≡ true = eq-eqb m 39 z in
    let f : (m == 39) ≡ false = not_true (m == 39) a in cc)
apart_here Quoted other [] a there = refl
apart_here Quoted (Keyword k) (b ∷ text) a there =
    false_unless (is_some (quoted_of (b ∷ text))) (λ e.
    let n = no_key k b text a (subst (λ z. is_word z ≡ false) (sym (quote_is b text e)) refl) in cc)
apart_here Quoted (Mark m) (b ∷ text) a there =
    false_unless (is_some (quoted_of (b ∷ text))) (λ e.
    let z : m ≡ 39 = sym (mark_is m b text there) ∙ quote_is b text e in
    let t : (m == 39) ≡ true = eq-eqb m 39 z in
    let f : (m == 39) ≡ false = not_true (m == 39) a in cc)
apart_here (Argument k) (Argument other) text a there = rest_of k text ∙ kinds_part k other (run_of is_filled text) a (sym (rest_of other text) ∙ there)
apart_here (Argument k) End [] a there = rest_of k [] ∙ false_unless (is_of k []) (λ e. of_run k [] a e refl)
apart_here (Argument k) End (b ∷ text) a there = cc
apart_here w other text a there = cc

pub apart_is : (w other : Word) (text : List ℕ) → apart w other ≡ true → fits other text ≡ true → fits w text ≡ false
apart_is w other text a there =
    apart_here w other (after_run (gap w) text) a (subst (λ z. is_some (fit_here other (after_run z text)) ≡ true) (sym (same_gap w other a)) there)

-- Where one of the others fits, a word that is apart from each of them doesn't.
none_fits : (w : Word) (others : List Word) (text : List ℕ) → list_all (λ other. apart w other) others ≡ true → any_fits others text ≡ true → fits w text ≡ false
none_fits w [] text a there = cc
none_fits w (o ∷ others) text a there =
    let p = both (apart w o) (list_all (λ other. apart w other) others) a in
    elim (one_of (fits o text) (any_fits others text) there) [
      | inl h ↦ apart_is w o text p.0 h
      | inr h ↦ none_fits w others text p.1 h
    ]

pub none_leads : (ws others : List Word) (text : List ℕ) → all_words_apart ws others ≡ true → any_fits others text ≡ true → any_fits ws text ≡ false
none_leads [] others text a there = refl
none_leads (w ∷ ws) others text a there =
    let p = both (list_all (λ other. apart w other) others) (all_words_apart ws others) a in
    rw (none_fits w others text p.0 there) (none_leads ws others text p.1 there)
