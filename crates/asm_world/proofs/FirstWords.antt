-- The two languages are read apart.
use Rattle.std.proofs.Common.{◌≡◌, ◌⊎◌, ℕ, ◌+◌, ◌-◌, ◌<◌, ◌≤◌, ◌||◌, ◌&&◌, Bool, true, false, List, [], ◌∷◌, ◌++◌, length, map, refl, sym, ap, subst, ◌∙◌, Some, None, inl, inr, arith}
use Rattle.std.specs.Prelude.{zero, suc, max, min, take, Result, Ok, Err, ◌==◌, nat_lt, nat_le, cond, take_while, codes}
use Rattle.std.specs.Char.{to_ascii_lowercase}
use Rattle.std.specs.Str.{bytes_eq}
use Rattle.std.proofs.lemmas.Bool.{eqb-true, cases_lt}
use Rattle.std.proofs.lemmas.List.Sums.{take_while-cons}
use Rattle.std.proofs.lemmas.Slice.Eq.{bytes_eq-Decides}
use Rattle.asm_grammar.specs.Bytes.{is_blank, is_word, is_lower, upper, run_of, after_run, common}
use Rattle.asm_grammar.specs.Word.{Word, Keyword, End, same_bytes, when, with_rest, fit, near}
use Rattle.asm_grammar.specs.Syntax.{SyntaxRule, One, Then, Either, Maybe, Value}
use Rattle.asm_grammar.specs.Reading.{Failed, mapped, parse, finish, whole, any_fits, first, leads, miss}
use Rattle.asm_grammar.specs.Laws.{IsLongestFront, IsLongestLineFront}
use Rattle.asm_grammar.proofs.Lines.{longest_line}
use Rattle.asm_grammar.proofs.Longest.{longest_front}
use Rattle.asm_grammar.proofs.Tests.{both, one_of, is_true_or_false, or_right, same_is}
use Rattle.asm_grammar.proofs.Whole.{whole_texts}
use Rattle.asm_group.specs.Names.{Bytes}
use Rattle.asm_world.specs.Command.{Unreadable}
use Rattle.asm_grammar.specs.FirstWord.{is_first_word_byte, is_keyword, opens_statement}
use Rattle.asm_world.specs.FirstWord.{begins_blank, statement_or_none, keyword_front}
use Rattle.asm_world.specs.Grammar as g
use Rattle.asm_world.specs.Language.{command_of, command_from, verb_or_none}
use Rattle.asm_world.specs.VerbMeaning.{verb_of}
use Rattle.asm_world.specs.Verbs as v
use Rattle.asm_world.proofs.Commands.{verb_leads, verb_read}

-- A STATEMENT IS NO VERB

-- a letter of one of two cases
lower_cases : (b n : ℕ) → to_ascii_lowercase b ≡ n → (b ≡ n) ⊎ (b + 32 ≡ n)
lower_cases b n h = elim (is_true_or_false (nat_lt b 65)) [
  | inl x ↦ inl (rw x at h)
  | inr x ↦ elim (is_true_or_false (nat_lt b 91)) [ inl y ↦ inr (rw (x, y) at h) | inr y ↦ inl (rw (x, y) at h) ]
]

lower_is : (b n m : ℕ) → m + 32 ≡ n → to_ascii_lowercase b ≡ n → (b ≡ m) ⊎ (b ≡ n)
lower_is b n m e h = elim (lower_cases b n h) [ inl x ↦ inr x | inr x ↦ inl (omega arith) ]

-- what holds of the two cases of each of two letters holds of the letters
of_four : (P : ℕ → ℕ → Type 0) (b c m n x y : ℕ) → (b ≡ m) ⊎ (b ≡ n) → (c ≡ x) ⊎ (c ≡ y) → P m x → P m y → P n x → P n y → P b c
of_four P b c m n x y (inl p) (inl q) h i j k = subst (λ z. P z c) (sym p) (subst (λ z. P m z) (sym q) h)
of_four P b c m n x y (inl p) (inr q) h i j k = subst (λ z. P z c) (sym p) (subst (λ z. P m z) (sym q) i)
of_four P b c m n x y (inr p) (inl q) h i j k = subst (λ z. P z c) (sym p) (subst (λ z. P n z) (sym q) j)
of_four P b c m n x y (inr p) (inr q) h i j k = subst (λ z. P z c) (sym p) (subst (λ z. P n z) (sym q) k)

-- no verb begins with these two bytes, and a statement begins with the first
record Opens (b c : ℕ) : Type 0 where
  no_verb : (text : List ℕ) → any_fits (first v.verb) (b ∷ c ∷ text) ≡ false
  more : List ℕ
  value : Value g.statement
  begins : whole g.statement g.semicolon (b ∷ more) ≡ Ok value

opens_create : (b c : ℕ) → to_ascii_lowercase b ≡ 99 → to_ascii_lowercase c ≡ 114 → Opens b c
opens_create b c h k = of_four Opens b c 67 99 82 114 (lower_is b 99 67 refl h) (lower_is c 114 82 refl k)
    (record { no_verb = λ t. refl; more = codes "REATE DISK 'd' SIZE 1;"; value = _; begins = refl })
    (record { no_verb = λ t. refl; more = codes "REATE DISK 'd' SIZE 1;"; value = _; begins = refl })
    (record { no_verb = λ t. refl; more = codes "REATE DISK 'd' SIZE 1;"; value = _; begins = refl })
    (record { no_verb = λ t. refl; more = codes "REATE DISK 'd' SIZE 1;"; value = _; begins = refl })

opens_alter : (b c : ℕ) → to_ascii_lowercase b ≡ 97 → to_ascii_lowercase c ≡ 108 → Opens b c
opens_alter b c h k = of_four Opens b c 65 97 76 108 (lower_is b 97 65 refl h) (lower_is c 108 76 refl k)
    (record { no_verb = λ t. refl; more = codes "LTER DISKGROUP d MOUNT;"; value = _; begins = refl })
    (record { no_verb = λ t. refl; more = codes "LTER DISKGROUP d MOUNT;"; value = _; begins = refl })
    (record { no_verb = λ t. refl; more = codes "LTER DISKGROUP d MOUNT;"; value = _; begins = refl })
    (record { no_verb = λ t. refl; more = codes "LTER DISKGROUP d MOUNT;"; value = _; begins = refl })

opens_drop : (b c : ℕ) → to_ascii_lowercase b ≡ 100 → to_ascii_lowercase c ≡ 114 → Opens b c
opens_drop b c h k = of_four Opens b c 68 100 82 114 (lower_is b 100 68 refl h) (lower_is c 114 82 refl k)
    (record { no_verb = λ t. refl; more = codes "ROP DISKGROUP d;"; value = _; begins = refl })
    (record { no_verb = λ t. refl; more = codes "ROP DISKGROUP d;"; value = _; begins = refl })
    (record { no_verb = λ t. refl; more = codes "ROP DISKGROUP d;"; value = _; begins = refl })
    (record { no_verb = λ t. refl; more = codes "ROP DISKGROUP d;"; value = _; begins = refl })

-- the first two bytes of the first word
first_two : (text : List ℕ) (l m : ℕ) (others : List ℕ) → map to_ascii_lowercase (run_of is_first_word_byte text) ≡ l ∷ m ∷ others
    → (b c : ℕ) × (rest : List ℕ) × (text ≡ b ∷ c ∷ rest) × (to_ascii_lowercase b ≡ l) × (to_ascii_lowercase c ≡ m)
first_two [] l m others e = cc
first_two (b ∷ []) l m others e = elim (is_true_or_false (is_first_word_byte b)) [ inl x ↦ absurd (let f = rw x at e in cc) | inr x ↦ absurd (let f = rw x at e in cc) ]
first_two (b ∷ c ∷ rest) l m others e = elim (is_true_or_false (is_first_word_byte b)) [
  | inr x ↦ absurd (let f = rw x at e in cc)
  | inl x ↦ elim (is_true_or_false (is_first_word_byte c)) [
    | inr y ↦ absurd (let f = rw (x, y) at e in cc)
    | inl y ↦ heads b c rest l m others (rw (x, y) at e)
  ]
] where
  heads : (b c : ℕ) (rest : List ℕ) (l m : ℕ) (others : List ℕ) → to_ascii_lowercase b ∷ to_ascii_lowercase c ∷ map to_ascii_lowercase (run_of is_first_word_byte rest) ≡ l ∷ m ∷ others
      → (x y : ℕ) × (r : List ℕ) × (b ∷ c ∷ rest ≡ x ∷ y ∷ r) × (to_ascii_lowercase x ≡ l) × (to_ascii_lowercase y ≡ m)
  heads b c rest l m others e = (b, c, rest, refl, cc, cc)

while_is_run : (p : ℕ → Bool) (text : List ℕ) → take_while p text ≡ run_of p text
while_is_run p [] = refl
while_is_run p (b ∷ text) = take_while-cons p b text ∙ both_ways (p b) b (while_is_run p text) where
  both_ways : {xs ys : List ℕ} (t : Bool) (b : ℕ) → xs ≡ ys → cond t (b ∷ xs) [] ≡ cond t (b ∷ ys) []
  both_ways true b e = ap (λ z. b ∷ z) e
  both_ways false b e = refl

same_bytes_are : (xs ys : List ℕ) → bytes_eq xs ys ≡ true → xs ≡ ys
same_bytes_are xs ys e = (bytes_eq-Decides xs ys).0 e

take_two : (n b c : ℕ) (rest : List ℕ) → 1 < n → take n (b ∷ c ∷ rest) ≡ b ∷ c ∷ take (n - 2) rest
take_two zero b c rest h = absurd (omega arith)
take_two (suc zero) b c rest h = absurd (omega arith)
take_two (suc (suc n)) b c rest h = let e : suc (suc n) - 2 ≡ n = omega arith in rw e refl

opening_bytes : (text : List ℕ) → opens_statement text ≡ true → (b c : ℕ) × (rest : List ℕ) × (text ≡ b ∷ c ∷ rest) × Opens b c
unfolding opens_statement
opening_bytes text h =
    let word = take_while is_first_word_byte text in
    elim (one_of (is_keyword word (codes "CREATE") || is_keyword word (codes "ALTER")) (is_keyword word (codes "DROP")) h) [
      | inl x ↦ elim (one_of (is_keyword word (codes "CREATE")) (is_keyword word (codes "ALTER")) x) [
        | inl k ↦ let t = first_two text 99 114 _ (letters text (codes "create") k) in (t.0, t.1, t.2, t.3, opens_create t.0 t.1 t.4 t.5)
        | inr k ↦ let t = first_two text 97 108 _ (letters text (codes "alter") k) in (t.0, t.1, t.2, t.3, opens_alter t.0 t.1 t.4 t.5)
      ]
      | inr k ↦ let t = first_two text 100 114 _ (letters text (codes "drop") k) in (t.0, t.1, t.2, t.3, opens_drop t.0 t.1 t.4 t.5)
    ]
  where
    letters : (text word : List ℕ) → bytes_eq (map to_ascii_lowercase (take_while is_first_word_byte text)) word ≡ true → map to_ascii_lowercase (run_of is_first_word_byte text) ≡ word
    letters text word e = ap (λ z. map to_ascii_lowercase z) (sym (while_is_run is_first_word_byte text)) ∙ same_bytes_are _ word e

-- a verb has less of such a text at its beginning than a statement
less_of_verb : (b c : ℕ) (rest : List ℕ) (at far : ℕ) → Opens b c → IsLongestFront g.statement 59 (b ∷ c ∷ rest) at → IsLongestLineFront v.verb (b ∷ c ∷ rest) far → far ≤ at
less_of_verb b c rest at far o s l = elim (cases_lt at far) [ inr h ↦ h | inl h ↦ absurd (greater at far h s l) ] where
  one_at : (at : ℕ) → IsLongestFront g.statement 59 (b ∷ c ∷ rest) at → at < 1 → ⊥
  one_at at s h = let t = (whole_texts g.statement 59 (b ∷ o.more) o.value refl).0 o.begins in s.longest 1 h (omega arith) o.more o.value t

  two_at : (far : ℕ) → IsLongestLineFront v.verb (b ∷ c ∷ rest) far → 1 < far → ⊥
  two_at far l h =
      let x = l.begins in
      let y : any_fits (first v.verb) (take far (b ∷ c ∷ rest) ++ x.0) ≡ true = verb_leads _ (verb_of x.1) (record { value = x.1; rest = x.2.rest; has = x.2.has; end = x.2.end; is = refl }) in
      let z : take far (b ∷ c ∷ rest) ≡ b ∷ c ∷ take (far - 2) rest = take_two far b c rest h in
      let n : any_fits (first v.verb) (take far (b ∷ c ∷ rest) ++ x.0) ≡ false = subst (λ t. any_fits (first v.verb) (t ++ x.0) ≡ false) (sym z) (o.no_verb (take (far - 2) rest ++ x.0)) in
      cc

  greater : (at far : ℕ) → at < far → IsLongestFront g.statement 59 (b ∷ c ∷ rest) at → IsLongestLineFront v.verb (b ∷ c ∷ rest) far → ⊥
  greater at far h s l = elim (cases_lt at 1) [ inl k ↦ one_at at s k | inr k ↦ two_at far l (omega arith) ]

alone_by : (b c : ℕ) (rest : List ℕ) → Opens b c → (r : Result (Value g.statement) ℕ) (q : Result (Value v.verb) ℕ)
    → whole g.statement g.semicolon (b ∷ c ∷ rest) ≡ r → whole v.verb End (b ∷ c ∷ rest) ≡ q → command_from r q ≡ statement_or_none r
alone_by b c rest o (Ok value) q e f = refl
alone_by b c rest o (Err at) (Ok value) e f =
    absurd (let y = verb_leads (b ∷ c ∷ rest) (verb_of value) (verb_read (b ∷ c ∷ rest) value f) in let n = o.no_verb rest in cc)
alone_by b c rest o (Err at) (Err far) e f =
    let s = longest_front g.statement 59 (b ∷ c ∷ rest) at refl refl refl refl e in
    let l = longest_line v.verb (b ∷ c ∷ rest) far refl refl f in
    let h : far ≤ at = less_of_verb b c rest at far o s l in
    let m : max at far ≡ at = omega arith in ap (λ n. Unreadable n) m

pub statements_alone : (text : Bytes) → opens_statement text ≡ true → command_of text ≡ statement_or_none (whole g.statement g.semicolon text)
statements_alone text h =
    let t = opening_bytes text h in
    let P : Bytes → Type 0 = λ x. command_of x ≡ statement_or_none (whole g.statement g.semicolon x) in
    subst P (sym t.3) (alone_by t.0 t.1 t.2 t.4 (whole g.statement g.semicolon (t.0 ∷ t.1 ∷ t.2)) (whole v.verb End (t.0 ∷ t.1 ∷ t.2)) refl refl)

-- A VERB IS NO STATEMENT

-- what stands before and behind a keyword, for any grammar
skipped : (a b : SyntaxRule) (text : List ℕ) (left : ℕ) → leads a text ≡ false → parse (Either a b) text left ≡ mapped (λ w. inr w) (parse b text (miss (first a) text left))
skipped a b text left h = rw h refl

chosen : (a b : SyntaxRule) (text : List ℕ) (left : ℕ) → leads a text ≡ true → parse (Either a b) text left ≡ mapped (λ w. inl w) (parse a text left)
chosen a b text left h = rw h refl

key_taken : (k : List ℕ) (b : SyntaxRule) (text rest : List ℕ) (left : ℕ) → fit (Keyword k) text ≡ Some (tt, rest) → parse (Then (One (Keyword k)) b) text left ≡ mapped (λ w. (tt, w)) (parse b rest left)
key_taken k b text rest left h = rw h refl

key_missed : (k : List ℕ) (b : SyntaxRule) (text : List ℕ) (left : ℕ) → fit (Keyword k) text ≡ None → parse (Then (One (Keyword k)) b) text left ≡ Failed (min left (length text - near (Keyword k) text))
key_missed k b text left h = rw h refl

-- three alternatives that begin with keywords, of which none stands there
none_of_three : (i j k : List ℕ) (x y z : SyntaxRule) (text : List ℕ) (left : ℕ) → fit (Keyword i) text ≡ None → fit (Keyword j) text ≡ None → fit (Keyword k) text ≡ None
    → parse (Either (Then (One (Keyword i)) x) (Either (Then (One (Keyword j)) y) (Then (One (Keyword k)) z))) text left
    ≡ Failed (min (min (min left (length text - near (Keyword i) text)) (length text - near (Keyword j) text)) (length text - near (Keyword k) text))
none_of_three i j k x y z text left a b c =
    skipped (Then (One (Keyword i)) x) (Either (Then (One (Keyword j)) y) (Then (One (Keyword k)) z)) text left (rw a refl)
    ∙ (ap (λ o. mapped (λ w. inr w) o) (skipped (Then (One (Keyword j)) y) (Then (One (Keyword k)) z) text _ (rw b refl))
    ∙ ap (λ o. mapped (λ w. inr w) (mapped (λ w. inr w) o)) (key_missed k z text _ c))

common_short : (k text : List ℕ) → common k text ≤ length text
common_short [] text = omega arith
common_short (b ∷ k) [] = omega arith
common_short (b ∷ k) (c ∷ text) = elim (is_true_or_false (b == c)) [
  | inl x ↦ let h = common_short k text in rw x (omega arith)
  | inr x ↦ rw x (omega arith)
]

upper_short : (text : List ℕ) → length (map upper text) ≡ length text
upper_short [] = refl
upper_short (b ∷ text) = let h = upper_short text in omega arith

near_key : (k text : List ℕ) → begins_blank text ≡ false → near (Keyword k) text ≡ common k (map upper text)
near_key k [] h = let e : 0 + common k [] ≡ common k [] = omega arith in e
near_key k (b ∷ text) h = rw h (omega arith)

near_short : (k text : List ℕ) → begins_blank text ≡ false → near (Keyword k) text ≤ length text
near_short k text h = let a = common_short k (map upper text) in let b = upper_short text in let e = near_key k text h in omega arith

fit_is : (k text : List ℕ) → begins_blank text ≡ false → fit (Keyword k) text ≡ with_rest (after_run is_word text) (when {A = Unit {0}} (same_bytes (map upper (run_of is_word text)) k) tt)
fit_is k [] h = refl
fit_is k (b ∷ text) h = rw h refl

far_of_three : (len a b c : ℕ) → a ≤ len → b ≤ len → c ≤ len → len - min (min (min len (len - a)) (len - b)) (len - c) ≡ max a (max b c)
far_of_three len a b c h i j = omega arith

-- none of the keywords stands there
missed : (text : Bytes) → begins_blank text ≡ false → fit (Keyword (codes "CREATE")) text ≡ None → fit (Keyword (codes "DROP")) text ≡ None → fit (Keyword (codes "ALTER")) text ≡ None
    → whole g.statement g.semicolon text ≡ Err (keyword_front text)
missed text h a b c =
    let front : length text - min (min (min (length text) (length text - near (Keyword (codes "CREATE")) text)) (length text - near (Keyword (codes "DROP")) text)) (length text - near (Keyword (codes "ALTER")) text) ≡ keyword_front text =
    far_of_three (length text) (near (Keyword (codes "CREATE")) text) (near (Keyword (codes "DROP")) text) (near (Keyword (codes "ALTER")) text)
    (near_short (codes "CREATE") text h) (near_short (codes "DROP") text h) (near_short (codes "ALTER") text h)
    ∙ ap (λ n. max n (max (near (Keyword (codes "DROP")) text) (near (Keyword (codes "ALTER")) text))) (near_key (codes "CREATE") text h)
    ∙ ap (λ n. max (common (codes "CREATE") (map upper text)) (max n (near (Keyword (codes "ALTER")) text))) (near_key (codes "DROP") text h)
    ∙ ap (λ n. max (common (codes "CREATE") (map upper text)) (max (common (codes "DROP") (map upper text)) n)) (near_key (codes "ALTER") text h) in
    ap (λ o. finish g.semicolon (length text) o) (none_of_three (codes "CREATE") (codes "DROP") (codes "ALTER")
    (Either g.create_disk g.create_group) g.drop_group (Then (g.key (codes "DISKGROUP")) (Then g.name g.clause)) text (length text) a b c)
    ∙ ap (λ n. Err n) front

-- A KEYWORD THAT GOES ON

not_at : (b n : ℕ) → is_word n ≡ false → is_word b ≡ true → (b == n) ≡ false
not_at b n f h = elim (is_true_or_false (b == n)) [
  | inr x ↦ x
  | inl x ↦ absurd (let q : b ≡ n = eqb-true b n x in let t : is_word n ≡ true = subst (λ z. is_word z ≡ true) q h in cc)
]

word_first : (b : ℕ) → is_word b ≡ true → is_first_word_byte b ≡ true
word_first b h = rw (not_at b 32 refl h, not_at b 9 refl h, not_at b 13 refl h, not_at b 10 refl h, not_at b 39 refl h, not_at b 40 refl h, not_at b 41 refl h, not_at b 44 refl h, not_at b 59 refl h, not_at b 61 refl h) refl

-- the first word is the run of a name's bytes and what goes on behind it
first_run : (text : List ℕ) → run_of is_first_word_byte text ≡ run_of is_word text ++ run_of is_first_word_byte (after_run is_word text)
first_run [] = refl
first_run (b ∷ text) = elim (is_true_or_false (is_word b)) [
  | inl x ↦ rw (x, word_first b x) (ap (λ z. b ∷ z) (first_run text))
  | inr x ↦ rw x refl
]

lower_upper : (b : ℕ) → to_ascii_lowercase (upper b) ≡ to_ascii_lowercase b
lower_upper b = elim (is_true_or_false (is_lower b)) [ inr x ↦ rw x refl | inl x ↦ rw x (of_small b x) ] where
  of_small : (b : ℕ) → is_lower b ≡ true → to_ascii_lowercase (b - 32) ≡ to_ascii_lowercase b
  of_small b h = let p = both (nat_le 97 b) (nat_le b 122) h in let lo : nat_le 97 b ≡ true = p.0 in let hi : nat_le b 122 ≡ true = p.1 in grind arith

lowers_uppers : (text : List ℕ) → map to_ascii_lowercase (map upper text) ≡ map to_ascii_lowercase text
lowers_uppers [] = refl
lowers_uppers (b ∷ text) = rw (lower_upper b) (ap (λ z. to_ascii_lowercase b ∷ z) (lowers_uppers text))

-- the run of a name's bytes is a keyword, and so is the first word where it ends there
is_keyword_run : (text k : List ℕ) → map upper (run_of is_word text) ≡ k → run_of is_first_word_byte (after_run is_word text) ≡ [] → is_keyword (take_while is_first_word_byte text) k ≡ true
is_keyword_run text k e f =
    let w : take_while is_first_word_byte text ≡ run_of is_word text = while_is_run is_first_word_byte text ∙ first_run text ∙ ap (λ z. run_of is_word text ++ z) f ∙ append_nothing (run_of is_word text) in
    (bytes_eq-Decides (map to_ascii_lowercase (take_while is_first_word_byte text)) (map to_ascii_lowercase k)).1
    (ap (λ z. map to_ascii_lowercase z) w ∙ sym (lowers_uppers (run_of is_word text)) ∙ ap (λ z. map to_ascii_lowercase z) e)
  where
    append_nothing : (xs : List ℕ) → xs ++ [] ≡ xs
    append_nothing [] = refl
    append_nothing (x ∷ xs) = ap (λ z. x ∷ z) (append_nothing xs)

-- what stands behind a keyword that is no first word: a byte that goes on with it
record GoesOn (rest : List ℕ) : Type 0 where
  byte : ℕ
  others : List ℕ
  is : rest ≡ byte ∷ others
  first : is_first_word_byte byte ≡ true
  no_word : is_word byte ≡ false

no_more_word : (text : List ℕ) (b : ℕ) (others : List ℕ) → after_run is_word text ≡ b ∷ others → is_word b ≡ false
no_more_word [] b others e = cc
no_more_word (c ∷ text) b others e = elim (is_true_or_false (is_word c)) [
  | inl x ↦ no_more_word text b others (rw x at e)
  | inr x ↦ heads c text b others (rw x at e) x
] where
  heads : (c : ℕ) (text : List ℕ) (b : ℕ) (others : List ℕ) → c ∷ text ≡ b ∷ others → is_word c ≡ false → is_word b ≡ false
  heads c text b others e x = let q : c ≡ b = cc in subst (λ z. is_word z ≡ false) q x

goes_on : (rest : List ℕ) → (run_of is_first_word_byte rest ≡ [] → ⊥) → ((b : ℕ) (others : List ℕ) → rest ≡ b ∷ others → is_word b ≡ false) → GoesOn rest
goes_on [] none h = absurd (none refl)
goes_on (b ∷ others) none h = elim (is_true_or_false (is_first_word_byte b)) [
  | inl x ↦ record { byte = b; others = others; is = refl; first = x; no_word = h b others refl }
  | inr x ↦ absurd (none (rw x refl))
]

keyword_goes_on : (text k : List ℕ) → map upper (run_of is_word text) ≡ k → (is_keyword (take_while is_first_word_byte text) k ≡ true → ⊥) → GoesOn (after_run is_word text)
keyword_goes_on text k e none = goes_on (after_run is_word text) (λ f. none (is_keyword_run text k e f)) (no_more_word text)

first_blank : (b : ℕ) → is_first_word_byte b ≡ true → is_blank b ≡ false
first_blank b h = elim (is_true_or_false (is_blank b)) [ inr x ↦ x | inl x ↦ absurd (let f = rw x at h in cc) ]

upper_same : (b : ℕ) → is_word b ≡ false → upper b ≡ b
upper_same b h = elim (is_true_or_false (is_lower b)) [ inr x ↦ rw x refl | inl x ↦ absurd (lower_word b x h) ] where
  lower_word : (b : ℕ) → is_lower b ≡ true → is_word b ≡ false → ⊥
  lower_word b x h = elim (is_true_or_false (nat_le 65 b && nat_le b 90)) [ inl c ↦ (let f = rw c at h in cc) | inr c ↦ (let f = rw (c, x) at h in cc) ]

not_d : (b : ℕ) → is_word b ≡ false → (68 == upper b) ≡ false
not_d b h = elim (is_true_or_false (68 == upper b)) [
  | inr x ↦ x
  | inl x ↦ absurd (let q : 68 ≡ b = eqb-true 68 (upper b) x ∙ upper_same b h in let t : is_word b ≡ true = subst (λ z. is_word z ≡ true) q refl in cc)
]

-- behind such a keyword no word of D or d begins
nothing_near : (k rest : List ℕ) → GoesOn rest → begins_blank rest ≡ false × (near (Keyword (68 ∷ k)) rest ≡ 0) × (fit (Keyword (68 ∷ k)) rest ≡ None)
nothing_near k rest goes = subst P (sym goes.is) (here goes.byte goes.others (first_blank goes.byte goes.first) goes.no_word) where
  P : List ℕ → Type 0
  P r = begins_blank r ≡ false × (near (Keyword (68 ∷ k)) r ≡ 0) × (fit (Keyword (68 ∷ k)) r ≡ None)

  here : (b : ℕ) (others : List ℕ) → is_blank b ≡ false → is_word b ≡ false → begins_blank (b ∷ others) ≡ false × (near (Keyword (68 ∷ k)) (b ∷ others) ≡ 0) × (fit (Keyword (68 ∷ k)) (b ∷ others) ≡ None)
  here b others x y = (x, near_key (68 ∷ k) (b ∷ others) x ∙ rw (not_d b y) refl, fit_is (68 ∷ k) (b ∷ others) x ∙ rw y refl)

run_and_rest : (text : List ℕ) → length text ≡ length (run_of is_word text) + length (after_run is_word text)
run_and_rest [] = refl
run_and_rest (b ∷ text) = elim (is_true_or_false (is_word b)) [ inl x ↦ let e = run_and_rest text in rw x (omega arith) | inr x ↦ rw x (omega arith) ]

uppers_are : (text k : List ℕ) → map upper (run_of is_word text) ≡ k → map upper text ≡ k ++ map upper (after_run is_word text)
uppers_are text k e = split text ∙ ap (λ z. z ++ map upper (after_run is_word text)) e where
  split : (text : List ℕ) → map upper text ≡ map upper (run_of is_word text) ++ map upper (after_run is_word text)
  split [] = refl
  split (b ∷ text) = elim (is_true_or_false (is_word b)) [ inl x ↦ rw x (ap (λ z. upper b ∷ z) (split text)) | inr x ↦ rw x refl ]

run_length : (text k : List ℕ) → map upper (run_of is_word text) ≡ k → length (run_of is_word text) ≡ length k
run_length text k e = sym (upper_short (run_of is_word text)) ∙ ap (λ z. length z) e

-- whether a keyword stands there, where the run of a name's bytes is another
fit_at : (j k text : List ℕ) → begins_blank text ≡ false → map upper (run_of is_word text) ≡ k → fit (Keyword j) text ≡ with_rest (after_run is_word text) (when {A = Unit {0}} (same_bytes k j) tt)
fit_at j k text h e = fit_is j text h ∙ ap (λ z. with_rest (after_run is_word text) (when {A = Unit {0}} (same_bytes z j) tt)) e

near_at : (j k text : List ℕ) → begins_blank text ≡ false → map upper (run_of is_word text) ≡ k → near (Keyword j) text ≡ common j (k ++ map upper (after_run is_word text))
near_at j k text h e = near_key j text h ∙ ap (λ z. common j z) (uppers_are text k e)

-- CREATE, and then neither DISK nor DISKGROUP
after_create : (x y b : SyntaxRule) (text : List ℕ) (left : ℕ) (rest : List ℕ) → fit (Keyword (codes "CREATE")) text ≡ Some (tt, rest) → GoesOn rest → length rest ≤ left
    → (last : Word) (len : ℕ) → finish last len (parse (Either (Then (One (Keyword (codes "CREATE"))) (Either (Then (One (Keyword (codes "DISK"))) x) (Then (One (Keyword (codes "DISKGROUP"))) y))) b) text left) ≡ Err (len - length rest)
after_create x y b text left rest e goes h last len =
    let disk = nothing_near (codes "ISK") rest goes in
    let group = nothing_near (codes "ISKGROUP") rest goes in
    let inner : parse (Either (Then (One (Keyword (codes "DISK"))) x) (Then (One (Keyword (codes "DISKGROUP"))) y)) rest left ≡ Failed (min (min left (length rest - near (Keyword (codes "DISK")) rest)) (length rest - near (Keyword (codes "DISKGROUP")) rest)) =
    skipped (Then (One (Keyword (codes "DISK"))) x) (Then (One (Keyword (codes "DISKGROUP"))) y) rest left (rw disk.2 refl) ∙ ap (λ o. mapped (λ w. inr w) o) (key_missed (codes "DISKGROUP") y rest _ group.2) in
    let size : min (min left (length rest - near (Keyword (codes "DISK")) rest)) (length rest - near (Keyword (codes "DISKGROUP")) rest) ≡ length rest = let p = disk.1 in let q = group.1 in omega arith in
    ap (λ o. finish last len o) (chosen (Then (One (Keyword (codes "CREATE"))) (Either (Then (One (Keyword (codes "DISK"))) x) (Then (One (Keyword (codes "DISKGROUP"))) y))) b text left (rw e refl)
    ∙ ap (λ o. mapped (λ w. inl w) o) (key_taken (codes "CREATE") (Either (Then (One (Keyword (codes "DISK"))) x) (Then (One (Keyword (codes "DISKGROUP"))) y)) text rest left e ∙ ap (λ o. mapped (λ w. (tt, w)) o) inner))
    ∙ ap (λ n. Err (len - n)) size

-- DROP, and then not DISKGROUP
after_drop : (a x b : SyntaxRule) (text : List ℕ) (left : ℕ) (rest : List ℕ) → fit (Keyword (codes "CREATE")) text ≡ None → fit (Keyword (codes "DROP")) text ≡ Some (tt, rest) → GoesOn rest
    → length rest ≤ min left (length text - near (Keyword (codes "CREATE")) text) → (last : Word) (len : ℕ)
    → finish last len (parse (Either (Then (One (Keyword (codes "CREATE"))) a) (Either (Then (One (Keyword (codes "DROP"))) (Then (One (Keyword (codes "DISKGROUP"))) x)) b)) text left) ≡ Err (len - length rest)
after_drop a x b text left rest n e goes h last len =
    let group = nothing_near (codes "ISKGROUP") rest goes in
    let left1 = min left (length text - near (Keyword (codes "CREATE")) text) in
    let size : min left1 (length rest - near (Keyword (codes "DISKGROUP")) rest) ≡ length rest = let q = group.1 in omega arith in
    ap (λ o. finish last len o) (skipped (Then (One (Keyword (codes "CREATE"))) a) (Either (Then (One (Keyword (codes "DROP"))) (Then (One (Keyword (codes "DISKGROUP"))) x)) b) text left (rw n refl)
    ∙ ap (λ o. mapped (λ w. inr w) o) (chosen (Then (One (Keyword (codes "DROP"))) (Then (One (Keyword (codes "DISKGROUP"))) x)) b text left1 (rw e refl)
    ∙ ap (λ o. mapped (λ w. inl w) o) (key_taken (codes "DROP") (Then (One (Keyword (codes "DISKGROUP"))) x) text rest left1 e ∙ ap (λ o. mapped (λ w. (tt, w)) o) (key_missed (codes "DISKGROUP") x rest left1 group.2))))
    ∙ ap (λ n. Err (len - n)) size

-- ALTER, and then not DISKGROUP
after_alter : (a b x : SyntaxRule) (text : List ℕ) (left : ℕ) (rest : List ℕ) → fit (Keyword (codes "CREATE")) text ≡ None → fit (Keyword (codes "DROP")) text ≡ None
    → fit (Keyword (codes "ALTER")) text ≡ Some (tt, rest) → GoesOn rest
    → length rest ≤ min (min left (length text - near (Keyword (codes "CREATE")) text)) (length text - near (Keyword (codes "DROP")) text) → (last : Word) (len : ℕ)
    → finish last len (parse (Either (Then (One (Keyword (codes "CREATE"))) a) (Either (Then (One (Keyword (codes "DROP"))) b) (Then (One (Keyword (codes "ALTER"))) (Then (One (Keyword (codes "DISKGROUP"))) x)))) text left) ≡ Err (len - length rest)
after_alter a b x text left rest n m e goes h last len =
    let group = nothing_near (codes "ISKGROUP") rest goes in
    let left1 = min left (length text - near (Keyword (codes "CREATE")) text) in
    let left2 = min left1 (length text - near (Keyword (codes "DROP")) text) in
    let size : min left2 (length rest - near (Keyword (codes "DISKGROUP")) rest) ≡ length rest = let q = group.1 in omega arith in
    ap (λ o. finish last len o) (skipped (Then (One (Keyword (codes "CREATE"))) a) (Either (Then (One (Keyword (codes "DROP"))) b) (Then (One (Keyword (codes "ALTER"))) (Then (One (Keyword (codes "DISKGROUP"))) x))) text left (rw n refl)
    ∙ ap (λ o. mapped (λ w. inr w) o) (skipped (Then (One (Keyword (codes "DROP"))) b) (Then (One (Keyword (codes "ALTER"))) (Then (One (Keyword (codes "DISKGROUP"))) x)) text left1 (rw m refl)
    ∙ ap (λ o. mapped (λ w. inr w) o) (key_taken (codes "ALTER") (Then (One (Keyword (codes "DISKGROUP"))) x) text rest left2 e ∙ ap (λ o. mapped (λ w. (tt, w)) o) (key_missed (codes "DISKGROUP") x rest left2 group.2))))
    ∙ ap (λ n. Err (len - n)) size

-- where the front of the keywords ends
front_at : (text k : List ℕ) (n : ℕ) → map upper (run_of is_word text) ≡ k → length k ≡ n
    → ((t : List ℕ) → max (common (codes "CREATE") (k ++ t)) (max (common (codes "DROP") (k ++ t)) (common (codes "ALTER") (k ++ t))) ≡ n)
    → length text - length (after_run is_word text) ≡ keyword_front text
front_at text k n e size h =
    let P : List ℕ → Type 0 = λ t. n ≡ max (common (codes "CREATE") t) (max (common (codes "DROP") t) (common (codes "ALTER") t)) in
    let front : n ≡ keyword_front text = subst P (sym (uppers_are text k e)) (sym (h (map upper (after_run is_word text)))) in
    let whole_size = run_and_rest text in
    let run_size = run_length text k e in
    let m : length text - length (after_run is_word text) ≡ n = omega arith in
    m ∙ front

-- the rows behind DISK, DISKGROUP and again DISKGROUP
abbrev disk_rest : SyntaxRule
disk_rest = Then g.path (Then (g.key (codes "SIZE")) g.size)

abbrev group_rest : SyntaxRule
group_rest = Then g.name (Then (Maybe (Then g.kind (g.key (codes "REDUNDANCY")))) (Then g.failgroups (Maybe (Then (g.key (codes "ATTRIBUTE")) (g.listed g.attribute)))))

abbrev end_rest : SyntaxRule
end_rest = Then g.name (Maybe (Then (Either (g.key (codes "INCLUDING")) (g.key (codes "EXCLUDING"))) (g.key (codes "CONTENTS"))))

front_by : (text : Bytes) → begins_blank text ≡ false → (is_keyword (take_while is_first_word_byte text) (codes "CREATE") ≡ true → ⊥)
    → (is_keyword (take_while is_first_word_byte text) (codes "ALTER") ≡ true → ⊥) → (is_keyword (take_while is_first_word_byte text) (codes "DROP") ≡ true → ⊥)
    → whole g.statement g.semicolon text ≡ Err (keyword_front text)
front_by text h no_create no_alter no_drop =
    elim (is_true_or_false (same_bytes (map upper (run_of is_word text)) (codes "CREATE"))) [
      | inl c ↦ created (same_is _ (codes "CREATE") c)
      | inr c ↦ elim (is_true_or_false (same_bytes (map upper (run_of is_word text)) (codes "DROP"))) [
        | inl d ↦ dropped (same_is _ (codes "DROP") d)
        | inr d ↦ elim (is_true_or_false (same_bytes (map upper (run_of is_word text)) (codes "ALTER"))) [
          | inl a ↦ altered (same_is _ (codes "ALTER") a)
          | inr a ↦ missed text h (fit_is (codes "CREATE") text h ∙ rw c refl) (fit_is (codes "DROP") text h ∙ rw d refl) (fit_is (codes "ALTER") text h ∙ rw a refl)
        ]
      ]
    ]
  where
    created : map upper (run_of is_word text) ≡ codes "CREATE" → whole g.statement g.semicolon text ≡ Err (keyword_front text)
    created e =
        let s = run_and_rest text in
        after_create disk_rest group_rest (Either (Then (g.key (codes "DROP")) g.drop_group) (Then (g.key (codes "ALTER")) (Then (g.key (codes "DISKGROUP")) (Then g.name g.clause)))) text (length text) (after_run is_word text)
        (fit_at (codes "CREATE") (codes "CREATE") text h e) (keyword_goes_on text (codes "CREATE") e no_create) (omega arith) g.semicolon (length text)
        ∙ ap (λ n. Err n) (front_at text (codes "CREATE") 6 e refl (λ t. refl))

    dropped : map upper (run_of is_word text) ≡ codes "DROP" → whole g.statement g.semicolon text ≡ Err (keyword_front text)
    dropped e =
        let s = run_and_rest text in
        let n : near (Keyword (codes "CREATE")) text ≡ 0 = near_at (codes "CREATE") (codes "DROP") text h e in
        after_drop (Either g.create_disk g.create_group) end_rest (Then (g.key (codes "ALTER")) (Then (g.key (codes "DISKGROUP")) (Then g.name g.clause))) text (length text) (after_run is_word text)
        (fit_at (codes "CREATE") (codes "DROP") text h e) (fit_at (codes "DROP") (codes "DROP") text h e) (keyword_goes_on text (codes "DROP") e no_drop) (omega arith) g.semicolon (length text)
        ∙ ap (λ n. Err n) (front_at text (codes "DROP") 4 e refl (λ t. refl))

    altered : map upper (run_of is_word text) ≡ codes "ALTER" → whole g.statement g.semicolon text ≡ Err (keyword_front text)
    altered e =
        let s = run_and_rest text in
        let n : near (Keyword (codes "CREATE")) text ≡ 0 = near_at (codes "CREATE") (codes "ALTER") text h e in
        let m : near (Keyword (codes "DROP")) text ≡ 0 = near_at (codes "DROP") (codes "ALTER") text h e in
        after_alter (Either g.create_disk g.create_group) g.drop_group (Then g.name g.clause) text (length text) (after_run is_word text)
        (fit_at (codes "CREATE") (codes "ALTER") text h e) (fit_at (codes "DROP") (codes "ALTER") text h e) (fit_at (codes "ALTER") (codes "ALTER") text h e) (keyword_goes_on text (codes "ALTER") e no_alter) (omega arith) g.semicolon (length text)
        ∙ ap (λ n. Err n) (front_at text (codes "ALTER") 5 e refl (λ t. refl))

pub verbs_alone : (text : Bytes) → opens_statement text ≡ false → begins_blank text ≡ false → command_of text ≡ verb_or_none (keyword_front text) (whole v.verb End text)
unfolding opens_statement
verbs_alone text h b =
    let word = take_while is_first_word_byte text in
    ap (λ r. command_from r (whole v.verb End text)) (front_by text b
    (λ x. let f = rw x at h in cc) (λ x. let t = or_right (is_keyword word (codes "CREATE")) _ x in let f = rw t at h in cc) (λ x. let t = or_right (is_keyword word (codes "CREATE") || is_keyword word (codes "ALTER")) _ x in cc))
