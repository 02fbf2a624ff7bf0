-- No text is a statement and a verb, and what a text asks for is found.
use Rattle.std.proofs.Common.{◌≡◌, ◌⊎◌, ◌↔◌, ℕ, ◌<◌, ◌≤◌, ◌||◌, ◌&&◌, Bool, true, false, not, List, [], ◌∷◌, ◌++◌, length, map, refl, sym, ap, subst, ◌∙◌, inl, inr, arith}
use Rattle.std.specs.Prelude.{is_some, max, take, Result, Ok, Err, ◌==◌}
use Rattle.std.specs.List.{list_all}
use Rattle.std.proofs.lemmas.Bool.{eqb-true, cases_lt}
use Rattle.asm_grammar.specs.Argument.{Exact}
use Rattle.asm_grammar.specs.Bytes.{is_blank, is_space, is_filled, is_word, upper, run_of, after_run}
use Rattle.asm_grammar.specs.Word.{Word, Keyword, Argument, End, same_bytes, fits}
use Rattle.asm_grammar.specs.Syntax.{Value}
use Rattle.asm_grammar.specs.Reading.{whole, any_fits, first}
use Rattle.asm_grammar.specs.Laws.{IsLongestFront, IsLongestLineFront}
use Rattle.asm_grammar.proofs.Apart.{rest_of}
use Rattle.asm_grammar.proofs.Complete.{one_thing, begins, full_leads}
use Rattle.asm_grammar.proofs.Lines.{whole_lines, longest_line}
use Rattle.asm_grammar.proofs.Longest.{longest_front}
use Rattle.asm_grammar.proofs.Stages.{exact_is}
use Rattle.asm_grammar.proofs.Tests.{both, not_true, one_of, is_true_or_false, found_when}
use Rattle.asm_grammar.proofs.Whole.{whole_texts}
use Rattle.asm_group.specs.Names.{Bytes}
use Rattle.asm_world.specs.Command.{Verb, Command, Said, Asked, Unreadable}
use Rattle.asm_world.specs.Grammar as g
use Rattle.asm_world.specs.Language.{command_of, command_from, Asks, IsLongestCommandFront}
use Rattle.asm_world.specs.Meaning.{Says, statement_of}
use Rattle.asm_world.specs.Statement.{Statement}
use Rattle.asm_world.specs.VerbMeaning.{SaysVerb, verb_of}
use Rattle.asm_world.specs.Verbs as v
use Rattle.asm_world.proofs.Statements.{one_statement}

-- A WORD IN LOWER CASE AND A KEYWORD

space_blank : (b : ℕ) → is_space b ≡ true → is_blank b ≡ true
space_blank b h = elim (is_true_or_false (b == 32)) [
  | inl x ↦ rw x refl
  | inr x ↦ elim (is_true_or_false (b == 9)) [ inl y ↦ rw (x, y) refl | inr y ↦ absurd (let f = rw (x, y) at h in cc) ]
]

word_filled : (b : ℕ) → is_word b ≡ true → is_filled b ≡ true
word_filled b h = elim (is_true_or_false (b == 32)) [
  | inl x ↦ absurd (let q : b ≡ 32 = eqb-true b 32 x in let f : is_word 32 ≡ true = subst (λ z. is_word z ≡ true) q h in cc)
  | inr x ↦ elim (is_true_or_false (b == 9)) [
    | inl y ↦ absurd (let q : b ≡ 9 = eqb-true b 9 y in let f : is_word 9 ≡ true = subst (λ z. is_word z ≡ true) q h in cc)
    | inr y ↦ rw (x, y) refl
  ]
]

word_solid : (b : ℕ) → is_word b ≡ true → is_blank b ≡ false
word_solid b h = elim (is_true_or_false (is_blank b)) [ inr x ↦ x | inl x ↦ absurd (no_blank b h x) ] where
  no_blank : (b : ℕ) → is_word b ≡ true → is_blank b ≡ true → ⊥
  no_blank b h x = elim (one_of ((b == 32) || (b == 9) || (b == 13)) (b == 10) x) [
    | inr y ↦ let q : b ≡ 10 = eqb-true b 10 y in let f : is_word 10 ≡ true = subst (λ z. is_word z ≡ true) q h in cc
    | inl w ↦ elim (one_of ((b == 32) || (b == 9)) (b == 13) w) [
      | inr y ↦ let q : b ≡ 13 = eqb-true b 13 y in let f : is_word 13 ≡ true = subst (λ z. is_word z ≡ true) q h in cc
      | inl u ↦ elim (one_of (b == 32) (b == 9) u) [
        | inl y ↦ let q : b ≡ 32 = eqb-true b 32 y in let f : is_word 32 ≡ true = subst (λ z. is_word z ≡ true) q h in cc
        | inr y ↦ let q : b ≡ 9 = eqb-true b 9 y in let f : is_word 9 ≡ true = subst (λ z. is_word z ≡ true) q h in cc
      ]
    ]
  ]

-- what stands before a word is skipped the same, by spaces or by blanks
same_start : (text : List ℕ) (b : ℕ) (rest : List ℕ) → after_run is_space text ≡ b ∷ rest → is_blank b ≡ false → after_run is_blank text ≡ b ∷ rest
same_start [] b rest e n = cc
same_start (c ∷ text) b rest e n = elim (is_true_or_false (is_space c)) [
  | inl x ↦ rw (space_blank c x) (same_start text b rest (rw x at e) n)
  | inr x ↦ here c text b rest (rw x at e) n
] where
  here : (c : ℕ) (text : List ℕ) (b : ℕ) (rest : List ℕ) → c ∷ text ≡ b ∷ rest → is_blank b ≡ false → after_run is_blank (c ∷ text) ≡ b ∷ rest
  here c text b rest e n = let q : c ≡ b = cc in let m : is_blank c ≡ false = subst (λ z. is_blank z ≡ false) (sym q) n in rw m e

word_run : (text w : List ℕ) → run_of is_filled text ≡ w → list_all is_word w ≡ true → run_of is_word text ≡ w
word_run [] w e h = e
word_run (b ∷ text) [] e h = elim (is_true_or_false (is_word b)) [
  | inr x ↦ rw x refl
  | inl x ↦ absurd (let y : is_filled b ≡ true = word_filled b x in let f = rw y at e in cc)
]
word_run (b ∷ text) (c ∷ w) e h = elim (is_true_or_false (is_filled b)) [
  | inr y ↦ absurd (let f = rw y at e in cc)
  | inl y ↦ longer b text c w (rw y at e) (both (is_word c) (list_all is_word w) h).0 (λ r. word_run text w r (both (is_word c) (list_all is_word w) h).1)
] where
  longer : (b : ℕ) (text : List ℕ) (c : ℕ) (w : List ℕ) → b ∷ run_of is_filled text ≡ c ∷ w → is_word c ≡ true → (run_of is_filled text ≡ w → run_of is_word text ≡ w) → run_of is_word (b ∷ text) ≡ c ∷ w
  longer b text c w e x h =
      let q : c ≡ b = cc in
      let r : run_of is_filled text ≡ w = cc in
      let m : is_word b ≡ true = subst (λ z. is_word z ≡ true) q x in
      rw (m, h r) (ap (λ z. z ∷ w) (sym q))

-- a text that begins with a word begins with its first byte
run_begins : (text : List ℕ) (c : ℕ) (w : List ℕ) → run_of is_filled text ≡ c ∷ w → (rest : List ℕ) × (text ≡ c ∷ rest)
run_begins [] c w e = cc
run_begins (b ∷ text) c w e = elim (is_true_or_false (is_filled b)) [
  | inr y ↦ absurd (let f = rw y at e in cc)
  | inl y ↦ (text, heads b text c w (rw y at e))
] where
  heads : (b : ℕ) (text : List ℕ) (c : ℕ) (w : List ℕ) → b ∷ run_of is_filled text ≡ c ∷ w → b ∷ text ≡ c ∷ text
  heads b text c w e = let q : b ≡ c = cc in ap (λ z. z ∷ text) q

-- Where a lower case word stands, the keyword that stands there is that word.
is_keyword : (c : ℕ) (w k text : List ℕ) → list_all is_word (c ∷ w) ≡ true → fits (Argument (Exact (c ∷ w))) text ≡ true → fits (Keyword k) text ≡ true
    → same_bytes (map upper (c ∷ w)) k ≡ true
is_keyword c w k text words there key =
    let a = after_run is_space text in
    let run : run_of is_filled a ≡ c ∷ w = exact_is (c ∷ w) (run_of is_filled a) (sym (rest_of (Exact (c ∷ w)) a) ∙ there) in
    let start = run_begins a c w run in
    let blanks : after_run is_blank text ≡ c ∷ start.0 = same_start text c start.0 start.1 (word_solid c (both (is_word c) (list_all is_word w) words).0) in
    let same : after_run is_blank text ≡ a = blanks ∙ sym start.1 in
    let found : same_bytes (map upper (run_of is_word (after_run is_blank text))) k ≡ true =
    sym (found_when {A = Unit {0}} (after_run is_word (after_run is_blank text)) (same_bytes (map upper (run_of is_word (after_run is_blank text))) k) tt) ∙ key in
    let word : run_of is_word (after_run is_blank text) ≡ c ∷ w = ap (λ z. run_of is_word z) same ∙ word_run a (c ∷ w) run words in
    subst (λ z. same_bytes (map upper z) k ≡ true) word found

-- the one is a lower case word, the other a keyword that isn't it
abbrev differ : Word → Word → Bool
differ (Argument (Exact (c ∷ w))) (Keyword k) = list_all is_word (c ∷ w) && not (same_bytes (map upper (c ∷ w)) k)
differ word other = false

abbrev all_differ : List Word → List Word → Bool
all_differ words others = list_all (λ word. list_all (λ other. differ word other) others) words

not_both : (word other : Word) (text : List ℕ) → differ word other ≡ true → fits word text ≡ true → fits other text ≡ true → ⊥
not_both (Argument (Exact (c ∷ w))) (Keyword k) text d x y =
    let p = both (list_all is_word (c ∷ w)) (not (same_bytes (map upper (c ∷ w)) k)) d in
    let t : same_bytes (map upper (c ∷ w)) k ≡ true = is_keyword c w k text p.0 x y in
    let f : same_bytes (map upper (c ∷ w)) k ≡ false = not_true (same_bytes (map upper (c ∷ w)) k) p.1 in cc
not_both word other text d x y = cc

none_and_word : (word : Word) (others : List Word) (text : List ℕ) → list_all (λ other. differ word other) others ≡ true → fits word text ≡ true → any_fits others text ≡ true → ⊥
none_and_word word [] text d x y = cc
none_and_word word (o ∷ others) text d x y =
    let p = both (differ word o) (list_all (λ other. differ word other) others) d in
    elim (one_of (fits o text) (any_fits others text) y) [
      | inl h ↦ not_both word o text p.0 x h
      | inr h ↦ none_and_word word others text p.1 x h
    ]

none_and_words : (words others : List Word) (text : List ℕ) → all_differ words others ≡ true → any_fits words text ≡ true → any_fits others text ≡ true → ⊥
none_and_words [] others text d x y = cc
none_and_words (w ∷ words) others text d x y =
    let p = both (list_all (λ other. differ w other) others) (all_differ words others) d in
    elim (one_of (fits w text) (any_fits words text) x) [
      | inl h ↦ none_and_word w others text p.0 h y
      | inr h ↦ none_and_words words others text p.1 h y
    ]

statement_leads : (text : Bytes) (statement : Statement) → Says text statement → any_fits (first g.statement) text ≡ true
statement_leads text statement says = full_leads g.statement text says.rest refl (begins g.statement (g.semicolon ∷ []) says.value text says.rest refl says.has)

pub verb_leads : (text : Bytes) (verb : Verb) → SaysVerb text verb → any_fits (first v.verb) text ≡ true
verb_leads text verb says = full_leads v.verb text says.rest refl (begins v.verb (End ∷ []) says.value text says.rest refl says.has)

pub not_two : (text : Bytes) (statement : Statement) (verb : Verb) → Says text statement → SaysVerb text verb → ⊥
not_two text statement verb a b = none_and_words (first v.verb) (first g.statement) text refl (verb_leads text verb b) (statement_leads text statement a)

-- WHAT A TEXT ASKS FOR

one_verb : (text : Bytes) (x y : Verb) → SaysVerb text x → SaysVerb text y → x ≡ y
one_verb text x y a b =
    let p = one_thing v.verb (End ∷ []) a.value b.value text a.rest b.rest refl a.has (ap (λ o. is_some o || false) a.end) b.has (ap (λ o. is_some o || false) b.end) in
    sym a.is ∙ (ap verb_of p.0 ∙ b.is)

pub one_command : (text : Bytes) (c d : Command) → Asks text c → Asks text d → c ≡ d
one_command text (Said s) (Said t) a b = ap (λ z. Said z) (one_statement text s t a b)
one_command text (Said s) (Asked w) a b = absurd (not_two text s w a b)
one_command text (Said s) (Unreadable at) a b = absurd b
one_command text (Asked w) (Said s) a b = absurd (not_two text s w b a)
one_command text (Asked w) (Asked u) a b = ap (λ z. Asked z) (one_verb text w u a b)
one_command text (Asked w) (Unreadable at) a b = absurd b
one_command text (Unreadable at) d a b = absurd a

pub statement_read : (text : Bytes) (value : Value g.statement) → whole g.statement g.semicolon text ≡ Ok value → Says text (statement_of value)
statement_read text value e = let t = (whole_texts g.statement 59 text value refl).0 e in record { value = value; rest = t.rest; has = t.has; end = t.end; is = refl }

pub verb_read : (text : Bytes) (value : Value v.verb) → whole v.verb End text ≡ Ok value → SaysVerb text (verb_of value)
verb_read text value e = let t = (whole_lines v.verb text value refl).0 e in record { value = value; rest = t.rest; has = t.has; end = t.end; is = refl }

-- by what reading the text as a statement and as a verb gives
asked_by : (text : Bytes) (r : Result (Value g.statement) ℕ) (q : Result (Value v.verb) ℕ) → whole g.statement g.semicolon text ≡ r → whole v.verb End text ≡ q
    → (c : Command) → command_from r q ≡ c → Asks text c ⊎ ((at : ℕ) × (c ≡ Unreadable at))
asked_by text (Ok value) q e f c h = inl (subst (λ z. Asks text z) h (statement_read text value e))
asked_by text (Err at) (Ok value) e f c h = inl (subst (λ z. Asks text z) h (verb_read text value f))
asked_by text (Err at) (Err far) e f c h = inr (max at far, sym h)

asked : (text : Bytes) (c : Command) → command_of text ≡ c → Asks text c ⊎ ((at : ℕ) × (c ≡ Unreadable at))
asked text c h = asked_by text (whole g.statement g.semicolon text) (whole v.verb End text) refl refl c h

-- what is asked for is found: the text is read as no other command, and is not refused
found_statement : (text : Bytes) (s : Statement) → Says text s → command_of text ≡ Said s
found_statement text s says =
    let e : whole g.statement g.semicolon text ≡ Ok says.value = (whole_texts g.statement 59 text says.value refl).1 (record { rest = says.rest; has = says.has; end = says.end }) in
    ap (λ r. command_from r (whole v.verb End text)) e ∙ ap (λ z. Said z) says.is

verb_behind : (text : Bytes) (w : Verb) (r : Result (Value g.statement) ℕ) → SaysVerb text w → whole g.statement g.semicolon text ≡ r → (value : Value v.verb) → verb_of value ≡ w
    → command_from r (Ok value) ≡ Asked w
verb_behind text w (Ok s) says e value q = absurd (not_two text (statement_of s) w (statement_read text s e) says)
verb_behind text w (Err at) says e value q = ap (λ z. Asked z) q

found_verb : (text : Bytes) (w : Verb) → SaysVerb text w → command_of text ≡ Asked w
found_verb text w says =
    let e : whole v.verb End text ≡ Ok says.value = (whole_lines v.verb text says.value refl).1 (record { rest = says.rest; has = says.has; end = says.end }) in
    ap (λ r. command_from (whole g.statement g.semicolon text) r) e ∙ verb_behind text w (whole g.statement g.semicolon text) says refl says.value says.is

said_asked : (text : Bytes) (s : Statement) → command_of text ≡ Said s → Says text s
said_asked text s h = elim (asked text (Said s) h) [ inl a ↦ a | inr x ↦ absurd (let e = x.1 in cc) ]

verb_asked : (text : Bytes) (w : Verb) → command_of text ≡ Asked w → SaysVerb text w
verb_asked text w h = elim (asked text (Asked w) h) [ inl a ↦ a | inr x ↦ absurd (let e = x.1 in cc) ]

pub statements_found : (text : Bytes) (s : Statement) → (command_of text ≡ Said s) ↔ Says text s
statements_found text s = (said_asked text s, found_statement text s)

pub verbs_found : (text : Bytes) (w : Verb) → (command_of text ≡ Asked w) ↔ SaysVerb text w
verbs_found text w = (verb_asked text w, found_verb text w)

-- WHERE A TEXT IS REFUSED

no_further : (text : Bytes) (at far : ℕ) → IsLongestFront g.statement 59 text at → IsLongestLineFront v.verb text far → (n : ℕ) → max at far < n → n ≤ length text
    → (more : Bytes) (c : Command) → Asks (take n text ++ more) c → ⊥
no_further text at far s l n h k more (Said x) a = s.longest n (omega arith) k more a.value (record { rest = a.rest; has = a.has; end = a.end })
no_further text at far s l n h k more (Asked x) a = l.longest n (omega arith) k more a.value (record { rest = a.rest; has = a.has; end = a.end })
no_further text at far s l n h k more (Unreadable x) a = absurd a

begins_one : (text : Bytes) (at far : ℕ) → IsLongestFront g.statement 59 text at → IsLongestLineFront v.verb text far → (n : ℕ) → (n ≡ at) ⊎ (n ≡ far)
    → (more : Bytes) × (c : Command) × Asks (take n text ++ more) c
begins_one text at far s l n (inl e) =
    let b = s.begins in
    rw e (b.0, Said (statement_of b.1), record { value = b.1; rest = b.2.rest; has = b.2.has; end = b.2.end; is = refl })
begins_one text at far s l n (inr e) =
    let b = l.begins in
    rw e (b.0, Asked (verb_of b.1), record { value = b.1; rest = b.2.rest; has = b.2.has; end = b.2.end; is = refl })

greater_is : (a b : ℕ) → (max a b ≡ a) ⊎ (max a b ≡ b)
greater_is a b = elim (cases_lt a b) [ inl h ↦ inr (omega arith) | inr h ↦ inl (omega arith) ]

longest_by : (text : Bytes) (r : Result (Value g.statement) ℕ) (q : Result (Value v.verb) ℕ) → whole g.statement g.semicolon text ≡ r → whole v.verb End text ≡ q
    → (n : ℕ) → command_from r q ≡ Unreadable n → IsLongestCommandFront text n
longest_by text (Ok value) q e f n h = cc
longest_by text (Err at) (Ok value) e f n h = cc
longest_by text (Err at) (Err far) e f n h =
    let s = longest_front g.statement 59 text at refl refl refl refl e in
    let l = longest_line v.verb text far refl refl f in
    let same : max at far ≡ n = cc in
    subst (λ z. IsLongestCommandFront text z) same (record {
      within = let p = s.within in let q = l.within in omega arith;
      begins = begins_one text at far s l (max at far) (greater_is at far);
      longest = no_further text at far s l;
    })

pub longest : (text : Bytes) (n : ℕ) → command_of text ≡ Unreadable n → IsLongestCommandFront text n
longest text n h = longest_by text (whole g.statement g.semicolon text) (whole v.verb End text) refl refl n h
