-- No text of the grammar goes with a text further than reading says.
use Rattle.std.proofs.Common.{◌≡◌, ℕ, zero, suc, ◌+◌, ◌-◌, ◌≤◌, min, Bool, true, false, ◌⊎◌, inl, inr, List, [], ◌∷◌, ◌++◌, length, refl, sym, ap, subst, Option, Some, None, arith}
use Rattle.std.specs.Prelude.{is_some}
use Rattle.std.specs.List.{list_all}
use Rattle.std.specs.Prelude.{◌==◌, Err}
use Rattle.asm_grammar.specs.Bytes.{common, is_blank, after_run}
use Rattle.asm_grammar.specs.Word.{Word, Mark, mark_of, near_mark, Meaning, fit, fits, near}
use Rattle.asm_grammar.specs.Syntax.{SyntaxRule, One, Then, Either, Maybe, Many, Value, Has, HasAll}
use Rattle.asm_grammar.specs.Reading.{Outcome, Took, Failed, ◌>>=◌, mapped, one, repeated_while, parse, leads, miss, any_fits, nullable, decides, starts, apart, all_words_apart, is_solid, is_all, ends, finish, whole}
use Rattle.asm_grammar.specs.Reading.{first as heads}
use Rattle.asm_grammar.proofs.Tests.{both, one_of, or_left, or_right, is_true_or_false, any_left, any_right, none_of}
use Rattle.asm_grammar.proofs.Outcomes.{chosen}
use Rattle.asm_grammar.proofs.Apart.{none_leads}
use Rattle.asm_grammar.proofs.Consumes.{run_and_rest, some_pair, takes, shortens, either_parts, maybe_parts}
use Rattle.asm_grammar.proofs.Complete.{begins, full_leads, met, next_one}
use Rattle.asm_grammar.proofs.Sound.{sound}
use Rattle.asm_grammar.proofs.Shared.{common_short}
use Rattle.asm_grammar.proofs.Near.{share, near_law, sharp, short}

-- WORDS AMONG OTHERS

abbrev pub Among : Word → List Word → Type 0
Among w [] = ⊥
Among w (x ∷ words) = (x ≡ w) ⊎ Among w words

-- a word that fits, and what stands behind it
pub record Picked (words : List Word) (text : List ℕ) : Type 0 where
  pub word : Word
  pub among : Among word words
  pub says : Meaning word
  pub rest : List ℕ
  pub fit_is : fit word text ≡ Some (says, rest)

fit_found : (w : Word) (text : List ℕ) → fits w text ≡ true → (v : Meaning w) × (rest : List ℕ) × (fit w text ≡ Some (v, rest))
fit_found w text e = elim (fit w text) as (λ o. is_some o ≡ true → (v : Meaning w) × (rest : List ℕ) × (o ≡ Some (v, rest))) [
  | None ↦ λ h. cc
  | Some (v, rest) ↦ λ h. (v, rest, refl)
] e

pub picked : (words : List Word) (text : List ℕ) → any_fits words text ≡ true → Picked words text
picked [] text e = cc
picked (w ∷ words) text e = elim (one_of (fits w text) (any_fits words text) e) [
  | inl h ↦ (let f = fit_found w text h in record { word = w; among = inl refl; says = f.0; rest = f.1; fit_is = f.2 })
  | inr h ↦ (let p = picked words text h in record { word = p.word; among = inr p.among; says = p.says; rest = p.rest; fit_is = p.fit_is })
]

all_of : (p : Word → Bool) (words : List Word) (w : Word) → list_all p words ≡ true → Among w words → p w ≡ true
all_of p [] w e m = absurd m
all_of p (x ∷ words) w e m =
    let q = both (p x) (list_all p words) e in
    elim m [ inl h ↦ subst (λ z. p z ≡ true) h q.0 | inr h ↦ all_of p words w q.1 h ]

apart_among : (ws others : List Word) (w other : Word) → all_words_apart ws others ≡ true → Among w ws → Among other others → apart w other ≡ true
apart_among ws others w other e m n = all_of (λ o. apart w o) others other (all_of (λ x. list_all (λ o. apart x o) others) ws w e m) n

pub fits_of : (w : Word) (text : List ℕ) (v : Meaning w) (rest : List ℕ) → fit w text ≡ Some (v, rest) → fits w text ≡ true
fits_of w text v rest e = ap (λ o. is_some o) e

pub any_of : (words : List Word) (w : Word) (text : List ℕ) → Among w words → fits w text ≡ true → any_fits words text ≡ true
any_of [] w text m e = absurd m
any_of (x ∷ words) w text m e = elim m [
  | inl h ↦ or_left (fits x text) (any_fits words text) (subst (λ z. fits z text ≡ true) (sym h) e)
  | inr h ↦ or_right (fits x text) (any_fits words text) (any_of words w text h e)
]

pub none_among : (words : List Word) (w : Word) (text : List ℕ) → Among w words → any_fits words text ≡ false → fit w text ≡ None
none_among words w text m e = elim (is_true_or_false (fits w text)) [
  | inl h ↦ absurd (let g = any_of words w text m h in cc)
  | inr h ↦ none_of (fit w text) h
]

-- MISSES

miss_falls : (words : List Word) (text : List ℕ) (left : ℕ) → miss words text left ≤ left
miss_falls [] text left = omega arith
miss_falls (w ∷ words) text left = omega (arith, miss_falls words text (min left (length text - near w text)))

miss_least : (words : List Word) (w : Word) (text : List ℕ) (left : ℕ) → Among w words → miss words text left ≤ length text - near w text
miss_least [] w text left m = absurd m
miss_least (x ∷ words) w text left m = elim m [
  | inl h ↦ subst (λ z. miss (x ∷ words) text left ≤ length text - near z text) h (omega (arith, miss_falls words text (min left (length text - near x text))))
  | inr h ↦ miss_least words w text (min left (length text - near x text)) h
]

-- Where w doesn't fit and is missed, a text with it goes no further.
missed : (words : List Word) (w : Word) (text t : List ℕ) (left l : ℕ) (u : Meaning w) (r : List ℕ)
    → Among w words → any_fits words text ≡ false → fit w t ≡ Some (u, r) → l ≤ miss words text left → common text t + l ≤ length text
missed words w text t left l u r m e f h =
    omega (arith, near_law w text t u r (none_among words w text m e) f, short w text, miss_least words w text left m)

-- FEWER LEFT

abbrev pub final : {A : Type 0} → Outcome A → ℕ
final (Took v rest left) = left
final (Failed left) = left

pub final_mapped : {A B : Type 0} (f : A → B) (o : Outcome A) → final (mapped f o) ≡ final o
final_mapped f (Took v rest left) = refl
final_mapped f (Failed left) = refl

pub falls_then : {A B : Type 0} (o : Outcome A) (f : A → List ℕ → ℕ → Outcome B) → ((v : A) (rest : List ℕ) (left : ℕ) → final (f v rest left) ≤ left) → final (o >>= f) ≤ final o
falls_then (Took v rest left) f h = h v rest left
falls_then (Failed left) f h = omega arith

one_falls : (w : Word) (text : List ℕ) (left : ℕ) (o : Option (Meaning w × List ℕ)) → final (one w text left o) ≤ left
one_falls w text left None = omega arith
one_falls w text left (Some found) = omega arith

repeated_falls : {A : Type 0} (n : ℕ) (test : List ℕ → Bool) (missing : List ℕ → ℕ → ℕ) (read : List ℕ → ℕ → Outcome A)
    → ((text : List ℕ) (left : ℕ) → missing text left ≤ left) → ((text : List ℕ) (left : ℕ) → final (read text left) ≤ left)
    → (text : List ℕ) (left : ℕ) → final (repeated_while n test missing read text left) ≤ left
repeated_falls zero test missing read m r text left = m text left
repeated_falls (suc n) test missing read m r text left = elim (is_true_or_false (test text)) [
  | inr h ↦ rw h (m text left)
  | inl h ↦ rw h (omega (
    arith,
    r text left,
    falls_then (read text left) (λ v rest left. mapped (λ vs. v ∷ vs) (repeated_while n test missing read rest left))
        (λ v rest l. rw (final_mapped (λ vs. v ∷ vs) (repeated_while n test missing read rest l)) (repeated_falls n test missing read m r rest l)),
  ))
]

pub left_falls : (g : SyntaxRule) (text : List ℕ) (left : ℕ) → final (parse g text left) ≤ left
left_falls (One w) text left = one_falls w text left (fit w text)
left_falls (Then a b) text left = omega (
  arith,
  left_falls a text left,
  falls_then {B = Value a × Value b} (parse a text left) (λ v rest m. mapped (λ w. (v, w)) (parse b rest m)) (λ v rest m. rw (final_mapped {B = Value a × Value b} (λ w. (v, w)) (parse b rest m)) (left_falls b rest m)),
)
left_falls (Either a b) text left = elim (is_true_or_false (leads a text)) [
  | inl h ↦ rw (h, final_mapped {B = Value a ⊎ Value b} (λ v. inl v) (parse a text left)) (left_falls a text left)
  | inr h ↦ rw (h, final_mapped {B = Value a ⊎ Value b} (λ w. inr w) (parse b text (miss (heads a) text left)))
      (omega (arith, left_falls b text (miss (heads a) text left), miss_falls (heads a) text left))
]
left_falls (Maybe a) text left = elim (is_true_or_false (leads a text)) [
  | inl h ↦ rw (h, final_mapped {B = Option (Value a)} (λ v. Some v) (parse a text left)) (left_falls a text left)
  | inr h ↦ rw h (miss_falls (heads a) text left)
]
left_falls (Many a) text left = repeated_falls (length text) (λ r. leads a r) (λ r m. miss (heads a) r m) (λ r m. parse a r m)
    (λ t m. miss_falls (heads a) t m) (λ t m. left_falls a t m) text left

-- PAST A PLACE

-- The outcome lies at this place of the text or behind it.
abbrev Past : {A : Type 0} → List ℕ → Outcome A → Type 0
Past place (Took v rest left) = length rest ≤ length place
Past place (Failed left) = left ≤ length place

past_mapped : {A B : Type 0} (place : List ℕ) (f : A → B) (o : Outcome A) → Past place o → Past place (mapped f o)
past_mapped place f (Took v rest left) h = h
past_mapped place f (Failed left) h = h

past_on : {A : Type 0} (place further : List ℕ) (o : Outcome A) → length further ≤ length place → Past further o → Past place o
past_on place further (Took v rest left) l h = omega arith
past_on place further (Failed left) l h = omega arith

past_then : {A B : Type 0} (place : List ℕ) (o : Outcome A) (f : A → List ℕ → ℕ → Outcome B) → Past place o
    → ((v : A) (rest : List ℕ) (left : ℕ) → o ≡ Took v rest left → Past rest (f v rest left)) → Past place (o >>= f)
past_then place (Took v rest left) f h each = past_on place rest (f v rest left) h (each v rest left refl)
past_then place (Failed left) f h each = h

repeated_within : {A : Type 0} (n : ℕ) (test : List ℕ → Bool) (missing : List ℕ → ℕ → ℕ) (read : List ℕ → ℕ → Outcome A)
    → ((text : List ℕ) (left : ℕ) → Past text (read text left)) → (text : List ℕ) (left : ℕ) → Past text (repeated_while n test missing read text left)
repeated_within zero test missing read r text left = omega arith
repeated_within (suc n) test missing read r text left = elim (is_true_or_false (test text)) [
  | inr h ↦ rw h (omega arith)
  | inl h ↦ rw h (past_then text (read text left) _ (r text left)
      (λ v rest l e. past_mapped rest (λ vs. v ∷ vs) (repeated_while n test missing read rest l) (repeated_within n test missing read r rest l)))
]

one_within : (w : Word) (text : List ℕ) (left : ℕ) (o : Option (Meaning w × List ℕ)) → is_solid w ≡ true → fit w text ≡ o → Past text (one w text left o)
one_within w text left None d e = omega arith
one_within w text left (Some (v, rest)) d e = omega (arith, takes w text v rest d e)

within : (g : SyntaxRule) (follow : List Word) (text : List ℕ) (left : ℕ) → decides g follow ≡ true → Past text (parse g text left)
within (One w) follow text left d = one_within w text left (fit w text) d refl
within (Then a b) follow text left d =
    let p = both (decides a (starts b follow)) (decides b follow) d in
    past_then text (parse a text left) (λ v rest m. mapped (λ w. (v, w)) (parse b rest m)) (within a (starts b follow) text left p.0)
    (λ v rest m e. past_mapped {B = Value a × Value b} rest (λ w. (v, w)) (parse b rest m) (within b follow rest m p.1))
within (Either a b) follow text left d =
    let p = either_parts a b follow d in
    elim (is_true_or_false (leads a text)) [
      | inl h ↦ rw h (past_mapped {B = Value a ⊎ Value b} text (λ v. inl v) (parse a text left) (within a follow text left p.first))
      | inr h ↦ rw h (past_mapped {B = Value a ⊎ Value b} text (λ v. inr v) (parse b text (miss (heads a) text left)) (within b follow text (miss (heads a) text left) p.second))
    ]
within (Maybe a) follow text left d =
    let p = maybe_parts (decides a follow) (nullable a) (all_words_apart (heads a) follow) d in
    elim (is_true_or_false (leads a text)) [
      | inl h ↦ rw h (past_mapped {B = Option (Value a)} text (λ v. Some v) (parse a text left) (within a follow text left p.inner))
      | inr h ↦ rw h (omega arith)
    ]
within (Many a) follow text left d =
    let p = maybe_parts (decides a (heads a ++ follow)) (nullable a) (all_words_apart (heads a) follow) d in
    repeated_within (length text) (λ r. leads a r) (λ r m. miss (heads a) r m) (λ r m. parse a r m) (λ t m. within a (heads a ++ follow) t m p.inner) text left

-- NOTHING TAKEN

not_any : (words others : List Word) (text : List ℕ) → any_fits words text ≡ false → any_fits others text ≡ false → any_fits (words ++ others) text ≡ false
not_any [] others text e f = f
not_any (w ∷ words) others text e f = elim (is_true_or_false (fits w text)) [
  | inl h ↦ absurd (let g = rw h at e in cc)
  | inr h ↦ (let g : any_fits words text ≡ false = rw h at e in rw h (not_any words others text g f))
]

-- Where what follows stands, one that may be empty doesn't lead.
not_led : (g : SyntaxRule) (follow : List Word) (text : List ℕ) → decides g follow ≡ true → nullable g ≡ true → any_fits follow text ≡ true → leads g text ≡ false
not_led (One w) follow text d n m = cc
not_led (Then a b) follow text d n m =
    let p = both (decides a (starts b follow)) (decides b follow) d in
    let q = both (nullable a) (nullable b) n in
    let k : any_fits (starts b follow) text ≡ true = rw q.1 (any_right (heads b) follow text m) in
    rw q.0 (not_any (heads a) (heads b) text (not_led a (starts b follow) text p.0 q.0 k) (not_led b follow text p.1 q.1 m))
not_led (Either a b) follow text d n m = cc
not_led (Maybe a) follow text d n m =
    let p = maybe_parts (decides a follow) (nullable a) (all_words_apart (heads a) follow) d in none_leads (heads a) follow text p.apart m
not_led (Many a) follow text d n m =
    let p = maybe_parts (decides a (heads a ++ follow)) (nullable a) (all_words_apart (heads a) follow) d in none_leads (heads a) follow text p.apart m

not_repeated : {A : Type 0} (n : ℕ) (test : List ℕ → Bool) (missing : List ℕ → ℕ → ℕ) (read : List ℕ → ℕ → Outcome A) (text : List ℕ) (left : ℕ)
    → test text ≡ false → repeated_while n test missing read text left ≡ Took [] text (missing text left)
not_repeated zero test missing read text left e = refl
not_repeated (suc n) test missing read text left e = rw e refl

not_any_left : (words others : List Word) (text : List ℕ) → any_fits (words ++ others) text ≡ false → any_fits words text ≡ false
not_any_left words others text e = elim (is_true_or_false (any_fits words text)) [
  | inl h ↦ absurd (let g = any_left words others text h in cc)
  | inr h ↦ h
]

not_any_right : (words others : List Word) (text : List ℕ) → any_fits (words ++ others) text ≡ false → any_fits others text ≡ false
not_any_right words others text e = elim (is_true_or_false (any_fits others text)) [
  | inl h ↦ absurd (let g = any_right words others text h in cc)
  | inr h ↦ h
]

-- One that may be empty and doesn't lead takes nothing.
nothing_led : (g : SyntaxRule) (text : List ℕ) (left : ℕ) → nullable g ≡ true → leads g text ≡ false → (v : Value g) × (l : ℕ) × (parse g text left ≡ Took v text l)
nothing_led (One w) text left n e = cc
nothing_led (Then a b) text left n e =
    let q = both (nullable a) (nullable b) n in
    let e' : any_fits (heads a ++ heads b) text ≡ false = rw q.0 at e in
    let x = nothing_led a text left q.0 (not_any_left (heads a) (heads b) text e') in
    let y = nothing_led b text x.1 q.1 (not_any_right (heads a) (heads b) text e') in
    ((x.0, y.0), y.1, rw (x.2, y.2) refl)
nothing_led (Either a b) text left n e = cc
nothing_led (Maybe a) text left n e = (None, miss (heads a) text left, rw e refl)
nothing_led (Many a) text left n e =
    ([], miss (heads a) text left, not_repeated (length text) (λ r. leads a r) (λ r m. miss (heads a) r m) (λ r m. parse a r m) text left e)

-- PAST THE FIRST WORD

pub among_left : (words others : List Word) (w : Word) → Among w (words ++ others) → Among w words ⊎ Among w others
among_left [] others w m = inr m
among_left (x ∷ words) others w m = elim m [
  | inl h ↦ inl (inl h)
  | inr h ↦ (elim (among_left words others w h) [ inl k ↦ inl (inr k) | inr k ↦ inr k ])
]

first_repeated : (a : SyntaxRule) (follow : List Word) (place : List ℕ) (n : ℕ) (text : List ℕ) (left : ℕ) → decides a (heads a ++ follow) ≡ true → length text ≤ n → leads a text ≡ true
    → Past place (parse a text left) → Past place (repeated_while n (λ r. leads a r) (λ r m. miss (heads a) r m) (λ r m. parse a r m) text left)
first_repeated a follow place zero text left d f t h = omega arith
first_repeated a follow place (suc n) text left d f t h =
    rw t (past_then place (parse a text left) _ h
    (λ v rest l e. past_mapped rest (λ vs. v ∷ vs) (repeated_while n (λ r. leads a r) (λ r m. miss (heads a) r m) (λ r m. parse a r m) rest l)
    (repeated_within n (λ r. leads a r) (λ r m. miss (heads a) r m) (λ r m. parse a r m) (λ t m. within a (heads a ++ follow) t m d) rest l)))

led_starts : (b : SyntaxRule) (follow : List Word) (text : List ℕ) → leads b text ≡ true → any_fits (starts b follow) text ≡ true
led_starts b follow text t = elim (is_true_or_false (nullable b)) [
  | inl n ↦ rw n (any_left (heads b) follow text t)
  | inr n ↦ rw n t
]

past_first : (g : SyntaxRule) (follow : List Word) (w : Word) (text : List ℕ) (left : ℕ) (x : Meaning w) (place : List ℕ)
    → decides g follow ≡ true → Among w (heads g) → fit w text ≡ Some (x, place) → Past place (parse g text left)
past_first (One v) follow w text left x place d m e =
    elim m [
      | inr h ↦ absurd h
      | inl h ↦ subst (λ z. (y : Meaning z) → fit z text ≡ Some (y, place) → Past place (one v text left (fit v text))) h (λ y k. rw k (omega arith)) x e
    ]
past_first (Then a b) follow w text left x place d m e =
    let p = both (decides a (starts b follow)) (decides b follow) d in
    let on_a : Among w (heads a) → Past place (parse (Then a b) text left) = λ k.
    past_then {B = Value a × Value b} place (parse a text left) (λ v rest m. mapped (λ w. (v, w)) (parse b rest m))
    (past_first a (starts b follow) w text left x place p.0 k e)
    (λ v rest l h. past_mapped {B = Value a × Value b} rest (λ w. (v, w)) (parse b rest l) (within b follow rest l p.1)) in
    elim (is_true_or_false (nullable a)) [
      | inr n ↦ on_a (rw n at m)
      | inl n ↦ (elim (among_left (heads a) (heads b) w (rw n at m)) [
        | inl k ↦ on_a k
        | inr k ↦
            (let t : leads b text ≡ true = any_of (heads b) w text k (fits_of w text x place e) in
            let f : leads a text ≡ false = not_led a (starts b follow) text p.0 n (led_starts b follow text t) in
            let z = nothing_led a text left n f in
            rw z.2 (past_mapped {B = Value a × Value b} place (λ w. (z.0, w)) (parse b text z.1) (past_first b follow w text z.1 x place p.1 k e)))
      ])
    ]
past_first (Either a b) follow w text left x place d m e =
    let p = either_parts a b follow d in
    elim (among_left (heads a) (heads b) w m) [
      | inl k ↦ (let t : leads a text ≡ true = any_of (heads a) w text k (fits_of w text x place e) in
          rw t (past_mapped {B = Value a ⊎ Value b} place (λ v. inl v) (parse a text left) (past_first a follow w text left x place p.first k e)))
      | inr k ↦ (let t : leads b text ≡ true = any_of (heads b) w text k (fits_of w text x place e) in
          let n : leads a text ≡ false = none_leads (heads a) (heads b) text p.apart t in
          rw n (past_mapped {B = Value a ⊎ Value b} place (λ v. inr v) (parse b text (miss (heads a) text left)) (past_first b follow w text (miss (heads a) text left) x place p.second k e)))
    ]
past_first (Maybe a) follow w text left x place d m e =
    let p = maybe_parts (decides a follow) (nullable a) (all_words_apart (heads a) follow) d in
    let t : leads a text ≡ true = any_of (heads a) w text m (fits_of w text x place e) in
    rw t (past_mapped {B = Option (Value a)} place (λ v. Some v) (parse a text left) (past_first a follow w text left x place p.inner m e))
past_first (Many a) follow w text left x place d m e =
    let p = maybe_parts (decides a (heads a ++ follow)) (nullable a) (all_words_apart (heads a) follow) d in
    first_repeated a follow place (length text) text left p.inner (omega arith) (any_of (heads a) w text m (fits_of w text x place e))
    (past_first a (heads a ++ follow) w text left x place p.inner m e)

-- BOUNDS

-- A text that says something in the grammar and leaves r goes with this text no further than the outcome says,
-- or no further than what stands behind each of them does.
abbrev pub Bound : {A : Type 0} → List ℕ → List ℕ → List ℕ → Outcome A → Type 0
Bound text t r (Took v rest left) = (common text t + left ≤ length text) ⊎ (common text t + length rest ≤ length text + common rest r)
Bound text t r (Failed left) = common text t + left ≤ length text

bound_mapped : {A B : Type 0} (text t r : List ℕ) (f : A → B) (o : Outcome A) → Bound text t r o → Bound text t r (mapped f o)
bound_mapped text t r f (Took v rest left) h = h
bound_mapped text t r f (Failed left) h = h

-- It goes no further than the least that was left.
bound_final : {A : Type 0} (text t r : List ℕ) (o : Outcome A) → common text t + final o ≤ length text → Bound text t r o
bound_final text t r (Took v rest left) h = inl h
bound_final text t r (Failed left) h = h

-- It goes no further than a place that the outcome lies behind.
bound_past : {A : Type 0} (text t r place : List ℕ) (o : Outcome A) → common text t + length place ≤ length text → Past place o → Bound text t r o
bound_past text t r place (Took v rest left) h p = inr (omega arith)
bound_past text t r place (Failed left) h p = omega arith

-- One part, and behind it another.
bound_on : {A : Type 0} (text middle t between r : List ℕ) (o : Outcome A) → common text t + length middle ≤ length text + common middle between
    → Bound middle between r o → Bound text t r o
bound_on text middle t between r (Took v rest left) h (inl b) = inl (omega arith)
bound_on text middle t between r (Took v rest left) h (inr b) = inr (omega arith)
bound_on text middle t between r (Failed left) h b = omega arith

bound_then : {A B : Type 0} (text t between r : List ℕ) (o : Outcome A) (f : A → List ℕ → ℕ → Outcome B) → Bound text t between o
    → ((v : A) (rest : List ℕ) (left : ℕ) → final (f v rest left) ≤ left) → ((v : A) (rest : List ℕ) (left : ℕ) → o ≡ Took v rest left → Bound rest between r (f v rest left)) → Bound text t r (o >>= f)
bound_then text t between r (Took v rest left) f (inl b) falls each = bound_final text t r (f v rest left) (let l = falls v rest left in omega arith)
bound_then text t between r (Took v rest left) f (inr b) falls each = bound_on text rest t between r (f v rest left) b (each v rest left refl)
bound_then text t between r (Failed left) f b falls each = b

bound_one : (w : Word) (text t r : List ℕ) (left : ℕ) (u : Meaning w) (o : Option (Meaning w × List ℕ)) → fit w text ≡ o → fit w t ≡ Some (u, r) → Bound text t r (one w text left o)
bound_one w text t r left u None e f = omega (arith, near_law w text t u r e f, short w text)
bound_one w text t r left u (Some (v, rest)) e f = inr (share w text t v u rest r e f)

-- This text begins with a first word of a, and the other with one that is apart from those.
record Crossed (a : SyntaxRule) (text t : List ℕ) : Type 0 where
  word : Word
  among : Among word (heads a)
  says : Meaning word
  place : List ℕ
  fit_is : fit word text ≡ Some (says, place)
  parted : common text t + length place ≤ length text

crossed : (a : SyntaxRule) (others : List Word) (text t : List ℕ) → all_words_apart (heads a) others ≡ true → leads a text ≡ true → any_fits others t ≡ true → Crossed a text t
crossed a others text t x l m =
    let p = picked (heads a) text l in
    let q = picked others t m in
    record {
      word = p.word;
      among = p.among;
      says = p.says;
      place = p.rest;
      fit_is = p.fit_is;
      parted = sharp p.word q.word text t p.says p.rest (apart_among (heads a) others p.word q.word x p.among q.among) p.fit_is (fits_of q.word t q.says q.rest q.fit_is);
    }

bound_crossed : (a : SyntaxRule) (follow others : List Word) (text t r : List ℕ) (left : ℕ) → decides a follow ≡ true → all_words_apart (heads a) others ≡ true
    → leads a text ≡ true → any_fits others t ≡ true → Bound text t r (parse a text left)
bound_crossed a follow others text t r left d x l m =
    let c = crossed a others text t x l m in
    bound_past text t r c.place (parse a text left) c.parted (past_first a follow c.word text left c.says c.place d c.among c.fit_is)

-- The other text begins with a first word of a, and this one with none.
bound_missed : {A : Type 0} (a : SyntaxRule) (text t r : List ℕ) (left : ℕ) (o : Outcome A) → leads a text ≡ false → leads a t ≡ true → final o ≤ miss (heads a) text left → Bound text t r o
bound_missed a text t r left o n l h =
    let q = picked (heads a) t l in
    bound_final text t r o (missed (heads a) q.word text t left (final o) q.says q.rest q.among n q.fit_is h)

repeated_bound : (a : SyntaxRule) (follow : List Word) → decides a (heads a ++ follow) ≡ true → nullable a ≡ false → all_words_apart (heads a) follow ≡ true
    → ((v : Value a) (text t r : List ℕ) (left : ℕ) → Has a v t r → any_fits (heads a ++ follow) r ≡ true → Bound text t r (parse a text left))
    → (n : ℕ) (vs : List (Value a)) (text t r : List ℕ) (left : ℕ) → length text ≤ n → HasAll (λ v. Has a v) vs t r → any_fits follow r ≡ true
    → Bound text t r (repeated_while n (λ q. leads a q) (λ q m. miss (heads a) q m) (λ q m. parse a q m) text left)
repeated_bound a follow d full x each zero vs text t r left f h m = inr (omega (arith, common_short text t))
repeated_bound a follow d full x each (suc n) [] text t r left f h m =
    let ft : any_fits follow t ≡ true = subst (λ z. any_fits follow z ≡ true) h m in
    elim (is_true_or_false (leads a text)) [
      | inl l ↦
          (let c = crossed a follow text t x l ft in
          bound_past text t r c.place (repeated_while (suc n) (λ q. leads a q) (λ q m. miss (heads a) q m) (λ q m. parse a q m) text left) c.parted
          (first_repeated a follow c.place (suc n) text left d f l (past_first a (heads a ++ follow) c.word text left c.says c.place d c.among c.fit_is)))
      | inr l ↦ rw l (inr (rw h (omega arith)))
    ]
repeated_bound a follow d full x each (suc n) (v ∷ vs) text t r left f h m =
    let leads_all : (y : Value a) (z q : List ℕ) → Has a y z q → leads a z ≡ true = λ y z q k. full_leads a z q full (begins a (heads a ++ follow) y z q d k) in
    elim (is_true_or_false (leads a text)) [
      | inr l ↦ rw l (bound_missed {A = List (Value a)} a text t r left (Took [] text (miss (heads a) text left)) l (leads_all v t h.0 h.1) (omega arith))
      | inl l ↦
          rw l (bound_then text t h.0 r (parse a text left) (λ y rest l. mapped (λ ys. y ∷ ys) (repeated_while n (λ q. leads a q) (λ q m. miss (heads a) q m) (λ q m. parse a q m) rest l))
          (each v text t h.0 left h.1 (next_one a follow leads_all vs h.0 r h.2 m))
          (λ y rest l. rw (final_mapped (λ ys. y ∷ ys) (repeated_while n (λ q. leads a q) (λ q m. miss (heads a) q m) (λ q m. parse a q m) rest l))
          (repeated_falls n (λ q. leads a q) (λ q m. miss (heads a) q m) (λ q m. parse a q m) (λ t m. miss_falls (heads a) t m) (λ t m. left_falls a t m) rest l))
          (λ y rest l e.
          bound_mapped rest h.0 r (λ ys. y ∷ ys) (repeated_while n (λ q. leads a q) (λ q m. miss (heads a) q m) (λ q m. parse a q m) rest l)
          (repeated_bound a follow d full x each n vs rest h.0 r l
          (let s = shortens a (heads a ++ follow) y text rest full d (sound a text left y rest l e) in omega arith) h.2 m)))
    ]

pub bounded : (g : SyntaxRule) (follow : List Word) (v : Value g) (text t r : List ℕ) (left : ℕ)
    → decides g follow ≡ true → Has g v t r → any_fits follow r ≡ true → Bound text t r (parse g text left)
bounded (One w) follow v text t r left d h m = bound_one w text t r left v (fit w text) refl h
bounded (Then a b) follow (v, w) text t r left d h m =
    let p = both (decides a (starts b follow)) (decides b follow) d in
    bound_then {B = Value a × Value b} text t h.0 r (parse a text left) (λ v rest m. mapped (λ w. (v, w)) (parse b rest m))
    (bounded a (starts b follow) v text t h.0 left p.0 h.1 (met b follow h.0 r (begins b follow w h.0 r p.1 h.2) m))
    (λ y rest l. rw (final_mapped {B = Value a × Value b} (λ w. (y, w)) (parse b rest l)) (left_falls b rest l))
    (λ y rest l e. bound_mapped {B = Value a × Value b} rest h.0 r (λ w. (y, w)) (parse b rest l) (bounded b follow w rest h.0 r l p.1 h.2 m))
bounded (Either a b) follow (inl v) text t r left d h m =
    let p = either_parts a b follow d in
    let led : leads a t ≡ true = full_leads a t r p.first_full (begins a follow v t r p.first h) in
    elim (is_true_or_false (leads a text)) [
      | inl l ↦ rw l (bound_mapped {B = Value a ⊎ Value b} text t r (λ v. inl v) (parse a text left) (bounded a follow v text t r left p.first h m))
      | inr l ↦ rw l (bound_mapped {B = Value a ⊎ Value b} text t r (λ v. inr v) (parse b text (miss (heads a) text left))
          (bound_missed a text t r left (parse b text (miss (heads a) text left)) l led (left_falls b text (miss (heads a) text left))))
    ]
bounded (Either a b) follow (inr w) text t r left d h m =
    let p = either_parts a b follow d in
    let led : leads b t ≡ true = full_leads b t r p.second_full (begins b follow w t r p.second h) in
    elim (is_true_or_false (leads a text)) [
      | inl l ↦ rw l (bound_mapped {B = Value a ⊎ Value b} text t r (λ v. inl v) (parse a text left)
          (bound_crossed a follow (heads b) text t r left p.first p.apart l led))
      | inr l ↦ rw l (bound_mapped {B = Value a ⊎ Value b} text t r (λ v. inr v) (parse b text (miss (heads a) text left))
          (bounded b follow w text t r (miss (heads a) text left) p.second h m))
    ]
bounded (Maybe a) follow None text t r left d h m =
    let p = maybe_parts (decides a follow) (nullable a) (all_words_apart (heads a) follow) d in
    let ft : any_fits follow t ≡ true = subst (λ z. any_fits follow z ≡ true) h m in
    elim (is_true_or_false (leads a text)) [
      | inl l ↦ rw l (bound_mapped {B = Option (Value a)} text t r (λ v. Some v) (parse a text left) (bound_crossed a follow follow text t r left p.inner p.apart l ft))
      | inr l ↦ rw l (inr (rw h (omega arith)))
    ]
bounded (Maybe a) follow (Some v) text t r left d h m =
    let p = maybe_parts (decides a follow) (nullable a) (all_words_apart (heads a) follow) d in
    let led : leads a t ≡ true = full_leads a t r p.full (begins a follow v t r p.inner h) in
    elim (is_true_or_false (leads a text)) [
      | inl l ↦ rw l (bound_mapped {B = Option (Value a)} text t r (λ v. Some v) (parse a text left) (bounded a follow v text t r left p.inner h m))
      | inr l ↦ rw l (bound_missed {A = Option (Value a)} a text t r left (Took None text (miss (heads a) text left)) l led (omega arith))
    ]
bounded (Many a) follow vs text t r left d h m =
    let p = maybe_parts (decides a (heads a ++ follow)) (nullable a) (all_words_apart (heads a) follow) d in
    repeated_bound a follow p.inner p.full p.apart (λ v text t r left h m. bounded a (heads a ++ follow) v text t r left p.inner h m)
    (length text) vs text t r left (omega arith) h m

-- WHOLE TEXTS

mark_full_here : (m : ℕ) (text rest : List ℕ) → mark_of m text ≡ Some (tt, rest) → length text ≤ near_mark m text + length rest
mark_full_here m [] rest e = cc
mark_full_here m (b ∷ text) rest e = elim (chosen (b == m) _ _ _ e) [
  | inr p ↦ let q = p.1 in cc
  | inl p ↦ (let l : length text ≡ length rest = ap length (some_pair p.1).1 in rw p.0 (omega arith))
]

-- A mark that was read takes no more than what is near it.
mark_full : (m : ℕ) (text rest : List ℕ) → fit (Mark m) text ≡ Some (tt, rest) → length text ≤ near (Mark m) text + length rest
mark_full m text rest e = omega (arith, mark_full_here m (after_run is_blank text) rest e, run_and_rest is_blank text)

-- Where a text doesn't end with the mark, one that does goes with it no further than what is near.
no_end : (m : ℕ) (text t : List ℕ) (o : Option (Unit {0} × List ℕ)) → fit (Mark m) text ≡ o → is_all o ≡ false → fit (Mark m) t ≡ Some (tt, []) → common text t ≤ near (Mark m) text
no_end m text t None e n f = near_law (Mark m) text t tt [] e f
no_end m text t (Some (u, [])) e n f = cc
no_end m text t (Some (u, b ∷ rest)) e n f =
    let k : common (b ∷ rest) [] ≡ 0 = refl in
    omega (arith, share (Mark m) text t tt tt (b ∷ rest) [] e f, mark_full m text (b ∷ rest) e)

finish_bound : {A : Type 0} (m : ℕ) (text t r : List ℕ) (o : Outcome A) (at : ℕ) → Bound text t r o → fit (Mark m) r ≡ Some (tt, [])
    → finish (Mark m) (length text) o ≡ Err at → common text t ≤ at
finish_bound m text t r (Failed left) at b f e = let k : length text - left ≡ at = cc in omega arith
finish_bound m text t r (Took v rest left) at b f e =
    elim (chosen (ends (Mark m) rest) _ _ _ e) [
      | inl p ↦ let q = p.1 in cc
      | inr p ↦
          let k : length text - min left (length rest - near (Mark m) rest) ≡ at = (let q = p.1 in cc) in
          let n = no_end m rest r (fit (Mark m) rest) refl p.0 f in
          let s = short (Mark m) rest in
          elim b [
            | inl c ↦ omega arith
            | inr c ↦ omega arith
          ]
    ]

pub no_further : (g : SyntaxRule) (m : ℕ) (text : List ℕ) (at : ℕ) (t : List ℕ) (v : Value g) (r : List ℕ)
    → decides g (Mark m ∷ []) ≡ true → whole g (Mark m) text ≡ Err at → Has g v t r → fit (Mark m) r ≡ Some (tt, []) → common text t ≤ at
no_further g m text at t v r d e h f =
    finish_bound m text t r (parse g text (length text)) at
    (bounded g (Mark m ∷ []) v text t r (length text) d h (or_left (fits (Mark m) r) false (fits_of (Mark m) r tt [] f))) f e
