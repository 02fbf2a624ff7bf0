-- What is in a grammar that decides at each word is read.
use Rattle.std.proofs.Common.{◌≡◌, ℕ, zero, suc, ◌<◌, ◌≤◌, true, false, ◌⊎◌, inl, inr, List, [], ◌∷◌, ◌++◌, length, refl, sym, ap, subst, ◌∙◌, Some, None, arith}
use Rattle.std.specs.Prelude.{is_some}
use Rattle.asm_grammar.specs.Word.{Word, fits}
use Rattle.asm_grammar.specs.Syntax.{SyntaxRule, One, Then, Either, Maybe, Many, Value, Has, HasAll}
use Rattle.asm_grammar.specs.Reading.{Took, repeated_while, parse, leads, miss, any_fits, nullable, decides, starts, all_words_apart}
use Rattle.asm_grammar.specs.Reading.{first as heads}
use Rattle.asm_grammar.proofs.Tests.{both, or_left, is_true_or_false, any_left, any_right}
use Rattle.asm_grammar.proofs.Apart.{none_leads}
use Rattle.asm_grammar.proofs.Consumes.{shortens, either_parts, maybe_parts}

-- A text of the grammar begins with one of its first words, or is empty.
abbrev pub Begins : SyntaxRule → List ℕ → List ℕ → Type 0
Begins g text rest = (leads g text ≡ true) ⊎ ((nullable g ≡ true) × (rest ≡ text))

lead_left : (a b : SyntaxRule) (text : List ℕ) → leads a text ≡ true → leads (Then a b) text ≡ true
lead_left a b text h = elim (is_true_or_false (nullable a)) [
  | inl n ↦ rw n (any_left (heads a) (heads b) text h)
  | inr n ↦ rw n h
]

lead_right : (a b : SyntaxRule) (text : List ℕ) → nullable a ≡ true → leads b text ≡ true → leads (Then a b) text ≡ true
lead_right a b text n h = rw n (any_right (heads a) (heads b) text h)

all_begin : {A : Type 0} (has : A → List ℕ → List ℕ → Type 0) (a : SyntaxRule)
    → ((v : A) (text rest : List ℕ) → has v text rest → Begins a text rest)
    → (vs : List A) (text rest : List ℕ) → HasAll has vs text rest → (leads a text ≡ true) ⊎ (rest ≡ text)
all_begin has a each [] text rest h = inr h
all_begin has a each (v ∷ vs) text rest h =
    elim (each v text h.0 h.1) [
      | inl l ↦ inl l
      | inr p ↦ elim (all_begin has a each vs h.0 rest h.2) [
        | inl l ↦ inl (subst (λ t. leads a t ≡ true) p.1 l)
        | inr r ↦ inr (r ∙ p.1)
      ]
    ]

-- One that is not empty leads.
pub full_leads : (a : SyntaxRule) (text rest : List ℕ) → nullable a ≡ false → Begins a text rest → leads a text ≡ true
full_leads a text rest n b = elim b [ inl l ↦ l | inr p ↦ absurd (let q = p.0 in cc) ]

pub begins : (g : SyntaxRule) (follow : List Word) (v : Value g) (text rest : List ℕ) → decides g follow ≡ true → Has g v text rest → Begins g text rest
begins (One w) follow v text rest d h = inl (or_left (fits w text) false (ap (λ o. is_some o) h))
begins (Then a b) follow (v, w) text rest d h =
    let p = both (decides a (starts b follow)) (decides b follow) d in
    elim (begins a (starts b follow) v text h.0 p.0 h.1) [
      | inl l ↦ inl (lead_left a b text l)
      | inr q ↦ elim (begins b follow w h.0 rest p.1 h.2) [
        | inl l ↦ inl (lead_right a b text q.0 (subst (λ t. leads b t ≡ true) q.1 l))
        | inr r ↦ inr (rw q.0 r.0, r.1 ∙ q.1)
      ]
    ]
begins (Either a b) follow (inl v) text rest d h =
    let p = either_parts a b follow d in
    inl (any_left (heads a) (heads b) text (full_leads a text rest p.first_full (begins a follow v text rest p.first h)))
begins (Either a b) follow (inr w) text rest d h =
    let p = either_parts a b follow d in
    inl (any_right (heads a) (heads b) text (full_leads b text rest p.second_full (begins b follow w text rest p.second h)))
begins (Maybe a) follow None text rest d h = inr (refl, h)
begins (Maybe a) follow (Some v) text rest d h =
    let p = maybe_parts (decides a follow) (nullable a) (all_words_apart (heads a) follow) d in
    inl (full_leads a text rest p.full (begins a follow v text rest p.inner h))
begins (Many a) follow vs text rest d h =
    let p = maybe_parts (decides a (heads a ++ follow)) (nullable a) (all_words_apart (heads a) follow) d in
    elim (all_begin (λ x. Has a x) a (λ x t r k. begins a (heads a ++ follow) x t r p.inner k) vs text rest h) [ inl l ↦ inl l | inr r ↦ inr (refl, r) ]

-- Where b and one of the words behind it stand, one of those that can start there does.
pub met : (b : SyntaxRule) (follow : List Word) (text rest : List ℕ) → Begins b text rest → any_fits follow rest ≡ true → any_fits (starts b follow) text ≡ true
met b follow text rest s m =
    elim s [
      | inl l ↦ (elim (is_true_or_false (nullable b)) [
        | inl n ↦ rw n (any_left (heads b) follow text l)
        | inr n ↦ rw n l
      ])
      | inr p ↦ rw p.0 (any_right (heads b) follow text (subst (λ t. any_fits follow t ≡ true) p.1 m))
    ]

-- What stands behind one of several is another, or what follows them all.
pub next_one : (a : SyntaxRule) (follow : List Word) → ((v : Value a) (text rest : List ℕ) → Has a v text rest → leads a text ≡ true)
    → (vs : List (Value a)) (text rest : List ℕ) → HasAll (λ v. Has a v) vs text rest → any_fits follow rest ≡ true → any_fits (heads a ++ follow) text ≡ true
next_one a follow lead [] text rest h m = any_right (heads a) follow text (subst (λ t. any_fits follow t ≡ true) h m)
next_one a follow lead (v ∷ vs) text rest h m = any_left (heads a) follow text (lead v text h.0 h.1)

-- As often as there is one more.
repeated_complete : (a : SyntaxRule) (follow : List Word)
    → ((v : Value a) (text rest : List ℕ) → Has a v text rest → length rest < length text)
    → ((v : Value a) (text rest : List ℕ) → Has a v text rest → leads a text ≡ true)
    → ((v : Value a) (text rest : List ℕ) (left : ℕ) → Has a v text rest → any_fits (heads a ++ follow) rest ≡ true → (l : ℕ) × (parse a text left ≡ Took v rest l))
    → ((text : List ℕ) → any_fits follow text ≡ true → leads a text ≡ false)
    → (n : ℕ) (vs : List (Value a)) (text rest : List ℕ) (left : ℕ) → length text ≤ n → HasAll (λ v. Has a v) vs text rest → any_fits follow rest ≡ true
    → (l : ℕ) × (repeated_while n (λ r. leads a r) (λ r m. miss (heads a) r m) (λ r m. parse a r m) text left ≡ Took vs rest l)
repeated_complete a follow small lead reads stops zero [] text rest left f h m = (miss (heads a) text left, rw h refl)
repeated_complete a follow small lead reads stops (suc n) [] text rest left f h m =
    let s : leads a text ≡ false = stops text (subst (λ t. any_fits follow t ≡ true) h m) in
    (miss (heads a) text left, rw (h, s) refl)
repeated_complete a follow small lead reads stops zero (v ∷ vs) text rest left f h m = absurd (let s = small v text h.0 h.1 in omega arith)
repeated_complete a follow small lead reads stops (suc n) (v ∷ vs) text rest left f h m =
    let s : length h.0 < length text = small v text h.0 h.1 in
    let t : leads a text ≡ true = lead v text h.0 h.1 in
    let one = reads v text h.0 left h.1 (next_one a follow lead vs h.0 rest h.2 m) in
    let others = repeated_complete a follow small lead reads stops n vs h.0 rest one.0 (omega arith) h.2 m in
    (others.0, rw (t, one.1, others.1) refl)

pub complete : (g : SyntaxRule) (follow : List Word) (v : Value g) (text rest : List ℕ) (left : ℕ)
    → decides g follow ≡ true → Has g v text rest → any_fits follow rest ≡ true → (l : ℕ) × (parse g text left ≡ Took v rest l)
complete (One w) follow v text rest left d h m = (left, rw h refl)
complete (Then a b) follow (v, w) text rest left d h m =
    let p = both (decides a (starts b follow)) (decides b follow) d in
    let one = complete a (starts b follow) v text h.0 left p.0 h.1 (met b follow h.0 rest (begins b follow w h.0 rest p.1 h.2) m) in
    let two = complete b follow w h.0 rest one.0 p.1 h.2 m in
    (two.0, rw (one.1, two.1) refl)
complete (Either a b) follow (inl v) text rest left d h m =
    let p = either_parts a b follow d in
    let t : leads a text ≡ true = full_leads a text rest p.first_full (begins a follow v text rest p.first h) in
    let one = complete a follow v text rest left p.first h m in
    (one.0, rw (t, one.1) refl)
complete (Either a b) follow (inr w) text rest left d h m =
    let p = either_parts a b follow d in
    let t : leads b text ≡ true = full_leads b text rest p.second_full (begins b follow w text rest p.second h) in
    let n : leads a text ≡ false = none_leads (heads a) (heads b) text p.apart t in
    let one = complete b follow w text rest (miss (heads a) text left) p.second h m in
    (one.0, rw (n, one.1) refl)
complete (Maybe a) follow None text rest left d h m =
    let p = maybe_parts (decides a follow) (nullable a) (all_words_apart (heads a) follow) d in
    let n : leads a text ≡ false = none_leads (heads a) follow text p.apart (subst (λ t. any_fits follow t ≡ true) h m) in
    (miss (heads a) text left, rw (h, n) refl)
complete (Maybe a) follow (Some v) text rest left d h m =
    let p = maybe_parts (decides a follow) (nullable a) (all_words_apart (heads a) follow) d in
    let t : leads a text ≡ true = full_leads a text rest p.full (begins a follow v text rest p.inner h) in
    let one = complete a follow v text rest left p.inner h m in
    (one.0, rw (t, one.1) refl)
complete (Many a) follow vs text rest left d h m =
    let p = maybe_parts (decides a (heads a ++ follow)) (nullable a) (all_words_apart (heads a) follow) d in
    repeated_complete a follow
    (λ v t r k. shortens a (heads a ++ follow) v t r p.full p.inner k)
    (λ v t r k. full_leads a t r p.full (begins a (heads a ++ follow) v t r p.inner k))
    (λ v t r l k q. complete a (heads a ++ follow) v t r l p.inner k q)
    (λ t q. none_leads (heads a) follow t p.apart q)
    (length text) vs text rest left (omega arith) h m

same_took : {A : Type 0} (v w : A) (rest other : List ℕ) (l m : ℕ) → Took v rest l ≡ Took w other m → (v ≡ w) × (rest ≡ other)
same_took v w rest other l m e = (cc, cc)

pub one_thing : (g : SyntaxRule) (follow : List Word) (v w : Value g) (text rest other : List ℕ)
    → decides g follow ≡ true → Has g v text rest → any_fits follow rest ≡ true → Has g w text other → any_fits follow other ≡ true → (v ≡ w) × (rest ≡ other)
one_thing g follow v w text rest other d h m k n =
    let p = complete g follow v text rest 0 d h m in
    let q = complete g follow w text other 0 d k n in
    same_took v w rest other p.0 q.0 (sym p.1 ∙ q.1)
