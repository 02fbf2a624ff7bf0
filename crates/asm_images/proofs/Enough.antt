-- More members are enough where some are.
use Rattle.std.proofs.Common.{◌≡◌, inl, inr, ℕ, ◌*◌, ◌≤◌, Bool, true, false, ◌&&◌, ◌||◌, List, [], ◌∷◌, length, filter, refl, sym, ap, ◌∙◌, subst, arith, IsTrue}
use Rattle.std.specs.List.{list_all, list_any}
use Rattle.std.proofs.lemmas.Bool.{cond_both, cond-true, and_parts, ltb-true, lt-ltb, false≢true}
use Rattle.asm_formats.specs.Following.{Holder, sets}
use Rattle.asm_formats.specs.Status.{Status}
use Rattle.asm_formats.specs.Among.{IsAmong}
use Rattle.asm_images.specs.Members.{Member, is_disk, has_disk, within}
use Rattle.asm_images.specs.Register.{is_majority, is_enough}
use Rattle.asm_images.proofs.Membership.{among_within, among_filtered, filter_out}

found : {A : Type 0} (p : A → Bool) (xs : List A) → list_any p xs ≡ true → (x : A) × IsAmong xs x × (p x ≡ true)
found p [] e = absurd (false≢true e)
found {A} p (x ∷ xs) e = by (p x) refl e (λ later. let f = found p xs later in (f.0, inr f.1, f.2))
  where
    by : (b : Bool) → p x ≡ b → (b || list_any p xs) ≡ true → (list_any p xs ≡ true → (y : A) × IsAmong (x ∷ xs) y × (p y ≡ true)) → (y : A) × IsAmong (x ∷ xs) y × (p y ≡ true)
    by true here e later = (x, inl refl, here)
    by false out e later = later e

or_later : (a b : Bool) → b ≡ true → (a || b) ≡ true
or_later true b e = refl
or_later false b e = e

any_among : {A : Type 0} (p : A → Bool) (xs : List A) (x : A) → IsAmong xs x → p x ≡ true → list_any p xs ≡ true
any_among p [] x h pass = absurd h
any_among p (y ∷ xs) x (inl same) pass = ap (λ (b : Bool). b || list_any p xs) (ap p (sym same) ∙ pass)
any_among p (y ∷ xs) x (inr h) pass = or_later (p y) (list_any p xs) (any_among p xs x h pass)

more_pass : {A : Type 0} (p q : A → Bool) (xs : List A) → ((x : A) → p x ≡ true → q x ≡ true) → length (filter p xs) ≤ length (filter q xs)
more_pass p q [] also = omega arith
more_pass {A} p q (x ∷ xs) also =
    let rest = more_pass p q xs also in
    cond_both (p x) (x ∷ filter p xs) (filter p xs) (λ (l : List A). length l ≤ length (filter q (x ∷ xs)))
    (λ here. subst (λ (l : List A). length (x ∷ filter p xs) ≤ length l) (sym (cond-true (q x) (x ∷ filter q xs) (filter q xs) (also x here))) (omega (arith, rest)))
    (λ out. cond_both (q x) (x ∷ filter q xs) (filter q xs) (λ (l : List A). length (filter p xs) ≤ length l) (λ more. omega (arith, rest)) (λ no. rest))

module _ (r : Status) (P Q : ℕ → Bool) (ms : List Member) (also : (slot : ℕ) → P slot ≡ true → Q slot ≡ true) where
  has_more : (h : Holder) → has_disk (within P ms) h.0 h.1 ≡ true → has_disk (within Q ms) h.0 h.1 ≡ true
  unfolding within
  has_more h is =
      let m = found (λ (k : Member). is_disk h.0 h.1 k.header) (within P ms) is in
      let there : IsAmong (within Q ms) m.0 = among_filtered (λ (k : Member). Q k.slot) ms m.0 (among_within P ms m.0 m.1) (also m.0.slot (filter_out (λ (k : Member). P k.slot) ms m.0 m.1)) in
      any_among (λ (k : Member). is_disk h.0 h.1 k.header) (within Q ms) m.0 there m.2

  more_majority : (set : List Holder) → is_majority (within P ms) set ≡ true → is_majority (within Q ms) set ≡ true
  more_majority set is = lt-ltb (length set) (2 * length (filter (λ (h : Holder). has_disk (within Q ms) h.0 h.1) set))
      (omega (
        arith,
        ltb-true (length set) (2 * length (filter (λ (h : Holder). has_disk (within P ms) h.0 h.1) set)) is,
        more_pass (λ (h : Holder). has_disk (within P ms) h.0 h.1) (λ (h : Holder). has_disk (within Q ms) h.0 h.1) set has_more,
      ))

  all_more : (all : List (List Holder)) → list_all (is_majority (within P ms)) all ≡ true → list_all (is_majority (within Q ms)) all ≡ true
  all_more [] is = is
  all_more (set ∷ others) is =
      let p = and_parts (is_majority (within P ms) set) (list_all (is_majority (within P ms)) others) is in
      λ i. more_majority set p.0 i && all_more others p.1 i

  pub more_enough : IsTrue (is_enough r (within P ms)) → IsTrue (is_enough r (within Q ms))
  unfolding is_enough
  more_enough is = all_more (sets r) is
