-- What a disk holds of claims and records at each moment while a slot of a pair is put.
use Rattle.std.proofs.Common.{◌≡◌, ◌⊎◌, inl, inr, ⊎_elim, ℕ, ◌≤◌, Bool, true, false, ◌&&◌, List, [], ◌∷◌, ◌++◌, refl, sym, ap, subst, ◌∙◌, Option, Some, arith, ◌==◌}
use Rattle.std.specs.List.{list_all}
use Rattle.std.specs.Option.{is_some}
use Rattle.std.proofs.lemmas.Bool.{cond_both, and_parts, and_from}
use Rattle.asm_formats.specs.Claim.{Claim, is_claim, claim_spelling, decoded_claim}
use Rattle.asm_formats.specs.Status.{Status, is_status, status_spelling, decoded_status}
use Rattle.asm_formats.specs.Following.{rank}
use Rattle.asm_formats.specs.Metadata.{metadata, in_slot}
use Rattle.asm_formats.specs.Slots.{IsPut, ArePair, MaySayAfter, same_said, nothing_said, new_said}
use Rattle.asm_formats.proofs.Framing.{claims_by_slot, statuses_by_slot}
use Rattle.asm_formats.proofs.Putting.{claim_put, status_put}
use Rattle.asm_formats.specs.Among.{IsAmong}
use Rattle.asm_images.specs.Members.{those}
use Rattle.asm_images.specs.Steps.{RaisesRecords, RaisesClaims}
use Rattle.asm_images.specs.PutLaws.{OtherHolds, OtherClaims}
use Rattle.asm_images.proofs.Membership.{among_left, among_right, among_split}
use Rattle.asm_images.proofs.Recording.{those_append}

pub all_append : {A : Type 0} (t : A → Bool) (xs ys : List A) → list_all t (xs ++ ys) ≡ (list_all t xs && list_all t ys)
all_append t [] ys = refl
all_append t (x ∷ xs) ys = go (t x) (all_append t xs ys)
  where
    go : (b : Bool) → list_all t (xs ++ ys) ≡ (list_all t xs && list_all t ys) → (b && list_all t (xs ++ ys)) ≡ ((b && list_all t xs) && list_all t ys)
    go true e = e
    go false e = refl

-- what both slots of a pair say, one and the other
record IsBoth {A : Type 0} (all here there : List (Option A)) : Type 0 where
  into : (test : A → Bool) (x : A) → IsAmong (those test all) x → IsAmong (those test here) x ⊎ IsAmong (those test there) x
  from_here : (test : A → Bool) (x : A) → IsAmong (those test here) x → IsAmong (those test all) x
  from_there : (test : A → Bool) (x : A) → IsAmong (those test there) x → IsAmong (those test all) x
  parts : list_all is_some all ≡ true → (list_all is_some here ≡ true) × (list_all is_some there ≡ true)
  whole : list_all is_some here ≡ true → list_all is_some there ≡ true → list_all is_some all ≡ true

in_order : {A : Type 0} (here there : List (Option A)) → IsBoth (here ++ there) here there
in_order {A} here there = record {
  into = λ test x h. among_split (those test here) (those test there) x (subst (λ (l : List A). IsAmong l x) (those_append test here there) h);
  from_here = λ test x h. subst (λ (l : List A). IsAmong l x) (sym (those_append test here there)) (among_left (those test here) (those test there) x h);
  from_there = λ test x h. subst (λ (l : List A). IsAmong l x) (sym (those_append test here there)) (among_right (those test here) (those test there) x h);
  parts = λ h. and_parts (list_all is_some here) (list_all is_some there) (sym (all_append is_some here there) ∙ h);
  whole = λ a b. all_append is_some here there ∙ and_from (list_all is_some here) (list_all is_some there) a b;
}

the_other_way : {A : Type 0} (here there : List (Option A)) → IsBoth (there ++ here) here there
the_other_way {A} here there = record {
  into = λ test x h. ⊎_elim (λ a. inr a) (λ b. inl b) (among_split (those test there) (those test here) x (subst (λ (l : List A). IsAmong l x) (those_append test there here) h));
  from_here = λ test x h. subst (λ (l : List A). IsAmong l x) (sym (those_append test there here)) (among_right (those test there) (those test here) x h);
  from_there = λ test x h. subst (λ (l : List A). IsAmong l x) (sym (those_append test there here)) (among_left (those test there) (those test here) x h);
  parts = λ h. let p = and_parts (list_all is_some there) (list_all is_some here) (sym (all_append is_some there here) ∙ h) in (p.1, p.0);
  whole = λ a b. all_append is_some there here ∙ and_from (list_all is_some there) (list_all is_some here) b a;
}

of_pair : {A : Type 0} (all : List (Option A)) (said : ℕ → List (Option A)) (a b k other : ℕ) → all ≡ said a ++ said b → ArePair a b k other → IsBoth all (said k) (said other)
of_pair {A} all said a b k other e (inl p) =
    let row : said k ++ said other ≡ said a ++ said b = λ i. said (p.0 i) ++ said (p.1 i) in
    subst (λ (l : List (Option A)). IsBoth l (said k) (said other)) (row ∙ sym e) (in_order (said k) (said other))
of_pair {A} all said a b k other e (inr p) =
    let row : said other ++ said k ≡ said a ++ said b = λ i. said (p.1 i) ++ said (p.0 i) in
    subst (λ (l : List (Option A)). IsBoth l (said k) (said other)) (row ∙ sym e) (the_other_way (said k) (said other))

-- values of a pair after a put: none is lost but what the other slot holds as much of
module _ {A : Type 0} (test : A → Bool) (weight : A → ℕ) (x : A) (all later here there here_later there_later : List (Option A)) (before : IsBoth all here there) (now : IsBoth later here_later there_later)
    (slot : MaySayAfter here here_later x) (others : there_later ≡ there) (holds : (s : A) → IsAmong (those test here) s → (t : A) × IsAmong (those test there) t × (weight s ≤ weight t)) where
  there_now : (t : A) → IsAmong (those test there) t → IsAmong (those test later) t
  there_now t h = now.from_there test t (subst (λ (l : List (Option A)). IsAmong (those test l) t) (sym others) h)

  raised : (s : A) → IsAmong (those test all) s → (t : A) × IsAmong (those test later) t × (weight s ≤ weight t)
  raised s h = ⊎_elim
      (λ in_here. let t = holds s in_here in (t.0, there_now t.0 t.1, t.2))
      (λ in_there. (s, there_now s in_there, omega arith))
      (before.into test s h)

  only_it : (l : List (Option A)) → l ≡ Some x ∷ [] → (t : A) → IsAmong (those test l) t → t ≡ x
  only_it l e t h = cond_both (test x) (x ∷ []) [] (λ (l : List A). IsAmong l t → t ≡ x) (λ yes k. ⊎_elim (λ same. same) (λ none. absurd none) k) (λ out k. absurd k)
      (subst (λ (l : List (Option A)). IsAmong (those test l) t) e h)

  here_from : MaySayAfter here here_later x → (t : A) → IsAmong (those test here_later) t → (t ≡ x) ⊎ IsAmong (those test all) t
  here_from (same_said e) t h = inr (before.from_here test t (subst (λ (l : List (Option A)). IsAmong (those test l) t) e h))
  here_from (nothing_said e) t h = absurd (subst (λ (l : List (Option A)). IsAmong (those test l) t) e h)
  here_from (new_said e) t h = inl (only_it here_later e t h)

  from : (t : A) → IsAmong (those test later) t → (t ≡ x) ⊎ IsAmong (those test all) t
  from t h = ⊎_elim (λ in_here. here_from slot t in_here)
      (λ in_there. inr (before.from_there test t (subst (λ (l : List (Option A)). IsAmong (those test l) t) others in_there))) (now.into test t h)

  here_decodes : MaySayAfter here here_later x → list_all is_some here ≡ true → list_all is_some here_later ≡ true
  here_decodes (same_said e) ok = ap (λ (l : List (Option A)). list_all is_some l) e ∙ ok
  here_decodes (nothing_said e) ok = ap (λ (l : List (Option A)). list_all is_some l) e
  here_decodes (new_said e) ok = ap (λ (l : List (Option A)). list_all is_some l) e

  decode : list_all is_some all ≡ true → list_all is_some later ≡ true
  decode ok =
      let p = before.parts ok in
      now.whole (here_decodes slot p.0) (ap (λ (l : List (Option A)). list_all is_some l) others ∙ p.1)

-- ---- claims and records

pub put_raises_claims : (id : ℕ) (old new : List ℕ) (k other : ℕ) (c : Claim) → ArePair 2 4 k other → is_claim c ≡ true → OtherClaims id old k other → IsPut old new k (claim_spelling c)
    → RaisesClaims id (metadata old) (metadata new)
put_raises_claims id old new k other c pair ok rule p =
    let puts = claim_put old new k other c pair ok p in
    let said : List ℕ → ℕ → List (Option Claim) = λ bytes j. in_slot decoded_claim bytes j in
    let before = of_pair (metadata old).claims (said old) 2 4 k other (claims_by_slot old) pair in
    let now = of_pair (metadata new).claims (said new) 2 4 k other (claims_by_slot new) pair in
    let test : Claim → Bool = λ d. d.id == id in
    let weight : Claim → ℕ = λ d. d.epoch in
    record {
      others = puts.rest;
      raised = raised test weight c (metadata old).claims (metadata new).claims (said old k) (said old other) (said new k) (said new other) before now puts.slot puts.other_slot rule;
      decode = decode test weight c (metadata old).claims (metadata new).claims (said old k) (said old other) (said new k) (said new other) before now puts.slot puts.other_slot rule;
    }

pub put_raises_records : (id : ℕ) (old new : List ℕ) (k other : ℕ) (r : Status) → ArePair 6 8 k other → is_status r ≡ true → OtherHolds id old k other → IsPut old new k (status_spelling r)
    → RaisesRecords id (metadata old) (metadata new) r
put_raises_records id old new k other r pair ok rule p =
    let puts = status_put old new k other r pair ok p in
    let said : List ℕ → ℕ → List (Option Status) = λ bytes j. in_slot decoded_status bytes j in
    let before = of_pair (metadata old).statuses (said old) 6 8 k other (statuses_by_slot old) pair in
    let now = of_pair (metadata new).statuses (said new) 6 8 k other (statuses_by_slot new) pair in
    let test : Status → Bool = λ s. s.id == id in
    record {
      others = puts.rest;
      raised = raised test rank r (metadata old).statuses (metadata new).statuses (said old k) (said old other) (said new k) (said new other) before now puts.slot puts.other_slot rule;
      from = from test rank r (metadata old).statuses (metadata new).statuses (said old k) (said old other) (said new k) (said new other) before now puts.slot puts.other_slot rule;
      decode = decode test rank r (metadata old).statuses (metadata new).statuses (said old k) (said old other) (said new k) (said new other) before now puts.slot puts.other_slot rule;
    }
