-- The partner table is symmetric, crosses failure groups and has at most eight partners for each disk.
use Rattle.std.proofs.Common.{◌≡◌, ◌⊎◌, inl, inr, ⊎_elim, ℕ, ◌<◌, ◌≤◌, ◌∙◌, Bool, true, false, not, ltb, ◌&&◌, ◌||◌, List, [], ◌∷◌, map, filter, length, fold, refl, sym, ap, subst, arith, ◌==◌}
use Rattle.std.specs.List.{list_any}
use Rattle.std.proofs.lemmas.Bool.{cond_both, and_parts, ltb-true, not-true, or_cases, and_cases, and_from, or_left, or_right, not-false, ltb-false, ne_eqb, eqb-true, eq-eqb, both_ways}
use Rattle.asm_formats.specs.Among.{IsAmong}
use Rattle.asm_formats.specs.Status.{Entry}
use Rattle.asm_placement.specs.Partners.{Pair, table_disks, are_separate, pairs, touches, partner_count, has_partner_in, are_partners, both_have_room, first_pass, second_pass, partners, most_partners}
use Rattle.asm_placement.proofs.Membership.{among_split, among_filter, among_left, among_right, map_among, among_map, filter_out, among_filtered}

or_swap : (x y : Bool) → (x || y) ≡ (y || x)
or_swap true true = refl
or_swap true false = refl
or_swap false true = refl
or_swap false false = refl

any_same : {A : Type 0} (p q : A → Bool) (xs : List A) → ((x : A) → p x ≡ q x) → list_any p xs ≡ list_any q xs
any_same p q [] e = refl
any_same p q (x ∷ xs) e = λ i. e x i || any_same p q xs e i

pub partners_are_symmetric : (entries : List Entry) (a b : ℕ) → are_partners (partners entries) a b ≡ are_partners (partners entries) b a
unfolding are_partners
partners_are_symmetric entries a b = any_same (λ (p : Pair). ((p.0.number == a) && (p.1.number == b)) || ((p.0.number == b) && (p.1.number == a)))
    (λ (p : Pair). ((p.0.number == b) && (p.1.number == a)) || ((p.0.number == a) && (p.1.number == b))) (partners entries)
    (λ p. or_swap ((p.0.number == a) && (p.1.number == b)) ((p.0.number == b) && (p.1.number == a)))

-- ---- what a pass adds is a pair

abbrev IsPass : (List Pair → Pair → List Pair) → Type 0
IsPass step = (table : List Pair) (p q : Pair) → IsAmong (step table p) q → (q ≡ p) ⊎ IsAmong table q

first_adds : IsPass first_pass
first_adds table p q h = cond_both (both_have_room table p && (not (has_partner_in table p.0.number p.1.failgroup) || not (has_partner_in table p.1.number p.0.failgroup))) (p ∷ table) table
    (λ (l : List Pair). IsAmong l q → (q ≡ p) ⊎ IsAmong table q) (λ yes k. k) (λ out k. inr k) h

second_adds : IsPass second_pass
second_adds table p q h = cond_both (both_have_room table p && not (are_partners table p.0.number p.1.number)) (p ∷ table) table
    (λ (l : List Pair). IsAmong l q → (q ≡ p) ⊎ IsAmong table q) (λ yes k. k) (λ out k. inr k) h

folded : (step : List Pair → Pair → List Pair) → IsPass step → (table all : List Pair) (q : Pair) → IsAmong (fold step table all) q → IsAmong table q ⊎ IsAmong all q
folded step adds table [] q h = inl h
folded step adds table (p ∷ all) q h = ⊎_elim
    (λ before. ⊎_elim (λ here. inr (inl here)) (λ was. inl was) (adds table p q before))
    (λ later. inr (inr later))
    (folded step adds (step table p) all q h)

-- ---- a pair is of two disks of different failure groups

record IsPair (es : List Entry) (p : Pair) : Type 0 where
  first : IsAmong es p.0
  second : IsAmong es p.1
  separate : p.0.failgroup ≡ p.1.failgroup → ⊥

pair_is : (es : List Entry) (p : Pair) → IsAmong (pairs es) p → IsPair es p
pair_is [] p h = absurd h
pair_is (a ∷ es) p h = ⊎_elim
    (λ here.
    let m = map_among (λ (b : Entry). (a, b)) (filter (are_separate a) es) p here in
    let apart = not-true (a.failgroup == m.0.failgroup) (filter_out (are_separate a) es m.0 m.1) in
    subst (λ (q : Pair). IsPair (a ∷ es) q) (sym m.2) (record {
      first = inl refl;
      second = inr (among_filter (are_separate a) es m.0 m.1);
      separate = λ same. both_ways (a.failgroup == m.0.failgroup) apart (eq-eqb a.failgroup m.0.failgroup same);
    }))
    (λ later. let q = pair_is es p later in record { first = inr q.first; second = inr q.second; separate = q.separate })
    (among_split (map (λ (b : Entry). (a, b)) (filter (are_separate a) es)) (pairs es) p h)

pub partners_cross : (entries : List Entry) (p : Pair) → IsAmong (partners entries) p → IsAmong (table_disks entries) p.0 × IsAmong (table_disks entries) p.1 × (p.0.failgroup ≡ p.1.failgroup → ⊥)
unfolding partners
partners_cross entries p h =
    let all = pairs (table_disks entries) in
    let there : IsAmong all p = ⊎_elim
    (λ first. ⊎_elim (λ none. absurd none) (λ a. a) (folded first_pass first_adds [] all p first)) (λ b. b)
    (folded second_pass second_adds (fold first_pass [] all) all p h) in
    let q = pair_is (table_disks entries) p there in
    (q.first, q.second, q.separate)

-- ---- at most eight

abbrev IsFew : List Pair → Type 0
IsFew table = (d : ℕ) → partner_count table d ≤ 8

room_for : (table : List Pair) (p : Pair) (d : ℕ) → both_have_room table p ≡ true → IsFew table → partner_count (p ∷ table) d ≤ 8
room_for table p d room few =
    let r = and_parts (ltb (partner_count table p.0.number) most_partners) (ltb (partner_count table p.1.number) most_partners) room in
    let lt0 = ltb-true (partner_count table p.0.number) 8 r.0 in
    let lt1 = ltb-true (partner_count table p.1.number) 8 r.1 in
    cond_both (touches d p) (p ∷ filter (touches d) table) (filter (touches d) table) (λ (l : List Pair). length l ≤ 8)
    (λ yes. ⊎_elim
    (λ one. omega (arith, lt0, ap (λ (n : ℕ). partner_count table n) (eqb-true p.0.number d one)))
    (λ two. omega (arith, lt1, ap (λ (n : ℕ). partner_count table n) (eqb-true p.1.number d two)))
    (or_cases (p.0.number == d) (p.1.number == d) yes))
    (λ out. few d)

first_few : (table : List Pair) (p : Pair) → IsFew table → IsFew (first_pass table p)
first_few table p few d = cond_both (both_have_room table p && (not (has_partner_in table p.0.number p.1.failgroup) || not (has_partner_in table p.1.number p.0.failgroup))) (p ∷ table) table
    (λ (l : List Pair). partner_count l d ≤ 8) (λ yes. room_for table p d (and_parts (both_have_room table p) _ yes).0 few) (λ out. few d)

second_few : (table : List Pair) (p : Pair) → IsFew table → IsFew (second_pass table p)
second_few table p few d = cond_both (both_have_room table p && not (are_partners table p.0.number p.1.number)) (p ∷ table) table
    (λ (l : List Pair). partner_count l d ≤ 8) (λ yes. room_for table p d (and_parts (both_have_room table p) _ yes).0 few) (λ out. few d)

fold_few : (step : List Pair → Pair → List Pair) → ((table : List Pair) (p : Pair) → IsFew table → IsFew (step table p)) → (table all : List Pair) → IsFew table → IsFew (fold step table all)
fold_few step keeps table [] few = few
fold_few step keeps table (p ∷ all) few = fold_few step keeps (step table p) all (keeps table p few)

pub partners_are_few : (entries : List Entry) (d : ℕ) → partner_count (partners entries) d ≤ most_partners
unfolding partners
partners_are_few entries d =
    let all = pairs (table_disks entries) in
    fold_few second_pass second_few (fold first_pass [] all) all (fold_few first_pass first_few [] all (λ d. omega arith)) d

-- ---- spread

-- two disks of different failure groups are a pair, in one order
pair_among : (es : List Entry) (a b : Entry) → IsAmong es a → IsAmong es b → (a.failgroup ≡ b.failgroup → ⊥) → IsAmong (pairs es) (a, b) ⊎ IsAmong (pairs es) (b, a)
pair_among [] a b ha hb differ = absurd ha
pair_among (e ∷ es) a b ha hb differ =
    let with_first : (x : Entry) → IsAmong es x → (e.failgroup ≡ x.failgroup → ⊥) → IsAmong (pairs (e ∷ es)) (e, x) = λ x h apart.
    among_left (map (λ (y : Entry). (e, y)) (filter (are_separate e) es)) (pairs es) (e, x)
    (among_map (λ (y : Entry). (e, y)) (filter (are_separate e) es) x (among_filtered (are_separate e) es x h (ap not (ne_eqb e.failgroup x.failgroup apart)))) in
    ⊎_elim
    (λ (is_a : a ≡ e). ⊎_elim
    (λ (is_b : b ≡ e). absurd (differ (ap (λ (x : Entry). x.failgroup) (is_a ∙ sym is_b))))
    (λ in_b. inl (subst (λ (x : Entry). IsAmong (pairs (e ∷ es)) (x, b)) (sym is_a) (with_first b in_b (λ same. differ (ap (λ (x : Entry). x.failgroup) is_a ∙ same))))) hb)
    (λ in_a. ⊎_elim
    (λ (is_b : b ≡ e). inr (subst (λ (x : Entry). IsAmong (pairs (e ∷ es)) (x, a)) (sym is_b) (with_first a in_a (λ same. differ (sym same ∙ ap (λ (x : Entry). x.failgroup) (sym is_b))))))
    (λ in_b. ⊎_elim
    (λ ab. inl (among_right (map (λ (y : Entry). (e, y)) (filter (are_separate e) es)) (pairs es) (a, b) ab))
    (λ ba. inr (among_right (map (λ (y : Entry). (e, y)) (filter (are_separate e) es)) (pairs es) (b, a) ba))
    (pair_among es a b in_a in_b differ)) hb) ha

-- tables only grow
record Grows (old new : List Pair) : Type 0 where
  count : (d : ℕ) → partner_count old d ≤ partner_count new d
  kept : (a b : ℕ) → are_partners old a b ≡ true → are_partners new a b ≡ true

grows_same : (t : List Pair) → Grows t t
grows_same t = record { count = λ d. omega arith; kept = λ a b h. h }

grows_more : (t : List Pair) (p : Pair) → Grows t (p ∷ t)
unfolding are_partners
grows_more t p = record {
  count = λ d. cond_both (touches d p) (p ∷ filter (touches d) t) (filter (touches d) t) (λ (l : List Pair). length (filter (touches d) t) ≤ length l) (λ yes. omega arith) (λ out. omega arith);
  kept = λ a b h. or_right (((p.0.number == a) && (p.1.number == b)) || ((p.0.number == b) && (p.1.number == a))) _ h;
}

grows_then : (a b c : List Pair) → Grows a b → Grows b c → Grows a c
grows_then a b c g h = record { count = λ d. omega (arith, g.count d, h.count d); kept = λ x y k. h.kept x y (g.kept x y k) }

second_grows : (t : List Pair) (p : Pair) → Grows t (second_pass t p)
second_grows t p = cond_both (both_have_room t p && not (are_partners t p.0.number p.1.number)) (p ∷ t) t (λ (l : List Pair). Grows t l) (λ yes. grows_more t p) (λ out. grows_same t)

fold_grows : (t all : List Pair) → Grows t (fold second_pass t all)
fold_grows t [] = grows_same t
fold_grows t (p ∷ all) = grows_then t (second_pass t p) (fold second_pass (second_pass t p) all) (second_grows t p) (fold_grows (second_pass t p) all)

-- a pair that the second pass met is in the table, or one of the two had no room
record IsMet (table : List Pair) (p : Pair) : Type 0 where
  met : (are_partners table p.0.number p.1.number ≡ true) ⊎ ((8 ≤ partner_count table p.0.number) ⊎ (8 ≤ partner_count table p.1.number))

first_of_pair : (t : List Pair) (p : Pair) → are_partners (p ∷ t) p.0.number p.1.number ≡ true
unfolding are_partners
first_of_pair t p = or_left (((p.0.number == p.0.number) && (p.1.number == p.1.number)) || ((p.0.number == p.1.number) && (p.1.number == p.0.number))) _
    (or_left ((p.0.number == p.0.number) && (p.1.number == p.1.number)) _ (and_from (p.0.number == p.0.number) (p.1.number == p.1.number) (eq-eqb p.0.number p.0.number refl) (eq-eqb p.1.number p.1.number refl)))

step_meets : (t : List Pair) (p : Pair) → IsMet (second_pass t p) p
step_meets t p = cond_both (both_have_room t p && not (are_partners t p.0.number p.1.number)) (p ∷ t) t (λ (l : List Pair). IsMet l p)
    (λ yes. record { met = inl (first_of_pair t p) })
    (λ out. record {
      met = ⊎_elim
          (λ no_room. inr (⊎_elim (λ a. inl (ltb-false (partner_count t p.0.number) 8 a)) (λ b. inr (ltb-false (partner_count t p.1.number) 8 b))
          (and_cases (ltb (partner_count t p.0.number) most_partners) (ltb (partner_count t p.1.number) most_partners) no_room)))
          (λ there. inl (not-false (are_partners t p.0.number p.1.number) there))
          (and_cases (both_have_room t p) (not (are_partners t p.0.number p.1.number)) out);
    })

met_grows : (t u : List Pair) (p : Pair) → Grows t u → IsMet t p → IsMet u p
met_grows t u p g m = record {
  met = ⊎_elim (λ there. inl (g.kept p.0.number p.1.number there))
      (λ full. inr (⊎_elim (λ a. inl (omega (arith, a, g.count p.0.number))) (λ b. inr (omega (arith, b, g.count p.1.number))) full)) m.met;
}

fold_meets : (t all : List Pair) (p : Pair) → IsAmong all p → IsMet (fold second_pass t all) p
fold_meets t [] p h = absurd h
fold_meets t (q ∷ all) p (inl e) = met_grows (second_pass t q) (fold second_pass (second_pass t q) all) p (fold_grows (second_pass t q) all) (subst (λ (x : Pair). IsMet (second_pass t q) x) (sym e) (step_meets t q))
fold_meets t (q ∷ all) p (inr h) = fold_meets (second_pass t q) all p h

pair_met : (entries : List Entry) (p : Pair) → IsAmong (pairs (table_disks entries)) p → IsMet (partners entries) p
unfolding partners
pair_met entries p h = fold_meets (fold first_pass [] (pairs (table_disks entries))) (pairs (table_disks entries)) p h

pub partners_are_spread : (entries : List Entry) (a b : Entry) → IsAmong (table_disks entries) a → IsAmong (table_disks entries) b → (a.failgroup ≡ b.failgroup → ⊥)
    → partner_count (partners entries) a.number < most_partners → are_partners (partners entries) a.number b.number ≡ false → partner_count (partners entries) b.number ≡ most_partners
partners_are_spread entries a b ha hb differ few none =
    let t = partners entries in
    let most = partners_are_few entries b.number in
    ⊎_elim
    (λ ab. ⊎_elim (λ there. absurd (both_ways (are_partners t a.number b.number) none there))
    (λ full. ⊎_elim (λ x. absurd (omega (arith, x, few))) (λ y. omega (arith, y, most)) full) (pair_met entries (a, b) ab).met)
    (λ ba. ⊎_elim (λ there. absurd (both_ways (are_partners t a.number b.number) none (partners_are_symmetric entries a.number b.number ∙ there)))
    (λ full. ⊎_elim (λ y. omega (arith, y, most)) (λ x. absurd (omega (arith, x, few))) full) (pair_met entries (b, a) ba).met)
    (pair_among (table_disks entries) a b ha hb differ)
