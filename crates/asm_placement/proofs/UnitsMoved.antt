-- The used units of disks after a copy got a new home.
use Rattle.std.proofs.Common.{◌≡◌, inl, inr, ℕ, zero, suc, ◌+◌, ◌*◌, ◌/◌, ◌%◌, Bool, true, false, not, cond, ◌&&◌, List, [], ◌∷◌, ◌++◌, map, get_or, set, refl, sym, ap, ◌∙◌, subst, Some, None, arith, ◌==◌}
use Rattle.std.specs.Prelude.{if◌then◌else◌}
use Rattle.std.specs.List.{list_all}
use Rattle.std.proofs.lemmas.Bool.{cond_both, and_parts, not-true, eq-eqb, eqb-true, both_ways}
use Rattle.std.proofs.lemmas.Option.{same_Some, none-some}
use Rattle.std.proofs.lemmas.Nat.{div-add-mod'}
use Rattle.asm_formats.specs.asm_group.Shape.{Shape}
use Rattle.asm_formats.specs.Items.{Item, chunk_item, marks_item, Home, Homes, chunk_len, item_key, is_same_key}
use Rattle.asm_formats.specs.Among.{IsAmong}
use Rattle.asm_placement.specs.Layout.{units_of}
use Rattle.asm_placement.specs.Placed.{Placed, placed_copies, placed_extents, placed}
use Rattle.asm_placement.specs.Space.{units_on, used_units}
use Rattle.asm_placement.specs.Moves.{moved_item, unmarked_item, with_current, with_home}
use Rattle.asm_placement.specs.Work.{keys_differ}

units_append : (d : ℕ) (ps qs : List Placed) → units_on d (ps ++ qs) ≡ units_on d ps + units_on d qs
units_append d [] qs = omega arith
units_append d (p ∷ ps) qs =
    let later : units_on d (ps ++ qs) ≡ units_on d ps + units_on d qs = units_append d ps qs in
    cond_both (p.home.disk == d) (p.len + units_on d (ps ++ qs)) (units_on d (ps ++ qs)) (λ (n : ℕ). n ≡ cond (p.home.disk == d) (p.len + units_on d ps) (units_on d ps) + units_on d qs)
    (λ yes. rw yes (omega arith)) (λ out. rw out (omega arith))

-- n where the disk is meant
abbrev pub part : ℕ → ℕ → ℕ → ℕ
part n disk d = if disk == d then n else 0

swap : (a b : Bool) (n u : ℕ) → cond a (n + u) u + cond b n 0 ≡ cond b (n + u) u + cond a n 0
swap true true n u = refl
swap true false n u = omega arith
swap false true n u = omega arith
swap false false n u = refl

copies_units : (d f i n : ℕ) (hs : Homes) (c : ℕ) (h old : Home) → get_or hs c None ≡ Some old
    → units_on d (placed_copies f i n (set hs c (Some h))) + part n old.disk d ≡ units_on d (placed_copies f i n hs) + part n h.disk d
copies_units d f i n [] c h old e = absurd (none-some old e)
copies_units d f i n (None ∷ hs) zero h old e = absurd (none-some old e)
copies_units d f i n (Some a ∷ hs) zero h old e =
    subst (λ (b : Home). cond (h.disk == d) (n + units_on d (placed_copies f i n hs)) (units_on d (placed_copies f i n hs)) + part n b.disk d ≡ cond (a.disk == d) (n + units_on d (placed_copies f i n hs)) (units_on d (placed_copies f i n hs)) + part n h.disk d)
    (same_Some a old e) (swap (h.disk == d) (a.disk == d) n (units_on d (placed_copies f i n hs)))
copies_units d f i n (None ∷ hs) (suc c) h old e = copies_units d f i n hs c h old e
copies_units d f i n (Some a ∷ hs) (suc c) h old e =
    let later : units_on d (placed_copies f i n (set hs c (Some h))) + part n old.disk d ≡ units_on d (placed_copies f i n hs) + part n h.disk d = copies_units d f i n hs c h old e in
    cond_both (a.disk == d) (n + units_on d (placed_copies f i n hs)) (units_on d (placed_copies f i n hs))
    (λ (m : ℕ). cond (a.disk == d) (n + units_on d (placed_copies f i n (set hs c (Some h)))) (units_on d (placed_copies f i n (set hs c (Some h)))) + part n old.disk d ≡ m + part n h.disk d)
    (λ yes. rw yes (omega arith)) (λ out. rw out (omega arith))

extents_units : (step d f i : ℕ) (homes : List Homes) (k c : ℕ) (h old : Home) → get_or (get_or homes k []) c None ≡ Some old
    → units_on d (placed_extents step f i (set homes k (set (get_or homes k []) c (Some h)))) + part (units_of step (i + k)) old.disk d ≡ units_on d (placed_extents step f i homes) + part (units_of step (i + k)) h.disk d
extents_units step d f i [] k c h old e = absurd (none-some old e)
extents_units step d f i (hs ∷ more) zero c h old e =
    let at : i + 0 ≡ i = omega arith in
    let here : units_on d (placed_copies f i (units_of step i) (set hs c (Some h))) + part (units_of step i) old.disk d ≡ units_on d (placed_copies f i (units_of step i) hs) + part (units_of step i) h.disk d = copies_units d f i (units_of step i) hs c h old e in
    rw at (omega (arith, here, units_append d (placed_copies f i (units_of step i) (set hs c (Some h))) (placed_extents step f (suc i) more), units_append d (placed_copies f i (units_of step i) hs) (placed_extents step f (suc i) more)))
extents_units step d f i (hs ∷ more) (suc k) c h old e =
    let at : i + suc k ≡ suc i + k = omega arith in
    let later : units_on d (placed_extents step f (suc i) (set more k (set (get_or more k []) c (Some h)))) + part (units_of step (suc i + k)) old.disk d ≡ units_on d (placed_extents step f (suc i) more) + part (units_of step (suc i + k)) h.disk d = extents_units step d f (suc i) more k c h old e in
    rw at (omega (arith, later, units_append d (placed_copies f i (units_of step i) hs) (placed_extents step f (suc i) (set more k (set (get_or more k []) c (Some h)))), units_append d (placed_copies f i (units_of step i) hs) (placed_extents step f (suc i) more)))

-- ---- the one chunk

same_chunk : (f c g d : ℕ) (hs homes : List Homes) → ((g == f) && (d == c)) ≡ true → is_same_key (item_key (chunk_item f c hs)) (item_key (chunk_item g d homes)) ≡ true
same_chunk f c g d hs homes e =
    let p = and_parts (g == f) (d == c) e in
    let file : g ≡ f = eqb-true g f p.0 in
    let chunk : d ≡ c = eqb-true d c p.1 in
    rw (eq-eqb f g (sym file), eq-eqb (c + 1) (d + 1) (ap (λ (n : ℕ). n + 1) (sym chunk))) refl

same_chunk_back : (f c g d : ℕ) (hs homes : List Homes) → ((g == f) && (d == c)) ≡ true → is_same_key (item_key (chunk_item g d homes)) (item_key (chunk_item f c hs)) ≡ true
same_chunk_back f c g d hs homes e =
    let p = and_parts (g == f) (d == c) e in
    rw (p.0, eq-eqb (d + 1) (c + 1) (ap (λ (n : ℕ). n + 1) (eqb-true d c p.1))) refl

not_so : (b : Bool) → (b ≡ true → ⊥) → b ≡ false
not_so true h = absurd (h refl)
not_so false h = refl

others_stay : (f i copy : ℕ) (h : Home) (hs : List Homes) (items : List Item) → list_all (λ k. not (is_same_key (item_key (chunk_item f (i / 256) hs)) (item_key k))) items ≡ true → map (moved_item f i copy h) items ≡ items
others_stay f i copy h hs [] all = refl
others_stay f i copy h hs (chunk_item g c homes ∷ items) all =
    let parts = and_parts (not (is_same_key (item_key (chunk_item f (i / 256) hs)) (item_key (chunk_item g c homes)))) (list_all (λ k. not (is_same_key (item_key (chunk_item f (i / 256) hs)) (item_key k))) items) all in
    let out : ((g == f) && (c == i / 256)) ≡ false = not_so ((g == f) && (c == i / 256)) (λ e. both_ways _ (not-true (is_same_key (item_key (chunk_item f (i / 256) hs)) (item_key (chunk_item g c homes))) parts.0) (same_chunk f (i / 256) g c hs homes e)) in
    rw out (ap (λ (l : List Item). chunk_item g c homes ∷ l) (others_stay f i copy h hs items parts.1))
others_stay f i copy h hs (j ∷ items) all = ap (λ (l : List Item). j ∷ l) (others_stay f i copy h hs items (and_parts (not (is_same_key (item_key (chunk_item f (i / 256) hs)) (item_key j))) (list_all (λ k. not (is_same_key (item_key (chunk_item f (i / 256) hs)) (item_key k))) items) all).1)

all_of : {A : Type 0} (t : A → Bool) (xs : List A) (x : A) → list_all t xs ≡ true → IsAmong xs x → t x ≡ true
all_of t [] x all h = absurd h
all_of t (y ∷ xs) x all (inl e) = ap t e ∙ (and_parts (t y) (list_all t xs) all).0
all_of t (y ∷ xs) x all (inr h) = all_of t xs x (and_parts (t y) (list_all t xs) all).1 h

-- units before and after
abbrev pub Shifts : ℕ → ℕ → ℕ → ℕ → Home → Home → Type 0
Shifts old new n d from to = new + part n from.disk d ≡ old + part n to.disk d

here_units : (step d f i copy : ℕ) (h old : Home) (homes : List Homes) (items : List Item) → list_all (λ k. not (is_same_key (item_key (chunk_item f (i / 256) homes)) (item_key k))) items ≡ true
    → get_or (get_or homes (i % 256) []) copy None ≡ Some old
    → Shifts (units_on d (placed step (chunk_item f (i / 256) homes ∷ items))) (units_on d (placed step (map (moved_item f i copy h) (chunk_item f (i / 256) homes ∷ items)))) (units_of step i) d old h
unfolding placed
here_units step d f i copy h old homes items all e =
    let stay : map (moved_item f i copy h) items ≡ items = others_stay f i copy h homes items all in
    let at : i / 256 * 256 + i % 256 ≡ i = div-add-mod' i 256 in
    let new : List Homes = set homes (i % 256) (set (get_or homes (i % 256) []) copy (Some h)) in
    let chunk = subst (λ (m : ℕ). units_on d (placed_extents step f (i / 256 * 256) new) + part (units_of step m) old.disk d ≡ units_on d (placed_extents step f (i / 256 * 256) homes) + part (units_of step m) h.disk d) at (extents_units step d f (i / 256 * 256) homes (i % 256) copy h old e) in
    rw (eq-eqb f f refl, eq-eqb (i / 256) (i / 256) refl, stay)
    (omega (arith, chunk, units_append d (placed_extents step f (i / 256 * 256) new) (placed step items), units_append d (placed_extents step f (i / 256 * 256) homes) (placed step items)))

items_units : (step d f i copy : ℕ) (h old : Home) (homes : List Homes) (items : List Item) → keys_differ items ≡ true → IsAmong items (chunk_item f (i / 256) homes)
    → get_or (get_or homes (i % 256) []) copy None ≡ Some old → Shifts (units_on d (placed step items)) (units_on d (placed step (map (moved_item f i copy h) items))) (units_of step i) d old h
unfolding placed
items_units step d f i copy h old homes [] differ among e = absurd among
items_units step d f i copy h old homes (j ∷ items) differ (inl is) e =
    subst (λ (k : Item). Shifts (units_on d (placed step (k ∷ items))) (units_on d (placed step (map (moved_item f i copy h) (k ∷ items)))) (units_of step i) d old h) is
    (here_units step d f i copy h old homes items (subst (λ (k : Item). list_all (λ l. not (is_same_key (item_key k) (item_key l))) items ≡ true) (sym is) (and_parts (list_all (λ k. not (is_same_key (item_key j) (item_key k))) items) (keys_differ items) differ).0) e)
items_units step d f i copy h old homes (chunk_item g c others ∷ items) differ (inr there) e =
    let parts = and_parts (list_all (λ k. not (is_same_key (item_key (chunk_item g c others)) (item_key k))) items) (keys_differ items) differ in
    let apart = all_of (λ k. not (is_same_key (item_key (chunk_item g c others)) (item_key k))) items (chunk_item f (i / 256) homes) parts.0 there in
    let out : ((g == f) && (c == i / 256)) ≡ false = not_so ((g == f) && (c == i / 256)) (λ same. both_ways _ (not-true (is_same_key (item_key (chunk_item g c others)) (item_key (chunk_item f (i / 256) homes))) apart) (same_chunk_back f (i / 256) g c homes others same)) in
    let later : Shifts (units_on d (placed step items)) (units_on d (placed step (map (moved_item f i copy h) items))) (units_of step i) d old h = items_units step d f i copy h old homes items parts.1 there e in
    rw out (omega (arith, later, units_append d (placed_extents step g (c * 256) others) (placed step items), units_append d (placed_extents step g (c * 256) others) (placed step (map (moved_item f i copy h) items))))
items_units step d f i copy h old homes (j ∷ items) differ (inr there) e = items_units step d f i copy h old homes items (and_parts (list_all (λ k. not (is_same_key (item_key j) (item_key k))) items) (keys_differ items) differ).1 there e

placed_unmarked : (step f i copy : ℕ) (items : List Item) → placed step (map (unmarked_item f i copy) items) ≡ placed step items
unfolding placed
placed_unmarked step f i copy [] = refl
placed_unmarked step f i copy (chunk_item g c homes ∷ items) = ap (λ (l : List Placed). placed_extents step g (c * 256) homes ++ l) (placed_unmarked step f i copy items)
placed_unmarked step f i copy (marks_item g c marks ∷ items) =
    cond_both ((g == f) && (c == i / chunk_len)) _ _ (λ (j : Item). placed step (j ∷ map (unmarked_item f i copy) items) ≡ placed step items) (λ yes. placed_unmarked step f i copy items) (λ out. placed_unmarked step f i copy items)
placed_unmarked step f i copy (j ∷ items) = placed_unmarked step f i copy items

pub used_moved : (s : Shape) (d f i copy : ℕ) (h old : Home) (homes : List Homes) (items : List Item) → keys_differ items ≡ true → IsAmong items (chunk_item f (i / 256) homes)
    → get_or (get_or homes (i % 256) []) copy None ≡ Some old → Shifts (used_units s items d) (used_units s (with_home f i copy h items) d) (units_of s.step i) d old h
unfolding used_units with_home with_current
used_moved s d f i copy h old homes items differ among e =
    rw (placed_unmarked s.step f i copy (map (moved_item f i copy h) items)) (items_units s.step d f i copy h old homes items differ among e)
