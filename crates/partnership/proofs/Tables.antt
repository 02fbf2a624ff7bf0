-- The partner table, as a list that grows at its end, and the passes over all pairs.
use Rattle.std.proofs.Common.{◌≡◌, ℕ, suc, ◌+◌, ◌-◌, ◌*◌, ◌%◌, ◌^◌, ◌<◌, ◌≤◌, Bool, true, false, cond, ◌&&◌, ◌||◌, List, [], ◌∷◌, ◌++◌, length, map, filter, reverse, get_or, take, drop, refl, sym, ap, ◌∙◌, arith, ◌==◌, length-append}
use Rattle.std.specs.Prelude.{fold, bit_or}
use Rattle.std.specs.List.{list_any, range_with_len}
use mathlib.Core.List.{reverse-cons}
use Rattle.std.proofs.lemmas.List.{reverse-append, drop_more, drop_all, take_rest, map_more}
use Rattle.std.proofs.lemmas.List.Elements.{filter-append}
use Rattle.std.proofs.lemmas.List.Folds.{list_any-append}
use Rattle.std.proofs.lemmas.List.Sums.{fold-append}
use Rattle.std.proofs.Math.Nat.{mod-eq_of_lt}
use Rattle.std.proofs.Math.Pow.{pow-lt}
use Rattle.asm_formats.specs.Status.{Entry}
use Rattle.asm_placement.specs.DiskSets.{set_of, with_bit}
use Rattle.asm_placement.specs.Partners.{Pair, partners, partner_set, partner_count, has_partner_in, are_partners, are_separate, both_have_room, pairs, table_disks, touches, with_partners}
use Rattle.status_table.specs.Changes.{entries_with_partners}
use Rattle.partnership.specs.declared.partner_table.Pass.{Pass}
use Rattle.partnership.specs.declared.partner_table.Pass.TheVariants.{First, Second}
use Rattle.partnership.specs.Tables.{step, is_wanted, is_table_disk, met, partners_from}

-- ---- the same pairs in the other order

pub pushed : (ps : List Pair) (p : Pair) → reverse (ps ++ (p ∷ [])) ≡ p ∷ reverse ps
pushed ps p = reverse-append ps (p ∷ [])

any_reversed : (f : Pair → Bool) (ps : List Pair) → list_any f (reverse ps) ≡ list_any f ps
any_reversed f [] = refl
any_reversed f (p ∷ ps) =
    ap (list_any f) (reverse-cons p ps) ∙ list_any-append f (reverse ps) (p ∷ []) ∙ rw (any_reversed f ps) (last (list_any f ps) (f p))
  where
    last : (a b : Bool) → (a || (b || false)) ≡ (b || a)
    last true true = refl
    last true false = refl
    last false true = refl
    last false false = refl

pub count_reversed : (ps : List Pair) (d : ℕ) → partner_count (reverse ps) d ≡ partner_count ps d
count_reversed [] d = refl
count_reversed (p ∷ ps) d =
    ap (λ (l : List Pair). length (filter (touches d) l)) (reverse-cons p ps)
    ∙ ap (λ (l : List Pair). length l) (filter-append (touches d) (reverse ps) (p ∷ []))
    ∙ length-append (filter (touches d) (reverse ps)) (filter (touches d) (p ∷ []))
    ∙ rw (count_reversed ps d) (last (touches d p))
  where
    last : (b : Bool) → length (filter (touches d) ps) + length (cond b (p ∷ []) []) ≡ length (cond b (p ∷ filter (touches d) ps) (filter (touches d) ps))
    last true = omega arith
    last false = omega arith

pub group_reversed : (ps : List Pair) (d g : ℕ) → has_partner_in (reverse ps) d g ≡ has_partner_in ps d g
group_reversed ps d g = any_reversed (λ (p : Pair). ((p.0.number == d) && (p.1.failgroup == g)) || ((p.1.number == d) && (p.0.failgroup == g))) ps

pub partners_reversed : (ps : List Pair) (a b : ℕ) → are_partners (reverse ps) a b ≡ are_partners ps a b
unfolding are_partners
partners_reversed ps a b = any_reversed (λ (p : Pair). ((p.0.number == a) && (p.1.number == b)) || ((p.0.number == b) && (p.1.number == a))) ps

-- ---- the passes

pub step_is : (pass : Pass) (table : List Pair) (a b : Entry) → step pass table (a, b) ≡ cond (both_have_room table (a, b) && is_wanted pass table (a, b)) ((a, b) ∷ table) table
step_is First table a b = refl
step_is Second table a b = refl

pub met_is : (pass : Pass) (table : List Pair) (a b : Entry) → met pass a table b ≡ cond (is_table_disk b && are_separate a b && both_have_room table (a, b) && is_wanted pass table (a, b)) ((a, b) ∷ table) table
met_is pass table a b = by (is_table_disk b) (are_separate a b)
  where
    by : (s t : Bool) → cond (s && t) (step pass table (a, b)) table ≡ cond (s && t && both_have_room table (a, b) && is_wanted pass table (a, b)) ((a, b) ∷ table) table
    by true true = step_is pass table a b
    by true false = refl
    by false t = refl

-- a fold over what is left
pub fold_from : {A B : Type 0} (f : B → A → B) (t : B) (xs : List A) (i : ℕ) (x : A) → i < length xs → x ≡ get_or xs i x → fold f t (drop i xs) ≡ fold f (f t x) (drop (i + 1) xs)
fold_from {A} f t xs i x within is =
    let a : drop i xs ≡ x ∷ drop (i + 1) xs = drop_more xs i x within ∙ ap (λ (y : A). y ∷ drop (i + 1) xs) (sym is) in
    ap (fold f t) a

pub fold_end : {A B : Type 0} (f : B → A → B) (t : B) (xs : List A) (i : ℕ) → length xs ≤ i → fold f t (drop i xs) ≡ t
fold_end f t xs i past = ap (fold f t) (drop_all i xs past)

pairs_met : (pass : Pass) (a : Entry) (t : List Pair) (es : List Entry) → fold (step pass) t (map (λ (b : Entry). (a, b)) (filter (are_separate a) (table_disks es))) ≡ fold (met pass a) t es
pairs_met pass a t [] = refl
pairs_met pass a t (e ∷ es) = by (is_table_disk e) (are_separate a e) refl (λ (u : List Pair). pairs_met pass a u es)
  where
    by : (s u : Bool) → are_separate a e ≡ u → ((t : List Pair) → fold (step pass) t (map (λ (b : Entry). (a, b)) (filter (are_separate a) (table_disks es))) ≡ fold (met pass a) t es)
        → fold (step pass) t (map (λ (b : Entry). (a, b)) (filter (are_separate a) (cond s (e ∷ table_disks es) (table_disks es)))) ≡ fold (met pass a) (cond (s && u) (step pass t (a, e)) t) es
    by true true apart later = rw apart (later (step pass t (a, e)))
    by true false apart later = rw apart (later t)
    by false u apart later = later t

-- the pairs of a disk of the table with later ones, and then the pairs of those
pub pairs_first : (pass : Pass) (t : List Pair) (e : Entry) (es : List Entry) → is_table_disk e ≡ true → fold (step pass) (fold (met pass e) t es) (pairs (table_disks es)) ≡ fold (step pass) t (pairs (table_disks (e ∷ es)))
pairs_first pass t e es passes = sym (
    rw passes (fold-append (step pass) t (map (λ (x : Entry). (e, x)) (filter (are_separate e) (table_disks es))) (pairs (table_disks es)))
    ∙ ap (λ (u : List Pair). fold (step pass) u (pairs (table_disks es))) (pairs_met pass e t es))

pub pairs_past : (pass : Pass) (t : List Pair) (e : Entry) (es : List Entry) → is_table_disk e ≡ false → fold (step pass) t (pairs (table_disks es)) ≡ fold (step pass) t (pairs (table_disks (e ∷ es)))
pairs_past pass t e es out = rw out refl

-- a disk and those behind it, as a slice has them
pub rest_is : (es : List Entry) (i : ℕ) (e : Entry) → i < length es → e ≡ get_or es i e → e ∷ take (length es - (i + 1)) (drop (i + 1) es) ≡ drop i es
rest_is es i e within is = rw (take_rest es (i + 1)) (ap (λ (x : Entry). x ∷ drop (i + 1) es) is ∙ sym (drop_more es i e within))

pub pairs_end : (pass : Pass) (t : List Pair) (es : List Entry) (i : ℕ) → length es ≤ i → fold (step pass) t (pairs (table_disks (drop i es))) ≡ t
pairs_end pass t es i past = ap (λ (l : List Entry). fold (step pass) t (pairs (table_disks l))) (drop_all i es past)

-- ---- the sets

-- one number more in front
pub set_from : (table : List Pair) (d k : ℕ) → k < 64 → partners_from table d k ≡ cond (are_partners table d k) (with_bit (partners_from table d (k + 1)) k) (partners_from table d (k + 1))
unfolding partners_from
set_from table d k small =
    let e : 64 - k ≡ suc (64 - (k + 1)) = omega arith in
    rw e (by (are_partners table d k) (filter (are_partners table d) (range_with_len (k + 1) (64 - (k + 1)))))
  where
    by : (b : Bool) (rest : List ℕ) → set_of (cond b (k ∷ rest) rest) ≡ cond b (with_bit (set_of rest) k) (set_of rest)
    by true rest = refl
    by false rest = refl

pub set_end : (table : List Pair) (d k : ℕ) → 64 ≤ k → 0 ≡ partners_from table d k
unfolding partners_from
set_end table d k past =
    let e : 64 - k ≡ 0 = omega arith in
    rw e refl

pub bit_is : (bits k : ℕ) → k < 64 → bit_or bits (1 * 2 ^ k % 2 ^ 64) ≡ with_bit bits k
unfolding with_bit
bit_is bits k small =
    let low : 2 ^ k < 2 ^ 64 = pow-lt {i = k} {j = 64} small in
    let e : 1 * 2 ^ k % 2 ^ 64 ≡ 2 ^ k = omega (arith, mod-eq_of_lt {n = 2 ^ k} {m = 2 ^ 64} low) in
    ap (bit_or bits) e

-- by the whole table, they are the disk's partners
pub set_is : (es : List Entry) (table : List Pair) (d : ℕ) → table ≡ partners es → partners_from table d 0 ≡ partner_set es d
unfolding partners_from partner_set
set_is es table d is = ap (λ (t : List Pair). set_of (filter (are_partners t d) (range_with_len 0 64))) is

set_each : (all es : List Entry) → entries_with_partners es (map (λ (e : Entry). partner_set all e.number) es) ≡ map (λ (e : Entry). record e { partners = partner_set all e.number }) es
set_each all [] = refl
set_each all (e ∷ es) = ap (λ (l : List Entry). record e { partners = partner_set all e.number } ∷ l) (set_each all es)

-- given to the entries by place, the sets are their partners
pub given : (es : List Entry) (sets : List ℕ) → sets ≡ map (λ (e : Entry). partner_set es e.number) es → entries_with_partners es sets ≡ with_partners es
given es sets is = rw is (set_each es es)

-- the sets so far, with one more
pub sets_more : (all es : List Entry) (i : ℕ) (e : Entry) (sets : List ℕ) (set : ℕ) → i < length es → e ≡ get_or es i e → sets ≡ map (λ (e : Entry). partner_set all e.number) (take i es) → set ≡ partner_set all e.number
    → sets ++ (set ∷ []) ≡ map (λ (e : Entry). partner_set all e.number) (take (i + 1) es)
sets_more all es i e sets set within is so_far set_is =
    rw (so_far, set_is) (sym (map_more (λ (e : Entry). partner_set all e.number) es i e within ∙ ap (λ (x : Entry). map (λ (e : Entry). partner_set all e.number) (take i es) ++ (partner_set all x.number ∷ [])) (sym is)))
