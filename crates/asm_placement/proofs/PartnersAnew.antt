-- The table of partners depends on the numbers and the failure groups of the disks that stand in it alone, so entries that are
-- given the partners of the table have those of their own table.
use Rattle.std.proofs.Common.{◌≡◌, inl, inr, ⊎_elim, ℕ, zero, suc, ◌+◌, ◌<◌, ◌≤◌, Bool, true, false, cond, not, ◌&&◌, ◌||◌, ◌==◌, List, [], ◌∷◌, ◌++◌, length, map, filter, refl, sym, ap, ◌∙◌, arith, nat_lt}
use Rattle.std.specs.Prelude.{fold}
use Rattle.std.specs.List.{list_any, range_with_len}
use Rattle.std.proofs.lemmas.Bool.{and_parts, cases_lt, eqb-true, false≢true, ne_eqb, or_cases}
use Rattle.asm_formats.specs.asm_group.declared.Mode.TheVariants.{Online}
use Rattle.asm_formats.specs.Sets.{has_bit}
use Rattle.asm_formats.specs.Status.{Entry}
use Rattle.asm_formats.specs.Among.{IsAmong}
use Rattle.asm_placement.specs.DiskSets.{is_among, set_of}
use Rattle.asm_placement.specs.Modes.{stays}
use Rattle.asm_placement.specs.Partners.{HasPartners, Pair, are_partners, are_separate, both_have_room, first_pass, has_partner_in, most_partners, pairs, partner_count, partner_set, partners, second_pass, table_disks, touches, with_partners}
use Rattle.asm_placement.proofs.Bits.{kept_is, left_out, partner_sets, set_of_is}
use Rattle.asm_placement.proofs.Membership.{among_filter, map_among}
use Rattle.asm_placement.proofs.PartnerTables.{partners_cross}

-- what the table reads of a disk in it
abbrev plain : Entry → Entry
plain e = record { number = e.number; birth = 0; mode = Online; failgroup = e.failgroup; quorum = false; units = 0; since = 0; repair = 0; partners = 0 }

abbrev both : Pair → Pair
both x = (plain x.0, plain x.1)

pairs_of : (a : Entry) (es : List Entry) → map (λ b. (plain a, b)) (filter (are_separate (plain a)) (map plain es)) ≡ map both (map (λ b. (a, b)) (filter (are_separate a) es))
pairs_of a [] = refl
pairs_of a (e ∷ es) = go (not (a.failgroup == e.failgroup)) (pairs_of a es)
  where
    go : (b : Bool) → map (λ b. (plain a, b)) (filter (are_separate (plain a)) (map plain es)) ≡ map both (map (λ b. (a, b)) (filter (are_separate a) es))
        → map (λ b. (plain a, b)) (cond b (plain e ∷ filter (are_separate (plain a)) (map plain es)) (filter (are_separate (plain a)) (map plain es)))
        ≡ map both (map (λ b. (a, b)) (cond b (e ∷ filter (are_separate a) es) (filter (are_separate a) es)))
    go true rest = ap (λ (l : List Pair). (plain a, plain e) ∷ l) rest
    go false rest = rest

both_append : (xs ys : List Pair) → map both (xs ++ ys) ≡ map both xs ++ map both ys
both_append [] ys = refl
both_append (x ∷ xs) ys = ap (λ (l : List Pair). both x ∷ l) (both_append xs ys)

pairs_plain : (es : List Entry) → pairs (map plain es) ≡ map both (pairs es)
pairs_plain [] = refl
pairs_plain (e ∷ es) = (λ i. pairs_of e es i ++ pairs_plain es i) ∙ sym (both_append (map (λ b. (e, b)) (filter (are_separate e) es)) (pairs es))

-- ---- what is asked of a table

count_plain : (table : List Pair) (d : ℕ) → partner_count (map both table) d ≡ partner_count table d
count_plain [] d = refl
count_plain (x ∷ table) d = go (touches d x) (count_plain table d)
  where
    go : (b : Bool) → partner_count (map both table) d ≡ partner_count table d
        → length (cond b (both x ∷ filter (touches d) (map both table)) (filter (touches d) (map both table))) ≡ length (cond b (x ∷ filter (touches d) table) (filter (touches d) table))
    go true rest = ap suc rest
    go false rest = rest

in_plain : (table : List Pair) (d failgroup : ℕ) → has_partner_in (map both table) d failgroup ≡ has_partner_in table d failgroup
in_plain [] d failgroup = refl
in_plain (x ∷ table) d failgroup =
    ap (λ (b : Bool). (((x.0.number == d) && (x.1.failgroup == failgroup)) || ((x.1.number == d) && (x.0.failgroup == failgroup))) || b) (in_plain table d failgroup)

are_plain : (table : List Pair) (a b : ℕ) → are_partners (map both table) a b ≡ are_partners table a b
unfolding are_partners
are_plain [] a b = refl
are_plain (x ∷ table) a b =
    ap (λ (c : Bool). (((x.0.number == a) && (x.1.number == b)) || ((x.0.number == b) && (x.1.number == a))) || c) (are_plain table a b)

room_plain : (table : List Pair) (x : Pair) → both_have_room (map both table) (both x) ≡ both_have_room table x
room_plain table x = λ i. nat_lt (count_plain table x.0.number i) most_partners && nat_lt (count_plain table x.1.number i) most_partners

put : (b : Bool) (table : List Pair) (x : Pair) → cond b (both x ∷ map both table) (map both table) ≡ map both (cond b (x ∷ table) table)
put true table x = refl
put false table x = refl

first_plain : (table : List Pair) (x : Pair) → first_pass (map both table) (both x) ≡ map both (first_pass table x)
first_plain table x =
    (λ i. cond (room_plain table x i && (not (in_plain table x.0.number x.1.failgroup i) || not (in_plain table x.1.number x.0.failgroup i))) (both x ∷ map both table) (map both table))
    ∙ put (both_have_room table x && (not (has_partner_in table x.0.number x.1.failgroup) || not (has_partner_in table x.1.number x.0.failgroup))) table x

second_plain : (table : List Pair) (x : Pair) → second_pass (map both table) (both x) ≡ map both (second_pass table x)
second_plain table x =
    (λ i. cond (room_plain table x i && not (are_plain table x.0.number x.1.number i)) (both x ∷ map both table) (map both table))
    ∙ put (both_have_room table x && not (are_partners table x.0.number x.1.number)) table x

folded : (pass : List Pair → Pair → List Pair) → ((table : List Pair) (x : Pair) → pass (map both table) (both x) ≡ map both (pass table x))
    → (all table : List Pair) → fold pass (map both table) (map both all) ≡ map both (fold pass table all)
folded pass each [] table = refl
folded pass each (x ∷ all) table = ap (λ (t : List Pair). fold pass t (map both all)) (each table x) ∙ folded pass each all (pass table x)

-- the table of the disks in it
abbrev table_of : List Entry → List Pair
table_of ds = fold second_pass (fold first_pass [] (pairs ds)) (pairs ds)

table_plain : (ds : List Entry) → table_of (map plain ds) ≡ map both (table_of ds)
table_plain ds =
    (λ i. fold second_pass (fold first_pass [] (pairs_plain ds i)) (pairs_plain ds i))
    ∙ ap (λ (t : List Pair). fold second_pass t (map both (pairs ds))) (folded first_pass first_plain (pairs ds) [])
    ∙ folded second_pass second_plain (pairs ds) (fold first_pass [] (pairs ds))

-- Disks with the same numbers and failure groups have the same partners.
same_table : (xs ys : List Entry) → map plain (table_disks xs) ≡ map plain (table_disks ys) → (a b : ℕ) → are_partners (partners xs) a b ≡ are_partners (partners ys) a b
unfolding partners
same_table xs ys same a b =
    sym (are_plain (table_of (table_disks xs)) a b) ∙ ap (λ (t : List Pair). are_partners t a b) (sym (table_plain (table_disks xs)))
    ∙ ap (λ (l : List Entry). are_partners (table_of l) a b) same
    ∙ ap (λ (t : List Pair). are_partners t a b) (table_plain (table_disks ys)) ∙ are_plain (table_of (table_disks ys)) a b

-- ---- a change that leaves them

-- number, failure group and place in the table stay
pub record IsAs (e f : Entry) : Type 0 where
  pub number : f.number ≡ e.number
  pub failgroup : f.failgroup ≡ e.failgroup
  pub quorum : f.quorum ≡ e.quorum
  pub stays : stays f.mode ≡ stays e.mode

changed_disks : (change : Entry → Entry) (es : List Entry) → ((e : Entry) → IsAmong es e → IsAs e (change e)) → map plain (table_disks (map change es)) ≡ map plain (table_disks es)
changed_disks change [] each = refl
changed_disks change (e ∷ es) each =
    let k = each e (inl refl) in
    let test : (not (change e).quorum && stays (change e).mode) ≡ (not e.quorum && stays e.mode) = (λ i. not (k.quorum i) && k.stays i) in
    let same : plain (change e) ≡ plain e = (λ i. record { number = k.number i; birth = 0; mode = Online; failgroup = k.failgroup i; quorum = false; units = 0; since = 0; repair = 0; partners = 0 }) in
    ap (λ (b : Bool). map plain (cond b (change e ∷ table_disks (map change es)) (table_disks (map change es)))) test
    ∙ go (not e.quorum && stays e.mode) same (changed_disks change es (λ x h. each x (inr h)))
  where
    go : (b : Bool) → plain (change e) ≡ plain e → map plain (table_disks (map change es)) ≡ map plain (table_disks es)
        → map plain (cond b (change e ∷ table_disks (map change es)) (table_disks (map change es))) ≡ map plain (cond b (e ∷ table_disks es) (table_disks es))
    go true same rest = λ i. same i ∷ rest i
    go false same rest = rest

pub changed_table : (change : Entry → Entry) (es : List Entry) → ((e : Entry) → IsAmong es e → IsAs e (change e)) → (a b : ℕ) → are_partners (partners (map change es)) a b ≡ are_partners (partners es) a b
changed_table change es each a b = same_table (map change es) es (changed_disks change es each) a b

-- ---- numbers past the disks

not_so : (b : Bool) → (b ≡ true → ⊥) → b ≡ false
not_so true h = absurd (h refl)
not_so false h = refl

found : {A : Type 0} (p : A → Bool) (xs : List A) → list_any p xs ≡ true → (x : A) × IsAmong xs x × (p x ≡ true)
found p [] e = absurd (false≢true e)
found p (x ∷ xs) e = ⊎_elim (λ here. (x, inl refl, here)) (λ later. let f = found p xs later in (f.0, inr f.1, f.2)) (or_cases (p x) (list_any p xs) e)

no_partner : (es : List Entry) (a b : ℕ) → ((e : Entry) → IsAmong es e → e.number < 64) → 64 ≤ b → are_partners (partners es) a b ≡ false
unfolding are_partners
no_partner es a b small past = not_so (are_partners (partners es) a b) (λ is.
    let p = found (λ (x : Pair). ((x.0.number == a) && (x.1.number == b)) || ((x.0.number == b) && (x.1.number == a))) (partners es) is in
    let cross = partners_cross es p.0 p.1 in
    let first : IsAmong es p.0.0 = among_filter (λ (e : Entry). not e.quorum && stays e.mode) es p.0.0 cross.0 in
    let second : IsAmong es p.0.1 = among_filter (λ (e : Entry). not e.quorum && stays e.mode) es p.0.1 cross.1 in
    let low = small p.0.0 first in
    let high = small p.0.1 second in
    ⊎_elim
    (λ straight. omega (arith, low, high, past, eqb-true p.0.1.number b (and_parts (p.0.0.number == a) (p.0.1.number == b) straight).1))
    (λ turned. omega (arith, low, high, past, eqb-true p.0.0.number b (and_parts (p.0.0.number == b) (p.0.1.number == a) turned).0))
    (or_cases ((p.0.0.number == a) && (p.0.1.number == b)) ((p.0.0.number == b) && (p.0.1.number == a)) p.2))

range_out : (n a k : ℕ) → a + n ≤ k → is_among (range_with_len a n) k ≡ false
range_out zero a k past = refl
range_out (suc n) a k past = λ i. ne_eqb a k (λ e. omega (arith, e, past)) i || range_out n (a + 1) k (omega (arith, past)) i

no_bit_past : (test : ℕ → Bool) (k : ℕ) → 64 ≤ k → has_bit (set_of (filter test (range_with_len 0 64))) k ≡ false
no_bit_past test k past = set_of_is (filter test (range_with_len 0 64)) k ∙ by (test k) refl
  where
    by : (b : Bool) → test k ≡ b → is_among (filter test (range_with_len 0 64)) k ≡ false
    by true e = kept_is test (range_with_len 0 64) k e ∙ range_out 64 0 k (omega (arith, past))
    by false e = left_out test (range_with_len 0 64) k e

set_past : (es : List Entry) (n d : ℕ) → 64 ≤ d → has_bit (partner_set es n) d ≡ false
unfolding partner_set
set_past es n d past = no_bit_past (are_partners (partners es) n) d past

-- ---- partners made anew

pub has_partners : (es : List Entry) → ((e : Entry) → IsAmong es e → e.number < 64) → HasPartners (with_partners es)
has_partners es small e d among =
    let anew : Entry → Entry = λ (y : Entry). record y { partners = partner_set es y.number } in
    let x = map_among anew es e among in
    let mine : has_bit e.partners d ≡ has_bit (partner_set es x.0.number) d = ap (λ (y : Entry). has_bit y.partners d) x.2 in
    let table : are_partners (partners es) x.0.number d ≡ are_partners (partners (with_partners es)) e.number d =
    sym (changed_table anew es (λ y h. record { number = refl; failgroup = refl; quorum = refl; stays = refl }) x.0.number d) ∙ ap (λ (y : Entry). are_partners (partners (with_partners es)) y.number d) (sym x.2) in
    ⊎_elim
    (λ lt. mine ∙ partner_sets es x.0.number d lt ∙ table)
    (λ past. mine ∙ set_past es x.0.number d past ∙ sym (no_partner es x.0.number d small past) ∙ table)
    (cases_lt d 64)
