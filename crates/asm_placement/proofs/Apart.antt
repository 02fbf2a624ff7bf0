-- The disks of a new extent's copies.
use Rattle.std.proofs.Common.{◌≡◌, inl, inr, ⊎_elim, ℕ, zero, suc, ◌+◌, ◌-◌, ◌<◌, ◌≤◌, Bool, true, false, not, ◌&&◌, ◌||◌, List, [], ◌∷◌, map, filter, length, refl, sym, ap, ◌∙◌, subst, Option, Some, None, arith, ◌==◌, eqb}
use Rattle.std.specs.Prelude.{nat_le}
use Rattle.std.specs.List.{list_all}
use Rattle.std.proofs.lemmas.Bool.{cond_both, and_parts, not-true, and_from, eq-eqb, ne_eqb, eqb-true, both_ways, cases_eq, or_cases, or_left, or_right, leb-true}
use Rattle.std.proofs.lemmas.Option.{same_Some}
use Rattle.asm_formats.specs.asm_group.Shape.{Shape}
use Rattle.asm_formats.specs.Sets.{has_bit}
use Rattle.asm_formats.specs.Status.{Entry, entry_of, ascends_from}
use Rattle.asm_formats.specs.Items.{Item, Homes}
use Rattle.asm_formats.specs.Among.{IsAmong}
use Rattle.asm_placement.specs.Modes.{is_target, stays}
use Rattle.asm_placement.specs.DiskSets.{is_among, numbers, distinct_failgroups}
use Rattle.asm_placement.specs.Partners.{Pair, partners, are_partners, HasPartners}
use Rattle.asm_placement.specs.Space.{has_room, earlier, tried_first, is_tried_before}
use Rattle.asm_placement.specs.Choices.{home_on, partners_with_room, may_be_first, in_turn, disks_for, homes_for}
use Rattle.asm_placement.specs.HomeLaws.{all_differ, failgroup_numbers, AreHomes}
use Rattle.asm_placement.proofs.Membership.{among_filter, filter_out, among_filtered}
use Rattle.asm_placement.proofs.Bits.{kept_is, left_out}
use Rattle.asm_placement.proofs.Counting.{mapped}
use Rattle.asm_placement.proofs.Chosen.{tried_among, entry_found}
use Rattle.asm_placement.proofs.PartnerTables.{partners_cross}
use Rattle.asm_placement.proofs.TablesMoved.{distinct_filter, groups_distinct, fits, group_from, was_among, any_among}

-- of some disks one is tried first
pub some_first : (s : Shape) (items : List Item) (es : List Entry) (e : Entry) → IsAmong es e → (d : Entry) × (tried_first s items es ≡ Some d)
unfolding tried_first
some_first s items [] e h = absurd h
some_first s items (f ∷ es) e h = by (tried_first s items es)
  where
    by : (o : Option Entry) → (d : Entry) × (earlier s items f o ≡ Some d)
    by None = (f, refl)
    by (Some best) = cond_both (is_tried_before s items best f) (Some best) (Some f) (λ (o : Option Entry). (d : Entry) × (o ≡ Some d)) (λ yes. (best, refl)) (λ no. (f, refl))

-- disks of failure groups that aren't taken
abbrev free_of : List ℕ → List Entry → List Entry
free_of taken es = filter (λ (e : Entry). not (is_among taken e.failgroup)) es

-- failure groups that aren't taken
abbrev groups_left : List ℕ → List Entry → List ℕ
groups_left taken es = filter (λ g. not (is_among taken g)) (distinct_failgroups es)

first_of_groups : (gs : List ℕ) → 0 < length gs → (g : ℕ) × (is_among gs g ≡ true)
first_of_groups [] h = absurd (omega arith)
first_of_groups (g ∷ gs) h = (g, or_left (eqb g g) _ (eq-eqb g g refl))

-- where a group is left, some disk of it is tried first
pub one_left : (s : Shape) (items : List Item) (es : List Entry) (taken : List ℕ) → 0 < length (groups_left taken es) → (d : Entry) × (tried_first s items (free_of taken es) ≡ Some d)
one_left s items es taken h =
    let g = first_of_groups (groups_left taken es) h in
    let from = group_from es g.0 (was_among (λ n. not (is_among taken n)) (distinct_failgroups es) g.0 g.1) in
    let free : not (is_among taken g.0) ≡ true = by (not (is_among taken g.0)) refl g.0 g.1 in
    some_first s items (free_of taken es) from.0 (among_filtered (λ (e : Entry). not (is_among taken e.failgroup)) es from.0 from.1 (ap (λ (n : ℕ). not (is_among taken n)) from.2 ∙ free))
  where
    by : (b : Bool) → b ≡ b → (n : ℕ) → is_among (groups_left taken es) n ≡ true → not (is_among taken n) ≡ true
    by b same n k = go (not (is_among taken n)) refl
      where
        go : (c : Bool) → not (is_among taken n) ≡ c → c ≡ true
        go true e = refl
        go false e = absurd (both_ways (is_among (groups_left taken es) n) (left_out (λ m. not (is_among taken m)) (distinct_failgroups es) n e) k)

-- taking one group leaves one less
pub one_less : (es : List Entry) (taken : List ℕ) (g : ℕ) → length (groups_left taken es) ≤ suc (length (groups_left (g ∷ taken) es))
one_less es taken g = fits (groups_left taken es) (g ∷ groups_left (g ∷ taken) es) (distinct_filter (λ n. not (is_among taken n)) (distinct_failgroups es) (groups_distinct es)) (λ n k.
    elim (cases_eq g n) [
      | inl same ↦ or_left (eqb g n) _ (eq-eqb g n same)
      | inr other ↦ or_right (eqb g n) _ (still n other k)
    ])
  where
    still : (n : ℕ) → (g ≡ n → ⊥) → is_among (groups_left taken es) n ≡ true → is_among (groups_left (g ∷ taken) es) n ≡ true
    still n other k = by (is_among taken n) refl
      where
        by : (b : Bool) → is_among taken n ≡ b → is_among (groups_left (g ∷ taken) es) n ≡ true
        by true e = absurd (both_ways (is_among (groups_left taken es) n) (left_out (λ m. not (is_among taken m)) (distinct_failgroups es) n (ap not e)) k)
        by false e = kept_is (λ m. not (is_among (g ∷ taken) m)) (distinct_failgroups es) n (rw (ne_eqb g n other, e) refl) ∙ was_among (λ m. not (is_among taken m)) (distinct_failgroups es) n k

not_so : (b : Bool) → (b ≡ true → ⊥) → b ≡ false
not_so true h = absurd (h refl)
not_so false h = refl

all_from : {A : Type 0} (t : A → Bool) (xs : List A) → ((x : A) → IsAmong xs x → t x ≡ true) → list_all t xs ≡ true
all_from t [] h = refl
all_from t (x ∷ xs) h = and_from (t x) (list_all t xs) (h x (inl refl)) (all_from t xs (λ y k. h y (inr k)))

failgroup_from : (es : List Entry) (g : ℕ) → is_among (failgroup_numbers es) g ≡ true → (e : Entry) × IsAmong es e × (e.failgroup ≡ g)
failgroup_from [] g h = absurd cc
failgroup_from (f ∷ es) g h = ⊎_elim (λ here. (f, inl refl, eqb-true f.failgroup g here)) (λ there. further (failgroup_from es g there)) (or_cases (eqb f.failgroup g) (is_among (failgroup_numbers es) g) h)
  where
    further : (e : Entry) × IsAmong es e × (e.failgroup ≡ g) → (e : Entry) × IsAmong (f ∷ es) e × (e.failgroup ≡ g)
    further p = (p.0, inr p.1, p.2)

-- disks in turn
record IsTurn (es : List Entry) (taken : List ℕ) (k : ℕ) (ds : List Entry) : Type 0 where
  count : length ds ≡ k
  there : (e : Entry) → IsAmong ds e → IsAmong es e
  new : (e : Entry) → IsAmong ds e → is_among taken e.failgroup ≡ false
  apart : all_differ (failgroup_numbers ds) ≡ true

one_more : (es : List Entry) (taken : List ℕ) (k : ℕ) (d : Entry) (ds : List Entry) → IsAmong es d → is_among taken d.failgroup ≡ false → IsTurn es (d.failgroup ∷ taken) k ds → IsTurn es taken (suc k) (d ∷ ds)
one_more es taken k d ds among free rest = record {
  count = omega (arith, rest.count);
  there = λ e h. ⊎_elim (λ is. subst (λ (x : Entry). IsAmong es x) (sym is) among) (λ later. rest.there e later) h;
  new = λ e h. ⊎_elim (λ is. ap (λ (x : Entry). is_among taken x.failgroup) is ∙ free)
      (λ later. not_so (is_among taken e.failgroup) (λ yes. both_ways (is_among (d.failgroup ∷ taken) e.failgroup) (rest.new e later) (or_right (eqb d.failgroup e.failgroup) _ yes))) h;
  apart = and_from (not (is_among (failgroup_numbers ds) d.failgroup)) (all_differ (failgroup_numbers ds))
      (ap not (not_so (is_among (failgroup_numbers ds) d.failgroup) (λ yes.
      let p = failgroup_from ds d.failgroup yes in
      both_ways (is_among (d.failgroup ∷ taken) p.0.failgroup) (rest.new p.0 p.1) (or_left (eqb d.failgroup p.0.failgroup) _ (eq-eqb d.failgroup p.0.failgroup (sym p.2)))))) rest.apart;
}

turn : (s : Shape) (items : List Item) (es : List Entry) (taken : List ℕ) (k : ℕ) → k ≤ length (groups_left taken es) → IsTurn es taken k (in_turn s items es taken k)
turn s items es taken zero le = record { count = refl; there = λ e h. absurd h; new = λ e h. absurd h; apart = refl }
turn s items es taken (suc k) le =
    let first = one_left s items es taken (omega arith) in
    let d : Entry = first.0 in
    let is : tried_first s items (filter (λ (e : Entry). not (is_among taken e.failgroup)) es) ≡ Some d = first.1 in
    let free : IsAmong (free_of taken es) d = tried_among s items (free_of taken es) d is in
    let rest = turn s items es (d.failgroup ∷ taken) k (omega (arith, one_less es taken d.failgroup)) in
    rw is (one_more es taken k d (in_turn s items es (d.failgroup ∷ taken) k) (among_filter (λ (e : Entry). not (is_among taken e.failgroup)) es d free)
    (not-true (is_among taken d.failgroup) (filter_out (λ (e : Entry). not (is_among taken e.failgroup)) es d free)) rest)

-- ---- partners are of other failure groups

same_number : (es : List Entry) (a b : Entry) → ascends_from 0 (numbers es) ≡ true → IsAmong es a → IsAmong es b → a.number ≡ b.number → a ≡ b
same_number es a b up ha hb same = same_Some a b (sym (entry_found 0 es a up ha) ∙ ap (entry_of es) same ∙ entry_found 0 es b up hb)

partner_crosses : (es : List Entry) (a b : Entry) → ascends_from 0 (numbers es) ≡ true → HasPartners es → IsAmong es a → IsAmong es b → has_bit a.partners b.number ≡ true → a.failgroup ≡ b.failgroup → ⊥
unfolding are_partners
partner_crosses es a b up has ha hb bit same =
    let p = any_among (λ (p : Pair). ((p.0.number == a.number) && (p.1.number == b.number)) || ((p.0.number == b.number) && (p.1.number == a.number))) (partners es) (sym (has a b.number ha) ∙ bit) in
    let pair : Pair = p.0 in
    let cross = partners_cross es pair p.1 in
    let first : IsAmong es pair.0 = among_filter (λ (e : Entry). not e.quorum && stays e.mode) es pair.0 cross.0 in
    let second : IsAmong es pair.1 = among_filter (λ (e : Entry). not e.quorum && stays e.mode) es pair.1 cross.1 in
    ⊎_elim
    (λ straight.
    let q = and_parts (pair.0.number == a.number) (pair.1.number == b.number) straight in
    cross.2 (ap (λ (e : Entry). e.failgroup) (same_number es pair.0 a up first ha (eqb-true pair.0.number a.number q.0)) ∙ same ∙ ap (λ (e : Entry). e.failgroup) (sym (same_number es pair.1 b up second hb (eqb-true pair.1.number b.number q.1)))))
    (λ turned.
    let q = and_parts (pair.0.number == b.number) (pair.1.number == a.number) turned in
    cross.2 (ap (λ (e : Entry). e.failgroup) (same_number es pair.0 b up first hb (eqb-true pair.0.number b.number q.0)) ∙ sym same ∙ ap (λ (e : Entry). e.failgroup) (sym (same_number es pair.1 a up second ha (eqb-true pair.1.number a.number q.1)))))
    (or_cases ((pair.0.number == a.number) && (pair.1.number == b.number)) ((pair.0.number == b.number) && (pair.1.number == a.number)) p.2)

-- so none of the partners' failure groups is the disk's own
all_left : (ps : List Entry) (g : ℕ) → ((e : Entry) → IsAmong ps e → g ≡ e.failgroup → ⊥) → length (distinct_failgroups ps) ≤ length (groups_left (g ∷ []) ps)
all_left ps g out = fits (distinct_failgroups ps) (groups_left (g ∷ []) ps) (groups_distinct ps) (λ n k.
    let p = group_from ps n k in
    let other : (g == n) ≡ false = ne_eqb g n (λ same. out p.0 p.1 (same ∙ sym p.2)) in
    kept_is (λ m. not (is_among (g ∷ []) m)) (distinct_failgroups ps) n (rw other refl) ∙ k)

-- ---- the homes

pub homes_are_apart : (s : Shape) (items : List Item) (es : List Entry) (copies n : ℕ) (homes : Homes) → ascends_from 0 (numbers es) ≡ true → HasPartners es → 0 < copies → homes_for s items es copies n ≡ Some homes
    → AreHomes s items es copies n homes
unfolding homes_for disks_for
homes_are_apart s items es copies n homes up has some e =
    let h = mapped (map (home_on s items n)) (disks_for s items es copies n) homes e in
    let d = mapped (λ (e : Entry). e ∷ in_turn s items (partners_with_room s items es n e) (e.failgroup ∷ []) (copies - 1)) (tried_first s items (filter (may_be_first s items es copies n) es)) h.0 h.1 in
    let first : Entry = d.0 in
    let chosen : IsAmong (filter (may_be_first s items es copies n) es) first = tried_among s items (filter (may_be_first s items es copies n) es) first d.1 in
    let among : IsAmong es first = among_filter (may_be_first s items es copies n) es first chosen in
    let ps = partners_with_room s items es n first in
    let a = and_parts (is_target first && has_room s items n first) (nat_le copies (length (distinct_failgroups ps) + 1)) (filter_out (may_be_first s items es copies n) es first chosen) in
    let b = and_parts (is_target first) (has_room s items n first) a.0 in
    let good = λ (f : Entry). is_target f && has_bit first.partners f.number && has_room s items n f in
    let left = all_left ps first.failgroup (λ f k. partner_crosses es first f up has among (among_filter good es f k)
    (and_parts (is_target f) (has_bit first.partners f.number) (and_parts (is_target f && has_bit first.partners f.number) (has_room s items n f) (filter_out good es f k)).0).1) in
    let rest = turn s items ps (first.failgroup ∷ []) (copies - 1) (omega (arith, leb-true copies (length (distinct_failgroups ps) + 1) a.1, left)) in
    let ds = in_turn s items ps (first.failgroup ∷ []) (copies - 1) in
    record {
      disks = first ∷ ds;
      homes_are = sym h.2 ∙ ap (map (home_on s items n)) (sym d.2);
      enough = omega (arith, rest.count);
      there = λ f k. ⊎_elim (λ is. subst (λ (x : Entry). IsAmong es x) (sym is) among) (λ later. among_filter good es f (rest.there f later)) k;
      targets = and_from (is_target first) (list_all is_target ds) b.0
          (all_from is_target ds (λ f k. (and_parts (is_target f) (has_bit first.partners f.number) (and_parts (is_target f && has_bit first.partners f.number) (has_room s items n f) (filter_out good es f (rest.there f k))).0).0));
      room = and_from (has_room s items n first) (list_all (has_room s items n) ds) b.1
          (all_from (has_room s items n) ds (λ f k. (and_parts (is_target f && has_bit first.partners f.number) (has_room s items n f) (filter_out good es f (rest.there f k))).1));
      apart = and_from (not (is_among (failgroup_numbers ds) first.failgroup)) (all_differ (failgroup_numbers ds))
          (ap not (not_so (is_among (failgroup_numbers ds) first.failgroup) (λ yes.
          let p = failgroup_from ds first.failgroup yes in
          both_ways (is_among (first.failgroup ∷ []) p.0.failgroup) (rest.new p.0 p.1) (or_left (eqb first.failgroup p.0.failgroup) _ (eq-eqb first.failgroup p.0.failgroup (sym p.2)))))) rest.apart;
    }
