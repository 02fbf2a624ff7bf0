-- Moves of directory copies and of the status tables lower what is due.
use Rattle.std.proofs.Common.{◌≡◌, inl, inr, ⊎_elim, ℕ, zero, suc, ◌<◌, ◌≤◌, Bool, true, false, not, cond, ◌&&◌, List, [], ◌∷◌, ◌++◌, map, filter, take, drop, length, refl, sym, ap, ◌∙◌, subst, Option, Some, None, arith, ◌==◌, eqb}
use Rattle.std.specs.Prelude.{if◌then◌else◌, find, nat_lt}
use Rattle.std.specs.List.{list_any, flat_map, range_with_len}
use Rattle.std.proofs.lemmas.Bool.{cond_both, and_parts, not-true, and_from, eq-eqb, ne_eqb, eqb-true, both_ways, cases_eq, or_cases, or_left, or_right, ltb-true, le-ltb}
use Rattle.std.proofs.lemmas.Option.{same_Some, none-some}
use Rattle.asm_formats.specs.asm_group.declared.GroupKind.{GroupKind}
use Rattle.asm_formats.specs.asm_group.Shape.{Shape}
use Rattle.asm_formats.specs.Sets.{has_bit, elements}
use Rattle.asm_formats.specs.Status.{Status, Entry, entry_of, ascends_from}
use Rattle.asm_formats.specs.Among.{IsAmong}
use Rattle.asm_placement.specs.Modes.{is_online, leaves, stays, is_target, mode_is}
use Rattle.asm_placement.specs.DiskSets.{is_among, with_bit, numbers, distinct_failgroups, by_group}
use Rattle.asm_placement.specs.TableDisks.{table_count, in_rounds, rounds, table_set, due_set, size_of_set, has_leaving, is_status_move_due, status_target, copies_due, staying, groups_with_copy, directory_target}
use Rattle.asm_placement.specs.Work.{tables_to_do}
use Rattle.asm_placement.proofs.Membership.{among_split, among_filter, among_flat_map, map_among, filter_out, among_filtered}
use Rattle.asm_placement.proofs.Bits.{with_bit_is, set_of_is, kept_is, left_out}
use Rattle.asm_placement.proofs.Chosen.{entry_found}
use Rattle.asm_placement.proofs.Counting.{mapped}
use Rattle.asm_placement.proofs.Lowering.{online_is_here, online_stays}

not_so : (b : Bool) → (b ≡ true → ⊥) → b ≡ false
not_so true h = absurd (h refl)
not_so false h = refl

-- ---- lists of distinct numbers

pub Distinct : List ℕ → Type 0
Distinct [] = Unit {0}
Distinct (n ∷ ns) = (is_among ns n ≡ false) × Distinct ns

pub distinct_filter : (t : ℕ → Bool) (ns : List ℕ) → Distinct ns → Distinct (filter t ns)
unfolding Distinct
distinct_filter t [] d = d
distinct_filter t (n ∷ ns) d = cond_both (t n) (n ∷ filter t ns) (filter t ns) (λ (l : List ℕ). Distinct l)
    (λ yes. (kept_is t ns n yes ∙ d.0, distinct_filter t ns d.1)) (λ no. distinct_filter t ns d.1)

pub groups_distinct : (es : List Entry) → Distinct (distinct_failgroups es)
unfolding Distinct
groups_distinct [] = tt
groups_distinct (e ∷ es) = (left_out (λ g. not (g == e.failgroup)) (distinct_failgroups es) e.failgroup (ap not (eq-eqb e.failgroup e.failgroup refl)), distinct_filter (λ g. not (g == e.failgroup)) (distinct_failgroups es) (groups_distinct es))

filter_le : (t : ℕ → Bool) (ns : List ℕ) → length (filter t ns) ≤ length ns
filter_le t [] = omega arith
filter_le t (n ∷ ns) = let later = filter_le t ns in cond_both (t n) (n ∷ filter t ns) (filter t ns) (λ (l : List ℕ). length l ≤ length (n ∷ ns)) (λ yes. omega arith) (λ no. omega arith)

shorter : (x : ℕ) (ns : List ℕ) → is_among ns x ≡ true → length (filter (λ n. not (n == x)) ns) < length ns
shorter x [] h = absurd cc
shorter x (n ∷ ns) h = elim (cases_eq n x) [
  | inl same ↦ rw (eq-eqb n x same) (omega (arith, filter_le (λ m. not (m == x)) ns))
  | inr other ↦ let later = shorter x ns (rw (ne_eqb n x other) at h) in rw (ne_eqb n x other) (omega arith)
]

-- distinct numbers that are all among others are no more
pub fits : (xs ys : List ℕ) → Distinct xs → ((n : ℕ) → is_among xs n ≡ true → is_among ys n ≡ true) → length xs ≤ length ys
unfolding Distinct
fits [] ys d h = omega arith
fits (x ∷ xs) ys d h =
    let less = shorter x ys (h x (or_left (eqb x x) _ (eq-eqb x x refl))) in
    let later = fits xs (filter (λ n. not (n == x)) ys) d.1 (λ n k.
    let other : (n == x) ≡ false = not_so (n == x) (λ e. both_ways (is_among xs x) d.0 (ap (is_among xs) (sym (eqb-true n x e)) ∙ k)) in
    kept_is (λ m. not (m == x)) ys n (ap not other) ∙ h n (or_right (eqb x n) _ k)) in
    omega arith

-- ---- failure groups

pub group_among : (es : List Entry) (e : Entry) → IsAmong es e → is_among (distinct_failgroups es) e.failgroup ≡ true
group_among [] e h = absurd h
group_among (f ∷ es) e (inl is) = or_left (eqb f.failgroup e.failgroup) _ (eq-eqb f.failgroup e.failgroup (ap (λ (x : Entry). x.failgroup) (sym is)))
group_among (f ∷ es) e (inr k) = elim (cases_eq f.failgroup e.failgroup) [
  | inl same ↦ or_left (eqb f.failgroup e.failgroup) _ (eq-eqb f.failgroup e.failgroup same)
  | inr other ↦ or_right (eqb f.failgroup e.failgroup) _ (kept_is (λ g. not (g == f.failgroup)) (distinct_failgroups es) e.failgroup (ap not (ne_eqb e.failgroup f.failgroup (λ same. other (sym same)))) ∙ group_among es e k)
]

pub was_among : (t : ℕ → Bool) (ns : List ℕ) (n : ℕ) → is_among (filter t ns) n ≡ true → is_among ns n ≡ true
was_among t ns n h = by (t n) refl
  where
    by : (b : Bool) → t n ≡ b → is_among ns n ≡ true
    by true pass = sym (kept_is t ns n pass) ∙ h
    by false out = absurd (both_ways (is_among (filter t ns) n) (left_out t ns n out) h)

pub group_from : (es : List Entry) (g : ℕ) → is_among (distinct_failgroups es) g ≡ true → (e : Entry) × IsAmong es e × (e.failgroup ≡ g)
group_from [] g h = absurd cc
group_from (f ∷ es) g h = ⊎_elim
    (λ here. (f, inl refl, eqb-true f.failgroup g here))
    (λ there. further (group_from es g (was_among (λ n. not (n == f.failgroup)) (distinct_failgroups es) g there)))
    (or_cases (eqb f.failgroup g) (is_among (filter (λ n. not (n == f.failgroup)) (distinct_failgroups es)) g) h)
  where
    further : (e : Entry) × IsAmong es e × (e.failgroup ≡ g) → (e : Entry) × IsAmong (f ∷ es) e × (e.failgroup ≡ g)
    further p = (p.0, inr p.1, p.2)

-- ---- a further directory copy

-- one more disk that stays, of a failure group that had none, is one more failure group
one_group_more : (es : List Entry) (set : ℕ) (e : Entry) → IsAmong es e → stays e.mode ≡ true → is_among (distinct_failgroups (staying es set)) e.failgroup ≡ false
    → length (distinct_failgroups (staying es set)) < length (distinct_failgroups (staying es (with_bit set e.number)))
unfolding Distinct
one_group_more es set e among stay new =
    let more = with_bit set e.number in
    let inside : IsAmong (staying es more) e = among_filtered (λ (x : Entry). stays x.mode && has_bit more x.number) es e among
    (and_from (stays e.mode) (has_bit more e.number) stay (with_bit_is set e.number e.number ∙ or_left (eqb e.number e.number) _ (eq-eqb e.number e.number refl))) in
    let le = fits (e.failgroup ∷ distinct_failgroups (staying es set)) (distinct_failgroups (staying es more)) (new, groups_distinct (staying es set)) (λ n k. ⊎_elim
    (λ here. ap (is_among (distinct_failgroups (staying es more))) (sym (eqb-true e.failgroup n here)) ∙ group_among (staying es more) e inside)
    (λ there.
    let p = group_from (staying es set) n there in
    let f : Entry = p.0 in
    let was : IsAmong (staying es set) f = p.1 in
    let passed = and_parts (stays f.mode) (has_bit set f.number) (filter_out (λ (x : Entry). stays x.mode && has_bit set x.number) es f was) in
    let now : IsAmong (staying es more) f = among_filtered (λ (x : Entry). stays x.mode && has_bit more x.number) es f (among_filter (λ (x : Entry). stays x.mode && has_bit set x.number) es f was)
    (and_from (stays f.mode) (has_bit more f.number) passed.0 (with_bit_is set e.number f.number ∙ or_right (eqb e.number f.number) _ passed.1)) in
    ap (is_among (distinct_failgroups (staying es more))) (sym p.2) ∙ group_among (staying es more) f now)
    (or_cases (eqb e.failgroup n) (is_among (distinct_failgroups (staying es set)) n) k)) in
    omega arith

find_among : (p : Entry → Bool) (es : List Entry) (e : Entry) → find p es ≡ Some e → IsAmong es e × (p e ≡ true)
find_among p [] e k = absurd (none-some e k)
find_among p (f ∷ es) e k = by (find_among p es e) (p f) refl k
  where
    by : (find p es ≡ Some e → IsAmong es e × (p e ≡ true)) → (b : Bool) → p f ≡ b → (if b then Some f else find p es) ≡ Some e → IsAmong (f ∷ es) e × (p e ≡ true)
    by later true is j = let same = same_Some f e j in (inl (sym same), ap p (sym same) ∙ is)
    by later false is j = let q = later j in (inr q.0, q.1)

target_stays : (e : Entry) → is_target e ≡ true → stays e.mode ≡ true
target_stays e h = online_stays e.mode (and_parts (is_online e.mode) (not e.quorum) h).0

pub directory_lowers : (s : Shape) (r : Status) (d : ℕ) → directory_target s.kind r ≡ Some d → tables_to_do s (record r { directories = with_bit r.directories d }) < tables_to_do s r
unfolding directory_target tables_to_do is_status_move_due
directory_lowers s r d h =
    let p = cut (nat_lt (length (groups_with_copy r)) (copies_due s.kind r.entries)) _ d h in
    let m = mapped (λ (e : Entry). e.number) (find (λ (e : Entry). is_target e && not (is_among (groups_with_copy r) e.failgroup)) r.entries) d p.1 in
    let e : Entry = m.0 in
    let f = find_among (λ (e : Entry). is_target e && not (is_among (groups_with_copy r) e.failgroup)) r.entries e m.1 in
    let parts = and_parts (is_target e) (not (is_among (groups_with_copy r) e.failgroup)) f.1 in
    let more = one_group_more r.entries r.directories e f.0 (target_stays e parts.0) (not-true (is_among (groups_with_copy r) e.failgroup) parts.1) in
    let grown : length (distinct_failgroups (staying r.entries r.directories)) < length (distinct_failgroups (staying r.entries (with_bit r.directories d))) = subst (λ (n : ℕ). length (distinct_failgroups (staying r.entries r.directories)) < length (distinct_failgroups (staying r.entries (with_bit r.directories n)))) m.2 more in
    omega (arith, grown, ltb-true (length (groups_with_copy r)) (copies_due s.kind r.entries) p.0)
  where
    cut : (b : Bool) (o : Option ℕ) (n : ℕ) → (if b then o else None) ≡ Some n → (b ≡ true) × (o ≡ Some n)
    cut true o n e = (refl, e)
    cut false o n e = absurd (none-some n e)

-- ---- the status tables

take_among : {A : Type 0} (n : ℕ) (xs : List A) (x : A) → IsAmong (take n xs) x → IsAmong xs x
take_among zero xs x h = absurd h
take_among (suc n) [] x h = absurd h
take_among (suc n) (y ∷ xs) x (inl e) = inl e
take_among (suc n) (y ∷ xs) x (inr h) = inr (take_among n xs x h)

drop_one : {A : Type 0} (xs : List A) (x : A) → IsAmong (drop 1 xs) x → IsAmong xs x
drop_one [] x h = h
drop_one (y ∷ xs) x h = inr h

rounds_from : (k : ℕ) (groups : List (List Entry)) (e : Entry) → IsAmong (in_rounds k groups) e → (g : List Entry) × IsAmong groups g × IsAmong g e
rounds_from zero groups e h = absurd h
rounds_from (suc k) groups e h = ⊎_elim
    (λ first. here (among_flat_map (take 1) groups e first))
    (λ later. there (rounds_from k (map (drop 1) groups) e later)) (among_split (flat_map (take 1) groups) (in_rounds k (map (drop 1) groups)) e h)
  where
    here : (g : List Entry) × IsAmong groups g × IsAmong (take 1 g) e → (g : List Entry) × IsAmong groups g × IsAmong g e
    here p = (p.0, p.1, take_among 1 p.0 e p.2)

    there : (g : List Entry) × IsAmong (map (drop 1) groups) g × IsAmong g e → (g : List Entry) × IsAmong groups g × IsAmong g e
    there p = let q = map_among (drop 1) groups p.0 p.1 in (q.0, q.1, drop_one q.0 e (subst (λ (l : List Entry). IsAmong l e) q.2 p.2))

group_disks : (es : List Entry) (g : List Entry) (e : Entry) → IsAmong (by_group es) g → IsAmong g e → IsAmong es e
group_disks es g e h k =
    let q = map_among (λ n. filter (λ (e : Entry). e.failgroup == n) es) (distinct_failgroups es) g h in
    among_filter (λ (x : Entry). x.failgroup == q.0) es e (subst (λ (l : List Entry). IsAmong l e) q.2 k)

round_disks : (es : List Entry) (e : Entry) → IsAmong (rounds es) e → IsAmong es e
round_disks es e h =
    let quorum = filter (λ (e : Entry). e.quorum) es in
    let regular = filter (λ (e : Entry). not e.quorum) es in
    let p = rounds_from (length es) (by_group quorum ++ by_group regular) e h in
    ⊎_elim (λ q. among_filter (λ (e : Entry). e.quorum) es e (group_disks quorum p.0 e q p.2)) (λ r. among_filter (λ (e : Entry). not e.quorum) es e (group_disks regular p.0 e r p.2))
    (among_split (by_group quorum) (by_group regular) p.0 p.1)

number_of : (es : List Entry) (d : ℕ) → is_among (numbers es) d ≡ true → (e : Entry) × IsAmong es e × (e.number ≡ d)
number_of [] d h = absurd cc
number_of (f ∷ es) d h = ⊎_elim (λ here. (f, inl refl, eqb-true f.number d here)) (λ there. further (number_of es d there)) (or_cases (eqb f.number d) (is_among (numbers es) d) h)
  where
    further : (e : Entry) × IsAmong es e × (e.number ≡ d) → (e : Entry) × IsAmong (f ∷ es) e × (e.number ≡ d)
    further p = (p.0, inr p.1, p.2)

pub any_among : {A : Type 0} (p : A → Bool) (xs : List A) → list_any p xs ≡ true → (x : A) × IsAmong xs x × (p x ≡ true)
any_among p [] h = absurd cc
any_among {A} p (x ∷ xs) h = ⊎_elim (λ here. (x, inl refl, here)) (λ there. further (any_among p xs there)) (or_cases (p x) (list_any p xs) h)
  where
    further : (y : A) × IsAmong xs y × (p y ≡ true) → (y : A) × IsAmong (x ∷ xs) y × (p y ≡ true)
    further q = (q.0, inr q.1, q.2)

-- the due set's disks are Online
due_is_online : (kind : GroupKind) (es : List Entry) (d : ℕ) → ascends_from 0 (numbers es) ≡ true → has_bit (due_set kind es) d ≡ true → mode_is leaves (entry_of es d) ≡ false
unfolding table_set
due_is_online kind es d up h =
    let online = filter (λ (e : Entry). is_online e.mode) es in
    let chosen = take (table_count kind (length online)) (rounds online) in
    let p = number_of chosen d (sym (set_of_is (numbers chosen) d) ∙ h) in
    let e : Entry = p.0 in
    let among : IsAmong online e = round_disks online e (take_among (table_count kind (length online)) (rounds online) e p.1) in
    let mode : is_online e.mode ≡ true = filter_out (λ (e : Entry). is_online e.mode) es e among in
    ap (λ (n : ℕ). mode_is leaves (entry_of es n)) (sym p.2) ∙ ap (mode_is leaves) (entry_found 0 es e up (among_filter (λ (e : Entry). is_online e.mode) es e among)) ∙ online_is_here e.mode mode

none_leaves : (kind : GroupKind) (es : List Entry) → ascends_from 0 (numbers es) ≡ true → has_leaving es (due_set kind es) ≡ false
unfolding elements
none_leaves kind es up = not_so (has_leaving es (due_set kind es)) (λ h.
    let p = any_among (λ d. mode_is leaves (entry_of es d)) (filter (has_bit (due_set kind es)) (range_with_len 0 64)) h in
    both_ways (mode_is leaves (entry_of es p.0)) (due_is_online kind es p.0 up (filter_out (has_bit (due_set kind es)) (range_with_len 0 64) p.0 p.1)) p.2)

-- once the tables stand on the due set, no move is due
settled : (kind : GroupKind) (r : Status) → ascends_from 0 (numbers r.entries) ≡ true → is_status_move_due kind (record r { holders = due_set kind r.entries; next_holders = 0 }) ≡ false
unfolding is_status_move_due
settled kind r up = rw (none_leaves kind r.entries up, le-ltb (size_of_set (due_set kind r.entries)) (size_of_set (due_set kind r.entries)) (omega arith)) refl

one_at_most : (b : Bool) → cond b 1 0 ≤ 1
one_at_most true = omega arith
one_at_most false = omega arith

pub tables_lower : (s : Shape) (r : Status) (to : ℕ) → ascends_from 0 (numbers r.entries) ≡ true → status_target s.kind r ≡ Some to → tables_to_do s (record r { holders = to; next_holders = 0 }) < tables_to_do s r
unfolding tables_to_do
tables_lower s r to up h = by (r.next_holders == 0) refl h
  where
    due : (b : Bool) → is_status_move_due s.kind r ≡ b → (if b then Some (due_set s.kind r.entries) else None) ≡ Some to → (is_status_move_due s.kind r ≡ true) × (due_set s.kind r.entries ≡ to)
    due true is e = (is, same_Some _ to e)
    due false is e = absurd (none-some to e)

    by : (b : Bool) → (r.next_holders == 0) ≡ b → (if not b then Some r.next_holders else if is_status_move_due s.kind r then Some (due_set s.kind r.entries) else None) ≡ Some to
        → tables_to_do s (record r { holders = to; next_holders = 0 }) < tables_to_do s r
    by false stands e = rw stands (omega (arith, one_at_most (is_status_move_due s.kind (record r { holders = to; next_holders = 0 }))))
    by true none e =
        let p = due (is_status_move_due s.kind r) refl e in
        let later : is_status_move_due s.kind (record r { holders = to; next_holders = 0 }) ≡ false = subst (λ (n : ℕ). is_status_move_due s.kind (record r { holders = n; next_holders = 0 }) ≡ false) p.1 (settled s.kind r up) in
        rw (none, p.0, later) (omega arith)
