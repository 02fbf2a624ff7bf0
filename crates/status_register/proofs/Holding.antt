-- The disks of a record's sets, and those of them that are attached.
use Rattle.std.proofs.Common.{◌≡◌, ◌≢◌, inl, inr, ⊎_elim, ℕ, zero, suc, ◌+◌, ◌<◌, ◌≤◌, Bool, true, List, [], ◌∷◌, ◌++◌, length, get_or, filter, set, Option, Some, None, refl, sym, ap, subst, ◌∙◌, arith}
use Rattle.std.specs.Prelude.{◌==◌, ◌&&◌, ◌||◌}
use Rattle.std.specs.List.{range_with_len}
use Rattle.std.specs.Option.{option_map}
use Rattle.std.proofs.lemmas.Bool.{cond_both, cond-true, cases_lt, eqb-true, eq-eqb, and_parts, and_from, false≢true}
use Rattle.std.proofs.lemmas.Option.{same_Some, none-some}
use Rattle.bay.specs.State.{BayState}
use Rattle.asm_formats.specs.Among.{IsAmong}
use Rattle.asm_images.proofs.asm_placement.Membership.{among_left, among_right, among_split, among_filter, filter_out, among_filtered, among_flat_map, flat_map_among}
use Rattle.asm_formats.specs.Sets.{has_bit, elements}
use Rattle.asm_formats.specs.Status.{Status, Entry, entry_of}
use Rattle.asm_formats.specs.Following.{Holder, holder_of, disks_of}
use Rattle.status_register.specs.Holders.{is_of, holder_in, holders_below, attached_to, AreHolders, HoldSlots, SlotsDiffer}
use Rattle.status_register.specs.Registered.{is_same_birth}
use Rattle.status_register.specs.Rows.{HaveOwnSlots}
use Rattle.status_register.specs.Tallies.{HaveSlots}
use Rattle.status_register.specs.declared.member.Member.{Member}
use Rattle.status_register.proofs.Tallying.{among_get}

-- ---- the attached disks

pub holders_more : (places : List (Option Member)) (r : Status) (n d : ℕ) → n ≡ suc d → holders_below places r n ≡ holder_in r d (get_or places d None) ++ holders_below places r d
unfolding holders_below
holders_more places r n d is = ap (λ (k : ℕ). holders_below places r k) is

pub holders_none : (places : List (Option Member)) (r : Status) → holders_below places r 0 ≡ []
unfolding holders_below
holders_none places r = refl

abbrev pub held_test : Status → ℕ → Member → Bool
held_test r d m = (has_bit r.holders d || has_bit r.next_holders d) && ((m.number == d) && is_of r.entries m)

pub holder_few : (r : Status) (d : ℕ) (o : Option Member) → length (holder_in r d o) ≤ 1
holder_few r d None = omega arith
holder_few r d (Some m) = cond_both (held_test r d m) (m ∷ []) [] (λ (l : List Member). length l ≤ 1) (λ yes. omega arith) (λ no. omega arith)

-- the member in the place of a number is one of the disks of the record's sets
pub record IsHeld (places : List (Option Member)) (r : Status) (d : ℕ) (m : Member) : Type 0 where
  pub there : get_or places d None ≡ Some m
  pub number : m.number ≡ d
  pub entry : is_of r.entries m ≡ true
  pub bit : (has_bit r.holders d || has_bit r.next_holders d) ≡ true

pub held_in : (places : List (Option Member)) (r : Status) (d : ℕ) (o : Option Member) (m : Member) → get_or places d None ≡ o → IsAmong (holder_in r d o) m → IsHeld places r d m
held_in places r d None m is h = absurd h
held_in places r d (Some n) m is h = cond_both (held_test r d n) (n ∷ []) [] (λ (l : List Member). IsAmong l m → IsHeld places r d m)
    (λ yes k. let same : m ≡ n = ⊎_elim (λ e. e) (λ none. absurd none) k in
    let both = and_parts (has_bit r.holders d || has_bit r.next_holders d) ((n.number == d) && is_of r.entries n) yes in
    let parts = and_parts (n.number == d) (is_of r.entries n) both.1 in
    subst (λ (x : Member). IsHeld places r d x) (sym same) (record { there = is; number = eqb-true n.number d parts.0; entry = parts.1; bit = both.0 }))
    (λ no k. absurd k) h

pub among_below : (places : List (Option Member)) (r : Status) (n : ℕ) (m : Member) → IsAmong (holders_below places r n) m → (d : ℕ) × (d < n) × IsHeld places r d m
unfolding holders_below
among_below places r zero m h = absurd h
among_below places r (suc d) m h = ⊎_elim
    (λ here. (d, omega arith, held_in places r d (get_or places d None) m refl here))
    (λ later. let f = among_below places r d m later in (f.0, omega (arith, f.1), f.2))
    (among_split (holder_in r d (get_or places d None)) (holders_below places r d) m h)

here_held : (r : Status) (d : ℕ) (o : Option Member) (m : Member) → o ≡ Some m → held_test r d m ≡ true → IsAmong (holder_in r d o) m
here_held r d o m is held = subst (λ (p : Option Member). IsAmong (holder_in r d p) m) (sym is)
    (subst (λ (l : List Member). IsAmong l m) (sym (cond-true (held_test r d m) (m ∷ []) [] held)) (inl refl))

pub held_below : (places : List (Option Member)) (r : Status) (n d : ℕ) (m : Member) → d < n → IsHeld places r d m → IsAmong (holders_below places r n) m
unfolding holders_below
held_below places r zero d m lt held = absurd (omega arith)
held_below places r (suc n) d m lt held = ⊎_elim
    (λ (below : d < n). among_right (holder_in r n (get_or places n None)) (holders_below places r n) m (held_below places r n d m below held))
    (λ (above : n ≤ d). let same : d ≡ n = omega arith in among_left (holder_in r n (get_or places n None)) (holders_below places r n) m
    (here_held r n (get_or places n None) m (ap (λ (k : ℕ). get_or places k None) (sym same) ∙ held.there)
    (subst (λ (k : ℕ). held_test r k m ≡ true) same (and_from (has_bit r.holders d || has_bit r.next_holders d) ((m.number == d) && is_of r.entries m) held.bit
    (and_from (m.number == d) (is_of r.entries m) (eq-eqb m.number d held.number) held.entry)))))
    (cases_lt d n)

pub are_holders : (places : List (Option Member)) (r : Status) → AreHolders r.entries (attached_to places r)
are_holders places r m h =
    let f = among_below places r 64 m h in
    (omega (arith, f.1, f.2.number), f.2.entry)

pub have_slots : (state : BayState) (places : List (Option Member)) (r : Status) → HoldSlots state places → HaveSlots state (attached_to places r)
have_slots state places r hold m h = let f = among_below places r 64 m h in hold f.0 m f.2.there

-- ---- no two with one slot

abbrev pub Apart : List Member → Type 0
Apart [] = Unit {0}
Apart (m ∷ ms) = ((n : Member) → IsAmong ms n → n.slot ≢ m.slot) × Apart ms

pub apart_list : (ms : List Member) → Apart ms → HaveOwnSlots ms
apart_list [] apart i j d low high same = absurd (omega arith)
apart_list (m ∷ ms) apart zero zero d low high same = refl
apart_list (m ∷ ms) apart zero (suc j) d low high same = absurd (apart.0 (get_or ms j d) (among_get ms j d (omega arith)) (sym same))
apart_list (m ∷ ms) apart (suc i) zero d low high same = absurd (apart.0 (get_or ms i d) (among_get ms i d (omega arith)) same)
apart_list (m ∷ ms) apart (suc i) (suc j) d low high same = ap suc (apart_list ms apart.1 i j d (omega arith) (omega arith) same)

apart_front : (r : Status) (d : ℕ) (o : Option Member) (rest : List Member) → ((m n : Member) → IsAmong (holder_in r d o) m → IsAmong rest n → n.slot ≢ m.slot) → Apart rest → Apart (holder_in r d o ++ rest)
apart_front r d None rest differ apart = apart
apart_front r d (Some m) rest differ apart = cond_both (held_test r d m) (m ∷ []) [] (λ (l : List Member). ((k n : Member) → IsAmong l k → IsAmong rest n → n.slot ≢ k.slot) → Apart (l ++ rest))
    (λ yes far. ((λ n h. far m n (inl refl) h), apart)) (λ no far. apart) differ

pub below_apart : (places : List (Option Member)) (r : Status) (n : ℕ) → SlotsDiffer places → Apart (holders_below places r n)
unfolding holders_below
below_apart places r zero differ = tt
below_apart places r (suc d) differ = apart_front r d (get_or places d None) (holders_below places r d)
    (λ m n here later same. let f = among_below places r d n later in
    let held = held_in places r d (get_or places d None) m refl here in
    absurd (omega (arith, f.1, differ f.0 d n m f.2.there held.there same)))
    (below_apart places r d differ)

pub holders_apart : (places : List (Option Member)) (r : Status) → SlotsDiffer places → HaveOwnSlots (attached_to places r)
holders_apart places r differ = apart_list (attached_to places r) (below_apart places r 64 differ)

-- ---- the disks of a set

range_from : (n k j : ℕ) → IsAmong (range_with_len k n) j → (k ≤ j) × (j < k + n)
range_from zero k j h = absurd h
range_from (suc n) k j (inl e) = (omega (arith, e), omega (arith, e))
range_from (suc n) k j (inr h) = let f = range_from n (k + 1) j h in (omega (arith, f.0), omega (arith, f.1))

range_has : (n k j : ℕ) → k ≤ j → j < k + n → IsAmong (range_with_len k n) j
range_has zero k j low high = absurd (omega arith)
range_has (suc n) k j low high = ⊎_elim
    (λ (above : k < j). inr (range_has n (k + 1) j (omega arith) (omega arith)))
    (λ (below : j ≤ k). let same : j ≡ k = omega arith in inl same)
    (cases_lt k j)

-- a disk of a set has its number there, and the birth of its entry
pub record IsDiskOf (entries : List Entry) (set : ℕ) (h : Holder) : Type 0 where
  pub small : h.0 < 64
  pub bit : has_bit set h.0 ≡ true
  pub birth : option_map (λ (e : Entry). e.birth) (entry_of entries h.0) ≡ Some h.1

by_entry : (d : ℕ) (o : Option Entry) (h : Holder) → IsAmong (holder_of d o) h → (h.0 ≡ d) × (option_map (λ (e : Entry). e.birth) o ≡ Some h.1)
by_entry d None h k = absurd k
by_entry d (Some e) h k = ⊎_elim (λ (same : h ≡ (d, e.birth)). (ap (λ (x : Holder). x.0) same, ap (λ (x : Holder). Some x.1) (sym same))) (λ none. absurd none) k

pub disk_is : (entries : List Entry) (set : ℕ) (h : Holder) → IsAmong (disks_of entries set) h → IsDiskOf entries set h
unfolding disks_of elements
disk_is entries set h k =
    let f = among_flat_map (λ (d : ℕ). holder_of d (entry_of entries d)) (filter (has_bit set) (range_with_len 0 64)) h k in
    let is = by_entry f.0 (entry_of entries f.0) h f.2 in
    let inside = range_from 64 0 f.0 (among_filter (has_bit set) (range_with_len 0 64) f.0 f.1) in
    record {
      small = omega (arith, is.0, inside.1);
      bit = ap (has_bit set) is.0 ∙ filter_out (has_bit set) (range_with_len 0 64) f.0 f.1;
      birth = ap (λ (d : ℕ). option_map (λ (e : Entry). e.birth) (entry_of entries d)) is.0 ∙ is.1;
    }

of_entry : (d birth : ℕ) (o : Option Entry) → option_map (λ (e : Entry). e.birth) o ≡ Some birth → IsAmong (holder_of d o) (d, birth)
of_entry d birth None is = absurd (none-some birth is)
of_entry d birth (Some e) is = inl (ap (λ (b : ℕ). (d, b)) (sym (same_Some e.birth birth is)))

pub is_disk : (entries : List Entry) (set d birth : ℕ) → d < 64 → has_bit set d ≡ true → option_map (λ (e : Entry). e.birth) (entry_of entries d) ≡ Some birth → IsAmong (disks_of entries set) (d, birth)
unfolding disks_of elements
is_disk entries set d birth small bit is = flat_map_among (λ (k : ℕ). holder_of k (entry_of entries k)) (filter (has_bit set) (range_with_len 0 64)) d (d, birth)
    (among_filtered (has_bit set) (range_with_len 0 64) d (range_has 64 0 d (omega arith) (omega arith)) bit) (of_entry d birth (entry_of entries d) is)

birth_by : (o : Option ℕ) (birth : ℕ) → is_same_birth o birth ≡ true → o ≡ Some birth
birth_by None birth is = absurd (false≢true is)
birth_by (Some b) birth is = ap (λ (n : ℕ). Some n) (eqb-true b birth is)

-- the birth of a member is that of its entry
pub entry_birth : (entries : List Entry) (m : Member) → is_of entries m ≡ true → option_map (λ (e : Entry). e.birth) (entry_of entries m.number) ≡ Some m.birth
entry_birth entries m is = birth_by (option_map (λ (e : Entry). e.birth) (entry_of entries m.number)) m.birth is

by_birth : (o : Option ℕ) (birth : ℕ) → o ≡ Some birth → is_same_birth o birth ≡ true
by_birth None birth is = absurd (none-some birth is)
by_birth (Some b) birth is = eq-eqb b birth (same_Some b birth is)

pub has_birth : (entries : List Entry) (m : Member) → option_map (λ (e : Entry). e.birth) (entry_of entries m.number) ≡ Some m.birth → is_of entries m ≡ true
has_birth entries m is = by_birth (option_map (λ (e : Entry). e.birth) (entry_of entries m.number)) m.birth is

-- another number changes no set
pub same_attached : (places : List (Option Member)) (r : Status) (epoch turn n : ℕ) → holders_below places (record r { epoch = epoch; turn = turn }) n ≡ holders_below places r n
unfolding holders_below
same_attached places r epoch turn zero = refl
same_attached places r epoch turn (suc d) = ap (λ (l : List Member). holder_in r d (get_or places d None) ++ l) (same_attached places r epoch turn d)
