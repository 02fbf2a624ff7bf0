-- Who took a record and who didn't, and what that says of majorities.
use Rattle.std.proofs.Common.{◌≡◌, ◌⊎◌, inl, inr, ⊎_elim, ℕ, ◌+◌, ◌*◌, ◌<◌, ◌≤◌, Bool, true, false, List, [], ◌∷◌, ◌++◌, length, filter, nat_lt, Option, Some, None, refl, sym, ap, subst, ◌∙◌, arith, find, ◌%◌, ◌^◌}
use Rattle.std.specs.Prelude.{if◌then◌else◌, ◌==◌, ◌&&◌, ◌||◌, ◌/◌, ◌≢◌, not, MatchOption}
use Rattle.std.specs.Option.{option_or}
use Rattle.std.proofs.lemmas.Bool.{cond_both, cond-true, cond-false, eqb-true, eq-eqb, and_parts, and_from, not-true, ltb-true, ltb-false, lt-ltb, cases_Bool, both_ways, ne_eqb}
use Rattle.std.proofs.lemmas.Option.{same_Some, none-some}
use Rattle.std.proofs.Math.Nat.{zero-div}
use Rattle.bay.specs.State.{BayState}
use Rattle.bay.specs.Counts.{Rose}
use Rattle.asm_formats.specs.Among.{IsAmong}
use Rattle.asm_formats.specs.Sets.{has_bit}
use Rattle.asm_formats.specs.Status.{Entry}
use Rattle.asm_formats.specs.Following.{Holder, disks_of, sets_of}
use Rattle.status_register.specs.Holders.{AreHolders}
use Rattle.status_register.specs.Surveys.{AreRead, none_yet, one_read, one_failed, is_holder_there, seen_of, shortfall}
use Rattle.status_register.specs.Writes.{is_one_of, IsFailed, IsLostMember, IsLostOf, FailedAlone}
use Rattle.status_register.specs.declared.member.Member.{Member}
use Rattle.status_register.proofs.Holding.{disk_is, is_disk, entry_birth}
use Rattle.status_register.proofs.Meeting.{any_among, found}
use Rattle.status_register.proofs.Counting.{shortfall_first}
use Rattle.status_register.proofs.Taking.{append_last, append_left, last_or_before}

-- ---- one of these is the member

-- a member of the list with the same slot, number and birth
pub record IsTwin (ms : List Member) (m : Member) : Type 0 where
  pub twin : Member
  pub among : IsAmong ms twin
  pub slot : twin.slot ≡ m.slot
  pub number : twin.number ≡ m.number
  pub birth : twin.birth ≡ m.birth

pub twin_of : (ms : List Member) (m : Member) → is_one_of ms m ≡ true → IsTwin ms m
twin_of ms m is =
    let f = found (λ (n : Member). (n.slot == m.slot) && ((n.number == m.number) && (n.birth == m.birth))) ms is in
    let n = f.0 in
    let first = and_parts (n.slot == m.slot) ((n.number == m.number) && (n.birth == m.birth)) f.2 in
    let rest = and_parts (n.number == m.number) (n.birth == m.birth) first.1 in
    record { twin = n; among = f.1; slot = eqb-true n.slot m.slot first.0; number = eqb-true n.number m.number rest.0; birth = eqb-true n.birth m.birth rest.1 }

pub one_of_them : (ms : List Member) (m : Member) → IsAmong ms m → is_one_of ms m ≡ true
one_of_them ms m h = any_among (λ (n : Member). (n.slot == m.slot) && ((n.number == m.number) && (n.birth == m.birth))) ms m h
    (and_from (m.slot == m.slot) ((m.number == m.number) && (m.birth == m.birth)) (eq-eqb m.slot m.slot refl)
    (and_from (m.number == m.number) (m.birth == m.birth) (eq-eqb m.number m.number refl) (eq-eqb m.birth m.birth refl)))

pub there_of : (ms : List Member) (m : Member) → is_one_of ms m ≡ true → is_holder_there ms (m.number, m.birth) ≡ true
there_of ms m is =
    let t = twin_of ms m is in
    any_among (λ (n : Member). (n.number == m.number) && (n.birth == m.birth)) ms t.twin t.among
    (and_from (t.twin.number == m.number) (t.twin.birth == m.birth) (eq-eqb t.twin.number m.number t.number) (eq-eqb t.twin.birth m.birth t.birth))

-- ---- who was left out

pub last_is : (xs : List Member) (m n : Member) → IsAmong (xs ++ m ∷ []) n → IsAmong xs n ⊎ (n ≡ m)
last_is = last_or_before

pub took_or_failed : (failed : ℕ → Type 0) (ms took : List Member) → AreRead failed ms took → (m : Member) → IsAmong ms m → IsAmong took m ⊎ failed m.slot
took_or_failed failed ms took none_yet m h = absurd h
took_or_failed failed ms took (one_read before earlier n are) m h = ⊎_elim
    (λ old. ⊎_elim (λ yes. inl (append_left earlier (n ∷ []) m yes)) (λ lost. inr lost) (took_or_failed failed before earlier are m old))
    (λ (same : m ≡ n). inl (subst (λ (k : Member). IsAmong (earlier ++ n ∷ []) k) (sym same) (append_last earlier n)))
    (last_is before n m h)
took_or_failed failed ms took (one_failed before earlier n rose are) m h = ⊎_elim
    (λ old. took_or_failed failed before earlier are m old)
    (λ (same : m ≡ n). inr (subst (λ (k : Member). failed k.slot) (sym same) rose))
    (last_is before n m h)

pub left_out_failed : (failed : ℕ → Type 0) (ms took : List Member) → AreRead failed ms took → (m : Member) → IsAmong ms m → is_one_of took m ≡ false → failed m.slot
left_out_failed failed ms took are m h out = ⊎_elim (λ there. absurd (both_ways (is_one_of took m) out (one_of_them took m there))) (λ lost. lost) (took_or_failed failed ms took are m h)

-- ---- the first that is found

pub record IsFoundIn (p : Member → Bool) (ms : List Member) (m : Member) : Type 0 where
  pub among : IsAmong ms m
  pub passes : p m ≡ true

pub found_in : (p : Member → Bool) (ms : List Member) (m : Member) → find p ms ≡ Some m → IsFoundIn p ms m
found_in p [] m is = absurd (none-some m is)
found_in p (n ∷ ms) m is = cond_both (p n) (Some n) (find p ms) (λ (o : Option Member). o ≡ Some m → IsFoundIn p (n ∷ ms) m)
    (λ yes same. let e = same_Some n m same in record { among = inl (sym e); passes = ap p (sym e) ∙ yes })
    (λ no later. let f = found_in p ms m later in record { among = inr f.among; passes = f.passes }) is

pub none_in : (p : Member → Bool) (ms : List Member) → find p ms ≡ None → (m : Member) → IsAmong ms m → p m ≡ false
none_in p [] is m h = absurd h
none_in p (n ∷ ms) is m h = cond_both (p n) (Some n) (find p ms) (λ (o : Option Member). o ≡ None → p m ≡ false)
    (λ yes some. absurd (none-some n (sym some)))
    (λ no later. ⊎_elim (λ (same : m ≡ n). ap p same ∙ no) (λ there. none_in p ms later m there) h) is

-- ---- majorities

pub more_among : (p q : Holder → Bool) (xs : List Holder) → ((h : Holder) → IsAmong xs h → p h ≡ true → q h ≡ true) → length (filter p xs) ≤ length (filter q xs)
more_among p q [] gives = omega arith
more_among p q (x ∷ xs) gives =
    let rest = more_among p q xs (λ h k. gives h (inr k)) in
    cond_both (p x) (x ∷ filter p xs) (filter p xs) (λ (l : List Holder). length l ≤ length (filter q (x ∷ xs)))
    (λ yes. subst (λ (l : List Holder). length (x ∷ filter p xs) ≤ length l) (sym (cond-true (q x) (x ∷ filter q xs) (filter q xs) (gives x (inl refl) yes))) (omega (arith, rest)))
    (λ out. cond_both (q x) (x ∷ filter q xs) (filter q xs) (λ (l : List Holder). length (filter p xs) ≤ length l) (λ also. omega (arith, rest)) (λ no. rest))

-- what a set falls short of
pub is_short : (ms : List Member) (set : List Holder) (x : ℕ × ℕ) → shortfall ms (set ∷ []) ≡ Some x → 2 * seen_of ms set ≤ length set
is_short ms set x is = cond_both (nat_lt (length set) (2 * seen_of ms set)) None (Some (seen_of ms set, length set / 2 + 1)) (λ (o : Option (ℕ × ℕ)). o ≡ Some x → 2 * seen_of ms set ≤ length set)
    (λ yes none. absurd (none-some x none)) (λ no some. ltb-false (length set) (2 * seen_of ms set) no) is

pub is_enough : (ms : List Member) (set : List Holder) → shortfall ms (set ∷ []) ≡ None → length set < 2 * seen_of ms set
is_enough ms set is = cond_both (nat_lt (length set) (2 * seen_of ms set)) None (Some (seen_of ms set, length set / 2 + 1)) (λ (o : Option (ℕ × ℕ)). o ≡ None → length set < 2 * seen_of ms set)
    (λ yes none. ltb-true (length set) (2 * seen_of ms set) yes) (λ no some. absurd (none-some (seen_of ms set, length set / 2 + 1) (sym some))) is

pub not_short : (ms : List Member) (set : List Holder) → length set < 2 * seen_of ms set → shortfall ms (set ∷ []) ≡ None
not_short ms set lt = cond-true (nat_lt (length set) (2 * seen_of ms set)) None (Some (seen_of ms set, length set / 2 + 1)) (lt-ltb (length set) (2 * seen_of ms set) lt)

module _ (ms took : List Member) (entries : List Entry) (set : ℕ) where
  -- where each of the members in a set took it, as many of the set are there
  pub all_seen : ((m : Member) → IsAmong ms m → has_bit set m.number ≡ true → is_one_of took m ≡ true) → seen_of ms (disks_of entries set) ≤ seen_of took (disks_of entries set)
  unfolding seen_of
  all_seen all = more_among (is_holder_there ms) (is_holder_there took) (disks_of entries set) (λ h among there.
      let f = found (λ (n : Member). (n.number == h.0) && (n.birth == h.1)) ms there in
      let parts = and_parts (f.0.number == h.0) (f.0.birth == h.1) f.2 in
      let number : f.0.number ≡ h.0 = eqb-true f.0.number h.0 parts.0 in
      let birth : f.0.birth ≡ h.1 = eqb-true f.0.birth h.1 parts.1 in
      let bit : has_bit set f.0.number ≡ true = ap (has_bit set) number ∙ (disk_is entries set h among).bit in
      subst (λ (x : Holder). is_holder_there took x ≡ true) (λ i. (number i, birth i)) (there_of took f.0 (all f.0 f.1 bit)))

  pub all_enough : ((m : Member) → IsAmong ms m → has_bit set m.number ≡ true → is_one_of took m ≡ true) → shortfall ms (disks_of entries set ∷ []) ≡ None → shortfall took (disks_of entries set ∷ []) ≡ None
  all_enough all enough = not_short took (disks_of entries set) (omega (arith, all_seen all, is_enough ms (disks_of entries set) enough))

or_parts : {A : Type 0} (a b : Option A) → option_or a b ≡ None → (a ≡ None) × (b ≡ None)
or_parts None b is = (refl, is)
or_parts (Some x) b is = absurd (none-some x (sym is))

or_none : {A : Type 0} (a b : Option A) → a ≡ None → b ≡ None → option_or a b ≡ None
or_none {A} a b first second = ap (λ (o : Option A). option_or o b) first ∙ second

module _ (ms : List Member) (entries : List Entry) (holders next : ℕ) where
  abbrev later : List (List Holder)
  later = if next == 0 then [] else disks_of entries next ∷ []

  pub first_enough : shortfall ms (sets_of entries holders next) ≡ None → shortfall ms (disks_of entries holders ∷ []) ≡ None
  unfolding sets_of
  first_enough is = (or_parts (shortfall ms (disks_of entries holders ∷ [])) (shortfall ms later) (sym (shortfall_first ms (disks_of entries holders) later) ∙ is)).0

  pub second_enough : shortfall ms (sets_of entries holders next) ≡ None → next ≢ 0 → shortfall ms (disks_of entries next ∷ []) ≡ None
  unfolding sets_of
  second_enough is some = ap (λ (l : List (List Holder)). shortfall ms l) (sym (cond-false (next == 0) [] (disks_of entries next ∷ []) (ne_eqb next 0 some)))
      ∙ (or_parts (shortfall ms (disks_of entries holders ∷ [])) (shortfall ms later) (sym (shortfall_first ms (disks_of entries holders) later) ∙ is)).1

  pub one_enough : shortfall ms (disks_of entries holders ∷ []) ≡ None → next ≡ 0 → shortfall ms (sets_of entries holders next) ≡ None
  unfolding sets_of
  one_enough first none = shortfall_first ms (disks_of entries holders) later ∙ or_none (shortfall ms (disks_of entries holders ∷ [])) (shortfall ms later) first
      (ap (λ (l : List (List Holder)). shortfall ms l) (cond-true (next == 0) [] (disks_of entries next ∷ []) (eq-eqb next 0 none)))

  pub both_enough : shortfall ms (disks_of entries holders ∷ []) ≡ None → shortfall ms (disks_of entries next ∷ []) ≡ None → next ≢ 0 → shortfall ms (sets_of entries holders next) ≡ None
  unfolding sets_of
  both_enough first second some = shortfall_first ms (disks_of entries holders) later ∙ or_none (shortfall ms (disks_of entries holders ∷ [])) (shortfall ms later) first
      (ap (λ (l : List (List Holder)). shortfall ms l) (cond-false (next == 0) [] (disks_of entries next ∷ []) (ne_eqb next 0 some)) ∙ second)

-- each set of a record is among its sets
pub holders_among : (entries : List Entry) (holders next : ℕ) → IsAmong (sets_of entries holders next) (disks_of entries holders)
unfolding sets_of
holders_among entries holders next = inl refl

pub next_among : (entries : List Entry) (holders next : ℕ) → next ≢ 0 → IsAmong (sets_of entries holders next) (disks_of entries next)
unfolding sets_of
next_among entries holders next some = subst (λ (l : List (List Holder)). IsAmong (disks_of entries holders ∷ l) (disks_of entries next)) (sym (cond-false (next == 0) [] (disks_of entries next ∷ []) (ne_eqb next 0 some))) (inr (inl refl))

-- ---- who is lost

abbrev FailedIn : List Member → ℕ → Member → Bool
FailedIn took set m = has_bit set m.number && not (is_one_of took m)

-- where the first of a set that failed is looked for
pub lost_by : (entries : List Entry) (ms took : List Member) (set : ℕ) (x : ℕ × ℕ) → AreHolders entries ms → shortfall ms (disks_of entries set ∷ []) ≡ None → shortfall took (disks_of entries set ∷ []) ≡ Some x
    → (o : Option Member) → o ≡ find (FailedIn took set) ms → MatchOption o (shortfall took (disks_of entries set ∷ []) ≡ None) (λ m. IsLostOf ms took (disks_of entries set) m)
lost_by entries ms took set x holders enough short None is = all_enough ms took entries set
    (λ m h bit. taken m (none_in (FailedIn took set) ms (sym is) m h) bit) enough
  where
    taken : (m : Member) → FailedIn took set m ≡ false → has_bit set m.number ≡ true → is_one_of took m ≡ true
    taken m out bit = ⊎_elim (λ there. there) (λ absent. absurd (both_ways (FailedIn took set m) out (and_from (has_bit set m.number) (not (is_one_of took m)) bit (ap not absent)))) (cases_Bool (is_one_of took m))
lost_by entries ms took set x holders enough short (Some m) is =
    let f = found_in (FailedIn took set) ms m (sym is) in
    let parts = and_parts (has_bit set m.number) (not (is_one_of took m)) f.passes in
    let held = holders m f.among in
    record {
      few = is_short took (disks_of entries set) x short;
      attached = f.among;
      of_set = is_disk entries set m.number m.birth held.0 parts.0 (entry_birth entries m held.1);
      not_taken = not-true (is_one_of took m) parts.1;
    }

-- of both sets
module _ (entries : List Entry) (ms took : List Member) (holders next : ℕ) where
  pub lost_first : (m : Member) → IsLostOf ms took (disks_of entries holders) m → IsLostMember ms took (sets_of entries holders next) m
  lost_first m lost = record { set = disks_of entries holders; of_record = holders_among entries holders next; lost = lost }

  pub lost_next : (o : Option Member) → next ≢ 0 → shortfall took (disks_of entries holders ∷ []) ≡ None
      → MatchOption o (shortfall took (disks_of entries next ∷ []) ≡ None) (λ m. IsLostOf ms took (disks_of entries next) m)
      → MatchOption o (shortfall took (sets_of entries holders next) ≡ None) (λ m. IsLostMember ms took (sets_of entries holders next) m)
  lost_next None some first second = both_enough took entries holders next first second some
  lost_next (Some m) some first lost = record { set = disks_of entries next; of_record = next_among entries holders next some; lost = lost }

-- ---- the loops

no_bit : (k : ℕ) → has_bit 0 k ≡ false
unfolding has_bit
no_bit k = ne_eqb (0 / 2 ^ k % 2) 1 (λ e. omega (arith, e, ap (λ (n : ℕ). n % 2) (zero-div (2 ^ k))))

pub empty_failed : (failed : ℕ) (b : Bool) (k : ℕ) → failed ≡ 0 → (has_bit failed k || b) ≡ b
empty_failed failed b k is = ap (λ (c : Bool). c || b) (ap (λ (n : ℕ). has_bit n k) is ∙ no_bit k)

-- ---- the set of those that failed

abbrev pub failed_at : List Member → ℕ → Member → Bool
failed_at took k m = (m.number == k) && not (is_one_of took m)

pub shown_but : (ms took : List Member) (failed : ℕ) → IsFailed ms took failed → (m : Member) → IsAmong ms m → m.number < 64 → has_bit failed m.number ≡ false → is_one_of took m ≡ true
shown_but ms took failed is m h small out = ⊎_elim (λ there. there)
    (λ absent. absurd (both_ways (has_bit failed m.number) out (is m.number small
    ∙ any_among (failed_at took m.number) ms m h (and_from (m.number == m.number) (not (is_one_of took m)) (eq-eqb m.number m.number refl) (ap not absent)))))
    (cases_Bool (is_one_of took m))

pub failed_alone : (s t : BayState) (ms took : List Member) (failed : ℕ) → AreRead (λ slot. Rose (s.faults slot) (t.faults slot)) ms took → IsFailed ms took failed → FailedAlone ms failed s t
failed_alone s t ms took failed are is k small bit =
    let f = found (failed_at took k) ms (sym (is k small) ∙ bit) in
    let parts = and_parts (f.0.number == k) (not (is_one_of took f.0)) f.2 in
    (f.0, f.1, eqb-true f.0.number k parts.0, left_out_failed (λ slot. Rose (s.faults slot) (t.faults slot)) ms took are f.0 f.1 (not-true (is_one_of took f.0) parts.1))
