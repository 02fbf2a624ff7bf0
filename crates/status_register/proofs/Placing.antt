-- Members in the places of their numbers.
use Rattle.std.proofs.Common.{◌≡◌, ◌⊎◌, inl, inr, ⊎_elim, ℕ, zero, suc, ◌<◌, true, List, [], ◌∷◌, length, get_or, set, replicate, Option, Some, None, refl, sym, ap, subst, ◌∙◌, arith, get_or-set_other, get_or-set_same, length-set, IsTrue}
use Rattle.std.specs.Prelude.{◌==◌, ◌&&◌, ◌||◌}
use Rattle.std.specs.Option.{option_map}
use Rattle.std.proofs.lemmas.Bool.{cond_both, cond-true, cond-false, cases_eq, eqb-true, and_parts, or_left}
use Rattle.std.proofs.lemmas.Option.{same_Some, none-some}
use Rattle.bay.specs.State.{BayState, KeepsAttached}
use Rattle.bay.specs.Moments.{Ends}
use Rattle.bay.proofs.Calls.{done_less}
use Rattle.asm_formats.specs.Among.{IsAmong}
use Rattle.asm_formats.specs.Sets.{has_bit}
use Rattle.asm_formats.specs.Status.{Status, Entry, entry_of, status_spelling}
use Rattle.asm_formats.specs.Following.{Holder, disks_of}
use Rattle.status_register.specs.Holders.{is_of, HoldSlots, SlotsDiffer}
use Rattle.status_register.specs.Keeping.{IsRegisterReady}
use Rattle.status_register.specs.Registered.{Registered, with_member_in_place, all_placed, AreNumbered}
use Rattle.status_register.specs.Rows.{HaveOwnSlots, HaveStatus}
use Rattle.status_register.specs.Surveys.{is_holder_there}
use Rattle.status_register.specs.Tallies.{HaveSlots, IsSlotOf}
use Rattle.status_register.specs.Writes.{HoldersShow, first_holders}
use Rattle.status_register.specs.declared.member.Member.{Member}
use Rattle.status_register.proofs.Filling.{still_slots}
use Rattle.status_register.proofs.Holding.{among_below, held_below, disk_is, entry_birth, has_birth}
use Rattle.status_register.proofs.Meeting.{found}

module _ (entries : List Entry) where
  pub placed_long : (places : List (Option Member)) (m : Member) → length (with_member_in_place entries places m) ≡ length places
  placed_long places m = cond_both (is_of entries m) (set places m.number (Some m)) places (λ (l : List (Option Member)). length l ≡ length places) (λ here. length-set places m.number (Some m)) (λ out. refl)

  -- who is there was there, or is the member
  was_there : (places : List (Option Member)) (m : Member) (i : ℕ) (n : Member) → m.number < length places → get_or (with_member_in_place entries places m) i None ≡ Some n
      → (get_or places i None ≡ Some n) ⊎ ((n ≡ m) × (i ≡ m.number))
  was_there places m i n lt is = cond_both (is_of entries m) (set places m.number (Some m)) places (λ (l : List (Option Member)). get_or l i None ≡ Some n → (get_or places i None ≡ Some n) ⊎ ((n ≡ m) × (i ≡ m.number)))
      (λ here there. elim (cases_eq i m.number) [
        | inl same ↦ inr (sym (same_Some m n (sym (get_or-set_same places m.number (Some m) None lt) ∙ (ap (λ (k : ℕ). get_or (set places m.number (Some m)) k None) (sym same) ∙ there))), same)
        | inr other ↦ inl (sym (get_or-set_other places m.number i (Some m) None other) ∙ there)
      ])
      (λ out there. inl there) is

  all_was_there : (ms : List Member) (places : List (Option Member)) (i : ℕ) (n : Member) → ((m : Member) → IsAmong ms m → m.number < length places) → get_or (all_placed entries places ms) i None ≡ Some n
      → (get_or places i None ≡ Some n) ⊎ (IsAmong ms n × (n.number ≡ i))
  all_was_there [] places i n small is = inl is
  all_was_there (m ∷ ms) places i n small is = ⊎_elim
      (λ before. ⊎_elim (λ old. inl old)
      (λ new. inr (inl new.0, ap (λ (k : Member). k.number) new.0 ∙ sym new.1))
      (was_there places m i n (small m (inl refl)) before))
      (λ later. inr (inr later.0, later.1))
      (all_was_there ms (with_member_in_place entries places m) i n (λ k h. omega (arith, small k (inr h), placed_long places m)) is)

  none_there : (k i : ℕ) → get_or (replicate {A = Option Member} k None) i None ≡ None
  none_there zero i = refl
  none_there (suc k) zero = refl
  none_there (suc k) (suc i) = none_there k i

  pub placed_is : (ms : List Member) (i : ℕ) (n : Member) → AreNumbered ms → get_or (all_placed entries (replicate 64 None) ms) i None ≡ Some n → IsAmong ms n × (n.number ≡ i)
  placed_is ms i n small is = ⊎_elim (λ before. absurd (none-some n (sym (none_there 64 i) ∙ before))) (λ here. here) (all_was_there ms (replicate 64 None) i n small is)

  -- who is there was there, or is the disk of its number's entry
  was_of : (places : List (Option Member)) (m : Member) (i : ℕ) (n : Member) → m.number < length places → get_or (with_member_in_place entries places m) i None ≡ Some n
      → (get_or places i None ≡ Some n) ⊎ (is_of entries n ≡ true)
  was_of places m i n lt is = cond_both (is_of entries m) (set places m.number (Some m)) places
      (λ (l : List (Option Member)). get_or l i None ≡ Some n → (get_or places i None ≡ Some n) ⊎ (is_of entries n ≡ true))
      (λ here there. elim (cases_eq i m.number) [
        | inl same ↦ inr (subst (λ (k : Member). is_of entries k ≡ true)
            (same_Some m n (sym (get_or-set_same places m.number (Some m) None lt) ∙ (ap (λ (k : ℕ). get_or (set places m.number (Some m)) k None) (sym same) ∙ there))) here)
        | inr other ↦ inl (sym (get_or-set_other places m.number i (Some m) None other) ∙ there)
      ])
      (λ out there. inl there) is

  all_was_of : (ms : List Member) (places : List (Option Member)) (i : ℕ) (n : Member) → ((m : Member) → IsAmong ms m → m.number < length places)
      → get_or (all_placed entries places ms) i None ≡ Some n → (get_or places i None ≡ Some n) ⊎ (is_of entries n ≡ true)
  all_was_of [] places i n small is = inl is
  all_was_of (m ∷ ms) places i n small is = ⊎_elim (λ before. was_of places m i n (small m (inl refl)) before) (λ later. inr later)
      (all_was_of ms (with_member_in_place entries places m) i n (λ k h. omega (arith, small k (inr h), placed_long places m)) is)

  pub placed_of : (ms : List Member) (i : ℕ) (n : Member) → AreNumbered ms → get_or (all_placed entries (replicate 64 None) ms) i None ≡ Some n → is_of entries n ≡ true
  placed_of ms i n small is =
      ⊎_elim (λ before. absurd (none-some n (sym (none_there 64 i) ∙ before))) (λ here. here) (all_was_of ms (replicate 64 None) i n small is)

  -- the place of a number has the disk of its entry
  abbrev Good : List (Option Member) → ℕ → Type 0
  Good places d = (m : Member) × (get_or places d None ≡ Some m) × (m.number ≡ d) × (is_of entries m ≡ true)

  good_put : (places : List (Option Member)) (m : Member) (d : ℕ) → m.number < length places → is_of entries m ≡ true → Good places d ⊎ (d ≡ m.number) → Good (with_member_in_place entries places m) d
  good_put places m d lt here old = subst (λ (l : List (Option Member)). Good l d) (sym (cond-true (is_of entries m) (set places m.number (Some m)) places here)) (elim (cases_eq d m.number) [
    | inl same ↦ (m, ap (λ (k : ℕ). get_or (set places m.number (Some m)) k None) same ∙ get_or-set_same places m.number (Some m) None lt, sym same, here)
    | inr other ↦ ⊎_elim (λ good. (good.0, get_or-set_other places m.number d (Some m) None other ∙ good.1, good.2, good.3)) (λ same. absurd (other same)) old
  ])

  good_stays : (places : List (Option Member)) (m : Member) (d : ℕ) → m.number < length places → Good places d → Good (with_member_in_place entries places m) d
  good_stays places m d lt good = cond_both (is_of entries m) (set places m.number (Some m)) places (λ (l : List (Option Member)). is_of entries m ≡ is_of entries m → Good places d → Good (with_member_in_place entries places m) d)
      (λ here same old. good_put places m d lt here (inl old))
      (λ out same old. subst (λ (l : List (Option Member)). Good l d) (sym (cond-false (is_of entries m) (set places m.number (Some m)) places out)) old) refl good

  good_later : (ms : List Member) (places : List (Option Member)) (d : ℕ) → ((m : Member) → IsAmong ms m → m.number < length places) → Good places d → Good (all_placed entries places ms) d
  good_later [] places d small good = good
  good_later (m ∷ ms) places d small good = good_later ms (with_member_in_place entries places m) d (λ k h. omega (arith, small k (inr h), placed_long places m)) (good_stays places m d (small m (inl refl)) good)

  good_all : (ms : List Member) (places : List (Option Member)) (k : Member) → ((m : Member) → IsAmong ms m → m.number < length places) → IsAmong ms k → is_of entries k ≡ true → Good (all_placed entries places ms) k.number
  good_all [] places k small h is = absurd h
  good_all (m ∷ ms) places k small (inl same) is = good_later ms (with_member_in_place entries places m) k.number (λ n h. omega (arith, small n (inr h), placed_long places m))
      (good_put places m k.number (small m (inl refl)) (subst (λ (n : Member). is_of entries n ≡ true) same is) (inr (ap (λ (n : Member). n.number) same)))
  good_all (m ∷ ms) places k small (inr h) is = good_all ms (with_member_in_place entries places m) k (λ n j. omega (arith, small n (inr j), placed_long places m)) h is

  pub placed_good : (ms : List Member) (k : Member) → AreNumbered ms → IsAmong ms k → is_of entries k ≡ true → Good (all_placed entries (replicate 64 None) ms) k.number
  placed_good ms k small h is = good_all ms (replicate 64 None) k small h is

-- ---- the places are ready

index_of : (ms : List Member) (m d : Member) → IsAmong ms m → (j : ℕ) × (j < length ms) × (m ≡ get_or ms j d)
index_of [] m d h = absurd h
index_of (n ∷ ms) m d (inl same) = (0, omega arith, same)
index_of (n ∷ ms) m d (inr h) = let f = index_of ms m d h in (suc f.0, omega (arith, f.1), f.2)

one_slot : (ms : List Member) (m n : Member) → HaveOwnSlots ms → IsAmong ms m → IsAmong ms n → m.slot ≡ n.slot → m ≡ n
one_slot ms m n apart hm hn same =
    let a = index_of ms m m hm in
    let b = index_of ms n m hn in
    let index : a.0 ≡ b.0 = apart a.0 b.0 m a.1 b.1 (sym (ap (λ (k : Member). k.slot) a.2) ∙ same ∙ ap (λ (k : Member). k.slot) b.2) in
    a.2 ∙ ap (λ (j : ℕ). get_or ms j m) index ∙ sym b.2

module _ (entries : List Entry) (ms : List Member) (small : AreNumbered ms) where
  abbrev the_places : List (Option Member)
  the_places = all_placed entries (replicate 64 None) ms

  pub places_hold : (state : BayState) → HaveSlots state ms → HoldSlots state the_places
  places_hold state have i m is = have m (placed_is entries ms i m small is).0

  pub places_differ : HaveOwnSlots ms → SlotsDiffer the_places
  places_differ apart i j m n is also same =
      let a = placed_is entries ms i m small is in
      let b = placed_is entries ms j n small also in
      let one = one_slot ms m n apart a.0 b.0 same in
      omega (arith, a.1, b.1, ap (λ (k : Member). k.number) one)

  pub places_ready : (s t : BayState) (register : Registered) → register.members ≡ the_places → HaveSlots s ms → HaveOwnSlots ms → KeepsAttached s t → IsRegisterReady register t
  places_ready s t register is have apart keeps = record {
    slots = subst (λ (l : List (Option Member)). HoldSlots t l) (sym is) (λ i m there. still_slots (places_hold s have i m there) keeps);
    apart = subst SlotsDiffer (sym is) (places_differ apart);
  }

-- ---- the first record

module _ (r : Status) (ms : List Member) (small : AreNumbered ms) where
  pub first_among : (m : Member) → IsAmong (first_holders r ms) m → IsAmong ms m
  first_among m h = let f = among_below (all_placed r.entries (replicate 64 None) ms) r 64 m h in (placed_is r.entries ms f.0 m small f.2.there).0

  pub first_slot : (slot : ℕ) → IsSlotOf (first_holders r ms) slot → IsSlotOf ms slot
  first_slot slot is = (is.0, first_among is.0 is.1, is.2)

  -- each holder is attached
  attached : (h : Holder) → IsAmong (disks_of r.entries r.holders) h → IsTrue (is_holder_there ms h) → (m : Member) × IsAmong (first_holders r ms) m × (m.number ≡ h.0) × (m.birth ≡ h.1)
  attached h among there =
      let disk = disk_is r.entries r.holders h among in
      let f = found (λ (n : Member). (n.number == h.0) && (n.birth == h.1)) ms there in
      let k = f.0 in
      let parts = and_parts (k.number == h.0) (k.birth == h.1) f.2 in
      let number : k.number ≡ h.0 = eqb-true k.number h.0 parts.0 in
      let birth : k.birth ≡ h.1 = eqb-true k.birth h.1 parts.1 in
      let entry : is_of r.entries k ≡ true = has_birth r.entries k (ap (λ (d : ℕ). option_map (λ (e : Entry). e.birth) (entry_of r.entries d)) number ∙ disk.birth ∙ ap (λ (b : ℕ). Some b) (sym birth)) in
      let good = placed_good r.entries ms k small f.1 entry in
      let m = good.0 in
      let own : m.number ≡ h.0 = good.2 ∙ number in
      let same : m.birth ≡ h.1 = same_Some m.birth h.1 (sym (entry_birth r.entries m good.3) ∙ ap (λ (d : ℕ). option_map (λ (e : Entry). e.birth) (entry_of r.entries d)) own ∙ disk.birth) in
      let in_sets : (has_bit r.holders k.number || has_bit r.next_holders k.number) ≡ true = or_left (has_bit r.holders k.number) (has_bit r.next_holders k.number) (ap (has_bit r.holders) number ∙ disk.bit) in
      (m, held_below (all_placed r.entries (replicate 64 None) ms) r 64 k.number m (small k f.1) (record { there = good.1; number = good.2; entry = good.3; bit = in_sets }), own, same)

  pub holders_show : (s t : BayState) → ((h : Holder) → IsAmong (disks_of r.entries r.holders) h → IsTrue (is_holder_there ms h)) → Ends (HaveStatus (status_spelling r) (first_holders r ms)) s t → Ends (HoldersShow ms r) s t
  holders_show s t all done = done_less (λ x y have h among. let m = attached h among (all h among) in (m.0, first_among m.0 m.1, m.2, m.3, have m.0 m.1)) done
