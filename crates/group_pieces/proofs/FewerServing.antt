-- A record by which disks that serve are taken Offline costs a turn, and lets fewer disks serve.
use Rattle.std.proofs.Common.{◌≡◌, ◌≢◌, inl, inr, ℕ, ◌+◌, ◌^◌, ◌<◌, ◌≤◌, Bool, true, false, cond, List, [], ◌∷◌, map, refl, sym, ap, subst, ◌∙◌, Option, Some, None, Result, arith}
use Rattle.std.specs.Prelude.{◌&&◌, OnOk, filter, length, nat_lt}
use Rattle.std.specs.Int.{bit_at, trailing_zeros, w64}
use Rattle.std.proofs.lemmas.Bool.{and_from, cond_both, eq-eqb, false≢true, lt-ltb}
use Rattle.std.proofs.lemmas.Nat.Bits.{bit_at-trailing_zeros}
use Rattle.refusal_lines.specs.declared.refusal.Refusal.{Refusal}
use Rattle.asm_formats.specs.Among.{IsAmong}
use Rattle.asm_formats.specs.Sets.{has_bit}
use Rattle.asm_formats.specs.Status.{Entry, Status, entry_of}
use Rattle.asm_placement.specs.Modes.{mode_is, serves}
use Rattle.asm_placement.specs.Partners.{partner_set, with_partners}
use Rattle.asm_placement.proofs.Chosen.{entry_among}
use Rattle.record_laws.specs.status_register.Holders.{with_next_number}
use Rattle.record_laws.specs.status_table.Changes.{entries_with_partners, status_with_partners}
use Rattle.record_laws.specs.group_engine.Commits.{turns_at_most}
use Rattle.record_laws.specs.group_engine.Mounts.{MountedGroup}
use Rattle.record_laws.specs.group_engine.Pending.{serving_in}
use Rattle.group_pieces.specs.Failing.{AreServing, CostsFaults, FewerServe, entry_failed, status_failed, offline_entry}
use Rattle.group_pieces.proofs.Steps.{on_ok}

-- ---- the count

abbrev passes : Entry → Bool
passes e = serves e.mode

module _ (change : Entry → Entry) where
  -- where none serves that didn't, no more do
  no_more : (es : List Entry) → ((e : Entry) → IsAmong es e → serves (change e).mode ≡ true → serves e.mode ≡ true) → serving_in (map change es) ≤ serving_in es
  no_more [] all = omega arith
  no_more (x ∷ es) all =
      let later : serving_in (map change es) ≤ serving_in es = no_more es (λ e among. all e (inr among)) in
      let new = filter passes (map change es) in
      let old = filter passes es in
      cond_both (serves (change x).mode) (change x ∷ new) new (λ (l : List Entry). length l ≤ length (cond (serves x.mode) (x ∷ old) old))
      (λ yes. let was : serves x.mode ≡ true = all x (inl refl) yes in rw was (omega (arith, later)))
      (λ no. cond_both (serves x.mode) (x ∷ old) old (λ (l : List Entry). length new ≤ length l) (λ is. omega (arith, later)) (λ is. omega (arith, later)))

  -- where one that served doesn't, fewer do
  fewer : (es : List Entry) (e : Entry) → ((f : Entry) → IsAmong es f → serves (change f).mode ≡ true → serves f.mode ≡ true) → IsAmong es e → serves e.mode ≡ true → serves (change e).mode ≡ false
      → serving_in (map change es) < serving_in es
  fewer [] e all among was off = absurd among
  fewer (x ∷ es) e all (inl same) was off =
      let later : serving_in (map change es) ≤ serving_in es = no_more es (λ f among. all f (inr among)) in
      let was_x : serves x.mode ≡ true = ap (λ (y : Entry). serves y.mode) (sym same) ∙ was in
      let off_x : serves (change x).mode ≡ false = ap (λ (y : Entry). serves (change y).mode) (sym same) ∙ off in
      rw (was_x, off_x) (omega (arith, later))
  fewer (x ∷ es) e all (inr more) was off =
      let later : serving_in (map change es) < serving_in es = fewer es e (λ f among. all f (inr among)) more was off in
      let new = filter passes (map change es) in
      let old = filter passes es in
      cond_both (serves (change x).mode) (change x ∷ new) new (λ (l : List Entry). length l < length (cond (serves x.mode) (x ∷ old) old))
      (λ yes. let was_x : serves x.mode ≡ true = all x (inl refl) yes in rw was_x (omega (arith, later)))
      (λ no. cond_both (serves x.mode) (x ∷ old) old (λ (l : List Entry). length new < length l) (λ is. omega (arith, later)) (λ is. omega (arith, later)))

-- ---- the record with disks Offline

-- a disk that serves has an entry
entry_there : (es : List Entry) (k : ℕ) → mode_is serves (entry_of es k) ≡ true → (e : Entry) × IsAmong es e × (e.number ≡ k) × (serves e.mode ≡ true)
entry_there es k is = by (entry_of es k) refl is
  where
    by : (o : Option Entry) → entry_of es k ≡ o → mode_is serves o ≡ true → (e : Entry) × IsAmong es e × (e.number ≡ k) × (serves e.mode ≡ true)
    by None at none = absurd (false≢true none)
    by (Some e) at served = let found = entry_among es k e at in (e, found.0, found.1, served)

module _ (failed since repair : ℕ) (r : Status) where
  abbrev change : Entry → Entry
  change = entry_failed failed 64 since repair

  served_before : (e : Entry) → serves (change e).mode ≡ true → serves e.mode ≡ true
  served_before e = go (nat_lt e.number 64 && has_bit failed e.number)
    where
      go : (b : Bool) → serves (cond b (offline_entry since repair e) e).mode ≡ true → serves e.mode ≡ true
      go true is = absurd (false≢true is)
      go false is = is

  is_off : (e : Entry) → e.number < 64 → has_bit failed e.number ≡ true → serves (change e).mode ≡ false
  is_off e small bit =
      ap (λ (b : Bool). serves (cond b (offline_entry since repair e) e).mode) (and_from (nat_lt e.number 64) (has_bit failed e.number) (lt-ltb e.number 64 small) bit)

  pub fewer_failed : (next : Status) → next ≡ status_failed r failed 64 since repair → FewerServe r failed next
  fewer_failed next is serving k small bit =
      let there = entry_there r.entries k (serving k small bit) in
      let number : there.0.number ≡ k = there.2 in
      let less : serving_in (map change r.entries) < serving_in r.entries =
      fewer change r.entries there.0 (λ e among. served_before e) there.1 there.3 (is_off there.0 (omega (arith, number, small)) (ap (has_bit failed) number ∙ bit)) in
      omega (arith, less, ap (λ (q : Status). serving_in q.entries) is)

  -- with their partners made anew
  pub fewer_partnered : (q : Status) (sets : List ℕ) → q ≡ status_failed r failed 64 since repair → entries_with_partners q.entries sets ≡ with_partners q.entries → FewerServe r failed (status_with_partners q sets)
  fewer_partnered q sets is made serving k small bit =
      let kept : serving_in (with_partners q.entries) ≤ serving_in q.entries = no_more (λ (e : Entry). record e { partners = partner_set q.entries e.number }) q.entries (λ e among served. served) in
      omega (arith, fewer_failed q is serving k small bit, kept, ap serving_in made)

-- ---- turns

-- a set that isn't empty has a disk
one_disk : (set : ℕ) → set ≢ 0 → set < 2 ^ 64 → (k : ℕ) × (k < 64) × (has_bit set k ≡ true)
unfolding has_bit
one_disk set some small =
    let found = bit_at-trailing_zeros w64 set (omega arith) small in
    (trailing_zeros w64 set, found.0, eq-eqb (bit_at set (trailing_zeros w64 set)) 1 found.1)

-- nothing was done
pub nothing_costs : (m : MountedGroup) (failed : ℕ) → CostsFaults m failed m
nothing_costs m failed serving = omega arith

-- the record was written
pub offline_costs : (m : MountedGroup) (failed : ℕ) (next : Status) (new : MountedGroup) (answer : Result (Unit {0}) Refusal) → failed ≢ 0 → failed < 2 ^ 64 → FewerServe m.register.value failed next
    → OnOk answer (new.register.value ≡ with_next_number m.register next) → turns_at_most new ≤ turns_at_most m + 1 → OnOk answer (CostsFaults m failed new)
offline_costs m failed next new answer some small less recorded turns = on_ok answer
    (λ is serving.
    let k = one_disk failed some small in
    omega (arith, turns, less serving k.0 k.1 k.2, ap (λ (r : Status). serving_in r.entries) is))
    recorded

-- marks were committed before
pub costs_on : (m mid new : MountedGroup) (failed : ℕ) (answer : Result (Unit {0}) Refusal) → mid.register.value.entries ≡ m.register.value.entries → turns_at_most mid ≤ turns_at_most m
    → OnOk answer (CostsFaults mid failed new) → OnOk answer (CostsFaults m failed new)
costs_on m mid new failed answer entries turns costs = on_ok answer
    (λ step serving. omega (arith, step (subst (λ (es : List Entry). AreServing es failed) (sym entries) serving), turns, ap serving_in entries))
    costs
