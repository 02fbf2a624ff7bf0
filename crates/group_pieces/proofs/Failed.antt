-- The status record with failed disks Offline: the same disks, one after the other.
use Rattle.std.proofs.Common.{◌≡◌, inl, inr, ⊎_elim, ℕ, ◌+◌, ◌<◌, ◌≤◌, Bool, true, false, cond, List, [], ◌∷◌, map, length, refl, sym, ap, subst, ◌∙◌, arith, ◌==◌}
use Rattle.std.specs.Prelude.{◌&&◌, nat_lt}
use Rattle.std.proofs.lemmas.Bool.{and_from, cases_lt, cases_eq, eq-eqb, le-ltb, lt-ltb, ne_eqb, true≢false}
use Rattle.asm_formats.specs.Sets.{has_bit}
use Rattle.asm_formats.specs.Status.{Entry, Status}
use Rattle.asm_group.specs.declared.Mode.TheVariants.{Offline}
use Rattle.asm_formats.specs.Among.{IsAmong}
use Rattle.asm_images.specs.RecordLaws.{bare}
use Rattle.record_laws.specs.status_table.Changes.{entries_with_partners, entry_with_offline, entry_with_partners, status_with_offline, status_with_partners}
use Rattle.record_laws.specs.group_engine.NextRecords.{KeepsDisks}
use Rattle.group_pieces.specs.Failing.{AreOffline, entry_failed, status_failed, offline_entry}

abbrev Bare : Type 0
Bare = ℕ × ℕ × ℕ × Bool

-- ---- one disk more

module _ (failed since repair : ℕ) where
  -- the entry of another disk stays
  other_stays : (d : ℕ) (b : Bool) (e : Entry) → (e.number == d) ≡ false → entry_with_offline d since repair (cond b (offline_entry since repair e) e) ≡ cond b (offline_entry since repair e) e
  other_stays d true e other = ap (λ (c : Bool). cond c (offline_entry since repair (offline_entry since repair e)) (offline_entry since repair e)) other
  other_stays d false e other = ap (λ (c : Bool). cond c (offline_entry since repair e) e) other

  -- below d + 1 it is the same as below d but for disk d
  below_more : (d : ℕ) (e : Entry) → (e.number == d) ≡ false → (nat_lt e.number (d + 1) && has_bit failed e.number) ≡ (nat_lt e.number d && has_bit failed e.number)
  below_more d e other = ap (λ (b : Bool). b && has_bit failed e.number) (⊎_elim
      (λ (lt : e.number < d). lt-ltb e.number (d + 1) (omega arith) ∙ sym (lt-ltb e.number d lt))
      (λ (le : d ≤ e.number). le-ltb e.number (d + 1) (above le) ∙ sym (le-ltb e.number d le))
      (cases_lt e.number d))
    where
      above : d ≤ e.number → d + 1 ≤ e.number
      above le = ⊎_elim (λ (same : e.number ≡ d). absurd (true≢false (sym (eq-eqb e.number d same) ∙ other))) (λ apart. omega (arith, le, apart)) (cases_eq e.number d)

  entry_more : (d : ℕ) (e : Entry) → has_bit failed d ≡ true → entry_with_offline d since repair (entry_failed failed d since repair e) ≡ entry_failed failed (d + 1) since repair e
  entry_more d e is = ⊎_elim
      (λ (same : e.number ≡ d).
      let out : (nat_lt e.number d && has_bit failed e.number) ≡ false = ap (λ (b : Bool). b && has_bit failed e.number) (le-ltb e.number d (omega arith)) in
      let now : (nat_lt e.number (d + 1) && has_bit failed e.number) ≡ true = ap (λ (b : Bool). b && has_bit failed e.number) (lt-ltb e.number (d + 1) (omega arith)) ∙ ap (has_bit failed) same ∙ is in
      ap (λ (b : Bool). entry_with_offline d since repair (cond b (offline_entry since repair e) e)) out
      ∙ ap (λ (b : Bool). cond b (offline_entry since repair e) e) (eq-eqb e.number d same)
      ∙ ap (λ (b : Bool). cond b (offline_entry since repair e) e) (sym now))
      (λ apart.
      let other : (e.number == d) ≡ false = ne_eqb e.number d apart in
      other_stays d (nat_lt e.number d && has_bit failed e.number) e other ∙ ap (λ (b : Bool). cond b (offline_entry since repair e) e) (sym (below_more d e other)))
      (cases_eq e.number d)

  entry_same : (d : ℕ) (e : Entry) → has_bit failed d ≡ false → entry_failed failed d since repair e ≡ entry_failed failed (d + 1) since repair e
  entry_same d e is = ⊎_elim
      (λ (same : e.number ≡ d).
      let none : has_bit failed e.number ≡ false = ap (has_bit failed) same ∙ is in
      ap (λ (b : Bool). cond b (offline_entry since repair e) e) (and_none (nat_lt e.number d) (has_bit failed e.number) none ∙ sym (and_none (nat_lt e.number (d + 1)) (has_bit failed e.number) none)))
      (λ apart. ap (λ (b : Bool). cond b (offline_entry since repair e) e) (sym (below_more d e (ne_eqb e.number d apart))))
      (cases_eq e.number d)
    where
      and_none : (a b : Bool) → b ≡ false → (a && b) ≡ false
      and_none true b none = none
      and_none false b none = refl

  entries_more : (d : ℕ) (es : List Entry) → has_bit failed d ≡ true → map (entry_with_offline d since repair) (map (entry_failed failed d since repair) es) ≡ map (entry_failed failed (d + 1) since repair) es
  entries_more d [] is = refl
  entries_more d (e ∷ es) is = λ i. entry_more d e is i ∷ entries_more d es is i

  entries_same : (d : ℕ) (es : List Entry) → has_bit failed d ≡ false → map (entry_failed failed d since repair) es ≡ map (entry_failed failed (d + 1) since repair) es
  entries_same d [] is = refl
  entries_same d (e ∷ es) is = λ i. entry_same d e is i ∷ entries_same d es is i

  none_below : (e : Entry) → entry_failed failed 0 since repair e ≡ e
  none_below e = ap (λ (b : Bool). cond b (offline_entry since repair e) e) (ap (λ (b : Bool). b && has_bit failed e.number) (le-ltb e.number 0 (omega arith)))

  entries_none : (es : List Entry) → map (entry_failed failed 0 since repair) es ≡ es
  entries_none [] = refl
  entries_none (e ∷ es) = λ i. none_below e i ∷ entries_none es i

  -- none was taken off yet
  pub failed_none : (r : Status) → r ≡ status_failed r failed 0 since repair
  failed_none r = sym (ap (λ (es : List Entry). record r { entries = es }) (entries_none r.entries))

  -- disk d is taken off
  pub failed_more : (r next : Status) (d : ℕ) → next ≡ status_failed r failed d since repair → has_bit failed d ≡ true → status_with_offline next d since repair ≡ status_failed r failed (d + 1) since repair
  failed_more r next d is bit = ap (λ (q : Status). status_with_offline q d since repair) is ∙ ap (λ (es : List Entry). record r { entries = es }) (entries_more d r.entries bit)

  -- it isn't one of them
  pub failed_same : (r next : Status) (d : ℕ) → next ≡ status_failed r failed d since repair → has_bit failed d ≡ false → next ≡ status_failed r failed (d + 1) since repair
  failed_same r next d is bit = is ∙ ap (λ (es : List Entry). record r { entries = es }) (entries_same d r.entries bit)

  -- ---- the same disks

  pub bare_failed : (d : ℕ) (e : Entry) → bare (entry_failed failed d since repair e) ≡ bare e
  bare_failed d e = go (nat_lt e.number d && has_bit failed e.number)
    where
      go : (b : Bool) → bare (cond b (offline_entry since repair e) e) ≡ bare e
      go true = refl
      go false = refl

  all_bare : (d : ℕ) (es : List Entry) → map bare (map (entry_failed failed d since repair) es) ≡ map bare es
  all_bare d [] = refl
  all_bare d (e ∷ es) = λ i. bare_failed d e i ∷ all_bare d es i

  pub failed_disks : (r next : Status) (d : ℕ) → next ≡ status_failed r failed d since repair → KeepsDisks r next
  failed_disks r next d is = subst (λ (q : Status). KeepsDisks r q) (sym is) (record {
    id = refl;
    gone = refl;
    holders = refl;
    next_holders = refl;
    directories = refl;
    entries = all_bare d r.entries;
  })

-- ---- modes

module _ (failed since repair : ℕ) where
  one_offline : (x e : Entry) → e ≡ entry_failed failed 64 since repair x → e.number < 64 → has_bit failed e.number ≡ true → (e.mode ≡ Offline) × (e.since ≡ since)
  one_offline x e is small bit = go (nat_lt x.number 64 && has_bit failed x.number) refl is
    where
      go : (b : Bool) → (nat_lt x.number 64 && has_bit failed x.number) ≡ b → e ≡ cond b (offline_entry since repair x) x → (e.mode ≡ Offline) × (e.since ≡ since)
      go true of same = (ap (λ (y : Entry). y.mode) same, ap (λ (y : Entry). y.since) same)
      go false of same =
          let number : e.number ≡ x.number = ap (λ (y : Entry). y.number) same in
          absurd (true≢false (sym (and_from (nat_lt x.number 64) (has_bit failed x.number) (lt-ltb x.number 64 (omega (arith, number, small))) (ap (has_bit failed) (sym number) ∙ bit)) ∙ of))

  all_offline : (es : List Entry) (e : Entry) → IsAmong (map (entry_failed failed 64 since repair) es) e → e.number < 64 → has_bit failed e.number ≡ true → (e.mode ≡ Offline) × (e.since ≡ since)
  all_offline [] e among small bit = absurd among
  all_offline (x ∷ es) e among small bit = ⊎_elim (λ (same : e ≡ entry_failed failed 64 since repair x). one_offline x e same small bit) (λ later. all_offline es e later small bit) among

  -- the disks of the set are Offline
  pub failed_offline : (r next : Status) → next ≡ status_failed r failed 64 since repair → AreOffline failed since next
  failed_offline r next is = subst (AreOffline failed since) (sym is) (all_offline r.entries)

  with_sets : (es : List Entry) (sets : List ℕ) → ((e : Entry) → IsAmong es e → e.number < 64 → has_bit failed e.number ≡ true → (e.mode ≡ Offline) × (e.since ≡ since))
      → (e : Entry) → IsAmong (entries_with_partners es sets) e → e.number < 64 → has_bit failed e.number ≡ true → (e.mode ≡ Offline) × (e.since ≡ since)
  with_sets [] sets all e among small bit = absurd among
  with_sets (x ∷ es) [] all e among small bit = absurd among
  with_sets (x ∷ es) (s ∷ sets) all e among small bit = ⊎_elim
      (λ (same : e ≡ entry_with_partners x s).
      let number : e.number ≡ x.number = ap (λ (y : Entry). y.number) same in
      let off = all x (inl refl) (omega (arith, number, small)) (ap (has_bit failed) (sym number) ∙ bit) in
      (ap (λ (y : Entry). y.mode) same ∙ off.0, ap (λ (y : Entry). y.since) same ∙ off.1))
      (λ later. with_sets es sets (λ y there. all y (inr there)) e later small bit) among

  -- they are so under other partners
  pub partners_offline : (next : Status) (sets : List ℕ) → AreOffline failed since next → AreOffline failed since (status_with_partners next sets)
  partners_offline next sets all = with_sets next.entries sets all

-- ---- partners

bare_partners : (es : List Entry) (sets : List ℕ) → length sets ≡ length es → map bare (entries_with_partners es sets) ≡ map bare es
bare_partners [] sets same = refl
bare_partners (e ∷ es) [] same = absurd (omega arith)
bare_partners (e ∷ es) (s ∷ sets) same = λ i. bare e ∷ bare_partners es sets (omega arith) i

-- other partners, the same disks
pub partners_disks : (r next : Status) (sets : List ℕ) → KeepsDisks r next → length sets ≡ length next.entries → KeepsDisks r (status_with_partners next sets)
partners_disks r next sets keeps same = record {
  id = keeps.id;
  gone = keeps.gone;
  holders = keeps.holders;
  next_holders = keeps.next_holders;
  directories = keeps.directories;
  entries = bare_partners next.entries sets same ∙ keeps.entries;
}
