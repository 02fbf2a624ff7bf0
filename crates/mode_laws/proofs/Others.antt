-- What expiry, mounts and failed writes do to modes.
use Rattle.std.proofs.Common.{◌≡◌, ◌⊎◌, inl, inr, ⊎_elim, ℕ, ◌<◌, Bool, true, false, cond, ◌&&◌, ◌||◌, List, [], ◌∷◌, map, refl, sym, ap, subst, ◌∙◌, ◌==◌, Option, Some, None}
use Rattle.std.specs.Prelude.{⊤, find, nat_lt}
use Rattle.std.specs.List.{list_all}
use Rattle.std.proofs.lemmas.Bool.{and_parts, eqb-true, eq-eqb, ltb-true, true≢false}
use Rattle.std.proofs.lemmas.Option.{same_Some, none-some}
use Rattle.asm_group.specs.declared.Mode.TheVariants as mode
use Rattle.bay.specs.State.{BayState}
use Rattle.asm_formats.specs.Among.{IsAmong}
use Rattle.asm_formats.proofs.Among.{all_among}
use Rattle.asm_formats.specs.Sets.{has_bit}
use Rattle.asm_formats.specs.Status.{Entry, Status, entry_of, is_entry}
use Rattle.asm_placement.specs.Modes.{is_online, serves}
use Rattle.asm_placement.proofs.Chosen.{entry_among, entry_found}
use Rattle.disk_modes.specs.Effects.{entry_forced}
use Rattle.group_pieces.proofs.group_engine.Records.{record_parts}
use Rattle.group_pieces.specs.group_engine.Mounts.{MountedGroup}
use Rattle.group_recovery.specs.Missing.{is_missing}
use Rattle.group_recovery.specs.NextRecord.{IsMarkOf, entry_after_mount, has_entry_of_disk, entry_when_mounted}
use Rattle.group_recovery.proofs.NextRecords.{makes}
use Rattle.group_recovery.specs.declared.finding.Headed.{Headed}
use Rattle.group_recovery.specs.declared.quorum.Quorate.{Quorate}
use Rattle.group_pieces.specs.Failing.{entry_failed, offline_entry}
use Rattle.asm_group.specs.Modes.{is_offline}
use Rattle.disk_modes.specs.group_reports.Disks.{is_repair_time_up, may_go, number_of_entry_if_any}
use Rattle.mode_laws.specs.Events.{EntryChange, ModeChange, ModeEvent, by_expiry, by_fault, by_mark, by_missing}
use Rattle.mode_laws.specs.Others.{FailedServe, ExpiryChanges, ExpiryTakes, FailedAreTaken, FailedChanges, MountChanges, MountFinds, WriteFailed, TakingOverChanges, a_mark, is_away, repair_at}
use Rattle.mode_laws.specs.Statements.{group_entries}
use Rattle.mode_laws.proofs.Mapped.{all_changed, kept_entry, none_changed, partners_anew}
use Rattle.mode_laws.proofs.Statements as statements

-- ---- expiry

-- what a search finds is there, and passes
find_passes : {A : Type 0} (t : A → Bool) (xs : List A) (x : A) → find t xs ≡ Some x → IsAmong xs x × (t x ≡ true)
find_passes t [] x is = absurd (none-some x is)
find_passes {A} t (y ∷ xs) x is = go (t y) refl is (find_passes t xs x)
  where
    go : (b : Bool) → b ≡ t y → cond b (Some y) (find t xs) ≡ Some x → (find t xs ≡ Some x → IsAmong xs x × (t x ≡ true)) → IsAmong (y ∷ xs) x × (t x ≡ true)
    go true passes is rest = let same = same_Some y x is in (inl (sym same), ap t (sym same) ∙ sym passes)
    go false passes is rest = let later = rest is in (inr later.0, later.1)

found_number : (o : Option Entry) (d : ℕ) → number_of_entry_if_any o ≡ Some d → (e : Entry) × (o ≡ Some e) × (e.number ≡ d)
found_number None d is = absurd (none-some d is)
found_number (Some e) d is = (e, refl, same_Some e.number d is)

module _ (r : Status) (now d : ℕ) (there : (e : Entry) × (entry_of r.entries d ≡ Some e) × (is_repair_time_up now e ≡ true)) where
  one_expired : (e : Entry) → entry_of r.entries e.number ≡ Some e → (b : Bool) → (e.number == d) ≡ b
      → EntryChange (ExpiryTakes r now (Some d)) e (cond b (record e { mode = mode.Forced }) e)
  one_expired e at true is =
      let same = eqb-true e.number d is in
      let it = same_Some there.0 e (sym there.1 ∙ ap (entry_of r.entries) (sym same) ∙ at) in
      statements.moded (ExpiryTakes r now (Some d)) by_expiry e mode.Forced e.since e.repair
      (record { is = ap (λ (n : ℕ). Some n) (sym same); entry = e; there = at; due = ap (is_repair_time_up now) (sym it) ∙ there.2; event = refl })
      (statements.it_comes (is_offline e.mode) mode.Forced (and_parts (is_offline e.mode) _ (ap (is_repair_time_up now) (sym it) ∙ there.2)).0) refl
  one_expired e at false is = kept_entry (ExpiryTakes r now (Some d)) e

  forced_number : (e : Entry) (b : Bool) → (cond b (record e { mode = mode.Forced }) e).number ≡ e.number
  forced_number e true = refl
  forced_number e false = refl

  pub all_expired : ModeChange (ExpiryTakes r now (Some d)) r.entries (map (entry_forced d) r.entries)
  all_expired =
      all_changed (ExpiryTakes r now (Some d)) r.entries (entry_forced d) (λ e. forced_number e (e.number == d)) (λ e at among. one_expired e at (e.number == d) refl)

pub expiry_changes : ExpiryChanges
expiry_changes now None old new allowed done =
    subst (λ (m : MountedGroup). ModeChange (ExpiryTakes old.register.value now None) (group_entries old) (group_entries m)) (sym done.1) (none_changed (ExpiryTakes old.register.value now None) (group_entries old))
expiry_changes now (Some d) old new allowed done =
    let r = old.register.value in
    let test : Entry → Bool = λ e. is_repair_time_up now e && may_go old.catalog r e.number in
    let found = found_number (find test r.entries) d done.0 in
    let e = found.0 in
    let p = find_passes test r.entries e found.1 in
    let at = entry_found 0 r.entries e (record_parts r allowed).order p.0 in
    let there : (x : Entry) × (entry_of r.entries d ≡ Some x) × (is_repair_time_up now x ≡ true) = (e, ap (entry_of r.entries) (sym found.2) ∙ at, (and_parts (is_repair_time_up now e) (may_go old.catalog r e.number) p.1).0) in
    subst (ModeChange (ExpiryTakes r now (Some d)) r.entries) (sym done.1.entries)
    (partners_anew (ExpiryTakes r now (Some d)) r.entries (map (entry_forced d) r.entries) (all_expired r now d there))

-- ---- failed writes

module _ (failed since repair : ℕ) where
  one_failed : (e : Entry) → (has_bit failed e.number ≡ true → serves e.mode ≡ true) → (b : Bool) → (nat_lt e.number 64 && has_bit failed e.number) ≡ b
      → EntryChange (WriteFailed failed since repair) e (cond b (offline_entry since repair e) e)
  one_failed e serving true is =
      let has = (and_parts (nat_lt e.number 64) (has_bit failed e.number) is).1 in
      statements.moded (WriteFailed failed since repair) (by_fault since repair) e mode.Offline since repair (has, refl) (statements.it_comes (serves e.mode) mode.Offline (serving has)) refl
  one_failed e serving false is = kept_entry (WriteFailed failed since repair) e

  failed_number : (e : Entry) (b : Bool) → (cond b (offline_entry since repair e) e).number ≡ e.number
  failed_number e true = refl
  failed_number e false = refl

  pub all_failed : (es : List Entry) → FailedServe failed es → ModeChange (WriteFailed failed since repair) es (map (entry_failed failed 64 since repair) es)
  all_failed es serving =
      all_changed (WriteFailed failed since repair) es (entry_failed failed 64 since repair) (λ e. failed_number e (nat_lt e.number 64 && has_bit failed e.number))
      (λ e at among. one_failed e (serving e among) (nat_lt e.number 64 && has_bit failed e.number) refl)

pub failed_changes : FailedChanges
failed_changes failed since repair r serving = all_failed failed since repair r.entries serving

pub failed_are_taken : FailedAreTaken
failed_are_taken failed since r s d e f are small has was serving is =
    let p = entry_among s.entries d f is in
    let off = are f p.0 (subst (λ (n : ℕ). n < 64) (sym p.1) small) (ap (has_bit failed) p.1 ∙ has) in
    record {
      mode = statements.it_comes (serves e.mode) mode.Offline serving ∙ ap (λ m. Some m) (sym off.0);
      times = ap (λ (n : ℕ). (n, f.repair)) off.1;
    }

-- ---- a mount

-- the disk has an entry
has_its_number : (es : List Entry) (e : Entry) → IsAmong es e → has_entry_of_disk es e.number ≡ true
has_its_number [] e h = absurd h
has_its_number (x ∷ es) e (inl same) = ap (λ (b : Bool). b || has_entry_of_disk es e.number) (eq-eqb x.number e.number (ap (λ (y : Entry). y.number) (sym same)))
has_its_number (x ∷ es) e (inr later) = go (x.number == e.number) (has_its_number es e later)
  where
    go : (b : Bool) → has_entry_of_disk es e.number ≡ true → (b || has_entry_of_disk es e.number) ≡ true
    go true has = refl
    go false has = has

small_entry : (e : Entry) → is_entry e ≡ true → e.number < 64
unfolding is_entry
small_entry e is = ltb-true e.number 64 (and_parts (nat_lt e.number 64) _ is).0

small_number : (es : List Entry) (e : Entry) → list_all is_entry es ≡ true → IsAmong es e → e.number < 64
small_number es e all among = small_entry e (all_among is_entry es e all among)

module _ (q : Quorate) (now : ℕ) where
  found_so : (e : Entry) → entry_of q.survey.value.entries e.number ≡ Some e → (b : Bool) → IsMarkOf q.catalog.tables e.number b → (a : Bool) → is_missing q.id q.headed.items e ≡ a
      → EntryChange (MountFinds q now) e (entry_after_mount a b now (repair_at q) e)
  found_so e at b marks true is =
      statements.moded (MountFinds q now) (by_missing now (repair_at q)) e mode.Offline now (repair_at q) (is_away e at is)
      (statements.it_comes (serves e.mode) mode.Offline (and_parts (serves e.mode) _ is).0) refl
  found_so e at true marks false is = go (is_online e.mode) refl
    where
      go : (c : Bool) → c ≡ is_online e.mode → EntryChange (MountFinds q now) e (cond (c && true) (record e { mode = mode.Syncing }) e)
      go true online = statements.moded (MountFinds q now) by_mark e mode.Syncing e.since e.repair (a_mark e at is marks.0 marks.1) (statements.it_comes (is_online e.mode) mode.Syncing (sym online)) refl
      go false online = kept_entry (MountFinds q now) e
  found_so e at false marks false is = go (is_online e.mode)
    where
      go : (c : Bool) → EntryChange (MountFinds q now) e (cond (c && false) (record e { mode = mode.Syncing }) e)
      go true = kept_entry (MountFinds q now) e
      go false = kept_entry (MountFinds q now) e

  after_number : (e : Entry) (a b : Bool) → (entry_after_mount a b now (repair_at q) e).number ≡ e.number
  after_number e true b = refl
  after_number e false b = go (is_online e.mode && b)
    where
      go : (c : Bool) → (cond c (record e { mode = mode.Syncing }) e).number ≡ e.number
      go true = refl
      go false = refl

pub mount_changes : MountChanges
mount_changes q now next makes is =
    let es = q.survey.value.entries in
    let after = entry_when_mounted q is.marked now in
    subst (λ (r : Status). ModeChange (MountFinds q now) es r.entries) (sym is.next_is)
    (partners_anew (MountFinds q now) es (map after es)
    (all_changed (MountFinds q now) es after (λ e. after_number q now e (is_missing q.id q.headed.items e) (has_bit is.marked e.number))
    (λ e at among.
    found_so q now e at (has_bit is.marked e.number) (is.marks e.number (small_number es e (record_parts q.survey.value makes.status).entries among) (has_its_number es e among)) (is_missing q.id q.headed.items e) refl)))

-- what a search doesn't find doesn't pass
none_passes : {A : Type 0} (t : A → Bool) (xs : List A) → find t xs ≡ None → (x : A) → IsAmong xs x → t x ≡ false
none_passes t [] none x h = absurd h
none_passes {A} t (y ∷ xs) none x h = go (t y) refl none (λ rest l. none_passes t xs rest x l) h
  where
    go : (b : Bool) → t y ≡ b → cond b (Some y) (find t xs) ≡ None → (find t xs ≡ None → IsAmong xs x → t x ≡ false) → (x ≡ y) ⊎ IsAmong xs x → t x ≡ false
    go true is none rest k = absurd (none-some y (sym none))
    go false is none rest k = ⊎_elim (λ here. ap t here ∙ is) (λ l. rest none l) k

module _ (q : Quorate) (now d : ℕ) where
  -- what is so of a disk that a mount doesn't find
  Missing : ModeEvent → Type 0
  Missing (by_missing since repair) = (e : Entry) × (entry_of q.survey.value.entries d ≡ Some e) × (is_missing q.id q.headed.items e ≡ true)
  Missing _ = ⊤

  missing_is : (v : ModeEvent) → MountFinds q now d v → Missing v
  unfolding Missing
  missing_is _ (is_away e there missing) = (e, there, missing)
  missing_is _ (a_mark e there here x first) = tt

  pub was_missing : (since repair : ℕ) → MountFinds q now d (by_missing since repair)
      → (e : Entry) × (entry_of q.survey.value.entries d ≡ Some e) × (is_missing q.id q.headed.items e ≡ true)
  unfolding Missing
  was_missing since repair h = missing_is (by_missing since repair) h

pub taking_over_changes : (s t : BayState) → TakingOverChanges s t
taking_over_changes s t option found q now parts quorate parts_are = record {
  modes = subst (λ (r : Status). ModeChange (MountFinds q now) q.survey.value.entries r.entries) (sym parts_are.register.value)
      (mount_changes q now parts_are.next (makes q s quorate.quorum) parts_are.made);
  complete = λ unforced d since repair h.
      let m = was_missing q now d since repair h in
      let none = ap (λ (hs : List Headed). find (is_missing q.id hs) q.survey.value.entries) quorate.headed_are
      ∙ ap (λ (n : ℕ). find (is_missing n found.headed) q.survey.value.entries) quorate.id_is ∙ quorate.complete unforced in
      true≢false (sym m.2 ∙ none_passes (is_missing q.id q.headed.items) q.survey.value.entries none m.0 (entry_among q.survey.value.entries d m.0 m.1).0);
}
