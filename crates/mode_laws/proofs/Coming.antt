-- Entries that come, go, or come back.
use Rattle.std.proofs.Common.{◌≡◌, ⊎_elim, ℕ, ◌+◌, ◌<◌, Bool, true, false, cond, not, List, [], ◌∷◌, filter, refl, sym, ap, subst, ◌∙◌, arith, leb, ◌==◌, Option, Some, None}
use Rattle.std.specs.Prelude.{nat_lt}
use Rattle.std.proofs.lemmas.Bool.{and_parts, eq-eqb, eqb-true, ne_eqb, cases_eq, true≢false}
use Rattle.std.proofs.lemmas.Option.{same_Some, none-some}
use Rattle.asm_group.specs.declared.Mode.{Mode}
use Rattle.asm_group.specs.declared.Mode.TheVariants as mode
use Rattle.asm_formats.specs.Status.{Entry, Status, ascends_from, entry_of}
use Rattle.asm_placement.proofs.Chosen.{entry_among, number_from}
use Rattle.asm_placement.specs.DiskSets.{numbers}
use Rattle.asm_placement.specs.Modes.{leaves}
use Rattle.group_pieces.proofs.group_engine.Members.{none_filtered}
use Rattle.group_pieces.proofs.group_engine.Records.{record_parts}
use Rattle.asm_group.specs.Modes.{is_offline}
use Rattle.disk_modes.specs.group_reports.Disks.{is_syncing}
use Rattle.status_table.specs.Changes.{entry_with_mode, entries_with, status_with_mode}
use Rattle.mode_laws.specs.Coming.{Happens, JoiningChanges, LeavingChanges, OnlineChanges, SyncChanges}
use Rattle.mode_laws.specs.Events.{EntryChange, ModeChange, ModeEvent, by_joining, by_leaving, by_online, by_sync, mode_after, times_after, offline_times}
use Rattle.mode_laws.proofs.Mapped.{all_changed, kept_entry}
use Rattle.mode_laws.proofs.Statements as statements

-- ---- one disk in another mode

module _ (r : Status) (e : Entry) (at : entry_of r.entries e.number ≡ Some e) (v : ModeEvent) (m : Mode) (is : mode_after v e.mode ≡ Some m) (times : offline_times e ≡ times_after v (offline_times e)) where
  one_moded : (x : Entry) → entry_of r.entries x.number ≡ Some x → (b : Bool) → (x.number == e.number) ≡ b
      → EntryChange (Happens v e.number) x (cond b (record x { mode = m; since = e.since }) x)
  one_moded x there true same =
      let number = eqb-true x.number e.number same in
      let it : e ≡ x = same_Some e x (sym at ∙ ap (entry_of r.entries) (sym number) ∙ there) in
      subst (λ (y : Entry). EntryChange (Happens v e.number) y (record y { mode = m; since = e.since })) it
      (statements.moded (Happens v e.number) v e m e.since e.repair (refl, refl) is times)
  one_moded x there false other = kept_entry (Happens v e.number) x

  moded_number : (x : Entry) (b : Bool) → (cond b (record x { mode = m; since = e.since }) x).number ≡ x.number
  moded_number x true = refl
  moded_number x false = refl

  pub one_changes : ModeChange (Happens v e.number) r.entries (status_with_mode r e.number m e.since).entries
  one_changes =
      all_changed (Happens v e.number) r.entries (entry_with_mode e.number m e.since) (λ x. moded_number x (x.number == e.number))
      (λ x there among. one_moded x there (x.number == e.number) refl)

pub online_changes : OnlineChanges
online_changes r e at was = one_changes r e at by_online mode.Syncing (statements.it_comes (is_offline e.mode) mode.Syncing was) refl

pub sync_changes : SyncChanges
sync_changes r e at was = one_changes r e at by_sync mode.Online (statements.it_comes (is_syncing e.mode) mode.Online was) refl

-- ---- one less

others_filtered : (es : List Entry) (n d : ℕ) → (d ≡ n → ⊥) → entry_of (filter (λ (e : Entry). not (e.number == n)) es) d ≡ entry_of es d
unfolding entry_of
others_filtered [] n d other = refl
others_filtered (x ∷ es) n d other = go (x.number == n) refl (others_filtered es n d other)
  where
    go : (b : Bool) → (x.number == n) ≡ b → entry_of (filter (λ (e : Entry). not (e.number == n)) es) d ≡ entry_of es d
        → entry_of (cond (not b) (x ∷ filter (λ (e : Entry). not (e.number == n)) es) (filter (λ (e : Entry). not (e.number == n)) es)) d ≡ cond (x.number == d) (Some x) (entry_of es d)
    go true is rest =
        let here = eqb-true x.number n is in
        rest ∙ sym (ap (λ (b : Bool). cond b (Some x) (entry_of es d)) (ne_eqb x.number d (λ same. other (sym same ∙ here))))
    go false is rest = ap (λ (o : Option Entry). cond (x.number == d) (Some x) o) rest

pub leaving_changes : LeavingChanges
leaving_changes r e at was = record {
  stays = λ d x y there is. ⊎_elim
      (λ (same : d ≡ e.number). absurd (none-some y (sym (none d same) ∙ is)))
      (λ other. subst (EntryChange happens x) (same_Some x y (sym there ∙ sym (others_filtered r.entries e.number d other) ∙ is)) (kept_entry happens x))
      (cases_eq d e.number);
  goes = λ d x there is. ⊎_elim
      (λ (same : d ≡ e.number). (ap (λ (z : Entry). leaves z.mode) (same_Some x e (sym there ∙ ap (entry_of r.entries) same ∙ at)) ∙ was, (same, refl)))
      (λ other. absurd (none-some x (sym is ∙ others_filtered r.entries e.number d other ∙ there)))
      (cases_eq d e.number);
  comes = λ d y there is. ⊎_elim
      (λ (same : d ≡ e.number). absurd (none-some y (sym (none d same) ∙ is)))
      (λ other. absurd (none-some y (sym there ∙ sym (others_filtered r.entries e.number d other) ∙ is)))
      (cases_eq d e.number);
}
  where
    happens : ℕ → ModeEvent → Type 0
    happens = Happens by_leaving e.number

    none : (d : ℕ) → d ≡ e.number → entry_of (filter (λ (x : Entry). not (x.number == e.number)) r.entries) d ≡ None
    none d same = ap (entry_of (filter (λ (x : Entry). not (x.number == e.number)) r.entries)) same ∙ none_filtered r.entries e.number

-- ---- one more

-- below the least number of entries in their order there is none
none_below : (least : ℕ) (es : List Entry) (d : ℕ) → ascends_from least (numbers es) ≡ true → d < least → entry_of es d ≡ None
none_below least es d up lt = go (entry_of es d) refl
  where
    go : (o : Option Entry) → entry_of es d ≡ o → o ≡ None
    go None is = refl
    go (Some e) is = let p = entry_among es d e is in absurd (omega (arith, number_from least es e up p.0, p.1, lt))

swapped : (a b : Bool) (u v o : Option Entry) → (a ≡ true → b ≡ true → ⊥) → cond b u (cond a v o) ≡ cond a v (cond b u o)
swapped true true u v o apart = absurd (apart refl refl)
swapped true false u v o apart = refl
swapped false true u v o apart = refl
swapped false false u v o apart = refl

-- the first of some entries isn't that of a disk without one
not_first : (y : Entry) (es : List Entry) (d : ℕ) → entry_of (y ∷ es) d ≡ None → ((y.number == d) ≡ false) × (entry_of es d ≡ None)
unfolding entry_of
not_first y es d none = go (y.number == d) refl none
  where
    go : (b : Bool) → (y.number == d) ≡ b → cond b (Some y) (entry_of es d) ≡ None → ((y.number == d) ≡ false) × (entry_of es d ≡ None)
    go true is none = absurd (none-some y (sym none))
    go false is none = (is, none)

-- it is found where it was put, and each other as before
entry_inserted : (least : ℕ) (x : Entry) (es : List Entry) (d : ℕ) → ascends_from least (numbers es) ≡ true → entry_of es x.number ≡ None
    → entry_of (entries_with x es) d ≡ cond (x.number == d) (Some x) (entry_of es d)
unfolding entry_of
entry_inserted least x [] d up none = refl
entry_inserted least x (y ∷ es) d up none =
    let later = (and_parts (leb least y.number) (ascends_from (y.number + 1) (numbers es)) up).1 in
    let n = not_first y es x.number none in
    go (nat_lt x.number y.number) (entry_inserted (y.number + 1) y es d later (none_below (y.number + 1) es y.number later (omega arith))) (entry_inserted (y.number + 1) x es d later n.1) n.0
  where
    go : (b : Bool) → entry_of (entries_with y es) d ≡ cond (y.number == d) (Some y) (entry_of es d) → entry_of (entries_with x es) d ≡ cond (x.number == d) (Some x) (entry_of es d)
        → (y.number == x.number) ≡ false → entry_of (cond b (x ∷ entries_with y es) (y ∷ entries_with x es)) d ≡ cond (x.number == d) (Some x) (cond (y.number == d) (Some y) (entry_of es d))
    go true first rest apart = ap (λ (o : Option Entry). cond (x.number == d) (Some x) o) first
    go false first rest apart =
        ap (λ (o : Option Entry). cond (y.number == d) (Some y) o) rest
        ∙ swapped (x.number == d) (y.number == d) (Some y) (Some x) (entry_of es d)
        (λ a b. true≢false (sym (eq-eqb y.number x.number (eqb-true y.number d b ∙ sym (eqb-true x.number d a))) ∙ apart))

pub joining_changes : JoiningChanges
joining_changes r x allowed none online = record {
  stays = λ d e f was is. ⊎_elim
      (λ (same : x.number ≡ d). absurd (none-some e (sym none ∙ ap (entry_of r.entries) same ∙ was)))
      (λ other. subst (EntryChange happens e) (same_Some e f (sym was ∙ sym (kept d other) ∙ is)) (kept_entry happens e))
      (cases_eq x.number d);
  goes = λ d e was is. ⊎_elim
      (λ (same : x.number ≡ d). absurd (none-some e (sym none ∙ ap (entry_of r.entries) same ∙ was)))
      (λ other. absurd (none-some e (sym is ∙ kept d other ∙ was)))
      (cases_eq x.number d);
  comes = λ d f was is. ⊎_elim
      (λ (same : x.number ≡ d). (ap (λ (e : Entry). e.mode) (sym (same_Some x f (sym (put d same) ∙ is))) ∙ online, (sym same, refl)))
      (λ other. absurd (none-some f (sym was ∙ sym (kept d other) ∙ is)))
      (cases_eq x.number d);
}
  where
    happens : ℕ → ModeEvent → Type 0
    happens = Happens by_joining x.number

    put : (d : ℕ) → x.number ≡ d → entry_of (entries_with x r.entries) d ≡ Some x
    put d same = entry_inserted 0 x r.entries d (record_parts r allowed).order none ∙ ap (λ (b : Bool). cond b (Some x) (entry_of r.entries d)) (eq-eqb x.number d same)

    kept : (d : ℕ) → (x.number ≡ d → ⊥) → entry_of (entries_with x r.entries) d ≡ entry_of r.entries d
    kept d other = entry_inserted 0 x r.entries d (record_parts r allowed).order none ∙ ap (λ (b : Bool). cond b (Some x) (entry_of r.entries d)) (ne_eqb x.number d other)
