-- What a call of a group that takes calls has done, at each of its ends.
use Rattle.std.proofs.Common.{◌≡◌, ◌≢◌, inl, inr, ⊎_elim, ℕ, ◌^◌, ◌<◌, ◌≤◌, List, length, refl, sym, ap, subst, ◌∙◌, Result, Ok, Err, arith}
use Rattle.bay.specs.State.{BayState, IsSound, KeepsAttached}
use Rattle.bay.specs.Moments.{Runs}
use Rattle.bay.proofs.Calls.{attached-trans}
use Rattle.asm_base.specs.Records.{DirectoryRecord}
use Rattle.refusal_lines.specs.declared.refusal.Refusal.{Refusal}
use Rattle.refusal_lines.specs.declared.refusal.Refusal.TheVariants as cause
use Rattle.asm_formats.specs.Items.{Key}
use Rattle.asm_formats.specs.Status.{Status}
use Rattle.rebalance.specs.catalog_tables.Tables.{Catalogued}
use Rattle.rebalance.proofs.catalog_tables.AfterLaws.{one_after}
use Rattle.directory_store.specs.Answers.{IsUnchanged}
use Rattle.directory_store.specs.Stores.{Stored}
use Rattle.directory_store.specs.declared.error.StoreError.{StoreError}
use Rattle.directory_store.specs.declared.error.StoreError.TheVariants.{Gone}
use Rattle.status_register.specs.Registered.{Registered}
use Rattle.status_register.specs.Writes.{after_write}
use Rattle.status_register.specs.declared.error.Dead.{Dead}
use Rattle.directory_store.specs.StoreCalls.{CommitsRecords}
use Rattle.group_engine.specs.Changes.{AppliesChange, IsAsBefore}
use Rattle.group_engine.specs.Commits.{CommitCause, CommitsChange, IsDismountedBy, IsIdle, IsIdleBut, IsLostIn, KeepsRecord, turns_at_most}
use Rattle.group_engine.specs.Dropping.{WritesFewer}
use Rattle.group_engine.specs.Mounts.{IsMounted, IsOwn, IsReady, IsWhole, MountedGroup}
use Rattle.group_engine.specs.Own.{IsSameGroup, KeepsGroup, OnOwnDisks}
pub use Rattle.group_engine.proofs.Causes.{not_mounted}
use Rattle.group_engine.proofs.Causes.{dead_lost, gone_lost, store_own, written_own}
use Rattle.group_engine.proofs.Commits.{all_done, all_whole, dropped_done, dropped_moments, fewer_whole, keeps_over_row, one_of, others_none, stored_moments}
use Rattle.group_engine.proofs.KeptRecords.{record_fewer, record_same, record_stays}
use Rattle.group_engine.proofs.Mounting.{still_ready}
use Rattle.group_engine.proofs.Turns.{fewer_copies, one_turn}
use Rattle.group_engine.proofs.Unchanged.{same_moments, same_mounts, same_whole}

-- ---- a dismounted group takes no calls

-- a call that ends with the group dismounted
pub keeps_dismounted : (was now new : MountedGroup) (s t : BayState) (slot : ℕ) (refusal : Refusal) → IsSameGroup was now → IsDismountedBy now slot refusal new → KeepsAttached s t
    → Runs (IsOwn was) (OnOwnDisks was) s t → KeepsGroup was new s t
keeps_dismounted was now new s t slot refusal same by attached runs = record {
  same = record {
    name = ap (λ (v : MountedGroup). v.name) by.new_is ∙ same.name;
    id = ap (λ (v : MountedGroup). v.register.id) by.new_is ∙ same.id;
    shape = ap (λ (v : MountedGroup). v.catalog.shape) by.new_is ∙ same.shape;
    members = ap (λ (v : MountedGroup). v.register.members) by.new_is ∙ same.members;
    disks = ap (λ (v : MountedGroup). v.disks) by.new_is ∙ same.disks;
    flight = ⊎_elim
        (λ goes. inl (ap (λ (v : MountedGroup). v.flight) by.new_is ∙ goes))
        (λ none. inr (ap (λ (v : MountedGroup). v.flight) by.new_is ∙ none))
        same.flight;
  };
  attached = attached;
  runs = runs;
  whole = λ mounted. absurd (out mounted);
  ready = λ mounted. absurd (out mounted);
}
  where
    out : IsMounted new → ⊥
    out mounted = not_mounted new by.number (ap (λ (v : MountedGroup). v.access) by.new_is) mounted

pub out_of_calls : (now new : MountedGroup) (slot : ℕ) (refusal : Refusal) → IsDismountedBy now slot refusal new → IsMounted new → ⊥
out_of_calls now new slot refusal by mounted = not_mounted new by.number (ap (λ (v : MountedGroup). v.access) by.new_is) mounted

-- a write keeps the id and the members of a register
pub id_same : (old new : Registered) (next : Status) (answer : Result ℕ Dead) → new ≡ after_write old next answer → new.id ≡ old.id
id_same old new next (Ok failed) is = ap (λ (r : Registered). r.id) is
id_same old new next (Err dead) is = ap (λ (r : Registered). r.id) is

pub members_same : (old new : Registered) (next : Status) (answer : Result ℕ Dead) → new ≡ after_write old next answer → new.members ≡ old.members
members_same old new next (Ok failed) is = ap (λ (r : Registered). r.members) is
members_same old new next (Err dead) is = ap (λ (r : Registered). r.members) is

-- ---- a commit

-- what did nothing isn't asked for less
pub idle_but : (old new : MountedGroup) (s t : BayState) (refusal : Refusal) → IsIdle old new s t → IsIdleBut old new s t refusal
idle_but old new s t (cause.Dismounted by) is = tt
idle_but old new s t other is = is

module _ (was : MountedGroup) (mounted : IsMounted was) (whole : IsWhole was) (put : List DirectoryRecord) (gone : List Key) (s t : BayState) (ready : IsReady was s) (new : Stored) (cat : Catalogued) where
  abbrev now : MountedGroup
  now = record was { catalog = cat; store = new }

  -- each copy took the change
  pub ends_all : (failed : ℕ) → failed ≡ 0 → CommitsRecords was.store new put gone (Ok failed) s t → AppliesChange was.catalog cat put gone → CommitsChange was put gone (Ok tt) now s t
  ends_all failed none commits applies =
      let copies : new.copies ≡ was.store.copies = commits.copies ∙ others_none failed was.store.copies none in
      let later : IsWhole now = all_whole was whole put gone s t new failed commits cat applies copies in
      record {
        keeps = record {
          same = record { name = refl; id = refl; shape = applies.shape; members = refl; disks = refl; flight = inl refl };
          attached = commits.attached;
          runs = store_own was whole commits.runs;
          whole = λ takes. later;
          ready = λ takes. still_ready was now s t refl refl commits.kept commits.attached ready;
        };
        flight = refl;
        status = record_stays was.register.value;
        mounted = mounted;
        applied = applies.after;
        cause = tt;
        moments = λ n g h kept to. stored_moments was put gone n s g h kept to t new (Ok failed) commits commits.after;
        done = λ n g h kept to. (
          kept,
          refl,
          all_done was put gone n s g h kept to t new (Ok failed) commits commits.after cat applies
              (one_after was.catalog.tables cat.tables to.tables put gone applies.after to.after) copies later,
        );
        refused = λ takes. tt;
        idle = tt;
        turns = omega (arith, ap length copies);
      }

  -- a record without the copies that failed was written
  module _ (failed : ℕ) (some : failed ≢ 0) (small : failed < 2 ^ 64) (commits : CommitsRecords was.store new put gone (Ok failed) s t) (applies : AppliesChange was.catalog cat put gone) (w : BayState) (sound : IsSound t)
      (answer : Result ℕ Dead) (reg : Registered) (writes : WritesFewer was.register failed answer reg t w) where
    abbrev next : Status
    next = record was.register.value { directories = writes.fewer }

    abbrev fewer : MountedGroup
    fewer = record was { catalog = cat; store = new; register = reg }

    abbrev attached : KeepsAttached s w
    attached = attached-trans commits.attached writes.written.calls.attached

    same_group : IsSameGroup was fewer
    same_group = record {
      name = refl;
      id = id_same was.register reg next answer writes.written.register;
      shape = applies.shape;
      members = members_same was.register reg next answer writes.written.register;
      disks = refl;
      flight = inl refl;
    }

    runs : Runs (IsOwn was) (OnOwnDisks was) s w
    runs = written_own was whole next answer reg (store_own was whole commits.runs) writes.written

    -- the turn of the record cost a copy
    fewer_turns : turns_at_most fewer ≤ turns_at_most was
    fewer_turns = omega (arith, fewer_copies failed was.store.copies s t some small commits.failed, ap length commits.copies, one_turn was.register reg next answer writes.written.register)

    record_kept : KeepsRecord was.register.value reg.value
    record_kept = record_fewer was.register reg failed answer t w writes

    pub ends_fewer : (taken : ℕ) → answer ≡ Ok taken → CommitsChange was put gone (Ok tt) fewer s w
    ends_fewer taken ok =
        let later : IsWhole fewer = fewer_whole was whole put gone s t new failed commits cat applies w answer reg writes taken ok in
        record {
          keeps = record {
            same = same_group;
            attached = attached;
            runs = runs;
            whole = λ takes. later;
            ready = λ takes. still_ready was fewer s w same_group.members refl (keeps_over_row was new next t w answer reg writes.written commits.kept) attached ready;
          };
          flight = refl;
          status = record_kept;
          mounted = mounted;
          applied = applies.after;
          cause = tt;
          moments = λ n g h kept to. dropped_moments was put gone n s g h kept to t new (Ok failed) commits commits.after failed commits.copies (one_of new.copies commits.some) w sound answer reg writes cat applies
              (one_after was.catalog.tables cat.tables to.tables put gone applies.after to.after);
          done = λ n g h kept to. dropped_done was put gone n s g h kept to t new (Ok failed) commits commits.after failed commits.copies (one_of new.copies commits.some) w sound answer reg writes cat applies
              (one_after was.catalog.tables cat.tables to.tables put gone applies.after to.after) taken ok later;
          refused = λ takes. tt;
          idle = tt;
          turns = fewer_turns;
        }

    -- a majority was lost at that record
    pub ends_dead : (dead : Dead) (refusal : Refusal) (after : MountedGroup) → answer ≡ Err dead → IsDismountedBy fewer dead.slot refusal after → CommitsChange was put gone (Err refusal) after s w
    ends_dead dead refusal after is by =
        let lost : IsLostIn was after.register.value by.number s w = dead_lost was whole after.register.value s t w next answer dead by.number commits.runs.faults is writes.written.answer by.found in
        record {
          keeps = keeps_dismounted was fewer after s w dead.slot refusal same_group by attached runs;
          flight = ap (λ (v : MountedGroup). v.flight) by.new_is;
          status = subst (λ (v : MountedGroup). KeepsRecord was.register.value v.register.value) (sym by.new_is) record_kept;
          mounted = tt;
          applied = tt;
          cause = subst (λ (x : Refusal). CommitCause was put after s w x) (sym by.refusal_is) (inr (ap (λ (v : MountedGroup). v.access) by.new_is, lost));
          moments = λ n g h kept to. dropped_moments was put gone n s g h kept to t new (Ok failed) commits commits.after failed commits.copies (one_of new.copies commits.some) w sound answer reg writes cat applies
              (one_after was.catalog.tables cat.tables to.tables put gone applies.after to.after);
          done = tt;
          refused = λ takes. absurd (out_of_calls fewer after dead.slot refusal by takes);
          idle = subst (λ (x : Refusal). IsIdleBut was after s w x) (sym by.refusal_is) tt;
          turns = subst (λ (v : MountedGroup). turns_at_most v ≤ turns_at_most was) (sym by.new_is) fewer_turns;
        }

  -- all copies failed
  pub ends_gone : (slot : ℕ) (refusal : Refusal) (after : MountedGroup) → CommitsRecords was.store new put gone (Err (Gone slot)) s t → IsAsBefore was.catalog cat → IsDismountedBy now slot refusal after
      → CommitsChange was put gone (Err refusal) after s t
  ends_gone slot refusal after commits before by =
      let lost : IsLostIn was after.register.value by.number s t = subst (λ (r : Status). IsLostIn was r by.number s t) (sym (ap (λ (v : MountedGroup). v.register.value) by.new_is))
      (gone_lost was whole ready.register.apart s t slot by.number commits.refused.0 commits.refused.1 by.found) in
      record {
        keeps = keeps_dismounted was now after s t slot refusal (record { name = refl; id = refl; shape = before.shape; members = refl; disks = refl; flight = inl refl }) by
            commits.attached (store_own was whole commits.runs);
        flight = ap (λ (v : MountedGroup). v.flight) by.new_is;
        status = record_same was.register.value after.register.value (ap (λ (v : MountedGroup). v.register.value) by.new_is);
        mounted = tt;
        applied = tt;
        cause = subst (λ (x : Refusal). CommitCause was put after s t x) (sym by.refusal_is) (inr (ap (λ (v : MountedGroup). v.access) by.new_is, lost));
        moments = λ n g h kept to. stored_moments was put gone n s g h kept to t new (Err (Gone slot)) commits commits.after_gone;
        done = tt;
        refused = λ takes. absurd (out_of_calls now after slot refusal by takes);
        idle = subst (λ (x : Refusal). IsIdleBut was after s t x) (sym by.refusal_is) tt;
        turns = subst (λ (v : MountedGroup). turns_at_most v ≤ turns_at_most was) (sym by.new_is) (omega (arith, ap length commits.refused.2));
      }

  -- nothing was done
  module _ (error : StoreError) (commits : CommitsRecords was.store new put gone (Err error) s t) (unchanged : IsUnchanged was.store new s t) (before : IsAsBefore was.catalog cat) where
    pub ends_unchanged : (refusal : Refusal) → CommitCause was put now s t refusal → CommitsChange was put gone (Err refusal) now s t
    ends_unchanged refusal why = record {
      keeps = record {
        same = record { name = refl; id = refl; shape = before.shape; members = refl; disks = refl; flight = inl refl };
        attached = commits.attached;
        runs = store_own was whole commits.runs;
        whole = λ takes. same_whole was s t cat new before unchanged whole;
        ready = λ takes. still_ready was now s t refl refl commits.kept commits.attached ready;
      };
      flight = refl;
      status = record_stays was.register.value;
      mounted = tt;
      applied = tt;
      cause = why;
      moments = λ n g h kept to. same_moments n was s t g kept to.mounts unchanged.calls.runs h;
      done = tt;
      refused = λ takes n g kept mounts. same_mounts n was s t g kept mounts unchanged.calls.runs cat new before unchanged commits.kept commits.attached;
      idle = idle_but was now s t refusal (record { catalog = before; copies = unchanged.copies; register = refl; access = refl; calls = unchanged.calls });
      turns = omega (arith, ap length unchanged.copies);
    }
