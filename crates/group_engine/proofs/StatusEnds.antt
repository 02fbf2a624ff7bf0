-- What the writing of a status record has done, at each of its ends.
use Rattle.std.proofs.Common.{◌≡◌, inl, inr, ℕ, ◌+◌, ◌≤◌, [], ◌∷◌, refl, sym, ap, subst, ◌∙◌, Result, Ok, Err, arith}
use Rattle.bay.specs.State.{BayState, IsSound}
use Rattle.bay.specs.Moments.{Runs}
use Rattle.bay.proofs.Calls.{leaves_begin}
use Rattle.refusal_lines.specs.declared.refusal.Refusal.{Refusal}
use Rattle.refusal_lines.specs.declared.refusal.Refusal.TheVariants as cause
use Rattle.asm_formats.specs.Status.{Status}
use Rattle.rebalance.specs.catalog_tables.Placing.{HasUnits, HaveSameUnits}
use Rattle.rebalance.specs.catalog_tables.Tables.{Catalogued}
use Rattle.directory_store.specs.Answers.{IsUnchanged}
use Rattle.directory_store.specs.Stores.{Stored}
use Rattle.directory_store.specs.Stores as stores
use Rattle.directory_store.proofs.Storing.{no_calls}
use Rattle.status_register.specs.Registered.{Registered}
use Rattle.status_register.specs.Writes.{after_write}
use Rattle.status_register.specs.declared.error.Dead.{Dead}
use Rattle.group_engine.specs.Changes.{IsAsBefore}
use Rattle.group_engine.specs.Commits.{IsDismountedBy, IsLostIn, StatusCause, turns_at_most}
use Rattle.status_register.specs.RegisterCalls.{HasWritten}
use Rattle.group_engine.specs.Forgetting.{KeepsNamed}
use Rattle.group_engine.specs.Mounts.{IsMounted, IsOwn, IsReady, IsWhole, MountedGroup}
use Rattle.group_engine.specs.Own.{IsSameGroup, OnOwnDisks}
use Rattle.group_engine.specs.Statuses.{IsNextOf, WritesStatus}
use Rattle.group_engine.proofs.Causes.{dead_lost, nothing_own, written_own}
use Rattle.group_engine.proofs.Ends.{id_same, keeps_dismounted, members_same, out_of_calls}
use Rattle.group_engine.proofs.Mounting.{still_ready}
use Rattle.group_engine.proofs.Standings.{stands_at_rest}
use Rattle.group_engine.proofs.Statuses.{status_done, status_moments, status_whole}
use Rattle.group_engine.proofs.Turns.{one_turn}
use Rattle.group_engine.proofs.Unchanged.{same_mounts, same_whole}

module _ (was : MountedGroup) (mounted : IsMounted was) (whole : IsWhole was) (next : Status) (s : BayState) (ready : IsReady was s) (cat : Catalogued) where
  -- there was no memory
  pub ends_without : IsAsBefore was.catalog cat → WritesStatus was next (Err cause.NoMemory) (record was { catalog = cat }) s s
  ends_without before =
      let unchanged : IsUnchanged was.store was.store s s = record { table = record { records = λ k. refl; places = λ k. refl; free = λ k. refl; units = refl; count = refl }; number = refl; copies = refl; due = refl; calls = no_calls s } in
      record {
        keeps = record {
          same = record { name = refl; id = refl; shape = before.shape; members = refl; disks = refl; flight = inl refl };
          attached = record { same = λ k. refl };
          runs = nothing_own was s;
          whole = λ takes. same_whole was s s cat was.store before unchanged whole;
          ready = λ takes. ready_same;
        };
        flight = refl;
        tables = before.tables;
        units = λ same. before.units;
        mounted = tt;
        recorded = tt;
        cause = tt;
        moments = λ n g kept gets. leaves_begin (record { now = λ image left. stands_at_rest n was.register.id (g ∷ []) kept image gets.mounts.begun (gets.mounts.now.now image left) });
        done = tt;
        refused = λ takes n g kept mounts. same_mounts n was s s g kept mounts unchanged.calls.runs cat was.store before unchanged mounts.ready.store (record { same = λ k. refl });
        turns = omega arith;
      }
    where
      ready_same : IsReady (record was { catalog = cat }) s
      ready_same = record { store = ready.store; register = ready.register; sizes = ready.sizes }

  module _ (is_next : IsNextOf was next) (t : BayState) (sound : IsSound s) (answer : Result ℕ Dead) (reg : Registered) (written : HasWritten was.register next answer reg s t) (tables : cat.tables ≡ was.catalog.tables)
      (shape : cat.shape ≡ was.catalog.shape) (maps : HaveSameUnits was.register.value.entries next.entries → cat.units ≡ was.catalog.units) where
    abbrev now : MountedGroup
    now = record was { catalog = cat; register = reg }

    same_group : IsSameGroup was now
    same_group = record {
      name = refl;
      id = id_same was.register reg next answer written.register;
      shape = shape;
      members = members_same was.register reg next answer written.register;
      disks = refl;
      flight = inl refl;
    }

    runs : Runs (IsOwn was) (OnOwnDisks was) s t
    runs = written_own was whole next answer reg (nothing_own was s) written

    -- it is complete
    pub ends_written : (taken : ℕ) → answer ≡ Ok taken → HasUnits cat.shape next.entries cat.tables cat.units → (new : Stored) → KeepsNamed was.store new was.disks next.directories 64 → stores.Keeps new t
        → WritesStatus was next (Ok tt) (record was { catalog = cat; store = new; register = reg }) s t
    ends_written taken ok units new left keeps =
        let then : MountedGroup = record was { catalog = cat; store = new; register = reg } in
        let later : IsWhole then = status_whole was whole next is_next s t ready answer reg written taken ok cat tables shape units new left in
        record {
          keeps = record {
            same = record { name = refl; id = same_group.id; shape = shape; members = same_group.members; disks = refl; flight = inl refl };
            attached = written.calls.attached;
            runs = runs;
            whole = λ takes. later;
            ready = λ takes. still_ready was then s t same_group.members refl keeps written.calls.attached ready;
          };
          flight = refl;
          tables = tables;
          units = maps;
          mounted = mounted;
          recorded = ap (λ (x : Registered). x.value) written.register ∙ ap (λ (a : Result ℕ Dead). (after_write was.register next a).value) ok;
          cause = tt;
          moments = λ n g kept gets. status_moments n was next s t sound g kept gets answer reg written;
          done = λ n g kept gets. status_done n was next s t sound g kept gets answer reg written taken ok cat tables shape new keeps later;
          refused = λ takes. tt;
          turns = omega (arith, left.many, one_turn was.register reg next answer written.register);
        }

    -- a majority was lost
    pub ends_lost : (dead : Dead) (refusal : Refusal) (after : MountedGroup) → answer ≡ Err dead → IsDismountedBy now dead.slot refusal after → WritesStatus was next (Err refusal) after s t
    ends_lost dead refusal after is by =
        let lost : IsLostIn was after.register.value by.number s t = dead_lost was whole after.register.value s s t next answer dead by.number (λ k. omega arith) is written.answer by.found in
        record {
          keeps = keeps_dismounted was now after s t dead.slot refusal same_group by written.calls.attached runs;
          flight = ap (λ (v : MountedGroup). v.flight) by.new_is;
          tables = ap (λ (v : MountedGroup). v.catalog.tables) by.new_is ∙ tables;
          units = λ same. ap (λ (v : MountedGroup). v.catalog.units) by.new_is ∙ maps same;
          mounted = tt;
          recorded = tt;
          cause = subst (λ (x : Refusal). StatusCause was after s t x) (sym by.refusal_is) (inr (ap (λ (v : MountedGroup). v.access) by.new_is, lost));
          moments = λ n g kept gets. status_moments n was next s t sound g kept gets answer reg written;
          done = tt;
          refused = λ takes. absurd (out_of_calls now after dead.slot refusal by takes);
          turns = subst (λ (v : MountedGroup). turns_at_most v ≤ turns_at_most was + 1) (sym by.new_is) (omega (arith, one_turn was.register reg next answer written.register));
        }
