-- The commit of a change that a plan gave isn't refused as full.
use Rattle.std.proofs.Common.{◌<◌, ◌≤◌, ℕ, List, length, map, sym, ◌∙◌, arith, Result, Ok, Err}
use Rattle.std.specs.Prelude.{IfErr}
use Rattle.std.specs.List.Sorted.{IsStrictlySortedBy}
use Rattle.bay.specs.State.{BayState}
use Rattle.asm_formats.specs.Items.{Key}
use Rattle.asm_base.specs.Records.{DirectoryRecord, key_cmp}
use Rattle.refusal_lines.specs.declared.refusal.Refusal.{Refusal}
use Rattle.refusal_lines.specs.declared.refusal.Refusal.TheVariants as cause
use Rattle.directory_store.specs.page_map.Listing.{key_of_place}
use Rattle.directory_store.specs.page_map.Tables.{new_in, room}
use Rattle.rebalance.specs.catalog_laws.Blocks.{PlansHaveRoom}
use Rattle.rebalance.specs.catalog.Plans.{IsPlan}
use Rattle.rebalance.specs.catalog_tables.Tables.{Tables}
use Rattle.group_engine.specs.Commits.{CommitCause, IsFull, StatusCause}
use Rattle.group_engine.specs.Mounts.{IsReady, IsWhole, MountedGroup, Takes}
use Rattle.group_engine.proofs.Commits.{one_of}

module _ (old : MountedGroup) (put : List DirectoryRecord) (gone : List Key) (u : Tables) (s : BayState) (have_room : PlansHaveRoom) (takes : Takes old s)
    (ordered : IsStrictlySortedBy key_cmp (map key_of_place old.store.table.places)) (plan : IsPlan old.catalog put gone u) where
  fits : IsWhole old → IsReady old s → 0 < length old.store.copies → new_in old.store.table put ≤ room old.store.table
  fits whole ready some =
      let c = one_of old.store.copies some in
      let units = sym (ready.store.pages c.0 c.1) ∙ (whole.copies.each c.0 c.1).pages in
      have_room old.catalog old.store.table put gone u (record { tables = whole.are_tables; is_table = ready.store.table; ordered = ordered; records = whole.tables }) units plan

  never_full : (need free : ℕ) → IsFull old put need free → ⊥
  never_full need free full =
      let both = takes full.mounted in
      let enough = fits both.0 both.1 full.copies in
      let need_is = full.need_is in
      let free_is = full.free_is in
      let few = full.few in
      omega (arith, enough, need_is, free_is, few)

  -- so it is refused as a status record is
  pub planned_cause : (new : MountedGroup) (t : BayState) (refusal : Refusal) → CommitCause old put new s t refusal → StatusCause old new s t refusal
  planned_cause new t (cause.DirectoryFull need free) why = absurd (never_full need free why)
  planned_cause new t (cause.Dismounted by) why = why
  planned_cause new t cause.NoMemory why = tt
  planned_cause new t other why = absurd why

  pub planned_answer : {A : Type 0} (new : MountedGroup) (t : BayState) (answer : Result A Refusal) → IfErr answer (CommitCause old put new s t) → IfErr answer (StatusCause old new s t)
  planned_answer new t (Ok x) why = tt
  planned_answer new t (Err refusal) why = planned_cause new t refusal why
