-- What the calls do by which the disk of a new group gets its parts.
use Rattle.std.specs.Prelude.{ℕ, [], Result, IfErr, IfOk, IsErrOf, OnOk}
use Rattle.bay.specs.Counts.{Rose}
use Rattle.bay.specs.Image.{Image, ChangesOnly}
use Rattle.bay.specs.Moments.{Ends, LeavesOnly, NowOnly, Runs}
use Rattle.bay.specs.State.{BayState, IsSlot, KeepsAttached}
use Rattle.bay.specs.declared.fault.BayError.{BayError}
use Rattle.bay.specs.declared.fault.BayError.TheVariants.{Fault}
use Rattle.refusal_lines.specs.declared.refusal.Refusal.{Refusal}
use Rattle.refusal_lines.specs.Refusals.{meaning_of}
use Rattle.change_directory.specs.StoreLaws.{RegionOf}
use Rattle.group_recovery.specs.directory_store.Stores.{Stored}
use Rattle.disk_forming.specs.Forming.{MetaOf}
use Rattle.mounted_groups.specs.Creating.{CreatesGroupOn, Founds, made_group}
use Rattle.mounted_groups.specs.FirstParts.{IsFirstStore, SaysAll}
use Rattle.mounted_groups.specs.Found.{counts_of}
use Rattle.mounted_groups.specs.Planned.{Plan, kept_of_plan}
use Rattle.mounted_groups.specs.Ready.{IsFormFault}
use Rattle.mounted_groups.specs.Stages.{HasAllParts, HasFirst, HasFormed, HasNoneOrFirst, IsForming, MayForm, first_copy}

-- Calls on the disk of a slot make the store of a new group.
pub record GivesStore (slot : ℕ) (plan : Plan) (step : Image → Image → Type 0) (result : Result Stored BayError) (s t : BayState) : Type 0 where
  -- the same disks stay attached, and this one alone changes, by the step
  pub attached : KeepsAttached s t
  pub runs : Runs (IsSlot slot) step s t
  -- the store has the new group's records on this copy, and takes commits
  pub store : IfOk result (λ store. IsFirstStore slot plan store t)
  -- they fail only where the slot failed, or for want of memory
  pub cause : IsErrOf result Fault → Rose (s.faults slot) (t.faults slot)

-- which bytes of a new group's disk change, what its images have at each moment of that, and what when it is done
pub record FormingStage : Type 1 where
  pub region : ℕ → ℕ → Type 0
  pub during : Image → Type 0
  pub after : Image → Type 0

-- the directory copy is made
abbrev pub directory_stage : ℕ → Plan → FormingStage
directory_stage slot plan = record { region = RegionOf (first_copy slot); during = HasNoneOrFirst slot plan; after = HasFirst slot plan }

-- all parts are given that come behind the header
abbrev pub rest_stage : ℕ → Plan → FormingStage
rest_stage slot plan = record { region = MetaOf slot 1024; during = IsForming slot plan; after = HasAllParts slot plan }

-- The disk goes through a stage.
pub record GivesStage (slot : ℕ) (plan : Plan) (stage : FormingStage) (result : Result Stored BayError) (s t : BayState) : Type 0 where
  pub gives : GivesStore slot plan (ChangesOnly stage.region) result s t
  pub moments : LeavesOnly s t stage.during
  pub done : OnOk result (NowOnly t stage.after)

-- The disk gets all its parts.
pub record GivesAll (slot : ℕ) (plan : Plan) (result : Result Stored BayError) (s t : BayState) : Type 0 where
  pub gives : GivesStore slot plan (MayForm slot plan) result s t
  pub done : OnOk result (Ends (HasFormed slot plan) s t)

-- The new group is formed on the disk of a slot, which is one of so many.
pub record FormsGroup (slot slots : ℕ) (plan : Plan) (result : Result Stored Refusal) (s t : BayState) : Type 0 where
  -- the same disks stay attached
  pub attached : KeepsAttached s t
  -- at each moment it is being created, and at Ok it is there
  pub runs : Runs (IsSlot slot) (CreatesGroupOn slot plan.id (made_group plan.name)) s t
  pub done : OnOk result (Ends (Founds slots plan.id (made_group plan.name) (kept_of_plan slot plan)) s t)
  pub says : OnOk result (NowOnly t (SaysAll slot plan))
  pub store : IfOk result (λ store. IsFirstStore slot plan store t)
  pub cause : IfErr result (λ refusal. IsFormFault slot plan.disk (meaning_of (λ _. []) refusal) (counts_of s) (counts_of t))
