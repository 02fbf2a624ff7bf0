-- Which modes statements on disks take.
use Rattle.std.specs.Prelude.{◌≡◌, ℕ, ◌<◌, ◌&&◌, Bool, true, false, not, find, List, Option, Some}
use Rattle.asm_group.specs.declared.GroupKind.{GroupKind}
use Rattle.asm_group.specs.declared.GroupKind.TheVariants as kind
use Rattle.asm_group.specs.declared.Mode.{Mode}
use Rattle.refusal_lines.specs.declared.refusal.DiskRef.{DiskRef}
use Rattle.refusal_lines.specs.declared.refusal.DiskRef.TheVariants as disk
use Rattle.refusal_lines.specs.declared.refusal.Refusal.{Refusal}
use Rattle.refusal_lines.specs.declared.refusal.Refusal.TheVariants as cause
use Rattle.asm_formats.specs.Among.{IsAmong}
use Rattle.asm_formats.specs.Sets.{has_bit}
use Rattle.asm_formats.specs.Status.{Entry, Status}
use Rattle.asm_placement.specs.Modes.{is_forced, is_online, serves}
use Rattle.group_reports.specs.extent_copies.NewFiles.{serving_groups}
use Rattle.disk_modes.specs.declared.checking.Statement.{Statement}
use Rattle.disk_modes.specs.declared.checking.Statement.TheVariants as statement

-- the statement takes disks of this mode
abbrev pub takes : Statement → Mode → Bool
takes statement.Offline m = is_online m
takes statement.Drop m = is_online m
takes statement.Force m = not (is_forced m)
takes statement.Resize m = serves m

-- a disk is dropped with FORCE or without it
abbrev pub drop_as : Bool → Statement
drop_as true = statement.Force
drop_as false = statement.Drop

-- the first disk of the set whose mode the statement doesn't take
abbrev pub other : Statement → ℕ → List Entry → Option Entry
other of disks es = find (λ (e : Entry). has_bit disks e.number && not (takes of e.mode)) es

-- the statement takes each disk of the set
abbrev pub TakesEachDisk : Statement → ℕ → List Entry → Type 0
TakesEachDisk of disks es = (e : Entry) → IsAmong es e → has_bit disks e.number ≡ true → takes of e.mode ≡ true

-- the entry is there, and has this disk and this mode
abbrev pub IsState : Option Entry → DiskRef → Mode → Type 0
IsState o by mode = (e : Entry) × (o ≡ Some e) × (by ≡ disk.Number e.number) × (mode ≡ e.mode)

-- refused by the mode of the first disk of the set that the statement doesn't take
abbrev pub ModeStateCause : Statement → ℕ → List Entry → Refusal → Type 0
ModeStateCause of disks es (cause.DiskState by mode) = IsState (other of disks es) by mode
ModeStateCause of disks es _ = ⊥

-- ---- failure groups

-- the regular failure groups that a group of the kind needs
abbrev pub groups_needed : GroupKind → ℕ
groups_needed kind.External = 1
groups_needed kind.Normal = 2
groups_needed kind.High = 3

-- refused, since a record leaves fewer regular failure groups with a disk that stays
abbrev pub GroupsCause : GroupKind → Status → Refusal → Type 0
GroupsCause k next (cause.TooFewGroups need have) = (need ≡ groups_needed k) × (have ≡ serving_groups next.entries) × (have < need)
GroupsCause k next _ = ⊥
