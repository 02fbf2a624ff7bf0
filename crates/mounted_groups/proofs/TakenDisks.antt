-- The disks of a group that is taken over are those that were found of its id.
use Rattle.std.proofs.Common.{◌≡◌, ℕ, List, sym, ap, ◌∙◌, Some}
use Rattle.bay.specs.State.{BayState}
use Rattle.asm_group.specs.Names.{Bytes}
use Rattle.group_engine.specs.Mounts.{MountedGroup, slot_at}
use Rattle.group_recovery.specs.Recovering.{ArePartsOf}
use Rattle.group_recovery.specs.declared.quorum.MountOption.{MountOption}
use Rattle.group_recovery.specs.declared.quorum.Quorate.{Quorate}
use Rattle.group_recovery.specs.declared.recovering.Parts.{Parts}
use Rattle.mounted_groups.specs.Clearing.{IsFoundSlot}
use Rattle.mounted_groups.specs.Mounting.{IsTakenOver, mounted_of}
use Rattle.mounted_groups.proofs.Drops.{have_headers}
use Rattle.mounted_groups.proofs.Held.{found_member}
use Rattle.mounted_groups.proofs.MountedParts.{parts_ready, parts_whole}

parts_found : (q : Quorate) (now : ℕ) (parts : Parts) (t : BayState) → ArePartsOf q now parts t → (d slot : ℕ) → slot_at (mounted_of parts).disks d ≡ Some slot → IsFoundSlot q slot
parts_found q now parts t are d slot at =
    let own = (have_headers (mounted_of parts) t (parts_whole q now parts t are) (parts_ready q now parts t are)).own d slot at in
    let placed = are.register.members own.0 own.1 own.2 in
    let found = found_member q.id q.headed.items own.1 placed.among in
    (found.0, found.1, found.2, sym (own.3 ∙ found.3))

pub taken_found : {B : Type 0} (state : B → BayState) (name : Bytes) (n : ℕ) (held : List ℕ) (option : MountOption) (now : ℕ) (m : MountedGroup) (set : ℕ) (s t : BayState)
    (taken : IsTakenOver state name n held option now m set s t) (d slot : ℕ) → slot_at m.disks d ≡ Some slot → IsFoundSlot taken.was.quorum slot
taken_found state name n held option now m set s t taken d slot at =
    parts_found taken.was.quorum now taken.parts t taken.are d slot (sym (ap (λ (k : MountedGroup). slot_at k.disks d) taken.group) ∙ at)
