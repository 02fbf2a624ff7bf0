-- Turns of a mounted group don't run out.
use Rattle.std.proofs.Common.{ℕ, ◌+◌, ◌<◌, ◌≤◌, ◌^◌, List, not, ap, refl, arith}
use Rattle.std.proofs.lemmas.List.Filters.{length-filter_both}
use Rattle.asm_formats.specs.Status.{Entry}
use Rattle.asm_formats.proofs.Sizes.{are_small}
use Rattle.asm_placement.specs.Modes.{serves}
use Rattle.mounted_groups.specs.group_engine.Commits.{KeepsRecord, turns_at_most}
use Rattle.mounted_groups.specs.group_engine.Mounts.{IsWhole, MountedGroup}
use Rattle.mounted_groups.specs.group_engine.Pending.{OutlastsFaults, serving_in}

-- at most 64 disks serve
few_serve : (m : MountedGroup) → IsWhole m → serving_in m.register.value.entries ≤ 64
few_serve m whole =
    let all = length-filter_both (λ (e : Entry). serves e.mode) (λ (e : Entry). not (serves e.mode)) (λ e. refl) m.register.value.entries in
    omega (arith, all, are_small.entries m.register.value whole.status)

pub few_turns : (m : MountedGroup) (most : ℕ) → IsWhole m → turns_at_most m ≤ most → most + 65 < 2 ^ 64 → OutlastsFaults m
few_turns m most whole turns few = omega (arith, turns, few, few_serve m whole)

-- a commit takes no turn that wasn't counted
pub turns_later : (old new : MountedGroup) → KeepsRecord old.register.value new.register.value → turns_at_most new ≤ turns_at_most old → OutlastsFaults old → OutlastsFaults new
turns_later old new status fewer turns = omega (arith, turns, fewer, ap (λ (entries : List Entry). serving_in entries) status.entries)
