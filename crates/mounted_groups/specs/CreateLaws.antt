-- That a disk which is given the parts of a new group is a step of the world at every moment.
use Rattle.std.specs.Prelude.{ℕ, ◌*◌, ◌<◌, ◌≤◌}
use Rattle.bay.specs.Image.{Image}
use Rattle.mounted_groups.specs.Creating.{CreatesGroupOn, Founds, made_group}
use Rattle.mounted_groups.specs.Planned.{Plan, IsGroupPlan, kept_of_plan}
use Rattle.mounted_groups.specs.Stages.{MayForm, HasFormed}

-- While the disk is given its parts, the group is created, or no other group is touched.
abbrev pub FormingCreates : Type 0
FormingCreates =
    (slot : ℕ) (plan : Plan) (old new : Image) → IsGroupPlan plan → plan.units * 1048576 ≤ old.size slot
    → MayForm slot plan old new → CreatesGroupOn slot plan.id (made_group plan.name) old new

-- Once it has all of them, the group is there, with its record as the completed one, and with this disk as its only member.
abbrev pub FormedIsHeld : Type 0
FormedIsHeld =
    (slot slots : ℕ) (plan : Plan) (old new : Image) → IsGroupPlan plan → plan.units * 1048576 ≤ old.size slot
    → HasFormed slot plan old new → slot < slots → Founds slots plan.id (made_group plan.name) (kept_of_plan slot plan) old new
