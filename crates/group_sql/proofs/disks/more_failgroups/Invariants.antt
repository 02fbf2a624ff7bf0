use Rattle.std.proofs.Common.{◌≡◌, length}
use Rattle.group_sql.specs.Choices.{failgroups_after}
use Rattle.group_sql.proofs.disks.more_failgroups.Given as goal

abbrev pub invariant-loop-group : goal.invariant-loop-group
invariant-loop-group l = failgroups_after l.groups l.place.rest.now l.place.left ≡ failgroups_after l.initial.groups l.initial.place.rest.now l.initial.place.left

abbrev pub decreases-loop-group : goal.decreases-loop-group
decreases-loop-group l = length l.place.rest.now
