use Rattle.std.proofs.Common.{◌≡◌, length}
use Rattle.asm_grammar.specs.Reads.{items_from}
use Rattle.asm_world.specs.Meaning.{new_disk_of}
use Rattle.asm_world.specs.Grammar as g
use Rattle.group_sql.proofs.disks.more_disks.Given as goal

abbrev pub invariant-loop-alloc : goal.invariant-loop-alloc
invariant-loop-alloc l = items_from g.disk new_disk_of 44 l.disks l.place.rest.now l.place.left ≡ items_from g.disk new_disk_of 44 l.initial.disks l.initial.place.rest.now l.initial.place.left

abbrev pub decreases-loop-alloc : goal.decreases-loop-alloc
decreases-loop-alloc l = length l.place.rest.now
