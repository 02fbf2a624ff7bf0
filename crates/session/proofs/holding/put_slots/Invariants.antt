use Rattle.std.proofs.Common.{◌≡◌, ◌++◌, take}
use Rattle.session.specs.Sessions.{slots_in}
use Rattle.session.proofs.holding.put_slots.Given as goal

abbrev pub invariant-loop-disk : goal.invariant-loop-disk
invariant-loop-disk l = l.slots.items ≡ l.initial.slots.items ++ slots_in (take l.disk-index l.disks)
