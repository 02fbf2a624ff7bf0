use Rattle.std.proofs.Common.{◌≡◌, ◌≤◌, ◌+◌, ◌++◌, length}
use Rattle.status_register.specs.Holders.{holders_below}
use Rattle.status_register.proofs.holders.attached_to.Given as goal

abbrev pub invariant-loop-disk : goal.invariant-loop-disk
invariant-loop-disk l = record {
  list : l.list ++ holders_below l.places l.status l.disk ≡ holders_below l.places l.status 64;
  room : length l.list + l.disk ≤ 64;
}
