use Rattle.std.proofs.Common.{◌≡◌, None, drop, length, replicate}
use Rattle.status_register.specs.Registered.{all_placed}
use Rattle.status_register.proofs.register.by_number.Given as goal

abbrev pub invariant-loop-member : goal.invariant-loop-member
invariant-loop-member l = record {
  places : all_placed l.entries l.places (drop l.member-index l.members) ≡ all_placed l.entries (replicate 64 None) l.members;
  all : length l.places ≡ 64;
}
