use Rattle.std.proofs.Common.{◌≡◌, drop, length}
use Rattle.mounted_groups.specs.Mounting.{by_number, put_disks}
use Rattle.mounted_groups.proofs.mount.by_number.Given as goal

abbrev pub invariant-loop-member : goal.invariant-loop-member
invariant-loop-member l = record {
  places : put_disks l.places (drop l.member-index l.disks) ≡ by_number l.disks;
  all : length l.places ≡ 64;
}
