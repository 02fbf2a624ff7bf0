use Rattle.std.proofs.Common.{◌≡◌}
use Rattle.std.specs.List.{list_all}
use Rattle.asm_formats.specs.Following.{disks_of}
use Rattle.status_register.specs.Counting.{disks_from}
use Rattle.status_register.specs.Surveys.{is_holder_there}
use Rattle.store_tests.proofs.registers.trials.are_there.Given as goal

abbrev pub invariant-loop-disk : goal.invariant-loop-disk
invariant-loop-disk l =
    list_all (is_holder_there l.members) (disks_from l.status.entries l.status.holders l.disk) ≡ list_all (is_holder_there l.members) (disks_of l.status.entries l.status.holders)
