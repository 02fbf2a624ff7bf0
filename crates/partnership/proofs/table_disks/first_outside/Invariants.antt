use Rattle.std.proofs.Common.{◌≡◌, drop}
use Rattle.std.specs.Prelude.{find, not, ◌&&◌}
use Rattle.asm_formats.specs.Status.{Entry}
use Rattle.asm_placement.specs.Modes.{is_target}
use Rattle.asm_placement.specs.DiskSets.{distinct_failgroups, is_among}
use Rattle.partnership.proofs.table_disks.first_outside.Given as goal

abbrev pub invariant-loop-disk : goal.invariant-loop-disk
invariant-loop-disk l =
    find (λ (e : Entry). is_target e && not (is_among (distinct_failgroups l.holding) e.failgroup)) (drop l.disk-index l.disks)
    ≡ find (λ (e : Entry). is_target e && not (is_among (distinct_failgroups l.holding) e.failgroup)) l.disks
