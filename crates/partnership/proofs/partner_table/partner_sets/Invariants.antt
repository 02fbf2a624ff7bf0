use Rattle.std.proofs.Common.{◌≡◌, take, map}
use Rattle.asm_formats.specs.Status.{Entry}
use Rattle.asm_placement.specs.Partners.{partner_set}
use Rattle.partnership.proofs.partner_table.partner_sets.Given as goal

abbrev pub invariant-loop-disk : goal.invariant-loop-disk
invariant-loop-disk l = l.sets ≡ map (λ (e : Entry). partner_set l.disks e.number) (take l.disk-index l.disks)
