use Rattle.std.proofs.Common.{◌≡◌, drop}
use Rattle.std.specs.Prelude.{fold}
use Rattle.asm_placement.specs.Partners.{pairs, table_disks}
use Rattle.partnership.specs.Tables.{step}
use Rattle.partnership.proofs.partner_table.add_pairs.Given as goal

abbrev pub invariant-loop-i : goal.invariant-loop-i
invariant-loop-i l = fold (step l.pass) l.table (pairs (table_disks (drop l.i l.disks))) ≡ fold (step l.pass) l.fn.table (pairs (table_disks l.disks))
