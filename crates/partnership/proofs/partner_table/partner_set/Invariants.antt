use Rattle.std.proofs.Common.{◌≡◌}
use Rattle.partnership.specs.Tables.{partners_from}
use Rattle.partnership.proofs.partner_table.partner_set.Given as goal

abbrev pub invariant-loop-k : goal.invariant-loop-k
invariant-loop-k l = l.bits ≡ partners_from l.table l.d l.k
