use Rattle.std.proofs.Common.{◌≡◌, drop}
use Rattle.std.specs.Prelude.{fold}
use Rattle.partnership.specs.Tables.{met}
use Rattle.partnership.proofs.partner_table.add_pairs_of.Given as goal

abbrev pub invariant-loop-other : goal.invariant-loop-other
invariant-loop-other l = fold (met l.pass l.disk) l.table (drop l.other-index l.later) ≡ fold (met l.pass l.disk) l.fn.table l.later
