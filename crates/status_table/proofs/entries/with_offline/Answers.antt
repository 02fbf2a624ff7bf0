use Rattle.std.proofs.Common.{sym, subst, arith}
use Rattle.std.specs.Prelude.{IsTrue}
use Rattle.asm_formats.specs.Status.{Status, is_status}
use Rattle.status_table.proofs.Kept.{offline_keeps}
use Rattle.status_table.proofs.entries.with_offline.Goals as goal

pub returns-clause-kept : goal.returns-clause-kept
returns-clause-kept c = λ ok. subst (λ (r : Status). IsTrue (is_status r)) (sym c.with_change.ensures) (offline_keeps c.args.status.now c.args.disk c.args.since c.args.repair (omega (arith, c.ranges.since.fits)) (omega (arith, c.ranges.repair.fits)) ok)
