use Rattle.std.proofs.Common.{◌∙◌, sym, arith}
use Rattle.status_table.specs.Changes.{least_free_failgroup}
use Rattle.status_table.proofs.Inserted.{last_free, tried_more}
use Rattle.status_table.proofs.entries.least_free_failgroup.Goals as goal

pub loop-number-preserved : goal.loop-number-preserved
loop-number-preserved c = record {
  so_far = tried_more c.entries-entries.result.now c.loop-number.number (least_free_failgroup c.entries-entries.result.now) c.loop-number-test.true (sym c.has_failgroup.ensures ∙ c.if-not-has_failgroup.false) c.loop-number.invariant.so_far;
}

pub returns-clause-free : goal.returns-clause-free
returns-clause-free c = last_free c.args.status.now.entries c.entries-entries.result.now c.loop-number.number c.entries-entries.ensures.entries (omega (arith, c.loop-number-test.false)) (omega (arith, c.loop-number.auto.number-end)) c.loop-number.invariant.so_far
