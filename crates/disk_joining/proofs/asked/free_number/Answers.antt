use Rattle.std.proofs.Common.{sym, ◌∙◌}
use Rattle.disk_joining.specs.Asking.{free_number}
use Rattle.disk_joining.proofs.Numbers.{found_free, none_free, tried_more}
use Rattle.disk_joining.proofs.asked.free_number.Goals as goal

pub loop-number-preserved : goal.loop-number-preserved
loop-number-preserved c = record {
  so_far = tried_more c.args.status.now.entries 64 c.loop-number.number _ c.loop-number-test.true (sym c.has_entry.ensures ∙ c.if-not-has_entry.false) c.loop-number.invariant.so_far;
}

pub returns-then-not-has_entry-clause-value : goal.returns-then-not-has_entry-clause-value
unfolding free_number
returns-then-not-has_entry-clause-value c = found_free c.args.status.now.entries 64 c.loop-number.number _ c.loop-number-test.true (sym c.has_entry.ensures ∙ c.if-not-has_entry.true) c.loop-number.invariant.so_far

pub returns-clause-value : goal.returns-clause-value
unfolding free_number
returns-clause-value c = none_free c.args.status.now.entries 64 c.loop-number.number _ c.loop-number-test.false c.loop-number.invariant.so_far
