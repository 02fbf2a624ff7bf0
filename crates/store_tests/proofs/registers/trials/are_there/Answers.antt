use Rattle.std.proofs.Common.{◌∙◌, sym}
use Rattle.status_register.specs.Surveys.{is_holder_there}
use Rattle.store_tests.proofs.Trying.{all_in_front, all_behind, all_held}
use Rattle.store_tests.proofs.registers.trials.are_there.Goals as goal

pub loop-disk-init : goal.loop-disk-init
loop-disk-init c = all_in_front (is_holder_there c.args.members.now) c.args.status.now.entries c.args.status.now.holders

pub loop-disk-preserved : goal.loop-disk-preserved
loop-disk-preserved c =
    all_behind (is_holder_there c.args.members.now) c.args.status.now.entries c.args.status.now.holders c.loop-disk.disk c.loop-disk-test.true (sym c.is_held.ensures ∙ c.if-not-is_held.false)
    ∙ c.loop-disk.invariant

pub returns : goal.returns
returns c = λ yes. all_held (is_holder_there c.args.members.now) c.args.status.now.entries c.args.status.now.holders c.loop-disk.disk c.loop-disk-test.false c.loop-disk.invariant
