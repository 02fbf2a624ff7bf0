use Rattle.std.proofs.Common.{inl, inr}
use Rattle.disk_modes.specs.Causes.{DropDisksCause, LeavesTooLittle}
use Rattle.disk_modes.proofs.Checked.{may_drop}
use Rattle.disk_modes.proofs.Steps.{on_err}
use Rattle.disk_modes.proofs.dropping.check_drop.Goals as goal

pub returns-in-Ok-clause-may : goal.returns-in-Ok-clause-may
returns-in-Ok-clause-may c = λ named.
    may_drop c.args.m.now c.args.disks.now c.args.named.now.dropping c.args.named.now.forced c.check_copies.result c.requires.status c.in-Ok.ensures.taken c.check_copies.ensures.left named

pub returns-in-Ok-clause-cause : goal.returns-in-Ok-clause-cause
returns-in-Ok-clause-cause c =
    let named = c.args.named.now in
    on_err (LeavesTooLittle c.args.m.now named.dropping named.forced) (DropDisksCause c.args.m.now c.args.disks.now named.dropping named.forced) c.check_copies.result (λ refusal why. inr why) c.check_copies.ensures.cause

pub returns-in-Err-clause-cause : goal.returns-in-Err-clause-cause
returns-in-Err-clause-cause c = inl c.in-Err.ensures.cause
