use Rattle.std.proofs.Common.{false, get_or, refl, subst, Bool}
use Rattle.std.proofs.lemmas.List.{get_or_default}
use Rattle.disk_modes.specs.declared.dropping.DropDisk.{DropDisk}
use Rattle.disk_modes.specs.Causes.{IsStateOf}
use Rattle.disk_modes.specs.Modes.{drop_as}
use Rattle.disk_modes.specs.Stops.{TakesDisk}
use Rattle.disk_modes.proofs.Checked.{all_taken_as, none_taken, one_taken}
use Rattle.disk_modes.proofs.dropping.check_named.Goals as goal

pub loop-one-init : goal.loop-one-init
loop-one-init c = none_taken c.args.m.now c.args.named.now.forced c.args.disks.now

pub loop-one-preserved : goal.loop-one-preserved
loop-one-preserved c =
    let none : DropDisk = record { disk = 0; force = false } in
    let i = c.loop-one.one-index in
    let x = get_or c.args.disks.now i none in
    one_taken c.args.m.now c.args.named.now.forced c.args.disks.now i none x c.loop-one-test.true refl c.loop-one.invariant
    (subst (λ (b : Bool). TakesDisk (drop_as b) x.disk c.args.m.now.register.value.entries) c.has.ensures c.in-Ok.ensures.taken)

pub returns-clause-taken : goal.returns-clause-taken
returns-clause-taken c = all_taken_as c.args.m.now c.args.named.now.forced c.args.disks.now c.loop-one.one-index c.loop-one-test.false c.loop-one.invariant

pub returns-in-Err-clause-cause : goal.returns-in-Err-clause-cause
returns-in-Err-clause-cause c =
    let none : DropDisk = record { disk = 0; force = false } in
    let x = get_or c.args.disks.now c.loop-one.one-index none in
    record {
      at = c.loop-one.one-index;
      below = c.loop-one-test.true;
      one = x;
      is = get_or_default c.args.disks.now c.loop-one.one-index none x c.loop-one-test.true;
      earlier = c.loop-one.invariant;
      cause = subst (λ (b : Bool). IsStateOf (drop_as b) x.disk c.args.m.now.register.value.entries c.in-Err.refusal) c.has.ensures c.in-Err.ensures.cause;
    }
