use Rattle.std.proofs.Common.{◌≡◌, ◌∙◌, length, sym, ap, arith}
use Rattle.group_engine.specs.Mounts.{MountedGroup}
use Rattle.group_engine.proofs.MayGet.{have_births}
use Rattle.group_engine.proofs.mounted.Mounted.has_births.Goals as goal

pub returns : goal.returns
returns c =
    let all : length c.args.self.now.register.members ≡ 64 = ap (λ (v : MountedGroup). length v.register.members) (sym c.self.view_is) ∙ c.member-place.ensures.all in
    have_births c.args.next.now c.args.self.now.register.members all (λ d lt. c.loop-disk.invariant d (omega (arith, lt, c.loop-disk-test.false)))
