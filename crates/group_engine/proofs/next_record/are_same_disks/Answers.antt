use Rattle.std.proofs.Common.{◌≡◌, ◌∙◌, sym, ap, arith}
use Rattle.asm_formats.specs.Following.{disks_of}
use Rattle.group_engine.proofs.MayGet.{same_births}
use Rattle.group_engine.proofs.next_record.are_same_disks.Goals as goal

pub returns : goal.returns
returns c =
    let same : c.args.set ≡ c.args.other_set = sym c.bits.ensures.bits ∙ c.if-bits.false ∙ c.bits-2.ensures.bits in
    same_births c.args.one.now c.args.other.now c.args.set (λ d lt bit. c.loop-disk.invariant d (omega (arith, lt, c.loop-disk-test.false)) bit)
    ∙ ap (disks_of c.args.other.now) same
