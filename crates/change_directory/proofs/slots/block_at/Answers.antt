use Rattle.std.proofs.Common.{◌≡◌, ◌+◌, ◌-◌, ◌*◌, ℕ, take, drop, ap, ◌∙◌, arith}
use Rattle.change_directory.proofs.slots.block_at.Goals as goal

pub returns : goal.returns
returns c =
    let n : c.args.i * 4096 + 4096 - c.args.i * 4096 ≡ 4096 = omega arith in
    c.copy_from_slice.ensures.after ∙ ap (λ (m : ℕ). take m (drop (c.args.i * 4096) c.args.bytes.now)) n
