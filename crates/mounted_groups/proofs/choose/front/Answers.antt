use Rattle.std.proofs.Common.{ℕ, take, ap, ◌∙◌, arith}
use Rattle.std.proofs.lemmas.List.{take_min}
use Rattle.mounted_groups.proofs.choose.front.Goals as goal

pub returns : goal.returns
returns c = ap (λ (n : ℕ). take n c.args.name.now) (omega (arith, c.min.ensures)) ∙ take_min 25 c.args.name.now
