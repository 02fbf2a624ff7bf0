use Rattle.std.proofs.Common.{sym, ◌∙◌, arith}
use Rattle.attribute_values.proofs.NumberLaws.{all_read}
use Rattle.attribute_values.proofs.number.number_of.Goals as goal

pub returns : goal.returns
returns c = all_read c.args.digits.now c.loop-b.b-index c.loop-b.number (sym c.is_empty.ensures ∙ c.if-is_empty.false) c.loop-b.invariant.small (omega arith) c.loop-b.invariant.read
