use Rattle.std.proofs.Common.{refl}
use Rattle.std.specs.Fmt.{digits}
use Rattle.asm_group.proofs.refusal_rows.Goals as goal

pub returns : goal.returns
unfolding digits
returns c = record { no_space = refl; too_small = refl; too_many = refl; taken = refl; unused = refl }
