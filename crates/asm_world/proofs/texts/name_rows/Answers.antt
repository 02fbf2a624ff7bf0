use Rattle.std.proofs.Common.{refl}
use Rattle.std.specs.Fmt.{digits}
use Rattle.asm_world.proofs.texts.name_rows.Goals as goal

pub returns : goal.returns
unfolding digits
returns c = record { usual = refl; long_group = refl; file = refl; next = refl; volume = refl }
