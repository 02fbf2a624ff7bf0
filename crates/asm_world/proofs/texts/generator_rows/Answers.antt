use Rattle.std.proofs.Common.{refl}
use Rattle.std.specs.Fmt.{digits}
use Rattle.asm_world.proofs.texts.generator_rows.Goals as goal

pub returns : goal.returns
unfolding digits
returns c = record { commands = refl; first = refl; last_file = refl; fill_1 = refl; fill_2 = refl; fill_3 = refl; fill_500 = refl; fill_1000 = refl; between = refl; at_end = refl; fill_says = refl }
