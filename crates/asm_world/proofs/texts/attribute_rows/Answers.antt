use Rattle.std.proofs.Common.{refl}
use Rattle.asm_world.proofs.texts.attribute_rows.Goals as goal

pub returns : goal.returns
returns c = record { tenth_of_a_minute = refl; usual_time = refl; minutes = refl; hours = refl; too_long = refl; two_digits = refl; version = refl; version_alone = refl; other_version = refl; open_version = refl; usual = refl; last_holds = refl; eight_sectors = refl; replaced_value = refl }
