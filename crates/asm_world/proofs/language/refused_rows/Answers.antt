use Rattle.std.proofs.Common.{refl}
use Rattle.asm_world.proofs.language.refused_rows.Goals as goal

pub returns : goal.returns
returns c = record { add_alone = refl; no_keyword = refl; unfinished_keyword = refl; wrong_keyword = refl; long_name = refl; too_great = refl; too_great_in_all = refl; open_quote = refl; behind_the_end = refl; bad_byte = refl; each_front = refl; each_front_of_creation = refl }
