use Rattle.std.proofs.Common.{refl}
use Rattle.asm_group.specs.Names.{is_name, is_part}
use Rattle.asm_group.proofs.name_rows.Goals as goal

pub returns : goal.returns
unfolding is_name is_part
returns c = record { cases = refl; others = refl; thirty_bytes = refl; thirty_one = refl; digit_first = refl; part = refl; point_alone = refl }
