use Rattle.std.proofs.Common.{refl}
use Rattle.asm_group.specs.Names.{is_part}
use Rattle.asm_world.proofs.texts.cause_rows.Goals as goal

pub returns : goal.returns
unfolding is_part
returns c = λ below. record { one_image = refl; high_needs_three = refl; path_twice = refl; statement_twice = refl; no_group = refl; no_group_at_top = refl; later = refl; dismount = refl; mount = refl; listing = refl }
