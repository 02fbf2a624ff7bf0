use Rattle.std.proofs.Common.{refl}
use Rattle.asm_group.specs.Names.{is_part}
use Rattle.asm_world.proofs.texts.path_rows.Goals as goal

pub returns : goal.returns
unfolding is_part
returns c = record { top = refl; group = refl; below = refl; parent = refl; above_top = refl; from_top = refl; printed = refl; printed_top = refl; clause = refl; another_group = refl; no_path = refl; outside = refl; absolute = refl; inside = refl; starred = refl; all = refl; other = refl }
