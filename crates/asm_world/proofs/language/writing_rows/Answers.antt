use Rattle.std.proofs.Common.{refl}
use Rattle.std.specs.Fmt.{digits}
use Rattle.asm_world.proofs.language.writing_rows.Goals as goal

pub returns : goal.returns
unfolding digits
returns c = record { create = refl; drop = refl; drop_two = refl; set = refl; drop_group = refl; create_group = refl; add = refl; offline_after = refl; template = refl }
