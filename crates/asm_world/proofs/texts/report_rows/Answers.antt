use Rattle.std.proofs.Common.{refl}
use Rattle.std.specs.Fmt.{digits}
use Rattle.asm_world.proofs.texts.report_rows.Goals as goal

pub returns : goal.returns
unfolding digits
returns c = record { control_file = refl; directory = refl; long_directory = refl; alias = refl; day = refl; small = refl; generated = refl; dismounted = refl; disk = refl; quorum_disk = refl; template = refl; attributes = refl; used = refl; checked = refl }
