-- The worked values, computed.
use Rattle.std.proofs.Common.{refl}
use Rattle.asm_formats.specs.Sets.{has_bit, elements}
use Rattle.asm_formats.specs.Status.{entry_of}
use Rattle.asm_formats.specs.Following.{disks_of, sets_of}
use Rattle.asm_images.specs.Members.{statuses}
use Rattle.asm_images.specs.Register.{is_enough, status}
use Rattle.asm_images.specs.Directories.{copies}
use Rattle.asm_images.specs.Rows.{EnoughRows, StatusRows, DirectoryRows}

pub enough_rows : EnoughRows
unfolding is_enough sets_of disks_of entry_of elements has_bit
enough_rows = record { two_of_three = refl; one_of_three = refl; half_of_four = refl; other_birth = refl; first_set_alone = refl; second_set_alone = refl; both_sets = refl }

pub status_rows : StatusRows
unfolding status statuses is_enough sets_of disks_of entry_of elements has_bit
status_rows = record { greatest = refl; epoch_first = refl; not_enough = refl; gone = refl; nothing = refl }

pub directory_rows : DirectoryRows
unfolding copies entry_of elements has_bit
directory_rows = record { greatest = refl; named_alone = refl; birth_counts = refl; none_left = refl }
