use Rattle.std.proofs.Common.{refl}
use Rattle.std.specs.Fmt.{digits}
use Rattle.asm_world.proofs.texts.refusal_rows.Goals as goal

pub returns : goal.returns
unfolding digits
returns c = record { group_exists = refl; too_few_groups = refl; too_small = refl; too_small_long = refl; not_sectors = refl; bad_attribute = refl; not_empty_group = refl; no_group = refl; out_of_file = refl; write_fault = refl; no_space = refl; host_fault = refl; read_fault = refl; name_taken = refl; no_name = refl; dismounted = refl; has_alias = refl; system_name = refl; system_template = refl; directory_full = refl; missing_disks = refl; no_majority = refl; lost = refl; holds_directories = refl; would_lose = refl; disk_state = refl; bad_power = refl; damaged = refl; not_directory = refl; not_empty = refl; no_template = refl; bad_redundancy = refl; two_groups = refl; already_mounted = refl; no_disk = refl; no_directories = refl; too_many = refl; no_memory = refl }
