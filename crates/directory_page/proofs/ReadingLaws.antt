-- The value of a record of each kind passes its check just where it is decoded.
use Rattle.std.proofs.Common.{◌≡◌, ℕ, ◌+◌, ◌^◌, ◌<◌}
use Rattle.std.specs.Int.{w16, w32, w64}
use Rattle.std.specs.Option.{is_some}
use Rattle.asm_base.specs.asm_group.Names.{Bytes}
use Rattle.asm_base.specs.asm_formats.Items.{file_item, chunk_item, disk_item, rebalance_item, pending_item, templates_item, node_item, settings_item}
use Rattle.asm_base.specs.asm_formats.Values.{decoded_item}
use Rattle.asm_base.specs.Parts.{home_reading, to_disk, to_pending, to_node, to_settings}
use Rattle.asm_base.specs.Readings.{number_reading, name_reading, text_reading}
use Rattle.byte_codes.specs.Words.{stripe_reading, node_kind_reading, pending_kind_reading}
use Rattle.asm_base.proofs.Exact.{IsBytes}
use Rattle.record_values.specs.Values.{copies_reading, named_reading, system_reading, to_file, file_reading, extent_reading, chunk_reading, disk_reading, pending_reading, node_reading, settings_reading}
use Rattle.record_values.proofs.Files.{file_decoded}
use Rattle.record_values.proofs.Chunks.{chunk_decoded}
use Rattle.record_values.proofs.Disks.{disk_decoded}
use Rattle.record_values.proofs.Operations.{pending_decoded, power_decoded}
use Rattle.record_values.proofs.Templates.{templates_decoded}
use Rattle.record_values.proofs.Nodes.{node_decoded}
use Rattle.record_values.proofs.Settings.{settings_decoded}
use Rattle.directory_page.specs.Checks.{check_of, is_all}
use Rattle.directory_page.specs.Values.{file_numbers_check, file_check, extent_check, chunk_check, disk_check, pending_check, templates_check, node_check, settings_check}
use Rattle.directory_page.proofs.Passing.{Passing, read_passes, both_pass, as_passes, times_pass, passes_decoded}
use Rattle.directory_page.proofs.Ascending.{templates_pass}

-- ---- what each check passes over

file_passing : Passing file_check file_reading
unfolding file_check file_numbers_check file_reading
file_passing =
    as_passes to_file (both_pass (read_passes copies_reading) (both_pass (read_passes stripe_reading) (both_pass (read_passes (name_reading 30))
    (both_pass (read_passes (number_reading w64)) (both_pass (read_passes (number_reading w64)) (both_pass (read_passes system_reading) (read_passes (number_reading w32))))))))

chunk_passing : Passing chunk_check chunk_reading
unfolding extent_check chunk_reading extent_reading
chunk_passing = times_pass 256 (times_pass 3 (read_passes home_reading))

disk_passing : Passing disk_check disk_reading
unfolding disk_check disk_reading
disk_passing = as_passes to_disk (both_pass (read_passes (number_reading w64)) (both_pass (read_passes named_reading) (read_passes named_reading)))

pending_passing : Passing pending_check pending_reading
unfolding pending_check pending_reading
pending_passing = as_passes to_pending (both_pass (read_passes pending_kind_reading) (both_pass (read_passes (number_reading w32)) (read_passes (number_reading w64))))

node_passing : Passing node_check node_reading
unfolding node_check node_reading
node_passing = as_passes to_node (both_pass (read_passes (number_reading w32)) (both_pass (read_passes node_kind_reading) (both_pass (read_passes (number_reading w32)) (read_passes (name_reading 80)))))

settings_passing : Passing settings_check settings_reading
unfolding settings_check settings_reading
settings_passing =
    as_passes to_settings (both_pass (read_passes (number_reading w64)) (both_pass (read_passes (number_reading w64)) (both_pass (read_passes (text_reading 30)) (both_pass (read_passes (text_reading 30)) (read_passes (text_reading 30))))))

-- ---- where it passes

pub file_passes : (f : ℕ) (bytes : Bytes) → f < 2 ^ 32 → IsBytes bytes → is_all (file_check bytes) ≡ is_some (decoded_item (record { kind = 1; a = f; b = 0 }) bytes)
file_passes f bytes lt = passes_decoded file_passing (file_item f) (record { kind = 1; a = f; b = 0 }) bytes (file_decoded f bytes lt)

pub chunk_passes : (f c : ℕ) (bytes : Bytes) → f < 2 ^ 32 → c + 1 < 2 ^ 32 → IsBytes bytes → is_all (chunk_check bytes) ≡ is_some (decoded_item (record { kind = 1; a = f; b = c + 1 }) bytes)
chunk_passes f c bytes file number = passes_decoded chunk_passing (chunk_item f c) (record { kind = 1; a = f; b = c + 1 }) bytes (chunk_decoded f c bytes file number)

pub disk_passes : (d : ℕ) (bytes : Bytes) → d < 64 → IsBytes bytes → is_all (disk_check bytes) ≡ is_some (decoded_item (record { kind = 2; a = d; b = 0 }) bytes)
disk_passes d bytes lt = passes_decoded disk_passing (disk_item d) (record { kind = 2; a = d; b = 0 }) bytes (disk_decoded d bytes lt)

pub power_passes : (bytes : Bytes) → IsBytes bytes → is_all (check_of (number_reading w16) bytes) ≡ is_some (decoded_item (record { kind = 4; a = 0; b = 0 }) bytes)
power_passes bytes = passes_decoded (read_passes (number_reading w16)) rebalance_item (record { kind = 4; a = 0; b = 0 }) bytes (power_decoded bytes)

pub pending_passes : (bytes : Bytes) → IsBytes bytes → is_all (pending_check bytes) ≡ is_some (decoded_item (record { kind = 4; a = 1; b = 0 }) bytes)
pending_passes bytes = passes_decoded pending_passing pending_item (record { kind = 4; a = 1; b = 0 }) bytes (pending_decoded bytes)

pub templates_passes : (bytes : Bytes) → IsBytes bytes → is_all (templates_check bytes) ≡ is_some (decoded_item (record { kind = 5; a = 0; b = 0 }) bytes)
templates_passes bytes = passes_decoded templates_pass templates_item (record { kind = 5; a = 0; b = 0 }) bytes (templates_decoded bytes)

pub node_passes : (n : ℕ) (bytes : Bytes) → 0 < n → n < 2 ^ 32 → IsBytes bytes → is_all (node_check bytes) ≡ is_some (decoded_item (record { kind = 6; a = n; b = 0 }) bytes)
node_passes n bytes some lt = passes_decoded node_passing (node_item n) (record { kind = 6; a = n; b = 0 }) bytes (node_decoded n bytes some lt)

pub settings_pass : (bytes : Bytes) → IsBytes bytes → is_all (settings_check bytes) ≡ is_some (decoded_item (record { kind = 9; a = 0; b = 0 }) bytes)
settings_pass bytes = passes_decoded settings_passing settings_item (record { kind = 9; a = 0; b = 0 }) bytes (settings_decoded bytes)
