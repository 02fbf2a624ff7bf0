-- The checks of the values of directory records, kind by kind. A check keeps no value.
use Rattle.std.specs.Prelude.{ℕ, zero, suc, ◌-◌, ◌^◌, Bool, true, false, ◌&&◌, ◌==◌, nat_lt, nat_le, List, [], ◌∷◌, length, if◌then◌else◌, Some, None}
use Rattle.std.specs.Option.{option_and_then, option_map}
use Rattle.std.specs.List.{list_all}
use Rattle.std.specs.Int.{w16, w32, w64}
use Rattle.asm_base.specs.asm_group.Names.{Bytes, folded}
use Rattle.asm_base.specs.asm_group.Group.{Template}
use Rattle.asm_base.specs.asm_formats.Sets.{most_disks}
use Rattle.asm_base.specs.asm_formats.Items.{chunk_len, disks_kind, files_kind, marks_kind, most_templates, nodes_kind, operations_kind, precedes, settings_kind, templates_kind}
use Rattle.asm_base.specs.Readings.{Reading, byte_reading, flag_reading, number_reading, name_reading, text_reading}
use Rattle.byte_codes.specs.Words.{stripe_reading, node_kind_reading, pending_kind_reading}
use Rattle.asm_base.specs.Parts.{home_reading}
use Rattle.record_values.specs.Values.{copies_reading, named_reading, system_reading}
use Rattle.directory_page.specs.Checks.{Check, check_of, checks_in_turn, times, is_all}

-- ---- files

-- the numbers behind the type's name
unfoldable pub file_numbers_check : Check
file_numbers_check = checks_in_turn (check_of (number_reading w64)) (checks_in_turn (check_of (number_reading w64)) (checks_in_turn (check_of system_reading) (check_of (number_reading w32))))

unfoldable pub file_check : Check
file_check = checks_in_turn (check_of copies_reading) (checks_in_turn (check_of stripe_reading) (checks_in_turn (check_of (name_reading 30)) file_numbers_check))

-- ---- chunks

-- the homes of one extent
unfoldable pub extent_check : Check
extent_check = times 3 (check_of home_reading)

abbrev pub chunk_check : Check
chunk_check = times chunk_len extent_check

-- ---- disks

unfoldable pub disk_check : Check
disk_check = checks_in_turn (check_of (number_reading w64)) (checks_in_turn (check_of named_reading) (check_of named_reading))

-- ---- operations

unfoldable pub pending_check : Check
pending_check = checks_in_turn (check_of pending_kind_reading) (checks_in_turn (check_of (number_reading w32)) (check_of (number_reading w64)))

-- ---- templates

-- by folded name, the first behind a name
unfoldable pub ascend_after : Bytes → List Template → Bool
ascend_after before [] = true
ascend_after before (t ∷ ts) = precedes (folded before) (folded t.name) && ascend_after t.name ts

-- what stands behind its name
unfoldable pub template_rest_check : Check
template_rest_check = checks_in_turn (check_of copies_reading) (checks_in_turn (check_of stripe_reading) (check_of flag_reading))

-- a template, of which the name is kept
abbrev pub template_name_reading : Reading Bytes
template_name_reading bytes = option_and_then (λ n. option_map (λ rest. (n.0, rest)) (template_rest_check n.1)) (named_reading bytes)

-- so many templates, of which each comes behind the one before
unfoldable pub each_after : Bytes → ℕ → Check
each_after before zero bytes = Some bytes
each_after before (suc n) bytes =
    option_and_then (λ t. if precedes (folded before) (folded t.0) then each_after t.0 n t.1 else None) (template_name_reading bytes)

abbrev pub templates_check : Check
templates_check bytes = option_and_then (λ n. if nat_le n.0 most_templates then each_after [] n.0 n.1 else None) (byte_reading bytes)

-- ---- nodes

unfoldable pub node_check : Check
node_check = checks_in_turn (check_of (number_reading w32)) (checks_in_turn (check_of node_kind_reading) (checks_in_turn (check_of (number_reading w32)) (check_of (name_reading 80))))

-- ---- settings

unfoldable pub settings_check : Check
settings_check =
    checks_in_turn (check_of (number_reading w64)) (checks_in_turn (check_of (number_reading w64)) (checks_in_turn (check_of (text_reading 30)) (checks_in_turn (check_of (text_reading 30)) (check_of (text_reading 30)))))

-- ---- marks

-- of each extent of a chunk at most three copies are stale
unfoldable pub is_marks_value : Bytes → Bool
is_marks_value bytes = (length bytes == chunk_len) && list_all (λ m. nat_lt m 8) bytes

-- ---- the value of a key

abbrev pub operation_passes : ℕ → Bytes → Bool
operation_passes a bytes =
    if a == 0 then is_all (check_of (number_reading w16) bytes) else if a == 1 then is_all (pending_check bytes) else false

-- of the kinds that have one number at most
abbrev pub single_passes : ℕ → ℕ → Bytes → Bool
single_passes kind a bytes =
    if kind == disks_kind then nat_lt a most_disks && is_all (disk_check bytes)
    else if kind == operations_kind then operation_passes a bytes
    else if kind == templates_kind then (a == 0) && is_all (templates_check bytes)
    else if kind == nodes_kind then nat_lt 0 a && is_all (node_check bytes)
    else if kind == settings_kind then (a == 0) && is_all (settings_check bytes)
    else false

-- the value of a record of these numbers is one of the format
abbrev pub value_passes : ℕ → ℕ → ℕ → Bytes → Bool
value_passes kind a b bytes =
    if kind == files_kind then (if b == 0 then is_all (file_check bytes) else is_all (chunk_check bytes))
    else if kind == marks_kind then nat_lt b (2 ^ 32 - 1) && is_marks_value bytes
    else if b == 0 then single_passes kind a bytes
    else false
