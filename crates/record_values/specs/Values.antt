-- The values of directory records, kind by kind: how each is read, field by field.
use Rattle.std.specs.Prelude.{ℕ, nat_lt, List}
use Rattle.std.specs.Int.{w32, w64}
use Rattle.asm_base.specs.asm_group.declared.Stripe.{Stripe}
use Rattle.asm_base.specs.asm_group.Names.{Bytes, is_name}
use Rattle.asm_base.specs.asm_group.Group.{Template}
use Rattle.asm_base.specs.asm_formats.Items.{FileHead, Homes, DiskInfo, Pending, Node, Settings, chunk_len, is_redundancy, most_templates, names_ascend}
use Rattle.asm_base.specs.Readings.{Reading, both, as_a, tested, repeated, counted_reading, byte_reading, flag_reading, number_reading, name_reading, text_reading}
use Rattle.byte_codes.specs.Words.{stripe_reading, node_kind_reading, pending_kind_reading}
use Rattle.asm_base.specs.Parts.{home_reading, to_disk, to_pending, to_template, to_node, to_settings}

-- ---- fields

-- one to three copies
abbrev pub copies_reading : Reading ℕ
copies_reading = tested is_redundancy byte_reading

-- the name of a disk, a failure group or a template
abbrev pub named_reading : Reading Bytes
named_reading = tested is_name (text_reading 30)

-- a file has a system name
abbrev pub system_reading : Reading ℕ
system_reading = tested (nat_lt 0) (number_reading w32)

-- ---- files

abbrev pub FileParts : Type 0
FileParts = ℕ × (Stripe × (Bytes × (ℕ × (ℕ × (ℕ × ℕ)))))

abbrev pub to_file : FileParts → FileHead
to_file (copies, (stripe, (type_name, (size, (incarnation, (system, alias)))))) =
    record { copies = copies; stripe = stripe; type_name = type_name; size = size; incarnation = incarnation; system = system; alias = alias }

unfoldable pub file_reading : Reading FileHead
file_reading =
    as_a to_file (both copies_reading (both stripe_reading (both (name_reading 30) (both (number_reading w64) (both (number_reading w64) (both system_reading (number_reading w32)))))))

-- ---- chunks

-- the homes of one extent
unfoldable pub extent_reading : Reading Homes
extent_reading = repeated 3 home_reading

unfoldable pub chunk_reading : Reading (List Homes)
chunk_reading = repeated chunk_len extent_reading

-- ---- disks

unfoldable pub disk_reading : Reading DiskInfo
disk_reading = as_a to_disk (both (number_reading w64) (both named_reading named_reading))

-- ---- operations

unfoldable pub pending_reading : Reading Pending
pending_reading = as_a to_pending (both pending_kind_reading (both (number_reading w32) (number_reading w64)))

-- ---- templates

unfoldable pub template_reading : Reading Template
template_reading = as_a to_template (both named_reading (both copies_reading (both stripe_reading flag_reading)))

-- by folded name
unfoldable pub templates_reading : Reading (List Template)
templates_reading = tested names_ascend (counted_reading most_templates template_reading)

-- ---- nodes

unfoldable pub node_reading : Reading Node
node_reading = as_a to_node (both (number_reading w32) (both node_kind_reading (both (number_reading w32) (name_reading 80))))

-- ---- settings

unfoldable pub settings_reading : Reading Settings
settings_reading =
    as_a to_settings (both (number_reading w64) (both (number_reading w64) (both (text_reading 30) (both (text_reading 30) (text_reading 30)))))
