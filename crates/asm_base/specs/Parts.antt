-- The fields of a record's value, in the order in which they stand, and what they make.
use Rattle.std.specs.Prelude.{ℕ, Bool, ◌==◌, if◌then◌else◌, Option, Some, None}
use Rattle.std.specs.Int.{w32}
use Rattle.asm_group.specs.declared.Stripe.{Stripe}
use Rattle.asm_group.specs.declared.NodeKind.{NodeKind}
use Rattle.asm_group.specs.declared.PendingKind.{PendingKind}
use Rattle.asm_group.specs.Names.{Bytes}
use Rattle.asm_group.specs.Group.{Template}
use Rattle.asm_formats.specs.Items.{Home, DiskInfo, Pending, Node, Settings}
use Rattle.asm_base.specs.Readings.{Reading, both, byte_reading, decoded, number_reading}

-- an absent home is 255 and 0
abbrev pub home_of_numbers : ℕ × ℕ → Option (Option Home)
home_of_numbers p = if p.0 == 255 then (if p.1 == 0 then Some None else None) else Some (Some (record { disk = p.0; unit = p.1 }))

unfoldable pub home_reading : Reading (Option Home)
home_reading = decoded home_of_numbers (both byte_reading (number_reading w32))

abbrev pub DiskParts : Type 0
DiskParts = ℕ × (Bytes × Bytes)

abbrev pub to_disk : DiskParts → DiskInfo
to_disk (birth, (name, failgroup)) = record { birth = birth; name = name; failgroup = failgroup }

abbrev pub PendingParts : Type 0
PendingParts = PendingKind × (ℕ × ℕ)

abbrev pub to_pending : PendingParts → Pending
to_pending (kind, (file, kept)) = record { kind = kind; file = file; kept = kept }

abbrev pub TemplateParts : Type 0
TemplateParts = Bytes × (ℕ × (Stripe × Bool))

abbrev pub to_template : TemplateParts → Template
to_template (name, (copies, (stripe, system))) = record { name = name; copies = copies; stripe = stripe; system = system }

abbrev pub NodeParts : Type 0
NodeParts = ℕ × (NodeKind × (ℕ × Bytes))

abbrev pub to_node : NodeParts → Node
to_node (parent, (kind, (file, name))) = record { parent = parent; kind = kind; file = file; name = name }

abbrev pub SettingParts : Type 0
SettingParts = ℕ × (ℕ × (Bytes × (Bytes × Bytes)))

abbrev pub to_settings : SettingParts → Settings
to_settings (incarnation, (repair, (asm, (rdbms, advm)))) =
    record { incarnation = incarnation; attributes = record { repair = repair; asm = asm; rdbms = rdbms; advm = advm } }
