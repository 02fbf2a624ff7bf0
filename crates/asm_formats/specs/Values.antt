-- The value of a directory record, as it is written and read.
use Rattle.std.specs.Prelude.{◌-◌, ◌&&◌, List, [], ◌∷◌, ◌++◌, length, flat_map, take, if◌then◌else◌, ◌==◌, Option, Some, None}
use Rattle.std.specs.Int.{w16, w32, w64}
use Rattle.asm_group.specs.Names.{Bytes}
use Rattle.asm_group.specs.Group.{Template}
use Rattle.asm_formats.specs.Bytes.{number_bytes, name_field, byte_at, number_at, name_in_bytes, values_at, spelled_by}
use Rattle.asm_formats.specs.Codes.{flag, stripe_code, stripe_of_code, node_code, node_kind_of, pending_code, pending_kind_of}
use Rattle.asm_formats.specs.Items.{FileHead, Home, Homes, DiskInfo, Pending, Node, Settings, Item, file_item, chunk_item, disk_item, rebalance_item, pending_item, templates_item, node_item, settings_item, marks_item, Key, item_key, is_same_key, chunk_len, is_item, files_kind, disks_kind, operations_kind, templates_kind, nodes_kind, settings_kind}

-- ---- as it is written

abbrev pub file_value : FileHead → Bytes
file_value h =
    h.copies ∷ stripe_code h.stripe ∷ name_field 30 h.type_name
    ++ (number_bytes w64 h.size ++ (number_bytes w64 h.incarnation ++ (number_bytes w32 h.system ++ number_bytes w32 h.alias)))

-- an absent home is 255 and 0
abbrev pub home_fields : Option Home → Bytes
home_fields None = 255 ∷ number_bytes w32 0
home_fields (Some h) = h.disk ∷ number_bytes w32 h.unit

abbrev pub disk_value : DiskInfo → Bytes
disk_value d = number_bytes w64 d.birth ++ (name_field 30 d.name ++ name_field 30 d.failgroup)

abbrev pub pending_value : Pending → Bytes
pending_value p = pending_code p.kind ∷ number_bytes w32 p.file ++ number_bytes w64 p.kept

abbrev pub template_fields : Template → Bytes
template_fields t = name_field 30 t.name ++ (t.copies ∷ stripe_code t.stripe ∷ flag t.system ∷ [])

abbrev pub node_value : Node → Bytes
node_value n = number_bytes w32 n.parent ++ (node_code n.kind ∷ number_bytes w32 n.file ++ name_field 80 n.name)

abbrev pub settings_value : Settings → Bytes
settings_value s =
    number_bytes w64 s.incarnation ++ (number_bytes w64 s.attributes.repair
    ++ (name_field 30 s.attributes.asm ++ (name_field 30 s.attributes.rdbms ++ name_field 30 s.attributes.advm)))

unfoldable pub value : Item → Bytes
value (file_item f head) = file_value head
value (chunk_item f c homes) = flat_map (flat_map home_fields) homes
value (disk_item d info) = disk_value info
value (rebalance_item power) = number_bytes w16 power
value (pending_item op) = pending_value op
value (templates_item ts) = length ts ∷ flat_map template_fields ts
value (node_item n node) = node_value node
value (settings_item s) = settings_value s
value (marks_item f c marks) = marks

-- ---- as it is read

abbrev pub file_head_at : Bytes → FileHead
file_head_at bytes =
    let copies = byte_at bytes in
    let stripe = byte_at copies.1 in
    let type_name = name_in_bytes 30 stripe.1 in
    let size = number_at w64 type_name.1 in
    let incarnation = number_at w64 size.1 in
    let system = number_at w32 incarnation.1 in
    let alias = number_at w32 system.1 in
    record { copies = copies.0; stripe = stripe_of_code stripe.0; type_name = type_name.0; size = size.0; incarnation = incarnation.0; system = system.0; alias = alias.0 }

abbrev pub home_in_bytes : Bytes → Option Home × Bytes
home_in_bytes bytes =
    let disk = byte_at bytes in
    let unit = number_at w32 disk.1 in
    (if disk.0 == 255 then None else Some (record { disk = disk.0; unit = unit.0 }), unit.1)

unfoldable pub homes_in_bytes : Bytes → List Homes
homes_in_bytes bytes = (values_at (values_at home_in_bytes 3) chunk_len bytes).0

abbrev pub disk_info_at : Bytes → DiskInfo
disk_info_at bytes =
    let birth = number_at w64 bytes in
    let name = name_in_bytes 30 birth.1 in
    let failgroup = name_in_bytes 30 name.1 in
    record { birth = birth.0; name = name.0; failgroup = failgroup.0 }

abbrev pub pending_at : Bytes → Pending
pending_at bytes =
    let kind = byte_at bytes in
    let file = number_at w32 kind.1 in
    let kept = number_at w64 file.1 in
    record { kind = pending_kind_of kind.0; file = file.0; kept = kept.0 }

abbrev pub template_in_bytes : Bytes → Template × Bytes
template_in_bytes bytes =
    let name = name_in_bytes 30 bytes in
    let copies = byte_at name.1 in
    let stripe = byte_at copies.1 in
    let system = byte_at stripe.1 in
    (record { name = name.0; copies = copies.0; stripe = stripe_of_code stripe.0; system = system.0 == 1 }, system.1)

abbrev pub templates_at : Bytes → List Template
templates_at bytes = let count = byte_at bytes in (values_at template_in_bytes count.0 count.1).0

abbrev pub node_in_bytes : Bytes → Node
node_in_bytes bytes =
    let parent = number_at w32 bytes in
    let kind = byte_at parent.1 in
    let file = number_at w32 kind.1 in
    let name = name_in_bytes 80 file.1 in
    record { parent = parent.0; kind = node_kind_of kind.0; file = file.0; name = name.0 }

abbrev pub settings_at : Bytes → Settings
settings_at bytes =
    let incarnation = number_at w64 bytes in
    let repair = number_at w64 incarnation.1 in
    let asm = name_in_bytes 30 repair.1 in
    let rdbms = name_in_bytes 30 asm.1 in
    let advm = name_in_bytes 30 rdbms.1 in
    record { incarnation = incarnation.0; attributes = record { repair = repair.0; asm = asm.0; rdbms = rdbms.0; advm = advm.0 } }

-- the value of a key, by its kind
unfoldable pub item_by : Key → Bytes → Item
item_by k bytes =
    if k.kind == files_kind then (if k.b == 0 then file_item k.a (file_head_at bytes) else chunk_item k.a (k.b - 1) (homes_in_bytes bytes))
    else if k.kind == disks_kind then disk_item k.a (disk_info_at bytes)
    else if k.kind == operations_kind then (if k.a == 0 then rebalance_item (number_at w16 bytes).0 else pending_item (pending_at bytes))
    else if k.kind == templates_kind then templates_item (templates_at bytes)
    else if k.kind == nodes_kind then node_item k.a (node_in_bytes bytes)
    else if k.kind == settings_kind then settings_item (settings_at bytes)
    else marks_item k.a k.b (take chunk_len bytes)

-- the item of this key whose one spelling the value is
unfoldable pub decoded_item : Key → Bytes → Option Item
decoded_item k bytes = spelled_by (λ i. is_item i && is_same_key (item_key i) k) value bytes (item_by k bytes)
