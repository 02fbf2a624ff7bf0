-- The header, which makes a disk a member of a group.
use Rattle.std.specs.Prelude.{ℕ, ◌^◌, Bool, ◌&&◌, ◌∷◌, ◌++◌, drop, nat_lt, ◌==◌, codes, Option}
use Rattle.std.specs.Int.{w16, w32, w64}
use Rattle.asm_group.specs.Names.{Bytes, is_name}
use Rattle.asm_group.specs.Shape.{Shape, is_shape}
use Rattle.asm_formats.specs.Bytes.{number_bytes, name_field, whole_block, byte_at, number_at, name_in_bytes, spelled_by}
use Rattle.asm_formats.specs.Codes.{kind_code, group_kind_of, flag}
use Rattle.asm_formats.specs.Sets.{most_disks}

pub record Header : Type 0 where
  pub group : Bytes
  pub id : ℕ
  pub number : ℕ
  pub birth : ℕ
  pub disk : Bytes
  pub failgroup : Bytes
  pub quorum : Bool
  pub shape : Shape

-- the form of the disk: a directory copy is pages with a log
abbrev pub form : ℕ
form = 2

unfoldable pub header_fields : Header → Bytes
header_fields h =
    codes "ASMH" ++ (form ∷ name_field 30 h.group ++ (number_bytes w64 h.id ++ (h.number ∷ number_bytes w64 h.birth ++ (kind_code h.shape.kind
    ∷ name_field 30 h.disk ++ (name_field 30 h.failgroup ++ (flag h.quorum
    ∷ number_bytes w32 h.shape.au ++ (number_bytes w16 h.shape.sector ++ (number_bytes w16 h.shape.step ++ number_bytes w16 h.shape.dir_blocks))))))))

-- the header's one spelling
unfoldable pub header_spelling : Header → Bytes
header_spelling h = whole_block (header_fields h)

unfoldable pub is_header : Header → Bool
is_header h =
    is_shape h.shape && (is_name h.group && (nat_lt h.id (2 ^ 64) && (nat_lt h.number most_disks && (nat_lt h.birth (2 ^ 64)
    && (is_name h.disk && is_name h.failgroup)))))

-- the fields at their places, whatever the bytes are
unfoldable pub header_at : Bytes → Header
header_at bytes =
    let group = name_in_bytes 30 (drop 5 bytes) in
    let id = number_at w64 group.1 in
    let disk_number = byte_at id.1 in
    let birth = number_at w64 disk_number.1 in
    let kind = byte_at birth.1 in
    let disk = name_in_bytes 30 kind.1 in
    let failgroup = name_in_bytes 30 disk.1 in
    let quorum = byte_at failgroup.1 in
    let au = number_at w32 quorum.1 in
    let sector = number_at w16 au.1 in
    let step = number_at w16 sector.1 in
    let dir_blocks = number_at w16 step.1 in
    record {
      group = group.0;
      id = id.0;
      number = disk_number.0;
      birth = birth.0;
      disk = disk.0;
      failgroup = failgroup.0;
      quorum = quorum.0 == 1;
      shape = record { kind = group_kind_of kind.0; au = au.0; sector = sector.0; step = step.0; dir_blocks = dir_blocks.0 };
    }

-- the header that the bytes are the spelling of
unfoldable pub decoded_header : Bytes → Option Header
decoded_header bytes = spelled_by is_header header_spelling bytes (header_at bytes)
