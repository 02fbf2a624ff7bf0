-- The reading of a header, field by field, and what is tested then.
use Rattle.std.specs.Prelude.{ℕ, Bool, ◌&&◌, nat_lt, [], ◌∷◌, ◌++◌, codes, Option, Some, None, if◌then◌else◌}
use Rattle.std.specs.Option.{option_and_then}
use Rattle.std.specs.Int.{w16, w32, w64}
use Rattle.asm_group.specs.declared.GroupKind.{GroupKind}
use Rattle.asm_group.specs.Names.{Bytes, is_name}
use Rattle.asm_group.specs.Shape.{is_shape}
use Rattle.asm_formats.specs.Header.{Header, form}
use Rattle.asm_base.specs.Readings.{Reading, both, as_a, byte_reading, number_reading, flag_reading, name_reading, fixed_reading}
use Rattle.byte_codes.specs.Words.{kind_reading}
use Rattle.disk_header.specs.declared.reading.Ids.{Ids}
use Rattle.disk_header.specs.declared.reading.Sizes.{Sizes}

abbrev pub IdParts : Type 0
IdParts = ℕ × (ℕ × (ℕ × GroupKind))

abbrev pub to_ids : IdParts → Ids
to_ids (id, (number, (birth, kind))) = record { id = id; number = number; birth = birth; kind = kind }

unfoldable pub ids_reading : Reading Ids
ids_reading = as_a to_ids (both (number_reading w64) (both byte_reading (both (number_reading w64) kind_reading)))

abbrev pub SizeParts : Type 0
SizeParts = Bool × (ℕ × (ℕ × (ℕ × ℕ)))

abbrev pub to_sizes : SizeParts → Sizes
to_sizes (quorum, (au, (sector, (step, dir_blocks)))) = record { quorum = quorum; au_size = au; sector = sector; step = step; dir_blocks = dir_blocks }

unfoldable pub sizes_reading : Reading Sizes
sizes_reading = as_a to_sizes (both flag_reading (both (number_reading w32) (both (number_reading w16) (both (number_reading w16) (number_reading w16)))))

abbrev pub HeaderParts : Type 0
HeaderParts = Unit {0} × (Bytes × (Ids × (Bytes × (Bytes × Sizes))))

abbrev pub to_header : HeaderParts → Header
to_header (tag, (group, (ids, (disk, (failgroup, sizes))))) = record {
  group = group;
  id = ids.id;
  number = ids.number;
  birth = ids.birth;
  disk = disk;
  failgroup = failgroup;
  quorum = sizes.quorum;
  shape = record { kind = ids.kind; au = sizes.au_size; sector = sizes.sector; step = sizes.step; dir_blocks = sizes.dir_blocks };
}

unfoldable pub header_reading : Reading Header
header_reading = as_a to_header (both (fixed_reading (codes "ASMH" ++ form ∷ [])) (both (name_reading 30) (both ids_reading (both (name_reading 30) (both (name_reading 30) sizes_reading)))))

-- what is tested besides
unfoldable pub is_right_header : Header → Bool
is_right_header h = is_shape h.shape && (is_name h.group && (nat_lt h.number 64 && (is_name h.disk && is_name h.failgroup)))

-- the header that is read, where it passes
abbrev pub right_header : Option Header → Option Header
right_header read = option_and_then (λ h. if is_right_header h then Some h else None) read
