-- What a group's creation fixes: its kind and its creation attributes.
use Rattle.std.specs.Prelude.{ℕ, ◌*◌, ◌%◌, Bool, ◌&&◌, ◌||◌, List, [], ◌∷◌, nat_le, ◌==◌}
use Rattle.std.specs.List.{list_any}
use Rattle.std.specs.Int.{is_in_range}
use Rattle.asm_group.specs.declared.GroupKind.{GroupKind}

pub record Shape : Type 0 where
  pub kind : GroupKind
  -- bytes in an allocation unit
  pub au : ℕ
  -- bytes in a sector
  pub sector : ℕ
  -- extents of each size
  pub step : ℕ
  -- record blocks of a directory copy
  pub dir_blocks : ℕ

-- 4K, 16K, 64K, 256K, 1M, 2M, 4M, 8M, 16M, 32M and 64M
abbrev pub unit_sizes : List ℕ
unit_sizes = 4096 ∷ 16384 ∷ 65536 ∷ 262144 ∷ 1048576 ∷ 2097152 ∷ 4194304 ∷ 8388608 ∷ 16777216 ∷ 33554432 ∷ 67108864 ∷ []

abbrev pub is_unit_size : ℕ → Bool
is_unit_size au = list_any (λ n. n == au) unit_sizes

-- a step is whole sets of eight extents
abbrev pub is_step : ℕ → Bool
is_step step = is_in_range 8 20000 step && (step % 8 == 0)

-- a unit has eight sectors at least
abbrev pub is_sector : ℕ → ℕ → Bool
is_sector sector au = (sector == 512 || sector == 4096) && nat_le (8 * sector) au

abbrev pub is_dir_blocks : ℕ → Bool
is_dir_blocks blocks = is_in_range 128 16384 blocks

-- the values that a creation may give together
unfoldable pub is_shape : Shape → Bool
is_shape s = is_unit_size s.au && (is_step s.step && (is_sector s.sector s.au && is_dir_blocks s.dir_blocks))
