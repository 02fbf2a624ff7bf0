-- How many units a disk must have.
use Rattle.std.specs.Prelude.{ℕ, ◌+◌}
use Rattle.asm_group.specs.Shape.{Shape}
use Rattle.asm_formats.specs.Regions.{reserved_units}

-- units that hold user bytes, at least
abbrev pub least_user_units : ℕ
least_user_units = 16

-- the units that a disk must have: the reserved ones, and those for users
abbrev pub least_units : Shape → ℕ
least_units s = reserved_units s + least_user_units
