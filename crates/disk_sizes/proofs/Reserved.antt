-- The units below the end of the directory region, as they are counted.
use Rattle.std.proofs.Common.{◌≡◌, ℕ, ◌+◌, ◌-◌, ◌*◌, ◌/◌, refl, ap, ◌∙◌}
use Rattle.std.proofs.Math.Nat.{div-zero}
use Rattle.asm_group.specs.Shape.{Shape}
use Rattle.asm_formats.specs.Bytes.{block_size}
use Rattle.asm_formats.specs.Regions.{region_end, reserved_units}

pub reserved_is : (s : Shape) → (region_end s.dir_blocks * block_size + (s.au - 1)) / s.au ≡ reserved_units s
unfolding reserved_units
reserved_is s = refl

-- where a unit has no bytes there are none
pub none_reserved : (s : Shape) → s.au ≡ 0 → reserved_units s ≡ 0
unfolding reserved_units
none_reserved s is = ap (λ (n : ℕ). (region_end s.dir_blocks * block_size + (s.au - 1)) / n) is ∙ div-zero (region_end s.dir_blocks * block_size + (s.au - 1))
