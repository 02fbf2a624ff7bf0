-- Bytes of an extent.
use Rattle.std.proofs.Common.{◌≡◌, ℕ, ◌-◌, ◌*◌, ◌%◌, ◌≤◌, ap, ◌∙◌, arith}
use Rattle.asm_group.specs.Shape.{Shape}
use Rattle.asm_placement.specs.Layout.{units_of}
use Rattle.group_pieces.specs.Usable.{FitsExtent}

-- bytes that end in an extent fit it
pub fits_in : (s : Shape) (i inner n units size : ℕ) → units ≡ units_of s.step i → size ≡ units * s.au → inner ≤ size → n ≤ size - inner → inner % 512 ≡ 0 → n % 512 ≡ 0 → FitsExtent s i inner n
fits_in s i inner n units size long bytes before within at_sector whole = record {
  inside = let is : size ≡ units_of s.step i * s.au = bytes ∙ ap (λ (k : ℕ). k * s.au) long in omega (arith, is, before, within);
  sectors = (at_sector, whole);
}
