-- Worked values of layouts.
use Rattle.std.specs.Prelude.{◌≡◌, ◌*◌, true, false}
use Rattle.asm_formats.specs.asm_group.declared.Stripe.TheVariants.{Coarse, Fine}
use Rattle.asm_placement.specs.Layout.{units_of, start, LiesAt, has_extent_by_size}

-- extents of 1, 4 and 16 units, with a step of 20,000
pub record UnitsRow : Type 0 where
  pub last_of_one : units_of 20000 19999 ≡ 1
  pub first_of_four : units_of 20000 20000 ≡ 4
  pub last_of_four : units_of 20000 39999 ≡ 4
  pub first_of_sixteen : units_of 20000 40000 ≡ 16

-- where extents begin, in bytes, with units of 1 MB
pub record StartsRow : Type 0 where
  pub second_of_four : start 1048576 20000 20001 ≡ 20975714304
  pub first_of_sixteen : start 1048576 20000 40000 ≡ 104857600000

-- chunks of a fine file
pub record FineRow : Type 0 where
  pub end_of_chunk : LiesAt Fine 1048576 20000 131071 0 131071
  pub next_chunk : LiesAt Fine 1048576 20000 131072 1 0
  pub next_round : LiesAt Fine 1048576 20000 1048576 0 131072

-- 17 extents in 56 units hold 229,376 bytes and no more; a fine file of that size has whole sets
pub record ExtentsRow : Type 0 where
  pub units : start 4096 8 17 ≡ 56 * 4096
  pub last : has_extent_by_size Coarse 4096 8 229376 16 ≡ true
  pub no_more : has_extent_by_size Coarse 4096 8 229376 17 ≡ false
  pub last_of_longer : has_extent_by_size Coarse 4096 8 229888 17 ≡ true
  pub no_more_of_longer : has_extent_by_size Coarse 4096 8 229888 18 ≡ false
  pub last_of_fine : has_extent_by_size Fine 4096 8 229376 23 ≡ true
  pub no_more_of_fine : has_extent_by_size Fine 4096 8 229376 24 ≡ false
