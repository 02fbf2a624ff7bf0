-- Where a file's bytes lie on its extents.
use Rattle.std.specs.Prelude.{◌≡◌, ℕ, zero, suc, ◌+◌, ◌*◌, ◌/◌, ◌%◌, ◌<◌, Bool, if◌then◌else◌, nat_lt, min, IsTrue}
use Rattle.asm_formats.specs.asm_group.declared.Stripe.{Stripe}
use Rattle.asm_formats.specs.asm_group.declared.Stripe.TheVariants.{Coarse, Fine}
use Rattle.asm_formats.specs.asm_group.Shape.{is_unit_size, is_step}

-- units of extent i: 1 below the step, 4 below twice the step, and 16 from there
unfoldable pub units_of : ℕ → ℕ → ℕ
units_of step i = if nat_lt i step then 1 else if nat_lt i (2 * step) then 4 else 16

-- bytes of extent i
abbrev pub extent_len : ℕ → ℕ → ℕ → ℕ
extent_len au step i = units_of step i * au

-- bytes of the extents before extent i
unfoldable pub start : ℕ → ℕ → ℕ → ℕ
start au step zero = 0
start au step (suc i) = start au step i + extent_len au step i

-- extents that go together: those of a fine file take turns, eight by eight
abbrev pub extents_at_once : Stripe → ℕ
extents_at_once Coarse = 1
extents_at_once Fine = 8

-- bytes that lie in a row on an extent of a fine file
abbrev pub chunk_of : ℕ → ℕ
chunk_of au = min 131072 (au / 8)

-- the first of the extents that go together with extent i
abbrev pub first_of_set : Stripe → ℕ → ℕ
first_of_set Coarse i = i
first_of_set Fine i = 8 * (i / 8)

-- The byte of the file at byte q of extent i. Coarse extents follow one another; the chunks of a set go round its eight extents.
abbrev pub file_byte : Stripe → ℕ → ℕ → ℕ → ℕ → ℕ
file_byte Coarse au step i q = start au step i + q
file_byte Fine au step i q =
    let chunk = chunk_of au in
    start au step (8 * (i / 8)) + (8 * (q / chunk) + i % 8) * chunk + q % chunk

-- byte o of the file is byte q of extent i
pub record LiesAt (stripe : Stripe) (au step o i q : ℕ) : Type 0 where
  pub inside : q < extent_len au step i
  pub byte : o ≡ file_byte stripe au step i q

-- a file of so many bytes has extent i
abbrev pub has_extent_by_size : Stripe → ℕ → ℕ → ℕ → ℕ → Bool
has_extent_by_size stripe au step size i = nat_lt (start au step (first_of_set stripe i)) size

-- a unit size and a step that a group may have
pub record IsLayout (au step : ℕ) : Type 0 where
  pub unit_allowed : IsTrue (is_unit_size au)
  pub step_allowed : IsTrue (is_step step)
