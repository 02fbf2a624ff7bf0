-- The pieces of a span, by the definitions of layouts.
use Rattle.std.specs.Prelude.{ℕ, ◌+◌, ◌-◌, ◌%◌, ◌<◌, ◌≤◌}
use Rattle.asm_base.specs.asm_group.declared.Stripe.{Stripe}
use Rattle.asm_base.specs.asm_group.declared.Stripe.TheVariants.{Coarse, Fine}
use Rattle.asm_base.specs.declared.kinds.Span.{Span}
use Rattle.asm_placement.specs.Layout as placement
use Rattle.asm_placement.specs.Layout.{extent_len, chunk_of}
use Rattle.striping.specs.declared.layout.Layout.{Layout}

-- a layout that a group may have
abbrev pub IsAllowedLayout : Layout → Type 0
IsAllowedLayout l = placement.IsLayout l.au l.step

-- byte o of the file is byte q of extent i
abbrev pub LaysByteAt : Layout → ℕ → ℕ → ℕ → Type 0
LaysByteAt l o i q = placement.LiesAt l.stripe l.au l.step o i q

-- how many bytes of the file lie in a row from byte q of extent i on
abbrev pub run_by : Stripe → ℕ → ℕ → ℕ → ℕ → ℕ
run_by Coarse au step i q = extent_len au step i - q
run_by Fine au step i q = chunk_of au - q % chunk_of au

-- The first piece of a span: n bytes that lie in a row from byte q of extent i on, and the span's next byte
-- lies elsewhere.
pub record IsFirstPieceOfSpan (l : Layout) (span : Span) (i q n : ℕ) : Type 0 where
  pub some : 0 < n
  pub within : n ≤ span.len
  pub lies : (k : ℕ) → k < n → LaysByteAt l (span.at + k) i (q + k)
  pub longest : n < span.len → ¬ LaysByteAt l (span.at + n) i (q + n)
