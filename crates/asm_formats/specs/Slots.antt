-- The moments while a slot with a body of one block is put: that of a header, a claim or a status record.
use Rattle.std.specs.Prelude.{◌≡◌, ◌⊎◌, ℕ, ◌+◌, false, true, List, [], ◌∷◌, Option, Some}
use Rattle.asm_group.specs.Names.{Bytes}
use Rattle.asm_formats.specs.Bytes.{block, is_open}
use Rattle.asm_formats.specs.Places.{SameButBlocks}

-- The slot behind gate k is as it was, or closed, or open with the new body.
pub data Moment (old new : Bytes) (k : ℕ) (body : Bytes) : Type 0 where
  as_before : is_open new k ≡ is_open old k → block new (k + 1) ≡ block old (k + 1) → Moment old new k body
  closed : is_open new k ≡ false → Moment old new k body
  open_with_body : is_open new k ≡ true → block new (k + 1) ≡ body → Moment old new k body

-- A slot is put: its gate and its body may change, and nothing else.
pub record IsPut (old new : Bytes) (k : ℕ) (body : Bytes) : Type 0 where
  pub elsewhere : SameButBlocks old new k 2
  pub moment : Moment old new k body

-- the gates of a pair, one and the other
abbrev pub ArePair : ℕ → ℕ → ℕ → ℕ → Type 0
ArePair first second k other = ((k ≡ first) × (other ≡ second)) ⊎ ((k ≡ second) × (other ≡ first))

-- what a slot says after such a moment: what it said, nothing, or the new value
pub data MaySayAfter {A : Type 0} (before after : List (Option A)) (x : A) : Type 0 where
  same_said : after ≡ before → MaySayAfter before after x
  nothing_said : after ≡ [] → MaySayAfter before after x
  new_said : after ≡ Some x ∷ [] → MaySayAfter before after x
