-- Runs of equal bytes, counted from their front, and the lines of bytes that come piece by piece.
use Rattle.std.specs.Prelude.{◌≡◌, ℕ, ◌+◌, ◌-◌, ◌==◌, List, [], ◌∷◌, ◌++◌, drop, replicate, Option, Some, None, if◌then◌else◌}
use Rattle.std.specs.Fmt.{decimal}
use Rattle.asm_group.specs.Names.{Bytes}
use Rattle.asm_group.specs.Refusal.{spaced}
use Rattle.asm_world.specs.Text.{hex, read_lines}

-- how many bytes at the front are this one
abbrev pub equal_front : ℕ → List ℕ → ℕ
equal_front b [] = 0
equal_front b (c ∷ bytes) = if b == c then equal_front b bytes + 1 else 0

-- the first byte, the length of its run, and the bytes behind the run
abbrev pub first_run : List ℕ → Option (ℕ × ℕ × List ℕ)
first_run [] = None
first_run (b ∷ bytes) = Some (b, equal_front b bytes + 1, drop (equal_front b bytes) bytes)

-- offset, length and byte of a run
abbrev pub run_line : ℕ → ℕ → ℕ → Bytes
run_line offset b len = spaced (decimal offset ∷ decimal len ∷ hex b ∷ [])

-- the lines of the runs that have ended, the offset at which the last one begins, the one behind it, and its byte
pub record RunsView : Type 0 where
  pub lines : List Bytes
  pub at : ℕ
  pub end : ℕ
  pub byte : ℕ

-- the lines of all that was put, with these bytes behind it
abbrev pub lines_with : RunsView → Bytes → List Bytes
lines_with r more = r.lines ++ read_lines r.at (replicate (r.end - r.at) r.byte ++ more)

-- These bytes were put, from this offset on: whatever comes behind them, the lines are those of all.
abbrev pub HoldsRun : RunsView → ℕ → Bytes → Type 0
HoldsRun r at bytes = (more : Bytes) → lines_with r more ≡ read_lines at (bytes ++ more)
