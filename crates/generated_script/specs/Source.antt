-- What a generated script gives yet.
use Rattle.std.specs.Prelude.{◌≡◌, ℕ, ◌≤◌, ◌<◌, List, [], ◌++◌, length, take, drop}
use Rattle.asm_world.specs.Text.{ended}
use Rattle.generated_script.specs.Lines.{lines_left}
use Rattle.generated_script.specs.declared.script_source.GeneratedScript.{GeneratedScript}

-- the bytes that are left: of the creations, of the command that is being read, and of those behind it
abbrev pub left_in : GeneratedScript → List ℕ
left_in s = drop s.given s.creations.items ++ (drop s.at s.line ++ ended (lines_left s.lines))

-- so many of the bytes that were left were given, none only at the end or where there was no room
pub record GivesBytes (before after : List ℕ) (count : ℕ) (room buf : List ℕ) : Type 0 where
  pub fits : count ≤ length room
  pub same_room : length buf ≡ length room
  pub given : before ≡ take count buf ++ after
  pub at_end : count ≡ 0 → 0 < length room → after ≡ []
