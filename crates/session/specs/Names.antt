-- Directories and aliases. Of each of these commands but rm, which takes files away too, it is proved what it does.
use Rattle.std.specs.Prelude.{⊤, ℕ, Bool, true, false, List}
use Rattle.asm_group.specs.Names.{Bytes}
use Rattle.asm_group.specs.Refusal as r
use Rattle.asm_world.specs.Command.{Command, Asked, Remove}
use Rattle.asm_world.specs.World.{World}
use Rattle.session_claims.specs.mounted_groups.Found.{Counts}

-- of which it is proved what they do
abbrev pub is_proved : Command → Bool
is_proved (Asked (Remove path)) = false
is_proved other = true

-- none makes a group
abbrev pub IsMadeByNameCommand : Command → ℕ → World → Type 0
IsMadeByNameCommand c id w = ⊥

-- of none a cause is counted
abbrev pub IsRefused : List Bytes → Command → r.Refusal → Counts → Counts → Type 0
IsRefused paths c cause s t = ⊤
