-- Templates and attributes of groups. Of these commands it is proved what they do.
use Rattle.std.specs.Prelude.{⊤, ℕ, Bool, true, List}
use Rattle.asm_group.specs.Names.{Bytes}
use Rattle.asm_group.specs.Refusal as r
use Rattle.asm_world.specs.Command.{Command}
use Rattle.asm_world.specs.World.{World}
use Rattle.session_claims.specs.mounted_groups.Found.{Counts}

-- of which it is proved what they do
abbrev pub is_proved : Command → Bool
is_proved c = true

-- none makes a group
abbrev pub IsMadeBySettingCommand : Command → ℕ → World → Type 0
IsMadeBySettingCommand c id w = ⊥

-- of none a cause is counted
abbrev pub IsRefused : List Bytes → Command → r.Refusal → Counts → Counts → Type 0
IsRefused paths c cause s t = ⊤
