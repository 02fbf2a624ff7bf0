-- Where the session stands: pwd and cd. Of both it is proved what they do.
use Rattle.std.specs.Prelude.{⊤, ℕ, Bool, true, false, not, List, [], ◌∷◌}
use Rattle.std.specs.Str.{bytes_eq}
use Rattle.asm_group.specs.Names.{Bytes}
use Rattle.asm_group.specs.Refusal as r
use Rattle.asm_world.specs.Command.{Command, Asked, Cd}
use Rattle.asm_world.specs.World.{World}
use Rattle.session_claims.specs.mounted_groups.Found.{Counts}

-- the path `+`
abbrev pub is_top : Bytes → Bool
is_top path = bytes_eq path (43 ∷ [])

-- of which it is proved what they do
abbrev pub is_proved : Command → Bool
is_proved c = true

-- which go into a group: cd to any other path than `+`
abbrev pub shows_group : Command → Bool
shows_group (Asked (Cd path)) = not (is_top path)
shows_group other = false

-- none makes a group
abbrev pub IsMadeByPlaceCommand : Command → ℕ → World → Type 0
IsMadeByPlaceCommand c id w = ⊥

-- no device is asked, so nothing is counted
abbrev pub IsRefused : List Bytes → Command → r.Refusal → Counts → Counts → Type 0
IsRefused paths c cause s t = ⊤
