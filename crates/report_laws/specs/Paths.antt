-- The paths of commands that show names, and of du.
use Rattle.std.specs.Prelude.{◌≡◌, Bool, true, List, Option, Some, is_some}
use Rattle.asm_group.specs.Names.{Bytes}
use Rattle.asm_world.specs.Command.{Asked, Cd, Find, Ls, Usage}
use Rattle.asm_world.specs.Language.{command_of}
use Rattle.asm_world.specs.Paths.{resolved, resolved_or_here, resolved_pattern}

-- Such a path leads somewhere, from whatever place: each of its parts is one.
pub record PathsLead : Type 0 where
  pub cd : (text path : Bytes) (place : List Bytes) → command_of text ≡ Asked (Cd path) → is_some (resolved place path) ≡ true
  pub find : (text path pattern : Bytes) (place : List Bytes) → command_of text ≡ Asked (Find path pattern) → is_some (resolved place path) ≡ true
  pub usage : (text : Bytes) (path : Option Bytes) (place : List Bytes) → command_of text ≡ Asked (Usage path) → is_some (resolved_or_here place path) ≡ true
  pub ls : (text path : Bytes) (long : Bool) (place : List Bytes) → command_of text ≡ Asked (Ls long (Some path)) → is_some (resolved_pattern place (Some path)) ≡ true
