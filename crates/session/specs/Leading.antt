-- Where the path of a verb leads in a group.
use Rattle.std.specs.Prelude.{◌≡◌, ◌⊎◌, List, Some, None}
use Rattle.asm_base.specs.declared.path.Path.{Path}
use Rattle.refusal_lines.specs.declared.refusal.Refusal.{Refusal}
use Rattle.refusal_lines.specs.declared.refusal.Refusal.TheVariants as cause
use Rattle.asm_group.specs.Names.{Bytes}
use Rattle.asm_world.specs.Paths.{target_from}

abbrev pub IsLedTo : List Bytes → Bytes → Path → Type 0
IsLedTo place path led = target_from place path ≡ Some (led.group, led.parts)

-- The path names no group. Want of memory is free.
abbrev pub IsNoTarget : List Bytes → Bytes → Refusal → Type 0
IsNoTarget place path refusal = (refusal ≡ cause.NoMemory) ⊎ ((refusal ≡ cause.NoGroup) × (target_from place path ≡ None))
