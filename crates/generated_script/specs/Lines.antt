-- The commands behind the creations, from one of them on.
use Rattle.std.specs.Prelude.{ℕ, zero, suc, ◌-◌, Bool, true, false, List, [], ◌∷◌, ◌++◌, codes}
use Rattle.asm_group.specs.Names.{Bytes}
use Rattle.asm_world.specs.Generator.{after_choices, create_file, fill_command, fills, next_choice}
use Rattle.generated_script.specs.declared.lines.Lines.{Lines}
use Rattle.generated_script.specs.declared.lines.Next.{Next}
use Rattle.generated_script.specs.declared.lines.Next.TheVariants.{File, EarlyFill, DropDisk, LateFill, ListGroups, Nothing}

abbrev pub drop_disk : Bytes
drop_disk = codes "ALTER DISKGROUP DATA DROP DISK DATA_0003 REBALANCE POWER 4;"

abbrev pub list_groups : Bytes
list_groups = codes "lsdg"

-- so many late fills, by this choice and those after it, and what follows them
abbrev pub late_fills : ℕ → ℕ → List Bytes
late_fills count x = fills count x ++ list_groups ∷ []

unfoldable pub all_late_fills : ℕ → List Bytes
all_late_fills x = late_fills 500 x

-- so many early fills, and what follows them
abbrev pub early_fills : ℕ → ℕ → List Bytes
early_fills count x = fills count x ++ drop_disk ∷ all_late_fills (after_choices count x)

unfoldable pub all_fills : ℕ → List Bytes
all_fills x = early_fills 500 x

-- the last so many files, and what follows them
abbrev pub files_from : ℕ → ℕ → List Bytes
files_from zero x = all_fills x
files_from (suc more) x = create_file (15 - more) ∷ files_from more x

abbrev pub lines_of : Next → ℕ → List Bytes
lines_of (File more) x = files_from (suc more) x
lines_of (EarlyFill more) x = early_fills (suc more) x
lines_of DropDisk x = early_fills 0 x
lines_of (LateFill more) x = late_fills (suc more) x
lines_of ListGroups x = list_groups ∷ []
lines_of Nothing x = []

abbrev pub lines_left : Lines → List Bytes
lines_left lines = lines_of lines.next lines.choice

-- the next of them
abbrev pub line_now : Next → ℕ → Bytes
line_now (File more) x = create_file (15 - more)
line_now (EarlyFill more) x = fill_command x
line_now DropDisk x = drop_disk
line_now (LateFill more) x = fill_command x
line_now ListGroups x = list_groups
line_now Nothing x = []

abbrev pub is_over : Next → Bool
is_over Nothing = true
is_over next = false

-- all of them, for a number
unfoldable pub made_for : ℕ → List Bytes
made_for number = files_from 16 (next_choice number)
