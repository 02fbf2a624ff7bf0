-- What is wrong with words that aren't taken.
use Rattle.std.specs.Prelude.{◌≡◌, ◌≢◌, ℕ, ◌<◌, ◌≤◌, Option, Some, IsSome, List, [], length, find}
use Rattle.clap.specs.Words.{IsAmong, fault_of}
use Rattle.command_line.specs.Command.{asm_command, number_in, images_in}
use Rattle.command_line.specs.Paths.{WordBytes, IsNumber, first_twice, is_control, is_quoted}
use Rattle.command_line.specs.declared.misuse.Misuse.{Misuse}
use Rattle.command_line.specs.declared.misuse.Misuse.TheVariants.{Form, TooMany, Control, Twice, NotNumber, NotFour, Quoted}

-- this is wrong with a number and with paths
abbrev pub IsMisuseOf : Option WordBytes → List WordBytes → Misuse → Type 0
IsMisuseOf number paths (Form kind reason) = ⊥
IsMisuseOf number paths (TooMany count) = (length paths ≡ count) × (512 < count)
IsMisuseOf number paths (Control path) = find is_control paths ≡ Some path.now
IsMisuseOf number paths (Twice path) = first_twice paths ≡ Some path.now
IsMisuseOf number paths (NotNumber text) = (number ≡ Some text.now) × ((n : ℕ) → IsNumber text.now n → ⊥)
IsMisuseOf number paths (NotFour count) = IsSome number × (length paths ≡ count) × (count ≢ 4)
IsMisuseOf number paths (Quoted path) = IsSome number × (find is_quoted paths ≡ Some path.now)

-- this is wrong with words: they don't have the command's form, by what clap says, or their number and paths aren't taken
abbrev pub IsMisuse : List WordBytes → Misuse → Type 0
IsMisuse words (Form kind reason) = IsAmong kind (fault_of asm_command words)
IsMisuse words other = (fault_of asm_command words ≡ []) × IsMisuseOf (number_in words) (images_in words) other
