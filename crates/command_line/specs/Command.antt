-- The command line, in the words of the crate that parses it.
use Rattle.std.specs.Prelude.{◌≡◌, ℕ, true, Option, Some, List, [], unwrap_or, codes}
use Rattle.clap.specs.Words.{App, Rule, all_of, first_of, fault_of, matches_of, new_app, new_rule, with_rule}
use Rattle.clap.specs.declared.builder.action.ArgAction.TheVariants.{Set, Append}
use Rattle.command_line.specs.Paths.{WordBytes, IsTaken}

-- `--generate` has one value, and is given at most once
abbrev pub generate_rule : Rule
generate_rule = record (new_rule (codes "generate")) { long = Some (codes "generate"); action = Some Set }

-- the images stand by themselves, and there is at least one
abbrev pub image_rule : Rule
image_rule = record (new_rule (codes "IMAGE")) { required = true; action = Some Append }

-- the words don't hold the program's own name, and no help is among them
abbrev pub bare_command : App
bare_command = let app = new_app (codes "asm") in record app { top = record app.top { no_binary_name = true; disable_help_flag = true } }

abbrev pub asm_command : App
asm_command = with_rule (with_rule bare_command generate_rule) image_rule

-- the value of `--generate` and the images among words of that form
abbrev pub number_in : List WordBytes → Option WordBytes
number_in words = first_of (codes "generate") (matches_of asm_command words)

abbrev pub images_in : List WordBytes → List WordBytes
images_in words = unwrap_or (all_of (codes "IMAGE") (matches_of asm_command words)) []

-- the words have the command's form, and its number and paths are taken
pub record IsRead (words : List WordBytes) (generate : Option ℕ) (images : List WordBytes) : Type 0 where
  pub form : fault_of asm_command words ≡ []
  pub taken : IsTaken (number_in words) (images_in words) generate images
