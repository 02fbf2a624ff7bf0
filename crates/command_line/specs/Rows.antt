-- Worked words: what is read of them, and what is refused.
use Rattle.std.specs.Prelude.{◌≡◌, ℕ, Option, Some, None, List, [], ◌∷◌, codes}
use Rattle.clap.specs.Words.{fault_of}
use Rattle.clap.specs.declared.error.kind.ErrorKind.{ErrorKind}
use Rattle.clap.specs.declared.error.kind.ErrorKind.TheVariants as kind
use Rattle.command_line.specs.Command.{asm_command, number_in, images_in}
use Rattle.command_line.specs.Paths.{WordBytes, IsTaken}

-- the words have the form, with this number and these images
abbrev pub ReadsWords : List WordBytes → Option WordBytes → List WordBytes → Type 0
ReadsWords words number images = (fault_of asm_command words ≡ []) × (number_in words ≡ number) × (images_in words ≡ images)

-- the words don't have the form, and this is why
abbrev pub Refuses : List WordBytes → ErrorKind → Type 0
Refuses words why = fault_of asm_command words ≡ why ∷ []

-- the path alone is taken, or isn't
abbrev pub IsTakenPath : WordBytes → Type 0
IsTakenPath path = IsTaken None (path ∷ []) None (path ∷ [])

abbrev pub IsRefusedPath : WordBytes → Type 0
IsRefusedPath path = (generate : Option ℕ) (images : List WordBytes) → IsTaken None (path ∷ []) generate images → ⊥

pub record WordRows : Type 0 where
  pub images : ReadsWords (codes "a" ∷ codes "b" ∷ []) None (codes "a" ∷ codes "b" ∷ [])
  pub number_apart : ReadsWords (codes "--generate" ∷ codes "7" ∷ codes "a" ∷ []) (Some (codes "7")) (codes "a" ∷ [])
  pub number_attached : ReadsWords (codes "a" ∷ codes "--generate=7" ∷ codes "b" ∷ []) (Some (codes "7")) (codes "a" ∷ codes "b" ∷ [])
  pub number_between : ReadsWords (codes "a" ∷ codes "--generate" ∷ codes "x" ∷ codes "b" ∷ []) (Some (codes "x")) (codes "a" ∷ codes "b" ∷ [])
  pub after_hyphens : ReadsWords (codes "--" ∷ codes "--generate" ∷ codes "-x" ∷ []) None (codes "--generate" ∷ codes "-x" ∷ [])
  pub one_hyphen : ReadsWords (codes "-" ∷ []) None (codes "-" ∷ [])
  pub no_words : Refuses [] kind.MissingRequiredArgument
  pub no_image : Refuses (codes "--generate" ∷ codes "7" ∷ []) kind.MissingRequiredArgument
  pub value_missing : Refuses (codes "a" ∷ codes "--generate" ∷ []) kind.InvalidValue
  pub value_is_hyphens : Refuses (codes "--generate" ∷ codes "--" ∷ codes "a" ∷ []) kind.InvalidValue
  pub value_is_an_option : Refuses (codes "--generate" ∷ codes "-7" ∷ codes "a" ∷ []) kind.UnknownArgument
  pub given_twice : Refuses (codes "--generate=7" ∷ codes "--generate=7" ∷ codes "a" ∷ []) kind.ArgumentConflict
  pub unknown_option : Refuses (codes "a" ∷ codes "--images" ∷ []) kind.UnknownArgument
  pub unknown_letter : Refuses (codes "-g" ∷ codes "a" ∷ []) kind.UnknownArgument
  pub help : Refuses (codes "--help" ∷ []) kind.UnknownArgument
  pub zero : IsRefusedPath (100 ∷ 0 ∷ [])
  pub tab : IsRefusedPath (9 ∷ 100 ∷ [])
  pub line_feed : IsRefusedPath (112 ∷ 10 ∷ 111 ∷ 107 ∷ [])
  pub last_control : IsRefusedPath (31 ∷ [])
  pub blank : IsTakenPath (100 ∷ 32 ∷ 48 ∷ [])
  pub delete : IsTakenPath (127 ∷ [])
  pub beyond_ascii : IsTakenPath (195 ∷ 164 ∷ [])
