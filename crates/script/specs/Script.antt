-- How a script is cut into commands.
use Rattle.std.specs.Prelude.{◌==◌, ℕ, Bool, true, false, if◌then◌else◌, List, [], ◌∷◌, ◌&&◌}
use Rattle.asm_grammar.specs.Bytes.{is_blank}
use Rattle.asm_grammar.specs.FirstWord.{opens_statement}

-- the bytes begin with --
abbrev pub begins_comment : List ℕ → Bool
begins_comment [] = false
begins_comment (b ∷ []) = false
begins_comment (b ∷ c ∷ bs) = (b == 45) && (c == 45)

-- where a byte of a script stands: between commands, in a comment line, in a command that its line ends,
-- in a statement outside single quotes, or inside them
pub data ScriptPlace : Type 0 where
  between : ScriptPlace
  comment : ScriptPlace
  line : ScriptPlace
  in_statement : ScriptPlace
  in_quotes : ScriptPlace

-- the place of the first byte, where no command stands open
abbrev pub place_of_first_byte : List ℕ → ScriptPlace
place_of_first_byte [] = between
place_of_first_byte (b ∷ bs) = if is_blank b then between
    else (if begins_comment (b ∷ bs) then comment
    else (if opens_statement (b ∷ bs) then in_statement else line))

-- b goes onto the front of the first command
abbrev pub onto : ℕ → List (List ℕ) → List (List ℕ)
onto b [] = []
onto b (command ∷ commands) = (b ∷ command) ∷ commands

-- b goes onto the first command, where its place is in a command
abbrev pub onto_at : ScriptPlace → ℕ → List (List ℕ) → List (List ℕ)
onto_at between b commands = commands
onto_at comment b commands = commands
onto_at line b commands = onto b commands
onto_at in_statement b commands = onto b commands
onto_at in_quotes b commands = onto b commands

-- what an open command becomes where the bytes end: it ends too, or it is left out
abbrev pub unended : Bool → List (List ℕ)
unended true = [] ∷ []
unended false = []

-- The commands in the bytes from a place on. Where a command stands open there, the first is its rest.
-- `closed` says that the script ends with the bytes.
unfoldable pub cut : Bool → ScriptPlace → List ℕ → List (List ℕ)
cut closed between [] = []
cut closed comment [] = []
cut closed line [] = unended closed
cut closed in_statement [] = unended closed
cut closed in_quotes [] = unended closed
cut closed between (b ∷ bs) = let place = place_of_first_byte (b ∷ bs) in onto_at place b (cut closed place bs)
cut closed comment (b ∷ bs) = cut closed (if b == 10 then between else comment) bs
cut closed line (b ∷ bs) = let rest = cut closed (if b == 10 then between else line) bs in
    if b == 10 then [] ∷ rest else onto b rest
cut closed in_statement (b ∷ bs) = let rest = cut closed (if b == 59 then between else (if b == 39 then in_quotes else in_statement)) bs in
    if b == 59 then (b ∷ []) ∷ rest else onto b rest
cut closed in_quotes (b ∷ bs) = onto b (cut closed (if b == 39 then in_statement else in_quotes) bs)

-- the commands of a whole script
abbrev pub commands_of : List ℕ → List (List ℕ)
commands_of script = cut true between script

-- the commands of a script that begins so whose ends are among these bytes
abbrev pub ended_commands : List ℕ → List (List ℕ)
ended_commands bytes = cut false between bytes
