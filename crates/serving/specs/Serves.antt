-- Reading a script and answering it.
use Rattle.std.specs.Prelude.{◌≡◌, ◌⊎◌, ℕ, ◌+◌, ◌≤◌, ⊤, Bool, true, false, List, [], ◌++◌, length, take, Option, IfErr, Result, Ok, Err}
use Rattle.std.specs.Io.KnownBytes.{Consumes, IsAtEnd}
use Rattle.bay.specs.Counts.{Rose}
use Rattle.asm_group.specs.Names.{Bytes}
use Rattle.script.specs.Script.{ScriptPlace, cut, commands_of, ended_commands}
use Rattle.serving.specs.declared.stop.Stop.{Stop}
use Rattle.serving.specs.declared.stop.Stop.TheVariants.{ReadFault, WriteFault, NoMemory, TooLong}
use Rattle.serving.specs.Acts.{Scene, Acts}

-- the most bytes that a script may have
abbrev pub limit : ℕ
limit = 67108864

-- what one read took, by its answer: so many bytes that are now pending, or the first byte past the limit
abbrev pub IsReadPiece : Result ℕ Stop → ℕ → List ℕ → List ℕ → List ℕ → Option (List ℕ) → Type 0
IsReadPiece (Ok count) room taken old new left = (new ≡ old ++ taken) × (length taken ≡ count) × (count ≤ room) × (count ≡ 0 → IsAtEnd left)
IsReadPiece (Err ReadFault) room taken old new left = taken ≡ []
IsReadPiece (Err NoMemory) room taken old new left = length taken ≤ room
IsReadPiece (Err TooLong) room taken old new left = (room ≡ 0) × (length taken ≡ 1)
IsReadPiece (Err WriteFault) room taken old new left = ⊥

abbrev pub IsInputStop : Stop → ℕ → ℕ → Type 0
IsInputStop ReadFault before after = Rose before after
IsInputStop WriteFault before after = ⊤
IsInputStop NoMemory before after = ⊤
IsInputStop TooLong before after = ⊤

-- a read fault stops the program only where the source failed
pub record StopsByInput {T : Type 0} (result : Result T Stop) (before after : ℕ) : Type 0 where
  pub later : before ≤ after
  pub failed : IfErr result (λ stop. IsInputStop stop before after)

-- every text was printed whole, and nothing more is due
abbrev pub is_printed_whole : Result (Unit {0}) Stop → Bool
is_printed_whole (Ok done) = true
is_printed_whole (Err ReadFault) = true
is_printed_whole (Err WriteFault) = false
is_printed_whole (Err NoMemory) = false
is_printed_whole (Err TooLong) = true

-- The commands are the first of these bytes from a place on, whatever follows, and the rest is left with a place.
abbrev pub BeginsFrom : ScriptPlace → List ℕ → List Bytes → ScriptPlace → List ℕ → Type 0
BeginsFrom from bytes commands to rest = (closed : Bool) (more : List ℕ) → cut closed from (bytes ++ more) ≡ commands ++ cut closed to (rest ++ more)

-- the commands are the first of those that end among these bytes, or, at the source's end, of the whole script
abbrev pub AreFirstCommands : List ℕ → List Bytes → Option (List ℕ) → Type 0
AreFirstCommands taken commands left = ((rest : List Bytes) × (ended_commands taken ≡ commands ++ rest))
    ⊎ (IsAtEnd left × ((rest : List Bytes) × (commands_of taken ≡ commands ++ rest)))

-- which commands were answered
abbrev pub AreCommandsAnswered : Result (Unit {0}) Stop → List ℕ → List Bytes → Option (List ℕ) → Type 0
AreCommandsAnswered (Ok done) taken commands left = (length taken ≤ limit) × IsAtEnd left × (commands ≡ commands_of taken)
AreCommandsAnswered (Err ReadFault) taken commands left = (length taken ≤ limit) × (commands ≡ ended_commands taken)
AreCommandsAnswered (Err TooLong) taken commands left = (length taken ≡ limit + 1) × (commands ≡ ended_commands (take limit taken))
AreCommandsAnswered (Err WriteFault) taken commands left = (length taken ≤ limit) × AreFirstCommands taken commands left
AreCommandsAnswered (Err NoMemory) taken commands left = (length taken ≤ limit) × AreFirstCommands taken commands left

-- bytes were taken from the source, and commands of them were answered
pub record Serves {C : Type 0} (gives : C → ℕ → C → Type 0) (paths : List Bytes) (result : Result (Unit {0}) Stop) (left left' : Option (List ℕ)) (old new : Scene C) : Type 0 where
  pub taken : List ℕ
  pub commands : List Bytes
  pub consumed : Consumes left left' taken
  pub are_answered : AreCommandsAnswered result taken commands left'
  pub acts : Acts gives paths (is_printed_whole result) commands old new
