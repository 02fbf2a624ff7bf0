-- What a whole run of the program did.
use Rattle.std.specs.Prelude.{◌≡◌, ◌≢◌, ℕ, ◌+◌, ◌≤◌, Bool, true, false, List, [], ◌++◌, length, take, Option, Some, Result, Ok, Err}
use Rattle.std.specs.Option.{option_map}
use Rattle.std.specs.Str.Parse.{digits_value}
use Rattle.std.specs.Io.KnownBytes.{Appends, Consumes, IsAtEnd}
use Rattle.bay.specs.Readings.{Readings}
use Rattle.bay.specs.State.{BayState}
use Rattle.asm_group.specs.Names.{Bytes}
use Rattle.asm_world.specs.Generator.{generated, generated_script}
use Rattle.asm_world.specs.Run.{State, Resting, PrintedMove, IsGenerated, IsPrinted, IsPrintedToCut, end_of, output_of, answered, times_of, marks_in_history, has_refusal}
use Rattle.asm_world.specs.RunLaws.{RisesFrom}
use Rattle.asm_world.specs.World.{World}
use Rattle.command_line.specs.Command.{number_in}
use Rattle.command_line.specs.Paths.{WordBytes}
use Rattle.serving.specs.mounted_groups.Found.{Counts, counts_of}
use Rattle.script.specs.Script.{commands_of, ended_commands}
use Rattle.serving.specs.declared.stop.Stop.{Stop}
use Rattle.serving.specs.declared.stop.Stop.TheVariants.{ReadFault, WriteFault, NoMemory, TooLong}
use Rattle.serving.specs.session.Claims.{outside_with_counts, held_outside, IsProvedApartIn}
use Rattle.serving.specs.session.Effects.{Past}
use Rattle.serving.specs.session.Proved.{IsProvedIn}
use Rattle.serving.specs.session.Quiet.{quiet}
use Rattle.serving.specs.Serves.{limit, AreFirstCommands}
use Rattle.world_steps.specs.Runs.{AllFrom, IsRunFrom}
use Rattle.asm_run.specs.Crash.{StartsAs, AreHeld, IsCrashSafe}

-- the status of a script that was read
abbrev pub status_number : Result (Unit {0}) Stop → Bool → ℕ
status_number (Ok done) false = 0
status_number (Ok done) true = 1
status_number (Err ReadFault) refused = 3
status_number (Err WriteFault) refused = 4
status_number (Err NoMemory) refused = 5
status_number (Err TooLong) refused = 6

-- the number of `--generate` among words, where it is given; what isn't a number has some value too, and such words are refused
abbrev pub number_given : List WordBytes → Option ℕ
number_given words = option_map (digits_value 10) (number_in words)

-- no group is in the session, and its place is `+`
pub record IsFirstWorld (w : World) : Type 0 where
  pub no_entries : w.session ≡ []
  pub at_top : w.place ≡ []

-- the state in which a run begins
abbrev pub first_state : World → BayState → State Counts
first_state w bay = record { world = w; below = quiet; phase = Resting; time = 0; calls = bay.calls; counts = counts_of bay }

-- what a status says of the script's bytes, of the commands that were answered, and of the state at the end
pub record RunOutcome (status : ℕ) (script : Bytes) (history : List (PrintedMove Counts)) (left' : Option Bytes) (end : State Counts) : Type 0 where
  -- 2: nothing was read, and nothing done
  pub usage : status ≡ 2 → (script ≡ []) × (history ≡ [])
  -- 6: one byte past the limit was taken, and only then
  pub short : length script ≤ limit + 1
  pub too_long : status ≡ 6 → length script ≡ limit + 1
  pub past_limit : length script ≡ limit + 1 → status ≡ 6
  -- 0 and 1: the script was read to its end, and all its commands were answered
  pub to_end : status ≤ 1 → IsAtEnd left'
  pub all_answered : status ≤ 1 → answered history ≡ commands_of script
  pub no_refusal : status ≡ 0 → has_refusal history ≡ false
  pub some_refusal : status ≡ 1 → has_refusal history ≡ true
  -- 3 and 6: each command whose end was taken, or is among the bytes that are allowed, was answered
  pub at_fault : status ≡ 3 → answered history ≡ ended_commands script
  pub at_limit : status ≡ 6 → answered history ≡ ended_commands (take limit script)
  -- always: no command was answered before its end was taken, but at the source's end
  pub front : AreFirstCommands (take limit script) (answered history) left'
  -- but where the sink failed or memory was short, all was printed, and nothing more is due
  pub whole : status ≢ 4 → status ≢ 5 → IsPrinted history
  pub rests : status ≢ 4 → status ≢ 5 → end.phase ≡ Resting

-- The bytes that were taken from the source, and the moves of the session with what was printed of each. The fields tie them to the
-- source, the sink, the clock, the disks and the report, each as it was before the run and after it. `Told` says how texts are told.
pub record Transcript {C : Type 0} (gives : C → ℕ → C → Type 0) (paths : List Bytes) (Told : List (PrintedMove Counts) → Type 0) (status : ℕ) (marks : List ℕ) (left left' taken taken' : Option Bytes)
    (clock clock' : C) (old new : BayState) (w : World) : Type 0 where
  pub script : Bytes
  pub history : List (PrintedMove Counts)
  pub end : State Counts
  pub consumed : Consumes left left' script
  -- each text is told so, up to a cut
  pub written : Appends taken taken' (output_of history)
  pub told : Told history
  pub printed : IsPrintedToCut history
  -- Up to the first that isn't proved, each move is one that the world may make, and each reply has its cause. An edit, a write of bytes, and
  -- a command that shows a group or goes into one count as proved in a state in which each mounted group is alone under its id.
  pub run : IsRunFrom (outside_with_counts paths new.leaves) IsProvedIn (first_state w old) history
  -- The same where the images at the start stand for the world, also of what asks the disks, up to the first move that isn't proved so: what
  -- is proved in any case, dbread, and MOUNT. A mount counts as proved so in a state in which each mounted group is alone under its id, and so
  -- is each group of the name that isn't mounted. In the moments that end in these moves each image stands for groups between, of a write of
  -- bytes also for the one with the span free.
  pub on_disks : (known : ℕ → Bool) → StartsAs known old w → IsRunFrom (held_outside paths new.leaves) (IsProvedApartIn known) (first_state w old) history
  pub ends : end_of (first_state w old) history ≡ end
  pub times : Readings gives clock (times_of history) clock'
  pub calls_are : end.calls ≡ new.calls
  pub counts_are : end.counts ≡ counts_of new
  pub past : Past old new
  pub marks_are : marks ≡ marks_in_history history
  pub marks_rise : RisesFrom old.calls marks
  -- Where the images at the start stand for the world, each stop in the first moves leaves groups between, as long as each of these is
  -- proved and meets its premises in the state before it.
  pub crash_before : (known : ℕ → Bool) → StartsAs known old w → (before rest : List (PrintedMove Counts)) → history ≡ before ++ rest → AllFrom (IsProvedApartIn known) (first_state w old) before
      → AreHeld paths new.leaves (first_state w old) before
  -- the same of all moves, and of what a stop now leaves
  pub crash : (known : ℕ → Bool) → StartsAs known old w → AllFrom (IsProvedApartIn known) (first_state w old) history → IsCrashSafe paths new.leaves (first_state w old) history
  pub outcome : RunOutcome status script history left' end

-- Under --generate the generator's text stands for the bytes that a source has left, and a rest of it for those that are left at the
-- end. Each text is short, but the reply to the last command.
pub record GeneratedRun {C : Type 0} (gives : C → ℕ → C → Type 0) (number : ℕ) (paths : List Bytes) (status : ℕ) (marks : List ℕ) (taken taken' : Option Bytes)
    (clock clock' : C) (old new : BayState) (w : World) : Type 0 where
  pub rest : Bytes
  pub transcript : Transcript gives paths (IsGenerated (length (generated number paths))) status marks (Some (generated_script number paths)) (Some rest)
      taken taken' clock clock' old new w
  -- 0 and 1: all the generator's commands were answered
  pub all_answered : status ≤ 1 → answered transcript.history ≡ generated number paths
