-- What a part of the program does: the moves that it makes, what it prints of them, and what the disks hold in their moments.
use Rattle.std.specs.Prelude.{◌≡◌, ◌||◌, ℕ, Bool, MatchBool, List, ◌++◌, length, Option}
use Rattle.std.specs.Io.KnownBytes.{Appends}
use Rattle.bay.specs.State.{BayState}
use Rattle.bay.specs.Readings.{Readings}
use Rattle.asm_group.specs.Names.{Bytes}
use Rattle.asm_world.specs.World.{World}
use Rattle.asm_world.specs.Run.{State, Phase, PrintedMove, CallsRise, end_of, IsPrinted, IsPrintedToCut, output_of, answered, times_of, marks_in_history, has_refusal}
use Rattle.disk_commands.specs.mounted_groups.Found.{Counts, counts_of}
use Rattle.disk_commands.specs.session.Claims.{outside_with_counts, held_outside, IsProvedApartIn}
use Rattle.serving.specs.declared.manner.Manner.{Manner}
use Rattle.disk_commands.specs.session.Effects.{Past}
use Rattle.serving.specs.Manners.{AreTold, after_moves}
use Rattle.disk_commands.specs.session.Proved.{IsProvedIn}
use Rattle.disk_commands.specs.session.Sessions.{Roster}
use Rattle.group_commands.specs.session_claims.Claims.{StandsFor}
use Rattle.world_steps.specs.Runs.{AllFrom, IsRunFrom}
use Rattle.asm_world.specs.Below.{GroupBelow}

-- All that a part of the program may change: the session, its groups as they are mounted and the least id that it hasn't given, the disks,
-- what the sink has taken, the clock, the marks, whether a reply was a refusal, and how texts are told.
pub record Scene (C : Type 0) : Type 1 where
  pub world : World
  -- of the groups that are mounted, by their ids
  pub below : ℕ → GroupBelow
  pub phase : Phase
  pub time : ℕ
  pub roster : Roster
  pub bay : BayState
  pub taken : Option (List ℕ)
  pub clock : C
  pub marks : List ℕ
  pub refused : Bool
  pub manner : Manner

abbrev pub scene : {C : Type 0} → World → (ℕ → GroupBelow) → Phase → ℕ → Roster → BayState → Option (List ℕ) → C → List ℕ → Bool → Manner → Scene C
scene world below phase time roster bay taken clock marks refused manner =
    record { world = world; below = below; phase = phase; time = time; roster = roster; bay = bay; taken = taken; clock = clock; marks = marks; refused = refused; manner = manner }

-- the session's state in a scene
abbrev pub scene_state : {C : Type 0} → Scene C → State Counts
scene_state s = record { world = s.world; below = s.below; phase = s.phase; time = s.time; calls = s.bay.calls; counts = counts_of s.bay }

-- Up to the first move that isn't proved, the images of each moment that ends in these moves stand for groups between; where all are
-- proved, those of the moment that lasts stand for the world's.
pub record Holding (known : ℕ → Bool) (paths : List Bytes) (s : State Counts) (history : List (PrintedMove Counts)) (roster : Roster) (new : BayState) (world : World) : Type 0 where
  pub held : IsRunFrom (held_outside paths new.leaves) (IsProvedApartIn known) s history
  pub now : AllFrom (IsProvedApartIn known) s history → StandsFor (length paths) known roster.given new world roster.groups

-- Moves that answer these commands lead from old to new, and those before the first that isn't proved are a run. Their texts were
-- told in the manner of the program, whole or up to a cut.
pub record Acts {C : Type 0} (gives : C → ℕ → C → Type 0) (paths : List Bytes) (whole : Bool) (commands : List Bytes) (old new : Scene C) : Type 0 where
  pub history : List (PrintedMove Counts)
  pub run : IsRunFrom (outside_with_counts paths new.bay.leaves) IsProvedIn (scene_state old) history
  pub calls_rise : CallsRise (scene_state old) history
  pub ends : end_of (scene_state old) history ≡ scene_state new
  pub commands_are : answered history ≡ commands
  pub past : Past old.bay new.bay
  pub holds : (known : ℕ → Bool) → StandsFor (length paths) known old.roster.given old.bay old.world old.roster.groups → Holding known paths (scene_state old) history new.roster new.bay new.world
  pub told : AreTold old.manner history
  pub manner_is : new.manner ≡ after_moves old.manner history
  pub printed : MatchBool whole (IsPrinted history) (IsPrintedToCut history)
  pub written : Appends old.taken new.taken (output_of history)
  pub readings : Readings gives old.clock (times_of history) new.clock
  pub marks_grow : new.marks ≡ old.marks ++ marks_in_history history
  pub refusal : new.refused ≡ (old.refused || has_refusal history)
