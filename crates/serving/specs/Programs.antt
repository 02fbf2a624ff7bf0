-- What the program does, from one value of it to the next.
use Rattle.std.specs.Prelude.{◌≡◌, ℕ, true, List, [], ◌∷◌, ◌++◌, Option, Result, OnOk, is_ok}
use Rattle.bay.specs.declared.disk.Bay as Bay
use Rattle.bay.specs.declared.host.Host as Host
use Rattle.bay.specs.declared.stream.Sink as Sink
use Rattle.bay.specs.declared.stream.Clock as Clock
use Rattle.asm_group.specs.Names.{Bytes}
use Rattle.asm_world.specs.World.{World}
use Rattle.asm_world.specs.Run.{AllMoves, Phase, Resting, Expiring, Slicing, mounted_groups, slices_of}
use Rattle.script.specs.Script.{ScriptPlace, cut}
use Rattle.serving.specs.declared.program.Program.{Program}
use Rattle.serving.specs.declared.stop.Stop.{Stop}
use Rattle.serving.specs.Acts.{Scene, scene, Acts}
use Rattle.disk_commands.specs.session.Desks.{paths_on}
use Rattle.serving.specs.Serves.{BeginsFrom, Serves, is_printed_whole}
use Rattle.disk_commands.specs.session.Sessions.{AreReady, Knows, roster_of}
use Rattle.serving.specs.Stops.{IsCommandOrNone, StopsByOutput}
use Rattle.disk_commands.specs.group_turns.Turns.{TurnMoment, IsTurnMove, phase_at}
use Rattle.asm_world.specs.Below.{GroupBelow}

-- the program with the world that it works on
abbrev pub scene_of : {B H K C : Type 0} {bay : Bay.Ghosts B} {host : Host.Ghosts H} {sink : Sink.Ghosts K} {clock : Clock.Ghosts C} → World → (ℕ → GroupBelow) → Phase → ℕ → Program B H K C bay host sink clock → Scene C
scene_of {bay = bay} {sink = sink} w below phase time p = scene w below phase time (roster_of p.desk.session) (bay.state p.desk.bay) (sink.taken p.sink) p.clock p.marks.items p.refused p.manner

-- for whatever world the program knows, with what is below its groups, and whatever time
abbrev pub EachWorld : {B H K C : Type 0} {bay : Bay.Ghosts B} {host : Host.Ghosts H} {sink : Sink.Ghosts K} {clock : Clock.Ghosts C} → Program B H K C bay host sink clock → (World → (ℕ → GroupBelow) → ℕ → Type 0) → Type 0
EachWorld p claim = (w : World) (below : ℕ → GroupBelow) (time : ℕ) → Knows p.desk.session w below → claim w below time

-- Groups took turns, before a command's text or after its reply, and the lines of what happened were printed. The moves are events,
-- or the end for want of memory.
pub record TellsEvents {B H K C : Type 0} {bay : Bay.Ghosts B} {host : Host.Ghosts H} {sink : Sink.Ghosts K} {clock : Clock.Ghosts C} {T : Type 0} (result : Result T Stop) (when : TurnMoment) (old new : Program B H K C bay host sink clock) (w : World) (below : ℕ → GroupBelow) (time : ℕ) : Type 0 where
  pub w' : World
  pub below' : ℕ → GroupBelow
  pub phase : Phase
  pub knows : Knows new.desk.session w' below'
  pub rests : OnOk result (phase ≡ phase_at when w'.session)
  pub acts : Acts clock.gives (paths_on old.desk) (is_ok result) [] (scene_of w below (phase_at when w.session) time old) (scene_of w' below' phase time new)
  pub events : AllMoves (IsTurnMove when) acts.history

-- All that is said of turns: besides, the groups take the next call, and the paths, the host and the marks are as they were.
pub record TellsTurns {B H K C : Type 0} {bay : Bay.Ghosts B} {host : Host.Ghosts H} {sink : Sink.Ghosts K} {clock : Clock.Ghosts C} {T : Type 0} (result : Result T Stop) (when : TurnMoment) (old new : Program B H K C bay host sink clock) : Type 0 where
  pub ready : AreReady new.desk.session.groups (bay.state new.desk.bay)
  pub paths : paths_on new.desk ≡ paths_on old.desk
  pub host_stays : new.desk.host ≡ old.desk.host
  pub marks_stay : new.marks ≡ old.marks
  pub tells : EachWorld old (TellsEvents result when old new)
  pub cause : StopsByOutput result (sink.faults old.sink) (sink.faults new.sink)

-- one command was answered, as far as its reply was printed
pub record AnswersOne {B H K C : Type 0} {bay : Bay.Ghosts B} {host : Host.Ghosts H} {sink : Sink.Ghosts K} {clock : Clock.Ghosts C} (result : Result (Unit {0}) Stop) (text : Bytes) (old new : Program B H K C bay host sink clock) (w : World) (below : ℕ → GroupBelow) (time : ℕ) : Type 0 where
  pub w' : World
  pub below' : ℕ → GroupBelow
  pub phase : Phase
  pub knows : Knows new.desk.session w' below'
  pub rests : OnOk result (phase ≡ Slicing (slices_of (mounted_groups w'.session)))
  pub acts : Acts clock.gives (paths_on old.desk) (is_ok result) (text ∷ []) (scene_of w below (Expiring (mounted_groups w.session)) time old) (scene_of w' below' phase time new)

-- one command ran whole, or a part of it
pub record RunsOne {B H K C : Type 0} {bay : Bay.Ghosts B} {host : Host.Ghosts H} {sink : Sink.Ghosts K} {clock : Clock.Ghosts C} (result : Result (Unit {0}) Stop) (text : Bytes) (old new : Program B H K C bay host sink clock) (w : World) (below : ℕ → GroupBelow) (time : ℕ) : Type 0 where
  pub w' : World
  pub below' : ℕ → GroupBelow
  pub phase : Phase
  pub time' : ℕ
  pub commands : List Bytes
  pub knows : Knows new.desk.session w' below'
  pub rests : OnOk result (phase ≡ Resting)
  pub part : IsCommandOrNone (is_ok result) text commands
  pub acts : Acts clock.gives (paths_on old.desk) (is_ok result) commands (scene_of w below Resting time old) (scene_of w' below' phase time' new)

-- the commands that have ended among some bytes were answered, and of these a rest is left
pub record AnswersEnded {B H K C : Type 0} {bay : Bay.Ghosts B} {host : Host.Ghosts H} {sink : Sink.Ghosts K} {clock : Clock.Ghosts C} (result : Result (Unit {0}) Stop) (from to : ScriptPlace) (bytes rest : List ℕ)
    (old new : Program B H K C bay host sink clock) (w : World) (below : ℕ → GroupBelow) (time : ℕ) : Type 0 where
  pub w' : World
  pub below' : ℕ → GroupBelow
  pub phase : Phase
  pub time' : ℕ
  pub commands : List Bytes
  pub left : List ℕ
  pub place : ScriptPlace
  pub knows : Knows new.desk.session w' below'
  pub rests : OnOk result (phase ≡ Resting)
  pub begins : BeginsFrom from bytes commands place left
  pub there : OnOk result ((place ≡ to) × (left ≡ rest))
  pub acts : Acts clock.gives (paths_on old.desk) (is_ok result) commands (scene_of w below Resting time old) (scene_of w' below' phase time' new)

-- the commands that the end of the script ends were answered
pub record AnswersLast {B H K C : Type 0} {bay : Bay.Ghosts B} {host : Host.Ghosts H} {sink : Sink.Ghosts K} {clock : Clock.Ghosts C} (result : Result (Unit {0}) Stop) (from : ScriptPlace) (bytes : List ℕ)
    (old new : Program B H K C bay host sink clock) (w : World) (below : ℕ → GroupBelow) (time : ℕ) : Type 0 where
  pub w' : World
  pub below' : ℕ → GroupBelow
  pub phase : Phase
  pub time' : ℕ
  pub commands : List Bytes
  pub rest : List Bytes
  pub knows : Knows new.desk.session w' below'
  pub rests : OnOk result (phase ≡ Resting)
  pub last : cut true from bytes ≡ commands ++ rest
  pub all : OnOk result (rest ≡ [])
  pub acts : Acts clock.gives (paths_on old.desk) (is_ok result) commands (scene_of w below Resting time old) (scene_of w' below' phase time' new)

-- a script was read and answered
pub record ServesAll {B H K C : Type 0} {bay : Bay.Ghosts B} {host : Host.Ghosts H} {sink : Sink.Ghosts K} {clock : Clock.Ghosts C} (result : Result (Unit {0}) Stop) (left left' : Option (List ℕ))
    (old new : Program B H K C bay host sink clock) (w : World) (below : ℕ → GroupBelow) (time : ℕ) : Type 0 where
  pub w' : World
  pub below' : ℕ → GroupBelow
  pub phase : Phase
  pub time' : ℕ
  pub knows : Knows new.desk.session w' below'
  pub rests : is_printed_whole result ≡ true → phase ≡ Resting
  pub serves : Serves clock.gives (paths_on old.desk) result left left' (scene_of w below Resting time old) (scene_of w' below' phase time' new)
