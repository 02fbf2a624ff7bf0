-- What holds of all runs.
use Rattle.std.specs.Prelude.{◌⊎◌, ◌≡◌, ◌↔◌, ⊤, ℕ, ◌<◌, ◌≤◌, Bool, true, false, List, [], ◌∷◌, ◌++◌}
use Rattle.asm_group.specs.Names.{Bytes}
use Rattle.asm_group.specs.Group.{Group}
use Rattle.asm_group.specs.Refusal.{NoMemory}
use Rattle.asm_world.specs.Below.{Below, Found}
use Rattle.asm_world.specs.Between.{groups_between}
use Rattle.asm_world.specs.Command.{Command}
use Rattle.asm_world.specs.Reply.{Reply, Refused}
use Rattle.asm_world.specs.Step.{Step}
use Rattle.asm_world.specs.Waits.{HasLines}
use Rattle.asm_world.specs.World.{World, groups_of}
use Rattle.asm_world.specs.Run.{Outside, State, PrintedMove, SessionMove, Answers, Starts, Expires, Slices, Rests, Stops, IsMove, IsRun, IsRunWhile, AllMoves, CallsRise, AreMountedThere, HeldBy, end_of, marks_in_history}

-- A run of some moves and then of others is a run of them all, and each run of them all is that.
abbrev pub RunsJoin : {Counts Image : Type 0} → Outside Counts Image → Type 0
RunsJoin {Counts = Counts} out = (s : State Counts) (first rest : List (PrintedMove Counts))
    → (IsRun out s first × IsRun out (end_of s first) rest) ↔ IsRun out s (first ++ rest)

-- From the end of any front of the moves on, as from a reply's mark, an image that a stop may leave stands for groups between
-- the worlds before and after one of the moves that come later, in which its moment ends.
abbrev pub MomentsAreHeld : {Counts Image : Type 0} → Outside Counts Image → Type 0
MomentsAreHeld {Counts = Counts} {Image = Image} out = (s : State Counts) (first rest : List (PrintedMove Counts)) (m : ℕ) (image : Image)
    → IsRun out s (first ++ rest) → (end_of s first).calls ≤ m → m < (end_of s (first ++ rest)).calls → out.leaves m image → HeldBy out (end_of s first) rest m image

-- In a moment that ends in a move, each group that is mounted before that move and after it is there.
abbrev pub MountedAreThere : {Counts Image : Type 0} → Outside Counts Image → Type 0
MountedAreThere {Counts = Counts} {Image = Image} out = (s : State Counts) (before rest : List (PrintedMove Counts)) (e : PrintedMove Counts) (m : ℕ) (image : Image)
    → IsRun out s (before ++ e ∷ rest) → (end_of s before).calls ≤ m → m < e.after.calls → out.leaves m image → AreMountedThere out (end_of s before) e.after image

abbrev pub is_answer : SessionMove → Bool
is_answer (Answers found text reply) = true
is_answer (Starts time) = false
is_answer (Expires event) = false
is_answer (Slices event) = false
is_answer Rests = false
is_answer Stops = false

-- no command is answered
abbrev pub IsQuiet : {Counts : Type 0} → List (PrintedMove Counts) → Type 0
IsQuiet [] = ⊤
IsQuiet (e ∷ es) = (is_answer e.move ≡ false) × IsQuiet es

-- Moves that answer no command leave all groups.
abbrev pub QuietMovesLeaveGroups : {Counts Image : Type 0} → Outside Counts Image → Type 0
QuietMovesLeaveGroups {Counts = Counts} out = (s : State Counts) (quiet : List (PrintedMove Counts))
    → IsRun out s quiet → IsQuiet quiet → (end_of s quiet).world.groups ≡ s.world.groups

-- An image of a moment in which no command is answered stands for the groups that the world has.
abbrev pub QuietMomentsAreHeld : {Counts Image : Type 0} → Outside Counts Image → Type 0
QuietMomentsAreHeld {Counts = Counts} {Image = Image} out = (s : State Counts) (quiet : List (PrintedMove Counts)) (m : ℕ) (image : Image) (id : ℕ)
    → IsRun out s quiet → IsQuiet quiet → s.calls ≤ m → m < (end_of s quiet).calls → out.leaves m image → out.allows id (groups_of s.world id) image

-- the moves up to an answer, and those behind it
pub record AtAnswer {Counts : Type 0} (history : List (PrintedMove Counts)) : Type 0 where
  pub quiet : List (PrintedMove Counts)
  pub answer : PrintedMove Counts
  pub others : List (PrintedMove Counts)
  pub split : history ≡ quiet ++ answer ∷ others
  pub is_quiet : IsQuiet quiet
  pub is_answer : is_answer answer.move ≡ true

-- In a row of moves no command is answered, or there is a first answer.
abbrev pub HistoriesSplit : Type 0 → Type 0
HistoriesSplit Counts = (history : List (PrintedMove Counts)) → IsQuiet history ⊎ AtAnswer history

-- an image that may stand for some groups may stand for more
abbrev pub Grows : {Counts Image : Type 0} → Outside Counts Image → Type 0
Grows {Image = Image} out = (id : ℕ) (groups more : List Group) (image : Image) → out.allows id groups image → out.allows id (groups ++ more) image

-- From one reply to the end of the next command: an image of a moment in between stands for groups between the worlds before and after that command.
abbrev pub BetweenReplies : {Counts Image : Type 0} → Outside Counts Image → Type 0
BetweenReplies {Counts = Counts} {Image = Image} out = (s t : State Counts) (quiet : List (PrintedMove Counts)) (found : Found) (text : Bytes) (reply : Reply)
    → Grows out → IsRun out s quiet → IsQuiet quiet → IsMove out (end_of s quiet) (Answers found text reply) t
    → (m : ℕ) (image : Image) (id : ℕ) → s.calls ≤ m → m < t.calls → out.leaves m image
    → out.allows id (groups_between (end_of s quiet).world (out.means text) t.world id) image

-- each number is at least the one before it, and the first at least `low`
abbrev pub RisesFrom : ℕ → List ℕ → Type 0
RisesFrom low [] = ⊤
RisesFrom low (n ∷ ns) = (low ≤ n) × RisesFrom n ns

-- Marks never fall.
abbrev pub MarksRise : {Counts Image : Type 0} → Outside Counts Image → Type 0
MarksRise {Counts = Counts} out = (s : State Counts) (history : List (PrintedMove Counts)) → IsRun out s history → RisesFrom s.calls (marks_in_history history)

-- ---- moves up to the first that doesn't meet a premise

-- All of some moves and of others meet it exactly where all of both do.
abbrev pub PremisesJoin : Type 0 → (SessionMove → Type 0) → Type 0
PremisesJoin Counts premise = (first rest : List (PrintedMove Counts)) → (AllMoves premise first × AllMoves premise rest) ↔ AllMoves premise (first ++ rest)

-- They are a run in some moves, and in others behind these if all of these meet it, exactly where they are in all of both.
abbrev pub WhilesJoin : {Counts Image : Type 0} → Outside Counts Image → (SessionMove → Type 0) → Type 0
WhilesJoin {Counts = Counts} out premise = (s : State Counts) (first rest : List (PrintedMove Counts))
    → (IsRunWhile out premise s first × (AllMoves premise first → IsRunWhile out premise (end_of s first) rest)) ↔ IsRunWhile out premise s (first ++ rest)

-- Where all moves meet it, this says that they are a run.
abbrev pub WhilesAreRuns : {Counts Image : Type 0} → Outside Counts Image → (SessionMove → Type 0) → Type 0
WhilesAreRuns {Counts = Counts} out premise = (s : State Counts) (history : List (PrintedMove Counts))
    → AllMoves premise history → IsRunWhile out premise s history ↔ IsRun out s history

-- What is told later of ended moments changes nothing, as long as it allows no more images.
abbrev pub WhilesStay : {Counts Image : Type 0} → Outside Counts Image → (SessionMove → Type 0) → (ℕ → Image → Type 0) → Type 0
WhilesStay {Counts = Counts} {Image = Image} out premise later = (s : State Counts) (history : List (PrintedMove Counts))
    → ((m : ℕ) (image : Image) → m < (end_of s history).calls → later m image → out.leaves m image)
    → CallsRise s history → IsRunWhile out premise s history → IsRunWhile (record out { leaves = later }) premise s history

-- ---- counts of calls

-- What holds of the counts of calls of all moves, proved or not.
pub record CallsGrow (Counts : Type 0) : Type 0 where
  -- the count at the end is at least the first
  pub reaches : (s : State Counts) (history : List (PrintedMove Counts)) → CallsRise s history → s.calls ≤ (end_of s history).calls
  -- one row of moves behind another
  pub join : (s : State Counts) (first rest : List (PrintedMove Counts)) → (CallsRise s first × CallsRise (end_of s first) rest) ↔ CallsRise s (first ++ rest)
  -- then marks never fall
  pub marks : (s : State Counts) (history : List (PrintedMove Counts)) → CallsRise s history → RisesFrom s.calls (marks_in_history history)

-- a run is such a row
abbrev pub RunsCallMore : {Counts Image : Type 0} → Outside Counts Image → Type 0
RunsCallMore {Counts = Counts} out = (s : State Counts) (history : List (PrintedMove Counts)) → IsRun out s history → CallsRise s history

-- ---- want of memory

-- Want of memory may be the answer to any command: it may leave the world, and then it has no lines.
pub record MemoryMayBeShort (below : Below) (w : World) (command : Command) : Type 0 where
  pub stays : Step below w command (Refused [] NoMemory) w
  pub no_lines : HasLines below w command (Refused [] NoMemory)

abbrev pub MemoryIsShortAnywhere : Type 0
MemoryIsShortAnywhere = (below : Below) (w : World) (command : Command) → MemoryMayBeShort below w command
