-- Runs: the moves of a session one after another, with the state after each, and what is printed of them.
use Rattle.std.specs.Prelude.{◌≡◌, ◌⊎◌, ⊤, ℕ, ◌-◌, ◌<◌, ◌≤◌, ◌==◌, Bool, true, false, if◌then◌else◌, List, [], ◌∷◌, ◌++◌, Option, Some, None, is_some}
use Rattle.std.specs.List.{flat_map, filter_map, list_any}
use Rattle.std.specs.Str.{bytes_eq}
use Rattle.asm_group.specs.Names.{Bytes}
use Rattle.asm_group.specs.Group.{Group}
use Rattle.asm_group.specs.Refusal as r
use Rattle.asm_world.specs.Below.{GroupBelow, Found}
use Rattle.asm_world.specs.Between.{groups_between}
use Rattle.asm_world.specs.Causes.{HasCause}
use Rattle.asm_world.specs.Command.{Command}
use Rattle.asm_world.specs.Reply.{Reply, Done, Refused, Rebalanced, MoveEnds, Resynced, SyncEnds, Event, Expired, ExpiryEnds, Moved, Synced}
use Rattle.asm_world.specs.Step.{Step}
use Rattle.asm_world.specs.Text.{reply_text, short_text, event_text}
use Rattle.asm_world.specs.Waits.{HasLines}
use Rattle.asm_world.specs.World.{SessionEntry, World, is_mounted, entry_in, groups_of, has_mounted, with_dismounted}

-- ---- states and moves

-- a slice that may be due after a reply: of the resync or of the rebalance of a group
pub data Slice : Type 0 where
  Resync : (group : Bytes) → Slice
  Rebalance : (group : Bytes) → Slice

-- where the session stands
pub data Phase : Type 0 where
  -- between commands
  Resting : Phase
  -- before a command runs: expired disks of these groups are still to be dropped
  Expiring : (groups : List Bytes) → Phase
  -- after its reply: these slices are still to be looked at
  Slicing : (slices : List Slice) → Phase
  -- at its end, for want of memory
  Stopped : Phase

pub data SessionMove : Type 0 where
  -- a command comes, and the clock gives a time
  Starts : (time : ℕ) → SessionMove
  -- before the command: a disk that expired is dropped, or its group is dismounted by that
  Expires : (event : Event) → SessionMove
  -- the command is answered, with what it found of ids by then
  Answers : (found : Found) (text : Bytes) (reply : Reply) → SessionMove
  -- after the reply: a slice is done
  Slices : (event : Event) → SessionMove
  -- nothing more is due
  Rests : SessionMove
  -- memory is short in an expiry or in a slice, which ends the run
  Stops : SessionMove

-- The state of a session, with the number of calls on the disks by then, and whatever else is counted.
pub record State (Counts : Type 0) : Type 0 where
  pub world : World
  -- of the groups that are mounted, by their ids
  pub below : ℕ → GroupBelow
  pub phase : Phase
  -- in seconds, as the clock gave it last
  pub time : ℕ
  pub calls : ℕ
  pub counts : Counts

-- ---- what is due

-- the groups that are mounted, in the order of mounting
abbrev pub mounted_groups : List SessionEntry → List Bytes
mounted_groups session = filter_map (λ (entry : SessionEntry). if is_mounted entry then Some entry.name else None) session

abbrev pub below_of_entry : (ℕ → GroupBelow) → Option SessionEntry → Option GroupBelow
below_of_entry below None = None
below_of_entry below (Some entry) = if is_mounted entry then Some (below entry.id) else None

-- what is below a group of this name that is mounted
abbrev pub below_of_mounted : World → (ℕ → GroupBelow) → Bytes → Option GroupBelow
below_of_mounted w below name = below_of_entry below (entry_in w name)

abbrev pub expiring_of : Option GroupBelow → Option Bytes
expiring_of None = None
expiring_of (Some b) = b.expiring

-- an expired disk that is dropped now, its group, and the groups that come after that one
pub record Expiry : Type 0 where
  pub group : Bytes
  pub disk : Bytes
  pub others : List Bytes

-- the first that is due
abbrev pub next_expiry : World → (ℕ → GroupBelow) → List Bytes → Option Expiry
next_expiry w below [] = None
next_expiry w below (name ∷ names) = elim (expiring_of (below_of_mounted w below name)) [
  | None ↦ next_expiry w below names
  | Some disk ↦ Some (record { group = name; disk = disk; others = names })
]

-- the slices after a reply: of each mounted group a resync, and then a rebalance
abbrev pub slices_of : List Bytes → List Slice
slices_of names = flat_map (λ name. Resync name ∷ Rebalance name ∷ []) names

-- a slice that is done now
pub data Due : Type 0 where
  DueResync : (group disk : Bytes) → Due
  DueRebalance : (group : Bytes) → Due

abbrev pub due_resync : Bytes → Option GroupBelow → Option Due
due_resync name None = None
due_resync name (Some b) = elim b.syncing [ None ↦ None | Some disk ↦ Some (DueResync name disk) ]

abbrev pub due_rebalance : Bytes → Option GroupBelow → Option Due
due_rebalance name None = None
due_rebalance name (Some b) = if b.moving then Some (DueRebalance name) else None

-- where a disk is Syncing, or a rebalance is active with a power of at least 1
abbrev pub due_of_slice : World → (ℕ → GroupBelow) → Slice → Option Due
due_of_slice w below (Resync name) = due_resync name (below_of_mounted w below name)
due_of_slice w below (Rebalance name) = due_rebalance name (below_of_mounted w below name)

pub record DueSlice : Type 0 where
  pub due : Due
  pub others : List Slice

-- the first that is due
abbrev pub next_slice : World → (ℕ → GroupBelow) → List Slice → Option DueSlice
next_slice w below [] = None
next_slice w below (slice ∷ slices) = elim (due_of_slice w below slice) [
  | None ↦ next_slice w below slices
  | Some due ↦ Some (record { due = due; others = slices })
]

-- ---- what a move does

abbrev pub phase_after : Reply → World → Phase
phase_after (Refused lines r.NoMemory) w = Stopped
phase_after reply w = Slicing (slices_of (mounted_groups w.session))

abbrev pub dismounted : World → Bytes → Bytes → World
dismounted w name disk = record w { session = with_dismounted w.session name disk }

-- The disk was dropped, and the next of its group may be; or the group is dismounted by another, and is passed.
abbrev pub IsExpiry : Option Expiry → Event → World → Phase → World → Type 0
IsExpiry (Some x) (Expired group disk) w phase new = (group ≡ x.group) × (disk ≡ x.disk) × (phase ≡ Expiring (x.group ∷ x.others)) × (new ≡ w)
IsExpiry (Some x) (ExpiryEnds group disk) w phase new = (group ≡ x.group) × (phase ≡ Expiring x.others) × (new ≡ dismounted w x.group disk)
IsExpiry x event w phase new = ⊥

abbrev pub IsResynced : Bytes → Resynced → World → World → Type 0
IsResynced name (SyncEnds disk) w new = new ≡ dismounted w name disk
IsResynced name how w new = new ≡ w

abbrev pub IsRebalanced : Bytes → Rebalanced → World → World → Type 0
IsRebalanced name (MoveEnds disk) w new = new ≡ dismounted w name disk
IsRebalanced name how w new = new ≡ w

abbrev pub IsSlice : Due → Event → World → World → Type 0
IsSlice (DueResync name disk) (Synced group synced how) w new = (group ≡ name) × (synced ≡ disk) × IsResynced name how w new
IsSlice (DueRebalance name) (Moved group how) w new = (group ≡ name) × IsRebalanced name how w new
IsSlice due event w new = ⊥

abbrev pub IsDueSlice : Option DueSlice → Event → World → Phase → World → Type 0
IsDueSlice None event w phase new = ⊥
IsDueSlice (Some x) event w phase new = IsSlice x.due event w new × (phase ≡ Slicing x.others)

-- where disks expire, the phase has groups
pub record ExpiresAt {Counts : Type 0} (event : Event) (s t : State Counts) : Type 0 where
  pub groups : List Bytes
  pub before : s.phase ≡ Expiring groups
  pub is_expiry : IsExpiry (next_expiry s.world s.below groups) event s.world t.phase t.world
  pub time : t.time ≡ s.time

-- Nothing is left to expire, and the command may do this to the world.
pub record AnswersAt {Counts : Type 0} (means : Bytes → Command) (found : Found) (text : Bytes) (reply : Reply) (s t : State Counts) : Type 0 where
  pub groups : List Bytes
  pub before : s.phase ≡ Expiring groups
  pub none_expires : next_expiry s.world s.below groups ≡ None
  pub step : Step (record { found = found; group = s.below }) s.world (means text) reply t.world
  pub cause : HasCause (record { found = found; group = s.below }) s.world (means text) reply
  pub lines : HasLines (record { found = found; group = s.below }) s.world (means text) reply
  pub after : t.phase ≡ phase_after reply t.world
  pub time : t.time ≡ s.time

pub record SlicesAt {Counts : Type 0} (event : Event) (s t : State Counts) : Type 0 where
  pub slices : List Slice
  pub before : s.phase ≡ Slicing slices
  pub is_slice : IsDueSlice (next_slice s.world s.below slices) event s.world t.phase t.world
  pub time : t.time ≡ s.time

pub record StartsAt {Counts : Type 0} (time : ℕ) (s t : State Counts) : Type 0 where
  pub before : s.phase ≡ Resting
  pub after : t.phase ≡ Expiring (mounted_groups s.world.session)
  pub world : t.world ≡ s.world
  pub time_is : t.time ≡ time

pub record RestsAt {Counts : Type 0} (s t : State Counts) : Type 0 where
  pub slices : List Slice
  pub before : s.phase ≡ Slicing slices
  pub none_due : next_slice s.world s.below slices ≡ None
  pub after : t.phase ≡ Resting
  pub world : t.world ≡ s.world
  pub time : t.time ≡ s.time

-- an expiry or a slice is due
abbrev pub is_work_due : World → (ℕ → GroupBelow) → Phase → Bool
is_work_due w below Resting = false
is_work_due w below (Expiring groups) = is_some (next_expiry w below groups)
is_work_due w below (Slicing slices) = is_some (next_slice w below slices)
is_work_due w below Stopped = false

-- There was no memory for what is due.
pub record StopsAt {Counts : Type 0} (s t : State Counts) : Type 0 where
  pub due : is_work_due s.world s.below s.phase ≡ true
  pub after : t.phase ≡ Stopped
  pub world : t.world ≡ s.world
  pub time : t.time ≡ s.time

-- What a move may do, where texts have this meaning.
abbrev pub Does : {Counts : Type 0} → (Bytes → Command) → State Counts → SessionMove → State Counts → Type 0
Does means s (Starts time) t = StartsAt time s t
Does means s (Expires event) t = ExpiresAt event s t
Does means s (Answers found text reply) t = AnswersAt means found text reply s t
Does means s (Slices event) t = SlicesAt event s t
Does means s Rests t = RestsAt s t
Does means s Stops t = StopsAt s t

-- ---- runs

-- What a run is measured against.
pub record Outside (Counts Image : Type 0) : Type 1 where
  -- what a text asks for
  pub means : Bytes → Command
  -- whether a move has its cause, and did its work beside the world, by what is counted
  pub causes : State Counts → SessionMove → State Counts → Type 0
  -- whether a stop in a moment may leave an image
  pub leaves : ℕ → Image → Type 0
  -- whether an image may stand for the groups of an id, and for no others
  pub allows : ℕ → List Group → Image → Type 0
  -- whether with all disks of an image a group of an id is there
  pub stands : ℕ → Image → Type 0

-- the groups that the images of an id may stand for in the moments of a move
abbrev pub groups_in : (Bytes → Command) → World → SessionMove → World → ℕ → List Group
groups_in means w (Answers found text reply) new id = groups_between w (means text) new id
groups_in means w (Starts time) new id = groups_of w id
groups_in means w (Expires event) new id = groups_of w id
groups_in means w (Slices event) new id = groups_of w id
groups_in means w Rests new id = groups_of w id
groups_in means w Stops new id = groups_of w id

-- for each id the image stands for groups between the worlds before and after the move
abbrev pub StandsBetween : {Counts Image : Type 0} → Outside Counts Image → State Counts → SessionMove → State Counts → Image → Type 0
StandsBetween out s move t image = (id : ℕ) → out.allows id (groups_in out.means s.world move t.world id) image

-- each group that is mounted before the move and after it is there
abbrev pub AreMountedThere : {Counts Image : Type 0} → Outside Counts Image → State Counts → State Counts → Image → Type 0
AreMountedThere out s t image = (id : ℕ) → has_mounted s.world id ≡ true → has_mounted t.world id ≡ true → out.stands id image

-- One move. An image that a stop may leave in a moment that ends in it stands for groups between, and each group that stays mounted is there.
pub record IsMove {Counts Image : Type 0} (out : Outside Counts Image) (s : State Counts) (move : SessionMove) (t : State Counts) : Type 0 where
  pub does : Does out.means s move t
  pub caused : out.causes s move t
  pub calls : s.calls ≤ t.calls
  pub images : (m : ℕ) (image : Image) → s.calls ≤ m → m < t.calls → out.leaves m image → StandsBetween out s move t image
  pub there : (m : ℕ) (image : Image) → s.calls ≤ m → m < t.calls → out.leaves m image → AreMountedThere out s t image

-- how texts are printed: in full, in one byte under --generate, or there the last
pub data Style : Type 0 where
  Full : Style
  Short : Style
  Last : Style

-- a move, how it is printed, what of its text was printed, and the state after it
pub record PrintedMove (Counts : Type 0) : Type 0 where
  pub move : SessionMove
  pub style : Style
  pub printed : Bytes
  pub after : State Counts

abbrev pub IsRun : {Counts Image : Type 0} → Outside Counts Image → State Counts → List (PrintedMove Counts) → Type 0
IsRun out s [] = ⊤
IsRun out s (e ∷ es) = IsMove out s e.move e.after × IsRun out e.after es

-- a premise on each of these moves
abbrev pub AllMoves : {Counts : Type 0} → (SessionMove → Type 0) → List (PrintedMove Counts) → Type 0
AllMoves premise [] = ⊤
AllMoves premise (e ∷ es) = premise e.move × AllMoves premise es

-- The moves before the first that doesn't meet the premise are a run.
abbrev pub IsRunWhile : {Counts Image : Type 0} → Outside Counts Image → (SessionMove → Type 0) → State Counts → List (PrintedMove Counts) → Type 0
IsRunWhile out premise s [] = ⊤
IsRunWhile out premise s (e ∷ es) = premise e.move → IsMove out s e.move e.after × IsRunWhile out premise e.after es

-- the count of calls on the disks never falls, whatever the moves are
abbrev pub CallsRise : {Counts : Type 0} → State Counts → List (PrintedMove Counts) → Type 0
CallsRise s [] = ⊤
CallsRise s (e ∷ es) = (s.calls ≤ e.after.calls) × CallsRise e.after es

-- the state after a run
abbrev pub end_of : {Counts : Type 0} → State Counts → List (PrintedMove Counts) → State Counts
end_of s [] = s
end_of s (e ∷ es) = end_of e.after es

-- The moment ends in one of these moves, and the image stands for groups between the worlds before and after it.
abbrev pub HeldBy : {Counts Image : Type 0} → Outside Counts Image → State Counts → List (PrintedMove Counts) → ℕ → Image → Type 0
HeldBy out s [] m image = ⊥
HeldBy out s (e ∷ es) m image = ((s.calls ≤ m) × (m < e.after.calls) × StandsBetween out s e.move e.after image) ⊎ HeldBy out e.after es m image

-- in the moment that lasts, an image stands for the groups of the world
abbrev pub IsHeldNow : {Counts Image : Type 0} → Outside Counts Image → State Counts → Type 0
IsHeldNow {Image = Image} out s = (image : Image) (id : ℕ) → out.leaves s.calls image → out.allows id (groups_of s.world id) image

-- and each group that is mounted is there
abbrev pub IsThereNow : {Counts Image : Type 0} → Outside Counts Image → State Counts → Type 0
IsThereNow {Image = Image} out s = (image : Image) (id : ℕ) → out.leaves s.calls image → has_mounted s.world id ≡ true → out.stands id image

-- ---- what is printed

abbrev pub reply_in : Style → Reply → Bytes
reply_in Full reply = reply_text reply
reply_in Short reply = short_text reply
reply_in Last reply = 10 ∷ reply_text reply

abbrev pub event_in : Style → Event → Bytes
event_in Full event = event_text event
event_in Short event = []
event_in Last event = []

-- the line of a move, or the text of its reply
abbrev pub text_of : Style → SessionMove → Bytes
text_of style (Starts time) = []
text_of style (Expires event) = event_in style event
text_of style (Answers found text reply) = reply_in style reply
text_of style (Slices event) = event_in style event
text_of style Rests = []
text_of style Stops = []

abbrev pub entry_text : {Counts : Type 0} → PrintedMove Counts → Bytes
entry_text e = text_of e.style e.move

-- all texts were printed
abbrev pub IsPrinted : {Counts : Type 0} → List (PrintedMove Counts) → Type 0
IsPrinted [] = ⊤
IsPrinted (e ∷ es) = (e.printed ≡ entry_text e) × IsPrinted es

-- all texts were printed, or all but the last and a front of that one
abbrev pub IsPrintedToCut : {Counts : Type 0} → List (PrintedMove Counts) → Type 0
IsPrintedToCut [] = ⊤
IsPrintedToCut (e ∷ es) = ((e.printed ≡ entry_text e) × IsPrintedToCut es)
    ⊎ ((rest : Bytes) × (entry_text e ≡ e.printed ++ rest) × (es ≡ []))

abbrev pub output_of : {Counts : Type 0} → List (PrintedMove Counts) → Bytes
output_of history = flat_map (λ e. e.printed) history

-- every text is in full
abbrev pub AreInFull : {Counts : Type 0} → List (PrintedMove Counts) → Type 0
AreInFull [] = ⊤
AreInFull (e ∷ es) = (e.style ≡ Full) × AreInFull es

-- Under --generate, where n commands are left: short texts, but of the last command.
abbrev pub IsGenerated : {Counts : Type 0} → ℕ → List (PrintedMove Counts) → Type 0
IsGenerated n [] = ⊤
IsGenerated n (e ∷ es) = (e.style ≡ style_at n e.move) × IsGenerated (left_after n e.move) es where
  left_after : ℕ → SessionMove → ℕ
  left_after n (Answers found text reply) = n - 1
  left_after n other = n

  style_at : ℕ → SessionMove → Style
  style_at n (Answers found text reply) = if n == 1 then Last else Short
  style_at n other = Short

abbrev pub commands_at : SessionMove → List Bytes
commands_at (Answers found text reply) = text ∷ []
commands_at (Starts time) = []
commands_at (Expires event) = []
commands_at (Slices event) = []
commands_at Rests = []
commands_at Stops = []

-- the texts of the commands that were answered
abbrev pub answered : {Counts : Type 0} → List (PrintedMove Counts) → List Bytes
answered history = flat_map (λ e. commands_at e.move) history

abbrev pub times_at : SessionMove → List ℕ
times_at (Starts time) = time ∷ []
times_at (Expires event) = []
times_at (Answers found text reply) = []
times_at (Slices event) = []
times_at Rests = []
times_at Stops = []

-- the times that the clock gave
abbrev pub times_of : {Counts : Type 0} → List (PrintedMove Counts) → List ℕ
times_of history = flat_map (λ e. times_at e.move) history

abbrev pub marks_at : SessionMove → Bool → ℕ → List ℕ
marks_at (Answers found text reply) whole calls = if whole then calls ∷ [] else []
marks_at (Starts time) whole calls = []
marks_at (Expires event) whole calls = []
marks_at (Slices event) whole calls = []
marks_at Rests whole calls = []
marks_at Stops whole calls = []

-- the counts of calls at which replies had been printed whole
abbrev pub marks_in_history : {Counts : Type 0} → List (PrintedMove Counts) → List ℕ
marks_in_history history = flat_map (λ e. marks_at e.move (bytes_eq e.printed (entry_text e)) e.after.calls) history

abbrev pub is_refusal : Reply → Bool
is_refusal (Done lines) = false
is_refusal (Refused lines cause) = true

abbrev pub refuses : SessionMove → Bool
refuses (Answers found text reply) = is_refusal reply
refuses (Starts time) = false
refuses (Expires event) = false
refuses (Slices event) = false
refuses Rests = false
refuses Stops = false

-- some reply is a refusal
abbrev pub has_refusal : {Counts : Type 0} → List (PrintedMove Counts) → Bool
has_refusal history = list_any (λ e. refuses e.move) history
