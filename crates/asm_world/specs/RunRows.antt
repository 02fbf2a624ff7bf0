-- A worked run, move by move, and lines under WAIT. Of two groups that are mounted the first has a disk that expires, a Syncing disk and
-- an active rebalance, and the second an active rebalance.
use Rattle.std.specs.Prelude.{◌≡◌, ⊤, ℕ, ◌-◌, ◌^◌, ◌==◌, Bool, true, false, List, [], ◌∷◌, Option, Some, None, codes, if◌then◌else◌}
use Rattle.std.specs.List.{flat_map}
use Rattle.asm_group.specs.Names.{Bytes}
use Rattle.asm_group.specs.Group.{File, Group}
use Rattle.asm_group.specs.Refusal as r
use Rattle.asm_world.specs.Below.{Below, GroupBelow}
use Rattle.asm_world.specs.Causes.{HasCause}
use Rattle.asm_world.specs.Command.{Command, Said}
use Rattle.asm_world.specs.Files.{NewName, group_with_file}
use Rattle.asm_world.specs.Language.{command_of}
use Rattle.asm_world.specs.Reply.{Done, Refused, Expired, Moved, Synced, MovesLeft, Finished, MarksLeft}
use Rattle.asm_world.specs.Run.{Outside, State, Phase, Resting, Expiring, Slicing, Stopped, Resync, Rebalance, SessionMove, Starts, Expires, Answers, Slices, Rests, Stops, Does, PrintedMove, Full, IsRun, text_of, entry_text}
use Rattle.asm_world.specs.Statement as s
use Rattle.asm_world.specs.Waits.{HasLines}
use Rattle.asm_world.specs.World.{World, NotTold, empty_world, entry_in, mounted_entry, mounted_group}

-- ---- states

abbrev pub data_name : Bytes
data_name = codes "DATA"

abbrev pub logs_name : Bytes
logs_name = codes "LOGS"

abbrev pub two_groups : World
two_groups = record (empty_world (λ path. NotTold)) { session = mounted_entry data_name 65536 ∷ mounted_entry logs_name 65537 ∷ [] }

-- below a group with an active rebalance
abbrev pub rebalancing : Option Bytes → Option Bytes → GroupBelow
rebalancing expiring syncing = record {
  failgroups = 2;
  expiring = expiring;
  syncing = syncing;
  moving = true;
  attached = [];
  row = record { rebalancing = true; total = 448; free = 289; offline = 0 };
  disks = [];
  units = λ file. 0;
  extents = 0;
  not_full = 0;
}

abbrev pub below_two : Option Bytes → ℕ → GroupBelow
below_two expiring id = if id == 65536 then rebalancing expiring (Some (codes "DATA_0003")) else rebalancing None None

abbrev pub standing_at : Option Bytes → ℕ → Phase → State (Unit {0})
standing_at expiring time phase = record { world = two_groups; below = below_two expiring; phase = phase; time = time; calls = 0; counts = tt }

abbrev pub at_rest : State (Unit {0})
at_rest = standing_at (Some (codes "DATA_0002")) 0 Resting

abbrev pub started : State (Unit {0})
started = standing_at (Some (codes "DATA_0002")) 7 (Expiring (data_name ∷ logs_name ∷ []))

abbrev pub dropped : State (Unit {0})
dropped = standing_at None 7 (Expiring (data_name ∷ logs_name ∷ []))

abbrev pub answered : State (Unit {0})
answered = standing_at None 7 (Slicing (Resync data_name ∷ Rebalance data_name ∷ Resync logs_name ∷ Rebalance logs_name ∷ []))

abbrev pub resynced : State (Unit {0})
resynced = standing_at None 7 (Slicing (Rebalance data_name ∷ Resync logs_name ∷ Rebalance logs_name ∷ []))

abbrev pub moved : State (Unit {0})
moved = standing_at None 7 (Slicing (Resync logs_name ∷ Rebalance logs_name ∷ []))

abbrev pub all_moved : State (Unit {0})
all_moved = standing_at None 7 (Slicing [])

-- ---- moves

abbrev pub expires : Bytes → SessionMove
expires disk = Expires (Expired data_name disk)

abbrev pub answers : SessionMove
answers = Answers (record { ids = []; made = None }) (codes "pwd") (Done (codes "+" ∷ []))

abbrev pub resyncs : SessionMove
resyncs = Slices (Synced data_name (codes "DATA_0003") (MarksLeft 64))

abbrev pub moves : SessionMove
moves = Slices (Moved data_name (MovesLeft 1))

abbrev pub moves_logs : SessionMove
moves_logs = Slices (Moved logs_name (Finished 2))

abbrev pub entry : SessionMove → State (Unit {0}) → PrintedMove (Unit {0})
entry move after = record { move = move; style = Full; printed = text_of Full move; after = after }

-- a command in the order of the top call: the clock, an expiry, the answer, and of each group its resync and then its rebalance
abbrev pub history_in_order : List (PrintedMove (Unit {0}))
history_in_order =
    entry (Starts 7) started ∷ entry (expires (codes "DATA_0002")) dropped ∷ entry answers answered
    ∷ entry resyncs resynced ∷ entry moves moved ∷ entry moves_logs all_moved ∷ entry Rests (standing_at None 7 Resting) ∷ []

-- Of the disks nothing is told.
abbrev pub untold_outside : Outside (Unit {0}) (Unit {0})
untold_outside = record { means = command_of; causes = λ s move t. ⊤; leaves = λ m image. ⊥; allows = λ id groups image. ⊤; stands = λ id image. ⊤ }

-- the move doesn't come there, whatever the state after it
abbrev pub Never : State (Unit {0}) → SessionMove → Type 0
Never s move = (t : State (Unit {0})) → Does command_of s move t → ⊥

pub record RunRows : Type 0 where
  pub runs : IsRun untold_outside at_rest history_in_order
  pub prints : flat_map entry_text history_in_order
      ≡ codes "expired DATA DATA_0002\n+\nok\nsync DATA DATA_0003 more 64\nrebal DATA more 1\nrebal LOGS done 2\n"
  -- no answer before an expiry that is due, and no slice before the answer
  pub early_answer : Never started answers
  pub early_slice : Never started resyncs
  pub other_disk : Never started (expires (codes "DATA_0001"))
  pub twice_dropped : Never dropped (expires (codes "DATA_0002"))
  -- of a group the resync comes first, and no slice is left out or comes twice
  pub early_rebalance : Never answered moves
  pub early_group : Never resynced moves_logs
  pub twice_resynced : Never resynced resyncs
  pub early_rest : Never moved Rests
  -- want of memory ends the run where something is due, and nowhere else
  pub short_expiry : Does command_of started Stops (standing_at (Some (codes "DATA_0002")) 7 Stopped)
  pub short_slice : Does command_of moved Stops (standing_at None 7 Stopped)
  pub short_at_rest : Never at_rest Stops
  pub short_command : Never dropped Stops
  pub short_of_nothing : Never all_moved Stops
  pub after_the_end : (move : SessionMove) → Never (standing_at None 7 Stopped) move

-- ---- lines under WAIT

abbrev pub drops : Bool → Command
drops wait = Said (s.Alter data_name (s.DropDisks (record { name = codes "DATA_0003"; force = false } ∷ []) (Some (record { power = None; wait = wait }))))

abbrev pub rebalances : Bool → Command
rebalances wait = Said (s.Alter data_name (s.Rebalancing (record { power = Some 1; wait = wait })))

abbrev pub onlines : Bool → Command
onlines wait = Said (s.Alter data_name (s.Online s.All wait))

pub record WaitRows (below : Below) (w : World) : Type 0 where
  pub line : HasLines below w (drops true) (Refused (codes "rebal DATA nospace 4 256 9" ∷ []) (r.NoSpace 256 9))
  -- the line is owed, and tells what is refused
  pub no_line : HasLines below w (drops true) (Refused [] (r.NoSpace 256 9)) → ⊥
  pub other_line : HasLines below w (drops true) (Refused (codes "rebal DATA lost 4 256 9" ∷ []) (r.NoSpace 256 9)) → ⊥
  pub lost_owes : HasLines below w (drops true) (Refused [] (r.Lost 256 9)) → ⊥
  pub fault_owes : HasLines below w (drops true) (Refused [] (r.ReadFault (codes "DATA_0001"))) → ⊥
  pub no_wait : HasLines below w (drops false) (Refused (codes "rebal DATA nospace 4 256 9" ∷ []) (r.NoSpace 256 9)) → ⊥
  pub resync_owes : HasLines below w (onlines true) (Refused [] (r.ReadFault (codes "DATA_0001"))) → ⊥
  -- what ends a rebalance refuses it under WAIT alone
  pub waited : HasCause below w (rebalances true) (Refused (codes "rebal DATA nospace 4 256 9" ∷ []) (r.NoSpace 256 9))
  pub unwaited : HasCause below w (rebalances false) (Refused [] (r.NoSpace 256 9)) → ⊥
  -- ONLINE is refused by a fault under WAIT alone, and never as Lost
  pub resync_fault : HasCause below w (onlines true) (Refused (codes "sync DATA DATA_0003 fault 5 DATA_0001" ∷ []) (r.ReadFault (codes "DATA_0001")))
  pub unwaited_fault : HasCause below w (onlines false) (Refused [] (r.ReadFault (codes "DATA_0001"))) → ⊥
  pub never_lost : (lines : List Bytes) → HasCause below w (onlines true) (Refused lines (r.Lost 256 9)) → ⊥

-- In each world in which the group is mounted, lines come so.
abbrev pub WaitsAreOwed : Type 0
WaitsAreOwed = (below : Below) (w : World) (g : Group) → entry_in w data_name ≡ Some (mounted_entry data_name 65536) → mounted_group w data_name ≡ Some g → WaitRows below w

-- ---- incarnations

-- The next incarnation is one more, and stays once it is the greatest.
pub record IncarnationRows : Type 0 where
  pub one_more : (g : Group) (name : NewName) (n : ℕ) (f : File) → g.next ≡ 3 → (group_with_file g name n f).next ≡ 4
  pub stays : (g : Group) (name : NewName) (n : ℕ) (f : File) → g.next ≡ 2 ^ 64 - 1 → (group_with_file g name n f).next ≡ 2 ^ 64 - 1
