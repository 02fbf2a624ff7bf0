-- The bytes of replies and event lines.
use Rattle.std.specs.Prelude.{ℕ, ◌+◌, ◌/◌, ◌%◌, ◌==◌, nat_lt, List, [], ◌∷◌, ◌++◌, codes, if◌then◌else◌}
use Rattle.std.specs.List.{flat_map}
use Rattle.std.specs.Fmt.{decimal}
use Rattle.asm_group.specs.Names.{Bytes}
use Rattle.asm_group.specs.Refusal.{spaced, refusal_line}
use Rattle.asm_world.specs.Reply.{Reply, Done, Refused, Rebalanced, MovesLeft, Finished, OutOfSpace, LostExtent, MoveFault, MoveEnds, Resynced, MarksLeft, Back, LeftMarked, SyncFault, SyncEnds, Event, Expired, ExpiryEnds, Moved, Synced}

-- each line is ended by a line feed
abbrev pub ended : List Bytes → Bytes
ended lines = flat_map (λ line. line ++ 10 ∷ []) lines

-- the report lines and ok, or the lines of WAIT and the error
abbrev pub reply_text : Reply → Bytes
reply_text (Done lines) = ended (lines ++ codes "ok" ∷ [])
reply_text (Refused lines cause) = ended (lines ++ refusal_line cause ∷ [])

-- the form under --generate of each reply but the last: `.` for ok, `!` for a refusal
abbrev pub short_text : Reply → Bytes
short_text (Done lines) = 46 ∷ []
short_text (Refused lines cause) = 33 ∷ []

abbrev pub rebalanced_words : Rebalanced → List Bytes
rebalanced_words (MovesLeft steps) = codes "more" ∷ decimal steps ∷ []
rebalanced_words (Finished steps) = codes "done" ∷ decimal steps ∷ []
rebalanced_words (OutOfSpace steps file index) = codes "nospace" ∷ decimal steps ∷ decimal file ∷ decimal index ∷ []
rebalanced_words (LostExtent steps file index) = codes "lost" ∷ decimal steps ∷ decimal file ∷ decimal index ∷ []
rebalanced_words (MoveFault steps disk) = codes "fault" ∷ decimal steps ∷ disk ∷ []
rebalanced_words (MoveEnds disk) = codes "dismounted" ∷ disk ∷ []

abbrev pub resynced_words : Resynced → List Bytes
resynced_words (MarksLeft steps) = codes "more" ∷ decimal steps ∷ []
resynced_words (Back steps) = codes "online" ∷ decimal steps ∷ []
resynced_words (LeftMarked file index) = codes "left" ∷ decimal file ∷ decimal index ∷ []
resynced_words (SyncFault steps disk) = codes "fault" ∷ decimal steps ∷ disk ∷ []
resynced_words (SyncEnds disk) = codes "dismounted" ∷ disk ∷ []

-- an event line, or a line of WAIT, without its line feed
abbrev pub event_line : Event → Bytes
event_line (Expired group disk) = spaced (codes "expired" ∷ group ∷ disk ∷ [])
event_line (ExpiryEnds group disk) = spaced (codes "expired" ∷ group ∷ codes "dismounted" ∷ disk ∷ [])
event_line (Moved group how) = spaced (codes "rebal" ∷ group ∷ rebalanced_words how)
event_line (Synced group disk how) = spaced (codes "sync" ∷ group ∷ disk ∷ resynced_words how)

abbrev pub event_text : Event → Bytes
event_text event = event_line event ++ 10 ∷ []

-- Runs of equal bytes: each byte, and how often it stands there.
abbrev pub with_byte : ℕ → List (ℕ × ℕ) → List (ℕ × ℕ)
with_byte b [] = (b, 1) ∷ []
with_byte b ((c, n) ∷ runs) = if b == c then (c, n + 1) ∷ runs else (b, 1) ∷ (c, n) ∷ runs

abbrev pub runs_of : Bytes → List (ℕ × ℕ)
runs_of [] = []
runs_of (b ∷ bytes) = with_byte b (runs_of bytes)

abbrev pub hex_digit : ℕ → ℕ
hex_digit n = if nat_lt n 10 then n + 48 else n + 87

-- two lower case hexadecimal digits
abbrev pub hex : ℕ → Bytes
hex b = hex_digit (b / 16) ∷ hex_digit (b % 16) ∷ []

-- offset, count and byte of each run, from this offset on
abbrev pub run_lines : ℕ → List (ℕ × ℕ) → List Bytes
run_lines at [] = []
run_lines at ((b, n) ∷ runs) = spaced (decimal at ∷ decimal n ∷ hex b ∷ []) ∷ run_lines (at + n) runs

-- the lines of dbread: one for each longest run of equal bytes
abbrev pub read_lines : ℕ → Bytes → List Bytes
read_lines at bytes = run_lines at (runs_of bytes)
