-- Replies and event lines.
use Rattle.std.specs.Prelude.{ℕ, List}
use Rattle.asm_group.specs.Names.{Bytes}
use Rattle.asm_group.specs.Refusal.{Refusal}

-- Lines, and behind them `ok` or a refusal. A line has no line feed.
pub data Reply : Type 0 where
  Done : (lines : List Bytes) → Reply
  Refused : (lines : List Bytes) (cause : Refusal) → Reply

-- how a slice of a rebalance, or a whole rebalance under WAIT, ended
pub data Rebalanced : Type 0 where
  MovesLeft : (steps : ℕ) → Rebalanced
  Finished : (steps : ℕ) → Rebalanced
  OutOfSpace : (steps file index : ℕ) → Rebalanced
  LostExtent : (steps file index : ℕ) → Rebalanced
  MoveFault : (steps : ℕ) (disk : Bytes) → Rebalanced
  MoveEnds : (disk : Bytes) → Rebalanced

-- how a slice of a resync, or a whole resync under WAIT, ended
pub data Resynced : Type 0 where
  MarksLeft : (steps : ℕ) → Resynced
  Back : (steps : ℕ) → Resynced
  LeftMarked : (file index : ℕ) → Resynced
  SyncFault : (steps : ℕ) (disk : Bytes) → Resynced
  SyncEnds : (disk : Bytes) → Resynced

-- What an event line tells. Where a group is dismounted, it names the disk that failed.
pub data Event : Type 0 where
  Expired : (group disk : Bytes) → Event
  ExpiryEnds : (group disk : Bytes) → Event
  Moved : (group : Bytes) (how : Rebalanced) → Event
  Synced : (group disk : Bytes) (how : Resynced) → Event
