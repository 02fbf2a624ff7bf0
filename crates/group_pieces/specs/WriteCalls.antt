-- What a write to the usable copies of a piece did.
use Rattle.std.specs.Prelude.{◌≡◌, ℕ, length, IfErr, IfOk, Result}
use Rattle.bay.specs.State.{BayState}
use Rattle.bay.specs.Moments.{NowOnly}
use Rattle.asm_group.specs.Names.{Bytes}
use Rattle.asm_base.specs.declared.kinds.ExtentId.{ExtentId}
use Rattle.record_laws.specs.group_engine.Mounts.{MountedGroup}
use Rattle.record_laws.specs.group_engine.Own.{KeepsGroup}
use Rattle.group_pieces.specs.declared.writing.WriteError.{WriteError}
use Rattle.group_pieces.specs.Bytes.{WritesBytes}
use Rattle.group_pieces.specs.Copies.{HaveBut, PlacesOf}
use Rattle.group_pieces.specs.Failing.{AreServing}
use Rattle.group_pieces.specs.Faults.{AreRisen}
use Rattle.group_pieces.specs.Held.{WritesHeld}
use Rattle.group_pieces.specs.Usable.{AreNone, places_at}
use Rattle.group_pieces.specs.Writes.{IsWriteCause, SomeTook}

-- The bytes were written from an inner byte on at each usable copy of an extent, past faults.
pub record WritesUsableCopies {B : Type 0} (state : B → BayState) (m : MountedGroup) (x : ExtentId) (inner : ℕ) (bytes : Bytes)
    (result : Result ℕ WriteError) (old new : B) : Type 0 where
  -- the group takes the next call, and the disks of others stay
  pub keeps : KeepsGroup m m (state old) (state new)
  -- nothing changes but the bytes at the copies
  pub writes : WritesBytes m (PlacesOf (places_at m x inner) (length bytes)) (state old) (state new)
  -- each usable copy but those on disks that failed has the bytes
  pub done : IfOk result (λ failed. NowOnly (state new) (HaveBut (places_at m x inner) failed bytes))
  -- a disk is told as failed only where its slot did, and it serves
  pub failed : IfOk result (λ failed. AreRisen m failed (state old) (state new))
  pub serving : IfOk result (AreServing m.register.value.entries)
  -- at least one copy took the bytes
  pub some : IfOk result (SomeTook (places_at m x inner))
  -- an error is that no copy is usable, or that all failed
  pub cause : IfErr result (IsWriteCause m x inner (state old) (state new))
  -- a group that is mounted is held with the piece's cells Free all the while, and with the bytes where no copy is left behind
  pub holds : WritesHeld m x inner bytes result (state old) (state new)
  -- where no copy is usable nothing was done
  pub lost : AreNone (places_at m x inner) → new ≡ old
