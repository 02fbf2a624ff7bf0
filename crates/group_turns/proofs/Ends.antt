-- Why a slice of a rebalance ended before all was done.
use Rattle.std.proofs.Common.{◌≡◌, sym, subst, Option, Some, None, Result, Ok, Err, ℕ}
use Rattle.std.specs.Prelude.{IfOk}
use Rattle.std.proofs.lemmas.Option.{none-some, same_Some}
use Rattle.refusal_lines.specs.declared.refusal.Refusal.{Refusal}
use Rattle.asm_world.specs.Reply as w
use Rattle.disk_modes.specs.group_engine.Mounts.{MountedGroup}
use Rattle.relocation.specs.Shortfalls.{EndCause}
use Rattle.relocation.specs.declared.asking.Slice.{Slice}
use Rattle.relocation.specs.declared.asking.Slice.TheVariants as slice
use Rattle.group_turns.specs.declared.failure.Failure.{Failure}
use Rattle.group_turns.specs.declared.failure.Failure.TheVariants as failure
use Rattle.group_turns.specs.Slices.{RebalancedCause, failed_rebalance, failure_of, rebalanced_by, shown_name}

module _ (m : MountedGroup) (steps : ℕ) (how : w.Rebalanced) where
  -- it is this one, which has its cause
  by : (k : w.Rebalanced) → RebalancedCause m k → Some how ≡ Some k → RebalancedCause m how
  by k cause is = subst (RebalancedCause m) (sym (same_Some how k is)) cause

  failed : (f : Failure) → Some how ≡ failed_rebalance m f steps → RebalancedCause m how
  failed (failure.Fault disk) is = by (w.MoveFault steps (shown_name m disk)) tt is
  failed (failure.Dismounted disk) is = by (w.MoveEnds (shown_name m disk)) tt is
  failed failure.NoMemory is = absurd (none-some how (sym is))

  pub ended_so : (sliced : Result Slice Refusal) → IfOk sliced (EndCause m) → Some how ≡ rebalanced_by m sliced steps → RebalancedCause m how
  ended_so (Ok slice.More) cause is = by (w.MovesLeft steps) tt is
  ended_so (Ok slice.Done) cause is = by (w.Finished steps) tt is
  ended_so (Ok (slice.NoSpace x)) cause is = by (w.OutOfSpace steps x.file x.index) cause is
  ended_so (Ok (slice.Lost x)) cause is = by (w.LostExtent steps x.file x.index) cause is
  ended_so (Err refusal) cause is = failed (failure_of refusal) is
