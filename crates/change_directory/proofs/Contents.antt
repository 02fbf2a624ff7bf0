-- The content of a copy while a log is put.
use Rattle.std.proofs.Common.{◌≡◌, ◌⊎◌, inl, inr, ℕ, ◌*◌, ◌^◌, ◌≤◌, true, length, subst, Some}
use Rattle.asm_group.specs.Names.{Bytes}
use Rattle.asm_formats.specs.Bytes.{block_size}
use Rattle.asm_formats.specs.Regions.{log_blocks, first_log, second_log, has_region}
use Rattle.asm_formats.specs.Logs.{Log}
use Rattle.asm_formats.specs.Pages.{copy_content, committed}
use Rattle.asm_formats.specs.Slots.{ArePair}
use Rattle.asm_formats.specs.LogSlots.{IsLogPut, LogMoment, log_as_before, log_closed, log_put}
use Rattle.asm_formats.specs.Commits.{HoldsLog}
use Rattle.asm_formats.proofs.Blocks.{SameSlot}
use Rattle.asm_formats.proofs.SameLogs.{SameLogs}
use Rattle.asm_formats.proofs.Framing.{copy_same}
use Rattle.asm_formats.proofs.Committing.{closed_keeps, put_commits, other_slot, home_same}

module _ (d : ℕ) (old new : Bytes) (k other : ℕ) (log : Log) (small : d ≤ 2 ^ 32) (put : IsLogPut d old new k other log) (whole : has_region d (length old) ≡ true) where
  -- once the log is put
  pub put_content : HoldsLog new k log → copy_content d new ≡ Some (committed d old log)
  put_content holds = put_commits d old k other put.may_close new put.elsewhere log small put.is_log put.above holds whole

  -- the slots of both gates, in their order
  both : SameSlot old new k log_blocks → SameSlot old new other log_blocks → ArePair (first_log d) (second_log d) k other → SameLogs d old new
  both here there (inl q) = record { first = at_gate k (first_log d) q.0 here; second = at_gate other (second_log d) q.1 there }
    where
      at_gate : (a b : ℕ) → a ≡ b → SameSlot old new a log_blocks → SameSlot old new b log_blocks
      at_gate a b e s = subst (λ (x : ℕ). SameSlot old new x log_blocks) e s
  both here there (inr q) = record { first = at_gate other (first_log d) q.1 there; second = at_gate k (second_log d) q.0 here }
    where
      at_gate : (a b : ℕ) → a ≡ b → SameSlot old new a log_blocks → SameSlot old new b log_blocks
      at_gate a b e s = subst (λ (x : ℕ). SameSlot old new x log_blocks) e s

  pub moment_content : LogMoment old new k log → (copy_content d new ≡ copy_content d old) ⊎ (copy_content d new ≡ Some (committed d old log))
  moment_content (log_as_before gate body) =
      let here : SameSlot old new k log_blocks = record { gate = gate; body = λ opened j first last. body j first last } in
      inl (copy_same old new (k * block_size) (log_blocks * block_size) put.elsewhere d
      (both here (other_slot d old k other put.may_close new put.elsewhere put.may_close.pair) put.may_close.pair)
      (λ page lt. home_same d old k other put.may_close new put.elsewhere page lt))
  moment_content (log_closed shut) = inl (closed_keeps d old k other put.may_close new put.elsewhere shut)
  moment_content (log_put gate head images) = inr (put_content (record { gate = gate; head = head; images = images }))
