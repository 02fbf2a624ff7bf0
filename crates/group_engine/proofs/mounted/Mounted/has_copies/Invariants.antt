use Rattle.std.proofs.Common.{◌≡◌, ◌<◌, ℕ, true}
use Rattle.asm_formats.specs.Sets.{has_bit}
use Rattle.directory_store.specs.Stores.{has_copy_of_disk}
use Rattle.group_engine.proofs.mounted.Mounted.has_copies.Given as goal

abbrev pub invariant-loop-disk : goal.invariant-loop-disk
invariant-loop-disk l = (k : ℕ) → k < l.disk → has_bit l.fn.dirs k ≡ true → has_copy_of_disk k l.fn.self.store.copies ≡ true
