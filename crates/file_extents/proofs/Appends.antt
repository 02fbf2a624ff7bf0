-- Whose the extents are that are appended, and an append that does nothing.
use Rattle.std.proofs.Common.{◌≡◌, ℕ, ◌+◌, ◌<◌, ◌≤◌, true, List, Option, Some, None, Err, sym, ap, subst, ◌∙◌, arith, ◌⊎◌, inl, inr}
use Rattle.std.proofs.Math.Nat.{eq-or-lt_of_le}
use Rattle.std.proofs.lemmas.Bool.{eq-eqb}
use Rattle.bay.specs.State.{BayState}
use Rattle.refusal_lines.specs.declared.refusal.Refusal.TheVariants as cause
use Rattle.asm_formats.specs.Items.{FileHead, Pending}
use Rattle.asm_placement.specs.Naming.{is_pending}
use Rattle.catalog_tables.specs.file_directory.Files.{head_at}
use Rattle.catalog_tables.specs.extent_map.Extents.{Chunked, has_extent}
use Rattle.catalog_tables.specs.Tables.{Tables}
use Rattle.group_pieces.specs.group_engine.Mounts.{MountedGroup, Takes}
use Rattle.group_pieces.specs.group_engine.Pending.{GoesOn}
use Rattle.group_pieces.proofs.group_engine.Causes.{nothing_kept}
use Rattle.file_extents.specs.Appending.{IsOwner, has_owner}

-- the head has so many copies
pub head_owns : (t : Tables) (f copies : ℕ) (head : FileHead) → head_at t.files f ≡ Some head → head.copies ≡ copies → IsOwner t f copies
head_owns t f copies head is same = subst (λ (o : Option FileHead). has_owner o (is_pending f t.operations.pending) copies) (sym is) same

-- the pending operation is the file's
pub pending_owns : (t : Tables) (f copies : ℕ) (op : Pending) → head_at t.files f ≡ None → t.operations.pending ≡ Some op → op.file ≡ f → IsOwner t f copies
pending_owns t f copies op none is same =
    let own : is_pending f t.operations.pending ≡ true = ap (is_pending f) is ∙ eq-eqb op.file f same in
    subst (λ (o : Option FileHead). has_owner o (is_pending f t.operations.pending) copies) (sym none) own

-- one more extent of a chunk
pub extents_more : (t : List Chunked) (f first n : ℕ) → ((k : ℕ) → k < n → has_extent t f (first + k) ≡ true) → has_extent t f (first + n) ≡ true
    → (k : ℕ) → k < n + 1 → has_extent t f (first + k) ≡ true
extents_more t f first n each one k lt = elim (within (omega (arith, lt))) [
  | inl same ↦ ap (λ (j : ℕ). has_extent t f (first + j)) same ∙ one
  | inr below ↦ each k below
]
  where
    within : k ≤ n → (k ≡ n) ⊎ (k < n)
    within le = eq-or-lt_of_le le

-- nothing was done for want of memory
pub nothing_goes : (m : MountedGroup) (s : BayState) → Takes m s → GoesOn m (Err cause.NoMemory) m s s
nothing_goes m s takes = record { keeps = nothing_kept m s (λ mounted. (takes mounted).0) (λ mounted. (takes mounted).1); mounted = tt; cause = tt }
