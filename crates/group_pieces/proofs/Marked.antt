-- Once the marks are set, each copy that was left behind bears one.
use Rattle.std.proofs.Common.{◌≡◌, ℕ, zero, suc, ◌/◌, ◌%◌, ◌<◌, Bool, true, List, [], length, get_or, replicate, sym, ap, ◌∙◌, Option, arith}
use Rattle.std.specs.Prelude.{bit_and, slice_set}
use Rattle.std.specs.Int.{bit_at}
use Rattle.std.specs.Option.{unwrap_or}
use Rattle.std.proofs.lemmas.Bool.{eq-eqb, eqb-true, true≢false}
use Rattle.std.proofs.lemmas.Nat.Bits.{bit_at-lt, bit_at_or}
use Rattle.std.proofs.lemmas.List.{get_or-set_same}
use Rattle.asm_base.specs.declared.kinds.ExtentId.{ExtentId}
use Rattle.asm_formats.specs.Sets.{has_bit}
use Rattle.asm_base.specs.Chunks.{chunk_cmp}
use Rattle.record_laws.proofs.extent_map.Laws.{same_chunk}
use Rattle.record_laws.proofs.extent_map.Lookups.{put_here}
use Rattle.record_laws.proofs.extent_map.Numbering.{found_self}
use Rattle.record_laws.specs.catalog.ExtentPlans.{MayMark, marks_changed, marks_or_none, with_marks_changed}
use Rattle.record_laws.specs.catalog_tables.Faults.{IsCatalog}
use Rattle.record_laws.specs.catalog_tables.Rules.{marks_of}
use Rattle.record_laws.specs.catalog_tables.Tables.{Catalogued, Tables}
use Rattle.record_laws.proofs.catalog.MarkPlans.{stands}
use Rattle.record_laws.specs.group_engine.Mounts.{MountedGroup}
use Rattle.group_pieces.specs.Marking.{AreMarked, is_left, left_of}
use Rattle.group_pieces.specs.Usable.{extent_of}
use Rattle.group_pieces.proofs.Leaving.{bit_0, bit_1, bit_2, may_mark}
use Rattle.group_pieces.proofs.Several.{no_bit}

-- the marks of the extent
marks_after : (c : Catalogued) (f i set : ℕ) → IsCatalog c → MayMark c.tables f i set → marks_of (with_marks_changed c.tables f i set 0) f i ≡ marks_changed (marks_of c.tables f i) set 0
marks_after c f i set is may =
    let k : ℕ × ℕ = (f, i / 256) in
    let s = stands c k is may.chunk in
    let new = marks_changed (marks_of c.tables f i) set 0 in
    let its : marks_or_none c.tables.stale k ≡ s.1 = ap (λ (o : Option (List ℕ)). unwrap_or o (replicate 256 0)) s.2.marks in
    let within : i % 256 < length s.1 = omega (arith, s.2.are.size) in
    ap (λ (o : Option (List ℕ)). get_or (unwrap_or o []) (i % 256) 0) (put_here chunk_cmp same_chunk k (slice_set (marks_or_none c.tables.stale k) (i % 256) new) (found_self f (i / 256)) c.tables.stale)
    ∙ ap (λ (m : List ℕ). get_or (slice_set m (i % 256) new) (i % 256) 0) its
    ∙ get_or-set_same s.1 (i % 256) new 0 within

bit_set : (old set k : ℕ) → has_bit set k ≡ true → has_bit (marks_changed old set 0) k ≡ true
unfolding has_bit
bit_set old set k is =
    let one : bit_at set k ≡ 1 = eqb-true (bit_at set k) 1 is in
    eq-eqb (bit_at (marks_changed old set 0) k) 1 (omega (arith, one, bit_at_or (bit_and old 255) set k, bit_at-lt (bit_and old 255) k))

module _ (m : MountedGroup) (x : ExtentId) (inner failed : ℕ) where
  abbrev left : ℕ → Bool
  left k = is_left m (extent_of m x) inner failed k

  pub bit_left : (k : ℕ) → k < 3 → has_bit (left_of m x inner failed) k ≡ left k
  bit_left zero few = bit_0 (left 0) (left 1) (left 2)
  bit_left (suc zero) few = bit_1 (left 0) (left 1) (left 2)
  bit_left (suc (suc zero)) few = bit_2 (left 0) (left 1) (left 2)
  bit_left (suc (suc (suc k))) few = absurd (omega arith)

  -- none was left behind
  pub none_left : left_of m x inner failed ≡ 0 → (t : Tables) → AreMarked m x inner failed t
  none_left none t k few is = absurd (true≢false (sym is ∙ sym (bit_left k few) ∙ ap (λ (n : ℕ). has_bit n k) none ∙ no_bit k))

  -- those that were have their marks
  pub left_marked : IsCatalog m.catalog → (left_of m x inner failed ≡ 0 → ⊥) → (t : Tables) → t ≡ with_marks_changed m.catalog.tables x.file x.index (left_of m x inner failed) 0 → AreMarked m x inner failed t
  left_marked is some t planned k few left_is =
      ap (λ (u : Tables). has_bit (marks_of u x.file x.index) k) planned
      ∙ ap (λ (n : ℕ). has_bit n k) (marks_after m.catalog x.file x.index (left_of m x inner failed) is (may_mark m x inner failed some))
      ∙ bit_set (marks_of m.catalog.tables x.file x.index) (left_of m x inner failed) k (bit_left k few ∙ left_is)
