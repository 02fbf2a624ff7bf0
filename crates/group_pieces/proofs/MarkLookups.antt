-- The stale marks once some were set.
use Rattle.std.proofs.Common.{◌≡◌, ⊎_elim, ℕ, zero, suc, ◌/◌, ◌%◌, ◌<◌, true, false, List, [], length, get_or, replicate, Option, Some, None, refl, sym, ap, ◌∙◌, arith}
use Rattle.std.specs.Prelude.{bit_and, slice_set}
use Rattle.std.specs.BTreeMap.{is_at}
use Rattle.std.specs.Int.{bit_at}
use Rattle.std.specs.Option.{unwrap_or}
use Rattle.std.proofs.lemmas.Bool.{cases_Bool, cases_eq, eqb-false, ne_eqb, true≢false}
use Rattle.std.proofs.lemmas.List.{get_or-replicate, get_or-set_other, get_or-set_same, length-replicate}
use Rattle.std.proofs.lemmas.Nat.Bits.{bit_at-lt, bit_at_and, bit_at_or}
use Rattle.asm_base.specs.Chunks.{Chunk, chunk_cmp}
use Rattle.asm_formats.specs.Items.{is_item}
use Rattle.asm_formats.specs.Sets.{has_bit}
use Rattle.record_laws.specs.catalog.ExtentPlans.{marks_changed, marks_or_none, with_marks_changed}
use Rattle.record_laws.proofs.catalog.MarkPlans.{are_marks}
use Rattle.record_laws.specs.catalog_tables.Rules.{marks_of}
use Rattle.record_laws.specs.catalog_tables.Tables.{AreTables, Tables}
use Rattle.record_laws.proofs.catalog_tables.EntryLaws.{either, holds_at}
use Rattle.record_laws.specs.staleness_directory.Marks.{Marked, item_of_marks, marks_at}
use Rattle.record_laws.proofs.extent_map.Laws.{chunk_total, same_chunk}
use Rattle.record_laws.proofs.extent_map.Lookups.{key_is, put_here, put_other}
use Rattle.record_laws.proofs.extent_map.Numbering.{found_self}
use Rattle.group_pieces.specs.Marking.{MarksMore}

-- where a chunk has no marks, none is set
blank_marks : (o : Option (List ℕ)) (p : ℕ) → p < 256 → get_or (unwrap_or o (replicate 256 0)) p 0 ≡ get_or (unwrap_or o []) p 0
blank_marks (Some m) p lt = refl
blank_marks None p lt = get_or-replicate 256 p 0 0 lt

marks_long : (t : Tables) (k : Chunk) (o : Option (List ℕ)) → AreTables t → marks_at t.stale k ≡ o → length (unwrap_or o (replicate 256 0)) ≡ 256
marks_long t k None are at = length-replicate {A = ℕ} 256 0
marks_long t k (Some m) are at = (are_marks k.0 k.1 m (holds_at chunk_cmp same_chunk chunk_total (λ (x : Marked). is_item (item_of_marks x) ≡ true) t.stale k m are.stale.1 at)).size

module _ (t : Tables) (are : AreTables t) (f i set : ℕ) where
  abbrev chunk : Chunk
  chunk = (f, i / 256)

  abbrev old : List ℕ
  old = marks_or_none t.stale chunk

  abbrev new : ℕ
  new = marks_changed (marks_of t f i) set 0

  abbrev put : List ℕ
  put = slice_set old (i % 256) new

  -- the marks of the extent
  pub marks_here : marks_of (with_marks_changed t f i set 0) f i ≡ new
  marks_here =
      ap (λ (o : Option (List ℕ)). get_or (unwrap_or o []) (i % 256) 0) (put_here chunk_cmp same_chunk chunk put (found_self f (i / 256)) t.stale)
      ∙ get_or-set_same old (i % 256) new 0 (omega (arith, marks_long t chunk (marks_at t.stale chunk) are refl))

  -- those of another one
  pub marks_elsewhere : (a j : ℕ) → (a ≡ f → j ≡ i → ⊥) → marks_of (with_marks_changed t f i set 0) a j ≡ marks_of t a j
  marks_elsewhere a j apart = ⊎_elim
      (λ (hit : is_at (chunk_cmp (a, j / 256)) chunk ≡ true).
      let same : ◌≡◌ {A = Chunk} (a, j / 256) chunk = key_is chunk_cmp same_chunk chunk_total (a, j / 256) chunk hit in
      let files : a ≡ f = ap (λ (q : Chunk). q.0) same in
      let chunks : j / 256 ≡ i / 256 = ap (λ (q : Chunk). q.1) same in
      let place : j % 256 ≡ i % 256 → ⊥ = λ at. apart files (omega (arith, chunks, at)) in
      ap (λ (q : Chunk). get_or (unwrap_or (marks_at (with_marks_changed t f i set 0).stale q) []) (j % 256) 0) same
      ∙ ap (λ (o : Option (List ℕ)). get_or (unwrap_or o []) (j % 256) 0) (put_here chunk_cmp same_chunk chunk put (found_self f (i / 256)) t.stale)
      ∙ get_or-set_other old (i % 256) (j % 256) new 0 place
      ∙ blank_marks (marks_at t.stale chunk) (j % 256) (omega arith)
      ∙ ap (λ (q : Chunk). get_or (unwrap_or (marks_at t.stale q) []) (j % 256) 0) (sym same))
      (λ miss. ap (λ (o : Option (List ℕ)). get_or (unwrap_or o []) (j % 256) 0) (put_other chunk_cmp same_chunk chunk put (a, j / 256) miss t.stale))
      (either (is_at (chunk_cmp (a, j / 256)) chunk))

  all_bits : (c : ℕ) → c < 3 → bit_at 255 c ≡ 1
  all_bits zero lt = refl
  all_bits (suc zero) lt = refl
  all_bits (suc (suc zero)) lt = refl
  all_bits (suc (suc (suc c))) lt = absurd (omega arith)

  unset : (was c : ℕ) → c < 3 → has_bit (marks_changed was set 0) c ≡ false → (has_bit was c ≡ false) × (has_bit set c ≡ false)
  unfolding has_bit
  unset was c lt is = (
    ne_eqb (bit_at was c) 1 (λ one. eqb-false (bit_at (marks_changed was set 0) c) 1 is (omega (arith, one, all_bits c lt, bit_at_or (bit_and was 255) set c, bit_at_and was 255 c, bit_at-lt set c))),
    ne_eqb (bit_at set c) 1 (λ one. eqb-false (bit_at (marks_changed was set 0) c) 1 is (omega (arith, one, bit_at_or (bit_and was 255) set c, bit_at-lt (bit_and was 255) c))),
  )

  -- a copy without a mark had none, and isn't one of those that were marked
  pub unmarked_was : (a j c : ℕ) → c < 3 → has_bit (marks_of (with_marks_changed t f i set 0) a j) c ≡ false → (has_bit (marks_of t a j) c ≡ false) × (a ≡ f → j ≡ i → has_bit set c ≡ false)
  unmarked_was a j c lt is = ⊎_elim
      (λ (file : a ≡ f). ⊎_elim
      (λ (index : j ≡ i).
      let here : has_bit new c ≡ false =
      ap (λ (z : ℕ). has_bit z c) (sym marks_here) ∙ ap (λ (z : ℕ). has_bit (marks_of (with_marks_changed t f i set 0) z i) c) (sym file) ∙ ap (λ (z : ℕ). has_bit (marks_of (with_marks_changed t f i set 0) a z) c) (sym index) ∙ is in
      let both = unset (marks_of t f i) c lt here in
      (ap (λ (z : ℕ). has_bit (marks_of t z j) c) file ∙ ap (λ (z : ℕ). has_bit (marks_of t f z) c) index ∙ both.0, λ e g. both.1))
      (λ differ. (ap (λ (z : ℕ). has_bit z c) (sym (marks_elsewhere a j (λ e g. differ g))) ∙ is, λ e g. absurd (differ g)))
      (cases_eq j i))
      (λ differ. (ap (λ (z : ℕ). has_bit z c) (sym (marks_elsewhere a j (λ e g. differ e))) ∙ is, λ e g. absurd (differ e)))
      (cases_eq a f)

  grown : (was c : ℕ) → c < 3 → has_bit was c ≡ true → has_bit (marks_changed was set 0) c ≡ true
  grown was c lt is = ⊎_elim (λ (yes : has_bit (marks_changed was set 0) c ≡ true). yes) (λ no. absurd (true≢false (sym is ∙ (unset was c lt no).0))) (cases_Bool (has_bit (marks_changed was set 0) c))

  -- homes stay, and so do marks
  pub marks_more : MarksMore t (with_marks_changed t f i set 0)
  marks_more = record { names = record { files = refl; nodes = refl; templates = refl }; extents = refl; marks = more }
    where
      more : (a j c : ℕ) → c < 3 → has_bit (marks_of t a j) c ≡ true → has_bit (marks_of (with_marks_changed t f i set 0) a j) c ≡ true
      more a j c lt is = ⊎_elim
          (λ (file : a ≡ f). ⊎_elim
          (λ (index : j ≡ i).
          ap (λ (z : ℕ). has_bit (marks_of (with_marks_changed t f i set 0) a z) c) index ∙ ap (λ (z : ℕ). has_bit (marks_of (with_marks_changed t f i set 0) z i) c) file ∙ ap (λ (z : ℕ). has_bit z c) marks_here
          ∙ grown (marks_of t f i) c lt (ap (λ (z : ℕ). has_bit (marks_of t z i) c) (sym file) ∙ ap (λ (z : ℕ). has_bit (marks_of t a z) c) (sym index) ∙ is))
          (λ differ. ap (λ (z : ℕ). has_bit z c) (marks_elsewhere a j (λ e g. differ g)) ∙ is)
          (cases_eq j i))
          (λ differ. ap (λ (z : ℕ). has_bit z c) (marks_elsewhere a j (λ e g. differ e)) ∙ is)
          (cases_eq a f)

pub marks_same : (t : Tables) → MarksMore t t
marks_same t = record { names = record { files = refl; nodes = refl; templates = refl }; extents = refl; marks = λ f i k lt is. is }
