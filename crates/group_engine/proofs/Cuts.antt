-- Plans that change nothing that the group is.
use Rattle.std.proofs.Common.{◌≡◌, ℕ, ◌/◌, ◌%◌, ◌<◌, ◌==◌, Bool, true, false, cond, List, [], ◌∷◌, ◌++◌, length, take, drop, get_or, replicate, Option, Some, None, refl, sym, ap, subst, ◌∙◌, arith, inl, inr}
use Rattle.std.specs.Option.{unwrap_or}
use Rattle.std.specs.Ordering.{nat_cmp}
use Rattle.std.specs.BTreeMap.{insert_entry, is_at}
use Rattle.std.specs.Map.{lookup, remove_entry}
use Rattle.std.proofs.lemmas.Bool.{cases_lt, eq-eqb, eqb-true, true≢false}
use Rattle.std.proofs.lemmas.Cmp.{nat_cmp_total}
use Rattle.std.proofs.lemmas.Option.{none-some}
use Rattle.std.proofs.lemmas.List.{get_or_append_left, get_or-replicate, get_or-take, length-replicate, length-take}
use Rattle.asm_group.specs.Shape.{Shape}
use Rattle.asm_formats.specs.Items.{FileHead, Homes, is_item}
use Rattle.asm_formats.specs.Status as status
use Rattle.asm_formats.specs.Status.{entry_of}
use Rattle.asm_placement.specs.Naming.{is_birth}
use Rattle.asm_base.specs.Chunks.{Chunk, chunk_cmp}
use Rattle.rebalance.specs.extent_map.Extents.{Chunked, absent_homes, chunk_at, chunk_or_blank}
use Rattle.rebalance.proofs.extent_map.Laws.{chunk_total, same_chunk}
use Rattle.rebalance.proofs.extent_map.Lookups.{gone_other, key_is, put_here, put_other}
use Rattle.rebalance.proofs.extent_map.Numbering.{found_self, size_of}
use Rattle.rebalance.specs.file_directory.Files.{head_at}
use Rattle.rebalance.specs.staleness_directory.Marks.{Marked, item_of_marks, marks_at}
use Rattle.rebalance.specs.catalog.ExtentPlans.{IsUndue, MayCut, with_cut, with_fewer, with_released}
use Rattle.rebalance.specs.catalog.Plans.{with_disk_record}
use Rattle.rebalance.proofs.catalog.MarkPlans.{are_marks, some_of}
use Rattle.rebalance.proofs.catalog.NumberedEntries.{number_other}
use Rattle.rebalance.proofs.catalog_laws.RegularHomes.{cutting_keeps}
use Rattle.rebalance.specs.catalog_tables.Rules.{first_unknown, has_info, head_has_extent}
use Rattle.rebalance.specs.catalog_tables.Tables.{AreTables, Tables}
use Rattle.rebalance.proofs.catalog_tables.EntryLaws.{either, holds_at}
use Rattle.rebalance.proofs.catalog_tables.TableItems.{numbers_exact}
use Rattle.group_of.specs.Describing.{KeepsNames}
use Rattle.group_engine.specs.Surplus.{CutIsSurplus, KeepsDue, LeftDiskIsSurplus, OperationIsSurplus}

-- ---- lists of a chunk

kept_at : {A : Type 0} (kept p : ℕ) (xs blank : List A) (d : A) → p < length xs → p < kept → get_or (take kept xs ++ drop kept blank) p d ≡ get_or xs p d
kept_at kept p xs blank d inside lt = get_or_append_left (take kept xs) (drop kept blank) d p (omega (arith, length-take kept xs, inside, lt)) ∙ get_or-take kept xs p d lt

-- what stands at a place of a chunk, of which there is none where the chunk isn't there
module _ {A : Type 0} (es : List (Chunk × List A)) (k q : Chunk) (p : ℕ) (d : A) where
  abbrev found : List (Chunk × List A) → Chunk → A
  found xs x = get_or (unwrap_or (lookup (is_at (chunk_cmp x)) xs) []) p d

  -- another value of the chunk that has the same there
  put_stays : (v : List A) → (q ≡ k → get_or v p d ≡ found es k) → found (insert_entry chunk_cmp es k v) q ≡ found es q
  put_stays v same_there = elim (either (is_at (chunk_cmp q) k)) [
    | inl hit ↦
        let same : q ≡ k = key_is chunk_cmp same_chunk chunk_total q k hit in
        ap (found (insert_entry chunk_cmp es k v)) same ∙ ap (λ (o : Option (List A)). get_or (unwrap_or o []) p d) (put_here chunk_cmp same_chunk k v (found_self k.0 k.1) es)
        ∙ same_there same ∙ ap (found es) (sym same)
    | inr miss ↦ ap (λ (o : Option (List A)). get_or (unwrap_or o []) p d) (put_other chunk_cmp same_chunk k v q miss es)
  ]

  gone_stays : (q ≡ k → ⊥) → found (remove_entry (is_at (chunk_cmp k)) es) q ≡ found es q
  gone_stays apart = elim (either (is_at (chunk_cmp q) k)) [
    | inl hit ↦ absurd (apart (key_is chunk_cmp same_chunk chunk_total q k hit))
    | inr miss ↦ ap (λ (o : Option (List A)). get_or (unwrap_or o []) p d) (gone_other chunk_cmp same_chunk chunk_total k q es miss)
  ]

-- ---- the extents of a chunk from a place on go

module _ (s : Shape) (t : Tables) (a : AreTables t) (f n kept : ℕ) (may : MayCut s t f n kept) where
  -- an extent of the chunk that the file has by its size lies before the place
  before : (g i : ℕ) (head : FileHead) → head_at t.files g ≡ Some head → head_has_extent s head i ≡ true → ◌≡◌ {A = Chunk} (g, i / 256) (f, n) → i % 256 < kept
  before g i head there due same = elim (cases_lt (i % 256) kept) [
    | inl lt ↦ lt
    | inr past ↦
        let its : head_at t.files f ≡ Some head = ap (λ (q : Chunk). head_at t.files q.0) (sym same) ∙ there in
        let undue : IsUndue s (Some head) n kept = subst (λ (o : Option FileHead). IsUndue s o n kept) its may.undue in
        absurd (true≢false (sym due ∙ undue i (ap (λ (q : Chunk). q.1) same) past))
  ]

  -- some are kept
  fewer_due : KeepsDue s t (with_fewer t f n kept)
  fewer_due = record {
    files = refl;
    homes = λ g i head there due. put_stays t.extents (f, n) (g, i / 256) (i % 256) [] _ (λ same. homes (i % 256) (omega arith) (before g i head there due same));
    marks = λ g i head there due. put_stays t.stale (f, n) (g, i / 256) (i % 256) 0 _ (λ same. marks (i % 256) (omega arith) (before g i head there due same) (marks_at t.stale (f, n)) refl);
  } where
    chunk : (w : List Homes) × (chunk_at t.extents (f, n) ≡ Some w)
    chunk = some_of (chunk_at t.extents (f, n)) may.there

    homes : (p : ℕ) → p < 256 → p < kept → get_or (take kept (chunk_or_blank t.extents (f, n)) ++ drop kept (replicate 256 absent_homes)) p [] ≡ get_or (unwrap_or (chunk_at t.extents (f, n)) []) p []
    homes p inside lt =
        ap (λ (o : Option (List Homes)). get_or (take kept (unwrap_or o (replicate 256 absent_homes)) ++ drop kept (replicate 256 absent_homes)) p []) chunk.1
        ∙ kept_at kept p chunk.0 (replicate 256 absent_homes) [] (omega (arith, inside, size_of t.extents (f, n) chunk.0 a.extents.0.1 chunk.1)) lt
        ∙ ap (λ (o : Option (List Homes)). get_or (unwrap_or o []) p []) (sym chunk.1)

    marks : (p : ℕ) → p < 256 → p < kept → (o : Option (List ℕ)) → marks_at t.stale (f, n) ≡ o
        → get_or (take kept (unwrap_or (marks_at t.stale (f, n)) (replicate 256 0)) ++ drop kept (replicate 256 0)) p 0 ≡ get_or (unwrap_or (marks_at t.stale (f, n)) []) p 0
    marks p inside lt (Some m) at =
        let size = are_marks f n m (holds_at chunk_cmp same_chunk chunk_total (λ (x : Marked). is_item (item_of_marks x) ≡ true) t.stale (f, n) m a.stale.1 at) in
        ap (λ (o : Option (List ℕ)). get_or (take kept (unwrap_or o (replicate 256 0)) ++ drop kept (replicate 256 0)) p 0) at ∙ kept_at kept p m (replicate 256 0) 0 (omega (arith, inside, size.size)) lt
        ∙ ap (λ (o : Option (List ℕ)). get_or (unwrap_or o []) p 0) (sym at)
    marks p inside lt None at =
        ap (λ (o : Option (List ℕ)). get_or (take kept (unwrap_or o (replicate 256 0)) ++ drop kept (replicate 256 0)) p 0) at
        ∙ kept_at kept p (replicate 256 0) (replicate 256 0) 0 (omega (arith, inside, length-replicate {A = ℕ} 256 0)) lt ∙ get_or-replicate 256 p 0 0 inside
        ∙ ap (λ (o : Option (List ℕ)). get_or (unwrap_or o []) p 0) (sym at)

  -- none is
  released_due : kept ≡ 0 → KeepsDue s t (with_released t f n)
  released_due none = record {
    files = refl;
    homes = λ g i head there due. gone_stays t.extents (f, n) (g, i / 256) (i % 256) [] (λ same. absurd (omega (arith, none, before g i head there due same)));
    marks = λ g i head there due. gone_stays t.stale (f, n) (g, i / 256) (i % 256) 0 (λ same. absurd (omega (arith, none, before g i head there due same)));
  }

  cut_due : KeepsDue s t (with_cut t f n kept)
  cut_due = by (kept == 0) refl where
    by : (b : Bool) → (kept == 0) ≡ b → KeepsDue s t (cond b (with_released t f n) (with_fewer t f n kept))
    by true e = released_due (eqb-true kept 0 e)
    by false e = fewer_due

-- whatever of the chunk goes, extents and marks alone change
cut_parts : (P : Tables → Type 0) (t : Tables) (f n kept : ℕ) → ((xs : List Chunked) (ms : List Marked) → P (record t { extents = xs; stale = ms })) → P (with_cut t f n kept)
cut_parts P t f n kept of_parts = by (kept == 0) where
  by : (b : Bool) → P (cond b (with_released t f n) (with_fewer t f n kept))
  by true = of_parts _ _
  by false = of_parts _ _

pub cut_surplus : CutIsSurplus
cut_surplus entries c put gone f n kept a may plan = record {
  plan = plan;
  names = cut_parts (λ (u : Tables). KeepsNames c.tables u) c.tables f n kept (λ xs ms. record { files = refl; nodes = refl; templates = refl });
  due = cut_due c.shape c.tables a f n kept may;
  infos = cut_parts (λ (u : Tables). first_unknown c.tables entries ≡ None → first_unknown u entries ≡ None) c.tables f n kept (λ xs ms none. none);
  regular = cutting_keeps entries c.tables f n kept;
}

-- ---- operations

pub operation_surplus : OperationIsSurplus
operation_surplus entries c put gone ops plan = record {
  plan = plan;
  names = record { files = refl; nodes = refl; templates = refl };
  due = record { files = refl; homes = λ f i head there due. refl; marks = λ f i head there due. refl };
  infos = λ none. none;
  regular = λ is. is;
}

-- ---- the record of a disk without an entry goes

no_entry : (e : status.Entry) (es : List status.Entry) (d : ℕ) → status.entry_of (e ∷ es) d ≡ None → (e.number ≡ d → ⊥) × (status.entry_of es d ≡ None)
unfolding entry_of
no_entry e es d none = by (e.number == d) refl none where
  by : (b : Bool) → (e.number == d) ≡ b → cond b (Some e) (status.entry_of es d) ≡ None → (e.number ≡ d → ⊥) × (status.entry_of es d ≡ None)
  by true q none = absurd (none-some e (sym none))
  by false q none = (λ same. absurd (true≢false (sym (eq-eqb e.number d same) ∙ q)), none)

infos_stay : (t : Tables) (d : ℕ) (es : List status.Entry) → status.entry_of es d ≡ None → first_unknown t es ≡ None → first_unknown (record t { disks = with_disk_record t.disks d None }) es ≡ None
infos_stay t d [] without none = refl
infos_stay t d (e ∷ es) without none = by (has_info t e) refl none (infos_stay t d es apart.1) where
  apart : (e.number ≡ d → ⊥) × (status.entry_of es d ≡ None)
  apart = no_entry e es d without

  u : Tables
  u = record t { disks = with_disk_record t.disks d None }

  same : has_info u e ≡ has_info t e
  same = ap (is_birth e.birth) (gone_other nat_cmp numbers_exact nat_cmp_total d e.number t.disks (number_other e.number d apart.0))

  by : (b : Bool) → has_info t e ≡ b → first_unknown t (e ∷ es) ≡ None → (first_unknown t es ≡ None → first_unknown u es ≡ None) → first_unknown u (e ∷ es) ≡ None
  by true q none rest = rw (same ∙ q) (rest (rw q at none))
  by false q none rest = absurd (none-some e.number (sym (rw q at none)))

pub disk_surplus : LeftDiskIsSurplus
disk_surplus entries c put gone d without plan = record {
  plan = plan;
  names = record { files = refl; nodes = refl; templates = refl };
  due = record { files = refl; homes = λ f i head there due. refl; marks = λ f i head there due. refl };
  infos = infos_stay c.tables d entries without;
  regular = λ is. is;
}
