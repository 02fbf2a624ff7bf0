-- Plans by which a chunk goes.
use Rattle.std.proofs.Common.{◌≡◌, ◌≤◌, ◌<◌, ◌+◌, ◌/◌, ◌%◌, ◌^◌, ℕ, true, false, List, [], ◌∷◌, length, Option, Some, None, refl, sym, ap, subst, ◌∙◌, arith, inl, inr}
use Rattle.std.specs.Option.{is_some}
use Rattle.std.specs.BTreeMap.{is_at}
use Rattle.std.proofs.lemmas.Bool.{true≢false}
use Rattle.std.proofs.lemmas.Option.{none-some}
use Rattle.asm_formats.specs.Items.{FileHead, Homes, Key}
use Rattle.asm_formats.specs.Status.{Entry as StatusEntry}
use Rattle.asm_base.specs.Records.{DirectoryRecord}
use Rattle.plan_records.specs.allocator.UnitMaps.{UnitMap}
use Rattle.plan_records.specs.file_directory.Files.{head_at}
use Rattle.plan_records.specs.extent_map.Extents.{Chunked, chunk_at, chunk_key, without_chunk}
use Rattle.asm_base.specs.Chunks.{Chunk, chunk_cmp}
use Rattle.plan_records.proofs.extent_map.ChunkEnds.{takes_chunks}
use Rattle.plan_records.proofs.extent_map.FileEnds.{item_at}
use Rattle.plan_records.proofs.extent_map.Laws.{chunk_total, same_chunk}
use Rattle.plan_records.proofs.extent_map.Lookups.{gone_few, gone_here, gone_other, key_is}
use Rattle.plan_records.proofs.extent_map.Values.{chunk_numbered}
use Rattle.plan_records.specs.staleness_directory.Marks.{Marked, marks_at, without_marks}
use Rattle.plan_records.proofs.staleness_directory.Laws as stale_laws
use Rattle.plan_records.specs.catalog_tables.Changing.{IsAfter}
use Rattle.catalog.specs.ExtentPlans.{IsUndue, MayCut, with_cut, with_released}
use Rattle.plan_records.specs.catalog_tables.Faults.{IsCatalog, key_of_marks}
use Rattle.plan_records.specs.catalog_tables.Placing.{HasUnits, unused_maps}
use Rattle.catalog.specs.Plans.{IsPlan}
use Rattle.plan_records.specs.catalog_tables.Rules.{HasExtents, has_copies}
use Rattle.plan_records.specs.catalog_tables.Tables.{AreTables, Catalogued, Tables}
use Rattle.catalog.proofs.EditLaws.{IsEdited, after_two_gone, changed, edited_plan, extent_in, homes_set, marks_set}
use Rattle.plan_records.proofs.catalog_tables.NewRecords.{nothing_room}
use Rattle.plan_records.proofs.catalog_tables.EntryLaws.{either}
use Rattle.catalog.proofs.MarkPlans.{some_of}
use Rattle.catalog.proofs.UnitEdits.{units_gone}

-- a chunk that is there has a number with room in its key
pub numbered : (c : Catalogued) (f n : ℕ) → IsCatalog c → is_some (chunk_at c.tables.extents (f, n)) ≡ true → n + 1 < 2 ^ 32
numbered c f n is there =
    let w = some_of (chunk_at c.tables.extents (f, n)) there in
    chunk_numbered f n w.0 (item_at c.tables.extents (f, n) w.0 is.rules.tables.extents.0.1 w.1)

module _ (c : Catalogued) (is : IsCatalog c) (f n : ℕ) (may : MayCut c.shape c.tables f n 0) where
  abbrev k : Chunk
  k = (f, n)

  abbrev xs : List Chunked
  xs = without_chunk c.tables.extents k

  abbrev ms : List Marked
  ms = without_marks c.tables.stale k

  gone : chunk_at xs k ≡ None
  gone = gone_here chunk_cmp same_chunk chunk_total k c.tables.extents is.rules.tables.extents.0.0

  marks_gone : marks_at ms k ≡ None
  marks_gone = gone_here chunk_cmp same_chunk chunk_total k c.tables.stale is.rules.tables.stale.0

  others : (q : Chunk) → is_at (chunk_cmp q) k ≡ false → chunk_at xs q ≡ chunk_at c.tables.extents q
  others q miss = gone_other chunk_cmp same_chunk chunk_total k q c.tables.extents miss

  marks_others : (q : Chunk) → is_at (chunk_cmp q) k ≡ false → marks_at ms q ≡ marks_at c.tables.stale q
  marks_others q miss = gone_other chunk_cmp same_chunk chunk_total k q c.tables.stale miss

  never_due : (head : FileHead) (o : Option FileHead) → o ≡ Some head → IsUndue c.shape o n 0 → IsUndue c.shape (Some head) n 0
  never_due head o e undue = subst (λ (x : Option FileHead). IsUndue c.shape x n 0) e undue

  due : (g : ℕ) (head : FileHead) → head_at c.tables.files g ≡ Some head → HasExtents c.tables c.shape (g, head) → HasExtents (changed c.tables xs ms) c.shape (g, head)
  due g head there all i wanted = elim (either (is_at (chunk_cmp (g, i / 256)) k)) [
    | inl hit ↦
        let same : (g, i / 256) ≡ (f, n) = key_is chunk_cmp same_chunk chunk_total (g, i / 256) k hit in
        let file : head_at c.tables.files f ≡ Some head = ap (λ (q : Chunk). head_at c.tables.files q.0) (sym same) ∙ there in
        absurd (true≢false (sym wanted ∙ never_due head (head_at c.tables.files f) file may.undue i (ap (λ (q : Chunk). q.1) same) (omega arith)))
    | inr miss ↦ ap (λ (o : Option (List Homes)). has_copies head.copies (extent_in o (i % 256))) (others (g, i / 256) miss) ∙ all i wanted
  ]

  edit : IsEdited c.shape c.tables k xs ms
  edit = record {
    extents = takes_chunks c.tables.extents f n is.rules.tables.extents may.last;
    stale = stale_laws.removed_keeps_table c.tables.stale k is.rules.tables.stale;
    homes = others;
    marks = marks_others;
    right = λ w there. absurd (none-some w (sym gone ∙ there));
    chunked = λ m there. absurd (none-some m (sym marks_gone ∙ there));
    due = due;
    room = omega (arith, few, few_marks, is.rules.room);
  } where
    few : length xs ≤ length c.tables.extents
    few = gone_few chunk_cmp same_chunk chunk_total (is_at (chunk_cmp k)) c.tables.extents

    few_marks : length ms ≤ length c.tables.stale
    few_marks = gone_few chunk_cmp same_chunk chunk_total (is_at (chunk_cmp k)) c.tables.stale

  after : AreTables (changed c.tables xs ms) → IsAfter c.tables [] (chunk_key f n ∷ key_of_marks (f, n) ∷ []) (changed c.tables xs ms)
  after are =
      let mid : Tables = record c.tables { extents = xs } in
      after_two_gone c.tables mid (changed c.tables xs ms) (chunk_key f n) (key_of_marks (f, n)) are (homes_set c.tables f n xs None gone others) (marks_set mid f n ms None marks_gone marks_others)

  units : (es : List StatusEntry) → HasUnits c.shape es c.tables c.units → (us : List UnitMap) × HasUnits c.shape es (changed c.tables xs ms) us
  units es has =
      let w = some_of (chunk_at c.tables.extents k) may.there in
      units_gone c.shape.step (unused_maps c.shape es) c.units k c.tables.extents xs is.rules.tables.extents.0.0 edit.extents.0.0 others has w.0 w.1 gone

  release_planned : (put : List DirectoryRecord) (keys : List Key) → put ≡ [] → keys ≡ chunk_key f n ∷ key_of_marks (f, n) ∷ [] → IsPlan c put keys (with_cut c.tables f n 0)
  release_planned put keys p g = rw (p, g) (edited_plan c k xs ms [] (chunk_key f n ∷ key_of_marks (f, n) ∷ []) is edit after units (omega arith) refl (nothing_room c is))

-- where no extent is kept
pub whole_planned : (c : Catalogued) (f n kept : ℕ) (put : List DirectoryRecord) (keys : List Key) → IsCatalog c → MayCut c.shape c.tables f n kept → kept ≡ 0 → put ≡ [] → keys ≡ chunk_key f n ∷ key_of_marks (f, n) ∷ [] → IsPlan c put keys (with_cut c.tables f n kept)
whole_planned c f n kept put keys is may none p g =
    let all : MayCut c.shape c.tables f n 0 = subst (λ (j : ℕ). MayCut c.shape c.tables f n j) none may in
    subst (λ (j : ℕ). IsPlan c put keys (with_cut c.tables f n j)) (sym none) (release_planned c is f n all put keys p g)
