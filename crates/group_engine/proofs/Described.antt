-- What the items of a group say of its disks and homes, by its tables.
use Rattle.std.proofs.Common.{◌≡◌, ℕ, suc, ◌+◌, ◌*◌, ◌/◌, ◌%◌, ◌<◌, Bool, true, List, [], ◌∷◌, length, get_or, Option, Some, None, refl, sym, ap, ◌∙◌, arith}
use Rattle.std.specs.List.{list_all}
use Rattle.std.specs.Option.{unwrap_or}
use Rattle.std.proofs.lemmas.Bool.{and_from, and_parts}
use Rattle.asm_formats.specs.Items.{Home, Homes, Item}
use Rattle.asm_formats.specs.Status as status
use Rattle.asm_base.specs.Chunks.{Chunk, chunk_cmp}
use Rattle.asm_placement.specs.Naming.{is_birth}
use Rattle.asm_images.specs.Describing.{AreRegular, has_info_in_items}
use Rattle.rebalance.specs.extent_map.Extents.{Chunked, chunk_at}
use Rattle.rebalance.proofs.extent_map.Laws.{chunk_total, same_chunk}
use Rattle.rebalance.proofs.extent_map.Numbering.{size_of}
use Rattle.rebalance.specs.catalog_tables.Items.{AreItemsOf}
use Rattle.rebalance.specs.catalog_tables.Rules as rules
use Rattle.rebalance.specs.catalog_tables.Rules.{AreOnRegular, are_on_regular, first_unknown, homes_at, is_on_regular, is_regular_chunk}
use Rattle.rebalance.specs.catalog_tables.Tables.{AreTables, Tables}
use Rattle.rebalance.proofs.catalog_tables.EntryLaws.{holds_all, none_wrong}
use Rattle.group_of.proofs.Extents.{home_by}
use Rattle.group_of.proofs.Says.{infos_are}

-- each entry has its disk record, by the tables as by their items
pub none_unknown : (t : Tables) (items : List Item) → AreItemsOf t items → (es : List status.Entry) → list_all (has_info_in_items items) es ≡ true → first_unknown t es ≡ None
none_unknown t items is [] all = refl
none_unknown t items is (e ∷ es) all =
    let p = and_parts (has_info_in_items items e) (list_all (has_info_in_items items) es) all in
    let here : rules.has_info t e ≡ true = ap (is_birth e.birth) (sym (infos_are t items is e.number)) ∙ p.0 in
    rw here (none_unknown t items is es p.1)

all_by : {A : Type 0} (test : A → Bool) (d : A) (xs : List A) → ((p : ℕ) → p < length xs → test (get_or xs p d) ≡ true) → list_all test xs ≡ true
all_by test d [] each = refl
all_by test d (x ∷ xs) each = and_from (test x) (list_all test xs) (each 0 (omega arith)) (all_by test d xs (λ p lt. each (suc p) (omega (arith, lt))))

-- no home lies on a disk of a quorum failure group, by the tables as by their items
module _ (es : List status.Entry) (t : Tables) (items : List Item) (a : AreTables t) (is : AreItemsOf t items) (regular : AreRegular es items) where
  at_place : (f c p : ℕ) (homes : List Homes) → chunk_at t.extents (f, c) ≡ Some homes → p < 256 → homes_at t f (c * 256 + p) ≡ get_or homes p []
  at_place f c p homes there lt =
      let chunk : (c * 256 + p) / 256 ≡ c = omega (arith, lt) in
      let place : (c * 256 + p) % 256 ≡ p = omega (arith, lt) in
      ap (λ (x : ℕ). get_or (unwrap_or (chunk_at t.extents (f, x)) []) ((c * 256 + p) % 256) []) chunk ∙ ap (λ (x : ℕ). get_or (unwrap_or (chunk_at t.extents (f, c)) []) x []) place
      ∙ ap (λ (o : Option (List Homes)). get_or (unwrap_or o []) p []) there

  one_regular : (f i copy : ℕ) (o : Option Home) → get_or (homes_at t f i) copy None ≡ o → is_on_regular es o ≡ true
  one_regular f i copy None at = refl
  one_regular f i copy (Some h) at = regular f i copy h (home_by t items a is f i copy ∙ at)

  chunk_regular : (k : Chunk) (homes : List Homes) → chunk_at t.extents k ≡ Some homes → is_regular_chunk es (k, homes) ≡ true
  chunk_regular k homes there = all_by (are_on_regular es) [] homes (λ p lt.
      let place = at_place k.0 k.1 p homes there (omega (arith, lt, size_of t.extents k homes a.extents.0.1 there)) in
      all_by (is_on_regular es) None (get_or homes p []) (λ copy below.
      one_regular k.0 (k.1 * 256 + p) copy (get_or (get_or homes p []) copy None) (ap (λ (hs : Homes). get_or hs copy None) place)))

  pub none_irregular : AreOnRegular es t
  none_irregular = none_wrong (is_regular_chunk es) t.extents (holds_all chunk_cmp same_chunk chunk_total (λ (x : Chunked). is_regular_chunk es x ≡ true) t.extents a.extents.0.0 chunk_regular)
