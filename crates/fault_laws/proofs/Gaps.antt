-- The chunks of records that describe a group have no gap.
use Rattle.std.proofs.Common.{◌≡◌, ℕ, suc, ◌+◌, Bool, true, false, eqb, get_or, List, [], ◌∷◌, map, Option, Some, None, refl, sym, ap, subst, ◌∙◌, arith}
use Rattle.std.specs.Prelude.{◌&&◌, ◌||◌, ◌/◌, ◌%◌, not}
use Rattle.std.specs.List.Sorted.{IsStrictlySortedBy}
use Rattle.std.specs.Option.{is_some, option_or, unwrap_or}
use Rattle.std.proofs.lemmas.Bool.{and_parts, eqb-true, eq-eqb, ne_eqb}
use Rattle.asm_group.specs.Group.{Group}
use Rattle.asm_formats.specs.Among.{IsAmong}
use Rattle.asm_formats.specs.Items.{Homes, Item, chunk_len, chunk_item}
use Rattle.asm_formats.specs.Status.{Status}
use Rattle.asm_placement.specs.Tables.{first_said, home_of, homes_in, if_is, is_extent}
use Rattle.asm_images.specs.Describing.{DescribesGroup}
use Rattle.asm_base.specs.Chunks.{chunk_cmp, is_chunk_before}
use Rattle.asm_base.specs.Records.{DirectoryRecord, key_cmp, keys_of, of_kinds}
use Rattle.asm_base.specs.Tables.{IsItemTable}
use Rattle.asm_base.proofs.Exact.{some_is, test_some}
use Rattle.extent_map.specs.Extents as extents
use Rattle.extent_map.specs.Extents.{Chunked, chunk_at, has_extent, has_no_gap, full_chunk, stands_at}
use Rattle.extent_map.proofs.Laws.{chunk_total}
use Rattle.catalog_tables.specs.Items.{AreItemsIn}
use Rattle.catalog_tables.proofs.TableItems.{among_found, chunks_exact, found_is}
use Rattle.fault_laws.proofs.Numbered.{numbered_has_no_gap}
use Rattle.fault_laws.proofs.Records.{back, into, said_by}

abbrev tells_chunk : ℕ → ℕ → Item → Option (List Homes)
tells_chunk f c (chunk_item g d homes) = if_is (eqb g f && eqb d c) homes
tells_chunk f c _ = None

homes_said : (items : List Item) (f c : ℕ) → homes_in items f c ≡ first_said (tells_chunk f c) items
unfolding homes_in
homes_said [] f c = refl
homes_said (chunk_item g d homes ∷ items) f c = ap (option_or (if_is (eqb g f && eqb d c) homes)) (homes_said items f c)
homes_said (i ∷ items) f c = homes_said items f c

told : (f c : ℕ) (i : Item) (y : List Homes) → tells_chunk f c i ≡ Some y → i ≡ chunk_item f c y
told f c (chunk_item g d homes) y e =
    let p = test_some (eqb g f && eqb d c) homes y e in
    let q = and_parts (eqb g f) (eqb d c) p.0 in
    let file = eqb-true g f q.0 in
    let number = eqb-true d c q.1 in
    λ j. chunk_item (file j) (number j) (p.1 j)
told f c _ y e = absurd cc

or_first : (a b c : Bool) → ((a || b) || c) ≡ (a || (b || c))
or_first true b c = refl
or_first false b c = refl

module _ (content : List DirectoryRecord) (items : List Item) (sorted : IsStrictlySortedBy key_cmp (keys_of content)) (are : AreItemsIn content items) (r : Status) (g : Group) (d : DescribesGroup r items g)
    (table : List Chunked) (fits : IsItemTable is_chunk_before extents.item_of_chunk table) (same : of_kinds extents.is_chunk content ≡ map extents.record_of_chunk table) where
  homes_are : (f c : ℕ) → homes_in items f c ≡ chunk_at table (f, c)
  homes_are f c = homes_said items f c ∙ said_by (tells_chunk f c) items (chunk_at table (f, c)) there only where
    there : (y : List Homes) → chunk_at table (f, c) ≡ Some y → (i : Item) × IsAmong items i × (tells_chunk f c i ≡ Some y)
    there y e =
        let among = found_is chunk_cmp chunk_total chunks_exact (f, c) table y e in
        (chunk_item f c y, into content items sorted are extents.item_of_chunk extents.is_chunk table same fits.1 ((f, c), y) among, rw (eq-eqb f f refl, eq-eqb c c refl) refl)

    only : (j : Item) (z : List Homes) → IsAmong items j → tells_chunk f c j ≡ Some z → chunk_at table (f, c) ≡ Some z
    only j z h e =
        let mine : extents.is_chunk (extents.chunk_key f c) ≡ true = ap not (ne_eqb (c + 1) 0 (λ e. omega (arith, e))) in
        let b = back content items sorted are extents.item_of_chunk extents.is_chunk table same fits.1 (chunk_item f c z) (subst (λ (i : Item). IsAmong items i) (told f c j z e) h) mine in
        let one : ((f, c), z) ≡ b.0 = some_is ((f, c), z) b.0 (ap extents.chunk_of_item b.2) in
        among_found chunk_cmp chunk_total chunks_exact table ((f, c), z) fits.0 (subst (λ (x : Chunked). IsAmong table x) (sym one) b.1)

  home_is : (f i copy : ℕ) → home_of items f i copy ≡ get_or (get_or (unwrap_or (chunk_at table (f, i / chunk_len)) []) (i % chunk_len) []) copy None
  unfolding home_of
  home_is f i copy = ap (λ (o : Option (List Homes)). get_or (get_or (unwrap_or o []) (i % chunk_len) []) copy None) (homes_are f (i / chunk_len))

  extent_is : (f i : ℕ) → is_extent items f i ≡ has_extent table f i
  extent_is f i = rw (home_is f i 0, home_is f i 1, home_is f i 2) (or_first (is_some (get_or (homes f i) 0 None)) (is_some (get_or (homes f i) 1 None)) (is_some (get_or (homes f i) 2 None))) where
    homes : ℕ → ℕ → Homes
    homes f i = get_or (unwrap_or (chunk_at table (f, i / chunk_len)) []) (i % chunk_len) []

  pub no_gap : has_no_gap None table ≡ true
  no_gap = numbered_has_no_gap table fits (λ f i e. sym (extent_is f i) ∙ d.extent_rules.no_gap f i (extent_is f (suc i) ∙ e))
