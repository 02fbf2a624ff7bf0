-- What the search over the tables of a group finds is the next move of its items.
use Rattle.std.proofs.Common.{◌≡◌, ℕ, zero, suc, ◌+◌, ◌*◌, ◌<◌, ◌≤◌, ◌^◌, Bool, true, false, not, ◌&&◌, ◌||◌, List, [], ◌∷◌, length, get_or, refl, sym, ap, subst, ◌∙◌, Option, Some, None, arith, ltb, eqb, inl, inr}
use Rattle.std.specs.Prelude.{flat_map, ◌/◌, ◌%◌}
use Rattle.std.specs.List.{list_all}
use Rattle.std.specs.Option.{is_some, option_map, option_or, unwrap_or}
use Rattle.std.proofs.lemmas.Bool.{and_parts, eqb-true, lt-ltb}
use Rattle.std.proofs.lemmas.Nat.{div-add-mod'}
use Rattle.asm_group.specs.Shape.{Shape}
use Rattle.asm_formats.specs.Among.{IsAmong}
use Rattle.asm_formats.specs.Status.{Entry, Status, entry_of}
use Rattle.asm_formats.specs.Items.{FileHead, Homes, Item, chunk_item, is_homes, is_item}
use Rattle.asm_placement.specs.Copies as copies
use Rattle.asm_placement.specs.Copies.{Copy, all_copies, copies_at, copies_from, file_copies}
use Rattle.asm_placement.specs.Layout.{units_of}
use Rattle.asm_placement.specs.Tables.{homes_in}
use Rattle.asm_placement.specs.Rebalancing.{Next, done, first_of, next, next_directory, next_tables}
use Rattle.asm_placement.specs.Space.{share}
use Rattle.asm_placement.proofs.MovedCopies.{in_chunk}
use Rattle.allocator.specs.UnitMaps.{UnitMap}
use Rattle.partnership.specs.UnitsOf.{AreUnitsOf}
use Rattle.catalog_laws.specs.extent_map.Extents.{Chunked, chunk_at, has_home, is_blank, item_of_chunk}
use Rattle.asm_base.specs.Chunks.{chunk_cmp}
use Rattle.catalog_laws.proofs.extent_map.Laws.{chunk_total}
use Rattle.catalog_laws.specs.file_directory.Files.{head_at}
use Rattle.catalog_laws.specs.catalog_tables.Tables.{AreTables, Catalogued, Tables}
use Rattle.catalog_laws.specs.catalog_tables.Items.{AreItemsOf, SayTables, chunk_copies}
use Rattle.catalog_laws.specs.catalog_tables.Faults.{IsCatalog}
use Rattle.catalog_laws.proofs.catalog.ExtentCounts.{few_extents}
use Rattle.catalog_laws.proofs.ItemLists.{items_say}
use Rattle.catalog_laws.proofs.catalog_tables.PlacingLaws.{units_some}
use Rattle.catalog_laws.proofs.catalog_tables.TableItems.{among_found, chunks_exact, each_of}
use Rattle.catalog_laws.proofs.UnitLaws.{units_are}
use Rattle.partnership.proofs.status_table.Allowed.{parts_of}
use Rattle.extent_copies.specs.declared.extent.Extent.{Extent}
use Rattle.rebalance.specs.declared.moves.Next.{Next as CodeNext}
use Rattle.rebalance.specs.declared.stages.Stage.{Stage}
use Rattle.rebalance.specs.declared.stages.Stage.TheVariants as stage
use Rattle.extent_copies.specs.Extents.{IsExtentOf}
use Rattle.rebalance.specs.Moves.{next_meant}
use Rattle.partnership.specs.Selections.{FitInSet}
use Rattle.rebalance.specs.Sums.{Sums, sums_at, sums_of}
use Rattle.rebalance.specs.Stages.{StagesAreNext, first_said_at_stage, records_say}
use Rattle.rebalance.specs.Searching.{IsStatusOf, extent_in_tables, extent_says, first_of_chunk, first_of_chunks, first_of_extents, group_says, next_in, rest_said, with_copies}
use Rattle.rebalance.proofs.OwnCopies.{own_copies}
use Rattle.partnership.proofs.Selected.{status_numbered}
use Rattle.rebalance.proofs.Sharing.{sums_placed}
use Rattle.rebalance.proofs.Verdicts.{first_parts, said_agrees}

-- ---- by the items

or_false : (b : Bool) → (b || false) ≡ b
or_false true = refl
or_false false = refl

pub same_home : (hs : Homes) → length hs ≡ 3 → copies.has_any_home hs ≡ has_home hs
same_home (a ∷ b ∷ c ∷ []) three = ap (λ (x : Bool). is_some a || (is_some b || x)) (or_false (is_some c))
same_home [] three = absurd (omega (arith, three))
same_home (a ∷ []) three = absurd (omega (arith, three))
same_home (a ∷ b ∷ []) three = absurd (omega (arith, three))
same_home (a ∷ b ∷ c ∷ d ∷ hs) three = absurd (omega (arith, three))

-- a chunk of the formats
pub record IsChunk (x : Chunked) : Type 0 where
  pub size : length x.1 ≡ 256
  pub homes : list_all is_homes x.1 ≡ true

pub chunk_parts : (f c : ℕ) (homes : List Homes) → is_item (chunk_item f c homes) ≡ true → IsChunk ((f, c), homes)
unfolding is_item
chunk_parts f c homes ok =
    let p = and_parts (ltb f (2 ^ 32)) _ ok in
    let q = and_parts (ltb (c + 1) (2 ^ 32)) _ p.1 in
    let r = and_parts (eqb (length homes) 256) (list_all is_homes homes) q.1 in
    record { size = eqb-true (length homes) 256 r.0; homes = r.1 }

not_blank : (xs : List Homes) (p : ℕ) → p < length xs → has_home (get_or xs p []) ≡ true → is_blank xs ≡ false
not_blank [] p less e = absurd (omega (arith, less))
not_blank (h ∷ xs) zero less e = rw e refl
not_blank (h ∷ xs) (suc p) less e = by (not (has_home h)) (not_blank xs p (omega (arith, less)) e) where
  by : (b : Bool) → is_blank xs ≡ false → (b && is_blank xs) ≡ false
  by true rest = rest
  by false rest = refl

-- the extents of a chunk from a place on
record ArePlaced (homes : List Homes) (p : ℕ) (more : List Homes) : Type 0 where
  at : (q : ℕ) → q < length more → get_or homes (p + q) [] ≡ get_or more q []
  end : p + length more ≡ length homes

module _ (at : Stage) (s : Shape) (es : List Entry) (c : Tables) (ms : List UnitMap) (items : List Item) (sums : Sums) (a : AreTables c) (is : AreItemsOf c items) (small : FitInSet es)
    (units : AreUnitsOf s items es ms) (shares : sums ≡ sums_of s items es) (few : (x : Chunked) → IsAmong c.extents x → is_blank x.1 ≡ false → x.0.1 * 256 ≤ 1073741824) where
  tells : Copy → Option Next
  tells = records_say at s es items (all_copies items)

  says : Extent → Option Next
  says = extent_says at es ms sums

  say : SayTables c items
  say = items_say c items a is

  -- an extent that is there says what its copies say
  one_extent : (x : Chunked) (head : FileHead) (p : ℕ) → IsAmong c.extents x → head_at c.files x.0.0 ≡ Some head → p < 256 → length x.1 ≡ 256 → copies.has_any_home (get_or x.1 p []) ≡ true
      → first_of (records_say at s es items (all_copies items)) (copies_at x.0.0 (x.0.1 * 256 + p) (get_or x.1 p []) 0 head.copies) ≡ extent_says at es ms sums (extent_in_tables s c x.0.0 head.copies (x.0.1 * 256 + p) (get_or x.1 p []))
  one_extent x head p h has less size there =
      let e = extent_in_tables s c x.0.0 head.copies (x.0.1 * 256 + p) (get_or x.1 p []) in
      let chunk : (x.0.1 * 256 + p) / 256 ≡ x.0.1 = in_chunk x.0.1 (x.0.1 * 256 + p) (omega arith) (omega (arith, less)) in
      let place : (x.0.1 * 256 + p) % 256 ≡ p = omega (arith, div-add-mod' (x.0.1 * 256 + p) 256, chunk) in
      let table : chunk_at c.extents (x.0.0, (x.0.1 * 256 + p) / 256) ≡ Some x.1 = ap (λ (d : ℕ). chunk_at c.extents (x.0.0, d)) chunk ∙ among_found chunk_cmp chunk_total chunks_exact c.extents x a.extents.0.0 h in
      let homes_same : get_or x.1 p [] ≡ get_or (unwrap_or (copies_homes x.0.0 ((x.0.1 * 256 + p) / 256)) []) ((x.0.1 * 256 + p) % 256) [] =
      ap (λ (q : ℕ). get_or x.1 q []) (sym place) ∙ ap (λ (o : Option (List Homes)). get_or (unwrap_or o []) ((x.0.1 * 256 + p) % 256) []) (sym (say.homes x.0.0 ((x.0.1 * 256 + p) / 256) ∙ table)) in
      let own : IsExtentOf s items (all_copies items) (extent_in_tables s c x.0.0 head.copies (x.0.1 * 256 + p) (get_or x.1 p [])) = record {
        units = refl;
        marks = λ k lt. sym (say.stale x.0.0 (x.0.1 * 256 + p) k);
        copies = own_copies items (extent_in_tables s c x.0.0 head.copies (x.0.1 * 256 + p) (get_or x.1 p [])) say.allowed say.keys (record { head = head; has_head = say.heads x.0.0 ∙ has; copies = refl; homes = homes_same; there = there });
      } in
      sym (said_agrees at s items (all_copies items) es ms sums (extent_in_tables s c x.0.0 head.copies (x.0.1 * 256 + p) (get_or x.1 p [])) small (units_some s.step (x.0.1 * 256 + p) (units_of s.step (x.0.1 * 256 + p)) refl) units shares own)
    where
      copies_homes : ℕ → ℕ → Option (List Homes)
      copies_homes f d = homes_in items f d

  from_place : (x : Chunked) (head : FileHead) → IsAmong c.extents x → head_at c.files x.0.0 ≡ Some head → IsChunk x → (more : List Homes) (p : ℕ) → ArePlaced x.1 p more
      → first_of (records_say at s es items (all_copies items)) (copies_from x.0.0 (x.0.1 * 256 + p) head.copies more) ≡ first_of_extents (extent_says at es ms sums) s c x.0.0 head.copies (x.0.1 * 256 + p) more
  from_place x head h has chunk [] p placed = refl
  from_place x head h has chunk (hs ∷ more) p placed =
      let within : p < 256 = omega (arith, placed.end, chunk.size) in
      let own : get_or x.1 p [] ≡ hs = ap (λ (q : ℕ). get_or x.1 q []) (sym (plus_none p)) ∙ placed.at 0 (omega arith) in
      let later : ArePlaced x.1 (p + 1) more = record {
        at = λ q lt. ap (λ (r : ℕ). get_or x.1 r []) (step_on p q) ∙ placed.at (suc q) (omega (arith, lt));
        end = omega (arith, placed.end);
      } in
      let rest = from_place x head h has chunk more (p + 1) later in
      let three : length hs ≡ 3 = ap length (sym own) ∙ three_homes x.1 p (omega (arith, within, chunk.size)) chunk.homes in
      by (copies.has_any_home hs) refl within own three rest
    where
      plus_none : (q : ℕ) → q + 0 ≡ q
      plus_none q = omega arith

      step_on : (q r : ℕ) → q + 1 + r ≡ q + suc r
      step_on q r = omega arith

      behind : x.0.1 * 256 + (p + 1) ≡ suc (x.0.1 * 256 + p)
      behind = omega arith

      three_homes : (xs : List Homes) (q : ℕ) → q < length xs → list_all is_homes xs ≡ true → length (get_or xs q []) ≡ 3
      three_homes [] q lt all = absurd (omega (arith, lt))
      three_homes (y ∷ xs) zero lt all = eqb-true (length y) 3 (and_parts (eqb (length y) 3) _ (and_parts (is_homes y) (list_all is_homes xs) all).0).0
      three_homes (y ∷ xs) (suc q) lt all = three_homes xs q (omega (arith, lt)) (and_parts (is_homes y) (list_all is_homes xs) all).1

      by : (b : Bool) → copies.has_any_home hs ≡ b → p < 256 → get_or x.1 p [] ≡ hs → length hs ≡ 3
          → first_of (records_say at s es items (all_copies items)) (copies_from x.0.0 (x.0.1 * 256 + (p + 1)) head.copies more) ≡ first_of_extents (extent_says at es ms sums) s c x.0.0 head.copies (x.0.1 * 256 + (p + 1)) more
          → first_of (records_say at s es items (all_copies items)) (copies_from x.0.0 (x.0.1 * 256 + p) head.copies (hs ∷ more)) ≡ first_of_extents (extent_says at es ms sums) s c x.0.0 head.copies (x.0.1 * 256 + p) (hs ∷ more)
      by false gone within own three rest =
          let none : has_home hs ≡ false = sym (same_home hs three) ∙ gone in
          rw (gone, none) (subst (λ (j : ℕ). first_of (records_say at s es items (all_copies items)) (copies_from x.0.0 j head.copies more) ≡ first_of_extents (extent_says at es ms sums) s c x.0.0 head.copies j more) behind rest)
      by true there within own three rest =
          let some : has_home hs ≡ true = sym (same_home hs three) ∙ there in
          let filled : is_blank x.1 ≡ false = not_blank x.1 p (omega (arith, within, chunk.size)) (ap has_home own ∙ some) in
          let low : ltb (x.0.1 * 256 + p) (2 ^ 32) ≡ true = lt-ltb (x.0.1 * 256 + p) (2 ^ 32) (omega (arith, few x h filled, within)) in
          let one = one_extent x head p h has within chunk.size (ap copies.has_any_home own ∙ there) in
          let here : first_of (records_say at s es items (all_copies items)) (copies_at x.0.0 (x.0.1 * 256 + p) hs 0 head.copies) ≡ extent_says at es ms sums (extent_in_tables s c x.0.0 head.copies (x.0.1 * 256 + p) hs) =
          subst (λ (g : Homes). first_of (records_say at s es items (all_copies items)) (copies_at x.0.0 (x.0.1 * 256 + p) g 0 head.copies) ≡ extent_says at es ms sums (extent_in_tables s c x.0.0 head.copies (x.0.1 * 256 + p) g)) own one in
          rw (there, some, low) (first_parts (records_say at s es items (all_copies items)) (copies_at x.0.0 (x.0.1 * 256 + p) hs 0 head.copies) (copies_from x.0.0 (suc (x.0.1 * 256 + p)) head.copies more)
          ∙ ap (λ (o : Option Next). option_or o (first_of (records_say at s es items (all_copies items)) (copies_from x.0.0 (suc (x.0.1 * 256 + p)) head.copies more))) here
          ∙ ap (λ (o : Option Next). option_or (extent_says at es ms sums (extent_in_tables s c x.0.0 head.copies (x.0.1 * 256 + p) hs)) o)
          (subst (λ (j : ℕ). first_of (records_say at s es items (all_copies items)) (copies_from x.0.0 j head.copies more) ≡ first_of_extents (extent_says at es ms sums) s c x.0.0 head.copies j more) behind rest))

  of_chunk : (x : Chunked) → IsAmong c.extents x → first_of (records_say at s es items (all_copies items)) (chunk_copies c x) ≡ first_of_chunk (extent_says at es ms sums) s c x
  of_chunk x h = by (head_at c.files x.0.0) refl where
    chunk : IsChunk x
    chunk = chunk_parts x.0.0 x.0.1 x.1 (each_of (λ (y : Chunked). is_item (item_of_chunk y) ≡ true) c.extents x a.extents.0.1 h)

    first_place : x.0.1 * 256 + 0 ≡ x.0.1 * 256
    first_place = omega arith

    by : (o : Option FileHead) → head_at c.files x.0.0 ≡ o
        → first_of (records_say at s es items (all_copies items)) (file_copies x.0.0 (x.0.1 * 256) x.1 o) ≡ with_copies (λ n. first_of_extents (extent_says at es ms sums) s c x.0.0 n (x.0.1 * 256) x.1) (option_map (λ (g : FileHead). g.copies) o)
    by None has = refl
    by (Some head) has =
        subst (λ (j : ℕ). first_of (records_say at s es items (all_copies items)) (copies_from x.0.0 j head.copies x.1) ≡ first_of_extents (extent_says at es ms sums) s c x.0.0 head.copies j x.1) first_place
        (from_place x head h has chunk x.1 0 (record { at = λ q lt. ap (λ (r : ℕ). get_or x.1 r []) (none_plus q); end = omega arith }))
      where
        none_plus : (q : ℕ) → 0 + q ≡ q
        none_plus q = omega arith

  of_chunks : (xs : List Chunked) → ((x : Chunked) → IsAmong xs x → IsAmong c.extents x) → first_of (records_say at s es items (all_copies items)) (flat_map (chunk_copies c) xs) ≡ first_of_chunks (extent_says at es ms sums) s c xs
  of_chunks [] among = refl
  of_chunks (x ∷ xs) among =
      first_parts (records_say at s es items (all_copies items)) (chunk_copies c x) (flat_map (chunk_copies c) xs)
      ∙ ap (λ (o : Option Next). option_or o (first_of (records_say at s es items (all_copies items)) (flat_map (chunk_copies c) xs))) (of_chunk x (among x (inl refl)))
      ∙ ap (λ (o : Option Next). option_or (first_of_chunk (extent_says at es ms sums) s c x) o) (of_chunks xs (λ y h. among y (inr h)))

  -- so what the first copy of all says at a stage is what the search finds
  stage_is : first_said_at_stage at s es items ≡ first_of_chunks (extent_says at es ms sums) s c c.extents
  stage_is = ap (first_of (records_say at s es items (all_copies items))) say.copies ∙ of_chunks c.extents (λ x h. h)

-- ---- the next move

or_three : (x y z rest : Option Next) → option_or (option_or x (option_or y z)) rest ≡ option_or x (option_or y (option_or z rest))
or_three (Some x) y z rest = refl
or_three None (Some y) z rest = refl
or_three None None z rest = refl

or_two : (x y rest : Option Next) → option_or (option_or x y) rest ≡ option_or x (option_or y rest)
or_two (Some x) y rest = refl
or_two None y rest = refl

stages_next : StagesAreNext
unfolding next
stages_next s r items = refl

record Conditions (c : Catalogued) (r : Status) (items : List Item) : Type 0 where
  numbered : FitInSet r.entries
  units : AreUnitsOf c.shape items r.entries c.units
  shares : sums_at c.units r.entries ≡ sums_of c.shape items r.entries
  few : (x : Chunked) → IsAmong c.tables.extents x → is_blank x.1 ≡ false → x.0.1 * 256 ≤ 1073741824

conditions : (c : Catalogued) (r : Status) (items : List Item) → IsCatalog c → IsStatusOf c r → AreItemsOf c.tables items → Conditions c r items
conditions c r items cat of is =
    let p = parts_of r of.status in
    let units = units_are c.shape r.entries c.tables c.units items cat.rules.tables is p.all p.up of.units in
    record {
      numbered = status_numbered r of.status;
      units = units;
      shares = sums_placed c.shape items c.units r.entries (sums_at c.units r.entries) units refl;
      few = few_extents c.shape r.entries c.tables c.units cat.rules.tables p.all of.units;
    }

pub next_is : (c : Catalogued) (r : Status) (n : CodeNext) → IsCatalog c → IsStatusOf c r → next_meant n ≡ next_in c r → (items : List Item) → AreItemsOf c.tables items → next_meant n ≡ next c.shape r items
next_is c r n cat of found items is =
    let k = conditions c r items cat of is in
    let at = λ (g : Stage). stage_is g c.shape r.entries c.tables c.units items (sums_at c.units r.entries) cat.rules.tables is k.numbered k.units k.shares k.few in
    found
    ∙ ap (λ (o : Option Next). unwrap_or o done) (or_three (w stage.Recopy) (w stage.Fill) (w stage.Shift) (option_or (option_or (next_directory c.shape r) (next_tables c.shape r)) (rest c)))
    ∙ ap (λ (o : Option Next). unwrap_or (option_or (w stage.Recopy) (option_or (w stage.Fill) (option_or (w stage.Shift) o))) done) (or_two (next_directory c.shape r) (next_tables c.shape r) (rest c))
    ∙ sym (stages_next c.shape r items ∙ rw (at stage.Recopy, at stage.Fill, at stage.Shift, at stage.Lost, at stage.NoSpace, at stage.Balance) refl)
  where
    w : Stage → Option Next
    w g = group_says g r.entries c (sums_at c.units r.entries)

    rest : Catalogued → Option Next
    rest c = rest_said r.entries c (sums_at c.units r.entries)

pub share_is : (c : Catalogued) (r : Status) (d n : ℕ) (ms : List UnitMap) (t : Sums) → IsCatalog c → IsStatusOf c r → ms ≡ c.units
    → ((s : Shape) (items : List Item) (es : List Entry) (e : Entry) → AreUnitsOf s items es ms → t ≡ sums_of s items es → entry_of es d ≡ Some e → n ≡ share s items es e)
    → ((s : Shape) (items : List Item) → AreUnitsOf s items r.entries ms → t ≡ sums_of s items r.entries)
    → (items : List Item) (e : Entry) → AreItemsOf c.tables items → entry_of r.entries d ≡ Some e → n ≡ share c.shape items r.entries e
share_is c r d n ms t cat of same placed sums items e is found =
    let k = conditions c r items cat of is in
    let units : AreUnitsOf c.shape items r.entries ms = subst (λ (xs : List UnitMap). AreUnitsOf c.shape items r.entries xs) (sym same) k.units in
    placed c.shape items r.entries e units (sums c.shape items units) found
