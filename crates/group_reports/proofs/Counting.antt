-- Counts of extents, and the first that passes a test, chunk by chunk.
use Rattle.std.proofs.Common.{◌≡◌, ℕ, suc, ◌+◌, ◌*◌, ◌^◌, ◌<◌, ◌≤◌, Bool, true, false, cond, List, [], ◌∷◌, ◌++◌, length, get_or, drop, refl, sym, ap, ◌∙◌, Option, Some, None, arith, add-one, zero-add}
use Rattle.std.specs.Prelude.{count_by, find}
use Rattle.std.specs.Option.{is_some, option_or}
use Rattle.std.proofs.lemmas.List.{drop_more, drop_all, length-append}
use Rattle.std.proofs.lemmas.List.Sums.{sum_by-append}
use Rattle.asm_formats.specs.Items.{Homes}
use Rattle.asm_formats.specs.Status.{Entry}
use Rattle.catalog_laws.specs.extent_map.Extents.{Chunked}
use Rattle.catalog_laws.specs.catalog_tables.Faults.{IsCatalog}
use Rattle.catalog_laws.specs.catalog_tables.Rules.{blocks_used}
use Rattle.catalog_laws.specs.catalog_tables.Tables.{Catalogued}
use Rattle.extent_copies.specs.declared.extent.Extent.{Extent}
use Rattle.group_reports.specs.declared.checking.Checked.{Checked}
use Rattle.group_reports.specs.Extents.{all_extents, checked_of, chunk_extents, extent_there, extents_from, extents_in, lacks, with_extent_if_any}

-- ---- room

pub few_chunks : (c : Catalogued) (n : ℕ) → IsCatalog c → n ≡ c.shape.dir_blocks → length c.tables.extents ≤ n
few_chunks c n is e = omega (arith, is.rules.room, e)

-- ---- extents one after the other

pub with_one : (o : Option Extent) (xs : List Extent) → with_extent_if_any o xs ≡ with_extent_if_any o [] ++ xs
with_one None xs = refl
with_one (Some x) xs = refl

pub row_more : (c : Catalogued) (f copies i k : ℕ) (xs : List Homes) (homes : Homes) → k < length xs → homes ≡ get_or xs k homes
    → extents_from c f copies i (drop k xs) ≡ with_extent_if_any (extent_there c f copies i homes) [] ++ extents_from c f copies (i + 1) (drop (k + 1) xs)
row_more c f copies i k xs homes within is =
    ap (extents_from c f copies i) (drop_more xs k homes within ∙ ap (λ (h : Homes). h ∷ drop (k + 1) xs) (sym is))
    ∙ with_one (extent_there c f copies i homes) (extents_from c f copies (suc i) (drop (k + 1) xs))
    ∙ ap (λ (j : ℕ). with_extent_if_any (extent_there c f copies i homes) [] ++ extents_from c f copies j (drop (k + 1) xs)) (sym (add-one i))

pub row_end : (c : Catalogued) (f copies i k : ℕ) (xs : List Homes) → length xs ≤ k → extents_from c f copies i (drop k xs) ≡ []
row_end c f copies i k xs past = ap (extents_from c f copies i) (drop_all k xs past)

pub chunk_more : (c : Catalogued) (all left : List Chunked) (x : Chunked) (homes : List Homes) → homes ≡ x.1 → all ≡ x ∷ left → extents_in c all ≡ chunk_extents c (x.0, homes) ++ extents_in c left
chunk_more c all left x homes same split = ap (extents_in c) split ∙ ap (λ (hs : List Homes). chunk_extents c (x.0, hs) ++ extents_in c left) (sym same)

-- ---- counts

-- those of all extents are the counts so far and those of the extents that are left
pub record AreCounted (es : List Entry) (all left : List Extent) (t : Checked) : Type 0 where
  pub extents : t.extents + length left ≡ length all
  pub not_full : t.not_full + count_by (lacks es) left ≡ count_by (lacks es) all

pub counted_start : (es : List Entry) (all : List Extent) (t : Checked) → t ≡ record { extents = 0; not_full = 0 } → AreCounted es all all t
counted_start es all t is =
    record { extents = ap (λ (n : Checked). n.extents + length all) is ∙ zero-add (length all); not_full = ap (λ (n : Checked). n.not_full + count_by (lacks es) all) is ∙ zero-add (count_by (lacks es) all) }

pub counted_more : (es : List Entry) (all left part rest : List Extent) (t one next : Checked) → left ≡ part ++ rest → one ≡ checked_of es part
    → next ≡ record { extents = t.extents + one.extents; not_full = t.not_full + one.not_full } → AreCounted es all left t → AreCounted es all rest next
counted_more es all left part rest t one next split is sum so_far =
    let long : length left ≡ length part + length rest = ap length split ∙ length-append part rest in
    let many : count_by (lacks es) left ≡ count_by (lacks es) part + count_by (lacks es) rest = ap (count_by (lacks es)) split ∙ sum_by-append (λ x. cond (lacks es x) 1 0) part rest in
    let extents : next.extents ≡ t.extents + length part = ap (λ (n : Checked). n.extents) sum ∙ ap (λ (n : Checked). t.extents + n.extents) is in
    let not_full : next.not_full ≡ t.not_full + count_by (lacks es) part = ap (λ (n : Checked). n.not_full) sum ∙ ap (λ (n : Checked). t.not_full + n.not_full) is in
    record { extents = omega (arith, so_far.extents, long, extents); not_full = omega (arith, so_far.not_full, many, not_full) }

pub counted_end : (es : List Entry) (all left : List Extent) (t : Checked) → left ≡ [] → AreCounted es all left t → t ≡ checked_of es all
counted_end es all left t none so_far =
    let long : length left ≡ 0 = ap length none in
    let many : count_by (lacks es) left ≡ 0 = ap (count_by (lacks es)) none in
    let extents : t.extents ≡ length all = omega (arith, so_far.extents, long) in
    let not_full : t.not_full ≡ count_by (lacks es) all = omega (arith, so_far.not_full, many) in
    ap (λ (n : ℕ). record { extents = n; not_full = t.not_full }) extents ∙ ap (λ (n : ℕ). record { extents = length all; not_full = n }) not_full

-- ---- the first that passes

find_parts : (test : Extent → Bool) (xs ys : List Extent) → find test (xs ++ ys) ≡ option_or (find test xs) (find test ys)
find_parts test [] ys = refl
find_parts test (x ∷ xs) ys = by (test x) (find_parts test xs ys)
  where
    by : (b : Bool) → find test (xs ++ ys) ≡ option_or (find test xs) (find test ys) → cond b (Some x) (find test (xs ++ ys)) ≡ option_or (cond b (Some x) (find test xs)) (find test ys)
    by true later = refl
    by false later = later

pub not_yet : (test : Extent → Bool) (left part rest : List Extent) (found all : Option Extent) → left ≡ part ++ rest → found ≡ find test part → is_some found ≡ false → find test left ≡ all → find test rest ≡ all
not_yet test left part rest None all split is none so_far = ap (λ (o : Option Extent). option_or o (find test rest)) is ∙ sym (find_parts test part rest) ∙ sym (ap (find test) split) ∙ so_far
not_yet test left part rest (Some x) all split is none so_far = absurd cc

pub found_here : (test : Extent → Bool) (left part rest : List Extent) (found all : Option Extent) → left ≡ part ++ rest → found ≡ find test part → is_some found ≡ true → find test left ≡ all → found ≡ all
found_here test left part rest None all split is some so_far = absurd cc
found_here test left part rest (Some x) all split is some so_far = ap (λ (o : Option Extent). option_or o (find test rest)) is ∙ sym (find_parts test part rest) ∙ sym (ap (find test) split) ∙ so_far

pub found_none : (test : Extent → Bool) (left : List Extent) (all : Option Extent) → left ≡ [] → find test left ≡ all → None ≡ all
found_none test left all none so_far = sym (ap (find test) none) ∙ so_far

-- ---- one step of each loop

pub chunk_counted : (es : List Entry) (c : Catalogued) (all left : List Chunked) (x : Chunked) (homes : List Homes) (t one next : Checked) → homes ≡ x.1 → all ≡ x ∷ left
    → one ≡ checked_of es (chunk_extents c (x.0, homes)) → next ≡ record { extents = t.extents + one.extents; not_full = t.not_full + one.not_full }
    → AreCounted es (all_extents c) (extents_in c all) t → AreCounted es (all_extents c) (extents_in c left) next
chunk_counted es c all left x homes t one next same split is sum so_far =
    counted_more es (all_extents c) (extents_in c all) (chunk_extents c (x.0, homes)) (extents_in c left) t one next (chunk_more c all left x homes same split) is sum so_far

pub chunks_counted : (es : List Entry) (c : Catalogued) (left : List Chunked) (t : Checked) → left ≡ [] → AreCounted es (all_extents c) (extents_in c left) t → t ≡ checked_of es (all_extents c)
chunks_counted es c left t none so_far = counted_end es (all_extents c) (extents_in c left) t (ap (extents_in c) none) so_far

pub row_counted : (es : List Entry) (c : Catalogued) (f copies first i k : ℕ) (xs : List Homes) (homes : Homes) (t one next : Checked) → k < length xs → homes ≡ get_or xs k homes
    → one ≡ checked_of es (with_extent_if_any (extent_there c f copies i homes) []) → next ≡ record { extents = t.extents + one.extents; not_full = t.not_full + one.not_full }
    → AreCounted es (extents_from c f copies first xs) (extents_from c f copies i (drop k xs)) t
    → AreCounted es (extents_from c f copies first xs) (extents_from c f copies (i + 1) (drop (k + 1) xs)) next
row_counted es c f copies first i k xs homes t one next within is ran sum so_far =
    counted_more es (extents_from c f copies first xs) (extents_from c f copies i (drop k xs)) (with_extent_if_any (extent_there c f copies i homes) []) (extents_from c f copies (i + 1) (drop (k + 1) xs)) t one next
    (row_more c f copies i k xs homes within is) ran sum so_far

pub rows_counted : (es : List Entry) (c : Catalogued) (f copies first i k : ℕ) (xs : List Homes) (t : Checked) → length xs ≤ k
    → AreCounted es (extents_from c f copies first xs) (extents_from c f copies i (drop k xs)) t → t ≡ checked_of es (extents_from c f copies first xs)
rows_counted es c f copies first i k xs t past so_far = counted_end es (extents_from c f copies first xs) (extents_from c f copies i (drop k xs)) t (row_end c f copies i k xs past) so_far

-- those of all chunks are few
pub no_overflow : (n done left all most : ℕ) → n ≤ 256 → done + 256 * suc left ≤ 256 * all → all ≤ most → most < 2 ^ 32 → done + n < 2 ^ 64
no_overflow n done left all most few room chunks small = omega arith

pub chunk_not_lost : (test : Extent → Bool) (c : Catalogued) (all left : List Chunked) (x : Chunked) (homes : List Homes) (found end : Option Extent) → homes ≡ x.1 → all ≡ x ∷ left
    → found ≡ find test (chunk_extents c (x.0, homes)) → is_some found ≡ false → find test (extents_in c all) ≡ end → find test (extents_in c left) ≡ end
chunk_not_lost test c all left x homes found end same split is none so_far =
    not_yet test (extents_in c all) (chunk_extents c (x.0, homes)) (extents_in c left) found end (chunk_more c all left x homes same split) is none so_far

pub chunk_lost : (test : Extent → Bool) (c : Catalogued) (all left : List Chunked) (x : Chunked) (homes : List Homes) (found end : Option Extent) → homes ≡ x.1 → all ≡ x ∷ left
    → found ≡ find test (chunk_extents c (x.0, homes)) → is_some found ≡ true → find test (extents_in c all) ≡ end → found ≡ end
chunk_lost test c all left x homes found end same split is some so_far =
    found_here test (extents_in c all) (chunk_extents c (x.0, homes)) (extents_in c left) found end (chunk_more c all left x homes same split) is some so_far

pub row_not_lost : (test : Extent → Bool) (c : Catalogued) (f copies i k : ℕ) (xs : List Homes) (homes : Homes) (found end : Option Extent) → k < length xs → homes ≡ get_or xs k homes
    → found ≡ find test (with_extent_if_any (extent_there c f copies i homes) []) → is_some found ≡ false → find test (extents_from c f copies i (drop k xs)) ≡ end
    → find test (extents_from c f copies (i + 1) (drop (k + 1) xs)) ≡ end
row_not_lost test c f copies i k xs homes found end within same is none so_far =
    not_yet test (extents_from c f copies i (drop k xs)) (with_extent_if_any (extent_there c f copies i homes) []) (extents_from c f copies (i + 1) (drop (k + 1) xs)) found end (row_more c f copies i k xs homes within same) is none so_far

pub row_lost : (test : Extent → Bool) (c : Catalogued) (f copies i k : ℕ) (xs : List Homes) (homes : Homes) (found end : Option Extent) → k < length xs → homes ≡ get_or xs k homes
    → found ≡ find test (with_extent_if_any (extent_there c f copies i homes) []) → is_some found ≡ true → find test (extents_from c f copies i (drop k xs)) ≡ end → found ≡ end
row_lost test c f copies i k xs homes found end within same is some so_far =
    found_here test (extents_from c f copies i (drop k xs)) (with_extent_if_any (extent_there c f copies i homes) []) (extents_from c f copies (i + 1) (drop (k + 1) xs)) found end (row_more c f copies i k xs homes within same) is some so_far
