-- A table in which a file's last chunk has lost extents from a place on.
use Rattle.std.proofs.Common.{◌≡◌, ℕ, zero, suc, ◌+◌, ◌-◌, ◌*◌, ◌<◌, Bool, true, false, cond, List, [], ◌∷◌, ◌++◌, length, take, replicate, Option, Some, None, refl, sym, ap, subst, ◌∙◌, arith, inl, inr}
use Rattle.std.specs.Prelude.{◌&&◌, not}
use Rattle.std.specs.Option.{is_some, unwrap_or}
use Rattle.std.proofs.lemmas.Bool.{and_parts}
use Rattle.std.proofs.lemmas.List.{drop-replicate, get_or-replicate, length-replicate}
use Rattle.std.proofs.lemmas.Option.{none-some}
use Rattle.asm_formats.specs.Items.{Homes}
use Rattle.asm_base.proofs.Exact.{some_is}
use Rattle.extent_map.specs.Extents.{Chunked, IsExtentTable, absent_homes, chunk_at, chunk_or_blank, cut_to, has_extent, has_home, is_blank, stand_first, with_chunk}
use Rattle.extent_map.specs.Laws.{CutsChunks}
use Rattle.extent_map.proofs.ChunkEnds.{none_from}
use Rattle.extent_map.proofs.Ends.{IsChange, IsRight, Place, edited_table, lower_is_other, rule_of, still_full}
use Rattle.extent_map.proofs.FileEnds.{blank_by, has_at, item_at, none_stand, put_change, same_place}
use Rattle.extent_map.proofs.Numbering.{Stands, all_stand, at_place}
use Rattle.extent_map.proofs.Values.{cut_allowed}

-- ---- the extents that are left

stand_front : (k : ℕ) (xs ys : List Homes) (ended : Bool) → ((p : ℕ) → p < length ys → has_at ys p ≡ false) → stand_first ended xs ≡ true → stand_first ended (take k xs ++ ys) ≡ true
stand_front zero xs ys ended none e = none_stand ys ended none
stand_front (suc k) [] ys ended none e = none_stand ys ended none
stand_front (suc k) (x ∷ xs) ys ended none e = by (ended && has_home x) (stand_front k xs ys (not (has_home x)) none) e where
  by : (b : Bool) → (stand_first (not (has_home x)) xs ≡ true → stand_first (not (has_home x)) (take k xs ++ ys) ≡ true) → cond b false (stand_first (not (has_home x)) xs) ≡ true
      → cond b false (stand_first (not (has_home x)) (take k xs ++ ys)) ≡ true
  by true more e = absurd cc
  by false more e = more e

blank_front : (k : ℕ) (xs ys : List Homes) → is_blank xs ≡ true → is_blank ys ≡ true → is_blank (take k xs ++ ys) ≡ true
blank_front zero xs ys a b = b
blank_front (suc k) [] ys a b = b
blank_front (suc k) (x ∷ xs) ys a b = let p = and_parts (not (has_home x)) (is_blank xs) a in rw p.0 (blank_front k xs ys p.1 b)

none_in : (n p : ℕ) → p < length {A = Homes} (replicate n absent_homes) → has_at (replicate n absent_homes) p ≡ false
none_in n p lt = ap has_home (get_or-replicate n p absent_homes [] (omega (arith, lt, length-replicate {A = Homes} n absent_homes)))

cut_is : (kept : ℕ) (xs : List Homes) → cut_to kept xs ≡ take kept xs ++ replicate (256 - kept) absent_homes
cut_is kept xs = ap (λ (ys : List Homes). take kept xs ++ ys) (drop-replicate kept 256 absent_homes)

stand_cut : (kept : ℕ) (xs : List Homes) → Stands xs → Stands (cut_to kept xs)
stand_cut kept xs stands = subst Stands (sym (cut_is kept xs)) (stand_front kept xs (replicate (256 - kept) absent_homes) false (none_in (256 - kept)) stands)

blank_cut : (kept : ℕ) (xs : List Homes) → is_blank xs ≡ true → is_blank (cut_to kept xs) ≡ true
blank_cut kept xs blank = ap is_blank (cut_is kept xs) ∙ blank_front kept xs (replicate (256 - kept) absent_homes) blank (blank_by (replicate (256 - kept) absent_homes) (none_in (256 - kept)))

-- ---- the table

module _ (t : List Chunked) (f c kept : ℕ) (fits : IsExtentTable t) (w : List Homes) (there : chunk_at t (f, c) ≡ Some w) (none : has_extent t f ((c + 1) * 256) ≡ false) where
  abbrev cut : List Homes
  cut = cut_to kept w

  abbrev u : List Chunked
  u = with_chunk t (f, c) (cut_to kept w)

  change : IsChange t u (f, c) cut
  change = put_change t (f, c) cut fits (cut_allowed f c kept w (item_at t (f, c) w fits.0.1 there))

  old : IsRight None t (f, c) w
  old = rule_of t fits (f, c) w there

  stays : Place None t (f, c) w → Place None u (f, c) cut
  stays (inl blank) = inl (blank_cut kept w blank)
  stays (inr (inl first)) = inr (inl first)
  stays (inr (inr (b, next, inl before))) = absurd (none-some (f, b) before)
  stays (inr (inr (b, next, inr full))) = inr (inr (b, next, inr (still_full t u (f, c) change.edit (f, b) (lower_is_other (f, c) b next) full)))

  here : (v : List Homes) → chunk_at u (f, c) ≡ Some v → IsRight None u (f, c) v
  here v e = subst (λ (x : List Homes). IsRight None u (f, c) x) (some_is cut v (sym change.here ∙ e)) (record { stands = stand_cut kept w old.stands; place = stays old.place })

  blank_behind : (homes : List Homes) → chunk_at t (f, c + 1) ≡ Some homes → is_blank homes ≡ true
  blank_behind homes e =
      let first : has_at homes 0 ≡ false = ap (λ (o : Option (List Homes)). at_place o 0) (sym e) ∙ sym (same_place t f (c + 1) 0 (omega arith)) ∙ ap (has_extent t f) (omega arith) ∙ none in
      blank_by homes (λ p lt. none_from homes 0 p (all_stand t None (f, c + 1) homes fits.1 e) first (omega arith))

  cut_table : IsExtentTable u
  cut_table = edited_table t u (f, c) fits change.edit here (λ homes e. inl (blank_behind homes e))

pub cuts_chunks : CutsChunks
cuts_chunks t f c kept fits there none = by (chunk_at t (f, c)) refl there where
  by : (o : Option (List Homes)) → chunk_at t (f, c) ≡ o → is_some o ≡ true → IsExtentTable (with_chunk t (f, c) (cut_to kept (chunk_or_blank t (f, c))))
  by None e some = absurd cc
  by (Some w) e some =
      let its : chunk_or_blank t (f, c) ≡ w = ap (λ (o : Option (List Homes)). unwrap_or o (replicate 256 absent_homes)) e in
      subst (λ (v : List Homes). IsExtentTable (with_chunk t (f, c) (cut_to kept v))) (sym its) (cut_table t f c kept fits w e none)
