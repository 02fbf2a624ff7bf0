-- The extents that a file has by its size.
use Rattle.std.proofs.Common.{◌≡◌, ℕ, ◌<◌, Bool, true, false, List, [], Option, Some, None, refl, subst, sym, arith, inl, inr, ◌⊎◌}
use Rattle.std.specs.Prelude.{◌↔◌, ◌/◌, ◌%◌, get_or, ◌&&◌}
use Rattle.std.specs.Option.{option_and_then, unwrap_or}
use Rattle.std.proofs.lemmas.Bool.{and_parts}
use Rattle.asm_group.specs.Shape.{Shape, is_shape, is_unit_size, is_step, is_sector, is_dir_blocks}
use Rattle.asm_formats.specs.Items.{FileHead, Homes, chunk_len}
use Rattle.std.proofs.Common.{cond}
use Rattle.partnership.specs.asm_placement.Layout.{IsLayout}
use Rattle.extent_map.specs.Extents.{Chunked, HasCount, chunk_at, extent_at, has_extent, has_home}
use Rattle.catalog_tables.specs.Tables.{Tables}
use Rattle.catalog_tables.specs.Rules.{HasExtents, LacksExtent, has_copies, head_has_extent}

shape_layout : (s : Shape) → is_shape s ≡ true → IsLayout s.au s.step
unfolding is_shape
shape_layout s e =
    let p = and_parts (is_unit_size s.au) _ e in
    let q = and_parts (is_step s.step) (is_sector s.sector s.au && is_dir_blocks s.dir_blocks) p.1 in
    record { unit_allowed = p.0; step_allowed = q.0 }

-- the layout of files, of a shape whose fields are in the open
pub layout_is : {v s : Shape} → v ≡ s → is_shape s ≡ true → IsLayout v.au v.step
layout_is {v} {s} same e = subst (λ (x : Shape). IsLayout x.au x.step) (sym same) (shape_layout s e)

-- an extent that the table doesn't have has no homes
no_homes : (chunk : Option (List Homes)) (j : ℕ) → has_home (get_or (unwrap_or chunk []) j []) ≡ false
    → option_and_then (λ homes. cond (has_home (get_or homes j [])) (Some (get_or homes j [])) None) chunk ≡ None
no_homes None j e = refl
no_homes (Some homes) j e = rw e refl

missing : (table : List Chunked) (f i : ℕ) → has_extent table f i ≡ false → extent_at table f i ≡ None
missing table f i e = no_homes (chunk_at table (f, i / chunk_len)) (i % chunk_len) e

either : (b : Bool) → (b ≡ true) ⊎ (b ≡ false)
either true = inl refl
either false = inr refl

not_counted : (table : List Chunked) (f n : ℕ) → HasCount table f n → has_extent table f n ≡ false
not_counted table f n count = elim (either (has_extent table f n)) [
  | inl there ↦ absurd (omega (arith, (count n).0 there))
  | inr not ↦ not
]

abbrev IsDueBelow : Shape → FileHead → ℕ → Type 0
IsDueBelow s head due = (i : ℕ) → (i < due) ↔ (head_has_extent s head i ≡ true)

-- a file that has by its size more extents than there are lacks the first that isn't there
pub lacks_at : (t : Tables) (s : Shape) (f : ℕ) (head : FileHead) (due n : ℕ) → IsDueBelow s head due → HasCount t.extents f n → n < due → LacksExtent t s (f, head)
lacks_at t s f head due n has count more =
    record { index = n; due = (has n).0 more; lacks = rw (missing t.extents f n (not_counted t.extents f n count)) refl }

-- one whose extents are there lacks a copy of one, or none
pub lacks_one : (t : Tables) (s : Shape) (f : ℕ) (head : FileHead) (due : ℕ) → IsDueBelow s head due → (i : ℕ) × (i < due) × (has_copies head.copies (extent_at t.extents f i) ≡ false) → LacksExtent t s (f, head)
lacks_one t s f head due has w = record { index = w.0; due = (has w.0).0 w.1; lacks = w.2 }

pub has_all : (t : Tables) (s : Shape) (f : ℕ) (head : FileHead) (due : ℕ) → IsDueBelow s head due → ((i : ℕ) → i < due → has_copies head.copies (extent_at t.extents f i) ≡ true) → HasExtents t s (f, head)
has_all t s f head due has all i is = all i ((has i).1 is)
