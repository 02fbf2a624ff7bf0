-- The cells of a file whose span is put anew.
use Rattle.std.proofs.Common.{◌≡◌, ◌≢◌, ⊎_elim, ℕ, ◌+◌, ◌<◌, ◌≤◌, cond, length, get_or, refl, sym, ap, ◌∙◌, Option, Some, None, arith, IsTrue, ◌==◌}
use Rattle.std.specs.Option.{option_map}
use Rattle.std.specs.FinMap as maps
use Rattle.std.proofs.lemmas.Bool.{eqb-true, eq-eqb, both_ways, cases_lt}
use Rattle.std.proofs.lemmas.List.{get_or_past}
use Rattle.asm_group.specs.Shape.{Shape, is_shape}
use Rattle.asm_group.specs.Group.{Cell, Free, File, Group}
use Rattle.asm_placement.specs.Layout.{file_byte}
use Rattle.asm_placement.proofs.Places.{one_place_of}
use Rattle.asm_images.specs.Describing.{extent_size, LiesIn}
use Rattle.asm_images.specs.Spans.{Span, inner_of, cell_or, file_with, group_with}
use Rattle.asm_images.proofs.Spans.{found, not_found, length_with, cell_with, past_end, file_of, layout_of}

pub files_are_put : (x : Span) (put : ℕ → Cell) (g : Group)
    → (group_with x put g ≡ record g { files = (group_with x put g).files })
    × ((f : ℕ) → maps.get (group_with x put g).files f ≡ cond (f == x.file) (option_map (file_with g.shape x put) (maps.get g.files f)) (maps.get g.files f))
unfolding group_with
files_are_put x put g = (refl, λ f. file_of g x put f)

pub length_stays : (s : Shape) (x : Span) (put : ℕ → Cell) (file : File) → length (file_with s x put file).cells ≡ length file.cells
length_stays s x put file = length_with s file x put 0 file.cells

pub cell_is_put : (s : Shape) (x : Span) (put : ℕ → Cell) (file : File) (o inner : ℕ) → IsTrue (is_shape s) → x.from + x.len ≤ extent_size s x.index
    → o < length file.cells → LiesIn s file.stripe o x.index inner → x.from ≤ inner → inner < x.from + x.len
    → get_or (file_with s x put file).cells o Free ≡ put inner
cell_is_put s x put file o inner ok fits lt lies low high = cell_with s file x put 0 o o file.cells (omega arith) lt ∙ go (inner_of s file x o) refl
  where
    go : (i : Option ℕ) → inner_of s file x o ≡ i → cell_or put (get_or file.cells o Free) (inner_of s file x o) ≡ put inner
    go None is = absurd (both_ways (file_byte file.stripe s.au s.step x.index inner == o)
        (not_found (λ n. file_byte file.stripe s.au s.step x.index n == o) x.from x.len inner is low high)
        (eq-eqb (file_byte file.stripe s.au s.step x.index inner) o (sym lies.byte)))
    go (Some k) is =
        let at = found (λ n. file_byte file.stripe s.au s.step x.index n == o) x.from x.len k is in
        let lies_k : LiesIn s file.stripe o x.index k = record { inside = omega (arith, at.high, fits); byte = sym (eqb-true (file_byte file.stripe s.au s.step x.index k) o at.passes) } in
        let one = one_place_of file.stripe s.au s.step o x.index k x.index inner (layout_of s ok) lies_k lies in
        ap (λ (i : Option ℕ). cell_or put (get_or file.cells o Free) i) is ∙ ap put one.1

pub cell_stays : (s : Shape) (x : Span) (put : ℕ → Cell) (file : File) (o : ℕ)
    → ((inner : ℕ) → x.from ≤ inner → inner < x.from + x.len → file_byte file.stripe s.au s.step x.index inner ≢ o)
    → get_or (file_with s x put file).cells o Free ≡ get_or file.cells o Free
cell_stays s x put file o out = ⊎_elim
    (λ lt. cell_with s file x put 0 o o file.cells (omega arith) lt ∙ go (inner_of s file x o) refl)
    (λ le. past_end s file x put 0 o file.cells le ∙ sym (get_or_past file.cells o Free le))
    (cases_lt o (length file.cells))
  where
    go : (i : Option ℕ) → inner_of s file x o ≡ i → cell_or put (get_or file.cells o Free) (inner_of s file x o) ≡ get_or file.cells o Free
    go None is = ap (λ (i : Option ℕ). cell_or put (get_or file.cells o Free) i) is
    go (Some k) is =
        let at = found (λ n. file_byte file.stripe s.au s.step x.index n == o) x.from x.len k is in
        absurd (out k at.low at.high (eqb-true (file_byte file.stripe s.au s.step x.index k) o at.passes))
