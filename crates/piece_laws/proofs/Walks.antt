-- The pieces of a span, put one after the other, are the span as the world puts it.
use Rattle.std.proofs.Common.{◌≡◌, ◌⊎◌, inl, inr, ⊎_elim, ℕ, zero, suc, ◌+◌, ◌-◌, ◌<◌, ◌≤◌, Bool, true, false, cond, List, [], ◌∷◌, ◌++◌, length, get_or, slice_index, take, drop, replicate, refl, sym, ap, subst, ◌∙◌, Option, Some, arith, IsTrue, ◌==◌}
use Rattle.std.specs.FinMap as maps
use Rattle.std.specs.Cmp.{unsigned_tied}
use Rattle.std.proofs.lemmas.Bool.{cond_both, cond-true, eqb-true, eq-eqb, cases_lt}
use Rattle.std.proofs.lemmas.Cmp.{nat_cmp_total}
use Rattle.std.proofs.lemmas.List.{same_lists, get_or-map, get_or_append_left, get_or-append-add, get_or-take, get_or-drop, length-take-le, length-drop, length-append, length-map}
use Rattle.std.proofs.lemmas.Map.Lookups.{exact_unsigned}
use Rattle.std.proofs.lemmas.Option.{same_Some}
use Rattle.asm_group.specs.declared.Stripe.{Stripe}
use Rattle.asm_group.specs.Names.{Bytes, ByNumber}
use Rattle.asm_group.specs.Shape.{Shape, is_shape}
use Rattle.asm_group.specs.Group.{Cell, Known, Free, File, Group}
use Rattle.asm_placement.specs.Layout.{file_byte}
use Rattle.asm_images.specs.Describing.{extent_size}
use Rattle.asm_images.specs.Spans.{Span, file_with, files_with, group_with, freed, settled}
use Rattle.asm_images.proofs.SpanCells.{cell_is_put, cell_stays, length_stays}
use Rattle.asm_world.specs.Files.{known, with_cells, with_file_cells}
use Rattle.piece_laws.specs.Walks.{IsStep, IsWalk, freed_all, settled_all, SettledIsWritten, FreedIsFree, FreedForgets}

-- ---- a file's cells replaced

pub got : (files : ByNumber File) (f : ℕ) (file : File) (q : ℕ) → maps.get (maps.insert files f file) q ≡ cond (q == f) (Some file) (maps.get files q)
got files f file q = maps.get-insert nat_cmp_total files f file q ∙ ap (λ (b : Bool). cond b (Some file) (maps.get files q)) (unsigned_tied q f)

pub got_same : (files : ByNumber File) (f : ℕ) (file : File) → maps.get (maps.insert files f file) f ≡ Some file
got_same files f file = got files f file f ∙ cond-true (f == f) (Some file) (maps.get files f) (eq-eqb f f refl)

insert_twice : (files : ByNumber File) (f : ℕ) (a b : File) → maps.insert (maps.insert files f a) f b ≡ maps.insert files f b
insert_twice files f a b = maps.same_map nat_cmp_total exact_unsigned _ _ (λ q.
    got (maps.insert files f a) f b q ∙ ap (λ (o : Option File). cond (q == f) (Some b) o) (got files f a q) ∙ go (q == f) (maps.get files q) ∙ sym (got files f b q))
  where
    go : (t : Bool) (o : Option File) → cond t (Some b) (cond t (Some a) o) ≡ cond t (Some b) o
    go true o = refl
    go false o = refl

insert_same : (files : ByNumber File) (f : ℕ) (file : File) → maps.get files f ≡ Some file → maps.insert files f file ≡ files
insert_same files f file is = maps.same_map nat_cmp_total exact_unsigned _ _ (λ q.
    got files f file q ∙ cond_both (q == f) (Some file) (maps.get files q) (λ (o : Option File). o ≡ maps.get files q)
    (λ yes. sym is ∙ ap (λ (k : ℕ). maps.get files k) (sym (eqb-true q f yes))) (λ no. refl))

-- cells that are replaced twice
pub cells_twice : (g : Group) (f : ℕ) (file : File) (a b : List Cell) → with_file_cells (with_file_cells g f file a) f (record file { cells = a }) b ≡ with_file_cells g f file b
cells_twice g f file a b = ap (λ (fs : ByNumber File). record g { files = fs }) (insert_twice g.files f (record file { cells = a }) (record file { cells = b }))

pub cells_same : (g : Group) (f : ℕ) (file : File) → maps.get g.files f ≡ Some file → with_file_cells g f file file.cells ≡ g
cells_same g f file is = ap (λ (fs : ByNumber File). record g { files = fs }) (insert_same g.files f file is)

-- ---- cells by their places

pub any_default : {A : Type 0} (xs : List A) (k : ℕ) (d e : A) → k < length xs → get_or xs k d ≡ get_or xs k e
any_default [] k d e lt = absurd (omega arith)
any_default (x ∷ xs) zero d e lt = refl
any_default (x ∷ xs) (suc k) d e lt = any_default xs k d e (omega arith)

pub same_cells : (xs ys : List Cell) → length xs ≡ length ys → ((k : ℕ) → k < length xs → get_or xs k Free ≡ get_or ys k Free) → xs ≡ ys
same_cells xs ys len same = same_lists xs ys len (λ k d lt. any_default xs k d Free lt ∙ same k lt ∙ any_default ys k Free d (omega (arith, lt, len)))

-- the cells are those before, with the k-th from byte `at` on put as v k, so many
pub record IsPutAs (before : List Cell) (at len : ℕ) (v : ℕ → Cell) (after : List Cell) : Type 0 where
  pub length_is : length after ≡ length before
  pub inside : (k : ℕ) → k < len → get_or after (at + k) Free ≡ v k
  pub outside : (o : ℕ) → (o < at) ⊎ (at + len ≤ o) → get_or after o Free ≡ get_or before o Free

pub one_way : (before : List Cell) (at len : ℕ) (v : ℕ → Cell) (a b : List Cell) → IsPutAs before at len v a → IsPutAs before at len v b → a ≡ b
one_way before at len v a b is also = same_cells a b (is.length_is ∙ sym also.length_is) (λ o lt. ⊎_elim
    (λ low. is.outside o (inl low) ∙ sym (also.outside o (inl low)))
    (λ from. ⊎_elim
    (λ (inside : o < at + len).
    let back : at + (o - at) ≡ o = omega arith in
    let small : o - at < len = omega arith in
    subst (λ (k : ℕ). get_or a k Free ≡ get_or b k Free) back (is.inside (o - at) small ∙ sym (also.inside (o - at) small)))
    (λ far. is.outside o (inr far) ∙ sym (also.outside o (inr far)))
    (cases_lt o (at + len))) (cases_lt o at))

-- what the world puts
pub world_put : (cells others : List Cell) (at : ℕ) → at + length others ≤ length cells → IsPutAs cells at (length others) (λ k. get_or others k Free) (with_cells cells at others)
world_put cells others at le =
    let front : length (take at cells) ≡ at = length-take-le at cells (omega (arith, le)) in
    let rest = drop (at + length others) cells in
    record {
      length_is = length-append (take at cells) (others ++ rest) ∙ ap (λ (k : ℕ). length (take at cells) + k) (length-append others rest)
          ∙ omega (arith, front, length-drop (at + length others) cells, le);
      inside = λ k lt.
          let place : at + k ≡ length (take at cells) + k = omega (arith, front) in
          ap (λ (o : ℕ). get_or (take at cells ++ (others ++ rest)) o Free) place ∙ get_or-append-add (take at cells) (others ++ rest) k Free ∙ get_or_append_left others rest Free k lt;
      outside = λ o out. ⊎_elim
          (λ low. get_or_append_left (take at cells) (others ++ rest) Free o (omega (arith, low, front)) ∙ get_or-take at cells o Free low)
          (λ far.
          let place : o ≡ length (take at cells) + (length others + (o - (at + length others))) = omega (arith, far, front) in
          let back : (at + length others) + (o - (at + length others)) ≡ o = omega (arith, far) in
          ap (λ (k : ℕ). get_or (take at cells ++ (others ++ rest)) k Free) place
          ∙ get_or-append-add (take at cells) (others ++ rest) (length others + (o - (at + length others))) Free
          ∙ get_or-append-add others rest (o - (at + length others)) Free
          ∙ get_or-drop (at + length others) cells (o - (at + length others)) Free
          ∙ ap (λ (k : ℕ). get_or cells k Free) back)
          out;
    }

-- ---- one piece

-- a piece that lies in an extent fits it
pub step_fits : (s : Shape) (stripe : Stripe) (f at len : ℕ) (x : Span) → IsStep s stripe f at len x → x.from + x.len ≤ extent_size s x.index
step_fits s stripe f at len x step = omega (arith, step.some, (step.lies (x.len - 1) (omega (arith, step.some))).inside)

piece_put : (s : Shape) (f at len : ℕ) (x : Span) (put v : ℕ → Cell) (file : File) → IsTrue (is_shape s) → IsStep s file.stripe f at len x → at + len ≤ length file.cells
    → ((k : ℕ) → k < x.len → put (x.from + k) ≡ v k) → IsPutAs file.cells at x.len v (file_with s x put file).cells
piece_put s f at len x put v file ok step le puts = record {
  length_is = length_stays s x put file;
  inside = λ k lt. cell_is_put s x put file (at + k) (x.from + k) ok (step_fits s file.stripe f at len x step) (omega (arith, lt, le, step.within)) (step.lies k lt) (omega arith) (omega (arith, lt)) ∙ puts k lt;
  outside = λ o out. cell_stays s x put file o (λ inner low high is.
      let back : x.from + (inner - x.from) ≡ inner = omega (arith, low) in
      let lt : inner - x.from < x.len = omega (arith, low, high) in
      let at_is : at + (inner - x.from) ≡ o = (step.lies (inner - x.from) lt).byte ∙ ap (λ (q : ℕ). file_byte file.stripe s.au s.step x.index q) back ∙ is in
      ⊎_elim (λ below. omega (arith, below, at_is)) (λ above. omega (arith, above, at_is, lt, step.within)) out);
}

-- the group with a piece put has other cells in its file
piece_group : (g : Group) (x : Span) (put : ℕ → Cell) (f : ℕ) (file : File) → x.file ≡ f → maps.get g.files f ≡ Some file
    → group_with x put g ≡ with_file_cells g f file (file_with g.shape x put file).cells
unfolding group_with
piece_group g x put f file same is =
    ap (λ (o : Option File). record g { files = files_with g.shape x put g.files o }) (ap (λ (k : ℕ). maps.get g.files k) same ∙ is)
    ∙ ap (λ (k : ℕ). record g { files = maps.insert g.files k (file_with g.shape x put file) }) same

-- ---- all pieces

-- one piece after the other is put, so that the k-th byte is v k
abbrev PutsAll : List Span → (ℕ → Cell) → Group → Group → Type 0
PutsAll [] v g h = h ≡ g
PutsAll (x ∷ xs) v g h = (put : ℕ → Cell) × ((k : ℕ) → k < x.len → put (x.from + k) ≡ v k) × PutsAll xs (λ k. v (x.len + k)) (group_with x put g) h

record IsPutGroup (g : Group) (f at len : ℕ) (file : File) (v : ℕ → Cell) (h : Group) : Type 0 where
  cells : List Cell
  put : IsPutAs file.cells at len v cells
  group : h ≡ with_file_cells g f file cells

all_put : (pieces : List Span) (g h : Group) (f at len : ℕ) (file : File) (v : ℕ → Cell) → IsTrue (is_shape g.shape) → maps.get g.files f ≡ Some file → at + len ≤ length file.cells
    → IsWalk g.shape file.stripe f at len pieces → PutsAll pieces v g h → IsPutGroup g f at len file v h
all_put [] g h f at len file v ok is le walk puts = record {
  cells = file.cells;
  put = record { length_is = refl; inside = λ k lt. absurd (omega (arith, lt, walk)); outside = λ o out. refl };
  group = puts ∙ sym (cells_same g f file is);
}
all_put (x ∷ xs) g h f at len file v ok is le walk puts =
    let step = walk.0 in
    let put = puts.0 in
    let cells = (file_with g.shape x put file).cells in
    let first : IsPutAs file.cells at x.len v cells = piece_put g.shape f at len x put v file ok step le puts.1 in
    let mid = with_file_cells g f file cells in
    let later : PutsAll xs (λ k. v (x.len + k)) mid h = subst (λ (k : Group). PutsAll xs (λ k. v (x.len + k)) k h) (piece_group g x put f file step.file is) puts.2 in
    let rest = all_put xs mid h f (at + x.len) (len - x.len) (record file { cells = cells }) (λ k. v (x.len + k)) ok (got_same g.files f (record file { cells = cells }))
    (omega (arith, le, step.within, first.length_is)) walk.1 later in
    record {
      cells = rest.cells;
      put = record {
        length_is = rest.put.length_is ∙ first.length_is;
        inside = λ k lt. ⊎_elim
            (λ (low : k < x.len). rest.put.outside (at + k) (inl (omega (arith, low))) ∙ first.inside k low)
            (λ (from : x.len ≤ k).
            let place : at + x.len + (k - x.len) ≡ at + k = omega (arith, from) in
            let back : x.len + (k - x.len) ≡ k = omega (arith, from) in
            ap (λ (o : ℕ). get_or rest.cells o Free) (sym place) ∙ rest.put.inside (k - x.len) (omega (arith, from, lt)) ∙ ap v back)
            (cases_lt k x.len);
        outside = λ o out. rest.put.outside o (⊎_elim (λ low. inl (omega (arith, low))) (λ far. inr (omega (arith, far, step.within))) out)
            ∙ first.outside o (⊎_elim (λ low. inl low) (λ far. inr (omega (arith, far, step.within))) out);
      };
      group = rest.group ∙ cells_twice g f file cells rest.cells;
    }

-- ---- freed

freed_puts : (pieces : List Span) (g : Group) → PutsAll pieces (λ k. Free) g (freed_all pieces g)
freed_puts [] g = refl
freed_puts (x ∷ xs) g = ((λ inner. Free), (λ k lt. refl), freed_puts xs (freed x g))

free_at : (n k : ℕ) → get_or (replicate n Free) k Free ≡ Free
free_at zero k = refl
free_at (suc n) zero = refl
free_at (suc n) (suc k) = free_at n k

pub length_free : (n : ℕ) → length (replicate n Free) ≡ n
length_free zero = refl
length_free (suc n) = ap suc (length_free n)

pub freed_is_free : FreedIsFree
freed_is_free = λ g f at len file pieces ok is le walk.
    let all = all_put pieces g (freed_all pieces g) f at len file (λ k. Free) ok is le walk (freed_puts pieces g) in
    let n = length_free len in
    let world = world_put file.cells (replicate len Free) at (omega (arith, le, n)) in
    let also : IsPutAs file.cells at len (λ k. Free) (with_cells file.cells at (replicate len Free)) = record {
      length_is = world.length_is;
      inside = λ k lt. world.inside k (omega (arith, lt, n)) ∙ free_at len k;
      outside = λ o out. world.outside o (⊎_elim (λ low. inl low) (λ far. inr (omega (arith, far, n))) out);
    } in
    all.group ∙ ap (with_file_cells g f file) (one_way file.cells at len (λ k. Free) all.cells (with_cells file.cells at (replicate len Free)) all.put also)

-- ---- settled

settled_puts : (pieces : List Span) (s : Shape) (stripe : Stripe) (f at len : ℕ) (bytes : Bytes) (v : ℕ → Cell) (g : Group) → IsWalk s stripe f at len pieces → length bytes ≡ len
    → ((k : ℕ) → k < len → Known (slice_index bytes k) ≡ v k) → PutsAll pieces v g (settled_all pieces bytes g)
settled_puts [] s stripe f at len bytes v g walk n same = refl
settled_puts (x ∷ xs) s stripe f at len bytes v g walk n same = (
  (λ inner. Known (slice_index (take x.len bytes) (inner - x.from))),
  (λ k lt.
      let back : x.from + k - x.from ≡ k = omega arith in
      ap (λ (j : ℕ). Known (slice_index (take x.len bytes) j)) back ∙ ap (λ (b : ℕ). Known b) (get_or-take x.len bytes k 0 lt) ∙ same k (omega (arith, lt, walk.0.within))),
  settled_puts xs s stripe f (at + x.len) (len - x.len) (drop x.len bytes) (λ k. v (x.len + k)) (settled x (take x.len bytes) g) walk.1 (length-drop x.len bytes ∙ ap (λ (j : ℕ). j - x.len) n)
      (λ k lt. ap (λ (b : ℕ). Known b) (get_or-drop x.len bytes k 0) ∙ same (x.len + k) (omega (arith, lt))),
)

known_at : (bytes : Bytes) (k : ℕ) → k < length bytes → Known (slice_index bytes k) ≡ get_or (known bytes) k Free
known_at bytes k lt = sym (get_or-map (λ (b : ℕ). Known b) bytes k 0 Free lt)

pub settled_is_written : SettledIsWritten
settled_is_written = λ g f at bytes file pieces ok is le walk.
    let v = λ (k : ℕ). get_or (known bytes) k Free in
    let all = all_put pieces g (settled_all pieces bytes g) f at (length bytes) file v ok is le walk
    (settled_puts pieces g.shape file.stripe f at (length bytes) bytes v g walk refl (λ k lt. known_at bytes k lt)) in
    let n : length (known bytes) ≡ length bytes = length-map bytes (λ (b : ℕ). Known b) in
    let world = world_put file.cells (known bytes) at (omega (arith, le, n)) in
    let also : IsPutAs file.cells at (length bytes) v (with_cells file.cells at (known bytes)) = subst (λ (k : ℕ). IsPutAs file.cells at k v (with_cells file.cells at (known bytes))) n world in
    all.group ∙ ap (with_file_cells g f file) (one_way file.cells at (length bytes) v all.cells (with_cells file.cells at (known bytes)) all.put also)

-- ---- forgotten

pub freed_forgets : FreedForgets
freed_forgets = λ g h f at len file pieces ok is le walk differs.
    let same_file : differs.file ≡ file = same_Some differs.file file (sym differs.is_file ∙ is) in
    let group : h ≡ with_file_cells g f file differs.cells = differs.same ∙ ap (λ (k : File). with_file_cells g f k differs.cells) same_file in
    let len_is : length differs.cells ≡ length file.cells = differs.length_is ∙ ap (λ (k : File). length k.cells) same_file in
    let mid = with_file_cells g f file differs.cells in
    let old = all_put pieces g (freed_all pieces g) f at len file (λ k. Free) ok is le walk (freed_puts pieces g) in
    let new = all_put pieces mid (freed_all pieces mid) f at len (record file { cells = differs.cells }) (λ k. Free) ok (got_same g.files f (record file { cells = differs.cells }))
    (omega (arith, le, len_is)) walk (freed_puts pieces mid) in
    let also : IsPutAs file.cells at len (λ k. Free) new.cells = record {
      length_is = new.put.length_is ∙ len_is;
      inside = new.put.inside;
      outside = λ o out. new.put.outside o out ∙ differs.outside o out ∙ ap (λ (k : File). get_or k.cells o Free) same_file;
    } in
    ap (freed_all pieces) group ∙ new.group ∙ cells_twice g f file differs.cells new.cells
    ∙ ap (with_file_cells g f file) (one_way file.cells at len (λ k. Free) new.cells old.cells also old.put) ∙ sym old.group
