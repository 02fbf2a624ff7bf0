-- Spans of files: their pieces, and what is free and written in the world.
use Rattle.std.proofs.Common.{◌≡◌, inl, inr, ⊎_elim, ℕ, zero, suc, ◌+◌, ◌-◌, ◌<◌, ◌≤◌, true, List, [], ◌∷◌, ◌++◌, length, get_or, slice_index, take, drop, replicate, min, refl, sym, ap, subst, ◌∙◌, Some, arith}
use Rattle.std.specs.FinMap as maps
use Rattle.std.proofs.Math.Seq.{take-length}
use Rattle.std.proofs.lemmas.Bool.{cases_lt}
use Rattle.std.proofs.lemmas.List.{get_or-map, get_or_append_left, get_or-append-add, length-append, length-map, get_or-take, get_or-drop, length-drop, length-take-le}
use Rattle.bay.specs.Image as bay
use Rattle.asm_group.specs.declared.Stripe.{Stripe}
use Rattle.asm_group.specs.Names.{Bytes}
use Rattle.asm_group.specs.Shape.{Shape, is_shape}
use Rattle.asm_group.specs.Group.{Cell, Known, Free, File, Group}
use Rattle.asm_placement.proofs.Places.{place_of}
use Rattle.asm_images.specs.Describing.{extent_size}
use Rattle.asm_images.specs.Kept.{Kept, IsHeld}
use Rattle.asm_images.specs.Spans.{Span, FitsIn, freed, settled}
use Rattle.asm_images.proofs.Spans.{layout_of}
use Rattle.asm_world.specs.Files.{known, with_cells, with_file_cells, Agrees}
use Rattle.striping.specs.declared.layout.Layout.{Layout}
use Rattle.striping.specs.Pieces.{run_by}
use Rattle.striping.proofs.Pieces.{is_piece}
use Rattle.piece_laws.specs.Walks.{IsStep, IsWalk, freed_all, DiffersIn}
use Rattle.piece_laws.specs.FileSpans.{written_to, AgreeAll, WalksExist, SpanIsFree, PiecesAgree}
use Rattle.piece_laws.proofs.Settling.{freed_shape}
use Rattle.piece_laws.proofs.Writing.{freed_is_held}
use Rattle.piece_laws.proofs.Walks.{IsPutAs, world_put, one_way, got_same, cells_same, cells_twice, length_free, step_fits, freed_is_free, freed_forgets, settled_is_written}

-- ---- every span has pieces

first_step : (s : Shape) (stripe : Stripe) (f at len : ℕ) → is_shape s ≡ true → 0 < len → (x : Span) × IsStep s stripe f at len x
first_step s stripe f at len ok some =
    let layout : Layout = record { au = s.au; step = s.step; stripe = stripe } in
    let place = place_of stripe s.au s.step at (layout_of s ok) in
    let n = min len (run_by stripe s.au s.step place.0 place.1) in
    let piece = is_piece layout (record { at = at; len = len }) place.0 place.1 n (layout_of s ok) some place.2 refl in (
      record { file = f; index = place.0; from = place.1; len = n },
      record { file = refl; some = piece.some; within = piece.within; lies = piece.lies },
    )

walk_from : (fuel : ℕ) (s : Shape) (stripe : Stripe) (f at len : ℕ) → is_shape s ≡ true → len ≤ fuel → (pieces : List Span) × IsWalk s stripe f at len pieces
walk_from zero s stripe f at len ok le = ([], omega arith)
walk_from (suc fuel) s stripe f at len ok le = ⊎_elim
    (λ (none : len < 1). ([], omega (arith, none)))
    (λ (some : 1 ≤ len).
    let first = first_step s stripe f at len ok (omega (arith, some)) in
    let rest = walk_from fuel s stripe f (at + first.0.len) (len - first.0.len) ok (omega (arith, first.1.some, le)) in
    (first.0 ∷ rest.0, (first.1, rest.1)))
    (cases_lt len 1)

pub walks_exist : WalksExist
walks_exist = λ s stripe f at len ok. walk_from len s stripe f at len ok (omega arith)

-- ---- a span that is free

freed_all_kept : (pieces : List Span) (n id : ℕ) (h : Group) (kept : Kept) (s : Shape) (stripe : Stripe) (f at len : ℕ) (image : bay.Image) → h.shape ≡ s → IsWalk s stripe f at len pieces
    → IsHeld n id (h ∷ []) kept image → IsHeld n id (freed_all pieces h ∷ []) kept image
freed_all_kept [] n id h kept s stripe f at len image shape walk is = is
freed_all_kept (x ∷ xs) n id h kept s stripe f at len image shape walk is =
    let fits : FitsIn (h ∷ []) x = λ k among. ⊎_elim
    (λ (same : k ≡ h). subst (λ (z : Shape). x.from + x.len ≤ extent_size z x.index) (sym (ap (λ (j : Group). j.shape) same ∙ shape)) (step_fits s stripe f at len x walk.0))
    (λ none. absurd none) among in
    freed_all_kept xs n id (freed x h) kept s stripe f (at + x.len) (len - x.len) image (freed_shape x h ∙ shape) walk.1 (freed_is_held n id h kept x image is fits)

pub span_is_free : SpanIsFree
span_is_free = λ n id g h kept f at len file image ok is_file le differs is.
    let walk = walks_exist g.shape file.stripe f at len ok in
    let shape : h.shape ≡ g.shape = ap (λ (k : Group). k.shape) differs.same in
    subst (λ (k : Group). IsHeld n id (k ∷ []) kept image)
    (freed_forgets g h f at len file walk.0 ok is_file le walk.1 differs ∙ freed_is_free g f at len file walk.0 ok is_file le walk.1)
    (freed_all_kept walk.0 n id h kept g.shape file.stripe f at len image shape walk.1 is)

-- ---- one piece after what is written

known_len : (bytes : Bytes) → length (known bytes) ≡ length bytes
known_len bytes = length-map bytes (λ (b : ℕ). Known b)

-- what the world writes, cell by cell
written_cells : (cells : List Cell) (at : ℕ) (bytes : Bytes) → at + length bytes ≤ length cells → IsPutAs cells at (length bytes) (λ k. get_or (known bytes) k Free) (with_cells cells at (known bytes))
written_cells cells at bytes le = subst (λ (n : ℕ). IsPutAs cells at n (λ k. get_or (known bytes) k Free) (with_cells cells at (known bytes))) (known_len bytes)
    (world_put cells (known bytes) at (omega (arith, le, known_len bytes)))

-- written twice, one behind the other
both_written : (cells : List Cell) (at : ℕ) (a b : Bytes) → at + length a + length b ≤ length cells
    → with_cells (with_cells cells at (known a)) (at + length a) (known b) ≡ with_cells cells at (known (a ++ b))
both_written cells at a b le =
    let len : length (a ++ b) ≡ length a + length b = length-append a b in
    let one = written_cells cells at a (omega (arith, le)) in
    let mid = with_cells cells at (known a) in
    let two = written_cells mid (at + length a) b (omega (arith, le, one.length_is)) in
    let whole = written_cells cells at (a ++ b) (omega (arith, le, len)) in
    let v = λ (k : ℕ). get_or (known (a ++ b)) k Free in
    let joined : IsPutAs cells at (length (a ++ b)) v (with_cells mid (at + length a) (known b)) = record {
      length_is = two.length_is ∙ one.length_is;
      inside = λ k lt. ⊎_elim
          (λ (low : k < length a).
          two.outside (at + k) (inl (omega (arith, low))) ∙ one.inside k low
          ∙ get_or-map (λ (x : ℕ). Known x) a k 0 Free low ∙ ap (λ (x : ℕ). Known x) (sym (get_or_append_left a b 0 k low))
          ∙ sym (get_or-map (λ (x : ℕ). Known x) (a ++ b) k 0 Free lt))
          (λ (from : length a ≤ k).
          let place : at + length a + (k - length a) ≡ at + k = omega (arith, from) in
          let small : k - length a < length b = omega (arith, from, lt, len) in
          let back : length a + (k - length a) ≡ k = omega (arith, from) in
          ap (λ (o : ℕ). get_or (with_cells mid (at + length a) (known b)) o Free) (sym place) ∙ two.inside (k - length a) small
          ∙ get_or-map (λ (x : ℕ). Known x) b (k - length a) 0 Free small
          ∙ ap (λ (x : ℕ). Known x) (sym (get_or-append-add a b (k - length a) 0) ∙ ap (λ (o : ℕ). get_or (a ++ b) o 0) back)
          ∙ sym (get_or-map (λ (x : ℕ). Known x) (a ++ b) k 0 Free lt))
          (cases_lt k (length a));
      outside = λ o out.
          two.outside o (⊎_elim (λ low. inl (omega (arith, low))) (λ far. inr (omega (arith, far, len))) out)
          ∙ one.outside o (⊎_elim (λ low. inl low) (λ far. inr (omega (arith, far, len))) out);
    } in
    one_way cells at (length (a ++ b)) v (with_cells mid (at + length a) (known b)) (with_cells cells at (known (a ++ b))) joined whole

-- a piece that is settled behind what is written
pub settled_next : (g : Group) (f : ℕ) (file : File) (at rest : ℕ) (a b : Bytes) (x : Span) → is_shape g.shape ≡ true → maps.get g.files f ≡ Some file → IsStep g.shape file.stripe f (at + length a) rest x
    → length b ≡ x.len → at + length a + length b ≤ length file.cells → settled x b (written_to g f file at a) ≡ written_to g f file at (a ++ b)
settled_next g f file at rest a b x ok is step len le =
    let cells = with_cells file.cells at (known a) in
    let one = written_cells file.cells at a (omega (arith, le)) in
    let h = written_to g f file at a in
    let after : File = record file { cells = cells } in
    let walk : IsWalk h.shape after.stripe f (at + length a) (length b) (x ∷ []) =
    (record { file = step.file; some = step.some; within = omega (arith, len); lies = step.lies }, omega (arith, len)) in
    let all : take x.len b ≡ b = ap (λ (n : ℕ). take n b) (sym len) ∙ take-length b in
    ap (λ (l : Bytes). settled x l h) (sym all)
    ∙ settled_is_written h f (at + length a) b after (x ∷ []) ok (got_same g.files f after) (omega (arith, le, one.length_is)) walk
    ∙ cells_twice g f file cells (with_cells cells (at + length a) (known b))
    ∙ ap (with_file_cells g f file) (both_written file.cells at a b le)

-- a piece that is freed there: the group differs from the one before in the span alone
pub freed_differs : (g : Group) (f : ℕ) (file : File) (at len rest : ℕ) (a : Bytes) (x : Span) → is_shape g.shape ≡ true → maps.get g.files f ≡ Some file → IsStep g.shape file.stripe f (at + length a) rest x
    → length a + rest ≤ len → at + len ≤ length file.cells → DiffersIn g (freed x (written_to g f file at a)) f at len
freed_differs g f file at len rest a x ok is step short le =
    let cells = with_cells file.cells at (known a) in
    let one = written_cells file.cells at a (omega (arith, le, short)) in
    let h = written_to g f file at a in
    let after : File = record file { cells = cells } in
    let walk : IsWalk h.shape after.stripe f (at + length a) x.len (x ∷ []) =
    (record { file = step.file; some = step.some; within = omega arith; lies = step.lies }, omega arith) in
    let inside : at + length a + x.len ≤ length cells = omega (arith, one.length_is, step.within, short, le) in
    let free_len = length_free x.len in
    let two = world_put cells (replicate x.len Free) (at + length a) (omega (arith, inside, free_len)) in
    record {
      file = file;
      is_file = is;
      cells = with_cells cells (at + length a) (replicate x.len Free);
      same = freed_is_free h f (at + length a) x.len after (x ∷ []) ok (got_same g.files f after) inside walk
          ∙ cells_twice g f file cells (with_cells cells (at + length a) (replicate x.len Free));
      length_is = two.length_is ∙ one.length_is;
      outside = λ o out.
          two.outside o (⊎_elim (λ low. inl (omega (arith, low))) (λ far. inr (omega (arith, far, free_len, step.within, short))) out)
          ∙ one.outside o (⊎_elim (λ low. inl low) (λ far. inr (omega (arith, far, short))) out);
    }

-- what is written in part differs in the span alone
pub written_differs : (g : Group) (f : ℕ) (file : File) (at len : ℕ) (a : Bytes) → maps.get g.files f ≡ Some file → length a ≤ len → at + len ≤ length file.cells → DiffersIn g (written_to g f file at a) f at len
written_differs g f file at len a is short le =
    let one = written_cells file.cells at a (omega (arith, le, short)) in
    record {
      file = file;
      is_file = is;
      cells = with_cells file.cells at (known a);
      same = refl;
      length_is = one.length_is;
      outside = λ o out. one.outside o (⊎_elim (λ low. inl low) (λ far. inr (omega (arith, far, short))) out);
    }

-- nothing is written
pub written_none : (g : Group) (f : ℕ) (file : File) (at : ℕ) → maps.get g.files f ≡ Some file → at ≤ length file.cells → written_to g f file at [] ≡ g
written_none g f file at is le =
    let none = written_cells file.cells at [] (omega (arith, le)) in
    let v = λ (k : ℕ). get_or (known []) k Free in
    let same : IsPutAs file.cells at 0 v file.cells = record { length_is = refl; inside = λ k lt. absurd (omega (arith, lt)); outside = λ o out. refl } in
    ap (with_file_cells g f file) (one_way file.cells at 0 v (with_cells file.cells at (known [])) file.cells none same) ∙ cells_same g f file is

-- ---- reading

-- cell by cell
pub agrees_by : (cells : List Cell) (bytes : Bytes) → length cells ≡ length bytes → ((k b : ℕ) → k < length bytes → get_or cells k Free ≡ Known b → slice_index bytes k ≡ b) → Agrees cells bytes
agrees_by [] [] len each = tt
agrees_by [] (b ∷ bytes) len each = absurd (omega (arith, len))
agrees_by (c ∷ cells) [] len each = absurd (omega (arith, len))
agrees_by (Known k ∷ cells) (b ∷ bytes) len each =
    (sym (each 0 k (omega arith) refl), agrees_by cells bytes (omega (arith, len)) (λ j v lt is. each (suc j) v (omega (arith, lt)) is))
agrees_by (Free ∷ cells) (b ∷ bytes) len each = agrees_by cells bytes (omega (arith, len)) (λ j v lt is. each (suc j) v (omega (arith, lt)) is)

agree_at : (pieces : List Span) (g : Group) (f at len : ℕ) (file : File) (bytes : Bytes) → maps.get g.files f ≡ Some file → IsWalk g.shape file.stripe f at len pieces → length bytes ≡ len → AgreeAll g pieces bytes
    → (k b : ℕ) → k < len → get_or file.cells (at + k) Free ≡ Known b → slice_index bytes k ≡ b
agree_at [] g f at len file bytes is walk size agree k b lt cell = absurd (omega (arith, lt, walk))
agree_at (x ∷ xs) g f at len file bytes is walk size agree k b lt cell = ⊎_elim
    (λ (low : k < x.len).
    let here : maps.get g.files x.file ≡ Some file = ap (λ (n : ℕ). maps.get g.files n) walk.0.file ∙ is in
    let back : x.from + k - x.from ≡ k = omega arith in
    sym (get_or-take x.len bytes k 0 low) ∙ ap (λ (j : ℕ). slice_index (take x.len bytes) j) (sym back)
    ∙ agree.0 file (at + k) b (x.from + k) here cell (walk.0.lies k low) (omega arith) (omega (arith, low)))
    (λ (from : x.len ≤ k).
    let place : at + x.len + (k - x.len) ≡ at + k = omega (arith, from) in
    let back : x.len + (k - x.len) ≡ k = omega (arith, from) in
    ap (λ (j : ℕ). slice_index bytes j) (sym back) ∙ sym (get_or-drop x.len bytes (k - x.len) 0)
    ∙ agree_at xs g f (at + x.len) (len - x.len) file (drop x.len bytes) is walk.1 (length-drop x.len bytes ∙ ap (λ (j : ℕ). j - x.len) size) agree.1 (k - x.len) b (omega (arith, from, lt))
    (ap (λ (o : ℕ). get_or file.cells o Free) place ∙ cell))
    (cases_lt k x.len)

pub pieces_agree : PiecesAgree
pieces_agree = λ g f at bytes file pieces ok is le walk agree.
    let n = length bytes in
    let cells = take n (drop at file.cells) in
    let size : length cells ≡ n = length-take-le n (drop at file.cells) (omega (arith, length-drop at file.cells, le)) in
    agrees_by cells bytes size (λ k b lt cell.
    agree_at pieces g f at n file bytes is walk refl agree k b lt
    (sym (get_or-drop at file.cells k Free) ∙ sym (get_or-take n (drop at file.cells) k Free lt) ∙ cell))
