-- A span of a file is written piece by piece: what holds of its parts holds of the whole.
use Rattle.std.proofs.Common.{◌≡◌, ⊎_elim, inl, inr, ℕ, ◌+◌, ◌-◌, ◌≤◌, List, [], ◌∷◌, ◌++◌, length, take, drop, replicate, Some, Result, Ok, Err, IsTrue, refl, sym, ap, subst, ◌∙◌, arith}
use Rattle.std.specs.Prelude.{OnErr, OnOk}
use Rattle.std.specs.FinMap as maps
use Rattle.std.proofs.Math.Seq.{take-length}
use Rattle.std.proofs.lemmas.List.{append-nil, append_assoc, drop-take, length-append, length-drop, length-map, length-take-le, nil_from_length, take-append-drop, take-take}
use Rattle.std.proofs.lemmas.Option.{same_Some}
use Rattle.bay.specs.Image.{Image}
use Rattle.bay.specs.Moments.{LeavesOnly}
use Rattle.bay.specs.State.{BayState}
use Rattle.bay.proofs.Calls.{leaves_begin, leaves_less, leaves_on}
use Rattle.asm_group.specs.declared.Stripe.{Stripe}
use Rattle.asm_group.specs.Names.{Bytes}
use Rattle.asm_group.specs.Shape.{Shape, is_shape}
use Rattle.asm_group.specs.Group.{File, Free, Group, Known}
use Rattle.asm_base.specs.declared.kinds.ExtentId.{ExtentId}
use Rattle.refusal_lines.specs.declared.refusal.Refusal.{Refusal}
use Rattle.refusal_lines.specs.declared.refusal.Refusal.TheVariants as cause
use Rattle.asm_images.specs.Kept.{Kept}
use Rattle.asm_images.specs.Spans.{Span, settled}
use Rattle.asm_world.specs.Files.{known, with_cells, with_file_cells}
use Rattle.piece_laws.specs.FileSpans.{freed_to, written_to}
use Rattle.piece_laws.specs.Rewriting.{RewritesFile}
use Rattle.piece_laws.specs.Walks.{DiffersIn, IsStep, IsWalk, settled_all}
use Rattle.piece_laws.proofs.FileSpans.{settled_next, span_is_free, walks_exist, written_none}
use Rattle.piece_laws.proofs.Rewriting.{rewritten_is_described}
use Rattle.piece_laws.proofs.Walks.{cells_same, cells_twice, freed_is_free, got_same, length_free, settled_is_written, world_put}
use Rattle.file_extents.specs.catalog_tables.Tables.{Tables}
use Rattle.file_extents.specs.group_of.Describing.{KeepsNames}
use Rattle.file_extents.specs.group_engine.Commits.{StandsIn}
use Rattle.file_extents.specs.group_engine.Mounts.{IsMounted, MountedGroup, Mounts}
use Rattle.file_extents.specs.group_engine.Pending.{OutlastsFaults}
use Rattle.file_extents.proofs.group_engine.Endings.{kept_before}
use Rattle.file_extents.proofs.group_engine.Standings.{stands_at_rest}
use Rattle.file_extents.specs.group_pieces.Held.{PieceHeld, PieceStays, TakesBytes, piece_freed, piece_written}
use Rattle.file_extents.specs.group_pieces.Usable.{piece_of}
use Rattle.group_contents.specs.Writing.{EndsAs, HasSpan, StaysFor, TakesSpan, WritesSpan, done_of}
use Rattle.group_contents.specs.declared.opening.OpenFile.{OpenFile}

-- ---- a span's cells Free

-- a group that is mounted has a shape of the formats
shape_is : (n : ℕ) (m : MountedGroup) (s : BayState) (g : Group) (kept : Kept) → Mounts n m s g kept → IsTrue (is_shape g.shape)
shape_is n m s g kept mounts = subst (λ (z : Shape). IsTrue (is_shape z)) (sym mounts.represents.shape) mounts.whole.shape

-- what a group, or the same one with other bytes in the span, is once the span is Free
same_differs : (g : Group) (f at len : ℕ) (file : File) → maps.get g.files f ≡ Some file → DiffersIn g g f at len
same_differs g f at len file is = record {
  file = file;
  is_file = is;
  cells = file.cells;
  same = sym (cells_same g f file is);
  length_is = refl;
  outside = λ o out. refl;
}

-- a part of the span Free
freed_within : (g : Group) (f at n len : ℕ) (file : File) → maps.get g.files f ≡ Some file → n ≤ len → at + len ≤ length file.cells → DiffersIn g (freed_to g f file at n) f at len
freed_within g f at n len file is short le =
    let free = length_free n in
    let put = world_put file.cells (replicate n Free) at (omega (arith, free, short, le)) in
    record {
      file = file;
      is_file = is;
      cells = with_cells file.cells at (replicate n Free);
      same = refl;
      length_is = put.length_is;
      outside = λ o out. put.outside o (⊎_elim (λ low. inl low) (λ far. inr (omega (arith, far, free, short))) out);
    }

-- the file with these bytes
abbrev file_to : File → ℕ → Bytes → File
file_to file at a = record file { cells = with_cells file.cells at (known a) }

-- a part written, and the rest Free
freed_behind : (g : Group) (f at n : ℕ) (a : Bytes) (file : File) → maps.get g.files f ≡ Some file → at + (length a + n) ≤ length file.cells
    → DiffersIn g (freed_to (written_to g f file at a) f (file_to file at a) (at + length a) n) f at (length a + n)
freed_behind g f at n a file is le =
    let size : length (known a) ≡ length a = length-map a (λ (b : ℕ). Known b) in
    let cells = with_cells file.cells at (known a) in
    let one = world_put file.cells (known a) at (omega (arith, size, le)) in
    let free = length_free n in
    let two = world_put cells (replicate n Free) (at + length a) (omega (arith, one.length_is, free, le)) in
    record {
      file = file;
      is_file = is;
      cells = with_cells cells (at + length a) (replicate n Free);
      same = cells_twice g f file cells (with_cells cells (at + length a) (replicate n Free));
      length_is = two.length_is ∙ one.length_is;
      outside = λ o out.
          two.outside o (⊎_elim (λ low. inl (omega (arith, low))) (λ far. inr (omega (arith, far, free))) out)
          ∙ one.outside o (⊎_elim (λ low. inl low) (λ far. inr (omega (arith, far, size))) out);
    }

module _ (g h : Group) (f at len : ℕ) (file : File) (ok : IsTrue (is_shape g.shape)) (is : maps.get g.files f ≡ Some file) (le : at + len ≤ length file.cells) (differs : DiffersIn g h f at len) where
  less_stands : (n id : ℕ) (kept : Kept) (x : Image) → StandsIn n id (h ∷ []) kept x → StandsIn n id (freed_to g f file at len ∷ []) kept x
  less_stands n id kept x stands = record {
    by = stands.by;
    slots = stands.slots;
    is = span_is_free n id g h stands.by f at len file x ok is le differs stands.is;
    beside = stands.beside;
  }

  rewrites : RewritesFile h (freed_to g f file at len)
  rewrites =
      let same : differs.file ≡ file = same_Some differs.file file (sym differs.is_file ∙ is) in
      let group : h ≡ with_file_cells g f file differs.cells = differs.same ∙ ap (λ (k : File). with_file_cells g f k differs.cells) same in
      let long : length differs.cells ≡ length file.cells = differs.length_is ∙ ap (λ (k : File). length k.cells) same in
      let put = world_put file.cells (replicate len Free) at (omega (arith, le, length_free len)) in
      subst (λ (k : Group). RewritesFile k (freed_to g f file at len)) (sym group) (record {
        number = f;
        file = record file { cells = differs.cells };
        is_file = got_same g.files f (record file { cells = differs.cells });
        cells = with_cells file.cells at (replicate len Free);
        length_is = put.length_is ∙ sym long;
        same = sym (cells_twice g f file differs.cells (with_cells file.cells at (replicate len Free)));
      })

  less_mounts : (n : ℕ) (m : MountedGroup) (s : BayState) (kept : Kept) → Mounts n m s h kept → Mounts n m s (freed_to g f file at len) kept
  less_mounts n m s kept mounts = record {
    whole = mounts.whole;
    ready = mounts.ready;
    represents = record {
      name = sym (ap (λ (k : Group). k.name) differs.same) ∙ mounts.represents.name;
      shape = sym (ap (λ (k : Group). k.shape) differs.same) ∙ mounts.represents.shape;
      describes = λ items are. rewritten_is_described m.register.value items h (freed_to g f file at len) (inr rewrites) (mounts.represents.describes items are);
    };
    own = mounts.own;
    completed = mounts.completed;
    begun = mounts.begun;
    register = mounts.register;
    now = record { now = λ x left. span_is_free n m.register.id g h kept f at len file x ok is le differs (mounts.now.now x left) };
  }

-- ---- a part behind another one

settled_on : (pieces : List Span) (g : Group) (f at : ℕ) (a b : Bytes) (file : File) → IsTrue (is_shape g.shape) → maps.get g.files f ≡ Some file → at + length a + length b ≤ length file.cells
    → IsWalk g.shape file.stripe f (at + length a) (length b) pieces → settled_all pieces b (written_to g f file at a) ≡ written_to g f file at (a ++ b)
settled_on [] g f at a b file ok is le walk =
    ap (λ (l : Bytes). written_to g f file at l) (sym (ap (λ (l : Bytes). a ++ l) (nil_from_length b walk) ∙ append-nil a))
settled_on (x ∷ xs) g f at a b file ok is le walk =
    let one = take x.len b in
    let rest = drop x.len b in
    let size : length one ≡ x.len = length-take-le x.len b walk.0.within in
    let left : length rest ≡ length b - x.len = length-drop x.len b in
    let far : length (a ++ one) ≡ length a + x.len = length-append a one ∙ omega (arith, size) in
    let place : at + length a + x.len ≡ at + length (a ++ one) = omega (arith, far) in
    let next : IsWalk g.shape file.stripe f (at + length (a ++ one)) (length rest) xs =
    subst (λ (k : ℕ). IsWalk g.shape file.stripe f k (length rest) xs) place (subst (λ (k : ℕ). IsWalk g.shape file.stripe f (at + length a + x.len) k xs) (sym left) walk.1) in
    ap (settled_all xs rest) (settled_next g f file at (length b) a one x ok is walk.0 size (omega (arith, size, walk.0.within, le)))
    ∙ settled_on xs g f at (a ++ one) rest file ok is (omega (arith, far, left, walk.0.within, le)) next
    ∙ ap (λ (l : Bytes). written_to g f file at l) (append_assoc a one rest ∙ ap (λ (l : Bytes). a ++ l) (take-append-drop x.len b))

both_written : (g : Group) (f at : ℕ) (a b : Bytes) (file : File) → IsTrue (is_shape g.shape) → maps.get g.files f ≡ Some file → at + length a + length b ≤ length file.cells
    → written_to (written_to g f file at a) f (file_to file at a) (at + length a) b ≡ written_to g f file at (a ++ b)
both_written g f at a b file ok is le =
    let walk = walks_exist g.shape file.stripe f (at + length a) (length b) ok in
    let size : length (known a) ≡ length a = length-map a (λ (k : ℕ). Known k) in
    let put = world_put file.cells (known a) at (omega (arith, size, le)) in
    sym (settled_is_written (written_to g f file at a) f (at + length a) b (file_to file at a) walk.0 ok (got_same g.files f (file_to file at a)) (omega (arith, put.length_is, le)) walk.1)
    ∙ settled_on walk.0 g f at a b file ok is le walk.1

-- ---- nothing is done

same_names : (t : Tables) → KeepsNames t t
same_names t = record { files = refl; nodes = refl; templates = refl }

pub stays_here : (m : MountedGroup) (r : Result (Unit {0}) Refusal) → IsMounted m → StaysFor r m
stays_here m (Ok done) mounted = mounted
stays_here m (Err (cause.WriteFault by)) mounted = mounted
stays_here m (Err (cause.Lost x)) mounted = mounted
stays_here m (Err _) mounted = tt

module _ (m : MountedGroup) (mounted : IsMounted m) (opened : OpenFile) (at : ℕ) (s : BayState) where
  here : (n len : ℕ) (g : Group) (kept : Kept) (file : File) → TakesSpan n m s g kept → HasSpan g opened at len file
      → LeavesOnly s s (StandsIn n m.register.id (freed_to g opened.file file at len ∷ []) kept)
  here n len g kept file takes has =
      let ok = shape_is n m s g kept takes.mounts in
      let same = same_differs g opened.file at len file has.is_file in
      leaves_begin (record {
        now = λ x left. less_stands g g opened.file at len file ok has.is_file has.within same n m.register.id kept x
            (stands_at_rest n m.register.id (g ∷ []) kept x takes.mounts.begun (takes.mounts.now.now x left));
      })

  pub span_none : WritesSpan m opened at [] (Ok tt) m s s
  span_none = record {
    moments = λ n g kept file takes has. here n 0 g kept file takes has;
    done = λ n g kept file takes has. (
      kept,
      refl,
      subst (λ (k : Group). Mounts n m s k kept) (sym (written_none g opened.file file at has.is_file (omega (arith, has.within)))) takes.mounts,
    );
    refused = λ takes. tt;
    mounted = stays_here m (Ok tt) mounted;
    spare = λ takes is. is;
    turns = λ takes. omega arith;
    names = λ takes. same_names m.catalog.tables;
  }

  pub span_refused : (bytes : Bytes) (e : Refusal) → WritesSpan m opened at bytes (Err e) m s s
  span_refused bytes e = record {
    moments = λ n g kept file takes has. here n (length bytes) g kept file takes has;
    done = tt;
    refused = λ still n g kept file takes has. (
      kept,
      refl,
      less_mounts g g opened.file at (length bytes) file (shape_is n m s g kept takes.mounts) has.is_file has.within (same_differs g opened.file at (length bytes) file has.is_file) n m s kept
          takes.mounts,
    );
    mounted = stays_here m (Err e) mounted;
    spare = λ still is. is;
    turns = λ still. omega arith;
    names = λ still. same_names m.catalog.tables;
  }

-- ---- one piece

module _ (m new : MountedGroup) (opened : OpenFile) (at rest : ℕ) (x : ExtentId) (inner : ℕ) (bytes : Bytes) (s t : BayState)
    (step : IsStep m.catalog.shape opened.stripe opened.file at rest (piece_of x inner (length bytes))) where
  abbrev piece : Span
  piece = piece_of x inner (length bytes)

  -- the piece is the whole span
  walk_of : (n : ℕ) (g : Group) (kept : Kept) (file : File) → TakesSpan n m s g kept → HasSpan g opened at (length bytes) file → IsWalk g.shape file.stripe opened.file at (length bytes) (piece ∷ [])
  walk_of n g kept file takes has =
      let shaped = subst (λ (z : Shape). IsStep z opened.stripe opened.file at rest piece) (sym takes.mounts.represents.shape) step in
      let lies = subst (λ (z : Stripe). IsStep g.shape z opened.file at rest piece) (sym has.stripe) shaped in
      (record { file = lies.file; some = lies.some; within = omega arith; lies = lies.lies }, omega arith)

  piece_is_free : (n : ℕ) (g : Group) (kept : Kept) (file : File) → TakesSpan n m s g kept → HasSpan g opened at (length bytes) file
      → piece_freed x inner (length bytes) g ≡ freed_to g opened.file file at (length bytes)
  piece_is_free n g kept file takes has =
      freed_is_free g opened.file at (length bytes) file (piece ∷ []) (shape_is n m s g kept takes.mounts) has.is_file has.within (walk_of n g kept file takes has)

  piece_is_written : (n : ℕ) (g : Group) (kept : Kept) (file : File) → TakesSpan n m s g kept → HasSpan g opened at (length bytes) file
      → piece_written x inner bytes g ≡ written_to g opened.file file at bytes
  piece_is_written n g kept file takes has =
      ap (λ (l : Bytes). settled piece l g) (sym (take-length bytes))
      ∙ settled_is_written g opened.file at bytes file (piece ∷ []) (shape_is n m s g kept takes.mounts) has.is_file has.within (walk_of n g kept file takes has)

  takes_bytes : (n : ℕ) (g : Group) (kept : Kept) → TakesSpan n m s g kept → TakesBytes n m s g kept
  takes_bytes n g kept takes = record { mounts = takes.mounts; spare = takes.spare; turns = omega (arith, takes.turns) }

  abbrev PieceDone : Type 0
  PieceDone = (n : ℕ) (g : Group) (kept : Kept) → TakesBytes n m s g kept → (later : Kept) × (later.slots ≡ kept.slots) × Mounts n new t (piece_written x inner bytes g) later

  abbrev PieceRefused : Type 0
  PieceRefused = (n : ℕ) (g : Group) (kept : Kept) → Mounts n m s g kept → Mounts n new t (piece_freed x inner (length bytes) g) kept

  piece_done : (r : Result ℕ Refusal) → OnOk r PieceDone
      → OnOk (done_of r) ((n : ℕ) (g : Group) (kept : Kept) (file : File) → TakesSpan n m s g kept → HasSpan g opened at (length bytes) file → EndsAs n new t (written_to g opened.file file at bytes) kept)
  piece_done (Ok failed) ends = λ n g kept file takes has.
      let end = ends n g kept (takes_bytes n g kept takes) in
      (end.0, end.1, subst (λ (k : Group). Mounts n new t k end.0) (piece_is_written n g kept file takes has) end.2)
  piece_done (Err e) ends = tt

  piece_refused : (r : Result ℕ Refusal) → OnErr r PieceRefused
      → OnErr (done_of r) ((n : ℕ) (g : Group) (kept : Kept) (file : File) → TakesSpan n m s g kept → HasSpan g opened at (length bytes) file
      → EndsAs n new t (freed_to g opened.file file at (length bytes)) kept)
  piece_refused (Ok failed) ends = tt
  piece_refused (Err e) ends = λ n g kept file takes has.
      (kept, refl, subst (λ (k : Group). Mounts n new t k kept) (piece_is_free n g kept file takes has) (ends n g kept takes.mounts))

  piece_stays : (r : Result ℕ Refusal) → PieceStays r new → StaysFor (done_of r) new
  piece_stays (Ok failed) stays = stays
  piece_stays (Err (cause.WriteFault by)) stays = stays
  piece_stays (Err (cause.Lost x)) stays = stays
  piece_stays (Err _) stays = tt

  pub span_piece : (r : Result ℕ Refusal) → PieceHeld m x inner bytes r new s t → WritesSpan m opened at bytes (done_of r) new s t
  span_piece r held = record {
    moments = λ n g kept file takes has.
        subst (λ (k : Group). LeavesOnly s t (StandsIn n m.register.id (k ∷ []) kept)) (piece_is_free n g kept file takes has) (held.moments n g kept (takes_bytes n g kept takes));
    done = piece_done r held.done;
    refused = λ mounted. piece_refused r (held.refused mounted);
    mounted = piece_stays r held.mounted;
    spare = held.spare;
    turns = held.turns;
    names = held.names;
  }

-- ---- refused before its end

module _ (m new : MountedGroup) (opened : OpenFile) (at : ℕ) (a b : Bytes) (e : Refusal) (s t : BayState) (one : WritesSpan m opened at a (Err e) new s t) where
  abbrev both : Bytes
  both = a ++ b

  begins : (g : Group) (file : File) → HasSpan g opened at (length both) file → HasSpan g opened at (length a) file
  begins g file has = record { is_file = has.is_file; stripe = has.stripe; within = omega (arith, has.within, length-append a b) }

  -- what the part leaves Free is in the whole span
  in_whole : (g : Group) (file : File) → HasSpan g opened at (length both) file → DiffersIn g (freed_to g opened.file file at (length a)) opened.file at (length both)
  in_whole g file has = freed_within g opened.file at (length a) (length both) file has.is_file (omega (arith, length-append a b)) has.within

  pub span_longer : WritesSpan m opened at (a ++ b) (Err e) new s t
  span_longer = record {
    moments = λ n g kept file takes has.
        leaves_less (λ x. less_stands g (freed_to g opened.file file at (length a)) opened.file at (length both) file (shape_is n m s g kept takes.mounts) has.is_file has.within (in_whole g file has) n
        m.register.id kept x) (one.moments n g kept file takes (begins g file has));
    done = tt;
    refused = λ mounted n g kept file takes has.
        let end = one.refused mounted n g kept file takes (begins g file has) in
        (end.0, end.1, less_mounts g (freed_to g opened.file file at (length a)) opened.file at (length both) file (shape_is n m s g kept takes.mounts) has.is_file has.within (in_whole g file has) n new t end.0 end.2);
    mounted = one.mounted;
    spare = one.spare;
    turns = one.turns;
    names = one.names;
  }

-- ---- one part after the other

module _ (m mid new : MountedGroup) (opened : OpenFile) (at : ℕ) (a b : Bytes) (r : Result (Unit {0}) Refusal) (s t u : BayState) (mounted : IsMounted mid) (same : mid.register.id ≡ m.register.id)
    (one : WritesSpan m opened at a (Ok tt) mid s t) (two : WritesSpan mid opened (at + length a) b r new t u) where
  abbrev whole : Bytes
  whole = a ++ b

  record Middle (n : ℕ) (g : Group) (kept : Kept) (file : File) : Type 0 where
    ok : IsTrue (is_shape g.shape)
    later : Kept
    slots : later.slots ≡ kept.slots
    takes : TakesSpan n mid t (written_to g opened.file file at a) later
    has : HasSpan (written_to g opened.file file at a) opened (at + length a) (length b) (file_to file at a)
    -- what the first part leaves Free, and the second one, is in the whole span
    first : DiffersIn g (freed_to g opened.file file at (length a)) opened.file at (length whole)
    second : DiffersIn g (freed_to (written_to g opened.file file at a) opened.file (file_to file at a) (at + length a) (length b)) opened.file at (length whole)
    both : written_to (written_to g opened.file file at a) opened.file (file_to file at a) (at + length a) b ≡ written_to g opened.file file at whole

  part : (g : Group) (file : File) → HasSpan g opened at (length whole) file → HasSpan g opened at (length a) file
  part g file has = record { is_file = has.is_file; stripe = has.stripe; within = omega (arith, has.within, length-append a b) }

  middle : (n : ℕ) (g : Group) (kept : Kept) (file : File) → TakesSpan n m s g kept → HasSpan g opened at (length whole) file → Middle n g kept file
  middle n g kept file takes has =
      let f = opened.file in
      let ok = shape_is n m s g kept takes.mounts in
      let sum : length a + length b ≡ length whole = sym (length-append a b) in
      let end = one.done n g kept file takes (part g file has) in
      let size : length (known a) ≡ length a = length-map a (λ (k : ℕ). Known k) in
      let put = world_put file.cells (known a) at (omega (arith, size, sum, has.within)) in
      let room : at + (length a + length b) ≤ length file.cells = omega (arith, sum, has.within) in
      record {
        ok = ok;
        later = end.0;
        slots = end.1;
        takes = record { mounts = end.2; spare = one.spare mounted takes.spare; turns = omega (arith, takes.turns, one.turns mounted) };
        has = record { is_file = got_same g.files f (file_to file at a); stripe = has.stripe; within = omega (arith, put.length_is, room) };
        first = freed_within g f at (length a) (length whole) file has.is_file (omega (arith, sum)) has.within;
        second = subst (λ (k : ℕ). DiffersIn g (freed_to (written_to g f file at a) f (file_to file at a) (at + length a) (length b)) f at k) sum (freed_behind g f at (length b) a file has.is_file room);
        both = both_written g f at a b file ok has.is_file (omega (arith, room));
      }

  abbrev NextDone : Type 0
  NextDone = (n : ℕ) (g : Group) (kept : Kept) (file : File) → TakesSpan n mid t g kept → HasSpan g opened (at + length a) (length b) file
      → EndsAs n new u (written_to g opened.file file (at + length a) b) kept

  abbrev NextRefused : Type 0
  NextRefused = (n : ℕ) (g : Group) (kept : Kept) (file : File) → TakesSpan n mid t g kept → HasSpan g opened (at + length a) (length b) file
      → EndsAs n new u (freed_to g opened.file file (at + length a) (length b)) kept

  whole_done : (v : Result (Unit {0}) Refusal) → OnOk v NextDone
      → OnOk v ((n : ℕ) (g : Group) (kept : Kept) (file : File) → TakesSpan n m s g kept → HasSpan g opened at (length whole) file → EndsAs n new u (written_to g opened.file file at whole) kept)
  whole_done (Ok done) ends = λ n g kept file takes has.
      let way = middle n g kept file takes has in
      let end = ends n (written_to g opened.file file at a) way.later (file_to file at a) way.takes way.has in
      (end.0, end.1 ∙ way.slots, subst (λ (k : Group). Mounts n new u k end.0) way.both end.2)
  whole_done (Err e) ends = tt

  whole_refused : (v : Result (Unit {0}) Refusal) → OnErr v NextRefused
      → OnErr v ((n : ℕ) (g : Group) (kept : Kept) (file : File) → TakesSpan n m s g kept → HasSpan g opened at (length whole) file → EndsAs n new u (freed_to g opened.file file at (length whole)) kept)
  whole_refused (Ok done) ends = tt
  whole_refused (Err e) ends = λ n g kept file takes has.
      let way = middle n g kept file takes has in
      let h = freed_to (written_to g opened.file file at a) opened.file (file_to file at a) (at + length a) (length b) in
      let end = ends n (written_to g opened.file file at a) way.later (file_to file at a) way.takes way.has in
      (end.0, end.1 ∙ way.slots, less_mounts g h opened.file at (length whole) file way.ok has.is_file has.within way.second n new u end.0 end.2)

  whole_moments : (n : ℕ) (g : Group) (kept : Kept) (file : File) → TakesSpan n m s g kept → HasSpan g opened at (length whole) file
      → LeavesOnly s u (StandsIn n m.register.id (freed_to g opened.file file at (length whole) ∷ []) kept)
  whole_moments n g kept file takes has =
      let f = opened.file in
      let id = m.register.id in
      let len = length whole in
      let way = middle n g kept file takes has in
      let h = freed_to (written_to g f file at a) f (file_to file at a) (at + length a) (length b) in
      leaves_on
      (leaves_less (λ x. less_stands g (freed_to g f file at (length a)) f at len file way.ok has.is_file has.within way.first n id kept x) (one.moments n g kept file takes (part g file has)))
      (leaves_less (λ x stands. less_stands g h f at len file way.ok has.is_file has.within way.second n id kept x (kept_before n id mid.register.id (h ∷ []) kept way.later x same way.slots stands))
      (two.moments n (written_to g f file at a) way.later (file_to file at a) way.takes way.has))

  pub span_join : WritesSpan m opened at (a ++ b) r new s u
  span_join = record {
    moments = whole_moments;
    done = whole_done r two.done;
    refused = λ takes. whole_refused r (two.refused takes);
    mounted = two.mounted;
    spare = λ takes is. two.spare takes (one.spare mounted is);
    turns = λ takes. omega (arith, two.turns takes, one.turns mounted);
    names = λ takes.
        let first = one.names mounted in
        let second = two.names takes in
        record { files = second.files ∙ first.files; nodes = second.nodes ∙ first.nodes; templates = second.templates ∙ first.templates };
  }
