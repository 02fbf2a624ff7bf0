-- What was read of a file so far agrees with its cells.
use Rattle.std.proofs.Common.{◌≡◌, ⊎_elim, ℕ, ◌+◌, ◌-◌, ◌<◌, ◌≤◌, length, take, drop, get_or, slice_index, ◌++◌, sym, ap, subst, ◌∙◌, Some, arith}
use Rattle.std.specs.FinMap as maps
use Rattle.std.proofs.lemmas.Bool.{cases_lt}
use Rattle.std.proofs.lemmas.List.{get_or-append-add, get_or-drop, get_or-take, get_or_append_left, length-drop, length-take-le}
use Rattle.bay.specs.Image.{Same}
use Rattle.bay.specs.State.{BayState}
use Rattle.bay.specs.Moments.{Runs}
use Rattle.bay.proofs.Calls.{attached-trans, goes_on, started, stops}
use Rattle.bay.proofs.Images.{same-refl, same-trans}
use Rattle.asm_group.specs.declared.Stripe.{Stripe}
use Rattle.asm_group.specs.Names.{Bytes}
use Rattle.asm_group.specs.Shape.{Shape}
use Rattle.asm_group.specs.Group.{File, Free, Group, Known}
use Rattle.asm_images.specs.Describing.{LiesIn}
use Rattle.asm_images.specs.Spans.{Span}
use Rattle.piece_laws.specs.Targets.{AgreesIn}
use Rattle.piece_laws.specs.Walks.{IsStep}
use Rattle.piece_laws.proofs.FileSpans.{agrees_by}
use Rattle.file_extents.specs.group_engine.Mounts.{IsOwn, MountedGroup}
use Rattle.striping.specs.declared.layout.Layout.{Layout}
use Rattle.file_extents.specs.group_pieces.Reads.{ReadsGroup}
use Rattle.file_extents.specs.group_pieces.Usable.{piece_of}
use Rattle.file_extents.specs.Pieces.{IsFirstPiece, IsOfShape}
use Rattle.file_extents.specs.declared.layout.Piece.{Piece}
use Rattle.group_contents.specs.Reading.{ShowsFile, KeepsMounted, WhereMounted}
use Rattle.group_contents.specs.declared.opening.OpenFile.{OpenFile}

-- ---- calls one after another

pub reads_more : {m : MountedGroup} {s t u : BayState} → ReadsGroup m s t → ReadsGroup m t u → ReadsGroup m s u
reads_more {m} {s} {t} {u} first second = record {
  attached = attached-trans first.attached second.attached;
  runs = goes_on same-trans first.runs (stops first.runs) second.runs;
  ready = second.ready;
}

-- no call
pub none_read : (m : MountedGroup) (s : BayState) → Runs (IsOwn m) Same s s
none_read m s = started same-refl

pub stays_itself : (m : MountedGroup) (s : BayState) → KeepsMounted m s s
stays_itself m s = λ n g kept mounts. mounts

pub mounted_more : (m : MountedGroup) (s t u : BayState) → KeepsMounted m s t → KeepsMounted m t u → KeepsMounted m s u
mounted_more m s t u first second = λ n g kept mounts. second n g kept (first n g kept mounts)

-- ---- bytes

-- the first n of these bytes agree with the file's known cells from byte `at` on
abbrev pub ShowsFirst : OpenFile → ℕ → ℕ → Bytes → Group → Type 0
ShowsFirst opened at n bytes g =
    (file : File) → maps.get g.files opened.file ≡ Some file → file.stripe ≡ opened.stripe → (k b : ℕ) → k < n → get_or file.cells (at + k) Free ≡ Known b → slice_index bytes k ≡ b

pub shows_none : (m : MountedGroup) (s t : BayState) (opened : OpenFile) (at : ℕ) (bytes : Bytes) → WhereMounted m s t (ShowsFirst opened at 0 bytes)
shows_none m s t opened at bytes = λ n g kept mounts image holds file is stripe k b lt cell. absurd (omega (arith, lt))

-- where a piece is put behind the bytes before it
pub kept_before : (old piece tail : Bytes) (done k : ℕ) → done ≤ length old → k < done → slice_index (take done old ++ (piece ++ tail)) k ≡ slice_index old k
kept_before old piece tail done k within low =
    get_or_append_left (take done old) (piece ++ tail) 0 k (omega (arith, low, length-take-le done old within)) ∙ get_or-take done old k 0 low

pub put_behind : (old piece tail : Bytes) (done k : ℕ) → done ≤ length old → k < length piece → slice_index (take done old ++ (piece ++ tail)) (done + k) ≡ slice_index piece k
put_behind old piece tail done k within low =
    ap (λ (n : ℕ). slice_index (take done old ++ (piece ++ tail)) (n + k)) (sym (length-take-le done old within))
    ∙ get_or-append-add (take done old) (piece ++ tail) k 0 ∙ get_or_append_left piece tail 0 k low

-- the first piece, as the group's shape has it
pub first_step : (a b : Shape) (l : Layout) (stripe : Stripe) (f at len n : ℕ) (p : Piece) → a ≡ b → l.stripe ≡ stripe → IsOfShape l b → (IsOfShape l a → IsFirstPiece a l.stripe f at len p) → n ≡ p.len
    → IsStep b stripe f at len (piece_of p.x p.inner n)
first_step a b l stripe f at len n p same stripes of first size =
    let here = subst (λ (s : Shape). IsFirstPiece s l.stripe f at len p) same (first (subst (λ (s : Shape). IsOfShape l s) (sym same) of)) in
    let lies = subst (λ (z : Stripe). IsFirstPiece b z f at len p) stripes here in
    subst (λ (k : ℕ). IsStep b stripe f at len (piece_of p.x p.inner k)) (sym size) lies

-- the piece that is read behind them
shows_piece : (g : Group) (opened : OpenFile) (at done from rest : ℕ) (x : Span) (old new piece : Bytes) → from ≡ at + done → IsStep g.shape opened.stripe opened.file from rest x → AgreesIn g x piece
    → ((k : ℕ) → k < done → slice_index new k ≡ slice_index old k) → ((k : ℕ) → k < x.len → slice_index new (done + k) ≡ slice_index piece k) → ShowsFirst opened at done old g
    → ShowsFirst opened at (done + x.len) new g
shows_piece g opened at done from rest x old new piece place step agrees before behind shown = λ file is stripe k b lt cell. ⊎_elim
    (λ (low : k < done). before k low ∙ shown file is stripe k b low cell)
    (λ (high : done ≤ k).
    let j : ℕ = k - done in
    let small : j < x.len = omega (arith, lt, high) in
    let back : done + j ≡ k = omega (arith, high) in
    let byte : from + j ≡ at + k = omega (arith, place, high) in
    let here : maps.get g.files x.file ≡ Some file = ap (λ (f : ℕ). maps.get g.files f) step.file ∙ is in
    let lies : LiesIn g.shape file.stripe (at + k) x.index (x.from + j) =
    subst (λ (o : ℕ). LiesIn g.shape file.stripe o x.index (x.from + j)) byte
    (subst (λ (z : Stripe). LiesIn g.shape z (from + j) x.index (x.from + j)) (sym stripe) (step.lies j small)) in
    let inner : x.from + j - x.from ≡ j = omega arith in
    ap (λ (o : ℕ). slice_index new o) (sym back) ∙ behind j small ∙ ap (λ (o : ℕ). slice_index piece o) (sym inner)
    ∙ agrees file (at + k) b (x.from + j) here cell lies (omega arith) (omega (arith, small)))
    (cases_lt k done)

pub shows_more : (m : MountedGroup) (s t u : BayState) (opened : OpenFile) (at done from rest : ℕ) (x : Span) (old new piece : Bytes) → ReadsGroup m t u → KeepsMounted m s t
    → from ≡ at + done → IsStep m.catalog.shape opened.stripe opened.file from rest x
    → ((k : ℕ) → k < done → slice_index new k ≡ slice_index old k) → ((k : ℕ) → k < x.len → slice_index new (done + k) ≡ slice_index piece k)
    → WhereMounted m s t (ShowsFirst opened at done old) → WhereMounted m t u (λ g. AgreesIn g x piece) → WhereMounted m s u (ShowsFirst opened at (done + x.len) new)
shows_more m s t u opened at done from rest x old new piece reads stays place step before behind shown agrees = λ n g kept mounts image holds.
    let was = reads.runs.held image holds in
    let same : m.catalog.shape ≡ g.shape = sym mounts.represents.shape in
    let first = subst (λ (z : Shape). IsStep z opened.stripe opened.file from rest x) same step in
    shows_piece g opened at done from rest x old new piece place first (agrees n g kept (stays n g kept mounts) image holds) before behind (shown n g kept mounts was.0 was.1)

-- all of them
shows_whole : (g : Group) (opened : OpenFile) (at n : ℕ) (bytes : Bytes) → length bytes ≤ n → ShowsFirst opened at n bytes g → ShowsFile g opened at bytes
shows_whole g opened at n bytes whole shown = λ file is stripe le.
    let len = length bytes in
    let size : length (take len (drop at file.cells)) ≡ len = length-take-le len (drop at file.cells) (omega (arith, length-drop at file.cells, le)) in
    agrees_by (take len (drop at file.cells)) bytes size (λ k b lt cell.
    shown file is stripe k b (omega (arith, lt, whole)) (sym (get_or-drop at file.cells k Free) ∙ sym (get_or-take len (drop at file.cells) k Free lt) ∙ cell))

pub shows_all : (m : MountedGroup) (s t : BayState) (opened : OpenFile) (at n : ℕ) (bytes : Bytes) → length bytes ≤ n → WhereMounted m s t (ShowsFirst opened at n bytes)
    → WhereMounted m s t (λ g. ShowsFile g opened at bytes)
shows_all m s t opened at n bytes whole shown = λ slots g kept mounts image holds. shows_whole g opened at n bytes whole (shown slots g kept mounts image holds)
