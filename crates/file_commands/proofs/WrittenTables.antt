-- The world's group in whose file bytes are put, by the tables.
use Rattle.std.proofs.Common.{◌≡◌, ⊎_elim, ℕ, ◌+◌, ◌≤◌, ◌==◌, Bool, cond, List, length, Option, Some, None, Ok, refl, sym, ◌∙◌, ap, subst, arith, if◌then◌else◌, IsTrue}
use Rattle.std.specs.Prelude.{replicate}
use Rattle.std.specs.FinMap as maps
use Rattle.std.specs.Option.{option_map}
use Rattle.std.specs.Cmp.{unsigned_tied}
use Rattle.std.proofs.lemmas.Bool.{cases_eq, eq-eqb, ne_eqb}
use Rattle.std.proofs.lemmas.Cmp.{nat_cmp_total}
use Rattle.std.proofs.lemmas.List.{length-append, length-drop, length-map, length-replicate, length-take}
use Rattle.asm_group.specs.Causes.{first_cause, unless_refused}
use Rattle.asm_group.specs.Group.{Cell, File, Free, Group}
use Rattle.asm_group.specs.Names.{Bytes, Path}
use Rattle.asm_group.specs.Refusal as r
use Rattle.asm_group.specs.Shape.{Shape, is_shape}
use Rattle.asm_formats.specs.Items.{FileHead}
use Rattle.asm_world.specs.Edits as e
use Rattle.asm_world.specs.Files as f
use Rattle.asm_world.specs.Numbers as code
use Rattle.file_directory.specs.Files as heads
use Rattle.file_directory.specs.Files.{head_at}
use Rattle.catalog_tables.specs.Tables.{AreTables, Tables}
use Rattle.session.specs.group_engine.Mounts.{MountedGroup}
use Rattle.report_laws.specs.group_of.Describing.{KeepsNames}
use Rattle.report_laws.specs.group_of.Groups.{AreCellsButFor, HasCells, file_of_head, files_by_number, group_of}
use Rattle.report_laws.proofs.group_of.EditedGroups.{names_are_group, same_files}
use Rattle.report_laws.proofs.group_of.HeadedFiles.{file_at, files_are}
use Rattle.session.specs.piece_laws.FileSpans.{freed_to, written_to}
use Rattle.session.specs.group_contents.Files.{IsOpened, IsSpan}
use Rattle.session.specs.group_contents.Writing.{HasSpan}
use Rattle.session.specs.group_contents.declared.opening.OpenFile.{OpenFile}
use Rattle.session.specs.Sessions.{IsToldBy}
use Rattle.file_commands.proofs.Named as named
use Rattle.file_commands.proofs.SpanCauses as spans

-- ---- cells

-- the cells of files, with others in the place of those of file f
abbrev pub cells_but : ℕ → List Cell → (ℕ → List Cell) → ℕ → List Cell
cells_but f other cells k = if k == f then other else cells k

at_itself : (f : ℕ) (other : List Cell) (cells : ℕ → List Cell) → cells_but f other cells f ≡ other
at_itself f other cells = ap (λ (b : Bool). if b then other else cells f) (eq-eqb f f refl)

at_others : (f : ℕ) (other : List Cell) (cells : ℕ → List Cell) → AreCellsButFor f cells (cells_but f other cells)
at_others f other cells k apart = ap (λ (b : Bool). if b then other else cells k) (ne_eqb k f apart)

put_cells : (fs : List heads.NumberedFile) (f : ℕ) (head : FileHead) (other : List Cell) (cells : ℕ → List Cell) → head_at fs f ≡ Some head
    → files_by_number (cells_but f other cells) fs ≡ maps.insert (files_by_number cells fs) f (file_of_head head other)
put_cells fs f head other cells at = same_files (files_by_number (cells_but f other cells) fs) (maps.insert (files_by_number cells fs) f (file_of_head head other)) (λ k.
    files_are (cells_but f other cells) fs k ∙ by k
    ∙ sym (maps.get-insert nat_cmp_total (files_by_number cells fs) f (file_of_head head other) k
    ∙ ap (λ (b : Bool). cond b (Some (file_of_head head other)) (maps.get (files_by_number cells fs) k)) (unsigned_tied k f)))
  where
    by : (k : ℕ) → file_at (cells_but f other cells) k (head_at fs k) ≡ cond (k == f) (Some (file_of_head head other)) (maps.get (files_by_number cells fs) k)
    by k = ⊎_elim
        (λ (same : k ≡ f).
        ap (λ (n : ℕ). file_at (cells_but f other cells) n (head_at fs n)) same
        ∙ ap (λ (o : Option FileHead). file_at (cells_but f other cells) f o) at
        ∙ ap (λ (l : List Cell). Some (file_of_head head l)) (at_itself f other cells)
        ∙ sym (ap (λ (b : Bool). cond b (Some (file_of_head head other)) (maps.get (files_by_number cells fs) k)) (eq-eqb k f same)))
        (λ (apart : k ≡ f → ⊥).
        ap (λ (l : List Cell). option_map (λ (h : FileHead). file_of_head h l) (head_at fs k)) (at_others f other cells k apart)
        ∙ sym (files_are cells fs k)
        ∙ sym (ap (λ (b : Bool). cond b (Some (file_of_head head other)) (maps.get (files_by_number cells fs) k)) (ne_eqb k f apart)))
        (cases_eq k f)

has_but : (t : Tables) (f : ℕ) (other : List Cell) (cells : ℕ → List Cell) → HasCells t cells → length other ≡ length (cells f) → HasCells t (cells_but f other cells)
has_but t f other cells has long k h e = ⊎_elim
    (λ (same : k ≡ f).
    ap (λ (n : ℕ). length (cells_but f other cells n)) same ∙ ap (λ (l : List Cell). length l) (at_itself f other cells) ∙ long
    ∙ ap (λ (n : ℕ). length (cells n)) (sym same) ∙ has k h e)
    (λ (apart : k ≡ f → ⊥). ap (λ (l : List Cell). length l) (at_others f other cells k apart) ∙ has k h e)
    (cases_eq k f)

with_cells_long : (cells : List Cell) (at : ℕ) (others : List Cell) → at + length others ≤ length cells → length (f.with_cells cells at others) ≡ length cells
with_cells_long cells at others le = simp (length-append, length-take, length-drop) (omega arith)

-- the group of the tables in whose file other cells are put
put_in_group : (name : Bytes) (s : Shape) (t : Tables) (cells : ℕ → List Cell) (n : ℕ) (head : FileHead) (other : List Cell) → head_at t.files n ≡ Some head
    → f.with_file_cells (group_of name s t cells) n (file_of_head head (cells n)) other ≡ group_of name s t (cells_but n other cells)
unfolding group_of
put_in_group name s t cells n head other at =
    let same = put_cells t.files n head other cells at in
    λ i. record (group_of name s t cells) { files = sym same i }

-- ---- the world's write

by_file : (g : Group) (path : Path) (at n : ℕ) (file : File) (cells : List Cell) → e.group_file_at g path ≡ Some n → f.named_file g path ≡ Some file
    → f.with_cells_at g path (λ old. f.with_cells old at cells) ≡ f.with_file_cells g n file (f.with_cells file.cells at cells)
by_file g path at n file cells number there =
    ap (λ (o : Option File). f.with_cells_of g (e.group_file_at g path) o (λ old. f.with_cells old at cells)) there
    ∙ ap (λ (o : Option ℕ). f.with_cells_of g o (Some file) (λ old. f.with_cells old at cells)) number

untested : (g : Group) (path : Path) (at n len : ℕ) (file : File) (cells : List Cell) → e.group_file_at g path ≡ Some n → f.named_file g path ≡ Some file → length cells ≡ len
    → first_cause (f.span_causes g path at len) ≡ None → f.group_after_write g path at cells ≡ Ok (f.with_file_cells g n file (f.with_cells file.cells at cells))
untested g path at n len file cells number there long none =
    ap (λ (k : ℕ). unless_refused (first_cause (f.span_causes g path at k)) (f.with_cells_at g path (λ old. f.with_cells old at cells))) long
    ∙ ap (λ (o : Option r.Refusal). unless_refused o (f.with_cells_at g path (λ old. f.with_cells old at cells))) none
    ∙ ap (λ (h : Group). Ok h) (by_file g path at n file cells number there)

-- ---- a span of an open file of a mounted group

module _ (m : MountedGroup) (shape : IsTrue (is_shape m.catalog.shape)) (tables : AreTables m.catalog.tables) (g : Group) (told : IsToldBy m g) (path : Path) (at : ℕ) (bytes : Bytes)
    (file : OpenFile) (opened : IsOpened m.catalog.tables path file) (span : IsSpan m at (length bytes) file) where
  abbrev of_tables : Group
  of_tables = group_of m.name m.catalog.shape m.catalog.tables told.cells

  abbrev pub the_file : File
  the_file = named.the_file m.name m.catalog.shape m.catalog.tables told.cells path tables file opened

  size_is : length the_file.cells ≡ file.size
  size_is = named.has_size m.name m.catalog.shape m.catalog.tables told.cells path tables file opened told.has

  within : at + length bytes ≤ length the_file.cells
  within = omega (arith, size_is, span.within)

  pub has_span : HasSpan g file at (length bytes) the_file
  has_span = record {
    is_file = subst (λ (h : Group). maps.get h.files file.file ≡ Some the_file) (sym told.is) (named.has_file m.name m.catalog.shape m.catalog.tables told.cells path tables file opened);
    stripe = sym opened.stripe;
    within = within;
  }

  abbrev pub h : Group
  h = written_to g file.file the_file at bytes

  abbrev pub free : Group
  free = freed_to g file.file the_file at (length bytes)

  -- the world's write of so many cells
  put_so : (cells : List Cell) → length cells ≡ length bytes → f.group_after_write g path at cells ≡ Ok (f.with_file_cells g file.file the_file (f.with_cells the_file.cells at cells))
  put_so cells long = subst (λ (x : Group). f.group_after_write x path at cells ≡ Ok (f.with_file_cells x file.file the_file (f.with_cells the_file.cells at cells))) (sym told.is)
      (untested of_tables path at file.file (length bytes) the_file cells (named.number m.name m.catalog.shape m.catalog.tables told.cells path tables file opened)
      (named.there m.name m.catalog.shape m.catalog.tables told.cells path tables file opened) long
      (spans.untested code.write_fault m shape tables m.name told.cells path at (length bytes) file opened told.has span))

  pub written_is : f.group_after_write g path at (f.known bytes) ≡ Ok h
  written_is = put_so (f.known bytes) (length-map bytes _)

  pub freed_is : f.group_after_write g path at (replicate (length bytes) Free) ≡ Ok free
  freed_is = put_so (replicate (length bytes) Free) (length-replicate (length bytes) Free)

  -- a group in whose file so many cells are put is told by tables with the same names
  module _ (cells : List Cell) (long : length cells ≡ length bytes) (new : MountedGroup) (name_is : new.name ≡ m.name) (shape_is : new.catalog.shape ≡ m.catalog.shape)
      (names : KeepsNames m.catalog.tables new.catalog.tables) where
    abbrev put : List Cell
    put = f.with_cells the_file.cells at cells

    long_put : length put ≡ length the_file.cells
    long_put = with_cells_long the_file.cells at cells (omega (arith, long, within))

    there_has : HasCells m.catalog.tables (cells_but file.file put told.cells)
    there_has = has_but m.catalog.tables file.file put told.cells told.has long_put

    group_is : f.with_file_cells g file.file the_file put ≡ group_of new.name new.catalog.shape new.catalog.tables (cells_but file.file put told.cells)
    unfolding group_of
    group_is =
        ap (λ (x : Group). f.with_file_cells x file.file the_file put) told.is
        ∙ put_in_group m.name m.catalog.shape m.catalog.tables told.cells file.file opened.head put opened.at
        ∙ sym (names_are_group m.name m.catalog.shape m.catalog.tables new.catalog.tables (cells_but file.file put told.cells) names)
        ∙ ap (λ (n : Bytes). group_of n m.catalog.shape new.catalog.tables (cells_but file.file put told.cells)) (sym name_is)
        ∙ ap (λ (s : Shape). group_of new.name s new.catalog.tables (cells_but file.file put told.cells)) (sym shape_is)

    pub told_so : IsToldBy new (f.with_file_cells g file.file the_file put)
    told_so = record {
      cells = cells_but file.file put told.cells;
      has = λ k head at_k. there_has k head (ap (λ (fs : List heads.NumberedFile). head_at fs k) (sym names.files) ∙ at_k);
      is = group_is;
    }

  pub told_written : (new : MountedGroup) → new.name ≡ m.name → new.catalog.shape ≡ m.catalog.shape → KeepsNames m.catalog.tables new.catalog.tables → IsToldBy new h
  told_written new name shapes names = told_so (f.known bytes) (length-map bytes _) new name shapes names

  pub told_freed : (new : MountedGroup) → new.name ≡ m.name → new.catalog.shape ≡ m.catalog.shape → KeepsNames m.catalog.tables new.catalog.tables → IsToldBy new free
  told_freed new name shapes names = told_so (replicate (length bytes) Free) (length-replicate (length bytes) Free) new name shapes names
