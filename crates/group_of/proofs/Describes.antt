-- Field by field: the record and the items describe the group of the tables.
use Rattle.std.proofs.Common.{◌≡◌, ℕ, Bool, true, false, cond, List, [], ◌∷◌, length, Option, Some, None, refl, sym, ap, subst, ◌∙◌, arith}
use Rattle.std.specs.Prelude.{not, find}
use Rattle.std.specs.FinMap as maps
use Rattle.std.specs.List.{list_all}
use Rattle.std.specs.Option.{option_map}
use Rattle.std.proofs.lemmas.Bool.{and_from}
use Rattle.std.proofs.lemmas.Option.{none-some}
use Rattle.asm_group.specs.Group.{Cell, File, Group}
use Rattle.asm_group.specs.Names.{Bytes}
use Rattle.asm_group.specs.NewGroup.{templates_by_name}
use Rattle.asm_group.specs.Shape.{Shape}
use Rattle.asm_formats.specs.Items.{FileHead, Item, Settings}
use Rattle.asm_formats.specs.Status as status
use Rattle.asm_formats.specs.Status.{Status}
use Rattle.asm_placement.specs.Partners.{HasPartners}
use Rattle.asm_placement.specs.Naming.{is_birth}
use Rattle.asm_placement.specs.Placed.{places_fit}
use Rattle.asm_base.proofs.Exact.{some_is}
use Rattle.asm_images.specs.Describing.{AreRegular, DescribesGroup, SameFile, has_info_in_items}
use Rattle.catalog_laws.specs.file_directory.Files as heads
use Rattle.catalog_laws.specs.file_directory.Files.{head_at}
use Rattle.catalog_laws.specs.alias_tree.Trees.{tree_of}
use Rattle.catalog_laws.proofs.alias_edits.Growing as trees
use Rattle.catalog_laws.specs.disk_directory.Disks.{Disk, info_at}
use Rattle.catalog_laws.specs.catalog_tables.Tables.{AreTables, Tables}
use Rattle.catalog_laws.specs.catalog_tables.Rules as rules
use Rattle.catalog_laws.specs.catalog_tables.Rules.{KeepsRules}
use Rattle.catalog_laws.specs.catalog_tables.Items.{AreItemsOf}
use Rattle.catalog_laws.proofs.RegularHomes.{homes_are_regular}
use Rattle.catalog_laws.proofs.catalog_tables.TableItems.{items_of_records}
use Rattle.catalog_laws.proofs.ItemLaws.{heads_are}
use Rattle.catalog_laws.proofs.HavingItems.{have_items}
use Rattle.group_of.specs.Groups.{HasCells, cells_in_file, cells_of, files_by_number, group_of}
use Rattle.group_of.specs.Describing.{CatalogDescribes, DescribedHasCells, DescribedIsOfTables, KeepsNames, KeepsPlaces, NextTablesDescribe, StandUnder, SurplusDescribes, TablesDescribe}
use Rattle.catalog_laws.specs.extent_map.Extents.{Chunked}
use Rattle.group_of.proofs.Says.{infos_are, settings_are, templates_are}
use Rattle.group_of.proofs.EditedGroups as edits
use Rattle.group_of.proofs.EditedGroups.{names_are_group}
use Rattle.group_of.proofs.HeadedFiles.{file_at, files_are, head_is, same_files}
use Rattle.group_of.proofs.Extents.{all_copies, home_by, home_in, marks, no_gap, owned, redundancy}
use Rattle.group_of.proofs.Stale.{marks_are_of_homes}
use Rattle.group_of.proofs.Counts.{few_items}
use Rattle.group_of.proofs.Places.{places}
use Rattle.group_of.proofs.Trees.{same_tree, tree_rules}

-- where none is found that fails, all pass
none_fails : (p : status.Entry → Bool) (es : List status.Entry) → option_map (λ (e : status.Entry). e.number) (find (λ e. not (p e)) es) ≡ None → list_all p es ≡ true
none_fails p [] none = refl
none_fails p (e ∷ es) none = by (p e) refl none (none_fails p es) where
  by : (b : Bool) → p e ≡ b → option_map (λ (x : status.Entry). x.number) (cond (not b) (Some e) (find (λ x. not (p x)) es)) ≡ None
      → (option_map (λ (x : status.Entry). x.number) (find (λ x. not (p x)) es) ≡ None → list_all p es ≡ true) → list_all p (e ∷ es) ≡ true
  by true is none rest = and_from (p e) (list_all p es) is (rest none)
  by false is none rest = absurd (none-some e.number (sym none))

same_all : (p q : status.Entry → Bool) (es : List status.Entry) → ((e : status.Entry) → p e ≡ q e) → list_all p es ≡ list_all q es
same_all p q [] same = refl
same_all p q (e ∷ es) same = rw (same e, same_all p q es same) refl

info_same : (t : Tables) (items : List Item) → AreItemsOf t items → (e : status.Entry) → has_info_in_items items e ≡ rules.has_info t e
info_same t items is e = ap (is_birth e.birth) (infos_are t items is e.number)

infos_same : (t : Tables) (items : List Item) (es : List status.Entry) → AreItemsOf t items → list_all (has_info_in_items items) es ≡ list_all (rules.has_info t) es
infos_same t items es is = same_all (has_info_in_items items) (rules.has_info t) es (info_same t items is)

-- what is left of the record's entries
record SuitEntries (r : Status) (items : List Item) (s : Shape) : Type 0 where
  fit : places_fit s r.entries items ≡ true
  infos : list_all (has_info_in_items items) r.entries ≡ true
  regular : AreRegular r.entries items
  partners : HasPartners r.entries

described : (r : Status) (items : List Item) (name : Bytes) (s : Shape) (t : Tables) (cells : ℕ → List Cell) → KeepsRules s t → AreItemsOf t items → SuitEntries r items s → HasCells t cells
    → DescribesGroup r items (group_of name s t cells)
unfolding group_of
described r items name s t cells k is suit has = record {
  tree = same_tree t items k.tables is;
  tree_rules = tree_rules s t items k is;
  files = same_files t items cells k.tables is has;
  extents = λ f i copy file at due lt. all_copies s t items k is cells f i copy file has at due lt;
  extent_rules = record { no_gap = no_gap s t items k is; redundancy = redundancy s t items k is; marks = marks s t items k is; stale = marks_are_of_homes s t items k is };
  owned = owned s t items k is cells;
  places = suit.fit;
  regular = suit.regular;
  templates = ap (option_map templates_by_name) (templates_are t items is);
  attributes = ap (option_map (λ (x : Settings). x.attributes)) (settings_are t items is);
  next = ap (option_map (λ (x : Settings). x.incarnation)) (settings_are t items is);
  disks = suit.infos;
  partners = suit.partners;
  room = omega (arith, few_items t items is, k.room);
}

pub describe : TablesDescribe
describe r items name s t cells stand is has = described r items name s t cells stand.rules is (record {
  fit = places s r.entries t items stand.units.0 stand.rules is stand.units.1;
  infos = infos_same t items r.entries is ∙ none_fails (rules.has_info t) r.entries stand.infos;
  regular = homes_are_regular r.entries t items stand.rules.tables is stand.regular;
  partners = stand.partners;
}) has

pub catalog_describes : CatalogDescribes
catalog_describes r content items name c cells k partners is has =
    describe r items name c.shape c.tables cells (record { rules = k.rules; units = (c.units, k.units); infos = k.infos; regular = k.regular; partners = partners })
    (items_of_records content c.tables items k.rules.tables k.records is) has

-- ---- a group that is described is that of the tables

module _ (r : Status) (items : List Item) (t : Tables) (g : Group) (a : AreTables t) (is : AreItemsOf t items) (d : DescribesGroup r items g) where
  tree_is : g.tree ≡ tree_of t.nodes
  tree_is = trees.same_tree g.tree (tree_of t.nodes) (λ path. d.tree path ∙ sym (same_tree t items a is path))

  same_by_head : (f : ℕ) → SameFile (head_at t.files f) (maps.get g.files f)
  same_by_head f = subst (λ (o : Option FileHead). SameFile o (maps.get g.files f)) (heads_are t items a is f) (d.files f)

  file_is : (f : ℕ) (o : Option FileHead) → head_at t.files f ≡ o → (p : Option File) → maps.get g.files f ≡ p → SameFile o p → p ≡ file_at (cells_of g) f o
  file_is f None at None of same = refl
  file_is f None at (Some file) of same = absurd same
  file_is f (Some head) at None of same = absurd (omega (arith, same, (head_is t f head a at).system))
  file_is f (Some head) at (Some file) of same =
      let cells : file.cells ≡ cells_of g f = ap cells_in_file (sym of) in
      let h = same.1 in
      λ i. Some (record { copies = sym h.0 i; stripe = sym h.1 i; type_name = sym h.2 i; incarnation = sym h.3 i; cells = cells i })

  files_same : g.files ≡ files_by_number (cells_of g) t.files
  files_same = edits.same_files g.files (files_by_number (cells_of g) t.files)
      (λ f. file_is f (head_at t.files f) refl (maps.get g.files f) refl (same_by_head f) ∙ sym (files_are (cells_of g) t.files f))

  has_cells : HasCells t (cells_of g)
  has_cells f head at = by (maps.get g.files f) refl (subst (λ (o : Option FileHead). SameFile o (maps.get g.files f)) at (same_by_head f)) where
    by : (p : Option File) → maps.get g.files f ≡ p → SameFile (Some head) p → length (cells_in_file (maps.get g.files f)) ≡ head.size
    by None of same = absurd (omega (arith, same, (head_is t f head a at).system))
    by (Some file) of same = ap (λ (o : Option File). length (cells_in_file o)) of ∙ sym same.1.4

  is_of_tables : g ≡ group_of g.name g.shape t (cells_of g)
  unfolding group_of
  is_of_tables =
      let tree = tree_is in
      let files = files_same in
      let templates = some_is g.templates (templates_by_name t.templates.templates) (sym d.templates ∙ ap (option_map templates_by_name) (templates_are t items is)) in
      let attributes = some_is g.attributes t.templates.settings.attributes (sym d.attributes ∙ ap (option_map (λ (x : Settings). x.attributes)) (settings_are t items is)) in
      let next = some_is g.next t.templates.settings.incarnation (sym d.next ∙ ap (option_map (λ (x : Settings). x.incarnation)) (settings_are t items is)) in
      λ i. record { name = g.name; shape = g.shape; tree = tree i; files = files i; templates = templates i; attributes = attributes i; next = next i }

  -- ---- the next tables

  module _ (u : Tables) (next : List Item) (in_next : AreItemsOf u next) where
    next_infos : u.disks ≡ t.disks → list_all (has_info_in_items next) r.entries ≡ true
    next_infos same =
        infos_same u next r.entries in_next ∙ ap (λ (ds : List Disk). list_all (λ (e : status.Entry). is_birth e.birth (info_at ds e.number)) r.entries) same
        ∙ sym (infos_same t items r.entries is) ∙ d.disks

    next_regular : AreTables u → u.extents ≡ t.extents → AreRegular r.entries next
    next_regular b same f i copy h at =
        d.regular f i copy h (home_by t items a is f i copy ∙ ap (λ (xs : List Chunked). home_in xs f i copy) (sym same) ∙ sym (home_by u next b in_next f i copy) ∙ at)

    next_described : (cells : ℕ → List Cell) → KeepsPlaces r g.shape t u → HasCells u cells → DescribesGroup r next (group_of g.name g.shape u cells)
    next_described cells n has = described r next g.name g.shape u cells n.rules in_next (record {
      fit = places g.shape r.entries u next n.units.0 n.rules in_next n.units.1;
      infos = next_infos n.disks;
      regular = next_regular n.rules.tables n.extents;
      partners = d.partners;
    }) has

    surplus : StandUnder r g.shape u → KeepsNames t u → DescribesGroup r next g
    surplus stand same =
        let cells : HasCells u (cells_of g) = λ f head at. has_cells f head (ap (λ (files : List heads.NumberedFile). head_at files f) (sym same.files) ∙ at) in
        subst (λ (h : Group). DescribesGroup r next h) (names_are_group g.name g.shape t u (cells_of g) same ∙ sym is_of_tables) (describe r next g.name g.shape u (cells_of g) stand in_next cells)

pub described_is_of_tables : DescribedIsOfTables
described_is_of_tables r items t g a is d = is_of_tables r items t g a is d

pub described_has_cells : DescribedHasCells
described_has_cells r items t g a is d = has_cells r items t g a is d

module _ (t : Tables) (a : AreTables t) where
  -- the tables' items, of which there are some
  has_items : (items : List Item) × AreItemsOf t items
  has_items = have_items t a

pub next_describe : NextTablesDescribe
next_describe r t u g cells a have n has next in_next =
    let i = has_items t a in
    next_described r i.0 t g a i.1 (have i.0 i.1) u next in_next cells n has

pub surplus_describes : SurplusDescribes
surplus_describes r t u g a have stand same next in_next =
    let i = has_items t a in
    surplus r i.0 t g a i.1 (have i.0 i.1) u next in_next stand same
