-- What plans make of a group that the catalog's tables describe.
use Rattle.std.proofs.Common.{◌≡◌, ℕ, Bool, cond, eqb, List, length, Ok, refl, sym, ap, subst, ◌∙◌}
use Rattle.std.specs.Prelude.{Result}
use Rattle.std.specs.FinMap as maps
use Rattle.std.proofs.lemmas.Bool.{eq-eqb, ne_eqb}
use Rattle.asm_group.specs.Refusal as r
use Rattle.asm_group.specs.Shape.{Shape}
use Rattle.asm_group.specs.Group.{Cell, File, Group}
use Rattle.asm_formats.specs.Items.{Item, Key}
use Rattle.asm_formats.specs.Status.{Status}
use Rattle.asm_base.specs.Records.{DirectoryRecord}
use Rattle.asm_base.proofs.Exact.{some_is}
use Rattle.asm_world.specs.Edits as world
use Rattle.asm_world.specs.Files as bytes
use Rattle.asm_world.specs.Settings as settings
use Rattle.catalog_laws.specs.allocator.UnitMaps.{UnitMap}
use Rattle.catalog_laws.specs.catalog.FilePlans.{with_removal_pending, tables_with_size, with_size}
use Rattle.catalog_laws.specs.catalog_tables.Items.{AreItemsOf}
use Rattle.catalog_laws.specs.catalog.NamePlans.{made_file, tables_with_name}
use Rattle.catalog_laws.specs.catalog_tables.Placing.{HasUnits}
use Rattle.catalog_laws.specs.catalog.Plans.{IsPlan}
use Rattle.catalog_laws.specs.catalog_tables.Rules.{KeepsRules}
use Rattle.catalog_laws.specs.catalog_tables.Tables.{Catalogued, Tables}
use Rattle.catalog_laws.proofs.HavingItems.{have_items}
use Rattle.group_of.specs.Groups.{AreCellsButFor, HasCells, cells_of, file_of_head, files_by_number, group_of}
use Rattle.group_of.specs.Describing.{DescribedIsOfCatalog, HaveGroup, IsDescribed, KeepsPlaces}
use Rattle.group_of.specs.Edits.{AttributeLeadsOn, LeadsOn, TemplateEditLeadsOn, TreeEditLeadsOn, attribute_meant, with_settings, with_templates, with_tree}
use Rattle.group_of.specs.Files.{NewNameLeadsOn, RemovalLeadsOn, SizeLeadsOn, head_planned}
use Rattle.group_of.proofs.Describes.{described_has_cells, described_is_of_tables, next_describe}
use Rattle.group_of.proofs.EditedGroups.{attribute_is_worlds, files_stay, templates_are_worlds, tree_is_worlds, tree_keeps_cells}
use Rattle.group_of.proofs.HeadedFiles as files
use Rattle.group_of.proofs.NewFiles.{new_name_is_worlds, put_has_cells, size_is_worlds}
use Rattle.group_of.proofs.Removals.{removal_is_worlds, removal_keeps_cells}

-- the cells with others of one file
cells_with : (ℕ → List Cell) → ℕ → List Cell → ℕ → List Cell
cells_with old f new k = cond (eqb k f) new (old k)

at_file : (old : ℕ → List Cell) (f : ℕ) (new : List Cell) → cells_with old f new f ≡ new
unfolding cells_with
at_file old f new = ap (λ (b : Bool). cond b new (old f)) (eq-eqb f f refl)

but_for : (old : ℕ → List Cell) (f : ℕ) (new : List Cell) → AreCellsButFor f old (cells_with old f new)
unfolding cells_with
but_for old f new k other = ap (λ (b : Bool). cond b new (old k)) (ne_eqb k f other)

module _ (s : Status) (c : Catalogued) (g : Group) (d : IsDescribed s c g) where
  has_items : (items : List Item) × AreItemsOf c.tables items
  has_items = have_items c.tables d.tables

  of_tables : g ≡ group_of g.name g.shape c.tables (cells_of g)
  of_tables = described_is_of_tables s has_items.0 c.tables g d.tables has_items.1 (d.describes has_items.0 has_items.1)

  -- the same, of the catalog's shape
  of_catalog : g ≡ group_of g.name c.shape c.tables (cells_of g)
  of_catalog = of_tables ∙ ap (λ (shape : Shape). group_of g.name shape c.tables (cells_of g)) d.shape

  has_cells : HasCells c.tables (cells_of g)
  has_cells = described_has_cells s has_items.0 c.tables g d.tables has_items.1 (d.describes has_items.0 has_items.1)

  files_are : files_by_number (cells_of g) c.tables.files ≡ g.files
  unfolding group_of
  files_are = ap (λ (h : Group). h.files) (sym of_tables)

  -- tables to which a plan leads that leaves extents and disks
  module _ (put : List DirectoryRecord) (gone : List Key) (u : Tables) (p : IsPlan c put gone u) (extents : u.extents ≡ c.tables.extents) (disks : u.disks ≡ c.tables.disks) (cells : ℕ → List Cell) (has : HasCells u cells) where
    next_tables : KeepsPlaces s g.shape c.tables u
    next_tables = record {
      rules = subst (λ (shape : Shape). KeepsRules shape u) (sym d.shape) p.rules;
      units = subst (λ (shape : Shape). (ms : List UnitMap) × HasUnits shape s.entries u ms) (sym d.shape) (p.units s.entries d.units);
      extents = extents;
      disks = disks;
    }

    have_group : HaveGroup s u (group_of g.name g.shape u cells)
    have_group = next_describe s c.tables u g cells d.tables d.describes next_tables has

    -- the same, of the catalog's shape
    have_planned : (h : Group) → group_of g.name c.shape u cells ≡ h → HaveGroup s u h
    have_planned h is = subst (λ (k : Group). HaveGroup s u k) (ap (λ (shape : Shape). group_of g.name shape u cells) d.shape ∙ is) have_group

    leads_on : files_by_number cells u.files ≡ g.files → (answer : Result Group r.Refusal) → answer ≡ Ok (group_of g.name c.shape u cells) → LeadsOn s u g answer
    unfolding group_of
    leads_on files answer is = record {
      group = group_of g.name g.shape u cells;
      is = is ∙ ap (λ (shape : Shape). Ok (group_of g.name shape u cells)) (sym d.shape);
      name = refl;
      shape = refl;
      files = files;
      describes = have_group;
    }

pub described_is_of_catalog : DescribedIsOfCatalog
described_is_of_catalog s c g d = of_catalog s c g d

-- ---- names, templates and attributes

pub tree_leads_on : TreeEditLeadsOn
tree_leads_on s c g edit put gone d p =
    leads_on s c g d put gone (with_tree c.tables edit p.nodes) p.plan refl refl (cells_of g) (tree_keeps_cells c.tables edit p.nodes (cells_of g) (has_cells s c g d))
    (sym (files_stay c.tables edit p.nodes (cells_of g)) ∙ files_are s c g d) (world.edited_group g edit)
    (ap (λ (h : Group). world.edited_group h edit) (of_catalog s c g d) ∙ tree_is_worlds g.name c edit put gone (cells_of g) p)

pub template_leads_on : TemplateEditLeadsOn
template_leads_on s c g edit put gone d p =
    leads_on s c g d put gone (with_templates c.tables p.templates) p.plan refl refl (cells_of g) (has_cells s c g d) (files_are s c g d) (settings.group_after_template_edit g edit)
    (ap (λ (h : Group). settings.group_after_template_edit h edit) (of_catalog s c g d) ∙ templates_are_worlds g.name c edit put gone (cells_of g) p)

pub attribute_leads_on : AttributeLeadsOn
attribute_leads_on s c g attribute value put gone d p =
    leads_on s c g d put gone (with_settings c.tables p.settings) p.plan refl refl (cells_of g) (has_cells s c g d) (files_are s c g d) (settings.attribute_set g (attribute_meant attribute value))
    (ap (λ (h : Group). settings.attribute_set h (attribute_meant attribute value)) (of_catalog s c g d) ∙ attribute_is_worlds g.name c attribute value put gone (cells_of g) p)

-- ---- files

pub removal_leads_on : RemovalLeadsOn
removal_leads_on s c g f put gone d rules p owned =
    let plan = p.plan owned in
    have_planned s c g d put gone (with_removal_pending c.tables f p.head) plan refl refl (cells_of g) (removal_keeps_cells c.shape c.tables f p.head (cells_of g) rules (has_cells s c g d)) (world.group_without_file g f)
    (removal_is_worlds g.name c.shape c.tables f p.head (cells_of g) rules p.file plan.rules ∙ ap (λ (h : Group). world.group_without_file h f) (sym (of_catalog s c g d)))

pub size_leads_on : SizeLeadsOn
size_leads_on s c g f size put gone file cells d p owned at long =
    let new = cells_with (cells_of g) f cells in
    let u = tables_with_size c.tables f p.head size p.pending in
    let there = at_file (cells_of g) f cells in
    let others = but_for (cells_of g) f cells in
    let has = put_has_cells c.tables (tables_with_size c.tables f p.head size p.pending) f (with_size p.head size) (cells_of g) (cells_with (cells_of g) f cells) refl others (ap length there ∙ long) (has_cells s c g d) in
    have_planned s c g d put gone (tables_with_size c.tables f p.head size p.pending) (p.plan owned) refl refl (cells_with (cells_of g) f cells) has (bytes.with_file_cells g f file cells)
    (size_is_worlds g.name c.shape c.tables f size p.head p.pending (cells_of g) (cells_with (cells_of g) f cells) p.file others
    ∙ ap (λ (h : Group). bytes.with_file_cells h f (file_of_head p.head (cells_of g f)) (cells_with (cells_of g) f cells f)) (sym (of_catalog s c g d))
    ∙ ap (λ (xs : List Cell). bytes.with_file_cells g f (file_of_head p.head (cells_of g f)) xs) there
    ∙ ap (λ (x : File). bytes.with_file_cells g f x cells) is_file)
  where
    is_file : file_of_head p.head (cells_of g f) ≡ file
    is_file = some_is (file_of_head p.head (cells_of g f)) file
        (sym (ap (files.file_at (cells_of g) f) p.file) ∙ sym (files.files_are (cells_of g) c.tables.files f)
        ∙ ap (λ (m : _). maps.get m f) (files_are s c g d) ∙ at)

pub new_name_leads_on : NewNameLeadsOn
new_name_leads_on s c g path size copies stripe put gone cells d p long =
    let there = at_file (cells_of g) (made_file c.tables) cells in
    let others = but_for (cells_of g) (made_file c.tables) cells in
    let new = cells_with (cells_of g) (made_file c.tables) cells in
    let u = tables_with_name c.tables (made_file c.tables) (head_planned p) p.made in
    let has = put_has_cells c.tables u (made_file c.tables) (head_planned p) (cells_of g) new refl others (ap length there ∙ long) (has_cells s c g d) in
    have_planned s c g d put gone u p.plan refl refl new has (bytes.group_with_file g p.name (made_file c.tables) (file_of_head (head_planned p) cells))
    (new_name_is_worlds g.name c path size copies stripe put gone (cells_of g) new p others
    ∙ ap (λ (h : Group). bytes.group_with_file h p.name (made_file c.tables) (file_of_head (head_planned p) (new (made_file c.tables)))) (sym (of_catalog s c g d))
    ∙ ap (λ (xs : List Cell). bytes.group_with_file g p.name (made_file c.tables) (file_of_head (head_planned p) xs)) there)
