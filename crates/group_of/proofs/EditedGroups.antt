-- The world's edits, by the tables.
use Rattle.std.proofs.Common.{◌≡◌, ℕ, Bool, true, false, cond, List, Option, Some, None, Ok, Err, refl, sym, ap, ◌∙◌}
use Rattle.std.specs.Prelude.{Result}
use Rattle.std.specs.FinMap as maps
use Rattle.std.specs.Ordering.{nat_cmp}
use Rattle.std.specs.BTreeMap.{is_at}
use Rattle.std.specs.Option.{option_map}
use Rattle.std.proofs.lemmas.Cmp.{nat_cmp_total}
use Rattle.std.proofs.lemmas.Option.{none-some}
use Rattle.asm_group.specs.Causes.{unless_refused, first_cause}
use Rattle.asm_group.specs.Names.{Bytes, ByNumber}
use Rattle.asm_group.specs.NewGroup.{templates_by_name}
use Rattle.asm_group.specs.Refusal as r
use Rattle.asm_group.specs.Group.{Attributes, Cell, File, Group}
use Rattle.asm_group.specs.TemplateEdits as templates
use Rattle.asm_group.specs.TreeEdits as tree
use Rattle.asm_group.specs.TreeEdits.{TreeEdit, MakeDir, DropDir, RenameDir, AddAliasEntry, RenameAliasEntry, DropAliasEntry, AddFile, DropFileEntries, file_at}
use Rattle.asm_formats.specs.Items.{FileHead, Settings}
use Rattle.asm_world.specs.Edits as world
use Rattle.asm_world.specs.Settings as settings
use Rattle.asm_base.proofs.Exact.{some_is}
use Rattle.catalog_laws.specs.file_directory.Files as heads
use Rattle.catalog_laws.specs.file_directory.Files.{head_at, with_head}
use Rattle.catalog_laws.specs.alias_tree.Nodes.{Numbered, number_of}
use Rattle.catalog_laws.specs.alias_tree.Trees.{tree_of}
use Rattle.catalog_laws.specs.catalog_tables.Tables.{Tables}
use Rattle.catalog_laws.specs.catalog.TreePlans.{files_with_alias, aliased_head, files_after, head_with_alias}
use Rattle.catalog_laws.proofs.catalog_tables.NumberedLists.{number_is, put_at}
use Rattle.group_of.specs.Groups.{files_by_number, group_of}
use Rattle.group_of.specs.Edits.{AttributeIsWorlds, TemplateEditIsWorlds, TreeEditIsWorlds, TreeEditKeepsCells}
use Rattle.group_of.specs.Describing.{NamesAreGroup}
use Rattle.group_of.proofs.HeadedFiles as files
use Rattle.group_of.proofs.HeadedFiles.{files_are}

-- ---- what isn't the group's

pub names_are_group : NamesAreGroup
unfolding group_of
names_are_group name s t u cells same =
    let f = same.files in
    let n = same.nodes in
    let e = same.templates in
    λ i. record {
      name = name;
      shape = s;
      tree = tree_of (n i);
      files = files_by_number cells (f i);
      templates = templates_by_name (e i).templates;
      attributes = (e i).settings.attributes;
      next = (e i).settings.incarnation;
    }

-- ---- refusals

abbrev ok_value : {A : Type 0} → A → Result A r.Refusal → A
ok_value x (Ok y) = y
ok_value x (Err e) = x

pub done : {A : Type 0} (o : Option r.Refusal) (x y : A) → unless_refused o x ≡ Ok y → (o ≡ None) × (x ≡ y)
done None x y e = (refl, ap (ok_value x) e)
done (Some cause) x y e = absurd cc

-- ---- files

pub same_files : (a b : ByNumber File) → ((f : ℕ) → maps.get a f ≡ maps.get b f) → a ≡ b
same_files a b each = maps.same_map nat_cmp_total maps.nat_cmp-IsAntisymmetric a b each

aliased_as : (cells : ℕ → List Cell) (fs : List heads.NumberedFile) (f n k : ℕ) (head : FileHead) → head_at fs f ≡ Some head → files.file_at cells k (head_at (with_head fs f (head_with_alias head n)) k) ≡ files.file_at cells k (head_at fs k)
aliased_as cells fs f n k head e = ap (files.file_at cells k) (put_at f (head_with_alias head n) fs k) ∙ by (is_at (nat_cmp f) k) refl where
  by : (b : Bool) → is_at (nat_cmp f) k ≡ b → files.file_at cells k (cond b (Some (head_with_alias head n)) (head_at fs k)) ≡ files.file_at cells k (head_at fs k)
  by true here = ap (files.file_at cells k) (sym (ap (head_at fs) (sym (number_is f k here)) ∙ e))
  by false other = refl

same_aliased : (cells : ℕ → List Cell) (fs : List heads.NumberedFile) (f n : Option ℕ) (k : ℕ) → files.file_at cells k (head_at (files_with_alias fs f n) k) ≡ files.file_at cells k (head_at fs k)
same_aliased cells fs None n k = refl
same_aliased cells fs (Some f) None k = refl
same_aliased cells fs (Some f) (Some n) k = by (head_at fs f) refl where
  by : (o : Option FileHead) → head_at fs f ≡ o → files.file_at cells k (head_at (aliased_head fs f n o) k) ≡ files.file_at cells k (head_at fs k)
  by None e = refl
  by (Some head) e = aliased_as cells fs f n k head e

same_after : (t : Tables) (edit : TreeEdit) (nodes : List Numbered) (cells : ℕ → List Cell) (k : ℕ) → files.file_at cells k (head_at (files_after t edit nodes) k) ≡ files.file_at cells k (head_at t.files k)
same_after t (AddAliasEntry alias path) nodes cells k = same_aliased cells t.files (file_at (tree_of t.nodes) path) (number_of nodes alias) k
same_after t (DropAliasEntry path) nodes cells k = same_aliased cells t.files (file_at (tree_of t.nodes) path) (Some 0) k
same_after t (MakeDir path) nodes cells k = refl
same_after t (DropDir path) nodes cells k = refl
same_after t (RenameDir old new) nodes cells k = refl
same_after t (RenameAliasEntry old new) nodes cells k = refl
same_after t (AddFile path file) nodes cells k = refl
same_after t (DropFileEntries file) nodes cells k = refl

pub files_stay : (t : Tables) (edit : TreeEdit) (nodes : List Numbered) (cells : ℕ → List Cell) → files_by_number cells t.files ≡ files_by_number cells (files_after t edit nodes)
files_stay t edit nodes cells = same_files (files_by_number cells t.files) (files_by_number cells (files_after t edit nodes))
    (λ k. files_are cells t.files k ∙ sym (same_after t edit nodes cells k) ∙ sym (files_are cells (files_after t edit nodes) k))

pub tree_is_worlds : TreeEditIsWorlds
unfolding group_of
tree_is_worlds name c edit put gone cells p =
    let t = c.tables in
    let d = done (first_cause (tree.edit_causes (tree_of t.nodes) edit)) (tree.changed (tree_of t.nodes) edit) (tree_of p.nodes) p.edited in
    let after = files_stay t edit p.nodes cells in
    ap (λ (o : Option r.Refusal). unless_refused o (world.changed_group (group_of name c.shape t cells) edit)) d.0
    ∙ (λ i. Ok (record (group_of name c.shape t cells) { tree = d.1 i; files = after i }))

-- ---- cells stay

abbrev Old : List heads.NumberedFile → ℕ → FileHead → Type 0
Old fs f head = (old : FileHead) × (head_at fs f ≡ Some old) × (old.size ≡ head.size)

abbrev pub size_of : Option FileHead → ℕ
size_of None = 0
size_of (Some h) = h.size

old_aliased : (fs : List heads.NumberedFile) (g n : Option ℕ) (f : ℕ) (head : FileHead) → head_at (files_with_alias fs g n) f ≡ Some head → Old fs f head
old_aliased fs None n f head e = (head, e, refl)
old_aliased fs (Some g) None f head e = (head, e, refl)
old_aliased fs (Some g) (Some n) f head e = by (head_at fs g) refl e where
  two : (old : FileHead) → head_at fs g ≡ Some old → (b : Bool) → is_at (nat_cmp g) f ≡ b → cond b (Some (head_with_alias old n)) (head_at fs f) ≡ Some head → Old fs f head
  two old at true here e = (old, ap (head_at fs) (sym (number_is g f here)) ∙ at, ap size_of e)
  two old at false other e = (head, e, refl)

  by : (o : Option FileHead) → head_at fs g ≡ o → head_at (aliased_head fs g n o) f ≡ Some head → Old fs f head
  by None at e = (head, e, refl)
  by (Some old) at e = two old at (is_at (nat_cmp g) f) refl (sym (put_at g (head_with_alias old n) fs f) ∙ e)

old_after : (t : Tables) (edit : TreeEdit) (nodes : List Numbered) (f : ℕ) (head : FileHead) → head_at (files_after t edit nodes) f ≡ Some head → Old t.files f head
old_after t (AddAliasEntry alias path) nodes f head e = old_aliased t.files (file_at (tree_of t.nodes) path) (number_of nodes alias) f head e
old_after t (DropAliasEntry path) nodes f head e = old_aliased t.files (file_at (tree_of t.nodes) path) (Some 0) f head e
old_after t (MakeDir path) nodes f head e = (head, e, refl)
old_after t (DropDir path) nodes f head e = (head, e, refl)
old_after t (RenameDir old new) nodes f head e = (head, e, refl)
old_after t (RenameAliasEntry old new) nodes f head e = (head, e, refl)
old_after t (AddFile path file) nodes f head e = (head, e, refl)
old_after t (DropFileEntries file) nodes f head e = (head, e, refl)

pub tree_keeps_cells : TreeEditKeepsCells
tree_keeps_cells t edit nodes cells has f head e = let o = old_after t edit nodes f head e in has f o.0 o.1 ∙ o.2

-- ---- templates

pub templates_are_worlds : TemplateEditIsWorlds
unfolding group_of
templates_are_worlds name c edit put gone cells p =
    let t = c.tables in
    let old = templates_by_name t.templates.templates in
    let d = done (first_cause (templates.template_causes c.shape.kind old edit)) (templates.with_template_edit c.shape.kind old edit) (templates_by_name p.templates) p.edited in
    ap (λ (o : Option r.Refusal). unless_refused o (settings.group_with_template_edit (group_of name c.shape t cells) edit)) d.0
    ∙ (λ i. Ok (record (group_of name c.shape t cells) { templates = d.1 i }))

-- ---- attributes

attribute_is : (g : Group) (s new : Settings) (name : Bytes) (o : Option Attributes) → option_map (λ (a : Attributes). record s { attributes = a }) o ≡ Some new → s.incarnation ≡ g.next
    → settings.with_attributes g name o ≡ Ok (record g { attributes = new.attributes; next = new.incarnation })
attribute_is g s new name None e same = absurd (none-some new e)
attribute_is g s new name (Some a) e same =
    let is : record s { attributes = a } ≡ new = some_is (record s { attributes = a }) new e in
    (λ i. Ok (record g { attributes = a; next = sym same i })) ∙ (λ i. Ok (record g { attributes = (is i).attributes; next = (is i).incarnation }))

pub attribute_is_worlds : AttributeIsWorlds
unfolding group_of
attribute_is_worlds name c attribute value put gone cells p =
    let s = c.tables.templates.settings in
    attribute_is (group_of name c.shape c.tables cells) s p.settings attribute (settings.with_attribute s.attributes (record { name = attribute; value = value })) p.edited refl
