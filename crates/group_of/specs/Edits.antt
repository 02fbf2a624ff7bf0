-- Edits of names, templates and attributes: what a catalog's plan of one makes of the group is the world's edit, and what refuses the plan
-- is what the world refuses it by.
use Rattle.std.specs.Prelude.{◌≡◌, ℕ, ◌<◌, List, [], Result, Ok, Err}
use Rattle.asm_group.specs.Names.{Bytes}
use Rattle.asm_group.specs.NewGroup.{templates_by_name}
use Rattle.asm_group.specs.Refusal as r
use Rattle.asm_group.specs.Group.{Cell, Group, Template}
use Rattle.asm_group.specs.TemplateEdits as by_name
use Rattle.asm_group.specs.TemplateEdits.{TemplateEdit}
use Rattle.asm_group.specs.TreeEdits.{TreeEdit}
use Rattle.asm_formats.specs.Items.{Key, Settings}
use Rattle.asm_formats.specs.Status.{Status}
use Rattle.asm_base.specs.Records.{DirectoryRecord}
use Rattle.refusal_lines.specs.Refusals.{meaning_of}
use Rattle.refusal_lines.specs.declared.refusal.Refusal.{Refusal}
use Rattle.refusal_lines.specs.declared.refusal.Refusal.TheVariants as cause
use Rattle.asm_world.specs.Edits as world
use Rattle.asm_world.specs.Settings as settings
use Rattle.asm_world.specs.Statement.{Attribute}
use Rattle.catalog_laws.specs.alias_tree.Nodes.{Numbered}
use Rattle.catalog_laws.specs.template_directory.Meant.{IsTemplateEditRefusal}
use Rattle.catalog_laws.specs.catalog.FilePlans.{IsAttributePlan, IsAttributeRefusal}
use Rattle.catalog_laws.specs.catalog.Plans.{IsTemplatePlan}
use Rattle.catalog_laws.specs.catalog_tables.Tables.{Catalogued, Tables}
use Rattle.catalog_laws.specs.catalog.TreePlans.{IsTreePlan, IsTreeRefusal, files_after}
use Rattle.group_of.specs.Groups.{HasCells, group_of}
use Rattle.group_of.specs.Describing.{HaveGroup, IsDescribed}

-- ---- tables after an edit

-- after one of the tree that leads to these nodes
abbrev pub with_tree : Tables → TreeEdit → List Numbered → Tables
with_tree t edit nodes = record t { nodes = nodes; files = files_after t edit nodes }

abbrev pub with_templates : Tables → List Template → Tables
with_templates t templates = record t { templates = record t.templates { templates = templates } }

abbrev pub with_settings : Tables → Settings → Tables
with_settings t settings = record t { templates = record t.templates { settings = settings } }

-- an attribute and its value, as the statement has them
abbrev pub attribute_meant : Bytes → Bytes → Attribute
attribute_meant name value = record { name = name; value = value }

-- ---- the group after an edit

-- The plan of an edit of the tree leads to the world's group after the edit, with the same cells.
abbrev pub TreeEditIsWorlds : Type 0
TreeEditIsWorlds =
    (name : Bytes) (c : Catalogued) (edit : TreeEdit) (put : List DirectoryRecord) (gone : List Key) (cells : ℕ → List Cell) (p : IsTreePlan c edit put gone)
    → world.edited_group (group_of name c.shape c.tables cells) edit ≡ Ok (group_of name c.shape (with_tree c.tables edit p.nodes) cells)

abbrev pub TreeEditKeepsCells : Type 0
TreeEditKeepsCells = (t : Tables) (edit : TreeEdit) (nodes : List Numbered) (cells : ℕ → List Cell) → HasCells t cells → HasCells (with_tree t edit nodes) cells

-- So does the plan of an edit of the templates.
abbrev pub TemplateEditIsWorlds : Type 0
TemplateEditIsWorlds =
    (name : Bytes) (c : Catalogued) (edit : TemplateEdit) (put : List DirectoryRecord) (gone : List Key) (cells : ℕ → List Cell) (p : IsTemplatePlan c edit put gone)
    → settings.group_after_template_edit (group_of name c.shape c.tables cells) edit ≡ Ok (group_of name c.shape (with_templates c.tables p.templates) cells)

-- And so does the plan of an attribute that is set.
abbrev pub AttributeIsWorlds : Type 0
AttributeIsWorlds =
    (name : Bytes) (c : Catalogued) (attribute value : Bytes) (put : List DirectoryRecord) (gone : List Key) (cells : ℕ → List Cell) (p : IsAttributePlan c attribute value put gone)
    → settings.attribute_set (group_of name c.shape c.tables cells) (attribute_meant attribute value) ≡ Ok (group_of name c.shape (with_settings c.tables p.settings) cells)

-- ---- of a group that the catalog's tables describe

-- The world's edit of the group is done. The tables after its plan describe the group after it, whose files are those before it.
pub record LeadsOn (s : Status) (u : Tables) (g : Group) (answer : Result Group r.Refusal) : Type 0 where
  pub group : Group
  pub is : answer ≡ Ok group
  pub name : group.name ≡ g.name
  pub shape : group.shape ≡ g.shape
  pub files : group.files ≡ g.files
  pub describes : HaveGroup s u group

abbrev pub TreeEditLeadsOn : Type 0
TreeEditLeadsOn =
    (r : Status) (c : Catalogued) (g : Group) (edit : TreeEdit) (put : List DirectoryRecord) (gone : List Key) → IsDescribed r c g → (p : IsTreePlan c edit put gone)
    → LeadsOn r (with_tree c.tables edit p.nodes) g (world.edited_group g edit)

abbrev pub TemplateEditLeadsOn : Type 0
TemplateEditLeadsOn =
    (r : Status) (c : Catalogued) (g : Group) (edit : TemplateEdit) (put : List DirectoryRecord) (gone : List Key) → IsDescribed r c g → (p : IsTemplatePlan c edit put gone)
    → LeadsOn r (with_templates c.tables p.templates) g (settings.group_after_template_edit g edit)

abbrev pub AttributeLeadsOn : Type 0
AttributeLeadsOn =
    (r : Status) (c : Catalogued) (g : Group) (attribute value : Bytes) (put : List DirectoryRecord) (gone : List Key) → IsDescribed r c g → (p : IsAttributePlan c attribute value put gone)
    → LeadsOn r (with_settings c.tables p.settings) g (settings.attribute_set g (attribute_meant attribute value))

-- ---- refusals

-- Why a plan is refused, beside the world's answer to what was planned.
pub data IsWorldsRefusal {A : Type 0} (answer : Result A r.Refusal) (refusal : Refusal) : Type 0 where
  -- want of memory, which may come at any time
  no_memory : meaning_of (λ n. []) refusal ≡ r.NoMemory → IsWorldsRefusal answer refusal
  -- the world refuses it by the same
  same_refusal : answer ≡ Err (meaning_of (λ n. []) refusal) → IsWorldsRefusal answer refusal

-- The same of a plan that may make records.
pub data IsRefusedBeside {A : Type 0} (answer : Result A r.Refusal) (refusal : Refusal) : Type 0 where
  worlds : IsWorldsRefusal answer refusal → IsRefusedBeside answer refusal
  -- the world does it, and its records want more blocks than are free
  full : (need free : ℕ) (done : A) → refusal ≡ cause.DirectoryFull need free → free < need → answer ≡ Ok done → IsRefusedBeside answer refusal

abbrev pub TreeRefusalIsWorlds : Type 0
TreeRefusalIsWorlds =
    (name : Bytes) (c : Catalogued) (edit : TreeEdit) (refusal : Refusal) (cells : ℕ → List Cell) → IsTreeRefusal c edit refusal
    → IsRefusedBeside (world.edited_group (group_of name c.shape c.tables cells) edit) refusal

abbrev pub TemplateRefusalIsWorlds : Type 0
TemplateRefusalIsWorlds =
    (name : Bytes) (c : Catalogued) (edit : TemplateEdit) (refusal : Refusal) (cells : ℕ → List Cell)
    → IsTemplateEditRefusal (by_name.templates_edited c.shape.kind (templates_by_name c.tables.templates.templates) edit) refusal
    → IsWorldsRefusal (settings.group_after_template_edit (group_of name c.shape c.tables cells) edit) refusal

abbrev pub AttributeRefusalIsWorlds : Type 0
AttributeRefusalIsWorlds =
    (name : Bytes) (c : Catalogued) (attribute value : Bytes) (refusal : Refusal) (cells : ℕ → List Cell) → IsAttributeRefusal c attribute value refusal
    → IsWorldsRefusal (settings.attribute_set (group_of name c.shape c.tables cells) (attribute_meant attribute value)) refusal
