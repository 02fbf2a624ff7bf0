-- The edits of a group, each by its kind.
use Rattle.std.specs.Prelude.{◌≡◌, ◌⊎◌, Bool, true, false, ◌&&◌, List}
use Rattle.asm_formats.specs.Items.{Key}
use Rattle.asm_base.specs.Records.{DirectoryRecord}
use Rattle.refusal_lines.specs.declared.refusal.Refusal.{Refusal}
use Rattle.refusal_lines.specs.declared.refusal.Refusal.TheVariants as cause
use Rattle.group_engine.specs.alias_edits.Edits as names
use Rattle.template_directory.specs.Meant as templates
use Rattle.group_engine.specs.catalog.FilePlans.{IsAttributePlan, IsAttributeRefusal}
use Rattle.group_engine.specs.catalog.Plans.{IsTemplatePlan}
use Rattle.group_engine.specs.catalog_tables.Tables.{Catalogued}
use Rattle.group_engine.specs.catalog.TreePlans.{IsTreePlan, IsTreeRefusal, keeps_files}
use Rattle.group_files.specs.Edits.{IsTemplateRefusal}
use Rattle.group_files.specs.declared.edit.GroupEdit.{GroupEdit}
use Rattle.group_files.specs.declared.edit.GroupEdit.TheVariants.{Tree, Templates, SetAttribute}

-- a new name in it is one of the grammar, and it leaves the system names of files
abbrev pub is_group_edit : GroupEdit → Bool
is_group_edit (Tree edit) = names.is_tree_edit (names.edit_meant edit) && keeps_files (names.edit_meant edit)
is_group_edit (Templates edit) = templates.is_template_edit (templates.template_edit_meant edit)
is_group_edit (SetAttribute name value) = true

-- the change is the edit
abbrev pub IsEditPlan : Catalogued → GroupEdit → List DirectoryRecord → List Key → Type 0
IsEditPlan c (Tree edit) put gone = IsTreePlan c (names.edit_meant edit) put gone
IsEditPlan c (Templates edit) put gone = IsTemplatePlan c (templates.template_edit_meant edit) put gone
IsEditPlan c (SetAttribute name value) put gone = IsAttributePlan c name value put gone

abbrev pub IsEditRefusedAs : Catalogued → GroupEdit → Refusal → Type 0
IsEditRefusedAs c (Tree edit) refusal = IsTreeRefusal c (names.edit_meant edit) refusal
IsEditRefusedAs c (Templates edit) refusal = IsTemplateRefusal c (templates.template_edit_meant edit) refusal
IsEditRefusedAs c (SetAttribute name value) refusal = IsAttributeRefusal c name value refusal

-- why no change is the edit: it isn't allowed, or want of memory, or as its kind is refused
abbrev pub IsEditRefusal : Catalogued → GroupEdit → Refusal → Type 0
IsEditRefusal c edit refusal = ((is_group_edit edit ≡ false) × (refusal ≡ cause.NoName)) ⊎ IsEditRefusedAs c edit refusal
