-- Edits of tables as the world's, on every bay.
use Rattle.std.proofs.Common.{◌≡◌, ℕ, List, Result, Ok, subst}
use Rattle.asm_group.specs.Group.{Cell, Group}
use Rattle.asm_group.specs.Names.{Bytes}
use Rattle.asm_group.specs.Refusal as r
use Rattle.asm_group.specs.Shape.{Shape}
use Rattle.asm_formats.specs.Items.{Key}
use Rattle.asm_base.specs.Records.{DirectoryRecord}
use Rattle.group_files.specs.alias_edits.Edits as names
use Rattle.group_files.specs.template_directory.Meant as templates
use Rattle.group_files.specs.catalog_tables.Changing.{IsAfter}
use Rattle.group_files.specs.catalog_tables.Tables.{Tables}
use Rattle.group_files.proofs.catalog_tables.AfterLaws.{one_after}
use Rattle.group_files.specs.declared.edit.GroupEdit.TheVariants.{Tree, Templates, SetAttribute}
use Rattle.group_files.specs.group_of.Edits.{with_settings, with_templates, with_tree}
use Rattle.group_files.specs.group_of.Groups.{HasCells, group_of}
use Rattle.group_files.proofs.group_of.EditedGroups as worlds
use Rattle.group_files.proofs.group_of.Refusals.{attribute_refusals, template_refusals, tree_refusals}
use Rattle.edit_laws.specs.Edits.{EditIsOfTables, RefusalIsOfTables}

-- the tables after the change are those of the plan
of_plan : (name : Bytes) (s : Shape) (t u v : Tables) (cells : ℕ → List Cell) (put : List DirectoryRecord) (gone : List Key) (answer : Result Group r.Refusal) → IsAfter t put gone u → IsAfter t put gone v
    → answer ≡ Ok (group_of name s v cells) → HasCells v cells → (answer ≡ Ok (group_of name s u cells)) × HasCells u cells
of_plan name s t u v cells put gone answer after planned is long =
    let same : v ≡ u = one_after t v u put gone planned after in
    (subst (λ (x : Tables). answer ≡ Ok (group_of name s x cells)) same is, subst (λ (x : Tables). HasCells x cells) same long)

pub edit_is_of_tables : EditIsOfTables
edit_is_of_tables name c cells (Tree edit) put gone u long p after =
    of_plan name c.shape c.tables u (with_tree c.tables (names.edit_meant edit) p.nodes) cells put gone _ after p.plan.after
    (worlds.tree_is_worlds name c (names.edit_meant edit) put gone cells p) (worlds.tree_keeps_cells c.tables (names.edit_meant edit) p.nodes cells long)
edit_is_of_tables name c cells (Templates edit) put gone u long p after =
    of_plan name c.shape c.tables u (with_templates c.tables p.templates) cells put gone _ after p.plan.after
    (worlds.templates_are_worlds name c (templates.template_edit_meant edit) put gone cells p) long
edit_is_of_tables name c cells (SetAttribute attribute value) put gone u long p after =
    of_plan name c.shape c.tables u (with_settings c.tables p.settings) cells put gone _ after p.plan.after
    (worlds.attribute_is_worlds name c attribute value put gone cells p) long

pub refusal_is_of_tables : RefusalIsOfTables
refusal_is_of_tables name c cells (Tree edit) refusal cause = tree_refusals name c (names.edit_meant edit) refusal cells cause
refusal_is_of_tables name c cells (Templates edit) refusal cause = template_refusals name c (templates.template_edit_meant edit) refusal cells cause
refusal_is_of_tables name c cells (SetAttribute attribute value) refusal cause = attribute_refusals name c attribute value refusal cells cause
