-- What refuses the plan of an edit, and the world's answer to the edit.
use Rattle.std.proofs.Common.{◌≡◌, [], Option, Some, None, Ok, Err, refl, sym, ap, ◌∙◌, arith, inl, inr}
use Rattle.std.specs.Prelude.{Result}
use Rattle.std.specs.Option.{option_map}
use Rattle.std.proofs.lemmas.Option.{none-some}
use Rattle.asm_group.specs.Causes.{unless_refused, first_cause}
use Rattle.asm_group.specs.Names.{Bytes}
use Rattle.asm_group.specs.NewGroup.{templates_by_name}
use Rattle.asm_group.specs.Refusal as r
use Rattle.asm_group.specs.Group.{Attributes}
use Rattle.asm_group.specs.TemplateEdits as templates
use Rattle.asm_group.specs.TreeEdits as tree
use Rattle.asm_formats.specs.Items.{Settings}
use Rattle.refusal_lines.specs.Refusals.{meaning_of}
use Rattle.refusal_lines.specs.declared.refusal.Refusal.{Refusal}
use Rattle.refusal_lines.specs.declared.refusal.Refusal.TheVariants as cause
use Rattle.asm_world.specs.Edits as world
use Rattle.asm_world.specs.Settings as settings
use Rattle.catalog_laws.specs.alias_tree.Trees.{tree_of}
use Rattle.group_of.specs.Groups.{group_of}
use Rattle.group_of.specs.Edits.{AttributeRefusalIsWorlds, TemplateRefusalIsWorlds, TreeRefusalIsWorlds, attribute_meant, full, no_memory, same_refusal, worlds}
use Rattle.group_of.proofs.EditedGroups.{done}

abbrev cause_of : {A : Type 0} → r.Refusal → Result A r.Refusal → r.Refusal
cause_of none (Ok x) = none
cause_of none (Err e) = e

-- what refuses one result refuses another
pub refuses_too : {A B : Type 0} (o : Option r.Refusal) (x : A) (y : B) (e : r.Refusal) → unless_refused o x ≡ Err e → unless_refused o y ≡ Err e
refuses_too None x y e is = absurd cc
refuses_too (Some cause) x y e is = ap (λ (z : r.Refusal). Err z) (ap (cause_of cause) is)

-- and what leaves one leaves another
pub leaves_too : {A B : Type 0} (o : Option r.Refusal) (x u : A) (y : B) → unless_refused o x ≡ Ok u → unless_refused o y ≡ Ok y
leaves_too o x u y is = ap (λ (p : Option r.Refusal). unless_refused p y) (done o x u is).0

pub tree_refusals : TreeRefusalIsWorlds
unfolding group_of
tree_refusals name c edit refusal cells (inl memory) = worlds (no_memory memory)
tree_refusals name c edit refusal cells (inr (inl same)) =
    worlds (same_refusal (refuses_too (first_cause (tree.edit_causes (tree_of c.tables.nodes) edit)) (tree.changed (tree_of c.tables.nodes) edit) (world.changed_group (group_of name c.shape c.tables cells) edit) (meaning_of (λ n. []) refusal) same))
tree_refusals name c edit refusal cells (inr (inr (is, lacks))) =
    full 1 0 (world.changed_group (group_of name c.shape c.tables cells) edit) is (omega arith)
    (leaves_too (first_cause (tree.edit_causes (tree_of c.tables.nodes) edit)) (tree.changed (tree_of c.tables.nodes) edit) lacks.done.0 (world.changed_group (group_of name c.shape c.tables cells) edit) lacks.done.1)

pub template_refusals : TemplateRefusalIsWorlds
unfolding group_of
template_refusals name c edit refusal cells (inl memory) = no_memory memory
template_refusals name c edit refusal cells (inr same) =
    same_refusal (refuses_too (first_cause (templates.template_causes c.shape.kind (templates_by_name c.tables.templates.templates) edit))
    (templates.with_template_edit c.shape.kind (templates_by_name c.tables.templates.templates) edit) (settings.group_with_template_edit (group_of name c.shape c.tables cells) edit) (meaning_of (λ n. []) refusal) same)

memory_said : (refusal : Refusal) → refusal ≡ cause.NoMemory → meaning_of (λ n. []) refusal ≡ r.NoMemory
unfolding meaning_of
memory_said refusal is = ap (λ (e : Refusal). meaning_of (λ n. []) e) is

attribute_said : (refusal : Refusal) (name : Bytes) → refusal ≡ cause.BadAttribute name → r.BadAttribute name ≡ meaning_of (λ n. []) refusal
unfolding meaning_of
attribute_said refusal name is = sym (ap (λ (e : Refusal). meaning_of (λ n. []) e) is)

no_attributes : (s : Settings) (o : Option Attributes) → option_map (λ (a : Attributes). record s { attributes = a }) o ≡ None → o ≡ None
no_attributes s None is = refl
no_attributes s (Some a) is = absurd (none-some (record s { attributes = a }) (sym is))

pub attribute_refusals : AttributeRefusalIsWorlds
unfolding group_of
attribute_refusals name c attribute value refusal cells (inl memory) = no_memory (memory_said refusal memory)
attribute_refusals name c attribute value refusal cells (inr (is, none)) =
    let s = c.tables.templates.settings in
    let g = group_of name c.shape c.tables cells in
    same_refusal (ap (settings.with_attributes g attribute) (no_attributes s (settings.with_attribute s.attributes (attribute_meant attribute value)) none)
    ∙ ap (λ (e : r.Refusal). Err e) (attribute_said refusal attribute is))
