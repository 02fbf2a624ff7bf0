-- The template of a new file is the world's.
use Rattle.std.proofs.Common.{◌≡◌, ℕ, List, sym, ap, ◌∙◌, Option, Some, None, refl}
use Rattle.std.specs.FinMap as maps
use Rattle.asm_group.specs.Names.{Bytes, ByName, folded}
use Rattle.asm_group.specs.Group.{Group, Template}
use Rattle.asm_group.specs.NewGroup.{templates_by_name}
use Rattle.asm_world.specs.Files.{NewName, if_system, template_for}
use Rattle.template_directory.specs.Tables.{template_named}
use Rattle.template_directory.proofs.Listing.{named_is_get}
use Rattle.extent_copies.specs.NewFiles.{template_by}

by_name : (g : Group) (ts : List Template) (name : Bytes) → g.templates ≡ templates_by_name ts → template_named name ts ≡ maps.get g.templates (folded name)
by_name g ts name same = sym (named_is_get name ts) ∙ ap (λ (m : ByName Template). maps.get m (folded name)) (sym same)

in_world : (g : Group) (ts : List Template) (type_name db tag : Bytes) (name : Option Bytes) → g.templates ≡ templates_by_name ts
    → template_by ts type_name name ≡ template_for g (record { db = db; type_name = type_name; tag = tag }) name
in_world g ts type_name db tag None same = ap if_system (by_name g ts type_name same)
in_world g ts type_name db tag (Some name) same = by_name g ts name same

pub template_is : (o : Option Template) (g : Group) (ts : List Template) (type_name db tag : Bytes) (name : Option Bytes) → o ≡ template_by ts type_name name → g.templates ≡ templates_by_name ts
    → o ≡ template_for g (record { db = db; type_name = type_name; tag = tag }) name
template_is o g ts type_name db tag name is same = is ∙ in_world g ts type_name db tag name same
