-- What a group's directory holds of templates and settings.
use Rattle.std.specs.Prelude.{◌≡◌, ℕ, suc, Bool, true, ◌==◌, ◌&&◌, ◌||◌, not, nat_lt, List, [], ◌∷◌, length, Option, Some, None, is_some, if◌then◌else◌, filter}
use Rattle.std.specs.Option.{option_and_then, option_map}
use Rattle.std.specs.Ordering.{is_lt}
use Rattle.std.specs.declared.cmp.Ordering.{Ordering}
use Rattle.std.specs.declared.cmp.Ordering.TheVariants.{Less, Equal, Greater}
use Rattle.asm_group.specs.Names.{Bytes, is_same_name}
use Rattle.asm_group.specs.Group.{Template}
use Rattle.asm_formats.specs.Items.{Settings, Item, templates_item, settings_item, Key, is_item, most_templates, settings_kind, templates_kind}
use Rattle.asm_base.specs.Records.{DirectoryRecord}
use Rattle.asm_base.specs.Tables.{entry_of_record, item_record}
use Rattle.asm_base.specs.Names.{folded_cmp}

-- the templates in the order of their folded names, and the settings
pub record Table : Type 0 where
  pub templates : List Template
  pub settings : Settings

-- ---- a list of templates

-- the template of a name, in any case
abbrev pub template_named : Bytes → List Template → Option Template
template_named name [] = None
template_named name (t ∷ ts) = if is_same_name name t.name then Some t else template_named name ts

-- the template, if it has the name
abbrev pub if_same : Bytes → Option Template → Option Template
if_same name None = None
if_same name (Some t) = if is_same_name name t.name then Some t else None

-- this template before, in the place of, or behind the first of a list
abbrev pub template_by_order : Ordering → Template → Template → List Template → List Template → List Template
template_by_order Less t s ss behind = t ∷ s ∷ ss
template_by_order Equal t s ss behind = t ∷ ss
template_by_order Greater t s ss behind = s ∷ behind

-- the list with this template in its place, which is that of the template of its name where there is one
abbrev pub with_template_in_order : Template → List Template → List Template
with_template_in_order t [] = t ∷ []
with_template_in_order t (s ∷ ss) = template_by_order (folded_cmp t.name s.name) t s ss (with_template_in_order t ss)

abbrev pub without_template : Bytes → List Template → List Template
without_template name ts = filter (λ (t : Template). not (is_same_name name t.name)) ts

-- whether a template of the name may be put: one is there, or there are fewer than 64
abbrev pub has_room_for_template : Bytes → List Template → Bool
has_room_for_template name ts = is_some (template_named name ts) || nat_lt (length ts) most_templates

-- how many names are before a name
abbrev pub count_of_names_before : Bytes → List Template → ℕ
count_of_names_before name [] = 0
count_of_names_before name (t ∷ ts) = if is_lt (folded_cmp t.name name) then suc (count_of_names_before name ts) else 0

-- ---- records

-- the records of templates and of settings
abbrev pub is_key_of_templates : Key → Bool
is_key_of_templates k = (k.kind == templates_kind) || (k.kind == settings_kind)

abbrev pub records_of_templates : Table → List DirectoryRecord
records_of_templates t = item_record (templates_item t.templates) ∷ item_record (settings_item t.settings) ∷ []

-- both records are there, and such as a directory may hold
pub record IsTemplateTable (t : Table) : Type 0 where
  pub templates : is_item (templates_item t.templates) ≡ true
  pub settings : is_item (settings_item t.settings) ≡ true

-- what an item says of templates, and of settings
abbrev pub templates_said : Item → Option (List Template)
templates_said (templates_item ts) = Some ts
templates_said _ = None

abbrev pub settings_said : Item → Option Settings
settings_said (settings_item s) = Some s
settings_said _ = None

-- the table that these records are, of which there must be two
abbrev pub table_of : List DirectoryRecord → Option Table
table_of (e ∷ f ∷ []) =
    option_and_then (λ ts. option_map (λ s. record { templates = ts; settings = s }) (entry_of_record settings_said f)) (entry_of_record templates_said e)
table_of _ = None
