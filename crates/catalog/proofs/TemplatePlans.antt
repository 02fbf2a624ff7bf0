-- Plans of the templates.
use Rattle.std.proofs.Common.{◌≡◌, true, List, [], ◌∷◌, Some, refl, arith}
use Rattle.std.specs.Prelude.{Ok}
use Rattle.asm_group.specs.Group.{Template}
use Rattle.asm_group.specs.NewGroup.{templates_by_name}
use Rattle.asm_group.specs.TemplateEdits.{TemplateEdit, templates_edited}
use Rattle.asm_formats.specs.Items.{is_item, templates_item}
use Rattle.asm_formats.specs.Items.{Key}
use Rattle.asm_formats.specs.Values.{value}
use Rattle.asm_base.specs.Records.{DirectoryRecord}
use Rattle.asm_base.specs.Tables.{item_record}
use Rattle.plan_records.specs.template_directory.Tables as templates
use Rattle.plan_records.proofs.template_directory.ChangeLaws as template_laws
use Rattle.plan_records.specs.catalog_tables.Faults.{IsCatalog, templates_key}
use Rattle.catalog.specs.Plans.{IsPlan, IsTemplatePlan}
use Rattle.plan_records.specs.catalog_tables.Tables.{AreTables, Catalogued, Tables}
use Rattle.plan_records.proofs.catalog_tables.NewRecords.{old_room, templates_there}
use Rattle.catalog.proofs.PlanLaws.{after_put}
use Rattle.plan_records.proofs.catalog_tables.SetLaws.{templates_set}
use Rattle.catalog.proofs.PutItems.{plan_is}

pub with_templates : (t : Tables) (new : templates.Table) → AreTables t → templates.IsTemplateTable new → AreTables (record t { templates = new })
with_templates t new a is = record { files = a.files; extents = a.extents; nodes = a.nodes; templates = is; stale = a.stale; operations = a.operations; disks = a.disks }

pub set_planned : (c : Catalogued) (put : List DirectoryRecord) (gone : List Key) → IsCatalog c → (ts : List Template) → is_item (templates_item ts) ≡ true → put ≡ item_record (templates_item ts) ∷ [] → gone ≡ []
    → IsPlan c put gone (record c.tables { templates = record { templates = ts; settings = c.tables.templates.settings } })
set_planned c put gone is ts ok p g =
    let old = c.tables.templates in
    let new : templates.Table = record { templates = ts; settings = old.settings } in
    let r = is.rules in
    let are = with_templates c.tables new r.tables (record { templates = ok; settings = r.tables.templates.settings }) in
    let sets = templates_set c.tables new templates_key (Some (value (templates_item ts))) refl (template_laws.templates_set old ts) in
    rw (p, g) (plan_is c _ _ _
    (after_put c.tables (record c.tables { templates = new }) (item_record (templates_item ts)) are sets)
    (record {
      tables = are;
      marked = r.marked;
      chunks = r.chunks;
      owned = r.owned;
      redundancy = r.redundancy;
      apart = r.apart;
      stale = r.stale;
      nodes = r.nodes;
      names = r.names;
      extents = r.extents;
      room = r.room;
    })
    (λ es has. (c.units, has))
    (omega arith) refl (old_room c (item_record (templates_item ts)) is (templates_there c.tables)))

pub edit_planned : (c : Catalogued) (put : List DirectoryRecord) (gone : List Key) (edit : TemplateEdit) (ts : List Template) → templates_edited c.shape.kind (templates_by_name c.tables.templates.templates) edit ≡ Ok (templates_by_name ts)
    → IsPlan c put gone (record c.tables { templates = record { templates = ts; settings = c.tables.templates.settings } }) → IsTemplatePlan c edit put gone
edit_planned c put gone edit ts edited plan = record { templates = ts; edited = edited; plan = plan }
