-- Plans of the settings.
use Rattle.std.proofs.Common.{◌≡◌, true, List, [], ◌∷◌, Some, refl, sym, arith}
use Rattle.asm_group.specs.Names.{Bytes}
use Rattle.asm_formats.specs.Items.{Key, Settings, is_item, settings_item}
use Rattle.asm_formats.specs.Values.{value}
use Rattle.asm_base.specs.Records.{DirectoryRecord}
use Rattle.asm_base.specs.Tables.{item_record}
use Rattle.plan_records.specs.attribute_values.Edits.{settings_with}
use Rattle.plan_records.specs.template_directory.Tables as templates
use Rattle.plan_records.proofs.template_directory.ChangeLaws as template_laws
use Rattle.plan_records.specs.catalog_tables.Faults.{IsCatalog, settings_key}
use Rattle.catalog.specs.FilePlans.{IsAttributePlan}
use Rattle.catalog.specs.Plans.{IsPlan}
use Rattle.plan_records.specs.catalog_tables.Tables.{Catalogued}
use Rattle.plan_records.proofs.catalog_tables.NewRecords.{old_room, settings_there}
use Rattle.catalog.proofs.PlanLaws.{after_put}
use Rattle.plan_records.proofs.catalog_tables.SetLaws.{templates_set}
use Rattle.catalog.proofs.TemplatePlans.{with_templates}
use Rattle.catalog.proofs.PutItems.{plan_is}

pub settings_planned : (c : Catalogued) (put : List DirectoryRecord) (gone : List Key) → IsCatalog c → (s : Settings) → is_item (settings_item s) ≡ true → put ≡ item_record (settings_item s) ∷ [] → gone ≡ []
    → IsPlan c put gone (record c.tables { templates = record { templates = c.tables.templates.templates; settings = s } })
settings_planned c put gone is s ok p g =
    let old = c.tables.templates in
    let new : templates.Table = record { templates = old.templates; settings = s } in
    let r = is.rules in
    let are = with_templates c.tables new r.tables (record { templates = r.tables.templates.templates; settings = ok }) in
    let sets = templates_set c.tables new settings_key (Some (value (settings_item s))) refl (template_laws.settings_set old s) in
    rw (p, g) (plan_is c _ _ _
    (after_put c.tables (record c.tables { templates = new }) (item_record (settings_item s)) are sets)
    (record {
      tables = are;
      marked = r.marked;
      chunks = r.chunks;
      owned = r.owned;
      redundancy = r.redundancy;
      apart = r.apart;
      stale = r.stale;
      nodes = r.nodes;
      names = r.names;
      extents = r.extents;
      room = r.room;
    })
    (λ es has. (c.units, has))
    (omega arith) refl (old_room c (item_record (settings_item s)) is (settings_there c.tables)))

pub edit_planned : (c : Catalogued) (put : List DirectoryRecord) (gone : List Key) (name v : Bytes) (s : Settings) → Some s ≡ settings_with c.tables.templates.settings name v
    → IsPlan c put gone (record c.tables { templates = record { templates = c.tables.templates.templates; settings = s } }) → IsAttributePlan c name v put gone
edit_planned c put gone name v s edited plan = record { settings = s; edited = sym edited; plan = plan }
