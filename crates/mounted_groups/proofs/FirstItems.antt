-- The records of a new group are the items of its plan.
use Rattle.std.proofs.Common.{◌≡◌, inl, inr, ⊎_elim, ℕ, cond, List, [], refl, sym, subst, ◌∙◌, Option, Some, None}
use Rattle.std.proofs.lemmas.Bool.{cond_both}
use Rattle.std.proofs.lemmas.Option.{none-some, same_Some}
use Rattle.asm_base.specs.Records.{is_key, record_at}
use Rattle.asm_formats.specs.Among.{IsAmong}
use Rattle.asm_formats.specs.Items.{Item, Key, item_key}
use Rattle.asm_formats.specs.Values.{value}
use Rattle.group_recovery.specs.catalog_tables.Items.{AreItemsOf}
use Rattle.page_map.specs.Contents.{IsItemOf}
use Rattle.group_recovery.specs.catalog_tables.Tables.{AreTables, HasRecords, Tables}
use Rattle.group_engine.proofs.catalog_laws.HavingItems.{items_are_one}
use Rattle.group_recovery.proofs.catalog_tables.TableItems.{items_of_records}
use Rattle.group_recovery.specs.directory_store.Stores.{AreFirst}
use Rattle.page_map.specs.Tables.{PageTable}
use Rattle.page_map.proofs.Keys.{same_key}
use Rattle.mounted_groups.specs.Planned.{Plan, IsGroupPlan, disk_of_plan, first_entries, items_of_plan}
use Rattle.asm_images.specs.Created.{first_settings, first_templates}
use Rattle.mounted_groups.proofs.FirstBodies.{disk_ok, settings_ok, templates_ok}

module _ (plan : Plan) (is : IsGroupPlan plan) (table : PageTable) (first : AreFirst (first_entries plan) [] table) where
  -- an item of the plan has the key and the value
  abbrev IsOneOf : Key → List ℕ → Type 0
  IsOneOf k v = (i : Item) × IsAmong (items_of_plan plan) i × IsItemOf k v i

  from_record : (k : Key) (v : List ℕ) → record_at table.records k ≡ Some v → IsOneOf k v
  from_record k v at =
      let a : Item = disk_of_plan plan in
      let b : Item = first_templates in
      let d : Item = first_settings in
      cond_both (is_key (item_key d) k) (Some (value d)) (cond (is_key (item_key b) k) (Some (value b)) (cond (is_key (item_key a) k) (Some (value a)) None))
      (λ (o : Option (List ℕ)). o ≡ Some v → IsOneOf k v)
      (λ yes e. (d, inr (inr (inl refl)), record { is = settings_ok; key = same_key (item_key d) k yes; value = same_Some (value d) v e }))
      (λ no. cond_both (is_key (item_key b) k) (Some (value b)) (cond (is_key (item_key a) k) (Some (value a)) None) (λ (o : Option (List ℕ)). o ≡ Some v → IsOneOf k v)
      (λ yes e. (b, inr (inl refl), record { is = templates_ok; key = same_key (item_key b) k yes; value = same_Some (value b) v e }))
      (λ other. cond_both (is_key (item_key a) k) (Some (value a)) None (λ (o : Option (List ℕ)). o ≡ Some v → IsOneOf k v)
      (λ yes e. (a, inl refl, record { is = disk_ok plan is; key = same_key (item_key a) k yes; value = same_Some (value a) v e }))
      (λ last e. absurd (none-some v e))))
      (sym (first k) ∙ at)

  to_record : (i : Item) → IsAmong (items_of_plan plan) i → record_at table.records (item_key i) ≡ Some (value i)
  to_record i among = ⊎_elim (λ same. back same (first (item_key (disk_of_plan plan))))
      (⊎_elim (λ same. back same (first (item_key first_templates))) (⊎_elim (λ same. back same (first (item_key first_settings))) (λ none. absurd none))) among
    where
      back : {x : Item} → i ≡ x → record_at table.records (item_key x) ≡ Some (value x) → record_at table.records (item_key i) ≡ Some (value i)
      back same at = subst (λ (y : Item). record_at table.records (item_key y) ≡ Some (value y)) (sym same) at

  -- tables of these records have these items
  pub first_items : (t : Tables) → AreTables t → HasRecords table.records t → (items : List Item) → AreItemsOf t items → items ≡ items_of_plan plan
  first_items t tables has items are =
      items_are_one t items (items_of_plan plan) are (items_of_records table.records t (items_of_plan plan) tables has (record { in_order = refl; from_record = from_record; to_record = to_record }))
