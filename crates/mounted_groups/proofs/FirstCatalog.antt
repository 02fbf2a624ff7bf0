-- None of a new group's records is at fault.
use Rattle.std.proofs.Common.{◌≡◌, ⊎_elim, ℕ, Bool, true, false, cond, List, [], ◌∷◌, refl, sym, ap, subst, ◌∙◌, Option, Some, None, arith}
use Rattle.std.specs.Prelude.{find, not, is_some}
use Rattle.std.specs.List.Sorted.{IsStrictlySortedBy}
use Rattle.std.specs.Ordering.{is_lt}
use Rattle.std.specs.Option.{option_map}
use Rattle.std.proofs.lemmas.Bool.{cases_Bool, false≢true}
use Rattle.std.proofs.lemmas.Option.{none-some}
use Rattle.asm_group.specs.Shape.{Shape}
use Rattle.asm_group.specs.declared.GroupKind.TheVariants.{External}
use Rattle.asm_group.specs.NewGroup.{system_templates, usual_attributes}
use Rattle.asm_base.specs.Records.{Ascend, DirectoryRecord, is_key, key_cmp, keys_of, record_at}
use Rattle.asm_formats.specs.Items.{Item, Key, is_item, item_key}
use Rattle.asm_formats.specs.Values.{value}
use Rattle.asm_formats.specs.Status as status
use Rattle.asm_formats.proofs.Bodies.{item_codec}
use Rattle.group_recovery.specs.catalog_tables.declared.error.CatalogError.{CatalogError}
use Rattle.group_recovery.specs.catalog_tables.declared.error.CatalogError.TheVariants as answer
use Rattle.group_recovery.specs.catalog_tables.Faults.{IsAtFault, IsCatalogOf, NamesFault}
use Rattle.group_recovery.specs.catalog_tables.Placing.{HasUnits, after_chunks, unused_maps}
use Rattle.group_recovery.specs.catalog_tables.Rules.{KeepsRules}
use Rattle.group_recovery.specs.catalog_tables.Tables.{AreTables, Catalogued, HasRecords, Tables, first_unreadable, is_record}
use Rattle.group_engine.proofs.catalog_laws.NoCatalog.{fault_refuses}
use Rattle.group_recovery.proofs.catalog_tables.SameTables.{same_lookups}
use Rattle.group_recovery.proofs.catalog_tables.TableItems.{key_total, keys_exact}
use Rattle.group_recovery.specs.directory_store.Stores.{AreFirst}
use Rattle.page_map.proofs.Keys.{same_key, key_itself}
use Rattle.page_map.specs.Tables.{PageTable}
use Rattle.mounted_groups.specs.Creating.{usual_shape}
use Rattle.mounted_groups.specs.Planned.{Plan, IsGroupPlan, disk_of_plan, first_entries, record_of_plan}
use Rattle.asm_images.specs.Created.{first_settings, first_templates}
use Rattle.mounted_groups.proofs.FirstBodies.{disk_ok, settings_ok, templates_ok}

-- ---- records in order are one list

up_of : (es : List DirectoryRecord) → IsStrictlySortedBy key_cmp (keys_of es) → Ascend (λ a b. is_lt (key_cmp a b)) es
unfolding IsStrictlySortedBy
up_of [] sorted = tt
up_of (x ∷ []) sorted = tt
up_of (x ∷ y ∷ es) sorted = (ap is_lt sorted.0.0, up_of (y ∷ es) sorted.1)

-- what isn't one key isn't it the other way round
other_key : (p q : Key) → is_key p q ≡ false → is_key q p ≡ false
other_key p q other = ⊎_elim
    (λ (yes : is_key q p ≡ true). absurd (false≢true (sym other ∙ subst (λ (k : Key). is_key k q ≡ true) (same_key q p yes) (key_itself q))))
    (λ (no : is_key q p ≡ false). no) (cases_Bool (is_key q p))

module _ (plan : Plan) where
  abbrev disk : Item
  disk = disk_of_plan plan

  abbrev first : List DirectoryRecord
  first = first_entries plan

  first_up : Ascend (λ a b. is_lt (key_cmp a b)) first
  first_up = (refl, (refl, tt))

  -- what was put last is what is found
  abbrev put : Key → Option (List ℕ)
  put q = cond (is_key (item_key first_settings) q) (Some (value first_settings)) (cond (is_key (item_key first_templates) q) (Some (value first_templates)) (cond (is_key (item_key disk) q) (Some (value disk)) None))

  put_at : (k : Key) → put k ≡ record_at first k → (q : Key) → k ≡ q → put q ≡ record_at first q
  put_at k same q is = subst (λ (j : Key). put j ≡ record_at first j) is same

  put_is : (q : Key) → put q ≡ record_at first q
  put_is q = ⊎_elim (λ yes. put_at (item_key first_settings) refl q (same_key (item_key first_settings) q yes))
      (λ a. ⊎_elim (λ yes. put_at (item_key first_templates) refl q (same_key (item_key first_templates) q yes))
      (λ b. ⊎_elim (λ yes. put_at (item_key disk) refl q (same_key (item_key disk) q yes))
      (λ c. none a b c) (cases_Bool (is_key (item_key disk) q))) (cases_Bool (is_key (item_key first_templates) q))) (cases_Bool (is_key (item_key first_settings) q))
    where
      none : is_key (item_key first_settings) q ≡ false → is_key (item_key first_templates) q ≡ false → is_key (item_key disk) q ≡ false → put q ≡ record_at first q
      none a b c = (λ i. cond (a i) (Some (value first_settings)) (cond (b i) (Some (value first_templates)) (cond (c i) (Some (value disk)) None)))
          ∙ sym (λ i. cond (other_key (item_key disk) q c i) (Some (value disk)) (cond (other_key (item_key first_templates) q b i) (Some (value first_templates)) (cond (other_key (item_key first_settings) q a i) (Some (value first_settings)) None)))

  -- the records in the order of their keys are those of the first change
  pub content_is : (table : PageTable) → AreFirst first [] table → IsStrictlySortedBy key_cmp (keys_of table.records) → table.records ≡ first
  content_is table are sorted = same_lookups key_cmp key_total keys_exact table.records first (up_of table.records sorted) first_up (λ q. are q ∙ put_is q)

  -- ---- the tables of these records

  abbrev pub tables : Tables
  tables = record {
    files = [];
    extents = [];
    nodes = [];
    templates = record { templates = system_templates External; settings = record { incarnation = 1; attributes = usual_attributes } };
    stale = [];
    operations = record { pending = None; rebalance = None };
    disks = (0, record { birth = 1; name = plan.disk; failgroup = plan.disk }) ∷ [];
  }

  module _ (is : IsGroupPlan plan) where
    readable : (i : Item) → is_item i ≡ true → is_record (item_key i, value i) ≡ true
    readable i ok = ap is_some (item_codec.again i ok)

    passed : (e : DirectoryRecord) (es : List DirectoryRecord) → is_record e ≡ true → find (λ x. not (is_record x)) (e ∷ es) ≡ find (λ x. not (is_record x)) es
    passed e es ok = ap (λ (b : Bool). cond (not b) (Some e) (find (λ x. not (is_record x)) es)) ok

    all_readable : first_unreadable first ≡ None
    all_readable = ap (option_map (λ (e : DirectoryRecord). e.0))
        (passed (item_key disk, value disk) ((item_key first_templates, value first_templates) ∷ (item_key first_settings, value first_settings) ∷ []) (readable disk (disk_ok plan is))
        ∙ (passed (item_key first_templates, value first_templates) ((item_key first_settings, value first_settings) ∷ []) (readable first_templates templates_ok)
        ∙ passed (item_key first_settings, value first_settings) [] (readable first_settings settings_ok)))

    has_records : HasRecords first tables
    has_records = record { all = all_readable; files = refl; extents = refl; nodes = refl; templates = refl; stale = refl; operations = refl; disks = refl }

    are_tables : AreTables tables
    are_tables = record {
      files = (tt, tt);
      extents = ((tt, tt), refl);
      nodes = record {
        items = (tt, tt);
        rule = record {
          parents = λ n node parent none at. absurd (none-some node none);
          rooted = λ n node none. absurd (none-some node none);
          distinct = λ m n a b none at same names. absurd (none-some a none);
        };
      };
      templates = record { templates = templates_ok; settings = settings_ok };
      stale = (tt, tt);
      operations = tt;
      disks = (tt, (disk_ok plan is, tt));
    }

    rules : KeepsRules usual_shape tables
    rules = record {
      tables = are_tables;
      marked = refl;
      chunks = refl;
      owned = refl;
      redundancy = refl;
      apart = refl;
      stale = refl;
      nodes = refl;
      names = refl;
      extents = tt;
      room = omega arith;
    }

    units : HasUnits usual_shape (record_of_plan plan).entries tables (unused_maps usual_shape (record_of_plan plan).entries)
    unfolding after_chunks
    units = refl

    abbrev catalog : Catalogued
    catalog = record { tables = tables; shape = usual_shape; units = unused_maps usual_shape (record_of_plan plan).entries; next = None; next_units = None }

    is_catalog : IsCatalogOf first (record_of_plan plan).entries catalog
    is_catalog = record { records = has_records; rules = rules; infos = refl; regular = refl; units = units }

    -- so none is at fault
    no_fault : (content : List DirectoryRecord) (entries : List status.Entry) (shape : Shape) (k : Key) → content ≡ first → entries ≡ (record_of_plan plan).entries → shape ≡ usual_shape
        → IsAtFault content shape entries k → ⊥
    no_fault content entries shape k is_first are usual fault =
        fault_refuses first (record_of_plan plan).entries catalog k
        (subst (λ (s : Shape). IsAtFault first s (record_of_plan plan).entries k) usual
        (subst (λ (es : List status.Entry). IsAtFault first shape es k) are
        (subst (λ (c : List DirectoryRecord). IsAtFault c shape entries k) is_first fault))) is_catalog

    pub no_damage : (table : PageTable) (content : List DirectoryRecord) (entries : List status.Entry) (shape : Shape) (e : CatalogError) (k : Key) → AreFirst first [] table → content ≡ table.records
        → IsStrictlySortedBy key_cmp (keys_of content) → entries ≡ (record_of_plan plan).entries → shape ≡ usual_shape → e ≡ answer.Damaged k → NamesFault (IsAtFault content shape entries) e → ⊥
    no_damage table content entries shape e k are_first same sorted are usual damaged fault =
        no_fault content entries shape k
        (same ∙ content_is table are_first (subst (λ (l : List DirectoryRecord). IsStrictlySortedBy key_cmp (keys_of l)) same sorted)) are usual
        (subst (NamesFault (IsAtFault content shape entries)) damaged fault)
