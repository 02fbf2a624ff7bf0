-- Plans: changes that lead to tables that keep the rules.
use Rattle.std.proofs.Common.{◌≡◌, ◌<◌, ◌^◌, ℕ, Bool, true, false, cond, List, [], ◌∷◌, Some, None, refl, ap, ◌∙◌, arith}
use Rattle.std.specs.Prelude.{◌||◌}
use Rattle.std.proofs.lemmas.Bool.{lt-ltb}
use Rattle.asm_group.specs.Shape.{Shape}
use Rattle.asm_formats.specs.Items.{Key, Pending, is_item, pending_item, rebalance_item}
use Rattle.asm_formats.specs.Values.{value}
use Rattle.asm_base.specs.Records.{DirectoryRecord, is_key}
use Rattle.asm_base.specs.Tables.{item_record}
use Rattle.plan_records.specs.operations_directory.Operations as operations
use Rattle.plan_records.proofs.operations_directory.ChangeLaws as operation_laws
use Rattle.plan_records.specs.catalog_tables.Changing.{IsAfter, Sets}
use Rattle.plan_records.specs.catalog_tables.Faults.{IsCatalog}
use Rattle.catalog.specs.Plans.{AreOwned, IsPlan}
use Rattle.plan_records.specs.catalog_tables.Rules.{KeepsRules, lacks_record}
use Rattle.plan_records.specs.catalog_tables.Tables.{AreTables, Catalogued, Tables, records_of}
use Rattle.plan_records.proofs.catalog_tables.SetLaws.{operations_set}
use Rattle.plan_records.proofs.catalog_tables.NewRecords.{nothing_room, old_room}
use Rattle.catalog.proofs.PutItems.{plan_is}

-- ---- one record that is put or goes

pub after_put : (t u : Tables) (e : DirectoryRecord) → AreTables u → Sets t u e.0 (Some e.1) → IsAfter t (e ∷ []) [] u
after_put t u e are sets = record { tables = are; records = sets }

pub or_false : (b : Bool) → b ≡ (b || false)
or_false true = refl
or_false false = refl

pub after_gone : (t u : Tables) (key : Key) → AreTables u → Sets t u key None → IsAfter t [] (key ∷ []) u
after_gone t u key are sets = record { tables = are; records = λ k. sets k ∙ ap (λ (b : Bool). cond b None (records_of t k)) (or_false (is_key key k)) }

-- ---- operations

with_operations : (t : Tables) (new : operations.Operations) → AreTables t → operations.IsOperationTable new → AreTables (record t { operations = new })
with_operations t new a is = record { files = a.files; extents = a.extents; nodes = a.nodes; templates = a.templates; stale = a.stale; operations = is; disks = a.disks }

operation_rules : (s : Shape) (t : Tables) (new : operations.Operations) → KeepsRules s t → operations.IsOperationTable new → AreOwned (record t { operations = new }) → KeepsRules s (record t { operations = new })
operation_rules s t new r is owned = record {
  tables = with_operations t new r.tables is;
  marked = r.marked;
  chunks = r.chunks;
  owned = owned;
  redundancy = r.redundancy;
  apart = r.apart;
  stale = r.stale;
  nodes = r.nodes;
  names = r.names;
  extents = r.extents;
  room = r.room;
}

put_plan : (c : Catalogued) (new : operations.Operations) (e : DirectoryRecord) (put : List DirectoryRecord) (gone : List Key) → IsCatalog c → operations.IsOperationTable new → AreOwned (record c.tables { operations = new })
    → Sets c.tables (record c.tables { operations = new }) e.0 (Some e.1) → lacks_record c.tables e.0 ≡ false → put ≡ e ∷ [] → gone ≡ [] → IsPlan c put gone (record c.tables { operations = new })
put_plan c new e put gone is table owned sets kept p g = rw (p, g) (plan_is c _ _ _
    (after_put c.tables (record c.tables { operations = new }) e (with_operations c.tables new is.rules.tables table) sets)
    (operation_rules c.shape c.tables new is.rules table owned)
    (λ es has. (c.units, has))
    (omega arith) refl (old_room c e is kept))

gone_plan : (c : Catalogued) (new : operations.Operations) (key : Key) (put : List DirectoryRecord) (gone : List Key) → IsCatalog c → operations.IsOperationTable new → AreOwned (record c.tables { operations = new })
    → Sets c.tables (record c.tables { operations = new }) key None → put ≡ [] → gone ≡ key ∷ [] → IsPlan c put gone (record c.tables { operations = new })
gone_plan c new key put gone is table owned sets p g = rw (p, g) (plan_is c _ _ _
    (after_gone c.tables (record c.tables { operations = new }) key (with_operations c.tables new is.rules.tables table) sets)
    (operation_rules c.shape c.tables new is.rules table owned)
    (λ es has. (c.units, has))
    (omega arith) refl (nothing_room c is))

pub operation_fits : (op op_inside : Pending) → op ≡ op_inside → op_inside.file < 2 ^ 32 → op_inside.kept < 2 ^ 64 → is_item (pending_item op) ≡ true
unfolding is_item
operation_fits op o same file kept = rw (same, lt-ltb o.file (2 ^ 32) file, lt-ltb o.kept (2 ^ 64) kept) refl

-- the key of the rebalance, and that of the pending operation
abbrev rebalance_key : Key
rebalance_key = record { kind = 4; a = 0; b = 0 }

abbrev pub pending_key : Key
pending_key = record { kind = 4; a = 1; b = 0 }

module _ (c : Catalogued) (put : List DirectoryRecord) (gone : List Key) (is : IsCatalog c) where
  abbrev old : operations.Operations
  old = c.tables.operations

  pub power_planned : (p : ℕ) → p < 2 ^ 16 → put ≡ item_record (rebalance_item p) ∷ [] → gone ≡ [] → IsPlan c put gone (record c.tables { operations = record old { rebalance = Some p } })
  unfolding is_item
  power_planned p few e g =
      let new = record old { rebalance = Some p } in
      put_plan c new (item_record (rebalance_item p)) put gone is (operation_laws.power_allowed old p (lt-ltb p (2 ^ 16) few) is.rules.tables.operations) is.rules.owned
      (operations_set c.tables new rebalance_key (Some (value (rebalance_item p))) refl (operation_laws.power_set old p)) refl e g

  pub no_power_planned : put ≡ [] → gone ≡ rebalance_key ∷ [] → IsPlan c put gone (record c.tables { operations = record old { rebalance = None } })
  no_power_planned e g =
      let new = record old { rebalance = None } in
      gone_plan c new rebalance_key put gone is (operation_laws.no_rebalance old new refl is.rules.tables.operations) is.rules.owned
      (operations_set c.tables new rebalance_key None refl (operation_laws.rebalance_gone old new rebalance_key refl refl refl refl)) e g

  pub begun_planned : (op : Pending) → is_item (pending_item op) ≡ true → put ≡ item_record (pending_item op) ∷ [] → gone ≡ []
      → AreOwned (record c.tables { operations = record old { pending = Some op } }) → IsPlan c put gone (record c.tables { operations = record old { pending = Some op } })
  begun_planned op ok e g owned =
      let new = record old { pending = Some op } in
      put_plan c new (item_record (pending_item op)) put gone is (operation_laws.operation_allowed old op ok is.rules.tables.operations) owned
      (operations_set c.tables new pending_key (Some (value (pending_item op))) refl (operation_laws.operation_set old op)) refl e g

  pub ended_planned : put ≡ [] → gone ≡ pending_key ∷ [] → AreOwned (record c.tables { operations = record old { pending = None } }) → IsPlan c put gone (record c.tables { operations = record old { pending = None } })
  ended_planned e g owned =
      let new = record old { pending = None } in
      gone_plan c new pending_key put gone is (operation_laws.no_pending old new refl is.rules.tables.operations) owned
      (operations_set c.tables new pending_key None refl (operation_laws.pending_gone old new pending_key refl refl refl refl)) e g
