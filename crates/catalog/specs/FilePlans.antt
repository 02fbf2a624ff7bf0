-- What plans of attributes and of files lead to.
use Rattle.std.specs.Prelude.{◌≡◌, ◌⊎◌, ◌<◌, ◌==◌, ℕ, Bool, true, List, Option, Some, None, if◌then◌else◌}
use Rattle.asm_group.specs.declared.PendingKind.TheVariants.{Shrink}
use Rattle.asm_group.specs.Names.{Bytes}
use Rattle.asm_group.specs.Shape.{Shape}
use Rattle.asm_formats.specs.Items.{FileHead, Key, Pending, Settings}
use Rattle.asm_base.specs.Records.{DirectoryRecord}
use Rattle.refusal_lines.specs.declared.refusal.Refusal.{Refusal}
use Rattle.refusal_lines.specs.declared.refusal.Refusal.TheVariants as cause
use Rattle.plan_records.specs.file_directory.Files.{NumberedFile, head_at, is_file_number, with_head, without_head}
use Rattle.plan_records.specs.alias_tree.Nodes.{Numbered, without_numbered_node}
use Rattle.plan_records.specs.attribute_values.Edits.{settings_with}
pub use Rattle.plan_records.specs.Heads.{with_size}
pub use Rattle.plan_records.specs.Operations.{HasSoMany, removal_of}
use Rattle.catalog.specs.Plans.{AreOwned, IsPlan}
use Rattle.plan_records.specs.catalog_tables.Rules.{HasExtents}
use Rattle.plan_records.specs.catalog_tables.Tables.{Catalogued, Tables}

-- ---- attributes

-- the change leads to the catalog's tables with the settings that have this value of the attribute
pub record IsAttributePlan (c : Catalogued) (name value : Bytes) (put : List DirectoryRecord) (gone : List Key) : Type 0 where
  pub settings : Settings
  pub edited : settings_with c.tables.templates.settings name value ≡ Some settings
  pub plan : IsPlan c put gone (record c.tables { templates = record c.tables.templates { settings = settings } })

-- want of memory, or there is no such attribute or value
abbrev pub IsAttributeRefusal : Catalogued → Bytes → Bytes → Refusal → Type 0
IsAttributeRefusal c name value refusal =
    (refusal ≡ cause.NoMemory) ⊎ ((refusal ≡ cause.BadAttribute name) × (settings_with c.tables.templates.settings name value ≡ None))

-- no operation is pending, or one on a file that has a head
abbrev pub is_on_file : List NumberedFile → Option Pending → Bool
is_on_file files None = true
is_on_file files (Some op) = is_file_number files op.file

-- ---- sizes

-- where the file grows to this size, each extent that it has then is there with its copies
abbrev pub MayGrow : Shape → Tables → ℕ → ℕ → Type 0
MayGrow s t f size = (head : FileHead) → head_at t.files f ≡ Some head → head.size < size → HasExtents t s (f, with_size head size)

-- the tables with another size of a file, and with this pending operation
abbrev pub tables_with_size : Tables → ℕ → FileHead → ℕ → Option Pending → Tables
tables_with_size t f head size pending = record t { files = with_head t.files f (with_size head size); operations = record t.operations { pending = pending } }

-- The pending operation once a file has another size: none where it grew; its shrinking to the extents that it has then, where it shrank; and the one before where it is as long as it was.
pub record IsPendingAfter (s : Shape) (f : ℕ) (head : FileHead) (size : ℕ) (before after : Option Pending) : Type 0 where
  pub grown : head.size < size → after ≡ None
  pub shrunk : size < head.size → (kept : ℕ) × (after ≡ Some (record { kind = Shrink; file = f; kept = kept })) × HasSoMany s (with_size head size) kept
  pub as_long : size ≡ head.size → after ≡ before

-- The change leads to the catalog's tables with this size of the file, where each chunk is then one of a file or of the pending operation's; as it is where the operation that was pending is on a file that has a head.
pub record IsSizePlan (c : Catalogued) (f size : ℕ) (put : List DirectoryRecord) (gone : List Key) : Type 0 where
  pub head : FileHead
  pub file : head_at c.tables.files f ≡ Some head
  pub pending : Option Pending
  pub operation : IsPendingAfter c.shape f head size c.tables.operations.pending pending
  pub plan : AreOwned (tables_with_size c.tables f head size pending) → IsPlan c put gone (tables_with_size c.tables f head size pending)
  pub owned : is_on_file c.tables.files c.tables.operations.pending ≡ true → AreOwned (tables_with_size c.tables f head size pending)

-- ---- removals

-- the nodes without those of a file's names
abbrev pub without_names : List Numbered → FileHead → List Numbered
without_names nodes head = if head.alias == 0 then without_numbered_node nodes head.system else without_numbered_node (without_numbered_node nodes head.system) head.alias

-- the tables without a file and its names, whose removal is the pending operation
abbrev pub with_removal_pending : Tables → ℕ → FileHead → Tables
with_removal_pending t f head = record t { files = without_head t.files f; nodes = without_names t.nodes head; operations = record t.operations { pending = Some (removal_of f) } }

-- The change leads to these tables, where each chunk is then one of a file or of the removal; as it is where the operation that was pending is on a file that has a head.
pub record IsRemovalPlan (c : Catalogued) (f : ℕ) (put : List DirectoryRecord) (gone : List Key) : Type 0 where
  pub head : FileHead
  pub file : head_at c.tables.files f ≡ Some head
  pub plan : AreOwned (with_removal_pending c.tables f head) → IsPlan c put gone (with_removal_pending c.tables f head)
  pub owned : is_on_file c.tables.files c.tables.operations.pending ≡ true → AreOwned (with_removal_pending c.tables f head)
