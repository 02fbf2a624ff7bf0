-- Edits of tables: the tables to which each leads, and why one is refused.
use Rattle.std.proofs.Common.{◌≡◌, ◌⊎◌, inl, inr, ℕ, true, false, List, [], Result, Ok, refl, true≢false}
use Rattle.asm_base.specs.Records.{DirectoryRecord}
use Rattle.refusal_lines.specs.Refusals.{meaning_of}
use Rattle.refusal_lines.specs.declared.refusal.Refusal.{Refusal}
use Rattle.refusal_lines.specs.declared.refusal.Refusal.TheVariants as cause
use Rattle.asm_formats.specs.Items.{Key}
use Rattle.asm_group.specs.Causes.{first_cause}
use Rattle.asm_group.specs.Group.{Cell, Group}
use Rattle.asm_group.specs.Names.{Bytes}
use Rattle.asm_group.specs.Refusal as r
use Rattle.asm_group.specs.TreeEdits as e
use Rattle.asm_world.specs.Edits as world
use Rattle.alias_edits.specs.Edits as names
use Rattle.alias_tree.specs.Trees.{tree_of}
use Rattle.session.specs.catalog_tables.Changing.{IsAfter}
use Rattle.session.specs.catalog_tables.Tables.{Catalogued, Tables}
use Rattle.session.specs.edit_laws.Edits.{edited_by}
use Rattle.session.proofs.edit_laws.OfTables.{refusal_is_of_tables}
use Rattle.session.specs.group_files.GroupEdits.{IsEditPlan, IsEditRefusedAs}
use Rattle.session.specs.group_files.declared.edit.GroupEdit.{GroupEdit}
use Rattle.session.specs.group_files.declared.edit.GroupEdit.TheVariants.{Tree, Templates, SetAttribute}
use Rattle.session.specs.group_of.Edits.{IsRefusedBeside, IsWorldsRefusal, full, no_memory, same_refusal, with_settings, with_templates, with_tree, worlds}
use Rattle.session.specs.group_of.Groups.{group_of}
use Rattle.session.proofs.group_of.Refusals.{refuses_too}
use Rattle.world_steps.specs.Steps.{tells_disk}
use Rattle.name_commands.specs.Asking.{wants_record}

-- ---- plans

-- the tables to which the plan of an edit leads
abbrev pub planned : (c : Catalogued) (edit : GroupEdit) (put : List DirectoryRecord) (gone : List Key) → IsEditPlan c edit put gone → Tables
planned c (Tree edit) put gone p = with_tree c.tables (names.edit_meant edit) p.nodes
planned c (Templates edit) put gone p = with_templates c.tables p.templates
planned c (SetAttribute name value) put gone p = with_settings c.tables p.settings

pub planned_after : (c : Catalogued) (edit : GroupEdit) (put : List DirectoryRecord) (gone : List Key) (p : IsEditPlan c edit put gone) → IsAfter c.tables put gone (planned c edit put gone p)
planned_after c (Tree edit) put gone p = p.plan.after
planned_after c (Templates edit) put gone p = p.plan.after
planned_after c (SetAttribute name value) put gone p = p.plan.after

-- ---- refusals

-- The world does the edit, and no block is free for the record of its name.
pub record LacksBlock (answer : Result Group r.Refusal) (edit : GroupEdit) (refusal : Refusal) : Type 0 where
  pub need : ℕ
  pub free : ℕ
  pub done : Group
  pub wants : wants_record edit ≡ true
  pub is : refusal ≡ cause.DirectoryFull need free
  pub answer_is : answer ≡ Ok done

-- why an edit is refused: by the world, or for want of a block
abbrev pub IsRefusedBy : Result Group r.Refusal → GroupEdit → Refusal → Type 0
IsRefusedBy answer edit refusal = IsWorldsRefusal answer refusal ⊎ LacksBlock answer edit refusal

lacks : (answer : Result Group r.Refusal) (edit : GroupEdit) (refusal : Refusal) → wants_record edit ≡ true → IsRefusedBeside answer refusal → IsRefusedBy answer edit refusal
lacks answer edit refusal wants (worlds why) = inl why
lacks answer edit refusal wants (full need free done is few answer_is) = inr (record { need = need; free = free; done = done; wants = wants; is = is; answer_is = answer_is })

pub refused_by : (name : Bytes) (c : Catalogued) (cells : ℕ → List Cell) (edit : GroupEdit) (refusal : Refusal) → IsEditRefusedAs c edit refusal → IsRefusedBy (edited_by (group_of name c.shape c.tables cells) edit) edit refusal
unfolding group_of
refused_by name c cells (Tree edit) refusal (inl memory) = inl (no_memory memory)
refused_by name c cells (Tree edit) refusal (inr (inl same)) =
    let meant = names.edit_meant edit in
    inl (same_refusal (refuses_too (first_cause (e.edit_causes (tree_of c.tables.nodes) meant)) (e.changed (tree_of c.tables.nodes) meant) (world.changed_group (group_of name c.shape c.tables cells) meant) (meaning_of (λ n. []) refusal) same))
refused_by name c cells (Tree edit) refusal (inr (inr (is, few))) =
    lacks (edited_by (group_of name c.shape c.tables cells) (Tree edit)) (Tree edit) refusal few.makes (refusal_is_of_tables name c cells (Tree edit) refusal (inr (inr (is, few))))
refused_by name c cells (Templates edit) refusal why = inl (refusal_is_of_tables name c cells (Templates edit) refusal why)
refused_by name c cells (SetAttribute attribute value) refusal why = inl (refusal_is_of_tables name c cells (SetAttribute attribute value) refusal why)

-- a refusal that tells no disk says the same whatever the names of disks
pub as_is : (names : ℕ → Bytes) (raw : Refusal) → tells_disk (meaning_of (λ _. []) raw) ≡ false → meaning_of names raw ≡ meaning_of (λ _. []) raw
unfolding meaning_of
as_is names (cause.NoDisk x) none = absurd (true≢false none)
as_is names (cause.TooSmall x n) none = absurd (true≢false none)
as_is names (cause.MissingDisks x) none = absurd (true≢false none)
as_is names (cause.ReadFault x) none = absurd (true≢false none)
as_is names (cause.WriteFault x) none = absurd (true≢false none)
as_is names (cause.Dismounted x) none = absurd (true≢false none)
as_is names (cause.DiskState x mode) none = absurd (true≢false none)
as_is names (cause.HoldsStatus x) none = absurd (true≢false none)
as_is names (cause.HoldsDirectories x) none = absurd (true≢false none)
as_is names other none = refl
