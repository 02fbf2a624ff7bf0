-- An edit of a mounted group, by the laws of its tables and of its commits.
use Rattle.std.proofs.Common.{◌≡◌, ◌+◌, ◌<◌, ◌^◌, ℕ, List, Result, Ok, Err, refl, sym, ap, subst, ◌∙◌}
use Rattle.std.specs.Prelude.{OnErr, OnOk}
use Rattle.std.specs.FinMap as maps
use Rattle.bay.specs.State.{BayState}
use Rattle.bay.specs.Moments.{NowOnly}
use Rattle.asm_group.specs.Names.{ByNumber}
use Rattle.asm_group.specs.Group.{File, Group}
use Rattle.asm_group.specs.Refusal as r
use Rattle.asm_formats.specs.Items.{Key}
use Rattle.asm_base.specs.Records.{DirectoryRecord}
use Rattle.refusal_lines.specs.declared.refusal.Refusal.{Refusal}
use Rattle.asm_images.specs.Kept.{Kept}
use Rattle.group_files.specs.alias_edits.Edits as names
use Rattle.group_files.specs.template_directory.Meant as templates
use Rattle.group_files.specs.catalog_tables.Changing.{IsAfter}
use Rattle.group_files.specs.catalog_tables.Tables.{AreTables, Tables}
use Rattle.group_files.specs.group_engine.Becoming.{HoldsIn, SameBytes}
use Rattle.group_files.specs.group_engine.Commits.{LeadsTo}
use Rattle.group_files.specs.group_engine.Mounts.{MountedGroup, Mounts}
use Rattle.group_files.proofs.group_engine.Bytes.{mounted_holds, same_bytes_hold}
use Rattle.group_files.specs.declared.edit.GroupEdit.TheVariants.{Tree, Templates, SetAttribute}
use Rattle.group_files.specs.group_of.Groups.{cells_of, group_of}
use Rattle.group_files.specs.group_of.Describing.{IsDescribed}
use Rattle.group_files.specs.group_of.Edits.{LeadsOn, with_settings, with_templates, with_tree}
use Rattle.group_files.proofs.group_of.Leading.{attribute_leads_on, described_is_of_catalog, template_leads_on, tree_leads_on}
use Rattle.group_files.proofs.group_of.Refusals.{attribute_refusals, template_refusals, tree_refusals}
use Rattle.edit_laws.specs.Edits.{EditIsHeld, EditIsRefused, EditLeadsTo, IsEditRefusedIn, edited_by}

module _ (n : ℕ) (m : MountedGroup) (s : BayState) (g : Group) (kept : Kept) (mounts : Mounts n m s g kept) where
  described : IsDescribed m.register.value m.catalog g
  described = record { tables = mounts.whole.are_tables; units = mounts.whole.units; shape = mounts.represents.shape; describes = mounts.represents.describes }

  -- a commit to tables with the same extents and marks, by which the files are the same
  module _ (put : List DirectoryRecord) (gone : List Key) (u : Tables) (tables : AreTables u) (answer : Result Group r.Refusal) (l : LeadsOn m.register.value u g answer) where
    same_bytes : u.extents ≡ m.catalog.tables.extents → u.stale ≡ m.catalog.tables.stale → SameBytes m.catalog.tables u g l.group
    same_bytes extents stale = record {
      extents = extents;
      stale = stale;
      shape = l.shape;
      cells = λ f o b file at known. (file, ap (λ (files : ByNumber File). maps.get files f) (sym l.files) ∙ at, refl, known);
    }

    holds : u.extents ≡ m.catalog.tables.extents → u.stale ≡ m.catalog.tables.stale → NowOnly s (HoldsIn m.register.id m.register.value u l.group)
    holds extents stale = record {
      now = λ image left. same_bytes_hold m.register.id m.register.value m.catalog.tables u g l.group image mounts.whole.are_tables tables (same_bytes extents stale)
          ((mounted_holds n m s g kept mounts).now image left);
    }

    leads : m.register.turn + 1 < 2 ^ 64 → IsAfter m.catalog.tables put gone u → u.extents ≡ m.catalog.tables.extents → u.stale ≡ m.catalog.tables.stale
        → (h : Group) × (answer ≡ Ok h) × LeadsTo n m put gone s g h kept
    leads turns after extents stale =
        let to : LeadsTo n m put gone s g l.group kept = record {
          mounts = mounts;
          tables = u;
          after = after;
          leads = record { name = l.name; shape = l.shape; describes = l.describes };
          holds = holds extents stale;
          turns = turns;
        } in
        (l.group, l.is, to)

  -- the group is that of the catalog's tables
  by_catalog : (P : Group → Type 0) → P (group_of g.name m.catalog.shape m.catalog.tables (cells_of g)) → P g
  by_catalog P is = subst P (sym (described_is_of_catalog m.register.value m.catalog g described)) is

module _ (s : BayState) where
  pub edit_leads_to : EditLeadsTo s
  edit_leads_to n m g kept (Tree edit) put gone takes p =
      leads n m s g kept takes.mounts put gone (with_tree m.catalog.tables (names.edit_meant edit) p.nodes) p.plan.rules.tables (edited_by g (Tree edit))
      (tree_leads_on m.register.value m.catalog g (names.edit_meant edit) put gone (described n m s g kept takes.mounts) p) takes.turns p.plan.after refl refl
  edit_leads_to n m g kept (Templates edit) put gone takes p =
      leads n m s g kept takes.mounts put gone (with_templates m.catalog.tables p.templates) p.plan.rules.tables (edited_by g (Templates edit))
      (template_leads_on m.register.value m.catalog g (templates.template_edit_meant edit) put gone (described n m s g kept takes.mounts) p) takes.turns p.plan.after refl refl
  edit_leads_to n m g kept (SetAttribute name value) put gone takes p =
      leads n m s g kept takes.mounts put gone (with_settings m.catalog.tables p.settings) p.plan.rules.tables (edited_by g (SetAttribute name value))
      (attribute_leads_on m.register.value m.catalog g name value put gone (described n m s g kept takes.mounts) p) takes.turns p.plan.after refl refl

  pub edit_is_refused : EditIsRefused s
  edit_is_refused n m g kept (Tree edit) refusal mounts cause =
      by_catalog n m s g kept mounts (λ (h : Group). IsEditRefusedIn h (Tree edit) refusal) (tree_refusals g.name m.catalog (names.edit_meant edit) refusal (cells_of g) cause)
  edit_is_refused n m g kept (Templates edit) refusal mounts cause =
      by_catalog n m s g kept mounts (λ (h : Group). IsEditRefusedIn h (Templates edit) refusal) (template_refusals g.name m.catalog (templates.template_edit_meant edit) refusal (cells_of g) cause)
  edit_is_refused n m g kept (SetAttribute name value) refusal mounts cause =
      by_catalog n m s g kept mounts (λ (h : Group). IsEditRefusedIn h (SetAttribute name value) refusal) (attribute_refusals g.name m.catalog name value refusal (cells_of g) cause)

module _ (s t : BayState) where
  pub edit_is_held : EditIsHeld s t
  edit_is_held c edit is takes e =
      let l = edit_leads_to s c.n c.old c.g c.kept edit e.put e.gone takes e.change in
      let held = e.commits.held is in (
        l.0,
        l.1,
        record {
          moments = held.moments c.n c.g l.0 c.kept l.2;
          done = done c.answer held.done l.0 l.2;
          refused = λ mounted. refused c.answer (held.refused mounted);
        },
      )
    where
      done : (answer : Result (Unit {0}) Refusal) → OnOk answer ((n : ℕ) (g h : Group) (kept : Kept) → LeadsTo n c.old e.put e.gone s g h kept → (later : Kept) × (later.slots ≡ kept.slots) × Mounts n c.new t h later)
          → (h : Group) → LeadsTo c.n c.old e.put e.gone s c.g h c.kept → OnOk answer ((later : Kept) × (later.slots ≡ c.kept.slots) × Mounts c.n c.new t h later)
      done (Ok x) each h lead = each c.n c.g h c.kept lead
      done (Err x) each h lead = each

      refused : (answer : Result (Unit {0}) Refusal) → OnErr answer ((n : ℕ) (g : Group) (kept : Kept) → Mounts n c.old s g kept → Mounts n c.new t g kept) → OnErr answer (Mounts c.n c.new t c.g c.kept)
      refused (Ok x) each = each
      refused (Err x) each = each c.n c.g c.kept takes.mounts
