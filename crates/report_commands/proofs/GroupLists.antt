-- The rows of lsdg, group by group.
use Rattle.std.proofs.Common.{◌≡◌, ⊎_elim, Bool, true, false, List, [], ◌∷◌, ◌++◌, map, Option, refl, sym, ap, ◌∙◌, append_assoc, subst}
use Rattle.std.specs.Prelude.{codes, is_none, if◌then◌else◌}
use Rattle.std.proofs.lemmas.Bool.{cases_Bool}
use Rattle.std.proofs.lemmas.List.{append-nil}
use Rattle.asm_group.specs.Names.{Bytes}
use Rattle.asm_world.specs.Reports.{dismounted_line, group_head, mounted_line}
use Rattle.asm_world.specs.World.{SessionEntry}
use Rattle.asmcmd.proofs.Shown.{rows_are_lines}
use Rattle.asmcmd.specs.Texts as texts
use Rattle.asmcmd.specs.declared.rows.GroupRow.{GroupRow}
use Rattle.session.specs.group_engine.Making.{dismounted_by}
use Rattle.session.specs.group_engine.Mounts.{MountedGroup}
use Rattle.group_reports.specs.Disks.{group_row}
use Rattle.session.specs.declared.entry.Entry.{Entry}
use Rattle.session.specs.declared.group_name.GroupName.{GroupName}
use Rattle.session.specs.Entries.{entry_view, group_view}
use Rattle.session.specs.Sessions.{SessionView}
use Rattle.report_commands.specs.GroupRows.{AreLinesOf, AreRows, AreAskedRows, AreStatesOf, IsRowOf, groups_asked, is_asked, line_of}

abbrev pub Pairs : Type 0
Pairs = List (GroupName × Entry)

abbrev Named : Type 0
Named = Bytes × MountedGroup

-- ---- one row

pub mounted_is : (name : Bytes) (m : MountedGroup) (row : GroupRow) → is_none (dismounted_by m.access) ≡ true
    → row ≡ texts.mounted_row name m.catalog.shape (group_row m.catalog m.register.value.entries) → IsRowOf name m row
mounted_is name m row on is = rw on is

pub dismounted_is : (name : Bytes) (m : MountedGroup) (row : GroupRow) → is_none (dismounted_by m.access) ≡ false → row.state ≡ codes "DISMOUNTED" → row.name ≡ name → IsRowOf name m row
dismounted_is name m row off state named = rw off (state, named)

-- ---- those of all groups

row_behind : (gs : List Named) (rows : List GroupRow) (g : Named) (row : GroupRow) → AreRows gs rows → IsRowOf g.0 g.1 row → AreRows (gs ++ g ∷ []) (rows ++ row ∷ [])
row_behind [] [] g row all is = (is, tt)
row_behind (x ∷ gs) (r ∷ rows) g row all is = (all.0, row_behind gs rows g row all.1 is)
row_behind [] (r ∷ rows) g row all is = absurd all
row_behind (x ∷ gs) [] g row all is = absurd all

abbrev asked_of : Option Bytes → Pairs → List Named
asked_of group es = groups_asked group (map entry_view es) (map group_view es)

-- the rows so far are those of the groups before those that are left
pub record AreSoFar (group : Option Bytes) (left : Pairs) (rows : List GroupRow) (all : List (Bytes × MountedGroup)) : Type 0 where
  pub told : List (Bytes × MountedGroup)
  pub are : AreRows told rows
  pub is : told ++ groups_asked group (map entry_view left) (map group_view left) ≡ all

pub asked_more : (group : Option Bytes) (left next : Pairs) (e : GroupName × Entry) (rows more : List GroupRow) (row : GroupRow) (all : List (Bytes × MountedGroup)) → left ≡ e ∷ next → AreSoFar group left rows all
    → is_asked group e.0.name ≡ true → IsRowOf e.0.name e.1.group row → more ≡ rows ++ row ∷ [] → AreSoFar group next more all
asked_more group left next e rows more row all split so_far asked is put =
    let one : asked_of group left ≡ (e.0.name, e.1.group) ∷ asked_of group next = ap (asked_of group) split ∙ rw asked refl in
    record {
      told = so_far.told ++ (e.0.name, e.1.group) ∷ [];
      are = rw put (row_behind so_far.told rows (e.0.name, e.1.group) row so_far.are is);
      is = append_assoc so_far.told ((e.0.name, e.1.group) ∷ []) (asked_of group next) ∙ (ap (λ (gs : List Named). so_far.told ++ gs) (sym one) ∙ so_far.is);
    }

pub asked_not : (group : Option Bytes) (left next : Pairs) (e : GroupName × Entry) (rows : List GroupRow) (all : List (Bytes × MountedGroup)) → left ≡ e ∷ next → AreSoFar group left rows all → is_asked group e.0.name ≡ false
    → AreSoFar group next rows all
asked_not group left next e rows all split so_far asked =
    let same : asked_of group left ≡ asked_of group next = ap (asked_of group) split ∙ rw asked refl in
    record { told = so_far.told; are = so_far.are; is = ap (λ (gs : List Named). so_far.told ++ gs) (sym same) ∙ so_far.is }

pub asked_end : (group : Option Bytes) (left : Pairs) (rows : List GroupRow) (all : List (Bytes × MountedGroup)) → left ≡ [] → AreSoFar group left rows all → AreRows all rows
asked_end group left rows all none so_far =
    let is : so_far.told ≡ all = sym (append-nil so_far.told) ∙ (ap (λ (es : Pairs). so_far.told ++ asked_of group es) (sym none) ∙ so_far.is) in
    subst (λ (gs : List Named). AreRows gs rows) is so_far.are

-- ---- their lines

row_line : (g : Named) (row : GroupRow) → IsRowOf g.0 g.1 row → texts.group_row_line row ≡ line_of g
row_line g row is =
    let on : Bool → Bytes = λ (t : Bool). if t then mounted_line g.0 g.1.catalog.shape (group_row g.1.catalog g.1.register.value.entries) else dismounted_line g.0 in
    ⊎_elim
    (λ (mounted : is_none (dismounted_by g.1.access) ≡ true).
    let row_is : row ≡ texts.mounted_row g.0 g.1.catalog.shape (group_row g.1.catalog g.1.register.value.entries) = rw mounted at is in
    ap texts.group_row_line row_is ∙ rows_are_lines.mounted g.0 g.1.catalog.shape (group_row g.1.catalog g.1.register.value.entries) ∙ ap on (sym mounted))
    (λ (off : is_none (dismounted_by g.1.access) ≡ false).
    let row_is : (row.state ≡ codes "DISMOUNTED") × (row.name ≡ g.0) = rw off at is in
    rows_are_lines.dismounted row row_is.0 ∙ ap dismounted_line row_is.1 ∙ ap on (sym off))
    (cases_Bool (is_none (dismounted_by g.1.access)))

row_lines : (gs : List Named) (rows : List GroupRow) → AreRows gs rows → map texts.group_row_line rows ≡ map line_of gs
row_lines [] [] are = refl
row_lines (g ∷ gs) (row ∷ rows) are = λ i. row_line g row are.0 i ∷ row_lines gs rows are.1 i
row_lines [] (row ∷ rows) are = absurd are
row_lines (g ∷ gs) [] are = absurd are

states_of : (es : Pairs) → AreStatesOf (map entry_view es) (map group_view es)
states_of [] = tt
states_of (p ∷ es) = (refl, states_of es)

pub lines_are : (session : SessionView) (group : Option Bytes) (es : Pairs) (rows : List GroupRow) (lines : List Bytes) → map entry_view es ≡ session.entries → map group_view es ≡ session.groups → AreAskedRows session group rows
    → lines ≡ texts.group_lines rows → AreLinesOf session group lines
lines_are session group es rows lines entries groups are is = record {
  states = subst (λ (l : List SessionEntry). AreStatesOf l session.groups) entries (subst (λ (l : List MountedGroup). AreStatesOf (map entry_view es) l) groups (states_of es));
  are = is ∙ ap (λ (l : List Bytes). group_head ∷ l) (row_lines (groups_asked group session.entries session.groups) rows are);
}
