-- The rows of lsdg, and its lines.
use Rattle.std.specs.Prelude.{◌≡◌, ◌⊎◌, ⊤, Bool, true, false, List, [], ◌∷◌, map, codes, is_none, is_some, Option, Some, None, MatchBool, if◌then◌else◌}
use Rattle.refusal_lines.specs.declared.refusal.Refusal.{Refusal}
use Rattle.refusal_lines.specs.declared.refusal.Refusal.TheVariants as cause
use Rattle.asm_group.specs.Names.{Bytes, is_same_name}
use Rattle.asm_world.specs.Reports.{dismounted_line, group_head, mounted_line}
use Rattle.asm_world.specs.World.{SessionEntry, entry_among}
use Rattle.asmcmd.specs.Texts as texts
use Rattle.asmcmd.specs.declared.rows.GroupRow.{GroupRow}
use Rattle.session.specs.group_engine.Making.{dismounted_by}
use Rattle.session.specs.group_engine.Mounts.{MountedGroup}
use Rattle.group_reports.specs.Disks.{group_row}
use Rattle.session.specs.Entries.{state_view}
use Rattle.session.specs.Sessions.{SessionView}

abbrev pub is_asked : Option Bytes → Bytes → Bool
is_asked None name = true
is_asked (Some asked) name = is_same_name name asked

-- the groups that are asked for, with their names
abbrev pub groups_asked : Option Bytes → List SessionEntry → List MountedGroup → List (Bytes × MountedGroup)
groups_asked group (e ∷ entries) (m ∷ groups) =
    let others = groups_asked group entries groups in
    if is_asked group e.name then (e.name, m) ∷ others else others
groups_asked group entries groups = []

-- ---- rows

-- The row of a group under this name: of one that no disk dismounted what its tables and its status say.
abbrev pub IsRowOf : Bytes → MountedGroup → GroupRow → Type 0
IsRowOf name m row = MatchBool (is_none (dismounted_by m.access))
    (row ≡ texts.mounted_row name m.catalog.shape (group_row m.catalog m.register.value.entries))
    ((row.state ≡ codes "DISMOUNTED") × (row.name ≡ name))

-- each group has its row
abbrev pub AreRows : List (Bytes × MountedGroup) → List GroupRow → Type 0
AreRows [] [] = ⊤
AreRows (g ∷ groups) (row ∷ rows) = IsRowOf g.0 g.1 row × AreRows groups rows
AreRows groups rows = ⊥

-- the rows are those of the groups that are asked for, in the order of mounting
abbrev pub AreAskedRows : SessionView → Option Bytes → List GroupRow → Type 0
AreAskedRows session group rows = AreRows (groups_asked group session.entries session.groups) rows

-- ---- lines

-- the line of a group under this name
abbrev pub line_of : Bytes × MountedGroup → Bytes
line_of g = if is_none (dismounted_by g.1.access) then mounted_line g.0 g.1.catalog.shape (group_row g.1.catalog g.1.register.value.entries) else dismounted_line g.0

-- each entry has its group, and is in its state
abbrev pub AreStatesOf : List SessionEntry → List MountedGroup → Type 0
AreStatesOf [] [] = ⊤
AreStatesOf (e ∷ entries) (m ∷ groups) = (e.state ≡ state_view m) × AreStatesOf entries groups
AreStatesOf entries groups = ⊥

-- the lines of lsdg
pub record AreLinesOf (session : SessionView) (group : Option Bytes) (lines : List Bytes) : Type 0 where
  pub states : AreStatesOf session.entries session.groups
  pub are : lines ≡ group_head ∷ map line_of (groups_asked group session.entries session.groups)

-- whether a group of the name is in the session, where one is said
abbrev pub is_group_there : List SessionEntry → Option Bytes → Bool
is_group_there entries None = true
is_group_there entries (Some name) = is_some (entry_among entries name)

abbrev pub AreGroupsTold : SessionView → Option Bytes → List Bytes → Type 0
AreGroupsTold session group lines = (is_group_there session.entries group ≡ true) × AreLinesOf session group lines

-- No group has the name. Want of memory is free.
abbrev pub IsNoGroup : List SessionEntry → Option Bytes → Refusal → Type 0
IsNoGroup entries group refusal = ((is_group_there entries group ≡ false) × (refusal ≡ cause.NoGroup)) ⊎ (refusal ≡ cause.NoMemory)
