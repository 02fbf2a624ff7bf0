-- What ls tells by the tables of a group, as the world's, and the names of groups in folded order.
use Rattle.std.specs.Prelude.{◌≡◌, ◌&&◌, ℕ, List, [], ◌∷◌, ◌++◌, length, map, filter, filter_map, Option, Some, None, if◌then◌else◌}
use Rattle.std.specs.List.{insert}
use Rattle.std.specs.Ordering.{is_lt}
use Rattle.asm_base.specs.Names.{folded_cmp}
use Rattle.refusal_lines.specs.Refusals.{meaning_of}
use Rattle.refusal_lines.specs.declared.refusal.Refusal.{Refusal}
use Rattle.asm_formats.specs.Among.{IsAmong}
use Rattle.asm_group.specs.Group.{Cell}
use Rattle.asm_group.specs.Names.{Bytes, Path, folded}
use Rattle.asm_group.specs.Shape.{Shape}
use Rattle.asm_world.specs.Causes.{IsCaused, decided, list_causes}
use Rattle.asm_world.specs.Listings as world
use Rattle.asm_world.specs.World.{SessionEntry, World, is_mounted}
use Rattle.asmcmd.specs.Texts as texts
use Rattle.asmcmd.specs.declared.rows.LsRow.{LsRow}
use Rattle.catalog_tables.specs.Rules.{KeepsRules}
use Rattle.catalog_tables.specs.Tables.{AreTables, Tables}
use Rattle.group_of.specs.Groups.{group_of}
use Rattle.group_reports.specs.Listing.{AreRowsAt, list_refusal, star}

-- ---- in a group

-- The rows of ls are the world's, where the tables keep their rules: each file has its names, and each name its file.
abbrev pub RowsAreWorlds : Type 0
RowsAreWorlds =
    (name : Bytes) (s : Shape) (t : Tables) (cells : ℕ → List Cell) (parts : Path) (rows : List LsRow) → KeepsRules s t → AreRowsAt t name parts rows
    → rows ≡ map texts.listed_row (world.rows_at (group_of name s t cells) parts)

-- What has rows has no cause.
abbrev pub ListsAreUncaused : Type 0
ListsAreUncaused =
    (name : Bytes) (s : Shape) (t : Tables) (cells : ℕ → List Cell) (parts : Path) (rows : List LsRow) → AreTables t → AreRowsAt t name parts rows
    → decided (list_causes (group_of name s t cells) parts) ≡ None

-- What is refused by the tables is refused by the world.
abbrev pub ListsAreRefused : Type 0
ListsAreRefused =
    (name : Bytes) (s : Shape) (t : Tables) (cells : ℕ → List Cell) (parts : Path) (refusal : Refusal) → AreTables t → list_refusal t parts ≡ Some refusal
    → IsCaused (list_causes (group_of name s t cells) parts) (meaning_of (λ _. []) refusal)

-- ---- the names of groups

-- how many of some names come before a name in folded order
abbrev pub names_before : Bytes → List Bytes → ℕ
names_before name names = length (filter (λ other. is_lt (folded_cmp other name)) names)

-- none of the texts is the name without case
abbrev pub LacksName : List Bytes → Bytes → Type 0
LacksName texts name = (text : Bytes) → IsAmong texts text → folded text ≡ folded name → ⊥

-- A name that is put behind the names before it stands in folded order there.
abbrev pub NamesAreInserted : Type 0
NamesAreInserted =
    (texts names : List Bytes) (name : Bytes) → names ≡ world.in_order texts → LacksName texts name
    → insert names (names_before name names) name ≡ world.in_order (texts ++ name ∷ [])

abbrev pub matching_names : Bytes → List Bytes → List Bytes
matching_names pattern names = filter_map (λ name. if world.is_match pattern name then Some name else None) names

-- The names that match are the same whether they are taken before or after all are put in order.
abbrev pub MatchesAreInOrder : Type 0
MatchesAreInOrder = (pattern : Bytes) (texts : List Bytes) → world.in_order (matching_names pattern texts) ≡ matching_names pattern (world.in_order texts)

-- the name of a mounted group, if it matches
abbrev pub matching_name : Bytes → SessionEntry → Option Bytes
matching_name pattern entry = if is_mounted entry && world.is_match pattern entry.name then Some entry.name else None

-- The names of the mounted groups that match, put in order, are the world's.
abbrev pub GroupsAreWorlds : Type 0
GroupsAreWorlds = (w : World) (pattern : Bytes) → world.in_order (filter_map (matching_name pattern) w.session) ≡ world.matching_groups w pattern

-- All names match `*`, as at `+`.
abbrev pub AllMatchStar : Type 0
AllMatchStar = (names : List Bytes) → matching_names star names ≡ names
