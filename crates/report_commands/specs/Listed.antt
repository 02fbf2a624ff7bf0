-- What ls tells of groups and in a group, and why it is refused.
use Rattle.std.specs.Prelude.{◌≡◌, ◌⊎◌, Bool, false, List, [], ◌∷◌, map, MatchBool, Some}
use Rattle.std.specs.List.{filter_map}
use Rattle.refusal_lines.specs.declared.refusal.Refusal.{Refusal}
use Rattle.refusal_lines.specs.declared.refusal.Refusal.TheVariants as cause
use Rattle.asm_group.specs.Names.{Bytes, Path}
use Rattle.asm_world.specs.Listings.{has_star, in_order}
use Rattle.asm_world.specs.Reports.{Directory}
use Rattle.asm_world.specs.World.{SessionEntry}
use Rattle.asmcmd.specs.Texts as texts
use Rattle.asmcmd.specs.declared.rows.LsRow.{LsRow}
use Rattle.catalog_tables.specs.Rules.{KeepsRules}
use Rattle.group_reports.specs.Listing.{AreRowsAt, list_refusal, star}
use Rattle.session.specs.group_engine.Mounts.{MountedGroup}
use Rattle.report_laws.specs.Lists.{matching_name}
use Rattle.session.specs.Listing.{IsInGroup}
use Rattle.session.specs.Naming.{IsGroupOf, IsOutCause}
use Rattle.session.specs.Sessions.{SessionView}

-- the names of the mounted groups that match a pattern, in folded order
abbrev pub names_matching : Bytes → List SessionEntry → List Bytes
names_matching pattern entries = in_order (filter_map (matching_name pattern) entries)

abbrev pub rows_of_names : List Bytes → List LsRow
rows_of_names names = map (λ name. texts.listed_row (Directory name)) names

-- The rows are those in the mounted group of the name, by tables that keep their rules.
pub record AreRowsOfGroup (session : SessionView) (name : Bytes) (parts : Path) (rows : List LsRow) : Type 0 where
  pub group : MountedGroup
  pub is_group : IsGroupOf session name group
  pub rules : KeepsRules group.catalog.shape group.catalog.tables
  pub are : AreRowsAt group.catalog.tables group.name parts rows

-- of a path from the top: at the top the mounted groups, and those that match where the first part is a pattern, and the last
abbrev pub AreRowsListed : SessionView → List Bytes → List LsRow → Type 0
AreRowsListed session [] rows = rows ≡ rows_of_names (names_matching star session.entries)
AreRowsListed session (name ∷ []) rows = MatchBool (has_star name) (rows ≡ rows_of_names (names_matching name session.entries)) (AreRowsOfGroup session name [] rows)
AreRowsListed session (name ∷ part ∷ parts) rows = AreRowsOfGroup session name (part ∷ parts) rows

-- the lines of such rows
abbrev pub AreListLines : SessionView → Bool → List Bytes → List Bytes → Type 0
AreListLines session long parts lines = (rows : List LsRow) × AreRowsListed session parts rows × (lines ≡ texts.ls_row_lines long rows)

-- the group of the name isn't there or isn't mounted, or the path in it is refused by its tables
abbrev pub IsRefusedIn : SessionView → Bytes → Path → Refusal → Type 0
IsRefusedIn session name parts refusal = IsOutCause session.entries name refusal ⊎ IsInGroup session name (λ m. list_refusal m.catalog.tables parts ≡ Some refusal)

-- At the top, and of a pattern there, nothing is refused.
abbrev pub IsUnlistedAt : SessionView → List Bytes → Refusal → Type 0
IsUnlistedAt session [] refusal = ⊥
IsUnlistedAt session (name ∷ []) refusal = (has_star name ≡ false) × IsRefusedIn session name [] refusal
IsUnlistedAt session (name ∷ part ∷ parts) refusal = IsRefusedIn session name (part ∷ parts) refusal

-- Want of memory is free.
abbrev pub IsUnlisted : SessionView → List Bytes → Refusal → Type 0
IsUnlisted session parts refusal = (refusal ≡ cause.NoMemory) ⊎ IsUnlistedAt session parts refusal
