-- Why a command is refused: for each command its refusals in the order in which they are tried.
use Rattle.std.specs.Prelude.{◌≡◌, ◌⊎◌, ⊤, ℕ, ◌+◌, Bool, true, false, ◌&&◌, ◌==◌, not, nat_le, nat_lt, List, [], ◌∷◌, ◌++◌, length, map, Option, Some, None, is_some, is_none, unwrap_or, Result, Ok, Err, MatchBool, if◌then◌else◌}
use Rattle.std.specs.List.{list_any, filter_map}
use Rattle.std.specs.FinMap as maps
use Rattle.asm_group.specs.declared.GroupKind.{GroupKind}
use Rattle.asm_group.specs.declared.GroupKind.TheVariants.{Normal}
use Rattle.asm_group.specs.declared.Mode.{Mode}
use Rattle.asm_group.specs.declared.Mode.TheVariants as mode
use Rattle.asm_group.specs.Modes.{is_offline, is_online, serves}
use Rattle.asm_group.specs.Names.{Bytes, Path, is_same_name}
use Rattle.asm_group.specs.Group.{Group}
use Rattle.asm_group.specs.Refusal as r
use Rattle.asm_world.specs.Below.{Below}
use Rattle.asm_world.specs.Command as c
use Rattle.asm_world.specs.Edits as e
use Rattle.asm_world.specs.Files as f
use Rattle.asm_world.specs.Listings.{has_star}
use Rattle.asm_world.specs.NewDisks as n
use Rattle.asm_world.specs.Numbers as code
use Rattle.asm_world.specs.Numbers.{refusal_number}
use Rattle.asm_world.specs.Paths.{up, last_part, target_from, resolved, resolved_pattern, resolved_or_here, clause_path, is_host_path}
use Rattle.asm_world.specs.Reply.{Reply, Done, Refused}
use Rattle.asm_world.specs.Reports.{DiskRow}
use Rattle.asm_world.specs.Settings as t
use Rattle.asm_world.specs.Statement as s
use Rattle.asm_world.specs.Step.{edit_of}
use Rattle.asm_world.specs.Waiting.{Wait, Nothing, Rebalance, Resync, power_of, rebalance_wait, resync_wait}
use Rattle.asm_world.specs.World.{SessionEntry, SessionState, Mounted, DismountedBy, World, OutsideFile, NotTold, Absent, ToldBytes, entry_in, is_mounted, mounted_group}

-- ---- lists of causes

pub data Cause : Type 0 where
  -- the refusal comes here where the test is true
  When : (test : Bool) (refusal : r.Refusal) → Cause
  -- a refusal of this number may come here, by what lies below the world
  May : (number : ℕ) → Cause

-- The refusal has its place in the list, and no test before it is true.
abbrev pub IsCaused : List Cause → r.Refusal → Type 0
IsCaused [] refusal = ⊥
IsCaused (When test cause ∷ causes) refusal = MatchBool test (refusal ≡ cause) (IsCaused causes refusal)
IsCaused (May number ∷ causes) refusal = (refusal_number refusal ≡ number) ⊎ IsCaused causes refusal

-- The refusal that the tests decide: that of the first which is true. None where none is.
abbrev pub decided : List Cause → Option r.Refusal
decided [] = None
decided (When test refusal ∷ causes) = if test then Some refusal else decided causes
decided (May number ∷ causes) = decided causes

abbrev pub tested_causes : e.Causes → List Cause
tested_causes causes = map (λ (one : Bool × r.Refusal). When one.0 one.1) causes

-- refusals of these numbers may come
abbrev pub may : List ℕ → List Cause
may numbers = map (λ number. May number) numbers

abbrev pub by_result : {A : Type 0} → Result A r.Refusal → List Cause
by_result (Ok value) = []
by_result (Err cause) = When true cause ∷ []

-- ---- groups of the session

abbrev pub state_causes : SessionState → List Cause
state_causes Mounted = []
state_causes (DismountedBy disk) = When true (r.Dismounted disk) ∷ []

-- NoGroup where the name isn't in the session, and Dismounted where it is so
abbrev pub session_causes : World → Bytes → List Cause
session_causes w name = elim (entry_in w name) [ None ↦ When true r.NoGroup ∷ [] | Some entry ↦ state_causes entry.state ]

abbrev pub group_causes : Option Group → (Group → List Cause) → List Cause
group_causes None causes = []
group_causes (Some g) causes = causes g

-- on a group of this name
abbrev pub in_group : World → Bytes → (Group → List Cause) → List Cause
in_group w name causes = session_causes w name ++ group_causes (mounted_group w name) causes

abbrev pub at_target : World → Option (Bytes × Path) → (Path → Group → List Cause) → List Cause
at_target w None causes = When true r.NoGroup ∷ []
at_target w (Some (name, path)) causes = in_group w name (causes path)

-- on a path of a verb
abbrev pub at_path : World → Bytes → (Path → Group → List Cause) → List Cause
at_path w path causes = at_target w (target_from w.place path) causes

abbrev pub mounted_count : World → ℕ
mounted_count w = length (filter_map (λ (entry : SessionEntry). if is_mounted entry then Some entry else None) w.session)

abbrev pub too_many_groups : World → Cause
too_many_groups w = When (nat_le 8 (mounted_count w)) (r.TooMany r.Groups 8)

-- ---- names and templates

-- a commit may dismount the group, and where it makes a node it may want a block that isn't free
abbrev pub commit_causes : e.TreeEdit → List Cause
commit_causes (e.MakeDir path) = may (code.directory_full ∷ code.dismounted ∷ [])
commit_causes (e.AddAliasEntry alias path) = may (code.directory_full ∷ code.dismounted ∷ [])
commit_causes other = May code.dismounted ∷ []

abbrev pub tree_causes : Group → Option e.TreeEdit → List Cause
tree_causes g None = When true r.NoName ∷ []
tree_causes g (Some edit) = tested_causes (e.group_edit_causes g edit) ++ commit_causes edit

abbrev pub file_drop_causes : Group → Option Path → List Cause
file_drop_causes g None = When true r.NoName ∷ []
file_drop_causes g (Some path) = When (not (e.group_has_file g path)) r.NoName ∷ May code.dismounted ∷ []

abbrev pub removal_causes : Group → Path → Option ℕ → List Cause
removal_causes g path (Some file) = May code.dismounted ∷ []
removal_causes g path None = tree_causes g (Some (e.DropDir path))

-- an alias and its file are in one group
abbrev pub alias_causes : Option (Bytes × Path) → Bytes → Path → Group → List Cause
alias_causes None group alias g = When true r.NoGroup ∷ []
alias_causes (Some (name, path)) group alias g = When (not (is_same_name name g.name)) r.NoName ∷ tree_causes g (Some (e.AddAliasEntry alias path))

abbrev pub template_clause_causes : World → Bytes → t.TemplateEdit → List Cause
template_clause_causes w name edit = in_group w name (λ g. tested_causes (t.group_template_causes g edit) ++ May code.dismounted ∷ [])

-- ---- disks of a group

abbrev pub rows_in : Below → World → Bytes → List DiskRow
rows_in below w name = elim (entry_in w name) [ None ↦ [] | Some entry ↦ (below.group entry.id).disks ]

abbrev pub rows_named : List DiskRow → Bytes → List DiskRow
rows_named rows name = filter_map (λ (row : DiskRow). if is_same_name row.name name then Some row else None) rows

abbrev pub lacks_name : List DiskRow → Bytes → Bool
lacks_name rows name = not (list_any (λ (row : DiskRow). is_same_name row.name name) rows)

-- a failure group of the kind said, or of any where none is
abbrev pub is_of_kind : Option s.FailgroupKind → Bool → Bool
is_of_kind None quorum = true
is_of_kind (Some s.Quorum) quorum = quorum
is_of_kind (Some s.Regular) quorum = not quorum

abbrev pub rows_of_failgroup : List DiskRow → Option s.FailgroupKind → Bytes → List DiskRow
rows_of_failgroup rows kind name =
    filter_map (λ (row : DiskRow). if is_same_name row.failgroup name && is_of_kind kind row.quorum then Some row else None) rows

abbrev pub can_drop : Bool → Mode → Bool
can_drop true mode.Forced = false
can_drop true other = true
can_drop false other = is_online other

-- DiskState of each that the statement doesn't take, in turn
abbrev pub state_tests : (Mode → Bool) → List DiskRow → List Cause
state_tests takes rows = map (λ (row : DiskRow). When (not (takes row.mode)) (r.DiskState row.name row.mode)) rows

-- the rows of these names, by number
abbrev pub rows_among : List DiskRow → List Bytes → List DiskRow
rows_among rows names = filter_map (λ (row : DiskRow). if list_any (λ name. is_same_name row.name name) names then Some row else None) rows

-- of disks that are named, or of a failure group, by number
abbrev pub disks_causes : (Mode → Bool) → List DiskRow → s.NamedDisks → List Cause
disks_causes takes rows (s.Named names) = When (list_any (λ name. lacks_name rows name) names) r.NoName ∷ state_tests takes (rows_among rows names)
disks_causes takes rows (s.InFailgroup kind name) =
    let found = rows_of_failgroup rows kind name in
    When (length found == 0) r.NoName ∷ state_tests takes found
disks_causes takes rows s.All = []

-- the last option that is said of the name holds
abbrev pub force_of : Bytes → Bool → List s.DroppedDisk → Bool
force_of name force [] = force
force_of name force (d ∷ disks) = force_of name (if is_same_name d.name name then d.force else force) disks

-- of dropped disks, the first in the statement
abbrev pub drop_tests : List DiskRow → List s.DroppedDisk → List s.DroppedDisk → List Cause
drop_tests rows all [] = []
drop_tests rows all (d ∷ disks) = state_tests (can_drop (force_of d.name d.force all)) (rows_named rows d.name) ++ drop_tests rows all disks

abbrev pub power_causes : s.Rebalance → List Cause
power_causes rebalance = When (nat_lt 1024 (power_of rebalance)) (r.BadPower (power_of rebalance)) ∷ []

abbrev pub rebalance_causes : Option s.Rebalance → List Cause
rebalance_causes None = []
rebalance_causes (Some rebalance) = power_causes rebalance

-- what comes last: a commit's failure, and under WAIT what ends the rebalance or the resync
abbrev pub wait_causes : Wait → List Cause
wait_causes Nothing = May code.dismounted ∷ []
wait_causes Rebalance = may (code.dismounted ∷ code.no_space ∷ code.lost ∷ code.read_fault ∷ code.write_fault ∷ [])
wait_causes (Resync disks) = may (code.dismounted ∷ code.read_fault ∷ code.write_fault ∷ [])

abbrev pub add_causes : Bytes → List DiskRow → List s.NewFailgroup → List Cause
add_causes name rows groups =
    When (nat_lt 64 (length rows + length (n.disks_with_failgroups groups))) (r.TooMany r.Disks 64)
    ∷ May code.no_disk ∷ May code.disk_taken
    ∷ When (n.is_name_taken rows (n.planned name rows groups)) r.NameTaken
    ∷ may (code.too_small ∷ code.directory_full ∷ code.write_fault ∷ [])

-- ---- statements

abbrev pub creation_causes : World → Bytes → Option GroupKind → List s.NewFailgroup → List s.Attribute → List Cause
creation_causes w name kind groups attributes =
    let disks = n.planned name [] groups in
    let need = n.needed_groups (unwrap_or kind Normal) in
    let have = n.regular_groups disks in
    too_many_groups w
    ∷ When (is_some (entry_in w name)) r.GroupExists
    ∷ by_result (t.creation kind attributes)
    ++ When (nat_lt 64 (length (n.disks_with_failgroups groups))) (r.TooMany r.Disks 64)
    ∷ May code.no_disk ∷ May code.disk_taken
    ∷ When (n.is_name_taken [] disks) r.NameTaken
    ∷ May code.too_small
    ∷ When (nat_lt have need) (r.TooFewGroups need have)
    ∷ May code.write_fault ∷ []

abbrev pub is_mounted_as : Option SessionEntry → Bool
is_mounted_as None = false
is_mounted_as (Some entry) = is_mounted entry

abbrev pub has_files : Group → Bool
has_files g = not (maps.len g.files == 0)

abbrev pub clause_causes : Below → World → Bytes → s.Clause → List Cause
clause_causes below w name (s.AddDisks groups rebalance) = in_group w name (λ g. rebalance_causes rebalance ++ add_causes g.name (rows_in below w name) groups ++ wait_causes (rebalance_wait rebalance))
clause_causes below w name (s.AddTemplate template words) = template_clause_causes w name (t.added_by template words)
clause_causes below w name (s.ModifyTemplate template words) = template_clause_causes w name (t.modified_by template words)
clause_causes below w name (s.DropTemplate template) = template_clause_causes w name (t.dropped_by template)
clause_causes below w name (s.AddDirectory path) = in_group w name (λ g. tree_causes g (edit_of name (s.AddDirectory path)))
clause_causes below w name (s.DropDirectory path) = in_group w name (λ g. tree_causes g (edit_of name (s.DropDirectory path)))
clause_causes below w name (s.RenameDirectory old new) = in_group w name (λ g. tree_causes g (edit_of name (s.RenameDirectory old new)))
clause_causes below w name (s.AddAlias alias path) = in_group w name (λ g. tree_causes g (edit_of name (s.AddAlias alias path)))
clause_causes below w name (s.RenameAlias old new) = in_group w name (λ g. tree_causes g (edit_of name (s.RenameAlias old new)))
clause_causes below w name (s.DropAlias path) = in_group w name (λ g. tree_causes g (edit_of name (s.DropAlias path)))
clause_causes below w name (s.DropFile path) = in_group w name (λ g. file_drop_causes g (clause_path name path))
clause_causes below w name (s.DropDisks disks rebalance) = in_group w name (λ g.
    rebalance_causes rebalance
    ++ When (list_any (λ (d : s.DroppedDisk). lacks_name (rows_in below w name) d.name) disks) r.NoName
    ∷ drop_tests (rows_in below w name) disks disks ++ may (code.holds_directories ∷ code.would_lose ∷ code.too_few_groups ∷ []) ++ wait_causes (rebalance_wait rebalance))
clause_causes below w name (s.DropFailgroup kind failgroup force rebalance) = in_group w name (λ g.
    rebalance_causes rebalance
    ++ disks_causes (can_drop force) (rows_in below w name) (s.InFailgroup kind failgroup) ++ may (code.holds_directories ∷ code.would_lose ∷ code.too_few_groups ∷ []) ++ wait_causes (rebalance_wait rebalance))
clause_causes below w name s.UndropDisks = in_group w name (λ g. May code.dismounted ∷ [])
clause_causes below w name (s.ResizeAll size rebalance) = in_group w name (λ g. rebalance_causes rebalance ++ May code.too_small ∷ wait_causes (rebalance_wait rebalance))
clause_causes below w name (s.ResizeDisk disk size rebalance) = in_group w name (λ g.
    rebalance_causes rebalance ++ disks_causes serves (rows_in below w name) (s.Named (disk ∷ [])) ++ May code.too_small ∷ wait_causes (rebalance_wait rebalance))
clause_causes below w name (s.Rebalancing rebalance) = in_group w name (λ g. power_causes rebalance ++ wait_causes (rebalance_wait (Some rebalance)))
clause_causes below w name s.Check = in_group w name (λ g. [])
clause_causes below w name (s.Mount force) =
    When (is_mounted_as (entry_in w name)) r.AlreadyMounted ∷ too_many_groups w ∷ may (code.no_group ∷ code.two_groups ∷ code.no_majority ∷ code.damaged ∷ code.directories_lost ∷ code.missing_disks ∷ code.dismounted ∷ [])
clause_causes below w name (s.Dismount force) = When (is_none (entry_in w name)) r.NoGroup ∷ []
clause_causes below w name (s.Online disks wait) = in_group w name (λ g. disks_causes is_offline (rows_in below w name) disks ++ May code.no_disk ∷ wait_causes (resync_wait disks wait))
clause_causes below w name (s.Offline disks minutes) = in_group w name (λ g. disks_causes is_online (rows_in below w name) disks ++ may (code.holds_directories ∷ code.would_lose ∷ code.dismounted ∷ []))
clause_causes below w name (s.SetAttribute attribute) = in_group w name (λ g. by_result (t.attribute_set g attribute) ++ May code.dismounted ∷ [])

abbrev pub statement_causes : Below → World → s.Statement → List Cause
statement_causes below w (s.CreateDisk path size) = may (code.no_disk ∷ code.read_fault ∷ code.disk_taken ∷ [])
statement_causes below w (s.CreateGroup name kind groups attributes) = creation_causes w name kind groups attributes
statement_causes below w (s.DropGroup name contents) = in_group w name (λ g. When (has_files g && not contents) r.GroupNotEmpty ∷ May code.dismounted ∷ [])
statement_causes below w (s.Alter name clause) = clause_causes below w name clause

-- ---- verbs

-- of a directory that must be there
abbrev pub dir_causes : Group → Path → List Cause
dir_causes g path = When (not (e.group_has_path g path)) r.NoName ∷ When (not (e.group_has_dir g path)) r.NotDirectory ∷ []

-- of a path of ls, the last part of which may be a pattern
abbrev pub list_causes : Group → Path → List Cause
list_causes g path = if has_star (last_part path) then dir_causes g (up path) else When (not (e.group_has_path g path)) r.NoName ∷ []

abbrev pub listing_causes : World → Option (List Bytes) → List Cause
listing_causes w None = []
listing_causes w (Some []) = []
listing_causes w (Some (name ∷ [])) = if has_star name then [] else in_group w name (λ g. [])
listing_causes w (Some (name ∷ part ∷ path)) = in_group w name (λ g. list_causes g (part ∷ path))

abbrev pub going_causes : World → Option (List Bytes) → List Cause
going_causes w None = []
going_causes w (Some []) = []
going_causes w (Some (name ∷ path)) = in_group w name (λ g. dir_causes g path)

-- of a report on a directory in a group
abbrev pub searching_causes : World → Option (List Bytes) → List Cause
searching_causes w None = []
searching_causes w (Some []) = When true r.NoGroup ∷ []
searching_causes w (Some (name ∷ path)) = in_group w name (λ g. dir_causes g path)

abbrev pub new_file_causes : Group → Path → ℕ → Option Bytes → List Cause
new_file_causes g path size template = tested_causes (f.new_file_causes g (f.new_name path) size template) ++ may (code.directory_full ∷ code.no_space ∷ code.write_fault ∷ code.dismounted ∷ [])

-- the size of a file outside, where the host tells it
abbrev pub host_size : OutsideFile → Option ℕ
host_size NotTold = None
host_size Absent = None
host_size (ToldBytes bytes) = Some (length bytes)

abbrev pub group_file_size : World → Option (Bytes × Path) → Option ℕ
group_file_size w None = None
group_file_size w (Some (name, path)) = elim (mounted_group w name) [ None ↦ None | Some g ↦ Some (f.size_of_file (f.named_file g path)) ]

abbrev pub source_size : World → Bytes → Bool → Option ℕ
source_size w path true = host_size (w.host path)
source_size w path false = group_file_size w (target_from w.place path)

abbrev pub source_causes : World → Bytes → Bool → List Cause
source_causes w path true = May code.host_fault ∷ []
source_causes w path false = at_path w path (λ p g. When (not (e.group_has_file g p)) r.NoName ∷ May code.lost ∷ [])

-- Where the source's size isn't told, it may not be whole sectors.
abbrev pub copied_causes : Group → Path → Option ℕ → List Cause
copied_causes g path None = May code.not_sectors ∷ new_file_causes g path 0 None
copied_causes g path (Some size) = new_file_causes g path size None

abbrev pub target_causes : World → Bytes → Bool → Option ℕ → List Cause
target_causes w path true size = May code.host_fault ∷ []
target_causes w path false size = at_path w path (λ p g. copied_causes g p size)

-- The source's refusals come first, then the target's, and then faults of the source's disks.
abbrev pub copy_causes : World → Bytes → Bytes → List Cause
copy_causes w source target =
    source_causes w source (is_host_path source)
    ++ target_causes w target (is_host_path target) (source_size w source (is_host_path source)) ++ may (code.read_fault ∷ code.dismounted ∷ [])

abbrev pub verb_causes : Below → World → c.Verb → List Cause
verb_causes below w (c.DbCreate path size template) = at_path w path (λ p g. new_file_causes g p size template)
verb_causes below w (c.DbWrite path at bytes) = at_path w path (λ p g. tested_causes (f.span_causes g p at (length bytes)) ++ may (code.lost ∷ code.write_fault ∷ code.dismounted ∷ []))
verb_causes below w (c.DbFill path at size byte) = at_path w path (λ p g. tested_causes (f.span_causes g p at size) ++ may (code.lost ∷ code.write_fault ∷ code.dismounted ∷ []))
verb_causes below w (c.DbRead path at size) = at_path w path (λ p g. tested_causes (f.span_causes g p at size) ++ may (code.lost ∷ code.read_fault ∷ code.dismounted ∷ []))
verb_causes below w (c.DbResize path size) = at_path w path (λ p g. tested_causes (f.resize_causes g p size) ++ may (code.lost ∷ code.directory_full ∷ code.no_space ∷ code.write_fault ∷ code.dismounted ∷ []))
verb_causes below w (c.Ls long path) = listing_causes w (resolved_pattern w.place path)
verb_causes below w (c.Cd path) = going_causes w (resolved w.place path)
verb_causes below w c.Pwd = []
verb_causes below w (c.MakeDirectory path) = at_path w path (λ p g. tree_causes g (Some (e.MakeDir p)))
verb_causes below w (c.Remove path) = at_path w path (λ p g. removal_causes g p (e.group_file_at g p))
verb_causes below w (c.CopyFile source target) = copy_causes w source target
verb_causes below w (c.Usage path) = searching_causes w (resolved_or_here w.place path)
verb_causes below w (c.Find path pattern) = searching_causes w (resolved w.place path)
verb_causes below w (c.MakeAlias path alias) = at_path w alias (λ p g. alias_causes (target_from w.place path) g.name p g)
verb_causes below w (c.RemoveAlias path) = at_path w path (λ p g. tree_causes g (Some (e.DropAliasEntry p)))
verb_causes below w (c.ListGroups None) = []
verb_causes below w (c.ListGroups (Some name)) = When (is_none (entry_in w name)) r.NoGroup ∷ []
verb_causes below w (c.ListDisks name) = in_group w name (λ g. [])
verb_causes below w (c.ListTemplates name) = in_group w name (λ g. [])
verb_causes below w (c.ListAttributes name) = in_group w name (λ g. [])
verb_causes below w (c.OfflineDisk name disk) = clause_causes below w name (s.Offline (s.Named (disk ∷ [])) None)
verb_causes below w (c.OnlineDisk name disk) = clause_causes below w name (s.Online (s.Named (disk ∷ [])) false)
verb_causes below w (c.SetPower name power) = clause_causes below w name (s.Rebalancing (record { power = Some power; wait = false }))

-- The refusals of a command in the order in which they are tried.
abbrev pub causes : Below → World → c.Command → List Cause
causes below w (c.Said statement) = statement_causes below w statement
causes below w (c.Asked verb) = verb_causes below w verb
causes below w (c.Unreadable at) = When true (r.Syntax at) ∷ []

-- `ok` comes where no test is true, and a refusal by its place. Want of memory may always come.
abbrev pub HasCause : Below → World → c.Command → Reply → Type 0
HasCause below w command (Done lines) = decided (causes below w command) ≡ None
HasCause below w command (Refused lines r.NoMemory) = ⊤
HasCause below w command (Refused lines cause) = IsCaused (causes below w command) cause
