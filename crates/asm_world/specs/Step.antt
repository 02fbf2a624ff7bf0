-- What one command does to the world, by its reply.
use Rattle.std.specs.Prelude.{◌≡◌, ◌≢◌, ◌⊎◌, ℕ, ◌+◌, ◌-◌, ◌^◌, ◌<◌, ◌≤◌, Bool, true, false, List, [], ◌∷◌, ◌++◌, length, take, drop, replicate, Option, Some, None, is_some, IsTrue, Result, Ok, Err, All, ⊤}
use Rattle.std.specs.FinMap as maps
use Rattle.asm_group.specs.Names.{Bytes, Path, is_same_name}
use Rattle.asm_group.specs.Group.{Cell, Known, File, Template, Group}
use Rattle.asm_group.specs.NewGroup.{new_group}
use Rattle.asm_group.specs.Refusal as r
use Rattle.asm_world.specs.Below.{Below}
use Rattle.asm_world.specs.Between.{Between, MayStandFor, groups_named, with_span_free}
use Rattle.asm_world.specs.Command as c
use Rattle.asm_world.specs.Edits as e
use Rattle.asm_world.specs.Files as f
use Rattle.asm_world.specs.Listings.{list_lines, usage_lines, find_lines, lines_of_groups, template_rows}
use Rattle.asm_world.specs.Paths.{resolved, target_from, clause_path, is_host_path, path_text}
use Rattle.asm_world.specs.Reply.{Reply, Done, Refused}
use Rattle.asm_world.specs.Reports.{disk_lines, template_lines, attribute_lines, check_line}
use Rattle.asm_world.specs.Settings as t
use Rattle.asm_world.specs.Statement as s
use Rattle.asm_world.specs.Text.{read_lines}
use Rattle.asm_world.specs.World.{SessionEntry, Mounted, DismountedBy, World, OutsideFile, NotTold, Absent, ToldBytes, entry_in, without_entry, mounted_entry, with_dismounted, with_group}

-- ---- a mounted group

-- The group that the name has in the session, mounted, and alone under its id.
pub record HasMountedGroup (w : World) (name : Bytes) (id : ℕ) (g : Group) : Type 0 where
  pub entry : SessionEntry
  pub named : entry_in w name ≡ Some entry
  pub is : entry.id ≡ id
  pub mounted : entry.state ≡ Mounted
  pub only : maps.get w.groups id ≡ Some (g ∷ [])

-- The named group is changed so, and nothing else.
pub record Changes (w : World) (name : Bytes) (step : ℕ → Group → Group → Type 0) (new : World) : Type 0 where
  pub id : ℕ
  pub old : Group
  pub changed : Group
  pub has : HasMountedGroup w name id old
  pub step_is : step id old changed
  pub is : new ≡ with_group w id changed

-- Nothing changes, and this holds of the named group.
pub record Shows (w : World) (name : Bytes) (holds : ℕ → Group → Type 0) (new : World) : Type 0 where
  pub id : ℕ
  pub g : Group
  pub has : HasMountedGroup w name id g
  pub holds_is : holds id g
  pub is : new ≡ w

-- The path leads into a mounted group, which is changed so.
pub record ChangesAt (w : World) (path : Bytes) (step : ℕ → Path → Group → Group → Type 0) (new : World) : Type 0 where
  pub name : Bytes
  pub inside : Path
  pub leads : target_from w.place path ≡ Some (name, inside)
  pub changes : Changes w name (λ id old changed. step id inside old changed) new

pub record ShowsAt (w : World) (path : Bytes) (holds : ℕ → Path → Group → Type 0) (new : World) : Type 0 where
  pub name : Bytes
  pub inside : Path
  pub leads : target_from w.place path ≡ Some (name, inside)
  pub shows : Shows w name (λ id g. holds id inside g) new

-- ---- creation, mount and end of groups

-- the last number that an id can be
abbrev pub last_id : ℕ
last_id = 2 ^ 64 - 1

-- The id is the one that was given. As long as ids don't run out, no group of the session has it, and it is above each in a header
-- that was read.
pub record IsNewId (below : Below) (w : World) (id : ℕ) : Type 0 where
  pub given : below.found.made ≡ Some id
  pub not_in_session : id < last_id → All (λ (entry : SessionEntry). entry.id ≢ id) w.session
  pub above : id < last_id → All (λ other. other < id) below.found.ids

-- the group that a creation makes
abbrev pub MadeGroup : Bytes → Result t.Creation r.Refusal → Group → Type 0
MadeGroup name (Ok c) g = g ≡ new_group name c.shape c.attributes
MadeGroup name (Err cause) g = ⊥

-- The new group stands alone under a new id, in place of any list that it had, and is mounted last.
pub record Creates (below : Below) (w : World) (made : Group → Type 0) (new : World) : Type 0 where
  pub id : ℕ
  pub g : Group
  pub made_is : made g
  pub is_new : IsNewId below w id
  pub is : new ≡ record (with_group w id g) { session = w.session ++ mounted_entry g.name id ∷ [] }

-- The new group may stand on the disks, under a new id that isn't in the session.
pub record LeavesCreated (below : Below) (w : World) (made : Group → Type 0) (new : World) : Type 0 where
  pub id : ℕ
  pub g : Group
  pub made_is : made g
  pub is_new : IsNewId below w id
  pub is : new ≡ with_group w id g

abbrev pub MayLeaveCreated : Below → World → (Group → Type 0) → World → Type 0
MayLeaveCreated below w made new = (new ≡ w) ⊎ LeavesCreated below w made new

-- One of the groups that the images may stand for is mounted, last in the order.
pub record MountsGroup (w : World) (name : Bytes) (new : World) : Type 0 where
  pub id : ℕ
  pub g : Group
  pub may : MayStandFor w id g
  pub named : IsTrue (is_same_name g.name name)
  pub is : new ≡ record (with_group w id g) { session = without_entry w.session name ++ mounted_entry g.name id ∷ [] }

-- the list isn't empty, and has groups of the other alone
abbrev pub IsPart : List Group → List Group → Type 0
IsPart part may = (part ≢ []) × All (λ g. (before after : List Group) × (may ≡ before ++ g ∷ after)) part

-- The list of one id of that name becomes a part of itself.
pub record Narrows (w : World) (name : Bytes) (new : World) : Type 0 where
  pub id : ℕ
  pub may : List Group
  pub part : List Group
  pub there : maps.get w.groups id ≡ Some may
  pub named : All (λ (g : Group). IsTrue (is_same_name g.name name)) may
  pub part_is : IsPart part may
  pub is : new ≡ record w { groups = maps.insert w.groups id part }

abbrev pub MayNarrow : World → Bytes → World → Type 0
MayNarrow w name new = (new ≡ w) ⊎ Narrows w name new

pub record Drops (w : World) (name : Bytes) (new : World) : Type 0 where
  pub id : ℕ
  pub old : Group
  pub has : HasMountedGroup w name id old
  pub is : new ≡ record w { groups = maps.remove w.groups id; session = without_entry w.session name }

-- ---- statements

abbrev pub on_path : {A : Type 0} → Option Path → (Path → A) → Option A
on_path None f = None
on_path (Some path) f = Some (f path)

abbrev pub on_paths : {A : Type 0} → Option Path → Option Path → (Path → Path → A) → Option A
on_paths None other f = None
on_paths (Some path) other f = on_path other (f path)

-- The edit of the names that a clause asks for. None where a path isn't one of the named group.
abbrev pub edit_of : Bytes → s.Clause → Option e.TreeEdit
edit_of name (s.AddDirectory path) = on_path (clause_path name path) (λ p. e.MakeDir p)
edit_of name (s.DropDirectory path) = on_path (clause_path name path) (λ p. e.DropDir p)
edit_of name (s.RenameDirectory old new) = on_paths (clause_path name old) (clause_path name new) (λ p q. e.RenameDir p q)
edit_of name (s.AddAlias alias path) = on_paths (clause_path name alias) (clause_path name path) (λ p q. e.AddAliasEntry p q)
edit_of name (s.RenameAlias old new) = on_paths (clause_path name old) (clause_path name new) (λ p q. e.RenameAliasEntry p q)
edit_of name (s.DropAlias path) = on_path (clause_path name path) (λ p. e.DropAliasEntry p)
edit_of name other = None

abbrev pub EditsTree : Option e.TreeEdit → Group → Group → Type 0
EditsTree None old changed = ⊥
EditsTree (Some edit) old changed = e.edited_group old edit ≡ Ok changed

abbrev pub DropsFile : Option Path → Group → Group → Type 0
DropsFile None old changed = ⊥
DropsFile (Some path) old changed = e.file_dropped old (e.group_file_at old path) ≡ Ok changed

abbrev pub ChangesNames : World → Bytes → s.Clause → List Bytes → World → Type 0
ChangesNames w name clause lines new = Changes w name (λ id old changed. EditsTree (edit_of name clause) old changed) new × (lines ≡ [])

abbrev pub ChangesTemplates : World → Bytes → t.TemplateEdit → List Bytes → World → Type 0
ChangesTemplates w name edit lines new = Changes w name (λ id old changed. t.group_after_template_edit old edit ≡ Ok changed) new × (lines ≡ [])

-- The clause was answered ok. A statement on disks and a rebalance leave the world, and may have lines of WAIT.
abbrev pub DoneClause : Below → World → Bytes → s.Clause → List Bytes → World → Type 0
DoneClause below w name (s.AddDirectory path) lines new = ChangesNames w name (s.AddDirectory path) lines new
DoneClause below w name (s.DropDirectory path) lines new = ChangesNames w name (s.DropDirectory path) lines new
DoneClause below w name (s.RenameDirectory old path) lines new = ChangesNames w name (s.RenameDirectory old path) lines new
DoneClause below w name (s.AddAlias alias path) lines new = ChangesNames w name (s.AddAlias alias path) lines new
DoneClause below w name (s.RenameAlias old path) lines new = ChangesNames w name (s.RenameAlias old path) lines new
DoneClause below w name (s.DropAlias path) lines new = ChangesNames w name (s.DropAlias path) lines new
DoneClause below w name (s.DropFile path) lines new = Changes w name (λ id old changed. DropsFile (clause_path name path) old changed) new × (lines ≡ [])
DoneClause below w name (s.AddTemplate template words) lines new = ChangesTemplates w name (t.added_by template words) lines new
DoneClause below w name (s.ModifyTemplate template words) lines new = ChangesTemplates w name (t.modified_by template words) lines new
DoneClause below w name (s.DropTemplate template) lines new = ChangesTemplates w name (t.dropped_by template) lines new
DoneClause below w name (s.SetAttribute attribute) lines new = Changes w name (λ id old changed. t.attribute_set old attribute ≡ Ok changed) new × (lines ≡ [])
DoneClause below w name (s.Mount force) lines new = MountsGroup w name new × (lines ≡ [])
DoneClause below w name (s.Dismount force) lines new = IsTrue (is_some (entry_in w name)) × (new ≡ record w { session = without_entry w.session name }) × (lines ≡ [])
DoneClause below w name s.Check lines new = Shows w name (λ id g. lines ≡ check_line (below.group id).extents (below.group id).not_full ∷ []) new
DoneClause below w name other lines new = Shows w name (λ id g. ⊤) new

abbrev pub DoneStatement : Below → World → s.Statement → List Bytes → World → Type 0
DoneStatement below w (s.CreateDisk path size) lines new = (new ≡ w) × (lines ≡ [])
DoneStatement below w (s.CreateGroup name kind groups attributes) lines new = Creates below w (MadeGroup name (t.creation kind attributes)) new × (lines ≡ [])
DoneStatement below w (s.DropGroup name contents) lines new = Drops w name new × (lines ≡ [])
DoneStatement below w (s.Alter name clause) lines new = DoneClause below w name clause lines new

-- ---- files

-- the system path of a new file, as it is printed
abbrev pub new_file_line : Group → f.NewName → ℕ → ℕ → Bytes
new_file_line g name number incarnation = path_text (e.spelt g (f.new_path name number incarnation))

-- A new file has these cells, and its system path is printed.
pub record MakesFile (failgroups : ℕ) (cells : List Cell) (template : Option Bytes) (lines : List Bytes) (path : Path) (old changed : Group) : Type 0 where
  pub name : f.NewName
  pub by : Template
  pub name_is : f.new_name path ≡ Some name
  pub by_is : f.template_for old name template ≡ Some by
  pub is : changed ≡ f.group_with_file old name (f.next_number old) (f.new_file old name by failgroups cells)
  pub prints : lines ≡ new_file_line changed name (f.next_number old) old.next ∷ []

-- The lines show bytes that agree with the file's cells in the span.
pub record ReadsFile (at size : ℕ) (lines : List Bytes) (path : Path) (g : Group) : Type 0 where
  pub file : File
  pub bytes : Bytes
  pub there : f.named_file g path ≡ Some file
  pub within : at + size ≤ length file.cells
  pub agrees : f.Agrees (take size (drop at file.cells)) bytes
  pub prints : lines ≡ read_lines at bytes

-- Cells that a copy of these may have: a byte stays, and where any byte may stand there is one.
abbrev pub IsCopyOfCells : List Cell → List Cell → Type 0
IsCopyOfCells source cells = (bytes : Bytes) × f.Agrees source bytes × (cells ≡ f.known bytes)

-- the cells of a file outside, where the host tells it
abbrev pub IsCopyOfHost : OutsideFile → List Cell → Type 0
IsCopyOfHost NotTold cells = (bytes : Bytes) × (cells ≡ f.known bytes)
IsCopyOfHost Absent cells = ⊥
IsCopyOfHost (ToldBytes bytes) cells = cells ≡ f.known bytes

-- the file that a path names in a mounted group
pub record IsFileOf (w : World) (path : Bytes) (file : File) : Type 0 where
  pub name : Bytes
  pub inside : Path
  pub id : ℕ
  pub g : Group
  pub leads : target_from w.place path ≡ Some (name, inside)
  pub has : HasMountedGroup w name id g
  pub there : f.named_file g inside ≡ Some file

-- cells that a new file has, as a copy of what stands at the path
abbrev pub IsCopy : World → Bytes → List Cell → Type 0
IsCopy w path cells = (IsTrue (is_host_path path) × IsCopyOfHost (w.host path) cells)
    ⊎ ((is_host_path path ≡ false) × ((file : File) × IsFileOf w path file × IsCopyOfCells file.cells cells))

-- all host files but this one stay, and nothing else changes
pub record HostChanges (w : World) (path : Bytes) (step : OutsideFile → OutsideFile → Type 0) (new : World) : Type 0 where
  pub is : new ≡ record w { host = new.host }
  pub others : (other : Bytes) → other ≢ path → new.host other ≡ w.host other
  pub step_is : step (w.host path) (new.host path)

-- the file outside holds a copy of these cells, where the host tells it
abbrev pub HoldsCopy : List Cell → OutsideFile → OutsideFile → Type 0
HoldsCopy cells NotTold new = new ≡ NotTold
HoldsCopy cells old new = (bytes : Bytes) × f.Agrees cells bytes × (new ≡ ToldBytes bytes)

-- The file outside is as it was, isn't there, or is a front of a copy.
abbrev pub MayHoldFront : World → Bytes → OutsideFile → OutsideFile → Type 0
MayHoldFront w path old new = (new ≡ old) ⊎ (new ≡ Absent)
    ⊎ ((file : File) × (bytes : Bytes) × (n : ℕ) × IsFileOf w path file × f.Agrees file.cells bytes × (new ≡ ToldBytes (take n bytes)))

-- cp into a group
pub record CopiesIn (below : Below) (w : World) (source target : Bytes) (lines : List Bytes) (new : World) : Type 0 where
  pub cells : List Cell
  pub copy : IsCopy w source cells
  pub made : ChangesAt w target (λ id. MakesFile (below.group id).failgroups cells None lines) new

-- cp to the host
pub record CopiesOut (w : World) (source target : Bytes) (lines : List Bytes) (new : World) : Type 0 where
  pub file : File
  pub there : IsFileOf w source file
  pub changes : HostChanges w target (HoldsCopy file.cells) new
  pub prints : lines ≡ []

abbrev pub Copies : Below → World → Bytes → Bytes → Bool → List Bytes → World → Type 0
Copies below w source target true lines new = CopiesOut w source target lines new
Copies below w source target false lines new = CopiesIn below w source target lines new

-- ---- verbs

abbrev pub GoesTo : World → Option (List Bytes) → World → Type 0
GoesTo w None new = ⊥
GoesTo w (Some []) new = new ≡ record w { place = [] }
GoesTo w (Some (name ∷ path)) new = (id : ℕ) × (g : Group) × HasMountedGroup w name id g × IsTrue (e.group_has_dir g path) × (new ≡ record w { place = e.spelt g path })

abbrev pub EditsAt : World → Bytes → (Path → e.TreeEdit) → List Bytes → World → Type 0
EditsAt w path edit lines new = ChangesAt w path (λ id p old changed. e.edited_group old (edit p) ≡ Ok changed) new × (lines ≡ [])

-- the alias of a file of its own group
abbrev pub AddsAlias : Option (Bytes × Path) → Path → Group → Group → Type 0
AddsAlias None alias old changed = ⊥
AddsAlias (Some (name, path)) alias old changed = IsTrue (is_same_name old.name name) × (e.edited_group old (e.AddAliasEntry alias path) ≡ Ok changed)

-- The verb was answered ok.
abbrev pub DoneVerb : Below → World → c.Verb → List Bytes → World → Type 0
DoneVerb below w (c.DbCreate path size template) lines new =
    ChangesAt w path (λ id. MakesFile (below.group id).failgroups (replicate size (Known 0)) template lines) new
DoneVerb below w (c.DbWrite path at bytes) lines new = ChangesAt w path (λ id p old changed. f.group_after_write old p at (f.known bytes) ≡ Ok changed) new × (lines ≡ [])
DoneVerb below w (c.DbFill path at size byte) lines new = ChangesAt w path (λ id p old changed. f.group_after_write old p at (replicate size (Known byte)) ≡ Ok changed) new × (lines ≡ [])
DoneVerb below w (c.DbRead path at size) lines new = ShowsAt w path (λ id p g. ReadsFile at size lines p g) new
DoneVerb below w (c.DbResize path size) lines new = ChangesAt w path (λ id p old changed. f.resized old p size ≡ Ok changed) new × (lines ≡ [])
DoneVerb below w (c.Ls long path) lines new = (new ≡ w) × (list_lines w long path ≡ Some lines)
DoneVerb below w (c.Cd path) lines new = GoesTo w (resolved w.place path) new × (lines ≡ [])
DoneVerb below w c.Pwd lines new = (new ≡ w) × (lines ≡ path_text w.place ∷ [])
DoneVerb below w (c.MakeDirectory path) lines new = EditsAt w path (λ p. e.MakeDir p) lines new
DoneVerb below w (c.Remove path) lines new = ChangesAt w path (λ id p old changed. e.removed old p (e.group_file_at old p) ≡ Ok changed) new × (lines ≡ [])
DoneVerb below w (c.CopyFile source target) lines new = Copies below w source target (is_host_path target) lines new
DoneVerb below w (c.Usage path) lines new = (new ≡ w) × (usage_lines below w path ≡ Some lines)
DoneVerb below w (c.Find path pattern) lines new = (new ≡ w) × (find_lines w path pattern ≡ Some lines)
DoneVerb below w (c.MakeAlias path alias) lines new =
    ChangesAt w alias (λ id p old changed. AddsAlias (target_from w.place path) p old changed) new × (lines ≡ [])
DoneVerb below w (c.RemoveAlias path) lines new = EditsAt w path (λ p. e.DropAliasEntry p) lines new
DoneVerb below w (c.ListGroups name) lines new = (new ≡ w) × (lines ≡ lines_of_groups below w name)
DoneVerb below w (c.ListDisks name) lines new = Shows w name (λ id g. lines ≡ disk_lines (below.group id).disks) new
DoneVerb below w (c.ListTemplates name) lines new = Shows w name (λ id g. lines ≡ template_lines (template_rows g)) new
DoneVerb below w (c.ListAttributes name) lines new = Shows w name (λ id g. lines ≡ attribute_lines g.shape g.attributes) new
DoneVerb below w (c.OfflineDisk name disk) lines new = Shows w name (λ id g. lines ≡ []) new
DoneVerb below w (c.OnlineDisk name disk) lines new = Shows w name (λ id g. lines ≡ []) new
DoneVerb below w (c.SetPower name power) lines new = Shows w name (λ id g. lines ≡ []) new

-- The command was answered ok, with these lines.
abbrev pub DoneCommand : Below → World → c.Command → List Bytes → World → Type 0
DoneCommand below w (c.Said statement) lines new = DoneStatement below w statement lines new
DoneCommand below w (c.Asked verb) lines new = DoneVerb below w verb lines new
DoneCommand below w (c.Unreadable at) lines new = ⊥

-- ---- refusals

-- The command may have come to any point: the images of a group that it names may stand for some of the groups between.
pub record IsTorn (below : Below) (w : World) (command : c.Command) (name : Bytes) (entry : SessionEntry) (session : List SessionEntry) (new : World) : Type 0 where
  pub done : World
  -- a world that the reply ok gives, or the one before where there is none
  pub done_is : ((lines : List Bytes) × DoneCommand below w command lines done) ⊎ (done ≡ w)
  pub may : List Group
  pub one : may ≢ []
  pub each : All (λ g. (x : World) × Between w command done x × MayStandFor x entry.id g) may
  pub is : new ≡ record w { groups = maps.insert w.groups entry.id may; session = session }

-- a group that the command names, with its entry in the session
pub record Names (w : World) (command : c.Command) (name : Bytes) (entry : SessionEntry) : Type 0 where
  pub among : (before after : List Bytes) × (groups_named w command ≡ before ++ name ∷ after)
  pub there : entry_in w name ≡ Some entry

-- A group that the command names was dismounted by this disk, and nothing changes.
pub record WasDismounted (w : World) (command : c.Command) (disk : Bytes) (new : World) : Type 0 where
  pub name : Bytes
  pub entry : SessionEntry
  pub names : Names w command name entry
  pub state : entry.state ≡ DismountedBy disk
  pub is : new ≡ w

-- It was mounted, and is dismounted by this disk now.
pub record BecomesDismounted (below : Below) (w : World) (command : c.Command) (disk : Bytes) (new : World) : Type 0 where
  pub name : Bytes
  pub entry : SessionEntry
  pub names : Names w command name entry
  pub state : entry.state ≡ Mounted
  pub torn : IsTorn below w command name entry (with_dismounted w.session name disk) new

abbrev pub IsDismounted : Below → World → c.Command → Bytes → World → Type 0
IsDismounted below w command disk new = WasDismounted w command disk new ⊎ BecomesDismounted below w command disk new

-- Want of memory leaves the session, and the images of a group that the command names may stand for some of the groups between.
pub record StopsTorn (below : Below) (w : World) (command : c.Command) (new : World) : Type 0 where
  pub name : Bytes
  pub entry : SessionEntry
  pub names : Names w command name entry
  pub torn : IsTorn below w command name entry w.session new

abbrev pub MayStopTorn : Below → World → c.Command → World → Type 0
MayStopTorn below w command new = (new ≡ w) ⊎ StopsTorn below w command new

-- A write that failed leaves its span free.
abbrev pub FreesSpan : World → c.Command → World → Type 0
FreesSpan w command new = with_span_free w command ≡ Some new

-- What a refusal leaves of the groups and of the session.
abbrev pub LeftByRefusal : Below → World → c.Command → r.Refusal → World → Type 0
LeftByRefusal below w (c.Said (s.CreateGroup name kind groups attributes)) (r.WriteFault disk) new = MayLeaveCreated below w (MadeGroup name (t.creation kind attributes)) new
LeftByRefusal below w (c.Said (s.CreateGroup name kind groups attributes)) r.NoMemory new = MayLeaveCreated below w (MadeGroup name (t.creation kind attributes)) new
LeftByRefusal below w (c.Said (s.Alter name (s.Mount force))) cause new = MayNarrow w name new
LeftByRefusal below w (c.Asked (c.DbWrite path at bytes)) (r.WriteFault disk) new = FreesSpan w (c.Asked (c.DbWrite path at bytes)) new
LeftByRefusal below w (c.Asked (c.DbFill path at size byte)) (r.WriteFault disk) new = FreesSpan w (c.Asked (c.DbFill path at size byte)) new
LeftByRefusal below w command (r.Dismounted disk) new = IsDismounted below w command disk new
LeftByRefusal below w command r.NoMemory new = MayStopTorn below w command new
LeftByRefusal below w command cause new = new ≡ w

-- A refused copy to the host may leave the file outside changed.
pub record LeftByCopyOut (below : Below) (w : World) (source target : Bytes) (cause : r.Refusal) (new : World) : Type 0 where
  pub middle : World
  pub left : LeftByRefusal below w (c.Asked (c.CopyFile source target)) cause middle
  pub changes : HostChanges middle target (MayHoldFront w source) new

abbrev pub RefusedCopy : Below → World → Bytes → Bytes → Bool → r.Refusal → World → Type 0
RefusedCopy below w source target true cause new = LeftByCopyOut below w source target cause new
RefusedCopy below w source target false cause new = LeftByRefusal below w (c.Asked (c.CopyFile source target)) cause new

-- The command was refused for this cause.
abbrev pub RefusedCommand : Below → World → c.Command → r.Refusal → World → Type 0
RefusedCommand below w (c.Asked (c.CopyFile source target)) cause new = RefusedCopy below w source target (is_host_path target) cause new
RefusedCommand below w command cause new = LeftByRefusal below w command cause new

-- What the command may do to the world where it gets this reply.
abbrev pub Step : Below → World → c.Command → Reply → World → Type 0
Step below w command (Done lines) new = DoneCommand below w command lines new
Step below w command (Refused lines cause) new = RefusedCommand below w command cause new
