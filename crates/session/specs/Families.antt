-- Commands by families. A family has a module of code and a file of definitions, which say of its commands which are proved, and what is
-- counted of them. A command joins by its cases there, and no other definition changes.
use Rattle.std.specs.Prelude.{◌||◌, ⊤, ℕ, Bool, true, false, List, Option, Some, None}
use Rattle.asm_group.specs.Names.{Bytes}
use Rattle.asm_group.specs.Refusal as r
use Rattle.asm_world.specs.Command as c
use Rattle.asm_world.specs.Command.{Command, Said, Asked, Unreadable}
use Rattle.asm_world.specs.Statement as s
use Rattle.asm_world.specs.World.{World}
use Rattle.session_claims.specs.mounted_groups.Found.{Counts}
use Rattle.session.specs.Disks as disks
use Rattle.session.specs.Files as files
use Rattle.session.specs.Groups as groups
use Rattle.session.specs.Names as names
use Rattle.session.specs.Places as places
use Rattle.session.specs.Reports as reports
use Rattle.session.specs.Settings as settings

pub data Family : Type 0 where
  -- how groups come and go
  GroupFamily : Family
  -- their disks: which there are, how large, whether online
  DiskFamily : Family
  -- files and their bytes
  FileFamily : Family
  -- directories and aliases
  NameFamily : Family
  -- templates and attributes
  SettingFamily : Family
  -- where the session stands
  PlaceFamily : Family
  ReportFamily : Family
  -- what is no command is refused
  NoFamily : Family

abbrev pub of_clause : s.Clause → Family
of_clause (s.AddDisks added rebalance) = DiskFamily
of_clause (s.AddTemplate name words) = SettingFamily
of_clause (s.AddDirectory path) = NameFamily
of_clause (s.AddAlias alias path) = NameFamily
of_clause (s.DropDisks dropped rebalance) = DiskFamily
of_clause (s.DropFailgroup kind name force rebalance) = DiskFamily
of_clause (s.DropTemplate name) = SettingFamily
of_clause (s.DropDirectory path) = NameFamily
of_clause (s.DropAlias path) = NameFamily
of_clause (s.DropFile path) = FileFamily
of_clause s.UndropDisks = DiskFamily
of_clause (s.ResizeAll size rebalance) = DiskFamily
of_clause (s.ResizeDisk name size rebalance) = DiskFamily
of_clause (s.Rebalancing rebalance) = DiskFamily
of_clause s.Check = GroupFamily
of_clause (s.Mount force) = GroupFamily
of_clause (s.Dismount force) = GroupFamily
of_clause (s.Online named wait) = DiskFamily
of_clause (s.Offline named minutes) = DiskFamily
of_clause (s.ModifyTemplate name words) = SettingFamily
of_clause (s.RenameDirectory old new) = NameFamily
of_clause (s.RenameAlias old new) = NameFamily
of_clause (s.SetAttribute attribute) = SettingFamily

abbrev pub of_statement : s.Statement → Family
of_statement (s.CreateDisk path size) = DiskFamily
of_statement (s.CreateGroup name kind failgroups attributes) = GroupFamily
of_statement (s.DropGroup name contents) = GroupFamily
of_statement (s.Alter name clause) = of_clause clause

abbrev pub of_verb : c.Verb → Family
of_verb (c.DbCreate path size template) = FileFamily
of_verb (c.DbWrite path at bytes) = FileFamily
of_verb (c.DbFill path at size byte) = FileFamily
of_verb (c.DbRead path at size) = FileFamily
of_verb (c.DbResize path size) = FileFamily
of_verb (c.Ls long path) = ReportFamily
of_verb (c.Cd path) = PlaceFamily
of_verb c.Pwd = PlaceFamily
of_verb (c.MakeDirectory path) = NameFamily
of_verb (c.Remove path) = NameFamily
of_verb (c.CopyFile source target) = FileFamily
of_verb (c.Usage path) = ReportFamily
of_verb (c.Find path pattern) = ReportFamily
of_verb (c.MakeAlias path alias) = NameFamily
of_verb (c.RemoveAlias path) = NameFamily
of_verb (c.ListGroups group) = ReportFamily
of_verb (c.ListDisks group) = ReportFamily
of_verb (c.ListTemplates group) = ReportFamily
of_verb (c.ListAttributes group) = ReportFamily
of_verb (c.OfflineDisk group disk) = DiskFamily
of_verb (c.OnlineDisk group disk) = DiskFamily
of_verb (c.SetPower group power) = DiskFamily

abbrev pub family_of : Command → Family
family_of (Said statement) = of_statement statement
family_of (Asked verb) = of_verb verb
family_of (Unreadable at) = NoFamily

abbrev proved_in : Family → Command → Bool
proved_in GroupFamily c = groups.is_proved c
proved_in DiskFamily c = disks.is_proved c
proved_in FileFamily c = files.is_proved c
proved_in NameFamily c = names.is_proved c
proved_in SettingFamily c = settings.is_proved c
proved_in PlaceFamily c = places.is_proved c
proved_in ReportFamily c = reports.is_proved c
proved_in NoFamily c = true

abbrev made_in : Family → Command → ℕ → World → Type 0
made_in GroupFamily c id w = groups.IsMadeByGroupCommand c id w
made_in DiskFamily c id w = disks.IsMadeByDiskCommand c id w
made_in FileFamily c id w = files.IsMadeByFileCommand c id w
made_in NameFamily c id w = names.IsMadeByNameCommand c id w
made_in SettingFamily c id w = settings.IsMadeBySettingCommand c id w
made_in PlaceFamily c id w = places.IsMadeByPlaceCommand c id w
made_in ReportFamily c id w = reports.IsMadeByReportCommand c id w
made_in NoFamily c id w = ⊥

abbrev refused_in : Family → List Bytes → Command → r.Refusal → Counts → Counts → Type 0
refused_in GroupFamily paths c cause s t = groups.IsRefused paths c cause s t
refused_in DiskFamily paths c cause s t = disks.IsRefused paths c cause s t
refused_in FileFamily paths c cause s t = files.IsRefused paths c cause s t
refused_in NameFamily paths c cause s t = names.IsRefused paths c cause s t
refused_in SettingFamily paths c cause s t = settings.IsRefused paths c cause s t
refused_in PlaceFamily paths c cause s t = places.IsRefused paths c cause s t
refused_in ReportFamily paths c cause s t = reports.IsRefused paths c cause s t
refused_in NoFamily paths c cause s t = ⊤

-- whether it is proved on each bay what it does to the world and to the disks
abbrev pub is_proved : Command → Bool
is_proved c = proved_in (family_of c) c

-- Whether it asks the disks for what they hold: dbread for bytes, MOUNT for a group. What such a command does is proved where the disks
-- stand for the world.
abbrev pub asks_disks : Command → Bool
asks_disks (Asked (c.DbRead path at size)) = true
asks_disks other = groups.mounts other

-- whether it is proved what it does where the disks stand for the world
abbrev pub is_proved_on_disks : Command → Bool
is_proved_on_disks c = asks_disks c || is_proved c

abbrev pub edits_in : Family → Bool
edits_in NameFamily = true
edits_in SettingFamily = true
edits_in other = false

-- whether it is an edit of the names or the settings of a mounted group
abbrev pub is_edit : Command → Bool
is_edit c = edits_in (family_of c)

-- whether it writes on a mounted group: an edit, or a write of bytes
abbrev pub changes_group : Command → Bool
changes_group c = is_edit c || files.writes_bytes c

-- such a command or a mount: where memory was short for it, its reply doesn't tell what it left of its group
abbrev pub may_stop_torn : Command → Bool
may_stop_torn c = changes_group c || groups.mounts c

abbrev shown_in : Family → Command → Bool
shown_in GroupFamily c = groups.shows_group c
shown_in PlaceFamily c = places.shows_group c
shown_in ReportFamily c = reports.shows_group c
shown_in other c = false

-- whether it tells of groups as they are mounted, goes into one or mounts one
abbrev pub shows_group : Command → Bool
shows_group c = shown_in (family_of c) c

-- an id that a command gave is that of a group that it made
abbrev pub IsMade : Command → Option ℕ → World → Type 0
IsMade c None w = ⊤
IsMade c (Some id) w = made_in (family_of c) c id w

-- the cause of a refusal, by what is counted of the disks
abbrev pub IsRefused : List Bytes → Command → r.Refusal → Counts → Counts → Type 0
IsRefused paths c cause s t = refused_in (family_of c) paths c cause s t
