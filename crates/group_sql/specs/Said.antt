-- What statements of the program say.
use Rattle.std.specs.Prelude.{Option}
use Rattle.std.specs.Option.{option_map}
use Rattle.asm_group.specs.Names.{Bytes}
use Rattle.asm_world.specs.Statement as s
use Rattle.group_sql.specs.declared.statement.FailgroupKind.{FailgroupKind}
use Rattle.group_sql.specs.declared.statement.FailgroupKind.TheVariants.{Quorum, Regular}
use Rattle.group_sql.specs.declared.statement.Disks.{Disks}
use Rattle.group_sql.specs.declared.statement.Disks.TheVariants.{Named, InFailgroup}
use Rattle.group_sql.specs.declared.statement.Clause.{Clause}
use Rattle.group_sql.specs.declared.statement.Clause.TheVariants as c
use Rattle.group_sql.specs.declared.statement.Statement.{Statement}
use Rattle.group_sql.specs.declared.statement.Statement.TheVariants as t

abbrev pub kind_said : FailgroupKind → s.FailgroupKind
kind_said Quorum = s.Quorum
kind_said Regular = s.Regular

abbrev pub maybe_kind_said : Option FailgroupKind → Option s.FailgroupKind
maybe_kind_said kind = option_map kind_said kind

-- a failure group as a statement names it
abbrev pub kind_and_name : Option FailgroupKind × Bytes → Option s.FailgroupKind × Bytes
kind_and_name (kind, name) = (maybe_kind_said kind, name)

abbrev pub disks_said : Disks → s.NamedDisks
disks_said (Named names) = s.Named names
disks_said (InFailgroup kind name) = s.InFailgroup (maybe_kind_said kind) name

abbrev pub clause_said : Clause → s.Clause
clause_said (c.AddDisks groups rebalance) = s.AddDisks groups rebalance
clause_said (c.AddTemplate name words) = s.AddTemplate name words
clause_said (c.AddDirectory path) = s.AddDirectory path
clause_said (c.AddAlias alias path) = s.AddAlias alias path
clause_said (c.DropDisks disks rebalance) = s.DropDisks disks rebalance
clause_said (c.DropFailgroup kind name force rebalance) = s.DropFailgroup (maybe_kind_said kind) name force rebalance
clause_said (c.DropTemplate name) = s.DropTemplate name
clause_said (c.DropDirectory path) = s.DropDirectory path
clause_said (c.DropAlias path) = s.DropAlias path
clause_said (c.DropFile path) = s.DropFile path
clause_said c.UndropDisks = s.UndropDisks
clause_said (c.ResizeAll size rebalance) = s.ResizeAll size rebalance
clause_said (c.ResizeDisk name size rebalance) = s.ResizeDisk name size rebalance
clause_said (c.Rebalancing rebalance) = s.Rebalancing rebalance
clause_said c.Check = s.Check
clause_said (c.Mount force) = s.Mount force
clause_said (c.Dismount force) = s.Dismount force
clause_said (c.OnlineAll wait) = s.Online s.All wait
clause_said (c.Online disks wait) = s.Online (disks_said disks) wait
clause_said (c.Offline disks minutes) = s.Offline (disks_said disks) minutes
clause_said (c.ModifyTemplate name words) = s.ModifyTemplate name words
clause_said (c.RenameDirectory old new) = s.RenameDirectory old new
clause_said (c.RenameAlias old new) = s.RenameAlias old new
clause_said (c.SetAttribute attribute) = s.SetAttribute attribute

abbrev pub statement_said : Statement → s.Statement
statement_said (t.CreateDisk path size) = s.CreateDisk path size
statement_said (t.CreateGroup name kind groups attributes) = s.CreateGroup name kind groups attributes
statement_said (t.DropGroup name contents) = s.DropGroup name contents
statement_said (t.Alter group clause) = s.Alter group (clause_said clause)
