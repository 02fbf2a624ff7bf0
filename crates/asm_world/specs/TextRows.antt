-- Replies, event lines and reports as they are printed.
use Rattle.std.specs.Prelude.{◌≡◌, true, false, [], ◌∷◌, ◌++◌, replicate, codes}
use Rattle.asm_group.specs.declared.GroupKind.TheVariants.{External, Normal}
use Rattle.asm_group.specs.declared.Mode.TheVariants.{Online, Offline}
use Rattle.asm_group.specs.declared.Mode.TheVariants as mode
use Rattle.asm_group.specs.declared.Stripe.TheVariants.{Coarse, Fine}
use Rattle.asm_group.specs.NewGroup.{usual_attributes, system_template}
use Rattle.asm_group.specs.Refusal as r
use Rattle.asm_world.specs.Reply as p
use Rattle.asm_world.specs.Reports.{ListedSystemName, Directory, AliasName, ls_lines, mounted_line, dismounted_line, disk_line, template_line, attribute_lines, du_lines, check_line}
use Rattle.asm_world.specs.Text.{reply_text, short_text, event_line, event_text, read_lines}

pub record TextRows : Type 0 where
  pub ok : reply_text (p.Done []) ≡ codes "ok\n"
  pub first_file : reply_text (p.Done (codes "+DATA/o/DATAFILE/u.256.1" ∷ [])) ≡ codes "+DATA/o/DATAFILE/u.256.1\nok\n"
  pub taken : reply_text (p.Refused [] (r.DiskTaken (codes "d0"))) ≡ codes "error 6 DiskTaken d0\n"
  pub syntax : reply_text (p.Refused [] (r.Syntax 24)) ≡ codes "error 1 Syntax 24\n"
  pub under_wait : reply_text (p.Refused (event_line (p.Moved (codes "DATA") (p.OutOfSpace 4 256 9)) ∷ []) (r.NoSpace 256 9)) ≡ codes "rebal DATA nospace 4 256 9\nerror 25 NoSpace 256 9\n"
  pub done_under_wait : reply_text (p.Done (event_line (p.Moved (codes "DATA") (p.Finished 2)) ∷ [])) ≡ codes "rebal DATA done 2\nok\n"
  pub short_ok : short_text (p.Done []) ≡ codes "."
  pub short_refusal : short_text (p.Refused [] r.NoGroup) ≡ codes "!"
  pub read : read_lines 0 (replicate 512 97 ++ replicate 512 0) ≡ codes "0 512 61" ∷ codes "512 512 00" ∷ []
  pub read_in_the_middle : read_lines 4194304 (replicate 512 99) ≡ codes "4194304 512 63" ∷ []
  pub read_nothing : read_lines 0 [] ≡ []
  pub more : event_text (p.Moved (codes "DATA") (p.MovesLeft 1)) ≡ codes "rebal DATA more 1\n"
  pub finished : event_line (p.Moved (codes "DATA") (p.Finished 0)) ≡ codes "rebal DATA done 0"
  pub lost : event_line (p.Moved (codes "DATA") (p.LostExtent 3 256 1)) ≡ codes "rebal DATA lost 3 256 1"
  pub move_fault : event_line (p.Moved (codes "DATA") (p.MoveFault 2 (codes "DATA_0001"))) ≡ codes "rebal DATA fault 2 DATA_0001"
  pub move_ends : event_line (p.Moved (codes "DATA") (p.MoveEnds (codes "DATA_0001"))) ≡ codes "rebal DATA dismounted DATA_0001"
  pub online : event_line (p.Synced (codes "DATA") (codes "DATA_0003") (p.Back 1)) ≡ codes "sync DATA DATA_0003 online 1"
  pub left : event_line (p.Synced (codes "DATA") (codes "DATA_0003") (p.LeftMarked 256 1)) ≡ codes "sync DATA DATA_0003 left 256 1"
  pub sync_more : event_line (p.Synced (codes "DATA") (codes "DATA_0003") (p.MarksLeft 64)) ≡ codes "sync DATA DATA_0003 more 64"
  pub sync_fault : event_line (p.Synced (codes "DATA") (codes "DATA_0003") (p.SyncFault 5 (codes "DATA_0001"))) ≡ codes "sync DATA DATA_0003 fault 5 DATA_0001"
  pub sync_ends : event_line (p.Synced (codes "DATA") (codes "DATA_0003") (p.SyncEnds (codes "DATA_0001"))) ≡ codes "sync DATA DATA_0003 dismounted DATA_0001"
  pub expired : event_line (p.Expired (codes "DATA") (codes "DATA_0003")) ≡ codes "expired DATA DATA_0003"
  pub expiry_ends : event_line (p.ExpiryEnds (codes "DATA") (codes "DATA_0001")) ≡ codes "expired DATA dismounted DATA_0001"

pub record ReportRows : Type 0 where
  pub control_file : ls_lines true (ListedSystemName (codes "CONTROLFILE") 2 Fine (codes "c.256.1") ∷ []) ≡ codes "Type Redund Striped Sys Name" ∷ codes "CONTROLFILE MIRROR FINE Y c.256.1" ∷ []
  pub directory : ls_lines false (Directory (codes "a") ∷ []) ≡ codes "a/" ∷ []
  pub long_directory : ls_lines true (Directory (codes "a") ∷ []) ≡ codes "Type Redund Striped Sys Name" ∷ codes "DIR - - N a/" ∷ []
  pub alias : ls_lines true (AliasName (codes "DATAFILE") 1 Coarse (codes "x") (codes "+DATA/o/DATAFILE/u.256.1") ∷ [])
      ≡ codes "Type Redund Striped Sys Name" ∷ codes "DATAFILE UNPROT COARSE N x => +DATA/o/DATAFILE/u.256.1" ∷ []
  pub day : mounted_line (codes "DATA") (record { kind = Normal; au = 1048576; sector = 512; step = 20000; dir_blocks = 1024 }) (record { rebalancing = false; total = 448; free = 289; offline = 0 })
      ≡ codes "MOUNTED NORMAL N 512 4096 1048576 448 289 0 DATA"
  pub small : mounted_line (codes "DATA") (record { kind = External; au = 4096; sector = 512; step = 20000; dir_blocks = 128 }) (record { rebalancing = false; total = 1024; free = 754; offline = 0 })
      ≡ codes "MOUNTED EXTERN N 512 4096 4096 1024 754 0 DATA"
  pub generated : mounted_line (codes "DATA") (record { kind = Normal; au = 1048576; sector = 512; step = 20000; dir_blocks = 1024 }) (record { rebalancing = false; total = 192; free = 85; offline = 0 })
      ≡ codes "MOUNTED NORMAL N 512 4096 1048576 192 85 0 DATA"
  pub dismounted : dismounted_line (codes "DATA") ≡ codes "DISMOUNTED - - - - - - - - DATA"
  pub disk : disk_line (record { number = 3; mode = Offline; failgroup = codes "DATA_0003"; quorum = false; total = 64; free = 55; name = codes "DATA_0003" })
      ≡ codes "3 Offline DATA_0003 REGULAR 64 55 DATA_0003"
  pub quorum_disk : disk_line (record { number = 3; mode = Online; failgroup = codes "q"; quorum = true; total = 64; free = 55; name = codes "DATA_0003" })
      ≡ codes "3 Online q QUORUM 64 55 DATA_0003"
  pub template : template_line (system_template 3 Fine (codes "CONTROLFILE")) ≡ codes "CONTROLFILE HIGH FINE Y"
  pub attributes : attribute_lines (record { kind = Normal; au = 1048576; sector = 512; step = 20000; dir_blocks = 1024 }) (record usual_attributes { repair = 300; asm = codes "11.2.0.4" })
      ≡ codes "Name Value" ∷ codes "au_size 1048576" ∷ codes "compatible.advm 11.2" ∷ codes "compatible.asm 11.2.0.4" ∷ codes "compatible.rdbms 11.2"
      ∷ codes "dir_blocks 1024" ∷ codes "disk_repair_time 300s" ∷ codes "extent_step 20000" ∷ codes "sector_size 512" ∷ []
  pub used : du_lines 1048576 2097152 ≡ codes "Used Mirror_used" ∷ codes "1048576 2097152" ∷ []
  pub checked : check_line 1 0 ≡ codes "check 1 0"

-- each refusal as the last line of a reply
pub record RefusedReplyRows : Type 0 where
  pub group_exists : reply_text (p.Refused [] r.GroupExists) ≡ codes "error 3 GroupExists\n"
  pub too_few_groups : reply_text (p.Refused [] (r.TooFewGroups 3 2)) ≡ codes "error 7 TooFewGroups 3 2\n"
  pub too_small : reply_text (p.Refused [] (r.TooSmall (codes "DATA_0000") 25)) ≡ codes "error 8 TooSmall DATA_0000 25\n"
  pub too_small_long : reply_text (p.Refused [] (r.TooSmall (codes "G234567890123456789012345_0000") 25)) ≡ codes "error 8 TooSmall G234567890123456789012345_0000 25\n"
  pub not_sectors : reply_text (p.Refused [] r.NotSectors) ≡ codes "error 28 NotSectors\n"
  pub bad_attribute : reply_text (p.Refused [] (r.BadAttribute (codes "au_size"))) ≡ codes "error 22 BadAttribute au_size\n"
  pub not_empty_group : reply_text (p.Refused [] r.GroupNotEmpty) ≡ codes "error 38 GroupNotEmpty\n"
  pub no_group : reply_text (p.Refused [] r.NoGroup) ≡ codes "error 2 NoGroup\n"
  pub out_of_file : reply_text (p.Refused [] r.OutOfFile) ≡ codes "error 27 OutOfFile\n"
  pub write_fault : reply_text (p.Refused [] (r.WriteFault (codes "DATA_0000"))) ≡ codes "error 31 WriteFault DATA_0000\n"
  pub no_space : reply_text (p.Refused [] (r.NoSpace 256 16)) ≡ codes "error 25 NoSpace 256 16\n"
  pub host_fault : reply_text (p.Refused [] (r.HostFault (codes "./none"))) ≡ codes "error 37 HostFault ./none\n"
  pub read_fault : reply_text (p.Refused [] (r.ReadFault (codes "DATA_0000"))) ≡ codes "error 30 ReadFault DATA_0000\n"
  pub name_taken : reply_text (p.Refused [] r.NameTaken) ≡ codes "error 15 NameTaken\n"
  pub no_name : reply_text (p.Refused [] r.NoName) ≡ codes "error 14 NoName\n"
  pub dismounted : reply_text (p.Refused [] (r.Dismounted (codes "DATA_0000"))) ≡ codes "error 32 Dismounted DATA_0000\n"
  pub has_alias : reply_text (p.Refused [] r.HasAlias) ≡ codes "error 18 HasAlias\n"
  pub system_name : reply_text (p.Refused [] r.SystemName) ≡ codes "error 19 SystemName\n"
  pub system_template : reply_text (p.Refused [] r.SystemTemplate) ≡ codes "error 21 SystemTemplate\n"
  pub directory_full : reply_text (p.Refused [] (r.DirectoryFull 4 3)) ≡ codes "error 26 DirectoryFull 4 3\n"
  pub missing_disks : reply_text (p.Refused [] (r.MissingDisks (codes "DATA_0001"))) ≡ codes "error 11 MissingDisks DATA_0001\n"
  pub no_majority : reply_text (p.Refused [] (r.NoMajority 0 1)) ≡ codes "error 9 NoMajority 0 1\n"
  pub lost : reply_text (p.Refused [] (r.Lost 256 1)) ≡ codes "error 29 Lost 256 1\n"
  pub holds_directories : reply_text (p.Refused [] (r.HoldsDirectories (codes "DATA_0000"))) ≡ codes "error 40 HoldsDirectories DATA_0000\n"
  pub would_lose : reply_text (p.Refused [] (r.WouldLose 256 1)) ≡ codes "error 33 WouldLose 256 1\n"
  pub disk_state : reply_text (p.Refused [] (r.DiskState (codes "DATA_0001") mode.Online)) ≡ codes "error 34 DiskState DATA_0001 Online\n"
  pub bad_power : reply_text (p.Refused [] (r.BadPower 1025)) ≡ codes "error 23 BadPower 1025\n"
  pub damaged : reply_text (p.Refused [] (r.Damaged (codes "d0") 1033)) ≡ codes "error 13 Damaged d0 1033\n"
  pub not_directory : reply_text (p.Refused [] r.NotDirectory) ≡ codes "error 16 NotDirectory\n"
  pub not_empty : reply_text (p.Refused [] r.NotEmpty) ≡ codes "error 17 NotEmpty\n"
  pub no_template : reply_text (p.Refused [] r.NoTemplate) ≡ codes "error 20 NoTemplate\n"
  pub bad_redundancy : reply_text (p.Refused [] r.BadRedundancy) ≡ codes "error 24 BadRedundancy\n"
  pub two_groups : reply_text (p.Refused [] r.TwoGroups) ≡ codes "error 12 TwoGroups\n"
  pub already_mounted : reply_text (p.Refused [] r.AlreadyMounted) ≡ codes "error 4 AlreadyMounted\n"
  pub no_disk : reply_text (p.Refused [] (r.NoDisk (codes "d9"))) ≡ codes "error 5 NoDisk d9\n"
  pub no_directories : reply_text (p.Refused [] r.DirectoriesLost) ≡ codes "error 10 DirectoriesLost\n"
  pub too_many : reply_text (p.Refused [] (r.TooMany r.Templates 64)) ≡ codes "error 36 TooMany templates 64\n"
  pub no_memory : reply_text (p.Refused [] r.NoMemory) ≡ codes "error 39 NoMemory\n"
