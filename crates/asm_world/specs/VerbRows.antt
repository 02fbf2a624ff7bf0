-- Lines, and what they ask for.
use Rattle.std.specs.Prelude.{◌≡◌, true, false, [], ◌∷◌, Some, None, codes}
use Rattle.asm_world.specs.Command as c
use Rattle.asm_world.specs.Language.{command_of}
use Rattle.asm_world.specs.Statement as s

pub record VerbRows : Type 0 where
  pub create : command_of (codes "dbcreate +DATA/o/DATAFILE/u 1M") ≡ c.Asked (c.DbCreate (codes "+DATA/o/DATAFILE/u") 1048576 None)
  pub create_by : command_of (codes "dbcreate +DATA/o/DATAFILE/u 4M scratch") ≡ c.Asked (c.DbCreate (codes "+DATA/o/DATAFILE/u") 4194304 (Some (codes "scratch")))
  pub write : command_of (codes "dbwrite u.256.1 0 61fF") ≡ c.Asked (c.DbWrite (codes "u.256.1") 0 (97 ∷ 255 ∷ []))
  pub fill : command_of (codes "dbfill +DATA/o/DATAFILE/u.256.1 512K 512 61") ≡ c.Asked (c.DbFill (codes "+DATA/o/DATAFILE/u.256.1") 524288 512 97)
  pub read : command_of (codes "dbread u.256.1\t0 1024 ") ≡ c.Asked (c.DbRead (codes "u.256.1") 0 1024)
  pub resize : command_of (codes "dbresize u.256.1 512K") ≡ c.Asked (c.DbResize (codes "u.256.1") 524288)
  pub list : command_of (codes "ls") ≡ c.Asked (c.Ls false None)
  pub list_long : command_of (codes "ls -l +DATA/o/CONTROLFILE") ≡ c.Asked (c.Ls true (Some (codes "+DATA/o/CONTROLFILE")))
  pub list_some : command_of (codes "ls +DATA/o*") ≡ c.Asked (c.Ls false (Some (codes "+DATA/o*")))
  pub go : command_of (codes "cd ..") ≡ c.Asked (c.Cd (codes ".."))
  pub place : command_of (codes "pwd") ≡ c.Asked c.Pwd
  pub make : command_of (codes "mkdir +DATA/a") ≡ c.Asked (c.MakeDirectory (codes "+DATA/a"))
  pub remove : command_of (codes "rm +DATA/o/DATAFILE/b.257.2") ≡ c.Asked (c.Remove (codes "+DATA/o/DATAFILE/b.257.2"))
  pub copy_out : command_of (codes "cp u.256.1 ./out") ≡ c.Asked (c.CopyFile (codes "u.256.1") (codes "./out"))
  pub copy_in : command_of (codes "cp ./out +DATA/o/DATAFILE/w") ≡ c.Asked (c.CopyFile (codes "./out") (codes "+DATA/o/DATAFILE/w"))
  pub copy_within : command_of (codes "cp u.256.1 +DATA/o/DATAFILE/w") ≡ c.Asked (c.CopyFile (codes "u.256.1") (codes "+DATA/o/DATAFILE/w"))
  pub usage : command_of (codes "du") ≡ c.Asked (c.Usage None)
  pub search : command_of (codes "find +DATA u*") ≡ c.Asked (c.Find (codes "+DATA") (codes "u*"))
  pub alias : command_of (codes "mkalias u.256.1 +DATA/x") ≡ c.Asked (c.MakeAlias (codes "u.256.1") (codes "+DATA/x"))
  pub no_alias : command_of (codes "rmalias +DATA/X") ≡ c.Asked (c.RemoveAlias (codes "+DATA/X"))
  pub groups : command_of (codes "lsdg") ≡ c.Asked (c.ListGroups None)
  pub disks : command_of (codes "lsdsk DATA") ≡ c.Asked (c.ListDisks (codes "DATA"))
  pub templates : command_of (codes "lstmpl DATA") ≡ c.Asked (c.ListTemplates (codes "DATA"))
  pub attributes : command_of (codes "lsattr DATA") ≡ c.Asked (c.ListAttributes (codes "DATA"))
  pub offline : command_of (codes "offline DATA DATA_0003") ≡ c.Asked (c.OfflineDisk (codes "DATA") (codes "DATA_0003"))
  pub online : command_of (codes "online DATA DATA_0003") ≡ c.Asked (c.OnlineDisk (codes "DATA") (codes "DATA_0003"))
  pub power : command_of (codes "rebal DATA 0") ≡ c.Asked (c.SetPower (codes "DATA") 0)
  -- a carriage return is no space
  pub carriage_return : command_of (codes "pwd\r") ≡ c.Unreadable 3
  pub unfinished_keyword : command_of (codes "CRE") ≡ c.Unreadable 3
  pub wrong_keyword : command_of (codes "CREx") ≡ c.Unreadable 3
  pub no_verb : command_of (codes "lsx") ≡ c.Unreadable 2
  pub upper_case : command_of (codes "LS") ≡ c.Unreadable 0
  pub two_outside : command_of (codes "cp ./a ./b") ≡ c.Unreadable 8
  pub odd_digits : command_of (codes "dbwrite u 0 616") ≡ c.Unreadable 15
  pub star_elsewhere : command_of (codes "cd a*") ≡ c.Unreadable 4
  pub statement : command_of (codes "drop diskgroup data including contents ;") ≡ c.Said (s.DropGroup (codes "data") true)
  pub add_alone : command_of (codes "ALTER DISKGROUP data ADD") ≡ c.Unreadable 24
