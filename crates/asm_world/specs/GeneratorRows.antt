-- The generator's script for 7.
use Rattle.std.specs.Prelude.{◌≡◌, List, [], ◌∷◌, take, drop, length, codes}
use Rattle.asm_group.specs.Names.{Bytes}
use Rattle.asm_world.specs.Command as c
use Rattle.asm_world.specs.Generator.{generated, create_file, fill_command, next_choice, after_choices}
use Rattle.asm_world.specs.Language.{command_of}

abbrev pub four_paths : List Bytes
four_paths = codes "d0" ∷ codes "d1" ∷ codes "d2" ∷ codes "d3" ∷ []

abbrev pub script : List Bytes
script = generated 7 four_paths

pub record GeneratorRows : Type 0 where
  pub commands : length script ≡ 1023
  pub first : take 6 script
      ≡ codes "CREATE DISK 'd0' SIZE 64M;" ∷ codes "CREATE DISK 'd1' SIZE 64M;" ∷ codes "CREATE DISK 'd2' SIZE 64M;" ∷ codes "CREATE DISK 'd3' SIZE 64M;"
      ∷ codes "CREATE DISKGROUP DATA DISK 'd0', 'd1', 'd2', 'd3';" ∷ codes "dbcreate +DATA/gen/DATAFILE/f0 1M" ∷ []
  pub last_file : create_file 15 ≡ codes "dbcreate +DATA/gen/DATAFILE/f15 4M"
  pub fill_1 : fill_command (next_choice 7) ≡ codes "dbfill +DATA/gen/DATAFILE/f14.270.15 1564160 512 90"
  pub fill_2 : fill_command (after_choices 2 7) ≡ codes "dbfill +DATA/gen/DATAFILE/f15.271.16 3834368 512 29"
  pub fill_3 : fill_command (after_choices 3 7) ≡ codes "dbfill +DATA/gen/DATAFILE/f1.257.2 1533952 512 05"
  pub fill_500 : fill_command (after_choices 500 7) ≡ codes "dbfill +DATA/gen/DATAFILE/f8.264.9 544256 512 57"
  pub fill_1000 : fill_command (after_choices 1000 7) ≡ codes "dbfill +DATA/gen/DATAFILE/f6.262.7 3143168 512 20"
  pub between : take 1 (drop 521 script) ≡ codes "ALTER DISKGROUP DATA DROP DISK DATA_0003 REBALANCE POWER 4;" ∷ []
  pub at_end : drop 1022 script ≡ codes "lsdg" ∷ []
  pub fill_says : command_of (codes "dbfill +DATA/gen/DATAFILE/f14.270.15 1564160 512 90") ≡ c.Asked (c.DbFill (codes "+DATA/gen/DATAFILE/f14.270.15") 1564160 512 144)
