-- Paths, patterns, names of disks, attributes and refusals, computed.
use Rattle.std.specs.Prelude.{◌≡◌, true, false, List, [], ◌∷◌, map, Some, None, Ok, Err, codes}
use Rattle.asm_group.specs.declared.GroupKind.TheVariants.{External, Normal, High}
use Rattle.asm_group.specs.Names.{Bytes}
use Rattle.asm_group.specs.NewGroup.{usual_attributes}
use Rattle.asm_group.specs.Refusal as r
use Rattle.asm_world.specs.Causes.{decided, statement_causes, verb_causes}
use Rattle.asm_world.specs.Below.{Below}
use Rattle.asm_world.specs.Command as c
use Rattle.asm_world.specs.Files.{new_name, least_from, file_name}
use Rattle.asm_world.specs.Listings.{is_match}
use Rattle.asm_world.specs.NewDisks.{usual_name}
use Rattle.asm_world.specs.Paths.{resolved, clause_path, is_host_path, path_text}
use Rattle.asm_world.specs.Settings.{creation, repair_seconds, is_version}
use Rattle.asm_world.specs.Statement as s
use Rattle.asm_world.specs.World.{World, NotTold, empty_world, DismountedBy}

abbrev pub here : List Bytes
here = codes "DATA" ∷ codes "o" ∷ []

pub record PathRows : Type 0 where
  pub top : resolved here (codes "+") ≡ Some []
  pub group : resolved here (codes "+OTHER") ≡ Some (codes "OTHER" ∷ [])
  pub below : resolved here (codes "DATAFILE/u.256.1") ≡ Some (codes "DATA" ∷ codes "o" ∷ codes "DATAFILE" ∷ codes "u.256.1" ∷ [])
  pub parent : resolved here (codes "..") ≡ Some (codes "DATA" ∷ [])
  pub above_top : resolved here (codes "../../..") ≡ Some []
  pub from_top : resolved [] (codes "DATA/o") ≡ Some here
  pub printed : path_text here ≡ codes "+DATA/o"
  pub printed_top : path_text [] ≡ codes "+"
  pub clause : clause_path (codes "data") (codes "+DATA/a/..") ≡ Some (codes "a" ∷ codes ".." ∷ [])
  pub another_group : clause_path (codes "DATA") (codes "+OTHER/a") ≡ None
  pub no_path : clause_path (codes "DATA") (codes "a") ≡ None
  pub outside : is_host_path (codes "./out") ≡ true
  pub absolute : is_host_path (codes "/tmp/out") ≡ true
  pub inside : is_host_path (codes "../out") ≡ false
  pub starred : is_match (codes "U*1") (codes "u.256.1") ≡ true
  pub all : is_match (codes "*") (codes "x") ≡ true
  pub other : is_match (codes "u*2") (codes "u.256.1") ≡ false

pub record NewNameRows : Type 0 where
  pub usual : usual_name (codes "DATA") 0 ≡ codes "DATA_0000"
  pub long_group : usual_name (codes "G23456789012345678901234567890") 0 ≡ codes "G234567890123456789012345_0000"
  pub file : file_name (codes "u") 256 1 ≡ codes "u.256.1"
  pub next : least_from 256 (256 ∷ 257 ∷ 259 ∷ []) ≡ 258
  pub volume : new_name (codes "o" ∷ codes "AsmVol" ∷ codes "v" ∷ []) ≡ None

pub record AttributeRows : Type 0 where
  pub tenth_of_a_minute : repair_seconds (codes "0.1m") ≡ Some 6
  pub usual_time : repair_seconds (codes "3.6h") ≡ Some 12960
  pub minutes : repair_seconds (codes "5m") ≡ Some 300
  pub hours : repair_seconds (codes "100000") ≡ Some 360000000
  pub too_long : repair_seconds (codes "100000.1m") ≡ None
  pub two_digits : repair_seconds (codes "1.25h") ≡ None
  pub version : is_version (codes "11.2.0.4") ≡ true
  pub version_alone : is_version (codes "11.2") ≡ true
  pub other_version : is_version (codes "11.20") ≡ false
  pub open_version : is_version (codes "11.2.") ≡ false
  pub usual : creation None [] ≡ Ok (record { shape = record { kind = Normal; au = 1048576; sector = 512; step = 20000; dir_blocks = 1024 }; attributes = usual_attributes })
  pub last_holds : creation (Some External) (record { name = codes "au_size"; value = codes "1M" } ∷ record { name = codes "AU_SIZE"; value = codes "4K" } ∷ record { name = codes "dir_blocks"; value = codes "128" } ∷ [])
      ≡ Ok (record { shape = record { kind = External; au = 4096; sector = 512; step = 20000; dir_blocks = 128 }; attributes = usual_attributes })
  pub eight_sectors : creation None (record { name = codes "sector_size"; value = codes "4096" } ∷ record { name = codes "au_size"; value = codes "16K" } ∷ []) ≡ Err (r.BadAttribute (codes "au_size"))
  pub replaced_value : creation None (record { name = codes "Au_size"; value = codes "3M" } ∷ record { name = codes "au_size"; value = codes "4M" } ∷ []) ≡ Err (r.BadAttribute (codes "Au_size"))

abbrev pub new_disk : Bytes → s.NewDisk
new_disk path = record { path = path; name = None; size = None; force = false }

abbrev pub plain : List Bytes → List s.NewFailgroup
plain paths = record { quorum = false; name = None; disks = map new_disk paths } ∷ []

abbrev pub first_world : World
first_world = empty_world (λ path. NotTold)

abbrev pub one_dismounted : World
one_dismounted = record first_world { session = record { name = codes "DATA"; id = 65536; state = DismountedBy (codes "DATA_0000") } ∷ [] }

-- Refusals that the tests decide. What lies below the world doesn't count in them.
pub record CauseRows (below : Below) : Type 0 where
  pub one_image : decided (statement_causes below first_world (s.CreateGroup (codes "DATA") (Some External) (plain (codes "d0" ∷ [])) [])) ≡ None
  pub high_needs_three : decided (statement_causes below first_world (s.CreateGroup (codes "H") (Some High) (plain (codes "d0" ∷ codes "d1" ∷ [])) [])) ≡ Some (r.TooFewGroups 3 2)
  pub path_twice : decided (statement_causes below first_world (s.CreateGroup (codes "D") None (plain (codes "d0" ∷ codes "d0" ∷ [])) [])) ≡ Some r.NameTaken
  pub statement_twice : decided (statement_causes below one_dismounted (s.CreateGroup (codes "data") (Some External) (plain (codes "d0" ∷ [])) [])) ≡ Some r.GroupExists
  pub no_group : decided (verb_causes below first_world (c.MakeDirectory (codes "+NONE/a"))) ≡ Some r.NoGroup
  pub no_group_at_top : decided (verb_causes below first_world (c.MakeDirectory (codes ".."))) ≡ Some r.NoGroup
  pub later : decided (verb_causes below one_dismounted (c.Ls false (Some (codes "+DATA")))) ≡ Some (r.Dismounted (codes "DATA_0000"))
  pub dismount : decided (statement_causes below one_dismounted (s.Alter (codes "DATA") (s.Dismount false))) ≡ None
  pub mount : decided (statement_causes below one_dismounted (s.Alter (codes "DATA") (s.Mount true))) ≡ None
  pub listing : decided (verb_causes below one_dismounted (c.ListGroups None)) ≡ None
