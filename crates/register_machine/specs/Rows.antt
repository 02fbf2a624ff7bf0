-- Worked runs of four disks, of which 0, 1 and 2 hold the records.
use Rattle.std.specs.Prelude.{◌≡◌, ℕ, ◌+◌, ◌==◌, false, List, [], ◌∷◌, ◌++◌, map, Option, Some, None, if◌then◌else◌}
use Rattle.std.specs.List.{list_any}
use Rattle.asm_group.specs.declared.Mode.{Mode}
use Rattle.asm_group.specs.declared.Mode.TheVariants.{Online, Offline, Dropping}
use Rattle.asm_formats.specs.Status.{Status, Entry}
use Rattle.asm_formats.specs.Following.{Holder}
use Rattle.register_machine.specs.Disks.{status}
use Rattle.register_machine.specs.Mounts.{claims, completes, surveys, writes}
use Rattle.register_machine.specs.Machine.{Event, Creates, Stops, AreAllowed, after_all, start}

-- disk d has birth d + 1
abbrev pub disk : ℕ → Holder
disk d = (d, d + 1)

abbrev pub disks : List ℕ → List Holder
disks ds = map disk ds

abbrev pub entry : Mode → List ℕ → ℕ → Entry
entry mode changed d = record {
  number = d;
  birth = d + 1;
  mode = if list_any (λ n. n == d) changed then mode else Online;
  failgroup = d;
  quorum = false;
  units = 64;
  since = 0;
  repair = 0;
  partners = 0;
}

-- a record of the four disks: number, holders and next holders as sets, and which disks aren't Online but in a mode
abbrev pub record_of : ℕ → ℕ → ℕ → ℕ → Mode → List ℕ → Status
record_of epoch turn holders next_holders mode changed = record {
  id = 65536;
  epoch = epoch;
  turn = turn;
  gone = false;
  births = 4;
  holders = holders;
  next_holders = next_holders;
  directories = 7;
  entries = map (entry mode changed) (0 ∷ 1 ∷ 2 ∷ 3 ∷ []);
}

-- four disks, all Online
abbrev pub created : Status
created = record_of 1 1 7 0 Online []

abbrev pub creation : List Event
creation = Creates created ∷ claims (disks (0 ∷ 1 ∷ 2 ∷ [])) created 1 ++ completes (disks (0 ∷ 1 ∷ 2 ∷ [])) created

-- what disks give for Status after the creation and these events
abbrev pub status_after : List Event → List ℕ → Option Status
status_after events ds = status (after_all start (creation ++ events)).disks (disks ds)

-- ---- a record on one holder, then two forced mounts

-- disk 3 goes Offline, by a record that is stored on disk 2 alone
abbrev pub third_offline : Status
third_offline = record_of 1 2 7 0 Offline (3 ∷ [])

-- a mount without disk 2 takes that one Offline
abbrev pub second_offline : Status
second_offline = record_of 2 1 7 0 Offline (2 ∷ [])

abbrev pub stopped_change : List Event
stopped_change = writes (disks (2 ∷ [])) third_offline ++ Stops ∷ []

abbrev pub one_holder : List Event
one_holder = stopped_change ++ surveys (disks (0 ∷ 1 ∷ 3 ∷ [])) created 2 ++ completes (disks (1 ∷ 0 ∷ [])) second_offline ++ Stops ∷ []

pub record OneHolderRow : Type 0 where
  pub allowed : AreAllowed start (creation ++ one_holder)
  -- a record that isn't complete may be found, or not
  pub with_its_holder : status_after stopped_change (0 ∷ 2 ∷ []) ≡ Some third_offline
  pub without_it : status_after stopped_change (0 ∷ 1 ∷ []) ≡ Some created
  -- then the record of the second program wins: for a third one without disk 1
  pub second_wins : status_after one_holder (0 ∷ 2 ∷ 3 ∷ []) ≡ Some second_offline

-- ---- a stopped forced mount, then another

-- without disk 3, stored on disk 2 alone
abbrev pub stopped_mount : Status
stopped_mount = record_of 2 1 7 0 Offline (3 ∷ [])

-- without disk 2, of the epoch after the claim that disks 0 and 1 show
abbrev pub other_mount : Status
other_mount = record_of 3 1 7 0 Offline (2 ∷ [])

abbrev pub two_mounts : List Event
two_mounts =
    Stops ∷ surveys (disks (0 ∷ 1 ∷ 2 ∷ [])) created 2 ++ writes (disks (2 ∷ [])) stopped_mount
    ++ Stops ∷ surveys (disks (0 ∷ 1 ∷ 3 ∷ [])) created 3 ++ completes (disks (1 ∷ 0 ∷ [])) other_mount ++ Stops ∷ []

pub record TwoMountsRow : Type 0 where
  pub allowed : AreAllowed start (creation ++ two_mounts)
  pub second_wins : status_after two_mounts (0 ∷ 2 ∷ 3 ∷ []) ≡ Some other_mount

-- ---- two sets of holders: the tables move from disks 0, 1 and 2 to 1, 2 and 3

abbrev pub dropping : Status
dropping = record_of 1 2 7 0 Dropping (0 ∷ [])

abbrev pub moving : Status
moving = record_of 1 3 7 14 Dropping (0 ∷ [])

abbrev pub moved : Status
moved = record_of 1 4 14 0 Dropping (0 ∷ [])

abbrev pub half_moved : List Event
half_moved = completes (disks (2 ∷ 1 ∷ 0 ∷ [])) dropping ++ completes (disks (3 ∷ 2 ∷ 1 ∷ 0 ∷ [])) moving

abbrev pub all_moved : List Event
all_moved = half_moved ++ completes (disks (3 ∷ 2 ∷ 1 ∷ [])) moved

pub record HoldersMoveRow : Type 0 where
  pub allowed : AreAllowed start (creation ++ all_moved)
  -- two of the holders are there, but one of the next holders
  pub first_set_alone : status_after half_moved (0 ∷ 1 ∷ []) ≡ None
  pub both_sets : status_after half_moved (1 ∷ 2 ∷ []) ≡ Some moving
  pub one_of_three : status_after all_moved (3 ∷ []) ≡ None
  pub two_of_three : status_after all_moved (2 ∷ 3 ∷ []) ≡ Some moved
