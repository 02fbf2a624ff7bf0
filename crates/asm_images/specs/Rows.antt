-- Worked values of the register and of the choice of directories, which are computed.
use Rattle.std.specs.Prelude.{◌≡◌, ℕ, ◌+◌, Bool, true, false, List, [], ◌∷◌, map, Some, None}
use Rattle.asm_group.specs.declared.Mode.TheVariants.{Online}
use Rattle.asm_formats.specs.Status.{Status, Entry}
use Rattle.asm_images.specs.Members.{Member}
use Rattle.asm_images.specs.Register.{is_enough, status}
use Rattle.asm_images.specs.Directories.{directories}
use Rattle.asm_images.specs.Created.{only_header}

-- disk d has birth d + 1
abbrev pub online_entry : ℕ → Entry
online_entry d = record { number = d; birth = d + 1; mode = Online; failgroup = d; quorum = false; units = 1024; since = 0; repair = 0; partners = 0 }

-- a record of five disks with these sets of holders, and directory copies on disks 0 and 1
abbrev pub five_disk_record : ℕ → ℕ → ℕ → ℕ → Bool → Status
five_disk_record epoch turn holders next gone =
    record { id = 65536; epoch = epoch; turn = turn; gone = gone; births = 5; holders = holders; next_holders = next; directories = 3; entries = map online_entry (0 ∷ 1 ∷ 2 ∷ 3 ∷ 4 ∷ []) }

-- the disk in slot d, with this birth, which holds these records and a content of this commit number
abbrev pub member_in_slot : ℕ → ℕ → List Status → ℕ → Member
member_in_slot d birth records commit = record {
  slot = d;
  header = record only_header { number = d; birth = birth };
  disk = record {
    size = 4194304;
    header = Some (record only_header { number = d; birth = birth });
    claims = [];
    statuses = map (λ r. Some r) records;
    content = Some (record { commit = commit; items = Some [] });
    decodes = true;
  };
}

-- these disks, each with its own birth
abbrev pub members_in_slots : List ℕ → List Member
members_in_slots ds = map (λ d. member_in_slot d (d + 1) [] 1) ds

-- holders 0, 1 and 2, which move to 2, 3 and 4
abbrev pub resting : Status
resting = five_disk_record 1 1 7 0 false

abbrev pub moving : Status
moving = five_disk_record 1 2 7 28 false

pub record EnoughRows : Type 0 where
  pub two_of_three : is_enough resting (members_in_slots (0 ∷ 2 ∷ [])) ≡ true
  pub one_of_three : is_enough resting (members_in_slots (1 ∷ 3 ∷ 4 ∷ [])) ≡ false
  pub half_of_four : is_enough (five_disk_record 1 1 15 0 false) (members_in_slots (0 ∷ 1 ∷ [])) ≡ false
  pub other_birth : is_enough resting (member_in_slot 0 1 [] 1 ∷ member_in_slot 1 9 [] 1 ∷ []) ≡ false
  pub first_set_alone : is_enough moving (members_in_slots (0 ∷ 1 ∷ [])) ≡ false
  pub second_set_alone : is_enough moving (members_in_slots (3 ∷ 4 ∷ [])) ≡ false
  pub both_sets : is_enough moving (members_in_slots (1 ∷ 2 ∷ 3 ∷ [])) ≡ true

pub record StatusRows : Type 0 where
  -- the greater turn, though only one disk has it
  pub greatest : status 65536 (member_in_slot 0 1 (resting ∷ []) 1 ∷ member_in_slot 1 2 (five_disk_record 1 2 7 0 false ∷ []) 1 ∷ []) ≡ Some (five_disk_record 1 2 7 0 false)
  -- the greater epoch counts before the turn
  pub epoch_first : status 65536 (member_in_slot 0 1 (five_disk_record 2 1 7 0 false ∷ []) 1 ∷ member_in_slot 1 2 (five_disk_record 1 9 7 0 false ∷ []) 1 ∷ []) ≡ Some (five_disk_record 2 1 7 0 false)
  -- the greatest record decides, though the members are enough for the older one
  pub not_enough : status 65536 (member_in_slot 0 1 (resting ∷ []) 1 ∷ member_in_slot 1 2 (moving ∷ []) 1 ∷ []) ≡ None
  pub gone : status 65536 (member_in_slot 0 1 (five_disk_record 1 3 7 0 true ∷ []) 1 ∷ member_in_slot 1 2 (resting ∷ []) 1 ∷ []) ≡ None
  pub nothing : status 65536 [] ≡ None

pub record DirectoryRows : Type 0 where
  pub greatest : directories resting (member_in_slot 0 1 [] 4 ∷ member_in_slot 1 2 [] 5 ∷ []) ≡ Some (record { commit = 5; items = Some [] })
  -- disk 2 isn't named
  pub named_alone : directories resting (member_in_slot 0 1 [] 4 ∷ member_in_slot 2 3 [] 5 ∷ []) ≡ Some (record { commit = 4; items = Some [] })
  -- nor is disk 1 under another birth
  pub birth_counts : directories resting (member_in_slot 0 1 [] 4 ∷ member_in_slot 1 9 [] 5 ∷ []) ≡ Some (record { commit = 4; items = Some [] })
  pub none_left : directories resting (member_in_slot 2 3 [] 5 ∷ []) ≡ None
