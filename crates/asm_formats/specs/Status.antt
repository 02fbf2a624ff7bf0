-- The status record: which disks a group has, and in which mode each is.
use Rattle.std.specs.Prelude.{ℕ, ◌+◌, ◌^◌, Bool, true, ◌&&◌, List, [], ◌∷◌, ◌++◌, length, map, find, flat_map, drop, nat_lt, nat_le, ◌==◌, codes, Option}
use Rattle.std.specs.Int.{w16, w32, w64}
use Rattle.std.specs.List.{list_all}
use Rattle.std.specs.Option.{is_some, option_or}
use Rattle.asm_group.specs.Names.{Bytes}
use Rattle.asm_group.specs.Modes.{is_offline}
use Rattle.asm_group.specs.declared.Mode.{Mode}
use Rattle.asm_formats.specs.Bytes.{number_bytes, whole_block, byte_at, number_at, values_at, spelled_by}
use Rattle.asm_formats.specs.Codes.{flag, mode_code, mode_of}
use Rattle.asm_formats.specs.Regions.{most_units}
use Rattle.asm_formats.specs.Sets.{elements, most_disks}

pub record Entry : Type 0 where
  pub number : ℕ
  pub birth : ℕ
  pub mode : Mode
  -- disks of one failure group have one number here
  pub failgroup : ℕ
  pub quorum : Bool
  pub units : ℕ
  -- the second since which the disk is offline, and the seconds after which it is dropped
  pub since : ℕ
  pub repair : ℕ
  -- a set of disk numbers
  pub partners : ℕ

abbrev pub is_offline_entry : Entry → Bool
is_offline_entry e = is_offline e.mode

pub record Status : Type 0 where
  pub id : ℕ
  pub epoch : ℕ
  pub turn : ℕ
  -- the group was dropped
  pub gone : Bool
  -- the greatest birth given so far
  pub births : ℕ
  -- sets of disk numbers: those that hold status records, those that will, and those that hold directory copies; no next holders are 0
  pub holders : ℕ
  pub next_holders : ℕ
  pub directories : ℕ
  pub entries : List Entry

-- ---- as it is written

unfoldable pub entry_fields : Entry → Bytes
entry_fields e =
    e.number ∷ number_bytes w64 e.birth ++ (mode_code e.mode ∷ e.failgroup ∷ flag e.quorum
    ∷ number_bytes w32 e.units ++ (number_bytes w64 e.since ++ (number_bytes w64 e.repair ++ number_bytes w64 e.partners)))

-- from the directory copies on
unfoldable pub tail_fields : Status → Bytes
tail_fields r = number_bytes w64 r.directories ++ (length r.entries ∷ flat_map entry_fields r.entries)

-- up to the holders
unfoldable pub front_fields : ℕ → Status → Bytes → Bytes
front_fields version r rest =
    codes "ASMP" ++ (number_bytes w16 version ++ (number_bytes w64 r.id ++ (number_bytes w64 r.epoch ++ (number_bytes w64 r.turn
    ++ (flag r.gone ∷ number_bytes w64 r.births ++ (number_bytes w64 r.holders ++ rest))))))

-- the spelling of version 2, the only one that is written
unfoldable pub status_spelling : Status → Bytes
status_spelling r = whole_block (front_fields 2 r (number_bytes w64 r.next_holders ++ tail_fields r))

-- that of version 1, which has no next holders
unfoldable pub status_spelling_1 : Status → Bytes
status_spelling_1 r = whole_block (front_fields 1 r (tail_fields r))

-- ---- what it may be

unfoldable pub is_entry : Entry → Bool
is_entry e =
    nat_lt e.number most_disks && (nat_lt e.birth (2 ^ 64) && (nat_lt e.failgroup 256 && (nat_le e.units most_units
    && (nat_lt e.since (2 ^ 64) && (nat_lt e.repair (2 ^ 64) && nat_lt e.partners (2 ^ 64))))))

-- from a number on, in ascending order
abbrev pub ascends_from : ℕ → List ℕ → Bool
ascends_from least [] = true
ascends_from least (n ∷ ns) = nat_le least n && ascends_from (n + 1) ns

-- the entry of a disk
unfoldable pub entry_of : List Entry → ℕ → Option Entry
entry_of entries d = find (λ e. e.number == d) entries

abbrev pub has_entry : List Entry → ℕ → Bool
has_entry entries d = is_some (entry_of entries d)

-- each disk of the set has an entry
abbrev pub have_entries : List Entry → ℕ → Bool
have_entries entries set = list_all (has_entry entries) (elements set)

unfoldable pub is_status : Status → Bool
is_status r =
    nat_lt r.id (2 ^ 64) && (nat_lt r.epoch (2 ^ 64) && (nat_lt r.turn (2 ^ 64) && (nat_lt r.births (2 ^ 64)
    && (nat_lt r.holders (2 ^ 64) && (nat_lt r.next_holders (2 ^ 64) && (nat_lt r.directories (2 ^ 64)
    && (list_all is_entry r.entries && (ascends_from 0 (map (λ (e : Entry). e.number) r.entries)
    && (have_entries r.entries r.holders && (have_entries r.entries r.next_holders && have_entries r.entries r.directories))))))))))

-- a record that version 1 can spell
abbrev pub is_status_1 : Status → Bool
is_status_1 r = is_status r && (r.next_holders == 0)

-- ---- as it is read: the fields at their places, whatever the bytes are

unfoldable pub entry_in_bytes : Bytes → Entry × Bytes
entry_in_bytes bytes =
    let disk = byte_at bytes in
    let birth = number_at w64 disk.1 in
    let mode = byte_at birth.1 in
    let failgroup = byte_at mode.1 in
    let quorum = byte_at failgroup.1 in
    let units = number_at w32 quorum.1 in
    let since = number_at w64 units.1 in
    let repair = number_at w64 since.1 in
    let partners = number_at w64 repair.1 in (
      record {
        number = disk.0;
        birth = birth.0;
        mode = mode_of mode.0;
        failgroup = failgroup.0;
        quorum = quorum.0 == 1;
        units = units.0;
        since = since.0;
        repair = repair.0;
        partners = partners.0;
      },
      partners.1,
    )

-- with the next holders as a reading gives them, and the bytes behind them
abbrev pub status_by : (Bytes → ℕ × Bytes) → Bytes → Status
status_by next_at bytes =
    let id = number_at w64 (drop 6 bytes) in
    let epoch = number_at w64 id.1 in
    let turn = number_at w64 epoch.1 in
    let gone = byte_at turn.1 in
    let births = number_at w64 gone.1 in
    let holders = number_at w64 births.1 in
    let next = next_at holders.1 in
    let directories = number_at w64 next.1 in
    let count = byte_at directories.1 in
    record {
      id = id.0;
      epoch = epoch.0;
      turn = turn.0;
      gone = gone.0 == 1;
      births = births.0;
      holders = holders.0;
      next_holders = next.0;
      directories = directories.0;
      entries = (values_at entry_in_bytes count.0 count.1).0;
    }

unfoldable pub status_at : Bytes → Status
status_at bytes = status_by (number_at w64) bytes

unfoldable pub status_at_1 : Bytes → Status
status_at_1 bytes = status_by (λ rest. (0, rest)) bytes

-- the record that the bytes are a spelling of: of version 2, or of version 1, which a record without next holders has too
unfoldable pub decoded_status : Bytes → Option Status
decoded_status bytes = option_or (spelled_by is_status status_spelling bytes (status_at bytes)) (spelled_by is_status_1 status_spelling_1 bytes (status_at_1 bytes))
