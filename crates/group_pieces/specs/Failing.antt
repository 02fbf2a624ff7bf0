-- The status record once disks failed.
use Rattle.std.specs.Prelude.{◌≡◌, ◌<◌, ◌≤◌, ℕ, Bool, ◌&&◌, List, if◌then◌else◌, nat_lt, true, map}
use Rattle.asm_group.specs.declared.Mode.TheVariants.{Offline}
use Rattle.asm_formats.specs.Sets.{has_bit}
use Rattle.asm_formats.specs.Status.{Entry, Status, entry_of}
use Rattle.asm_formats.specs.Among.{IsAmong}
use Rattle.asm_placement.specs.Modes.{is_dropping, mode_is, serves}
use Rattle.asm_placement.specs.Partners.{HasPartners}
use Rattle.record_laws.specs.Getting.{ChangesModesAlone}
use Rattle.record_laws.specs.group_engine.Mounts.{MountedGroup}
use Rattle.record_laws.specs.group_engine.Pending.{serving_in, turns_with_faults}

-- the entry Offline, since that second, for so many seconds until the disk is dropped
abbrev pub offline_entry : ℕ → ℕ → Entry → Entry
offline_entry since repair e = record e { mode = Offline; since = since; repair = repair }

-- the same where it is that of a disk of the set below a number, else as it was
abbrev pub entry_failed : ℕ → ℕ → ℕ → ℕ → Entry → Entry
entry_failed failed below since repair e = if nat_lt e.number below && has_bit failed e.number then offline_entry since repair e else e

-- the record with the disks of a set below a number Offline
abbrev pub status_failed : Status → ℕ → ℕ → ℕ → ℕ → Status
status_failed r failed below since repair = record r { entries = map (entry_failed failed below since repair) r.entries }

-- the disks of the set are Offline, since that second
abbrev pub AreOffline : ℕ → ℕ → Status → Type 0
AreOffline failed since r = (e : Entry) → IsAmong r.entries e → e.number < 64 → has_bit failed e.number ≡ true → (e.mode ≡ Offline) × (e.since ≡ since)

-- ---- the modes

-- each disk of the set has an entry, and serves reads and writes
abbrev pub AreServing : List Entry → ℕ → Type 0
AreServing entries failed = (k : ℕ) → k < 64 → has_bit failed k ≡ true → mode_is serves (entry_of entries k) ≡ true

-- the entry is that of a disk of the set, which is being dropped
abbrev pub is_dropping_in : ℕ → Entry → Bool
is_dropping_in disks e = is_dropping e.mode && has_bit disks e.number

-- Where the disks of the set serve and the partners are those of the table, the next record changes modes alone, and its partners are so too.
abbrev pub FailsModes : Status → ℕ → Status → Type 0
FailsModes r failed next = AreServing r.entries failed → HasPartners r.entries → ChangesModesAlone r next × HasPartners next.entries

-- Where the disks of the set serve, and there is one, fewer disks serve by the next record.
abbrev pub FewerServe : Status → ℕ → Status → Type 0
FewerServe r failed next =
    AreServing r.entries failed → (k : ℕ) → k < 64 → has_bit failed k ≡ true
    → serving_in next.entries < serving_in r.entries

-- Where the disks of the set serve, turns are taken by faults alone.
abbrev pub CostsFaults : MountedGroup → ℕ → MountedGroup → Type 0
CostsFaults old failed new =
    AreServing old.register.value.entries failed → turns_with_faults new ≤ turns_with_faults old
