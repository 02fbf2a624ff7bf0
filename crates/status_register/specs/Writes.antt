-- What a write of a record answers, and what it leaves.
use Rattle.std.specs.Prelude.{◌≡◌, ℕ, ◌<◌, ◌≤◌, ◌*◌, Bool, true, false, ◌&&◌, ◌==◌, not, List, length, IfErr, MatchResult, OnOk, Result, Ok, Err, Some, None, replicate}
use Rattle.std.specs.List.{list_any}
use Rattle.bay.specs.Image.{Image}
use Rattle.bay.specs.State.{BayState}
use Rattle.bay.specs.Counts.{Rose}
use Rattle.bay.specs.Moments.{Ends}
use Rattle.asm_formats.specs.Among.{IsAmong}
use Rattle.asm_formats.specs.Sets.{has_bit}
use Rattle.asm_formats.specs.Status.{Status, status_spelling}
use Rattle.asm_formats.specs.Following.{Holder, sets, disks_of}
use Rattle.status_register.specs.Holders.{next_turn, with_next_number, attached_to}
use Rattle.status_register.specs.Registered.{Registered, all_placed}
use Rattle.status_register.specs.Rows.{CallsInOrder, HasStatus, HaveStatus}
use Rattle.status_register.specs.Slots.{status_gate}
use Rattle.status_register.specs.Surveys.{AreRead, missing, seen_of}
use Rattle.status_register.specs.Tallies.{IsSlotOf}
use Rattle.status_register.specs.declared.member.Member.{Member}
use Rattle.status_register.specs.declared.error.Dead.{Dead}

-- one of these is the member
abbrev pub is_one_of : List Member → Member → Bool
is_one_of ms m = list_any (λ (n : Member). (n.slot == m.slot) && ((n.number == m.number) && (n.birth == m.birth))) ms

-- the set of the numbers of those that didn't take it
abbrev pub IsFailed : List Member → List Member → ℕ → Type 0
IsFailed ms took failed = (k : ℕ) → k < 64 → has_bit failed k ≡ list_any (λ (m : Member). (m.number == k) && not (is_one_of took m)) ms

-- No majority of the set took it, and the member is an attached disk of the set that didn't.
pub record IsLostOf (ms took : List Member) (set : List Holder) (disk : Member) : Type 0 where
  pub few : 2 * seen_of took set ≤ length set
  pub attached : IsAmong ms disk
  pub of_set : IsAmong set (disk.number, disk.birth)
  pub not_taken : is_one_of took disk ≡ false

-- the member is lost to one of a record's sets
pub record IsLostMember (ms took : List Member) (all : List (List Holder)) (disk : Member) : Type 0 where
  pub set : List Holder
  pub of_record : IsAmong all set
  pub lost : IsLostOf ms took set disk

-- The answer is by those that took the record, which their disks show from then on. A disk didn't take it only where its slot failed.
abbrev pub IsWriteAnswer : List Member → Status → Result ℕ Dead → BayState → BayState → Type 0
IsWriteAnswer ms r answer s t =
    (took : List Member) × AreRead (λ slot. Rose (s.faults slot) (t.faults slot)) ms took
    × Ends (HaveStatus (status_spelling r) took) s t
    × MatchResult answer
    (λ failed. (missing took (Some r) ≡ None) × IsFailed ms took failed)
    (λ dead. (disk : Member) × IsLostMember ms took (sets r) disk × (dead.slot ≡ disk.slot) × Rose (s.faults dead.slot) (t.faults dead.slot))

-- each of these disks that isn't in the set shows the record
abbrev pub ShowBut : List Member → ℕ → Status → Image → Image → Type 0
ShowBut ms failed r old new = (m : Member) → IsAmong ms m → has_bit failed m.number ≡ false → HasStatus (status_spelling r) m.slot new

-- one of these disks is in the set only where its slot failed
abbrev pub FailedAlone : List Member → ℕ → BayState → BayState → Type 0
FailedAlone ms failed s t =
    (k : ℕ) → k < 64 → has_bit failed k ≡ true → (m : Member) × IsAmong ms m × (m.number ≡ k) × Rose (s.faults m.slot) (t.faults m.slot)

-- what the register is after a write: the turn is used up, and once a set was given the record holds
abbrev pub after_write : Registered → Status → Result ℕ Dead → Registered
after_write old next (Ok failed) = record old { value = with_next_number old next; turn = next_turn old.turn; is_fresh = false }
after_write old next (Err dead) = record old { turn = next_turn old.turn }

-- ---- the first record of a group

-- each holder of the record is one of the members and shows it
abbrev pub HoldersShow : List Member → Status → Image → Image → Type 0
HoldersShow ms r old new =
    (h : Holder) → IsAmong (disks_of r.entries r.holders) h
    → (m : Member) × IsAmong ms m × (m.number ≡ h.0) × (m.birth ≡ h.1) × HasStatus (status_spelling r) m.slot new

-- the attached holders of a first record
abbrev pub first_holders : Status → List Member → List Member
first_holders r ms = attached_to (all_placed r.entries (replicate 64 None) ms) r

-- the register of a first record
abbrev pub first_register : Status → List Member → Registered
first_register r ms = record {
  id = r.id;
  members = all_placed r.entries (replicate 64 None) ms;
  value = r;
  epoch = r.epoch;
  turn = r.turn;
  is_fresh = false;
}

-- the slot is that of one of the members, and failed
abbrev pub IsDeadOf : List Member → ℕ → BayState → BayState → Type 0
IsDeadOf ms slot s t = IsSlotOf ms slot × Rose (s.faults slot) (t.faults slot)

-- A record was put on these disks in their order, past faults. Each of them must take it.
pub record WritesOnAll (id : ℕ) (ms : List Member) (r : Status) (result : Result (Unit {0}) Dead)
    (s t : BayState) : Type 0 where
  -- at Ok each of them shows it
  pub done : OnOk result (Ends (HaveStatus (status_spelling r) ms) s t)
  -- it fails only where the slot of one of them failed, which it names
  pub cause : IfErr result (λ dead. IsDeadOf ms dead.slot s t)
  -- the puts come in their order
  pub calls : CallsInOrder (status_gate id) ms (status_spelling r) s t
