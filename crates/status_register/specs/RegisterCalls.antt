-- What the calls of a register did, each as one value.
use Rattle.std.specs.Prelude.{◌≡◌, ℕ, ◌*◌, ◌<◌, ◌^◌, List, length, IfErr, IfOk, IsTrue, OnOk, Result, Some, None}
use Rattle.bay.specs.Calls.{Calls, cost}
use Rattle.bay.specs.Counts.{Rose}
use Rattle.bay.specs.Image.{Same}
use Rattle.bay.specs.Moments.{Ends}
use Rattle.bay.specs.State.{BayState}
use Rattle.asm_formats.specs.Claim.{claim_spelling}
use Rattle.asm_formats.specs.Status.{Status, is_status, status_spelling}
use Rattle.status_register.specs.Answers.{IsSurveyed, Surveyed}
use Rattle.status_register.specs.Holders.{attached_to, with_next_number}
use Rattle.status_register.specs.Keeping.{IsRegisterReady, KeepsFromClaim, KeepsFromFirst, KeepsNoRecord, KeepsStanding, KeepsWritten, MayBeFirst}
use Rattle.status_register.specs.Reaching.{Reaches}
use Rattle.status_register.specs.Registered.{IsClaimAnswer, KeepsHistory, Registered, claim_of}
use Rattle.status_register.specs.Rows.{CallsInOrder, HaveClaim, PutsRow, cost_of_puts}
use Rattle.status_register.specs.Slots.{claim_gate, status_gate}
use Rattle.status_register.specs.Surveys.{AreRead, missing}
use Rattle.status_register.specs.Tallies.{IsSlotOf}
use Rattle.status_register.specs.Writes.{FailedAlone, HoldersShow, IsDeadOf, IsWriteAnswer, ShowBut, after_write, first_holders, first_register}
use Rattle.status_register.specs.declared.error.Dead.{Dead}
use Rattle.status_register.specs.declared.error.SurveyError.{SurveyError}
use Rattle.status_register.specs.declared.member.Member.{Member}

-- ---- claims

-- The claim of a group's first epoch was put on its members, past faults.
pub record ClaimsFirst (id epoch : ℕ) (ms : List Member) (result : Result (Unit {0}) Dead)
    (s t : BayState) : Type 0 where
  -- at Ok each of their disks shows the claim
  pub done : OnOk result
      (Ends (HaveClaim (claim_spelling (record { id = id; epoch = epoch })) ms) s t)
  -- it fails only where the slot of a member failed, which it names
  pub cause : IfErr result (λ dead. IsDeadOf ms dead.slot s t)
  -- the claim is put on them in some order
  pub calls : Calls (IsSlotOf ms)
      (PutsRow (claim_gate id) ms (claim_spelling (record { id = id; epoch = epoch })))
      (cost_of_puts (length ms)) s t
  -- each image of each moment has no record of the group, as before
  pub moments : KeepsNoRecord id ms s t
  -- at Ok a record of this epoch may be the first
  pub kept : OnOk result (MayBeFirst id epoch ms s t)

-- The epoch after those of a survey was claimed on its members, whichever of them were read.
pub record ClaimsEpoch (survey : Surveyed) (result : Result Registered SurveyError)
    (s t : BayState) : Type 0 where
  -- by those that took the claim
  pub answer : IsClaimAnswer survey result s t
  -- the claim is put on the members in some order
  pub calls : Calls (IsSlotOf survey.members)
      (PutsRow (claim_gate survey.id) survey.members (claim_spelling (claim_of survey)))
      (cost_of_puts (length survey.members)) s t
  -- at each moment the disks fit the history that they did
  pub history : KeepsHistory survey s t
  -- the id is a number of 64 bits
  pub small : survey.id < 2 ^ 64

-- The epoch after those of a survey was claimed, and this is the register that it gives.
pub record ClaimsNext (survey : Surveyed) (result : Result Registered SurveyError)
    (s t : BayState) : Type 0 where
  pub claim : ClaimsEpoch survey result s t
  -- the register may be written
  pub ready : IfOk result (λ register. IsRegisterReady register t)
  -- the attached disks are enough for its record
  pub reaches : IfOk result (λ register. Reaches register.members register.value)
  -- it keeps the history that the disks fit
  pub kept : KeepsFromClaim survey result s t

-- ---- surveys

-- The members of a group were surveyed.
pub record HasSurveyed (id : ℕ) (ms : List Member) (result : Result Surveyed SurveyError)
    (s t : BayState) : Type 0 where
  -- by what the disks of those that were read say
  pub answer : IsSurveyed id ms result s t
  -- it is of these members
  pub surveyed : IfOk result (λ survey. (survey.id ≡ id) × (survey.members ≡ ms))
  -- the record is one of the formats and of the group, whatever the disks hold
  pub own : IfOk result (λ survey. IsTrue (is_status survey.value) × (survey.value.id ≡ id))
  -- the members that were read are told: one is left out only where its slot failed
  pub seen : IfOk result
      (λ survey. AreRead (λ slot. Rose (s.faults slot) (t.faults slot)) ms survey.read)
  -- nothing is written
  pub calls : Calls (IsSlotOf ms) Same (cost (8 * length ms) 0) s t

-- ---- records

-- The register is that of a record that stands on members.
pub record IsStandingRegister (r : Status) (ms : List Member) (new : Registered) (s : BayState) : Type 0 where
  -- those of the members that are disks of the record's entries are attached
  pub register : new ≡ first_register r ms
  -- it may be written
  pub ready : IsRegisterReady new s
  -- where the members are enough for the record, the attached ones are
  pub reaches : missing ms (Some r) ≡ None → Reaches new.members new.value
  -- where each image that a stop may leave fits the history in which the record is complete, the
  -- register keeps it
  pub history : KeepsStanding new s

-- The first record of a group was put on the disks of its sets among the members, past faults.
pub record WritesFirst (r : Status) (ms : List Member) (result : Result Registered Dead)
    (s t : BayState) : Type 0 where
  -- those of the members that are disks of the record's entries are attached
  pub register : IfOk result (λ new. new ≡ first_register r ms)
  -- the register may be written
  pub ready : IfOk result (λ new. IsRegisterReady new t)
  -- where the members are enough for the record, the attached ones are
  pub reaches : IfOk result (λ new. missing ms (Some r) ≡ None → Reaches new.members new.value)
  -- at Ok each holder of the record shows it
  pub shown : OnOk result (Ends (HoldersShow ms r) s t)
  -- it fails only where the slot of a member failed, which it names
  pub cause : IfErr result (λ dead. IsDeadOf ms dead.slot s t)
  -- the puts come in the order of the disks' numbers
  pub calls : CallsInOrder (status_gate r.id) (first_holders r ms) (status_spelling r) s t
  -- at each moment the disks fit the history in which it is begun, and at Ok it is completed
  pub history : KeepsFromFirst r ms result s t

-- A record of a register was put on the attached disks of its sets, past faults.
pub record HasWritten (old : Registered) (next : Status) (result : Result ℕ Dead) (new : Registered)
    (s t : BayState) : Type 0 where
  -- by those that took the record
  pub answer : IsWriteAnswer (attached_to old.members next) (with_next_number old next) result s t
  -- each of these disks shows the record but those of the set that is given
  pub shown : IfOk result
      (λ set. Ends (ShowBut (attached_to old.members next) set (with_next_number old next)) s t)
  -- in that set is only a disk whose slot failed
  pub failed : IfOk result (λ set. FailedAlone (attached_to old.members next) set s t)
  -- the turn is used up, and once a set is given the record holds
  pub register : new ≡ after_write old next result
  -- the record under its number is one of the formats
  pub allowed : IsTrue (is_status (with_next_number old next))
  -- the attached disks are enough for the record that holds then
  pub reaches : OnOk result (Reaches new.members new.value)
  -- the puts come in the order of the disks' numbers
  pub calls : CallsInOrder (status_gate old.id) (attached_to old.members next)
      (status_spelling (with_next_number old next)) s t
  -- at each moment the disks fit the history in which it is begun, and once a set is given it is
  -- completed
  pub history : KeepsWritten old next result new s t
