-- A group that was found is taken over: what that leaves on the disks, until its record is written anew and once it is.
use Rattle.std.proofs.Common.{◌≡◌, inl, ℕ, ◌<◌, IsSome, List, [], ◌∷◌, refl, sym, subst, ◌∙◌, Option, Some, None, Result, Ok}
use Rattle.std.proofs.lemmas.Bool.{false≢true}
use Rattle.refusal_lines.specs.declared.refusal.Refusal.{Refusal}
use Rattle.bay.specs.Image.{Image, Same}
use Rattle.bay.specs.Moments.{NowOnly, Runs}
use Rattle.bay.specs.State.{BayState, IsSound}
use Rattle.bay.proofs.Calls.{goes_on, on_more, stops}
use Rattle.bay.proofs.Images.{same-trans}
use Rattle.asm_group.specs.Group.{Group}
use Rattle.asm_group.specs.Names.{Bytes}
use Rattle.asm_formats.specs.Among.{IsAmong}
use Rattle.group_engine.specs.Mounts.{MountedGroup}
use Rattle.group_recovery.specs.Finding.{AreThere}
use Rattle.group_recovery.specs.Founds.{FoundDisks, IsFound}
use Rattle.group_recovery.specs.Quorum.{IsQuorate}
use Rattle.group_recovery.specs.Recovered.{ChangesMembers, IsMeant, LeavesGroups, LeavesOneGroup, StoodFor}
use Rattle.group_recovery.specs.Recovering.{ArePartsOf, RecoverCause}
use Rattle.group_recovery.specs.Verdicts.{IsSlotIn}
use Rattle.group_recovery.specs.declared.error.MountError.{MountError}
use Rattle.group_recovery.specs.declared.error.MountError.TheVariants as error
use Rattle.group_recovery.specs.declared.quorum.MountOption.{MountOption}
use Rattle.group_recovery.specs.declared.quorum.Quorate.{Quorate}
use Rattle.group_recovery.specs.declared.recovering.Parts.{Parts}
use Rattle.mounted_groups.specs.Clearing.{IsRefusalOf}
use Rattle.mounted_groups.specs.Leaving.{ClaimsGroup, IsMountedOn, LeavesClaimed, LeavesMounted, LeavesRefused, MountsOne, before_record, behind_record, claimed_group, looked}
use Rattle.mounted_groups.specs.Mounting.{free_disks, mounted_of}
use Rattle.mounted_groups.proofs.LeftDisks.{claims, parts_on, stood_on}
use Rattle.mounted_groups.proofs.Takeovers.{in_left, is_inside, quorate_left}

some_of : (o : Option Image) → IsSome o → (x : Image) × (o ≡ Some x)
some_of None some = absurd (false≢true some)
some_of (Some x) some = (x, refl)

-- one look and then another
looks_on : (n : ℕ) {s u m : BayState} {some : ℕ → Type 0} → ((slot : ℕ) → some slot → slot < n) → Runs (λ slot. slot < n) Same s u → Runs some Same u m → Runs (λ slot. slot < n) Same s m
looks_on n {s} {u} {m} {some} inside one two = goes_on same-trans one (stops one) (on_more inside two)

-- ---- refusals

module _ (name : Bytes) (n : ℕ) (held : List ℕ) (option : MountOption) {B : Type 0} (state : B → BayState) (s t : BayState) where
  -- nothing was written
  pub looks_refused : (e : MountError) → Runs (λ slot. slot < n) Same s t → LeavesRefused state name n held option s t e
  looks_refused error.NoGroup run = run
  looks_refused error.TwoGroups run = run
  looks_refused (error.NoMajority seen need) run = looked run
  looks_refused (error.Damaged slot block) run = run
  looks_refused error.DirectoriesLost run = run
  looks_refused (error.MissingDisk number disk) run = run
  looks_refused (error.Dead slot disk) run = before_record (looked run)
  looks_refused error.NoMemory run = before_record (looked run)

  -- a claim is refused by the majority
  pub claim_refused : (q : Quorate) (u : BayState) (e : MountError) → RecoverCause q e u t → LeavesClaimed state name n held option s t → LeavesRefused state name n held option s t e
  claim_refused q u error.NoGroup cause left = absurd cause
  claim_refused q u error.TwoGroups cause left = absurd cause
  claim_refused q u (error.NoMajority seen need) cause left = left
  claim_refused q u (error.Damaged slot block) cause left = absurd cause
  claim_refused q u error.DirectoriesLost cause left = absurd cause
  claim_refused q u (error.MissingDisk number disk) cause left = absurd cause
  claim_refused q u (error.Dead slot disk) cause left = before_record left
  claim_refused q u error.NoMemory cause left = before_record left

  -- a group that was mounted is lost
  pub lost_refused : (m : MountedGroup) (given : Refusal) (e : MountError) → IsRefusalOf m given e → LeavesMounted state name n held option s t → LeavesRefused state name n held option s t e
  lost_refused m given error.NoGroup is left = absurd is
  lost_refused m given error.TwoGroups is left = absurd is
  lost_refused m given (error.NoMajority seen need) is left = absurd is
  lost_refused m given (error.Damaged slot block) is left = absurd is
  lost_refused m given error.DirectoriesLost is left = absurd is
  lost_refused m given (error.MissingDisk number disk) is left = absurd is
  lost_refused m given (error.Dead slot disk) is left = behind_record left
  lost_refused m given error.NoMemory is left = behind_record left

-- ---- what was found

module _ (name : Bytes) (n : ℕ) (held : List ℕ) (option : MountOption) (found f : FoundDisks) (is : f ≡ free_disks held found) (slots : found.slots ≡ n)
    {B : Type 0} (state : B → BayState) (s : BayState) (between later : B) (t : BayState) (there : AreThere n found.headed (state between))
    (first : Runs (λ slot. slot < n) Same s (state between)) (read : Runs (IsSlotIn f.headed) Same (state between) (state later)) where
  -- nothing is written until the group is read
  pub looks_two : Runs (λ slot. slot < n) Same s (state later)
  looks_two = looks_on n (is_inside name n held option found f is slots (state between) there) first read

  pub reads_two : Runs (λ slot. slot < n) Same (state between) (state later)
  reads_two = on_more (is_inside name n held option found f is slots (state between) there) read

  pub not_read : LeavesClaimed state name n held option s (state later)
  not_read = looked looks_two

  module _ (q : Quorate) (was : IsFound name n found s (state between)) (quorate : IsQuorate option f q (state later))
      (members : Runs (IsSlotIn q.headed.items) (ChangesMembers q.id) (state later) t) (answer : Result Parts MountError)
      (leaves : (groups : List Group) → StoodFor q groups (state later) → LeavesGroups q groups answer (state later) t) where
    inside : (slot : ℕ) → IsSlotIn q.headed.items slot → slot < n
    inside slot in_q =
        is_inside name n held option found f is slots (state between) there slot (in_left name n held option found f is slots (state between) there q quorate.headed_are slot in_q)

    claim : ClaimsGroup n q s t
    claim = claims n q s (state later) t looks_two (on_more inside members) (λ groups may. (leaves groups may).moments)

    pub not_renewed_leaves : LeavesClaimed state name n held option s t
    not_renewed_leaves = claimed_group
        (record { found = found; between = between; is = was; searched = first; quorum = q; later = later; quorate = quorate_left name n held option found f is slots q (state later) quorate }) claim

  module _ (q : Quorate) (was : IsFound name n found s (state between)) (quorate : IsQuorate option f q (state later)) (now : ℕ) (parts : Parts) (are : ArePartsOf q now parts t)
      (members : Runs (IsSlotIn q.headed.items) (ChangesMembers q.id) (state later) t)
      (leaves : (groups : List Group) → StoodFor q groups (state later) → LeavesGroups q groups (Ok parts) (state later) t) (sound_m : IsSound (state later)) (sound : IsSound t) where
    slots_are : q.slots ≡ n
    slots_are = quorate.slots_are ∙ subst (λ (d : FoundDisks). d.slots ≡ n) (sym is) slots

    one_on : (groups : List Group) (g : Group) → LeavesOneGroup q groups parts (state later) t → IsSome s.holds → IsAmong groups g → NowOnly (state later) (IsMeant q q.survey.value g)
        → IsMountedOn 65 n g (mounted_of parts) t
    one_on groups g one tells among meant =
        let x = some_of (state later).holds (looks_two.tells tells) in
        let y = some_of t.holds (members.tells (looks_two.tells tells)) in
        parts_on q now parts t are (state later) quorate.quorum groups one g among meant x.0 (sound_m.held x.0 x.1) y.0 (sound.held y.0 y.1) n slots_are

    pub mounts_one : (m : MountedGroup) → m ≡ mounted_of parts → MountsOne state name n held option m s t
    mounts_one m same = subst (λ (k : MountedGroup). MountsOne state name n held option k s t) (sym same) (record {
      was = record { found = found; between = between; is = was; searched = first; quorum = q; later = later; quorate = quorate_left name n held option found f is slots q (state later) quorate };
      id = are.register.own;
      looks = looks_two;
      claims = claim q was quorate members (Ok parts) leaves;
      mounts = λ groups g may tells among meant. one_on groups g (leaves groups (stood_on q groups looks_two may)).one tells among meant;
      only = λ g may tells.
          let one = (leaves (g ∷ []) (stood_on q (g ∷ []) looks_two may)).one in
          one_on (g ∷ []) g one tells (inl refl) (one.only g refl);
    })
