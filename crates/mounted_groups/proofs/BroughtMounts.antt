-- The group stays mounted while directory copies are brought up, and while what a stop left undone is ended.
use Rattle.std.proofs.Common.{◌≡◌, ⊎_elim, ℕ, ◌+◌, ◌*◌, ◌≤◌, [], ◌∷◌, None, refl, ◌∙◌, arith}
use Rattle.bay.specs.Moments.{LeavesOnly}
use Rattle.bay.specs.State.{BayState}
use Rattle.bay.proofs.Calls.{leaves_begin, leaves_less, leaves_on}
use Rattle.asm_group.specs.Group.{Group}
use Rattle.asm_images.specs.Kept.{Kept}
use Rattle.group_engine.specs.Commits.{StandsIn, turns_at_most}
use Rattle.group_engine.specs.Copying.{MountsLater, StandThrough}
use Rattle.group_engine.specs.Mounts.{MayRecord, MountedGroup, Mounts}
use Rattle.group_engine.specs.Own.{IsSameGroup}
use Rattle.group_engine.specs.Pending.{HasTurns, StandsThrough, StaysMounted}
use Rattle.group_engine.proofs.Endings.{kept_before}
use Rattle.group_engine.proofs.Standings.{stands_at_rest}
use Rattle.mounted_groups.specs.Bringing.{MountsBehind, StandWhile, TurnsLast}
use Rattle.mounted_groups.specs.Leaving.{IsMountedOn}

-- ---- nothing was done

stands_now : (m : MountedGroup) (s : BayState) (n : ℕ) (g : Group) (kept : Kept) → Mounts n m s g kept → LeavesOnly s s (StandsIn n m.register.id (g ∷ []) kept)
stands_now m s n g kept mounts = leaves_begin (record { now = λ image left. stands_at_rest n m.register.id (g ∷ []) kept image mounts.begun (mounts.now.now image left) })

pub stands_still : (m : MountedGroup) (s : BayState) → StandThrough m s s
stands_still m s n g kept may = stands_now m s n g kept may.mounts

pub mounts_still : (m : MountedGroup) (s : BayState) → MountsLater m m s s
mounts_still m s n g kept may = (kept, refl, may.mounts)

pub stands_at_first : (m : MountedGroup) (s : BayState) → StandWhile 0 m s s
stands_at_first m s last n g kept mounts = stands_now m s n g kept mounts

pub mounts_at_first : (m : MountedGroup) (s : BayState) → MountsBehind 0 m m s s
mounts_at_first m s last n g kept mounts = (kept, refl, mounts)

-- ---- turns for more disks are turns for fewer

pub stands_for_more : (few many : ℕ) (old : MountedGroup) (s t : BayState) → few ≤ many → StandWhile few old s t → StandWhile many old s t
stands_for_more few many old s t le stands last = stands (omega (arith, le, last))

pub mounts_for_more : (few many : ℕ) (old new : MountedGroup) (s t : BayState) → few ≤ many → MountsBehind few old new s t → MountsBehind many old new s t
mounts_for_more few many old new s t le mounts last = mounts (omega (arith, le, last))

-- ---- one disk more

module _ (calls : ℕ) (old mid : MountedGroup) (s m t : BayState) (turns : turns_at_most mid ≤ turns_at_most old + 2 * calls) (mounts : MountsBehind calls old mid s m) where
  may_record : (last : TurnsLast (calls + 1) old) (n : ℕ) (g : Group) (kept : Kept) (is : Mounts n old s g kept)
      → (later : Kept) × (later.slots ≡ kept.slots) × MayRecord n mid m g later
  may_record last n g kept is =
      let later = mounts (omega (arith, last)) n g kept is in
      (later.0, later.1, record { mounts = later.2; turns = omega (arith, last, turns) })

  pub stands_more : mid.register.id ≡ old.register.id → StandWhile calls old s m → StandThrough mid m t → StandWhile (calls + 1) old s t
  stands_more same before through last n g kept is =
      let may = may_record last n g kept is in
      leaves_on (before (omega (arith, last)) n g kept is)
      (leaves_less (λ x here. kept_before n old.register.id mid.register.id (g ∷ []) kept may.0 x same may.1 here) (through n g may.0 may.2))

  pub mounts_more : (new : MountedGroup) → MountsLater mid new m t → MountsBehind (calls + 1) old new s t
  mounts_more new after last n g kept is =
      let may = may_record last n g kept is in
      let end = after n g may.0 may.2 in
      (end.0, end.1 ∙ may.1, end.2)

  -- ---- and the end of what a stop left undone

  may_end : (last : TurnsLast (calls + 1) old) (n : ℕ) (g : Group) (kept : Kept) (is : Mounts n old s g kept)
      → (later : Kept) × (later.slots ≡ kept.slots) × Mounts n mid m g later × HasTurns mid
  may_end last n g kept is =
      let later = mounts (omega (arith, last)) n g kept is in
      (later.0, later.1, later.2, omega (arith, last, turns))

  pub stands_to_end : mid.register.id ≡ old.register.id → StandWhile calls old s m → StandsThrough mid m t → StandWhile (calls + 1) old s t
  stands_to_end same before through last n g kept is =
      let may = may_end last n g kept is in
      leaves_on (before (omega (arith, last)) n g kept is)
      (leaves_less (λ x here. kept_before n old.register.id mid.register.id (g ∷ []) kept may.0 x same may.1 here) (through n g may.0 may.2 may.3))

  pub mounts_to_end : (new : MountedGroup) → StaysMounted mid new m t → MountsBehind (calls + 1) old new s t
  mounts_to_end new after last n g kept is =
      let may = may_end last n g kept is in
      let end = after n g may.0 may.2 may.3 in
      (end.0, end.1 ∙ may.1, end.2)

-- ---- the group that a mount took over

-- a move that is on its way goes on or is given up, and none begins
pub still_later : (old new : MountedGroup) → IsSameGroup old new → old.flight ≡ None → new.flight ≡ None
still_later old new same still = ⊎_elim (λ (on : new.flight ≡ old.flight). on ∙ still) (λ (gone : new.flight ≡ None). gone) same.flight

module _ (group new : MountedGroup) (n : ℕ) (g : Group) (s t : BayState) (is : IsMountedOn 65 n g group s) where
  last : TurnsLast 65 group
  last = omega (arith, is.turns)

  pub on_through : StandWhile 65 group s t → LeavesOnly s t (StandsIn n group.register.id (g ∷ []) is.kept)
  on_through stands = stands last n g is.kept is.mounts

  pub on_later : MountsBehind 65 group new s t → turns_at_most new ≤ turns_at_most group + 2 * 64 → IsSameGroup group new → IsMountedOn (65 + 2 * 64) n g new t
  on_later mounts turns same =
      let later = mounts last n g is.kept is.mounts in
      record { kept = later.0; mounts = later.2; turns = omega (arith, is.turns, turns); still = still_later group new same is.still }
