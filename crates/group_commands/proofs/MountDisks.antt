-- What a mount leaves of what the disks stand for.
use Rattle.std.proofs.Common.{◌≡◌, ⊎_elim, inl, inr, ℕ, ◌+◌, ◌*◌, ◌<◌, ◌≤◌, Bool, false, List, [], ◌∷◌, length, refl, sym, ◌∙◌, subst, arith}
use Rattle.bay.specs.Image.{Image, Same}
use Rattle.bay.specs.Moments.{LeavesOnly, Runs}
use Rattle.bay.specs.State.{BayState, IsSound}
use Rattle.bay.proofs.Calls.{leaves_less, leaves_on}
use Rattle.asm_group.specs.Group.{Group}
use Rattle.asm_group.specs.Names.{Bytes}
use Rattle.asm_world.specs.Command.{Command}
use Rattle.asm_world.specs.World.{World, groups_of, has_mounted}
use Rattle.session.specs.mounted_groups.Leaving.{IsMountedOn, LeavesClaimed, LeavesLost, LeavesRefused, MountsOne, WasMounted, before_record, behind_record, claimed_group, looked}
use Rattle.session.specs.mounted_groups.Mounting.{WasQuorate}
use Rattle.session.proofs.mounted_groups.ReadNames.{reads_named}
use Rattle.session.specs.group_engine.Commits.{StandsIn}
use Rattle.session.specs.group_engine.Frames.{StaysAttached}
use Rattle.session.specs.group_engine.Mounts.{MountedGroup}
use Rattle.group_recovery.specs.Mounting.{Allows}
use Rattle.group_recovery.specs.Recovered.{ChangesMembers, StoodFor}
use Rattle.group_recovery.specs.declared.error.MountError.{MountError}
use Rattle.group_recovery.specs.declared.error.MountError.TheVariants as error
use Rattle.group_recovery.specs.declared.quorum.MountOption.{MountOption}
use Rattle.session.specs.session_claims.Claims.{KeepsWorlds, StandsFor}
use Rattle.session.specs.session_claims.Found.{IsNameFree}
use Rattle.session.specs.session_claims.Laws.{MountsGoOn, ReplacesGroups, WorksUnder}
use Rattle.session.proofs.session_claims.Images.{held_allows}
use Rattle.session.proofs.session_claims.Looks.{looks_keep}
use Rattle.session.proofs.session_claims.Mounted.{mounts_keep, refused_mounts_keep}
use Rattle.session.proofs.session_claims.FoundMembers.{found_is_unmounted}
use Rattle.session.specs.Proved.{HasOwnGroups, IsAloneByName}
use Rattle.session.proofs.Creation.{same_some}

-- more ids were given
given_more : (n : ℕ) (known : ℕ → Bool) (given given' : ℕ) (s t : BayState) (w w' : World) (groups' : List MountedGroup) (command : Command) → given ≤ given'
    → KeepsWorlds n known command given s t w w' groups' → KeepsWorlds n known command given' s t w w' groups'
given_more n known given given' s t w w' groups' command more keeps = record {
  held = keeps.held;
  there = keeps.there;
  now = record {
    tells = keeps.now.tells;
    entries = keeps.now.entries;
    ids = keeps.now.ids;
    allows = keeps.now.allows;
    mounted = keeps.now.mounted;
    members = keeps.now.members;
    origin = λ image id left has. ⊎_elim (λ (below : id < given). inl (omega (arith, below, more))) (λ at. inr at) (keeps.now.origin image id left has);
  };
}

module _ {B : Type 0} (state : B → BayState) (name : Bytes) (n : ℕ) (held : List ℕ) (option : MountOption) (s t : BayState)
    (sounds : (b : B) → IsSound (state b)) (sound : IsSound s) (attached : StaysAttached s t) (known : ℕ → Bool) (given : ℕ) (w : World) (groups : List MountedGroup) (stands : StandsFor n known given s w groups) (own : HasOwnGroups w) (few : IsAloneByName w name) (free : IsNameFree w name) where
  unmounted : (was : WasQuorate state name n held option s) → has_mounted w was.quorum.id ≡ false
  unmounted was = found_is_unmounted state sounds s sound n known given w groups name held option stands own.named free was

  stood : (was : WasQuorate state name n held option s) → StoodFor was.quorum (groups_of w was.quorum.id) s
  stood was = record { allows = record { now = λ image left. stands.allows image was.quorum.id left }; epochs = was.quorate.epoch }

  -- ---- behind the record

  module _ (group : MountedGroup) (at : B) (one : MountsOne state name n held option group s (state at)) where
    abbrev pub id : ℕ
    id = one.was.quorum.id

    -- the id has one group
    pub single : (g : Group) × (groups_of w id ≡ g ∷ [])
    single =
        let read = reads_named state sounds s sound name n held option one.was (groups_of w id) one.looks (stood one.was) stands.tells in
        (read.0, few id read.0 (unmounted one.was) read.1 read.2)

    abbrev pub g : Group
    g = single.0

    pub list : groups_of w id ≡ g ∷ []
    list = single.1

    stood_one : StoodFor one.was.quorum (g ∷ []) s
    stood_one = subst (λ (l : List Group). StoodFor one.was.quorum l s) list (stood one.was)

    -- which is the one that was mounted
    pub is_on : IsMountedOn 65 n g group (state at)
    is_on = one.only g stood_one stands.tells

    held_so : (x : Image) → StandsIn n group.register.id (g ∷ []) is_on.kept x → Allows id (g ∷ []) x
    held_so x is = subst (λ (i : ℕ). Allows i (g ∷ []) x) one.id (held_allows n group.register.id (g ∷ []) is.by x is.is)

    pub works : LeavesOnly (state at) t (StandsIn n group.register.id (g ∷ []) is_on.kept) → Runs (λ slot. slot < n) (ChangesMembers group.register.id) s t → WorksUnder n id (groups_of w id) s t
    works moments members = record {
      moments = subst (λ (l : List Group). LeavesOnly s t (Allows id l)) (sym list) (leaves_on (one.claims.moments (g ∷ []) stood_one) (leaves_less held_so moments));
      members = subst (λ (i : ℕ). Runs (λ slot. slot < n) (ChangesMembers i) s t) one.id members;
      attached = attached;
    }

  -- ---- a refusal

  module _ (command : Command) where
    abbrev StaysSo : Type 0
    StaysSo = KeepsWorlds n known command given s t w w groups

    looks : Runs (λ slot. slot < n) Same s t → StaysSo
    looks runs = looks_keep (λ (slot : ℕ). slot < n) s t sound n known given given w w groups groups command (omega arith) runs attached (same_some n known given s w groups stands) stands

    under : (id : ℕ) → has_mounted w id ≡ false → WorksUnder n id (groups_of w id) s t → StaysSo
    under id out works_so = refused_mounts_keep s t sound n known given w w groups groups id command stands out works_so (same_some n known given s w groups stands)

    claims : LeavesClaimed state name n held option s t → StaysSo
    claims (looked runs) = looks runs
    claims (claimed_group was left) =
        under was.quorum.id (unmounted was) (record { moments = left.moments (groups_of w was.quorum.id) (stood was); members = left.members; attached = attached })

    lost : LeavesLost state name n held option s t → StaysSo
    lost (before_record left) = claims left
    lost (behind_record left) =
        let on = is_on left.group left.at left.one in
        under left.one.was.quorum.id (unmounted left.one.was) (works left.group left.at left.one (left.moments (g left.group left.at left.one) on) (left.members (g left.group left.at left.one) on))

    pub refused_keeps : (e : MountError) → LeavesRefused state name n held option s t e → StaysSo
    refused_keeps error.NoGroup left = looks left
    refused_keeps error.TwoGroups left = looks left
    refused_keeps (error.NoMajority seen need) left = claims left
    refused_keeps (error.Damaged slot block) left = looks left
    refused_keeps error.DirectoriesLost left = looks left
    refused_keeps (error.MissingDisk number disk) left = looks left
    refused_keeps (error.Dead slot disk) left = lost left
    refused_keeps error.NoMemory left = lost left

  -- ---- a group was mounted

  module _ (m : MountedGroup) (was : WasMounted state name n held option m s t) where
    abbrev pub it : Group
    it = g was.group was.at was.one

    same_id : was.one.was.quorum.id ≡ m.register.id
    same_id = sym (was.since.same.id ∙ was.one.id)

    -- the group of its id
    pub its_list : groups_of w m.register.id ≡ it ∷ []
    its_list = subst (λ (i : ℕ). groups_of w i ≡ it ∷ []) same_id (list was.group was.at was.one)

    -- is mounted on the disks as they are
    pub it_is_on : IsMountedOn (65 + 2 * 64) n it m t
    it_is_on = was.now it (is_on was.group was.at was.one)

    -- its id wasn't mounted
    pub was_out : has_mounted w m.register.id ≡ false
    was_out = subst (λ (i : ℕ). has_mounted w i ≡ false) same_id (unmounted was.one.was)

    works_so : WorksUnder n m.register.id (groups_of w m.register.id) s t
    works_so = subst (λ (i : ℕ). WorksUnder n i (groups_of w i) s t) same_id
        (works was.group was.at was.one (was.moments it (is_on was.group was.at was.one)) (was.members it (is_on was.group was.at was.one)))

    pub mounted_keeps : (given' : ℕ) (w' : World) (groups' : List MountedGroup) (command : Command) → given ≤ given' → ReplacesGroups w m.register.id (it ∷ []) w'
        → MountsGoOn m.register.id (λ x. x ≡ m) w w' groups groups'
        → KeepsWorlds n known command given' s t w w' groups'
    mounted_keeps given' w' groups' command more replaces goes = given_more n known given given' s t w w' groups' command more
        (mounts_keep s t sound n known given w w' groups groups' m.register.id it m command stands
        (record { out = was_out; works = works_so; same = refl; most = 65 + 2 * 64; few = omega arith; is = it_is_on }) replaces goes)
