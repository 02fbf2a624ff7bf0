-- MOUNT, as the world's.
use Rattle.std.proofs.Common.{◌≡◌, ⊎_elim, inl, inr, ℕ, ◌+◌, ◌*◌, ◌≤◌, Bool, true, false, List, [], ◌∷◌, ◌++◌, length, Option, Some, None, is_some, refl, sym, ◌∙◌, ap, subst, if◌then◌else◌}
use Rattle.std.specs.Prelude.{nat_le}
use Rattle.std.proofs.lemmas.Bool.{false≢true}
use Rattle.bay.specs.Image.{Image}
use Rattle.bay.specs.State.{BayState, IsSound}
use Rattle.asm_formats.specs.Among.{IsAmong}
use Rattle.asm_group.specs.Group.{Group}
use Rattle.asm_group.specs.Names.{Bytes, is_same_name}
use Rattle.asm_group.specs.Refusal as r
use Rattle.asm_world.specs.Below.{GroupBelow}
use Rattle.asm_world.specs.Causes.{HasCause, is_mounted_as, mounted_count}
use Rattle.asm_world.specs.Command.{Command, Said}
use Rattle.asm_world.specs.Reply.{Reply, Done, Refused}
use Rattle.asm_world.specs.Statement.{Alter, Mount}
use Rattle.asm_world.specs.Step.{MountsGroup, Step}
use Rattle.asm_world.specs.Waits.{HasLines}
use Rattle.asm_world.specs.World.{SessionEntry, World, entry_among, entry_in, groups_of, has_mounted, is_mounted, mounted_entry, with_group, without_entry}
use Rattle.asm_world.proofs.Memory.{stays}
use Rattle.session.specs.mounted_groups.Found.{counts_of}
use Rattle.session.specs.mounted_groups.Leaving.{IsMountedOn, LeavesRefused, WasMounted}
use Rattle.session.specs.mounted_groups.MountCauses.{AreElsewhere, ErrorCause, look}
use Rattle.session.specs.mounted_groups.Mounting.{IsMountCause, IsMountedBy}
use Rattle.session.proofs.mounted_groups.MountRefusals.{refusals_have_causes}
use Rattle.session.specs.group_engine.Frames.{StaysAttached}
use Rattle.session.specs.group_engine.Mounts.{MountedGroup}
use Rattle.group_recovery.specs.declared.error.MountError.{MountError}
use Rattle.group_recovery.specs.declared.error.MountError.TheVariants as error
use Rattle.group_recovery.specs.declared.quorum.MountOption.{MountOption}
use Rattle.session.specs.session_claims.Claims.{KeepsWorlds, StandsFor}
use Rattle.session.specs.session_claims.Found.{IsNameFree}
use Rattle.session.specs.session_claims.Laws.{MountsGoOn, ReplacesGroups}
use Rattle.session.specs.Counts.{ReplyCause}
use Rattle.session.specs.Entries.{AreAlike}
use Rattle.session.specs.Naming.{AreNamesApart}
use Rattle.session.specs.Effects.{HasEffect, IsProvedOn, IsServed, Past, anywhere, below_with, on_disks}
use Rattle.session.specs.Families.{shows_group}
use Rattle.session.specs.Groups.{mounts, name_mounted}
use Rattle.session.specs.Meaning.{meaning}
use Rattle.session.specs.Proved.{HasOwnGroups, IsAloneByName, IsMet, is_proved_as}
use Rattle.session.specs.Sessions.{Knows, Roster, SessionView, held_by, roster_of, without_groups}
use Rattle.session.proofs.EditedEntries.{one_named}
use Rattle.session.proofs.Outcomes.{none_read, still, unread}
use Rattle.group_commands.specs.Mounting.{mount_said, option_of}
use Rattle.group_commands.proofs.MountCauses.{elsewhere, said_cause}
use Rattle.group_commands.proofs.MountDisks as disks
use Rattle.group_commands.proofs.MountWorld.{goes_on, mounted_world, replaces, without_same}
use Rattle.group_commands.proofs.ToldGroup.{told_as_it_is, told_group}

-- ---- a name that isn't mounted

has_entry : (es : List SessionEntry) (name : Bytes) (e : SessionEntry) → IsAmong es e → is_same_name e.name name ≡ true → is_some (entry_among es name) ≡ true
has_entry [] name e at same = absurd at
has_entry (x ∷ es) name e at same = by (is_same_name x.name name) refl (λ later. has_entry es name e later same)
  where
    by : (t : Bool) → is_same_name x.name name ≡ t → (IsAmong es e → is_some (entry_among es name) ≡ true) → is_some (if t then Some x else entry_among es name) ≡ true
    by true is rest = refl
    by false is rest = ⊎_elim
        (λ (here : e ≡ x). absurd (false≢true (sym is ∙ ap (λ (y : SessionEntry). is_same_name y.name name) (sym here) ∙ same)))
        rest
        at

free_name : (w : World) (name : Bytes) → AreNamesApart w.session → is_mounted_as (entry_in w name) ≡ false → IsNameFree w name
free_name w name apart off e at on same = by (entry_in w name) refl
  where
    by : (o : Option SessionEntry) → entry_in w name ≡ o → ⊥
    by None is = false≢true (sym (ap is_some is) ∙ has_entry w.session name e at same)
    by (Some x) is = false≢true (sym (sym (ap is_mounted_as is) ∙ off) ∙ ap is_mounted (sym (one_named w.session name x e apart is at same)) ∙ on)

never : (b : Bool) → (if b then false else false) ≡ true → ⊥
never true is = false≢true is
never false is = false≢true is

module _ (paths : List Bytes) (text name : Bytes) (force : Bool) (says : meaning text ≡ Said (Alter name (Mount force)))
    (session : SessionView) (w : World) (below : ℕ → GroupBelow) (knows : Knows session w below) where
  abbrev was : Roster
  was = roster_of session

  abbrev command : Command
  command = Said (Alter name (Mount force))

  -- ---- before any call

  pub already_served : (s : BayState) → is_mounted_as (entry_in w name) ≡ true → IsServed paths unread text (Refused [] r.AlreadyMounted) was was s s below w w
  already_served s is = still paths text r.AlreadyMounted was s w (rw says (inl refl)) (rw (says, is) refl) (rw says refl) (rw says (λ now held_now x holds. tt))

  pub too_many_served : (s : BayState) → is_mounted_as (entry_in w name) ≡ false → nat_le 8 (mounted_count w) ≡ true
      → IsServed paths unread text (Refused [] (r.TooMany r.Groups 8)) was was s s below w w
  too_many_served s off many = still paths text (r.TooMany r.Groups 8) was s w (rw says (inl refl)) (rw (says, off, many) refl) (rw says refl) (rw says (λ now held_now x holds. tt))

  -- ---- with calls

  module _ {B : Type 0} (state : B → BayState) (held : List ℕ) (option : MountOption) (s t : BayState) (sounds : (b : B) → IsSound (state b)) (sound : IsSound s)
      (attached : StaysAttached s t) (calls : s.calls ≤ t.calls) (past : Past s t) (apart : AreNamesApart session.entries)
      (off : is_mounted_as (entry_in w name) ≡ false) (room : nat_le 8 (mounted_count w) ≡ false) where
    free : IsNameFree w name
    free = free_name w name (subst AreNamesApart (sym knows.entries_are) apart) off

    -- It is proved where the disks stand for the world, in which the group is alone under its id.
    served_by : (reply : Reply) (now : Roster) (w' : World)
        → ((known : ℕ → Bool) → StandsFor (length paths) known was.given s w was.groups → HasOwnGroups w → IsAloneByName w name → HasEffect paths unread text reply was now s t below w w')
        → (is_proved_as command reply ≡ true → ⊥) → IsServed paths unread text reply was now s t below w w'
    served_by reply now w' did isnt = record { calls = calls; past = past; effect = on }
      where
        on : IsProvedOn paths was s w (meaning text) reply → IsMet (meaning text) w → HasEffect paths unread text reply was now s t below w w'
        on (anywhere is) met = absurd (isnt (subst (λ (c : Command). is_proved_as c reply ≡ true) says is))
        on (on_disks known is stands one) met =
            did known stands (met (inr (subst (λ (c : Command). shows_group c ≡ true) (sym says) refl))) (subst (λ (c : Command). IsAloneByName w (name_mounted c)) says (one (subst (λ (c : Command). mounts c ≡ true) (sym says) refl)))

    -- ---- a refusal

    refusal_has : (e : MountError) → HasCause (below_with below unread) w command (Refused [] (mount_said paths e))
    refusal_has error.NoGroup = rw (off, room) (inl refl)
    refusal_has error.TwoGroups = rw (off, room) (inr (inl refl))
    refusal_has (error.NoMajority seen need) = rw (off, room) (inr (inr (inl refl)))
    refusal_has (error.Damaged slot block) = rw (off, room) (inr (inr (inr (inl refl))))
    refusal_has error.DirectoriesLost = rw (off, room) (inr (inr (inr (inr (inl refl)))))
    refusal_has (error.MissingDisk number disk) = rw (off, room) (inr (inr (inr (inr (inr (inl refl))))))
    refusal_has (error.Dead slot disk) = rw (off, room) (inr (inr (inr (inr (inr (inr (inl refl)))))))
    refusal_has error.NoMemory = tt

    -- by its cause, which is told of the image before
    counted_by : (e : MountError) → ((x : Image) → s.holds ≡ Some x → ErrorCause name (option_of force) e (look (length paths) s t x)) → ReplyCause paths text (Refused [] (mount_said paths e)) (counts_of s) (counts_of t)
    counted_by error.NoMemory told = tt
    counted_by e told = rw says (λ now held_now x holds. said_cause paths name force (look (length paths) s t x) e (told x holds))

    module _ (option_is : option ≡ option_of force) (held_is : held ≡ held_by session.groups) (alike : AreAlike session.entries session.groups) (sound_t : IsSound t)
        (known : ℕ → Bool) (stands : StandsFor (length paths) known was.given s w was.groups) (own : HasOwnGroups w) where
      cause_of : (e : MountError) → IsMountCause state name (length paths) held option s t e → (x : Image) → s.holds ≡ Some x → ErrorCause name (option_of force) e (look (length paths) s t x)
      cause_of e why x holds = subst (λ (o : MountOption). ErrorCause name o e (look (length paths) s t x)) option_is
          (refusals_have_causes state sounds s t sound_t name (length paths) held option e x holds
          (subst (λ (l : List ℕ). AreElsewhere (look (length paths) s t x) name l) (sym held_is)
          (elsewhere (length paths) known was.given s t w session.groups name sound stands own.named free (subst (λ (es : List SessionEntry). AreAlike es session.groups) (sym knows.entries_are) alike) x holds))
          why)

    pub refused_served : (e : MountError) → option ≡ option_of force → held ≡ held_by session.groups → AreAlike session.entries session.groups → IsSound t → IsMountCause state name (length paths) held option s t e
        → LeavesRefused state name (length paths) held option s t e → IsServed paths unread text (Refused [] (mount_said paths e)) was was s t below w w
    refused_served e option_is held_is alike sound_t why left = served_by (Refused [] (mount_said paths e)) was w
        (λ known stands own few. record {
          step = subst (λ (c : Command). Step (below_with below unread) w c (Refused [] (mount_said paths e)) w) (sym says) (inl refl);
          no_memory = λ is other. stays (below_with below unread) w (meaning text);
          cause = subst (λ (c : Command). HasCause (below_with below unread) w c (Refused [] (mount_said paths e))) (sym says) (refusal_has e);
          lines = subst (λ (c : Command). HasLines (below_with below unread) w c (Refused [] (mount_said paths e))) (sym says) refl;
          ids_read = none_read (counts_of s) (counts_of t);
          made = tt;
          counted = counted_by e (cause_of option_is held_is alike sound_t known stands own e why);
          worked = tt;
          calls = calls;
          past = past;
          keeps = λ k holds ids. disks.refused_keeps state name (length paths) held option s t sounds sound attached k was.given w was.groups holds own few free (meaning text) e left;
        })
        (λ is. never _ is)

    -- ---- the group is mounted

    module _ (session' : SessionView) (m : MountedGroup) (mounted : IsMountedBy name held m t) (mount : WasMounted state name (length paths) held option m s t)
        (paired : length session.groups ≡ length session.entries)
        (place : session'.place ≡ session.place) (more : session.given ≤ session'.given)
        (entries : session'.entries ≡ without_entry session.entries m.name ++ mounted_entry m.name m.register.value.id ∷ [])
        (groups : session'.groups ≡ without_groups session.entries session.groups m.name ++ m ∷ []) where
      abbrev id : ℕ
      id = m.register.value.id

      abbrev after : World
      after = mounted_world w m

      same_id : id ≡ m.register.id
      same_id = mounted.whole.group

      -- what is told is the group that stands there
      told_is : (g : Group) → groups_of w id ≡ g ∷ [] → IsMountedOn (65 + 2 * 64) (length paths) g m t → told_group m (groups_of w id) ≡ g
      told_is g list is = ap (told_group m) list ∙ told_as_it_is m g mounted.whole is.mounts.represents

      module _ (known : ℕ → Bool) (stands : StandsFor (length paths) known was.given s w was.groups) (own : HasOwnGroups w) (few : IsAloneByName w name) where
        abbrev it : Group
        it = disks.it state name (length paths) held option s t sounds sound attached known was.given w was.groups stands own few free m mount

        list : groups_of w id ≡ it ∷ []
        list = subst (λ (i : ℕ). groups_of w i ≡ it ∷ []) (sym same_id)
            (disks.its_list state name (length paths) held option s t sounds sound attached known was.given w was.groups stands own few free m mount)

        is_on : IsMountedOn (65 + 2 * 64) (length paths) it m t
        is_on = disks.it_is_on state name (length paths) held option s t sounds sound attached known was.given w was.groups stands own few free m mount

        told_it : told_group m (groups_of w id) ≡ it
        told_it = told_is it list is_on

        out : has_mounted w id ≡ false
        out = subst (λ (i : ℕ). has_mounted w i ≡ false) (sym same_id)
            (disks.was_out state name (length paths) held option s t sounds sound attached known was.given w was.groups stands own few free m mount)

        session_is : without_entry w.session m.name ++ mounted_entry m.name id ∷ [] ≡ without_entry w.session name ++ mounted_entry it.name id ∷ []
        session_is = ap (λ (es : List SessionEntry). es ++ mounted_entry m.name id ∷ []) (without_same w.session m.name name mounted.named)
            ∙ ap (λ (k : Bytes). without_entry w.session name ++ mounted_entry k id ∷ []) (sym is_on.mounts.represents.name)

        mounts_it : MountsGroup w name after
        mounts_it = record {
          id = id;
          g = it;
          may = ([], [], list);
          named = rw is_on.mounts.represents.name mounted.named;
          is = ap (λ (g : Group). record (with_group w id g) { session = without_entry w.session m.name ++ mounted_entry m.name id ∷ [] }) told_it
              ∙ ap (λ (es : List SessionEntry). record (with_group w id it) { session = es }) session_is;
        }

        pub keeps_it : KeepsWorlds (length paths) known (meaning text) session'.given s t w after session'.groups
        keeps_it = disks.mounted_keeps state name (length paths) held option s t sounds sound attached known was.given w was.groups stands own few free m mount
            session'.given after session'.groups (meaning text) more
            (subst (λ (i : ℕ). ReplacesGroups w i (it ∷ []) after) same_id
            (subst (λ (g : Group). ReplacesGroups w id (g ∷ []) after) told_it (replaces session session' w below knows m paired place entries groups)))
            (subst (λ (i : ℕ). MountsGoOn i (λ x. x ≡ m) w after session.groups session'.groups) same_id (goes_on session session' w below knows m paired place entries groups stands.ids out))

        pub step_is : Step (below_with below unread) w command (Done []) after
        step_is = (mounts_it, refl)

      pub done_served : IsServed paths unread text (Done []) was (roster_of session') s t below w after
      done_served = served_by (Done []) (roster_of session') after
          (λ known stands own few. record {
            step = subst (λ (c : Command). Step (below_with below unread) w c (Done []) after) (sym says) (step_is known stands own few);
            no_memory = λ is other. absurd cc;
            cause = rw (says, off, room) refl;
            lines = rw says refl;
            ids_read = none_read (counts_of s) (counts_of t);
            made = tt;
            counted = tt;
            worked = rw says tt;
            calls = calls;
            past = past;
            keeps = λ k holds ids. keeps_it k holds own few;
          })
          (λ is. never true is)
