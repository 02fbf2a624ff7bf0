-- What a command did, by how it was answered.
use Rattle.std.proofs.Common.{◌≡◌, ◌≢◌, ◌⊎◌, ◌&&◌, ◌||◌, ◌==◌, inl, inr, ⊎_elim, suc, ℕ, ◌+◌, ◌<◌, ◌≤◌, Bool, true, false, cond, List, [], ◌∷◌, ◌++◌, length, Some, None, refl, sym, ◌∙◌, ap, subst, arith, is_some}
use Rattle.std.specs.Prelude.{All, nat_le, min}
use Rattle.std.specs.FinMap as maps
use Rattle.std.specs.Cmp.{unsigned_tied}
use Rattle.std.proofs.lemmas.Cmp.{nat_cmp_total}
use Rattle.std.specs.List.{list_any}
use Rattle.std.proofs.lemmas.Bool.{eq-eqb, eqb-true, false≢true, and_parts}
use Rattle.std.proofs.lemmas.Option.{same_Some}
use Rattle.asm_group.specs.declared.GroupKind.TheVariants.{External}
use Rattle.bay.specs.Image.{Same}
use Rattle.bay.specs.State.{BayState, IsSound}
use Rattle.bay.specs.Moments.{Runs}
use Rattle.bay.specs.Counts.{last_count}
use Rattle.asm_group.specs.Names.{Bytes}
use Rattle.asm_group.specs.NewGroup.{new_group}
use Rattle.asm_group.specs.Refusal as r
use Rattle.asm_world.specs.Below.{Found, GroupBelow}
use Rattle.asm_world.specs.Causes.{HasCause, mounted_count}
use Rattle.asm_world.specs.Command.{Said, Unreadable}
use Rattle.asm_world.specs.Reply.{Reply, Done, Refused}
use Rattle.asm_world.specs.Settings as t
use Rattle.asm_world.specs.Step.{Step, IsNewId, LeavesCreated, MadeGroup}
use Rattle.asm_world.specs.Waits.{HasLines}
use Rattle.asm_world.specs.World.{World, SessionEntry, entry_in, has_mounted, is_mounted, with_group, mounted_entry}
use Rattle.session_claims.specs.mounted_groups.Found.{Counts, counts_of, AreIdsRead, RefusalCause, IsEarly}
use Rattle.session_claims.specs.mounted_groups.Creating.{HasCreated, made_group}
use Rattle.session_claims.specs.mounted_groups.FirstParts.{MountsNew}
use Rattle.group_contents.specs.group_engine.Frames.{StaysAttached}
use Rattle.group_contents.specs.group_engine.Mounts.{MountedGroup}
use Rattle.session_claims.specs.Claims.{KeepsWorlds, StandsFor}
use Rattle.session_claims.specs.Laws.{AreSome, ReplacesGroups}
use Rattle.session_claims.proofs.Looks.{looks_keep}
use Rattle.session.specs.Claims.{IsIdApart}
use Rattle.session.specs.Counts.{ReplyCause}
use Rattle.session.specs.Effects.{HasEffect, IsServed, below_with}
use Rattle.session.specs.Families.{IsMade}
use Rattle.session.specs.Groups.{creation_of}
use Rattle.session.specs.Meaning.{meaning}
use Rattle.session.specs.OnDisks.{ReplyWork, work_of}
use Rattle.session.specs.Sessions.{AreGiven, Roster, roster}
use Rattle.session.proofs.Causes.{no_disk_cause, disk_taken_cause, too_small_cause, write_fault_cause, done_cause}
use Rattle.session.proofs.Creation.{entered_keeps, groups_after, rest_keeps, same_some, unentered_keeps}
use Rattle.asm_world.proofs.Memory.{stays, no_lines}

abbrev pub unread : Found
unread = record { ids = []; made = None }

-- no ids were read
pub none_read : (s t : Counts) → AreIdsRead [] s t
none_read s t = record { each = λ i below. absurd (omega arith) }

-- a proved command is served
pub served : (paths : List Bytes) (found : Found) (text : Bytes) (reply : Reply) (was now : Roster) (old new : BayState) {below : ℕ → GroupBelow} (w w' : World)
    → HasEffect paths found text reply was now old new below w w' → IsServed paths found text reply was now old new below w w'
served paths found text reply was now old new w w' effect = record { calls = effect.calls; past = effect.past; effect = λ proved met. effect }

-- A command that wrote nothing was refused: what is asked of the refusal, and the rest follows.
pub plain : (paths : List Bytes) (found : Found) (text : Bytes) (cause : r.Refusal) (groups : List MountedGroup) (given given' : ℕ) (slots : ℕ → Type 0) (old new : BayState) {below : ℕ → GroupBelow} (w : World)
    → Step (below_with below found) w (meaning text) (Refused [] cause) w → HasCause (below_with below found) w (meaning text) (Refused [] cause) → HasLines (below_with below found) w (meaning text) (Refused [] cause)
    → AreIdsRead found.ids (counts_of old) (counts_of new) → IsMade (meaning text) found.made w → ReplyCause paths text (Refused [] cause) (counts_of old) (counts_of new)
    → given ≤ given' → Runs slots Same old new → IsSound old → StaysAttached old new → IsServed paths found text (Refused [] cause) (roster groups given) (roster groups given') old new below w w
plain paths found text cause groups given given' slots old new w step has lines read made counted more runs sound attached = served paths found text (Refused [] cause) (roster groups given) (roster groups given') old new w w (record {
  step = step;
  no_memory = λ is other. stays _ w (meaning text);
  cause = has;
  lines = lines;
  ids_read = read;
  made = made;
  counted = counted;
  worked = tt;
  calls = runs.later;
  past = λ m image before left. (runs.ended m image before).0 left;
  keeps = λ known stands apart.
      looks_keep slots old new sound (length paths) known given given' w w groups groups (meaning text) more runs attached (same_some (length paths) known given old w groups stands) stands;
})

-- a command that was refused before any call
pub still : (paths : List Bytes) (text : Bytes) (cause : r.Refusal) (was : Roster) (old : BayState) {below : ℕ → GroupBelow} (w : World)
    → Step (below_with below unread) w (meaning text) (Refused [] cause) w → HasCause (below_with below unread) w (meaning text) (Refused [] cause) → HasLines (below_with below unread) w (meaning text) (Refused [] cause)
    → ReplyCause paths text (Refused [] cause) (counts_of old) (counts_of old) → IsServed paths unread text (Refused [] cause) was was old old below w w
still paths text cause was old w step has lines counted = served paths unread text (Refused [] cause) was was old old w w (record {
  step = step;
  no_memory = λ is other. stays _ w (meaning text);
  cause = has;
  lines = lines;
  ids_read = none_read (counts_of old) (counts_of old);
  made = tt;
  counted = counted;
  worked = tt;
  calls = omega arith;
  past = λ m image before left. left;
  keeps = λ known stands apart. rest_keeps (length paths) known was.given old w w was.groups was.groups (meaning text) (same_some (length paths) known was.given old w was.groups stands) stands;
})

-- a text that is refused
pub unreadable : (paths : List Bytes) (text : Bytes) (at : ℕ) (was : Roster) (old : BayState) {below : ℕ → GroupBelow} (w : World) → meaning text ≡ Unreadable at
    → IsServed paths unread text (Refused [] (r.Syntax at)) was was old old below w w
unreadable paths text at was old w none = still paths text (r.Syntax at) was old w (rw none refl) (rw none refl) (rw none refl) (rw none tt)

-- want of memory before anything was done
pub no_memory : (paths : List Bytes) (text : Bytes) (was : Roster) (old : BayState) {below : ℕ → GroupBelow} (w : World) → IsServed paths unread text (Refused [] r.NoMemory) was was old old below w w
no_memory paths text was old {below = below} w =
    still paths text r.NoMemory was old w (stays (below_with below unread) w (meaning text)) tt (no_lines (below_with below unread) w (meaning text)) tt

-- a command that was done without a device, and after which no more groups are mounted
pub done : (paths : List Bytes) (text : Bytes) (lines : List Bytes) (was now : Roster) (old : BayState) {below : ℕ → GroupBelow} (w w' : World) → Step (below_with below unread) w (meaning text) (Done lines) w'
    → HasCause (below_with below unread) w (meaning text) (Done lines) → HasLines (below_with below unread) w (meaning text) (Done lines)
    → ReplyWork paths (work_of (meaning text) w below) (Done lines) (counts_of old) (counts_of old) → now.given ≡ was.given
    → ((known : ℕ → Bool) → StandsFor (length paths) known was.given old w was.groups → AreSome w w' was.groups now.groups) → IsServed paths unread text (Done lines) was now old old below w w'
done paths text lines was now old w w' step has line_of worked same some = served paths unread text (Done lines) was now old old w w' (record {
  step = step;
  no_memory = λ is other. absurd cc;
  cause = has;
  lines = line_of;
  ids_read = none_read (counts_of old) (counts_of old);
  made = tt;
  counted = tt;
  worked = worked;
  calls = omega arith;
  past = λ m image before left. left;
  keeps = λ known stands apart. subst (λ (given : ℕ). KeepsWorlds (length paths) known (meaning text) given old old w w' now.groups) (sym same)
      (rest_keeps (length paths) known was.given old w w' was.groups now.groups (meaning text) (some known stands) stands);
})

-- a report, which was told without a device and changes nothing
pub told : (paths : List Bytes) (text : Bytes) (lines : List Bytes) (was : Roster) (old : BayState) {below : ℕ → GroupBelow} (w : World) → Step (below_with below unread) w (meaning text) (Done lines) w
    → HasCause (below_with below unread) w (meaning text) (Done lines) → HasLines (below_with below unread) w (meaning text) (Done lines)
    → ReplyWork paths (work_of (meaning text) w below) (Done lines) (counts_of old) (counts_of old) → IsServed paths unread text (Done lines) was was old old below w w
told paths text lines was old w step has line_of worked =
    done paths text lines was was old w w step has line_of worked refl (λ known stands. same_some (length paths) known was.given old w was.groups stands)

-- nothing changes but the place
pub moved : (paths : List Bytes) (text : Bytes) (lines : List Bytes) (was : Roster) (old : BayState) {below : ℕ → GroupBelow} (w : World) (place : List Bytes)
    → Step (below_with below unread) w (meaning text) (Done lines) (record w { place = place }) → HasCause (below_with below unread) w (meaning text) (Done lines) → HasLines (below_with below unread) w (meaning text) (Done lines)
    → ReplyWork paths (work_of (meaning text) w below) (Done lines) (counts_of old) (counts_of old) → IsServed paths unread text (Done lines) was was old old below w (record w { place = place })
moved paths text lines was old w place step has line_of worked =
    done paths text lines was was old w (record w { place = place }) step has line_of worked refl (λ known stands. record { entries = stands.entries; ids = stands.ids; pairs = λ e m pair is. pair; lists = λ id. refl })

pub or_parts : (a b : Bool) → (a || b) ≡ true → (a ≡ true) ⊎ (b ≡ true)
or_parts true b is = inl refl
or_parts false b is = inr is

-- ---- a creation

module _ (paths : List Bytes) (text name path : Bytes) (says : meaning text ≡ Said (creation_of name path)) (below : ℕ → GroupBelow) (w : World) (few : nat_le 8 (mounted_count w) ≡ false) (absent : is_some (entry_in w name) ≡ false)
    (ids : List ℕ) (slots : ℕ → Type 0) (groups : List MountedGroup) (given given' : ℕ) (old new : BayState) (read : AreIdsRead ids (counts_of old) (counts_of new)) (sound : IsSound old) (attached : StaysAttached old new) where
  -- it was refused before anything was written
  pub refused_early : (cause : r.Refusal) → IsEarly cause → RefusalCause paths path cause (counts_of old) (counts_of new) → given ≤ given' → Runs slots Same old new
      → IsServed paths (record { ids = ids; made = None }) text (Refused [] cause) (roster groups given) (roster groups given') old new below w w
  refused_early (r.NoDisk t) early counted more runs =
      plain paths (record { ids = ids; made = None }) text (r.NoDisk t) groups given given' slots old new w (rw says refl) (rw says (no_disk_cause below (record { ids = ids; made = None }) w name path few absent t)) (rw says refl) read
      tt (rw says counted) more runs sound attached
  refused_early (r.DiskTaken t) early counted more runs =
      plain paths (record { ids = ids; made = None }) text (r.DiskTaken t) groups given given' slots old new w (rw says refl) (rw says (disk_taken_cause below (record { ids = ids; made = None }) w name path few absent t)) (rw says refl) read
      tt (rw says counted) more runs sound attached
  refused_early (r.TooSmall d n) early counted more runs =
      plain paths (record { ids = ids; made = None }) text (r.TooSmall d n) groups given given' slots old new w (rw says refl) (rw says (too_small_cause below (record { ids = ids; made = None }) w name path few absent d n)) (rw says refl) read
      tt (rw says counted) more runs sound attached
  refused_early other early counted more runs = absurd early

  -- it was refused without an id
  pub refused_unmade : (cause : r.Refusal) → RefusalCause paths path cause (counts_of old) (counts_of new) → given ≤ given' → Runs slots Same old new
      → IsServed paths (record { ids = ids; made = None }) text (Refused [] cause) (roster groups given) (roster groups given') old new below w w
  refused_unmade (r.NoDisk t) counted more runs = refused_early (r.NoDisk t) tt counted more runs
  refused_unmade (r.DiskTaken t) counted more runs = refused_early (r.DiskTaken t) tt counted more runs
  refused_unmade (r.TooSmall d n) counted more runs = refused_early (r.TooSmall d n) tt counted more runs
  refused_unmade (r.WriteFault d) counted more runs =
      plain paths (record { ids = ids; made = None }) text (r.WriteFault d) groups given given' slots old new w (rw says (inl refl)) (rw says (write_fault_cause below (record { ids = ids; made = None }) w name path few absent d)) (rw says refl) read
      tt (rw says counted) more runs sound attached
  refused_unmade r.NoMemory counted more runs =
      plain paths (record { ids = ids; made = None }) text r.NoMemory groups given given' slots old new w (rw says (inl refl)) tt (rw says refl) read
      tt tt more runs sound attached
  refused_unmade other counted more runs = absurd counted

  -- it came to write, under this id
  module _ (id : ℕ) (fresh : given ≤ id) (next : given' ≡ min (id + 1) last_count) (above : id < last_count → All (λ other. other < id) ids) (entries : AreGiven w.session given)
      (ok : Bool) (creation : HasCreated (length paths) id (made_group name) ok old new) where
    abbrev pub found : Found
    found = record { ids = ids; made = Some id }

    abbrev pub after : List SessionEntry → World
    after session = record (with_group w id (made_group name)) { session = session }

    new_id : IsNewId (below_with below found) w id
    new_id = record {
      given = refl;
      not_in_session = λ short k d below same. absurd (omega (arith, entries k d below (omega arith)));
      above = above;
    }

    has_group : (session : List SessionEntry) → IsMade (meaning text) found.made (after session)
    has_group session = rw says (maps.get-insert nat_cmp_total w.groups id (made_group name ∷ []) id
        ∙ ap (λ (b : Bool). cond b (Some (made_group name ∷ [])) (maps.get w.groups id)) (unsigned_tied id id ∙ eq-eqb id id refl))

    -- the id is in no entry of the session before
    was_absent : id < last_count → has_mounted w id ≡ true → ⊥
    was_absent short = no_entry w.session entries
      where
        no_entry : (session : List SessionEntry) → AreGiven session given → list_any (λ (e : SessionEntry). is_mounted e && (e.id == id)) session ≡ true → ⊥
        no_entry [] are is = false≢true is
        no_entry (e ∷ session) are is = ⊎_elim
            (λ here. let same : e.id ≡ id = eqb-true e.id id (and_parts (is_mounted e) (e.id == id) here).1 in omega (arith, same, are 0 e (omega arith) (omega (arith, short))))
            (λ later. no_entry session (λ k d below. are (suc k) d (omega (arith, below))) later)
            (or_parts (is_mounted e && (e.id == id)) (list_any (λ (e : SessionEntry). is_mounted e && (e.id == id)) session) is)

    after_is : (session : List SessionEntry) → ReplacesGroups w id (made_group name ∷ []) (after session)
    after_is session = groups_after w id (made_group name)

    unentered : (known : ℕ → Bool) → StandsFor (length paths) known given old w groups → IsIdApart known found → KeepsWorlds (length paths) known (meaning text) given' old new w (after w.session) groups
    unentered known stands apart =
        let short : id < last_count = apart.made_below id refl in
        unentered_keeps (length paths) known given given' id (made_group name) ids w (after w.session) groups (after_is w.session) apart fresh above entries (was_absent short) (meaning text) old new ok sound attached (omega (arith, next)) creation stands refl

    entered : (session : List SessionEntry) (m : MountedGroup) → session ≡ w.session ++ mounted_entry name id ∷ [] → m.register.id ≡ id → MountsNew (length paths) (made_group name) m old new
        → (known : ℕ → Bool) → StandsFor (length paths) known given old w groups → IsIdApart known found → KeepsWorlds (length paths) known (meaning text) given' old new w (after session) (groups ++ m ∷ [])
    entered session m is same mounts known stands apart =
        let short : id < last_count = apart.made_below id refl in
        entered_keeps (length paths) known given given' id (made_group name) ids w (after session) groups (after_is session) apart fresh above entries (was_absent short) (meaning text) old new ok sound attached (omega (arith, next)) creation stands name m is same mounts

    -- the group was created
    pub created : (session : List SessionEntry) (m : MountedGroup) → session ≡ w.session ++ mounted_entry name id ∷ [] → m.register.id ≡ id → MountsNew (length paths) (made_group name) m old new
        → IsServed paths found text (Done []) (roster groups given) (roster (groups ++ m ∷ []) given') old new below w (after session)
    unfolding new_group
    created session m is same mounts = served paths found text (Done []) (roster groups given) (roster (groups ++ m ∷ []) given') old new w (after session) (record {
      step = rw (says, is) (record { id = id; g = made_group name; made_is = refl; is_new = new_id; is = refl }, refl);
      no_memory = λ is other. absurd cc;
      cause = rw says (done_cause below found w name path few absent);
      lines = rw says tt;
      ids_read = read;
      made = has_group session;
      counted = tt;
      worked = rw says tt;
      calls = creation.moments.later;
      past = λ m image before left. (creation.moments.ended m image before).0 left;
      keeps = entered session m is same mounts;
    })

    -- it was refused after something was written
    written : (cause : r.Refusal) → LeavesCreated (below_with below found) w (MadeGroup name (t.creation (Some External) [])) (after w.session) → HasCause (below_with below found) w (meaning text) (Refused [] cause)
        → Step (below_with below found) w (meaning text) (Refused [] cause) (after w.session) → HasLines (below_with below found) w (meaning text) (Refused [] cause) → ReplyCause paths text (Refused [] cause) (counts_of old) (counts_of new)
        → IsServed paths found text (Refused [] cause) (roster groups given) (roster groups given') old new below w (after w.session)
    written cause leaves has step lines counted = served paths found text (Refused [] cause) (roster groups given) (roster groups given') old new w (after w.session) (record {
      step = step;
      no_memory = λ is other. rw says (inr leaves);
      cause = has;
      lines = lines;
      ids_read = read;
      made = has_group w.session;
      counted = counted;
      worked = tt;
      calls = creation.moments.later;
      past = λ m image before left. (creation.moments.ended m image before).0 left;
      keeps = unentered;
    })

    pub leaves_created : LeavesCreated (below_with below found) w (MadeGroup name (t.creation (Some External) [])) (after w.session)
    leaves_created = record { id = id; g = made_group name; made_is = refl; is_new = new_id; is = refl }

    pub refused_late : (cause : r.Refusal) → (IsEarly cause → ⊥) → RefusalCause paths path cause (counts_of old) (counts_of new) → IsServed paths found text (Refused [] cause) (roster groups given) (roster groups given') old new below w (after w.session)
    refused_late (r.NoDisk t) late counted = absurd (late tt)
    refused_late (r.DiskTaken t) late counted = absurd (late tt)
    refused_late (r.TooSmall d n) late counted = absurd (late tt)
    refused_late (r.WriteFault d) late counted = written (r.WriteFault d) leaves_created (rw says (write_fault_cause below found w name path few absent d)) (rw says (inr leaves_created)) (rw says refl) (rw says counted)
    refused_late r.NoMemory late counted = written r.NoMemory leaves_created tt (rw says (inr leaves_created)) (rw says refl) tt
    refused_late other late counted = absurd counted
