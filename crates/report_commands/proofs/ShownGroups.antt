-- Commands that show a mounted group, or go into one: the group that the world has under the name, and why they are refused.
use Rattle.std.proofs.Common.{◌≡◌, ◌⊎◌, ⊎_elim, inl, inr, ℕ, true, List, [], ◌∷◌, ◌++◌, length, Option, Some, None, refl, sym, ◌∙◌, ap, subst, arith}
use Rattle.std.specs.Prelude.{unwrap_or}
use Rattle.bay.specs.State.{BayState}
use Rattle.refusal_lines.specs.Refusals.{meaning_of}
use Rattle.refusal_lines.specs.declared.refusal.Refusal.{Refusal}
use Rattle.asm_group.specs.Group.{Group}
use Rattle.asm_group.specs.Names.{Bytes}
use Rattle.asm_group.specs.Refusal as r
use Rattle.asm_formats.specs.Among.{IsAmong}
use Rattle.asm_world.specs.Below.{Below, GroupBelow}
use Rattle.asm_world.specs.Between.{groups_named}
use Rattle.asm_world.specs.Causes.{Cause, HasCause, IsCaused, When, causes, group_causes, in_group, session_causes, state_causes}
use Rattle.asm_world.specs.Command.{Command}
use Rattle.asm_world.specs.Reply.{Reply, Refused}
use Rattle.asm_world.specs.Step.{HasMountedGroup, IsDismounted, Step}
use Rattle.asm_world.specs.Waits.{HasLines}
use Rattle.asm_world.specs.World.{SessionEntry, SessionState, World, Mounted, DismountedBy, entry_among, entry_in, groups_of, is_mounted, mounted_group}
use Rattle.session.specs.mounted_groups.Found.{Counts, counts_of}
use Rattle.session.specs.group_engine.Mounts.{MountedGroup}
use Rattle.session.specs.session_claims.Claims.{IsPaired}
use Rattle.world_steps.specs.Told.{AreIdsApart}
use Rattle.session.specs.Counts.{ReplyCause}
use Rattle.session.specs.Effects.{IsServed, below_with}
use Rattle.session.specs.Families.{IsRefused, shows_group}
use Rattle.session.specs.Meaning.{meaning}
use Rattle.session.specs.Naming.{IsGroupOf, group_among, in_state, of_entry}
use Rattle.session.specs.Proved.{HasOwnGroups}
use Rattle.session.specs.Sessions.{IsToldBy, Knows, Roster, SessionView, group_below}
use Rattle.session.proofs.Below.{below_paired}
use Rattle.session.proofs.EditedEntries.{paired_of}
use Rattle.session.proofs.Knowing.{paired_among}
use Rattle.session.proofs.Outcomes as outcomes
use Rattle.session.proofs.Outcomes.{still, unread}

-- ---- the group of a name

abbrev causes_of : Option SessionEntry → List Cause
causes_of o = elim o [ None ↦ When true r.NoGroup ∷ [] | Some entry ↦ state_causes entry.state ]

-- The world has one group under the name, mounted, the tables are those of it, and what is below its id is that of the mounted group.
pub record IsThere (w : World) (below : ℕ → GroupBelow) (name : Bytes) (m : MountedGroup) : Type 0 where
  pub id : ℕ
  pub group : Group
  pub has : HasMountedGroup w name id group
  pub told : IsToldBy m group
  pub lies : below id ≡ group_below m
  pub found : mounted_group w name ≡ Some group
  pub uncaused : session_causes w name ≡ []

found_by : (w : World) (name : Bytes) (entry : SessionEntry) (group : Group) → entry_in w name ≡ Some entry → entry.state ≡ Mounted → groups_of w entry.id ≡ group ∷ [] → mounted_group w name ≡ Some group
found_by w name entry group named on list = rw (named, on, list) refl

pub is_there : (session : SessionView) (name : Bytes) (m : MountedGroup) → IsGroupOf session name m → (w : World) (below : ℕ → GroupBelow) → Knows session w below → HasOwnGroups w → IsThere w below name m
is_there session name m is w below knows own =
    let entry = is.on.entry in
    let named : entry_in w name ≡ Some entry = ap (λ (es : List SessionEntry). entry_among es name) knows.entries_are ∙ is.on.named in
    let found : group_among w.session session.groups name ≡ Some m = ap (λ (es : List SessionEntry). group_among es session.groups name) knows.entries_are ∙ is.named in
    let pair : IsPaired w.session session.groups entry m = paired_of w.session session.groups name entry m named found in
    let among : IsAmong w.session entry = paired_among w.session session.groups entry m pair in
    let on : is_mounted entry ≡ true = rw is.on.state refl in
    let one = own.alone.one entry among on in
    let list : groups_of w entry.id ≡ one.0 ∷ [] = ap (λ (o : Option (List Group)). unwrap_or o []) one.1 in
    let paired : length session.groups ≡ length w.session = is.paired ∙ ap (λ (es : List SessionEntry). length es) (sym knows.entries_are) in
    let told = knows.told paired entry m one.0 pair on list (own.named entry one.0 among on list) in
    record {
      id = entry.id;
      group = one.0;
      has = record { entry = entry; named = named; is = refl; mounted = is.on.state; only = one.1 };
      told = told;
      lies = ap (λ (b : ℕ → GroupBelow). b entry.id) knows.below_is
          ∙ below_paired session.entries session.groups entry m (subst (λ (es : List SessionEntry). AreIdsApart es) knows.entries_are own.alone.apart)
          (paired_of session.entries session.groups name entry m is.on.named is.named) on;
      found = found_by w name entry one.0 named is.on.state list;
      uncaused = ap causes_of named ∙ ap state_causes is.on.state;
    }

-- ---- a command on a group of the session

-- Its causes begin with those of the session, and a refusal of these leaves the world.
pub record ShowsIn (below : Below) (w : World) (command : Command) (name : Bytes) (inside : Group → List Cause) : Type 0 where
  pub causes_are : causes below w command ≡ in_group w name inside
  pub named : (before after : List Bytes) × (groups_named w command ≡ before ++ name ∷ after)
  pub absent : Step below w command (Refused [] r.NoGroup) w
  pub dismounted : (disk : Bytes) → IsDismounted below w command disk w → Step below w command (Refused [] (r.Dismounted disk)) w
  pub lines : (cause : r.Refusal) → HasLines below w command (Refused [] cause)

-- nothing is counted of its refusals
abbrev pub IsUncounted : List Bytes → Bytes → Type 0
IsUncounted paths text = (c : r.Refusal) (s t : Counts) → ReplyCause paths text (Refused [] c) s t

-- so of a command whose family counts none
pub uncounted : (paths : List Bytes) (text : Bytes) (command : Command) → meaning text ≡ command → ((c : r.Refusal) (s t : Counts) → IsRefused paths command c s t) → IsUncounted paths text
uncounted paths text command says free r.NoMemory s t = tt
uncounted paths text command says free other s t = subst (λ (k : Command). IsRefused paths k other s t) (sym says) (free other s t)

module _ (paths : List Bytes) (text : Bytes) (command : Command) (says : meaning text ≡ command) (counts : IsUncounted paths text) (was : Roster) (s : BayState) {below : ℕ → GroupBelow} (w : World) where
  -- what the world may answer
  pub refused : (c : r.Refusal) → Step (below_with below unread) w command (Refused [] c) w → HasCause (below_with below unread) w command (Refused [] c) → HasLines (below_with below unread) w command (Refused [] c)
      → IsServed paths unread text (Refused [] c) was was s s below w w
  refused c step cause lines = still paths text c was s w (subst (λ (x : Command). Step (below_with below unread) w x (Refused [] c) w) (sym says) step)
      (subst (λ (x : Command). HasCause (below_with below unread) w x (Refused [] c)) (sym says) cause) (subst (λ (x : Command). HasLines (below_with below unread) w x (Refused [] c)) (sym says) lines)
      (counts c (counts_of s) (counts_of s))

  module _ (name : Bytes) (inside : Group → List Cause) (shows : ShowsIn (below_with below unread) w command name inside) where
    by_entry : (o : Option SessionEntry) → entry_in w name ≡ o → (c : r.Refusal) → of_entry o c → IsServed paths unread text (Refused [] c) was was s s below w w
    by_entry None named c why =
        subst (λ (x : r.Refusal). IsServed paths unread text (Refused [] x) was was s s below w w) (sym why)
        (refused r.NoGroup shows.absent
        (subst (λ (l : List Cause). IsCaused l r.NoGroup) (sym shows.causes_are) (subst (λ (l : List Cause). IsCaused (l ++ group_causes (mounted_group w name) inside) r.NoGroup) (sym (ap causes_of named)) refl))
        (shows.lines r.NoGroup))
    by_entry (Some entry) named c why = by_state entry.state refl why
      where
        by_state : (x : SessionState) → entry.state ≡ x → in_state x c → IsServed paths unread text (Refused [] c) was was s s below w w
        by_state Mounted is out = absurd out
        by_state (DismountedBy disk) is out =
            subst (λ (x : r.Refusal). IsServed paths unread text (Refused [] x) was was s s below w w) (sym out)
            (refused (r.Dismounted disk) (shows.dismounted disk (inl (record { name = name; entry = entry; names = record { among = shows.named; there = named }; state = is; is = refl })))
            (subst (λ (l : List Cause). IsCaused l (r.Dismounted disk)) (sym shows.causes_are)
            (subst (λ (l : List Cause). IsCaused (l ++ group_causes (mounted_group w name) inside) (r.Dismounted disk)) (sym (ap causes_of named ∙ ap state_causes is)) refl))
            (shows.lines (r.Dismounted disk)))

    -- the group isn't in the session, or is dismounted
    pub out_refused : (refusal : Refusal) → of_entry (entry_in w name) (meaning_of (λ _. []) refusal) ⊎ (meaning_of (λ _. []) refusal ≡ r.NoMemory) → IsServed paths unread text (Refused [] (meaning_of (λ _. []) refusal)) was was s s below w w
    out_refused refusal why = ⊎_elim
        (λ out. by_entry (entry_in w name) refl (meaning_of (λ _. []) refusal) out)
        (λ none. subst (λ (x : r.Refusal). IsServed paths unread text (Refused [] x) was was s s below w w) (sym none) (outcomes.no_memory paths text was s w))
        why

    -- the causes in the group that is there
    pub causes_inside : (m : MountedGroup) (there : IsThere w below name m) → causes (below_with below unread) w command ≡ inside there.group
    causes_inside m there = shows.causes_are ∙ rw (there.uncaused, there.found) refl

-- Of what is proved in a world whose groups are alone.
pub served_in : (paths : List Bytes) (text : Bytes) (reply : Reply) (was : Roster) (s : BayState) {below : ℕ → GroupBelow} (w w' : World) → shows_group (meaning text) ≡ true → (HasOwnGroups w → IsServed paths unread text reply was was s s below w w')
    → IsServed paths unread text reply was was s s below w w'
served_in paths text reply was s w w' shows serves = record {
  calls = omega arith;
  past = λ m image before left. left;
  effect = λ proved met. let own = met (inr shows) in (serves own).effect proved met;
}
