-- An edit of one mounted group.
use Rattle.std.proofs.Common.{◌≡◌, inl, inr, ⊎_elim, ℕ, Bool, true, List, [], ◌∷◌, Result, Ok, Err, refl, sym, ◌∙◌, ap, subst, arith}
use Rattle.bay.specs.Image.{Image, Same}
use Rattle.bay.specs.State.{BayState, IsSound}
use Rattle.bay.specs.Moments.{Runs}
use Rattle.refusal_lines.specs.declared.refusal.DiskRef.TheVariants as disk
use Rattle.refusal_lines.specs.declared.refusal.Refusal.{Refusal}
use Rattle.refusal_lines.specs.declared.refusal.Refusal.TheVariants as cause
use Rattle.asm_group.specs.Group.{Group}
use Rattle.asm_group.specs.Refusal as r
use Rattle.asm_images.specs.Kept.{IsHeld}
use Rattle.asm_formats.specs.Among.{IsAmong}
use Rattle.asm_world.specs.Between.{groups_between}
use Rattle.asm_world.specs.Command.{Command}
use Rattle.asm_world.specs.World.{SessionEntry, World, groups_of, is_mounted}
use Rattle.edit_laws.specs.Edits.{EditCall, IsHeldOver, edited_by}
use Rattle.edit_laws.proofs.Leading.{edit_is_held}
use Rattle.mounted_groups.specs.group_recovery.Mounting.{Allows}
use Rattle.mounted_groups.proofs.BroughtMounts.{still_later}
use Rattle.mounted_groups.specs.group_engine.Commits.{IsIdle, IsIdleBut, StatusCause}
use Rattle.mounted_groups.specs.group_engine.Frames.{StaysAttached}
use Rattle.mounted_groups.specs.group_engine.Mounts.{IsMounted, MountedGroup}
use Rattle.mounted_groups.proofs.group_engine.Causes.{not_mounted}
use Rattle.mounted_groups.proofs.group_engine.Elsewhere.{stays_attached}
use Rattle.edit_laws.specs.group_files.declared.edit.GroupEdit.{GroupEdit}
use Rattle.session_claims.specs.Claims.{IsMountedAs, IsPaired, KeepsWorlds, StandsFor}
use Rattle.session_claims.specs.Laws.{CommitsEdit, EditKeeps, EditsTo, MountsGoOn, RefusalKeeps, ReplacesGroups, TearingKeeps}
use Rattle.session_claims.proofs.Carried.{allows_then, replaced, work_keeps}
use Rattle.session_claims.proofs.Images.{after_between, before_between, held_allows}
use Rattle.session_claims.proofs.Looks.{allows_now, members_now as members_stay, mounted_now, origin_now as origin_stays}
use Rattle.session_claims.proofs.Turns.{turns_later}

abbrev done_as : Group → Result Group r.Refusal
done_as g = Ok g

ok_is : (x y : Group) → done_as x ≡ done_as y → x ≡ y
ok_is x y same = cc

module _ (s t : BayState) (sound : IsSound s) (later : IsSound t) (n : ℕ) (known : ℕ → Bool) (given : ℕ) (w w' : World) (groups groups' : List MountedGroup) (e : SessionEntry) (edit : GroupEdit) (old new : MountedGroup)
    (answer : Result (Unit {0}) Refusal) (g h : Group) (stands : StandsFor n known given s w groups) (pair : IsPaired w.session groups e old) (is : is_mounted e ≡ true) (work : CommitsEdit edit old answer new s t)
    (to : EditsTo w e.id edit g h) where
  abbrev k : IsMountedAs n e.id old (groups_of w e.id) s
  k = stands.mounted e old pair is

  abbrev c : EditCall
  c = record { n = n; old = old; new = new; answer = answer; g = k.group; kept = k.kept }

  first_is : (a b : Group) → (a ∷ []) ≡ (b ∷ []) → a ≡ b
  first_is a b same = cc

  group_is : k.group ≡ g
  group_is = first_is k.group g (sym k.only ∙ to.before)

  led : (x : Group) × (edited_by k.group edit ≡ Ok x) × IsHeldOver c x s t
  led = edit_is_held s t c edit work.mounted (record { mounts = k.mounts; turns = omega (arith, k.turns) }) work.committed

  after_is : led.0 ≡ h
  after_is = sym (ok_is h led.0 (sym to.after ∙ ap (λ (x : Group). edited_by x edit) (sym group_is) ∙ led.1))

  over : IsHeldOver c h s t
  over = subst (λ (x : Group). IsHeldOver c x s t) after_is led.2

  -- ---- each moment

  abbrev pair_of : List Group
  pair_of = k.group ∷ h ∷ []

  -- both groups are among those between, where the world has the one after
  between : (command : Command) (list : List Group) → IsAmong list h → ReplacesGroups w e.id list w' → (x : Group) → IsAmong pair_of x → IsAmong (groups_between w command w' e.id) x
  between command list has replaces x among = ⊎_elim
      (λ (first : x ≡ k.group). before_between w w' command e.id x (subst (λ (l : List Group). IsAmong l x) (sym k.only) (inl first)))
      (λ rest. ⊎_elim
      (λ (after : x ≡ h). after_between w w' command e.id x (subst (λ (l : List Group). IsAmong l x) (sym (replaced w e.id list w' replaces)) (subst (λ (y : Group). IsAmong list y) (sym after) has)))
      (λ none. absurd none) rest) among

  edit_keeps : (command : Command) (list : List Group) → IsAmong list h → ReplacesGroups w e.id list w' → (IsNew : MountedGroup → Type 0) → MountsGoOn e.id IsNew w w' groups groups'
      → ((image : Image) → t.leaves t.calls image → Allows old.register.id list image) → ((m : MountedGroup) → IsNew m → IsMountedAs n e.id m list t) → KeepsWorlds n known command given s t w w' groups'
  edit_keeps command list has replaces IsNew goes own_now own_mounted =
      work_keeps s t sound later n known given w w' groups groups' e old new stands pair is work.keeps pair_of over.moments command (between command list has replaces) list replaces IsNew goes own_now own_mounted

  -- its commit dismounted the group
  torn_keeps : (command : Command) → ReplacesGroups w e.id (g ∷ h ∷ []) w' → MountsGoOn e.id (λ m. ⊥) w w' groups groups' → KeepsWorlds n known command given s t w w' groups'
  torn_keeps command replaces goes = edit_keeps command (g ∷ h ∷ []) (inr (inl refl)) replaces (λ m. ⊥) goes
      (λ image left. subst (λ (x : Group). Allows old.register.id (x ∷ h ∷ []) image) group_is
      (allows_then s t sound later n known given w w' groups groups' e old new stands pair is work.keeps pair_of over.moments image left))
      (λ m none. absurd none)

-- it was done
module _ (s t : BayState) (sound : IsSound s) (later : IsSound t) where
  pub edits_keep : EditKeeps s t
  edits_keep n known given w w' groups groups' e edit old new g h command stands pair is work to replaces goes =
      let o = over s t sound later n known given w w' groups groups' e edit old new (Ok tt) g h stands pair is work to in
      let k = stands.mounted e old pair is in
      let commit = work.committed.commits.held work.mounted in
      let id_same : new.register.id ≡ e.id = work.keeps.same.id ∙ k.same in
      let held : (image : Image) → t.leaves t.calls image → IsHeld n new.register.id (h ∷ []) o.done.0 image = λ image left. o.done.2.now.now image left in
      edit_keeps s t sound later n known given w w' groups groups' e edit old new (Ok tt) g h stands pair is work to command (h ∷ []) (inl refl) replaces (λ m. m ≡ new) goes
      (λ image left. subst (λ (i : ℕ). Allows i (h ∷ []) image) work.keeps.same.id (held_allows n new.register.id (h ∷ []) o.done.0 image (held image left)))
      (λ m same. subst (λ (x : MountedGroup). IsMountedAs n e.id x (h ∷ []) t) (sym same) (record {
        same = id_same;
        group = h;
        only = refl;
        kept = o.done.0;
        mounts = o.done.2;
        turns = turns_later old new commit.status commit.turns k.turns;
        still = still_later old new work.keeps.same k.still;
      }))

  pub tearing_keeps : TearingKeeps s t
  tearing_keeps n known given w w' groups groups' e edit old new answer g h command stands pair is work to replaces goes =
      torn_keeps s t sound later n known given w w' groups groups' e edit old new answer g h stands pair is work to command replaces goes

-- it was refused, and nothing was done
idle_of : (old new : MountedGroup) (s t : BayState) (refusal : Refusal) → StatusCause old new s t refusal → IsIdleBut old new s t refusal → IsMounted old → IsMounted new → IsIdle old new s t
idle_of old new s t (cause.Dismounted (disk.Number d)) why idle on still = absurd (⊎_elim (λ was. not_mounted old d was on) (λ now. not_mounted new d now.0 still) why)
idle_of old new s t (cause.Dismounted (disk.Spelt text)) why idle on still = absurd why
idle_of old new s t other why idle on still = idle

module _ (s t : BayState) (sound : IsSound s) where
  pub refusals_keep : RefusalKeeps s t
  refusals_keep n known given w w' groups groups' e edit old new refusal command stands pair is work mounted same goes =
      let k = stands.mounted e old pair is in
      let commits = work.committed.commits in
      let held = commits.held work.mounted in
      let idle : IsIdle old new s t = idle_of old new s t refusal commits.cause held.idle work.mounted mounted in
      let runs : Runs (λ (slot : ℕ). ⊥) Same s t = idle.calls.runs in
      let none : t.calls ≡ s.calls = idle.calls.calls in
      let attached : StaysAttached s t = stays_attached work.keeps.attached in
      let led = edit_is_held s t (record { n = n; old = old; new = new; answer = Err refusal; g = k.group; kept = k.kept }) edit work.mounted (record { mounts = k.mounts; turns = omega (arith, k.turns) }) work.committed in
      record {
        held = λ m image id from until left. absurd (omega (arith, from, until, none));
        there = λ m image id from until left was still. absurd (omega (arith, from, until, none));
        now = record {
          tells = runs.tells stands.tells;
          entries = goes.entries;
          ids = goes.ids;
          allows = λ image id left. subst (λ (l : List Group). Allows id l image) (sym (same id)) (allows_now s t sound n known given (λ (slot : ℕ). ⊥) w groups runs attached stands image id left);
          mounted = λ f m at yes. subst (λ (l : List Group). IsMountedAs n f.id m l t) (sym (same f.id)) (⊎_elim
              (λ mine. subst (λ (i : ℕ). IsMountedAs n i m (groups_of w i) t) (sym mine.0) (subst (λ (x : MountedGroup). IsMountedAs n e.id x (groups_of w e.id) t) (sym mine.1) (record {
                same = work.keeps.same.id ∙ k.same;
                group = k.group;
                only = k.only;
                kept = k.kept;
                mounts = led.2.refused mounted;
                turns = turns_later old new held.status held.turns k.turns;
                still = still_later old new work.keeps.same k.still;
              })))
              (λ other. mounted_now s t sound n known given (λ (slot : ℕ). ⊥) w groups runs attached stands f m other.1 yes)
              (goes.pairs f m at yes));
          members = members_stay s t sound n known given (λ (slot : ℕ). ⊥) w groups runs attached stands;
          origin = λ image id left has. origin_stays s t sound n known given (λ (slot : ℕ). ⊥) w groups runs attached stands given (omega arith) image id left has;
        };
      }
