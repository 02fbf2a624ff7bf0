-- From what a run holds to what a stop in it may leave.
use Rattle.std.proofs.Common.{◌≡◌, ℕ, ◌<◌, ◌≤◌, Bool, true, List, [], ◌∷◌, ◌++◌, length, inl, inr, refl, sym, ◌∙◌, ap, subst, arith}
use Rattle.std.proofs.lemmas.Bool.{cases_lt}
use Rattle.bay.specs.Image.{Image}
use Rattle.bay.specs.State.{BayState, IsSound}
use Rattle.asm_group.specs.Group.{Group}
use Rattle.asm_group.specs.Names.{Bytes}
use Rattle.asm_images.proofs.Spans.{widen_keeps}
use Rattle.asm_images.specs.Bridge.{disks_in}
use Rattle.asm_placement.proofs.Membership.{among_left}
use Rattle.asm_world.proofs.Histories.{split, end_append, moments, mounted_are_there, quiet_leaves, quiet_held, between}
use Rattle.asm_world.specs.Below.{Found}
use Rattle.asm_world.specs.Between.{groups_between}
use Rattle.asm_world.specs.Reply.{Reply}
use Rattle.asm_world.specs.Run.{State, PrintedMove, SessionMove, Answers, IsMove, IsRun, IsHeldNow, end_of}
use Rattle.asm_world.specs.RunLaws.{Grows, IsQuiet}
use Rattle.asm_world.specs.World.{World, SessionEntry, groups_of, has_mounted}
use Rattle.serving.specs.group_recovery.Mounting.{Allows}
use Rattle.serving.specs.mounted_groups.Found.{Counts}
use Rattle.serving.specs.Acts.{Holding}
use Rattle.serving.specs.session.Claims.{held_outside, IsProvedApartIn}
use Rattle.serving.specs.session.Meaning.{meaning}
use Rattle.serving.specs.session.Sessions.{Roster}
use Rattle.serving.specs.session_claims.Claims.{IsPaired, IsStanding, StandsFor}
use Rattle.serving.proofs.session_claims.Images.{same_sound, same_member, all_stand}
use Rattle.serving.proofs.session_claims.Members.{one_holds}
use Rattle.serving.proofs.session_claims.Pairs.{mounted_pair}
use Rattle.world_steps.specs.Runs.{AllFrom, IsRunFrom}
use Rattle.world_steps.specs.Told.{AreIdsApart}
use Rattle.world_steps.proofs.Runs.{is_run, joins}
use Rattle.asm_run.specs.Crash.{StartsAs, AreHeld, IsCrashSafe}

-- an image that stands for some groups stands for more
allows-more : (paths : List Bytes) (leaves : ℕ → Image → Type 0) → Grows (held_outside paths leaves)
allows-more paths leaves id groups more image allowed slots =
    let s = allowed slots in
    record {
      completed = s.completed;
      begun = s.begun;
      holds = widen_keeps id (disks_in slots image) groups (groups ++ more) s.completed s.begun s.holds (λ g among. among_left groups more g among);
    }

-- what is known of the disks before a run
pub starts-stands : (n : ℕ) (known : ℕ → Bool) (bay : BayState) (w : World) → IsSound bay → w.session ≡ [] → StartsAs known bay w → StandsFor n known 0 bay w []
starts-stands n known bay w sound none s = record {
  tells = s.tells;
  entries = ap (λ (l : List SessionEntry). length l) (sym none);
  ids = subst (λ (l : List SessionEntry). AreIdsApart l) (sym none) tt;
  mounted = λ e m pair is. absurd (subst (λ (l : List SessionEntry). IsPaired l [] e m) none pair);
  allows = λ image id left slots.
      let by = s.stands id in
      record { completed = by.completed; begun = by.begun; holds = same_sound id (groups_of w id) by.completed by.begun s.first image (s.one image left) by.sound slots };
  members = λ held image holds left. one_holds s.first held image (s.one held (sound.held held holds)) (s.one image left);
  origin = λ image id left member. inr (s.is_known id (same_member id s.first image (s.one image left) member));
}

-- the moves from a reply on, up to the next command, and its answer
to_next : (paths : List Bytes) (leaves : ℕ → Image → Type 0) (first : State Counts) (before quiet others : List (PrintedMove Counts)) (answer : PrintedMove Counts) (found : Found) (text : Bytes) (reply : Reply)
    → IsRun (held_outside paths leaves) first (before ++ (quiet ++ answer ∷ others)) → IsQuiet quiet → answer.move ≡ Answers found text reply
    → (m : ℕ) (image : Image) (id : ℕ) → (end_of first before).calls ≤ m → m < answer.after.calls → leaves m image
    → Allows id (groups_between (end_of (end_of first before) quiet).world (meaning text) answer.after.world id) image
to_next paths leaves first before quiet others answer found text reply run q is m image id from to left =
    let later = (split (held_outside paths leaves) first before (quiet ++ answer ∷ others) run).1 in
    let parts = split (held_outside paths leaves) (end_of first before) quiet (answer ∷ others) later in
    let P : SessionMove → Type 0 = λ move. IsMove (held_outside paths leaves) (end_of (end_of first before) quiet) move answer.after in
    between (held_outside paths leaves) (end_of first before) answer.after quiet found text reply (allows-more paths leaves) parts.0 q (subst P is parts.1.0) m image id from to left

same-groups : (v w : World) (id : ℕ) → v.groups ≡ w.groups → groups_of v id ≡ groups_of w id
same-groups v w id e = rw e refl

-- the moves behind the last command, to the moment that lasts
to_end : (paths : List Bytes) (leaves : ℕ → Image → Type 0) (first : State Counts) (before quiet : List (PrintedMove Counts))
    → IsRun (held_outside paths leaves) first (before ++ quiet) → IsQuiet quiet → IsHeldNow (held_outside paths leaves) (end_of first (before ++ quiet))
    → (m : ℕ) (image : Image) (id : ℕ) → (end_of first before).calls ≤ m → m ≤ (end_of first (before ++ quiet)).calls → leaves m image
    → Allows id (groups_of (end_of first before).world id) image
to_end paths leaves first before quiet run q now m image id from to left =
    let later = (split (held_outside paths leaves) first before quiet run).1 in
    let reaches : end_of first (before ++ quiet) ≡ end_of (end_of first before) quiet = end_append first before quiet in
    let P : List Group → Type 0 = λ groups. Allows id groups image in
    let Q : State Counts → Type 0 = λ s. m ≤ s.calls in
    let R : State Counts → Type 0 = λ s. IsHeldNow (held_outside paths leaves) s in
    let last : m ≤ (end_of (end_of first before) quiet).calls = subst Q reaches to in
    elim (cases_lt m (end_of (end_of first before) quiet).calls) [
      | inl short ↦ quiet_held (held_outside paths leaves) (end_of first before) quiet m image id later q from short left
      | inr over ↦
          let same : m ≡ (end_of (end_of first before) quiet).calls = omega arith in
          let L : ℕ → Type 0 = λ n. leaves n image in
          subst P (same-groups (end_of (end_of first before) quiet).world (end_of first before).world id (quiet_leaves (held_outside paths leaves) (end_of first before) quiet later q))
          (subst R reaches now image id (subst L same left))
    ]

are-held : (paths : List Bytes) (leaves : ℕ → Image → Type 0) (first : State Counts) (history : List (PrintedMove Counts)) → IsRun (held_outside paths leaves) first history
    → AreHeld paths leaves first history
are-held paths leaves first history run =
    let R : List (PrintedMove Counts) → Type 0 = λ es. IsRun (held_outside paths leaves) first es in
    record {
      to_next = λ before quiet others answer found text reply cut q is m image id from to left.
          to_next paths leaves first before quiet others answer found text reply (subst R cut run) q is m image id from to left;
      moments = λ before rest cut m image from to left.
          let T : List (PrintedMove Counts) → Type 0 = λ es. m < (end_of first es).calls in
          moments (held_outside paths leaves) first before rest m image (subst R cut run) from (subst T cut to) left;
      there = λ before rest e cut m image id from to left was is.
          mounted_are_there (held_outside paths leaves) first before rest e m image (subst R cut run) from to left id was is;
    }

pub held-before : (paths : List Bytes) (new : BayState) (first : State Counts) (history : List (PrintedMove Counts)) (known : ℕ → Bool) (roster : Roster) (w : World)
    → Holding known paths first history roster new w → (before rest : List (PrintedMove Counts)) → history ≡ before ++ rest → AllFrom (IsProvedApartIn known) first before
    → AreHeld paths new.leaves first before
held-before paths new first history known roster w h before rest cut all =
    let R : List (PrintedMove Counts) → Type 0 = λ es. IsRunFrom (held_outside paths new.leaves) (IsProvedApartIn known) first es in
    let front = (joins (held_outside paths new.leaves) (IsProvedApartIn known) first before rest).1 (subst R cut h.held) in
    are-held paths new.leaves first before ((is_run (held_outside paths new.leaves) (IsProvedApartIn known) first before all).0 front.0)

pub crash-safe : (paths : List Bytes) (new : BayState) (first end : State Counts) (history : List (PrintedMove Counts)) (known : ℕ → Bool) (roster : Roster)
    → end_of first history ≡ end → end.calls ≡ new.calls → AllFrom (IsProvedApartIn known) first history → Holding known paths first history roster new end.world → IsCrashSafe paths new.leaves first history
crash-safe paths new first end history known roster ends calls all h =
    let run = (is_run (held_outside paths new.leaves) (IsProvedApartIn known) first history all).0 h.held in
    let stands = h.now all in
    let now : IsHeldNow (held_outside paths new.leaves) (end_of first history) = λ image id left.
    let N : State Counts → Type 0 = λ s. new.leaves s.calls image in
    let L : ℕ → Type 0 = λ n. new.leaves n image in
    let G : State Counts → Type 0 = λ s. Allows id (groups_of s.world id) image in
    subst G (sym ends) (stands.allows image id (subst L calls (subst N ends left))) in
    let R : List (PrintedMove Counts) → Type 0 = λ es. IsRun (held_outside paths new.leaves) first es in
    let H : List (PrintedMove Counts) → Type 0 = λ es. IsHeldNow (held_outside paths new.leaves) (end_of first es) in
    record {
      held = are-held paths new.leaves first history run;
      to_end = λ before quiet cut q m image id from to left.
          let T : List (PrintedMove Counts) → Type 0 = λ es. m ≤ (end_of first es).calls in
          to_end paths new.leaves first before quiet (subst R cut run) q (subst H cut now) m image id from (subst T cut to) left;
      there_now = λ image id left is.
          let N : State Counts → Type 0 = λ s. new.leaves s.calls image in
          let L : ℕ → Type 0 = λ n. new.leaves n image in
          let M : State Counts → Type 0 = λ s. has_mounted s.world id ≡ true in
          let p = mounted_pair end.world.session roster.groups id stands.entries (subst M ends is) in
          let k = stands.mounted p.0 p.1 p.2 p.3 in
          subst (λ (i : ℕ). IsStanding (length paths) i image) p.4
          (all_stand (length paths) p.0.id p.1 (groups_of end.world p.0.id) new k image (k.mounts.now.now image (subst L calls (subst N ends left))));
      now = now;
    }
