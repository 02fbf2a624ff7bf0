-- Runs one after another, their moments and their marks.
use Rattle.std.proofs.Common.{◌⊎◌, ◌≡◌, ℕ, ◌<◌, ◌≤◌, Bool, true, false, List, [], ◌∷◌, ◌++◌, inl, inr, refl, sym, ◌∙◌, ap, subst, arith, Option, Some, None}
use Rattle.std.specs.Str.{bytes_eq}
use Rattle.std.proofs.lemmas.Bool.{cases_lt}
use Rattle.asm_group.specs.Group.{Group}
use Rattle.asm_group.specs.Names.{Bytes}
use Rattle.asm_world.specs.Below.{Found}
use Rattle.asm_world.specs.Between.{groups_between}
use Rattle.asm_world.specs.Command.{Command}
use Rattle.asm_world.specs.Reply.{Reply, Rebalanced, Resynced, Event, Expired, ExpiryEnds, Moved, Synced, SyncEnds, MoveEnds}
use Rattle.asm_world.specs.Run.{Outside, State, PrintedMove, SessionMove, Answers, Starts, Expires, Slices, Rests, Stops, Phase, Expiry, IsExpiry, Due, DueSlice, DueResync, DueRebalance, IsResynced, IsRebalanced, IsSlice, IsDueSlice, Does, IsMove, IsRun, IsRunWhile, AllMoves, CallsRise, StandsBetween, AreMountedThere, HeldBy, end_of, entry_text, marks_at, marks_in_history}
use Rattle.asm_world.specs.RunLaws.{AtAnswer, IsQuiet, is_answer, Grows, RisesFrom}
use Rattle.asm_world.specs.World.{World, groups_of}

-- ONE AFTER ANOTHER

pub joined : {C I : Type 0} (out : Outside C I) (s : State C) (first rest : List (PrintedMove C)) → IsRun out s first × IsRun out (end_of s first) rest → IsRun out s (first ++ rest)
joined out s [] rest (a, b) = b
joined out s (e ∷ first) rest (a, b) = (a.0, joined out e.after first rest (a.1, b))

pub split : {C I : Type 0} (out : Outside C I) (s : State C) (first rest : List (PrintedMove C)) → IsRun out s (first ++ rest) → IsRun out s first × IsRun out (end_of s first) rest
split out s [] rest run = (tt, run)
split out s (e ∷ first) rest run = let p = split out e.after first rest run.1 in ((run.0, p.0), p.1)

pub end_append : {C : Type 0} (s : State C) (first rest : List (PrintedMove C)) → end_of s (first ++ rest) ≡ end_of (end_of s first) rest
end_append s [] rest = refl
end_append s (e ∷ first) rest = end_append e.after first rest

-- MOMENTS

pub held_by : {C I : Type 0} (out : Outside C I) (s : State C) (h : List (PrintedMove C)) (m : ℕ) (image : I) → IsRun out s h → s.calls ≤ m → m < (end_of s h).calls → out.leaves m image → HeldBy out s h m image
held_by out s [] m image run from to left = absurd (omega arith)
held_by out s (e ∷ h) m image run from to left =
    elim (cases_lt m e.after.calls) [
      | inl short ↦ inl (from, short, run.0.images m image from short left)
      | inr later ↦ inr (held_by out e.after h m image run.1 later to left)
    ]

pub moments : {C I : Type 0} (out : Outside C I) (s : State C) (first rest : List (PrintedMove C)) (m : ℕ) (image : I) →
    IsRun out s (first ++ rest) → (end_of s first).calls ≤ m → m < (end_of s (first ++ rest)).calls → out.leaves m image → HeldBy out (end_of s first) rest m image
moments {C = C} out s first rest m image run from to left =
    let Q : State C → Type 0 = λ t. m < t.calls in
    held_by out (end_of s first) rest m image (split out s first rest run).1 from (subst Q (end_append s first rest) to) left

pub mounted_are_there : {C I : Type 0} (out : Outside C I) (s : State C) (before rest : List (PrintedMove C)) (e : PrintedMove C) (m : ℕ) (image : I)
    → IsRun out s (before ++ e ∷ rest) → (end_of s before).calls ≤ m → m < e.after.calls → out.leaves m image → AreMountedThere out (end_of s before) e.after image
mounted_are_there out s before rest e m image run from to left = (split out s before (e ∷ rest) run).1.0.there m image from to left

-- QUIET MOVES

expiry_leaves : (x : Option Expiry) (event : Event) (w : World) (phase : Phase) (new : World) → IsExpiry x event w phase new → new.groups ≡ w.groups
expiry_leaves (Some x) (Expired group disk) w phase new h = ap (λ (v : World). v.groups) h.3
expiry_leaves (Some x) (ExpiryEnds group disk) w phase new h = ap (λ (v : World). v.groups) h.2
expiry_leaves (Some x) (Moved group how) w phase new h = absurd h
expiry_leaves (Some x) (Synced group disk how) w phase new h = absurd h
expiry_leaves None event w phase new h = absurd h

resync_leaves : (name : Bytes) (how : Resynced) (w new : World) → IsResynced name how w new → new.groups ≡ w.groups
resync_leaves name (SyncEnds disk) w new h = ap (λ (v : World). v.groups) h
resync_leaves name how w new h = ap (λ (v : World). v.groups) h

rebalance_leaves : (name : Bytes) (how : Rebalanced) (w new : World) → IsRebalanced name how w new → new.groups ≡ w.groups
rebalance_leaves name (MoveEnds disk) w new h = ap (λ (v : World). v.groups) h
rebalance_leaves name how w new h = ap (λ (v : World). v.groups) h

slice_leaves : (due : Due) (event : Event) (w new : World) → IsSlice due event w new → new.groups ≡ w.groups
slice_leaves (DueResync name disk) (Synced group synced how) w new h = resync_leaves name how w new h.2
slice_leaves (DueRebalance name) (Moved group how) w new h = rebalance_leaves name how w new h.1
slice_leaves due event w new h = absurd h

due_slice_leaves : (x : Option DueSlice) (event : Event) (w : World) (phase : Phase) (new : World) → IsDueSlice x event w phase new → new.groups ≡ w.groups
due_slice_leaves None event w phase new h = absurd h
due_slice_leaves (Some x) event w phase new h = slice_leaves x.due event w new h.0

move_leaves : {C : Type 0} (means : Bytes → Command) (s : State C) (move : SessionMove) (t : State C) → Does means s move t → is_answer move ≡ false → t.world.groups ≡ s.world.groups
move_leaves means s (Starts time) t d q = ap (λ (v : World). v.groups) d.world
move_leaves means s (Expires event) t d q = expiry_leaves _ event s.world t.phase t.world d.is_expiry
move_leaves means s (Answers found text reply) t d q = cc
move_leaves means s (Slices event) t d q = due_slice_leaves _ event s.world t.phase t.world d.is_slice
move_leaves means s Rests t d q = ap (λ (v : World). v.groups) d.world
move_leaves means s Stops t d q = ap (λ (v : World). v.groups) d.world

pub quiet_leaves : {C I : Type 0} (out : Outside C I) (s : State C) (quiet : List (PrintedMove C)) → IsRun out s quiet → IsQuiet quiet → (end_of s quiet).world.groups ≡ s.world.groups
quiet_leaves out s [] run q = refl
quiet_leaves out s (e ∷ quiet) run q = quiet_leaves out e.after quiet run.1 q.1 ∙ move_leaves out.means s e.move e.after run.0.does q.0

-- a quiet move's moments
held_quiet : {C I : Type 0} (out : Outside C I) (s : State C) (move : SessionMove) (t : State C) (image : I) (id : ℕ) → StandsBetween out s move t image → is_answer move ≡ false
    → out.allows id (groups_of s.world id) image
held_quiet out s (Starts time) t image id h q = h id
held_quiet out s (Expires event) t image id h q = h id
held_quiet out s (Answers found text reply) t image id h q = cc
held_quiet out s (Slices event) t image id h q = h id
held_quiet out s Rests t image id h q = h id
held_quiet out s Stops t image id h q = h id

same_groups : (v w : World) (id : ℕ) → v.groups ≡ w.groups → groups_of v id ≡ groups_of w id
same_groups v w id e = rw e refl

pub quiet_held : {C I : Type 0} (out : Outside C I) (s : State C) (quiet : List (PrintedMove C)) (m : ℕ) (image : I) (id : ℕ) → IsRun out s quiet → IsQuiet quiet
    → s.calls ≤ m → m < (end_of s quiet).calls → out.leaves m image → out.allows id (groups_of s.world id) image
quiet_held out s [] m image id run q from to left = absurd (omega arith)
quiet_held out s (e ∷ quiet) m image id run q from to left =
    let P : List Group → Type 0 = λ groups. out.allows id groups image in
    elim (cases_lt m e.after.calls) [
      | inl short ↦ held_quiet out s e.move e.after image id (run.0.images m image from short left) q.0
      | inr later ↦ subst P (same_groups e.after.world s.world id (move_leaves out.means s e.move e.after run.0.does q.0)) (quiet_held out e.after quiet m image id run.1 q.1 later to left)
    ]

pub between : {C I : Type 0} (out : Outside C I) (s t : State C) (quiet : List (PrintedMove C)) (found : Found) (text : Bytes) (reply : Reply)
    → Grows out → IsRun out s quiet → IsQuiet quiet → IsMove out (end_of s quiet) (Answers found text reply) t
    → (m : ℕ) (image : I) (id : ℕ) → s.calls ≤ m → m < t.calls → out.leaves m image
    → out.allows id (groups_between (end_of s quiet).world (out.means text) t.world id) image
between out s t quiet found text reply grows run q move m image id from to left =
    let P : List Group → Type 0 = λ groups. out.allows id groups image in
    elim (cases_lt m (end_of s quiet).calls) [
      | inl early ↦ grows id (groups_of (end_of s quiet).world id) _ image
          (subst P (sym (same_groups (end_of s quiet).world s.world id (quiet_leaves out s quiet run q))) (quiet_held out s quiet m image id run q from early left))
      | inr late ↦ move.images m image late to left id
    ]

one_of_two : (b : Bool) → (b ≡ true) ⊎ (b ≡ false)
one_of_two true = inl refl
one_of_two false = inr refl

first_answer : {C : Type 0} (e : PrintedMove C) (h : List (PrintedMove C)) → is_answer e.move ≡ false → IsQuiet h ⊎ AtAnswer h → IsQuiet (e ∷ h) ⊎ AtAnswer (e ∷ h)
first_answer e h q (inl quiet) = inl (q, quiet)
first_answer e h q (inr at) = inr (record { quiet = e ∷ at.quiet; answer = at.answer; others = at.others; split = ap (λ z. e ∷ z) at.split; is_quiet = (q, at.is_quiet); is_answer = at.is_answer })

pub split_at_answer : {C : Type 0} (h : List (PrintedMove C)) → IsQuiet h ⊎ AtAnswer h
split_at_answer [] = inl tt
split_at_answer (e ∷ h) = elim (one_of_two (is_answer e.move)) [
  | inl a ↦ inr (record { quiet = []; answer = e; others = h; split = refl; is_quiet = tt; is_answer = a })
  | inr q ↦ first_answer e h q (split_at_answer h)
]

-- MARKS

rises_lower : (low high : ℕ) (ns : List ℕ) → low ≤ high → RisesFrom high ns → RisesFrom low ns
rises_lower low high [] h r = tt
rises_lower low high (n ∷ ns) h r = (omega arith, r.1)

rises_behind : (move : SessionMove) (whole : Bool) (low calls : ℕ) (ns : List ℕ) → low ≤ calls → RisesFrom calls ns → RisesFrom low (marks_at move whole calls ++ ns)
rises_behind (Answers found text reply) true low calls ns h r = (h, r)
rises_behind (Answers found text reply) false low calls ns h r = rises_lower low calls ns h r
rises_behind (Starts time) whole low calls ns h r = rises_lower low calls ns h r
rises_behind (Expires event) whole low calls ns h r = rises_lower low calls ns h r
rises_behind (Slices event) whole low calls ns h r = rises_lower low calls ns h r
rises_behind Rests whole low calls ns h r = rises_lower low calls ns h r
rises_behind Stops whole low calls ns h r = rises_lower low calls ns h r

pub marks_rise_by : {C : Type 0} (s : State C) (history : List (PrintedMove C)) → CallsRise s history → RisesFrom s.calls (marks_in_history history)
marks_rise_by s [] rise = tt
marks_rise_by s (e ∷ history) rise = rises_behind e.move (bytes_eq e.printed (entry_text e)) s.calls e.after.calls (marks_in_history history) rise.0 (marks_rise_by e.after history rise.1)

pub calls_rise : {C I : Type 0} (out : Outside C I) (s : State C) (history : List (PrintedMove C)) → IsRun out s history → CallsRise s history
calls_rise out s [] run = tt
calls_rise out s (e ∷ history) run = (run.0.calls, calls_rise out e.after history run.1)

pub marks_rise : {C I : Type 0} (out : Outside C I) (s : State C) (history : List (PrintedMove C)) → IsRun out s history → RisesFrom s.calls (marks_in_history history)
marks_rise out s history run = marks_rise_by s history (calls_rise out s history run)

-- RISING CALLS

pub rise_calls : {C : Type 0} (s : State C) (h : List (PrintedMove C)) → CallsRise s h → s.calls ≤ (end_of s h).calls
rise_calls s [] p = omega arith
rise_calls s (e ∷ h) p =
    let first : s.calls ≤ e.after.calls = p.0 in
    let rest : e.after.calls ≤ (end_of e.after h).calls = rise_calls e.after h p.1 in
    omega arith

pub rise_joined : {C : Type 0} (s : State C) (h k : List (PrintedMove C)) → CallsRise s h → CallsRise (end_of s h) k → CallsRise s (h ++ k)
rise_joined s [] k p q = q
rise_joined s (e ∷ h) k p q = (p.0, rise_joined e.after h k p.1 q)

pub rise_split : {C : Type 0} (s : State C) (h k : List (PrintedMove C)) → CallsRise s (h ++ k) → CallsRise s h × CallsRise (end_of s h) k
rise_split s [] k p = (tt, p)
rise_split s (e ∷ h) k p = let q = rise_split e.after h k p.1 in ((p.0, q.0), q.1)

-- UP TO THE FIRST THAT DOESN'T MEET A PREMISE

pub moves_joined : {C : Type 0} (premise : SessionMove → Type 0) (h k : List (PrintedMove C)) → AllMoves premise h → AllMoves premise k → AllMoves premise (h ++ k)
moves_joined premise [] k p q = q
moves_joined premise (e ∷ h) k p q = (p.0, moves_joined premise h k p.1 q)

pub moves_split : {C : Type 0} (premise : SessionMove → Type 0) (h k : List (PrintedMove C)) → AllMoves premise (h ++ k) → AllMoves premise h × AllMoves premise k
moves_split premise [] k p = (tt, p)
moves_split premise (e ∷ h) k p = let q = moves_split premise h k p.1 in ((p.0, q.0), q.1)

pub while_joined : {C I : Type 0} (out : Outside C I) (premise : SessionMove → Type 0) (s : State C) (h k : List (PrintedMove C))
    → IsRunWhile out premise s h → (AllMoves premise h → IsRunWhile out premise (end_of s h) k) → IsRunWhile out premise s (h ++ k)
while_joined out premise s [] k p q = q tt
while_joined out premise s (e ∷ h) k p q = λ meets. let r = p meets in (r.0, while_joined out premise e.after h k r.1 (λ all. q (meets, all)))

pub while_front : {C I : Type 0} (out : Outside C I) (premise : SessionMove → Type 0) (s : State C) (h k : List (PrintedMove C)) → IsRunWhile out premise s (h ++ k) → IsRunWhile out premise s h
while_front out premise s [] k p = tt
while_front out premise s (e ∷ h) k p = λ meets. let r = p meets in (r.0, while_front out premise e.after h k r.1)

pub while_rest : {C I : Type 0} (out : Outside C I) (premise : SessionMove → Type 0) (s : State C) (h k : List (PrintedMove C)) → IsRunWhile out premise s (h ++ k) → AllMoves premise h
    → IsRunWhile out premise (end_of s h) k
while_rest out premise s [] k p all = p
while_rest out premise s (e ∷ h) k p all = while_rest out premise e.after h k (p all.0).1 all.1

pub while_run : {C I : Type 0} (out : Outside C I) (premise : SessionMove → Type 0) (s : State C) (h : List (PrintedMove C)) → AllMoves premise h → IsRunWhile out premise s h → IsRun out s h
while_run out premise s [] all run = tt
while_run out premise s (e ∷ h) all run = let r = run all.0 in (r.0, while_run out premise e.after h all.1 r.1)

pub run_while : {C I : Type 0} (out : Outside C I) (premise : SessionMove → Type 0) (s : State C) (h : List (PrintedMove C)) → IsRun out s h → IsRunWhile out premise s h
run_while out premise s [] run = tt
run_while out premise s (e ∷ h) run = λ meets. (run.0, run_while out premise e.after h run.1)

-- what is told later of ended moments changes nothing
move_past : {C I : Type 0} (out : Outside C I) (later : ℕ → I → Type 0) (s : State C) (move : SessionMove) (t : State C)
    → ((m : ℕ) (image : I) → m < t.calls → later m image → out.leaves m image) → IsMove out s move t → IsMove (record out { leaves = later }) s move t
move_past out later s move t past p = record {
  does = p.does;
  caused = p.caused;
  calls = p.calls;
  images = λ m image from to left. p.images m image from to (past m image to left);
  there = λ m image from to left. p.there m image from to (past m image to left);
}

pub while_past : {C I : Type 0} (out : Outside C I) (later : ℕ → I → Type 0) (premise : SessionMove → Type 0) (s : State C) (h : List (PrintedMove C))
    → ((m : ℕ) (image : I) → m < (end_of s h).calls → later m image → out.leaves m image) → CallsRise s h
    → IsRunWhile out premise s h → IsRunWhile (record out { leaves = later }) premise s h
while_past out later premise s [] past rise p = tt
while_past out later premise s (e ∷ h) past rise p = λ meets.
    let q = p meets in
    let rest : e.after.calls ≤ (end_of e.after h).calls = rise_calls e.after h rise.1 in
    (move_past out later s e.move e.after (λ m image to left. past m image (omega arith) left) q.0, while_past out later premise e.after h past rise.1 q.1)
