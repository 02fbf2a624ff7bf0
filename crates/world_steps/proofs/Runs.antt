-- Runs up to the first move that doesn't meet a premise on it and on the state before it.
use Rattle.std.proofs.Common.{ℕ, ◌<◌, ◌≤◌, List, [], ◌∷◌, ◌++◌, arith}
use Rattle.asm_world.specs.Run.{CallsRise, PrintedMove, IsMove, IsRun, SessionMove, Outside, State, end_of}
use Rattle.asm_world.proofs.Histories.{rise_calls}
use Rattle.world_steps.specs.Runs.{AllFrom, FromIsRun, FromJoins, FromPremisesJoin, FromStays, IsRunFrom}

module _ {C : Type 0} (premise : State C → SessionMove → Type 0) where
  all_joined : (s : State C) (h k : List (PrintedMove C)) → AllFrom premise s h → AllFrom premise (end_of s h) k → AllFrom premise s (h ++ k)
  all_joined s [] k p q = q
  all_joined s (e ∷ h) k p q = (p.0, all_joined e.after h k p.1 q)

  all_split : (s : State C) (h k : List (PrintedMove C)) → AllFrom premise s (h ++ k) → AllFrom premise s h × AllFrom premise (end_of s h) k
  all_split s [] k p = (tt, p)
  all_split s (e ∷ h) k p = let q = all_split e.after h k p.1 in ((p.0, q.0), q.1)

  module _ {I : Type 0} (out : Outside C I) where
    from_joined : (s : State C) (h k : List (PrintedMove C)) → IsRunFrom out premise s h → (AllFrom premise s h → IsRunFrom out premise (end_of s h) k) → IsRunFrom out premise s (h ++ k)
    from_joined s [] k p q = q tt
    from_joined s (e ∷ h) k p q = λ meets. let r = p meets in (r.0, from_joined e.after h k r.1 (λ all. q (meets, all)))

    from_front : (s : State C) (h k : List (PrintedMove C)) → IsRunFrom out premise s (h ++ k) → IsRunFrom out premise s h
    from_front s [] k p = tt
    from_front s (e ∷ h) k p = λ meets. let r = p meets in (r.0, from_front e.after h k r.1)

    from_rest : (s : State C) (h k : List (PrintedMove C)) → IsRunFrom out premise s (h ++ k) → AllFrom premise s h → IsRunFrom out premise (end_of s h) k
    from_rest s [] k p all = p
    from_rest s (e ∷ h) k p all = from_rest e.after h k (p all.0).1 all.1

    from_run : (s : State C) (h : List (PrintedMove C)) → AllFrom premise s h → IsRunFrom out premise s h → IsRun out s h
    from_run s [] all run = tt
    from_run s (e ∷ h) all run = let r = run all.0 in (r.0, from_run e.after h all.1 r.1)

    run_from : (s : State C) (h : List (PrintedMove C)) → IsRun out s h → IsRunFrom out premise s h
    run_from s [] run = tt
    run_from s (e ∷ h) run = λ meets. (run.0, run_from e.after h run.1)

    -- what is told later of ended moments changes nothing
    move_past : (later : ℕ → I → Type 0) (s : State C) (move : SessionMove) (t : State C) → ((m : ℕ) (image : I) → m < t.calls → later m image → out.leaves m image) → IsMove out s move t
        → IsMove (record out { leaves = later }) s move t
    move_past later s move t past p = record {
      does = p.does;
      caused = p.caused;
      calls = p.calls;
      images = λ m image from to left. p.images m image from to (past m image to left);
      there = λ m image from to left. p.there m image from to (past m image to left);
    }

    from_past : (later : ℕ → I → Type 0) (s : State C) (h : List (PrintedMove C)) → ((m : ℕ) (image : I) → m < (end_of s h).calls → later m image → out.leaves m image) → CallsRise s h → IsRunFrom out premise s h
        → IsRunFrom (record out { leaves = later }) premise s h
    from_past later s [] past rise p = tt
    from_past later s (e ∷ h) past rise p = λ meets.
        let q = p meets in
        let rest : e.after.calls ≤ (end_of e.after h).calls = rise_calls e.after h rise.1 in
        (move_past later s e.move e.after (λ m image to left. past m image (omega (arith, to, rest)) left) q.0, from_past later e.after h past rise.1 q.1)

-- each law for one premise
module _ {C I : Type 0} (out : Outside C I) (premise : State C → SessionMove → Type 0) where
  pub premises_join : FromPremisesJoin premise
  premises_join s first rest = (λ both. all_joined premise s first rest both.0 both.1, λ all. all_split premise s first rest all)

  pub joins : FromJoins out premise
  joins s first rest = (λ both. from_joined premise out s first rest both.0 both.1, λ run. (from_front premise out s first rest run, λ all. from_rest premise out s first rest run all))

  pub is_run : FromIsRun out premise
  is_run s history all = (λ run. from_run premise out s history all run, λ run. run_from premise out s history run)

  pub stays : (later : ℕ → I → Type 0) → FromStays out premise later
  stays later s history past rise run = from_past premise out later s history past rise run
