-- Every list of events.
use Rattle.std.proofs.Common.{◌≡◌, ◌⊎◌, inl, inr, ⊎_elim, ◌<◌, List, [], ◌∷◌, refl, sym, ap, subst, ◌∙◌, Some, arith}
use Rattle.std.proofs.lemmas.Option.{none-some}
use Rattle.asm_formats.specs.Among.{IsAmong}
use Rattle.asm_formats.specs.Status.{Status}
use Rattle.asm_formats.specs.Following.{Holder, rank}
use Rattle.register_machine.specs.Disks.{surveyed_record}
use Rattle.register_machine.specs.Machine.{Mark, Completed, Program, Claiming, Writing, State, Event, Creates, Surveys, Claims, ClaimStands, Begins, Stores, Completes, Stops, Allowed, after, AreAllowed, after_all, start}
use Rattle.register_machine.specs.Laws.{begun, Always, SurveyIsCurrent, StatusIsCurrent, BegunFollow, NumbersRise, CompletedIsHeld, CompletedIsFound, LastIsGreatest, EpochsAreSeen, NeverUndone}
use Rattle.register_machine.specs.Mounts.{CanBeMounted}
use Rattle.register_machine.proofs.Mounting.{can_be_mounted}
use Rattle.register_machine.proofs.Surveying.{status_surveyed}
use Rattle.register_machine.proofs.Histories.{base, has_base, compared}
use Rattle.register_machine.proofs.Invariant.{IsClaim, Knows, Holds}
use Rattle.register_machine.proofs.Keeping.{claim_kept, claim_known, record_kept, record_known}
use Rattle.register_machine.proofs.Finding.{found_begun, found_from, found_current, found_claims, current_sees, completed_held, completed_found, begun_follow, last_greatest}
use Rattle.register_machine.proofs.Beginning.{next_kept, may_begin}
use Rattle.register_machine.proofs.Completing.{complete_kept, complete_known}

-- what the program knows, where it is at this
known : (s : State) (p : Program) → s.program ≡ p → Holds s → Knows s.disks s.history p
known s p at h = subst (λ (q : Program). Knows s.disks s.history q) at h.knows

-- a creation's claim
first_claims : (history : List Mark) (first : Status) → history ≡ [] → IsClaim history first first.epoch
first_claims history first nothing = record {
  above = λ g h. absurd (subst (λ (l : List Mark). IsAmong (begun l) g) nothing h);
  follows = λ v e. absurd (none-some v (ap (λ (l : List Mark). base l) (sym nothing) ∙ e));
}

step_holds : (s : State) (event : Event) → Allowed s event → Holds s → Holds (after s event)
step_holds s (Creates first) may h = record { kept = h.kept; knows = first_claims s.history first may.1 }
step_holds s (Surveys read found) may h = record { kept = h.kept; knows = found_claims s.disks s.history h.kept read found may.1 }
step_holds s (Claims disk found epoch) may h = record {
  kept = claim_kept s.disks s.history disk epoch h.kept;
  knows = claim_known s.disks s.history disk epoch s.program h.knows;
}
step_holds s (ClaimStands found epoch) may h = record { kept = h.kept; knows = (known s (Claiming found epoch) may.0 h, may.1) }
step_holds s (Begins next) may h = record {
  kept = next_kept s.disks s.history next h.kept (may_begin s.disks s.history s.program next h.kept h.knows may.0 may.1);
  knows = (s.history, refl);
}
step_holds s (Stores disk next) may h =
    let w = known s (Writing next) may h in
    record {
      kept = record_kept s.disks s.history w.0 next h.kept w.1 disk;
      knows = record_known s.disks s.history w.0 next h.kept w.1 disk s.program h.knows;
    }
step_holds s (Completes next) may h =
    let w = known s (Writing next) may.0 h in
    record {
      kept = complete_kept s.disks s.history w.0 next h.kept w.1 may.1;
      knows = complete_known s.disks s.history w.0 next h.kept w.1 may.1;
    }
step_holds s Stops may h = record { kept = h.kept; knows = tt }

all_hold : (s : State) (events : List Event) → AreAllowed s events → Holds s → Holds (after_all s events)
all_hold s [] may h = h
all_hold s (event ∷ events) may h = all_hold (after s event) events may.1 (step_holds s event may.0 h)

start_holds : Holds start
start_holds = record {
  kept = record {
    allowed = λ r h. absurd h;
    held = λ d r e. absurd (none-some r e);
    numbered = tt;
    at_base = λ v e. absurd (none-some v e);
  };
  knows = tt;
}

reached : (events : List Event) → AreAllowed start events → Holds (after_all start events)
reached events may = all_hold start events may start_holds

-- ---- the laws

pub survey_is_current : Always SurveyIsCurrent
survey_is_current events may read r e = let s = after_all start events in found_current s.disks s.history (reached events may).kept read r e

pub status_is_current : Always StatusIsCurrent
status_is_current events may read r e = survey_is_current events may read r (status_surveyed (after_all start events).disks read r e)

pub begun_follow_always : Always BegunFollow
begun_follow_always events may v r last since = let s = after_all start events in begun_follow s.disks s.history (reached events may).kept v r last since

pub completed_is_found : Always CompletedIsFound
completed_is_found events may v read last none enough = let s = after_all start events in completed_found s.disks s.history (reached events may).kept v read last none enough

pub last_is_greatest : Always LastIsGreatest
last_is_greatest events may v w last done = let s = after_all start events in last_greatest s.disks s.history (reached events may).kept v w last done

pub numbers_rise : Always NumbersRise
numbers_rise events may = (reached events may).kept.numbered

pub completed_is_held : Always CompletedIsHeld
completed_is_held events may v read last enough = let s = after_all start events in completed_held s.disks s.history (reached events may).kept v read last enough

pub epochs_are_seen : Always EpochsAreSeen
epochs_are_seen events may r g read current enough h = let s = after_all start events in current_sees s.disks s.history (reached events may).kept r g read current enough h

pub all_can_be_mounted : Always CanBeMounted
all_can_be_mounted events may read found e lt = let s = after_all start events in can_be_mounted s (reached events may).kept read found e lt

-- marks stay
mark_stays_once : (s : State) (event : Event) (m : Mark) → IsAmong s.history m → IsAmong (after s event).history m
mark_stays_once s (Creates first) m h = h
mark_stays_once s (Surveys read found) m h = h
mark_stays_once s (Claims disk found epoch) m h = h
mark_stays_once s (ClaimStands found epoch) m h = h
mark_stays_once s (Begins next) m h = inr h
mark_stays_once s (Stores disk next) m h = h
mark_stays_once s (Completes next) m h = inr h
mark_stays_once s Stops m h = h

mark_stays : (s : State) (events : List Event) (m : Mark) → IsAmong s.history m → IsAmong (after_all s events).history m
mark_stays s [] m h = h
mark_stays s (event ∷ events) m h = mark_stays (after s event) events m (mark_stays_once s event m h)

stays : (s : State) → Holds s → (v : Status) → IsAmong s.history (Completed v) → (read : List Holder) (r : Status) → surveyed_record s.disks read ≡ Some r → (r ≡ v) ⊎ (rank v < rank r)
stays s h v done read r e =
    let found = found_begun s.disks s.history h.kept read r e in
    let b = has_base s.history r found in
    let at = h.kept.at_base b.0 b.1 in
    let from = found_from s.disks s.history h.kept b.0 at read r e in
    ⊎_elim
    (λ (same : v ≡ b.0). ⊎_elim (λ (one : r ≡ b.0). inl (one ∙ sym same))
    (λ apart. ⊎_elim (λ (less : rank r < rank b.0). absurd (omega (arith, less, from))) (λ (more : rank b.0 < rank r). inr (omega (arith, more, ap rank same))) apart)
    (compared (begun s.history) h.kept.numbered r b.0 found at.is_begun))
    (λ (less : rank v < rank b.0). inr (omega (arith, less, from)))
    (at.completed v done)

pub never_undone : NeverUndone
never_undone events later may may_later v done read r e =
    let s = after_all start events in
    stays (after_all s later) (all_hold s later may_later (reached events may)) v (mark_stays s later (Completed v) done) read r e
