-- A call on one thing more.
use Rattle.std.proofs.Common.{◌≡◌, ◌≢◌, inl, inr, ⊎_elim, ℕ, ◌+◌, ◌≤◌, Bool, false, refl, sym, ap, subst, ◌∙◌, arith}
use Rattle.std.specs.Prelude.{if◌then◌else◌, ◌==◌}
use Rattle.std.proofs.lemmas.Bool.{cases_eq, eq-eqb}
use Rattle.bay.specs.Image.{Image, ChangesOnly, SameDisk}
use Rattle.bay.specs.State.{BayState, IsSlot}
use Rattle.bay.specs.Moments.{NowOnly, LeavesOnly}
use Rattle.bay.specs.Calls.{Cost, both_costs, Calls}
use Rattle.bay.specs.Lists.{OneMore, Tasks, Claims, IsLocal, HasOwnSlot, BytesOf, own_cost, Each, CallsOn, DoesOne, DoesEach}
use Rattle.bay.proofs.Images.{changes-within, changes-trans, changes-same, same-refl}
use Rattle.bay.proofs.Calls.{stops, leaves_only, leaves_on, leaves_begin, now_only, now_of}
use Rattle.bay.proofs.OneCall.{wider, joined, more_slots, no_call}

-- two claims over the same calls
pub leaves_both : {P Q R : Image → Type 0} {a b : BayState} → ((x : Image) → P x → Q x → R x) → LeavesOnly a b P → LeavesOnly a b Q → LeavesOnly a b R
leaves_both {P} {Q} {R} {a} {b} both p q = record {
  later = p.later;
  ended = p.ended;
  each = λ m image low high left. both image (p.each m image low high left) (q.each m image low high left);
}

module _ {A : Type 0} (tasks : Tasks A) where
  -- the bytes of a call on one slot are written there
  on_own : (x : A) {step : Image → Image → Type 0} {a b : BayState} → Calls (IsSlot (tasks.slot x)) step (tasks.most x) a b → Calls (IsSlot (tasks.slot x)) step (own_cost tasks x) a b
  on_own x {step} {a} {b} call = record { attached = call.attached; runs = call.runs; calls = call.calls; written = own }
    where
      own : (s : ℕ) → b.written s ≤ a.written s + (if s == tasks.slot x then (tasks.most x).bytes s else 0)
      own s = ⊎_elim
          (λ (here : s ≡ tasks.slot x). subst (λ (t : Bool). b.written s ≤ a.written s + (if t then (tasks.most x).bytes s else 0)) (sym (eq-eqb s (tasks.slot x) here)) (call.written s))
          (λ (apart : s ≢ tasks.slot x). omega (arith, call.runs.other_written s apart))
          (cases_eq s (tasks.slot x))

  module _ (x : A) (among : A → Type 0) where
    first_calls : {a b : BayState} → Calls (IsSlot (tasks.slot x)) (ChangesOnly (tasks.region x)) (tasks.most x) a b → CallsOn tasks (OneMore x among) (own_cost tasks x) a b
    first_calls one = more_slots (λ s is. (x, inl refl, is))
        (wider (λ old new step. changes-within (BytesOf tasks (OneMore x among)) (tasks.region x) old new (λ s k inside. (x, inl refl, inside)) step) (on_own x one))

    rest_calls : {most : Cost} {b c : BayState} → CallsOn tasks among most b c → CallsOn tasks (OneMore x among) most b c
    rest_calls rest = more_slots (λ s is. (is.0, inr is.1, is.2))
        (wider (λ old new step. changes-within (BytesOf tasks (OneMore x among)) (BytesOf tasks among) old new (λ s k inside. (inside.0, inr inside.1, inside.2)) step) rest)

    -- calls on several, and on one before them
    pub calls_more : {most : Cost} {a b c : BayState} → Calls (IsSlot (tasks.slot x)) (ChangesOnly (tasks.region x)) (tasks.most x) a b → CallsOn tasks among most b c
        → CallsOn tasks (OneMore x among) (both_costs (own_cost tasks x) most) a c
    calls_more one rest = joined (changes-trans (BytesOf tasks (OneMore x among))) (first_calls one) (stops (first_calls one).runs) (rest_calls rest)

  -- a call on none of them
  pub does_none : (claims : Claims A) {among : A → Type 0} (failed : A → Bool) {most : Cost} (s : BayState) → ((x : A) → among x → ⊥) → DoesEach tasks claims among most failed s s
  does_none claims {among} failed s none = record {
    calls = no_call (λ x. changes-same (BytesOf tasks among) x x (same-refl x));
    written = λ x here. absurd (none x here);
    moments = λ now. leaves_begin (record { now = λ image left x here. absurd (none x here) });
    done = λ now. record { now = λ image left x here. absurd (none x here) };
  }

  module _ (claims : Claims A) (x : A) (among : A → Type 0) (local : IsLocal tasks claims (OneMore x among)) (apart : HasOwnSlot tasks x among) where
    -- the others' disks stay in the call on the first
    others_stay : (y : A) → among y → (old new : Image) → ChangesOnly (tasks.region x) old new → SameDisk (tasks.slot y) old new
    others_stay y there old new step = record {
      size = step.size (tasks.slot y);
      byte = λ k. step.byte (tasks.slot y) k (λ inside. apart y there (sym (local.on_slot x (inl refl) (tasks.slot y) k inside)));
    }

    -- and the first's in the calls on the others
    first_stays : (old new : Image) → ChangesOnly (BytesOf tasks among) old new → SameDisk (tasks.slot x) old new
    first_stays old new step = record {
      size = step.size (tasks.slot x);
      byte = λ k. step.byte (tasks.slot x) k (λ inside. apart inside.0 inside.1 (local.on_slot inside.0 (inr inside.1) (tasks.slot x) k inside.2));
    }

    first_or_rest : (claim : A → Image → Type 0) (image : Image) → claim x image → Each claim among image → Each claim (OneMore x among) image
    first_or_rest claim image here there y (inl same) = subst (λ (z : A). claim z image) (sym same) here
    first_or_rest claim image here there y (inr other) = there y other

    module _ {a b : BayState} (failed : Bool) (one : DoesOne tasks claims x failed a b) where
      rest_before : NowOnly a (Each claims.before (OneMore x among)) → NowOnly b (Each claims.before among)
      rest_before now = now_only {P = Each claims.before (OneMore x among)} {Q = Each claims.before among}
          (λ old new before step y there. local.before_stays y (inr there) old new (others_stay y there old new step) (before y (inr there))) (stops one.calls.runs) now

      first_moments : NowOnly a (Each claims.before (OneMore x among)) → LeavesOnly a b (Each claims.during (OneMore x among))
      first_moments now = leaves_both {P = claims.during x} {Q = Each claims.during among} {R = Each claims.during (OneMore x among)} (λ image. first_or_rest claims.during image)
          (one.moments (record { now = λ image left. now.now image left x (inl refl) }))
          (leaves_only {P = Each claims.before (OneMore x among)} {Q = Each claims.during among}
          (λ old new before step y there. local.starts y (inr there) new (local.before_stays y (inr there) old new (others_stay y there old new step) (before y (inr there)))) one.calls.runs now)

      -- the calls on the rest come after it
      pub does_more : {most : Cost} {c : BayState} (rest_failed each : A → Bool) → (each x ≡ false → failed ≡ false) → ((y : A) → among y → each y ≡ false → rest_failed y ≡ false)
          → DoesEach tasks claims among most rest_failed b c → DoesEach tasks claims (OneMore x among) (both_costs (own_cost tasks x) most) each a c
      does_more {most} {c} rest_failed each here there rest = record {
        calls = calls_more x among one.calls rest.calls;
        written = written;
        moments = λ now.
            let first = first_moments now in
            leaves_on first
            (leaves_both {P = claims.during x} {Q = Each claims.during among} {R = Each claims.during (OneMore x among)} (λ image. first_or_rest claims.during image)
            (leaves_only {P = claims.during x} {Q = claims.during x} (λ old new had step. local.during_stays x (inl refl) old new (first_stays old new step) had) rest.calls.runs
            (record { now = λ image left. (now_of first).now image left x (inl refl) }))
            (rest.moments (rest_before now)));
        done = λ now. record {
          now = λ image left y inside fine. ⊎_elim
              (λ (same : y ≡ x). subst (λ (z : A). claims.after z image) (sym same)
              ((now_only {P = claims.after x} {Q = claims.after x} (λ old new had step. local.after_stays x (inl refl) old new (first_stays old new step) had) (stops rest.calls.runs)
              (one.done (here (ap each (sym same) ∙ fine)) (record { now = λ image left. now.now image left x (inl refl) }))).now image left))
              (λ (other : among y). (rest.done (rest_before now)).now image left y other (there y other fine)) inside;
        };
      }
        where
          written : (y : A) → OneMore x among y → c.written (tasks.slot y) ≤ a.written (tasks.slot y) + (tasks.most y).bytes (tasks.slot y)
          written y (inl same) = subst (λ (z : A). c.written (tasks.slot z) ≤ a.written (tasks.slot z) + (tasks.most z).bytes (tasks.slot z)) (sym same)
              (omega (arith, one.calls.written (tasks.slot x), rest.calls.runs.other_written (tasks.slot x) (λ inside. apart inside.0 inside.1 inside.2)))
          written y (inr other) = omega (arith, rest.written y other, one.calls.runs.other_written (tasks.slot y) (λ same. apart y other (sym same)))
