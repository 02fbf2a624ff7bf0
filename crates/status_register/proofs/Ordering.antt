-- Puts on members in their order.
use Rattle.std.proofs.Common.{◌≡◌, ◌≢◌, ◌⊎◌, inl, inr, ⊎_elim, ℕ, zero, suc, ◌<◌, ◌≤◌, List, [], ◌∷◌, ◌++◌, length, take, get_or, Option, Some, None, refl, sym, ap, subst, ◌∙◌, arith}
use Rattle.std.proofs.lemmas.Bool.{cond_both}
use Rattle.bay.specs.Image.{Image, Same}
use Rattle.bay.specs.Calls.{Calls}
use Rattle.bay.specs.Counts.{Rose}
use Rattle.bay.specs.Moments.{Runs, Ends}
use Rattle.bay.specs.State.{BayState}
use Rattle.bay.proofs.Calls.{both_done, done_less, goes_on, stops, widened}
use Rattle.bay.proofs.Images.{same-refl, same-trans}
use Rattle.bay.proofs.OneCall.{cheaper, wider}
use Rattle.asm_formats.specs.Among.{IsAmong}
use Rattle.asm_images.specs.Bridge.{shown_block}
use Rattle.asm_formats.specs.Status.{Status}
use Rattle.status_register.specs.Holders.{SlotsDiffer, holder_in, holders_below, attached_to}
use Rattle.status_register.specs.OrderLaws.{Descend}
use Rattle.status_register.specs.Rows.{CallsInOrder, HasStatus, IsTried, cost_of_puts, PutsInOrder, PutsRow, RunsInOrder, TakesMember, no_put, one_put}
use Rattle.status_register.specs.Slots.{FoundNextGate, MayFill, Fills, MayPutNext, PutsNext, status_gate}
use Rattle.status_register.specs.Tallies.{IsSlotOf}
use Rattle.status_register.specs.declared.member.Member.{Member}
use Rattle.status_register.proofs.Filling.{same_puts, may_put_next, puts_next}
use Rattle.status_register.proofs.Holding.{Apart, among_below, below_apart, held_in, held_test}
use Rattle.status_register.proofs.Shown.{same_shown}
use Rattle.status_register.proofs.Taking.{status_gate_either}
use Rattle.status_register.proofs.Tallying.{RoseAt}
use Rattle.status_register.proofs.Telling.{SameBytes}

-- the puts on all these disks were tried, one after another
abbrev pub AreTried : (ℕ → Image → ℕ) → List ℕ → (ℕ → Type 0) → List Member → Image → Image → Type 0
AreTried gate_of body failed [] old new = Same old new
AreTried gate_of body failed (m ∷ ms) old new = (between : Image) × IsTried gate_of body failed m old between × AreTried gate_of body failed ms between new

module _ (gate_of : ℕ → Image → ℕ) (body : List ℕ) where
  -- ---- more slots failed

  module _ (failed worse : ℕ → Type 0) (more : (slot : ℕ) → failed slot → worse slot) where
    tried_still : (m : Member) (x y : Image) → IsTried gate_of body failed m x y → IsTried gate_of body worse m x y
    tried_still m x y (inl puts) = inl puts
    tried_still m x y (inr part) = inr (more m.slot part.0, part.1)

    pub order_still : (ms : List Member) (x y : Image) → PutsInOrder gate_of body failed ms x y → PutsInOrder gate_of body worse ms x y
    order_still [] x y same = same
    order_still (m ∷ ms) x y (inl step) = inl step
    order_still (m ∷ ms) x y (inr past) = inr (past.0, tried_still m x past.0 past.1, order_still ms past.0 y past.2)

    pub all_still : (ms : List Member) (x y : Image) → AreTried gate_of body failed ms x y → AreTried gate_of body worse ms x y
    all_still [] x y same = same
    all_still (m ∷ ms) x y past = (past.0, tried_still m x past.0 past.1, all_still ms past.0 y past.2)

  -- ---- one member more

  module _ (failed : ℕ → Type 0) (m : Member) where
    pub order_longer : (ms : List Member) (x y : Image) → PutsInOrder gate_of body failed ms x y → PutsInOrder gate_of body failed (ms ++ m ∷ []) x y
    order_longer [] x y same = inl (same_puts gate_of m.slot body x y same)
    order_longer (n ∷ ms) x y (inl step) = inl step
    order_longer (n ∷ ms) x y (inr past) = inr (past.0, past.1, order_longer ms past.0 y past.2)

    module _ (depends : (x y : Image) → SameBytes m.slot x y → gate_of m.slot y ≡ gate_of m.slot x) where
      found_same : (x y : Image) → Same x y → FoundNextGate (gate_of m.slot) (gate_of m.slot y) x y
      found_same x y same = record { gate_is = refl; same = same }

      may_then : (x y z : Image) → Same x y → MayPutNext gate_of m.slot body y z → MayPutNext gate_of m.slot body x z
      may_then x y z same step = may_put_next gate_of m.slot body (gate_of m.slot y) depends x y z (found_same x y same) step

      tried_then : (x y z : Image) → Same x y → IsTried gate_of body failed m y z → IsTried gate_of body failed m x z
      tried_then x y z same (inl puts) = inl (puts_next gate_of m.slot body (gate_of m.slot y) depends x y z (found_same x y same) puts)
      tried_then x y z same (inr part) = inr (part.0, may_then x y z same part.1)

      pub order_next : (ms : List Member) (x y z : Image) → AreTried gate_of body failed ms x y → MayPutNext gate_of m.slot body y z → PutsInOrder gate_of body failed (ms ++ m ∷ []) x z
      order_next [] x y z same step = inl (may_then x y z same step)
      order_next (n ∷ ms) x y z past step = inr (past.0, past.1, order_next ms past.0 y z past.2 step)

      pub all_next : (ms : List Member) (x y z : Image) → AreTried gate_of body failed ms x y → IsTried gate_of body failed m y z → AreTried gate_of body failed (ms ++ m ∷ []) x z
      all_next [] x y z same tried = (z, tried_then x y z same tried, same-refl z)
      all_next (n ∷ ms) x y z past tried = (past.0, past.1, all_next ms past.0 y z past.2 tried)

  -- ---- puts in order are a row

  fill_then : (g slot : ℕ) (x y z : Image) → MayFill g slot body x y → Same y z → MayFill g slot body x z
  fill_then g slot x y z step same =
      let shows : shown_block z slot g ≡ shown_block y slot g = same_shown slot g y z (λ k. same.byte slot k) in
      record {
        shows = ⊎_elim (λ kept. inl (shows ∙ kept)) (λ other. inr (⊎_elim (λ none. inl (shows ∙ none)) (λ new. inr (shows ∙ new)) other)) step.shows;
        elsewhere = record { size = λ s. same.size s ∙ step.elsewhere.size s; byte = λ s k outside. same.byte s k ∙ step.elsewhere.byte s k outside };
      }

  fill_part : (g slot : ℕ) (x y : Image) → Fills g slot body x y → MayFill g slot body x y
  fill_part g slot x y fills = record { shows = inr (inr fills.shows); elsewhere = fills.elsewhere }

  tried_part : (failed : ℕ → Type 0) (m : Member) (x y : Image) → IsTried gate_of body failed m x y → MayPutNext gate_of m.slot body x y
  tried_part failed m x y (inl puts) = fill_part (gate_of m.slot x) m.slot x y puts
  tried_part failed m x y (inr part) = part.1

  row_then : (all : List Member) (x y z : Image) → PutsRow gate_of all body x y → Same y z → PutsRow gate_of all body x z
  row_then all x y z (no_put a b before) same = no_put a z (same-trans a b z before same)
  row_then all x y z (one_put a b c m among row step) same = one_put a b z m among row (fill_then (gate_of m.slot b) m.slot b c z step same)

  row_on : (failed : ℕ → Type 0) (all ms : List Member) → ((m : Member) → IsAmong ms m → IsAmong all m) → (x y z : Image) → PutsRow gate_of all body x y → PutsInOrder gate_of body failed ms y z → PutsRow gate_of all body x z
  row_on failed all [] within x y z row same = row_then all x y z row same
  row_on failed all (m ∷ ms) within x y z row (inl step) = one_put x y z m (within m (inl refl)) row step
  row_on failed all (m ∷ ms) within x y z row (inr past) =
      row_on failed all ms (λ n h. within n (inr h)) x past.0 z (one_put x y past.0 m (within m (inl refl)) row (tried_part failed m y past.0 past.1)) past.2

  pub order_row : (failed : ℕ → Type 0) (ms : List Member) (x y : Image) → PutsInOrder gate_of body failed ms x y → PutsRow gate_of ms body x y
  order_row failed ms x y puts = row_on failed ms ms (λ m h. h) x x y (no_put x x (same-refl x)) puts

-- a run in order is one of a row
pub row_runs : (gate_of : ℕ → Image → ℕ) (ms : List Member) (body : List ℕ) (s t : BayState) → RunsInOrder gate_of ms body s t → Runs (IsSlotOf ms) (PutsRow gate_of ms body) s t
row_runs gate_of ms body s t run = widened (order_row gate_of body (λ slot. Rose (s.faults slot) (t.faults slot)) ms) run

-- so are the calls
pub row_calls : (gate_of : ℕ → Image → ℕ) (ms : List Member) (body : List ℕ) (s t : BayState) → CallsInOrder gate_of ms body s t
    → Calls (IsSlotOf ms) (PutsRow gate_of ms body) (cost_of_puts (length ms)) s t
row_calls gate_of ms body s t calls = wider (order_row gate_of body (λ slot. Rose (s.faults slot) (t.faults slot)) ms) calls

-- the puts on all of them
pub all_in_order : (gate_of : ℕ → Image → ℕ) (body : List ℕ) {ms : List Member} {s t : BayState} {i : ℕ} → take i ms ≡ ms → i ≤ length ms
    → Calls (IsSlotOf ms) (PutsInOrder gate_of body (RoseAt s t) (take i ms)) (cost_of_puts i) s t → CallsInOrder gate_of ms body s t
all_in_order gate_of body {ms} {s} {t} {i} whole few calls = cheaper (record { calls = omega (arith, few); bytes = λ slot. omega (arith, few) })
    (subst (λ (l : List Member). Calls (IsSlotOf ms) (PutsInOrder gate_of body (RoseAt s t) l) (cost_of_puts i) s t) whole calls)

-- ---- calls on one member more

pub none_tried : (s : BayState) → Ends Same s s
none_tried s = record { held = λ image holds. (image, holds, same-refl image); now = λ image left. (image, left, same-refl image) }

rose_still : {slots : ℕ → Type 0} {step : Image → Image → Type 0} (s t u : BayState) → Runs slots step t u → (slot : ℕ) → RoseAt s t slot → RoseAt s u slot
rose_still s t u next slot rose = omega (arith, rose, next.faults slot)

module _ (gate_of : ℕ → Image → ℕ) (depends : (slot : ℕ) (x y : Image) → SameBytes slot x y → gate_of slot y ≡ gate_of slot x) (body : List ℕ) (s t u : BayState) {on late : ℕ → Type 0} where
  tried_now : {step : Image → Image → Type 0} → Runs on step s t → (m : Member) (old new : List Member) → TakesMember gate_of m body old new t u → Runs late (MayPutNext gate_of m.slot body) t u
      → Ends (IsTried gate_of body (RoseAt s u) m) t u
  tried_now first m old new takes next = ⊎_elim
      (λ failed. done_less (λ x y part. inr (omega (arith, failed.0, first.faults m.slot), part)) (stops next))
      (λ took. done_less (λ x y puts. inl puts) took.0)
      takes

  pub tried_on : {step : Image → Image → Type 0} → Runs on step s t → (m : Member) → Runs late (MayPutNext gate_of m.slot body) t u → (old new : List Member) → TakesMember gate_of m body old new t u
      → (ms : List Member) → Ends (AreTried gate_of body (RoseAt s t) ms) s t → Ends (AreTried gate_of body (RoseAt s u) (ms ++ m ∷ [])) s u
  tried_on first m next old new takes ms before = both_done (all_next gate_of body (RoseAt s u) m (depends m.slot) ms)
      (done_less (all_still gate_of body (RoseAt s t) (RoseAt s u) (rose_still s t u next) ms) before) (tried_now first m old new takes next)

  pub run_on : (m : Member) (ms : List Member) → Runs on (PutsInOrder gate_of body (RoseAt s t) ms) s t → Runs on (MayPutNext gate_of m.slot body) t u → Runs late (MayPutNext gate_of m.slot body) t u
      → Ends (AreTried gate_of body (RoseAt s t) ms) s t → Runs on (PutsInOrder gate_of body (RoseAt s u) (ms ++ m ∷ [])) s u
  run_on m ms first next own before = goes_on (order_next gate_of body (RoseAt s u) m (depends m.slot) ms)
      (widened (λ x y puts. order_longer gate_of body (RoseAt s u) m ms x y (order_still gate_of body (RoseAt s t) (RoseAt s u) (rose_still s t u own) ms x y puts)) first)
      (done_less (all_still gate_of body (RoseAt s t) (RoseAt s u) (rose_still s t u own) ms) before) next

-- ---- the greater numbers first

descend_front : (r : Status) (d : ℕ) (o : Option Member) (rest : List Member) → ((m n : Member) → IsAmong (holder_in r d o) m → IsAmong rest n → n.number < m.number) → Descend rest → Descend (holder_in r d o ++ rest)
descend_front r d None rest less descend = descend
descend_front r d (Some m) rest less descend = cond_both (held_test r d m) (m ∷ []) [] (λ (l : List Member). ((k n : Member) → IsAmong l k → IsAmong rest n → n.number < k.number) → Descend (l ++ rest))
    (λ yes far. ((λ n h. far m n (inl refl) h), descend)) (λ no far. descend) less

below_descend : (places : List (Option Member)) (r : Status) (n : ℕ) → Descend (holders_below places r n)
unfolding holders_below
below_descend places r zero = tt
below_descend places r (suc d) = descend_front r d (get_or places d None) (holders_below places r d)
    (λ m n here later. let f = among_below places r d n later in
    let held = held_in places r d (get_or places d None) m refl here in
    omega (arith, f.1, f.2.number, held.number))
    (below_descend places r d)

pub attached_descend : (places : List (Option Member)) (r : Status) → Descend (attached_to places r)
attached_descend places r = below_descend places r 64

module _ (id : ℕ) (body : List ℕ) (failed : ℕ → Type 0) where
  -- another disk stays as it was
  step_other : (m : Member) (slot : ℕ) (x y : Image) → slot ≢ m.slot → MayPutNext (status_gate id) m.slot body x y → SameBytes slot x y
  step_other m slot x y differ step k = step.elsewhere.byte slot k (λ inside. differ inside.0)

  tried_other : (m : Member) (slot : ℕ) (x y : Image) → slot ≢ m.slot → IsTried (status_gate id) body failed m x y → SameBytes slot x y
  tried_other m slot x y differ tried = step_other m slot x y differ (tried_part (status_gate id) body failed m x y tried)

  order_other : (ms : List Member) (slot : ℕ) → ((m : Member) → IsAmong ms m → slot ≢ m.slot) → (x y : Image) → PutsInOrder (status_gate id) body failed ms x y → SameBytes slot x y
  order_other [] slot differ x y same = λ k. same.byte slot k
  order_other (m ∷ ms) slot differ x y (inl step) = step_other m slot x y (differ m (inl refl)) step
  order_other (m ∷ ms) slot differ x y (inr past) = λ k.
      order_other ms slot (λ n h. differ n (inr h)) past.0 y past.2 k ∙ tried_other m slot x past.0 (differ m (inl refl)) past.1 k

  -- what was put stays
  still_shows : (slot : ℕ) (x y : Image) → SameBytes slot x y → HasStatus body slot x → HasStatus body slot y
  still_shows slot x y same (inl one) = inl (same_shown slot 6 x y same ∙ one)
  still_shows slot x y same (inr two) = inr (same_shown slot 8 x y same ∙ two)

  put_shows : (m : Member) (x y : Image) → PutsNext (status_gate id) m.slot body x y → HasStatus body m.slot y
  put_shows m x y puts = ⊎_elim
      (λ is. inl (subst (λ (g : ℕ). shown_block y m.slot g ≡ Some body) is puts.shows))
      (λ is. inr (subst (λ (g : ℕ). shown_block y m.slot g ≡ Some body) is puts.shows))
      (status_gate_either id m.slot x)

  abbrev HasIt : Member → Image → Type 0
  HasIt m y = HasStatus body m.slot y ⊎ failed m.slot

  tried_has : (m : Member) (x y z : Image) → IsTried (status_gate id) body failed m x y → SameBytes m.slot y z → HasIt m z
  tried_has m x y z (inl puts) same = inl (still_shows m.slot y z same (put_shows m x y puts))
  tried_has m x y z (inr part) same = inr part.0

  pub greater_first : (ms : List Member) → Apart ms → Descend ms → (x y : Image) → PutsInOrder (status_gate id) body failed ms x y
      → (greater m : Member) → IsAmong ms greater → IsAmong ms m → m.number < greater.number → SameBytes m.slot x y ⊎ HasIt greater y
  greater_first [] apart descend x y puts greater m there here lt = absurd here
  greater_first (n ∷ ms) apart descend x y puts greater m (inl first) (inl same) lt = absurd (omega (arith, lt, ap (λ (k : Member). k.number) (first ∙ sym same)))
  greater_first (n ∷ ms) apart descend x y puts greater m (inr there) (inl same) lt = absurd (omega (arith, lt, descend.0 greater there, ap (λ (k : Member). k.number) same))
  greater_first (n ∷ ms) apart descend x y (inl step) greater m there (inr here) lt = inl (step_other n m.slot x y (apart.0 m here) step)
  greater_first (n ∷ ms) apart descend x y (inr past) greater m (inl first) (inr here) lt =
      inr (subst (λ (k : Member). HasIt k y) (sym first) (tried_has n x past.0 y past.1 (order_other ms n.slot (λ k h same. apart.0 k h (sym same)) past.0 y past.2)))
  greater_first (n ∷ ms) apart descend x y (inr past) greater m (inr there) (inr here) lt = ⊎_elim
      (λ kept. inl (λ k. kept k ∙ tried_other n m.slot x past.0 (apart.0 m here) past.1 k))
      (λ has. inr has)
      (greater_first ms apart.1 descend.1 past.0 y past.2 greater m there here lt)

pub greater_numbers_first : (id : ℕ) (body : List ℕ) (places : List (Option Member)) (r : Status) (before now : ℕ → ℕ) (x y : Image) → SlotsDiffer places
    → PutsInOrder (status_gate id) body (λ slot. Rose (before slot) (now slot)) (attached_to places r) x y
    → (greater m : Member) → IsAmong (attached_to places r) greater → IsAmong (attached_to places r) m → m.number < greater.number
    → SameBytes m.slot x y ⊎ (HasStatus body greater.slot y ⊎ Rose (before greater.slot) (now greater.slot))
greater_numbers_first id body places r before now x y differ puts greater m there here lt =
    greater_first id body (λ slot. Rose (before slot) (now slot)) (attached_to places r) (below_apart places r 64 differ) (attached_descend places r) x y puts greater m there here lt
