-- What is found lasts over the surveys.
use Rattle.std.proofs.Common.{◌≡◌, ◌⊎◌, inl, inr, ⊎_elim, ℕ, ◌<◌, Bool, true, not, List, [], ◌∷◌, filter, refl, sym, ap, subst, ◌∙◌, Option, Some, None, IsSome, unwrap_or, arith, ◌==◌, Ok}
use Rattle.std.specs.Prelude.{◌||◌, is_some}
use Rattle.std.proofs.lemmas.Bool.{and_parts, cases_Bool, cond_both, or_cases, eqb-true, false≢true}
use Rattle.std.proofs.lemmas.Option.{none-some}
use Rattle.bay.specs.Image.{Same}
use Rattle.bay.specs.State.{BayState, KeepsAttached}
use Rattle.bay.specs.Moments.{Runs}
use Rattle.bay.proofs.Calls.{goes_on, on_more, stops}
use Rattle.bay.proofs.Images.{same-trans}
use Rattle.asm_group.specs.Names.{Bytes}
use Rattle.asm_group.specs.Shape.{Shape, is_shape, is_unit_size, is_step, is_sector}
use Rattle.asm_formats.specs.Among.{IsAmong}
use Rattle.asm_images.proofs.Members.{member_shape}
use Rattle.disk_images.proofs.Settling.{still}
use Rattle.group_recovery.specs.Finding.{AreThere, AreAllHeaded}
use Rattle.group_recovery.specs.Founds.{FindCause, Finds, FindsNone, FoundDisks, IsFound, NoneAreTaken, TwoAreTaken, HasTwo, first_of_two, later, is_held, is_whole, not_held, id_of_choice}
use Rattle.group_recovery.specs.Verdicts.{AreAttached, Chooses, IsSlotIn, ids_named, with_verdict, choice_of}
use Rattle.group_recovery.specs.declared.choosing.Choice.{Choice}
use Rattle.group_recovery.specs.declared.choosing.Verdict.{Verdict}
use Rattle.group_recovery.specs.declared.choosing.Verdict.TheVariants.{Gone, Whole, Short}
use Rattle.group_recovery.specs.declared.error.MountError.{MountError}
use Rattle.group_recovery.specs.declared.error.MountError.TheVariants as error
use Rattle.group_recovery.specs.declared.finding.Headed.{Headed}
use Rattle.group_recovery.proofs.Choices.{all_before, unread_failed}
use Rattle.group_recovery.proofs.Looks.{left_there, now_found}
use Rattle.group_recovery.proofs.Told.{rose_later}

-- ---- slots of a headed image

pub sector_of : (s : Shape) → is_shape s ≡ true → (s.sector ≡ 512) ⊎ (s.sector ≡ 4096)
unfolding is_shape
sector_of s ok =
    let b = and_parts (is_step s.step) _ (and_parts (is_unit_size s.au) _ ok).1 in
    let c = and_parts (is_sector s.sector s.au) _ b.1 in
    ⊎_elim (λ one. inl (eqb-true s.sector 512 one)) (λ two. inr (eqb-true s.sector 4096 two))
    (or_cases (s.sector == 512) (s.sector == 4096) (and_parts (s.sector == 512 || s.sector == 4096) _ c.0).0)

pub there_attached : (n : ℕ) (named : List Headed) (state : BayState) → AreThere n named state → AreAttached named state
there_attached n named state there h among = record {
  attached = subst IsSome (sym (there.attached h among)) refl;
  sector_size = sector_of h.header.shape (member_shape h.header (there.allowed h among).header);
  long = omega (arith, (there.allowed h among).long, ap (λ (o : Option ℕ). unwrap_or o 0) (there.attached h among));
}

-- what was found is there over calls that leave the disks
pub there_still : (n : ℕ) (named : List Headed) (m t : BayState) {slots : ℕ → Type 0} → Runs slots Same m t → KeepsAttached m t → AreThere n named m → AreThere n named t
there_still n named m t run keeps are = record {
  inside = are.inside;
  attached = λ h among. keeps.same h.slot ∙ are.attached h among;
  allowed = are.allowed;
  now = λ h among. still h.slot (Some h.header) run (are.now h among);
  apart = are.apart;
}

-- ---- over the surveys

module _ (s m t : BayState) {early later : ℕ → Type 0} (first : Runs early Same s m) (next : Runs later Same m t) (keeps : KeepsAttached m t) (name : Bytes) (n : ℕ) (headed : List Headed) where
  all_still : AreAllHeaded n headed s m → AreAllHeaded n headed s t
  all_still all = record {
    each = λ slot below. ⊎_elim
        (λ rose. inl (rose_later (s.faults slot) (m.faults slot) (t.faults slot) (next.faults slot) rose))
        (λ told. inr (now_found headed headed slot next (λ h is. is) told))
        (all.each slot below);
  }

  pub finds : (l : List Headed) (ids : List ℕ) (choice : Choice) (unread : List ℕ) → l ≡ headed → ids ≡ ids_named name headed → AreThere n headed m → AreAllHeaded n headed s m
      → Chooses l ids choice unread m t → Finds name n headed choice unread s t
  finds l ids choice unread same are there all chooses =
      let judged : Chooses headed (ids_named name headed) choice unread m t =
      subst (λ (k : List Headed). Chooses k (ids_named name headed) choice unread m t) same (subst (λ (k : List ℕ). Chooses l k choice unread m t) are chooses) in
      record {
        there = there_still n headed m t next keeps there;
        all = all_still all;
        judged = (judged.0, all_before s m t first next headed (ids_named name headed) judged.0 unread judged.1, judged.2);
      }

-- the calls of a search are on the first slots
pub search_runs : (s m t : BayState) (n : ℕ) (headed l : List Headed) → l ≡ headed → AreThere n headed m → Runs (λ (slot : ℕ). slot < n) Same s m → Runs (IsSlotIn l) Same m t → Runs (λ (slot : ℕ). slot < n) Same s t
search_runs s m t n headed l same there first next = goes_on same-trans first (stops first) (on_more inside next)
  where
    inside : (slot : ℕ) → IsSlotIn l slot → slot < n
    inside slot of = subst (λ (k : ℕ). k < n) (sym of.2) (there.inside of.0 (subst (λ (k : List Headed). IsAmong k of.0) same of.1))

-- ---- without those that the surveys left unread

-- a slot that is held is that of one of the list
held_among : (held : List ℕ) (slot : ℕ) → is_held held slot ≡ true → IsAmong held slot
held_among [] slot is = absurd (false≢true is)
held_among (x ∷ xs) slot is = ⊎_elim (λ (same : (x == slot) ≡ true). inl (sym (eqb-true x slot same))) (λ later. inr (held_among xs slot later)) (or_cases (x == slot) (is_held xs slot) is)

-- what passes stays
filter_in : (test : Headed → Bool) (hs : List Headed) (h : Headed) → IsAmong hs h → test h ≡ true → IsAmong (filter test hs) h
filter_in test [] h among is = absurd among
filter_in test (k ∷ hs) h among is =
    let later : IsAmong hs h → IsAmong (filter test hs) h = λ old. filter_in test hs h old is in
    cond_both (test k) (k ∷ filter test hs) (filter test hs) (λ (l : List Headed). IsAmong l h)
    (λ passes. ⊎_elim (λ (same : h ≡ k). inl same) (λ old. inr (later old)) among)
    (λ fails. ⊎_elim (λ (same : h ≡ k). absurd (false≢true (sym fails ∙ (ap test (sym same) ∙ is)))) (λ old. later old) among)

-- an image is left, or its slot is held
left_or_held : (held : List ℕ) (hs : List Headed) (h : Headed) → IsAmong hs h → (is_held held h.slot ≡ true) ⊎ IsAmong (not_held held hs) h
left_or_held held hs h among = ⊎_elim (λ is. inl is) (λ no. inr (filter_in (λ (x : Headed). not (is_held held x.slot)) hs h among (ap not no))) (cases_Bool (is_held held h.slot))

pub all_left : (name : Bytes) (n : ℕ) (headed : List Headed) (choice : Choice) (unread : List ℕ) (s t : BayState) → Finds name n headed choice unread s t → AreAllHeaded n (not_held unread headed) s t
all_left name n headed choice unread s t found = record {
  each = λ slot below. ⊎_elim
      (λ rose. inl rose)
      (λ told. ⊎_elim
      (λ held. inl (unread_failed s t headed (ids_named name headed) found.judged.0 unread found.judged.1 slot (held_among unread slot held)))
      (λ free. inr (record {
        now = λ image left h shows.
            let is = told.now image left h shows in
            ⊎_elim (λ held. absurd (false≢true (sym (ap (is_held unread) is.slot_is ∙ free) ∙ held)))
            (λ stays. record { headed = is.headed; among = stays; slot_is = is.slot_is; header_is = is.header_is })
            (left_or_held unread headed is.headed is.among);
      }))
      (cases_Bool (is_held unread slot)))
      (found.all.each slot below);
}

-- what is found of an id that is taken, without the images in some slots, which are those that were left unread
pub is_found : (name : Bytes) (n : ℕ) (headed : List Headed) (choice : Choice) (unread : List ℕ) (s t : BayState) (id slots : ℕ) (held : List ℕ) (found : FoundDisks) → Finds name n headed choice unread s t
    → id_of_choice choice ≡ Ok id → found ≡ record { id = id; slots = slots; headed = not_held held headed } → held ≡ unread → IsFound name n found s t
is_found name n headed choice unread s t id slots held found finds is same are =
    let left : found.headed ≡ not_held unread headed = ap (λ (f : FoundDisks). f.headed) same ∙ ap (λ (k : List ℕ). not_held k headed) are in
    record {
      headed = headed;
      choice = choice;
      unread = unread;
      finds = finds;
      taken_is = subst (λ (k : ℕ). id_of_choice choice ≡ Ok k) (sym (ap (λ (f : FoundDisks). f.id) same)) is;
      left = left;
      all = subst (λ (l : List Headed). AreAllHeaded n l s t) (sym left) (all_left name n headed choice unread s t finds);
    }

pub there_found : (n : ℕ) (headed : List Headed) (t : BayState) (id slots : ℕ) (held : List ℕ) (found : FoundDisks) → AreThere n headed t
    → found ≡ record { id = id; slots = slots; headed = not_held held headed } → AreThere n found.headed t
there_found n headed t id slots held found there same =
    subst (λ (l : List Headed). AreThere n l t) (sym (ap (λ (f : FoundDisks). f.headed) same)) (left_there n held headed t there)

pub find_cause : (name : Bytes) (n : ℕ) (s t : BayState) (e : MountError) → FindsNone name n e s t → FindCause name n e s t
find_cause name n s t error.NoMemory none = tt
find_cause name n s t _ none = none

-- ---- which are taken

abbrev Verdicts : Type 0
Verdicts = List (ℕ × Verdict)

abbrev NoneOf : Choice → Type 0
NoneOf choice = (choice.whole ≡ None) × (choice.short ≡ None)

one_more_gone : (id : ℕ) (v : Verdict) (choice : Choice) → NoneOf (with_verdict id v choice) → (v ≡ Gone) × NoneOf choice
one_more_gone id Gone choice e = (refl, e)
one_more_gone id (Whole damage) choice e = absurd (none-some _ (sym e.0))
one_more_gone id (Short seen need) choice e = absurd (none-some _ (sym e.1))

all_gone : (vs : Verdicts) → NoneOf (choice_of vs) → (v : ℕ × Verdict) → IsAmong vs v → v.1 ≡ Gone
all_gone [] e v h = absurd h
all_gone (w ∷ vs) e v (inl same) = ap (λ (x : ℕ × Verdict). x.1) same ∙ (one_more_gone w.0 w.1 (choice_of vs) e).0
all_gone (w ∷ vs) e v (inr h) = all_gone vs (one_more_gone w.0 w.1 (choice_of vs) e).1 v h

none_if_gone : (vs : Verdicts) → ((v : ℕ × Verdict) → IsAmong vs v → v.1 ≡ Gone) → NoneOf (choice_of vs)
none_if_gone [] each = (refl, refl)
none_if_gone (w ∷ vs) each = subst (λ (x : Verdict). NoneOf (with_verdict w.0 x (choice_of vs))) (sym (each w (inl refl))) (none_if_gone vs (λ v h. each v (inr h)))

pub none_are_taken : NoneAreTaken
none_are_taken = λ vs. (all_gone vs, none_if_gone vs)

-- one is whole exactly where it is taken as such
has_whole : (vs : Verdicts) → is_some (choice_of vs).whole ≡ true → (w : ℕ × Verdict) × IsAmong vs w × (is_whole w.1 ≡ true)
has_whole [] e = absurd (false≢true e)
has_whole ((id, Gone) ∷ vs) e = let w = has_whole vs e in (w.0, inr w.1, w.2)
has_whole ((id, Short seen need) ∷ vs) e = let w = has_whole vs e in (w.0, inr w.1, w.2)
has_whole ((id, Whole damage) ∷ vs) e = ((id, Whole damage), inl refl, refl)

whole_here : (id : ℕ) (v : Verdict) (choice : Choice) → is_whole v ≡ true → is_some (with_verdict id v choice).whole ≡ true
whole_here id Gone choice is = absurd (false≢true is)
whole_here id (Whole damage) choice is = refl
whole_here id (Short seen need) choice is = absurd (false≢true is)

two_here : (id : ℕ) (v : Verdict) (choice : Choice) → is_whole v ≡ true → is_some choice.whole ≡ true → (with_verdict id v choice).are_two ≡ true
two_here id Gone choice is other = absurd (false≢true is)
two_here id (Whole damage) choice is other = other
two_here id (Short seen need) choice is other = absurd (false≢true is)

whole_is_taken : (vs : Verdicts) (w : ℕ × Verdict) → IsAmong vs w → is_whole w.1 ≡ true → is_some (choice_of vs).whole ≡ true
whole_is_taken [] w h is = absurd h
whole_is_taken (v ∷ vs) w (inl same) is = whole_here v.0 v.1 (choice_of vs) (sym (ap (λ (x : ℕ × Verdict). is_whole x.1) same) ∙ is)
whole_is_taken ((id, Gone) ∷ vs) w (inr h) is = whole_is_taken vs w h is
whole_is_taken ((id, Short seen need) ∷ vs) w (inr h) is = whole_is_taken vs w h is
whole_is_taken ((id, Whole damage) ∷ vs) w (inr h) is = refl

two_taken : (vs : Verdicts) → (choice_of vs).are_two ≡ true → HasTwo vs
two_taken [] e = absurd (false≢true e)
two_taken ((id, Gone) ∷ vs) e = later (id, Gone) vs (two_taken vs e)
two_taken ((id, Short seen need) ∷ vs) e = later (id, Short seen need) vs (two_taken vs e)
two_taken ((id, Whole damage) ∷ vs) e = let w = has_whole vs e in first_of_two (id, Whole damage) w.0 vs refl w.1 w.2

two_whole : (vs : Verdicts) → HasTwo vs → is_some (choice_of vs).whole ≡ true
two_whole vs (first_of_two v w us first h second) = whole_here v.0 v.1 (choice_of us) first
two_whole vs (later v us two) = whole_more v us (two_whole us two)
  where
    whole_more : (v : ℕ × Verdict) (us : Verdicts) → is_some (choice_of us).whole ≡ true → is_some (choice_of (v ∷ us)).whole ≡ true
    whole_more (id, Gone) us e = e
    whole_more (id, Short seen need) us e = e
    whole_more (id, Whole damage) us e = refl

two_if : (vs : Verdicts) → HasTwo vs → (choice_of vs).are_two ≡ true
two_if vs (first_of_two v w us first h second) = two_here v.0 v.1 (choice_of us) first (whole_is_taken us w h second)
two_if vs (later v us two) = two_more v us two (two_if us two)
  where
    two_more : (v : ℕ × Verdict) (us : Verdicts) → HasTwo us → (choice_of us).are_two ≡ true → (choice_of (v ∷ us)).are_two ≡ true
    two_more (id, Gone) us two e = e
    two_more (id, Short seen need) us two e = e
    two_more (id, Whole damage) us two e = two_whole us two

pub two_are_taken : TwoAreTaken
two_are_taken = λ vs. (two_taken vs, two_if vs)
