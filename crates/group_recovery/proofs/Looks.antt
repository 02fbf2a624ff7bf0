-- One look after another.
use Rattle.std.proofs.Common.{◌≡◌, ◌≢◌, ◌⊎◌, inl, inr, ⊎_elim, ℕ, ◌+◌, ◌*◌, ◌<◌, ◌≤◌, false, not, List, [], ◌∷◌, ◌++◌, length, Some, None, refl, sym, subst, ◌∙◌, arith}
use Rattle.std.proofs.lemmas.Bool.{cases_lt, cond_both, not-true}
use Rattle.std.proofs.lemmas.Option.{same_Some, none-some}
use Rattle.std.specs.Option.{ForSome}
use Rattle.bay.specs.Image.{Same}
use Rattle.bay.specs.State.{BayState, IsSlot, KeepsAttached}
use Rattle.bay.specs.Counts.{Rose}
use Rattle.bay.specs.Moments.{NowOnly, Runs}
use Rattle.bay.proofs.Calls.{started}
use Rattle.bay.proofs.Images.{same-refl}
use Rattle.asm_formats.specs.Header.{Header}
use Rattle.asm_formats.specs.Among.{IsAmong}
use Rattle.asm_placement.proofs.Membership.{among_filter, among_left, among_right, among_split, filter_out}
use Rattle.asm_images.specs.Kept.{header_in}
use Rattle.disk_images.specs.Looks.{IsAllowed, IsLooked, Looks}
use Rattle.disk_images.specs.declared.looking.Looked.{Looked}
use Rattle.disk_images.specs.declared.looking.Looked.TheVariants as looked
use Rattle.disk_images.proofs.Settling.{still}
use Rattle.group_recovery.specs.Finding.{AttachedStays, headed_in, AreInOwnSlots, AreThere, IsFoundIn, AreAllHeaded}
use Rattle.group_recovery.specs.Founds.{is_held, not_held}
use Rattle.group_recovery.specs.declared.finding.Headed.{Headed}
use Rattle.group_recovery.proofs.Told.{same_header, rose_before, rose_later}

-- at most one disk more
at_most_one : (slot : ℕ) (l : Looked) → length (headed_in slot l) ≤ 1
at_most_one slot looked.Absent = omega arith
at_most_one slot (looked.Unread size) = omega arith
at_most_one slot (looked.Read size None) = omega arith
at_most_one slot (looked.Read size (Some header)) = omega arith

pub one_more : (found : List Headed) (slot : ℕ) (l : Looked) → length (found ++ headed_in slot l) ≤ length found + 1
one_more [] slot l = omega (arith, at_most_one slot l)
one_more (x ∷ xs) slot l = omega (arith, one_more xs slot l)

-- those behind others are in other slots
apart_more : (found more : List Headed) → AreInOwnSlots found → AreInOwnSlots more → ((k h : Headed) → IsAmong found k → IsAmong more h → h.slot ≢ k.slot) → AreInOwnSlots (found ++ more)
apart_more [] more one two differ = two
apart_more (k ∷ found) more (here, rest) two differ =
    (λ h among. ⊎_elim (λ old. here h old) (λ new. differ k h (inl refl) new) (among_split found more h among), apart_more found more rest two (λ x h old new. differ x h (inr old) new))

apart_seen : (slot : ℕ) (l : Looked) → AreInOwnSlots (headed_in slot l)
apart_seen slot looked.Absent = tt
apart_seen slot (looked.Unread size) = tt
apart_seen slot (looked.Read size None) = tt
apart_seen slot (looked.Read size (Some header)) = ((λ h none. absurd none), tt)

-- what each header is found in stays so over calls that leave the disks, also in another list
pub now_found : (found more : List Headed) (slot : ℕ) {m t : BayState} {slots : ℕ → Type 0} → Runs slots Same m t → ((h : Header) → IsFoundIn found slot h → IsFoundIn more slot h)
    → NowOnly m (λ image. ForSome (header_in image slot) (IsFoundIn found slot)) → NowOnly t (λ image. ForSome (header_in image slot) (IsFoundIn more slot))
now_found found more slot {m} {t} run wider told = record {
  now = λ image left h is.
      let from = run.moments t.calls image run.later (omega arith) left in
      wider h (told.now from.0 from.1 h (sym (same_header slot from.0 image from.2) ∙ is));
}

-- nothing was looked at
pub no_look : (s : BayState) → Looks (λ (slot : ℕ). slot < 0) (4 * 0) s s
no_look s = record { calls = omega arith; runs = started same-refl; written = λ slot. refl; others = λ slot out. refl; stays = λ slot size is. is }

pub none_there : (s : BayState) → AreThere 0 [] s
none_there s = record { inside = λ h among. absurd among; attached = λ h among. absurd among; allowed = λ h among. absurd among; now = λ h among. absurd among; apart = tt }

pub none_left : (s : BayState) → AreAllHeaded 0 [] s s
none_left s = record { each = λ slot below. absurd (omega (arith, below)) }

-- an image that a look has shown
record IsShown (slot : ℕ) (h : Headed) (t : BayState) : Type 0 where
  slot_is : h.slot ≡ slot
  attached : t.attached h.slot ≡ Some h.size
  allowed : IsAllowed h.size h.header
  now : NowOnly t (λ image. header_in image h.slot ≡ Some h.header)

shown : (s t : BayState) (slot : ℕ) (l : Looked) → IsLooked slot l s t → (h : Headed) → IsAmong (headed_in slot l) h → IsShown slot h t
shown s t slot looked.Absent is h among = absurd among
shown s t slot (looked.Unread size) is h among = absurd among
shown s t slot (looked.Read size None) is h among = absurd among
shown s t slot (looked.Read size (Some header)) is h among = ⊎_elim
    (λ (e : h ≡ record { slot = slot; size = size; header = header }). subst (λ (k : Headed). IsShown slot k t) (sym e)
    (record { slot_is = refl; attached = is.attached; allowed = is.allowed header refl; now = is.now }))
    (λ none. absurd none) among

module _ (s m t : BayState) (n : ℕ) (first : Looks (λ (slot : ℕ). slot < n) (4 * n) s m) (next : Looks (IsSlot n) 4 m t) where
  -- the list after one look more
  pub more_there : (found : List Headed) (l : Looked) → AreThere n found m → IsLooked n l m t → AreThere (n + 1) (found ++ headed_in n l) t
  more_there found l are is = record {
    inside = λ h among. ⊎_elim (λ old. omega (arith, are.inside h old)) (λ new. omega (arith, (shown m t n l is h new).slot_is)) (split h among);
    attached = λ h among. ⊎_elim (λ old. next.stays h.slot h.size (are.attached h old)) (λ new. (shown m t n l is h new).attached) (split h among);
    allowed = λ h among. ⊎_elim (λ old. are.allowed h old) (λ new. (shown m t n l is h new).allowed) (split h among);
    now = λ h among. ⊎_elim (λ old. still h.slot (Some h.header) next.runs (are.now h old)) (λ new. (shown m t n l is h new).now) (split h among);
    apart = apart_more found (headed_in n l) are.apart (apart_seen n l) (λ k h old new same. omega (arith, same, are.inside k old, (shown m t n l is h new).slot_is));
  }
    where
      split : (h : Headed) → IsAmong (found ++ headed_in n l) h → IsAmong found h ⊎ IsAmong (headed_in n l) h
      split h among = among_split found (headed_in n l) h among

  abbrev Tells : List Headed → ℕ → Type 0
  Tells found slot = Rose (s.faults slot) (t.faults slot) ⊎ NowOnly t (λ image. ForSome (header_in image slot) (IsFoundIn found slot))

  old_tells : (found more : List Headed) (slot : ℕ)
      → Rose (s.faults slot) (m.faults slot) ⊎ NowOnly m (λ image. ForSome (header_in image slot) (IsFoundIn found slot)) → Tells (found ++ more) slot
  old_tells found more slot (inl rose) = inl (rose_later (s.faults slot) (m.faults slot) (t.faults slot) (next.runs.faults slot) rose)
  old_tells found more slot (inr told) = inr (now_found found (found ++ more) slot next.runs (λ h is. record { headed = is.headed; among = among_left found more is.headed is.among; slot_is = is.slot_is; header_is = is.header_is }) told)

  new_tells : (found : List Headed) (l : Looked) → IsLooked n l m t → Tells (found ++ headed_in n l) n
  new_tells found looked.Absent is = inl (rose_before (s.faults n) (m.faults n) (t.faults n) (first.runs.faults n) is.1)
  new_tells found (looked.Unread size) is = inl (rose_before (s.faults n) (m.faults n) (t.faults n) (first.runs.faults n) is.1)
  new_tells found (looked.Read size None) is = inr (record { now = λ image left h shows. absurd (none-some h (sym (is.now.now image left) ∙ shows)) })
  new_tells found (looked.Read size (Some header)) is = inr (record {
    now = λ image left h shows.
        let k : Headed = record { slot = n; size = size; header = header } in
        record { headed = k; among = among_right found (k ∷ []) k (inl refl); slot_is = refl; header_is = same_Some header h (sym (is.now.now image left) ∙ shows) };
  })

  pub more_all : (found : List Headed) (l : Looked) → AreAllHeaded n found s m → IsLooked n l m t → AreAllHeaded (n + 1) (found ++ headed_in n l) s t
  more_all found l all is = record {
    each = λ slot below. ⊎_elim
        (λ (lt : slot < n). old_tells found (headed_in n l) slot (all.each slot lt))
        (λ (le : n ≤ slot). subst (Tells (found ++ headed_in n l)) (omega (arith, below, le)) (new_tells found l is))
        (cases_lt slot n);
  }

-- ---- what is attached

-- what was attached stays so over calls that attach nothing
pub stays_keeps : (s m t : BayState) → AttachedStays s m → KeepsAttached m t → AttachedStays s t
stays_keeps s m t stays keeps k size is = keeps.same k ∙ stays k size is

-- ---- without some of the images

left_apart : (held : List ℕ) (hs : List Headed) → AreInOwnSlots hs → AreInOwnSlots (not_held held hs)
left_apart held [] apart = tt
left_apart held (h ∷ hs) (here, rest) =
    let later : AreInOwnSlots (not_held held hs) = left_apart held hs rest in
    cond_both (not (is_held held h.slot)) (h ∷ not_held held hs) (not_held held hs) AreInOwnSlots
    (λ is. ((λ k among. here k (among_filter (λ (x : Headed). not (is_held held x.slot)) hs k among)), later)) (λ no. later)

pub left_there : (n : ℕ) (held : List ℕ) (hs : List Headed) (state : BayState) → AreThere n hs state → AreThere n (not_held held hs) state
left_there n held hs state there = record {
  inside = λ h among. there.inside h (was h among);
  attached = λ h among. there.attached h (was h among);
  allowed = λ h among. there.allowed h (was h among);
  now = λ h among. there.now h (was h among);
  apart = left_apart held hs there.apart;
}
  where
    was : (h : Headed) → IsAmong (not_held held hs) h → IsAmong hs h
    was h among = among_filter (λ (x : Headed). not (is_held held x.slot)) hs h among

-- none of those that are left is in one of the slots
pub left_not_held : (held : List ℕ) (hs : List Headed) (h : Headed) → IsAmong (not_held held hs) h → is_held held h.slot ≡ false
left_not_held held hs h among = not-true (is_held held h.slot) (filter_out (λ (x : Headed). not (is_held held x.slot)) hs h among)

-- they are no more
pub left_few : (held : List ℕ) (hs : List Headed) → length (not_held held hs) ≤ length hs
left_few held [] = omega arith
left_few held (h ∷ hs) =
    let rest = left_few held hs in
    cond_both (not (is_held held h.slot)) (h ∷ not_held held hs) (not_held held hs) (λ (l : List Headed). length l ≤ length (h ∷ hs))
    (λ is. omega (arith, rest)) (λ no. omega (arith, rest))
