-- New disks get their headers, and keep them over calls on other disks.
use Rattle.std.proofs.Common.{◌≡◌, ⊎_elim, inl, inr, ℕ, zero, suc, ◌+◌, ◌<◌, ◌≤◌, List, [], ◌∷◌, length, get_or, sym, ap, subst, ◌∙◌, arith}
use Rattle.std.proofs.lemmas.Bool.{cases_lt}
use Rattle.bay.specs.Image.{Image, SameDisk, window}
use Rattle.bay.specs.Moments.{Runs}
use Rattle.bay.specs.State.{BayState}
use Rattle.bay.proofs.Calls.{leaves_only, now_of, on_more, widened}
use Rattle.bay.proofs.Images.{changes-within, window-same}
use Rattle.asm_formats.specs.Metadata.{header_of}
use Rattle.asm_images.specs.Kept.{header_in}
use Rattle.asm_formats.specs.Among.{IsAmong}
use Rattle.file_extents.specs.group_engine.Mounts.{MountedGroup}
use Rattle.file_extents.specs.group_engine.Own.{KeepsGroup}
use Rattle.new_groups.specs.group_recovery.Verdicts.{IsSlotIn}
use Rattle.new_groups.specs.group_recovery.declared.finding.Headed.{Headed}
use Rattle.new_groups.specs.Drafts.{AreDisksApart}
use Rattle.new_groups.specs.Forming.{Works}
use Rattle.new_groups.proofs.DiskLists.{among_at}
use Rattle.disk_joining.specs.Joiners.{AreJoiners, ShowHeaders, ShowsHeader}

-- ---- places in a list of disks

-- the disk at a place, whatever is said of places past the end
same_at : (hs : List Headed) (i : ℕ) (h x : Headed) → i < length hs → h ≡ get_or hs i h → x ≡ get_or hs i x → h ≡ x
same_at [] i h x lt is also = absurd (omega arith)
same_at (k ∷ ks) zero h x lt is also = is ∙ sym also
same_at (k ∷ ks) (suc i) h x lt is also = same_at ks i h x (omega arith) is also

place_of : (hs : List Headed) (h : Headed) → IsAmong hs h → (i : ℕ) × (i < length hs) × (h ≡ get_or hs i h)
place_of [] h among = absurd among
place_of (k ∷ ks) h (inl e) = (0, omega arith, e)
place_of (k ∷ ks) h (inr later) = let p = place_of ks h later in (suc p.0, omega (arith, p.1), p.2)

-- no two places have one slot
slots_differ : (hs : List Headed) → AreDisksApart hs → (i j : ℕ) (h x : Headed) → i < j → j < length hs → h ≡ get_or hs i h → x ≡ get_or hs j x → h.slot ≡ x.slot → ⊥
slots_differ [] apart i j h x lt inside is also same = absurd (omega arith)
slots_differ (k ∷ ks) apart zero zero h x lt inside is also same = absurd (omega arith)
slots_differ (k ∷ ks) apart zero (suc j) h x lt inside is also same =
    let among : IsAmong ks x = subst (λ (y : Headed). IsAmong ks y) (sym also) (among_at ks j x (omega arith)) in
    (apart.0 x among).0 (sym same ∙ ap (λ (y : Headed). y.slot) is)
slots_differ (k ∷ ks) apart (suc i) zero h x lt inside is also same = absurd (omega arith)
slots_differ (k ∷ ks) apart (suc i) (suc j) h x lt inside is also same = slots_differ ks apart.1 i j h x (omega arith) (omega arith) is also same

-- ---- a header stays

header_stays : (slot : ℕ) (x y : Image) → SameDisk slot x y → header_in y slot ≡ header_in x slot
header_stays slot x y same =
    ap header_of (ap (λ (n : ℕ). window (y.byte slot) 0 n) same.size ∙ window-same (x.byte slot) (y.byte slot) 0 (x.size slot) (λ k low high. same.byte k))

shows_after : (h : Headed) {s t : BayState} {slots : ℕ → Type 0} {step : Image → Image → Type 0} → Runs slots step s t → ((x y : Image) → step x y → SameDisk h.slot x y) → ShowsHeader h s → ShowsHeader h t
shows_after h {s} {t} {slots} {step} run same shows = now_of (leaves_only (λ x y before is. header_stays h.slot x y (same x y is) ∙ before) run shows)

-- over calls on another disk
shows_beside : (h x : Headed) {s t : BayState} → (h.slot ≡ x.slot → ⊥) → Works (x ∷ []) s t → ShowsHeader h s → ShowsHeader h t
shows_beside h x {s} {t} differ works shows = shows_after h works.runs
    (λ a b change. record {
      size = change.size h.slot;
      byte = λ k. change.byte h.slot k (λ (is : IsSlotIn (x ∷ []) h.slot). ⊎_elim (λ (e : is.0 ≡ x). differ (is.2 ∙ ap (λ (y : Headed). y.slot) e)) (λ none. absurd none) is.1);
    })
    shows

-- over calls on the group's own disks
pub show_over : (held : List ℕ) {m n : MountedGroup} (hs : List Headed) {s t : BayState} {before : BayState} → AreJoiners held m hs before → KeepsGroup m n s t → ShowHeaders hs s → ShowHeaders hs t
show_over held {m} {n} hs {s} {t} {before} joiners keeps shows h among = shows_after h keeps.runs
    (λ a b change. record { size = change.size h.slot; byte = λ k. change.byte h.slot k (λ own. (joiners h among).other own) })
    (shows h among)

-- ---- one after another

-- the first so many disks have their headers
abbrev pub ShowFirst : List Headed → ℕ → BayState → Type 0
ShowFirst hs n state = (j : ℕ) (h : Headed) → j < n → h ≡ get_or hs j h → ShowsHeader h state

pub show_more : (hs : List Headed) (i : ℕ) (x : Headed) {s t : BayState} → AreDisksApart hs → i < length hs → x ≡ get_or hs i x → Works (x ∷ []) s t → ShowsHeader x t → ShowFirst hs i s → ShowFirst hs (i + 1) t
show_more hs i x {s} {t} apart inside is works shows before j h below at = ⊎_elim
    (λ (less : j < i). shows_beside h x (λ same. slots_differ hs apart j i h x less inside at is same) works (before j h less at))
    (λ (past : i ≤ j).
    let here : j ≡ i = omega arith in
    let same : h ≡ x = same_at hs i h x inside (subst (λ (k : ℕ). h ≡ get_or hs k h) here at) is in
    subst (λ (y : Headed). ShowsHeader y t) (sym same) shows)
    (cases_lt j i)

pub show_all : (hs : List Headed) (n : ℕ) (state : BayState) → length hs ≤ n → ShowFirst hs n state → ShowHeaders hs state
show_all hs n state past first h among = let p = place_of hs h among in first p.0 h (omega (arith, p.1)) p.2

-- calls on some of the disks
pub works_within : (hs ks : List Headed) {s t : BayState} → ((h : Headed) → IsAmong hs h → IsAmong ks h) → Works hs s t → Works ks s t
works_within hs ks {s} {t} sub works = record {
  attached = works.attached;
  runs = on_more (λ slot is. (is.0, sub is.0 is.1, is.2))
      (widened (λ x y step. changes-within (λ slot k. IsSlotIn ks slot) (λ slot k. IsSlotIn hs slot) x y (λ slot k inside. (inside.0, sub inside.0 inside.1, inside.2)) step) works.runs);
}

pub works_one : (x : Headed) (hs : List Headed) {s t : BayState} → IsAmong hs x → Works (x ∷ []) s t → Works hs s t
works_one x hs among works = works_within (x ∷ []) hs (λ h one. ⊎_elim (λ (e : h ≡ x). subst (λ (y : Headed). IsAmong hs y) (sym e) among) (λ none. absurd none) one) works
