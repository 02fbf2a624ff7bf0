-- Calls on the disks of a new group change no other disk.
use Rattle.std.proofs.Common.{◌≡◌, ⊎_elim, ℕ, List, refl, sym, ap, subst, ◌∙◌}
use Rattle.bay.specs.Counts.{Rose}
use Rattle.bay.specs.Image.{ChangesOnly, Image}
use Rattle.bay.specs.Moments.{Runs}
use Rattle.bay.specs.State.{BayState, IsSlot, KeepsAttached}
use Rattle.bay.proofs.Calls.{attached-trans, goes_on, on_more, started, stops, widened}
use Rattle.bay.proofs.Images.{changes-same, changes-trans, changes-within, same-refl}
use Rattle.asm_base.specs.Records.{DirectoryRecord}
use Rattle.asm_formats.specs.Status.{Status, status_spelling}
use Rattle.asm_group.specs.Refusal as r
use Rattle.asm_formats.specs.Among.{IsAmong}
use Rattle.directory_store.specs.change_directory.declared.copy.DirCopy.{DirCopy}
use Rattle.directory_store.specs.Answers.{IsFirstRefusal}
use Rattle.directory_store.specs.Copies as copies
use Rattle.directory_store.specs.declared.error.StoreError.{StoreError}
use Rattle.directory_store.specs.declared.error.StoreError.TheVariants.{Gone}
use Rattle.body_slot.specs.Slot.{MayPut, PlaceOf}
use Rattle.body_slot.specs.declared.place.Place.{Place}
use Rattle.disk_images.specs.disk_forming.Gates.{GatesOf, MayCloseAll}
use Rattle.disk_images.specs.disk_forming.Places.{all_gates}
use Rattle.mounted_groups.specs.group_recovery.Verdicts.{IsSlotIn}
use Rattle.mounted_groups.specs.group_recovery.Writing.{FrontOf}
use Rattle.mounted_groups.specs.group_recovery.declared.finding.Headed.{Headed}
use Rattle.mounted_groups.proofs.group_recovery.Told.{rose_before}
use Rattle.mounted_groups.proofs.group_recovery.Fronts.{claims_change, front_runs, record_changes}
use Rattle.status_register.specs.Registered.{AreNumbered}
use Rattle.status_register.specs.Rows.{PutsRow, RunsInOrder}
use Rattle.status_register.specs.Slots.{claim_gate, status_gate}
use Rattle.status_register.specs.Tallies.{IsSlotOf}
use Rattle.status_register.specs.Writes.{IsDeadOf, first_holders}
use Rattle.status_register.specs.declared.member.Member.{Member}
use Rattle.status_register.proofs.Ordering.{row_runs}
use Rattle.status_register.proofs.Placing.{first_among}
use Rattle.new_groups.specs.Drafts.{copy_list, holder_list, member_list}
use Rattle.new_groups.specs.Forming.{FormCause, IsErrorSaid, IsFormRefusal, Works}
use Rattle.new_groups.specs.declared.forming.FormError.{FormError}
use Rattle.new_groups.specs.declared.forming.FormError.TheVariants.{Fault, NoMemory}
use Rattle.new_groups.proofs.DiskLists.{from_copies, from_holders, from_members, in_members}

abbrev RegionIn : List Headed → ℕ → ℕ → Type 0
RegionIn hs slot k = IsSlotIn hs slot

pub works_none : (hs : List Headed) (s : BayState) → Works hs s s
works_none hs s = record { attached = record { same = λ k. refl }; runs = started (λ x. changes-same (RegionIn hs) x x (same-refl x)) }

pub works_on : {hs : List Headed} {s m t : BayState} → Works hs s m → Works hs m t → Works hs s t
works_on {hs} {s} {m} {t} one two = record {
  attached = attached-trans one.attached two.attached;
  runs = goes_on (changes-trans (RegionIn hs)) one.runs (stops one.runs) two.runs;
}

-- on one of the disks
one_works : (h : Headed) (hs : List Headed) → IsAmong hs h → (region : ℕ → ℕ → Type 0) {step : Image → Image → Type 0} {s t : BayState} → ((slot k : ℕ) → region slot k → slot ≡ h.slot)
    → ((x y : Image) → step x y → ChangesOnly region x y) → KeepsAttached s t → Runs (IsSlot h.slot) step s t → Works hs s t
one_works h hs among region {step} {s} {t} at within attached run = record {
  attached = attached;
  runs = on_more (λ slot (is : slot ≡ h.slot). (h, among, is))
      (widened (λ x y is. changes-within (RegionIn hs) region x y (λ slot k inside. (h, among, at slot k inside)) (within x y is)) run);
}

pub closing_works : (h : Headed) (hs : List Headed) → IsAmong hs h → (sector dir_blocks : ℕ) {s t : BayState} → KeepsAttached s t → Runs (IsSlot h.slot) (MayCloseAll h.slot sector dir_blocks) s t → Works hs s t
closing_works h hs among sector dir_blocks {s} {t} attached run =
    one_works h hs among (GatesOf h.slot sector (all_gates dir_blocks)) (λ slot k inside. inside.2.0) (λ x y step. step.elsewhere) attached run

pub heading_works : (h : Headed) (hs : List Headed) → IsAmong hs h → (place : Place) (body : List ℕ) {s t : BayState} → KeepsAttached s t → Runs (IsSlot h.slot) (MayPut place h.slot body) s t → Works hs s t
heading_works h hs among place body {s} {t} attached run =
    one_works h hs among (PlaceOf place h.slot) (λ slot k inside. ⊎_elim (λ gate. gate.0) (λ rest. rest.0) inside) (λ x y step. step.elsewhere) attached run

-- directory copies are made
pub directories_work : (set : ℕ) (hs : List Headed) (cs : List DirCopy) {s t : BayState} → cs ≡ copy_list set hs → KeepsAttached s t → Runs (copies.IsSlotOfCopy cs) (ChangesOnly (copies.RegionsOf cs)) s t → Works hs s t
directories_work set hs cs {s} {t} is attached run = record {
  attached = attached;
  runs = on_more (λ slot of. at slot of.0 of.1 of.2)
      (widened (λ x y step. changes-within (RegionIn hs) (copies.RegionsOf cs) x y (λ slot k inside. at slot inside.0 inside.1 inside.2.0) step) run);
}
  where
    at : (slot : ℕ) (c : DirCopy) → IsAmong cs c → slot ≡ c.slot → IsSlotIn hs slot
    at slot c among same =
        let k = from_copies set hs c (subst (λ (l : List DirCopy). IsAmong l c) is among) in
        (k.0, k.1, same ∙ ap (λ (x : DirCopy). x.slot) k.2)

-- ---- claims and records

abbrev Front : List Headed → BayState → BayState → Type 0
Front hs s t = Runs (IsSlotIn hs) (ChangesOnly (FrontOf (member_list hs))) s t

holders_among : (set : ℕ) (hs : List Headed) (m : Member) → IsAmong (holder_list set hs) m → IsAmong (member_list hs) m
holders_among set hs m among =
    let k = from_holders set hs m among in
    subst (λ (x : Member). IsAmong (member_list hs) x) (sym k.2) (in_members hs k.0 k.1)

member_slot : (hs : List Headed) (slot : ℕ) → IsSlotOf (member_list hs) slot → IsSlotIn hs slot
member_slot hs slot of = let k = from_members hs of.0 of.1 in (k.0, k.1, of.2 ∙ ap (λ (x : Member). x.slot) k.2)

pub claims_front : (id set : ℕ) (hs : List Headed) (ms : List Member) (body : List ℕ) {s t : BayState} → ms ≡ holder_list set hs → Runs (IsSlotOf ms) (PutsRow (claim_gate id) ms body) s t → Front hs s t
claims_front id set hs ms body {s} {t} is run =
    front_runs ms (member_list hs) s t among (λ slot of. member_slot hs slot (of.0, among of.0 of.1, of.2)) (claims_change id ms body s t run)
  where
    among : (m : Member) → IsAmong ms m → IsAmong (member_list hs) m
    among m a = holders_among set hs m (subst (λ (l : List Member). IsAmong l m) is a)

pub first_front : (hs : List Headed) (r : Status) (ms : List Member) {s t : BayState} → ms ≡ member_list hs → AreNumbered ms
    → RunsInOrder (status_gate r.id) (first_holders r ms) (status_spelling r) s t → Front hs s t
first_front hs r ms {s} {t} is small run =
    front_runs ms (member_list hs) s t (λ m a. subst (λ (l : List Member). IsAmong l m) is a) (λ slot of. member_slot hs slot (of.0, subst (λ (l : List Member). IsAmong l of.0) is of.1, of.2))
    (record_changes r.id ms (first_holders r ms) (status_spelling r) s s t (first_among r ms small)
    (started (λ x. changes-same (FrontOf ms) x x (same-refl x)))
    (row_runs (status_gate r.id) (first_holders r ms) (status_spelling r) s t run))

pub front_on : (hs : List Headed) {s m t : BayState} → Front hs s m → Front hs m t → Front hs s t
front_on hs {s} {m} {t} one two = goes_on (changes-trans (FrontOf (member_list hs))) one (stops one) two

pub front_works : (hs : List Headed) {s t : BayState} → KeepsAttached s t → Front hs s t → Works hs s t
front_works hs {s} {t} attached run = record {
  attached = attached;
  runs = widened (λ x y step. changes-within (RegionIn hs) (FrontOf (member_list hs)) x y (λ slot k inside. member_slot hs slot inside.0) step) run;
}

-- ---- causes

pub cause_before : (hs : List Headed) {s m : BayState} (t : BayState) {slots : ℕ → Type 0} {step : Image → Image → Type 0} → Runs slots step s m → (e : FormError) → FormCause hs m t e → FormCause hs s t e
cause_before hs {s} {m} t run (Fault slot) cause = (cause.0, rose_before (s.faults slot) (m.faults slot) (t.faults slot) (run.faults slot) cause.1)
cause_before hs {s} {m} t run NoMemory cause = tt

pub one_cause : (h : Headed) (hs : List Headed) → IsAmong hs h → {s m : BayState} (t : BayState) → Works hs s m → Rose (m.faults h.slot) (t.faults h.slot) → FormCause hs s t (Fault h.slot)
one_cause h hs among {s} {m} t works rose = ((h, among, refl), rose_before (s.faults h.slot) (m.faults h.slot) (t.faults h.slot) (works.runs.faults h.slot) rose)

-- a copy's slot, or a member's, is one of the disks'
pub copy_cause : (set : ℕ) (hs : List Headed) (cs : List DirCopy) (s t : BayState) → cs ≡ copy_list set hs → (slot : ℕ) → copies.IsFailedSlot cs s t slot → FormCause hs s t (Fault slot)
copy_cause set hs cs s t is slot failed =
    let k = from_copies set hs failed.0.0 (subst (λ (l : List DirCopy). IsAmong l failed.0.0) is failed.0.1) in
    ((k.0, k.1, failed.0.2 ∙ ap (λ (x : DirCopy). x.slot) k.2), failed.1)

pub gone_slot : (cs : List DirCopy) (pages : ℕ) (put : List DirectoryRecord) (s t : BayState) (e : StoreError) (k : ℕ) → e ≡ Gone k → IsFirstRefusal cs pages put s t e → copies.IsFailedSlot cs s t k
gone_slot cs pages put s t e k same why = subst (λ (x : StoreError). IsFirstRefusal cs pages put s t x) same why

pub holder_cause : (set : ℕ) (hs : List Headed) (ms : List Member) (s t : BayState) → ms ≡ holder_list set hs → (slot : ℕ) → IsDeadOf ms slot s t → FormCause hs s t (Fault slot)
holder_cause set hs ms s t is slot dead =
    let k = from_holders set hs dead.0.0 (subst (λ (l : List Member). IsAmong l dead.0.0) is dead.0.1) in
    ((k.0, k.1, dead.0.2 ∙ ap (λ (x : Member). x.slot) k.2), dead.1)

pub member_cause : (hs : List Headed) (ms : List Member) (s t : BayState) → ms ≡ member_list hs → (slot : ℕ) → IsDeadOf ms slot s t → FormCause hs s t (Fault slot)
member_cause hs ms s t is slot dead =
    let k = from_members hs dead.0.0 (subst (λ (l : List Member). IsAmong l dead.0.0) is dead.0.1) in
    ((k.0, k.1, dead.0.2 ∙ ap (λ (x : Member). x.slot) k.2), dead.1)

-- the refusal of what failed
pub form_refused : (hs : List Headed) (s t : BayState) (e : FormError) (refusal : r.Refusal) → IsErrorSaid hs e refusal → FormCause hs s t e → IsFormRefusal hs refusal s t
form_refused hs s t (Fault slot) (r.WriteFault name) is cause =
    (is.0, is.1, is.3, subst (λ (k : ℕ). Rose (s.faults k) (t.faults k)) (sym is.2) cause.1)
form_refused hs s t (Fault slot) r.NoMemory is cause = tt
form_refused hs s t NoMemory refusal is cause = subst (λ (x : r.Refusal). IsFormRefusal hs x s t) (sym is) tt
form_refused hs s t (Fault slot) other is cause = absurd is
