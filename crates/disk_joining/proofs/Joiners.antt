-- Disks that join a group: how they are tried, written and attached.
use Rattle.std.proofs.Common.{◌≡◌, ⊎_elim, inl, inr, ℕ, ◌*◌, true, false, ◌&&◌, ◌==◌, not, List, [], ◌∷◌, length, get_or, Option, Some, None, refl, sym, ap, subst, ◌∙◌, arith, IsSome, unwrap_or, Result, Ok, Err}
use Rattle.std.specs.Prelude.{OnOk, is_some, nat_le, slice_get}
use Rattle.std.specs.BTreeMap.{is_at}
use Rattle.std.specs.FinMap.{nat_cmp-IsAntisymmetric}
use Rattle.std.specs.List.{AllByRecursion}
use Rattle.std.specs.Ordering.{nat_cmp}
use Rattle.std.proofs.lemmas.Bool.{and_from, and_parts, eq-eqb, eqb-true, false≢true, leb-true, not-true, or_left, or_right}
use Rattle.std.proofs.lemmas.List.Elements.{All-from_recursion}
use Rattle.bay.specs.State.{BayState, IsSlot, KeepsAttached}
use Rattle.bay.specs.Moments.{Runs}
use Rattle.bay.proofs.Calls.{on_more, widened}
use Rattle.bay.proofs.Images.{changes-within}
use Rattle.asm_formats.specs.Bytes.{block_size}
use Rattle.asm_formats.specs.Header.{is_header}
use Rattle.asm_formats.specs.Items.{DiskInfo, disk_item, is_item}
use Rattle.asm_formats.specs.Regions.{has_region, region_end}
use Rattle.asm_formats.specs.Status.{Entry, Status, entry_of}
use Rattle.asm_group.specs.Shape.{Shape, is_shape}
use Rattle.asm_images.proofs.Members.{member_shape}
use Rattle.asm_formats.specs.Among.{IsAmong}
use Rattle.new_groups.specs.disk_directory.Disks.{Disk, info_at, with_info}
use Rattle.file_extents.specs.catalog.Plans as plans
use Rattle.file_extents.proofs.catalog_tables.NumberedLists.{either, number_is}
use Rattle.disk_images.specs.Headers.{HasHeaderSlot}
use Rattle.disk_images.specs.Looks.{AreLooked, IsLooked}
use Rattle.disk_images.specs.declared.looking.Looked.{Looked}
use Rattle.file_extents.proofs.extent_map.Lookups.{put_other}
use Rattle.body_slot.specs.Slot.{GateOf, MayClose}
use Rattle.body_slot.specs.declared.place.Place.{Place}
use Rattle.new_groups.specs.mounted_groups.Holding.{IsHeldSlot}
use Rattle.new_groups.proofs.mounted_groups.Spared.{change_held}
use Rattle.new_groups.proofs.mounted_groups.Staying.{stays_keeps}
use Rattle.file_extents.specs.group_engine.Frames.{StaysAttached}
use Rattle.file_extents.specs.group_engine.Mounts.{IsOwn, IsWhole, MountedGroup, Takes}
use Rattle.new_groups.specs.group_recovery.Verdicts.{IsSlotIn}
use Rattle.new_groups.specs.group_recovery.declared.finding.Headed.{Headed}
use Rattle.new_groups.proofs.group_recovery.Searches.{sector_of}
use Rattle.disk_images.specs.disk_forming.Gates.{HasAttachedRegion}
use Rattle.status_register.specs.Holders.{with_next_number}
use Rattle.status_register.specs.Registered.{Registered}
use Rattle.status_register.specs.declared.member.Member.{Member}
use Rattle.new_groups.specs.Forming.{AreHeadable, AreLong, Works}
use Rattle.new_groups.specs.Tests.{are_disks_apart, is_image_there, shows_size}
use Rattle.new_groups.specs.group_recovery.Founds.{is_held}
use Rattle.new_groups.proofs.DiskLists.{pages_of}
use Rattle.disk_joining.specs.Attaching.{has_disk_in_slot}
use Rattle.disk_joining.specs.Joiners.{AreJoiners, HasEntryWithBirth, AreEntered, IsJoiner, CanJoin, are_free, are_unrecorded, is_entered, records_disk, are_entered, fits_shape, may_join}
use Rattle.disk_joining.specs.Taking.{IsApart, TakesIn}
use Rattle.disk_joining.specs.declared.joining.Joining.{Joining}
use Rattle.new_groups.proofs.Passing.{apart_is, shown_in}
use Rattle.disk_joining.proofs.Attached.{not_own}
use Rattle.disk_joining.proofs.Takings.{elsewhere_taken}

-- ---- what is tried

module _ (m : MountedGroup) (whole : IsWhole m) (looked : List Looked) (held : List ℕ) (s t : BayState) (are : AreLooked looked s t) where
  joiner_is : (h : Headed) → fits_shape m.catalog.shape h ≡ true → (is_image_there looked held h && not (has_disk_in_slot m.disks h.slot)) ≡ true → IsJoiner held m h t
  joiner_is h right free =
      let p = and_parts (is_header h.header) _ right in
      let q = and_parts (h.header.shape.sector == m.catalog.shape.sector) _ p.1 in
      let f = and_parts (is_image_there looked held h) _ free in
      let a = and_parts (shows_size (slice_get looked h.slot) h.size) _ f.0 in
      let b = and_parts (has_region h.header.shape.dir_blocks h.size) _ a.1 in
      let shown = shown_in looked h.slot h.size a.0 in
      let read = subst (λ (x : Looked). IsLooked h.slot x s t) shown.2 (are.each h.slot shown.1) in
      record {
        header = p.0;
        sector = eqb-true h.header.shape.sector m.catalog.shape.sector q.0;
        pages = eqb-true h.header.shape.dir_blocks m.catalog.shape.dir_blocks q.1;
        attached = read.attached;
        long = leb-true (region_end h.header.shape.dir_blocks * block_size) h.size b.0;
        free = λ is. false≢true (sym (not-true (is_held held h.slot) b.1) ∙ is);
        other = not_own m h.slot whole (not-true (has_disk_in_slot m.disks h.slot) f.1);
      }

  joiners_are : (hs : List Headed) → are_free m looked held hs ≡ true → AreJoiners held m hs t
  joiners_are [] passes h among = absurd among
  joiners_are (k ∷ ks) passes h among =
      let p = and_parts (fits_shape m.catalog.shape k) _ passes in
      let q = and_parts (is_image_there looked held k && not (has_disk_in_slot m.disks k.slot)) _ p.1 in
      ⊎_elim
      (λ (e : h ≡ k). subst (λ (x : Headed). IsJoiner held m x t) (sym e) (joiner_is k p.0 q.0))
      (λ later. joiners_are ks q.1 h later) among

put_elsewhere : (disks : List Disk) (d : ℕ) (info : DiskInfo) (n : ℕ) → (n ≡ d → ⊥) → info_at (with_info disks d info) n ≡ info_at disks n
put_elsewhere disks d info n other = elim (either (is_at (nat_cmp n) d)) [
  | inl hit ↦ absurd (other (number_is n d hit))
  | inr miss ↦ put_other nat_cmp nat_cmp-IsAntisymmetric d info n miss disks
]

has_none : (ys : List Disk) (d n : ℕ) → records_disk ys d ≡ false → records_disk ys n ≡ true → n ≡ d → ⊥
has_none ys d n none some is = false≢true (sym none ∙ (ap (records_disk ys) (sym is) ∙ some))

-- the records of new disks, put one after the other
new_by : (base later added : List Disk) → are_unrecorded base added ≡ true → ((n : ℕ) → records_disk added n ≡ true → info_at later n ≡ info_at base n) → plans.are_new later added ≡ true
new_by base later [] passes same = refl
new_by base later (x ∷ xs) passes same =
    let p = and_parts (is_item (disk_item x.0 x.1)) _ passes in
    let q = and_parts (not (is_some (info_at base x.0))) _ p.1 in
    let r = and_parts (not (records_disk xs x.0)) _ q.1 in
    let here : info_at later x.0 ≡ info_at base x.0 = same x.0 (or_left (x.0 == x.0) (records_disk xs x.0) (eq-eqb x.0 x.0 refl)) in
    and_from (not (is_some (info_at later x.0))) (plans.are_new (with_info later x.0 x.1) xs) (ap (λ (o : Option DiskInfo). not (is_some o)) here ∙ q.0)
    (new_by base (with_info later x.0 x.1) xs r.1 (λ n among. put_elsewhere later x.0 x.1 n (has_none xs x.0 n (not-true (records_disk xs x.0) r.0) among) ∙ same n (or_right (x.0 == n) (records_disk xs n) among)))

items_all : (base added : List Disk) → are_unrecorded base added ≡ true → AllByRecursion (λ (x : Disk). is_item (disk_item x.0 x.1) ≡ true) added
items_all base [] passes = tt
items_all base (x ∷ xs) passes =
    let p = and_parts (is_item (disk_item x.0 x.1)) _ passes in
    let q = and_parts (not (is_some (info_at base x.0))) _ p.1 in
    (p.0, items_all base xs (and_parts (not (records_disk xs x.0)) _ q.1).1)

pub joining_may : (m : MountedGroup) → IsWhole m → (found looked : List Looked) (held : List ℕ) (j : Joining) (s t : BayState) → looked ≡ found → AreLooked found s t → may_join m looked held j ≡ true → CanJoin held m j t
joining_may m whole found looked held j s t same are passes =
    let p = and_parts (nat_le (length j.records.items) 64) _ passes in
    let q = and_parts (are_free m looked held j.disks.items) _ p.1 in
    let r = and_parts (are_disks_apart j.disks.items) _ q.1 in
    record {
      apart = apart_is j.disks.items r.0;
      disks = joiners_are m whole looked held s t (subst (λ (l : List Looked). AreLooked l s t) (sym same) are) j.disks.items q.0;
      records = record {
        items = All-from_recursion (λ (x : Disk). is_item (disk_item x.0 x.1) ≡ true) j.records.items (items_all m.catalog.tables.disks j.records.items r.1);
        new = new_by m.catalog.tables.disks m.catalog.tables.disks j.records.items r.1 (λ n among. refl);
        few = leb-true (length j.records.items) 64 p.0;
      };
    }

-- ---- what is written

module _ (held : List ℕ) (m : MountedGroup) (shape : is_shape m.catalog.shape ≡ true) (hs : List Headed) (s : BayState) (joiners : AreJoiners held m hs s) where
  size_at : (h : Headed) → IsAmong hs h → unwrap_or (s.attached h.slot) 0 ≡ h.size
  size_at h among = ap (λ (o : Option ℕ). unwrap_or o 0) (joiners h among).attached

  pub joiners_long : AreLong m.catalog.shape hs s
  joiners_long h among =
      let j = joiners h among in
      record {
        attached = subst IsSome (sym j.attached) refl;
        sector_size = sector_of m.catalog.shape shape;
        long = (pages_of m.catalog.shape shape).0;
        region = omega (arith, size_at h among, j.long, j.pages);
      }

  pub joiners_headable : AreHeadable hs s
  joiners_headable h among =
      let j = joiners h among in
      let own = member_shape h.header j.header in
      record {
        header = j.header;
        place = record {
          attached = subst IsSome (sym j.attached) refl;
          sector_size = sector_of h.header.shape own;
          long = omega (arith, size_at h among, j.long, (pages_of h.header.shape own).0);
        };
      }

-- disks that join are neither held nor the group's own
pub works_taken : (held : List ℕ) (m : MountedGroup) (hs : List Headed) {s t : BayState} → Takes m s → IsApart held m → AreJoiners held m hs s → Works hs s t → TakesIn held m m s t
works_taken held m hs {s} {t} takes apart joiners works =
    elsewhere_taken held m takes apart (stays_keeps works.attached) works.runs
    (change_held held (IsSlotIn hs) (λ slot in_hs is. (joiners in_hs.0 in_hs.1).free (subst (IsHeldSlot held) in_hs.2 is)))
    (λ x y change slot own. record {
      size = change.size slot;
      byte = λ k. change.byte slot k (λ in_hs. (joiners in_hs.0 in_hs.1).other (subst (IsOwn m) in_hs.2 own));
    })

-- over calls on the group's own disks, or on those that join
pub joiners_stay : (held : List ℕ) {m n : MountedGroup} (hs : List Headed) {s t : BayState} → n.register.members ≡ m.register.members → n.catalog.shape ≡ m.catalog.shape → StaysAttached s t → AreJoiners held m hs s
    → AreJoiners held n hs t
joiners_stay held {m} {n} hs {s} {t} members shape stays joiners h among =
    let j = joiners h among in
    record {
      header = j.header;
      sector = j.sector ∙ ap (λ (k : Shape). k.sector) (sym shape);
      pages = j.pages ∙ ap (λ (k : Shape). k.dir_blocks) (sym shape);
      attached = stays.stays h.slot h.size j.attached;
      long = j.long;
      free = j.free;
      other = λ own. j.other (own.0, own.1, ap (λ (l : List (Option Member)). get_or l own.0 None) (sym members) ∙ own.2, own.3);
    }

pub joiners_attached : (held : List ℕ) (m : MountedGroup) (hs : List Headed) {s t : BayState} → StaysAttached s t → AreJoiners held m hs s → (h : Headed) → IsAmong hs h → t.attached h.slot ≡ Some h.size
joiners_attached held m hs {s} {t} stays joiners h among = stays.stays h.slot h.size (joiners h among).attached

-- a disk that reaches to the end of its region has a place for a header
pub long_header : (slot sector pages : ℕ) (s : BayState) → HasAttachedRegion s slot sector pages → HasHeaderSlot s slot sector
long_header slot sector pages s region = record { attached = region.attached; sector_size = region.sector_size; long = omega (arith, region.long, region.region) }

-- the header of one of the disks is closed
pub taking_works : (h : Headed) (hs : List Headed) → IsAmong hs h → (place : Place) {s t : BayState} → KeepsAttached s t → Runs (IsSlot h.slot) (MayClose place h.slot) s t → Works hs s t
taking_works h hs among place {s} {t} attached run = record {
  attached = attached;
  runs = on_more (λ slot (is : slot ≡ h.slot). (h, among, is))
      (widened (λ x y step. changes-within (λ slot k. IsSlotIn hs slot) (GateOf place h.slot) x y (λ slot k inside. (h, among, inside.0)) step.elsewhere) run);
}

-- ---- their entries

entry_there : (e : Option Entry) (r : Status) (h : Headed) → entry_of r.entries h.header.number ≡ e → (elim e [ None ↦ false | Some x ↦ x.birth == h.header.birth ]) ≡ true → HasEntryWithBirth r h
entry_there None r h is passes = absurd (false≢true passes)
entry_there (Some e) r h is passes = record { entry = e; there = is; birth = eqb-true e.birth h.header.birth passes }

pub entries_are : (r : Status) (hs : List Headed) → are_entered r hs ≡ true → AreEntered r hs
entries_are r [] passes h among = absurd among
entries_are r (k ∷ ks) passes h among =
    let p = and_parts (is_entered r k) (are_entered r ks) passes in
    ⊎_elim
    (λ (e : h ≡ k). subst (λ (x : Headed). HasEntryWithBirth r x) (sym e) (entry_there (entry_of r.entries k.header.number) r k refl p.0))
    (λ later. entries_are r ks p.1 h later) among

-- the record was written under the next number
pub entries_written : {E : Type 0} (answer : Result (Unit {0}) E) (register : Registered) (next value : Status) (hs : List Headed) → are_entered next hs ≡ true → OnOk answer (value ≡ with_next_number register next) → OnOk answer (AreEntered value hs)
entries_written (Ok done) register next value hs have is =
    subst (λ (r : Status). AreEntered r hs) (sym is)
    (λ h among. let e = entries_are next hs have h among in record { entry = e.entry; there = e.there; birth = e.birth })
entries_written (Err e) register next value hs have is = tt
