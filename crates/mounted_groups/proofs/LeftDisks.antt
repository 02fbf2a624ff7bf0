-- What the claim and the record anew of a mount leave on the disks, and the group that is mounted on them.
use Rattle.std.proofs.Common.{◌≡◌, ◌≢◌, inl, inr, ⊎_elim, ℕ, ◌<◌, ◌≤◌, false, List, [], ◌∷◌, length, map, refl, sym, ap, subst, ◌∙◌, Some, arith, ◌==◌, eqb}
use Rattle.std.specs.List.{AllByRecursion, IsDistinct}
use Rattle.std.proofs.lemmas.Bool.{eq-eqb, eqb-true, ne_eqb}
use Rattle.std.proofs.lemmas.List.{length-map}
use Rattle.std.proofs.lemmas.Map.Steps.{length-le_from_distinct_below}
use Rattle.std.proofs.lemmas.Option.{same_Some}
use Rattle.bay.specs.Image.{Image, Same, SameDisk}
use Rattle.bay.specs.Moments.{LeavesOnly, NowOnly, Runs}
use Rattle.bay.specs.State.{BayState}
use Rattle.bay.proofs.Calls.{goes_on, leaves_on, leaves_only, now_only, stops, widened}
use Rattle.asm_group.specs.Group.{Group}
use Rattle.asm_formats.specs.Among.{IsAmong}
use Rattle.asm_formats.specs.Header.{Header}
use Rattle.asm_formats.specs.Items.{Item}
use Rattle.asm_images.specs.Describing.{DescribesGroup}
use Rattle.asm_images.specs.Kept.{IsHeld, IsMemberIn, header_in}
use Rattle.asm_images.specs.Sound.{Sound}
use Rattle.asm_images.proofs.Bridges.{same_disk, same_is_same}
use Rattle.asm_images.proofs.Held.{same_member}
use Rattle.group_engine.proofs.catalog_laws.ToldRecords.{records_told}
use Rattle.group_recovery.specs.catalog_tables.Items.{AreItemsOf}
use Rattle.change_directory.specs.declared.copy.DirCopy.{DirCopy}
use Rattle.change_directory.specs.Changes.{content_in}
use Rattle.group_recovery.specs.directory_store.Copies.{AreCopiesApart}
use Rattle.group_recovery.specs.directory_store.Stores.{Stored}
use Rattle.group_recovery.proofs.directory_store.Storing.{kept_have_records}
use Rattle.group_engine.specs.CommitSteps.{content_of_items}
use Rattle.group_engine.specs.Mounts.{AreOwn, MountedGroup, Mounts, Represents}
use Rattle.group_engine.proofs.Items.{content_is}
use Rattle.group_engine.specs.Frames.{SparesOtherIds}
use Rattle.group_recovery.specs.Mounting.{Allows}
use Rattle.group_recovery.specs.Quorum.{IsQuorum}
use Rattle.group_recovery.specs.Recovered.{ChangesMembers, IsMeant, LeavesOneGroup, StoodFor, kept_by}
use Rattle.group_recovery.specs.Recovering.{ArePartsOf}
use Rattle.group_recovery.specs.declared.quorum.Quorate.{Quorate}
use Rattle.group_recovery.specs.declared.recovering.Parts.{Parts}
use Rattle.group_recovery.proofs.NextRecords.{element_small}
use Rattle.status_register.specs.declared.member.Member.{Member}
use Rattle.status_register.proofs.Meeting.{any_among, found}
use Rattle.mounted_groups.specs.Leaving.{ClaimsGroup, IsMountedOn}
use Rattle.mounted_groups.specs.Mounting.{mounted_of}
use Rattle.mounted_groups.proofs.MountedParts.{parts_ready, parts_whole}

-- ---- the same disks

same_allows : (id : ℕ) (groups : List Group) (x y : Image) → Allows id groups x → Same x y → Allows id groups y
same_allows id groups x y allows same = λ slots. let P : List (List ℕ) → Type 0 = λ disks. Sound id disks groups in subst P (sym (same_is_same slots x y same)) (allows slots)

-- what stands for groups before looks does so after them
pub stood_on : (q : Quorate) (groups : List Group) {on : ℕ → Type 0} {s m : BayState} → Runs on Same s m → StoodFor q groups s → StoodFor q groups m
stood_on q groups {on} {s} {m} run may = record {
  allows = now_only (same_allows q.id groups) (stops run) may.allows;
  epochs = may.epochs;
}

kept_same : (slot : ℕ) (x y : Image) → Same x y → SameDisk slot x y
kept_same slot x y same = record { size = same.size slot; byte = same.byte slot }

same_changes : (id : ℕ) (x y : Image) → Same x y → ChangesMembers id x y
same_changes id x y same slot = inl (kept_same slot x y same)

changes_on : (id : ℕ) (x y z : Image) → Same x y → ChangesMembers id y z → ChangesMembers id x z
changes_on id x y z same change slot = ⊎_elim
    (λ kept. inl (record { size = kept.size ∙ same.size slot; byte = λ k. kept.byte k ∙ same.byte slot k }))
    (λ both. inr (same_member id slot y x (sym (same_disk x y slot (same.size slot) (λ k. same.byte slot k))) both.0, both.1))
    (change slot)

-- a member of an id isn't one of another
no_member : (own id slot : ℕ) (x : Image) → id ≢ own → IsMemberIn own x slot → (h : Header) → header_in x slot ≡ Some h → h.id ≡ id → ⊥
no_member own id slot x apart member h is same = apart (sym same ∙ ap (λ (k : Header). k.id) (same_Some h member.0 (sym is ∙ member.1)) ∙ member.2)

others_spared : (own : ℕ) (x y : Image) → ChangesMembers own x y → SparesOtherIds own x y
others_spared own x y change id apart slot = ⊎_elim
    (λ kept. inl (record { size = kept.size; byte = kept.byte }))
    (λ both. inr (no_member own id slot x apart both.0, no_member own id slot y apart both.1))
    (change slot)

-- ---- the claim

-- the group is claimed behind looks
pub claims : (n : ℕ) (q : Quorate) (s m t : BayState) → Runs (λ slot. slot < n) Same s m → Runs (λ slot. slot < n) (ChangesMembers q.id) m t
    → ((groups : List Group) → StoodFor q groups m → LeavesOnly m t (Allows q.id groups)) → ClaimsGroup n q s t
claims n q s m t looks run moments =
    let members : Runs (λ slot. slot < n) (ChangesMembers q.id) s t = goes_on (changes_on q.id) (widened (same_changes q.id) looks) (stops looks) run in
    record {
      moments = λ groups may. leaves_on (leaves_only (same_allows q.id groups) looks may.allows) (moments groups (stood_on q groups looks may));
      members = members;
      others = widened (others_spared q.id) members;
    }

-- ---- turns

numbers_apart : (copies : List DirCopy) → AreCopiesApart copies → IsDistinct eqb (map (λ (c : DirCopy). c.number) copies)
unfolding IsDistinct
numbers_apart [] apart = tt
numbers_apart (c ∷ copies) apart = (each copies (λ d among. (apart.0 d among).1), numbers_apart copies apart.1)
  where
    each : (ds : List DirCopy) → ((d : DirCopy) → IsAmong ds d → c.number ≢ d.number) → AllByRecursion (λ (k : ℕ). eqb c.number k ≡ false) (map (λ (d : DirCopy). d.number) ds)
    each [] differ = tt
    each (d ∷ ds) differ = (ne_eqb c.number d.number (differ d (inl refl)), each ds (λ e among. differ e (inr among)))

from_copy : (copies : List DirCopy) (k : ℕ) → IsAmong (map (λ (c : DirCopy). c.number) copies) k → (c : DirCopy) × IsAmong copies c × (k ≡ c.number)
from_copy [] k among = absurd among
from_copy (c ∷ copies) k (inl same) = (c, inl refl, same)
from_copy (c ∷ copies) k (inr among) = let f = from_copy copies k among in (f.0, inr f.1, f.2)

-- there is at most one copy for each number of a disk
few_copies : (copies : List DirCopy) → AreCopiesApart copies → ((c : DirCopy) → IsAmong copies c → c.number < 64) → length copies ≤ 64
few_copies copies apart small =
    let numbers : List ℕ = map (λ (c : DirCopy). c.number) copies in
    let few : length numbers ≤ 64 =
    length-le_from_distinct_below numbers 64 (numbers_apart copies apart)
    (λ k has.
    let x = found (eqb k) numbers has in
    let c = from_copy copies x.0 x.1 in
    let same : k ≡ x.0 = eqb-true k x.0 x.2 in
    omega (arith, small c.0 c.1, same, c.2)) in
    omega (arith, few, length-map copies (λ (c : DirCopy). c.number))

-- ---- the group of the parts

some_copy : (copies : List DirCopy) → 0 < length copies → (c : DirCopy) × IsAmong copies c
some_copy [] some = absurd (omega (arith, some))
some_copy (c ∷ copies) some = (c, inl refl)

module _ (q : Quorate) (now : ℕ) (parts : Parts) (t : BayState) (are : ArePartsOf q now parts t) where
  abbrev m : MountedGroup
  m = mounted_of parts

  own : AreOwn m (kept_by parts).slots
  own slot = (
    λ has.
        let x = found (λ (d : Member × ℕ). d.0.slot == slot) parts.disks.items has in
        (x.0.0.number, x.0.0, are.disks.each x.0 x.1, sym (eqb-true x.0.0.slot slot x.2)),
    λ is_own.
        let d = are.disks.all is_own.0 is_own.1 is_own.2 in
        any_among (λ (x : Member × ℕ). x.0.slot == slot) parts.disks.items (is_own.1, d.0) d.1 (eq-eqb is_own.1.slot slot (sym is_own.3)),
  )

  few : length parts.store.copies ≤ 64
  few = few_copies parts.store.copies are.keeps.apart (λ c among. element_small parts.register.value.directories c.number (are.copies.each c among).named)

  -- the tables say what the copies have
  has_items : (items : List Item) → AreItemsOf parts.catalog.tables items → (y : Image) → t.leaves t.calls y → (c : DirCopy) → IsAmong parts.store.copies c
      → content_in c y ≡ Some (content_of_items parts.store.number items)
  has_items items is y left c among =
      content_is parts.store.table parts.store.number parts.catalog.tables items c y are.catalog.catalog.rules.tables
      (records_told parts.store.table.records parts.catalog.tables are.catalog.catalog.rules.tables are.catalog.catalog.records) is
      ((kept_have_records parts.store t are.keeps).now y left c among)

  module _ (s : BayState) (quorum : IsQuorum q s) (groups : List Group) (one : LeavesOneGroup q groups parts s t) (g : Group) (among : IsAmong groups g)
      (meant : NowOnly s (IsMeant q q.survey.value g)) (x : Image) (was : s.leaves s.calls x) (y : Image) (left : t.leaves t.calls y) where
    described : (items : List Item) → AreItemsOf parts.catalog.tables items → DescribesGroup parts.register.value items g
    described items is =
        let copy = some_copy q.store.copies quorum.some in
        let has = has_items items is y left copy.0 (subst (λ (k : Stored). IsAmong k.copies copy.0) (sym are.store) copy.1) in
        let d = (one.still g among meant).now y left q.slots copy.0 (content_of_items parts.store.number items) (omega arith) copy.1 has in
        subst (λ (l : List Item). DescribesGroup parts.register.value l g) (same_Some d.items items (sym d.decodes)) d.describes

    represents : Represents m g
    represents =
        let named = (one.named g).now x was (meant.now x was) in
        record {
          name = named.0;
          shape = named.1 ∙ sym are.catalog.shape_is;
          describes = described;
        }

    parts_mount : (n : ℕ) → q.slots ≡ n → Mounts n m t g (kept_by parts)
    parts_mount n slots = record {
      whole = parts_whole q now parts t are;
      ready = parts_ready q now parts t are;
      represents = represents;
      own = own;
      completed = refl;
      begun = refl;
      register = one.history n (omega (arith, slots));
      now = subst (λ (k : ℕ). NowOnly t (IsHeld n k (g ∷ []) (kept_by parts))) (sym are.register.own)
          (subst (λ (k : ℕ). NowOnly t (IsHeld k q.id (g ∷ []) (kept_by parts))) slots (one.held g among meant));
    }

    pub parts_on : (n : ℕ) → q.slots ≡ n → IsMountedOn 65 n g m t
    parts_on n slots = record {
      kept = kept_by parts;
      mounts = parts_mount n slots;
      turns = omega (arith, one.turn, few);
      still = refl;
    }
