-- A mounted group may get a record with other entries.
use Rattle.std.proofs.Common.{◌≡◌, ◌⊎◌, Bool, true, not, ◌&&◌, Option, IsTrue, ⊎_elim, inl, inr, ℕ, suc, ◌+◌, ◌≤◌, List, [], ◌∷◌, get_or, refl, sym, ap, subst, ◌∙◌, Some, None, arith}
use Rattle.std.specs.List.{list_all}
use Rattle.std.specs.Option.{is_some, option_map}
use Rattle.std.proofs.lemmas.Bool.{and_parts, false≢true}
use Rattle.bay.specs.Image as bay
use Rattle.bay.specs.State.{BayState, IsSound}
use Rattle.asm_group.specs.Group.{Group}
use Rattle.asm_group.specs.Shape.{Shape}
use Rattle.asm_formats.specs.Among.{IsAmong}
use Rattle.asm_formats.specs.Header.{Header}
use Rattle.asm_formats.specs.Metadata.{Metadata, metadata}
use Rattle.asm_formats.specs.Regions.{units_in}
use Rattle.asm_formats.specs.Items.{Home, Item}
use Rattle.asm_formats.specs.Status.{Entry, Status, entry_of}
use Rattle.asm_placement.specs.Modes.{is_forced}
use Rattle.asm_placement.specs.Naming.{is_birth}
use Rattle.asm_placement.specs.Placed.{places_fit}
use Rattle.asm_placement.specs.Work.{is_regular}
use Rattle.asm_images.specs.Bridge.{disks_in}
use Rattle.asm_images.specs.Kept.{Kept, header_in}
use Rattle.asm_images.specs.Copies.{is_disk_in, is_kept}
use Rattle.asm_images.specs.Describing.{DescribesGroup, has_info_in_items}
use Rattle.asm_images.specs.Tables.{info_of}
use Rattle.asm_images.specs.Members.{Member, all_members, is_disk}
use Rattle.asm_images.proofs.UserBytes.{all_of_list}
use Rattle.asm_images.specs.Stands.{HasEntryUnits}
use Rattle.asm_images.proofs.Bridges.{bytes_are_listed}
use Rattle.group_engine.proofs.catalog_tables.TableItems.{from_map}
use Rattle.group_engine.specs.catalog_tables.Items.{AreItemsOf}
use Rattle.group_engine.proofs.group_of.Places.{places}
use Rattle.group_engine.proofs.group_of.Says.{infos_are}
use Rattle.status_register.specs.Surveys.{disk_in}
use Rattle.status_register.specs.declared.member.Member.{Member as Disk}
use Rattle.group_engine.specs.declared.attached.Attached.{Attached}
use Rattle.group_engine.specs.Mounts.{MountedGroup, Mounts}
use Rattle.group_engine.specs.Statuses.{IsNextOf}
use Rattle.group_engine.proofs.Calls.{image_of}
use Rattle.group_engine.proofs.Slots.{IsSeen, member_seen, member_there}
use Rattle.record_laws.specs.Getting.{ChangesDisks, EntriesMayBeGot, IsAttachedWith, JoinsDisk, KeepsEntry}
use Rattle.asm_placement.proofs.Chosen.{entry_among}
use Rattle.record_laws.proofs.Covered.{home_has_entry}
use Rattle.record_laws.proofs.Getting.{HasBirth, is_held, may_be_got}
use Rattle.record_laws.proofs.Modes.{still_serves}

all_true : {A : Type 0} (t : A → Bool) (xs : List A) → ((x : A) → IsAmong xs x → t x ≡ true) → list_all t xs ≡ true
all_true t [] each = refl
all_true t (x ∷ xs) each = λ i. each x (inl refl) i && all_true t xs (λ y h. each y (inr h)) i

long_as : (x : bay.Image) (slot : ℕ) → (disk_in x slot).size ≡ x.size slot
unfolding metadata
long_as x slot = (bytes_are_listed x slot).0

module _ (s : BayState) (sound : IsSound s) (n : ℕ) (m : MountedGroup) (next : Status) (g : Group) (kept : Kept) (mounts : Mounts n m s g kept) (may : IsNextOf m next) (change : ChangesDisks m next s)
    (x : bay.Image) (left : s.leaves s.calls x) (slots : ℕ) (k : Member) (among : IsAmong (all_members m.register.id (disks_in slots x)) k) (shape : k.header.shape ≡ g.shape) where
  seen : IsSeen m.register.id slots x k
  seen = member_seen m.register.id slots x k among

  -- the member is the disk in a slot that shows a header of its number and birth
  in_slot : (slot : ℕ) (h : Header) → header_in x slot ≡ Some h → h.id ≡ m.register.id → h.number ≡ k.header.number → h.birth ≡ k.header.birth → k.slot ≡ slot
  in_slot slot h is group number birth =
      let b = suc slot + slots in
      let one = member_there m.register.id b k.slot x k.header (omega (arith, seen.slot)) seen.header seen.group in
      let other = member_there m.register.id b slot x h (omega arith) is group in
      ((is_held n m s g kept mounts x left).sound b).fits.distinct (record { slot = k.slot; header = k.header; disk = disk_in x k.slot }) (record { slot = slot; header = h; disk = disk_in x slot }) one other (sym number) (sym birth)

  -- so its disk has the size of the image that is attached there
  size_of_slot : (slot size : ℕ) → k.slot ≡ slot → s.attached slot ≡ Some size → k.disk.size ≡ size
  size_of_slot slot size at attached = ap (λ (d : Metadata). d.size) seen.disk ∙ long_as x k.slot ∙ ap x.size at ∙ sound.sized slot size x attached left

  fits_in : (units size : ℕ) → k.disk.size ≡ size → units ≤ units_in m.catalog.shape size → units ≤ units_in k.header.shape k.disk.size
  fits_in units size same le = subst (λ (z : ℕ). units ≤ units_in k.header.shape z) (sym same) (subst (λ (z : Shape). units ≤ units_in z size) (sym (shape ∙ mounts.represents.shape)) le)

  module _ (e : Entry) (is : entry_of next.entries k.header.number ≡ Some e) (birth : e.birth ≡ k.header.birth) where
    number_is : e.number ≡ k.header.number
    number_is = (entry_among next.entries k.header.number e is).1

    attached_fits : IsAttachedWith m e → e.units ≤ units_in k.header.shape k.disk.size
    attached_fits a =
        let d = k.header.number in
        let at : get_or m.disks d None ≡ Some a.image = ap (λ (j : ℕ). get_or m.disks j None) (sym number_is) ∙ a.attached in
        let j = from_map (λ (y : Disk). y.slot) (get_or m.register.members d None) a.image.slot (sym (mounts.whole.disks d) ∙ ap (option_map (λ (y : Attached). y.slot)) at) in
        let on = (image_of n m s g kept mounts x left).members d j.0 j.1 in
        let number : on.header.number ≡ d = on.number ∙ mounts.whole.numbers d j.0 j.1 in
        let born : on.header.birth ≡ k.header.birth = on.birth ∙ may.births d j.0 e j.1 is ∙ birth in
        fits_in e.units a.image.size (size_of_slot a.image.slot a.image.size (in_slot j.0.slot on.header on.header_is on.group number born ∙ j.2) (mounts.ready.sizes d a.image at)) a.units

    kept_fits : KeepsEntry m e → HasEntryUnits m.register.value k → e.units ≤ units_in k.header.shape k.disk.size
    kept_fits w had = ⊎_elim
        (λ le. omega (arith, le, had w.was (ap (λ (j : ℕ). entry_of m.register.value.entries j) (sym number_is) ∙ w.there) (w.birth ∙ birth)))
        (λ attached. attached_fits attached) w.room

    shown_fits : JoinsDisk m s e → e.units ≤ units_in k.header.shape k.disk.size
    shown_fits w = fits_in e.units w.size (size_of_slot w.slot w.size (in_slot w.slot w.header (w.shows.now x left) w.group (w.number ∙ number_is) (w.birth ∙ birth)) w.attached) w.units

  has_units : HasEntryUnits m.register.value k → HasEntryUnits next k
  has_units had e is birth = ⊎_elim (λ w. kept_fits e is birth w had) (λ w. shown_fits e is birth w) (change.each e (entry_among next.entries k.header.number e is).0)

-- ---- what does not depend on an image

module _ (s : BayState) (m : MountedGroup) (next : Status) (change : ChangesDisks m next s) where
  abbrev r : Status
  r = m.register.value

  given : (e : Entry) → IsAmong next.entries e → (e.birth ≤ r.births) ⊎ HasBirth r e.birth
  given e h = ⊎_elim (λ w. inr (record { entry = w.was; among = (entry_among r.entries e.number w.was w.there).0; same = w.birth })) (λ w. inl w.given) (change.each e h)

  -- a disk with an entry that it keeps
  still_kept : (d : ℕ) (h : Header) → (o : Option Entry) → entry_of next.entries d ≡ o → is_some (entry_of r.entries d) ≡ true → is_disk_in (λ mode. not (is_forced mode)) d h o ≡ true
      → is_disk_in (λ mode. not (is_forced mode)) d h (entry_of r.entries d) ≡ true
  still_kept d h None at some is = absurd (false≢true is)
  still_kept d h (Some e) at some is =
      let f = entry_among next.entries d e at in
      ⊎_elim
      (λ w.
      let p = and_parts (not (is_forced e.mode)) (is_disk d e.birth h) is in
      ap (λ (j : ℕ). is_disk_in (λ mode. not (is_forced mode)) d h (entry_of r.entries j)) (sym f.1) ∙ ap (is_disk_in (λ mode. not (is_forced mode)) d h) w.there
      ∙ (λ i. still_serves (is_forced w.was.mode) (is_forced e.mode) w.forced p.0 i && (ap (λ (b : ℕ). is_disk d b h) w.birth ∙ p.1) i))
      (λ w. absurd (false≢true (sym (ap is_some (ap (λ (j : ℕ). entry_of r.entries j) (sym f.1) ∙ w.none)) ∙ some)))
      (change.each e f.0)

  pub kept_was : (d : ℕ) (h : Header) → is_some (entry_of r.entries d) ≡ true → IsTrue (is_kept next d h) → IsTrue (is_kept r d h)
  unfolding is_kept
  kept_was d h some is = still_kept d h (entry_of next.entries d) refl some is

  module _ (may : IsNextOf m next) (g : Group) (shape : g.shape ≡ m.catalog.shape) (l : List Item) (are : AreItemsOf m.catalog.tables l) (d : DescribesGroup r l g) where
    info : (e : Entry) → IsAmong next.entries e → has_info_in_items l e ≡ true
    info e h = ⊎_elim
        (λ w.
        let f = entry_among r.entries e.number w.was w.there in
        (λ i. is_birth (sym w.birth i) (info_of l (sym f.1 i))) ∙ all_of_list (has_info_in_items l) r.entries w.was d.disks f.0)
        (λ w. ap (is_birth e.birth) (infos_are m.catalog.tables l are e.number) ∙ w.info)
        (change.each e h)

    regular : (h : Home) → is_some (entry_of r.entries h.disk) ≡ true → (o : Option Entry) → entry_of next.entries h.disk ≡ o → is_regular (entry_of r.entries h.disk) ≡ true → is_regular o ≡ true
    regular h some None at was = refl
    regular h some (Some e) at was =
        let f = entry_among next.entries h.disk e at in
        ⊎_elim
        (λ w. ap not (sym w.quorum) ∙ sym (ap is_regular w.there) ∙ ap (λ (j : ℕ). is_regular (entry_of r.entries j)) f.1 ∙ was)
        (λ w. absurd (false≢true (sym (ap is_some (ap (λ (j : ℕ). entry_of r.entries j) (sym f.1) ∙ w.none)) ∙ some)))
        (change.each e f.0)

    pub described : DescribesGroup next l g
    described = record {
      tree = d.tree;
      tree_rules = d.tree_rules;
      files = d.files;
      extents = d.extents;
      extent_rules = d.extent_rules;
      owned = d.owned;
      places = subst (λ (z : Shape). IsTrue (places_fit z next.entries l)) (sym shape) (places m.catalog.shape next.entries m.catalog.tables l may.units.0 change.rules are may.units.1);
      regular = λ f i copy h at. regular h (home_has_entry g.shape r.entries l f i copy h d.places at) (entry_of next.entries h.disk) refl (d.regular f i copy h at);
      templates = d.templates;
      attributes = d.attributes;
      next = d.next;
      disks = all_true (has_info_in_items l) next.entries info;
      partners = change.partners;
      room = d.room;
    }

pub entries_may_be_got : (s : BayState) → IsSound s → EntriesMayBeGot s
entries_may_be_got s sound = λ n m next g kept c change.
    may_be_got n m s g kept c.mounts next c.may c.turns change.births (given s m next change)
    (λ x left slots k among shape had. has_units s sound n m next g kept c.mounts c.may change x left slots k among shape had)
    (kept_was s m next change)
    change.some
    (λ l are. described s m next change c.may g c.mounts.represents.shape l are (c.mounts.represents.describes l are))
