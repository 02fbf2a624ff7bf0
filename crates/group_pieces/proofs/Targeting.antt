-- The usable copies of an extent of a mounted group, as the laws of pieces name them.
use Rattle.std.proofs.Common.{◌≡◌, inl, inr, ⊎_elim, ℕ, ◌+◌, ◌*◌, ◌/◌, ◌%◌, ◌<◌, ◌≤◌, Bool, List, [], ◌∷◌, get_or, refl, sym, ap, subst, ◌∙◌, Option, Some, None, arith}
use Rattle.std.specs.Option.{unwrap_or}
use Rattle.std.proofs.lemmas.Option.{none-some, same_Some}
use Rattle.bay.specs.Image as bay
use Rattle.bay.specs.Image.{ChangesOnly}
use Rattle.bay.specs.State.{BayState, IsSound}
use Rattle.bay.proofs.Images.{changes-within}
use Rattle.asm_group.specs.Group.{Group}
use Rattle.asm_group.specs.Shape.{Shape}
use Rattle.asm_base.specs.declared.kinds.ExtentId.{ExtentId}
use Rattle.asm_formats.specs.Among.{IsAmong}
use Rattle.asm_formats.specs.Content.{Content}
use Rattle.asm_formats.specs.Items.{Home, Homes, Item, chunk_len}
use Rattle.asm_formats.specs.Sets.{has_bit}
use Rattle.asm_formats.specs.Status.{Status, entry_of}
use Rattle.asm_placement.specs.Tables.{home_of, is_stale}
use Rattle.asm_images.specs.Bridge.{disks_in}
use Rattle.asm_images.specs.Describing.{extent_size}
use Rattle.asm_images.specs.Directories.{IsNamed}
use Rattle.asm_images.specs.Kept.{Kept, header_in}
use Rattle.asm_images.specs.Members.{all_members, within}
use Rattle.asm_images.specs.Register.{current_records}
use Rattle.asm_images.specs.Spans.{FitsIn}
use Rattle.asm_images.specs.Steps.{IsOpen}
use Rattle.asm_images.proofs.Membership.{among_within}
use Rattle.asm_images.proofs.OneContent.{found_is_held}
use Rattle.record_laws.proofs.catalog_laws.ItemLists.{items_say}
use Rattle.record_laws.specs.catalog_tables.Items.{SayTables}
use Rattle.record_laws.specs.catalog_tables.Rules.{homes_at, marks_of}
use Rattle.record_laws.specs.extent_copies.declared.extent.Extent.{Extent}
use Rattle.record_laws.specs.status_register.declared.member.Member.{Member}
use Rattle.piece_laws.specs.Targets.{AreTargets, HasBirth, RangesOf, SaysExtent, Target, start_of}
use Rattle.record_laws.specs.group_engine.CommitSteps.{content_of_items}
use Rattle.record_laws.specs.group_engine.Mounts.{IsWhole, MountedGroup, Mounts}
use Rattle.record_laws.proofs.group_engine.Calls.{image_of, items, was}
use Rattle.record_laws.proofs.group_engine.Images.{is_committing}
use Rattle.group_pieces.specs.declared.copies.Place.{Place}
use Rattle.group_pieces.specs.Copies.{PlacesOf}
use Rattle.group_pieces.specs.Usable.{FitsExtent, extent_of, piece_of, place_on_copy, places_at}
use Rattle.group_pieces.proofs.Agreeing.{raw_home}
use Rattle.group_pieces.proofs.Places.{IsPlaceAt, member_at, place_is}

-- ---- open contents

module _ (n : ℕ) (m : MountedGroup) (s : BayState) (g : Group) (kept : Kept) (mounts : Mounts n m s g kept) where
  abbrev id : ℕ
  id = m.register.id

  abbrev r : Status
  r = m.register.value

  abbrev said : List Item
  said = (items n m s g kept mounts).0

  pub say : SayTables m.catalog.tables said
  say = items_say m.catalog.tables said mounts.whole.are_tables (items n m s g kept mounts).1

  -- the only record that counts
  pub only_record : (q : Status) → IsAmong (current_records (Some kept.completed) kept.begun) q → q ≡ r
  only_record q among = ⊎_elim (λ (e : q ≡ kept.completed). e ∙ mounts.completed) (λ none. absurd (subst (λ (l : List Status). IsAmong l q) mounts.begun none)) among

  -- an open content has the items of the tables
  pub open_said : (image : bay.Image) → s.leaves s.calls image → (slots : ℕ) (q : Status) (its : List Item) → IsOpen id (disks_in slots image) (Some kept.completed) kept.begun q its → its ≡ said
  open_said image left slots q its o =
      let of = image_of n m s g kept mounts image left in
      let w = was n m s g kept mounts image left in
      let same_record : q ≡ r = only_record q o.counts in
      let held = found_is_held q (within o.readable (all_members id (disks_in slots image))) o.content o.found in
      let among : IsAmong (all_members id (disks_in slots image)) held.0 = among_within o.readable (all_members id (disks_in slots image)) held.0 held.1 in
      let c = is_committing n m mounts.whole g mounts.represents.shape kept image of image (record { size = λ a. refl; byte = λ a j out. refl }) m.store.number m.store.number said said w (λ d h. inl (w d h)) slots in
      let content : held.0.disk.content ≡ Some (content_of_items m.store.number said) = c.was held.0 among (subst (λ (z : Status). IsNamed z held.0.header) same_record held.2) in
      let same : o.content ≡ content_of_items m.store.number said = same_Some o.content (content_of_items m.store.number said) (sym held.3 ∙ content) in
      same_Some its said (sym o.decodes ∙ ap (λ (z : Content). z.items) same)

-- ---- the copies of an extent

-- the copies are those of the tables, and their marks
pub says_extent : (n : ℕ) (m : MountedGroup) (s : BayState) (g : Group) (kept : Kept) (mounts : Mounts n m s g kept) (x : ExtentId) (image : bay.Image) → s.leaves s.calls image
    → SaysExtent m.register.id kept x.file x.index (homes_at m.catalog.tables x.file x.index) (λ k. has_bit (marks_of m.catalog.tables x.file x.index) k) image
unfolding home_of
says_extent n m s g kept mounts x image left = record {
  home = λ slots k q its o.
      ap (λ (l : List Item). home_of l x.file x.index k) (open_said n m s g kept mounts image left slots q its o)
      ∙ ap (λ (c : Option (List Homes)). get_or (get_or (unwrap_or c []) (x.index % chunk_len) []) k None) ((say n m s g kept mounts).homes x.file (x.index / chunk_len));
  stale = λ slots k q its o.
      ap (λ (l : List Item). is_stale l x.file x.index k) (open_said n m s g kept mounts image left slots q its o) ∙ (say n m s g kept mounts).stale x.file x.index k;
}

-- ---- the usable copies

-- the copy that has this place
pub record IsTargetAt (m : MountedGroup) (x : ExtentId) (inner : ℕ) (t : Target) : Type 0 where
  pub place : Place
  pub at : place_on_copy m (extent_of m x) inner t.copy ≡ Some place
  pub is : IsPlaceAt m (extent_of m x) inner t.copy place
  pub home : t.home ≡ is.home
  pub slot : t.slot ≡ place.slot
  pub member : Member
  pub member_is : get_or m.register.members t.home.disk None ≡ Some member
  pub birth : t.birth ≡ member.birth
  pub member_slot : place.slot ≡ member.slot

-- the copies of these numbers that have places
pub record Usables (m : MountedGroup) (x : ExtentId) (inner : ℕ) (ks : List ℕ) : Type 0 where
  pub targets : List Target
  pub each : (t : Target) → IsAmong targets t → IsTargetAt m x inner t × IsAmong ks t.copy
  pub all : (k : ℕ) (p : Place) → IsAmong ks k → place_on_copy m (extent_of m x) inner k ≡ Some p → (t : Target) × IsAmong targets t × (t.copy ≡ k)

target_at : (m : MountedGroup) → IsWhole m → (x : ExtentId) (inner k : ℕ) (p : Place) → place_on_copy m (extent_of m x) inner k ≡ Some p → (t : Target) × IsTargetAt m x inner t × (t.copy ≡ k)
target_at m whole x inner k p at =
    let is = place_is m (extent_of m x) inner k p at in
    let mem = member_at m whole is.home.disk p.slot is.slot in (
      record { copy = k; home = is.home; slot = p.slot; birth = mem.member.birth },
      record { place = p; at = at; is = is; home = refl; slot = refl; member = mem.member; member_is = mem.is; birth = refl; member_slot = mem.slot_is },
      refl,
    )

pub usables : (m : MountedGroup) → IsWhole m → (x : ExtentId) (inner : ℕ) (ks : List ℕ) → Usables m x inner ks
usables m whole x inner [] = record { targets = []; each = λ t h. absurd h; all = λ k p h at. absurd h }
usables m whole x inner (k ∷ ks) = go (place_on_copy m (extent_of m x) inner k) refl (usables m whole x inner ks)
  where
    go : (o : Option Place) → place_on_copy m (extent_of m x) inner k ≡ o → Usables m x inner ks → Usables m x inner (k ∷ ks)
    go None is rest = record {
      targets = rest.targets;
      each = λ t h. let e = rest.each t h in (e.0, inr e.1);
      all = λ j p h at. ⊎_elim
          (λ (here : j ≡ k). absurd (none-some p (sym is ∙ ap (λ (i : ℕ). place_on_copy m (extent_of m x) inner i) (sym here) ∙ at)))
          (λ later. rest.all j p later at) h;
    }
    go (Some q) is rest =
        let t = target_at m whole x inner k q is in
        record {
          targets = t.0 ∷ rest.targets;
          each = λ u h. ⊎_elim
              (λ (here : u ≡ t.0). subst (λ (v : Target). IsTargetAt m x inner v × IsAmong (k ∷ ks) v.copy) (sym here) (t.1, inl t.2))
              (λ later. let e = rest.each u later in (e.0, inr e.1)) h;
          all = λ j p h at. ⊎_elim
              (λ (here : j ≡ k). (t.0, inl refl, t.2 ∙ sym here))
              (λ later. let f = rest.all j p later at in (f.0, inr f.1, f.2)) h;
        }

-- the numbers of three copies
abbrev pub three : List ℕ
three = 0 ∷ 1 ∷ 2 ∷ []

module _ (n : ℕ) (m : MountedGroup) (s : BayState) (g : Group) (kept : Kept) (sound : IsSound s) (mounts : Mounts n m s g kept) (x : ExtentId) (inner len : ℕ)
    (piece : FitsExtent m.catalog.shape x.index inner len) where
  abbrev e : Extent
  e = extent_of m x

  abbrev homes : Homes
  homes = homes_at m.catalog.tables x.file x.index

  abbrev marks : ℕ → Bool
  marks k = has_bit (marks_of m.catalog.tables x.file x.index) k

  pub found : Usables m x inner three
  found = usables m mounts.whole x inner three

  abbrev pub targets : List Target
  targets = found.targets

  pub fits : FitsIn (g ∷ []) (piece_of x inner len)
  fits h (inl same) = subst (λ (z : Shape). inner + len ≤ extent_size z x.index) (sym (ap (λ (k : Group). k.shape) same ∙ mounts.represents.shape)) piece.inside
  fits h (inr none) = absurd none

  -- they are copies of the extent, each on its disk
  pub are_targets : (image : bay.Image) → s.leaves s.calls image → AreTargets n m.register.id kept x.file x.index homes marks targets image
  are_targets image left = record {
    says = says_extent n m s g kept mounts x image left;
    home = λ t among.
        let is = (found.each t among).0 in
        raw_home m.catalog.tables x.file x.index t.copy is.is.home is.is.at ∙ ap (λ (h : Home). Some h) (sym is.home);
    on = λ t among.
        let is = (found.each t among).0 in
        let on = (mounts.register.now.now image left).members t.home.disk is.member is.member_is in
        let slot : t.slot ≡ is.member.slot = is.slot ∙ is.member_slot in
        record {
          inside = subst (λ (k : ℕ). k < n) (sym slot) on.inside;
          header = on.header;
          found = ap (λ (k : ℕ). header_in image k) slot ∙ on.header_is;
          id_is = on.group;
          number = on.number ∙ mounts.whole.numbers t.home.disk is.member is.member_is;
          birth = on.birth ∙ sym is.birth;
        };
  }

  -- each record that counts gives their disks the births of the attached ones
  pub births : (t : Target) → IsAmong targets t → HasBirth kept t
  births t among q f counts is =
      let at = (found.each t among).0 in
      let same : q ≡ m.register.value = only_record n m s g kept mounts q counts in
      sym (mounts.whole.births t.home.disk at.member f at.member_is (ap (λ (z : Status). entry_of z.entries t.home.disk) (sym same) ∙ is)) ∙ sym at.birth

  -- where the span begins in a copy is the place
  pub start_is : (t : Target) (among : IsAmong targets t) → start_of g.shape (piece_of x inner len) t ≡ (found.each t among).0.place.at
  start_is t among =
      let is = (found.each t among).0 in
      ap (λ (z : Shape). t.home.unit * z.au + inner) mounts.represents.shape ∙ ap (λ (h : Home). h.unit * m.catalog.shape.au + inner) is.home ∙ sym is.is.byte

  -- a place that a copy has is one of the places
  pub among_places : (k : ℕ) (p : Place) → IsAmong three k → place_on_copy m e inner k ≡ Some p → IsAmong (places_at m x inner) (Some p)
  among_places k p h at = ⊎_elim
      (λ (z : k ≡ 0). inl (sym at ∙ ap (place_on_copy m e inner) z))
      (λ more. ⊎_elim (λ (o : k ≡ 1). inr (inl (sym at ∙ ap (place_on_copy m e inner) o)))
      (λ last. ⊎_elim (λ (w : k ≡ 2). inr (inr (inl (sym at ∙ ap (place_on_copy m e inner) w)))) (λ none. absurd none) last) more) h

  -- a place is one of a copy of these numbers
  number_of : (p : Place) → IsAmong (places_at m x inner) (Some p) → (k : ℕ) × IsAmong three k × (place_on_copy m e inner k ≡ Some p)
  number_of p h = ⊎_elim
      (λ (z : Some p ≡ place_on_copy m e inner 0). (0, inl refl, sym z))
      (λ more. ⊎_elim (λ (o : Some p ≡ place_on_copy m e inner 1). (1, inr (inl refl), sym o))
      (λ last. ⊎_elim (λ (w : Some p ≡ place_on_copy m e inner 2). (2, inr (inr (inl refl)), sym w)) (λ none. absurd none) last) more) h

  -- the bytes of the places are those of the span in the copies
  pub in_ranges : (slot k : ℕ) → PlacesOf (places_at m x inner) len slot k → RangesOf g.shape (piece_of x inner len) targets slot k
  in_ranges slot k inside =
      let p = inside.0 in
      let number = number_of p inside.1 in
      let t = found.all number.0 p number.1 number.2 in
      let is = (found.each t.0 t.1).0 in
      let same : is.place ≡ p = same_Some is.place p (sym is.at ∙ ap (place_on_copy m e inner) t.2 ∙ number.2) in
      let start : start_of g.shape (piece_of x inner len) t.0 ≡ p.at = start_is t.0 t.1 ∙ ap (λ (q : Place). q.at) same in
      let range = inside.2 in (t.0, t.1, (range.0 ∙ sym (is.slot ∙ ap (λ (q : Place). q.slot) same), omega (arith, range.1, start), omega (arith, range.2, start)))

  -- a write of the places is one of the span in the copies
  pub ranges_change : (y z : bay.Image) → ChangesOnly (PlacesOf (places_at m x inner) len) y z → ChangesOnly (RangesOf g.shape (piece_of x inner len) targets) y z
  ranges_change y z change = changes-within (RangesOf g.shape (piece_of x inner len) targets) (PlacesOf (places_at m x inner) len) y z in_ranges change
