-- The places of a piece on the usable copies of its extent: they may be written, and lie apart.
use Rattle.std.proofs.Common.{◌≡◌, ◌≢◌, inl, inr, ⊎_elim, ℕ, ◌+◌, ◌*◌, ◌%◌, ◌/◌, ◌<◌, ◌≤◌, true, false, List, [], ◌∷◌, get_or, refl, sym, ap, subst, ◌∙◌, Option, Some, None, arith, ◌==◌, add-mul}
use Rattle.std.specs.Prelude.{IsSome, nat_le, nat_lt, not, unwrap_or}
use Rattle.std.specs.Option.{is_none, option_map}
use Rattle.std.proofs.lemmas.Bool.{and_parts, eqb-true, eq-eqb, leb-true, ltb-true, false≢true, true≢false, cond_both}
use Rattle.std.proofs.lemmas.Option.{same_Some, none-some}
use Rattle.bay.specs.State.{BayState}
use Rattle.asm_group.specs.Shape.{Shape, is_shape, is_unit_size, unit_sizes}
use Rattle.asm_formats.specs.Among.{IsAmong}
use Rattle.asm_placement.specs.Layout.{units_of}
use Rattle.asm_formats.specs.Items.{Home, Homes}
use Rattle.asm_formats.proofs.Fields.{passes_if_all}
use Rattle.asm_base.specs.declared.kinds.ExtentId.{ExtentId}
use Rattle.record_laws.specs.catalog_tables.Rules.{are_on_disks, are_on_two}
use Rattle.record_laws.specs.extent_copies.declared.extent.Extent.{Extent}
use Rattle.record_laws.specs.extent_copies.Extents.{can_be_read_at}
use Rattle.record_laws.specs.status_register.declared.member.Member.{Member}
use Rattle.record_laws.specs.group_engine.declared.attached.Attached.{Attached}
use Rattle.record_laws.specs.group_engine.Mounts.{IsOwn, IsReady, IsWhole, MountedGroup, slot_at}
use Rattle.group_pieces.specs.declared.copies.Place.{Place}
use Rattle.group_pieces.specs.Copies.{AreCopyPlacesApart, AreUsable, IsSlotOfPlace, IsUsablePiece}
use Rattle.group_pieces.specs.Usable.{AreNone, FitsExtent, at_home, extent_of, first_disk, in_image, on_disk, on_slot, place_on_copy, places_in, size_at}

-- ---- a place is that of a copy

pub record IsPlaceAt (m : MountedGroup) (x : Extent) (inner k : ℕ) (p : Place) : Type 0 where
  pub home : Home
  pub at : get_or x.homes k None ≡ Some home
  pub readable : can_be_read_at m.register.value.entries x k ≡ true
  pub number : home.disk < 64
  pub slot : slot_at m.disks home.disk ≡ Some p.slot
  pub size : ℕ
  pub sized : size_at m.disks home.disk ≡ Some size
  pub whole : (home.unit + x.units) * m.catalog.shape.au ≤ size
  pub disk : p.disk ≡ home.disk
  pub byte : p.at ≡ home.unit * m.catalog.shape.au + inner

pub place_is : (m : MountedGroup) (x : Extent) (inner k : ℕ) (p : Place) → place_on_copy m x inner k ≡ Some p → IsPlaceAt m x inner k p
place_is m x inner k p is = cond_both (can_be_read_at m.register.value.entries x k) (at_home m (get_or x.homes k None) x.units inner) None (λ (o : Option Place). o ≡ Some p → IsPlaceAt m x inner k p)
    (λ readable found. by_home readable (get_or x.homes k None) refl found)
    (λ no none. absurd (none-some p none)) is
  where
    by_size : (readable : can_be_read_at m.register.value.entries x k ≡ true) (h : Home) → get_or x.homes k None ≡ Some h → h.disk < 64 → (slot size : ℕ) → slot_at m.disks h.disk ≡ Some slot
        → size_at m.disks h.disk ≡ Some size → in_image m h x.units inner slot size ≡ Some p → IsPlaceAt m x inner k p
    by_size readable h at small slot size slot_is size_is = cond_both (nat_le ((h.unit + x.units) * m.catalog.shape.au) size) (Some (record { disk = h.disk; slot = slot; at = h.unit * m.catalog.shape.au + inner })) None
        (λ (o : Option Place). o ≡ Some p → IsPlaceAt m x inner k p)
        (λ le found.
        let same : record { disk = h.disk; slot = slot; at = h.unit * m.catalog.shape.au + inner } ≡ p = same_Some _ p found in
        record {
          home = h;
          at = at;
          readable = readable;
          number = small;
          slot = slot_is ∙ ap (λ (q : Place). Some q.slot) same;
          size = size;
          sized = size_is;
          whole = leb-true _ _ le;
          disk = ap (λ (q : Place). q.disk) (sym same);
          byte = ap (λ (q : Place). q.at) (sym same);
        })
        (λ no none. absurd (none-some p none))

    by_slot : (readable : can_be_read_at m.register.value.entries x k ≡ true) (h : Home) → get_or x.homes k None ≡ Some h → h.disk < 64 → (slot : ℕ) → slot_at m.disks h.disk ≡ Some slot
        → (o : Option ℕ) → size_at m.disks h.disk ≡ o → on_slot m h x.units inner slot o ≡ Some p → IsPlaceAt m x inner k p
    by_slot readable h at small slot slot_is None size_is found = absurd (none-some p found)
    by_slot readable h at small slot slot_is (Some size) size_is found = by_size readable h at small slot size slot_is size_is found

    by_disk : (readable : can_be_read_at m.register.value.entries x k ≡ true) (h : Home) → get_or x.homes k None ≡ Some h → h.disk < 64
        → (o : Option ℕ) → slot_at m.disks h.disk ≡ o → on_disk m h x.units inner o ≡ Some p → IsPlaceAt m x inner k p
    by_disk readable h at small None slot_is found = absurd (none-some p found)
    by_disk readable h at small (Some slot) slot_is found = by_slot readable h at small slot slot_is (size_at m.disks h.disk) refl found

    by_home : (readable : can_be_read_at m.register.value.entries x k ≡ true) (o : Option Home) → get_or x.homes k None ≡ o → at_home m o x.units inner ≡ Some p → IsPlaceAt m x inner k p
    by_home readable None at found = absurd (none-some p found)
    by_home readable (Some h) at found = cond_both (nat_lt h.disk 64) (on_disk m h x.units inner (slot_at m.disks h.disk)) None (λ (o : Option Place). o ≡ Some p → IsPlaceAt m x inner k p)
        (λ lt some. by_disk readable h at (ltb-true h.disk 64 lt) (slot_at m.disks h.disk) refl some)
        (λ no none. absurd (none-some p none)) found

-- of which copy it is
pub record IsSomePlace (m : MountedGroup) (x : Extent) (inner : ℕ) (p : Place) : Type 0 where
  pub copy : ℕ
  pub is : place_on_copy m x inner copy ≡ Some p
  pub at : IsPlaceAt m x inner copy p

pub some_place : (m : MountedGroup) (x : Extent) (inner : ℕ) (p : Place) → IsAmong (places_in m x inner) (Some p) → IsSomePlace m x inner p
some_place m x inner p h = ⊎_elim (λ zeroth. of 0 (sym zeroth)) (λ more. ⊎_elim (λ first. of 1 (sym first)) (λ last. ⊎_elim (λ second. of 2 (sym second)) (λ none. absurd none) last) more) h
  where
    of : (k : ℕ) → place_on_copy m x inner k ≡ Some p → IsSomePlace m x inner p
    of k is = record { copy = k; is = is; at = place_is m x inner k p is }

-- ---- an attached disk

-- the disk whose slot is told
pub record IsThere (m : MountedGroup) (d slot : ℕ) : Type 0 where
  pub attached : Attached
  pub is : get_or m.disks d None ≡ Some attached
  pub slot_is : attached.slot ≡ slot

pub there : (m : MountedGroup) (d slot : ℕ) → slot_at m.disks d ≡ Some slot → IsThere m d slot
there m d slot is = go (get_or m.disks d None) refl is
  where
    go : (o : Option Attached) → get_or m.disks d None ≡ o → option_map (λ (a : Attached). a.slot) o ≡ Some slot → IsThere m d slot
    go None at found = absurd (none-some slot found)
    go (Some a) at found = record { attached = a; is = at; slot_is = same_Some a.slot slot found }

-- it is a member's
pub record IsMemberAt (m : MountedGroup) (d slot : ℕ) : Type 0 where
  pub member : Member
  pub is : get_or m.register.members d None ≡ Some member
  pub slot_is : slot ≡ member.slot

pub member_at : (m : MountedGroup) → IsWhole m → (d slot : ℕ) → slot_at m.disks d ≡ Some slot → IsMemberAt m d slot
member_at m whole d slot is = go (get_or m.register.members d None) refl (sym (whole.disks d) ∙ is)
  where
    go : (o : Option Member) → get_or m.register.members d None ≡ o → option_map (λ (x : Member). x.slot) o ≡ Some slot → IsMemberAt m d slot
    go None at found = absurd (none-some slot found)
    go (Some x) at found = record { member = x; is = at; slot_is = sym (same_Some x.slot slot found) }

pub own_slot : (m : MountedGroup) → IsWhole m → (d slot : ℕ) → slot_at m.disks d ≡ Some slot → IsOwn m slot
own_slot m whole d slot is = let k = member_at m whole d slot is in (d, k.member, k.is, k.slot_is)

-- disks in one slot are one
pub one_disk : (m : MountedGroup) (s : BayState) → IsWhole m → IsReady m s → (c d slot : ℕ) → slot_at m.disks c ≡ Some slot → slot_at m.disks d ≡ Some slot → c ≡ d
one_disk m s whole ready c d slot at_c at_d =
    let x = member_at m whole c slot at_c in
    let y = member_at m whole d slot at_d in
    ready.register.apart c d x.member y.member x.is y.is (sym x.slot_is ∙ y.slot_is)

-- ---- sizes and sectors

pub unit_sectors : (s : Shape) → is_shape s ≡ true → s.au % 512 ≡ 0
unfolding is_shape
unit_sectors s ok = eqb-true (s.au % 512) 0 (passes_if_all (λ n. n % 512 == 0) s.au unit_sizes (and_parts (is_unit_size s.au) _ ok).0 refl)

pub on_sectors : (unit au inner : ℕ) → au % 512 ≡ 0 → inner % 512 ≡ 0 → (unit * au + inner) % 512 ≡ 0
on_sectors unit au inner whole piece =
    let parts : au ≡ au / 512 * 512 = omega (arith, whole) in
    let more : unit * au ≡ unit * (au / 512) * 512 = ap (λ (n : ℕ). unit * n) parts ∙ omega arith in
    omega (arith, more, piece)

-- the image has the size that is told
pub size_is : (m : MountedGroup) (s : BayState) → IsReady m s → (d slot size : ℕ) → slot_at m.disks d ≡ Some slot → size_at m.disks d ≡ Some size → s.attached slot ≡ Some size
size_is m s ready d slot size at told =
    let a = there m d slot at in
    let sized : a.attached.size ≡ size = same_Some a.attached.size size (ap (λ (o : Option Attached). option_map (λ (b : Attached). b.size) o) (sym a.is) ∙ told) in
    ap (λ (k : ℕ). s.attached k) (sym a.slot_is) ∙ ready.sizes d a.attached a.is ∙ ap (λ (k : ℕ). Some k) sized

-- ---- homes on different disks

pub two_disks : (a b : Option Home) (h k : Home) → are_on_two a b ≡ true → a ≡ Some h → b ≡ Some k → h.disk ≡ k.disk → ⊥
two_disks a b h k two is_a is_b same =
    true≢false (sym (subst (λ (o : Option Home). are_on_two (Some h) o ≡ true) is_b (subst (λ (o : Option Home). are_on_two o b ≡ true) is_a two)) ∙ ap not (eq-eqb h.disk k.disk same))

pub record AreOnDisks (homes : Homes) : Type 0 where
  pub first : are_on_two (get_or homes 0 None) (get_or homes 1 None) ≡ true
  pub second : are_on_two (get_or homes 0 None) (get_or homes 2 None) ≡ true
  pub third : are_on_two (get_or homes 1 None) (get_or homes 2 None) ≡ true

pub on_disks : (homes : Homes) → are_on_disks homes ≡ true → AreOnDisks homes
on_disks homes all =
    let one = and_parts _ _ all in
    let two = and_parts _ _ one.1 in
    record { first = one.0; second = two.0; third = two.1 }

-- ---- the places

module _ (m : MountedGroup) (s : BayState) (x : ExtentId) (inner n : ℕ) (whole : IsWhole m) (ready : IsReady m s)
    (piece : FitsExtent m.catalog.shape x.index inner n) where
  abbrev e : Extent
  e = extent_of m x

  usable_at : (k : ℕ) (p : Place) → IsPlaceAt m e inner k p → IsUsablePiece s n p
  usable_at k p at =
      let is = size_is m s ready at.home.disk p.slot at.size at.slot at.sized in
      record {
        number = omega (arith, at.number, at.disk);
        attached = subst (λ (o : Option ℕ). IsSome o) (sym is) refl;
        inside = subst (λ (o : Option ℕ). p.at + n ≤ unwrap_or o 0) (sym is) (omega (arith, at.byte, at.whole, add-mul at.home.unit (units_of m.catalog.shape.step x.index) m.catalog.shape.au, piece.inside));
        sectors = (
          subst (λ (b : ℕ). b % 512 ≡ 0) (sym at.byte) (on_sectors at.home.unit m.catalog.shape.au inner (unit_sectors m.catalog.shape whole.shape) piece.sectors.0),
          piece.sectors.1,
        );
      }

  pub places_usable : AreUsable (places_in m e inner) n s
  places_usable p among = let place = some_place m e inner p among in usable_at place.copy p place.at

  two_apart : (a b : ℕ) (p q : Place) → are_on_two (get_or e.homes a None) (get_or e.homes b None) ≡ true → place_on_copy m e inner a ≡ Some p → place_on_copy m e inner b ≡ Some q → (p.slot ≢ q.slot) × (p.disk ≢ q.disk)
  two_apart a b p q two is_p is_q =
      let at_p = place_is m e inner a p is_p in
      let at_q = place_is m e inner b q is_q in
      let one_copy : at_p.home.disk ≡ at_q.home.disk → ⊥ = two_disks _ _ at_p.home at_q.home two at_p.at at_q.at in (
        λ same. one_copy (one_disk m s whole ready at_p.home.disk at_q.home.disk q.slot (at_p.slot ∙ ap (λ (k : ℕ). Some k) same) at_q.slot),
        λ same. one_copy (sym at_p.disk ∙ same ∙ at_q.disk),
      )

  pub places_apart : are_on_disks e.homes ≡ true → AreCopyPlacesApart (places_in m e inner)
  places_apart apart =
      let on = on_disks e.homes apart in (
        λ p q at h. ⊎_elim (λ first. two_apart 0 1 p q on.first at (sym first)) (λ more. ⊎_elim (λ second. two_apart 0 2 p q on.second at (sym second)) (λ none. absurd none) more) h,
        (λ p q at h. ⊎_elim (λ second. two_apart 1 2 p q on.third at (sym second)) (λ none. absurd none) h, (λ p q at h. absurd h, tt)),
      )

  -- the slots of the places are the group's own
  pub place_own : (slot : ℕ) → IsSlotOfPlace (places_in m e inner) slot → IsOwn m slot
  place_own slot is =
      let place = some_place m e inner is.0 is.1 in
      own_slot m whole place.at.home.disk slot (place.at.slot ∙ ap (λ (k : ℕ). Some k) (sym is.2))

-- ---- the first place

-- where a first place is there, some place is there
pub first_is_there : (places : List (Option Place)) (d : ℕ) → first_disk places ≡ Some d → AreNone places → ⊥
first_is_there [] d is none = none-some d is
first_is_there (None ∷ places) d is none = first_is_there places d is (λ p h. none p (inr h))
first_is_there (Some p ∷ places) d is none = none p (inl refl)

pub none_is_there : (places : List (Option Place)) → first_disk places ≡ None → AreNone places
none_is_there [] is p h = h
none_is_there (None ∷ places) is p h = ⊎_elim (λ (e : Some p ≡ None). none-some p (sym e)) (λ later. none_is_there places is p later) h
none_is_there (Some q ∷ places) is p h = none-some q.disk (sym is)

pub no_first : (places : List (Option Place)) → is_none (first_disk places) ≡ true → AreNone places
no_first places is = go (first_disk places) refl is
  where
    go : (o : Option ℕ) → first_disk places ≡ o → is_none o ≡ true → AreNone places
    go None at none = none_is_there places at
    go (Some d) at none = absurd (false≢true none)

pub some_first : (places : List (Option Place)) → is_none (first_disk places) ≡ false → AreNone places → ⊥
some_first places is = go (first_disk places) refl is
  where
    go : (o : Option ℕ) → first_disk places ≡ o → is_none o ≡ false → AreNone places → ⊥
    go None at none = absurd (true≢false none)
    go (Some d) at none = first_is_there places d at
