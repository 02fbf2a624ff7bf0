-- A write for the move that is on its way: the group is held as it was, and the copies keep what they have.
use Rattle.std.proofs.Common.{◌≡◌, inl, inr, ⊎_elim, ℕ, ◌+◌, ◌*◌, ◌/◌, ◌%◌, ◌<◌, ◌≤◌, List, [], ◌∷◌, get_or, length, refl, sym, ap, subst, ◌∙◌, Option, Some, None, arith, add-mul, mul-le-mul_right}
use Rattle.std.proofs.lemmas.Bool.{cases_eq, true≢false}
use Rattle.std.proofs.lemmas.Option.{none-some, same_Some}
use Rattle.std.specs.Option.{unwrap_or}
use Rattle.bay.specs.Image as bay
use Rattle.bay.specs.Image.{ChangesOnly, Range, Same}
use Rattle.bay.specs.Moments.{LeavesOnly, NowOnly}
use Rattle.bay.specs.State.{BayState}
use Rattle.bay.proofs.Calls.{now_of, now_only, stops}
use Rattle.bay.proofs.Images.{changes-window, changes-within}
use Rattle.asm_group.specs.Group.{Group}
use Rattle.asm_group.specs.Names.{Bytes}
use Rattle.asm_group.specs.Shape.{Shape}
use Rattle.asm_base.specs.declared.kinds.ExtentId.{ExtentId}
use Rattle.asm_formats.specs.Among.{IsAmong}
use Rattle.asm_formats.specs.Regions.{reserved_units}
use Rattle.asm_formats.specs.Items.{chunk_len}
use Rattle.asm_placement.specs.Layout.{units_of}
use Rattle.asm_images.specs.Kept.{Kept, IsHeld, header_in}
use Rattle.asm_images.specs.WriteLaws.{AreApart}
use Rattle.asm_images.proofs.Held.{same_is_held}
use Rattle.record_laws.specs.catalog_tables.Rules.{homes_at}
use Rattle.record_laws.specs.catalog_tables.Tables.{AreTables}
use Rattle.record_laws.specs.extent_map.Extents.{Chunked, chunk_at}
use Rattle.piece_laws.specs.SpareLaws.{IsInRun, IsSpareRun}
use Rattle.piece_laws.proofs.SpareWriting.{spare_write_keeps}
use Rattle.record_laws.specs.group_engine.Own.{IsSameGroup}
use Rattle.record_laws.specs.group_engine.declared.flight.Flight.{Flight}
use Rattle.record_laws.specs.group_engine.Mounts.{IsReady, IsWhole, MountedGroup, Mounts, slot_at}
use Rattle.group_pieces.specs.Marking.{MarksMore}
use Rattle.group_pieces.proofs.Holding.{copy_low}
use Rattle.group_pieces.specs.declared.copies.Place.{Place}
use Rattle.group_pieces.specs.Bytes.{UserBytes, WritesBytes}
use Rattle.group_pieces.specs.Copies.{HaveBut}
use Rattle.group_pieces.specs.Held.{FlightIsSpare, IsSpareCopy}
use Rattle.group_pieces.specs.Usable.{FitsExtent, extent_of, places_at}
use Rattle.group_pieces.specs.Written.{FlightBytes, MovedBytes}
use Rattle.group_pieces.proofs.Agreeing.{raw_home, unmarked}
use Rattle.group_pieces.proofs.Places.{member_at, one_disk, some_place}
use Rattle.group_pieces.proofs.Rewritten.{bytes_mount}
use Rattle.group_pieces.proofs.Targeting.{says_extent}
use Rattle.group_pieces.proofs.Written.{writes_more}

-- where no byte changes the disks are the same
nothing_changed : (region : ℕ → ℕ → Type 0) (y z : bay.Image) → ((slot k : ℕ) → region slot k → ⊥) → ChangesOnly region y z → Same y z
nothing_changed region y z none change = record { size = change.size; byte = λ slot k. change.byte slot k (none slot k) }

-- ---- the group is held

module _ (n : ℕ) (m : MountedGroup) (s t : BayState) (g : Group) (kept : Kept) (mounts : Mounts n m s g kept) (x : ExtentId) (inner len : ℕ)
    (piece : FitsExtent m.catalog.shape x.index inner len) (spare : FlightIsSpare m) (writes : WritesBytes m (MovedBytes m x inner len) s t) where
  abbrev region : ℕ → ℕ → Type 0
  region = MovedBytes m x inner len

  unmoved : (y z : bay.Image) → s.leaves s.calls y → ((slot k : ℕ) → region slot k → ⊥) → ChangesOnly region y z → IsHeld n m.register.id (g ∷ []) kept z
  unmoved y z left none change = same_is_held n m.register.id (g ∷ []) kept y z (nothing_changed region y z none change) (mounts.now.now y left)

  spare_run : (f : Flight) → IsSpareCopy m f → (y : bay.Image) → s.leaves s.calls y → IsSpareRun m.register.id m.catalog.shape.step kept f.to.disk f.to.unit (units_of m.catalog.shape.step f.x.index) y
  spare_run f is y left = λ slots a i copy r items k o home on.
      let says = says_extent n m s g kept mounts (record { file = a; index = i }) y left in
      ⊎_elim (λ apart. inl apart) (λ marked. inr (says.stale slots copy r items o ∙ marked))
      (is.apart a i copy k (sym (says.home slots copy r items o) ∙ home) on)

  moved_held : (f : Flight) → m.flight ≡ Some f → f.x.index ≡ x.index → (slot : ℕ) → slot_at m.disks f.to.disk ≡ Some slot → (y z : bay.Image) → s.leaves s.calls y → ChangesOnly region y z
      → IsHeld n m.register.id (g ∷ []) kept z
  moved_held f is index slot at y z left change =
      let au : g.shape.au ≡ m.catalog.shape.au = ap (λ (q : Shape). q.au) mounts.represents.shape in
      let step : g.shape.step ≡ m.catalog.shape.step = ap (λ (q : Shape). q.step) mounts.represents.shape in
      let home = f.to in
      let start = home.unit * m.catalog.shape.au + inner in
      let units = units_of m.catalog.shape.step f.x.index in
      let mem = member_at m mounts.whole home.disk slot at in
      let on = (mounts.register.now.now y left).members home.disk mem.member mem.is in
      let short : inner + len ≤ units * m.catalog.shape.au = subst (λ (i : ℕ). inner + len ≤ units_of m.catalog.shape.step i * m.catalog.shape.au) (sym index) piece.inside in
      let high : start + len ≤ (home.unit + units) * m.catalog.shape.au = omega (arith, short, add-mul home.unit units m.catalog.shape.au) in
      let low : home.unit * m.catalog.shape.au ≤ start = omega arith in
      let own : mem.member.slot ≡ slot = sym mem.slot_is in
      let run : IsInRun n m.register.id g.shape.au slot home.disk home.unit units start len y = record {
        inside = subst (λ (k : ℕ). k < n) own on.inside;
        header = on.header;
        found = ap (λ (k : ℕ). header_in y k) (sym own) ∙ on.header_is;
        id_is = on.group;
        number = on.number ∙ mounts.whole.numbers home.disk mem.member mem.is;
        low = subst (λ (q : ℕ). home.unit * q ≤ start) (sym au) low;
        high = subst (λ (q : ℕ). start + len ≤ (home.unit + units) * q) (sym au) high;
      } in
      let has = spare f is in
      let reserved : reserved_units g.shape ≤ home.unit = subst (λ (q : Shape). reserved_units q ≤ home.unit) (sym mounts.represents.shape) has.reserved in
      let free : IsSpareRun m.register.id g.shape.step kept home.disk home.unit units y = subst (λ (q : ℕ). IsSpareRun m.register.id q kept home.disk home.unit units y) (sym step) (spare_run f has y left) in
      spare_write_keeps n m.register.id g kept slot home.disk home.unit units start len y z (mounts.now.now y left) run reserved free
      (changes-within (Range slot start len) region y z
      (λ j k moved.
      let same : moved.0 ≡ f = same_Some moved.0 f (sym moved.1 ∙ is) in
      let there = subst (λ (q : Flight). FlightBytes m q x inner len j k) same moved.2 in
      (same_Some j slot (sym there.1.1 ∙ at), there.1.2, there.1.3))
      change)

  held_flying : (y z : bay.Image) → s.leaves s.calls y → ChangesOnly region y z → IsHeld n m.register.id (g ∷ []) kept z
  held_flying y z left change = by_flight m.flight refl
    where
      by_slot : (f : Flight) → m.flight ≡ Some f → f.x.index ≡ x.index → (o : Option ℕ) → slot_at m.disks f.to.disk ≡ o → IsHeld n m.register.id (g ∷ []) kept z
      by_slot f is index None at = unmoved y z left (λ slot k moved.
          let same : moved.0 ≡ f = same_Some moved.0 f (sym moved.1 ∙ is) in
          let there = subst (λ (q : Flight). FlightBytes m q x inner len slot k) same moved.2 in
          none-some slot (sym at ∙ there.1.1)) change
      by_slot f is index (Some slot) at = moved_held f is index slot at y z left change

      by_flight : (o : Option Flight) → m.flight ≡ o → IsHeld n m.register.id (g ∷ []) kept z
      by_flight None is = unmoved y z left (λ slot k moved. none-some moved.0 (sym is ∙ moved.1)) change
      by_flight (Some f) is = ⊎_elim
          (λ (index : f.x.index ≡ x.index). by_slot f is index (slot_at m.disks f.to.disk) refl)
          (λ differ. unmoved y z left (λ slot k moved.
          let same : moved.0 ≡ f = same_Some moved.0 f (sym moved.1 ∙ is) in
          let there = subst (λ (q : Flight). FlightBytes m q x inner len slot k) same moved.2 in
          differ (ap (λ (e : ExtentId). e.index) there.0)) change)
          (cases_eq f.x.index x.index)

  -- each image of each moment is held for the group
  pub flying_moments : LeavesOnly s t (IsHeld n m.register.id (g ∷ []) kept)
  flying_moments = record {
    later = writes.runs.later;
    ended = writes.runs.ended;
    each = λ k z low high left. let from = writes.runs.moments k z low high left in held_flying from.0 z from.1 from.2;
  }

  -- it is mounted
  pub flying_mounts : Mounts n m t g kept
  flying_mounts = bytes_mount s t n m g g kept mounts (inl refl) (writes_more m s t region (UserBytes m) writes.user (λ slot k user. user) writes) (now_of flying_moments)

-- ---- the copies keep what they have

apart_bytes : (au u n v inner len k : ℕ) → AreApart u n v n → inner + len ≤ n * au → u * au + inner ≤ k → k < u * au + inner + len → v * au + inner ≤ k → k < v * au + inner + len → ⊥
apart_bytes au u n v inner len k (inl le) fits low high low_v high_v = omega (arith, mul-le-mul_right au le, add-mul u n au, fits, high, low_v)
apart_bytes au u n v inner len k (inr le) fits low high low_v high_v = omega (arith, mul-le-mul_right au le, add-mul v n au, fits, low, high_v)

module _ (m : MountedGroup) (s : BayState) (whole : IsWhole m) (ready : IsReady m s) (x : ExtentId) (inner len : ℕ) (piece : FitsExtent m.catalog.shape x.index inner len) (spare : FlightIsSpare m) where
  -- none of the places meets the new copy
  pub places_spared : (p : Place) → IsAmong (places_at m x inner) (Some p) → (k : ℕ) → p.at ≤ k → k < p.at + len → MovedBytes m x inner len p.slot k → ⊥
  places_spared p among k low high moved =
      let f = moved.0 in
      let there : FlightBytes m f x inner len p.slot k = moved.2 in
      let place = some_place m (extent_of m x) inner p among in
      let at = place.at in
      let disk : at.home.disk ≡ f.to.disk = one_disk m s whole ready at.home.disk f.to.disk p.slot at.slot there.1.1 in
      let raw = raw_home m.catalog.tables x.file x.index place.copy at.home at.at in
      let fresh = unmarked m.register.value (extent_of m x) place.copy at.readable in
      let index : f.x.index ≡ x.index = ap (λ (e : ExtentId). e.index) there.0 in
      ⊎_elim
      (λ apart. apart_bytes m.catalog.shape.au f.to.unit (units_of m.catalog.shape.step x.index) at.home.unit inner len k
      (subst (λ (i : ℕ). AreApart f.to.unit (units_of m.catalog.shape.step i) at.home.unit (units_of m.catalog.shape.step x.index)) index apart) piece.inside there.1.2 there.1.3 (omega (arith, at.byte, low)) (omega (arith, at.byte, high)))
      (λ marked. true≢false (sym marked ∙ fresh))
      ((spare f moved.1).apart x.file x.index place.copy at.home raw disk)

  -- the bytes that stand on the copies stand there still
  pub has_still : (bytes : Bytes) (failed : ℕ) (t : BayState) → length bytes ≡ len → NowOnly s (HaveBut (places_at m x inner) failed bytes) → WritesBytes m (MovedBytes m x inner len) s t
      → NowOnly t (HaveBut (places_at m x inner) failed bytes)
  has_still bytes failed t is has writes =
      let Claim = HaveBut (places_at m x inner) failed bytes in
      now_only {P = Claim} {Q = Claim}
      (λ y z was step p among out.
      changes-window (MovedBytes m x inner len) y z p.slot p.at (length bytes) (λ k low high moved. places_spared p among k low (omega (arith, high, is)) moved) step ∙ was p among out)
      (stops writes.runs) has

-- where homes stay and marks are set alone, the new copy is spare still
pub spare_still : (m new : MountedGroup) → AreTables m.catalog.tables → IsSameGroup m new → MarksMore m.catalog.tables new.catalog.tables → FlightIsSpare m → FlightIsSpare new
spare_still m new are same more spare f is = ⊎_elim
    (λ (goes : new.flight ≡ m.flight).
    let old = spare f (sym goes ∙ is) in
    record {
      reserved = subst (λ (z : Shape). reserved_units z ≤ f.to.unit) (sym same.shape) old.reserved;
      apart = λ g i copy h at on.
          let was : get_or (homes_at m.catalog.tables g i) copy None ≡ Some h = ap (λ (es : List Chunked). get_or (get_or (unwrap_or (chunk_at es (g, i / chunk_len)) []) (i % chunk_len) []) copy None) (sym more.extents) ∙ at in
          ⊎_elim
          (λ apart. inl (subst (λ (z : Shape). AreApart f.to.unit (units_of z.step f.x.index) h.unit (units_of z.step i)) (sym same.shape) apart))
          (λ marked. inr (more.marks g i copy (copy_low m.catalog.tables are g i copy h was) marked))
          (old.apart g i copy h was on);
    })
    (λ none. absurd (none-some f (sym none ∙ is)))
    same.flight
