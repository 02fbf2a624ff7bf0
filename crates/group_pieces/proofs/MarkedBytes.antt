-- By the tables in which the copies that a write left behind are marked, the disks hold the group with the bytes.
use Rattle.std.proofs.Common.{◌≡◌, ◌≢◌, inl, inr, ⊎_elim, ℕ, zero, suc, ◌+◌, ◌-◌, ◌*◌, ◌<◌, ◌≤◌, true, false, List, length, get_or, slice_index, refl, sym, ap, subst, ◌∙◌, Option, Some, None, arith, add-mul, ◌==◌, IsTrue}
use Rattle.std.specs.FinMap as maps
use Rattle.std.specs.Option.{option_map}
use Rattle.std.proofs.lemmas.Bool.{cases_eq, cases_lt, cond-false, cond-true, eq-eqb, ne_eqb}
use Rattle.std.proofs.lemmas.List.{get_or_past}
use Rattle.std.proofs.lemmas.Option.{none-some, same_Some}
use Rattle.bay.specs.Image as bay
use Rattle.bay.specs.Image.{window}
use Rattle.bay.specs.Moments.{NowOnly}
use Rattle.bay.specs.State.{BayState, IsSound}
use Rattle.bay.proofs.Images.{get_or-window}
use Rattle.asm_group.specs.Group.{Cell, Known, Free, File, Group}
use Rattle.asm_group.specs.Names.{Bytes}
use Rattle.asm_group.specs.Shape.{Shape, is_shape}
use Rattle.asm_base.specs.declared.kinds.ExtentId.{ExtentId}
use Rattle.asm_formats.specs.Among.{IsAmong}
use Rattle.asm_formats.specs.Items.{Home, Item}
use Rattle.asm_formats.specs.Status.{Status}
use Rattle.asm_placement.specs.Layout.{file_byte, units_of}
use Rattle.asm_placement.specs.Tables.{home_of}
use Rattle.asm_placement.proofs.Places.{one_place_of}
use Rattle.asm_images.specs.Bridge.{disks_in}
use Rattle.asm_images.specs.Copies.{IsCurrent, is_kept}
use Rattle.asm_images.specs.Describing.{LiesIn, extent_size}
use Rattle.asm_images.specs.Kept.{Kept}
use Rattle.asm_images.specs.Members.{Member as Disk, all_members, byte}
use Rattle.asm_images.specs.Spans.{Span, file_with, group_with}
use Rattle.asm_images.proofs.SpanCells.{cell_is_put, cell_stays, files_are_put, length_stays}
use Rattle.asm_images.proofs.Spans.{layout_of}
use Rattle.record_laws.specs.catalog.ExtentPlans.{with_marks_changed}
use Rattle.record_laws.proofs.catalog_laws.HavingItems.{have_items}
use Rattle.record_laws.proofs.catalog_laws.ItemLists.{items_say}
use Rattle.record_laws.specs.catalog_tables.Items.{AreItemsOf}
use Rattle.record_laws.specs.catalog_tables.Rules.{homes_at}
use Rattle.record_laws.specs.catalog_tables.Tables.{AreTables, Tables}
use Rattle.record_laws.specs.status_register.Surveys.{disk_in}
use Rattle.record_laws.proofs.group_of.Extents.{home_by}
use Rattle.piece_laws.proofs.Again.{put_again}
use Rattle.piece_laws.proofs.Kept.{kept_as}
use Rattle.piece_laws.proofs.Settling.{listed_byte}
use Rattle.record_laws.specs.group_engine.Becoming.{HoldsIn}
use Rattle.record_laws.specs.group_engine.Mounts.{MountedGroup, Mounts, slot_at}
use Rattle.record_laws.proofs.group_engine.Bytes.{mounted_holds}
use Rattle.record_laws.proofs.group_engine.Slots.{member_seen, member_there}
use Rattle.group_pieces.specs.Copies.{HaveBut}
use Rattle.group_pieces.specs.Held.{piece_freed, piece_written}
use Rattle.group_pieces.specs.Marking.{is_left, left_of}
use Rattle.group_pieces.specs.Usable.{FitsExtent, extent_of, piece_of, places_at}
use Rattle.group_pieces.proofs.Holding.{copy_low, copy_took, extent_home}
use Rattle.group_pieces.proofs.MarkLookups.{unmarked_was}
use Rattle.group_pieces.proofs.Marked.{bit_left}
use Rattle.group_pieces.proofs.Places.{member_at, place_is, size_is}
use Rattle.group_pieces.proofs.Targeting.{among_places, three}

known_is : (a b : ℕ) → Known a ≡ Known b → a ≡ b
known_is a b e = ap (λ (c : Cell). value c) e
  where
    value : Cell → ℕ
    value (Known k) = k
    value Free = 0

module _ (n : ℕ) (m : MountedGroup) (s : BayState) (g : Group) (kept : Kept) (sound : IsSound s) (mounts : Mounts n m s g kept) where
  abbrev id : ℕ
  id = m.register.id

  abbrev r : Status
  r = m.register.value

  -- a member that the record keeps as a disk is the one that is attached as it
  pub kept_slot : (image : bay.Image) → s.leaves s.calls image → (slots : ℕ) (a : Disk) → IsAmong (all_members id (disks_in slots image)) a → (h : Home) → IsTrue (is_kept r h.disk a.header)
      → (slot : ℕ) → slot_at m.disks h.disk ≡ Some slot → a.slot ≡ slot
  kept_slot image left slots a among h is slot at =
      let mem = member_at m mounts.whole h.disk slot at in
      let on = (mounts.register.now.now image left).members h.disk mem.member mem.is in
      let as_kept = kept_as r h a.header is in
      let seen = member_seen id slots image a among in
      let b = slots + n in
      let mine = member_there id b a.slot image a.header (omega (arith, seen.slot)) seen.header seen.group in
      let other = member_there id b mem.member.slot image on.header (omega (arith, on.inside)) on.header_is on.group in
      let number : a.header.number ≡ on.header.number = as_kept.number ∙ sym (on.number ∙ mounts.whole.numbers h.disk mem.member mem.is) in
      let birth : a.header.birth ≡ on.header.birth = as_kept.birth ∙ sym (on.birth ∙ mounts.whole.births h.disk mem.member as_kept.entry mem.is as_kept.entry_is) in
      ((mounts.now.now image left).sound b).fits.distinct (record { slot = a.slot; header = a.header; disk = disk_in image a.slot })
      (record { slot = mem.member.slot; header = on.header; disk = disk_in image mem.member.slot }) mine other number birth ∙ sym mem.slot_is

-- ---- the group with the bytes

module _ (n : ℕ) (m : MountedGroup) (s : BayState) (g : Group) (kept : Kept) (sound : IsSound s) (x : ExtentId) (inner : ℕ) (bytes : Bytes)
    (mounts : Mounts n m s (piece_freed x inner (length bytes) g) kept) (piece : FitsExtent m.catalog.shape x.index inner (length bytes)) (failed : ℕ)
    (has : NowOnly s (HaveBut (places_at m x inner) failed bytes)) where
  abbrev len : ℕ
  len = length bytes

  abbrev h : Group
  h = piece_freed x inner len g

  abbrev x_span : Span
  x_span = piece_of x inner len

  abbrev t : Tables
  t = m.catalog.tables

  abbrev set : ℕ
  set = left_of m x inner failed

  abbrev u : Tables
  u = with_marks_changed t x.file x.index set 0

  abbrev put : ℕ → Cell
  put k = Known (slice_index bytes (k - inner))

  abbrev after : Group
  after = piece_written x inner bytes h

  module _ (image : bay.Image) (left : s.leaves s.calls image) (are_u : AreTables u) (slots : ℕ) (later : List Item) (are_later : AreItemsOf u later) where
    abbrev ms : List Disk
    ms = all_members m.register.id (disks_in slots image)

    home_u : (f i c : ℕ) (hm : Home) → home_of later f i c ≡ Some hm → get_or (homes_at t f i) c None ≡ Some hm
    home_u f i c hm is = sym (home_by u later are_u are_later f i c) ∙ is

    -- a copy that is current by the tables with the marks was so before
    was_current : (f i c : ℕ) (hm : Home) (a : Disk) → IsCurrent m.register.value later f i c hm a → (its : List Item) → AreItemsOf t its → IsCurrent m.register.value its f i c hm a
    was_current f i c hm a current its are_its =
        let at = home_u f i c hm current.home in
        let say_u = items_say u later are_u are_later in
        let say_t = items_say t its mounts.whole.are_tables are_its in
        let fresh = unmarked_was t mounts.whole.are_tables x.file x.index set f i c (copy_low t mounts.whole.are_tables f i c hm at) (sym (say_u.stale f i c) ∙ current.fresh) in
        record {
          home = home_by t its mounts.whole.are_tables are_its f i c ∙ at;
          kept = current.kept;
          fresh = say_t.stale f i c ∙ fresh.0;
        }

    -- what the group with the piece Free knows stands there
    still_there : (f o b i q c : ℕ) (file : File) (hm : Home) (a : Disk) → maps.get h.files f ≡ Some file → get_or file.cells o Free ≡ Known b → LiesIn h.shape file.stripe o i q → IsAmong ms a
        → IsCurrent m.register.value later f i c hm a → byte (disks_in slots image) a.slot (hm.unit * h.shape.au + q) ≡ b
    still_there f o b i q c file hm a is_file cell lies among current =
        let its = have_items t mounts.whole.are_tables in
        (mounted_holds n m s h kept mounts).now image left slots its.0 its.1 f o b i q c file hm a is_file cell lies among (was_current f i c hm a current its.0 its.1)

    -- a current copy has the bytes in the span
    byte_there : (q c : ℕ) (hm : Home) (a : Disk) → IsAmong ms a → IsCurrent m.register.value later x.file x.index c hm a → inner ≤ q → q < inner + len
        → byte (disks_in slots image) a.slot (hm.unit * h.shape.au + q) ≡ slice_index bytes (q - inner)
    byte_there q c hm a among current low high =
        let at = home_u x.file x.index c hm current.home in
        let few = copy_low t mounts.whole.are_tables x.file x.index c hm at in
        let say_u = items_say u later are_u are_later in
        let fresh = unmarked_was t mounts.whole.are_tables x.file x.index set x.file x.index c few (sym (say_u.stale x.file x.index c) ∙ current.fresh) in
        let out : is_left m (extent_of m x) inner failed c ≡ false = sym (bit_left m x inner failed c few) ∙ fresh.1 refl refl in
        let own = extent_home t x.file x.index c hm few at in
        let took = copy_took m x inner failed c hm out own fresh.0 in
        let p = took.place in
        let is = place_is m (extent_of m x) inner c p took.is in
        let same_home : is.home ≡ hm = same_Some is.home hm (sym is.at ∙ own) in
        let there = has.now image left p (among_places n m s h kept sound mounts x inner len piece c p (in_three c few) took.is) took.bit in
        let slot : a.slot ≡ p.slot = kept_slot n m s h kept sound mounts image left slots a among hm current.kept p.slot (ap (λ (k : Home). slot_at m.disks k.disk) (sym same_home) ∙ is.slot) in
        let lt : a.slot < slots = (member_seen m.register.id slots image a among).slot in
        let within : q - inner < len = omega (arith, low, high) in
        let au : h.shape.au ≡ m.catalog.shape.au = ap (λ (z : Shape). z.au) mounts.represents.shape in
        let place : hm.unit * h.shape.au + q ≡ p.at + (q - inner) = ap (λ (z : ℕ). hm.unit * z + q) au ∙ ap (λ (k : Home). k.unit * m.catalog.shape.au + q) (sym same_home) ∙ omega (arith, is.byte, low) in
        let sized : image.size p.slot ≡ is.size = sound.sized p.slot is.size image (size_is m s mounts.ready is.home.disk p.slot is.size is.slot is.sized) left in
        let whole_in : p.at + len ≤ is.size = omega (arith, is.byte, is.whole, add-mul is.home.unit (units_of m.catalog.shape.step x.index) m.catalog.shape.au, piece.inside) in
        ap (λ (z : ℕ). byte (disks_in slots image) z (hm.unit * h.shape.au + q)) slot
        ∙ ap (λ (z : ℕ). byte (disks_in slots image) p.slot z) place
        ∙ listed_byte slots p.slot (p.at + (q - inner)) image (subst (λ (z : ℕ). z < slots) slot lt) (omega (arith, sized, whole_in, within))
        ∙ sym (get_or-window (image.byte p.slot) p.at len (q - inner) within)
        ∙ ap (λ (l : List ℕ). slice_index l (q - inner)) there
      where
        in_three : (k : ℕ) → k < 3 → IsAmong three k
        in_three zero lt = inl refl
        in_three (suc zero) lt = inr (inl refl)
        in_three (suc (suc zero)) lt = inr (inr (inl refl))
        in_three (suc (suc (suc k))) lt = absurd (omega arith)

    ok : is_shape h.shape ≡ true
    ok = subst (λ (z : Shape). is_shape z ≡ true) (sym mounts.represents.shape) mounts.whole.shape

    fits : inner + len ≤ extent_size h.shape x.index
    fits = subst (λ (z : Shape). inner + len ≤ extent_size z x.index) (sym mounts.represents.shape) piece.inside

    -- a known cell of the file that was written
    of_file : (o b i q c : ℕ) (old : File) (hm : Home) (a : Disk) → maps.get h.files x.file ≡ Some old → get_or (file_with h.shape x_span put old).cells o Free ≡ Known b → LiesIn h.shape old.stripe o i q
        → IsAmong ms a → IsCurrent m.register.value later x.file i c hm a → byte (disks_in slots image) a.slot (hm.unit * h.shape.au + q) ≡ b
    of_file o b i q c old hm a is cell lies among current = ⊎_elim
        (λ (index : i ≡ x.index). ⊎_elim
        (λ (below : q < inner). apart (λ k low high e. omega (arith, below, low, (place k low high e).1)))
        (λ (low : inner ≤ q). ⊎_elim
        (λ (high : q < inner + len).
        let lies_x : LiesIn h.shape old.stripe o x.index q = subst (λ (j : ℕ). LiesIn h.shape old.stripe o j q) index lies in
        let known = known_is (slice_index bytes (q - inner)) b (sym (cell_is_put h.shape x_span put old o q ok fits inside lies_x low high) ∙ cell) in
        byte_there q c hm a among (subst (λ (j : ℕ). IsCurrent m.register.value later x.file j c hm a) index current) low high ∙ known)
        (λ (beyond : inner + len ≤ q). apart (λ k low high e. omega (arith, beyond, high, (place k low high e).1)))
        (cases_lt q (inner + len)))
        (cases_lt q inner))
        (λ differ. apart (λ k low high e. differ (place k low high e).0))
        (cases_eq i x.index)
      where
        inside : o < length old.cells
        inside = ⊎_elim (λ lt. lt)
            (λ past. absurd (not_known b (sym (get_or_past (file_with h.shape x_span put old).cells o Free (subst (λ (k : ℕ). k ≤ o) (sym (length_stays h.shape x_span put old)) past)) ∙ cell)))
            (cases_lt o (length old.cells))
          where
            not_known : (b : ℕ) → Free ≡ Known b → ⊥
            not_known b e = cc

        -- an inner byte of the span at which the byte lies is its own
        place : (k : ℕ) → inner ≤ k → k < inner + len → file_byte old.stripe h.shape.au h.shape.step x.index k ≡ o → (i ≡ x.index) × (q ≡ k)
        place k low high e =
            let lies_k : LiesIn h.shape old.stripe o x.index k = record { inside = omega (arith, high, fits); byte = sym e } in
            one_place_of old.stripe h.shape.au h.shape.step o i q x.index k (layout_of h.shape ok) lies lies_k

        apart : ((k : ℕ) → inner ≤ k → k < inner + len → file_byte old.stripe h.shape.au h.shape.step x.index k ≢ o) → byte (disks_in slots image) a.slot (hm.unit * h.shape.au + q) ≡ b
        apart out = still_there x.file o b i q c old hm a is (sym (cell_stays h.shape x_span put old o out) ∙ cell) lies among current

    -- a known cell of the group with the bytes
    each_cell : (f o b i q c : ℕ) (file : File) (hm : Home) (a : Disk) → maps.get after.files f ≡ Some file → get_or file.cells o Free ≡ Known b → LiesIn h.shape file.stripe o i q
        → IsAmong ms a → IsCurrent m.register.value later f i c hm a → byte (disks_in slots image) a.slot (hm.unit * h.shape.au + q) ≡ b
    each_cell f o b i q c file hm a is_file cell lies among current = ⊎_elim
        (λ (same : f ≡ x.file).
        let found : option_map (file_with h.shape x_span put) (maps.get h.files f) ≡ Some file = sym (cond-true (f == x.file) _ _ (eq-eqb f x.file same)) ∙ sym ((files_are_put x_span put h).1 f) ∙ is_file in
        of_old same (maps.get h.files x.file) refl (ap (λ (k : ℕ). option_map (file_with h.shape x_span put) (maps.get h.files k)) (sym same) ∙ found))
        (λ differ.
        let found : maps.get h.files f ≡ Some file = sym (cond-false (f == x.file) (option_map (file_with h.shape x_span put) (maps.get h.files f)) (maps.get h.files f) (ne_eqb f x.file differ)) ∙ sym ((files_are_put x_span put h).1 f) ∙ is_file in
        still_there f o b i q c file hm a found cell lies among current)
        (cases_eq f x.file)
      where
        of_old : f ≡ x.file → (p : Option File) → maps.get h.files x.file ≡ p → option_map (file_with h.shape x_span put) p ≡ Some file → byte (disks_in slots image) a.slot (hm.unit * h.shape.au + q) ≡ b
        of_old same None at is = absurd (none-some file is)
        of_old same (Some old) at is =
            let e : file_with h.shape x_span put old ≡ file = same_Some (file_with h.shape x_span put old) file is in
            of_file o b i q c old hm a at (ap (λ (z : File). get_or z.cells o Free) e ∙ cell) (subst (λ (z : File). LiesIn h.shape z.stripe o i q) (sym e) lies) among
            (subst (λ (k : ℕ). IsCurrent m.register.value later k i c hm a) same current)

  shape_with : (y : Span) (p : ℕ → Cell) (k : Group) → (group_with y p k).shape ≡ k.shape
  unfolding group_with
  shape_with y p k = refl

  -- by the tables with the marks each image holds the group with the bytes
  pub marked_holds : AreTables u → NowOnly s (HoldsIn m.register.id m.register.value u (piece_written x inner bytes g))
  marked_holds are_u = record {
    now = λ image left. subst (λ (k : Group). HoldsIn m.register.id m.register.value u k image) (put_again x_span _ _ g)
        (λ slots later are_later f o b i q c file hm a is_file cell lies among current.
        let shape : after.shape ≡ h.shape = shape_with x_span put h in
        subst (λ (z : Shape). byte (disks_in slots image) a.slot (hm.unit * z.au + q) ≡ b) (sym shape)
        (each_cell image left are_u slots later are_later f o b i q c file hm a is_file cell (subst (λ (z : Shape). LiesIn z file.stripe o i q) shape lies) among current));
  }
