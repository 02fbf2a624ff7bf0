-- What a usable copy of a mounted group has agrees with each known cell.
use Rattle.std.proofs.Common.{◌≡◌, ℕ, zero, suc, ◌+◌, ◌-◌, ◌*◌, ◌/◌, ◌%◌, ◌<◌, ◌≤◌, Bool, true, false, cond, not, List, [], length, get_or, refl, sym, ap, subst, ◌∙◌, Option, Some, None, arith, IsTrue, add-mul}
use Rattle.std.specs.Option.{ForSome, option_and_then, unwrap_or}
use Rattle.std.proofs.lemmas.Bool.{and_from, and_parts, cond_both, eq-eqb, false≢true}
use Rattle.std.proofs.lemmas.Option.{none-some}
use Rattle.bay.specs.Image as bay
use Rattle.bay.specs.Image.{Same, window}
use Rattle.bay.specs.State.{BayState, IsSound}
use Rattle.bay.specs.Moments.{Runs}
use Rattle.bay.proofs.Images.{get_or-window, window-same}
use Rattle.asm_group.specs.declared.Mode.{Mode}
use Rattle.asm_group.specs.declared.Mode.TheVariants.{Online, Offline, Syncing, Dropping, Forced}
use Rattle.asm_group.specs.Group.{Group}
use Rattle.asm_group.specs.Names.{Bytes}
use Rattle.asm_group.specs.Shape.{Shape}
use Rattle.asm_base.specs.declared.kinds.ExtentId.{ExtentId}
use Rattle.asm_formats.specs.Header.{Header}
use Rattle.asm_formats.specs.Items.{Home, Homes, Item, chunk_len}
use Rattle.asm_formats.specs.Sets.{has_bit}
use Rattle.asm_formats.specs.Status.{Entry, Status, entry_of}
use Rattle.asm_placement.specs.Copies.{entry_at_home, is_on}
use Rattle.asm_placement.specs.Layout.{units_of}
use Rattle.asm_placement.specs.Modes.{is_forced, mode_is, serves}
use Rattle.asm_placement.specs.Tables.{home_of, homes_in}
use Rattle.asm_images.specs.Bridge.{disks_in}
use Rattle.asm_images.specs.Copies.{IsCurrent, is_disk_in, is_kept}
use Rattle.asm_images.specs.Kept.{Kept}
use Rattle.asm_images.specs.Members.{Member as Disk, byte}
use Rattle.record_laws.specs.catalog_tables.Tables.{Tables}
use Rattle.record_laws.proofs.catalog_laws.HavingItems.{have_items}
use Rattle.record_laws.proofs.catalog_laws.ItemLists.{items_say}
use Rattle.record_laws.specs.extent_copies.declared.extent.Extent.{Extent}
use Rattle.record_laws.specs.extent_copies.Extents.{can_be_read_at, copy_of}
use Rattle.record_laws.specs.extent_map.Extents.{absent_homes, chunk_at, extent_at, has_home}
use Rattle.record_laws.specs.status_register.Surveys.{disk_in}
use Rattle.record_laws.specs.group_engine.Mounts.{IsReady, MountedGroup, Mounts}
use Rattle.record_laws.proofs.group_engine.Bytes.{mounted_holds}
use Rattle.record_laws.proofs.group_engine.Slots.{member_there}
use Rattle.piece_laws.specs.Targets.{AgreesIn}
use Rattle.piece_laws.proofs.Settling.{listed_byte}
use Rattle.group_pieces.specs.declared.copies.Place.{Place}
use Rattle.group_pieces.specs.Copies.{IsUsablePiece, SomeHas}
use Rattle.group_pieces.specs.Usable.{FitsExtent, extent_of, piece_of, places_at}
use Rattle.group_pieces.proofs.Places.{IsPlaceAt, member_at, places_usable, size_is, some_place}

-- ---- what the tables say of a copy

none_at : (k : ℕ) (h : Home) → get_or absent_homes k None ≡ Some h → ⊥
none_at zero h is = none-some h is
none_at (suc zero) h is = none-some h is
none_at (suc (suc zero)) h is = none-some h is
none_at (suc (suc (suc k))) h is = none-some h is

-- the homes of the chunk, as the items have them
abbrev pub raw_homes : Tables → ℕ → ℕ → Homes
raw_homes t f i = get_or (unwrap_or (chunk_at t.extents (f, i / chunk_len)) []) (i % chunk_len) []

pub raw_home : (t : Tables) (f i k : ℕ) (h : Home) → get_or (unwrap_or (extent_at t.extents f i) absent_homes) k None ≡ Some h → get_or (raw_homes t f i) k None ≡ Some h
raw_home t f i k h is = go (chunk_at t.extents (f, i / chunk_len)) is
  where
    go : (o : Option (List Homes)) → get_or (unwrap_or (option_and_then (λ chunk. cond (has_home (get_or chunk (i % chunk_len) [])) (Some (get_or chunk (i % chunk_len) [])) None) o) absent_homes) k None ≡ Some h
        → get_or (get_or (unwrap_or o []) (i % chunk_len) []) k None ≡ Some h
    go None found = absurd (none_at k h found)
    go (Some w) found = cond_both (has_home (get_or w (i % chunk_len) [])) (Some (get_or w (i % chunk_len) [])) None
        (λ (o : Option Homes). get_or (unwrap_or o absent_homes) k None ≡ Some h → get_or (get_or w (i % chunk_len) []) k None ≡ Some h)
        (λ yes at. at) (λ no none. absurd (none_at k h none)) found

-- the items name the home
pub item_home : (t : Tables) (items : List Item) (f i k : ℕ) (h : Home) → ((c : ℕ) → homes_in items f c ≡ chunk_at t.extents (f, c)) → get_or (raw_homes t f i) k None ≡ Some h → home_of items f i k ≡ Some h
unfolding home_of
item_home t items f i k h say is = ap (λ (o : Option (List Homes)). get_or (get_or (unwrap_or o []) (i % chunk_len) []) k None) (say (i / chunk_len)) ∙ is

-- ---- the entry of a disk that serves

pub record IsEntered (r : Status) (d : ℕ) : Type 0 where
  pub entry : Entry
  pub is : entry_of r.entries d ≡ Some entry
  pub mode : is_forced entry.mode ≡ false

not_forced : (mode : Mode) → serves mode ≡ true → is_forced mode ≡ false
not_forced Online is = refl
not_forced Offline is = refl
not_forced Syncing is = refl
not_forced Dropping is = refl
not_forced Forced is = absurd (false≢true is)

pub entered : (r : Status) (x : Extent) (k : ℕ) (h : Home) → get_or x.homes k None ≡ Some h → can_be_read_at r.entries x k ≡ true → IsEntered r h.disk
entered r x k h is readable = go (entry_of r.entries h.disk) refl (ap (λ (o : Option Home). mode_is serves (entry_at_home r.entries o)) (sym is) ∙ (and_parts (is_on serves r.entries (copy_of x k)) _ readable).0)
  where
    go : (o : Option Entry) → entry_of r.entries h.disk ≡ o → mode_is serves o ≡ true → IsEntered r h.disk
    go None at none = absurd (false≢true none)
    go (Some e) at served = record { entry = e; is = at; mode = not_forced e.mode served }

not_true : (b : Bool) → not b ≡ true → b ≡ false
not_true true is = absurd (false≢true is)
not_true false is = refl

pub unmarked : (r : Status) (x : Extent) (k : ℕ) → can_be_read_at r.entries x k ≡ true → has_bit x.marks k ≡ false
unmarked r x k readable = not_true (has_bit x.marks k) (and_parts (is_on serves r.entries (copy_of x k)) _ readable).1

entered_kept : (r : Status) (d : ℕ) (header : Header) (e : Entry) → entry_of r.entries d ≡ Some e → is_forced e.mode ≡ false → header.number ≡ d → header.birth ≡ e.birth → IsTrue (is_kept r d header)
unfolding is_kept
entered_kept r d header e is mode number birth =
    subst (λ (o : Option Entry). is_disk_in (λ m. not (is_forced m)) d header o ≡ true) (sym is)
    (and_from _ _ (ap not mode) (and_from _ _ (eq-eqb header.number d number) (eq-eqb header.birth e.birth birth)))

-- ---- a place's bytes agree with each known cell

module _ (n : ℕ) (m : MountedGroup) (s : BayState) (g : Group) (kept : Kept) (sound : IsSound s) (mounts : Mounts n m s g kept) (ready : IsReady m s) (x : ExtentId) (inner len : ℕ)
    (piece : FitsExtent m.catalog.shape x.index inner len) where
  abbrev e : Extent
  e = extent_of m x

  at_place : (image : bay.Image) → s.leaves s.calls image → (k : ℕ) (p : Place) → IsPlaceAt m e inner k p → IsUsablePiece s len p → AgreesIn g (piece_of x inner len) (window (image.byte p.slot) p.at len)
  at_place image left k p at usable file o b q is_file cell lies low high =
      let its = have_items m.catalog.tables mounts.whole.are_tables in
      let say = items_say m.catalog.tables its.0 mounts.whole.are_tables its.1 in
      let mem = member_at m mounts.whole at.home.disk p.slot at.slot in
      let on = (mounts.register.now.now image left).members at.home.disk mem.member mem.is in
      let disk : Disk = record { slot = mem.member.slot; header = on.header; disk = disk_in image mem.member.slot } in
      let among = member_there m.register.id n mem.member.slot image on.header on.inside on.header_is on.group in
      let entry = entered m.register.value e k at.home at.at at.readable in
      let number : on.header.number ≡ at.home.disk = on.number ∙ mounts.whole.numbers at.home.disk mem.member mem.is in
      let birth : on.header.birth ≡ entry.entry.birth = on.birth ∙ mounts.whole.births at.home.disk mem.member entry.entry mem.is entry.is in
      let current : IsCurrent m.register.value its.0 x.file x.index k at.home disk = record {
        home = item_home m.catalog.tables its.0 x.file x.index k at.home (λ c. say.homes x.file c) (raw_home m.catalog.tables x.file x.index k at.home at.at);
        kept = entered_kept m.register.value at.home.disk on.header entry.entry entry.is entry.mode number birth;
        fresh = say.stale x.file x.index k ∙ unmarked m.register.value e k at.readable;
      } in
      let holds = (mounted_holds n m s g kept mounts).now image left n its.0 its.1 x.file o b x.index q k file at.home disk is_file cell lies among current in
      let same_slot : mem.member.slot ≡ p.slot = sym mem.slot_is in
      let au : g.shape.au ≡ m.catalog.shape.au = ap (λ (z : Shape). z.au) mounts.represents.shape in
      let place : at.home.unit * g.shape.au + q ≡ p.at + (q - inner) = ap (λ (z : ℕ). at.home.unit * z + q) au ∙ omega (arith, at.byte, low) in
      let within : q - inner < len = omega (arith, low, high) in
      let sized : image.size p.slot ≡ at.size = sound.sized p.slot at.size image (size_is m s ready at.home.disk p.slot at.size at.slot at.sized) left in
      let whole_in : p.at + len ≤ at.size = omega (arith, at.byte, at.whole, add-mul at.home.unit (units_of m.catalog.shape.step x.index) m.catalog.shape.au, piece.inside) in
      let inside : p.at + (q - inner) < image.size p.slot = omega (arith, whole_in, within, sized) in
      get_or-window (image.byte p.slot) p.at len (q - inner) within
      ∙ sym (listed_byte n p.slot (p.at + (q - inner)) image (subst (λ (z : ℕ). z < n) same_slot on.inside) inside)
      ∙ ap (λ (z : ℕ). byte (disks_in n image) p.slot z) (sym place)
      ∙ ap (λ (z : ℕ). byte (disks_in n image) z (at.home.unit * g.shape.au + q)) (sym same_slot)
      ∙ holds

  -- what was read from one of the places agrees
  pub read_agrees : (t : BayState) (buf : Bytes) (slots : ℕ → Type 0) → Runs slots Same s t → length buf ≡ len → ForSome t.holds (SomeHas (places_at m x inner) buf)
      → ForSome t.holds (λ image. AgreesIn g (piece_of x inner len) buf)
  read_agrees t buf slots runs is held = λ image holds.
      let from = runs.held image holds in
      let has = held image holds in
      let p = has.0 in
      let some = some_place m e inner p has.1 in
      let usable = places_usable m s x inner len mounts.whole ready piece p has.1 in
      let same : window (from.0.byte p.slot) p.at len ≡ buf =
      sym (window-same (from.0.byte p.slot) (image.byte p.slot) p.at len (λ z low high. from.2.byte p.slot z)) ∙ ap (λ (z : ℕ). window (image.byte p.slot) p.at z) (sym is) ∙ has.2 in
      subst (λ (l : Bytes). AgreesIn g (piece_of x inner len) l) same (at_place from.0 (sound.held from.0 from.1) some.copy p some.at usable)
