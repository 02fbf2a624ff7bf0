-- What the disks of a mounted group say of it, by its history.
use Rattle.std.proofs.Common.{◌≡◌, ⊎_elim, ℕ, ◌+◌, ◌*◌, ◌<◌, ◌≤◌, true, not, List, [], ◌∷◌, length, get_or, refl, sym, ap, subst, ◌∙◌, Option, Some, None, arith, IsTrue, ◌==◌, mul-le-mul_right}
use Rattle.std.specs.Prelude.{nat_le}
use Rattle.std.specs.List.{list_all}
use Rattle.std.proofs.lemmas.Bool.{and_parts, eqb-true, leb-true, false≢true}
use Rattle.std.proofs.lemmas.Option.{same_Some}
use Rattle.std.proofs.lemmas.List.{length-map, get_or-map}
use Rattle.bay.specs.Image as bay
use Rattle.asm_group.specs.Shape.{Shape}
use Rattle.asm_group.specs.Group.{Group}
use Rattle.asm_formats.specs.Among.{IsAmong}
use Rattle.asm_placement.specs.Modes.{is_forced}
use Rattle.asm_placement.specs.Placed.{Placed, placed, fits_entry, is_inside, all_apart, places_fit}
use Rattle.asm_placement.specs.Tables.{home_of}
use Rattle.asm_formats.specs.Bytes.{block_size}
use Rattle.asm_formats.specs.Regions.{region_end, reserved_units}
use Rattle.asm_formats.specs.Header.{Header}
use Rattle.asm_formats.specs.Metadata.{Metadata, metadata, header_of}
use Rattle.asm_formats.specs.Status.{Status, Entry, entry_of}
use Rattle.asm_formats.specs.Items.{Item, Home}
use Rattle.asm_images.specs.Members.{ImageBytes, Member, members, metadata_of, all_members, within, AreDistinct}
use Rattle.asm_images.specs.Copies.{is_kept, is_disk_in}
use Rattle.asm_images.specs.Describing.{DescribesGroup}
use Rattle.asm_images.specs.Stands.{IsDiskOf, HoldsBytes, Describes}
use Rattle.asm_images.specs.Sound.{SoundBy}
use Rattle.asm_images.specs.Steps.{IsOpen}
use Rattle.asm_images.specs.Bridge.{disk_bytes, disks_in}
use Rattle.asm_images.specs.Kept.{Kept, header_in, IsHeld}
use Rattle.asm_images.proofs.History.{status_parts, status_counts}
use Rattle.asm_images.proofs.Members.{member_is, among_members}
use Rattle.asm_images.proofs.Bridges.{listed, disks_are_listed}
use Rattle.asm_images.proofs.UserBytes.{home_is_placed, all_of_list, reserved_cover}

-- ---- an open content

-- an open content describes the group that the image is sound for
pub record Tells (id : ℕ) (image : ImageBytes) (r : Status) (items : List Item) (g : Group) : Type 0 where
  pub distinct : AreDistinct (all_members id image)
  pub disks : (m : Member) → IsAmong (all_members id image) m → IsDiskOf g r m
  pub describes : DescribesGroup r items g
  pub bytes : HoldsBytes image (all_members id image) r items g

pub told : (id : ℕ) (image : ImageBytes) (g : Group) (completed : Option Status) (begun : List Status) → SoundBy id image (g ∷ []) completed begun
    → (r : Status) (items : List Item) → IsOpen id image completed begun r items → Tells id image r items g
told id image g completed begun sound r items o =
    let found = (sound.covered r o.counts o.not_gone).described o.readable o.content o.found in
    let group : found.0 ≡ g = ⊎_elim (λ e. e) (λ none. absurd none) found.1 in
    let d : Describes image (all_members id image) (all_members id image) r o.content g =
    subst (λ (k : Group). Describes image (all_members id image) (all_members id image) r o.content k) group found.2 in
    let same : d.items ≡ items = same_Some d.items items (sym d.decodes ∙ o.decodes) in
    record {
      distinct = d.distinct;
      disks = d.disks;
      describes = subst (λ (l : List Item). DescribesGroup r l g) same d.describes;
      bytes = subst (λ (l : List Item). HoldsBytes image (all_members id image) r l g) same d.bytes;
    }

-- with the attached disks there is one
pub record HasOpen (n id : ℕ) (kept : Kept) (image : bay.Image) : Type 0 where
  pub status : Status
  pub items : List Item
  pub is_open : IsOpen id (disks_in n image) (Some kept.completed) kept.begun status items

pub open_of : (n id : ℕ) (g : Group) (kept : Kept) (image : bay.Image) → IsHeld n id (g ∷ []) kept image → HasOpen n id kept image
open_of n id g kept image is =
    let ms = all_members id (disks_in n image) in
    let s = is.standing in
    let counts = status_counts id ms (Some kept.completed) kept.begun kept.slots s.record_ (is.sound n).fits s.status_is in
    let not_gone = (status_parts id (within kept.slots ms) s.record_ s.status_is).not_gone in
    let found = ((is.sound n).covered s.record_ counts not_gone).described kept.slots s.content s.directories_is in
    record {
      status = s.record_;
      items = found.2.items;
      is_open = record { counts = counts; not_gone = not_gone; readable = kept.slots; content = s.content; found = s.directories_is; decodes = found.2.decodes };
    }

-- ---- members

-- the member in a slot has the open header there
pub member_header : (id slots slot : ℕ) (image : bay.Image) (h : Header) (m : Member) → IsAmong (all_members id (disks_in slots image)) m → m.slot ≡ slot
    → header_in image slot ≡ Some h → m.header ≡ h
member_header id slots slot image h m among at found =
    let of = member_is id (disks_in slots image) m among in
    let lt : m.slot < slots = omega (arith, of.slot, listed slots image) in
    same_Some m.header h (sym of.header ∙ ap header_of (disks_are_listed slots m.slot image lt).1 ∙ ap (λ (s : ℕ). header_in image s) at ∙ found)

-- the disk of a copy is a member, among so many slots
pub record HasMember (id slots slot : ℕ) (image : bay.Image) (h : Header) : Type 0 where
  pub member : Member
  pub among : IsAmong (all_members id (disks_in slots image)) member
  pub slot_is : member.slot ≡ slot
  pub header : member.header ≡ h

pub has_member : (id slots slot : ℕ) (image : bay.Image) (h : Header) → slot < slots → header_in image slot ≡ Some h → h.id ≡ id → HasMember id slots slot image h
unfolding members metadata
has_member id slots slot image h lt found named =
    let disks = metadata_of (disks_in slots image) in
    let inside : slot < length (disks_in slots image) = omega (arith, lt, listed slots image) in
    let at : get_or disks slot (metadata []) ≡ metadata (disk_bytes image slot) =
    get_or-map metadata (disks_in slots image) slot [] (metadata []) inside ∙ ap metadata (disks_are_listed slots slot image lt).1 in
    let header : (get_or disks slot (metadata [])).header ≡ Some h = ap (λ (d : Metadata). d.header) at ∙ found in
    record {
      member = record { slot = slot; header = h; disk = get_or disks slot (metadata []) };
      among = among_members id 0 slot slot disks (metadata []) h (omega arith) (omega (arith, inside, length-map (disks_in slots image) metadata)) header named;
      slot_is = refl;
      header = refl;
    }

-- a kept disk has the home's number and the birth of its entry
pub record IsHeldAs (r : Status) (h : Home) (header : Header) : Type 0 where
  pub number : header.number ≡ h.disk
  pub entry : Entry
  pub entry_is : entry_of r.entries h.disk ≡ Some entry
  pub birth : header.birth ≡ entry.birth

pub kept_as : (r : Status) (h : Home) (header : Header) → IsTrue (is_kept r h.disk header) → IsHeldAs r h header
unfolding is_kept
kept_as r h header k = go (entry_of r.entries h.disk) refl k
  where
    go : (o : Option Entry) → entry_of r.entries h.disk ≡ o → is_disk_in (λ mode. not (is_forced mode)) h.disk header o ≡ true → IsHeldAs r h header
    go None is e = absurd (false≢true e)
    go (Some e) is k =
        let p = and_parts (header.number == h.disk) (header.birth == e.birth) (and_parts _ _ k).1 in
        record { number = eqb-true header.number h.disk p.0; entry = e; entry_is = is; birth = eqb-true header.birth e.birth p.1 }

-- ---- homes lie behind the metadata

reserved_le : (s : Shape) (entries : List Entry) (p : Placed) → is_inside s entries p ≡ true → reserved_units s ≤ p.home.unit
reserved_le s entries p h = go (entry_of entries p.home.disk) h
  where
    go : (o : Option Entry) → fits_entry s p o ≡ true → reserved_units s ≤ p.home.unit
    go None e = absurd (false≢true e)
    go (Some e) k = leb-true (reserved_units s) p.home.unit (and_parts (nat_le (reserved_units s) p.home.unit) (nat_le (p.home.unit + p.len) e.units) k).0

pub home_is_behind : (s : Shape) (r : List Entry) (items : List Item) (f i copy : ℕ) (h : Home) → 0 < s.au → places_fit s r items ≡ true → home_of items f i copy ≡ Some h
    → region_end s.dir_blocks * block_size ≤ h.unit * s.au
home_is_behind s r items f i copy h au fit e =
    let p = home_is_placed s.step items f i copy h e in
    let inside = all_of_list (is_inside s r) (placed s.step items) p.0 (and_parts (list_all (is_inside s r) (placed s.step items)) (all_apart (placed s.step items)) fit).0 p.1 in
    let le : reserved_units s ≤ h.unit = subst (λ (x : Home). reserved_units s ≤ x.unit) p.2 (reserved_le s r p.0 inside) in
    omega (arith, reserved_cover s au, mul-le-mul_right s.au le)
