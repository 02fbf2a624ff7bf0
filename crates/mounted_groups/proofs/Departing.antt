-- What a disk that changes leaves of the ids that its header doesn't name afterwards.
use Rattle.std.proofs.Common.{◌≡◌, ◌≢◌, ⊎_elim, ℕ, ◌<◌, ◌≤◌, false, List, [], length, get_or, sym, ap, subst, ◌∙◌, Option, None, Some, arith}
use Rattle.std.specs.Prelude.{nat_le, ◌&&◌}
use Rattle.std.proofs.lemmas.Bool.{cases_lt, cond-false, and_right}
use Rattle.std.proofs.lemmas.List.{get_or-set_same, get_or-set_other, length-set, get_or-map, length-map}
use Rattle.std.proofs.Math.Seq.{map-set_same}
use Rattle.bay.specs.Image as bay
use Rattle.asm_group.specs.Group.{Group}
use Rattle.asm_formats.specs.Bytes.{is_open, block}
use Rattle.asm_formats.specs.Regions.{least_size, header_gate}
use Rattle.asm_formats.specs.Header.{Header, decoded_header}
use Rattle.asm_formats.specs.Metadata.{Metadata, metadata, header_of}
use Rattle.asm_formats.specs.Places.{SameElsewhere}
use Rattle.asm_formats.specs.Status.{Status}
use Rattle.asm_formats.specs.Among.{IsAmong}
use Rattle.asm_images.specs.Members.{ImageBytes, Member, members, metadata_of, all_members, written}
use Rattle.asm_images.specs.Bridge.{disk_bytes, disks_in, ChangesSlot}
use Rattle.asm_images.specs.Sound.{SoundBy}
use Rattle.asm_images.proofs.Members.{member_is, among_members}
use Rattle.asm_images.proofs.Describing.{spare_keeps}
use Rattle.asm_images.proofs.UserBytes.{metadata_write_keeps_copies}
use Rattle.asm_images.proofs.Bridges.{disks_are_listed, slot_change, beyond_is_unseen}
use Rattle.group_recovery.proofs.disk_images.Departing.{departs as image_departs}
use Rattle.mounted_groups.specs.Creating.{HasMember}

-- a shut gate shows no header
pub shut_header : (bytes : List ℕ) → is_open bytes header_gate ≡ false → header_of bytes ≡ None
shut_header bytes shut =
    cond-false (nat_le least_size (length bytes) && is_open bytes header_gate) (decoded_header (block bytes 1)) None (and_right (nat_le least_size (length bytes)) (is_open bytes header_gate) shut)

-- the header names another id, or there is none
abbrev pub NamesOther : ℕ → List ℕ → Type 0
NamesOther id bytes = (h : Header) → header_of bytes ≡ Some h → h.id ≢ id

-- ---- the disk leaves first, and changes then

module _ (id : ℕ) (old : ImageBytes) (groups : List Group) (slot : ℕ) (inside : slot < length old) where
  abbrev before : List ℕ
  before = get_or old slot []

  pub departs : (bytes : List ℕ) (completed : Option Status) (begun : List Status) → NamesOther id bytes → SoundBy id old groups completed begun → SoundBy id (written old slot bytes) groups completed begun
  departs bytes completed begun other sound =
      image_departs id old (record { slots = 0; id = id; groups = groups; completed = completed; begun = begun }) sound slot inside bytes other

  -- a member elsewhere was one before
  pub stays_member : (bytes : List ℕ) (m : Member) → m.slot ≢ slot → IsAmong (all_members id (written old slot bytes)) m → (n : Member) × IsAmong (all_members id old) n
  unfolding metadata members
  stays_member bytes m apart h =
      let is = member_is id (written old slot bytes) m h in
      let below : m.slot < length old = omega (arith, is.slot, length-set old slot bytes) in
      let same : get_or (written old slot bytes) m.slot [] ≡ get_or old m.slot [] = get_or-set_other old slot m.slot bytes [] apart in
      let header : (get_or (metadata_of old) m.slot (metadata [])).header ≡ Some m.header =
      ap (λ (d : Metadata). d.header) (get_or-map metadata old m.slot [] (metadata []) below) ∙ ap header_of (sym same) ∙ is.header in (
        record { slot = m.slot; header = m.header; disk = get_or (metadata_of old) m.slot (metadata []) },
        among_members id 0 m.slot m.slot (metadata_of old) (metadata []) m.header (omega arith) (omega (arith, below, length-map old metadata)) header is.group,
      )

  pub was_member : (bytes : List ℕ) → NamesOther id bytes → (m : Member) → IsAmong (all_members id (written old slot bytes)) m → (n : Member) × IsAmong (all_members id old) n
  was_member bytes other m h =
      let is = member_is id (written old slot bytes) m h in
      stays_member bytes m (λ at.
      let here : get_or (written old slot bytes) m.slot [] ≡ bytes = ap (λ (k : ℕ). get_or (written old slot bytes) k []) at ∙ get_or-set_same old slot bytes [] inside in
      other m.header (ap header_of (sym here) ∙ is.header) is.group) h

  -- ---- a change in front of the region that the metadata doesn't rest on

  pub same_metadata : (bytes : List ℕ) → metadata bytes ≡ metadata before → metadata_of (written old slot bytes) ≡ metadata_of old
  same_metadata bytes same = map-set_same metadata old slot bytes [] same

  pub spares : (bytes : List ℕ) (completed : Option Status) (begun : List Status) → metadata bytes ≡ metadata before → SameElsewhere before bytes 0 512 → SoundBy id old groups completed begun
      → SoundBy id (written old slot bytes) groups completed begun
  spares bytes completed begun same change sound = spare_keeps id old (written old slot bytes) groups completed begun sound (record {
    metadata = same_metadata bytes same;
    bytes = metadata_write_keeps_copies id old groups completed begun sound slot bytes 0 512 inside change (λ m h at. omega arith);
  })

-- ---- the same of images of all disks

module _ (id slot : ℕ) (old new : bay.Image) (changes : ChangesSlot slot old new) where
  abbrev now : List ℕ
  now = disk_bytes new slot

  in_list : (slots : ℕ) → slot < slots → slot < length (disks_in slots old)
  in_list slots lt = omega (arith, lt, (disks_are_listed slots slot old lt).0)

  -- by the slots that are looked at
  module _ (P : ImageBytes → Type 0) (slots : ℕ) (seen : slot < slots → P (written (disks_in slots old) slot now)) (unseen : P (disks_in slots old)) where
    pub looked_at : P (disks_in slots new)
    looked_at = ⊎_elim
        (λ (lt : slot < slots). subst P (sym (slot_change slots slot old new changes)) (seen lt))
        (λ (le : slots ≤ slot). subst P (sym (beyond_is_unseen slots slot old new le changes)) unseen)
        (cases_lt slot slots)

  pub other_sound : (slots : ℕ) (groups : List Group) (completed : Option Status) (begun : List Status) → NamesOther id now → SoundBy id (disks_in slots old) groups completed begun
      → SoundBy id (disks_in slots new) groups completed begun
  other_sound slots groups completed begun other sound = looked_at (λ image. SoundBy id image groups completed begun) slots
      (λ lt. departs id (disks_in slots old) groups slot (in_list slots lt) now completed begun other sound) sound

  pub other_member : NamesOther id now → HasMember id new → HasMember id old
  other_member other has = looked_at (λ image. IsAmong (all_members id image) has.member → HasMember id old) has.slots
      (λ lt h. let was = was_member id (disks_in has.slots old) [] slot (in_list has.slots lt) now other has.member h in record { slots = has.slots; member = was.0; is = was.1 })
      (λ h. record { slots = has.slots; member = has.member; is = h }) has.is

  pub elsewhere_member : (has : HasMember id new) → has.member.slot ≢ slot → HasMember id old
  elsewhere_member has apart = looked_at (λ image. IsAmong (all_members id image) has.member → HasMember id old) has.slots
      (λ lt h. let was = stays_member id (disks_in has.slots old) [] slot (in_list has.slots lt) now has.member apart h in record { slots = has.slots; member = was.0; is = was.1 })
      (λ h. record { slots = has.slots; member = has.member; is = h }) has.is

  module _ (same : metadata now ≡ metadata (disk_bytes old slot)) where
    same_there : (slots : ℕ) → slot < slots → metadata now ≡ metadata (get_or (disks_in slots old) slot [])
    same_there slots lt = same ∙ ap metadata (sym (disks_are_listed slots slot old lt).1)

    pub same_sound : (slots : ℕ) (groups : List Group) (completed : Option Status) (begun : List Status) → SameElsewhere (disk_bytes old slot) now 0 512 → SoundBy id (disks_in slots old) groups completed begun
        → SoundBy id (disks_in slots new) groups completed begun
    same_sound slots groups completed begun change sound = looked_at (λ image. SoundBy id image groups completed begun) slots
        (λ lt. spares id (disks_in slots old) groups slot (in_list slots lt) now completed begun (same_there slots lt)
        (subst (λ (l : List ℕ). SameElsewhere l now 0 512) (sym (disks_are_listed slots slot old lt).1) change) sound) sound

    pub same_member : HasMember id new → HasMember id old
    same_member has = looked_at (λ image. IsAmong (all_members id image) has.member → HasMember id old) has.slots
        (λ lt h. record { slots = has.slots; member = has.member; is = subst (λ (l : List Metadata). IsAmong (members id l) has.member) (same_metadata id (disks_in has.slots old) [] slot (in_list has.slots lt) now (same_there has.slots lt)) h })
        (λ h. record { slots = has.slots; member = has.member; is = h }) has.is
