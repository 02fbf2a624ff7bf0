-- What calls leave of the bytes that a group is held by.
use Rattle.std.proofs.Common.{◌≡◌, inl, inr, ⊎_elim, ℕ, ◌+◌, ◌*◌, ◌<◌, ◌≤◌, List, get_or, slice_index, refl, sym, ap, subst, ◌∙◌, Option, Some, None, arith, IsTrue, mul-le-mul_right, add-mul}
use Rattle.std.specs.Option.{option_map}
use Rattle.std.proofs.lemmas.List.{get_or_past}
use Rattle.std.proofs.lemmas.Option.{none-some, same_Some}
use Rattle.bay.specs.Image as bay
use Rattle.bay.specs.Image.{ChangesOnly, Range}
use Rattle.bay.specs.State.{BayState}
use Rattle.asm_group.specs.Shape.{Shape}
use Rattle.asm_formats.specs.Among.{IsAmong}
use Rattle.asm_formats.specs.Bytes.{block_size}
use Rattle.asm_formats.specs.Header.{Header}
use Rattle.asm_formats.specs.Places.{SameElsewhere}
use Rattle.asm_formats.specs.Regions.{region_end}
use Rattle.asm_formats.proofs.Framing.{header_before}
use Rattle.asm_placement.specs.Layout.{units_of}
use Rattle.asm_images.specs.Bridge.{disk_bytes, disks_in}
use Rattle.asm_images.specs.Copies.{IsCurrent, is_kept}
use Rattle.asm_images.specs.Kept.{header_in}
use Rattle.asm_images.specs.Members.{Member, all_members, byte}
use Rattle.asm_images.specs.WriteLaws.{AreApart}
use Rattle.asm_images.proofs.Bridges.{bytes_are_listed, disks_are_listed}
use Rattle.asm_images.proofs.UserBytes.{shape_au}
use Rattle.catalog_laws.proofs.HavingItems.{have_items}
use Rattle.catalog_laws.proofs.ItemLists.{items_say}
use Rattle.group_of.proofs.Extents.{home_by}
use Rattle.group_engine.proofs.Slots.{member_seen, member_there, same_index}
use Rattle.status_register.specs.Surveys.{disk_in}
use Rattle.status_register.specs.declared.member.Member as registered
use Rattle.piece_laws.proofs.Kept.{home_is_behind, kept_as, member_header}
use Rattle.flight_laws.specs.Agreeing.{HasCurrent}
use Rattle.flight_laws.specs.Elsewhere.{AgreesElsewhere, AttachedAreIn, HoldsElsewhere, DescribedHomesAreUser, KeepsHeaders, LieInUnits, MetadataAgrees, MetadataHolds, OnMetadata, SpareAgrees, SpareHolds}

-- ---- members stay

module _ (old new : bay.Image) (keeps : KeepsHeaders old new) where
  pub header_stays : (s : ℕ) → header_in new s ≡ header_in old s
  header_stays s =
      let same : SameElsewhere (disk_bytes old s) (disk_bytes new s) (2 * block_size) (old.size s) = record {
        size = (bytes_are_listed new s).0 ∙ keeps.size s ∙ sym (bytes_are_listed old s).0;
        before = λ k lt. same_index old new s k (keeps.size s) (keeps.byte s k lt);
        behind = λ k le. get_or_past (disk_bytes new s) k 0 (omega (arith, (bytes_are_listed new s).0, keeps.size s, le))
            ∙ sym (get_or_past (disk_bytes old s) k 0 (omega (arith, (bytes_are_listed old s).0, le)));
      } in
      header_before (disk_bytes old s) (disk_bytes new s) (2 * block_size) (old.size s) same (omega arith)

  -- a member was one before, with the header that it has
  pub record WasMember (id slots : ℕ) (k : Member) : Type 0 where
    pub was : Member
    pub among : IsAmong (all_members id (disks_in slots old)) was
    pub slot : was.slot ≡ k.slot
    pub header : was.header ≡ k.header
    pub inside : k.slot < slots

  pub was_member : (id slots : ℕ) (k : Member) → IsAmong (all_members id (disks_in slots new)) k → WasMember id slots k
  was_member id slots k among =
      let seen = member_seen id slots new k among in
      record {
        was = record { slot = k.slot; header = k.header; disk = disk_in old k.slot };
        among = member_there id slots k.slot old k.header seen.slot (sym (header_stays k.slot) ∙ seen.header) seen.group;
        slot = refl;
        header = refl;
        inside = seen.slot;
      }

  -- a byte that is as it was is so in the lists
  pub byte_stays : (slots slot k : ℕ) → slot < slots → new.byte slot k ≡ old.byte slot k → byte (disks_in slots new) slot k ≡ byte (disks_in slots old) slot k
  byte_stays slots slot k lt same =
      ap (λ (l : List ℕ). slice_index l k) (disks_are_listed slots slot new lt).1 ∙ same_index old new slot k (keeps.size slot) same
      ∙ sym (ap (λ (l : List ℕ). slice_index l k) (disks_are_listed slots slot old lt).1)

  -- so the byte of a member at a place
  pub place_stays : (id slots place : ℕ) (k : Member) (w : WasMember id slots k) → new.byte w.was.slot place ≡ old.byte w.was.slot place
      → byte (disks_in slots new) k.slot place ≡ byte (disks_in slots old) w.was.slot place
  place_stays id slots place k w same =
      ap (λ (x : ℕ). byte (disks_in slots new) x place) (sym w.slot) ∙ byte_stays slots w.was.slot place (subst (λ (x : ℕ). x < slots) (sym w.slot) w.inside) same

-- ---- any part

pub agrees_elsewhere : AgreesElsewhere
agrees_elsewhere = λ id r g f i h end old new headers home agrees slots o b inner file k is_file cell lies lt among kept.
    let w = was_member old new headers id slots k among in
    let kept_then = subst (λ (x : Header). IsTrue (is_kept r h.disk x)) (sym w.header) kept in
    place_stays old new headers id slots (h.unit * g.shape.au + inner) k w (home slots o b inner file w.was is_file cell lies lt w.among kept_then)
    ∙ agrees slots o b inner file w.was is_file cell lies lt w.among kept_then

pub holds_elsewhere : HoldsElsewhere
holds_elsewhere = λ id r t g old new are headers known holds slots items mine f o b i inner copy file h k is_file cell lies among current.
    let say = items_say t items are mine in
    let has : HasCurrent t f i copy h = (sym (home_by t items are mine f i copy) ∙ current.home, sym (say.stale f i copy) ∙ current.fresh) in
    let w = was_member old new headers id slots k among in
    let kept_then = subst (λ (x : Header). IsTrue (is_kept r h.disk x)) (sym w.header) current.kept in
    let then : IsCurrent r items f i copy h w.was = record { home = current.home; kept = kept_then; fresh = current.fresh } in
    place_stays old new headers id slots (h.unit * g.shape.au + inner) k w (known f i copy h has slots o b inner file w.was is_file cell lies lies.inside w.among kept_then)
    ∙ holds slots items mine f o b i inner copy file h w.was is_file cell lies w.among then

-- ---- metadata

pub described_homes_are_user : DescribedHomesAreUser
described_homes_are_user = λ r t g are shape have f i copy h at.
    let items = have_items t are in
    home_is_behind g.shape r.entries items.0 f i copy h (shape_au g.shape shape) (have items.0 items.1).places (home_by t items.0 are items.1 f i copy ∙ at)

metadata_headers : (s : Shape) (old new : bay.Image) → OnMetadata s old new → KeepsHeaders old new
metadata_headers s old new changes = record { size = changes.size; byte = λ slot k lt. changes.byte slot k (λ met. omega (arith, lt, met.0)) }

behind_stays : (s : Shape) (old new : bay.Image) (slot at inner : ℕ) → OnMetadata s old new → region_end s.dir_blocks * block_size ≤ at → new.byte slot (at + inner) ≡ old.byte slot (at + inner)
behind_stays s old new slot at inner changes behind = changes.byte slot (at + inner) (λ met. omega (arith, met.1, behind))

pub metadata_holds : MetadataHolds
metadata_holds = λ id r t g old new are behind changes holds.
    holds_elsewhere id r t g old new are (metadata_headers g.shape old new changes)
    (λ f i copy h has slots o b inner file k is_file cell lies lt among kept. behind_stays g.shape old new k.slot (h.unit * g.shape.au) inner changes (behind f i copy h has.0)) holds

pub metadata_agrees : MetadataAgrees
metadata_agrees = λ id r g f i h end old new behind changes agrees.
    agrees_elsewhere id r g f i h end old new (metadata_headers g.shape old new changes)
    (λ slots o b inner file k is_file cell lies lt among kept. behind_stays g.shape old new k.slot (h.unit * g.shape.au) inner changes behind) agrees

-- ---- units in which nothing is kept

-- an inner byte of an extent isn't in units that are apart from its home
pub apart_bytes : (au unit len k m at n inner : ℕ) → LieInUnits au unit len at n → AreApart unit len k m → inner < m * au → at ≤ k * au + inner → k * au + inner < at + n → ⊥
apart_bytes au unit len k m at n inner run (inl le) lt low high = omega (arith, mul-le-mul_right au le, run.high, high)
apart_bytes au unit len k m at n inner run (inr le) lt low high = omega (arith, mul-le-mul_right au le, add-mul k m au, run.low, lt, low)

-- the member whose slot this is
pub of_slot : (o : Option registered.Member) (slot : ℕ) → option_map (λ (x : registered.Member). x.slot) o ≡ Some slot → (x : registered.Member) × (o ≡ Some x) × (x.slot ≡ slot)
of_slot None slot e = absurd (none-some slot e)
of_slot (Some x) slot e = (x, refl, same_Some x.slot slot e)

pub attached_are_in : (s : BayState) → AttachedAreIn s
attached_are_in = λ s n m g kept d slot mounts at. record {
  now = λ image left slots k among same.
      let x = of_slot (get_or m.register.members d None) slot (sym (mounts.whole.disks d) ∙ at) in
      let on = (mounts.register.now.now image left).members d x.0 x.1 in
      let header : k.header ≡ on.header = member_header m.register.id slots x.0.slot image on.header k among (same ∙ sym x.2) on.header_is in
      ap (λ (z : Header). z.number) header ∙ on.number ∙ mounts.whole.numbers d x.0 x.1;
}

pub range_headers : (slot at n : ℕ) (old new : bay.Image) → 2 * block_size ≤ at → ChangesOnly (Range slot at n) old new → KeepsHeaders old new
range_headers slot at n old new low changes = record { size = changes.size; byte = λ s k lt. changes.byte s k (λ met. omega (arith, lt, low, met.1)) }

pub spare_holds : SpareHolds
spare_holds = λ id r t g slot d unit len at n old new are disk run spare changes holds.
    holds_elsewhere id r t g old new are (range_headers slot at n old new run.header changes)
    (λ f i copy h has slots o b inner file k is_file cell lies lt among kept.
    changes.byte k.slot (h.unit * g.shape.au + inner) (λ met.
    let its : h.disk ≡ d = sym (kept_as r h k.header kept).number ∙ disk slots k among met.0 in
    ⊎_elim (λ away. apart_bytes g.shape.au unit len h.unit (units_of g.shape.step i) at n inner run away lies.inside met.1 met.2)
    (λ none. none o b inner file is_file cell lies) (spare f i copy h has its)))
    holds

pub spare_agrees : SpareAgrees
spare_agrees = λ id r g f i h end slot d unit len at n old new disk run away changes agrees.
    agrees_elsewhere id r g f i h end old new (range_headers slot at n old new run.header changes)
    (λ slots o b inner file k is_file cell lies lt among kept.
    changes.byte k.slot (h.unit * g.shape.au + inner) (λ met.
    apart_bytes g.shape.au unit len h.unit (units_of g.shape.step i) at n inner run (away (sym (kept_as r h k.header kept).number ∙ disk slots k among met.0)) lies.inside met.1 met.2))
    agrees
