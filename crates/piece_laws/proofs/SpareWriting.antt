-- While spare bytes are written, the group is kept.
use Rattle.std.proofs.Common.{◌≡◌, inl, inr, ⊎_elim, ℕ, ◌+◌, ◌*◌, ◌<◌, ◌≤◌, true, List, [], ◌∷◌, slice_index, sym, ap, subst, ◌∙◌, Some, arith, mul-le-mul_right, add-mul}
use Rattle.std.proofs.lemmas.Bool.{cases_eq, false≢true}
use Rattle.std.proofs.lemmas.List.{get_or_past}
use Rattle.bay.specs.Image as bay
use Rattle.bay.specs.Image.{Range, ChangesOnly}
use Rattle.asm_group.specs.Shape.{Shape, is_shape}
use Rattle.asm_group.specs.Group.{Group}
use Rattle.asm_formats.specs.Among.{IsAmong}
use Rattle.asm_placement.specs.Layout.{units_of}
use Rattle.asm_formats.specs.Bytes.{block_size}
use Rattle.asm_formats.specs.Regions.{region_end, reserved_units}
use Rattle.asm_formats.specs.Header.{Header}
use Rattle.asm_formats.specs.Metadata.{Metadata, metadata}
use Rattle.asm_formats.specs.Places.{SameElsewhere}
use Rattle.asm_formats.specs.Status.{Status}
use Rattle.asm_formats.specs.Items.{Item, Home}
use Rattle.asm_formats.proofs.Framing.{user_write}
use Rattle.asm_images.specs.Members.{Member, metadata_of, all_members, members, within}
use Rattle.asm_images.specs.Register.{status}
use Rattle.asm_images.specs.Directories.{directories}
use Rattle.asm_images.specs.Copies.{IsCurrent}
use Rattle.asm_images.specs.Describing.{extent_size}
use Rattle.asm_images.specs.Steps.{IsOpen, KeepsByte}
use Rattle.asm_images.specs.WriteLaws.{AreApart}
use Rattle.asm_images.specs.Bridge.{disk_bytes, disks_in}
use Rattle.asm_images.specs.Kept.{Kept, header_in, IsHeld}
use Rattle.asm_images.proofs.Describing.{spare_keeps}
use Rattle.asm_images.proofs.Members.{member_is, member_shape}
use Rattle.asm_images.proofs.Bridges.{listed, disks_are_listed, bytes_are_listed, same_disk}
use Rattle.asm_images.proofs.UserBytes.{shape_au, reserved_cover}
use Rattle.piece_laws.specs.SpareLaws.{IsInRun, IsSpareRun, SpareWriteKeeps}
use Rattle.piece_laws.proofs.Kept.{Tells, told, HasOpen, open_of, member_header, has_member, kept_as}
use Rattle.piece_laws.proofs.Writing.{byte_kept, same_metadata}

module _ (n id : ℕ) (g : Group) (kept : Kept) (slot d unit len at count : ℕ) (old new : bay.Image) (is : IsHeld n id (g ∷ []) kept old)
    (run : IsInRun n id g.shape.au slot d unit len at count old) (reserved : reserved_units g.shape ≤ unit) (spare : IsSpareRun id g.shape.step kept d unit len old)
    (changes : ChangesOnly (Range slot at count) old new) where
  abbrev here : HasOpen n id kept old
  here = open_of n id g kept old is

  abbrev says : Tells id (disks_in n old) here.status here.items g
  says = told id (disks_in n old) g (Some kept.completed) kept.begun (is.sound n) here.status here.items here.is_open

  shape_is : run.header.shape ≡ g.shape
  shape_is =
      let m = has_member id n slot old run.header run.inside run.found run.id_is in
      ap (λ (h : Header). h.shape) (sym m.header) ∙ (says.disks m.member m.among).shape

  au_some : 0 < g.shape.au
  au_some =
      let m = has_member id n slot old run.header run.inside run.found run.id_is in
      shape_au g.shape (subst (λ (s : Shape). is_shape s ≡ true) (says.disks m.member m.among).shape (member_shape m.member.header (member_is id (disks_in n old) m.member m.among).allowed))

  behind : region_end g.shape.dir_blocks * block_size ≤ at
  behind = omega (arith, reserved_cover g.shape au_some, mul-le-mul_right g.shape.au reserved, run.low)

  metadata_stays : (s : ℕ) → metadata (disk_bytes new s) ≡ metadata (disk_bytes old s)
  metadata_stays s = ⊎_elim
      (λ (same_slot : s ≡ slot).
      let same : SameElsewhere (disk_bytes old s) (disk_bytes new s) at (old.size s) = record {
        size = (bytes_are_listed new s).0 ∙ changes.size s ∙ sym (bytes_are_listed old s).0;
        before = λ k lt. byte_kept (Range slot at count) old new changes s k (λ r. omega (arith, lt, r.1));
        behind = λ k le. get_or_past (disk_bytes new s) k 0 (omega (arith, (bytes_are_listed new s).0, changes.size s, le))
            ∙ sym (get_or_past (disk_bytes old s) k 0 (omega (arith, (bytes_are_listed old s).0, le)));
      } in
      let header : header_in old s ≡ Some run.header = ap (λ (k : ℕ). header_in old k) same_slot ∙ run.found in
      let end : region_end run.header.shape.dir_blocks * block_size ≤ at = subst (λ (z : Shape). region_end z.dir_blocks * block_size ≤ at) (sym shape_is) behind in
      user_write (disk_bytes old s) (disk_bytes new s) run.header at (old.size s) same header end)
      (λ differ. ap metadata (same_disk old new s (changes.size s) (λ k. changes.byte s k (λ r. differ r.0))))
      (cases_eq s slot)

  stays : (slots : ℕ) → metadata_of (disks_in slots new) ≡ metadata_of (disks_in slots old)
  stays slots = same_metadata slots old new metadata_stays

  apart : (k_unit m inner : ℕ) → AreApart unit len k_unit m → inner < m * g.shape.au → at ≤ k_unit * g.shape.au + inner → k_unit * g.shape.au + inner < at + count → ⊥
  apart k_unit m inner (inl le) lt low high = omega (arith, mul-le-mul_right g.shape.au le, run.high, high)
  apart k_unit m inner (inr le) lt low high = omega (arith, mul-le-mul_right g.shape.au le, add-mul k_unit m g.shape.au, run.low, lt, low)

  copy_bytes : (slots : ℕ) (r : Status) (items : List Item) (f i copy inner : ℕ) (h : Home) (m : Member) → IsOpen id (disks_in slots old) (Some kept.completed) kept.begun r items
      → IsAmong (all_members id (disks_in slots old)) m → IsCurrent r items f i copy h m → inner < extent_size m.header.shape i
      → KeepsByte (disks_in slots old) (disks_in slots new) m h inner
  copy_bytes slots r items f i copy inner h m is_open among current lt =
      let tells = told id (disks_in slots old) g (Some kept.completed) kept.begun (is.sound slots) r items is_open in
      let shape : m.header.shape ≡ g.shape = (tells.disks m among).shape in
      let inside : m.slot < slots = omega (arith, (member_is id (disks_in slots old) m among).slot, listed slots old) in
      let place = h.unit * m.header.shape.au + inner in
      let unmet : Range slot at count m.slot place → ⊥ = λ met.
      let header = member_header id slots slot old run.header m among met.0 run.found in
      let disk : h.disk ≡ d = sym (kept_as r h m.header current.kept).number ∙ ap (λ (z : Header). z.number) header ∙ run.number in
      let au : place ≡ h.unit * g.shape.au + inner = ap (λ (z : Shape). h.unit * z.au + inner) shape in
      let short : inner < units_of g.shape.step i * g.shape.au = subst (λ (z : Shape). inner < units_of z.step i * z.au) shape lt in
      ⊎_elim
      (λ away. apart h.unit (units_of g.shape.step i) inner away short (omega (arith, met.1, au)) (omega (arith, met.2, au)))
      (λ stale. false≢true (sym current.fresh ∙ stale))
      (spare slots f i copy r items h is_open current.home disk) in
      ap (λ (l : List ℕ). slice_index l place) (disks_are_listed slots m.slot new inside).1
      ∙ byte_kept (Range slot at count) old new changes m.slot place unmet
      ∙ sym (ap (λ (l : List ℕ). slice_index l place) (disks_are_listed slots m.slot old inside).1)

  header_stays : (s : ℕ) → header_in new s ≡ header_in old s
  unfolding metadata
  header_stays s = ap (λ (x : Metadata). x.header) (metadata_stays s)

  kept_after : IsHeld n id (g ∷ []) kept new
  kept_after =
      let same : all_members id (disks_in n new) ≡ all_members id (disks_in n old) = ap (λ (l : List Metadata). members id l) (stays n) in
      record {
        sound = λ slots. spare_keeps id (disks_in slots old) (disks_in slots new) (g ∷ []) (Some kept.completed) kept.begun (is.sound slots)
            (record { metadata = stays slots; bytes = λ r items f i copy inner h m is_open among current lt. copy_bytes slots r items f i copy inner h m is_open among current lt });
        standing = record {
          record_ = is.standing.record_;
          content = is.standing.content;
          status_is = ap (λ (ms : List Member). status id (within kept.slots ms)) same ∙ is.standing.status_is;
          directories_is = ap (λ (ms : List Member). directories is.standing.record_ (within kept.slots ms)) same ∙ is.standing.directories_is;
        };
        there = λ s yes. let has = is.there s yes in (has.0, header_stays s ∙ has.1, has.2);
      }

pub spare_write_keeps : SpareWriteKeeps
spare_write_keeps = λ n id g kept slot d unit len at count old new is run reserved spare changes. kept_after n id g kept slot d unit len at count old new is run reserved spare changes
