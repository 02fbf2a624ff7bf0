-- Once every copy without a mark has the bytes, the span's cells are known.
use Rattle.std.proofs.Common.{◌≡◌, inl, inr, ℕ, ◌+◌, ◌*◌, ◌<◌, ◌≤◌, Bool, false, List, [], ◌∷◌, get_or, slice_index, refl, sym, ap, subst, ◌∙◌, Some, None, arith}
use Rattle.std.proofs.lemmas.Option.{same_Some}
use Rattle.bay.specs.Image as bay
use Rattle.bay.specs.Image.{window}
use Rattle.bay.proofs.Images.{get_or-window}
use Rattle.asm_group.specs.Shape.{Shape}
use Rattle.asm_group.specs.Group.{Group}
use Rattle.asm_formats.specs.Among.{IsAmong}
use Rattle.asm_formats.specs.Header.{Header}
use Rattle.asm_formats.specs.Metadata.{header_of}
use Rattle.asm_formats.specs.Status.{Status, entry_of}
use Rattle.asm_formats.specs.Items.{Item, Home, Homes}
use Rattle.asm_images.specs.Members.{Member, byte, all_members}
use Rattle.asm_images.specs.Copies.{IsCurrent}
use Rattle.asm_images.specs.Describing.{extent_size}
use Rattle.asm_images.specs.Sound.{SoundBy}
use Rattle.asm_images.specs.Steps.{IsOpen}
use Rattle.asm_images.specs.Spans.{Span, freed, settled, group_with, FitsIn}
use Rattle.asm_images.specs.Bridge.{disks_in}
use Rattle.asm_images.specs.Kept.{Kept, header_in, IsHeld}
use Rattle.asm_images.proofs.Spans.{settle_keeps}
use Rattle.asm_images.proofs.Members.{member_is}
use Rattle.asm_images.proofs.Bridges.{listed, disks_are_listed, bytes_are_listed}
use Rattle.piece_laws.specs.Targets.{Target, start_of, AreTargets, HasBirth, AreAllUnmarked, HaveBytes}
use Rattle.piece_laws.specs.PieceLaws.{SettlingKnows}
use Rattle.piece_laws.proofs.Kept.{told, has_member, kept_as}
use Rattle.piece_laws.proofs.Again.{put_again}

-- a group with a span put anew has the shape of the group
pub freed_fits : (x : Span) (g : Group) → FitsIn (g ∷ []) x → FitsIn (freed x g ∷ []) x
unfolding group_with
freed_fits x g fits h (inl same) = subst (λ (k : Group). x.from + x.len ≤ extent_size k.shape x.index) (sym same) (fits g (inl refl))
freed_fits x g fits h (inr none) = absurd none

pub freed_shape : (x : Span) (g : Group) → (freed x g).shape ≡ g.shape
unfolding group_with
freed_shape x g = refl

-- a byte of a disk, in its list
pub listed_byte : (slots slot k : ℕ) (image : bay.Image) → slot < slots → k < image.size slot → byte (disks_in slots image) slot k ≡ image.byte slot k
listed_byte slots slot k image lt inside = ap (λ (l : List ℕ). slice_index l k) (disks_are_listed slots slot image lt).1 ∙ (bytes_are_listed image slot).1 k inside

module _ (n id : ℕ) (g : Group) (kept : Kept) (x : Span) (homes : Homes) (marks : ℕ → Bool) (targets : List Target) (bytes : List ℕ) (image : bay.Image)
    (is : IsHeld n id (freed x g ∷ []) kept image) (fits : FitsIn (g ∷ []) x) (are : AreTargets n id kept x.file x.index homes marks targets image)
    (all : AreAllUnmarked homes marks targets) (births : (t : Target) → IsAmong targets t → HasBirth kept t) (have : HaveBytes g.shape x targets bytes image) where
  -- members of one number and birth are in one slot, however many slots are looked at
  one_slot : (slots : ℕ) (m : Member) → IsAmong (all_members id (disks_in slots image)) m → (t : Target) (among : IsAmong targets t)
      → m.header.number ≡ t.home.disk → m.header.birth ≡ t.birth → m.slot ≡ t.slot
  one_slot slots m h t among number birth =
      let on = are.on t among in
      let of = member_is id (disks_in slots image) m h in
      let lt : m.slot < slots = omega (arith, of.slot, listed slots image) in
      let found : header_in image m.slot ≡ Some m.header = ap header_of (sym (disks_are_listed slots m.slot image lt).1) ∙ of.header in
      let mine = has_member id (slots + n) m.slot image m.header (omega arith) found of.group in
      let other = has_member id (slots + n) t.slot image on.header (omega (arith, on.inside)) on.found on.id_is in
      let numbers : mine.member.header.number ≡ other.member.header.number =
      ap (λ (z : Header). z.number) mine.header ∙ number ∙ sym on.number ∙ ap (λ (z : Header). z.number) (sym other.header) in
      let same_birth : mine.member.header.birth ≡ other.member.header.birth =
      ap (λ (z : Header). z.birth) mine.header ∙ birth ∙ sym on.birth ∙ ap (λ (z : Header). z.birth) (sym other.header) in
      sym mine.slot_is ∙ (is.sound (slots + n)).fits.distinct mine.member other.member mine.among other.among numbers same_birth ∙ other.slot_is

  same_byte : (slots : ℕ) (r : Status) (items : List Item) (copy inner : ℕ) (h : Home) (m : Member) → IsOpen id (disks_in slots image) (Some kept.completed) kept.begun r items
      → IsAmong (all_members id (disks_in slots image)) m → IsCurrent r items x.file x.index copy h m → inner < x.len
      → byte (disks_in slots image) m.slot (h.unit * m.header.shape.au + (x.from + inner)) ≡ slice_index bytes inner
  same_byte slots r items copy inner h m is_open among current lt =
      let home : get_or homes copy None ≡ Some h = sym (are.says.home slots copy r items is_open) ∙ current.home in
      let fresh : marks copy ≡ false = sym (are.says.stale slots copy r items is_open) ∙ current.fresh in
      let found = all copy h home fresh in
      let t = found.0 in
      let same_home : t.home ≡ h = same_Some t.home h (sym (are.home t found.1) ∙ ap (λ (k : ℕ). get_or homes k None) found.2 ∙ home) in
      let as_kept = kept_as r h m.header current.kept in
      let number : m.header.number ≡ t.home.disk = as_kept.number ∙ ap (λ (k : Home). k.disk) (sym same_home) in
      let birth : m.header.birth ≡ t.birth = as_kept.birth ∙ births t found.1 r as_kept.entry is_open.counts (ap (λ (k : Home). entry_of r.entries k.disk) same_home ∙ as_kept.entry_is) in
      let slot : m.slot ≡ t.slot = one_slot slots m among t found.1 number birth in
      let inside_slots : m.slot < slots = omega (arith, (member_is id (disks_in slots image) m among).slot, listed slots image) in
      let shape : m.header.shape ≡ g.shape = ((told id (disks_in slots image) (freed x g) (Some kept.completed) kept.begun (is.sound slots) r items is_open).disks m among).shape ∙ freed_shape x g in
      let place : h.unit * m.header.shape.au + (x.from + inner) ≡ start_of g.shape x t + inner =
      ap (λ (z : Shape). h.unit * z.au + (x.from + inner)) shape ∙ ap (λ (k : Home). k.unit * g.shape.au + (x.from + inner)) (sym same_home) ∙ omega arith in
      let has = have t found.1 in
      ap (λ (k : ℕ). byte (disks_in slots image) k (h.unit * m.header.shape.au + (x.from + inner))) slot
      ∙ ap (λ (k : ℕ). byte (disks_in slots image) t.slot k) place
      ∙ listed_byte slots t.slot (start_of g.shape x t + inner) image (subst (λ (k : ℕ). k < slots) slot inside_slots) (omega (arith, has.0, lt))
      ∙ sym (get_or-window (image.byte t.slot) (start_of g.shape x t) x.len inner lt)
      ∙ ap (λ (l : List ℕ). slice_index l inner) has.1

  settled_twice : settled x bytes (freed x g) ≡ settled x bytes g
  settled_twice = put_again x _ _ g

  settled_kept : IsHeld n id (settled x bytes g ∷ []) kept image
  settled_kept = record {
    sound = λ slots. subst (λ (k : Group). SoundBy id (disks_in slots image) (k ∷ []) (Some kept.completed) kept.begun) settled_twice
        (settle_keeps id (disks_in slots image) (freed x g ∷ []) (Some kept.completed) kept.begun (is.sound slots) x bytes
        (record { fits = freed_fits x g fits; same = λ r items copy inner h m is_open among current lt. same_byte slots r items copy inner h m is_open among current lt }));
    standing = is.standing;
    there = is.there;
  }

pub settling_knows : SettlingKnows
settling_knows = λ n id g kept x homes marks targets bytes image is fits are all births have. settled_kept n id g kept x homes marks targets bytes image is fits are all births have
