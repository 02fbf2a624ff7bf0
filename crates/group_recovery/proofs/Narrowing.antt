-- A mount leaves the group that the content stood for that it took.
use Rattle.std.proofs.Common.{◌≡◌, inl, ⊎_elim, ℕ, ◌+◌, ◌*◌, ◌<◌, ◌≤◌, true, false, List, [], ◌∷◌, refl, sym, ap, subst, ◌∙◌, Option, Some, None, arith, mul-le-mul_right}
use Rattle.std.specs.Prelude.{nat_le}
use Rattle.std.specs.List.{list_all}
use Rattle.std.proofs.lemmas.Bool.{and_parts, leb-true, false≢true}
use Rattle.asm_placement.specs.Tables.{home_of}
use Rattle.asm_placement.specs.Placed.{Placed, placed, fits_entry, is_inside, all_apart, places_fit}
use Rattle.asm_group.specs.Shape.{Shape}
use Rattle.asm_group.specs.Group.{Group}
use Rattle.asm_formats.specs.Bytes.{block_size}
use Rattle.asm_formats.specs.Regions.{region_end, reserved_units}
use Rattle.asm_formats.specs.Header.{Header}
use Rattle.asm_formats.specs.Status.{Status, Entry, entry_of}
use Rattle.asm_formats.specs.Content.{Content}
use Rattle.asm_formats.specs.Items.{Item, Home}
use Rattle.asm_formats.specs.Among.{IsAmong}
use Rattle.asm_images.specs.Members.{ImageBytes, Member, byte, all_members}
use Rattle.asm_images.specs.Stands.{Describes}
use Rattle.asm_images.specs.Copies.{is_kept, IsCurrent}
use Rattle.asm_images.specs.ContentLaws.{HaveContent}
use Rattle.asm_images.specs.Sound.{IsCovered, SoundBy}
use Rattle.asm_images.proofs.OneContent.{one_content_is_covered}
use Rattle.asm_images.proofs.Members.{member_is, member_shape}
use Rattle.asm_images.proofs.UserBytes.{home_is_placed, all_of_list, reserved_cover, shape_au}
use Rattle.group_recovery.specs.Renewing.{Renews}
use Rattle.group_recovery.specs.Narrowing.{KeepsUserBytes, HasCopy}
use Rattle.group_recovery.proofs.Renewing.{described_renewed}
use Rattle.group_recovery.proofs.Taking.{at_slot, found_alone}

reserved_le : (s : Shape) (p : Placed) (o : Option Entry) → fits_entry s p o ≡ true → reserved_units s ≤ p.home.unit
reserved_le s p None e = absurd (false≢true e)
reserved_le s p (Some e) k = leb-true (reserved_units s) p.home.unit (and_parts (nat_le (reserved_units s) p.home.unit) (nat_le (p.home.unit + p.len) e.units) k).0

-- a home lies behind the directory region
home_is_behind : (s : Shape) (r : List Entry) (items : List Item) (f i copy : ℕ) (h : Home) → 0 < s.au → places_fit s r items ≡ true → home_of items f i copy ≡ Some h → region_end s.dir_blocks * block_size ≤ h.unit * s.au
home_is_behind s r items f i copy h au fit e =
    let p = home_is_placed s.step items f i copy h e in
    let inside = all_of_list (is_inside s r) (placed s.step items) p.0 (and_parts (list_all (is_inside s r) (placed s.step items)) (all_apart (placed s.step items)) fit).0 p.1 in
    let le : reserved_units s ≤ h.unit = subst (λ (x : Home). reserved_units s ≤ x.unit) p.2 (reserved_le s p.0 (entry_of r p.0.home.disk) inside) in
    omega (arith, reserved_cover s au, mul-le-mul_right s.au le)

module _ (id : ℕ) (old new : ImageBytes) (s : Status) (c : Content) (g other : Group) (keeps : KeepsUserBytes id old new)
    (before : Describes old (all_members id old) (all_members id old) s c g) (now : Describes new (all_members id new) (all_members id new) s c other) where
  -- a byte of a current copy is the one that it was
  byte_stays : (f i copy inner : ℕ) (h : Home) (m : Member) → IsAmong (all_members id new) m → IsCurrent s before.items f i copy h m → byte new m.slot (h.unit * g.shape.au + inner) ≡ byte old m.slot (h.unit * g.shape.au + inner)
  byte_stays f i copy inner h m among current =
      let k = keeps.member m among in
      let shape : m.header.shape ≡ g.shape = ap (λ (x : Header). x.shape) (sym k.3) ∙ (before.disks k.0 k.1).shape in
      let au : 0 < m.header.shape.au = shape_au m.header.shape (member_shape m.header (member_is id new m among).allowed) in
      let behind = home_is_behind g.shape s.entries before.items f i copy h (subst (λ (x : Shape). 0 < x.au) shape au) before.describes.places current.home in
      let place : region_end m.header.shape.dir_blocks * block_size ≤ h.unit * g.shape.au + inner = omega (arith, behind, ap (λ (x : Shape). x.dir_blocks) shape) in
      keeps.bytes m (h.unit * g.shape.au + inner) among place

  -- the disks that hold another group with the content hold this one with it
  pub described_still : Describes new (all_members id new) (all_members id new) s c g
  described_still = record {
    distinct = now.distinct;
    disks = λ m h. let k = keeps.member m h in
        let was = before.disks k.0 k.1 in
        let is = now.disks m h in
        record {
          claims = is.claims;
          statuses = is.statuses;
          directories = is.directories;
          name = ap (λ (x : Header). x.group) (sym k.3) ∙ was.name;
          shape = ap (λ (x : Header). x.shape) (sym k.3) ∙ was.shape;
          units = is.units;
        };
    items = before.items;
    decodes = before.decodes;
    describes = before.describes;
    bytes = λ f o b i inner copy file h m is cell lies hm current.
        let k = keeps.member m hm in
        byte_stays f i copy inner h m hm current ∙ ap (λ (slot : ℕ). byte old slot (h.unit * g.shape.au + inner)) (sym k.2)
        ∙ before.bytes f o b i inner copy file h k.0 is cell lies k.1 (record { home = current.home; kept = ap (is_kept s h.disk) k.3 ∙ current.kept; fresh = current.fresh });
  }

pub mount_narrows : (id : ℕ) (old new : ImageBytes) (groups : List Group) (completed : Option Status) (begun : List Status) (r s : Status) (c : Content) (g : Group)
    → SoundBy id old groups completed begun → IsAmong groups g → Describes old (all_members id old) (all_members id old) r c g
    → Renews r s → KeepsUserBytes id old new → SoundBy id new groups (Some s) [] → s.gone ≡ false → HasCopy id new s c
    → HaveContent s (all_members id new) c → SoundBy id new (g ∷ []) (Some s) []
mount_narrows id old new groups completed begun r s c g sound among described n keeps after not_gone copy have =
    let cover = after.covered s (inl refl) not_gone in
    let other = cover.described (at_slot copy.0.slot) c (found_alone id new s copy.0 c copy.1 copy.2 copy.3) in
    let before = described_renewed old (all_members id old) r s c g n described in
    let now = described_still id old new s c g other.0 keeps before other.2 in
    let left : IsCovered id new (all_members id new) (g ∷ []) s = one_content_is_covered id new (g ∷ []) s c g have cover.member_births cover.entry_births (inl refl) now in
    record {
      fits = after.fits;
      covered = λ t counts alive. ⊎_elim (λ (same : t ≡ s). subst (λ (x : Status). IsCovered id new (all_members id new) (g ∷ []) x) (sym same) left) (λ none. absurd none) counts;
    }
