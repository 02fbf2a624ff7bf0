-- An image that is sound under an id stays so where the disks of its members stay, whatever happens to others.
use Rattle.std.proofs.Common.{◌≡◌, ⊎_elim, ℕ, zero, suc, ◌+◌, ◌*◌, List, [], ◌∷◌, map, get_or, slice_index, refl, sym, ap, subst, ◌∙◌, Option, Some, None, arith, ◌==◌}
use Rattle.std.specs.List.{range_with_len}
use Rattle.std.proofs.lemmas.Bool.{cond-false, ne_eqb}
use Rattle.bay.specs.Image as bay
use Rattle.bay.specs.Image.{SameDisk}
use Rattle.asm_group.specs.Group.{Group}
use Rattle.asm_formats.specs.Header.{Header}
use Rattle.asm_formats.specs.Metadata.{Metadata, metadata}
use Rattle.asm_formats.specs.Status.{Status}
use Rattle.asm_formats.specs.Among.{IsAmong}
use Rattle.asm_images.specs.Bridge.{disk_bytes, disks_in}
use Rattle.asm_images.specs.Kept.{header_in}
use Rattle.asm_images.specs.Members.{Member, with_member, members_from, members, all_members, statuses}
use Rattle.asm_images.specs.Register.{Fits}
use Rattle.asm_images.specs.Sound.{SoundBy}
use Rattle.asm_images.proofs.Bridges.{disks_are_listed, same_disk}
use Rattle.group_engine.specs.Frames.{SparesGroup}
use Rattle.group_engine.proofs.Covering.{cover_over}
use Rattle.group_engine.proofs.Slots.{member_seen}

-- a disk of another group, or of none, is no member
no_member : (id slot : ℕ) (d : Metadata) (others : List Member) → ((h : Header) → d.header ≡ Some h → h.id ≡ id → ⊥) → with_member id slot d d.header others ≡ others
no_member id slot d others none = go d.header refl
  where
    go : (o : Option Header) → d.header ≡ o → with_member id slot d o others ≡ others
    go None is = refl
    go (Some h) is = cond-false (h.id == id) (record { slot = slot; header = h; disk = d } ∷ others) others (ne_eqb h.id id (none h is))

map_same : (ms : List Member) → map (λ (m : Member). m) ms ≡ ms
map_same [] = refl
map_same (m ∷ ms) = ap (λ (l : List Member). m ∷ l) (map_same ms)

pub same_bytes : (x y : bay.Image) (slot : ℕ) → SameDisk slot x y → disk_bytes y slot ≡ disk_bytes x slot
same_bytes x y slot same = same_disk x y slot same.size same.byte

-- the disk of a member stays
pub member_spared : (id : ℕ) (x y : bay.Image) → SparesGroup id x y → (slot : ℕ) (h : Header) → header_in x slot ≡ Some h → h.id ≡ id → SameDisk slot x y
member_spared id x y spares slot h is group = ⊎_elim (λ same. same) (λ none. absurd (none.0 h is group)) (spares slot)

module _ (id : ℕ) (x y : bay.Image) (spares : SparesGroup id x y) where
  members_stay : (slot n : ℕ) → members_from id slot (map metadata (map (disk_bytes y) (range_with_len slot n))) ≡ members_from id slot (map metadata (map (disk_bytes x) (range_with_len slot n)))
  unfolding metadata
  members_stay slot zero = refl
  members_stay slot (suc n) =
      let next : suc slot ≡ slot + 1 = omega arith in
      let rest : members_from id (suc slot) (map metadata (map (disk_bytes y) (range_with_len (slot + 1) n))) ≡ members_from id (suc slot) (map metadata (map (disk_bytes x) (range_with_len (slot + 1) n))) =
      subst (λ (k : ℕ). members_from id k (map metadata (map (disk_bytes y) (range_with_len (slot + 1) n))) ≡ members_from id k (map metadata (map (disk_bytes x) (range_with_len (slot + 1) n)))) (sym next) (members_stay (slot + 1) n) in
      ⊎_elim
      (λ (same : SameDisk slot x y). λ i. with_member id slot (metadata (same_bytes x y slot same i)) (metadata (same_bytes x y slot same i)).header (rest i))
      (λ none.
      no_member id slot (metadata (disk_bytes y slot)) _ (λ h there named. none.1 h there named) ∙ rest
      ∙ sym (no_member id slot (metadata (disk_bytes x slot)) _ (λ h there named. none.0 h there named)))
      (spares slot)

  pub all_stay : (b : ℕ) → all_members id (disks_in b y) ≡ all_members id (disks_in b x)
  unfolding members disks_in
  all_stay b = members_stay 0 b

  pub sound_stays : (groups : List Group) (completed : Option Status) (begun : List Status) (b : ℕ) → SoundBy id (disks_in b x) groups completed begun
      → SoundBy id (disks_in b y) groups completed begun
  sound_stays groups completed begun b before =
      let ms = all_members id (disks_in b x) in
      record {
        fits = subst (λ (l : List Member). Fits id l completed begun) (sym (all_stay b)) before.fits;
        covered = λ r counts alive. cover_over id (disks_in b x) (disks_in b y) groups r (λ m. m) (record { slot = λ m. refl; header = λ m. refl }) (all_stay b ∙ sym (map_same ms)) (λ m h. refl) (λ g m h d. d)
            (λ items f i copy inner h m fit among home.
            let seen = member_seen id b x m among in
            let same = same_bytes x y m.slot (member_spared id x y spares m.slot m.header seen.header seen.group) in
            let here : get_or (disks_in b y) m.slot [] ≡ get_or (disks_in b x) m.slot [] = (disks_are_listed b m.slot y seen.slot).1 ∙ same ∙ sym (disks_are_listed b m.slot x seen.slot).1 in
            ap (λ (l : List ℕ). slice_index l (h.unit * m.header.shape.au + inner)) here)
            (λ s e h k. (before.covered r counts alive).entry_births s e (subst (λ (l : List Member). IsAmong (statuses id l) s) (map_same ms) h) k)
            (before.covered r counts alive);
      }
