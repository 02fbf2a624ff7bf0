-- What a mount rests on: its claim reaches every majority, and its epoch is new.
use Rattle.std.proofs.Common.{◌≡◌, inl, inr, ⊎_elim, ℕ, ◌<◌, ◌≤◌, Bool, List, ◌∷◌, refl, sym, ap, subst, ◌∙◌, Option, Some, None, arith, IsTrue}
use Rattle.asm_formats.specs.Among.{IsAmong}
use Rattle.asm_formats.specs.Claim.{Claim}
use Rattle.asm_formats.specs.Content.{Content}
use Rattle.asm_formats.specs.Status.{Status}
use Rattle.asm_formats.specs.Following.{rank}
use Rattle.asm_formats.specs.Metadata.{Metadata}
use Rattle.asm_images.specs.Members.{ImageBytes, Member, within, statuses, claims, claims_of_group, AreDistinct, all_members, disk_of}
use Rattle.asm_images.specs.Register.{Fits, current_records, greatest, is_enough, HasEpoch}
use Rattle.asm_images.specs.Directories.{copies}
use Rattle.asm_images.specs.Stands.{Describes}
use Rattle.asm_images.specs.Copies.{is_kept}
use Rattle.asm_group.specs.Group.{Group}
use Rattle.asm_images.specs.Sound.{IsCovered}
use Rattle.asm_images.proofs.Membership.{flat_map_among, among_within}
use Rattle.asm_images.proofs.History.{greatest_is, among_statuses, not_older}
use Rattle.asm_images.proofs.Members.{member_is}
use Rattle.asm_images.proofs.Sharing.{enough_meet, has_base, current_share, follower_shares}
use Rattle.asm_images.specs.Laws.{ShareASet}
use Rattle.asm_images.specs.MountLaws.{HaveClaimed}
use Rattle.asm_formats.specs.Following.{Follows}
use Rattle.asm_images.specs.Register.{base}
use Rattle.asm_images.proofs.Recording.{status_allowed, turn_below, epoch_le}

pub majority_is_claimed : (id : ℕ) (image : ImageBytes) (r s : Status) (holders slots : ℕ → Bool) (epoch : ℕ) → AreDistinct (all_members id image) → ShareASet r s
    → IsTrue (is_enough r (within holders (all_members id image))) → HaveClaimed id (within holders (all_members id image)) epoch
    → IsTrue (is_enough s (within slots (all_members id image))) → HasEpoch id (within slots (all_members id image)) epoch
unfolding claims
majority_is_claimed id image r s holders slots epoch distinct share enough claimed also =
    let ms = all_members id image in
    let both = enough_meet r s (within holders ms) (within slots ms) share enough also in
    let n = both.0 in
    let m = both.1 in
    let slot : n.slot ≡ m.slot = distinct n m (among_within holders ms n both.2) (among_within slots ms m both.3) both.4 both.5 in
    let disk : n.disk ≡ m.disk = (member_is id image n (among_within holders ms n both.2)).disk ∙ ap (λ (k : ℕ). disk_of image k) slot ∙ sym (member_is id image m (among_within slots ms m both.3)).disk in
    let c = claimed n both.2 in
    let here : IsAmong (claims_of_group id m.disk.claims) c.0 = subst (λ (d : Metadata). IsAmong (claims_of_group id d.claims) c.0) disk c.1 in
    inl (c.0, flat_map_among (λ (m : Member). claims_of_group id m.disk.claims) (within slots ms) m c.0 both.3 here, c.2)

-- what the step that begins a record asks of its claim
pub claim_is_seen : (id : ℕ) (image : ImageBytes) (completed : Option Status) (begun : List Status) → Fits id (all_members id image) completed begun
    → (g r : Status) (holders : ℕ → Bool) → IsAmong (current_records completed begun) g → IsTrue (is_enough g (within holders (all_members id image)))
    → HaveClaimed id (within holders (all_members id image)) r.epoch → ((v : Status) → base completed begun ≡ Some v → Follows v r)
    → (P : ℕ → Bool) (s : Status) → IsAmong (r ∷ current_records completed begun) s → IsTrue (is_enough s (within P (all_members id image)))
    → HasEpoch id (within P (all_members id image)) r.epoch
claim_is_seen id image completed begun fits g r holders counts enough claimed follows P s among also =
    let ms = all_members id image in
    let share : ShareASet g s = ⊎_elim
    (λ (same : s ≡ r). subst (λ (t : Status). ShareASet g t) (sym same) (let v = has_base completed begun g counts in
    let back = follower_shares id ms completed begun fits v.0 r g v.1 (follows v.0 v.1) counts in record { set = back.set; first = back.second; second = back.first }))
    (λ here. current_share id ms completed begun fits g s counts here) among in
    majority_is_claimed id image g s holders P r.epoch fits.distinct share enough claimed also

module _ (id : ℕ) (image : ImageBytes) (completed : Option Status) (begun : List Status) (slots : ℕ → Bool) (g : Status) (epoch : ℕ) (fits : Fits id (all_members id image) completed begun)
    (top : greatest (statuses id (within slots (all_members id image))) ≡ Some g) (enough : IsTrue (is_enough g (within slots (all_members id image))))
    (claims_below : (c : Claim) → IsAmong (claims id (within slots (all_members id image))) c → c.epoch < epoch)
    (records_below : (s : Status) → IsAmong (statuses id (within slots (all_members id image))) s → s.epoch < epoch) where
  abbrev ms : List Member
  ms = all_members id image

  g_counts : IsAmong (current_records completed begun) g
  g_counts =
      let is = greatest_is (statuses id (within slots ms)) g top in
      let one = fits.surveyed slots g top enough in
      ⊎_elim (λ c. c) (λ older. absurd (not_older id ms completed begun fits g one.0 one.2 (is.most one.0 one.1) older)) (fits.slots g (among_statuses id slots ms g is.among))

  begun_below : (s : Status) → IsAmong begun s → s.epoch < epoch
  begun_below s h = below (fits.claimed slots s g h g_counts enough)
    where
      below : HasEpoch id (within slots ms) s.epoch → s.epoch < epoch
      below (inl c) = omega (arith, c.2, claims_below c.0 c.1)
      below (inr r) = omega (arith, r.2, records_below r.0 r.1)

  -- the completed record isn't above the greatest that is read
  completed_below : (o : Option Status) (v : Status) → completed ≡ o → o ≡ Some v → v.epoch < epoch
  completed_below o v is some =
      let one = fits.surveyed slots g top enough in
      let there = among_statuses id slots ms one.0 one.1 in
      let turn = turn_below one.0 (status_allowed id image one.0 there) in
      let completed_is : completed ≡ Some v = is ∙ some in
      let rank_le : rank v ≤ rank one.0 = ⊎_elim (λ (same : one.0 ≡ v). omega (arith, ap rank same)) (λ later. omega (arith, fits.greater v one.0 completed_is later))
      (subst (λ (o : Option Status). IsAmong (current_records o begun) one.0) completed_is one.2) in
      omega (arith, epoch_le v one.0 rank_le turn, records_below one.0 one.1)

  all_below : (o : Option Status) → completed ≡ o → (s : Status) → IsAmong (current_records o begun) s → s.epoch < epoch
  all_below None is s h = begun_below s h
  all_below (Some v) is s (inl e) = omega (arith, ap (λ (r : Status). r.epoch) e, completed_below (Some v) v is refl)
  all_below (Some v) is s (inr h) = begun_below s h

pub surveyed_epoch_is_above : (id : ℕ) (image : ImageBytes) (completed : Option Status) (begun : List Status) (slots : ℕ → Bool) (g : Status) (epoch : ℕ)
    → Fits id (all_members id image) completed begun
    → greatest (statuses id (within slots (all_members id image))) ≡ Some g → IsTrue (is_enough g (within slots (all_members id image)))
    → ((c : Claim) → IsAmong (claims id (within slots (all_members id image))) c → c.epoch < epoch)
    → ((s : Status) → IsAmong (statuses id (within slots (all_members id image))) s → s.epoch < epoch)
    → (s : Status) → IsAmong (current_records completed begun) s → s.epoch < epoch
surveyed_epoch_is_above id image completed begun slots g epoch fits top enough claims_below records_below s h =
    all_below id image completed begun slots g epoch fits top enough claims_below records_below completed refl s h

-- ---- another number, and other holders

module _ (r : Status) (epoch turn holders next : ℕ) where
  abbrev renumbered : Status
  renumbered = record r { epoch = epoch; turn = turn; holders = holders; next_holders = next }

  same_copies : (members : List Member) → copies renumbered members ≡ copies r members
  unfolding copies
  same_copies members = refl

  described_again : (image : ImageBytes) (members : List Member) (c : Content) (g : Group) → Describes image members members r c g → Describes image members members renumbered c g
  unfolding is_kept
  described_again image members c g d = record {
    distinct = d.distinct;
    disks = λ m h. let k = d.disks m h in record { claims = k.claims; statuses = k.statuses; directories = k.directories; name = k.name; shape = k.shape; units = k.units };
    items = d.items;
    decodes = d.decodes;
    describes = let k = d.describes in record {
      tree = k.tree;
      tree_rules = k.tree_rules;
      files = k.files;
      extents = k.extents;
      extent_rules = k.extent_rules;
      owned = k.owned;
      places = k.places;
      regular = k.regular;
      templates = k.templates;
      attributes = k.attributes;
      next = k.next;
      disks = k.disks;
      partners = k.partners;
      room = k.room;
    };
    bytes = λ f o b i inner copy file h m is cell lies hm current. d.bytes f o b i inner copy file h m is cell lies hm (record { home = current.home; kept = current.kept; fresh = current.fresh });
  }

pub renumbered_is_covered : (id : ℕ) (image : ImageBytes) (groups : List Group) (r : Status) (epoch turn holders next : ℕ) → IsCovered id image (all_members id image) groups r
    → IsCovered id image (all_members id image) groups (record r { epoch = epoch; turn = turn; holders = holders; next_holders = next })
unfolding copies
renumbered_is_covered id image groups r epoch turn holders next cover = record {
  one_content = λ m n c d hm hn named_m named_n is_c is_d e. cover.one_content m n c d hm hn
      (record { named = named_m.named; entry = named_m.entry; entry_is = named_m.entry_is; birth = named_m.birth })
      (record { named = named_n.named; entry = named_n.entry; entry_is = named_n.entry_is; birth = named_n.birth }) is_c is_d e;
  member_births = cover.member_births;
  entry_births = cover.entry_births;
  described = λ P c is. let g = cover.described P c is in (g.0, g.1, described_again r epoch turn holders next image (all_members id image) c g.0 g.2);
}
