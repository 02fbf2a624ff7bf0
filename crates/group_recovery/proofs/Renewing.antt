-- The record that a mount writes anew may be begun.
use Rattle.std.proofs.Common.{◌≡◌, inl, inr, ℕ, ◌<◌, ◌≤◌, Bool, false, List, refl, sym, ap, subst, ◌∙◌, Option, Some, None, arith, IsTrue}
use Rattle.std.proofs.lemmas.Option.{same_Some}
use Rattle.asm_group.specs.Group.{Group}
use Rattle.asm_formats.specs.Regions.{units_in}
use Rattle.asm_formats.specs.Content.{Content}
use Rattle.asm_formats.specs.Status.{Status, entry_of, is_status}
use Rattle.asm_formats.specs.Following.{Holder, FollowsSets, Follows, sets, sets_of, rank}
use Rattle.asm_formats.proofs.Orders.{same_sets_follow}
use Rattle.asm_formats.specs.Among.{IsAmong}
use Rattle.asm_images.specs.Members.{ImageBytes, Member, all_members, within, statuses}
use Rattle.asm_images.specs.Register.{Fits, current_records, base, is_enough}
use Rattle.asm_images.specs.Copies.{is_kept}
use Rattle.asm_images.specs.Stands.{Describes, HasEntryUnits}
use Rattle.asm_images.specs.Sound.{IsCovered, SoundBy}
use Rattle.asm_images.specs.Steps.{CoversBirths, IsBegun}
use Rattle.asm_images.specs.MountLaws.{HaveClaimed}
use Rattle.asm_images.specs.RecordLaws.{ChangesModes}
use Rattle.asm_images.proofs.Covers.{fewer_copies_are_covered, modes_are_covered}
use Rattle.asm_images.proofs.Mounts.{claim_is_seen}
use Rattle.group_recovery.specs.Renewing.{Renews}
use Rattle.asm_images.proofs.Bare.{same_entry, same_sets, same_places, same_regular, all_info, has_bare, births_in}

pub renewed_follows : (r s : Status) → Renews r s → sets s ≡ sets r
renewed_follows r s n = (λ i. sets_of s.entries (n.holders i) (n.next_holders i)) ∙ same_sets s.entries r.entries r.holders r.next_holders n.entries

renewed_changes : (r s : Status) → Renews r s → ChangesModes (record r { directories = s.directories }) s
unfolding is_kept
renewed_changes r s n = record {
  directories = refl;
  births = omega (arith, n.births);
  entries = n.entries;
  kept = n.kept;
  partners = n.partners;
}

pub renewed_is_covered : (id : ℕ) (image : ImageBytes) (groups : List Group) (r s : Status) → Renews r s → IsCovered id image (all_members id image) groups r
    → IsCovered id image (all_members id image) groups s
renewed_is_covered id image groups r s n cover =
    modes_are_covered id image groups (record r { directories = s.directories }) s (renewed_changes r s n) (fewer_copies_are_covered id image groups r s.directories n.fewer cover)

pub renewed_births : (id : ℕ) (image : ImageBytes) (groups : List Group) (completed : Option Status) (begun : List Status) (r s : Status) → SoundBy id image groups completed begun
    → IsAmong (statuses id (all_members id image)) r → Renews r s → CoversBirths completed begun s
renewed_births id image groups completed begun r s sound stands n t e counts not_gone among =
    let f = births_in s.entries r.entries n.entries e among in
    omega (arith, f.2, (sound.covered t counts not_gone).entry_births r f.0 stands f.1)

-- a record with the sets of one that counts follows what that follows
pub follows_base : (id : ℕ) (ms : List Member) (completed : Option Status) (begun : List Status) (r s v : Status) → Fits id ms completed begun → sets s ≡ sets r → base completed begun ≡ Some v
    → IsAmong (current_records completed begun) r → Follows v s
follows_base id ms (Some w) begun r s v fits same is (inl e) = same_sets_follow v s (same ∙ ap sets e ∙ ap sets (same_Some w v is))
follows_base id ms (Some w) begun r s v fits same is (inr h) = subst (λ (l : List (List Holder)). FollowsSets (sets v) l) (sym same) (fits.follow v r is h)
follows_base id ms None begun r s v fits same is h = subst (λ (l : List (List Holder)). FollowsSets (sets v) l) (sym same) (fits.follow v r is h)

pub renewed_begins : (id : ℕ) (image : ImageBytes) (groups : List Group) (completed : Option Status) (begun : List Status) (r s : Status) (holders : ℕ → Bool)
    → SoundBy id image groups completed begun → IsAmong (current_records completed begun) r → r.gone ≡ false → Renews r s → IsTrue (is_status s)
    → ((t : Status) → IsAmong (current_records completed begun) t → rank t < rank s)
    → IsTrue (is_enough r (within holders (all_members id image))) → HaveClaimed id (within holders (all_members id image)) s.epoch
    → IsBegun id image groups completed begun s
renewed_begins id image groups completed begun r s holders sound counts not_gone n ok above enough claimed =
    let follows : (v : Status) → base completed begun ≡ Some v → Follows v s =
    λ v is. follows_base id (all_members id image) completed begun r s v sound.fits (renewed_follows r s n) is counts in
    record {
      allowed = ok;
      above = above;
      follows = follows;
      claimed = claim_is_seen id image completed begun sound.fits r s holders counts enough claimed follows;
      covered = λ alive. renewed_is_covered id image groups r s n (sound.covered r counts not_gone);
    }

-- ---- what a content describes under it

pub described_renewed : (image : ImageBytes) (all : List Member) (r s : Status) (c : Content) (g : Group) → Renews r s → Describes image all all r c g → Describes image all all s c g
described_renewed image all r s c g n d = record {
  distinct = d.distinct;
  disks = λ m h. let k = d.disks m h in record { claims = k.claims; statuses = k.statuses; directories = k.directories; name = k.name; shape = k.shape; units = units m k.units };
  items = d.items;
  decodes = d.decodes;
  describes = let k = d.describes in record {
    tree = k.tree;
    tree_rules = k.tree_rules;
    files = k.files;
    extents = k.extents;
    extent_rules = k.extent_rules;
    owned = k.owned;
    places = same_places s.entries r.entries g.shape d.items n.entries ∙ k.places;
    regular = λ f i copy h at. same_regular (entry_of s.entries h.disk) (entry_of r.entries h.disk) (same_entry s.entries r.entries h.disk n.entries) ∙ k.regular f i copy h at;
    templates = k.templates;
    attributes = k.attributes;
    next = k.next;
    disks = all_info d.items s.entries r.entries n.entries ∙ k.disks;
    partners = n.partners;
    room = k.room;
  };
  bytes = λ f o b i inner copy file h m is cell lies hm current.
      d.bytes f o b i inner copy file h m is cell lies hm (record { home = current.home; kept = n.kept h.disk m.header current.kept; fresh = current.fresh });
}
  where
    units : (m : Member) → HasEntryUnits r m → HasEntryUnits s m
    units m have e is birth =
        let b = has_bare s.entries r.entries m.header.number e n.entries is in
        subst (λ (k : ℕ). k ≤ units_in m.header.shape m.disk.size) (sym (ap (λ (x : ℕ × ℕ × ℕ × Bool). x.2) b.same)) (have b.entry b.is (sym (ap (λ (x : ℕ × ℕ × ℕ × Bool). x.1) b.same) ∙ birth))
