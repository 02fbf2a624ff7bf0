-- A claim that is put keeps what the image stands for.
use Rattle.std.proofs.Common.{◌≡◌, inl, inr, ℕ, ◌+◌, ◌*◌, ◌<◌, ◌≤◌, Bool, false, List, ◌∷◌, map, refl, sym, ap, subst, ◌∙◌, Option, Some, arith, IsTrue, ◌==◌}
use Rattle.std.specs.List.{list_all}
use Rattle.std.specs.Option.{is_some}
use Rattle.std.proofs.lemmas.Bool.{cond_both, eqb-true}
use Rattle.asm_formats.specs.Among.{IsAmong}
use Rattle.asm_group.specs.Shape.{Shape}
use Rattle.asm_formats.specs.Regions.{units_in}
use Rattle.asm_formats.specs.Header.{Header}
use Rattle.asm_formats.specs.Claim.{Claim}
use Rattle.asm_formats.specs.Status.{Status, Entry}
use Rattle.asm_formats.specs.Metadata.{Metadata, metadata}
use Rattle.asm_formats.specs.Content.{Content}
use Rattle.asm_images.specs.Directories.{newest, copies, directories, IsNamed}
use Rattle.asm_formats.specs.Items.{Item, Home}
use Rattle.asm_images.specs.Describing.{extent_size}
use Rattle.asm_images.specs.Members.{ImageBytes, Member, within, statuses, claims, claims_of_group, AreDistinct, all_members, byte, written, disk_of}
use Rattle.asm_images.specs.Register.{Fits, current_records, HoldsOne, HasEpoch, greatest, is_enough}
use Rattle.asm_images.specs.Stands.{Describes, IsDiskOf}
use Rattle.asm_images.specs.Copies.{IsCurrent, is_kept}
use Rattle.asm_group.specs.Group.{Group}
use Rattle.asm_images.specs.Sound.{IsCovered, SoundBy}
use Rattle.asm_images.specs.Steps.{KeepsCopies, RaisesClaims, IsClaimed}
use Rattle.asm_images.proofs.Membership.{among_flat_map, flat_map_among, among_within}
use Rattle.asm_images.proofs.Members.{member_is}
use Rattle.asm_images.proofs.Replacing.{Keeps, replaced, replaced_keeps, members_replaced, within_map, is_enough_map, statuses_map, copies_map}
use Rattle.asm_images.proofs.Membership.{among_map, map_among}

-- ---- from the members to the changed members

pub distinct_map : (f : Member → Member) → Keeps f → (ms : List Member) → AreDistinct ms → AreDistinct (map f ms)
distinct_map f keeps ms distinct m n hm hn number birth =
    let a = map_among f ms m hm in
    let b = map_among f ms n hn in
    let header_a : m.header ≡ a.0.header = ap (λ (x : Member). x.header) a.2 ∙ keeps.header a.0 in
    let header_b : n.header ≡ b.0.header = ap (λ (x : Member). x.header) b.2 ∙ keeps.header b.0 in
    let slot_a : m.slot ≡ a.0.slot = ap (λ (x : Member). x.slot) a.2 ∙ keeps.slot a.0 in
    let slot_b : n.slot ≡ b.0.slot = ap (λ (x : Member). x.slot) b.2 ∙ keeps.slot b.0 in
    slot_a ∙ distinct a.0 b.0 a.1 b.1
    (sym (ap (λ (h : Header). h.number) header_a) ∙ number ∙ ap (λ (h : Header). h.number) header_b)
    (sym (ap (λ (h : Header). h.birth) header_a) ∙ birth ∙ ap (λ (h : Header). h.birth) header_b) ∙ sym slot_b

module _ (old new : ImageBytes) (f : Member → Member) (keeps : Keeps f) (ms : List Member) where
  -- a current copy on a changed member is one on the member
  pub was_current : (r : Status) (items : List Item) (x i copy : ℕ) (h : Home) (m : Member) → IsCurrent r items x i copy h (f m) → IsCurrent r items x i copy h m
  was_current r items x i copy h m c = record { home = c.home; kept = ap (λ (d : Header). is_kept r h.disk d) (sym (keeps.header m)) ∙ c.kept; fresh = c.fresh }

  abbrev pub KeepsUnder : Status → List Item → Type 0
  KeepsUnder r items = (x i copy inner : ℕ) (h : Home) (m : Member) → IsAmong ms m → IsCurrent r items x i copy h m → inner < extent_size m.header.shape i
      → byte new m.slot (h.unit * m.header.shape.au + inner) ≡ byte old m.slot (h.unit * m.header.shape.au + inner)

  pub described_map : (r : Status) (c : Content) (g : Group) → ((m : Member) → IsAmong ms m → IsDiskOf g r m → IsDiskOf g r (f m)) → ((items : List Item) → c.items ≡ Some items → KeepsUnder r items)
      → Describes old ms ms r c g → Describes new (map f ms) (map f ms) r c g
  described_map r c g disks kept d = record {
    distinct = distinct_map f keeps ms d.distinct;
    disks = λ m hm. let a = map_among f ms m hm in subst (λ (n : Member). IsDiskOf g r n) (sym a.2) (disks a.0 a.1 (d.disks a.0 a.1));
    items = d.items;
    decodes = d.decodes;
    describes = d.describes;
    bytes = λ x o b i inner copy file h m is_file cell lies hm current.
        let a = map_among f ms m hm in
        let n = a.0 in
        let is_current : IsCurrent r d.items x i copy h n = was_current r d.items x i copy h n (subst (λ (y : Member). IsCurrent r d.items x i copy h y) a.2 current) in
        let shape = (d.disks n a.1).shape in
        let within_extent : inner < extent_size n.header.shape i = subst (λ (s : Shape). inner < extent_size s i) (sym shape) lies.inside in
        let same : byte new n.slot (h.unit * g.shape.au + inner) ≡ byte old n.slot (h.unit * g.shape.au + inner) =
        subst (λ (s : Shape). byte new n.slot (h.unit * s.au + inner) ≡ byte old n.slot (h.unit * s.au + inner)) shape (kept d.items d.decodes x i copy inner h n a.1 is_current within_extent) in
        let slot : m.slot ≡ n.slot = ap (λ (y : Member). y.slot) a.2 ∙ keeps.slot n in
        ap (λ (k : ℕ). byte new k (h.unit * g.shape.au + inner)) slot ∙ same ∙ d.bytes x o b i inner copy file h n is_file cell lies a.1 is_current;
  }

-- ---- the history

module _ (id : ℕ) (f : Member → Member) (keeps : Keeps f) (ms : List Member)
    (raised : (m : Member) (c : Claim) → IsAmong ms m → IsAmong (claims_of_group id m.disk.claims) c → (d : Claim) × IsAmong (claims_of_group id (f m).disk.claims) d × (c.epoch ≤ d.epoch))
    (same : (m : Member) → IsAmong ms m → (f m).disk.statuses ≡ m.disk.statuses) where
  within_same : (P : ℕ → Bool) (m : Member) → IsAmong (within P ms) m → (f m).disk.statuses ≡ m.disk.statuses
  within_same P m h = same m (among_within P ms m h)

  statuses_within : (P : ℕ → Bool) → statuses id (within P (map f ms)) ≡ statuses id (within P ms)
  statuses_within P = ap (λ (l : List Member). statuses id l) (within_map f keeps P ms) ∙ statuses_map f id (within P ms) (within_same P)

  enough_within : (P : ℕ → Bool) (r : Status) → is_enough r (within P (map f ms)) ≡ is_enough r (within P ms)
  enough_within P r = ap (λ (l : List Member). is_enough r l) (within_map f keeps P ms) ∙ is_enough_map f keeps r (within P ms)

  claim_within : (P : ℕ → Bool) (c : Claim) → IsAmong (claims id (within P ms)) c → (d : Claim) × IsAmong (claims id (within P (map f ms))) d × (c.epoch ≤ d.epoch)
  unfolding claims
  claim_within P c h =
      let from = among_flat_map (λ (m : Member). claims_of_group id m.disk.claims) (within P ms) c h in
      let m = from.0 in
      let new = raised m c (among_within P ms m from.1) from.2 in
      let there : IsAmong (within P (map f ms)) (f m) = subst (λ (l : List Member). IsAmong l (f m)) (sym (within_map f keeps P ms)) (among_map f (within P ms) m from.1) in
      (new.0, flat_map_among (λ (m : Member). claims_of_group id m.disk.claims) (within P (map f ms)) (f m) new.0 there new.1, new.2)

  holds_within : (P : ℕ → Bool) (rs : List Status) → HoldsOne id rs (within P ms) → HoldsOne id rs (within P (map f ms))
  holds_within P rs h = (h.0, subst (λ (l : List Status). IsAmong l h.0) (sym (statuses_within P)) h.1, h.2)

  epoch_within : (P : ℕ → Bool) (epoch : ℕ) → HasEpoch id (within P ms) epoch → HasEpoch id (within P (map f ms)) epoch
  epoch_within P epoch (inl c) = let d = claim_within P c.0 c.1 in inl (d.0, d.1, omega (arith, c.2, d.2))
  epoch_within P epoch (inr r) = inr (r.0, subst (λ (l : List Status). IsAmong l r.0) (sym (statuses_within P)) r.1, r.2)

  all_statuses : statuses id (map f ms) ≡ statuses id ms
  all_statuses = statuses_map f id ms same

  pub fits_raised : (completed : Option Status) (begun : List Status) → Fits id ms completed begun → Fits id (map f ms) completed begun
  fits_raised completed begun fits = record {
    distinct = distinct_map f keeps ms fits.distinct;
    greater = fits.greater;
    slots = λ r h. fits.slots r (subst (λ (l : List Status). IsAmong l r) all_statuses h);
    numbers = λ r s h k e. fits.numbers r s (subst (λ (l : List Status). IsAmong l r) all_statuses h) (subst (λ (l : List Status). IsAmong l s) all_statuses k) e;
    follow = fits.follow;
    surveyed = λ P g is enough. holds_within P (current_records completed begun)
        (fits.surveyed P g (ap greatest (sym (statuses_within P)) ∙ is) (sym (enough_within P g) ∙ enough));
    completed_found = λ P v is enough. holds_within P (v ∷ begun) (fits.completed_found P v is (sym (enough_within P v) ∙ enough));
    claimed = λ P r s h k enough. epoch_within P r.epoch (fits.claimed P r s h k (sym (enough_within P s) ∙ enough));
  }

-- ---- what the contents describe

-- Where contents stay, so does what they describe.
pub cover_replaced : (id : ℕ) (old new : ImageBytes) (groups : List Group) (completed : Option Status) (begun : List Status) (sound : SoundBy id old groups completed begun) (f : Member → Member) → Keeps f
    → ((m : Member) → IsAmong (all_members id old) m → (f m).disk.content ≡ m.disk.content)
    → ((g : Group) (r : Status) (m : Member) → IsAmong (all_members id old) m → IsDiskOf g r m → IsDiskOf g r (f m))
    → KeepsCopies id old new completed begun
    → (r : Status) → IsAmong (current_records completed begun) r → r.gone ≡ false
    → ((s : Status) (e : Entry) → IsAmong (statuses id (map f (all_members id old))) s → IsAmong s.entries e → e.birth ≤ r.births)
    → IsCovered id new (map f (all_members id old)) groups r
cover_replaced id old new groups completed begun sound f keeps contents disks kept r counts not_gone births =
    let ms = all_members id old in
    let before = sound.covered r counts not_gone in
    record {
      one_content = λ m n c d hm hn named_m named_n is_c is_d e.
          let a = map_among f ms m hm in
          let b = map_among f ms n hn in
          before.one_content a.0 b.0 c d a.1 b.1
          (subst (λ (h : Header). IsNamed r h) (ap (λ (x : Member). x.header) a.2 ∙ keeps.header a.0) named_m) (subst (λ (h : Header). IsNamed r h) (ap (λ (x : Member). x.header) b.2 ∙ keeps.header b.0) named_n)
          (sym (ap (λ (x : Member). x.disk.content) a.2 ∙ contents a.0 a.1) ∙ is_c) (sym (ap (λ (x : Member). x.disk.content) b.2 ∙ contents b.0 b.1) ∙ is_d) e;
      member_births = λ m h. let a = map_among f ms m h in
          subst (λ (x : Header). x.birth ≤ r.births) (sym (ap (λ (x : Member). x.header) a.2 ∙ keeps.header a.0)) (before.member_births a.0 a.1);
      entry_births = births;
      described = λ P c is.
          let within_same : copies r (within P (map f ms)) ≡ copies r (within P ms) =
          ap (λ (l : List Member). copies r l) (within_map f keeps P ms) ∙ copies_map f keeps r (within P ms) (λ m h. contents m (among_within P ms m h)) in
          let found : directories r (within P ms) ≡ Some c = ap newest (sym within_same) ∙ is in
          let g = before.described P c found in (
            g.0,
            g.1,
            described_map old new f keeps ms r c g.0 (disks g.0 r) (λ items decodes x i copy inner h m is_member current lt.
                kept r items x i copy inner h m (record { counts = counts; not_gone = not_gone; readable = P; content = c; found = found; decodes = decodes }) is_member current lt) g.2,
          );
    }

pub replaced_sound : (id : ℕ) (old new : ImageBytes) (groups : List Group) (completed : Option Status) (begun : List Status) (sound : SoundBy id old groups completed begun) (f : Member → Member) → Keeps f → all_members id new ≡ map f (all_members id old)
    → ((m : Member) → IsAmong (all_members id old) m → (f m).disk.content ≡ m.disk.content)
    → ((g : Group) (r : Status) (m : Member) → IsAmong (all_members id old) m → IsDiskOf g r m → IsDiskOf g r (f m))
    → KeepsCopies id old new completed begun
    → Fits id (map f (all_members id old)) completed begun
    → ((r : Status) → IsAmong (current_records completed begun) r → r.gone ≡ false → (s : Status) (e : Entry) → IsAmong (statuses id (map f (all_members id old))) s → IsAmong s.entries e → e.birth ≤ r.births)
    → SoundBy id new groups completed begun
replaced_sound id old new groups completed begun sound f keeps members_same contents disks kept fits births = record {
  fits = subst (λ (l : List Member). Fits id l completed begun) (sym members_same) fits;
  covered = λ r counts not_gone. subst (λ (l : List Member). IsCovered id new l groups r) (sym members_same)
      (cover_replaced id old new groups completed begun sound f keeps contents disks kept r counts not_gone (births r counts not_gone));
}

-- ---- the law

module _ (id : ℕ) (old : ImageBytes) (slot : ℕ) (d : Metadata) where
  -- what a changed member says: the new metadata at the slot, and elsewhere the old
  pub at_change : (P : Member → Member → Type 0) → ((m : Member) → m.disk ≡ disk_of old slot → P m (record m { disk = d })) → ((m : Member) → P m m)
      → (m : Member) → IsAmong (all_members id old) m → P m (replaced slot d m)
  at_change P changed kept m h = cond_both (m.slot == slot) (record m { disk = d }) m (λ (n : Member). P m n)
      (λ yes. changed m ((member_is id old m h).disk ∙ ap (λ (k : ℕ). disk_of old k) (eqb-true m.slot slot yes))) (λ no. kept m)

claim_disk : (id : ℕ) (old new : Metadata) (g : Group) (r : Status) (m : Member) → RaisesClaims id old new → m.disk ≡ old → IsDiskOf g r m → IsDiskOf g r (record m { disk = new })
claim_disk id old new g r m raises is d =
    let others : new ≡ record m.disk { claims = new.claims } = raises.others ∙ ap (λ (x : Metadata). record x { claims = new.claims }) (sym is) in
    record {
      claims = raises.decode (subst (λ (x : Metadata). IsTrue (list_all is_some x.claims)) is d.claims);
      statuses = subst (λ (x : Metadata). IsTrue (list_all is_some x.statuses)) (sym others) d.statuses;
      directories = subst (λ (x : Metadata). IsTrue x.decodes) (sym others) d.directories;
      name = d.name;
      shape = d.shape;
      units = λ e entry birth. subst (λ (x : Metadata). e.units ≤ units_in m.header.shape x.size) (sym others) (d.units e entry birth);
    }

pub claim_keeps : (id : ℕ) (old : ImageBytes) (groups : List Group) (completed : Option Status) (begun : List Status) (sound : SoundBy id old groups completed begun) (slot : ℕ) (bytes : List ℕ) → IsClaimed id old completed begun slot bytes → SoundBy id (written old slot bytes) groups completed begun
claim_keeps id old groups completed begun sound slot bytes claim =
    let ms = all_members id old in
    let d = metadata bytes in
    let f = replaced slot d in
    let keeps = replaced_keeps slot d in
    let raises = claim.claims in
    let members_same : all_members id (written old slot bytes) ≡ map f ms = members_replaced id old slot bytes claim.inside (ap (λ (x : Metadata). x.header) raises.others) in
    let raised : (m : Member) (c : Claim) → IsAmong ms m → IsAmong (claims_of_group id m.disk.claims) c → (x : Claim) × IsAmong (claims_of_group id (f m).disk.claims) x × (c.epoch ≤ x.epoch) =
    λ m c h. at_change id old slot d (λ a b. IsAmong (claims_of_group id a.disk.claims) c → (x : Claim) × IsAmong (claims_of_group id b.disk.claims) x × (c.epoch ≤ x.epoch))
    (λ a is k. raises.raised c (subst (λ (x : Metadata). IsAmong (claims_of_group id x.claims) c) is k)) (λ a k. (c, k, omega arith)) m h in
    let statuses_same : (m : Member) → IsAmong ms m → (f m).disk.statuses ≡ m.disk.statuses =
    λ m h. at_change id old slot d (λ a b. b.disk.statuses ≡ a.disk.statuses) (λ a is. ap (λ (x : Metadata). x.statuses) (raises.others ∙ ap (λ (y : Metadata). record y { claims = d.claims }) (sym is))) (λ a. refl) m h in
    let contents_same : (m : Member) → IsAmong ms m → (f m).disk.content ≡ m.disk.content =
    λ m h. at_change id old slot d (λ a b. b.disk.content ≡ a.disk.content) (λ a is. ap (λ (x : Metadata). x.content) (raises.others ∙ ap (λ (y : Metadata). record y { claims = d.claims }) (sym is))) (λ a. refl) m h in
    let disks : (g : Group) (r : Status) (m : Member) → IsAmong ms m → IsDiskOf g r m → IsDiskOf g r (f m) =
    λ g r m h. at_change id old slot d (λ a b. IsDiskOf g r a → IsDiskOf g r b) (λ a is k. claim_disk id (disk_of old slot) d g r a raises is k) (λ a k. k) m h in
    replaced_sound id old (written old slot bytes) groups completed begun sound f keeps members_same contents_same disks claim.copies
    (fits_raised id f keeps ms raised statuses_same completed begun sound.fits)
    (λ r counts not_gone s e h k. (sound.covered r counts not_gone).entry_births s e (subst (λ (l : List Status). IsAmong l s) (statuses_map f id ms statuses_same) h) k)
