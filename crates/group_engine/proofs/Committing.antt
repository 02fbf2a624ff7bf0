-- While a directory commit is on its way, the image stands for the group before or the one after.
use Rattle.std.proofs.Common.{◌≡◌, ◌≢◌, ◌⊎◌, inl, inr, ⊎_elim, ℕ, ◌+◌, ◌*◌, ◌<◌, ◌≤◌, Bool, true, false, cond, not, ◌&&◌, List, [], ◌∷◌, length, map, get_or, slice_index, refl, sym, ap, subst, ◌∙◌, Option, Some, None, arith}
use Rattle.std.proofs.lemmas.List.{get_or-set_same}
use Rattle.std.proofs.lemmas.Option.{same_Some}
use Rattle.asm_group.specs.Group.{Group}
use Rattle.asm_group.specs.Shape.{Shape}
use Rattle.asm_formats.specs.Bytes.{block_size}
use Rattle.asm_formats.specs.Regions.{region_start, region_end}
use Rattle.asm_formats.specs.Header.{Header}
use Rattle.asm_formats.specs.Items.{Item, Home}
use Rattle.asm_formats.specs.Content.{Content}
use Rattle.asm_formats.specs.Metadata.{Metadata, metadata, header_of}
use Rattle.asm_formats.specs.Status.{Status}
use Rattle.asm_formats.proofs.Framing.{directory_write}
use Rattle.asm_formats.specs.Among.{IsAmong}
use Rattle.asm_placement.specs.Placed.{places_fit}
use Rattle.asm_images.specs.Members.{ImageBytes, Member, byte, written, all_members, within, statuses, claims_of_group, disk_of}
use Rattle.asm_images.specs.Register.{Fits, status, status_if_enough, greatest}
use Rattle.asm_images.specs.Directories.{directories, IsNamed}
use Rattle.asm_images.specs.Copies.{IsCurrent}
use Rattle.asm_images.specs.PutLaws.{bytes_of}
use Rattle.asm_images.specs.Sound.{IsCovered, SoundBy}
use Rattle.asm_images.specs.Stands.{Describes, IsDiskOf, Standing}
use Rattle.asm_images.specs.Steps.{ChangesContent}
use Rattle.asm_images.proofs.Claiming.{described_map, fits_raised}
use Rattle.asm_images.proofs.Committing.{commit_disk}
use Rattle.asm_images.proofs.History.{status_counts}
use Rattle.asm_images.proofs.Members.{member_is}
use Rattle.asm_images.proofs.Membership.{among_map, map_among, among_within}
use Rattle.asm_images.proofs.OneContent.{found_is_held}
use Rattle.asm_images.proofs.Replacing.{Keeps, is_enough_map, statuses_map, within_map}
use Rattle.asm_images.proofs.Spans.{narrow_keeps}
use Rattle.asm_images.proofs.UserBytes.{copy_byte_kept}
use Rattle.group_engine.specs.CommitSteps.{content_of_items, ChangesRegion, IsCommitting, AllHave, Becomes}
use Rattle.group_engine.proofs.Renewing.{renewed, renewed_keeps, members_renewed, content_found, some_found}

-- what the disk says changes in its directory copy alone
pub region_change : (old new : List ℕ) → ChangesRegion old new → metadata new ≡ record (metadata old) { content = (metadata new).content; decodes = (metadata new).decodes }
region_change old new c = directory_write old new (region_start * block_size) c.len c.same (omega arith)

module _ (id : ℕ) (r : Status) (before after : Content) (old new : ImageBytes) (c : IsCommitting id r before after old new) where
  abbrev ms : List Member
  ms = all_members id old

  abbrev f : Member → Member
  f = renewed new

  keeps : Keeps f
  keeps = renewed_keeps new

  says : (slot : ℕ) → slot < length old → disk_of new slot ≡ record (disk_of old slot) { content = (disk_of new slot).content; decodes = (disk_of new slot).decodes }
  says slot lt = region_change (bytes_of old slot) (bytes_of new slot) (c.disks slot lt)

  members_same : all_members id new ≡ map f ms
  members_same = members_renewed id old new c.size (λ slot lt. ap (λ (d : Metadata). d.header) (says slot lt))

  -- of a member
  inside : (m : Member) → IsAmong ms m → m.slot < length old
  inside m h = (member_is id old m h).slot

  disk_is : (m : Member) → IsAmong ms m → m.disk ≡ disk_of old m.slot
  disk_is m h = (member_is id old m h).disk

  change : (m : Member) → IsAmong ms m → ChangesContent (disk_of old m.slot) (disk_of new m.slot)
  change m h = record { others = says m.slot (inside m h); decode = c.decode m.slot (inside m h) }

  others : (m : Member) → IsAmong ms m → (f m).disk ≡ record m.disk { content = (f m).disk.content; decodes = (f m).disk.decodes }
  others m h = says m.slot (inside m h) ∙ ap (λ (d : Metadata). record d { content = (f m).disk.content; decodes = (f m).disk.decodes }) (sym (disk_is m h))

  disks : (g : Group) (m : Member) → IsAmong ms m → IsDiskOf g r m → IsDiskOf g r (f m)
  disks g m h d = commit_disk (disk_of old m.slot) (disk_of new m.slot) g r m (change m h) (disk_is m h) d

  -- the history stays
  fits : (completed : Option Status) (begun : List Status) → Fits id ms completed begun → Fits id (map f ms) completed begun
  fits completed begun was = fits_raised id f keeps ms
      (λ m x h k. (x, subst (λ (d : Metadata). IsAmong (claims_of_group id d.claims) x) (sym (others m h)) k, omega arith))
      (λ m h. ap (λ (d : Metadata). d.statuses) (others m h)) completed begun was

  -- bytes of copies stay
  byte_kept : (items : List Item) (x i copy inner : ℕ) (h : Home) (m : Member) → places_fit m.header.shape r.entries items ≡ true → IsAmong ms m → IsCurrent r items x i copy h m
      → byte new m.slot (h.unit * m.header.shape.au + inner) ≡ byte old m.slot (h.unit * m.header.shape.au + inner)
  byte_kept items x i copy inner h m fit is_member current =
      let region = c.disks m.slot (inside m is_member) in
      let at = h.unit * m.header.shape.au + inner in
      let put : byte (written old m.slot (bytes_of new m.slot)) m.slot at ≡ byte old m.slot at =
      copy_byte_kept id old m.slot (bytes_of new m.slot) (region_start * block_size) region.len (inside m is_member) region.same
      (λ n n_member here. region_below n n_member here) r items x i copy inner h m fit is_member current.home in
      sym (ap (λ (l : List ℕ). slice_index l at) (get_or-set_same old m.slot (bytes_of new m.slot) [] (inside m is_member))) ∙ put
    where
      region_below : (n : Member) → IsAmong ms n → n.slot ≡ m.slot → region_start * block_size + (c.disks m.slot (inside m is_member)).len ≤ region_end n.header.shape.dir_blocks * block_size
      region_below n n_member here =
          (c.disks m.slot (inside m is_member)).inside n.header (ap (λ (j : ℕ). header_of (get_or old j [])) (sym here) ∙ (member_is id old n n_member).header)

  -- what the disks hold with a content stays
  described : (k : Content) (g : Group) → Describes old ms ms r k g → Describes new (map f ms) (map f ms) r k g
  described k g d = described_map old new f keeps ms r k g (disks g) (λ items decodes x i copy inner h m is_member current lt.
      let items_same : d.items ≡ items = same_Some d.items items (sym d.decodes ∙ decodes) in
      let fit : places_fit m.header.shape r.entries items ≡ true =
      subst (λ (l : List Item). places_fit m.header.shape r.entries l ≡ true) items_same (subst (λ (s : Shape). places_fit s r.entries d.items ≡ true) (sym (d.disks m is_member).shape) d.describes.places) in
      byte_kept items x i copy inner h m fit is_member current) d

  -- a named member was named
  was_named : (m : Member) → IsAmong (map f ms) m → IsNamed r m.header → (n : Member) × IsAmong ms n × IsNamed r n.header
  was_named m h named = let a = map_among f ms m h in (a.0, a.1, subst (λ (x : Header). IsNamed r x) (ap (λ (x : Member). x.header) a.2) named)

  -- each content that is found is the one before or the one after, and stands on a named member
  found_one : (P : ℕ → Bool) (k : Content) → directories r (within P (map f ms)) ≡ Some k → ((n : Member) × IsAmong ms n × IsNamed r n.header) × ((k ≡ before) ⊎ (k ≡ after))
  found_one P k found =
      let held = found_is_held r (within P (map f ms)) k found in
      let m = held.0 in
      let among : IsAmong (map f ms) m = among_within P (map f ms) m held.1 in (
        was_named m among held.2,
        ⊎_elim (λ is. inl (same_Some k before (sym held.3 ∙ is))) (λ is. inr (same_Some k after (sym held.3 ∙ is)))
            (c.either m (subst (λ (l : List Member). IsAmong l m) (sym members_same) among) held.2),
      )

  module _ (g : Group) (sound : SoundBy id old (g ∷ []) (Some r) []) (alive : r.gone ≡ false) where
    -- with the content before the disks held the group before
    pub held_before : (n : Member) → IsAmong ms n → IsNamed r n.header → Describes old ms ms r before g
    held_before n h named =
        let found = content_found r ms n h named before c.was in
        let d = (sound.covered r (inl refl) alive).described (λ any. true) before found in
        subst (λ (x : Group). Describes old ms ms r before x) (⊎_elim (λ same. same) (λ none. absurd none) d.1) d.2

  module _ (groups : List Group) (before_after : before.commit ≢ after.commit) (old_cover : (x : Group) × (y : List Group) × IsCovered id old ms (x ∷ y) r) where
    births_kept : IsCovered id old ms (old_cover.0 ∷ old_cover.1) r
    births_kept = old_cover.2

    covered : ((k : Content) (n : Member) → IsAmong ms n → IsNamed r n.header → (k ≡ before) ⊎ (k ≡ after) → (x : Group) × IsAmong groups x × Describes old ms ms r k x)
        → IsCovered id new (map f ms) groups r
    covered each = record {
      one_content = λ m n x y hm hn named_m named_n is_x is_y e.
          let of : (o : Member) (z : Content) → IsAmong (map f ms) o → IsNamed r o.header → o.disk.content ≡ Some z → (z ≡ before) ⊎ (z ≡ after) = λ o z ho named is.
          ⊎_elim (λ b. inl (same_Some z before (sym is ∙ b))) (λ a. inr (same_Some z after (sym is ∙ a))) (c.either o (subst (λ (l : List Member). IsAmong l o) (sym members_same) ho) named) in
          one x y (of m x hm named_m is_x) (of n y hn named_n is_y) e;
      member_births = λ m h. let a = map_among f ms m h in subst (λ (x : Header). x.birth ≤ r.births) (sym (ap (λ (x : Member). x.header) a.2)) (births_kept.member_births a.0 a.1);
      entry_births = λ s e h k. births_kept.entry_births s e (subst (λ (l : List Status). IsAmong l s) (statuses_map f id ms (λ m a. ap (λ (d : Metadata). d.statuses) (others m a))) h) k;
      described = λ P k found.
          let w = found_one P k found in
          let d = each k w.0.0 w.0.1 w.0.2 w.1 in
          (d.0, d.1, described k d.0 d.2);
    }
      where
        one : (x y : Content) → (x ≡ before) ⊎ (x ≡ after) → (y ≡ before) ⊎ (y ≡ after) → x.commit ≡ y.commit → x ≡ y
        one x y (inl p) (inl q) e = p ∙ sym q
        one x y (inr p) (inr q) e = p ∙ sym q
        one x y (inl p) (inr q) e = absurd (before_after (ap (λ (z : Content). z.commit) (sym p) ∙ e ∙ ap (λ (z : Content). z.commit) q))
        one x y (inr p) (inl q) e = absurd (before_after (ap (λ (z : Content). z.commit) (sym q) ∙ sym e ∙ ap (λ (z : Content). z.commit) p))

-- with the content after the disks hold the group after
becomes_described : (id next : ℕ) (r : Status) (g h : Group) (later : List Item) (old : ImageBytes) (k : Content) → Describes old (all_members id old) (all_members id old) r k g → Becomes id r g later h old
    → Describes old (all_members id old) (all_members id old) r (content_of_items next later) h
becomes_described id next r g h later old k d b = record {
  distinct = d.distinct;
  disks = λ m a. let x = d.disks m a in record { claims = x.claims; statuses = x.statuses; directories = x.directories; name = x.name ∙ sym b.name; shape = x.shape ∙ sym b.shape; units = x.units };
  items = later;
  decodes = refl;
  describes = b.describes;
  bytes = b.bytes;
}

module _ (id number next : ℕ) (r : Status) (g h : Group) (items later : List Item) (old new : ImageBytes) (differ : number ≢ next) (sound : SoundBy id old (g ∷ []) (Some r) [])
    (becomes : Becomes id r g later h old) (c : IsCommitting id r (content_of_items number items) (content_of_items next later) old new) where
  abbrev them : List Member
  them = all_members id old

  abbrev first : Content
  first = content_of_items number items

  abbrev second : Content
  second = content_of_items next later

  before_holds : r.gone ≡ false → (n : Member) → IsAmong them n → IsNamed r n.header → Describes old them them r first g
  before_holds alive n a named = held_before id r first second old new c g sound alive n a named

  after_holds : r.gone ≡ false → (n : Member) → IsAmong them n → IsNamed r n.header → Describes old them them r second h
  after_holds alive n a named = becomes_described id next r g h later old first (before_holds alive n a named) becomes

  pub in_flight_cover : r.gone ≡ false → IsCovered id new (all_members id new) (g ∷ h ∷ []) r
  in_flight_cover alive = subst (λ (l : List Member). IsCovered id new l (g ∷ h ∷ []) r) (sym (members_same id r first second old new c))
      (covered id r first second old new c (g ∷ h ∷ []) differ (g, [], sound.covered r (inl refl) alive)
      (λ k n a named which. ⊎_elim
      (λ is. (g, inl refl, subst (λ (x : Content). Describes old them them r x g) (sym is) (before_holds alive n a named)))
      (λ is. (h, inr (inl refl), subst (λ (x : Content). Describes old them them r x h) (sym is) (after_holds alive n a named))) which))

  pub fits_now : Fits id (all_members id new) (Some r) []
  fits_now = subst (λ (l : List Member). Fits id l (Some r) []) (sym (members_same id r first second old new c)) (fits id r first second old new c (Some r) [] sound.fits)

  pub in_flight : SoundBy id new (g ∷ h ∷ []) (Some r) []
  in_flight = record {
    fits = fits_now;
    covered = λ s counts alive. ⊎_elim
        (λ (same : s ≡ r). subst (λ (t : Status). IsCovered id new (all_members id new) (g ∷ h ∷ []) t) (sym same) (in_flight_cover (ap (λ (t : Status). t.gone) (sym same) ∙ alive)))
        (λ none. absurd none) counts;
  }

  -- on the new image
  pub after_holds_now : r.gone ≡ false → (m : Member) → IsAmong (all_members id new) m → IsNamed r m.header → Describes new (all_members id new) (all_members id new) r second h
  after_holds_now alive m a named =
      let w = was_named id r first second old new c m (subst (λ (l : List Member). IsAmong l m) (members_same id r first second old new c) a) named in
      subst (λ (l : List Member). Describes new l l r second h) (sym (members_same id r first second old new c))
      (described id r first second old new c second h (after_holds alive w.0 w.1 w.2))

pub committing_is_sound : (id number next : ℕ) (r : Status) (g h : Group) (items later : List Item) (old new : ImageBytes) → number ≢ next → SoundBy id old (g ∷ []) (Some r) []
    → Becomes id r g later h old → IsCommitting id r (content_of_items number items) (content_of_items next later) old new
    → SoundBy id new (g ∷ h ∷ []) (Some r) []
committing_is_sound id number next r g h items later old new differ sound becomes c = in_flight id number next r g h items later old new differ sound becomes c

pub committed_is_sound : (id number next : ℕ) (r : Status) (g h : Group) (items later : List Item) (old new : ImageBytes) → number ≢ next → SoundBy id old (g ∷ []) (Some r) []
    → Becomes id r g later h old → IsCommitting id r (content_of_items number items) (content_of_items next later) old new → AllHave id r (content_of_items next later) new
    → SoundBy id new (h ∷ []) (Some r) []
committed_is_sound id number next r g h items later old new differ sound becomes c all =
    narrow_keeps id new (g ∷ h ∷ []) (h ∷ []) (Some r) [] (in_flight id number next r g h items later old new differ sound becomes c) (record {
      left = λ s k P counts alive found. ⊎_elim
          (λ (same : s ≡ r).
          let ms = all_members id new in
          let found_r : directories r (within P ms) ≡ Some k = ap (λ (t : Status). directories t (within P ms)) (sym same) ∙ found in
          let held = found_is_held r (within P ms) k found_r in
          let among : IsAmong ms held.0 = among_within P ms held.0 held.1 in
          let is : k ≡ content_of_items next later = same_Some k (content_of_items next later) (sym held.3 ∙ all held.0 among held.2) in
          let d = after_holds_now id number next r g h items later old new differ sound becomes c (ap (λ (t : Status). t.gone) (sym same) ∙ alive) held.0 among held.2 in
          (h, inl refl, subst (λ (t : Status). Describes new ms ms t k h) (sym same) (subst (λ (x : Content). Describes new ms ms r x h) (sym is) d)))
          (λ none. absurd none) counts;
    })

-- Status is the same where records are
status_by_same : (f : Member → Member) → Keeps f → (l : List Member) (o : Option Status) → status_if_enough (map f l) o ≡ status_if_enough l o
status_by_same f stay l None = refl
status_by_same f stay l (Some r) = ap (λ (b : Bool). cond (b && not r.gone) (Some r) None) (is_enough_map f stay r l)

status_same : (id : ℕ) (f : Member → Member) → Keeps f → (ms : List Member) → ((m : Member) → IsAmong ms m → (f m).disk.statuses ≡ m.disk.statuses) → status id (map f ms) ≡ status id ms
unfolding status
status_same id f keeps ms same = ap (λ (l : List Status). status_if_enough (map f ms) (greatest l)) (statuses_map f id ms same) ∙ status_by_same f keeps ms (greatest (statuses id ms))

pub committing_is_standing : (id : ℕ) (slots : ℕ → Bool) (r : Status) (groups : List Group) (before after : Content) (old new : ImageBytes) → SoundBy id old groups (Some r) []
    → IsCommitting id r before after old new → Standing id old slots → Standing id new slots
committing_is_standing id slots r groups before after old new sound c s =
    let ms = all_members id old in
    let f = renewed new in
    let own = within slots ms in
    let same : within slots (all_members id new) ≡ map f own = ap (within slots) (members_same id r before after old new c) ∙ within_map f (renewed_keeps new) slots ms in
    let is_r : s.record_ ≡ r = ⊎_elim (λ e. e) (λ none. absurd none) (status_counts id ms (Some r) [] slots s.record_ sound.fits s.status_is) in
    let held = found_is_held s.record_ own s.content s.directories_is in
    let m = held.0 in
    let there : IsAmong (within slots (all_members id new)) (f m) = subst (λ (l : List Member). IsAmong l (f m)) (sym same) (among_map f own m held.1) in
    let named : IsNamed r m.header = subst (λ (t : Status). IsNamed t m.header) is_r held.2 in
    let found = some_found r (within slots (all_members id new)) (f m) there named (λ x a b. either_one x (among_within slots (all_members id new) x a) b) in
    record {
      record_ = s.record_;
      content = found.0;
      status_is = ap (status id) same ∙ status_same id f (renewed_keeps new) own (λ n h. ap (λ (d : Metadata). d.statuses) (others id r before after old new c n (among_within slots ms n h))) ∙ s.status_is;
      directories_is = ap (λ (t : Status). directories t (within slots (all_members id new))) is_r ∙ found.1;
    }
  where
    either_one : (x : Member) → IsAmong (all_members id new) x → IsNamed r x.header → (k : Content) × (x.disk.content ≡ Some k)
    either_one x a b = ⊎_elim (λ is. (before, is)) (λ is. (after, is)) (c.either x a b)
