-- A mounted group is held where nothing changes, and where a disk changes that isn't attached to it.
use Rattle.std.proofs.Common.{◌≡◌, ◌≢◌, inl, ⊎_elim, ℕ, zero, suc, ◌+◌, Bool, true, false, cond, not, ◌&&◌, List, [], ◌∷◌, set, ltb, refl, sym, ap, subst, ◌∙◌, Option, Some, None, arith, IsTrue, ◌==◌}
use Rattle.std.specs.Prelude.{find}
use Rattle.std.proofs.lemmas.Bool.{cond_both, cond-true, cond-false, eqb-true, eq-eqb, and_parts, both_ways, false≢true}
use Rattle.std.proofs.lemmas.List.{map-set}
use Rattle.bay.specs.Image as bay
use Rattle.bay.specs.Image.{Same}
use Rattle.asm_group.specs.Group.{Group}
use Rattle.asm_formats.specs.Content.{Content}
use Rattle.asm_formats.specs.Header.{Header}
use Rattle.asm_formats.specs.Metadata.{Metadata, metadata, header_of}
use Rattle.asm_formats.specs.Sets.{elements}
use Rattle.asm_formats.specs.Status.{Status, entry_of}
use Rattle.asm_formats.specs.Among.{IsAmong}
use Rattle.asm_images.specs.Bridge.{disk_bytes, disks_in, ChangesSlot}
use Rattle.asm_images.specs.Directories.{copies, copy_on, member_contents, to_list, newer, newest, directories, IsNamed}
use Rattle.asm_images.specs.Kept.{Kept, IsMemberIn, IsHeld, CompleteStands, HeldStands, SameIsHeld, BystandersAreHeld}
use Rattle.asm_images.specs.Members.{ImageBytes, Member, with_member, members_from, members, metadata_of, all_members, within, written, statuses, is_disk, disk_of}
use Rattle.asm_images.specs.Register.{HoldsOne, greatest, is_enough, status, status_if_enough}
use Rattle.asm_images.specs.Sound.{SoundBy}
use Rattle.asm_images.specs.Stands.{Standing}
use Rattle.asm_images.proofs.Bridges.{slot_change, same_is_same, same_disk}
use Rattle.asm_images.proofs.Committing.{find_passes}
use Rattle.asm_images.proofs.History.{greatest_is, nothing_greatest, among_statuses, status_parts, status_counts}
use Rattle.asm_images.proofs.Members.{member_is}
use Rattle.asm_images.proofs.Membership.{flat_map_among, among_within, among_filter, among_filtered, filter_out}
use Rattle.asm_images.proofs.Enough.{more_enough}
use Rattle.asm_images.proofs.OneContent.{found_is_held}
use Rattle.asm_images.proofs.Replacing.{found_among}

-- ---- what is found

pub find_some : {A : Type 0} (t : A → Bool) (xs : List A) (x : A) → IsAmong xs x → t x ≡ true → (y : A) × (find t xs ≡ Some y)
find_some t [] x h passes = absurd h
find_some {A} t (z ∷ zs) x h passes =
    let later : IsAmong zs x → (y : A) × (find t zs ≡ Some y) = λ k. find_some t zs x k passes in
    cond_both (t z) (Some z) (find t zs) (λ (o : Option A). (o ≡ find t (z ∷ zs)) → (y : A) × (find t (z ∷ zs) ≡ Some y))
    (λ here e. (z, sym e)) (λ out e. ⊎_elim (λ same. absurd (both_ways (t z) out (ap t (sym same) ∙ passes))) (λ k. let y = later k in (y.0, sym e ∙ y.1)) h) refl

pub no_newest : (xs : List Content) (c : Content) → newest xs ≡ None → IsAmong xs c → ⊥
no_newest [] c e h = h
no_newest (x ∷ xs) c e h = go (newest xs) e
  where
    go : (o : Option Content) → newer x o ≡ None → ⊥
    go None e = absurd cc
    go (Some d) e = cond_both (ltb x.commit d.commit) (Some d) (Some x) (λ (o : Option Content). o ≡ None → ⊥) (λ yes is. absurd cc) (λ no is. absurd cc) e

-- ---- Status and directories are there

module _ (id : ℕ) (image : ImageBytes) (groups : List Group) (s : Status) (slots : ℕ → Bool) (m : Member) (c : Content) (sound : SoundBy id image groups (Some s) []) (not_gone : s.gone ≡ false)
    (enough : IsTrue (is_enough s (within slots (all_members id image)))) (inside : IsAmong (within slots (all_members id image)) m) (named : IsNamed s m.header) (is : m.disk.content ≡ Some c) where
  abbrev ms : List Member
  ms = all_members id image

  abbrev left : List Member
  left = within slots ms

  s_stands : IsAmong (statuses id left) s
  s_stands =
      let one : HoldsOne id (s ∷ []) left = sound.fits.completed_found slots s refl enough in
      subst (λ (r : Status). IsAmong (statuses id left) r) (⊎_elim (λ e. e) (λ none. absurd none) one.2) one.1

  s_is_greatest : greatest (statuses id left) ≡ Some s
  s_is_greatest = go (greatest (statuses id left)) refl
    where
      go : (o : Option Status) → greatest (statuses id left) ≡ o → greatest (statuses id left) ≡ Some s
      go None e = absurd (subst (λ (l : List Status). IsAmong l s) (nothing_greatest (statuses id left) e) s_stands)
      go (Some g) e =
          let top = greatest_is (statuses id left) g e in
          ⊎_elim
          (λ counts. e ∙ ap Some (⊎_elim (λ same. same) (λ none. absurd none) counts))
          (λ older. absurd (omega (arith, top.most s s_stands, older)))
          (sound.fits.slots g (among_statuses id slots ms g top.among))

  status_is : status id left ≡ Some s
  unfolding status
  status_is = ap (status_if_enough left) s_is_greatest ∙ cond-true (is_enough s left && not s.gone) (Some s) None (λ i. enough i && not (not_gone i))

  -- the copy is listed
  is_listed : IsAmong (copies s left) c
  unfolding copies
  is_listed =
      let test : Member → Bool = λ (x : Member). is_disk m.header.number named.entry.birth x.header in
      let passes : test m ≡ true = (λ i. eq-eqb m.header.number m.header.number refl i && eq-eqb m.header.birth named.entry.birth (sym named.birth) i) in
      let n = find_some test left m inside passes in
      let among_n = found_among test left n.0 n.1 in
      let p = and_parts (n.0.header.number == m.header.number) (n.0.header.birth == named.entry.birth) (find_passes test left n.0 n.1) in
      let at_n = among_within slots ms n.0 among_n in
      let at_m = among_within slots ms m inside in
      let slot : n.0.slot ≡ m.slot = sound.fits.distinct n.0 m at_n at_m (eqb-true n.0.header.number m.header.number p.0) (eqb-true n.0.header.birth named.entry.birth p.1 ∙ named.birth) in
      let same : n.0.disk ≡ m.disk = (member_is id image n.0 at_n).disk ∙ ap (λ (k : ℕ). disk_of image k) slot ∙ sym (member_is id image m at_m).disk in
      let held : member_contents (find test left) ≡ c ∷ [] = ap member_contents n.1 ∙ ap (λ (d : Metadata). to_list d.content) same ∙ ap to_list is in
      let listed : copy_on left m.header.number (entry_of s.entries m.header.number) ≡ c ∷ [] = ap (copy_on left m.header.number) named.entry_is ∙ held in
      flat_map_among (λ (d : ℕ). copy_on left d (entry_of s.entries d)) (elements s.directories) m.header.number c named.named (subst (λ (l : List Content). IsAmong l c) (sym listed) (inl refl))

  pub stands : Standing id image slots
  stands = go (newest (copies s left)) refl
    where
      go : (o : Option Content) → newest (copies s left) ≡ o → Standing id image slots
      go None e = absurd (no_newest (copies s left) c e is_listed)
      go (Some d) e = record { record_ = s; content = d; status_is = status_is; directories_is = e }

pub complete_stands : CompleteStands
complete_stands = λ id image groups s slots m c sound not_gone enough inside named is. stands id image groups s slots m c sound not_gone enough inside named is

-- ---- more disks than the attached ones

more_within : (P Q : ℕ → Bool) (ms : List Member) (m : Member) → ((slot : ℕ) → P slot ≡ true → Q slot ≡ true) → IsAmong (within P ms) m → IsAmong (within Q ms) m
unfolding within
more_within P Q ms m more h = among_filtered (λ (k : Member). Q k.slot) ms m (among_filter (λ (k : Member). P k.slot) ms m h) (more m.slot (filter_out (λ (k : Member). P k.slot) ms m h))

pub held_stands : HeldStands
held_stands = λ n id groups kept image slots is rests more.
    let ms = all_members id (disks_in n image) in
    let r = is.standing.record_ in
    let sound : SoundBy id (disks_in n image) groups (Some kept.completed) [] = subst (λ (b : List Status). SoundBy id (disks_in n image) groups (Some kept.completed) b) rests (is.sound n) in
    let parts = status_parts id (within kept.slots ms) r is.standing.status_is in
    let same : r ≡ kept.completed = ⊎_elim (λ e. e) (λ none. absurd none) (status_counts id ms (Some kept.completed) [] kept.slots r sound.fits is.standing.status_is) in
    let copy = found_is_held r (within kept.slots ms) is.standing.content is.standing.directories_is in
    stands id (disks_in n image) groups kept.completed slots copy.0 is.standing.content sound (ap (λ (s : Status). s.gone) (sym same) ∙ parts.not_gone)
    (more_enough kept.completed kept.slots slots ms more (subst (λ (s : Status). IsTrue (is_enough s (within kept.slots ms))) same parts.enough))
    (more_within kept.slots slots ms copy.0 more copy.1) (subst (λ (s : Status). IsNamed s copy.0.header) same copy.2) copy.3

-- ---- the same members

pub same_member : (id slot : ℕ) (old new : bay.Image) → disk_bytes new slot ≡ disk_bytes old slot → IsMemberIn id old slot → IsMemberIn id new slot
same_member id slot old new same (h, found, named) = (h, ap header_of same ∙ found, named)

pub same_is_held : SameIsHeld
same_is_held = λ n id groups kept old new same is. record {
  sound = λ slots. subst (λ (image : ImageBytes). SoundBy id image groups (Some kept.completed) kept.begun) (sym (same_is_same slots old new same)) (is.sound slots);
  standing = subst (λ (image : ImageBytes). Standing id image kept.slots) (sym (same_is_same n old new same)) is.standing;
  there = λ slot has. same_member id slot old new (same_disk old new slot (same.size slot) (λ k. same.byte slot k)) (is.there slot has);
}

with_both : (P : ℕ → Bool) (b : Bool) (m : Member) (xs ys : List Member) → within P xs ≡ within P ys → within P (cond b (m ∷ xs) xs) ≡ within P (cond b (m ∷ ys) ys)
unfolding within
with_both P true m xs ys rest = ap (λ (l : List Member). cond (P m.slot) (m ∷ l) l) rest
with_both P false m xs ys rest = rest

-- a disk of a slot that isn't asked for is none of the members that are
unseen : (id slot k at : ℕ) (P : ℕ → Bool) (d : Metadata) (disks : List Metadata) → at ≡ slot + k → P at ≡ false → within P (members_from id slot (set disks k d)) ≡ within P (members_from id slot disks)
unfolding within
unseen id slot k at P d [] e out = refl
unseen id slot zero at P d (disk ∷ disks) e out = first d ∙ sym (first disk)
  where
    at_first : P slot ≡ false
    at_first = ap P (omega (arith, e)) ∙ out

    first : (x : Metadata) → within P (with_member id slot x x.header (members_from id (suc slot) disks)) ≡ within P (members_from id (suc slot) disks)
    first x = go x.header
      where
        go : (o : Option Header) → within P (with_member id slot x o (members_from id (suc slot) disks)) ≡ within P (members_from id (suc slot) disks)
        go None = refl
        go (Some h) =
            let m : Member = record { slot = slot; header = h; disk = x } in
            let more : List Member = members_from id (suc slot) disks in
            cond_both (h.id == id) (m ∷ more) more (λ (l : List Member). within P l ≡ within P more)
            (λ is. cond-false (P slot) (m ∷ within P more) (within P more) at_first) (λ no. refl)
unseen id slot (suc k) at P d (disk ∷ disks) e out = go disk.header (unseen id (suc slot) k at P d disks (omega (arith, e)) out)
  where
    go : (o : Option Header) → within P (members_from id (suc slot) (set disks k d)) ≡ within P (members_from id (suc slot) disks)
        → within P (with_member id slot disk o (members_from id (suc slot) (set disks k d))) ≡ within P (with_member id slot disk o (members_from id (suc slot) disks))
    go None rest = rest
    go (Some h) rest =
        let m : Member = record { slot = slot; header = h; disk = disk } in
        with_both P (h.id == id) m (members_from id (suc slot) (set disks k d)) (members_from id (suc slot) disks) rest

unseen_members : (id slot : ℕ) (P : ℕ → Bool) (image : ImageBytes) (bytes : List ℕ) → P slot ≡ false → within P (all_members id (written image slot bytes)) ≡ within P (all_members id image)
unfolding members
unseen_members id slot P image bytes out =
    ap (λ (l : List Metadata). within P (members_from id 0 l)) (map-set metadata image slot bytes) ∙ unseen id 0 slot slot P (metadata bytes) (metadata_of image) (omega arith) out

module _ (n id slot : ℕ) (groups : List Group) (kept : Kept) (old new : bay.Image) (changes : ChangesSlot slot old new) (out : kept.slots slot ≡ false) (is : IsHeld n id groups kept old) where
  other_disk : (s : ℕ) → s ≢ slot → disk_bytes new s ≡ disk_bytes old s
  other_disk s differ = same_disk old new s (changes.size s differ) (λ k. changes.byte s k differ)

  same_left : within kept.slots (all_members id (disks_in n new)) ≡ within kept.slots (all_members id (disks_in n old))
  same_left = ap (λ (i : ImageBytes). within kept.slots (all_members id i)) (slot_change n slot old new changes) ∙ unseen_members id slot kept.slots (disks_in n old) (disk_bytes new slot) out

  pub still_standing : Standing id (disks_in n new) kept.slots
  still_standing = record {
    record_ = is.standing.record_;
    content = is.standing.content;
    status_is = ap (λ (l : List Member). status id l) same_left ∙ is.standing.status_is;
    directories_is = ap (λ (l : List Member). directories is.standing.record_ l) same_left ∙ is.standing.directories_is;
  }

  pub still_there : (s : ℕ) → kept.slots s ≡ true → IsMemberIn id new s
  still_there s has = same_member id s old new (other_disk s (λ at. false≢true (sym out ∙ ap kept.slots (sym at) ∙ has))) (is.there s has)

pub bystanders_are_held : BystandersAreHeld
bystanders_are_held = λ n id slot groups kept old new changes out keeps is. record {
  sound = λ slots. keeps slots (is.sound slots);
  standing = still_standing n id slot groups kept old new changes out is;
  there = still_there n id slot groups kept old new changes out is;
}
