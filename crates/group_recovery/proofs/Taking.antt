-- The content that a mount takes describes a group of the list.
use Rattle.std.proofs.Common.{◌≡◌, inl, ℕ, Bool, true, ◌&&◌, List, [], ◌∷◌, refl, sym, ap, subst, ◌∙◌, Option, Some, None, ◌==◌}
use Rattle.std.specs.Prelude.{find}
use Rattle.std.proofs.lemmas.Bool.{eqb-true, eq-eqb}
use Rattle.asm_group.specs.Group.{Group}
use Rattle.asm_formats.specs.Sets.{elements}
use Rattle.asm_formats.specs.Status.{Status, entry_of}
use Rattle.asm_formats.specs.Content.{Content}
use Rattle.asm_formats.specs.Metadata.{Metadata}
use Rattle.asm_formats.specs.Among.{IsAmong}
use Rattle.asm_images.specs.Members.{ImageBytes, Member, all_members, within, is_disk, disk_of}
use Rattle.asm_images.specs.Register.{current_records}
use Rattle.asm_images.specs.Directories.{copies, copy_on, member_contents, to_list, newest, directories, IsNamed}
use Rattle.asm_images.specs.Sound.{SoundBy}
use Rattle.asm_images.proofs.Held.{find_some, no_newest}
use Rattle.asm_images.proofs.Membership.{flat_map_among, among_within, among_filtered, filter_out}
use Rattle.asm_images.proofs.Members.{member_is}
use Rattle.asm_images.proofs.History.{surveyed_counts}
use Rattle.asm_images.proofs.OneContent.{found_is_held}
use Rattle.asm_images.proofs.Replacing.{found_among}
use Rattle.group_recovery.specs.Taking.{TakesRecord, DescribesOne}

-- the slot of one member
abbrev pub at_slot : ℕ → ℕ → Bool
at_slot slot s = s == slot

module _ (id : ℕ) (image : ImageBytes) where
  abbrev ms : List Member
  ms = all_members id image

  one_disk : (m n : Member) → IsAmong ms m → IsAmong ms n → m.slot ≡ n.slot → m.disk ≡ n.disk
  one_disk m n hm hn same = (member_is id image m hm).disk ∙ ap (λ (k : ℕ). disk_of image k) same ∙ sym (member_is id image n hn).disk

  alone : (slot : ℕ) (m : Member) → IsAmong (within (at_slot slot) ms) m → m.slot ≡ slot
  unfolding within
  alone slot m h = eqb-true m.slot slot (filter_out (λ (m : Member). m.slot == slot) ms m h)

  is_alone : (m : Member) → IsAmong ms m → IsAmong (within (at_slot m.slot) ms) m
  unfolding within
  is_alone m h = among_filtered (λ (n : Member). n.slot == m.slot) ms m h (eq-eqb m.slot m.slot refl)

  -- a copy that the record names is among its copies
  is_listed : (r : Status) (m : Member) (c : Content) → IsAmong ms m → IsNamed r m.header → m.disk.content ≡ Some c → IsAmong (copies r (within (at_slot m.slot) ms)) c
  unfolding copies
  is_listed r m c h named is =
      let P = within (at_slot m.slot) ms in
      let passes : is_disk m.header.number named.entry.birth m.header ≡ true =
      (λ i. eq-eqb m.header.number m.header.number refl i && eq-eqb m.header.birth named.entry.birth (sym named.birth) i) in
      let n = find_some (λ (x : Member). is_disk m.header.number named.entry.birth x.header) P m (is_alone m h) passes in
      let among_n = found_among (λ (x : Member). is_disk m.header.number named.entry.birth x.header) P n.0 n.1 in
      let same : n.0.disk ≡ m.disk = one_disk n.0 m (among_within (at_slot m.slot) ms n.0 among_n) h (alone m.slot n.0 among_n) in
      let held : member_contents (find (λ (x : Member). is_disk m.header.number named.entry.birth x.header) P) ≡ c ∷ [] =
      ap member_contents n.1 ∙ ap (λ (d : Metadata). to_list d.content) same ∙ ap to_list is in
      let listed : copy_on P m.header.number (entry_of r.entries m.header.number) ≡ c ∷ [] = ap (copy_on P m.header.number) named.entry_is ∙ held in
      flat_map_among (λ (d : ℕ). copy_on P d (entry_of r.entries d)) (elements r.directories) m.header.number c named.named (subst (λ (l : List Content). IsAmong l c) (sym listed) (inl refl))

  -- where its disk alone is left, it is the directories
  pub found_alone : (r : Status) (m : Member) (c : Content) → IsAmong ms m → IsNamed r m.header → m.disk.content ≡ Some c → directories r (within (at_slot m.slot) ms) ≡ Some c
  found_alone r m c h named is = go (newest (copies r (within (at_slot m.slot) ms))) refl
    where
      go : (o : Option Content) → newest (copies r (within (at_slot m.slot) ms)) ≡ o → newest (copies r (within (at_slot m.slot) ms)) ≡ Some c
      go None e = absurd (no_newest (copies r (within (at_slot m.slot) ms)) c e (is_listed r m c h named is))
      go (Some d) e =
          let n = found_is_held r (within (at_slot m.slot) ms) d e in
          let same : n.0.disk ≡ m.disk = one_disk n.0 m (among_within (at_slot m.slot) ms n.0 n.1) h (alone m.slot n.0 n.1) in
          e ∙ sym n.3 ∙ ap (λ (x : Metadata). x.content) same ∙ is

  pub taken_counts : (completed : Option Status) (begun : List Status) (groups : List Group) (slots : ℕ → Bool) (r : Status) (c : Content) → SoundBy id image groups completed begun → TakesRecord id image slots r c
      → IsAmong (current_records completed begun) r
  taken_counts completed begun groups slots r c sound takes = surveyed_counts id ms completed begun slots r sound.fits takes.greatest_is takes.enough

pub taken_is_described : (id : ℕ) (image : ImageBytes) (groups : List Group) (completed : Option Status) (begun : List Status) (slots : ℕ → Bool) (r : Status) (c : Content)
    → SoundBy id image groups completed begun → TakesRecord id image slots r c → IsAmong (current_records completed begun) r × DescribesOne id image groups r c
taken_is_described id image groups completed begun slots r c sound takes =
    let counts = taken_counts id image completed begun groups slots r c sound takes in
    (counts, (sound.covered r counts takes.not_gone).described (at_slot takes.copy.slot) c (found_alone id image r takes.copy c takes.among takes.named takes.content))

pub taken_is_one : (id : ℕ) (image : ImageBytes) (groups : List Group) (completed : Option Status) (begun : List Status) (slots : ℕ → Bool) (r : Status) (c : Content)
    → SoundBy id image groups completed begun → TakesRecord id image slots r c
    → (m : Member) (d : Content) → IsAmong (all_members id image) m → IsNamed r m.header → m.disk.content ≡ Some d → d.commit ≡ c.commit → d ≡ c
taken_is_one id image groups completed begun slots r c sound takes m d among named is same =
    let counts = taken_counts id image completed begun groups slots r c sound takes in
    (sound.covered r counts takes.not_gone).one_content m takes.copy d c among takes.among named takes.named is takes.content same
