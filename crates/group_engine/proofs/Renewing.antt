-- Members whose disks say something else, while slots and headers stay.
use Rattle.std.proofs.Common.{◌≡◌, inl, ℕ, suc, ◌+◌, ◌<◌, Bool, true, false, cond, ltb, List, [], ◌∷◌, length, map, get_or, refl, sym, ap, subst, ◌∙◌, Option, Some, None, arith, ◌==◌}
use Rattle.std.specs.Prelude.{find}
use Rattle.std.proofs.lemmas.Bool.{cond_both, eq-eqb, and_parts, eqb-true}
use Rattle.std.proofs.lemmas.Option.{same_Some}
use Rattle.std.specs.Prelude.{◌&&◌}
use Rattle.asm_formats.specs.Among.{IsAmong}
use Rattle.asm_formats.specs.Header.{Header}
use Rattle.asm_formats.specs.Metadata.{Metadata, metadata}
use Rattle.asm_formats.specs.Content.{Content}
use Rattle.asm_formats.specs.Sets.{elements}
use Rattle.asm_formats.specs.Status.{Status, entry_of}
use Rattle.asm_images.specs.Members.{ImageBytes, Member, with_member, members_from, members, all_members, within, disk_of, is_disk}
use Rattle.asm_images.specs.Directories.{to_list, member_contents, copy_on, copies, newest, newer, directories, IsNamed}
use Rattle.asm_placement.proofs.Membership.{among_filtered}
use Rattle.asm_images.proofs.Membership.{flat_map_among}
use Rattle.asm_images.proofs.Replacing.{Keeps, found_among}
use Rattle.asm_images.proofs.Committing.{find_passes}
use Rattle.asm_images.proofs.Held.{find_some}
use Rattle.asm_images.proofs.OneContent.{one_content_is_found}

-- the member's disk as it is on another image
abbrev pub renewed : ImageBytes → Member → Member
renewed image m = record m { disk = disk_of image m.slot }

pub renewed_keeps : (image : ImageBytes) → Keeps (renewed image)
renewed_keeps image = record { slot = λ m. refl; header = λ m. refl }

both_lists : (f : Member → Member) (b : Bool) (x y : Member) (others rest : List Member) → x ≡ f y → others ≡ map f rest → cond b (x ∷ others) others ≡ map f (cond b (y ∷ rest) rest)
both_lists f true x y others rest e same = λ i. e i ∷ same i
both_lists f false x y others rest e same = same

one_renewed : (id slot : ℕ) (new : ImageBytes) (x y : Metadata) (o : Option Header) (others rest : List Member) → disk_of new slot ≡ y → others ≡ map (renewed new) rest
    → with_member id slot y o others ≡ map (renewed new) (with_member id slot x o rest)
one_renewed id slot new x y None others rest is same = same
one_renewed id slot new x y (Some h) others rest is same =
    both_lists (renewed new) (h.id == id) (record { slot = slot; header = h; disk = y }) (record { slot = slot; header = h; disk = x }) others rest
    (ap (λ (d : Metadata). record { slot = slot; header = h; disk = d }) (sym is)) same

renewed_from : (id slot : ℕ) (new : ImageBytes) (olds news : ImageBytes) → length news ≡ length olds
    → ((k : ℕ) → k < length olds → (metadata (get_or news k [])).header ≡ (metadata (get_or olds k [])).header)
    → ((k n : ℕ) → n ≡ k + slot → k < length olds → get_or new n [] ≡ get_or news k [])
    → members_from id slot (map metadata news) ≡ map (renewed new) (members_from id slot (map metadata olds))
renewed_from id slot new [] [] size header at = refl
renewed_from id slot new [] (y ∷ news) size header at = absurd (omega arith)
renewed_from id slot new (x ∷ olds) [] size header at = absurd (omega arith)
renewed_from id slot new (x ∷ olds) (y ∷ news) size header at =
    let rest : members_from id (suc slot) (map metadata news) ≡ map (renewed new) (members_from id (suc slot) (map metadata olds)) =
    renewed_from id (suc slot) new olds news (omega arith) (λ k lt. header (suc k) (omega arith)) (λ k n is lt. at (suc k) n (omega arith) (omega arith)) in
    let here : disk_of new slot ≡ metadata y = ap metadata (at 0 slot (omega arith) (omega arith)) in
    ap (λ (o : Option Header). with_member id slot (metadata y) o (members_from id (suc slot) (map metadata news))) (header 0 (omega arith))
    ∙ one_renewed id slot new (metadata x) (metadata y) (metadata x).header (members_from id (suc slot) (map metadata news)) (members_from id (suc slot) (map metadata olds)) here rest

-- Where headers stay, the members are those before, with their disks as they are now.
pub members_renewed : (id : ℕ) (old new : ImageBytes) → length new ≡ length old → ((slot : ℕ) → slot < length old → (disk_of new slot).header ≡ (disk_of old slot).header)
    → all_members id new ≡ map (renewed new) (all_members id old)
unfolding members
members_renewed id old new size header = renewed_from id 0 new old new size header (λ k n is lt. ap (λ (j : ℕ). get_or new j []) (omega arith))

-- ---- a named copy is found

pub within_all : (ms : List Member) → within (λ any. true) ms ≡ ms
unfolding within
within_all [] = refl
within_all (m ∷ ms) = ap (λ (l : List Member). m ∷ l) (within_all ms)

-- a member in one of the slots is among those within them
pub among_some : (slots : ℕ → Bool) (ms : List Member) (m : Member) → IsAmong ms m → slots m.slot ≡ true → IsAmong (within slots ms) m
unfolding within
among_some slots ms m h own = among_filtered (λ (n : Member). slots n.slot) ms m h own

pub newest_some : (cs : List Content) (c : Content) → IsAmong cs c → (d : Content) × (newest cs ≡ Some d)
newest_some [] c h = absurd h
newest_some (x ∷ cs) c h = go (newest cs)
  where
    go : (o : Option Content) → (d : Content) × (newer x o ≡ Some d)
    go None = (x, refl)
    go (Some y) = cond_both (ltb x.commit y.commit) (Some y) (Some x) (λ (o : Option Content). (d : Content) × (o ≡ Some d)) (λ yes. (y, refl)) (λ no. (x, refl))

module _ (r : Status) (ms : List Member) (m : Member) (among : IsAmong ms m) (named : IsNamed r m.header) where
  abbrev test : Member → Bool
  test x = is_disk m.header.number named.entry.birth x.header

  passes : test m ≡ true
  passes = λ i. eq-eqb m.header.number m.header.number refl i && eq-eqb m.header.birth named.entry.birth (sym named.birth) i

  -- a copy is found on the disk of a named member, where each member that is this disk has a content
  pub copy_there : ((x : Member) → IsAmong ms x → IsNamed r x.header → x.header.number ≡ m.header.number → x.header.birth ≡ m.header.birth → (c : Content) × (x.disk.content ≡ Some c))
      → (c : Content) × IsAmong (copies r ms) c
  unfolding copies
  copy_there have =
      let f = find_some test ms m among passes in
      let x = f.0 in
      let x_among : IsAmong ms x = found_among test ms x f.1 in
      let p = and_parts _ _ (find_passes test ms x f.1) in
      let number : x.header.number ≡ m.header.number = eqb-true x.header.number m.header.number p.0 in
      let birth : x.header.birth ≡ named.entry.birth = eqb-true x.header.birth named.entry.birth p.1 in
      let x_named : IsNamed r x.header = record {
        named = subst (λ (n : ℕ). IsAmong (elements r.directories) n) (sym number) named.named;
        entry = named.entry;
        entry_is = ap (entry_of r.entries) number ∙ named.entry_is;
        birth = sym birth;
      } in
      let c = have x x_among x_named number (birth ∙ named.birth) in
      let held : member_contents (find test ms) ≡ c.0 ∷ [] = ap member_contents f.1 ∙ ap to_list c.1 in
      let here : copy_on ms m.header.number (entry_of r.entries m.header.number) ≡ c.0 ∷ [] = ap (copy_on ms m.header.number) named.entry_is ∙ held in (
        c.0,
        flat_map_among (λ (d : ℕ). copy_on ms d (entry_of r.entries d)) (elements r.directories) m.header.number c.0 named.named
            (subst (λ (l : List Content). IsAmong l c.0) (sym here) (inl refl)),
      )

  pub found_by_copy : ((x : Member) → IsAmong ms x → IsNamed r x.header → x.header.number ≡ m.header.number → x.header.birth ≡ m.header.birth → (c : Content) × (x.disk.content ≡ Some c))
      → (c : Content) × (directories r ms ≡ Some c)
  found_by_copy have =
      let c = copy_there have in
      newest_some (copies r ms) c.0 c.1

  -- so it is where each named member has one
  pub some_found : ((x : Member) → IsAmong ms x → IsNamed r x.header → (c : Content) × (x.disk.content ≡ Some c)) → (c : Content) × (directories r ms ≡ Some c)
  some_found have = found_by_copy (λ x among_x named_x number birth. have x among_x named_x)

  pub content_found : (c : Content) → ((x : Member) → IsAmong ms x → IsNamed r x.header → x.disk.content ≡ Some c) → directories r (within (λ any. true) ms) ≡ Some c
  content_found c have =
      let n = some_found (λ x a b. (c, have x a b)) in
      let found : directories r (within (λ any. true) ms) ≡ Some n.0 = ap (λ (l : List Member). directories r l) (within_all ms) ∙ n.1 in
      found ∙ ap (λ (d : Content). Some d) (one_content_is_found r ms c n.0 (λ any. true) (λ x d x_among x_named is. same_Some d c (sym is ∙ have x x_among x_named)) found)
