-- One content on all named copies, and contents that come to be known.
use Rattle.std.proofs.Common.{◌≡◌, inl, inr, ⊎_elim, ℕ, ◌+◌, ◌*◌, ◌<◌, ◌≤◌, Bool, true, false, List, [], ◌∷◌, ◌++◌, length, map, get_or, refl, sym, ap, subst, ◌∙◌, Option, Some, None}
use Rattle.std.specs.Prelude.{find}
use Rattle.std.proofs.lemmas.Bool.{eqb-true, and_parts}
use Rattle.std.proofs.lemmas.Option.{same_Some}
use Rattle.asm_group.specs.Shape.{Shape}
use Rattle.asm_group.specs.Group.{Group}
use Rattle.asm_formats.specs.Bytes.{block_size}
use Rattle.asm_formats.specs.Regions.{region_end}
use Rattle.asm_formats.specs.Sets.{elements}
use Rattle.asm_formats.specs.Status.{Status, Entry, entry_of}
use Rattle.asm_formats.specs.Items.{Item}
use Rattle.asm_formats.specs.Content.{Content}
use Rattle.asm_formats.specs.Metadata.{Metadata, metadata}
use Rattle.asm_formats.specs.Places.{SameElsewhere}
use Rattle.asm_formats.specs.Among.{IsAmong}
use Rattle.asm_placement.specs.Placed.{places_fit}
use Rattle.asm_images.specs.Members.{ImageBytes, Member, written, disk_of, all_members, within, is_disk, statuses}
use Rattle.asm_images.specs.Register.{current_records}
use Rattle.asm_images.specs.Directories.{to_list, member_contents, copy_on, copies, directories, IsNamed}
use Rattle.asm_images.specs.Stands.{Describes, IsDiskOf}
use Rattle.asm_images.specs.Sound.{IsCovered}
use Rattle.asm_images.specs.Steps.{IsLast, IsBegun, IsNarrower, ChangesContent, IsKnown}
use Rattle.asm_images.specs.ContentLaws.{HaveContent, IsContentReady}
use Rattle.asm_images.proofs.Membership.{among_flat_map, among_within, among_right}
use Rattle.asm_images.proofs.Replacing.{found_among, replaced, replaced_keeps, members_replaced}
use Rattle.asm_images.proofs.Committing.{newest_among, find_passes, commit_disk}
use Rattle.asm_images.proofs.Claiming.{described_map, at_change}
use Rattle.asm_images.proofs.UserBytes.{copy_byte_kept}
use Rattle.asm_images.proofs.Recording.{current_split}

-- ---- where a content is found

held_content : (o : Option Member) (c : Content) → IsAmong (member_contents o) c → (m : Member) × (o ≡ Some m) × (m.disk.content ≡ Some c)
held_content None c h = absurd h
held_content (Some m) c h = go m.disk.content refl h
  where
    go : (x : Option Content) → m.disk.content ≡ x → IsAmong (to_list x) c → (n : Member) × (Some m ≡ Some n) × (n.disk.content ≡ Some c)
    go None is k = absurd k
    go (Some d) is k = (m, refl, is ∙ ap (λ (e : Content). Some e) (⊎_elim (λ same. sym same) (λ none. absurd none) k))

pub found_is_held : (r : Status) (ms : List Member) (c : Content) → directories r ms ≡ Some c → (m : Member) × IsAmong ms m × IsNamed r m.header × (m.disk.content ≡ Some c)
unfolding copies
found_is_held r ms c found =
    let from = among_flat_map (λ (d : ℕ). copy_on ms d (entry_of r.entries d)) (elements r.directories) c (newest_among (copies r ms) c found) in
    go from.0 from.1 (entry_of r.entries from.0) refl from.2
  where
    go : (d : ℕ) → IsAmong (elements r.directories) d → (o : Option Entry) → entry_of r.entries d ≡ o → IsAmong (copy_on ms d o) c → (m : Member) × IsAmong ms m × IsNamed r m.header × (m.disk.content ≡ Some c)
    go d listed None is h = absurd h
    go d listed (Some e) is h =
        let held = held_content (find (λ (m : Member). is_disk d e.birth m.header) ms) c h in
        let m = held.0 in
        let p = and_parts _ _ (find_passes (λ (m : Member). is_disk d e.birth m.header) ms m held.1) in
        let number : m.header.number ≡ d = eqb-true m.header.number d p.0 in
        let birth : m.header.birth ≡ e.birth = eqb-true m.header.birth e.birth p.1 in (
          m,
          found_among (λ (m : Member). is_disk d e.birth m.header) ms m held.1,
          record { named = subst (λ (n : ℕ). IsAmong (elements r.directories) n) (sym number) listed; entry = e; entry_is = ap (entry_of r.entries) number ∙ is; birth = sym birth },
          held.2,
        )

pub one_content_is_found : (r : Status) (ms : List Member) (c d : Content) (P : ℕ → Bool) → HaveContent r ms c → directories r (within P ms) ≡ Some d → d ≡ c
one_content_is_found r ms c d P have found =
    let m = found_is_held r (within P ms) d found in
    have m.0 d (among_within P ms m.0 m.1) m.2 m.3

pub one_content_is_covered : (id : ℕ) (image : ImageBytes) (groups : List Group) (r : Status) (c : Content) (g : Group) → HaveContent r (all_members id image) c
    → ((m : Member) → IsAmong (all_members id image) m → m.header.birth ≤ r.births)
    → ((s : Status) (e : Entry) → IsAmong (statuses id (all_members id image)) s → IsAmong s.entries e → e.birth ≤ r.births)
    → IsAmong groups g → Describes image (all_members id image) (all_members id image) r c g
    → IsCovered id image (all_members id image) groups r
one_content_is_covered id image groups r c g have member_births entry_births among d = record {
  one_content = λ m n x y hm hn named_m named_n is_x is_y e. have m x hm named_m is_x ∙ sym (have n y hn named_n is_y);
  member_births = member_births;
  entry_births = entry_births;
  described = λ P x found. (g, among, subst (λ (y : Content). Describes image (all_members id image) (all_members id image) r y g) (sym (one_content_is_found r (all_members id image) c x P have found)) d);
}

pub one_content_narrows : (id : ℕ) (image : ImageBytes) (g : Group) (completed : Option Status) (begun : List Status) (c : Content)
    → ((r : Status) → IsAmong (current_records completed begun) r → r.gone ≡ false
    → HaveContent r (all_members id image) c × Describes image (all_members id image) (all_members id image) r c g)
    → IsNarrower id image (g ∷ []) completed begun
one_content_narrows id image g completed begun c each = record {
  left = λ r x P counts not_gone found.
      let e = each r counts not_gone in
      (g, inl refl, subst (λ (y : Content). Describes image (all_members id image) (all_members id image) r y g) (sym (one_content_is_found r (all_members id image) c x P e.0 found)) e.1);
}

-- ---- a content that is ready is known once it is put

pub ready_is_known : (id : ℕ) (old : ImageBytes) (groups : List Group) (completed : Option Status) (begun : List Status) (slot : ℕ) (bytes : List ℕ) (c : Content) (at n : ℕ) → slot < length old
    → ChangesContent (disk_of old slot) (metadata bytes) → SameElsewhere (get_or old slot []) bytes at n
    → ((m : Member) → IsAmong (all_members id old) m → m.slot ≡ slot → at + n ≤ region_end m.header.shape.dir_blocks * block_size)
    → IsContentReady id old groups completed begun slot c → IsKnown id old (written old slot bytes) groups completed begun slot c
ready_is_known id old groups completed begun slot bytes c at n inside change same below ready =
    let ms = all_members id old in
    let d = metadata bytes in
    let f = replaced slot d in
    let keeps = replaced_keeps slot d in
    let members_same : all_members id (written old slot bytes) ≡ map f ms = members_replaced id old slot bytes inside (ap (λ (x : Metadata). x.header) change.others) in
    let disks : (g : Group) (r : Status) (m : Member) → IsAmong ms m → IsDiskOf g r m → IsDiskOf g r (f m) =
    λ g r m h. at_change id old slot d (λ a b. IsDiskOf g r a → IsDiskOf g r b) (λ a is k. commit_disk (disk_of old slot) d g r a change is k) (λ a k. k) m h in
    record {
      agrees = ready.agrees;
      described = λ r m counts not_gone hm there named.
          let g = ready.described r m counts not_gone hm there named in
          let was = g.2 in (
            g.0,
            g.1,
            subst (λ (l : List Member). Describes (written old slot bytes) l l r c g.0) (sym members_same)
                (described_map old (written old slot bytes) f keeps ms r c g.0 (disks g.0 r) (λ items decodes x i copy inner h k is_member current lt.
                let items_same : was.items ≡ items = same_Some was.items items (sym was.decodes ∙ decodes) in
                let fit : places_fit k.header.shape r.entries items ≡ true =
                subst (λ (l : List Item). places_fit k.header.shape r.entries l ≡ true) items_same (subst (λ (s : Shape). places_fit s r.entries was.items ≡ true) (sym (was.disks k is_member).shape) was.describes.places) in
                copy_byte_kept id old slot bytes at n inside same below r items x i copy inner h k fit is_member current.home) was),
          );
    }

-- ---- the last record

pub begun_is_last : (id : ℕ) (image : ImageBytes) (groups : List Group) (completed : Option Status) (begun : List Status) (r : Status) → IsBegun id image groups completed begun r
    → IsLast completed (begun ++ (r ∷ [])) r
begun_is_last id image groups completed begun r b = record {
  counts = counted completed;
  greatest = λ s h. ⊎_elim (λ before. inr (b.above s before)) (λ new. inl new) (current_split completed begun r s h);
}
  where
    counted : (o : Option Status) → IsAmong (current_records o (begun ++ (r ∷ []))) r
    counted None = among_right begun (r ∷ []) r (inl refl)
    counted (Some v) = inr (among_right begun (r ∷ []) r (inl refl))

pub complete_is_last : (r : Status) → IsLast (Some r) [] r
complete_is_last r = record { counts = inl refl; greatest = λ s h. ⊎_elim (λ e. inl e) (λ none. absurd none) h }
