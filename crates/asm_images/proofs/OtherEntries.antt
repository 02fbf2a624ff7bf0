-- What a record covers, a record with other entries covers that fit what the directories say.
use Rattle.std.proofs.Common.{◌≡◌, inl, inr, ℕ, Bool, true, List, [], ◌∷◌, ◌++◌, refl, sym, ap, subst, ◌∙◌, Option, Some, None, arith}
use Rattle.std.specs.Prelude.{find}
use Rattle.std.specs.List.{list_all, flat_map}
use Rattle.std.specs.Option.{is_some}
use Rattle.std.proofs.lemmas.Bool.{and_parts, false≢true}
use Rattle.std.proofs.lemmas.Option.{same_Some, none-some}
use Rattle.asm_group.specs.Shape.{Shape}
use Rattle.asm_group.specs.Group.{Group}
use Rattle.asm_formats.specs.Sets.{elements}
use Rattle.asm_formats.specs.Header.{Header}
use Rattle.asm_formats.specs.Status.{Status, Entry, entry_of}
use Rattle.asm_formats.specs.Items.{Item, Home}
use Rattle.asm_formats.specs.Content.{Content}
use Rattle.asm_formats.specs.Among.{IsAmong}
use Rattle.asm_placement.specs.Tables.{home_of}
use Rattle.asm_placement.specs.Placed.{Placed, placed, fits_entry, is_inside, all_apart, places_fit}
use Rattle.asm_images.specs.Members.{ImageBytes, Member, all_members, within, is_disk}
use Rattle.asm_images.specs.Directories.{newest, member_contents, copy_on, copies, directories, IsNamed}
use Rattle.asm_images.specs.Stands.{Describes}
use Rattle.asm_images.specs.Sound.{IsCovered}
use Rattle.asm_images.specs.RecordLaws.{IsReadUnder, birth_of, ChangesEntries}
use Rattle.asm_images.proofs.UserBytes.{home_is_placed, all_of_list}

same_copy : (ms : List Member) (d : ℕ) (o p : Option Entry) → birth_of o ≡ birth_of p → copy_on ms d o ≡ copy_on ms d p
same_copy ms d None None e = refl
same_copy ms d None (Some y) e = absurd cc
same_copy ms d (Some x) None e = absurd cc
same_copy ms d (Some x) (Some y) e = ap (λ (n : ℕ). member_contents (find (λ (m : Member). is_disk d n m.header) ms)) (same_Some x.birth y.birth e)

flat_same : {A B : Type 0} (f g : A → List B) (xs : List A) → ((x : A) → IsAmong xs x → f x ≡ g x) → flat_map f xs ≡ flat_map g xs
flat_same f g [] same = refl
flat_same {A} {B} f g (x ∷ xs) same = λ i. same x (inl refl) i ++ flat_same f g xs (λ y h. same y (inr h)) i

entry_there : (s : Shape) (p : Placed) (o : Option Entry) → fits_entry s p o ≡ true → is_some o ≡ true
entry_there s p None e = absurd (false≢true e)
entry_there s p (Some x) e = refl

-- a home lies on a disk with an entry
home_has_entry : (s : Shape) (entries : List Entry) (items : List Item) (f i copy : ℕ) (h : Home) → places_fit s entries items ≡ true → home_of items f i copy ≡ Some h → is_some (entry_of entries h.disk) ≡ true
home_has_entry s entries items f i copy h fit e =
    let p = home_is_placed s.step items f i copy h e in
    let inside = all_of_list (is_inside s entries) (placed s.step items) p.0 (and_parts (list_all (is_inside s entries) (placed s.step items)) (all_apart (placed s.step items)) fit).0 p.1 in
    subst (λ (x : Home). is_some (entry_of entries x.disk) ≡ true) p.2 (entry_there s p.0 (entry_of entries p.0.home.disk) inside)

module _ (id : ℕ) (image : ImageBytes) (groups : List Group) (r s : Status) (change : ChangesEntries (all_members id image) r s) (cover : IsCovered id image (all_members id image) groups r) where
  abbrev them : List Member
  them = all_members id image

  same_copies : (P : ℕ → Bool) → copies s (within P them) ≡ copies r (within P them)
  unfolding copies
  same_copies P =
      ap (λ (n : ℕ). flat_map (λ (d : ℕ). copy_on (within P them) d (entry_of s.entries d)) (elements n)) change.directories
      ∙ flat_same (λ (d : ℕ). copy_on (within P them) d (entry_of s.entries d)) (λ (d : ℕ). copy_on (within P them) d (entry_of r.entries d)) (elements r.directories)
      (λ d h. same_copy (within P them) d (entry_of s.entries d) (entry_of r.entries d) (change.named d h))

  was_named : (h : Header) → IsNamed s h → IsNamed r h
  was_named h named = go (entry_of r.entries h.number) refl
    where
      listed : IsAmong (elements r.directories) h.number
      listed = subst (λ (n : ℕ). IsAmong (elements n) h.number) change.directories named.named

      births : Some named.entry.birth ≡ birth_of (entry_of r.entries h.number)
      births = sym (ap birth_of named.entry_is) ∙ change.named h.number listed

      go : (o : Option Entry) → entry_of r.entries h.number ≡ o → IsNamed r h
      go None is = absurd (none-some named.entry.birth (sym (births ∙ ap birth_of is)))
      go (Some e) is = record { named = listed; entry = e; entry_is = is; birth = sym (same_Some named.entry.birth e.birth (births ∙ ap birth_of is)) ∙ named.birth }

  described_so : (P : ℕ → Bool) (c : Content) (g : Group) → directories r (within P them) ≡ Some c → Describes image them them r c g → Describes image them them s c g
  described_so P c g found d =
      let under : IsReadUnder r them d.items = record { readable = P; content = c; found = found; decodes = d.decodes } in
      record {
        distinct = d.distinct;
        disks = λ m h. let k = d.disks m h in record { claims = k.claims; statuses = k.statuses; directories = k.directories; name = k.name; shape = k.shape; units = change.units m h };
        items = d.items;
        decodes = d.decodes;
        describes = let k = d.describes in record {
          tree = k.tree;
          tree_rules = k.tree_rules;
          files = k.files;
          extents = k.extents;
          extent_rules = k.extent_rules;
          owned = k.owned;
          places = change.places g.shape d.items under k.places;
          regular = change.regular d.items under k.regular;
          templates = k.templates;
          attributes = k.attributes;
          next = k.next;
          disks = change.infos d.items under;
          partners = change.partners;
          room = k.room;
        };
        bytes = λ f o b i inner copy file h m is cell lies hm current.
            d.bytes f o b i inner copy file h m is cell lies hm (record {
              home = current.home;
              kept = change.kept h.disk m.header (home_has_entry g.shape r.entries d.items f i copy h d.describes.places current.home) current.kept;
              fresh = current.fresh;
            });
      }

  pub entries_are_covered : IsCovered id image (all_members id image) groups s
  entries_are_covered = record {
    one_content = λ m n c d hm hn named_m named_n is_c is_d e. cover.one_content m n c d hm hn (was_named m.header named_m) (was_named n.header named_n) is_c is_d e;
    member_births = λ m h. omega (arith, cover.member_births m h, change.births);
    entry_births = λ t e h k. omega (arith, cover.entry_births t e h k, change.births);
    described = λ P c is.
        let found : directories r (within P them) ≡ Some c = ap newest (sym (same_copies P)) ∙ is in
        let g = cover.described P c found in
        (g.0, g.1, described_so P c g.0 found g.2);
  }
