-- What a record covers, another covers, where all named copies have one content, by which it describes the same group.
use Rattle.std.proofs.Common.{◌≡◌, inl, ⊎_elim, ℕ, ◌≤◌, true, List, [], ◌∷◌, refl, sym, subst, ◌∙◌, Option, Some, None, arith, IsTrue}
use Rattle.std.specs.List.{list_all}
use Rattle.std.specs.Option.{is_some}
use Rattle.std.proofs.lemmas.Bool.{and_parts, false≢true}
use Rattle.std.proofs.lemmas.Option.{same_Some}
use Rattle.asm_group.specs.Shape.{Shape}
use Rattle.asm_group.specs.Group.{Group}
use Rattle.asm_formats.specs.Header.{Header}
use Rattle.asm_formats.specs.Status.{Status, Entry, entry_of}
use Rattle.asm_formats.specs.Items.{Item, Home}
use Rattle.asm_formats.specs.Content.{Content}
use Rattle.asm_formats.specs.Among.{IsAmong}
use Rattle.asm_placement.specs.Tables.{home_of}
use Rattle.asm_placement.specs.Placed.{Placed, placed, fits_entry, is_inside, all_apart, places_fit}
use Rattle.asm_images.specs.Members.{ImageBytes, Member, all_members, within}
use Rattle.asm_images.specs.Directories.{directories, IsNamed}
use Rattle.asm_images.specs.Copies.{is_kept}
use Rattle.asm_images.specs.Describing.{DescribesGroup}
use Rattle.asm_images.specs.Stands.{Describes, HasEntryUnits}
use Rattle.asm_images.specs.Sound.{IsCovered}
use Rattle.asm_images.proofs.Membership.{among_within}
use Rattle.asm_images.proofs.OneContent.{found_is_held}
use Rattle.asm_images.proofs.UserBytes.{home_is_placed, all_of_list}

entry_there : (s : Shape) (p : Placed) (o : Option Entry) → fits_entry s p o ≡ true → is_some o ≡ true
entry_there s p None e = absurd (false≢true e)
entry_there s p (Some x) e = refl

-- a home lies on a disk with an entry
pub home_has_entry : (s : Shape) (entries : List Entry) (items : List Item) (f i copy : ℕ) (h : Home) → places_fit s entries items ≡ true → home_of items f i copy ≡ Some h → is_some (entry_of entries h.disk) ≡ true
home_has_entry s entries items f i copy h fit e =
    let p = home_is_placed s.step items f i copy h e in
    let inside = all_of_list (is_inside s entries) (placed s.step items) p.0 (and_parts (list_all (is_inside s entries) (placed s.step items)) (all_apart (placed s.step items)) fit).0 p.1 in
    subst (λ (x : Home). is_some (entry_of entries x.disk) ≡ true) p.2 (entry_there s p.0 (entry_of entries p.0.home.disk) inside)

-- Of two records: which copies the second names the first names too, all of these have one content, and what else the second must have.
pub record IsAlike (id : ℕ) (image : ImageBytes) (g : Group) (r q : Status) (content : Content) (items : List Item) : Type 0 where
  pub decodes : content.items ≡ Some items
  pub have : (k : Member) → IsAmong (all_members id image) k → IsNamed r k.header → k.disk.content ≡ Some content
  pub found : (k : Member) → IsAmong (all_members id image) k → IsNamed r k.header → directories r (within (λ any. true) (all_members id image)) ≡ Some content
  pub named : (h : Header) → IsNamed q h → IsNamed r h
  pub births : r.births ≤ q.births
  pub units : (k : Member) → IsAmong (all_members id image) k → k.header.shape ≡ g.shape → HasEntryUnits r k → HasEntryUnits q k
  pub kept : (d : ℕ) (h : Header) → is_some (entry_of r.entries d) ≡ true → IsTrue (is_kept q d h) → IsTrue (is_kept r d h)
  pub describes : DescribesGroup q items g

module _ (id : ℕ) (image : ImageBytes) (g : Group) (r q : Status) (content : Content) (items : List Item) (a : IsAlike id image g r q content items)
    (cover : IsCovered id image (all_members id image) (g ∷ []) r) where
  abbrev ms : List Member
  ms = all_members id image

  under : Describes image ms ms r content g → Describes image ms ms q content g
  under d =
      let same : items ≡ d.items = same_Some items d.items (sym a.decodes ∙ d.decodes) in
      record {
        distinct = d.distinct;
        disks = λ k h. let e = d.disks k h in record { claims = e.claims; statuses = e.statuses; directories = e.directories; name = e.name; shape = e.shape; units = a.units k h e.shape e.units };
        items = d.items;
        decodes = d.decodes;
        describes = subst (λ (l : List Item). DescribesGroup q l g) same a.describes;
        bytes = λ f o b i inner copy file h k is cell lies hk current.
            d.bytes f o b i inner copy file h k is cell lies hk (record {
              home = current.home;
              kept = a.kept h.disk k.header (home_has_entry g.shape r.entries d.items f i copy h d.describes.places current.home) current.kept;
              fresh = current.fresh;
            });
      }

  has : (k : Member) (c : Content) → IsAmong ms k → IsNamed q k.header → k.disk.content ≡ Some c → c ≡ content
  has k c among named is = same_Some c content (sym is ∙ a.have k among (a.named k.header named))

  pub alike_is_covered : IsCovered id image ms (g ∷ []) q
  alike_is_covered = record {
    one_content = λ k n c d hk hn named_k named_n is_c is_d e. has k c hk named_k is_c ∙ sym (has n d hn named_n is_d);
    member_births = λ k h. omega (arith, cover.member_births k h, a.births);
    entry_births = λ t e h k. omega (arith, cover.entry_births t e h k, a.births);
    described = λ P c is.
        let held = found_is_held q (within P ms) c is in
        let among : IsAmong ms held.0 = among_within P ms held.0 held.1 in
        let same : c ≡ content = has held.0 c among held.2 held.3 in
        let was = cover.described (λ any. true) content (a.found held.0 among (a.named held.0.header held.2)) in
        let is_g : was.0 ≡ g = ⊎_elim (λ e. e) (λ none. absurd none) was.1 in
        (g, inl refl, subst (λ (x : Content). Describes image ms ms q x g) (sym same) (under (subst (λ (h : Group). Describes image ms ms r content h) is_g was.2)));
  }
