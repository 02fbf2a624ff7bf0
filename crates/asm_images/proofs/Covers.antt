-- What a record covers, another covers that names the same disks.
use Rattle.std.proofs.Common.{◌≡◌, inl, inr, ⊎_elim, ℕ, ◌≤◌, Bool, true, false, cond, not, ◌&&◌, ◌||◌, List, [], ◌∷◌, ◌++◌, get_or, filter, refl, sym, ap, subst, ◌∙◌, Option, Some, None, arith, ◌==◌}
use Rattle.std.specs.Prelude.{find}
use Rattle.std.specs.List.{list_all, flat_map, range_with_len}
use Rattle.std.specs.Option.{option_map}
use Rattle.std.proofs.lemmas.Bool.{cond_both, cond-true, cond-false, cases_Bool, cases_eq, eq-eqb, ne_eqb, both_ways}
use Rattle.std.proofs.lemmas.Option.{same_Some}
use Rattle.asm_group.specs.Group.{Group}
use Rattle.asm_formats.specs.Regions.{units_in}
use Rattle.asm_formats.specs.Sets.{has_bit, elements}
use Rattle.asm_formats.specs.Header.{Header}
use Rattle.asm_formats.specs.Status.{Status, Entry, entry_of}
use Rattle.asm_formats.specs.Content.{Content}
use Rattle.asm_formats.specs.Among.{IsAmong}
use Rattle.asm_images.specs.Members.{ImageBytes, Member, all_members, within, is_disk}
use Rattle.asm_images.specs.Directories.{newest, member_contents, copy_on, copies, IsNamed}
use Rattle.asm_images.specs.Copies.{is_kept}
use Rattle.asm_images.specs.Stands.{Describes, HasEntryUnits}
use Rattle.asm_images.specs.Sound.{IsCovered}
use Rattle.asm_images.specs.RecordLaws.{bare, ChangesModes}
use Rattle.asm_formats.specs.Metadata.{header_of}
use Rattle.asm_images.proofs.Bare.{Bare, all_info, has_bare, same_entry, same_places, same_regular}
use Rattle.asm_images.proofs.Membership.{among_filter, among_filtered, filter_out}
use Rattle.asm_images.proofs.Members.{member_is}
use Rattle.asm_images.proofs.Sharing.{all_among}
use Rattle.asm_images.proofs.Joining.{find_filter}

same_copy : (ms : List Member) (d : ℕ) (o p : Option Entry) → option_map bare o ≡ option_map bare p → copy_on ms d o ≡ copy_on ms d p
same_copy ms d None None e = refl
same_copy ms d None (Some y) e = absurd cc
same_copy ms d (Some x) None e = absurd cc
same_copy ms d (Some x) (Some y) e =
    let birth : x.birth ≡ y.birth = ap (λ (b : Bare). b.1) (same_Some (bare x) (bare y) e) in
    ap (λ (n : ℕ). member_contents (find (λ (m : Member). is_disk d n m.header) ms)) birth

-- ---- other modes

module _ (id : ℕ) (image : ImageBytes) (groups : List Group) (r s : Status) (change : ChangesModes r s) (cover : IsCovered id image (all_members id image) groups r) where
  abbrev ms : List Member
  ms = all_members id image

  same_copies : (P : ℕ → Bool) → copies s (within P ms) ≡ copies r (within P ms)
  unfolding copies
  same_copies P =
      (λ i. flat_map (λ (d : ℕ). same_copy (within P ms) d (entry_of s.entries d) (entry_of r.entries d) (same_entry s.entries r.entries d change.entries) i) (elements s.directories))
      ∙ ap (λ (n : ℕ). flat_map (λ (d : ℕ). copy_on (within P ms) d (entry_of r.entries d)) (elements n)) change.directories

  was_named : (h : Header) → IsNamed s h → IsNamed r h
  was_named h named =
      let e = has_bare s.entries r.entries h.number named.entry change.entries named.entry_is in
      record {
        named = subst (λ (n : ℕ). IsAmong (elements n) h.number) change.directories named.named;
        entry = e.entry;
        entry_is = e.is;
        birth = sym (ap (λ (b : Bare). b.1) e.same) ∙ named.birth;
      }

  same_units : (m : Member) → HasEntryUnits r m → HasEntryUnits s m
  same_units m units e is birth =
      let b = has_bare s.entries r.entries m.header.number e change.entries is in
      subst (λ (n : ℕ). n ≤ units_in m.header.shape m.disk.size) (sym (ap (λ (b : Bare). b.2) b.same)) (units b.entry b.is (sym (ap (λ (b : Bare). b.1) b.same) ∙ birth))

  described_so : (c : Content) (g : Group) → Describes image ms ms r c g → Describes image ms ms s c g
  described_so c g d = record {
    distinct = d.distinct;
    disks = λ m h. let k = d.disks m h in record { claims = k.claims; statuses = k.statuses; directories = k.directories; name = k.name; shape = k.shape; units = same_units m k.units };
    items = d.items;
    decodes = d.decodes;
    describes = let k = d.describes in record {
      tree = k.tree;
      tree_rules = k.tree_rules;
      files = k.files;
      extents = k.extents;
      extent_rules = k.extent_rules;
      owned = k.owned;
      places = same_places s.entries r.entries g.shape d.items change.entries ∙ k.places;
      regular = λ f i copy h at. same_regular (entry_of s.entries h.disk) (entry_of r.entries h.disk) (same_entry s.entries r.entries h.disk change.entries) ∙ k.regular f i copy h at;
      templates = k.templates;
      attributes = k.attributes;
      next = k.next;
      disks = all_info d.items s.entries r.entries change.entries ∙ k.disks;
      partners = change.partners;
      room = k.room;
    };
    bytes = λ f o b i inner copy file h m is cell lies hm current.
        d.bytes f o b i inner copy file h m is cell lies hm (record { home = current.home; kept = change.kept h.disk m.header current.kept; fresh = current.fresh });
  }

  pub modes_are_covered : IsCovered id image (all_members id image) groups s
  modes_are_covered = record {
    one_content = λ m n c d hm hn named_m named_n is_c is_d e. cover.one_content m n c d hm hn (was_named m.header named_m) (was_named n.header named_n) is_c is_d e;
    member_births = λ m h. omega (arith, cover.member_births m h, change.births);
    entry_births = λ t e h k. omega (arith, cover.entry_births t e h k, change.births);
    described = λ P c is.
        let g = cover.described P c (ap newest (sym (same_copies P)) ∙ is) in
        (g.0, g.1, described_so c g.0 g.2);
  }

-- ---- fewer directory copies

all_true : {A : Type 0} (t : A → Bool) (xs : List A) → ((x : A) → IsAmong xs x → t x ≡ true) → list_all t xs ≡ true
all_true t [] each = refl
all_true t (x ∷ xs) each = λ i. each x (inl refl) i && all_true t xs (λ y h. each y (inr h)) i

find_none : {A : Type 0} (t : A → Bool) (xs : List A) → ((x : A) → IsAmong xs x → t x ≡ false) → find t xs ≡ None
find_none t [] each = refl
find_none t (x ∷ xs) each = cond-false (t x) (Some x) (find t xs) (each x (inl refl)) ∙ find_none t xs (λ y h. each y (inr h))

flat_filter : {A B : Type 0} (f : A → List B) (p : A → Bool) (xs : List A) → flat_map f (filter p xs) ≡ flat_map (λ (x : A). cond (p x) (f x) []) xs
flat_filter f p [] = refl
flat_filter {A} {B} f p (x ∷ xs) = go (p x) (flat_filter f p xs)
  where
    go : (b : Bool) → flat_map f (filter p xs) ≡ flat_map (λ (x : A). cond (p x) (f x) []) xs
        → flat_map f (cond b (x ∷ filter p xs) (filter p xs)) ≡ cond b (f x) [] ++ flat_map (λ (x : A). cond (p x) (f x) []) xs
    go true same = ap (λ (l : List B). f x ++ l) same
    go false same = same

filter_twice : {A : Type 0} (p q k : A → Bool) (xs : List A) → ((x : A) → IsAmong xs x → k x ≡ q x) → filter (λ x. p x && k x) xs ≡ filter q (filter p xs)
filter_twice p q k [] same = refl
filter_twice {A} p q k (x ∷ xs) same =
    let rest : filter (λ x. p x && k x) xs ≡ filter q (filter p xs) = filter_twice p q k xs (λ y h. same y (inr h)) in
    go (p x) rest
  where
    go : (b : Bool) → filter (λ x. p x && k x) xs ≡ filter q (filter p xs)
        → cond (b && k x) (x ∷ filter (λ x. p x && k x) xs) (filter (λ x. p x && k x) xs) ≡ filter q (cond b (x ∷ filter p xs) (filter p xs))
    go true rest = λ i. cond (same x (inl refl) i) (x ∷ rest i) (rest i)
    go false rest = rest

module _ (id : ℕ) (image : ImageBytes) (r : Status) (fewer : ℕ) (less : (d : ℕ) → has_bit fewer d ≡ true → has_bit r.directories d ≡ true) where
  abbrev them : List Member
  them = all_members id image

  -- the member's number is one of the fewer
  abbrev is_left : Member → Bool
  is_left m = has_bit fewer m.header.number

  -- so is that of the slot's member
  abbrev keeps_slot : ℕ → Bool
  keeps_slot slot = list_all (λ (m : Member). not (m.slot == slot) || is_left m) them

  one_a_slot : (m n : Member) → IsAmong them m → IsAmong them n → m.slot ≡ n.slot → m.header ≡ n.header
  one_a_slot m n hm hn same = same_Some m.header n.header
      (sym (member_is id image m hm).header ∙ ap (λ (k : ℕ). header_of (get_or image k [])) same ∙ (member_is id image n hn).header)

  slot_is_left : (m : Member) → IsAmong them m → keeps_slot m.slot ≡ is_left m
  slot_is_left m h = ⊎_elim
      (λ yes. all_true (λ (n : Member). not (n.slot == m.slot) || is_left n) them (λ n k. ⊎_elim
      (λ (same : n.slot ≡ m.slot). ap (λ (b : Bool). not (n.slot == m.slot) || b) (ap (λ (x : Header). has_bit fewer x.number) (one_a_slot n m k h same) ∙ yes) ∙ or_true (not (n.slot == m.slot)))
      (λ differ. ap (λ (b : Bool). not b || is_left n) (ne_eqb n.slot m.slot differ)) (cases_eq n.slot m.slot)) ∙ sym yes)
      (λ no. ⊎_elim
      (λ all. absurd (both_ways (is_left m) no (sym (ap (λ (b : Bool). not b || is_left m) (eq-eqb m.slot m.slot refl)) ∙ all_among (λ (n : Member). not (n.slot == m.slot) || is_left n) them m all h)))
      (λ some. some ∙ sym no) (cases_Bool (keeps_slot m.slot)))
      (cases_Bool (is_left m))
    where
      or_true : (b : Bool) → (b || true) ≡ true
      or_true true = refl
      or_true false = refl

  abbrev left_in : (ℕ → Bool) → ℕ → Bool
  left_in P slot = P slot && keeps_slot slot

  within_left : (P : ℕ → Bool) → within (left_in P) them ≡ filter is_left (within P them)
  unfolding within
  within_left P = filter_twice (λ (m : Member). P m.slot) is_left (λ (m : Member). keeps_slot m.slot) them slot_is_left

  other_number : (d birth : ℕ) (m : Member) (b : Bool) → has_bit fewer d ≡ b → (is_left m ≡ b → ⊥) → is_disk d birth m.header ≡ false
  other_number d birth m b is out = ⊎_elim
      (λ (same : m.header.number ≡ d). absurd (out (ap (has_bit fewer) same ∙ is)))
      (λ differ. ap (λ (x : Bool). x && (m.header.birth == birth)) (ne_eqb m.header.number d differ)) (cases_eq m.header.number d)

  kept_copy : (all : List Member) (d : ℕ) (o : Option Entry) → has_bit fewer d ≡ true → copy_on (filter is_left all) d o ≡ copy_on all d o
  kept_copy all d None left = refl
  kept_copy all d (Some e) left = ap member_contents (sym (find_filter (λ (m : Member). is_disk d e.birth m.header) is_left all
      (λ m h no. other_number d e.birth m true left (λ also. both_ways (is_left m) no also))))

  lost_copy : (all : List Member) (d : ℕ) (o : Option Entry) → has_bit fewer d ≡ false → copy_on (filter is_left all) d o ≡ []
  lost_copy all d None gone = refl
  lost_copy all d (Some e) gone = ap member_contents (find_none (λ (m : Member). is_disk d e.birth m.header) (filter is_left all)
      (λ m h. other_number d e.birth m false gone (λ also. both_ways (is_left m) also (filter_out is_left all m h))))

  each_copy : (all : List Member) (d : ℕ) → cond (has_bit r.directories d) (copy_on (filter is_left all) d (entry_of r.entries d)) [] ≡ cond (has_bit fewer d) (copy_on all d (entry_of r.entries d)) []
  each_copy all d = ⊎_elim
      (λ yes. cond-true (has_bit r.directories d) (copy_on (filter is_left all) d (entry_of r.entries d)) [] (less d yes) ∙ kept_copy all d (entry_of r.entries d) yes
      ∙ sym (cond-true (has_bit fewer d) (copy_on all d (entry_of r.entries d)) [] yes))
      (λ no. cond_both (has_bit r.directories d) (copy_on (filter is_left all) d (entry_of r.entries d)) [] (λ (l : List Content). l ≡ [])
      (λ named. lost_copy all d (entry_of r.entries d) no) (λ unnamed. refl) ∙ sym (cond-false (has_bit fewer d) (copy_on all d (entry_of r.entries d)) [] no))
      (cases_Bool (has_bit fewer d))

  -- the fewer copies in a set of slots are the copies in fewer slots
  fewer_copies : (P : ℕ → Bool) → copies r (within (left_in P) them) ≡ copies (record r { directories = fewer }) (within P them)
  unfolding copies elements
  fewer_copies P =
      let ms = within P them in
      ap (λ (l : List Member). flat_map (λ (d : ℕ). copy_on l d (entry_of r.entries d)) (filter (has_bit r.directories) (range_with_len 0 64))) (within_left P)
      ∙ flat_filter (λ (d : ℕ). copy_on (filter is_left ms) d (entry_of r.entries d)) (has_bit r.directories) (range_with_len 0 64)
      ∙ (λ i. flat_map (λ (d : ℕ). each_copy ms d i) (range_with_len 0 64))
      ∙ sym (flat_filter (λ (d : ℕ). copy_on ms d (entry_of r.entries d)) (has_bit fewer) (range_with_len 0 64))

  was_listed : (d : ℕ) → IsAmong (elements fewer) d → IsAmong (elements r.directories) d
  unfolding elements
  was_listed d h = among_filtered (has_bit r.directories) (range_with_len 0 64) d (among_filter (has_bit fewer) (range_with_len 0 64) d h)
      (less d (filter_out (has_bit fewer) (range_with_len 0 64) d h))

  still_named : (h : Header) → IsNamed (record r { directories = fewer }) h → IsNamed r h
  still_named h named = record { named = was_listed h.number named.named; entry = named.entry; entry_is = named.entry_is; birth = named.birth }

  described_fewer : (c : Content) (g : Group) → Describes image them them r c g → Describes image them them (record r { directories = fewer }) c g
  unfolding is_kept
  described_fewer c g d = record {
    distinct = d.distinct;
    disks = λ m h. let k = d.disks m h in record { claims = k.claims; statuses = k.statuses; directories = k.directories; name = k.name; shape = k.shape; units = k.units };
    items = d.items;
    decodes = d.decodes;
    describes = let k = d.describes in record {
      tree = k.tree;
      tree_rules = k.tree_rules;
      files = k.files;
      extents = k.extents;
      extent_rules = k.extent_rules;
      owned = k.owned;
      places = k.places;
      regular = k.regular;
      templates = k.templates;
      attributes = k.attributes;
      next = k.next;
      disks = k.disks;
      partners = k.partners;
      room = k.room;
    };
    bytes = λ f o b i inner copy file h m is cell lies hm current. d.bytes f o b i inner copy file h m is cell lies hm (record { home = current.home; kept = current.kept; fresh = current.fresh });
  }

pub fewer_copies_are_covered : (id : ℕ) (image : ImageBytes) (groups : List Group) (r : Status) (fewer : ℕ) → ((d : ℕ) → has_bit fewer d ≡ true → has_bit r.directories d ≡ true)
    → IsCovered id image (all_members id image) groups r → IsCovered id image (all_members id image) groups (record r { directories = fewer })
fewer_copies_are_covered id image groups r fewer less cover = record {
  one_content = λ m n c d hm hn named_m named_n is_c is_d e. cover.one_content m n c d hm hn (still_named id image r fewer less m.header named_m) (still_named id image r fewer less n.header named_n) is_c is_d e;
  member_births = cover.member_births;
  entry_births = cover.entry_births;
  described = λ P c is.
      let g = cover.described (left_in id image r fewer less P) c (ap newest (fewer_copies id image r fewer less P) ∙ is) in
      (g.0, g.1, described_fewer id image r fewer less c g.0 g.2);
}
