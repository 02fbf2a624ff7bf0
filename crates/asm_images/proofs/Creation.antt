-- The image of a group that was just created is sound.
use Rattle.std.proofs.Common.{◌≡◌, ◌⊎◌, inl, inr, ⊎_elim, ℕ, suc, ◌/◌, ◌%◌, ◌^◌, Bool, true, false, List, [], ◌∷◌, refl, sym, ap, subst, ◌∙◌, Some, None, arith}
use Rattle.std.proofs.lemmas.Bool.{cases_Bool, cond-true, cond-false, ne_eqb, false≢true}
use Rattle.std.proofs.lemmas.Option.{same_Some, none-some}
use Rattle.std.specs.Option.{option_map}
use Rattle.std.proofs.Math.Nat.{zero-div}
use Rattle.asm_formats.specs.Among.{IsAmong}
use Rattle.asm_formats.specs.Sets.{has_bit, elements}
use Rattle.asm_formats.specs.Status.{Status, Entry, entry_of}
use Rattle.asm_formats.specs.Metadata.{Metadata, metadata}
use Rattle.asm_formats.specs.Content.{Content}
use Rattle.asm_images.specs.Tables.{node_of}
use Rattle.asm_placement.specs.Tables.{head_of, homes_in, home_of}
use Rattle.asm_images.specs.Members.{ImageBytes, Member, members, within, statuses, all_members}
use Rattle.asm_images.specs.Register.{Fits, HoldsOne, greatest, is_enough, status}
use Rattle.asm_images.specs.Directories.{newest, directories, copies}
use Rattle.asm_images.specs.Stands.{Describes, IsDiskOf}
use Rattle.asm_images.specs.Describing.{DescribesGroup}
use Rattle.asm_images.specs.Sound.{IsCovered}
use Rattle.std.specs.FinMap as maps
use Rattle.std.specs.Ordering.{nat_cmp}
use Rattle.std.specs.Cmp.Lexicographic.{slice_cmp}
use Rattle.std.proofs.Common.{Option}
use Rattle.asm_group.specs.Names.{Path}
use Rattle.asm_group.specs.Group.{File}
use Rattle.asm_group.specs.NewGroup.{new_group}
use Rattle.asm_formats.specs.Following.{sets_of, disks_of}
use Rattle.asm_placement.specs.Tables.{marks_in, is_stale, is_extent}
use Rattle.asm_placement.specs.Placed.{placed}
use Rattle.asm_placement.specs.Partners.{partners, are_partners}
use Rattle.asm_images.specs.Tables.{templates_of, settings_of, info_of}
use Rattle.asm_formats.specs.Nodes.{entry_of_node}
use Rattle.asm_images.specs.Tree.{node_at_path}
use Rattle.asm_images.specs.Describing.{SameFile}
use Rattle.asm_images.specs.Created.{created_group, only_header, only_entry, first_record, first_items, first_content, first_metadata, CreatedIsSound, CreatedIsStanding}

abbrev only : Member
only = record { slot = 0; header = only_header; disk = first_metadata }

the_members : (bytes : List ℕ) → metadata bytes ≡ first_metadata → all_members 65536 (bytes ∷ []) ≡ only ∷ []
unfolding members
the_members bytes is = ap (λ (d : Metadata). members 65536 (d ∷ [])) is

within_only : (P : ℕ → Bool) → (within P (only ∷ []) ≡ only ∷ []) ⊎ (within P (only ∷ []) ≡ [])
unfolding within
within_only P = ⊎_elim (λ yes. inl (cond-true (P 0) (only ∷ []) [] yes)) (λ out. inr (cond-false (P 0) (only ∷ []) [] out)) (cases_Bool (P 0))

none_is_not_enough : is_enough first_record [] ≡ false
unfolding is_enough sets_of disks_of entry_of elements has_bit
none_is_not_enough = refl

status_there : statuses 65536 (only ∷ []) ≡ first_record ∷ []
unfolding statuses
status_there = refl

no_status : statuses 65536 [] ≡ []
unfolding statuses
no_status = refl

is_first : (r : Status) → IsAmong (statuses 65536 (only ∷ [])) r → r ≡ first_record
is_first r h = ⊎_elim (λ e. e) (λ none. absurd none) (subst (λ (l : List Status). IsAmong l r) status_there h)

holds : HoldsOne 65536 (first_record ∷ []) (only ∷ [])
holds = (first_record, subst (λ (l : List Status). IsAmong l first_record) (sym status_there) (inl refl), inl refl)

-- a set of slots that is enough for the record has the disk
enough_has : (P : ℕ → Bool) → is_enough first_record (within P (only ∷ [])) ≡ true → within P (only ∷ []) ≡ only ∷ []
enough_has P enough = ⊎_elim (λ yes. yes)
    (λ none. absurd (false≢true (sym none_is_not_enough ∙ ap (λ (l : List Member). is_enough first_record l) (sym none) ∙ enough))) (within_only P)

fits : Fits 65536 (only ∷ []) (Some first_record) []
fits = record {
  distinct = λ m n hm hn number birth. let is : (x : Member) → IsAmong (only ∷ []) x → x.slot ≡ 0 = λ x h. ⊎_elim (λ e. ap (λ (y : Member). y.slot) e) (λ none. absurd none) h in is m hm ∙ sym (is n hn);
  greater = λ v r is h. absurd h;
  slots = λ r h. inl (inl (is_first r h));
  numbers = λ r s h k e. is_first r h ∙ sym (is_first s k);
  follow = λ v r is h. absurd h;
  surveyed = λ P g is enough. ⊎_elim
      (λ yes. subst (λ (l : List Member). HoldsOne 65536 (first_record ∷ []) l) (sym yes) holds)
      (λ none. absurd (none-some g (ap (λ (l : List Status). greatest l) (sym (ap (λ (l : List Member). statuses 65536 l) none ∙ no_status)) ∙ is)))
      (within_only P);
  completed_found = λ P v is enough.
      let same : first_record ≡ v = same_Some first_record v is in
      let has = enough_has P (ap (λ (r : Status). is_enough r (within P (only ∷ []))) same ∙ enough) in
      subst (λ (r : Status). HoldsOne 65536 (r ∷ []) (within P (only ∷ []))) same (subst (λ (l : List Member). HoldsOne 65536 (first_record ∷ []) l) (sym has) holds);
  claimed = λ P r s h k enough. absurd h;
}

no_bit : (d : ℕ) → has_bit 0 d ≡ false
unfolding has_bit
no_bit d = ne_eqb (0 / 2 ^ d % 2) 1 (λ e. omega (arith, e, ap (λ (n : ℕ). n % 2) (zero-div (2 ^ d))))

no_partner : (d : ℕ) → are_partners (partners (only_entry ∷ [])) 0 d ≡ false
unfolding partners are_partners
no_partner d = refl

no_name : (path : Path) → maps.get created_group.tree path ≡ None
unfolding new_group
no_name path = maps.get-empty (slice_cmp (slice_cmp nat_cmp)) path

no_file : (f : ℕ) → maps.get created_group.files f ≡ None
unfolding new_group
no_file f = maps.get-empty nat_cmp f

describes : DescribesGroup first_record first_items created_group
unfolding new_group node_at_path templates_of settings_of head_of homes_in marks_in home_of is_stale info_of node_of placed
describes = record {
  tree = λ path. no_name path ∙ sym (no_path path);
  templates = refl;
  attributes = refl;
  next = refl;
  files = λ f. subst (λ (o : Option File). SameFile None o) (sym (no_file f)) tt;
  extents = λ f i copy file is has lt. absurd (none-some file (sym (no_file f) ∙ is));
  owned = λ f c has. absurd (false≢true has);
  disks = refl;
  partners = λ e d h. ⊎_elim (λ (same : e ≡ only_entry). ap (λ (x : Entry). has_bit x.partners d) same ∙ no_bit d ∙ sym (ap (λ (x : Entry). are_partners (partners (only_entry ∷ [])) x.number d) same ∙ no_partner d)) (λ none. absurd none) h;
  room = omega arith;
  tree_rules = record {
    parents = λ n node parent is up. absurd (none-some node is);
    rooted = λ n node is. absurd (none-some node is);
    distinct = λ m n a b is_a is_b same names. absurd (none-some a is_a);
    nodes = λ n node is. absurd (none-some node is);
    system = λ f head is. absurd (none-some head is);
    alias = λ f head is. absurd (none-some head is);
  };
  extent_rules = record {
    no_gap = λ f i has. absurd (false≢true (no_extent f (suc i) ∙ has));
    redundancy = λ f i copy head is le. refl;
    marks = λ f c. refl;
    stale = λ f i copy is. absurd (false≢true (sym (no_bit copy) ∙ is));
  };
  places = refl;
  regular = λ f i copy h is. absurd (none-some h is);
}
  where
    no_path : (path : Path) → option_map entry_of_node (node_at_path first_items path) ≡ None
    no_path [] = refl
    no_path (name ∷ names) = refl

    no_extent : (f i : ℕ) → false ≡ is_extent first_items f i
    no_extent f i = refl

disk_is : (m : Member) → IsAmong (only ∷ []) m → IsDiskOf created_group first_record m
unfolding entry_of new_group
disk_is m h = ⊎_elim (λ (e : m ≡ only). subst (λ (x : Member). IsDiskOf created_group first_record x) (sym e) (record {
  claims = refl;
  statuses = refl;
  directories = refl;
  name = refl;
  shape = refl;
  units = λ e is birth. omega (arith, ap (λ (x : Entry). x.units) (same_Some only_entry e is));
})) (λ none. absurd none) h

describes_all : (image : ImageBytes) → Describes image (only ∷ []) (only ∷ []) first_record first_content created_group
describes_all image = record {
  distinct = fits.distinct;
  disks = disk_is;
  items = first_items;
  decodes = refl;
  describes = describes;
  bytes = λ f o b i inner copy file h m is cell lies hm current. absurd (none-some file (sym (no_file f) ∙ is));
}

only_content : copies first_record (only ∷ []) ≡ first_content ∷ []
unfolding copies entry_of elements has_bit
only_content = refl

nothing_readable : copies first_record [] ≡ []
unfolding copies entry_of elements has_bit
nothing_readable = refl

is_only : (m : Member) → IsAmong (only ∷ []) m → m ≡ only
is_only m h = ⊎_elim (λ e. e) (λ none. absurd none) h

cover : (image : ImageBytes) → IsCovered 65536 image (only ∷ []) (created_group ∷ []) first_record
cover image = record {
  one_content = λ m n c d hm hn named_m named_n is_c is_d e.
      let content : (x : Member) (k : Content) → IsAmong (only ∷ []) x → x.disk.content ≡ Some k → k ≡ first_content =
      λ x k h is. same_Some k first_content (sym is ∙ ap (λ (y : Member). y.disk.content) (is_only x h)) in
      content m c hm is_c ∙ sym (content n d hn is_d);
  member_births = λ m h. omega (arith, ap (λ (x : Member). x.header.birth) (is_only m h));
  entry_births = λ s e h k.
      let same = is_first s h in
      ⊎_elim (λ (x : e ≡ only_entry). omega (arith, ap (λ (y : Entry). y.birth) x)) (λ none. absurd none) (subst (λ (r : Status). IsAmong r.entries e) same k);
  described = λ P c is. ⊎_elim
      (λ yes.
      let content : first_content ≡ c = same_Some first_content c
      (ap newest (sym (ap (λ (l : List Member). copies first_record l) yes ∙ only_content)) ∙ is) in
      (created_group, inl refl, subst (λ (k : Content). Describes image (only ∷ []) (only ∷ []) first_record k created_group) content (describes_all image)))
      (λ none. absurd (none-some c (ap newest (sym (ap (λ (l : List Member). copies first_record l) none ∙ nothing_readable)) ∙ is)))
      (within_only P);
}

pub created_is_sound : CreatedIsSound
created_is_sound bytes is =
    let same = the_members bytes is in
    record {
      fits = subst (λ (l : List Member). Fits 65536 l (Some first_record) []) (sym same) fits;
      covered = λ r counts not_gone. ⊎_elim
          (λ (e : r ≡ first_record). subst (λ (x : Status). IsCovered 65536 (bytes ∷ []) (all_members 65536 (bytes ∷ [])) (created_group ∷ []) x) (sym e)
          (subst (λ (l : List Member). IsCovered 65536 (bytes ∷ []) l (created_group ∷ []) first_record) (sym same) (cover (bytes ∷ []))))
          (λ none. absurd none) counts;
    }

status_is : status 65536 (only ∷ []) ≡ Some first_record
unfolding status statuses is_enough sets_of disks_of entry_of elements has_bit
status_is = refl

pub created_is_standing : CreatedIsStanding
unfolding within
created_is_standing bytes slots is has =
    let same : within slots (all_members 65536 (bytes ∷ [])) ≡ only ∷ [] =
    ap (λ (l : List Member). within slots l) (the_members bytes is) ∙ cond-true (slots 0) (only ∷ []) [] has in
    record {
      record_ = first_record;
      content = first_content;
      status_is = ap (λ (l : List Member). status 65536 l) same ∙ status_is;
      directories_is = ap (λ (l : List Member). directories first_record l) same ∙ ap newest only_content;
    }
