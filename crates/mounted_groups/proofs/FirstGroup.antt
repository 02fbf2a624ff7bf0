-- A disk that has all its parts stands for the new group, and where it isn't looked at nothing stands.
use Rattle.std.proofs.Common.{◌≡◌, ◌⊎◌, inl, inr, ⊎_elim, ℕ, suc, ◌*◌, ◌/◌, ◌%◌, ◌^◌, ◌≤◌, Bool, true, false, List, [], ◌∷◌, ◌++◌, refl, sym, ap, subst, ◌∙◌, Option, Some, None, arith, ◌==◌}
use Rattle.std.specs.Prelude.{min}
use Rattle.std.proofs.lemmas.Bool.{cases_Bool, cond-true, cond-false, eq-eqb, ne_eqb, false≢true}
use Rattle.std.proofs.lemmas.Option.{same_Some, none-some}
use Rattle.std.specs.Option.{option_map}
use Rattle.std.proofs.Math.Nat.{zero-div, le-min, le-div_iff_mul-le}
use Rattle.std.specs.FinMap as maps
use Rattle.std.specs.Ordering.{nat_cmp}
use Rattle.std.specs.Cmp.Lexicographic.{slice_cmp}
use Rattle.asm_group.specs.Names.{Path}
use Rattle.asm_group.specs.Group.{File, Group}
use Rattle.asm_group.specs.NewGroup.{new_group}
use Rattle.asm_formats.specs.Among.{IsAmong}
use Rattle.asm_placement.specs.Tables.{head_of, homes_in, home_of, marks_in, is_stale, is_extent}
use Rattle.asm_placement.specs.Placed.{placed}
use Rattle.asm_placement.specs.Partners.{partners, are_partners}
use Rattle.asm_formats.specs.Regions.{most_units}
use Rattle.asm_formats.specs.Sets.{has_bit, elements}
use Rattle.asm_formats.specs.Status.{Status, Entry, entry_of}
use Rattle.asm_formats.specs.Following.{sets_of, disks_of}
use Rattle.asm_formats.specs.Content.{Content}
use Rattle.asm_images.specs.Tables.{node_of, templates_of, settings_of, info_of}
use Rattle.asm_formats.specs.Nodes.{entry_of_node}
use Rattle.asm_images.specs.Tree.{node_at_path}
use Rattle.asm_images.specs.Members.{ImageBytes, Member, within, statuses, all_members}
use Rattle.asm_images.specs.Register.{Fits, HoldsOne, greatest, is_enough, status, status_if_enough}
use Rattle.asm_images.specs.Directories.{newest, directories, copies}
use Rattle.asm_images.specs.Stands.{Describes, IsDiskOf, Standing}
use Rattle.asm_images.specs.Describing.{DescribesGroup, SameFile}
use Rattle.asm_images.specs.Sound.{IsCovered, SoundBy}
use Rattle.mounted_groups.specs.Creating.{made_group}
use Rattle.mounted_groups.specs.Planned.{Plan, IsGroupPlan, header_of_plan, entry_of_plan, record_of_plan, items_of_plan, content_of_plan, metadata_of_plan}

module _ (slot size : ℕ) (plan : Plan) where
  abbrev pub only : Member
  only = record { slot = slot; header = header_of_plan plan; disk = metadata_of_plan plan size }

  abbrev first : Status
  first = record_of_plan plan

  abbrev group : Group
  group = made_group plan.name

  within_only : (P : ℕ → Bool) → (within P (only ∷ []) ≡ only ∷ []) ⊎ (within P (only ∷ []) ≡ [])
  unfolding within
  within_only P = ⊎_elim (λ yes. inl (cond-true (P slot) (only ∷ []) [] yes)) (λ out. inr (cond-false (P slot) (only ∷ []) [] out)) (cases_Bool (P slot))

  none_is_not_enough : is_enough first [] ≡ false
  unfolding is_enough sets_of disks_of entry_of elements has_bit
  none_is_not_enough = refl

  status_there : statuses plan.id (only ∷ []) ≡ first ∷ []
  unfolding statuses
  status_there = ap (λ (l : List Status). l ++ []) (cond-true (plan.id == plan.id) (first ∷ []) [] (eq-eqb plan.id plan.id refl))

  no_status : statuses plan.id [] ≡ []
  unfolding statuses
  no_status = refl

  is_first : (r : Status) → IsAmong (statuses plan.id (only ∷ [])) r → r ≡ first
  is_first r h = ⊎_elim (λ e. e) (λ none. absurd none) (subst (λ (l : List Status). IsAmong l r) status_there h)

  holds : HoldsOne plan.id (first ∷ []) (only ∷ [])
  holds = (first, subst (λ (l : List Status). IsAmong l first) (sym status_there) (inl refl), inl refl)

  -- a set of slots that is enough for the record has the disk
  enough_has : (P : ℕ → Bool) → is_enough first (within P (only ∷ [])) ≡ true → within P (only ∷ []) ≡ only ∷ []
  enough_has P enough = ⊎_elim (λ yes. yes)
      (λ none. absurd (false≢true (sym none_is_not_enough ∙ ap (λ (l : List Member). is_enough first l) (sym none) ∙ enough))) (within_only P)

  is_only : (m : Member) → IsAmong (only ∷ []) m → m ≡ only
  is_only m h = ⊎_elim (λ e. e) (λ none. absurd none) h

  fits : Fits plan.id (only ∷ []) (Some first) []
  fits = record {
    distinct = λ m n hm hn number birth. ap (λ (x : Member). x.slot) (is_only m hm ∙ sym (is_only n hn));
    greater = λ v r is h. absurd h;
    slots = λ r h. inl (inl (is_first r h));
    numbers = λ r s h k e. is_first r h ∙ sym (is_first s k);
    follow = λ v r is h. absurd h;
    surveyed = λ P g is enough. ⊎_elim
        (λ yes. subst (λ (l : List Member). HoldsOne plan.id (first ∷ []) l) (sym yes) holds)
        (λ none. absurd (none-some g (ap (λ (l : List Status). greatest l) (sym (ap (λ (l : List Member). statuses plan.id l) none ∙ no_status)) ∙ is)))
        (within_only P);
    completed_found = λ P v is enough.
        let same : first ≡ v = same_Some first v is in
        let has = enough_has P (ap (λ (r : Status). is_enough r (within P (only ∷ []))) same ∙ enough) in
        subst (λ (r : Status). HoldsOne plan.id (r ∷ []) (within P (only ∷ []))) same (subst (λ (l : List Member). HoldsOne plan.id (first ∷ []) l) (sym has) holds);
    claimed = λ P r s h k enough. absurd h;
  }

  -- where the disk isn't looked at
  none_fits : Fits plan.id [] (Some first) []
  unfolding within
  none_fits = record {
    distinct = λ m n hm. absurd hm;
    greater = λ v r is h. absurd h;
    slots = λ r h. absurd (subst (λ (l : List Status). IsAmong l r) no_status h);
    numbers = λ r s h. absurd (subst (λ (l : List Status). IsAmong l r) no_status h);
    follow = λ v r is h. absurd h;
    surveyed = λ P g is enough. absurd (none-some g (ap greatest (sym no_status) ∙ is));
    completed_found = λ P v is enough. absurd (false≢true (sym none_is_not_enough ∙ ap (λ (r : Status). is_enough r []) (same_Some first v is) ∙ enough));
    claimed = λ P r s h. absurd h;
  }

  -- ---- the empty group

  no_bit : (d : ℕ) → has_bit 0 d ≡ false
  unfolding has_bit
  no_bit d = ne_eqb (0 / 2 ^ d % 2) 1 (λ e. omega (arith, e, ap (λ (n : ℕ). n % 2) (zero-div (2 ^ d))))

  no_partner : (d : ℕ) → are_partners (partners (entry_of_plan plan ∷ [])) 0 d ≡ false
  unfolding partners are_partners
  no_partner d = refl

  no_name : (path : Path) → maps.get group.tree path ≡ None
  unfolding new_group
  no_name path = maps.get-empty (slice_cmp (slice_cmp nat_cmp)) path

  no_file : (f : ℕ) → maps.get group.files f ≡ None
  unfolding new_group
  no_file f = maps.get-empty nat_cmp f

  pub describes : DescribesGroup first (items_of_plan plan) group
  unfolding new_group node_at_path templates_of settings_of head_of homes_in marks_in home_of is_stale info_of node_of placed
  describes = record {
    tree = λ path. no_name path ∙ sym (no_path path);
    templates = refl;
    attributes = refl;
    next = refl;
    files = λ f. subst (λ (o : Option File). SameFile None o) (sym (no_file f)) tt;
    extents = λ f i copy file is has lt. absurd (none-some file (sym (no_file f) ∙ is));
    owned = λ f c has. absurd (false≢true has);
    disks = refl;
    partners = λ e d h. ⊎_elim
        (λ (same : e ≡ entry_of_plan plan). ap (λ (x : Entry). has_bit x.partners d) same ∙ no_bit d ∙ sym (ap (λ (x : Entry). are_partners (partners (entry_of_plan plan ∷ [])) x.number d) same ∙ no_partner d))
        (λ none. absurd none) h;
    room = omega arith;
    tree_rules = record {
      parents = λ n node parent is up. absurd (none-some node is);
      rooted = λ n node is. absurd (none-some node is);
      distinct = λ m n a b is_a is_b same names. absurd (none-some a is_a);
      nodes = λ n node is. absurd (none-some node is);
      system = λ f head is. absurd (none-some head is);
      alias = λ f head is. absurd (none-some head is);
    };
    extent_rules = record {
      no_gap = λ f i has. absurd (false≢true (no_extent f (suc i) ∙ has));
      redundancy = λ f i copy head is le. refl;
      marks = λ f c. refl;
      stale = λ f i copy is. absurd (false≢true (sym (no_bit copy) ∙ is));
    };
    places = refl;
    regular = λ f i copy h is. absurd (none-some h is);
  }
    where
      no_path : (path : Path) → option_map entry_of_node (node_at_path (items_of_plan plan) path) ≡ None
      no_path [] = refl
      no_path (name ∷ names) = refl

      no_extent : (f i : ℕ) → false ≡ is_extent (items_of_plan plan) f i
      no_extent f i = refl

  -- ---- on a disk that has the units

  module _ (is : IsGroupPlan plan) (long : plan.units * 1048576 ≤ size) where
    enough_units : plan.units ≤ min (size / 1048576) most_units
    enough_units = le-min ((le-div_iff_mul-le (omega arith)).1 long) is.most

    disk_is : (m : Member) → IsAmong (only ∷ []) m → IsDiskOf group first m
    unfolding entry_of new_group
    disk_is m h = subst (λ (x : Member). IsDiskOf group first x) (sym (is_only m h)) (record {
      claims = refl;
      statuses = refl;
      directories = refl;
      name = refl;
      shape = refl;
      units = λ e found birth. subst (λ (x : Entry). x.units ≤ min (size / 1048576) most_units) (same_Some (entry_of_plan plan) e found) enough_units;
    })

    describes_all : (image : ImageBytes) → Describes image (only ∷ []) (only ∷ []) first (content_of_plan plan) group
    describes_all image = record {
      distinct = fits.distinct;
      disks = disk_is;
      items = items_of_plan plan;
      decodes = refl;
      describes = describes;
      bytes = λ f o b i inner copy file h m found cell lies hm current. absurd (none-some file (sym (no_file f) ∙ found));
    }

    only_content : copies first (only ∷ []) ≡ content_of_plan plan ∷ []
    unfolding copies entry_of elements has_bit
    only_content = refl

    nothing_readable : copies first [] ≡ []
    unfolding copies entry_of elements has_bit
    nothing_readable = refl

    cover : (image : ImageBytes) → IsCovered plan.id image (only ∷ []) (group ∷ []) first
    cover image = record {
      one_content = λ m n c d hm hn named_m named_n is_c is_d e.
          let content : (x : Member) (k : Content) → IsAmong (only ∷ []) x → x.disk.content ≡ Some k → k ≡ content_of_plan plan =
          λ x k h found. same_Some k (content_of_plan plan) (sym found ∙ ap (λ (y : Member). y.disk.content) (is_only x h)) in
          content m c hm is_c ∙ sym (content n d hn is_d);
      member_births = λ m h. omega (arith, ap (λ (x : Member). x.header.birth) (is_only m h));
      entry_births = λ s e h k.
          let same = is_first s h in
          ⊎_elim (λ x. omega (arith, ap (λ (y : Entry). y.birth) x)) (λ none. absurd none) (subst (λ (r : Status). IsAmong r.entries e) same k);
      described = λ P c found. ⊎_elim
          (λ yes.
          let content : content_of_plan plan ≡ c = same_Some (content_of_plan plan) c
          (ap newest (sym (ap (λ (l : List Member). copies first l) yes ∙ only_content)) ∙ found) in
          (group, inl refl, subst (λ (k : Content). Describes image (only ∷ []) (only ∷ []) first k group) content (describes_all image)))
          (λ none. absurd (none-some c (ap newest (sym (ap (λ (l : List Member). copies first l) none ∙ nothing_readable)) ∙ found)))
          (within_only P);
    }

    -- the disk is the only member
    pub only_is_sound : (image : ImageBytes) → all_members plan.id image ≡ only ∷ [] → SoundBy plan.id image (group ∷ []) (Some first) []
    only_is_sound image same = record {
      fits = subst (λ (l : List Member). Fits plan.id l (Some first) []) (sym same) fits;
      covered = λ r counts not_gone. ⊎_elim
          (λ (e : r ≡ first). subst (λ (x : Status). IsCovered plan.id image (all_members plan.id image) (group ∷ []) x) (sym e)
          (subst (λ (l : List Member). IsCovered plan.id image l (group ∷ []) first) (sym same) (cover image)))
          (λ none. absurd none) counts;
    }

    none_cover : (image : ImageBytes) → IsCovered plan.id image [] (group ∷ []) first
    unfolding within
    none_cover image = record {
      one_content = λ m n c d hm. absurd hm;
      member_births = λ m h. absurd h;
      entry_births = λ s e h. absurd (subst (λ (l : List Status). IsAmong l s) no_status h);
      described = λ P c found. absurd (none-some c (ap newest (sym nothing_readable) ∙ found));
    }

    -- the disk is not among those that are looked at
    pub none_is_sound : (image : ImageBytes) → all_members plan.id image ≡ [] → SoundBy plan.id image (group ∷ []) (Some first) []
    none_is_sound image same = record {
      fits = subst (λ (l : List Member). Fits plan.id l (Some first) []) (sym same) none_fits;
      covered = λ r counts not_gone. ⊎_elim
          (λ (e : r ≡ first). subst (λ (x : Status). IsCovered plan.id image (all_members plan.id image) (group ∷ []) x) (sym e)
          (subst (λ (l : List Member). IsCovered plan.id image l (group ∷ []) first) (sym same) (none_cover image)))
          (λ none. absurd none) counts;
    }

    by_one : status_if_enough (only ∷ []) (greatest (first ∷ [])) ≡ Some first
    unfolding is_enough sets_of disks_of entry_of elements has_bit
    by_one = refl

    status_is : status plan.id (only ∷ []) ≡ Some first
    unfolding status
    status_is = ap (λ (l : List Status). status_if_enough (only ∷ []) (greatest l)) status_there ∙ by_one

    pub only_is_standing : (image : ImageBytes) (slots : ℕ → Bool) → all_members plan.id image ≡ only ∷ [] → slots slot ≡ true → Standing plan.id image slots
    unfolding within
    only_is_standing image slots members has =
        let same : within slots (all_members plan.id image) ≡ only ∷ [] =
        ap (λ (l : List Member). within slots l) members ∙ cond-true (slots slot) (only ∷ []) [] has in
        record {
          record_ = first;
          content = content_of_plan plan;
          status_is = ap (λ (l : List Member). status plan.id l) same ∙ status_is;
          directories_is = ap (λ (l : List Member). directories first l) same ∙ ap newest only_content;
        }
