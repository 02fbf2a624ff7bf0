-- The records of the worked group describe it.
use Rattle.std.proofs.Common.{◌≡◌, ◌⊎◌, inl, inr, ⊎_elim, ℕ, zero, suc, ◌+◌, ◌*◌, ◌/◌, ◌%◌, ◌^◌, ◌<◌, ◌≤◌, Bool, true, false, cond, ◌&&◌, ◌||◌, List, [], ◌∷◌, length, get_or, refl, sym, ap, subst, ◌∙◌, Option, Some, None, arith, IsTrue, ◌==◌}
use Rattle.std.specs.Prelude.{nat_lt}
use Rattle.std.specs.Option.{is_some, option_map, option_or, unwrap_or}
use Rattle.std.proofs.lemmas.Bool.{and_parts, cases_eq, eqb-true, eq-eqb, ne_eqb, ltb-true, false≢true, both_ways}
use Rattle.std.proofs.lemmas.Option.{cond_some, same_Some, none-some}
use Rattle.std.proofs.lemmas.Cmp.{nat_cmp_total, lists_total, nat_list_cmp_total, eq_by_cmp_equiv}
use Rattle.std.proofs.Math.Nat.{zero-div, div-eq_of_lt, pow-le-pow_right}
use Rattle.std.specs.Cmp.{IsTotalOrder, Equal-is, unsigned_tied}
use Rattle.std.specs.Cmp.Lexicographic.{slice_cmp}
use Rattle.std.specs.FinMap as maps
use Rattle.std.specs.Ordering.{eq_by_cmp, nat_cmp}
use Rattle.std.specs.Str.{bytes_eq}
use Rattle.asm_group.specs.Group.{File}
use Rattle.asm_group.specs.Names.{Bytes, Path, folded}
use Rattle.asm_group.specs.declared.NodeKind.TheVariants.{System, Alias}
use Rattle.asm_group.specs.declared.Stripe.TheVariants.{Coarse}
use Rattle.asm_formats.proofs.Codec.{bytes_same}
use Rattle.asm_formats.specs.Items.{Item, Home, Homes, FileHead, Node}
use Rattle.asm_formats.specs.Nodes.{entry_of_node}
use Rattle.asm_formats.specs.Regions.{reserved_units}
use Rattle.asm_formats.specs.Sets.{has_bit}
use Rattle.asm_formats.specs.Status.{Entry, entry_of}
use Rattle.asm_placement.specs.Layout.{start, units_of, has_extent_by_size}
use Rattle.asm_placement.specs.Partners.{partners, are_partners}
use Rattle.asm_placement.specs.Placed.{placed}
use Rattle.asm_placement.specs.Tables.{head_of, homes_in, marks_in, home_of, is_stale, is_extent}
use Rattle.asm_placement.specs.Work.{is_regular}
use Rattle.asm_placement.specs.Naming.{is_pending}
use Rattle.asm_images.specs.Describing.{DescribesGroup, KeepsExtentRules, SameFile}
use Rattle.asm_images.specs.Tables.{info_of, node_of, templates_of, settings_of, pending_of}
use Rattle.asm_images.specs.Tree.{KeepsTreeRules, node_at_path, child_node, walk_to_node, reaches_root_in_items, is_named_back_in_items, names_file_in_items}
use Rattle.asm_images.specs.Mirrored.{mirrored_file, mirrored_group, mirrored_head, mirrored_homes, mirrored_items, mirrored_entry, mirrored_entries, mirrored_record, mirrored_node}

-- ---- bits

no_bit : (d : ℕ) → has_bit 0 d ≡ false
unfolding has_bit
no_bit d = ne_eqb (0 / 2 ^ d % 2) 1 (λ e. omega (arith, e, ap (λ (n : ℕ). n % 2) (zero-div (2 ^ d))))

high_bit : (m k : ℕ) → m < 4 → 2 ≤ k → has_bit m k ≡ false
unfolding has_bit
high_bit m k less high =
    let more : 2 ^ 2 ≤ 2 ^ k = pow-le-pow_right (omega arith) high in
    let none : m / 2 ^ k ≡ 0 = div-eq_of_lt (omega (arith, less, more)) in
    ne_eqb (m / 2 ^ k % 2) 1 (λ e. omega (arith, e, ap (λ (n : ℕ). n % 2) none))

-- the partners of each disk
of_first : (d : ℕ) → has_bit 2 d ≡ are_partners (partners mirrored_entries) 0 d
unfolding partners are_partners has_bit
of_first zero = refl
of_first (suc zero) = refl
of_first (suc (suc d)) = high_bit 2 (suc (suc d)) (omega arith) (omega arith)
    ∙ (λ j. ((0 == 0) && sym (ne_eqb 1 (suc (suc d)) (λ e. omega (arith, e))) j) || (sym (ne_eqb 0 (suc (suc d)) (λ e. omega (arith, e))) j && (1 == 0)) || false)

of_second : (d : ℕ) → has_bit 1 d ≡ are_partners (partners mirrored_entries) 1 d
unfolding partners are_partners has_bit
of_second zero = refl
of_second (suc zero) = refl
of_second (suc (suc d)) = high_bit 1 (suc (suc d)) (omega arith) (omega arith)
    ∙ (λ j. ((0 == 1) && sym (ne_eqb 1 (suc (suc d)) (λ e. omega (arith, e))) j) || (sym (ne_eqb 0 (suc (suc d)) (λ e. omega (arith, e))) j && (1 == 1)) || false)

-- ---- keys

paths_total : IsTotalOrder (slice_cmp (slice_cmp nat_cmp))
paths_total = lists_total nat_list_cmp_total

abbrev is_key : Path → Path → Bool
is_key p q = eq_by_cmp (slice_cmp (slice_cmp nat_cmp)) p q

key_is : (p q : Path) → is_key p q ≡ true → p ≡ q
key_is p q e = maps.slice_cmp-IsAntisymmetric (maps.slice_cmp-IsAntisymmetric maps.nat_cmp-IsAntisymmetric) p q ((Equal-is (slice_cmp (slice_cmp nat_cmp) p q)).0 e)

key_self : (p : Path) → is_key p p ≡ true
key_self p = (eq_by_cmp_equiv paths_total).refl p

-- what one item says alone
alone : {A : Type 0} (b : Bool) (x : A) → option_or (cond b (Some x) None) None ≡ cond b (Some x) None
alone true x = refl
alone false x = refl

-- ---- the files of the group

pub file_is : (next f : ℕ) → maps.get (mirrored_group next).files f ≡ cond (f == 256) (Some mirrored_file) None
file_is next f = maps.get-insert nat_cmp_total maps.empty 256 mirrored_file f ∙ (λ i. cond (unsigned_tied f 256 i) (Some mirrored_file) (maps.get-empty nat_cmp f i))

pub the_file : (next f : ℕ) (file : File) → maps.get (mirrored_group next).files f ≡ Some file → (f ≡ 256) × (file ≡ mirrored_file)
the_file next f file is = let p = cond_some (f == 256) mirrored_file file (sym (file_is next f) ∙ is) in (eqb-true f 256 p.0, sym p.1)

-- ---- the records

module _ (marks next : ℕ) where
  abbrev items : List Item
  items = mirrored_items marks next

  abbrev chunk : List Homes
  chunk = mirrored_homes ∷ []

  heads_are : (f : ℕ) → head_of items f ≡ cond (256 == f) (Some mirrored_head) None
  unfolding head_of
  heads_are f = alone (256 == f) mirrored_head

  homes_are : (f c : ℕ) → homes_in items f c ≡ cond ((256 == f) && (0 == c)) (Some chunk) None
  unfolding homes_in
  homes_are f c = alone ((256 == f) && (0 == c)) chunk

  marks_are : (f c : ℕ) → marks_in items f c ≡ cond ((256 == f) && (0 == c)) (Some (marks ∷ [])) None
  unfolding marks_in
  marks_are f c = alone ((256 == f) && (0 == c)) (marks ∷ [])

  nodes_are : (n : ℕ) → node_of items n ≡ cond (1 == n) (Some mirrored_node) None
  unfolding node_of
  nodes_are n = alone (1 == n) mirrored_node

  the_head : (f : ℕ) (head : FileHead) → head_of items f ≡ Some head → (f ≡ 256) × (head ≡ mirrored_head)
  the_head f head is = let p = cond_some (256 == f) mirrored_head head (sym (heads_are f) ∙ is) in (sym (eqb-true 256 f p.0), sym p.1)

  the_node : (n : ℕ) (node : Node) → node_of items n ≡ Some node → (n ≡ 1) × (node ≡ mirrored_node)
  the_node n node is = let p = cond_some (1 == n) mirrored_node node (sym (nodes_are n) ∙ is) in (sym (eqb-true 1 n p.0), sym p.1)

  -- ---- its one extent

  -- no copy of the extent is there, or marked
  abbrev IsAbsent : ℕ → ℕ → Type 0
  IsAbsent f i = (copy : ℕ) → (home_of items f i copy ≡ None) × (is_stale items f i copy ≡ false)

  spot : (f i : ℕ) → ((f ≡ 256) × (i ≡ 0)) ⊎ IsAbsent f i
  unfolding home_of is_stale
  spot f i = by ((256 == f) && (0 == i / 256)) refl (homes_are f (i / 256)) (marks_are f (i / 256))
    where
      at : (k : ℕ) → ((256 == f) && (0 == i / 256)) ≡ true → homes_in items f (i / 256) ≡ Some chunk → marks_in items f (i / 256) ≡ Some (marks ∷ []) → i % 256 ≡ k → ((f ≡ 256) × (i ≡ 0)) ⊎ IsAbsent f i
      at zero e h m is = let p = and_parts (256 == f) (0 == i / 256) e in inl (sym (eqb-true 256 f p.0), omega (arith, eqb-true 0 (i / 256) p.1, is))
      at (suc k) e h m is = inr (λ copy. (
        λ j. get_or (get_or (unwrap_or (h j) []) (is j) []) copy None,
        (λ j. has_bit (get_or (unwrap_or (m j) []) (is j) 0) copy) ∙ no_bit copy,
      ))

      by : (b : Bool) → ((256 == f) && (0 == i / 256)) ≡ b → homes_in items f (i / 256) ≡ cond b (Some chunk) None → marks_in items f (i / 256) ≡ cond b (Some (marks ∷ [])) None → ((f ≡ 256) × (i ≡ 0)) ⊎ IsAbsent f i
      by true e h m = at (i % 256) e h m refl
      by false e h m = inr (λ copy. (
        λ j. get_or (get_or (unwrap_or (h j) []) (i % 256) []) copy None,
        (λ j. has_bit (get_or (unwrap_or (m j) []) (i % 256) 0) copy) ∙ no_bit copy,
      ))

  home_at : (copy : ℕ) → home_of items 256 0 copy ≡ get_or mirrored_homes copy None
  unfolding home_of homes_in
  home_at copy = refl

  stale_at : (copy : ℕ) → is_stale items 256 0 copy ≡ has_bit marks copy
  unfolding is_stale marks_in
  stale_at copy = refl

  past : (copy : ℕ) → 2 ≤ copy → get_or mirrored_homes copy None ≡ None
  past zero le = absurd (omega (arith, le))
  past (suc zero) le = absurd (omega (arith, le))
  past (suc (suc zero)) le = refl
  past (suc (suc (suc k))) le = refl

  small : (copy : ℕ) → copy < 2 → is_some (get_or mirrored_homes copy None) ≡ true
  small zero lt = refl
  small (suc zero) lt = refl
  small (suc (suc k)) lt = absurd (omega (arith, lt))

  no_extent : (f i : ℕ) → IsAbsent f i → is_extent items f i ≡ false
  no_extent f i none = λ j. is_some ((none 0).0 j) || is_some ((none 1).0 j) || is_some ((none 2).0 j)

  both : (b : Bool) → is_some (cond b (Some chunk) None) ≡ is_some (cond b (Some (marks ∷ [])) None)
  both true = refl
  both false = refl

  some_true : (b : Bool) → is_some (cond b (Some chunk) None) ≡ true → b ≡ true
  some_true true e = refl
  some_true false e = absurd (false≢true e)

  on_regular : (copy : ℕ) (h : Home) → get_or mirrored_homes copy None ≡ Some h → is_regular (entry_of mirrored_entries h.disk) ≡ true
  unfolding entry_of
  on_regular zero h e = ap (λ (k : Home). is_regular (entry_of mirrored_entries k.disk)) (sym (same_Some (record { disk = 0; unit = 300 }) h e))
  on_regular (suc zero) h e = ap (λ (k : Home). is_regular (entry_of mirrored_entries k.disk)) (sym (same_Some (record { disk = 1; unit = 300 }) h e))
  on_regular (suc (suc zero)) h e = absurd (none-some h e)
  on_regular (suc (suc (suc k))) h e = absurd (none-some h e)

  some_units : (step i : ℕ) → 1 ≤ units_of step i
  unfolding units_of
  some_units step i = by (nat_lt i step) (nat_lt i (2 * step))
    where
      by : (a b : Bool) → 1 ≤ cond a 1 (cond b 4 16)
      by true b = omega arith
      by false true = omega arith
      by false false = omega arith

  first_only : (i : ℕ) → has_extent_by_size Coarse 4096 20000 2 i ≡ true → i ≡ 0
  unfolding start
  first_only zero e = refl
  first_only (suc i) e = absurd (omega (arith, ltb-true (start 4096 20000 i + units_of 20000 i * 4096) 2 e, some_units 20000 i))

  -- ---- its one name

  abbrev name_key : Bytes
  name_key = folded mirrored_node.name

  child_is : (n : ℕ) (name : Bytes) → child_node items n name ≡ cond ((0 == n) && bytes_eq name_key name) (Some (1, mirrored_node)) None
  child_is n name = alone ((0 == n) && bytes_eq name_key name) (1, mirrored_node)

  abbrev next_at : List Bytes → Option (ℕ × Node) → Option Node
  next_at names None = None
  next_at names (Some c) = walk_to_node items c.0 (Some c.1) names

  walk_step : (n : ℕ) (at : Option Node) (name : Bytes) (names : List Bytes) (o : Option (ℕ × Node)) → child_node items n name ≡ o → walk_to_node items n at (name ∷ names) ≡ next_at names o
  walk_step n at name names None e = rw e refl
  walk_step n at name names (Some c) e = rw e refl

  nowhere : (path : Path) → (path ≡ name_key ∷ [] → ⊥) → walk_to_node items 0 None path ≡ None
  nowhere [] apart = refl
  nowhere (name ∷ names) apart = by (bytes_eq name_key name) refl names (λ at. apart (λ j. sym (bytes_same name_key name at.0) j ∷ at.1 j))
    where
      by : (b : Bool) → bytes_eq name_key name ≡ b → (names : List Bytes) → ((bytes_eq name_key name ≡ true) × (names ≡ []) → ⊥) → walk_to_node items 0 None (name ∷ names) ≡ None
      by false e rest out = walk_step 0 None name rest None (child_is 0 name ∙ (λ j. cond ((0 == 0) && e j) (Some (1, mirrored_node)) None))
      by true e [] out = absurd (out (e, refl))
      by true e (second ∷ rest) out =
          walk_step 0 None name (second ∷ rest) (Some (1, mirrored_node)) (child_is 0 name ∙ (λ j. cond ((0 == 0) && e j) (Some (1, mirrored_node)) None))
          ∙ walk_step 1 (Some mirrored_node) second rest None (child_is 1 second)

  tree_is : (path : Path) → maps.get (mirrored_group next).tree path ≡ option_map entry_of_node (node_at_path items path)
  unfolding node_at_path
  tree_is path =
      maps.get-insert paths_total maps.empty (name_key ∷ []) (entry_of_node mirrored_node) path
      ∙ (λ i. cond (is_key path (name_key ∷ [])) (Some (entry_of_node mirrored_node)) (maps.get-empty (slice_cmp (slice_cmp nat_cmp)) path i))
      ∙ by (is_key path (name_key ∷ [])) refl
    where
      by : (b : Bool) → is_key path (name_key ∷ []) ≡ b → cond b (Some (entry_of_node mirrored_node)) None ≡ option_map entry_of_node (walk_to_node items 0 None path)
      by true e = ap (λ (p : Path). option_map entry_of_node (walk_to_node items 0 None p)) (sym (key_is path (name_key ∷ []) e))
      by false e = sym (ap (option_map entry_of_node) (nowhere path (λ same. both_ways (is_key path (name_key ∷ [])) e (ap (λ (p : Path). is_key p (name_key ∷ [])) same ∙ key_self (name_key ∷ [])))))

  tree_rules : KeepsTreeRules items
  unfolding node_of head_of
  tree_rules = record {
    parents = λ n node parent is up. absurd (none-some parent (sym (nodes_are 0) ∙ ap (λ (k : Node). node_of items k.parent) (sym (the_node n node is).1) ∙ up));
    rooted = λ n node is. subst (λ (k : ℕ). IsTrue (reaches_root_in_items items (length items) k)) (sym (the_node n node is).0) refl;
    distinct = λ m n a b is_a is_b same names. (the_node m a is_a).0 ∙ sym (the_node n b is_b).0;
    nodes = λ n node is. let one = the_node n node is in
        subst (λ (k : Node). IsTrue (is_named_back_in_items items n k)) (sym one.1) (subst (λ (k : ℕ). IsTrue (is_named_back_in_items items k mirrored_node)) (sym one.0) refl);
    system = λ f head is. let one = the_head f head is in
        subst (λ (h : FileHead). IsTrue (names_file_in_items items f System h.system)) (sym one.1) (subst (λ (k : ℕ). IsTrue (names_file_in_items items k System 1)) (sym one.0) refl);
    alias = λ f head is. subst (λ (h : FileHead). IsTrue (names_file_in_items items f Alias h.alias)) (sym (the_head f head is).1) refl;
  }

  -- ---- all of it

  files_are : (f : ℕ) → SameFile (head_of items f) (maps.get (mirrored_group next).files f)
  files_are f = ⊎_elim
      (λ (same : f ≡ 256).
      subst (λ (o : Option FileHead). SameFile o (maps.get (mirrored_group next).files f)) (sym (heads_are f ∙ (λ i. cond (eq-eqb 256 f (sym same) i) (Some mirrored_head) None)))
      (subst (λ (o : Option File). SameFile (Some mirrored_head) o) (sym (file_is next f ∙ (λ i. cond (eq-eqb f 256 same i) (Some mirrored_file) None))) (omega arith, (refl, refl, refl, refl, refl))))
      (λ differ.
      subst (λ (o : Option FileHead). SameFile o (maps.get (mirrored_group next).files f)) (sym (heads_are f ∙ (λ i. cond (ne_eqb 256 f (λ e. differ (sym e)) i) (Some mirrored_head) None)))
      (subst (λ (o : Option File). SameFile None o) (sym (file_is next f ∙ (λ i. cond (ne_eqb f 256 differ i) (Some mirrored_file) None))) tt))
      (cases_eq f 256)

  module _ (less : marks < 4) where
    marked_there : (copy : ℕ) → has_bit marks copy ≡ true → is_some (get_or mirrored_homes copy None) ≡ true
    marked_there zero bit = refl
    marked_there (suc zero) bit = refl
    marked_there (suc (suc k)) bit = absurd (both_ways (has_bit marks (suc (suc k))) (high_bit marks (suc (suc k)) less (omega arith)) bit)

    extent_rules : KeepsExtentRules items
    extent_rules = record {
      no_gap = λ f i has. ⊎_elim (λ at. absurd (omega (arith, at.1))) (λ none. absurd (false≢true (sym (no_extent f (suc i) none) ∙ has))) (spot f (suc i));
      redundancy = λ f i copy head is le. ⊎_elim
          (λ at. (λ j. home_of items (at.0 j) (at.1 j) copy) ∙ home_at copy ∙ past copy (omega (arith, le, ap (λ (h : FileHead). h.copies) (the_head f head is).1)))
          (λ none. (none copy).0) (spot f i);
      marks = λ f c. ap is_some (homes_are f c) ∙ both ((256 == f) && (0 == c)) ∙ sym (ap is_some (marks_are f c));
      stale = λ f i copy bit. ⊎_elim
          (λ at.
          let here : has_bit marks copy ≡ true = sym (stale_at copy) ∙ sym (λ j. is_stale items (at.0 j) (at.1 j) copy) ∙ bit in
          (λ j. is_some (home_of items (at.0 j) (at.1 j) copy)) ∙ ap is_some (home_at copy) ∙ marked_there copy here)
          (λ none. absurd (both_ways (is_stale items f i copy) (none copy).1 bit)) (spot f i);
    }

    pub mirrored_describes : DescribesGroup mirrored_record items (mirrored_group next)
    unfolding placed entry_of units_of reserved_units info_of templates_of settings_of
    mirrored_describes = record {
      tree = tree_is;
      tree_rules = tree_rules;
      files = files_are;
      extents = λ f i copy file is has lt.
          let one = the_file next f file is in
          let first : i ≡ 0 = first_only i (subst (λ (x : File). IsTrue (has_extent_by_size x.stripe 4096 20000 (length x.cells) i)) one.1 has) in
          (λ j. is_some (home_of items (one.0 j) (first j) copy)) ∙ ap is_some (home_at copy) ∙ small copy (omega (arith, lt, ap (λ (x : File). x.copies) one.1));
      extent_rules = extent_rules;
      owned = λ f c has.
          let there = some_true ((256 == f) && (0 == c)) (sym (ap is_some (homes_are f c)) ∙ has) in
          let same : f ≡ 256 = sym (eqb-true 256 f (and_parts (256 == f) (0 == c) there).0) in
          ap (λ (o : Option File). is_some o || is_pending f (pending_of items)) (file_is next f ∙ (λ i. cond (eq-eqb f 256 same i) (Some mirrored_file) None));
      places = refl;
      regular = λ f i copy h is. ⊎_elim
          (λ at. on_regular copy h (sym (home_at copy) ∙ sym (λ j. home_of items (at.0 j) (at.1 j) copy) ∙ is))
          (λ none. absurd (none-some h (sym (none copy).0 ∙ is))) (spot f i);
      templates = refl;
      attributes = refl;
      next = refl;
      disks = refl;
      partners = λ e d h. ⊎_elim
          (λ (first : e ≡ mirrored_entry 0 false 2). subst (λ (x : Entry). has_bit x.partners d ≡ are_partners (partners mirrored_entries) x.number d) (sym first) (of_first d))
          (λ rest. ⊎_elim
          (λ (second : e ≡ mirrored_entry 1 false 1). subst (λ (x : Entry). has_bit x.partners d ≡ are_partners (partners mirrored_entries) x.number d) (sym second) (of_second d))
          (λ none. absurd none) rest) h;
      room = omega arith;
    }
