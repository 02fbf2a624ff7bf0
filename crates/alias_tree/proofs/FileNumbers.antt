-- The nodes that are names of a file, by the index.
use Rattle.std.proofs.Common.{◌≡◌, ℕ, ◌<◌, ◌≤◌, ◌^◌, Bool, true, false, eqb, Ordering, List, [], ◌∷◌, map, Option, Some, None, refl, sym, ap, ◌∙◌, arith, inl, inr}
use Rattle.std.specs.Prelude.{◌||◌, filter}
use Rattle.std.specs.Cmp.{Equal-is}
use Rattle.std.specs.List.{list_any}
use Rattle.std.specs.FinMap as maps
use Rattle.std.specs.BTreeMap.{is_at}
use Rattle.std.specs.BTreeMap.Range.{range_contains, IsInRange}
use Rattle.std.specs.Ordering.{nat_cmp, bool_cmp, ordering_reverse, ordering_then, is_gt}
use Rattle.std.specs.declared.cmp.Ordering.TheVariants.{Less, Equal, Greater}
use Rattle.std.specs.declared.ops.Bound.TheVariants.{Included}
use Rattle.std.proofs.lemmas.Bool.{true≢false, eq-eqb, eqb-true}
use Rattle.std.proofs.lemmas.Cmp.{nat_cmp_total}
use Rattle.std.proofs.lemmas.Map.Keys.{le_from_not_gt}
use Rattle.std.proofs.lemmas.Map.Views.{IsInRange-from_range_contains, range_contains-from_IsInRange}
use Rattle.asm_formats.specs.Items.{Node}
use Rattle.asm_group.specs.TreeEdits.{names_file}
use Rattle.asm_formats.specs.Nodes.{node_kind}
use Rattle.asm_base.specs.Tables.{IsItemTable}
use Rattle.alias_tree.specs.Numbers.{is_name_of}
use Rattle.alias_tree.specs.Nodes.{Numbered, node_at, is_before, item_of_node}
use Rattle.alias_tree.specs.FileNames.{FileName, name_cmp, has_name, first_name, last_name, numbers_of_file, IsFileIndex}
use Rattle.alias_tree.proofs.FileLaws.{name_total, same_name, name_self, shown, named}
use Rattle.alias_tree.proofs.IndexLaws.{either, at_self}
use Rattle.alias_tree.proofs.Leading.{same_bool}

abbrev numbers : (FileName → Bool) → List FileName → List ℕ
numbers keep names = map (λ (q : FileName). q.number) (filter keep names)

abbrev has : ℕ → List ℕ → Bool
has n ns = list_any (λ m. eqb m n) ns

or_true : (b : Bool) → (b || true) ≡ true
or_true true = refl
or_true false = refl

-- a number that is kept is that of a name that is
kept_some : (keep : FileName → Bool) (names : List FileName) (n : ℕ) → has n (numbers keep names) ≡ true → (q : FileName) × (has_name names q ≡ true) × (keep q ≡ true) × (q.number ≡ n)
kept_some keep [] n e = absurd (true≢false (sym e))
kept_some keep (f ∷ names) n e = elim (either (keep f)) [
  | inr out ↦
      let r = kept_some keep names n (rw out at e) in
      (r.0, rw r.1 (or_true (is_at (name_cmp r.0) f)), r.2, r.3)
  | inl held ↦
      let g : (eqb f.number n || has n (numbers keep names)) ≡ true = rw held at e in
      elim (either (eqb f.number n)) [
        | inl hit ↦ (f, rw (name_self f) refl, held, eqb-true f.number n hit)
        | inr miss ↦
            let r = kept_some keep names n (rw miss at g) in
            (r.0, rw r.1 (or_true (is_at (name_cmp r.0) f)), r.2, r.3)
      ]
]

-- the number of a name that is kept is
kept_made : (keep : FileName → Bool) (names : List FileName) (q : FileName) → has_name names q ≡ true → keep q ≡ true → has q.number (numbers keep names) ≡ true
kept_made keep [] q e k = absurd (true≢false (sym e))
kept_made keep (f ∷ names) q e k = elim (either (is_at (name_cmp q) f)) [
  | inl hit ↦
      let same : q ≡ f = same_name q f hit in
      let held : keep f ≡ true = ap keep (sym same) ∙ k in
      let number : eqb f.number q.number ≡ true = eq-eqb f.number q.number (ap (λ (p : FileName). p.number) (sym same)) in
      rw (held, number) refl
  | inr miss ↦
      let later : has q.number (numbers keep names) ≡ true = kept_made keep names q (rw miss at e) k in
      elim (either (keep f)) [
        | inl held ↦ rw (held, later) (or_true (eqb f.number q.number))
        | inr out ↦ rw out later
      ]
]

-- ---- between the first and the last name of a file

abbrev is_between : ℕ → FileName → Bool
is_between file q = range_contains name_cmp (Included (first_name file)) (Included (last_name file)) q

turned : (m n : ℕ) (o : Ordering) → nat_cmp m n ≡ o → nat_cmp n m ≡ ordering_reverse o
turned m n o e = nat_cmp_total.antisymm n m ∙ ap ordering_reverse e

equal_numbers : (n : ℕ) → nat_cmp n n ≡ Equal
equal_numbers n = (Equal-is (nat_cmp n n)).0 (at_self n)

not_above : (m n : ℕ) → m ≤ n → is_gt (nat_cmp m n) ≡ false
not_above m n le = one (nat_cmp m n) refl where
  one : (o : Ordering) → nat_cmp m n ≡ o → is_gt o ≡ false
  one Less e = refl
  one Equal e = refl
  one Greater e =
      let back : nat_cmp n m ≡ Less = turned m n Greater e in
      let other : n ≤ m = le_from_not_gt n m (rw back refl) in
      let same : m ≡ n = omega arith in
      let equal : nat_cmp m n ≡ Equal = ap (λ (k : ℕ). nat_cmp m k) (sym same) ∙ equal_numbers m in
      let both : Equal ≡ Greater = sym equal ∙ e in
      cc

between_file : (file : ℕ) (q : FileName) → is_between file q ≡ true → q.file ≡ file
between_file file q e = one (nat_cmp file q.file) refl (IsInRange-from_range_contains name_total (Included (first_name file)) (Included (last_name file)) q e) where
  one : (o : Ordering) → nat_cmp file q.file ≡ o → IsInRange name_cmp (Included (first_name file)) (Included (last_name file)) q → q.file ≡ file
  one Equal f r = sym (maps.nat_cmp-IsAntisymmetric file q.file f)
  one Greater f r = absurd (true≢false (rw f at r.0))
  one Less f r = let g : nat_cmp q.file file ≡ Greater = turned file q.file Less f in absurd (true≢false (rw g at r.1))

file_between : (file : ℕ) (q : FileName) → q.file ≡ file → q.number < 2 ^ 32 → is_between file q ≡ true
file_between file q e small = range_contains-from_IsInRange name_total (Included (first_name file)) (Included (last_name file)) q (from q.is_alias, upto q.is_alias) where
  same : nat_cmp file q.file ≡ Equal
  same = ap (λ (k : ℕ). nat_cmp file k) e ∙ equal_numbers file

  back : nat_cmp q.file file ≡ Equal
  back = ap (λ (k : ℕ). nat_cmp q.file k) (sym e) ∙ equal_numbers q.file

  from : (b : Bool) → is_gt (ordering_then (nat_cmp file q.file) (ordering_then (bool_cmp false b) (nat_cmp 0 q.number))) ≡ false
  from true = rw same refl
  from false = rw same (not_above 0 q.number (omega arith))

  upto : (b : Bool) → is_gt (ordering_then (nat_cmp q.file file) (ordering_then (bool_cmp b true) (nat_cmp q.number 4294967295))) ≡ false
  upto false = rw back refl
  upto true = rw back (not_above q.number 4294967295 (omega arith))

pub names_are : (nodes : List Numbered) (names : List FileName) (file : ℕ) (ns : List ℕ) → IsItemTable is_before item_of_node nodes → IsFileIndex nodes names → ns ≡ numbers_of_file names file
    → (n : ℕ) → list_any (λ m. eqb m n) ns ≡ is_name_of file (node_at nodes n)
names_are nodes names file ns t i is n = ap (λ (ms : List ℕ). has n ms) is ∙ same_bool (has n (numbers_of_file names file)) (is_name_of file (node_at nodes n)) there back where
  there : has n (numbers_of_file names file) ≡ true → is_name_of file (node_at nodes n) ≡ true
  there e =
      let r = kept_some (is_between file) names n e in
      let s = shown nodes names r.0 i r.1 in
      let at : node_at nodes n ≡ Some s.node = ap (λ (k : ℕ). node_at nodes k) (sym r.3) ∙ s.at in
      rw at (ap (λ (f : ℕ). names_file f (node_kind s.node.kind s.node.file)) (sym (between_file file r.0 r.2)) ∙ s.names)

  back : is_name_of file (node_at nodes n) ≡ true → has n (numbers_of_file names file) ≡ true
  back e = one (node_at nodes n) refl e where
    one : (o : Option Node) → node_at nodes n ≡ o → is_name_of file o ≡ true → has n (numbers_of_file names file) ≡ true
    one None at h = absurd (true≢false (sym h))
    one (Some node) at h =
        let x = named nodes names file n node t i at h in
        ap (λ (k : ℕ). has k (numbers_of_file names file)) (sym x.number_is) ∙ kept_made (is_between file) names x.q x.there (file_between file x.q x.file_is x.small)
