-- Whether a new file may have its name and its size.
use Rattle.std.proofs.Common.{◌≡◌, ◌<◌, ◌%◌, ℕ, Bool, true, false, cond, eqb, List, [], ◌∷◌, length, Option, Some, None, refl, sym, ap, subst, ◌∙◌, arith, inl, inr, ◌⊎◌}
use Rattle.std.specs.Prelude.{◌&&◌, ◌||◌, not, Ok, Err}
use Rattle.std.proofs.lemmas.Bool.{and_parts, eqb-true}
use Rattle.asm_group.specs.Causes.{first_cause, unless_refused}
use Rattle.asm_group.specs.Names.{Path}
use Rattle.asm_group.specs.Refusal as r
use Rattle.asm_group.specs.Shape.{Shape, is_sector, is_shape, is_step, is_unit_size}
use Rattle.asm_group.specs.TreeEdits.{Tree}
use Rattle.asm_formats.specs.Items.{Settings}
use Rattle.refusal_lines.specs.Refusals.{meaning_of}
use Rattle.refusal_lines.specs.declared.refusal.Refusal.{Refusal}
use Rattle.refusal_lines.specs.declared.refusal.Refusal.TheVariants as cause
use Rattle.plan_records.specs.asm_world.Files.{NewName, new_path}
use Rattle.plan_records.specs.alias_edits.Edits.{IsRefusal, cause_said}
use Rattle.plan_records.specs.alias_edits.Filing.{file_causes, tree_with_file, nodes_missing, with_file, with_nodes}
use Rattle.plan_records.specs.alias_tree.Nodes.{Numbered}
use Rattle.plan_records.specs.alias_tree.Trees.{tree_of}
use Rattle.plan_records.specs.alias_edits.declared.editing.TreeError.{TreeError}
use Rattle.catalog.specs.NameChecks.{ChecksAgree, ChecksHold, HoldsStill, IsCheckRefusal, IsNameCheck, IsPathCheck, IsPathRefusal, check_causes}
use Rattle.plan_records.specs.NewNames.{name_at}
use Rattle.catalog.specs.NamePlans.{filed_as, made_file, path_for, system_path}
use Rattle.catalog.specs.Numbers.{IsNextFile}
use Rattle.plan_records.specs.catalog_tables.Tables.{Catalogued, Tables}

-- ---- sectors

pub some_sector : (s : Shape) → is_shape s ≡ true → 0 < s.sector
unfolding is_shape
some_sector s is =
    let a = and_parts (is_unit_size s.au) _ is in
    let b = and_parts (is_step s.step) _ a.1 in
    let d = and_parts (is_sector s.sector s.au) _ b.1 in
    let e = and_parts (eqb s.sector 512 || eqb s.sector 4096) _ d.0 in
    by (eqb s.sector 512) refl e.0
  where
    by : (b : Bool) → eqb s.sector 512 ≡ b → (b || eqb s.sector 4096) ≡ true → 0 < s.sector
    by true is e = omega (arith, eqb-true s.sector 512 is)
    by false is e = omega (arith, eqb-true s.sector 4096 e)

-- ---- causes

free_of : {A : Type 0} (o : Option r.Refusal) (v w : A) → unless_refused o v ≡ Ok w → o ≡ None
free_of None v w e = refl
free_of (Some why) v w e = absurd cc

cause_of : {A : Type 0} (o : Option r.Refusal) (v : A) (why : r.Refusal) → unless_refused o v ≡ Err why → o ≡ Some why
cause_of None v why e = absurd cc
cause_of (Some other) v why e = let same : other ≡ why = cc in ap (λ (x : r.Refusal). Some x) same

module _ (t : Tables) (name : NewName) (path : Path) (file incarnation : ℕ) (s : Settings) (is : path ≡ new_path name file incarnation) (settings : s ≡ t.templates.settings) (same : s.incarnation ≡ incarnation) where
  path_is : path ≡ path_for t name file
  path_is = is ∙ ap (λ (n : ℕ). new_path name file n) (sym same ∙ ap (λ (x : Settings). x.incarnation) settings)

  pub path_checked : (made : List Numbered) (nodes : ℕ) → tree_with_file (tree_of t.nodes) path file ≡ Ok (tree_of (with_nodes t.nodes made)) → length made ≡ nodes_missing (tree_of t.nodes) path → nodes ≡ length made → IsPathCheck t name file nodes
  path_checked made nodes done count size = record {
    free = ap (λ (p : Path). first_cause (file_causes (tree_of t.nodes) p)) (sym path_is) ∙ free_of (first_cause (file_causes (tree_of t.nodes) path)) (with_file (tree_of t.nodes) path file) (tree_of (with_nodes t.nodes made)) done;
    count = size ∙ count ∙ ap (λ (p : Path). nodes_missing (tree_of t.nodes) p) path_is;
  }

  pub path_refused : (error : TreeError) (e : Refusal) → meaning_of (λ n. []) e ≡ cause_said error → IsRefusal (tree_with_file (tree_of t.nodes) path file) error → IsPathRefusal t name file e
  path_refused error e meant (inl memory) = inl (meant ∙ memory)
  path_refused error e meant (inr why) =
      inr (ap (λ (p : Path). first_cause (file_causes (tree_of t.nodes) p)) (sym path_is) ∙ cause_of (first_cause (file_causes (tree_of t.nodes) path)) (with_file (tree_of t.nodes) path file) (cause_said error) why ∙ ap (λ (w : r.Refusal). Some w) (sym meant))

-- ---- the answers

pub no_path : (c : Catalogued) (path : Path) (size file : ℕ) → IsNextFile c.tables file → name_at path ≡ None → IsCheckRefusal c path size cause.NoTemplate
unfolding meaning_of
no_path c path size file next none = inr (file, next, rw none refl)

pub no_sectors : (c : Catalogued) (path : Path) (name : NewName) (size file : ℕ) → IsNextFile c.tables file → name_at path ≡ Some name → eqb (size % c.shape.sector) 0 ≡ false → IsCheckRefusal c path size cause.NotSectors
unfolding meaning_of
no_sectors c path name size file next at none = inr (file, next, rw (at, none) refl)

pub name_checked : (c : Catalogued) (path : Path) (name : NewName) (size file nodes : ℕ) → IsNextFile c.tables file → name_at path ≡ Some name → eqb (size % c.shape.sector) 0 ≡ true → IsPathCheck c.tables name file nodes → IsNameCheck c path size nodes
name_checked c path name size file nodes next at whole is = record { file = file; next = next; name = name; name_is = at; free = rw whole is.free; count = is.count }

pub name_refused : (c : Catalogued) (path : Path) (name : NewName) (size file : ℕ) (e : Refusal) → IsNextFile c.tables file → name_at path ≡ Some name → eqb (size % c.shape.sector) 0 ≡ true → IsPathRefusal c.tables name file e → IsCheckRefusal c path size e
name_refused c path name size file e next at whole (inl memory) = inl memory
name_refused c path name size file e next at whole (inr why) = inr (file, next, rw (at, whole) why)

-- ---- later tables

pub checks_agree : ChecksAgree
checks_agree s t u None size file nodes settings = refl
checks_agree s t u (Some name) size file nodes settings =
    ap (λ (ns : List Numbered). (not (eqb (size % s.sector) 0), r.NotSectors) ∷ file_causes (tree_of ns) (new_path name file u.templates.settings.incarnation)) nodes
    ∙ ap (λ (x : Settings). (not (eqb (size % s.sector) 0), r.NotSectors) ∷ file_causes (tree_of t.nodes) (new_path name file x.incarnation)) settings

pub checks_hold : ChecksHold
checks_hold s t u name size file nodes settings made free = record { filed = (with_file (tree_of u.nodes) (system_path u name) (made_file u), filed); count = count } where
  path_same : system_path u name ≡ path_for t name file
  path_same = ap (λ (f : ℕ). new_path name f u.templates.settings.incarnation) made ∙ ap (λ (x : Settings). new_path name file x.incarnation) settings

  rest : (b : Bool) (o : Option r.Refusal) → cond b (Some r.NotSectors) o ≡ None → o ≡ None
  rest true o e = absurd cc
  rest false o e = e

  none : first_cause (file_causes (tree_of u.nodes) (system_path u name)) ≡ None
  none = ap (λ (p : Path). first_cause (file_causes (tree_of u.nodes) p)) path_same ∙ ap (λ (ns : List Numbered). first_cause (file_causes (tree_of ns) (path_for t name file))) nodes
      ∙ rest (not (eqb (size % s.sector) 0)) (first_cause (file_causes (tree_of t.nodes) (path_for t name file))) free

  filed : filed_as u (Some name) ≡ Ok (with_file (tree_of u.nodes) (system_path u name) (made_file u))
  filed = ap (λ (o : Option r.Refusal). unless_refused o (with_file (tree_of u.nodes) (system_path u name) (made_file u))) none

  count : nodes_missing (tree_of u.nodes) (system_path u name) ≡ nodes_missing (tree_of t.nodes) (path_for t name file)
  count = ap (λ (p : Path). nodes_missing (tree_of u.nodes) p) path_same ∙ ap (λ (ns : List Numbered). nodes_missing (tree_of ns) (path_for t name file)) nodes
