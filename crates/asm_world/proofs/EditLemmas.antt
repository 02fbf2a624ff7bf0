-- What edits and writes make of a group.
use Rattle.std.proofs.Common.{◌≡◌, ◌≢◌, ℕ, ◌+◌, ◌≤◌, ◌||◌, nat_le, Bool, true, false, not, List, [], ◌∷◌, ◌++◌, length, refl, sym, ap, subst, ◌∙◌, Option, Some, None, inl, inr, arith}
use Rattle.std.specs.Prelude.{Ok, take, drop, is_some}
use Rattle.std.specs.Cmp.{IsTotalOrder, Equal-is}
use Rattle.std.specs.Cmp.Lexicographic.{slice_cmp}
use Rattle.std.specs.FinMap as maps
use Rattle.std.specs.Option.{option_map}
use Rattle.std.specs.Ordering.{eq_by_cmp, nat_cmp}
use Rattle.std.proofs.lemmas.Bool.{leb-true}
use Rattle.std.proofs.lemmas.Cmp.{lists_total, nat_cmp_total, nat_list_cmp_total, eq_by_cmp_equiv}
use Rattle.std.proofs.lemmas.List.{length-append, length-take-le, length-drop}
use Rattle.std.proofs.Math.Seq.{drop-append_seam, take-append_seam, drop-append-add}
use Rattle.asm_grammar.proofs.Tests.{is_true_or_false, or_right}
use Rattle.asm_group.specs.Group.{Cell, File, TreeNode, Dir, Alias, Group}
use Rattle.asm_group.specs.Names.{Bytes, Path, folded_path}
use Rattle.asm_group.specs.Refusal.{Refusal}
use Rattle.asm_group.specs.Refusal as r
use Rattle.asm_world.specs.Edits as e
use Rattle.asm_world.specs.Files as f
use Rattle.asm_world.specs.EditLaws.{OtherPathsStay}
use Rattle.asm_world.specs.Paths.{last_part}

paths_total : IsTotalOrder (slice_cmp (slice_cmp nat_cmp))
paths_total = lists_total nat_list_cmp_total

-- two keys of one order that agree are equal
same_key : (p q : Path) → p ≢ q → eq_by_cmp (slice_cmp (slice_cmp nat_cmp)) p q ≡ false
same_key p q n = elim (is_true_or_false (eq_by_cmp (slice_cmp (slice_cmp nat_cmp)) p q)) [
  | inr x ↦ x
  | inl x ↦ absurd (n (maps.slice_cmp-IsAntisymmetric (maps.slice_cmp-IsAntisymmetric maps.nat_cmp-IsAntisymmetric) p q ((Equal-is (slice_cmp (slice_cmp nat_cmp) p q)).0 x)))
]

self_key : (p : Path) → eq_by_cmp (slice_cmp (slice_cmp nat_cmp)) p p ≡ true
self_key p = (eq_by_cmp_equiv paths_total).refl p

-- AN EDIT'S ANSWER

pub ok_is : {A : Type 0} (o : Option Refusal) (x h : A) → e.unless_refused o x ≡ Ok h → (o ≡ None) × (x ≡ h)
ok_is None x h k = (refl, cc)
ok_is (Some cause) x h k = cc

node_there : (g : Group) (path : Path) (node : TreeNode) → e.group_entry_at (e.group_with_node g path node) path ≡ Some (record { name = last_part path; node = node })
node_there g path node = maps.get-insert paths_total g.tree (folded_path path) _ (folded_path path) ∙ rw (self_key (folded_path path)) refl

node_others : (g : Group) (path : Path) (node : TreeNode) → OtherPathsStay g (e.group_with_node g path node) path
node_others g path node other n = maps.get-insert paths_total g.tree (folded_path path) _ (folded_path other) ∙ rw (same_key (folded_path other) (folded_path path) n) refl

node_gone : (g : Group) (path : Path) → e.group_entry_at (e.group_without_node g path) path ≡ None
node_gone g path = maps.get-remove paths_total g.tree (folded_path path) (folded_path path) ∙ rw (self_key (folded_path path)) refl

gone_others : (g : Group) (path : Path) → OtherPathsStay g (e.group_without_node g path) path
gone_others g path other n = maps.get-remove paths_total g.tree (folded_path path) (folded_path other) ∙ rw (same_key (folded_path other) (folded_path path) n) refl

pub make : (g h : Group) (path : Path) → e.edited_group g (e.MakeDir path) ≡ Ok h → (e.group_has_dir h path ≡ true) × OtherPathsStay g h path × (h.files ≡ g.files)
make g h path k =
    let q : e.group_with_node g path Dir ≡ h = (ok_is (e.first_cause (e.group_edit_causes g (e.MakeDir path))) (e.group_with_node g path Dir) h k).1 in
    let P : Group → Type 0 = λ x. (e.group_has_dir x path ≡ true) × OtherPathsStay g x path × (x.files ≡ g.files) in
    subst P q (or_right (e.is_root path) (e.is_dir_entry (e.group_entry_at (e.group_with_node g path Dir) path)) (ap e.is_dir_entry (node_there g path Dir)), node_others g path Dir, refl)

pub drop_dir : (g h : Group) (path : Path) → e.edited_group g (e.DropDir path) ≡ Ok h → (e.group_entry_at h path ≡ None) × OtherPathsStay g h path × (h.files ≡ g.files)
drop_dir g h path k =
    let q : e.group_without_node g path ≡ h = (ok_is (e.first_cause (e.group_edit_causes g (e.DropDir path))) (e.group_without_node g path) h k).1 in
    let P : Group → Type 0 = λ x. (e.group_entry_at x path ≡ None) × OtherPathsStay g x path × (x.files ≡ g.files) in
    subst P q (node_gone g path, gone_others g path, refl)

pub drop_alias : (g h : Group) (path : Path) → e.edited_group g (e.DropAliasEntry path) ≡ Ok h → (e.group_entry_at h path ≡ None) × OtherPathsStay g h path × (h.files ≡ g.files)
drop_alias g h path k =
    let q : e.group_without_node g path ≡ h = (ok_is (e.first_cause (e.group_edit_causes g (e.DropAliasEntry path))) (e.group_without_node g path) h k).1 in
    let P : Group → Type 0 = λ x. (e.group_entry_at x path ≡ None) × OtherPathsStay g x path × (x.files ≡ g.files) in
    subst P q (node_gone g path, gone_others g path, refl)

aliased : (g : Group) (alias path : Path) (o : Option ℕ) → is_some o ≡ true
    → (e.group_file_at (e.group_with_alias g alias o) alias ≡ o) × OtherPathsStay g (e.group_with_alias g alias o) alias × ((e.group_with_alias g alias o).files ≡ g.files)
aliased g alias path None k = cc
aliased g alias path (Some n) k = (ap e.file_of_entry (node_there g alias (Alias n)), node_others g alias (Alias n), refl)

named : (g : Group) (alias path : Path) → e.first_cause (e.group_edit_causes g (e.AddAliasEntry alias path)) ≡ None → is_some (e.group_file_at g path) ≡ true
named g alias path k = elim (is_true_or_false (is_some (e.group_file_at g path))) [ inl x ↦ x | inr x ↦ absurd (let f = rw x at k in cc) ]

pub add_alias : (g h : Group) (alias path : Path) → e.edited_group g (e.AddAliasEntry alias path) ≡ Ok h → (e.group_file_at h alias ≡ e.group_file_at g path) × OtherPathsStay g h alias × (h.files ≡ g.files)
add_alias g h alias path k =
    let t = ok_is (e.first_cause (e.group_edit_causes g (e.AddAliasEntry alias path))) (e.group_with_alias g alias (e.group_file_at g path)) h k in
    let P : Group → Type 0 = λ x. (e.group_file_at x alias ≡ e.group_file_at g path) × OtherPathsStay g x alias × (x.files ≡ g.files) in
    subst P t.1 (aliased g alias path (e.group_file_at g path) (named g alias path t.0))

-- WRITES

number_apart : (m n : ℕ) → m ≢ n → eq_by_cmp nat_cmp m n ≡ false
number_apart m n x = elim (is_true_or_false (eq_by_cmp nat_cmp m n)) [ inr y ↦ y | inl y ↦ absurd (x (maps.nat_cmp-IsAntisymmetric m n ((Equal-is (nat_cmp m n)).0 y))) ]

number_self : (n : ℕ) → eq_by_cmp nat_cmp n n ≡ true
number_self n = (eq_by_cmp_equiv nat_cmp_total).refl n

tree_stays : (g : Group) (o : Option ℕ) (file : Option File) (change : List Cell → List Cell) → (f.with_cells_of g o file change).tree ≡ g.tree
tree_stays g None file change = refl
tree_stays g (Some n) None change = refl
tree_stays g (Some n) (Some x) change = refl

files_stay : (g : Group) (o : Option ℕ) (file : Option File) (change : List Cell → List Cell) (n : ℕ) → o ≢ Some n → maps.get (f.with_cells_of g o file change).files n ≡ maps.get g.files n
files_stay g None file change n x = refl
files_stay g (Some m) None change n x = refl
files_stay g (Some m) (Some y) change n x =
    maps.get-insert nat_cmp_total g.files m _ n ∙ rw (number_apart n m (λ q. x (ap (λ z. Some z) (sym q)))) refl

abbrev with_change : (List Cell → List Cell) → File → File
with_change change x = record x { cells = change x.cells }

stored : (g : Group) (path : Path) (change : List Cell → List Cell) (o : Option ℕ) (file : Option File) → e.group_file_at g path ≡ o → f.file_of g o ≡ file
    → f.named_file (f.with_cells_of g o file change) path ≡ option_map (with_change change) file
stored g path change None None a b = ap (λ o. f.file_of g o) a ∙ b
stored g path change None (Some x) a b = cc
stored g path change (Some n) None a b = ap (λ o. f.file_of g o) a ∙ b
stored g path change (Some n) (Some x) a b =
    ap (λ o. f.file_of (f.with_file_cells g n x (change x.cells)) o) a ∙ (maps.get-insert nat_cmp_total g.files n (record x { cells = change x.cells }) n ∙ rw (number_self n) refl)

-- the file that was written, as it was and as it is
record Written (g : Group) (path : Path) (at : ℕ) (cells : List Cell) (now : File) : Type 0 where
  old : File
  there : f.named_file g path ≡ Some old
  is : now.cells ≡ f.with_cells old.cells at cells
  within : at + length cells ≤ length old.cells

from_old : (g : Group) (path : Path) (at : ℕ) (cells : List Cell) (now : File) (file : Option File) → f.named_file g path ≡ file → at + length cells ≤ f.size_of_file file
    → option_map (with_change (λ old. f.with_cells old at cells)) file ≡ Some now → Written g path at cells now
from_old g path at cells now None a b k = cc
from_old g path at cells now (Some old) a b k = record { old = old; there = a; is = cells_are old now k; within = b } where
  cells_are : (old now : File) → Some (with_change (λ old. f.with_cells old at cells) old) ≡ Some now → now.cells ≡ f.with_cells old.cells at cells
  cells_are old now k = let q : with_change (λ old. f.with_cells old at cells) old ≡ now = cc in ap (λ (x : File). x.cells) (sym q)

fits_file : (a b : Bool) (at n size : ℕ) (x y z : Refusal) → e.first_cause ((a, x) ∷ (b, y) ∷ (not (nat_le (at + n) size), z) ∷ []) ≡ None → at + n ≤ size
fits_file true b at n size x y z k = cc
fits_file false true at n size x y z k = cc
fits_file false false at n size x y z k = elim (is_true_or_false (nat_le (at + n) size)) [ inl h ↦ leb-true (at + n) size h | inr h ↦ absurd (let w = rw h at k in cc) ]

was_written : (g h : Group) (path : Path) (at : ℕ) (cells : List Cell) (now : File) → f.group_after_write g path at cells ≡ Ok h → f.named_file h path ≡ Some now → Written g path at cells now
was_written g h path at cells now k there =
    let t = ok_is (e.first_cause (f.span_causes g path at (length cells))) (f.with_cells_at g path (λ old. f.with_cells old at cells)) h k in
    let u : f.named_file (f.with_cells_at g path (λ old. f.with_cells old at cells)) path ≡ Some now = ap (λ x. f.named_file x path) t.1 ∙ there in
    let v = stored g path (λ old. f.with_cells old at cells) (e.group_file_at g path) (f.named_file g path) refl refl in
    from_old g path at cells now (f.named_file g path) refl (fits_file (not (e.group_has_file g path)) (not (f.is_sectors g at) || not (f.is_sectors g (length cells))) at (length cells) (f.size_of_file (f.named_file g path)) r.NoName r.NotSectors r.OutOfFile t.0) (sym v ∙ u)

pub names : (g h : Group) (path : Path) (at : ℕ) (cells : List Cell) → f.group_after_write g path at cells ≡ Ok h → h.tree ≡ g.tree
names g h path at cells k =
    let t = ok_is (e.first_cause (f.span_causes g path at (length cells))) (f.with_cells_at g path (λ old. f.with_cells old at cells)) h k in
    ap (λ (x : Group). x.tree) (sym t.1) ∙ tree_stays g (e.group_file_at g path) (f.named_file g path) (λ old. f.with_cells old at cells)

pub others : (g h : Group) (path : Path) (at : ℕ) (cells : List Cell) → f.group_after_write g path at cells ≡ Ok h → (n : ℕ) → e.group_file_at g path ≢ Some n → maps.get h.files n ≡ maps.get g.files n
others g h path at cells k n x =
    let t = ok_is (e.first_cause (f.span_causes g path at (length cells))) (f.with_cells_at g path (λ old. f.with_cells old at cells)) h k in
    ap (λ (y : Group). maps.get y.files n) (sym t.1) ∙ files_stay g (e.group_file_at g path) (f.named_file g path) (λ old. f.with_cells old at cells) n x

-- CELLS

behind_taken : (at : ℕ) (xs zs : List Cell) → at ≤ length xs → drop at (take at xs ++ zs) ≡ zs
behind_taken at xs zs h = subst (λ n. drop n (take at xs ++ zs) ≡ zs) (length-take-le at xs h) (drop-append_seam (take at xs) zs)

taken_again : (at : ℕ) (xs zs : List Cell) → at ≤ length xs → take at (take at xs ++ zs) ≡ take at xs
taken_again at xs zs h = subst (λ n. take n (take at xs ++ zs) ≡ take at xs) (length-take-le at xs h) (take-append_seam (take at xs) zs)

further_behind : (at n : ℕ) (xs zs : List Cell) → at ≤ length xs → drop (at + n) (take at xs ++ zs) ≡ drop n zs
further_behind at n xs zs h = subst (λ k. drop (k + n) (take at xs ++ zs) ≡ drop n zs) (length-take-le at xs h) (drop-append-add (take at xs) zs n)

pub read : (g h : Group) (path : Path) (at : ℕ) (cells : List Cell) (now : File) → f.group_after_write g path at cells ≡ Ok h → f.named_file h path ≡ Some now → take (length cells) (drop at now.cells) ≡ cells
read g h path at cells now k there =
    let w = was_written g h path at cells now k there in
    let within : at ≤ length w.old.cells = let q = w.within in omega arith in
    ap (λ xs. take (length cells) (drop at xs)) w.is ∙ (ap (λ xs. take (length cells) xs) (behind_taken at w.old.cells _ within) ∙ take-append_seam cells _)

same_old : (g : Group) (path : Path) (old other : File) → f.named_file g path ≡ Some old → f.named_file g path ≡ Some other → other ≡ old
same_old g path old other a b = let q : Some other ≡ Some old = sym b ∙ a in cc

pub before : (g h : Group) (path : Path) (at : ℕ) (cells : List Cell) (old now : File) → f.group_after_write g path at cells ≡ Ok h → f.named_file g path ≡ Some old → f.named_file h path ≡ Some now → take at now.cells ≡ take at old.cells
before g h path at cells old now k was there =
    let w = was_written g h path at cells now k there in
    let within : at ≤ length w.old.cells = let q = w.within in omega arith in
    ap (λ xs. take at xs) w.is ∙ (taken_again at w.old.cells _ within ∙ ap (λ (x : File). take at x.cells) (same_old g path old w.old was w.there))

pub after : (g h : Group) (path : Path) (at : ℕ) (cells : List Cell) (old now : File) → f.group_after_write g path at cells ≡ Ok h → f.named_file g path ≡ Some old → f.named_file h path ≡ Some now
    → drop (at + length cells) now.cells ≡ drop (at + length cells) old.cells
after g h path at cells old now k was there =
    let w = was_written g h path at cells now k there in
    let within : at ≤ length w.old.cells = let q = w.within in omega arith in
    ap (λ xs. drop (at + length cells) xs) w.is ∙ (further_behind at (length cells) w.old.cells _ within ∙ (drop-append_seam cells _ ∙ ap (λ (x : File). drop (at + length cells) x.cells) (same_old g path old w.old was w.there)))

pub size : (g h : Group) (path : Path) (at : ℕ) (cells : List Cell) (old now : File) → f.group_after_write g path at cells ≡ Ok h → f.named_file g path ≡ Some old → f.named_file h path ≡ Some now → length now.cells ≡ length old.cells
size g h path at cells old now k was there =
    let w = was_written g h path at cells now k there in
    let q = w.within in
    let a : length (take at w.old.cells) ≡ at = length-take-le at w.old.cells (omega arith) in
    let b = length-drop (at + length cells) w.old.cells in
    let c = length-append (take at w.old.cells) (cells ++ drop (at + length cells) w.old.cells) in
    let d = length-append cells (drop (at + length cells) w.old.cells) in
    let n : length (f.with_cells w.old.cells at cells) ≡ length w.old.cells = omega arith in
    ap (λ xs. length xs) w.is ∙ (n ∙ ap (λ (x : File). length x.cells) (same_old g path old w.old was w.there))

pub known_read : (bytes found : Bytes) → f.Agrees (f.known bytes) found → found ≡ bytes
known_read [] [] a = refl
known_read [] (x ∷ found) a = absurd a
known_read (b ∷ bytes) [] a = absurd a
known_read (b ∷ bytes) (x ∷ found) a = ap (λ z. z ∷ found) (sym a.0) ∙ ap (λ zs. b ∷ zs) (known_read bytes found a.1)
