-- Files that come and change their size, by the tables.
use Rattle.std.proofs.Common.{◌≡◌, ◌⊎◌, ℕ, Bool, true, false, cond, List, [], ◌∷◌, ◌++◌, length, replicate, Option, Some, refl, sym, ap, subst, ◌∙◌, arith, inl, inr}
use Rattle.std.specs.Prelude.{not, is_some}
use Rattle.std.proofs.lemmas.List.{length-append, length-replicate, length-take}
use Rattle.std.specs.FinMap as maps
use Rattle.std.specs.Ordering.{nat_cmp, eq_by_cmp}
use Rattle.std.specs.BTreeMap.{is_at}
use Rattle.std.specs.Option.{option_map}
use Rattle.std.proofs.lemmas.Cmp.{nat_cmp_total}
use Rattle.asm_group.specs.Causes.{first_cause, unless_refused}
use Rattle.asm_group.specs.Names.{Path}
use Rattle.asm_group.specs.Refusal as r
use Rattle.asm_group.specs.Group.{Cell, File, Group, Known, System}
use Rattle.asm_group.specs.TreeEdits as tree
use Rattle.asm_formats.specs.Items.{FileHead}
use Rattle.asm_world.specs.Edits as world
use Rattle.asm_world.specs.Files as bytes
use Rattle.catalog_laws.specs.file_directory.Files as heads
use Rattle.catalog_laws.specs.file_directory.Files.{head_at, with_head}
use Rattle.catalog_laws.specs.alias_tree.Trees.{tree_of}
use Rattle.catalog_laws.specs.alias_edits.Filing as of_tree
use Rattle.catalog_laws.specs.catalog.FilePlans.{with_size}
use Rattle.catalog_laws.specs.catalog.NamePlans.{made_file, tables_with_name}
use Rattle.catalog_laws.proofs.catalog.NumberedEntries.{number_other}
use Rattle.catalog_laws.proofs.catalog_tables.NumberedLists.{either, number_is, number_itself, put_at}
use Rattle.group_of.specs.Groups.{AreCellsButFor, file_of_head, files_by_number, group_of}
use Rattle.group_of.specs.Files.{NewFileIsWorlds, NewNameIsWorlds, PutHasCells, ResizedCellsAreLong, ResizedHasCells, SizeIsWorlds, head_planned}
use Rattle.group_of.proofs.EditedGroups.{done, same_files, size_of}
use Rattle.group_of.proofs.HeadedFiles as files
use Rattle.group_of.proofs.HeadedFiles.{files_are}

-- ---- one file put

put_file : (fs : List heads.NumberedFile) (f : ℕ) (head : FileHead) (cells new : ℕ → List Cell) → AreCellsButFor f cells new → files_by_number new (with_head fs f head) ≡ maps.insert (files_by_number cells fs) f (file_of_head head (new f))
put_file fs f head cells new others = same_files (files_by_number new (with_head fs f head)) (maps.insert (files_by_number cells fs) f (file_of_head head (new f))) (λ k.
    files_are new (with_head fs f head) k ∙ ap (files.file_at new k) (put_at f head fs k)
    ∙ by k (either (is_at (nat_cmp f) k))
    ∙ sym (maps.get-insert nat_cmp_total (files_by_number cells fs) f (file_of_head head (new f)) k))
  where
    by : (k : ℕ) → (is_at (nat_cmp f) k ≡ true) ⊎ (is_at (nat_cmp f) k ≡ false)
        → files.file_at new k (cond (is_at (nat_cmp f) k) (Some head) (head_at fs k)) ≡ cond (eq_by_cmp nat_cmp k f) (Some (file_of_head head (new f))) (maps.get (files_by_number cells fs) k)
    by k (inl here) =
        let same : f ≡ k = number_is f k here in
        let back : eq_by_cmp nat_cmp k f ≡ true = subst (λ (n : ℕ). eq_by_cmp nat_cmp n f ≡ true) same (number_itself f) in
        rw (here, back) (ap (λ (n : ℕ). Some (file_of_head head (new n))) (sym same))
    by k (inr other) =
        let apart : k ≡ f → ⊥ = λ e. clash (is_at (nat_cmp f) k) (subst (λ (n : ℕ). is_at (nat_cmp f) n ≡ true) (sym e) (number_itself f)) other in
        let back : eq_by_cmp nat_cmp k f ≡ false = number_other k f apart in
        rw (other, back) (ap (λ (cs : List Cell). option_map (λ (h : FileHead). file_of_head h cs) (head_at fs k)) (others k apart) ∙ sym (files_are cells fs k))
      where
        clash : (b : Bool) → b ≡ true → b ≡ false → ⊥
        clash true e g = absurd cc
        clash false e g = absurd cc

pub size_is_worlds : SizeIsWorlds
unfolding group_of
size_is_worlds name s t f size head pending cells new at others =
    let same = put_file t.files f (with_size head size) cells new others in
    λ i. record (group_of name s t cells) { files = same i }

pub resized_has_cells : ResizedHasCells
resized_has_cells g path f size file at there sectors =
    ap (λ (o : Option ℕ). unless_refused (first_cause ((not (is_some o), r.NoName) ∷ (not (bytes.is_sectors g size), r.NotSectors) ∷ [])) (bytes.with_cells_of g o (bytes.file_of g o) (bytes.resized_cells size))) at
    ∙ ap (λ (o : Option File). unless_refused (first_cause ((not (bytes.is_sectors g size), r.NotSectors) ∷ [])) (bytes.with_cells_of g (Some f) o (bytes.resized_cells size))) there
    ∙ ap (λ (b : Bool). unless_refused (first_cause ((not b, r.NotSectors) ∷ [])) (bytes.with_file_cells g f file (bytes.resized_cells size file.cells))) sectors

pub resized_cells_are_long : ResizedCellsAreLong
resized_cells_are_long size cells =
    omega (arith, length-take size (cells ++ replicate size (Known 0)), length-append cells (replicate size (Known 0)), length-replicate {A = Cell} size (Known 0))

-- ---- a new file

dir_is : (g : Group) (path : Path) → bytes.group_with_dir g path ≡ record g { tree = of_tree.with_dir g.tree path }
dir_is g path = by (tree.is_there g.tree path) refl where
  by : (b : Bool) → tree.is_there g.tree path ≡ b → bytes.group_with_dir g path ≡ record g { tree = of_tree.with_dir g.tree path }
  by true e = rw e refl
  by false e = rw e refl

world_file : (g : Group) (file : bytes.NewName) (n : ℕ) (x : File)
    → bytes.group_with_file g file n x ≡ record g { tree = of_tree.with_file g.tree (bytes.new_path file n x.incarnation) n; files = maps.insert g.files n x; next = bytes.next_incarnation g.next }
world_file g file n x =
    let dirs = dir_is (bytes.group_with_dir g (file.db ∷ [])) (file.db ∷ file.type_name ∷ []) ∙ ap (λ (h : Group). record h { tree = of_tree.with_dir h.tree (file.db ∷ file.type_name ∷ []) }) (dir_is g (file.db ∷ [])) in
    ap (λ (h : Group). record (world.group_with_node h (bytes.new_path file n x.incarnation) (System n)) { files = maps.insert g.files n x; next = bytes.next_incarnation g.next }) dirs

pub new_name_is_worlds : NewNameIsWorlds
unfolding group_of
new_name_is_worlds name c path size copies stripe put gone cells new p others =
    let t = c.tables in
    let f = made_file c.tables in
    let g = group_of name c.shape c.tables cells in
    let at = bytes.new_path p.name (made_file c.tables) c.tables.templates.settings.incarnation in
    let d = done (first_cause (of_tree.file_causes (tree_of c.tables.nodes) at)) (of_tree.with_file (tree_of c.tables.nodes) at (made_file c.tables)) (tree_of (of_tree.with_nodes c.tables.nodes p.made)) p.filed in
    let names = sym d.1 in
    let filled = put_file t.files f (head_planned p) cells new others in
    let same : group_of name c.shape (tables_with_name t f (head_planned p) p.made) new
    ≡ record g { tree = of_tree.with_file (tree_of t.nodes) at f; files = maps.insert (files_by_number cells t.files) f (file_of_head (head_planned p) (new f)); next = bytes.next_incarnation g.next } =
    λ i. record g { tree = names i; files = filled i; next = bytes.next_incarnation g.next } in
    same ∙ sym (world_file g p.name f (file_of_head (head_planned p) (new f)))

pub new_file_is_worlds : NewFileIsWorlds
unfolding group_of
new_file_is_worlds name s t cells file by failgroups size system new = refl

-- ---- the cells of a file that is put

pub put_has_cells : PutHasCells
put_has_cells t u f head cells new same others long has k h e = by (is_at (nat_cmp f) k) refl (sym (put_at f head t.files k) ∙ ap (λ (fs : List heads.NumberedFile). head_at fs k) (sym same) ∙ e) where
  other : is_at (nat_cmp f) k ≡ false → k ≡ f → ⊥
  other miss same = apart (is_at (nat_cmp f) k) (subst (λ (n : ℕ). is_at (nat_cmp f) n ≡ true) (sym same) (number_itself f)) miss where
    apart : (b : Bool) → b ≡ true → b ≡ false → ⊥
    apart true e g = absurd cc
    apart false e g = absurd cc

  by : (b : Bool) → is_at (nat_cmp f) k ≡ b → cond b (Some head) (head_at t.files k) ≡ Some h → length (new k) ≡ h.size
  by true here e = ap (λ (n : ℕ). length (new n)) (sym (number_is f k here)) ∙ long ∙ ap size_of e
  by false miss e = ap length (others k (other miss)) ∙ has k h e
