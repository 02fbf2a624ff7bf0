-- Directories of a group by its tables are those of the world's group.
use Rattle.std.proofs.Common.{◌≡◌, ℕ, Bool, true, false, List, [], ◌∷◌, Option, Some, None, Result, Ok, Err, refl, sym, ap, ◌∙◌}
use Rattle.std.specs.Prelude.{if◌then◌else◌, not}
use Rattle.std.proofs.lemmas.Bool.{false≢true, true≢false}
use Rattle.refusal_lines.specs.Refusals.{meaning_of}
use Rattle.refusal_lines.specs.declared.refusal.Refusal.{Refusal}
use Rattle.refusal_lines.specs.declared.refusal.Refusal.TheVariants as cause
use Rattle.asm_group.specs.Group.{Cell, Group}
use Rattle.asm_group.specs.Names.{Bytes, Path}
use Rattle.asm_group.specs.Refusal as r
use Rattle.asm_group.specs.Shape.{Shape}
use Rattle.asm_world.specs.Causes.{IsCaused, When, decided, dir_causes}
use Rattle.asm_world.specs.Edits as world
use Rattle.alias_tree.specs.Nodes.{number_of}
use Rattle.alias_tree.specs.Trees.{tree_of}
use Rattle.catalog_tables.specs.Tables.{AreTables, Tables}
use Rattle.group_of.specs.Groups.{group_of}
use Rattle.group_reports.specs.Places.{directory_in, is_directory_at}
use Rattle.report_laws.specs.Places.{DirectoriesAreWorlds, IsDirectory, NoDirectoriesAreWorlds, spelt_by}
use Rattle.report_laws.proofs.Directories.{is_dir, not_there, there}
use Rattle.report_laws.proofs.Spelling.{spelt_is}

-- ---- by the two tests

none_due : (a b : Bool) → a ≡ true → b ≡ true → decided (When (not a) r.NoName ∷ When (not b) r.NotDirectory ∷ []) ≡ None
none_due true true p q = refl
none_due true false p q = absurd (false≢true q)
none_due false b p q = absurd (false≢true p)

first_due : (a b : Bool) (c : r.Refusal) → a ≡ false → c ≡ r.NoName → IsCaused (When (not a) r.NoName ∷ When (not b) r.NotDirectory ∷ []) c
first_due false b c p is = is
first_due true b c p is = absurd (true≢false p)

second_due : (a b : Bool) (c : r.Refusal) → a ≡ true → b ≡ false → c ≡ r.NotDirectory → IsCaused (When (not a) r.NoName ∷ When (not b) r.NotDirectory ∷ []) c
second_due true false c p q is = is
second_due true true c p q is = absurd (true≢false q)
second_due false b c p q is = absurd (false≢true p)

said_as : (refusal named : Refusal) → named ≡ refusal → meaning_of (λ _. []) refusal ≡ meaning_of (λ _. []) named
said_as refusal named same = ap (λ (x : Refusal). meaning_of (λ _. []) x) (sym same)

pub no_name : meaning_of (λ _. []) cause.NoName ≡ r.NoName
unfolding meaning_of
no_name = refl

no_directory : meaning_of (λ _. []) cause.NotDirectory ≡ r.NotDirectory
unfolding meaning_of
no_directory = refl

module _ (name : Bytes) (s : Shape) (t : Tables) (cells : ℕ → List Cell) (tables : AreTables t) (path : Path) where
  abbrev g : Group
  g = group_of name s t cells

  tree_is : g.tree ≡ tree_of t.nodes
  unfolding group_of
  tree_is = refl

  name_is : g.name ≡ name
  unfolding group_of
  name_is = refl

  module _ (m : ℕ) (leads : number_of t.nodes path ≡ Some m) where
    here : world.group_has_path g path ≡ true
    here = there t.nodes tables.nodes g tree_is path m leads

    as_dir : world.group_has_dir g path ≡ is_directory_at t m
    as_dir = is_dir t.nodes tables.nodes g tree_is path m leads

    spelt : world.spelt g path ≡ name ∷ spelt_by t m
    spelt = ap (λ (n : Bytes). n ∷ world.spelt_below g [] path) name_is ∙ ap (λ (p : Path). name ∷ p) (spelt_is t.nodes tables.nodes g tree_is path m leads)

    of_test : (b : Bool) → is_directory_at t m ≡ b → (n : ℕ) → ◌≡◌ {A = Result ℕ Refusal} (if b then Ok m else Err cause.NotDirectory) (Ok n) → IsDirectory g path (name ∷ spelt_by t n)
    of_test true is n ok =
        let same : m ≡ n = cc in
        let dir : world.group_has_dir g path ≡ true = as_dir ∙ is in
        record {
          there = dir;
          uncaused = none_due (world.group_has_path g path) (world.group_has_dir g path) here dir;
          spelt = spelt ∙ ap (λ (k : ℕ). name ∷ spelt_by t k) same;
        }
    of_test false is n ok = absurd cc

    no_test : (b : Bool) → is_directory_at t m ≡ b → (refusal : Refusal) → ◌≡◌ {A = Result ℕ Refusal} (if b then Ok m else Err cause.NotDirectory) (Err refusal)
        → IsCaused (dir_causes g path) (meaning_of (λ _. []) refusal)
    no_test true is refusal err = absurd cc
    no_test false is refusal err =
        let same : cause.NotDirectory ≡ refusal = cc in
        second_due (world.group_has_path g path) (world.group_has_dir g path) (meaning_of (λ _. []) refusal) here (as_dir ∙ is) (said_as refusal cause.NotDirectory same ∙ no_directory)

  by_number : (o : Option ℕ) → number_of t.nodes path ≡ o → (n : ℕ) → directory_in t o ≡ Ok n → IsDirectory g path (name ∷ spelt_by t n)
  by_number None e n ok = absurd cc
  by_number (Some m) e n ok = of_test m e (is_directory_at t m) refl n ok

  by_none : (o : Option ℕ) → number_of t.nodes path ≡ o → (refusal : Refusal) → directory_in t o ≡ Err refusal → IsCaused (dir_causes g path) (meaning_of (λ _. []) refusal)
  by_none None e refusal err =
      let same : cause.NoName ≡ refusal = cc in
      first_due (world.group_has_path g path) (world.group_has_dir g path) (meaning_of (λ _. []) refusal) (not_there t.nodes tables.nodes g tree_is path e) (said_as refusal cause.NoName same ∙ no_name)
  by_none (Some m) e refusal err = no_test m e (is_directory_at t m) refl refusal err

pub directories_are_worlds : DirectoriesAreWorlds
directories_are_worlds name s t cells path n tables is = by_number name s t cells tables path (number_of t.nodes path) refl n is

pub no_directories_are_worlds : NoDirectoriesAreWorlds
no_directories_are_worlds name s t cells path refusal tables is = by_none name s t cells tables path (number_of t.nodes path) refl refusal is
