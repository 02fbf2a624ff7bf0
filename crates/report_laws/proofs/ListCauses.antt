-- Why ls is refused: by the tables of a group, and by the world's tree.
use Rattle.std.proofs.Common.{◌≡◌, ℕ, Bool, true, false, cond, List, [], ◌∷◌, Option, Some, None, Result, Ok, Err, refl, sym, ap, subst, ◌∙◌}
use Rattle.std.specs.Prelude.{IsSomeAnd, MatchBool, not}
use Rattle.std.proofs.lemmas.Bool.{true≢false}
use Rattle.std.proofs.lemmas.Option.{none-some, same_Some}
use Rattle.refusal_lines.specs.Refusals.{meaning_of}
use Rattle.refusal_lines.specs.declared.refusal.Refusal.{Refusal}
use Rattle.refusal_lines.specs.declared.refusal.Refusal.TheVariants as cause
use Rattle.asm_group.specs.Group.{Cell, Group}
use Rattle.asm_group.specs.Names.{Bytes, Path}
use Rattle.asm_group.specs.Refusal as r
use Rattle.asm_group.specs.Shape.{Shape}
use Rattle.asm_group.specs.TreeEdits.{last_part, up}
use Rattle.asm_world.specs.Causes.{IsCaused, When, decided, dir_causes}
use Rattle.asm_world.specs.Edits as world
use Rattle.asm_world.specs.Listings.{has_star}
use Rattle.asmcmd.specs.declared.rows.LsRow.{LsRow}
use Rattle.alias_tree.specs.Nodes.{number_of}
use Rattle.alias_tree.specs.Trees.{tree_of}
use Rattle.catalog_tables.specs.Tables.{AreTables, Tables}
use Rattle.group_of.specs.Groups.{group_of}
use Rattle.group_reports.specs.Listing.{AreRowsIn, AreRowsOf, if_missing, directory_refusal}
use Rattle.group_reports.specs.Places.{directory_at, directory_in, node_named}
use Rattle.report_laws.specs.Lists.{ListsAreRefused, ListsAreUncaused}
use Rattle.report_laws.proofs.Directories.{not_there, there}
use Rattle.report_laws.proofs.Named.{named_is}
use Rattle.report_laws.proofs.Places.{directories_are_worlds, no_directories_are_worlds, no_name}

due : (a : Bool) (c : r.Refusal) → a ≡ false → c ≡ r.NoName → IsCaused (When (not a) r.NoName ∷ []) c
due false c p is = is
due true c p is = absurd (true≢false p)

module _ (name : Bytes) (s : Shape) (t : Tables) (cells : ℕ → List Cell) (parts : Path) (tables : AreTables t) where
  abbrev g : Group
  g = group_of name s t cells

  tree_is : g.tree ≡ tree_of t.nodes
  unfolding group_of
  tree_is = refl

  -- ---- what has rows

  module _ (rows : List LsRow) where
    in_directory : (o : Result ℕ Refusal) → directory_at t (up parts) ≡ o → AreRowsIn t name (last_part parts) o rows → decided (dir_causes g (up parts)) ≡ None
    in_directory (Ok n) e are = (directories_are_worlds name s t cells (up parts) n tables e).uncaused
    in_directory (Err refusal) e are = absurd are

    at_name : (o : Option ℕ) → number_of t.nodes parts ≡ o → IsSomeAnd o (λ n. AreRowsOf t name n rows) → decided (When (not (world.group_has_path g parts)) r.NoName ∷ []) ≡ None
    at_name None e are = absurd are
    at_name (Some n) e are = ap (λ (b : Bool). decided (When (not b) r.NoName ∷ [])) (there t.nodes tables.nodes g tree_is parts n e)

    uncaused : (b : Bool) → has_star (last_part parts) ≡ b
        → MatchBool b (AreRowsIn t name (last_part parts) (directory_in t (node_named t (up parts))) rows) (IsSomeAnd (node_named t parts) (λ n. AreRowsOf t name n rows))
        → decided (cond b (dir_causes g (up parts)) (When (not (world.group_has_path g parts)) r.NoName ∷ [])) ≡ None
    uncaused true is are =
        in_directory (directory_at t (up parts)) refl (subst (λ (o : Option ℕ). AreRowsIn t name (last_part parts) (directory_in t o) rows) (named_is t tables.nodes (up parts)) are)
    uncaused false is are = at_name (number_of t.nodes parts) refl (subst (λ (o : Option ℕ). IsSomeAnd o (λ n. AreRowsOf t name n rows)) (named_is t tables.nodes parts) are)

  -- ---- what is refused

  module _ (refusal : Refusal) where
    no_directory : (o : Result ℕ Refusal) → directory_at t (up parts) ≡ o → directory_refusal o ≡ Some refusal → IsCaused (dir_causes g (up parts)) (meaning_of (λ _. []) refusal)
    no_directory (Ok n) e is = absurd (none-some refusal is)
    no_directory (Err why) e is =
        subst (λ (c : Refusal). IsCaused (dir_causes g (up parts)) (meaning_of (λ _. []) c)) (same_Some why refusal is) (no_directories_are_worlds name s t cells (up parts) why tables e)

    no_node : (o : Option ℕ) → number_of t.nodes parts ≡ o → if_missing o ≡ Some refusal → IsCaused (When (not (world.group_has_path g parts)) r.NoName ∷ []) (meaning_of (λ _. []) refusal)
    no_node (Some n) e is = absurd (none-some refusal is)
    no_node None e is =
        let same : cause.NoName ≡ refusal = same_Some cause.NoName refusal is in
        due (world.group_has_path g parts) (meaning_of (λ _. []) refusal) (not_there t.nodes tables.nodes g tree_is parts e) (ap (λ (c : Refusal). meaning_of (λ _. []) c) (sym same) ∙ no_name)

    refused : (b : Bool) → cond b (directory_refusal (directory_in t (node_named t (up parts)))) (if_missing (node_named t parts)) ≡ Some refusal
        → IsCaused (cond b (dir_causes g (up parts)) (When (not (world.group_has_path g parts)) r.NoName ∷ [])) (meaning_of (λ _. []) refusal)
    refused true is =
        no_directory (directory_at t (up parts)) refl (sym (ap (λ (o : Option ℕ). directory_refusal (directory_in t o)) (named_is t tables.nodes (up parts))) ∙ is)
    refused false is = no_node (number_of t.nodes parts) refl (sym (ap if_missing (named_is t tables.nodes parts)) ∙ is)

pub lists_are_uncaused : ListsAreUncaused
lists_are_uncaused name s t cells parts rows tables are = uncaused name s t cells parts tables rows (has_star (last_part parts)) refl are

pub lists_are_refused : ListsAreRefused
lists_are_refused name s t cells parts refusal tables is = refused name s t cells parts tables refusal (has_star (last_part parts)) is
