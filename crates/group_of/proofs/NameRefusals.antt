-- What refuses a new file's name, and the world's answer.
use Rattle.std.proofs.Common.{◌≡◌, ℕ, Bool, true, false, [], ◌∷◌, Option, Some, None, Ok, Err, refl, ap, ◌∙◌, inl, inr}
use Rattle.std.specs.Prelude.{Result, not, is_none, is_some}
use Rattle.asm_group.specs.Causes.{Causes, first_cause, unless_refused}
use Rattle.asm_group.specs.Names.{Bytes}
use Rattle.asm_group.specs.Refusal as r
use Rattle.asm_group.specs.Group.{Group}
use Rattle.refusal_lines.specs.Refusals.{meaning_of}
use Rattle.asm_world.specs.Files as bytes
use Rattle.asm_world.specs.Files.{NewName}
use Rattle.catalog_laws.specs.alias_edits.Filing.{file_causes, with_file}
use Rattle.catalog_laws.specs.alias_tree.Trees.{tree_of}
use Rattle.catalog_laws.specs.catalog.NameChecks.{check_causes}
use Rattle.catalog_laws.specs.catalog.NamePlans.{filed_as, made_file, name_at, system_path}
use Rattle.catalog_laws.proofs.NameLaws.{refuses_as_world}
use Rattle.group_of.specs.Groups.{group_of}
use Rattle.group_of.specs.Edits.{IsRefusedBeside, IsWorldsRefusal, full, no_memory, same_refusal, worlds}
use Rattle.group_of.specs.Files.{CheckIsWorlds, HasTemplate, NameRefusalIsWorlds, new_file_answer}
use Rattle.group_of.proofs.NextNumbers.{next_number_is}
use Rattle.group_of.proofs.Refusals.{leaves_too, refuses_too}

-- a test that is false is passed over
passed : (b : Bool) (e : r.Refusal) (causes : Causes) → b ≡ false → first_cause ((b, e) ∷ causes) ≡ first_cause causes
passed b e causes is = ap (λ (x : Bool). first_cause ((x, e) ∷ causes)) is

some_none : {A : Type 0} (o : Option A) → is_some o ≡ true → is_none o ≡ false
some_none None e = absurd cc
some_none (Some x) e = refl

-- where there is a template, the world's causes are those of the size and the name
causes_are : (g : Group) (name : NewName) (size number : ℕ) (template : Option Bytes) → bytes.next_number g ≡ number → is_some (bytes.template_for g name template) ≡ true
    → first_cause (bytes.new_file_causes g (Some name) size template) ≡ first_cause ((not (bytes.is_sectors g size), r.NotSectors) ∷ file_causes g.tree (bytes.new_path name number g.next))
causes_are g name size number template same there =
    ap first_cause (refuses_as_world g name size template)
    ∙ passed (is_none (bytes.template_for g name template)) r.NoTemplate ((not (bytes.is_sectors g size), r.NotSectors) ∷ file_causes g.tree (bytes.new_path name (bytes.next_number g) g.next)) (some_none (bytes.template_for g name template) there)
    ∙ ap (λ (n : ℕ). first_cause ((not (bytes.is_sectors g size), r.NotSectors) ∷ file_causes g.tree (bytes.new_path name n g.next))) same

abbrev answer : Option r.Refusal → Result (Unit {0}) r.Refusal
answer o = unless_refused o tt

answered : (o : Option r.Refusal) (e : r.Refusal) → o ≡ Some e → answer o ≡ Err e
answered o e is = ap answer is

pub check_is_worlds : CheckIsWorlds
unfolding group_of
check_is_worlds name c path size template refusal cells rests there (inl memory) = no_memory memory
check_is_worlds name c path size template refusal cells rests there (inr (file, next, is)) = by (name_at path) there is where
  by : (o : Option NewName) → HasTemplate (group_of name c.shape c.tables cells) o template → first_cause (check_causes c.shape c.tables o size file) ≡ Some (meaning_of (λ n. []) refusal)
      → IsWorldsRefusal (new_file_answer (group_of name c.shape c.tables cells) o size template) refusal
  by None there is = same_refusal (answered _ (meaning_of (λ n. []) refusal) is)
  by (Some new) there is =
      same_refusal (answered _ (meaning_of (λ n. []) refusal) (causes_are (group_of name c.shape c.tables cells) new size file template (next_number_is name c.shape c.tables file cells rests next) there ∙ is))

pub name_refusal_is_worlds : NameRefusalIsWorlds
unfolding group_of
name_refusal_is_worlds name c path size template refusal cells number there sectors (inl memory) = worlds (no_memory memory)
name_refusal_is_worlds name c path size template refusal cells number there sectors (inr (inl is)) = by (name_at path) there is where
  by : (o : Option NewName) → HasTemplate (group_of name c.shape c.tables cells) o template → filed_as c.tables o ≡ Err (meaning_of (λ n. []) refusal)
      → IsRefusedBeside (new_file_answer (group_of name c.shape c.tables cells) o size template) refusal
  by None there is = worlds (same_refusal (refuses_too (Some r.NoTemplate) (tree_of c.tables.nodes) tt (meaning_of (λ n. []) refusal) is))
  by (Some new) there is =
      let causes = causes_are (group_of name c.shape c.tables cells) new size (made_file c.tables) template number there
      ∙ passed (not (bytes.is_sectors (group_of name c.shape c.tables cells) size)) r.NotSectors (file_causes (tree_of c.tables.nodes) (system_path c.tables new)) (ap not sectors) in
      worlds (same_refusal (ap answer causes
      ∙ refuses_too (first_cause (file_causes (tree_of c.tables.nodes) (system_path c.tables new))) (with_file (tree_of c.tables.nodes) (system_path c.tables new) (made_file c.tables)) tt (meaning_of (λ n. []) refusal) is))
name_refusal_is_worlds name c path size template refusal cells number there sectors (inr (inr (need, free, is, lacks))) = by (name_at path) lacks.name_is there where
  by : (o : Option NewName) → o ≡ Some lacks.name → HasTemplate (group_of name c.shape c.tables cells) o template → IsRefusedBeside (new_file_answer (group_of name c.shape c.tables cells) o size template) refusal
  by None same there = absurd cc
  by (Some new) same there =
      let causes = causes_are (group_of name c.shape c.tables cells) new size (made_file c.tables) template number there
      ∙ passed (not (bytes.is_sectors (group_of name c.shape c.tables cells) size)) r.NotSectors (file_causes (tree_of c.tables.nodes) (system_path c.tables new)) (ap not sectors) in
      let filed : filed_as c.tables (Some new) ≡ Ok lacks.filed.0 = ap (λ (o : Option NewName). filed_as c.tables o) same ∙ lacks.filed.1 in
      full need free tt is lacks.few
      (ap answer causes
      ∙ leaves_too (first_cause (file_causes (tree_of c.tables.nodes) (system_path c.tables new))) (with_file (tree_of c.tables.nodes) (system_path c.tables new) (made_file c.tables)) lacks.filed.0 tt filed)
