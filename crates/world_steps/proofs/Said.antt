-- What the names and the paths of commands are made of.
use Rattle.std.proofs.Common.{◌≡◌, ℕ, ◌+◌, ◌≤◌, Bool, true, false, List, [], ◌∷◌, ◌++◌, length, Option, Some, None, refl, sym, ◌∙◌, ap, subst, arith, ⊎_elim}
use Rattle.std.specs.Prelude.{◌==◌, nat_le, codes}
use Rattle.std.specs.Int.{is_in_range}
use Rattle.std.specs.List.{list_all}
use Rattle.std.specs.Str.{bytes_eq}
use mathlib.Core.Logic.{inl, inr}
use Rattle.std.proofs.lemmas.Bool.{and_from, and_parts, cases_Bool, cond-false, cond-true, false_from_ne_true, false≢true, le-leb, leb-true, ne_eqb, or_left, or_right}
use Rattle.std.proofs.lemmas.List.{length-map}
use Rattle.std.proofs.lemmas.List.Folds.{list_all-append}
use Rattle.std.proofs.lemmas.Option.{same_Some}
use Rattle.std.proofs.lemmas.Slice.Eq.{bytes_eq-Decides}
use Rattle.asm_grammar.specs.Bytes.{is_word, run_of, after_run}
use Rattle.asm_grammar.specs.Syntax.{Value, Has}
use Rattle.asm_grammar.specs.Word as word
use Rattle.asm_grammar.proofs.Consumes.{some_pair, taken, when_true}
use Rattle.asm_grammar.proofs.Nearest.{run_words}
use Rattle.asm_group.specs.Names.{Bytes, Path, folded, folded_byte, is_letter, is_name, is_part, is_part_byte, is_same_name, all_parts}
use Rattle.asm_world.specs.Command.{Said}
use Rattle.asm_world.specs.Grammar as g
use Rattle.asm_world.specs.Language.{command_of}
use Rattle.asm_world.specs.Meaning.{add_of, clause_of, drop_of, modify_of, online_of, rename_of, resize_of, statement_of}
use Rattle.asm_world.specs.Paths.{between_slashes, clause_path, parts_of, resolved_by, two_points, up, walk, within_group}
use Rattle.asm_world.specs.Statement.{Clause, Statement, AddTemplate, Alter, ModifyTemplate}
use Rattle.asm_world.proofs.Commands.{statements_found}
use Rattle.world_steps.specs.Said.{AttributesHaveParts, PathsHaveParts, TemplatesHaveNames}

-- ---- names of the grammar

named : (name : Bytes) → word.is_name_word name ≡ true → list_all is_word name ≡ true → is_name name ≡ true
unfolding is_name
named [] starts words = absurd cc
named (c ∷ cs) starts words =
    let p = and_parts (is_letter c) (nat_le (length (c ∷ cs)) 30) starts in
    let short : length (c ∷ cs) ≤ 30 = leb-true (length (c ∷ cs)) 30 p.1 in
    rw (p.0, (and_parts (is_word c) (list_all is_word cs) words).1, le-leb (length cs) 29 (omega (arith, short))) refl

fitted : (text name rest : Bytes) → word.fit word.Name text ≡ Some (name, rest) → is_name name ≡ true
fitted text name rest fits =
    let behind = after_run (word.gap word.Name) text in
    let run = run_of is_word behind in
    let t = taken (after_run is_word behind) (word.when (word.is_name_word run) run) name rest fits in
    let w = when_true (word.is_name_word run) run name t.0 in
    subst (λ (n : Bytes). is_name n ≡ true) w.1 (named run w.0 (run_words is_word behind))

-- the template that a clause adds or modifies has a name
abbrev NamesTemplate : Clause → Type 0
NamesTemplate (AddTemplate template words) = is_name template ≡ true
NamesTemplate (ModifyTemplate template words) = is_name template ≡ true
NamesTemplate other = Unit {0}

-- and so has that of a statement
abbrev StatesTemplate : Statement → Type 0
StatesTemplate (Alter group clause) = NamesTemplate clause
StatesTemplate other = Unit {0}

template_fits : (v : Value g.template) (text rest : Bytes) → Has g.template v text rest → is_name v.1.0 ≡ true
template_fits (keyword, (name, more)) text rest has = fitted has.0 name has.2.0 has.2.1

added_named : (v : Value g.added) (text rest : Bytes) → Has g.added v text rest → NamesTemplate (add_of v)
added_named (inl (groups, rebalance)) text rest has = tt
added_named (inr (inl (keyword, (name, (attributes, (sign, (words, end))))))) text rest has =
    template_fits (keyword, (name, (attributes, (sign, (words, end))))) text rest has
added_named (inr (inr (inl (keyword, path)))) text rest has = tt
added_named (inr (inr (inr (keyword, (alias, (for, path)))))) text rest has = tt

modified_named : (v : Value g.modify) (text rest : Bytes) → Has g.modify v text rest → NamesTemplate (modify_of v)
modified_named (either, (keyword, (name, (attributes, (sign, (words, end)))))) text rest has =
    template_fits (keyword, (name, (attributes, (sign, (words, end))))) has.0 rest has.2

dropped_named : (v : Value g.dropped) → NamesTemplate (drop_of v)
dropped_named (inl disks) = tt
dropped_named (inr (inl failgroup)) = tt
dropped_named (inr (inr (inl template))) = tt
dropped_named (inr (inr (inr (inl directory)))) = tt
dropped_named (inr (inr (inr (inr (inl alias))))) = tt
dropped_named (inr (inr (inr (inr (inr file))))) = tt

resize_named : (v : Value g.resize) → NamesTemplate (resize_of v)
resize_named (keyword, (inl every, more)) = tt
resize_named (keyword, (inr disk, more)) = tt

online_named : (v : Value g.online) → NamesTemplate (online_of v)
online_named (keyword, (inl every, wait)) = tt
online_named (keyword, (inr disks, wait)) = tt

rename_named : (v : Value g.rename) → NamesTemplate (rename_of v)
rename_named (keyword, (inl directory, names)) = tt
rename_named (keyword, (inr alias, names)) = tt

clause_named : (v : Value g.clause) (text rest : Bytes) → Has g.clause v text rest → NamesTemplate (clause_of v)
clause_named (inl (keyword, v)) text rest has = added_named v has.0 rest has.2
clause_named (inr (inl (keyword, v))) text rest has = dropped_named v
clause_named (inr (inr (inr (inl v)))) text rest has = resize_named v
clause_named (inr (inr (inr (inr (inr (inr (inr (inr (inl v))))))))) text rest has = online_named v
clause_named (inr (inr (inr (inr (inr (inr (inr (inr (inr (inr (inl v))))))))))) text rest has = modified_named v text rest has
clause_named (inr (inr (inr (inr (inr (inr (inr (inr (inr (inr (inr (inl v)))))))))))) text rest has = rename_named v
clause_named other text rest has = tt

stated : (v : Value g.statement) (text rest : Bytes) → Has g.statement v text rest → StatesTemplate (statement_of v)
stated (inr (inr (alter, (keyword, (name, v))))) text rest has = clause_named v has.2.2.0 rest has.2.2.2
stated (inl (create, inl disk)) text rest has = tt
stated (inl (create, inr group)) text rest has = tt
stated (inr (inl (drop, (keyword, (name, None))))) text rest has = tt
stated (inr (inl (drop, (keyword, (name, Some (inl including, contents)))))) text rest has = tt
stated (inr (inl (drop, (keyword, (name, Some (inr excluding, contents)))))) text rest has = tt

said : (text : Bytes) (s : Statement) → command_of text ≡ Said s → StatesTemplate s
said text s is =
    let says = (statements_found text s).0 is in
    subst (λ (t : Statement). StatesTemplate t) says.is (stated says.value text says.rest says.has)

pub templates_have_names : TemplatesHaveNames
templates_have_names = record {
  added = λ text group template words is. said text (Alter group (AddTemplate template words)) is;
  modified = λ text group template words is. said text (Alter group (ModifyTemplate template words)) is;
}

-- ---- names without case

capital_letter : (c : ℕ) → is_in_range 65 90 c ≡ true → (is_letter (c + 32) ≡ true) × (((c + 32) == 46) ≡ (c == 46))
capital_letter c within =
    let p = and_parts (nat_le 65 c) (nat_le c 90) within in
    let low = leb-true 65 c p.0 in
    let high = leb-true c 90 p.1 in
    let small : is_in_range 97 122 (c + 32) ≡ true = and_from (nat_le 97 (c + 32)) (nat_le (c + 32) 122) (le-leb 97 (c + 32) (omega (arith, low))) (le-leb (c + 32) 122 (omega (arith, high))) in (
      or_right (is_in_range 65 90 (c + 32)) (is_in_range 97 122 (c + 32)) small,
      ne_eqb (c + 32) 46 (λ same. omega (arith, low, same)) ∙ sym (ne_eqb c 46 (λ same. omega (arith, low, same))),
    )

letter_made : (c : ℕ) → is_letter c ≡ true → is_part_byte c ≡ true
letter_made c letter = rw letter refl

folded_made : (c : ℕ) → is_part_byte (folded_byte c) ≡ is_part_byte c
folded_made c = ⊎_elim
    (λ (yes : is_in_range 65 90 c ≡ true).
    ap is_part_byte (cond-true (is_in_range 65 90 c) (c + 32) c yes)
    ∙ (letter_made (c + 32) (capital_letter c yes).0 ∙ sym (letter_made c (or_left (is_in_range 65 90 c) (is_in_range 97 122 c) yes))))
    (λ no. ap is_part_byte (cond-false (is_in_range 65 90 c) (c + 32) c no))
    (cases_Bool (is_in_range 65 90 c))

folded_point : (c : ℕ) → (folded_byte c == 46) ≡ (c == 46)
folded_point c = ⊎_elim
    (λ (yes : is_in_range 65 90 c ≡ true). ap (λ (b : ℕ). b == 46) (cond-true (is_in_range 65 90 c) (c + 32) c yes) ∙ (capital_letter c yes).1)
    (λ no. ap (λ (b : ℕ). b == 46) (cond-false (is_in_range 65 90 c) (c + 32) c no))
    (cases_Bool (is_in_range 65 90 c))

all_made : (cs : Bytes) → list_all is_part_byte (folded cs) ≡ list_all is_part_byte cs
all_made [] = refl
all_made (c ∷ cs) = rw (folded_made c, all_made cs) refl

point_alone : (cs : Bytes) → bytes_eq (folded cs) (46 ∷ []) ≡ bytes_eq cs (46 ∷ [])
point_alone [] = refl
point_alone (c ∷ []) = rw (folded_point c) refl
point_alone (c ∷ d ∷ cs) = rw (folded_point c) refl

folded_part : (longest : ℕ) (cs : Bytes) → is_part longest (folded cs) ≡ is_part longest cs
unfolding is_part
folded_part longest cs = rw (all_made cs, length-map cs folded_byte, point_alone cs) refl

-- a name is a part where one that is the same is
pub same_part : (longest : ℕ) (a b : Bytes) → is_same_name a b ≡ true → is_part longest a ≡ is_part longest b
same_part longest a b same =
    sym (folded_part longest a) ∙ (ap (is_part longest) ((bytes_eq-Decides (folded a) (folded b)).0 same) ∙ folded_part longest b)

-- ---- attributes

no_attribute : (name known : Bytes) → is_part 255 known ≡ true → is_part 255 name ≡ false → is_same_name name known ≡ false
no_attribute name known part none =
    false_from_ne_true (is_same_name name known) (λ same. false≢true (sym none ∙ (same_part 255 name known same ∙ part)))

pub attributes_have_parts : AttributesHaveParts
unfolding is_part
attributes_have_parts old a none = rw (
  no_attribute a.name (codes "disk_repair_time") refl none,
  no_attribute a.name (codes "compatible.asm") refl none,
  no_attribute a.name (codes "compatible.rdbms") refl none,
  no_attribute a.name (codes "compatible.advm") refl none,
) refl

-- ---- paths

module _ (test : Bytes → Bool) where
  up_keeps : (place : List Bytes) → list_all test place ≡ true → list_all test (up place) ≡ true
  up_keeps [] all = refl
  up_keeps (part ∷ []) all = refl
  up_keeps (part ∷ next ∷ parts) all =
      let p = and_parts (test part) (list_all test (next ∷ parts)) all in
      and_from (test part) (list_all test (up (next ∷ parts))) p.0 (up_keeps (next ∷ parts) p.1)

  more_keeps : (place : List Bytes) (part : Bytes) → list_all test place ≡ true → test part ≡ true → list_all test (place ++ part ∷ []) ≡ true
  more_keeps place part all is = list_all-append test place (part ∷ []) ∙ rw (all, is) refl

  walk_keeps : (parts place inside : List Bytes) → list_all test place ≡ true → walk test place parts ≡ Some inside → list_all test inside ≡ true
  walk_keeps [] place inside all leads = subst (λ (l : List Bytes). list_all test l ≡ true) (same_Some place inside leads) all
  walk_keeps (part ∷ parts) place inside all leads = ⊎_elim
      (λ (points : bytes_eq part two_points ≡ true). walk_keeps parts (up place) inside (up_keeps place all) (rw points at leads))
      (λ (no : bytes_eq part two_points ≡ false). ⊎_elim
      (λ (is : test part ≡ true). walk_keeps parts (place ++ part ∷ []) inside (more_keeps place part all is) (rw (no, is) at leads))
      (λ (none : test part ≡ false). absurd (let e = rw (no, none) at leads in cc))
      (cases_Bool (test part)))
      (cases_Bool (bytes_eq part two_points))

  resolved_keeps : (place inside : List Bytes) (path : Bytes) → list_all test place ≡ true → resolved_by test place path ≡ Some inside → list_all test inside ≡ true
  resolved_keeps place inside [] all leads = subst (λ (l : List Bytes). list_all test l ≡ true) (same_Some place inside leads) all
  resolved_keeps place inside (b ∷ bytes) all leads = ⊎_elim
      (λ (top : (b == 43) ≡ true). ⊎_elim
      (λ (alone : (length bytes == 0) ≡ true). subst (λ (l : List Bytes). list_all test l ≡ true) (same_Some [] inside (rw (top, alone) at leads)) refl)
      (λ (more : (length bytes == 0) ≡ false). walk_keeps (between_slashes bytes) [] inside refl (rw (top, more) at leads))
      (cases_Bool (length bytes == 0)))
      (λ (here : (b == 43) ≡ false). walk_keeps (between_slashes (b ∷ bytes)) place inside all (rw here at leads))
      (cases_Bool (b == 43))

parts_are : (o : Option (List Bytes)) (group : Bytes) (inside : Path) → parts_of o ≡ Some (group, inside) → o ≡ Some (group ∷ inside)
parts_are None group inside e = absurd cc
parts_are (Some []) group inside e = absurd cc
parts_are (Some (name ∷ path)) group inside e = let p = some_pair e in rw (p.0, p.1) refl

-- what stands behind the group
inside_part : (group : Bytes) (inside : Path) → list_all (is_part 80) (group ∷ inside) ≡ true → list_all (is_part 80) inside ≡ true
inside_part group inside all = (and_parts (is_part 80 group) (list_all (is_part 80) inside) all).1

group_of : (name : Bytes) (o : Option (Bytes × Path)) (inside : Path) → within_group name o ≡ Some inside → (group : Bytes) × (o ≡ Some (group, inside))
group_of name None inside e = absurd cc
group_of name (Some (group, path)) inside e = ⊎_elim
    (λ (same : is_same_name group name ≡ true). (group, ap (λ (p : Path). Some (group, p)) (same_Some path inside (rw same at e))))
    (λ other. absurd (let f = rw other at e in cc))
    (cases_Bool (is_same_name group name))

all_are : (parts all : List Bytes) → all_parts parts ≡ Some all → list_all (is_part 80) all ≡ true
all_are parts all e = ⊎_elim
    (λ (yes : list_all (is_part 80) parts ≡ true). subst (λ (l : List Bytes). list_all (is_part 80) l ≡ true) (same_Some parts all (rw yes at e)) yes)
    (λ no. absurd (let f = rw no at e in cc))
    (cases_Bool (list_all (is_part 80) parts))

clause_keeps : (name path : Bytes) (inside : Path) → clause_path name path ≡ Some inside → list_all (is_part 80) inside ≡ true
clause_keeps name [] inside e = absurd cc
clause_keeps name (b ∷ bytes) inside e = ⊎_elim
    (λ (top : (b == 43) ≡ true).
    let within = group_of name (parts_of (all_parts (between_slashes bytes))) inside (rw top at e) in
    inside_part within.0 inside (all_are (between_slashes bytes) (within.0 ∷ inside) (parts_are (all_parts (between_slashes bytes)) within.0 inside within.1)))
    (λ other. absurd (let f = rw other at e in cc))
    (cases_Bool (b == 43))

pub paths_have_parts : PathsHaveParts
paths_have_parts = record {
  clause = clause_keeps;
  verb = λ place path group inside all leads.
      inside_part group inside (resolved_keeps (is_part 80) place (group ∷ inside) path all (parts_are (resolved_by (is_part 80) place path) group inside leads));
  same = λ a b same part. same_part 80 a b same ∙ part;
}
