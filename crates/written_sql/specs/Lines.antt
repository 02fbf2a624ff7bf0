-- The text of a statement as it is made: one word behind another, with the spaces between them.
use Rattle.std.specs.Prelude.{◌==◌, Bool, true, false, ◌||◌, List, [], ◌∷◌, ◌++◌, map, codes, Option, Some, None}
use Rattle.std.specs.Option.{option_map}
use Rattle.std.specs.List.{fold}
use mathlib.Core.Logic.{inl, inr}
use Rattle.asm_grammar.specs.Word.{Word, Mark, Meaning}
use Rattle.asm_grammar.specs.Syntax.{SyntaxRule, One, Then, Either, Maybe, Many, Value}
use Rattle.asm_grammar.specs.Writing.{spell, space_unless}
use Rattle.asm_group.specs.declared.GroupKind.{GroupKind}
use Rattle.asm_group.specs.Names.{Bytes}
use Rattle.asm_world.specs.Grammar as g
use Rattle.asm_world.specs.Grammar.{◌▸◌}
use Rattle.asm_world.specs.Statement as s
use Rattle.group_sql.specs.Rows.{groups_and_attributes}
use Rattle.asm_world.specs.Writing.{attributes_value, clause_value, failgroup_values, failgroups_value, group_word_value, kind_value, statement_value, words_value}

-- the bytes so far, and whether the next word stands right behind them
pub record Line : Type 0 where
  pub bytes : Bytes
  pub close : Bool

abbrev pub empty_line : Line
empty_line = record { bytes = []; close = true }

-- , ) = and ; stand right behind the word before them
abbrev pub stands_close : Word → Bool
stands_close (Mark m) = m == 44 || m == 41 || m == 61 || m == 59
stands_close other = false

-- the next word stands right behind ( and =
abbrev pub is_opening_mark : Word → Bool
is_opening_mark (Mark m) = m == 40 || m == 61
is_opening_mark other = false

-- a word behind the others
abbrev pub add_word : (w : Word) → Meaning w → Line → Line
add_word w v line = record { bytes = line.bytes ++ (space_unless (stands_close w || line.close) ++ spell w v); close = is_opening_mark w }

-- the words of a value behind the others
abbrev pub with_value : (row : SyntaxRule) → Value row → Line → Line
with_value (One w) v line = add_word w v line
with_value (Then a b) (v, w) line = with_value b w (with_value a v line)
with_value (Either a b) (inl v) line = with_value a v line
with_value (Either a b) (inr w) line = with_value b w line
with_value (Maybe a) None line = line
with_value (Maybe a) (Some v) line = with_value a v line
with_value (Many a) vs line = fold (λ l v. with_value a v l) line vs

-- the words of a value behind the others, where there is a value
abbrev pub put_maybe : (row : SyntaxRule) → Option (Value row) → Line → Option Line
put_maybe row value line = option_map (λ v. with_value row v line) value

-- items behind commas
abbrev pub put_more : {A : Type 0} → (row : SyntaxRule) → (A → Value row) → List A → Line → Line
put_more row value items line = fold (λ l item. with_value row (value item) (with_value g.comma tt l)) line items

-- an item, and the others behind commas; None where there is no item
abbrev pub list_of : {A B : Type 0} → (A → B) → List A → Option (B × List (Unit {0} × B))
list_of value [] = None
list_of value (item ∷ others) = Some (value item, map (λ o. (tt, o)) (map value others))

abbrev pub in_group_value : Option s.FailgroupKind → Bytes → Value g.in_failgroup
in_group_value kind name = (tt, (option_map group_word_value kind, (tt, name)))

-- None where no disk is named
abbrev pub some_disks_value : s.NamedDisks → Option (Value g.some_disks)
some_disks_value (s.Named names) = option_map (λ v. inl (tt, v)) (list_of (λ n. n) names)
some_disks_value (s.InFailgroup kind name) = Some (inr (tt, in_group_value kind name))
some_disks_value s.All = None

-- [FAILGROUP name]
abbrev pub maybe_group_name : SyntaxRule
maybe_group_name = Maybe (g.key (codes "FAILGROUP") ▸ g.name)

-- ( word [word] )
abbrev pub bracketed_words : SyntaxRule
bracketed_words = g.opening ▸ g.template_words ▸ g.closing

-- None where no word is said
abbrev pub bracketed_value : s.TemplateWords → Option (Value bracketed_words)
bracketed_value words = option_map (λ v. (tt, (v, tt))) (words_value words.redundancy words.stripe)

-- None where no word is said
abbrev pub template_value : Bytes → s.TemplateWords → Option (Value g.template)
template_value name words = option_map (λ v. (tt, (name, (tt, (tt, (v, tt)))))) (words_value words.redundancy words.stripe)

-- failure groups, one behind another
unfoldable pub groups_line : List s.NewFailgroup → Line → Option Line
groups_line groups line = put_maybe (Many g.failgroup) (failgroup_values groups) line

abbrev pub kind_words : Option GroupKind → Option (Value g.kind × Unit {0})
kind_words kind = option_map (λ k. (kind_value k, tt)) kind

-- what stands behind the name of a new group; None where there is no failure group, or one has no disk
abbrev pub group_rest_value : List s.NewFailgroup → List s.Attribute → Option (Value groups_and_attributes)
group_rest_value groups attributes = option_map (λ v. (v, attributes_value attributes)) (failgroups_value groups)

unfoldable pub clause_line : s.Clause → Line → Option Line
clause_line clause line = put_maybe g.clause (clause_value clause) line

unfoldable pub statement_line : s.Statement → Line → Option Line
statement_line statement line = put_maybe g.statement (statement_value statement) line
