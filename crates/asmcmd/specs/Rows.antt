-- Parts of the rows of verbs, and what they say: the readers of the program have these.
use Rattle.std.specs.Prelude.{Option, is_some}
use Rattle.std.specs.Option.{option_map}
use mathlib.Core.Logic.{inl, inr}
use Rattle.asm_group.specs.Names.{Bytes}
use Rattle.asm_grammar.specs.Argument.{Text, NotLong, PartPattern, HexBytes, HexByte}
use Rattle.asm_grammar.specs.Syntax.{SyntaxRule, Value, Maybe}
use Rattle.asm_grammar.specs.Reading.{Outcome, mapped, parse}
use Rattle.asm_grammar.specs.declared.words.Place.{Place}
use Rattle.asm_world.specs.Command.{Verb, DbCreate, DbWrite, DbFill, DbRead, DbResize, Ls, Find, MakeAlias}
use Rattle.asm_world.specs.Grammar.{◌▸◌, ◌∣◌}
use Rattle.asm_world.specs.VerbMeaning.{of_files, of_cp, of_names, of_reports}
use Rattle.asm_world.specs.Verbs as g
use Rattle.asm_world.specs.Verbs.{argument, verb_word}
use Rattle.std.specs.Prelude.{codes}
use Rattle.asm_grammar.specs.Reads.{reads}

-- the same, where the part may be absent
abbrev pub may_read : {A : Type 0} → (syntax : SyntaxRule) → (Value syntax → A) → Place → Outcome (Option A)
may_read syntax says from = reads (Maybe syntax) (λ v. option_map says v) from

-- P size [N], behind dbcreate
abbrev pub create_rest : SyntaxRule
create_rest = g.path ▸ g.size ▸ Maybe g.name

abbrev pub create_of : Value create_rest → Verb
create_of (path, (size, template)) = DbCreate path size template

-- P at hex, behind dbwrite
abbrev pub write_rest : SyntaxRule
write_rest = g.path ▸ g.size ▸ argument HexBytes

abbrev pub write_of : Value write_rest → Verb
write_of (path, (at, bytes)) = DbWrite path at bytes

-- P at size hh, behind dbfill
abbrev pub fill_rest : SyntaxRule
fill_rest = g.path ▸ g.size ▸ g.size ▸ argument HexByte

abbrev pub fill_of : Value fill_rest → Verb
fill_of (path, (at, (size, byte))) = DbFill path at size byte

-- P at size, behind dbread
abbrev pub read_rest : SyntaxRule
read_rest = g.path ▸ g.size ▸ g.size

abbrev pub read_of : Value read_rest → Verb
read_of (path, (at, size)) = DbRead path at size

-- P size, behind dbresize
abbrev pub resize_verb_rest : SyntaxRule
resize_verb_rest = g.path ▸ g.size

abbrev pub resize_verb_of : Value resize_verb_rest → Verb
resize_verb_of (path, size) = DbResize path size

-- [-l] [P], behind ls
abbrev pub list_rest : SyntaxRule
list_rest = Maybe (verb_word (codes "-l")) ▸ Maybe (argument (Text NotLong))

abbrev pub list_verb_of : Value list_rest → Verb
list_verb_of (long, path) = Ls (is_some long) path

-- the target of cp behind a path in a group
abbrev pub target : SyntaxRule
target = g.path ∣ g.outside

abbrev pub target_of : Value target → Bytes
target_of (inl path) = path
target_of (inr path) = path

-- P Q, behind cp
abbrev pub copy_rest : SyntaxRule
copy_rest = g.path ▸ target ∣ g.outside ▸ g.path

abbrev pub copy_verb_of : Value copy_rest → Verb
copy_verb_of v = of_cp (tt, v)

-- P pattern, behind find
abbrev pub find_rest : SyntaxRule
find_rest = g.path ▸ argument (Text PartPattern)

abbrev pub find_of : Value find_rest → Verb
find_of (path, pattern) = Find path pattern

-- P Q, behind mkalias
abbrev pub alias_rest : SyntaxRule
alias_rest = g.path ▸ g.path

abbrev pub alias_of : Value alias_rest → Verb
alias_of (path, alias) = MakeAlias path alias

-- cp, du, find, mkalias, rmalias
abbrev pub later_names : SyntaxRule
later_names = g.cp ∣ g.du ∣ g.find ∣ verb_word (codes "mkalias") ▸ alias_rest ∣ verb_word (codes "rmalias") ▸ g.path

abbrev pub later_names_of : Value later_names → Verb
later_names_of v = of_names (inr (inr (inr (inr (inr v)))))
