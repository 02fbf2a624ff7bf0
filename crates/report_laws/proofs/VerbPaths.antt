-- The paths of cd, find, du and ls, as the grammar of verbs has them.
use Rattle.std.proofs.Common.{◌≡◌, ℕ, Bool, true, false, List, Option, Some, None, refl, subst}
use Rattle.std.specs.Prelude.{◌||◌, ◌==◌, is_some}
use mathlib.Core.Logic.{inl, inr}
use Rattle.asm_grammar.specs.Argument as grammar
use Rattle.asm_grammar.specs.Argument.{Plain, Starred, PathStart, NotLongStart, Stage, Text, TextKind, GroupPath, NotLong, accepts, ends_at, onward, reached, said_at, says, first_stage, text_start}
use Rattle.asm_grammar.specs.Bytes.{after_run, is_filled, is_word, run_of}
use Rattle.asm_grammar.specs.Syntax.{Value, Has}
use Rattle.asm_grammar.specs.Word as word
use Rattle.asm_grammar.proofs.Consumes.{taken}
use Rattle.asm_group.specs.Names.{Bytes, is_part, is_part_byte}
use Rattle.asm_world.specs.Command.{Asked, Verb, Cd, Find, Ls, Usage}
use Rattle.asm_world.specs.Language.{command_of}
use Rattle.asm_world.specs.Paths.{is_pattern_byte, resolved, resolved_or_here, resolved_pattern}
use Rattle.asm_world.specs.VerbMeaning.{of_cp, of_disks, of_files, of_ls, of_names, of_reports, verb_of}
use Rattle.asm_world.specs.Verbs as g
use Rattle.asm_world.proofs.Commands.{verbs_found}
use Rattle.report_laws.specs.Paths.{PathsLead}
use Rattle.report_laws.proofs.Leading.{long_leads, path_leads}

-- ---- words of a verb

-- bytes that were read as a text of a kind are one
read_is : (k : TextKind) (bytes said : Bytes) (o : Option Stage) → onward None (λ s. said_at (λ t. says (Text k) bytes t) s) o ≡ Some said → (onward false ends_at o ≡ true) × (bytes ≡ said)
read_is k bytes said None e = absurd cc
read_is k bytes said (Some s) e = by (ends_at s) refl where
  by : (b : Bool) → ends_at s ≡ b → (ends_at s ≡ true) × (bytes ≡ said)
  by true is = (is, let f = rw is at e in cc)
  by false is = absurd (let f = rw is at e in cc)

fitted : (k : TextKind) (text said rest : Bytes) → word.fit (word.Argument (Text k)) text ≡ Some (said, rest) → accepts (text_start k) said ≡ true
fitted k text said rest fits =
    let behind = after_run (word.gap (word.Argument (Text k))) text in
    let run = run_of is_filled behind in
    let t = taken (after_run is_filled behind) (grammar.argument_of (Text k) run) said rest fits in
    let r = read_is k run said (reached (text_start k) run) t.0 in
    subst (λ (bytes : Bytes). accepts (text_start k) bytes ≡ true) r.1 r.0

-- ---- verbs

abbrev IsWord : Verb → Type 0
IsWord (Cd path) = accepts (PathStart Plain) path ≡ true
IsWord (Find path pattern) = accepts (PathStart Plain) path ≡ true
IsWord (Usage (Some path)) = accepts (PathStart Plain) path ≡ true
IsWord (Ls long (Some path)) = accepts NotLongStart path ≡ true
IsWord other = Unit {0}

ls_word : (v : Value g.ls) (text rest : Bytes) → Has g.ls v text rest → IsWord (of_ls v)
ls_word (keyword, (long, None)) text rest has = tt
ls_word (keyword, (long, Some path)) text rest has = fitted NotLong has.2.0 path rest has.2.2

cp_word : (v : Value g.cp) → IsWord (of_cp v)
cp_word (keyword, inl (source, inl target)) = tt
cp_word (keyword, inl (source, inr target)) = tt
cp_word (keyword, inr (source, target)) = tt

names_word : (v : Value g.names) (text rest : Bytes) → Has g.names v text rest → IsWord (of_names v)
names_word (inl v) text rest has = ls_word v text rest has
names_word (inr (inl (keyword, path))) text rest has = fitted GroupPath has.0 path rest has.2
names_word (inr (inr (inl keyword))) text rest has = tt
names_word (inr (inr (inr (inl (keyword, path))))) text rest has = tt
names_word (inr (inr (inr (inr (inl (keyword, path)))))) text rest has = tt
names_word (inr (inr (inr (inr (inr (inl v)))))) text rest has = cp_word v
names_word (inr (inr (inr (inr (inr (inr (inl (keyword, None)))))))) text rest has = tt
names_word (inr (inr (inr (inr (inr (inr (inl (keyword, Some path)))))))) text rest has = fitted GroupPath has.0 path rest has.2
names_word (inr (inr (inr (inr (inr (inr (inr (inl (keyword, (path, pattern)))))))))) text rest has = fitted GroupPath has.0 path has.2.0 has.2.1
names_word (inr (inr (inr (inr (inr (inr (inr (inr (inl (keyword, (path, alias))))))))))) text rest has = tt
names_word (inr (inr (inr (inr (inr (inr (inr (inr (inr (keyword, path)))))))))) text rest has = tt

files_word : (v : Value g.files) → IsWord (of_files v)
files_word (inl (keyword, (path, (size, template)))) = tt
files_word (inr (inl (keyword, (path, (at, bytes))))) = tt
files_word (inr (inr (inl (keyword, (path, (at, (size, byte))))))) = tt
files_word (inr (inr (inr (inl (keyword, (path, (at, size))))))) = tt
files_word (inr (inr (inr (inr (keyword, (path, size)))))) = tt

reports_word : (v : Value g.reports) → IsWord (of_reports v)
reports_word (inl (keyword, name)) = tt
reports_word (inr (inl (keyword, name))) = tt
reports_word (inr (inr (inl (keyword, name)))) = tt
reports_word (inr (inr (inr (keyword, name)))) = tt

disks_word : (v : Value g.disks) → IsWord (of_disks v)
disks_word (inl (keyword, (name, disk))) = tt
disks_word (inr (inl (keyword, (name, disk)))) = tt
disks_word (inr (inr (keyword, (name, power)))) = tt

verb_word : (v : Value g.verb) (text rest : Bytes) → Has g.verb v text rest → IsWord (verb_of v)
verb_word (inl v) text rest has = files_word v
verb_word (inr (inl v)) text rest has = names_word v text rest has
verb_word (inr (inr (inl v))) text rest has = reports_word v
verb_word (inr (inr (inr v))) text rest has = disks_word v

asked : (text : Bytes) (v : Verb) → command_of text ≡ Asked v → IsWord v
asked text v is =
    let says = (verbs_found text v).0 is in
    subst (λ (w : Verb). IsWord w) says.is (verb_word says.value text says.rest says.has)

-- ---- where they lead

or_none : (b : Bool) → (b || false) ≡ b
or_none true = refl
or_none false = refl

plain_byte : (b : ℕ) → grammar.is_path_byte Plain b ≡ is_part_byte b
plain_byte b = by (is_word b) (b == 45) (b == 46) where
  by : (x y z : Bool) → (x || y || z || false) ≡ (x || y || z)
  by true y z = refl
  by false true z = refl
  by false false z = or_none z

starred_byte : (b : ℕ) → grammar.is_path_byte Starred b ≡ is_pattern_byte b
starred_byte b = by (is_word b) (b == 45) (b == 46) (b == 42) where
  by : (x y z w : Bool) → (x || y || z || w) ≡ ((x || y || z) || w)
  by true y z w = refl
  by false true z w = refl
  by false false z w = refl

plain_leads : (place : List Bytes) (path : Bytes) → accepts (PathStart Plain) path ≡ true → is_some (resolved place path) ≡ true
unfolding is_part
plain_leads place path is = path_leads Plain is_part_byte plain_byte refl refl place path is

here_leads : (place : List Bytes) (path : Option Bytes) → IsWord (Usage path) → is_some (resolved_or_here place path) ≡ true
here_leads place None is = refl
here_leads place (Some path) is = plain_leads place path is

starred_leads : (place : List Bytes) (path : Bytes) → accepts NotLongStart path ≡ true → is_some (resolved_pattern place (Some path)) ≡ true
starred_leads place path is = long_leads Starred is_pattern_byte starred_byte refl refl refl place path is

pub paths_lead : PathsLead
paths_lead = record {
  cd = λ text path place is. plain_leads place path (asked text (Cd path) is);
  find = λ text path pattern place is. plain_leads place path (asked text (Find path pattern) is);
  usage = λ text path place is. here_leads place path (asked text (Usage path) is);
  ls = λ text path long place is. starred_leads place path (asked text (Ls long (Some path)) is);
}
