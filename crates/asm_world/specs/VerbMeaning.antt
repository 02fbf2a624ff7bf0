-- What a line of the grammar of verbs says.
use Rattle.std.specs.Prelude.{◌≡◌, [], Some, is_some}
use mathlib.Core.Logic.{inl, inr}
use Rattle.asm_grammar.specs.Word.{End, fit}
use Rattle.asm_grammar.specs.Syntax.{Value, Has}
use Rattle.asm_group.specs.Names.{Bytes}
use Rattle.asm_world.specs.Command.{Verb, DbCreate, DbWrite, DbFill, DbRead, DbResize, Ls, Cd, Pwd, MakeDirectory, Remove, CopyFile, Usage, Find, MakeAlias, RemoveAlias, ListGroups, ListDisks, ListTemplates, ListAttributes, OfflineDisk, OnlineDisk, SetPower}
use Rattle.asm_world.specs.Verbs as g

abbrev pub of_files : Value g.files → Verb
of_files (inl (word, (path, (size, template)))) = DbCreate path size template
of_files (inr (inl (word, (path, (at, bytes))))) = DbWrite path at bytes
of_files (inr (inr (inl (word, (path, (at, (size, byte))))))) = DbFill path at size byte
of_files (inr (inr (inr (inl (word, (path, (at, size))))))) = DbRead path at size
of_files (inr (inr (inr (inr (word, (path, size)))))) = DbResize path size

abbrev pub of_ls : Value g.ls → Verb
of_ls (word, (long, path)) = Ls (is_some long) path

abbrev pub of_cp : Value g.cp → Verb
of_cp (word, inl (source, inl target)) = CopyFile source target
of_cp (word, inl (source, inr target)) = CopyFile source target
of_cp (word, inr (source, target)) = CopyFile source target

abbrev pub of_names : Value g.names → Verb
of_names (inl v) = of_ls v
of_names (inr (inl (word, path))) = Cd path
of_names (inr (inr (inl word))) = Pwd
of_names (inr (inr (inr (inl (word, path))))) = MakeDirectory path
of_names (inr (inr (inr (inr (inl (word, path)))))) = Remove path
of_names (inr (inr (inr (inr (inr (inl v)))))) = of_cp v
of_names (inr (inr (inr (inr (inr (inr (inl (word, path)))))))) = Usage path
of_names (inr (inr (inr (inr (inr (inr (inr (inl (word, (path, pattern)))))))))) = Find path pattern
of_names (inr (inr (inr (inr (inr (inr (inr (inr (inl (word, (path, alias))))))))))) = MakeAlias path alias
of_names (inr (inr (inr (inr (inr (inr (inr (inr (inr (word, path)))))))))) = RemoveAlias path

abbrev pub of_reports : Value g.reports → Verb
of_reports (inl (word, name)) = ListGroups name
of_reports (inr (inl (word, name))) = ListDisks name
of_reports (inr (inr (inl (word, name)))) = ListTemplates name
of_reports (inr (inr (inr (word, name)))) = ListAttributes name

abbrev pub of_disks : Value g.disks → Verb
of_disks (inl (word, (name, disk))) = OfflineDisk name disk
of_disks (inr (inl (word, (name, disk)))) = OnlineDisk name disk
of_disks (inr (inr (word, (name, power)))) = SetPower name power

abbrev pub verb_of : Value g.verb → Verb
verb_of (inl v) = of_files v
verb_of (inr (inl v)) = of_names v
verb_of (inr (inr (inl v))) = of_reports v
verb_of (inr (inr (inr v))) = of_disks v

-- The text is a line of the grammar, up to spaces at its end, and says this verb.
pub record SaysVerb (text : Bytes) (verb : Verb) : Type 0 where
  pub value : Value g.verb
  pub rest : Bytes
  pub has : Has g.verb value text rest
  pub end : fit End rest ≡ Some (tt, [])
  pub is : verb_of value ≡ verb
