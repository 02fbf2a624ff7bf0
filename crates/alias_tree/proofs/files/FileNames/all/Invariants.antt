use Rattle.std.proofs.Common.{◌≡◌, ◌++◌, map}
use Rattle.alias_tree.specs.FileNames.{FileName, numbers_of_file}
use Rattle.alias_tree.proofs.files.FileNames.all.Given as goal

abbrev pub invariant-loop-name : goal.invariant-loop-name
invariant-loop-name l = l.numbers.items ++ map (λ (q : FileName). q.number) l.name-iterator ≡ numbers_of_file l.self l.file
