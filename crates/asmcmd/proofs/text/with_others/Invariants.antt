use Rattle.std.proofs.Common.{◌≡◌, [], ◌∷◌, ◌++◌, take}
use Rattle.std.specs.List.{flat_map}
use Rattle.asmcmd.specs.Texts.{text_of_field}
use Rattle.asmcmd.proofs.text.with_others.Given as goal

abbrev pub invariant-loop-field : goal.invariant-loop-field
invariant-loop-field l = l.text.items ≡ l.fn.text.items ++ flat_map (λ field. 32 ∷ text_of_field field) (take l.field-index l.others)
