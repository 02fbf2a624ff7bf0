use Rattle.std.proofs.Common.{◌≡◌, ◌++◌, take}
use Rattle.std.specs.List.{flat_map}
use Rattle.generated_script.specs.Statements.{image_line}
use Rattle.generated_script.proofs.creations.with_images.Given as goal

abbrev pub invariant-loop-path : goal.invariant-loop-path
invariant-loop-path l = l.text.items ≡ l.fn.text.items ++ flat_map image_line (take l.path-index l.paths)
