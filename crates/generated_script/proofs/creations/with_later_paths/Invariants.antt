use Rattle.std.proofs.Common.{◌≡◌, ◌∷◌, ◌++◌, take}
use Rattle.std.specs.List.{flat_map}
use Rattle.asm_world.specs.Generator.{quoted}
use Rattle.generated_script.proofs.creations.with_later_paths.Given as goal

abbrev pub invariant-loop-path : goal.invariant-loop-path
invariant-loop-path l = l.text.items ≡ l.fn.text.items ++ flat_map (λ path. 44 ∷ 32 ∷ quoted path) (take l.path-index l.paths)
