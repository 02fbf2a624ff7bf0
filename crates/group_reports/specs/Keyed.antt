-- Paths under texts, as a map of the program keeps them.
use Rattle.std.specs.Prelude.{ℕ, List, map, Vec}
use Rattle.std.specs.declared.alloc.Global.{Global}
use Rattle.asm_group.specs.Names.{Bytes}
use Rattle.asm_base.specs.declared.path.Path.{Path}

abbrev pub keyed_paths : List (Vec ℕ Global × Path) → List (Bytes × Path)
keyed_paths entries = map (λ (e : Vec ℕ Global × Path). (e.0.items, e.1)) entries
