-- What the moves of directory copies and of status tables say.
use Rattle.std.proofs.Common.{◌≡◌, ap, sym, ◌∙◌, Option}
use Rattle.std.specs.Option.{option_map, option_or}
use Rattle.asm_group.specs.declared.GroupKind.{GroupKind}
use Rattle.asm_group.specs.Shape.{Shape}
use Rattle.asm_formats.specs.Status.{Status}
use Rattle.asm_placement.specs.TableDisks.{directory_target, status_target}
use Rattle.asm_placement.specs.Rebalancing.{move, directory, tables, next_directory, next_tables}
use Rattle.rebalance.specs.declared.moves.Next.{Next as CodeNext}
use Rattle.rebalance.specs.Moves.{next_meant}

pub table_said : (s : Shape) (kind : GroupKind) (r : Status) (next : Option CodeNext) → option_map next_meant next ≡ option_or (option_map (λ d. move (directory d)) (directory_target kind r)) (option_map (λ to. move (tables to)) (status_target kind r))
    → s.kind ≡ kind → option_map next_meant next ≡ option_or (next_directory s r) (next_tables s r)
table_said s kind r next is same =
    is ∙ ap (λ (k : GroupKind). option_or (option_map (λ d. move (directory d)) (directory_target k r)) (option_map (λ to. move (tables to)) (status_target k r))) (sym same)
