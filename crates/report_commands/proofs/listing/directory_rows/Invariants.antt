use Rattle.std.proofs.Common.{◌≡◌, map, take}
use Rattle.asm_world.specs.Reports.{Directory}
use Rattle.asmcmd.specs.Texts.{listed_row}
use Rattle.asm_group.specs.Names.{Bytes}
use Rattle.report_commands.proofs.listing.directory_rows.Given as goal

abbrev pub invariant-loop-name : goal.invariant-loop-name
invariant-loop-name l = l.rows.items ≡ map (λ (name : Bytes). listed_row (Directory name)) (take l.name-index l.names)
