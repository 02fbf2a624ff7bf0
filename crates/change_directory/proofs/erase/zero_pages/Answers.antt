use Rattle.std.proofs.Common.{rules, arith}
use Rattle.std.proofs.lemmas.List.{get_or-replicate}
use Rattle.bay.proofs.OneCall.{afforded, call_of_parts}
use Rattle.change_directory.proofs.Works.{settled}
use Rattle.change_directory.proofs.Zeroing.{zeroes_as_held}
use Rattle.change_directory.proofs.erase.zero_pages.Goals as goal

pub returns : goal.returns
returns g c =
    let sync = call_of_parts 1 0 c.sync.ensures.attached (omega arith) (omega arith) c.sync.ensures.runs c.sync.ensures.done c.sync.ensures.cause in
    afforded (search rules) (settled (g.met.B.Bay.sound c.sync.new.self) (zeroes_as_held c.args.copy _) c.in_ok-zero_with.ensures sync)

pub zero_with-requires-clause-zeros : goal.zero_with-requires-clause-zeros
zero_with-requires-clause-zeros g c = λ k below. get_or-replicate _ k 0 0 below
