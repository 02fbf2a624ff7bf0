use Rattle.std.proofs.Common.{◌≡◌, List, ℕ, string_bytes, subst}
use Rattle.std.proofs.lemmas.Result.{IfOk-at_ok}
use Rattle.bay_file.specs.PathFaults.{OthersKeep}
use Rattle.bay_file.proofs.PathFaults.{others_keep}
use Rattle.bay_file.proofs.path_faults.count_fault.Goals as goal

pub returns-clause-others : goal.returns-clause-others
returns-clause-others c =
    let key_is_path = IfOk-at_ok (λ s. string_bytes s ≡ c.args.path.now) c.in_ok-key.was c.from_str.ensures.ok in
    let others = others_keep (string_bytes c.in_ok-key.key) c.args.faults.now c.insert.new.self _ c.in_ok-insert.ensures.updates in
    subst (λ (path : List ℕ). OthersKeep path c.args.faults.now c.insert.new.self) key_is_path others
