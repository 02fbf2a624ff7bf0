use Rattle.std.proofs.Common.{◌∙◌, ◌++◌, ◌∷◌, [], List, ap}
use Rattle.asm_formats.specs.Items.{Key}
use Rattle.asm_base.specs.Records.{DirectoryRecord}
use Rattle.directory_store.proofs.Trying.{seven_is_item}
use Rattle.store_tests.proofs.stores.trials.rebalance.Goals as goal

pub returns-clause-items : goal.returns-clause-items
returns-clause-items c =
    let k : Key = record { kind = 4; a = 0; b = 0 } in
    seven_is_item c.push.new.self c.in_ok-value.value c.in_ok-value.ensures
    (c.in_ok-push.ensures.ok ∙ ap (λ (l : List DirectoryRecord). l ++ (k, c.in_ok-value.value) ∷ []) c.no_change-change.ensures.put)
