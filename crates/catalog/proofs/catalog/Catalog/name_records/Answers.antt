use Rattle.catalog.proofs.NamePlans.{next_fits}
use Rattle.catalog.proofs.catalog.Catalog.name_records.Goals as goal

pub settings_record-requires : goal.settings_record-requires
settings_record-requires c = next_fits c.args.self.now c.settings.result.now c.in_ok-next.next c.keeps_rules.ensures c.settings.ensures c.in_ok-next.ensures
