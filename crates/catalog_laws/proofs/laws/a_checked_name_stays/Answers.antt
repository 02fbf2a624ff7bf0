use Rattle.catalog.proofs.NameChecks.{checks_agree, checks_hold}
use Rattle.catalog_laws.proofs.laws.a_checked_name_stays.Goals as goal

pub returns-clause-agree : goal.returns-clause-agree
returns-clause-agree c = checks_agree

pub returns-clause-hold : goal.returns-clause-hold
returns-clause-hold c = checks_hold
