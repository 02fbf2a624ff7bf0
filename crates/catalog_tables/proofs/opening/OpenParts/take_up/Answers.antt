use Rattle.catalog_tables.specs.Changing.{tables_of}
use Rattle.catalog_tables.proofs.AfterLaws.{after_is_ok}
use Rattle.catalog_tables.proofs.opening.OpenParts.take_up.Goals as goal

pub returns-clause-after : goal.returns-clause-after
returns-clause-after c =
    after_is_ok c.remove_all.result c.args.put.now c.args.gone.now (tables_of c.args.self.now) (tables_of c.forget_nodes.new.self) (tables_of c.put_all.new.self) (tables_of c.remove_all.new.self)
    c.forget_nodes.ensures.others c.in_ok-put_all.ensures.put c.remove_all.ensures.gone
