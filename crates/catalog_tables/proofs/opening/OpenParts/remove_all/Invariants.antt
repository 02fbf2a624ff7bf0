use Rattle.catalog_tables.specs.Changing.{ArePartsOpen, tables_of}
use Rattle.catalog_tables.proofs.AfterLaws.{Goes}
use Rattle.catalog_tables.proofs.opening.OpenParts.remove_all.Given as goal

abbrev pub invariant-loop-key : goal.invariant-loop-key
invariant-loop-key l = record {
  goes : Goes l.gone l.key-index (tables_of l.fn.self) (tables_of l.self);
  open_ : ArePartsOpen l.self;
}
