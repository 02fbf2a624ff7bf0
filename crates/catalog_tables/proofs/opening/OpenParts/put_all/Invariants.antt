use Rattle.catalog_tables.specs.Changing.{ArePartsOpen, tables_of}
use Rattle.catalog_tables.proofs.AfterLaws.{Puts}
use Rattle.catalog_tables.proofs.opening.OpenParts.put_all.Given as goal

abbrev pub invariant-loop-key : goal.invariant-loop-key
invariant-loop-key l = record {
  puts : Puts l.put l.key-index (tables_of l.fn.self) (tables_of l.self);
  open_ : ArePartsOpen l.self;
}
