-- Tables whose items describe a group may stand under its status record.
use Rattle.fault_laws.specs.Faults.{DescribedStandUnder}
use Rattle.fault_laws.proofs.Chunks.{chunks, marked, owned, redundancy, regular, stale}
use Rattle.fault_laws.proofs.Names.{infos, names, nodes}
use Rattle.fault_laws.proofs.Sizes.{extents}
use Rattle.fault_laws.proofs.Counts.{room}
use Rattle.fault_laws.proofs.Apart.{apart}
use Rattle.fault_laws.proofs.Places.{units}

pub stand_under : DescribedStandUnder
stand_under r items t g ok a is d = record {
  rules = record {
    tables = a;
    marked = marked r items t g a is d;
    chunks = chunks r items t g a is d;
    owned = owned r items t g a is d;
    redundancy = redundancy r items t g a is d;
    apart = apart r items t g a is d;
    stale = stale r items t g a is d;
    nodes = nodes r items t g a is d;
    names = names r items t g a is d;
    extents = extents r items t g a is d;
    room = room r items t g a is d;
  };
  units = units r items t g a is d ok;
  infos = infos r items t g a is d;
  regular = regular r items t g a is d;
  partners = d.partners;
}
