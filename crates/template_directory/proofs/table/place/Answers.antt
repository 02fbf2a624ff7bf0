use Rattle.std.proofs.Common.{rules}
use Rattle.std.proofs.lemmas.List.Sorted.{IsPartitionPoint-from_clause}
use Rattle.template_directory.proofs.Listing.{up_of}
use Rattle.template_directory.proofs.Places.{is_before, partitioned, place_is}
use Rattle.template_directory.proofs.table.place.Goals as goal

pub returns-clause-place : goal.returns-clause-place
returns-clause-place c =
    let name = c.args.name.now in
    let ts = c.args.templates.now in
    let parted = partitioned name ts (up_of ts c.requires) in
    let point = IsPartitionPoint-from_clause (is_before name) ts c.partition_point.result c.partition_point.ensures.partitioned parted (λ a r q k. search rules) in
    place_is name ts c.partition_point.result c.partition_point.ensures.bound point
