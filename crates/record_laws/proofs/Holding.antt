-- What the disks hold of a group by a later record.
use Rattle.bay.specs.State.{BayState}
use Rattle.record_laws.specs.Holding.{DisksKeepNoMore, LaterRecordHolds, ModesKeepNoMore}
use Rattle.record_laws.proofs.Covered.{home_has_entry}
use Rattle.record_laws.proofs.Entries.{kept_was}

pub later_record_holds : LaterRecordHolds
later_record_holds id r s t g image have no_more holds slots items are f o b i inner copy file h m is cell lies among current =
    holds slots items are f o b i inner copy file h m is cell lies among (record {
      home = current.home;
      kept = no_more h.disk m.header (home_has_entry g.shape r.entries items f i copy h (have items are).places current.home) current.kept;
      fresh = current.fresh;
    })

pub modes_keep_no_more : ModesKeepNoMore
modes_keep_no_more r s change d h some is = change.kept d h is

pub disks_keep_no_more : (s : BayState) → DisksKeepNoMore s
disks_keep_no_more s m next change d h some is = kept_was s m next change d h some is
