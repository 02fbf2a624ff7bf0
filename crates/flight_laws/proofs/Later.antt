-- What the disks hold under a later status record.
use Rattle.std.proofs.Common.{List, sym, subst, ◌∙◌, IsTrue}
use Rattle.asm_formats.specs.Status.{Entry}
use Rattle.asm_images.specs.Copies.{is_kept}
use Rattle.catalog_laws.proofs.HavingItems.{have_items}
use Rattle.group_of.proofs.Extents.{home_by}
use Rattle.record_laws.proofs.Covered.{home_has_entry}
use Rattle.flight_laws.specs.Later.{DescribedHaveEntries, LaterRecordAgrees, LaterRecordKeeps, SameEntriesKeep}

pub same_entries_keep : SameEntriesKeep
unfolding is_kept
same_entries_keep = λ r s same d header there kept. subst (λ (es : List Entry). IsTrue (is_kept (record r { entries = es }) d header)) same kept

pub described_have_entries : DescribedHaveEntries
described_have_entries = λ r t g are have f i copy h at.
    let items = have_items t are in
    home_has_entry g.shape r.entries items.0 f i copy h (have items.0 items.1).places (home_by t items.0 are items.1 f i copy ∙ at)

pub later_record_keeps : LaterRecordKeeps
later_record_keeps = λ id r s t g image are entries keeps holds slots items mine f o b i inner copy file h k is_file cell lies among current.
    holds slots items mine f o b i inner copy file h k is_file cell lies among (record {
      home = current.home;
      kept = keeps h.disk k.header (entries f i copy h (sym (home_by t items are mine f i copy) ∙ current.home)) current.kept;
      fresh = current.fresh;
    })

pub later_record_agrees : LaterRecordAgrees
later_record_agrees = λ id r s g f i h end image there keeps agrees slots o b inner file k is_file cell lies lt among kept.
    agrees slots o b inner file k is_file cell lies lt among (keeps h.disk k.header there kept)
