-- A group that records describe is described by them under another record.
use Rattle.std.proofs.Common.{sym, subst, ◌∙◌}
use Rattle.asm_group.specs.Group.{Group}
use Rattle.asm_formats.specs.Status.{entry_of}
use Rattle.asm_images.specs.Describing.{DescribesGroup}
use Rattle.group_engine.specs.group_of.Groups.{cells_of}
use Rattle.group_engine.proofs.group_of.Describes.{describe, described_has_cells, described_is_of_tables}
use Rattle.record_laws.specs.Describing.{EntriesDescribe, ModesDescribe}
use Rattle.asm_images.proofs.Bare.{all_info, same_entry, same_places, same_regular}

pub modes_describe : ModesDescribe
modes_describe r s items g change d = record {
  tree = d.tree;
  tree_rules = d.tree_rules;
  files = d.files;
  extents = d.extents;
  extent_rules = d.extent_rules;
  owned = d.owned;
  places = same_places s.entries r.entries g.shape items change.entries ∙ d.places;
  regular = λ f i copy h at. same_regular (entry_of s.entries h.disk) (entry_of r.entries h.disk) (same_entry s.entries r.entries h.disk change.entries) ∙ d.regular f i copy h at;
  templates = d.templates;
  attributes = d.attributes;
  next = d.next;
  disks = all_info items s.entries r.entries change.entries ∙ d.disks;
  partners = change.partners;
  room = d.room;
}

pub entries_describe : EntriesDescribe
entries_describe r s t g a have stand items is =
    let d = have items is in
    subst (λ (h : Group). DescribesGroup s items h) (sym (described_is_of_tables r items t g a is d))
    (describe s items g.name g.shape t (cells_of g) stand is (described_has_cells r items t g a is d))
