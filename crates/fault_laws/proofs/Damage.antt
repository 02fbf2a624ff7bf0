-- What was loaded of disks whose images stand for groups describes one of them.
use Rattle.std.proofs.Common.{◌≡◌, ℕ, ◌<◌, List, [], ◌∷◌, length, Option, Some, refl, sym, ap, subst, ◌∙◌, arith, inl}
use Rattle.std.proofs.lemmas.Option.{same_Some}
use Rattle.bay.specs.Image.{Image}
use Rattle.bay.specs.State.{BayState}
use Rattle.asm_group.specs.Group.{Group}
use Rattle.asm_group.specs.Shape.{Shape}
use Rattle.asm_formats.specs.Among.{IsAmong}
use Rattle.asm_formats.specs.Header.{Header}
use Rattle.asm_formats.specs.Items.{Item, Key}
use Rattle.asm_formats.specs.Metadata.{Metadata, metadata}
use Rattle.asm_formats.specs.Metadata.{content_of as said_content}
use Rattle.asm_formats.specs.Pages.{copy_content}
use Rattle.asm_images.specs.Bridge.{disk_bytes, disks_in}
use Rattle.asm_images.specs.Describing.{DescribesGroup}
use Rattle.asm_images.specs.Directories.{IsNamed}
use Rattle.asm_images.specs.Kept.{header_in}
use Rattle.asm_images.specs.Members.{all_members}
use Rattle.asm_images.specs.Register.{current_records, greatest}
use Rattle.asm_images.specs.Sound.{Sound}
use Rattle.asm_images.specs.Stands.{Describes}
use Rattle.change_directory.specs.declared.copy.DirCopy.{DirCopy}
use Rattle.change_directory.specs.Changes.{content_in}
use Rattle.directory_store.specs.Contents.{HasCopyRecords}
use Rattle.directory_store.specs.Stores.{Stored}
use Rattle.directory_store.proofs.ReadingCopies.{part_among}
use Rattle.directory_store.proofs.Records.{has_records}
use Rattle.status_register.specs.Answers.{Surveyed}
use Rattle.status_register.specs.SurveyLaws.{IsMemberOn}
use Rattle.status_register.specs.Surveys.{disk_in, records_on}
use Rattle.status_register.proofs.Meeting.{surveyed_record_counts}
use Rattle.catalog_tables.specs.Faults.{IsAtFault}
use Rattle.group_recovery.specs.Founds.{FoundDisks}
use Rattle.group_recovery.specs.Loads.{copies_read}
use Rattle.group_recovery.specs.NamedCopies.{directory_copy_of}
use Rattle.group_recovery.specs.Verdicts.{member_of}
use Rattle.group_recovery.specs.declared.finding.Headed.{Headed}
use Rattle.group_recovery.proofs.Alikes.{shape_from}
use Rattle.group_recovery.proofs.CopyLoads.{IsFrom, copy_from}
use Rattle.group_recovery.proofs.Mounting.{IsThere, is_named, is_there}
use Rattle.group_recovery.proofs.NextRecords.{in_elements}
use Rattle.group_recovery.proofs.Recovered.{own_among}
use Rattle.group_recovery.proofs.Surveyed.{header_number, member_on}
use Rattle.group_recovery.proofs.Taking.{at_slot, found_alone}
use Rattle.fault_laws.specs.Damage.{SoundIsNotDamaged, WasLoaded}
use Rattle.fault_laws.specs.Faults.{DescribeIn}
use Rattle.fault_laws.proofs.NoFault.{no_fault}

some_copy : (copies : List DirCopy) → 0 < length copies → (c : DirCopy) × IsAmong copies c
some_copy [] some = absurd (omega (arith, some))
some_copy (c ∷ copies) some = (c, inl refl)

-- what a disk says of its copy is the content of that copy
content_here : (x : Image) (slot : ℕ) (h : Header) → header_in x slot ≡ Some h → (disk_in x slot).content ≡ copy_content h.shape.dir_blocks (disk_bytes x slot)
unfolding metadata
content_here x slot h is = ap (λ (o : Option Header). said_content o (disk_bytes x slot)) is

copy_here : (x : Image) (k : Headed) (c : DirCopy) → c ≡ directory_copy_of k → header_in x k.slot ≡ Some k.header → (disk_in x k.slot).content ≡ content_in c x
copy_here x k c copy is = content_here x k.slot k.header is ∙ (λ i. copy_content (sym copy i).dir_blocks (disk_bytes x (sym copy i).slot))

module _ (found : FoundDisks) (survey : Surveyed) (store : Stored) (shape : Shape) (t : BayState) (w : WasLoaded found survey store shape t) (x : Image) (left : t.leaves t.calls x) where
  -- a disk that was found is a member of the image
  there : (k : Headed) → IsAmong found.headed k → k.header.id ≡ found.id → IsThere found.slots found.id x (member_of k)
  there k among own = is_there found.slots found.id x (member_of k) (member_on found.slots found.id found.headed t w.there (member_of k) (own_among found.id found.headed k among own) x left)

  header_is : (k : Headed) (among : IsAmong found.headed k) (own : k.header.id ≡ found.id) → (there k among own).member.header ≡ k.header
  header_is k among own = let i = there k among own in same_Some i.member.header k.header (sym i.header_is ∙ (w.there.now k among).now x left)

  -- ---- a copy, and the disk that it is on

  abbrev copy : (c : DirCopy) × IsAmong store.copies c
  copy = some_copy store.copies w.some

  from : IsFrom found.id survey.read survey.value found.headed copy.0
  from = copy_from found.id survey.read survey.value found.headed copy.0 (part_among store.copies (copies_read found.id found.headed survey) w.loaded.copies copy.0 copy.1)

  i : IsThere found.slots found.id x (member_of from.disk)
  i = there from.disk from.among from.own

  named : IsNamed survey.value i.member.header
  named =
      let small = header_number from.disk.header (w.there.allowed from.disk from.among).header in
      is_named survey.value (member_of from.disk) i.member.header (in_elements survey.value.directories from.disk.header.number small from.named, from.entry) i.number i.birth

  records : HasCopyRecords store.table store.number copy.0 x
  records =
      let kept = w.loaded.kept in
      has_records store.table store.number copy.0 kept.page x kept.table kept.shows kept.items (kept.pages copy.0 copy.1) (kept.now.now x left copy.0 copy.1).content.content

  content_is : i.member.disk.content ≡ Some records.content
  content_is = ap (λ (d : Metadata). d.content) i.disk ∙ copy_here x from.disk copy.0 from.copy ((w.there.now from.disk from.among).now x left) ∙ records.is

  -- ---- by the history by which the image is sound

  module _ (groups : List Group) (sound : Sound found.id (disks_in found.slots x) groups) where
    counts : IsAmong (current_records sound.completed sound.begun) survey.value
    counts =
        let now = w.surveyed.now.now x left in
        surveyed_record_counts found.slots found.id sound.completed sound.begun x survey.read survey.value sound.holds.fits
        (λ m h. subst (λ (id : ℕ). IsMemberOn found.slots id x m) w.surveyed.id_is (w.surveyed.members.now x left m (now.among m h)))
        (subst (λ (id : ℕ). greatest (records_on id x survey.read) ≡ Some survey.value) w.surveyed.id_is now.greatest_is)
        now.enough

    described : (g : Group) × IsAmong groups g × Describes (disks_in found.slots x) (all_members found.id (disks_in found.slots x)) (all_members found.id (disks_in found.slots x)) survey.value records.content g
    described = (sound.holds.covered survey.value counts w.surveyed.not_gone).described (at_slot i.member.slot) records.content
        (found_alone found.id (disks_in found.slots x) survey.value i.member records.content i.among named content_is)

    abbrev g : Group
    g = described.0

    shape_is : shape ≡ g.shape
    shape_is =
        let k = shape_from found.id found.headed shape w.loaded.shape_is in
        let j = there k.0 k.1 k.2 in
        sym k.3 ∙ ap (λ (h : Header). h.shape) (sym (header_is k.0 k.1 k.2)) ∙ (described.2.disks j.member j.among).shape

    describe_in : DescribeIn store.table.records survey.value g
    describe_in =
        let has = records.has in
        let same : described.2.items ≡ has.items = same_Some described.2.items has.items (sym described.2.decodes ∙ has.decoded) in
        record {
          ordered = w.ordered;
          items = has.items;
          are = record { in_order = has.records.in_order; from_record = has.records.from_record; to_record = has.records.to_record };
          describes = subst (λ (is : List Item). DescribesGroup survey.value is g) same described.2.describes;
        }

    none : (key : Key) → IsAtFault store.table.records shape survey.value.entries key → ⊥
    none key at_fault = no_fault survey.value store.table.records g key w.surveyed.well.allowed describe_in (subst (λ (s : Shape). IsAtFault store.table.records s survey.value.entries key) shape_is at_fault)

pub not_damaged : (t : BayState) → SoundIsNotDamaged t
not_damaged t found survey store shape groups slot block w may refusal = none found survey store shape t w may.image may.left groups (may.allows found.slots) refusal.key refusal.fault
