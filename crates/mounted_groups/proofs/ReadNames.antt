-- The group that a mount read is one of those that the disks stood for, and has the name that was asked for.
use Rattle.std.proofs.Common.{◌≡◌, inl, ℕ, ◌+◌, ◌<◌, List, [], ◌∷◌, length, Option, Some, refl, sym, ◌∙◌, ap, subst, arith}
use Rattle.std.proofs.lemmas.Option.{same_Some}
use Rattle.bay.specs.Image.{Image, Same}
use Rattle.bay.specs.Moments.{NowOnly, Runs}
use Rattle.bay.specs.State.{BayState, IsSound}
use Rattle.asm_group.specs.Group.{Group}
use Rattle.asm_group.specs.Names.{Bytes, is_same_name}
use Rattle.asm_formats.specs.Among.{IsAmong}
use Rattle.asm_formats.specs.Content.{Content}
use Rattle.asm_formats.specs.Header.{Header}
use Rattle.asm_formats.specs.Metadata.{Metadata, metadata}
use Rattle.asm_formats.specs.Metadata.{content_of as said_content}
use Rattle.asm_formats.specs.Pages.{copy_content}
use Rattle.asm_formats.specs.Status.{Status}
use Rattle.asm_images.specs.Bridge.{disk_bytes, disks_in}
use Rattle.asm_images.specs.Kept.{header_in}
use Rattle.asm_images.specs.Register.{greatest}
use Rattle.change_directory.specs.declared.copy.DirCopy.{DirCopy}
use Rattle.change_directory.specs.Changes.{content_in}
use Rattle.group_recovery.specs.directory_store.Copies.{AreKept}
use Rattle.status_register.specs.SurveyLaws.{IsMemberOn}
use Rattle.status_register.specs.Surveys.{disk_in, records_on}
use Rattle.status_register.specs.declared.member.Member.{Member}
use Rattle.status_register.proofs.Meeting.{surveyed_record_counts}
use Rattle.group_recovery.specs.Mounting.{Allows, NamesCopy}
use Rattle.group_recovery.specs.NamedCopies.{directory_copy_of}
use Rattle.group_recovery.specs.Quorum.{IsQuorum}
use Rattle.group_recovery.specs.Syncing.{IsSurveyOn}
use Rattle.group_recovery.specs.Verdicts.{member_of}
use Rattle.group_recovery.specs.declared.finding.Headed.{Headed}
use Rattle.group_recovery.specs.declared.quorum.Quorate.{Quorate}
use Rattle.group_recovery.proofs.CopyLoads.{IsFrom}
use Rattle.group_recovery.proofs.Mounting.{is_named, is_there}
use Rattle.group_recovery.proofs.NextRecords.{from, in_elements}
use Rattle.group_recovery.proofs.Surveyed.{header_number}
use Rattle.group_recovery.proofs.Taking.{at_slot, found_alone}
use Rattle.mounted_groups.specs.Leaving.{ReadsNamed}
use Rattle.mounted_groups.proofs.FoundIds.{taken_is_named}
use Rattle.mounted_groups.proofs.LookedDisks.{before, is_disk, some_of}

some_copy : (copies : List DirCopy) → 0 < length copies → (c : DirCopy) × IsAmong copies c
some_copy [] some = absurd (omega (arith, some))
some_copy (c ∷ copies) some = (c, inl refl)

-- what a disk says of its copy is the content of that copy
content_here : (x : Image) (slot : ℕ) (h : Header) → header_in x slot ≡ Some h → (disk_in x slot).content ≡ copy_content h.shape.dir_blocks (disk_bytes x slot)
unfolding metadata
content_here x slot h is = ap (λ (o : Option Header). said_content o (disk_bytes x slot)) is

copy_here : (x : Image) (k : Headed) (c : DirCopy) → c ≡ directory_copy_of k → header_in x k.slot ≡ Some k.header → (disk_in x k.slot).content ≡ content_in c x
copy_here x k c copy is = content_here x k.slot k.header is ∙ (λ i. copy_content (sym copy i).dir_blocks (disk_bytes x (sym copy i).slot))

module _ (n : ℕ) (s : BayState) (x : Image) (holds : s.holds ≡ Some x) (u : BayState) (sound : IsSound u) (looks : Runs (λ slot. slot < n) Same s u)
    (q : Quorate) (quorum : IsQuorum q u) (groups : List Group) (allows : Allows q.id groups x) where
  here : (P : Image → Type 0) → NowOnly u P → P x
  here P now = before n s s x holds u sound looks P now

  abbrev many : ℕ
  many = n + q.slots

  abbrev r : Status
  r = q.survey.value

  survey_on : IsSurveyOn q.survey x
  survey_on = here (IsSurveyOn q.survey) quorum.survey.now

  seen : (m : Member) → IsAmong q.survey.read m → IsMemberOn many q.survey.id x m
  seen m among =
      let on = here (λ (image : Image). (k : Member) → IsAmong q.survey.members k → IsMemberOn q.slots q.survey.id image k) quorum.survey.members m (quorum.survey.well.among m among) in
      record { inside = omega (arith, on.inside); header = on.header; header_is = on.header_is; group = on.group; number = on.number; birth = on.birth }

  disk_on : (h : Headed) → h.slot < many → header_in x h.slot ≡ Some h.header → h.header.id ≡ q.id → IsMemberOn many q.id x (member_of h)
  disk_on h inside is own = record { inside = inside; header = h.header; header_is = is; group = own; number = refl; birth = refl }

  -- a directory copy that was read, on the disk that the record names
  first : (c : DirCopy) × IsAmong q.store.copies c
  first = some_copy q.store.copies quorum.some

  its : IsFrom q.id q.survey.read r q.headed.items first.0
  its = from q u quorum first.0 first.1

  its_header : header_in x its.disk.slot ≡ Some its.disk.header
  its_header = here (λ (image : Image). header_in image its.disk.slot ≡ Some its.disk.header) (quorum.there.now its.disk its.among)

  content : (c : Content) × (content_in first.0 x ≡ Some c)
  content = (_, (here (AreKept q.store.copies q.store.due q.store.number quorum.kept.page) quorum.kept.now first.0 first.1).content.content)

  its_member : IsMemberOn many q.id x (member_of its.disk)
  its_member = disk_on its.disk (omega (arith, quorum.there.inside its.disk its.among)) its_header its.own

  names : NamesCopy r (member_of its.disk)
  names = (in_elements r.directories its.disk.header.number (header_number its.disk.header (quorum.there.allowed its.disk its.among).header) its.named, its.entry)

  pub described : (g : Group) × IsAmong groups g × ((h : Headed) → h.slot < n → header_in x h.slot ≡ Some h.header → h.header.id ≡ q.id → h.header.group ≡ g.name)
  described =
      let sound_x = allows many in
      let counts = surveyed_record_counts many q.id sound_x.completed sound_x.begun x q.survey.read r sound_x.holds.fits
      (λ m among. subst (λ (k : ℕ). IsMemberOn many k x m) quorum.survey.id_is (seen m among))
      (subst (λ (k : ℕ). greatest (records_on k x q.survey.read) ≡ Some r) quorum.survey.id_is survey_on.greatest_is) survey_on.enough in
      let i = is_there many q.id x (member_of its.disk) its_member in
      let c = content in
      let d = (sound_x.holds.covered r counts quorum.survey.not_gone).described (at_slot i.member.slot) c.0
      (found_alone q.id (disks_in many x) r i.member c.0 i.among (is_named r (member_of its.disk) i.member.header names i.number i.birth)
      (ap (λ (k : Metadata). k.content) i.disk ∙ copy_here x its.disk first.0 its.copy its_header ∙ c.1)) in (
        d.0,
        d.1,
        λ h below is own.
            let j = is_there many q.id x (member_of h) (disk_on h (omega (arith, below)) is own) in
            let header : j.member.header ≡ h.header = same_Some j.member.header h.header (sym j.header_is ∙ is) in
            ap (λ (k : Header). k.group) (sym header) ∙ (d.2.disks j.member j.among).name,
      )

pub reads_named : {B : Type 0} (state : B → BayState) → ((b : B) → IsSound (state b)) → (s : BayState) → IsSound s → ReadsNamed state s
reads_named state sounds s sound name n held option was groups looks stood tells =
    let x = some_of s.holds tells in
    let u = state was.between in
    let k = taken_is_named name was.is.headed was.is.choice was.is.unread s u was.found.id was.is.finds.judged was.is.taken_is in
    let disk = is_disk n s s x.0 x.1 u (sounds was.between) was.searched was.is.headed was.is.finds.there k.headed k.among in
    let d = described n s x.0 x.1 (state was.later) (sounds was.later) looks was.quorum was.quorate.quorum groups (stood.allows.now x.0 (sound.held x.0 x.1)) in
    (d.0, d.1, ap (λ (b : Bytes). is_same_name b name) (sym (d.2 k.headed disk.below disk.header (k.member ∙ sym was.quorate.id_is))) ∙ k.named)
