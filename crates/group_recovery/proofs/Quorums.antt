-- What was surveyed and loaded lasts over calls that leave the disks.
use Rattle.std.proofs.Common.{◌≡◌, inl, inr, ⊎_elim, ℕ, ◌+◌, ◌^◌, ◌<◌, List, length, sym, ap, subst, ◌∙◌, Some, None, Result, Ok, Err, IfOk, IfErr, IsTrue}
use Rattle.std.specs.Prelude.{MatchResult}
use Rattle.std.specs.List.{list_all}
use Rattle.std.proofs.lemmas.Option.{same_Some}
use Rattle.bay.specs.Image.{Image, Same}
use Rattle.bay.specs.State.{BayState, KeepsAttached}
use Rattle.bay.specs.Moments.{Runs, NowOnly}
use Rattle.bay.proofs.Calls.{stops}
use Rattle.asm_formats.specs.Among.{IsAmong}
use Rattle.directory_store.specs.change_directory.declared.copy.DirCopy.{DirCopy}
use Rattle.directory_store.specs.Loading.{HasBehind, HasNumber, HasTakenTwins, HasTwins, IsLeastOf, LoadCause}
use Rattle.directory_store.specs.Reading.{HasDamage, IsFirstDamaged, IsUndamaged, IsCopyUnread, RoseOnCopy}
use Rattle.directory_store.specs.declared.error.LoadError.{LoadError}
use Rattle.directory_store.specs.declared.error.LoadError.TheVariants.{DirectoriesLost, Damaged, NoMemory}
use Rattle.directory_store.specs.change_directory.Formatting.{AreShut}
use Rattle.status_register.specs.Answers.{Surveyed}
use Rattle.status_register.specs.SurveyLaws.{IsMemberOn}
use Rattle.bay.specs.Told.{Told}
use Rattle.status_register.specs.declared.member.Member.{Member}
use Rattle.status_register.proofs.Filling.{still_slots}
use Rattle.asm_formats.specs.Status.{Status, is_entry, is_status}
use Rattle.asm_group.specs.Shape.{Shape, is_shape}
use Rattle.asm_images.proofs.Members.{member_shape}
use Rattle.catalog.specs.catalog_tables.Faults.{IsAtFault, NamesFault}
use Rattle.catalog.specs.catalog_tables.declared.error.CatalogError.{CatalogError}
use Rattle.catalog.specs.catalog_tables.declared.error.CatalogError.TheVariants as answer
use Rattle.directory_store.specs.Loading.{AreDurable as AreSettled}
use Rattle.directory_store.specs.Reading.{ArePartOf}
use Rattle.directory_store.specs.Stores.{Keeps, Stored}
use Rattle.status_table.proofs.Allowed.{parts_of}
use Rattle.group_recovery.specs.Alike.{first_stranger, shape_in}
use Rattle.group_recovery.specs.Finding.{AreThere}
use Rattle.group_recovery.specs.Loads.{LoadRefusal, copies_read}
use Rattle.group_recovery.specs.Founds.{FoundDisks}
use Rattle.group_recovery.specs.Missing.{first_missing}
use Rattle.group_recovery.specs.Quorum.{CatalogRefusal, CataloguedCause, IsCatalogued, IsStoreLoaded, IsQuorate, IsQuorum, IsReadOf, QuorumCause, RefusesCatalog}
use Rattle.group_recovery.specs.Verdicts.{members_with}
use Rattle.group_recovery.specs.declared.finding.Headed.{Headed}
use Rattle.group_recovery.specs.declared.error.MountError.TheVariants as error
use Rattle.group_recovery.specs.declared.quorum.GroupRead.{GroupRead}
use Rattle.group_recovery.specs.declared.quorum.MountOption.{MountOption}
use Rattle.group_recovery.specs.declared.quorum.Quorate.{Quorate}
use Rattle.group_recovery.proofs.Alikes.{shape_from}
use Rattle.group_recovery.proofs.CopyLoads.{copies_settled}
use Rattle.group_recovery.proofs.Searches.{there_still}
use Rattle.group_recovery.specs.Surveying.{IsSurveyedNow}
use Rattle.group_recovery.specs.Syncing.{IsSurveyOn}
use Rattle.group_recovery.specs.declared.error.MountError.{MountError}
use Rattle.group_recovery.proofs.Syncs.{durable_on}
use Rattle.group_recovery.proofs.Told.{rose_before}

-- the same disks are one image
image_is : (x y : Image) → Same x y → x ≡ y
image_is x y same = λ i. record { size = λ s. sym (same.size s) i; byte = λ s k. sym (same.byte s k) i }

pub now_later : (P : Image → Type 0) (m t : BayState) {slots : ℕ → Type 0} → Runs slots Same m t → NowOnly m P → NowOnly t P
now_later P m t run was = record { now = λ image left. let f = (stops run).now image left in subst P (image_is f.0 image f.2) (was.now f.0 f.1) }

pub surveyed_later : (n id : ℕ) (survey : Surveyed) (m t : BayState) {slots : ℕ → Type 0} → Runs slots Same m t → KeepsAttached m t → IsSurveyedNow n id survey m → IsSurveyedNow n id survey t
surveyed_later n id survey m t run keeps was = record {
  id_is = was.id_is;
  slots = λ k h. still_slots (was.slots k h) keeps;
  apart = was.apart;
  numbers = was.numbers;
  durable = durable_on survey.members m t run was.durable;
  not_gone = was.not_gone;
  well = was.well;
  members = now_later (λ image. (k : Member) → IsAmong survey.members k → IsMemberOn n survey.id image k) m t run was.members;
  now = now_later (IsSurveyOn survey) m t run was.now;
}

-- ---- what a load answers, from the moment before

module _ (s m t : BayState) {early later : ℕ → Type 0} (first : Runs early Same s m) (next : Runs later Same m t) where
  back : (P : Image → Type 0) → Told m t P → Told s t P
  back P told = λ now holds image was.
      let mid = next.held now holds in
      let start = first.held mid.0 mid.1 in
      subst P (same_Some start.0 image (sym start.1 ∙ was)) (subst P (sym (image_is start.0 mid.0 start.2)) (told now holds mid.0 mid.1))

  rose_back : (c : DirCopy) → RoseOnCopy m t c → RoseOnCopy s t c
  rose_back c rose = rose_before (s.faults c.slot) (m.faults c.slot) (t.faults c.slot) (first.faults c.slot) rose

  unread : (c : DirCopy) → IsCopyUnread c m t → IsCopyUnread c s t
  unread c is = ⊎_elim (λ rose. inl (rose_back c rose)) (λ told. inr (back (AreShut c) told)) is

  undamaged : (c : DirCopy) → IsUndamaged m t c → IsUndamaged s t c
  undamaged c is = ⊎_elim (λ rose. inl (rose_back c rose)) (λ told. inr (back (HasDamage c None) told)) is

  least : (copies : List DirCopy) (number : ℕ) (c : DirCopy) → IsLeastOf copies number c m t → IsLeastOf copies number c s t
  least copies number c is = record {
    among = is.among;
    has = back (HasNumber number c) is.has;
    others = λ d h. ⊎_elim (λ was. inl (unread d was)) (λ told. inr (back (HasBehind number c d) told)) (is.others d h);
  }

  load_back : (copies : List DirCopy) (l : LoadError) → LoadCause copies m t l → LoadCause copies s t l
  load_back copies DirectoriesLost cause = λ c h. unread c (cause c h)
  load_back copies (Damaged slot block) cause = ⊎_elim
      (λ (d : IsFirstDamaged copies slot block m t). inl (record {
        before = d.before;
        copy = d.copy;
        after = d.after;
        split = d.split;
        slot_is = d.slot_is;
        damage = back (HasDamage d.copy (Some block)) d.damage;
        undamaged = λ c h. undamaged c (d.undamaged c h);
      }))
      (λ (d : HasTakenTwins copies slot block m t). inr (record {
        copy = d.copy;
        slot_is = d.slot_is;
        number = d.number;
        taken = least copies d.number d.copy d.taken;
        twins = back (HasTwins d.copy block) d.twins;
        undamaged = λ c h. undamaged c (d.undamaged c h);
      }))
      cause
  load_back copies NoMemory cause = cause

  pub refusal_back : (copies : List DirCopy) (e : MountError) → LoadRefusal copies m t e → LoadRefusal copies s t e
  refusal_back copies e refusal = ⊎_elim (λ of. inl (of.0, of.1, load_back copies of.0 of.2)) (λ want. inr want) refusal

-- ---- what a mount has read

pub shape_allowed : (n id : ℕ) (hs : List Headed) (state : BayState) → AreThere n hs state → (shape : Shape) → shape_in id hs ≡ Some shape → IsTrue (is_shape shape)
shape_allowed n id hs state there shape is =
    let k = shape_from id hs shape is in
    subst (λ (x : Shape). IsTrue (is_shape x)) k.3 (member_shape k.0.header (there.allowed k.0 k.1).header)

pub entries_allowed : (r : Status) → IsTrue (is_status r) → IsTrue (list_all is_entry r.entries)
entries_allowed r ok = (parts_of r ok).all

module _ (s m t : BayState) {early later : ℕ → Type 0} (first : Runs early Same s m) (keeps : KeepsAttached s m) (next : Runs later Same m t) (stays : KeepsAttached m t)
    (n id : ℕ) (hs : List Headed) (survey : Surveyed) (now : IsSurveyedNow n id survey m) where
  pub load_refused : (option : MountOption) (e : MountError) → LoadRefusal (copies_read id hs survey) m t e
      → QuorumCause option (record { id = id; slots = n; headed = hs }) e s t
  load_refused option e refusal = inr (record {
    survey = survey;
    surveyed = surveyed_later n id survey m t next stays now;
    cause = inr (inr (inl (refusal_back s m t first next (copies_read id hs survey) e refusal)));
  })

  pub read_is : (shape : Shape) (store : Stored) → AreThere n hs s → ((k : Member) → IsAmong survey.members k → IsAmong (members_with id hs) k)
      → first_stranger id hs ≡ None → shape_in id hs ≡ Some shape → ArePartOf store.copies (copies_read id hs survey) → 0 < length store.copies
      → (AreSettled (copies_read id hs survey) m → Keeps store t) → survey.epoch + 1 < 2 ^ 64
      → IsReadOf (record { id = id; slots = n; headed = hs }) (record { survey = survey; shape = shape; store = store }) t
  read_is shape store there among alike is copies some kept epoch = record {
    there = there_still n hs m t next stays (there_still n hs s m first keeps there);
    survey = surveyed_later n id survey m t next stays now;
    among = among;
    alike = alike;
    shape = is;
    copies = copies;
    some = some;
    kept = kept (copies_settled id survey.read survey.value hs survey.members m now.well.among now.durable);
    epoch = epoch;
  }

-- ---- with the catalog

module _ (option : MountOption) (found : FoundDisks) (read : GroupRead) (s t : BayState) (is : IsReadOf found read t) where
  loaded : IsStoreLoaded found read.survey read.store read.shape t
  loaded = record { copies = is.copies; kept = is.kept; shape_is = is.shape }

  quorate : (q : Quorate) → IsCatalogued option found.id found.slots found.headed read q → IsQuorate option found q t
  quorate q made =
      let of : IsQuorum (record {
        id = found.id;
        slots = found.slots;
        headed = q.headed;
        survey = read.survey;
        shape = read.shape;
        store = read.store;
        catalog = q.catalog;
      }) t = record {
        there = subst (λ (l : List Headed). AreThere found.slots l t) (sym made.headed_are) is.there;
        survey = is.survey;
        among = subst (λ (l : List Headed). (k : Member) → IsAmong read.survey.members k → IsAmong (members_with found.id l) k) (sym made.headed_are) is.among;
        alike = ap (first_stranger found.id) made.headed_are ∙ is.alike;
        shape = ap (shape_in found.id) made.headed_are ∙ is.shape;
        copies = subst (λ (l : List Headed). ArePartOf read.store.copies (copies_read found.id l read.survey)) (sym made.headed_are) is.copies;
        some = is.some;
        kept = is.kept;
        catalog = made.catalog;
      } in
      record {
        id_is = made.id_is;
        slots_are = made.slots_are;
        headed_are = made.headed_are;
        quorum = subst (λ (x : Quorate). IsQuorum x t) (λ i. record {
          id = sym made.id_is i;
          slots = sym made.slots_are i;
          headed = q.headed;
          survey = sym made.survey_is i;
          shape = sym made.shape_is i;
          store = sym made.store_is i;
          catalog = q.catalog;
        }) of;
        complete = λ unforced. ap (λ (x : Surveyed). first_missing found.id found.headed x.value.entries) made.survey_is ∙ made.complete unforced;
        epoch = subst (λ (x : Surveyed). x.epoch + 1 < 2 ^ 64) (sym made.survey_is) is.epoch;
      }

  refused_later : (e : MountError) → CataloguedCause option found.id found.headed read e → QuorumCause option found e s t
  refused_later e cause = inr (record {
    survey = read.survey;
    surveyed = is.survey;
    cause = inr (inr (inr (⊎_elim
        (λ fault. inl (record { store = read.store; shape = read.shape; loaded = loaded; cause = fault }))
        (λ missing. inr (record { store = read.store; shape = read.shape; catalog = missing.0; loaded = loaded; catalogued = missing.1; cause = missing.2 }))
        cause)));
  })

  pub answered : (result : Result Quorate MountError) → IfOk result (IsCatalogued option found.id found.slots found.headed read)
      → IfErr result (CataloguedCause option found.id found.headed read)
      → MatchResult result (λ q. IsQuorate option found q t) (λ e. QuorumCause option found e s t)
  answered (Ok q) made cause = quorate q made
  answered (Err e) made cause = refused_later e cause

-- ---- a catalog of records

pub catalog_refused : (store : Stored) (r : Status) (shape : Shape) (answer : CatalogError) (e : MountError)
    → NamesFault (IsAtFault store.table.records shape r.entries) answer → RefusesCatalog store answer e → CatalogRefusal store r shape e
catalog_refused store r shape (answer.Damaged key) (error.Damaged slot block) fault is = record { key = key; fault = fault; slot_is = is.0; block_is = is.1 }
catalog_refused store r shape (answer.Damaged key) error.NoGroup fault is = absurd is
catalog_refused store r shape (answer.Damaged key) error.TwoGroups fault is = absurd is
catalog_refused store r shape (answer.Damaged key) (error.NoMajority seen need) fault is = absurd is
catalog_refused store r shape (answer.Damaged key) error.DirectoriesLost fault is = absurd is
catalog_refused store r shape (answer.Damaged key) (error.MissingDisk number name) fault is = absurd is
catalog_refused store r shape (answer.Damaged key) (error.Dead slot name) fault is = absurd is
catalog_refused store r shape (answer.Damaged key) error.NoMemory fault is = absurd is
catalog_refused store r shape answer.NoMemory e fault is = subst (CatalogRefusal store r shape) (sym is) tt
