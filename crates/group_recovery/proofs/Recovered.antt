-- The parts of a mounted group say the same.
use Rattle.std.proofs.Common.{◌≡◌, inl, inr, ⊎_elim, ℕ, ◌<◌, true, ◌==◌, List, [], ◌∷◌, get_or, replicate, refl, sym, ap, subst, ◌∙◌, Option, Some, None, arith, IsTrue}
use Rattle.std.specs.Option.{option_map}
use Rattle.std.proofs.lemmas.Bool.{cond_both, cond-true, eq-eqb, eqb-true}
use Rattle.std.proofs.lemmas.Option.{same_Some}
use Rattle.bay.specs.Image.{ChangesOnly}
use Rattle.bay.specs.State.{BayState, KeepsAttached}
use Rattle.bay.specs.Counts.{Rose}
use Rattle.bay.specs.Moments.{Runs}
use Rattle.asm_formats.specs.Sets.{has_bit}
use Rattle.asm_formats.specs.Status.{Entry, Status, entry_of, is_status}
use Rattle.asm_group.specs.Shape.{Shape, is_shape}
use Rattle.asm_formats.specs.Among.{IsAmong}
use Rattle.asm_images.specs.Copies.{is_kept}
use Rattle.asm_images.proofs.Members.{member_shape}
use Rattle.directory_store.specs.change_directory.declared.copy.DirCopy.{DirCopy}
use Rattle.directory_store.specs.Stores.{Keeps}
use Rattle.directory_store.proofs.Present.{disk_has, has_of_disk}
use Rattle.directory_store.proofs.Storing.{keeps_elsewhere}
use Rattle.status_register.specs.Holders.{is_of, with_next_number}
use Rattle.status_register.specs.Registered.{AreNumbered, Registered, all_placed, register_of}
use Rattle.status_register.specs.Surveys.{missing, shortfall}
use Rattle.status_register.specs.Tallies.{HaveSlots, IsSlotOf}
use Rattle.status_register.specs.Writes.{first_register}
use Rattle.status_register.specs.declared.member.Member.{Member}
use Rattle.status_register.proofs.Filling.{still_slots}
use Rattle.status_register.proofs.Holding.{apart_list, entry_birth}
use Rattle.status_register.proofs.Placing.{placed_good, placed_is, placed_of}
use Rattle.group_recovery.specs.NextRecord.{IsNextRecord}
use Rattle.group_recovery.specs.Quorum.{IsCatalogIn, IsQuorum}
use Rattle.group_recovery.specs.Recovering.{AnewCause, AreAttachedCopies, AreDisksOf, ArePartsOf, DeadCause, IsAnew, IsAttachedCopy, IsPlaced, IsRegisterAnew, IsShortRefusal, MayRenewRecord, RecoverCause, RefusesAnew, StandsAnew, disks_with, is_own, own_members}
use Rattle.group_recovery.specs.Renewing.{Renews}
use Rattle.group_recovery.specs.Verdicts.{IsSlotIn, member_of, members_with}
use Rattle.group_recovery.specs.Writing.{FrontOf, RenewCause}
use Rattle.group_recovery.specs.declared.error.MountError.{MountError}
use Rattle.group_recovery.specs.declared.error.MountError.TheVariants as error
use Rattle.group_recovery.specs.declared.finding.Headed.{Headed}
use Rattle.group_recovery.specs.declared.quorum.Quorate.{Quorate}
use Rattle.group_recovery.specs.declared.recovering.Anew.{Anew}
use Rattle.group_recovery.specs.declared.writing.RenewError.{RenewError}
use Rattle.group_recovery.specs.declared.writing.RenewError.TheVariants as renew
use Rattle.group_recovery.proofs.Alikes.{once, one_shape, shape_from}
use Rattle.group_recovery.proofs.Catalogs.{catalog_under}
use Rattle.group_recovery.proofs.Choices.{members_attached}
use Rattle.group_recovery.proofs.Fronts.{front_region, front_runs}
use Rattle.group_recovery.proofs.NextRecords.{element_bit, element_small, from, in_elements, next_renews}
use Rattle.group_recovery.proofs.Owns.{is_owned, own_from, own_with, owned, owns_apart, same_members, same_own}
use Rattle.group_recovery.proofs.Renewing.{renewed_follows}
use Rattle.group_recovery.proofs.Searches.{there_attached}
use Rattle.group_recovery.proofs.Surveyed.{header_number}

fewer_slots : (state : BayState) (some more : List Member) → ((m : Member) → IsAmong some m → IsAmong more m) → HaveSlots state more → HaveSlots state some
fewer_slots state some more among have m h = have m (among m h)

-- ---- the members of an id

pub own_of : (id : ℕ) (hs : List Headed) (m : Member) → IsAmong (members_with id hs) m → (k : Headed) × IsAmong hs k × (m ≡ member_of k) × (k.header.id ≡ id)
own_of id [] m h = absurd h
own_of id (x ∷ xs) m h =
    let later : IsAmong (members_with id xs) m → (k : Headed) × IsAmong (x ∷ xs) k × (m ≡ member_of k) × (k.header.id ≡ id) =
    λ a. let k = own_of id xs m a in (k.0, inr k.1, k.2, k.3) in
    cond_both (x.header.id == id) (member_of x ∷ members_with id xs) (members_with id xs)
    (λ (l : List Member). IsAmong l m → (k : Headed) × IsAmong (x ∷ xs) k × (m ≡ member_of k) × (k.header.id ≡ id))
    (λ is a. ⊎_elim (λ e. (x, inl refl, e, eqb-true x.header.id id is)) later a) (λ no. later) h

pub own_among : (id : ℕ) (hs : List Headed) (k : Headed) → IsAmong hs k → k.header.id ≡ id → IsAmong (members_with id hs) (member_of k)
own_among id [] k h own = absurd h
own_among id (x ∷ xs) k (inl same) own =
    subst (λ (l : List Member). IsAmong l (member_of k))
    (sym (cond-true (x.header.id == id) (member_of x ∷ members_with id xs) (members_with id xs) (eq-eqb x.header.id id (ap (λ (y : Headed). y.header.id) (sym same) ∙ own))))
    (inl (ap member_of same))
own_among id (x ∷ xs) k (inr h) own =
    let later = own_among id xs k h own in
    cond_both (x.header.id == id) (member_of x ∷ members_with id xs) (members_with id xs) (λ (l : List Member). IsAmong l (member_of k)) (λ is. inr later) (λ no. later)

-- those that are attached, with their sizes
record IsOwnDisk (id : ℕ) (entries : List Entry) (hs : List Headed) (x : Member × ℕ) : Type 0 where
  disk : Headed
  among : IsAmong hs disk
  own : is_own id entries disk ≡ true
  is : x ≡ (member_of disk, disk.size)

disk_from : (id : ℕ) (entries : List Entry) (hs : List Headed) (x : Member × ℕ) → IsAmong (disks_with id entries hs) x → IsOwnDisk id entries hs x
disk_from id entries [] x h = absurd h
disk_from id entries (k ∷ hs) x h =
    let later : IsAmong (disks_with id entries hs) x → IsOwnDisk id entries (k ∷ hs) x =
    λ a. let d = disk_from id entries hs x a in record { disk = d.disk; among = inr d.among; own = d.own; is = d.is } in
    cond_both (is_own id entries k) ((member_of k, k.size) ∷ disks_with id entries hs) (disks_with id entries hs)
    (λ (l : List (Member × ℕ)). IsAmong l x → IsOwnDisk id entries (k ∷ hs) x)
    (λ is a. ⊎_elim (λ same. record { disk = k; among = inl refl; own = is; is = same }) later a)
    (λ no. later) h

disk_among : (id : ℕ) (entries : List Entry) (hs : List Headed) (k : Headed) → IsAmong hs k → is_own id entries k ≡ true
    → IsAmong (disks_with id entries hs) (member_of k, k.size)
disk_among id entries [] k h own = absurd h
disk_among id entries (x ∷ hs) k (inl same) own =
    subst (λ (l : List (Member × ℕ)). IsAmong l (member_of k, k.size))
    (sym (cond-true (is_own id entries x) ((member_of x, x.size) ∷ disks_with id entries hs) (disks_with id entries hs)
    (ap (is_own id entries) (sym same) ∙ own)))
    (inl (ap (λ (y : Headed). (member_of y, y.size)) same))
disk_among id entries (x ∷ hs) k (inr h) own =
    let later = disk_among id entries hs k h own in
    cond_both (is_own id entries x) ((member_of x, x.size) ∷ disks_with id entries hs) (disks_with id entries hs)
    (λ (l : List (Member × ℕ)). IsAmong l (member_of k, k.size)) (λ is. inr later) (λ no. later)

-- ---- what is written

-- a record as it is written renews what the record does
pub numbered_renews : (r next : Status) (epoch turn : ℕ) → Renews r next → Renews r (record next { epoch = epoch; turn = turn })
unfolding is_kept
numbered_renews r next epoch turn n = record {
  holders = n.holders;
  next_holders = n.next_holders;
  gone = n.gone;
  births = n.births;
  entries = n.entries;
  kept = n.kept;
  partners = n.partners;
  fewer = n.fewer;
}

module _ (q : Quorate) (s : BayState) (quorum : IsQuorum q s) where
  abbrev hs : List Headed
  hs = q.headed.items

  abbrev ms : List Member
  ms = members_with q.id q.headed.items

  -- those that are attached by a record
  abbrev own : Status → List Member
  own r = own_members q.id r.entries q.headed.items

  own_in : (r : Status) (m : Member) → IsAmong (own r) m → IsAmong ms m
  own_in r m h =
      let k = own_from q.id r.entries hs m h in
      subst (λ (x : Member). IsAmong ms x) (sym k.2) (own_among q.id hs k.0 k.1 (owned q.id r.entries k.0 k.3).id_is)

  pub numbers : (r : Status) → AreNumbered (own r)
  numbers r m h =
      let k = own_of q.id hs m (own_in r m h) in
      omega (arith, ap (λ (x : Member). x.number) k.2, header_number k.0.header (quorum.there.allowed k.0 k.1).header)

  pub may_renew : (next : Status) → IsTrue (is_status next) → Renews q.survey.value next → next.id ≡ q.survey.value.id → missing (own next) (Some next) ≡ None → MayRenewRecord q.survey next (own next) s
  may_renew next ok renews group enough = record {
    slots = fewer_slots s (own next) ms (own_in next) (members_attached q.id hs s (there_attached q.slots hs s quorum.there));
    apart = apart_list (own next) (owns_apart q.id next.entries hs quorum.there.apart);
    numbers = numbers next;
    enough = enough;
    surveyed = quorum.survey.slots;
    own = quorum.survey.apart;
    small = quorum.survey.numbers;
    status = ok;
    group = group;
    renews = renews;
  }

  pub shape_is : IsTrue (is_shape q.shape)
  shape_is =
      let k = shape_from q.id hs q.shape quorum.shape in
      subst (λ (x : Shape). IsTrue (is_shape x)) k.3 (member_shape k.0.header (quorum.there.allowed k.0 k.1).header)

  -- the slots of the members that were surveyed are those of images with an open header
  pub surveyed_in : (slot : ℕ) → IsSlotOf q.survey.members slot → IsSlotIn hs slot
  surveyed_in slot of =
      let k = own_of q.id hs of.0 (quorum.among of.0 of.1) in
      (k.0, k.1, of.2 ∙ ap (λ (x : Member). x.slot) k.2)

  pub runs_on : (t : BayState) → Runs (IsSlotOf q.survey.members) (ChangesOnly (FrontOf q.survey.members)) s t → Runs (IsSlotIn hs) (ChangesOnly (FrontOf ms)) s t
  runs_on t run = front_runs q.survey.members ms s t quorum.among surveyed_in run

  module _ (now : ℕ) (next : Status) (made : IsNextRecord q now next) where
    abbrev v : Status
    v = with_next_number (register_of q.survey) next

    abbrev places : List (Option Member)
    places = all_placed next.entries (replicate 64 None) (own next)

    renews : Renews q.survey.value next
    renews = next_renews q s quorum now next made

    -- a disk that is attached is in the place of its number
    at_place : (h : Headed) → IsAmong hs h → is_own q.id next.entries h ≡ true → get_or places h.header.number None ≡ Some (member_of h)
    at_place h among own_is =
        let mine = owned q.id next.entries h own_is in
        let entry : is_of next.entries (member_of h) ≡ true = mine.entry in
        let good = placed_good next.entries (own next) (member_of h) (numbers next) (own_with q.id next.entries hs h among own_is) entry in
        let k = own_of q.id hs good.0 (own_in next good.0 (placed_is next.entries (own next) h.header.number good.0 (numbers next) good.1).0) in
        let number : k.0.header.number ≡ h.header.number = ap (λ (x : Member). x.number) (sym k.2) ∙ good.2 in
        let of : is_of next.entries (member_of k.0) ≡ true = subst (λ (x : Member). is_of next.entries x ≡ true) k.2 good.3 in
        let birth : k.0.header.birth ≡ h.header.birth = same_Some k.0.header.birth h.header.birth
        (sym (entry_birth next.entries (member_of k.0) of) ∙ ap (λ (d : ℕ). option_map (λ (e : Entry). e.birth) (entry_of next.entries d)) number
        ∙ entry_birth next.entries (member_of h) entry) in
        good.1 ∙ ap (λ (x : Member). Some x) (k.2 ∙ ap member_of (once q.id hs quorum.alike k.0 h k.1 among k.3 mine.id_is number birth))

    abbrev register : Registered
    register = first_register v (own next)

    placed : (i : ℕ) (m : Member) → get_or places i None ≡ Some m → IsPlaced q next.entries i m
    placed i m there =
        let is = placed_is next.entries (own next) i m (numbers next) there in
        record { number = is.1; entry = placed_of next.entries (own next) i m (numbers next) there; among = own_in next m is.0 }

    same_id : next.id ≡ q.id
    same_id = ap (λ (x : Status). x.id) made.next_is ∙ quorum.survey.well.group ∙ quorum.survey.id_is

    register_is : (t : BayState) → StandsAnew register t → IsRegisterAnew q next register t
    register_is t stands = record {
      value = refl;
      renews = numbered_renews q.survey.value next v.epoch v.turn renews;
      status = stands.status;
      alive = ap (λ (x : Status). x.gone) made.next_is ∙ quorum.survey.not_gone;
      group = refl;
      own = same_id;
      written = refl;
      reached = stands.reached;
      members = placed;
      ready = stands.ready;
    }

    -- ---- the copies

    named_bit : (d : ℕ) → has_bit next.directories d ≡ has_bit made.named d
    named_bit d = ap (λ (x : Status). has_bit x.directories d) made.next_is

    attached_copy : (c : DirCopy) → IsAmong q.store.copies c → IsAttachedCopy register q.shape c
    attached_copy c among =
        let k = from q s quorum c among in
        let number : c.number ≡ k.disk.header.number = ap (λ (x : DirCopy). x.number) k.copy in
        let small : c.number < 64 = omega (arith, number, header_number k.disk.header (quorum.there.allowed k.disk k.among).header) in
        let bit : has_bit next.directories c.number ≡ true = named_bit c.number ∙ made.copies c.number small ∙ disk_has c.number q.store.copies c among refl in
        let shape = shape_from q.id hs q.shape quorum.shape in
        let same : k.disk.header.shape ≡ q.shape = one_shape q.id hs quorum.alike k.disk shape.0 k.among shape.1 k.own shape.2 ∙ shape.3 in
        let own_is : is_own q.id next.entries k.disk ≡ true = same_own q.id next.entries q.survey.value.entries k.disk renews.entries ∙ is_owned q.id q.survey.value.entries k.disk k.own k.entry k.units in
        record {
          named = in_elements next.directories c.number small bit;
          member = member_of k.disk;
          attached = ap (λ (d : ℕ). get_or places d None) number ∙ at_place k.disk k.among own_is;
          slot = sym (ap (λ (x : DirCopy). x.slot) k.copy);
          entry = (owned q.id next.entries k.disk own_is).entry;
          pages = ap (λ (x : DirCopy). x.dir_blocks) k.copy ∙ ap (λ (x : Shape). x.dir_blocks) same;
          sector = ap (λ (x : DirCopy). x.sector) k.copy ∙ ap (λ (x : Shape). x.sector) same;
        }

    copies_are : AreAttachedCopies register q.shape q.store.copies
    copies_are = record {
      each = attached_copy;
      all = λ d h. has_of_disk d q.store.copies (sym (made.copies d (element_small next.directories d h)) ∙ sym (named_bit d) ∙ element_bit next.directories d h);
    }

    -- ---- the disks

    disks_are : (t : BayState) → KeepsAttached s t → AreDisksOf register (disks_with q.id next.entries hs) t
    disks_are t attached = record {
      each = λ x h. let d = disk_from q.id next.entries hs x h in
          subst (λ (y : Member × ℕ). get_or places y.0.number None ≡ Some y.0) (sym d.is) (at_place d.disk d.among d.own);
      small = λ x h. let d = disk_from q.id next.entries hs x h in
          subst (λ (y : Member × ℕ). y.0.number < 64) (sym d.is) (header_number d.disk.header (quorum.there.allowed d.disk d.among).header);
      sizes = λ x h. let d = disk_from q.id next.entries hs x h in
          subst (λ (y : Member × ℕ). t.attached y.0.slot ≡ Some y.1) (sym d.is) (attached.same d.disk.slot ∙ quorum.there.attached d.disk d.among);
      all = λ i m there.
          let k = own_from q.id next.entries hs m (placed_is next.entries (own next) i m (numbers next) there).0 in
          (k.0.size, subst (λ (x : Member). IsAmong (disks_with q.id next.entries hs) (x, k.0.size)) (sym k.2) (disk_among q.id next.entries hs k.0 k.1 k.3));
    }

    -- ---- the store and the catalog

    pub keeps : (t : BayState) → KeepsAttached s t → Runs (IsSlotOf q.survey.members) (ChangesOnly (FrontOf q.survey.members)) s t → Keeps q.store t
    keeps t attached run = keeps_elsewhere q.store (λ x y c among step. front_region q.survey.members c x y step) attached run quorum.kept

    catalog_is : IsCatalogIn q.store v q.shape q.catalog
    catalog_is = record {
      catalog = catalog_under q.store.table.records q.survey.value.entries next.entries q.catalog renews.entries quorum.catalog.catalog;
      shape_is = quorum.catalog.shape_is;
    }

  -- ---- all of it

  pub parts_are : (now : ℕ) (a : Anew) → IsAnew q now a → (register : Registered) → register ≡ first_register (with_next_number (register_of q.survey) a.next) (own a.next) → (t : BayState)
      → StandsAnew register t → KeepsAttached s t → Runs (IsSlotOf q.survey.members) (ChangesOnly (FrontOf q.survey.members)) s t
      → ArePartsOf q now (record { name = a.name; id = q.id; shape = q.shape; catalog = q.catalog; store = q.store; register = register; disks = a.disks }) t
  parts_are now a is register same t stands attached run = record {
    id = refl;
    name = is.name;
    shape = refl;
    is_shape = shape_is;
    store = refl;
    tables = refl;
    next = a.next;
    made = is.next;
    register = subst (λ (x : Registered). IsRegisterAnew q a.next x t) (sym same)
        (register_is now a.next is.next t (subst (λ (x : Registered). StandsAnew x t) same stands));
    catalog = subst (λ (x : Registered). IsCatalogIn q.store x.value q.shape q.catalog) (sym same) (catalog_is now a.next is.next);
    copies = subst (λ (x : Registered). AreAttachedCopies x q.shape q.store.copies) (sym same) (copies_are now a.next is.next);
    disks = subst (λ (x : Registered). AreDisksOf x a.disks.items t) (sym same)
        (subst (λ (l : List (Member × ℕ)). AreDisksOf (first_register (with_next_number (register_of q.survey) a.next) (own a.next)) l t) (sym is.disks) (disks_are now a.next is.next t attached));
    attached = is.disks ∙ ap (λ (x : Registered). disks_with q.id x.value.entries hs) (sym same);
    keeps = keeps now a.next is.next t attached run;
  }

-- ---- refusals

pub refused : (q : Quorate) (s t : BayState) → IsQuorum q s → (next : Status) (failed : RenewError) (e : MountError) → RefusesAnew q.headed.items failed e
    → RenewCause q.survey next failed s t → RecoverCause q e s t
refused q s t quorum next (renew.NoMajority seen need) e is cause = subst (λ (x : MountError). RecoverCause q x s t) (sym is) (inl cause)
refused q s t quorum next (renew.Dead slot) (error.Dead other name) is cause =
    subst (λ (k : ℕ). IsSlotIn q.headed.items k × Rose (s.faults k) (t.faults k) × DeadCause q.headed.items k (error.Dead k name)) (sym is.0)
    (surveyed_in q s quorum slot cause.0, cause.1, (refl, is.1, is.2, is.3, is.4))
refused q s t quorum next (renew.Dead slot) error.NoMemory is cause = tt
refused q s t quorum next (renew.Dead slot) error.NoGroup is cause = absurd is
refused q s t quorum next (renew.Dead slot) error.TwoGroups is cause = absurd is
refused q s t quorum next (renew.Dead slot) (error.NoMajority seen need) is cause = absurd is
refused q s t quorum next (renew.Dead slot) (error.Damaged other block) is cause = absurd is
refused q s t quorum next (renew.Dead slot) error.DirectoriesLost is cause = absurd is
refused q s t quorum next (renew.Dead slot) (error.MissingDisk number name) is cause = absurd is

-- so few disks of a set are there
pub short_cause : (q : Quorate) (next : Status) (numbers : Option (ℕ × ℕ)) (e : MountError) → Renews q.survey.value next
    → numbers ≡ missing (own_members q.id next.entries q.headed.items) (Some next) → IsShortRefusal numbers e → AnewCause q e
short_cause q next numbers (error.NoMajority seen need) renews are is =
    (λ i. shortfall (same_members q.id q.survey.value.entries next.entries q.headed.items (sym renews.entries) i) (sym (renewed_follows q.survey.value next renews) i)) ∙ sym are ∙ is
short_cause q next numbers other renews are is = absurd is

-- there was nothing to write
pub anew_refused : (q : Quorate) (s t : BayState) (e : MountError) → AnewCause q e → RecoverCause q e s t
anew_refused q s t (error.NoMajority seen need) cause = inr cause
anew_refused q s t error.NoMemory cause = tt
anew_refused q s t other cause = absurd cause

-- ---- the register

pub slots_stay : (s t : BayState) (ms : List Member) → KeepsAttached s t → HaveSlots s ms → HaveSlots t ms
slots_stay s t ms keeps have m h = still_slots (have m h) keeps
