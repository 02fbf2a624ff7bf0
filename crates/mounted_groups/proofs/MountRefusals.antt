-- Why a mount is refused, told of the image that the disks held before it.
use Rattle.std.proofs.Common.{◌≡◌, ◌≢◌, ◌⊎◌, inl, inr, ⊎_elim, ℕ, ◌+◌, ◌<◌, ◌≤◌, ◌||◌, not, Bool, true, false, List, [], ◌∷◌, Option, Some, None, Result, Ok, Err, refl, sym, ◌∙◌, ap, subst, arith, ◌==◌, if◌then◌else◌}
use Rattle.std.specs.Prelude.{find, max}
use Rattle.std.specs.List.{list_any}
use Rattle.std.specs.Option.{option_map, option_or}
use Rattle.std.proofs.lemmas.Bool.{and_parts, cases_Bool, cond_both, eq-eqb, eqb-true, false≢true}
use Rattle.std.proofs.lemmas.Option.{none-some, same_Some}
use Rattle.bay.specs.Counts.{Rose}
use Rattle.bay.specs.Image.{Image, Same}
use Rattle.bay.specs.Moments.{Runs}
use Rattle.bay.specs.State.{BayState, IsSound}
use Rattle.bay.proofs.Calls.{goes_on, stops}
use Rattle.bay.proofs.Images.{same-trans}
use Rattle.asm_group.specs.Names.{Bytes, is_same_name}
use Rattle.asm_group.specs.Shape.{Shape}
use Rattle.asm_formats.specs.Among.{IsAmong}
use Rattle.asm_formats.specs.Items.{DiskInfo}
use Rattle.asm_formats.specs.Status.{Entry, Status}
use Rattle.asm_images.specs.Register.{greatest}
use Rattle.asm_placement.specs.Modes.{serves}
use Rattle.asm_placement.proofs.Membership.{among_right}
use Rattle.group_recovery.specs.disk_directory.Disks.{info_at}
use Rattle.group_recovery.specs.catalog_tables.Tables.{Catalogued}
use Rattle.change_directory.specs.Formatting.{AreShut}
use Rattle.change_directory.specs.declared.copy.DirCopy.{DirCopy}
use Rattle.group_recovery.specs.directory_store.Loading.{HasTakenTwins, HasTwins, LoadCause}
use Rattle.group_recovery.specs.directory_store.Reading.{ArePartOf, HasDamage, IsFirstDamaged, IsCopyUnread}
use Rattle.group_recovery.specs.directory_store.Copies.{AreKept}
use Rattle.group_recovery.specs.directory_store.Stores.{Keeps, Stored}
use Rattle.group_recovery.specs.directory_store.declared.error.LoadError.{LoadError}
use Rattle.group_recovery.specs.directory_store.declared.error.LoadError.TheVariants as load
use Rattle.status_register.specs.Answers.{IsAnswer, Surveyed}
use Rattle.status_register.specs.SurveyLaws.{IsMemberOn}
use Rattle.status_register.specs.Surveys.{AreRead, claims_on, first_damage, greatest_epoch, missing, records_on}
use Rattle.bay.specs.Told.{Told}
use Rattle.status_register.specs.declared.error.SurveyError.{SurveyError}
use Rattle.status_register.specs.declared.error.SurveyError.TheVariants as survey
use Rattle.status_register.specs.declared.member.Member.{Member}
use Rattle.status_register.proofs.Losing.{took_or_failed}
use Rattle.group_recovery.specs.Alike.{clashes, first_stranger, shape_in}
use Rattle.group_recovery.specs.Finding.{AreAllHeaded, AreInOwnSlots, AreThere}
use Rattle.group_recovery.specs.Founds.{FindCause, FindsNone, FoundDisks, IsFound, is_whole, not_held}
use Rattle.group_recovery.specs.Loads.{refusal_of_load}
use Rattle.group_recovery.specs.Missing.{first_missing, has_disk_of_entry, is_disk_of, is_missing}
use Rattle.group_recovery.specs.NamedCopies.{directory_copy_of, is_named_copy, named_copies}
use Rattle.group_recovery.specs.Quorum.{CatalogRefusal, IsCatalogIn, IsDamagedRefusal, IsForceRefusal, IsLastEpochRefusal, IsMissingRefusal, IsStrangerRefusal, IsRefusedAfter}
use Rattle.group_recovery.specs.Recovering.{RecoverCause, is_named, is_own, name_in, own_members}
use Rattle.group_recovery.specs.Surveying.{IsGoneOn, IsSurveyedNow, MembersCause}
use Rattle.group_recovery.specs.Syncing.{IsSurveyOn}
use Rattle.group_recovery.specs.Verdicts.{AreJudged, choice_of, ids_named, members_with, verdict_of}
use Rattle.group_recovery.specs.declared.choosing.Choice.{Choice}
use Rattle.group_recovery.specs.declared.choosing.Verdict.{Verdict}
use Rattle.group_recovery.specs.declared.choosing.Verdict.TheVariants.{Gone, Short, Whole}
use Rattle.group_recovery.specs.declared.error.MountError.{MountError}
use Rattle.group_recovery.specs.declared.error.MountError.TheVariants as error
use Rattle.group_recovery.specs.declared.finding.Headed.{Headed}
use Rattle.group_recovery.specs.declared.quorum.MountOption.{MountOption}
use Rattle.group_recovery.specs.declared.quorum.Quorate.{Quorate}
use Rattle.group_recovery.proofs.Looks.{left_there}
use Rattle.group_recovery.proofs.Searches.{none_are_taken, two_are_taken}
use Rattle.group_recovery.proofs.Told.{rose_before, rose_later}
use Rattle.mounted_groups.specs.Clearing.{IsLostCause}
use Rattle.mounted_groups.specs.MountCauses.{AreDirectories, AreDisksWith, AreElsewhere, DamagedCause, DirectoriesLostCause, ErrorCause, HasNamedDisk, IsHeadedDisk, IsDiskThere, IsIdRead, IsRecordRead, Look, NoGroupCause, NoMajorityCause, RefusalsHaveCauses, SlotFailed, all_gone, at_record, behind_record, body, copy, fault, few_read, few_took, few_whole, has_id, last_epoch, look, none_there, one_gone, other_name, stranger}
use Rattle.mounted_groups.specs.Mounting.{AreOthers, IsMountCause, IsNotQuorate, IsNotRenewed, WasQuorate, free_disks, not_cleared, not_found, not_quorate, not_renewed, of_others}
use Rattle.mounted_groups.proofs.FoundIds.{has_name as named_in, taken_is_named}
use Rattle.mounted_groups.proofs.LookedDisks.{before, copies_picked, free_among, holds_there, is_among, is_disk, members_picked, of_picked, of_read, own_picked, picked_all, picked_from}
use Rattle.mounted_groups.proofs.LookedIds.{NotTaken, WasJudged, has_verdict, id_of_named, not_taken, short_among, two_judged, was_judged, whole_among}

-- ---- what a survey told

-- whether the id is gone, where a majority was read
abbrev mark_of : Verdict → Option Bool
mark_of Gone = Some true
mark_of (Whole damage) = Some false
mark_of (Short seen need) = None

marked_by : (b : Bool) (damage : Option (ℕ × ℕ)) → mark_of (if b then Gone else Whole damage) ≡ Some b
marked_by true damage = refl
marked_by false damage = refl

whole_mark : (v : Verdict) → is_whole v ≡ true → mark_of v ≡ Some false
whole_mark Gone is = absurd (false≢true is)
whole_mark (Whole damage) is = refl
whole_mark (Short seen need) is = absurd (false≢true is)

-- by the answer of a survey a majority was read, and the record is marked so
answer_marks : (id : ℕ) (ms read : List Member) (epoch : ℕ) (status : Option Status) (damage : Option (ℕ × ℕ)) (answer : Result Surveyed SurveyError) (gone : Bool)
    → IsAnswer id ms read epoch status damage answer → mark_of (verdict_of answer) ≡ Some gone → (missing read status ≡ None) × (option_map (λ (r : Status). r.gone) status ≡ Some gone)
answer_marks id ms read epoch status damage (Ok s) gone is marks =
    (is.enough, ap (λ (o : Option Status). option_map (λ (r : Status). r.gone) o) is.value_is ∙ sym (marked_by s.value.gone None) ∙ marks)
answer_marks id ms read epoch status damage (Err (survey.NoMajority seen need)) gone is marks = absurd cc
answer_marks id ms read epoch status damage (Err (survey.Damaged slot block was)) gone is marks = (is.0, is.2 ∙ sym (marked_by was (Some (slot, block))) ∙ marks)

-- so few were read
answer_short : (id : ℕ) (ms read : List Member) (epoch : ℕ) (status : Option Status) (damage : Option (ℕ × ℕ)) (answer : Result Surveyed SurveyError) (seen need : ℕ)
    → IsAnswer id ms read epoch status damage answer → Short seen need ≡ verdict_of answer → missing read status ≡ Some (seen, need)
answer_short id ms read epoch status damage (Ok s) seen need is short = absurd (never s.value.gone short)
  where
    never : (b : Bool) → Short seen need ≡ (if b then Gone else Whole None) → ⊥
    never true e = absurd cc
    never false e = absurd cc
answer_short id ms read epoch status damage (Err (survey.NoMajority k m)) seen need is short =
    let one : seen ≡ k = cc in
    let two : need ≡ m = cc in
    is ∙ (λ i. Some (sym one i, sym two i))
answer_short id ms read epoch status damage (Err (survey.Damaged slot block gone)) seen need is short = absurd (never gone short)
  where
    never : (b : Bool) → Short seen need ≡ (if b then Gone else Whole (Some (slot, block))) → ⊥
    never true e = absurd cc
    never false e = absurd cc

-- a body doesn't decode
answer_damaged : (id : ℕ) (ms read : List Member) (epoch : ℕ) (status : Option Status) (damage : Option (ℕ × ℕ)) (answer : Result Surveyed SurveyError) (slot block : ℕ)
    → IsAnswer id ms read epoch status damage answer → Whole (Some (slot, block)) ≡ verdict_of answer → (missing read status ≡ None) × (damage ≡ Some (slot, block))
answer_damaged id ms read epoch status damage (Ok s) slot block is whole = absurd (never s.value.gone whole)
  where
    never : (b : Bool) → Whole (Some (slot, block)) ≡ (if b then Gone else Whole None) → ⊥
    never true e = absurd cc
    never false e = absurd cc
answer_damaged id ms read epoch status damage (Err (survey.NoMajority seen need)) slot block is whole = absurd cc
answer_damaged id ms read epoch status damage (Err (survey.Damaged k b gone)) slot block is whole = (is.0, is.1 ∙ same gone whole)
  where
    place : ℕ → ℕ → Option (ℕ × ℕ)
    place i j = Some (i, j)

    same : (g : Bool) → Whole (place slot block) ≡ (if g then Gone else Whole (place k b)) → place k b ≡ place slot block
    same true e = absurd cc
    same false e = let it : place slot block ≡ place k b = cc in sym it

-- ---- members by their headers

no_name : (id : ℕ) (hs : List Headed) → name_in id hs ≡ None → (h : Headed) → IsAmong hs h → h.header.id ≡ id → ⊥
no_name id [] none h among own = among
no_name id (x ∷ xs) none h among own =
    cond_both (x.header.id == id) (Some x.header.group) (name_in id xs) (λ (o : Option Bytes). o ≡ None → ⊥)
    (λ yes e. none-some x.header.group (sym e))
    (λ no e. ⊎_elim (λ (same : h ≡ x). false≢true (sym no ∙ eq-eqb x.header.id id (ap (λ (k : Headed). k.header.id) (sym same) ∙ own))) (λ old. no_name id xs e h old own) among) none

name_from : (id : ℕ) (hs : List Headed) (group : Bytes) → name_in id hs ≡ Some group → (h : Headed) × IsAmong hs h × (h.header.id ≡ id) × (h.header.group ≡ group)
name_from id [] group is = absurd (none-some group is)
name_from id (x ∷ xs) group is =
    cond_both (x.header.id == id) (Some x.header.group) (name_in id xs) (λ (o : Option Bytes). o ≡ Some group → (h : Headed) × IsAmong (x ∷ xs) h × (h.header.id ≡ id) × (h.header.group ≡ group))
    (λ yes e. (x, inl refl, eqb-true x.header.id id yes, same_Some x.header.group group e))
    (λ no e. let k = name_from id xs group e in (k.0, inr k.1, k.2, k.3)) is

no_shape : (id : ℕ) (hs : List Headed) → shape_in id hs ≡ None → (h : Headed) → IsAmong hs h → h.header.id ≡ id → ⊥
no_shape id [] none h among own = among
no_shape id (x ∷ xs) none h among own =
    cond_both (x.header.id == id) (Some x.header.shape) (shape_in id xs) (λ (o : Option Shape). o ≡ None → ⊥)
    (λ yes e. none-some x.header.shape (sym e))
    (λ no e. ⊎_elim (λ (same : h ≡ x). false≢true (sym no ∙ eq-eqb x.header.id id (ap (λ (k : Headed). k.header.id) (sym same) ∙ own))) (λ old. no_shape id xs e h old own) among) none

found_by : (p : Headed → Bool) (xs : List Headed) (y : Headed) → find p xs ≡ Some y → IsAmong xs y × (p y ≡ true)
found_by p [] y is = absurd (none-some y is)
found_by p (x ∷ xs) y is = cond_both (p x) (Some x) (find p xs) (λ (o : Option Headed). o ≡ Some y → IsAmong (x ∷ xs) y × (p y ≡ true))
    (λ yes e. let same : x ≡ y = same_Some x y e in (inl (sym same), ap p (sym same) ∙ yes))
    (λ no e. let k = found_by p xs y e in (inr k.0, k.1)) is

-- two disks of the id that aren't of one group
pub record AreStrangers (id slot : ℕ) (hs : List Headed) : Type 0 where
  pub one : Headed
  pub other : Headed
  pub one_among : IsAmong hs one
  pub other_among : IsAmong hs other
  pub apart : one.slot ≢ other.slot
  pub member : one.header.id ≡ id
  pub clash : clashes one other ≡ true
  pub is : slot ≡ other.slot

strangers : (id slot : ℕ) (hs : List Headed) → AreInOwnSlots hs → first_stranger id hs ≡ Some slot → AreStrangers id slot hs
strangers id slot [] apart is = absurd (none-some slot is)
strangers id slot (x ∷ xs) apart is =
    cond_both (x.header.id == id) (option_or (option_map (λ (k : Headed). k.slot) (find (clashes x) xs)) (first_stranger id xs)) (first_stranger id xs) (λ (o : Option ℕ). o ≡ Some slot → AreStrangers id slot (x ∷ xs))
    (λ yes e. here (strangers id slot xs apart.1) (eqb-true x.header.id id yes) (find (clashes x) xs) refl e) (λ no e. more (strangers id slot xs apart.1 e)) is
  where
    more : AreStrangers id slot xs → AreStrangers id slot (x ∷ xs)
    more old = record {
      one = old.one;
      other = old.other;
      one_among = inr old.one_among;
      other_among = inr old.other_among;
      apart = old.apart;
      member = old.member;
      clash = old.clash;
      is = old.is;
    }

    here : (first_stranger id xs ≡ Some slot → AreStrangers id slot xs) → x.header.id ≡ id → (o : Option Headed) → find (clashes x) xs ≡ o → option_or (option_map (λ (k : Headed). k.slot) o) (first_stranger id xs) ≡ Some slot → AreStrangers id slot (x ∷ xs)
    here rest own None none e = more (rest e)
    here rest own (Some y) found e =
        let k = found_by (clashes x) xs y found in
        record {
          one = x;
          other = y;
          one_among = inl refl;
          other_among = inr k.0;
          apart = λ same. apart.0 y k.0 (sym same);
          member = own;
          clash = k.1;
          is = sym (same_Some y.slot slot e);
        }

-- an entry that is found passes the test
entry_by : (p : Entry → Bool) (xs : List Entry) (e : Entry) → find p xs ≡ Some e → IsAmong xs e × (p e ≡ true)
entry_by p [] e is = absurd (none-some e is)
entry_by p (x ∷ xs) e is = cond_both (p x) (Some x) (find p xs) (λ (o : Option Entry). o ≡ Some e → IsAmong (x ∷ xs) e × (p e ≡ true))
    (λ yes same. let is_it : x ≡ e = same_Some x e same in (inl (sym is_it), ap p (sym is_it) ∙ yes))
    (λ no later. let k = entry_by p xs e later in (inr k.0, k.1)) is

none_of : (p : Headed → Bool) (hs : List Headed) (h : Headed) → IsAmong hs h → list_any p hs ≡ false → p h ≡ false
none_of p [] h among none = absurd among
none_of p (x ∷ xs) h among none = go (p x) refl none (none_of p xs h)
  where
    go : (b : Bool) → p x ≡ b → (b || list_any p xs) ≡ false → (IsAmong xs h → list_any p xs ≡ false → p h ≡ false) → p h ≡ false
    go true is any rest = absurd (false≢true (sym any))
    go false is any rest = ⊎_elim (λ (same : h ≡ x). ap p same ∙ is) (λ old. rest old any) among

not_false : (b : Bool) → not b ≡ true → b ≡ false
not_false true is = absurd (false≢true is)
not_false false is = refl

-- some of the copies are copies
part_among : (some all : List DirCopy) → ArePartOf some all → (c : DirCopy) → IsAmong some c → IsAmong all c
part_among some [] part c among = absurd (subst (λ (l : List DirCopy). IsAmong l c) part among)
part_among some (x ∷ xs) part c among = ⊎_elim
    (λ (rest : ArePartOf some xs). inr (part_among some xs rest c among))
    (λ (first : (rest : List DirCopy) × (some ≡ x ∷ rest) × ArePartOf rest xs). ⊎_elim (λ same. inl same) (λ old. inr (part_among first.0 xs first.2 c old)) (subst (λ (l : List DirCopy). IsAmong l c) first.1 among))
    part

-- ---- over the disks

-- these disks are all of an id that are there
record AreAllOf (l : Look) (id : ℕ) (hs : List Headed) : Type 0 where
  pub are : (h : Headed) → IsAmong hs h → IsHeadedDisk l h
  pub all : (d : Headed) → IsDiskThere l d → d.header.id ≡ id → IsAmong hs d
  pub apart : AreInOwnSlots hs

module _ (name : Bytes) (option : MountOption) (n : ℕ) (s t : BayState) (x : Image) (holds : s.holds ≡ Some x) where
  abbrev at : Look
  at = look n s t x

  longer : (u : BayState) → ((slot : ℕ) → u.faults slot ≤ t.faults slot) → (slot : ℕ) → Rose (s.faults slot) (u.faults slot) → SlotFailed at slot
  longer u on slot rose = rose_later (s.faults slot) (u.faults slot) (t.faults slot) (on slot) rose

  wider : (u : BayState) → ((slot : ℕ) → s.faults slot ≤ u.faults slot) → (slot : ℕ) → Rose (u.faults slot) (t.faults slot) → SlotFailed at slot
  wider u since slot rose = rose_before (s.faults slot) (u.faults slot) (t.faults slot) (since slot) rose

  -- ---- what a search found

  members_of : (id : ℕ) (hs : List Headed) → AreAllOf at id hs → AreDisksWith at (has_id id) (members_with id hs)
  members_of id hs all = subst (λ (l : List Member). AreDisksWith at (has_id id) l) (sym (members_picked id hs))
      (of_picked n s t x holds (has_id id) hs all.are (λ d there is. all.all d there (eqb-true d.header.id id is)))

  own_of : (id : ℕ) (entries : List Entry) (hs : List Headed) → AreAllOf at id hs → AreDisksWith at (is_own id entries) (own_members id entries hs)
  own_of id entries hs all = subst (λ (l : List Member). AreDisksWith at (is_own id entries) l) (sym (own_picked id entries hs))
      (of_picked n s t x holds (is_own id entries) hs all.are (λ d there is. all.all d there (eqb-true d.header.id id (and_parts (d.header.id == id) _ is).0)))

  module _ (held : List ℕ) (elsewhere : AreElsewhere at name held) (u : BayState) (sound : IsSound u) (looks : Runs (λ slot. slot < n) Same s u) where
    named_of : (found : FoundDisks) → IsFound name n found s u → HasNamedDisk at name found.id
    named_of found is =
        let k = taken_is_named name is.headed is.choice is.unread s u found.id is.finds.judged is.taken_is in
        record { disk = k.headed; is = is_disk n s t x holds u sound looks is.headed is.finds.there k.headed k.among; member = k.member; named = k.named }

    disk_of : (found : FoundDisks) → IsFound name n found s u → (h : Headed) → IsAmong (not_held held found.headed) h → IsHeadedDisk at h
    disk_of found is h among =
        let there : AreThere n found.headed u = subst (λ (l : List Headed). AreThere n l u) (sym is.left) (left_there n is.unread is.headed u is.finds.there) in
        is_disk n s t x holds u sound looks (not_held held found.headed) (left_there n held found.headed u there) h among

    free_of : (found : FoundDisks) → IsFound name n found s u → ((slot : ℕ) → u.faults slot ≤ t.faults slot) → AreAllOf at found.id (not_held held found.headed)
    free_of found is on =
        let there : AreThere n found.headed u = subst (λ (l : List Headed). AreThere n l u) (sym is.left) (left_there n is.unread is.headed u is.finds.there) in
        let free = left_there n held found.headed u there in
        record {
          are = disk_of found is;
          all = λ d at_there own. free_among held found.headed d (is_among n s t x holds u sound looks found.headed s there is.all (longer u on) d at_there)
              (λ held_is. elsewhere found.id d.slot (named_of found is) held_is (d.header, at_there.is.header, own));
          apart = free.apart;
        }

  -- ---- no id was taken

  module _ (sound : IsSound t) (looks : Runs (λ slot. slot < n) Same s t) where
    same : (slot : ℕ) → Rose (s.faults slot) (t.faults slot) → SlotFailed at slot
    same slot rose = rose

    module _ (hs : List Headed) (there : AreThere n hs t) (all : AreAllHeaded n hs s t) where
      every : (id : ℕ) → AreAllOf at id hs
      every id = record {
        are = λ h among. is_disk n s t x holds t sound looks hs there h among;
        all = λ d at_there own. is_among n s t x holds t sound looks hs s there all same d at_there;
        apart = there.apart;
      }

      has_named : (id : ℕ) → IsAmong (ids_named name hs) id → HasNamedDisk at name id
      has_named id among =
          let k = named_in name hs id among in
          record { disk = k.headed; is = (every id).are k.headed k.among; member = k.member; named = k.named }

      last : t.holds ≡ Some x
      last = holds_there n s t x holds t sound looks

      read_of : (id : ℕ) (read : List Member) → AreRead (λ slot. Rose (s.faults slot) (t.faults slot)) (members_with id hs) read → AreDisksWith at (has_id id) read
      read_of id read reads = of_read n s t x holds (has_id id) (members_with id hs) read (λ slot. Rose (s.faults slot) (t.faults slot)) (members_of id hs (every id)) reads same

      -- an id was read, and is gone or not
      id_read : (ids : List ℕ) (id : ℕ) (verdict : Verdict) (gone : Bool) → WasJudged hs ids id verdict s t → mark_of verdict ≡ Some gone → IsIdRead at id gone
      id_read ids id verdict gone was mark =
          let (read, reads, told) = was.judged.surveyed in
          let marks = answer_marks id (members_with id hs) read (greatest_epoch (claims_on id x read)) (greatest (records_on id x read)) (first_damage x read) was.judged.answer gone (told x last x holds) (ap mark_of (sym was.judged.verdict_is) ∙ mark) in
          record { read = read; are = read_of id read reads; enough = marks.0; marked = marks.1 }

      none_taken : (verdicts : List (ℕ × Verdict)) (unread : List ℕ) → AreJudged hs (ids_named name hs) verdicts unread s t → (e : MountError) → NotTaken (choice_of verdicts) e → ErrorCause name option e at
      none_taken verdicts unread are error.NoGroup none = all_gone (λ d at_there named.
          let among = id_of_named name hs d ((every d.header.id).all d at_there refl) named in
          let v = has_verdict hs (ids_named name hs) verdicts unread s t are d.header.id among in
          let pair : ℕ × Verdict = (d.header.id, v.0) in
          let gone : v.0 ≡ Gone = (none_are_taken verdicts).0 none pair v.1 in
          id_read (ids_named name hs) d.header.id v.0 true (was_judged hs (ids_named name hs) verdicts unread s t are pair v.1) (ap mark_of gone))
      none_taken verdicts unread are error.TwoGroups two =
          let both_are = two_judged name hs verdicts unread s t are ((two_are_taken verdicts).0 two) in
          record {
            one = both_are.one.0;
            other = both_are.other.0;
            apart = both_are.apart;
            one_named = has_named both_are.one.0 both_are.one_judged.among;
            other_named = has_named both_are.other.0 both_are.other_judged.among;
            one_read = id_read (ids_named name hs) both_are.one.0 both_are.one.1 false both_are.one_judged (whole_mark both_are.one.1 both_are.one_whole);
            other_read = id_read (ids_named name hs) both_are.other.0 both_are.other.1 false both_are.other_judged (whole_mark both_are.other.1 both_are.other_whole);
          }
      none_taken verdicts unread are (error.NoMajority seen need) (short, is, seen_is, need_is) =
          let was = was_judged hs (ids_named name hs) verdicts unread s t are (short.id, Short short.seen short.need) (short_among verdicts short is) in
          let (read, reads, told) = was.judged.surveyed in
          let few = answer_short short.id (members_with short.id hs) read (greatest_epoch (claims_on short.id x read)) (greatest (records_on short.id x read)) (first_damage x read) was.judged.answer short.seen short.need (told x last x holds) was.judged.verdict_is in
          (short.id, has_named short.id was.among, few_read read (read_of short.id read reads) (few ∙ (λ i. Some (seen_is i, need_is i))))
      none_taken verdicts unread are (error.Damaged slot block) (whole, is, damage) =
          let was = was_judged hs (ids_named name hs) verdicts unread s t are (whole.id, Whole whole.damage) (whole_among verdicts whole is) in
          let (read, reads, told) = was.judged.surveyed in
          let bad = answer_damaged whole.id (members_with whole.id hs) read (greatest_epoch (claims_on whole.id x read)) (greatest (records_on whole.id x read)) (first_damage x read) was.judged.answer slot block (told x last x holds) (ap (λ (o : Option (ℕ × ℕ)). Whole o) (sym damage) ∙ was.judged.verdict_is) in
          (whole.id, has_named whole.id was.among, body read (read_of whole.id read reads) bad.0 bad.1)
      none_taken verdicts unread are error.DirectoriesLost none = absurd none
      none_taken verdicts unread are (error.MissingDisk number disk) none = absurd none
      none_taken verdicts unread are (error.Dead slot disk) none = absurd none
      none_taken verdicts unread are error.NoMemory none = tt

    finds_none : (e : MountError) → FindsNone name n e s t → ErrorCause name option e at
    finds_none e f =
        let (verdicts, are, chooses) = f.finds.judged in
        none_taken f.headed f.finds.there f.finds.all verdicts f.unread are e (subst (λ (c : Choice). NotTaken c e) chooses (not_taken f.choice e f.refusal))

    not_found_cause : (e : MountError) → FindCause name n e s t → ErrorCause name option e at
    not_found_cause error.NoMemory cause = tt
    not_found_cause error.NoGroup cause = finds_none error.NoGroup cause
    not_found_cause error.TwoGroups cause = finds_none error.TwoGroups cause
    not_found_cause (error.NoMajority seen need) cause = finds_none (error.NoMajority seen need) cause
    not_found_cause (error.Damaged slot block) cause = finds_none (error.Damaged slot block) cause
    not_found_cause error.DirectoriesLost cause = finds_none error.DirectoriesLost cause
    not_found_cause (error.MissingDisk number disk) cause = finds_none (error.MissingDisk number disk) cause
    not_found_cause (error.Dead slot disk) cause = finds_none (error.Dead slot disk) cause

    -- the disks that are left are of another name
    others_cause : (held : List ℕ) → AreElsewhere at name held → AreOthers name n held s t → NoGroupCause at name
    others_cause held elsewhere others =
        let f = others.found in
        let hs = not_held held f.headed in
        let all = free_of held elsewhere t sound looks f others.is (λ slot. omega arith) in
        let named = named_of held elsewhere t sound looks f others.is in
        by f.id hs all named (name_in f.id hs) refl others.none
      where
        by : (id : ℕ) (hs : List Headed) → AreAllOf at id hs → HasNamedDisk at name id → (o : Option Bytes) → name_in id hs ≡ o → is_named o name ≡ false → NoGroupCause at name
        by id hs all named None none is = none_there id named (λ d there own. no_name id hs none d (all.all d there own) own)
        by id hs all named (Some group) of_it is =
            let k = name_from id hs group of_it in
            other_name id named k.0 (all.are k.0 k.1) k.2 (ap (λ (b : Bytes). is_same_name b name) k.3 ∙ is)

  -- ---- the group was found

  module _ (id : ℕ) (hs : List Headed) (every : AreAllOf at id hs) (named : HasNamedDisk at name id) where
    -- the record of a survey
    module _ (u : BayState) (sound : IsSound u) (looks : Runs (λ slot. slot < n) Same s u) (slots own : ℕ) (survey : Surveyed) (slots_are : slots ≡ n) (own_is : own ≡ id) (surveyed : IsSurveyedNow slots own survey u) where
      survey_on : IsSurveyOn survey x
      survey_on = before n s t x holds u sound looks (IsSurveyOn survey) surveyed.now

      survey_id : survey.id ≡ id
      survey_id = surveyed.id_is ∙ own_is

      abbrev value : IsRecordRead at id survey.value
      value = record {
        read = survey.read;
        each = λ m among. subst (λ (k : ℕ). IsMemberOn k id x m) slots_are (subst (λ (k : ℕ). IsMemberOn slots k x m) survey_id
            (before n s t x holds u sound looks (λ (image : Image). (m : Member) → IsAmong survey.members m → IsMemberOn slots survey.id image m) surveyed.members m (surveyed.well.among m among)));
        greatest_is = subst (λ (k : ℕ). greatest (records_on k x survey.read) ≡ Some survey.value) survey_id survey_on.greatest_is;
        enough = survey_on.enough;
      }

      epoch_on : survey.epoch ≡ max (greatest_epoch (claims_on id x survey.read)) survey.value.epoch
      epoch_on = subst (λ (k : ℕ). survey.epoch ≡ max (greatest_epoch (claims_on k x survey.read)) survey.value.epoch) survey_id survey_on.epoch_is

      abbrev Named : Headed → Bool
      Named = is_named_copy id survey.read survey.value

      named_from : (copies : List DirCopy) → copies ≡ named_copies id survey.read survey.value hs → (c : DirCopy) → IsAmong copies c → (d : Headed) × IsHeadedDisk at d × (Named d ≡ true) × (c ≡ directory_copy_of d)
      named_from copies are c among =
          let k = picked_from Named directory_copy_of hs c (subst (λ (l : List DirCopy). IsAmong l c) (are ∙ copies_picked id survey.read survey.value hs) among) in
          (k.0, every.are k.0 k.1, k.2, k.3)

      directories : (store : Stored) → ArePartOf store.copies (named_copies id survey.read survey.value hs) → Keeps store u → AreDirectories at id survey.value value store
      directories store part kept = record {
        copies = λ c among. named_from (named_copies id survey.read survey.value hs) refl c (part_among store.copies (named_copies id survey.read survey.value hs) part c among);
        page = kept.page;
        shows = kept.shows;
        kept = before n s t x holds u sound looks (AreKept store.copies store.due store.number kept.page) kept.now;
      }

      -- a copy of the directories is damaged
      copy_cause : (from : BayState) → from.holds ≡ Some x → (slot block : ℕ) → IsFirstDamaged (named_copies id survey.read survey.value hs) slot block from t
          ⊎ HasTakenTwins (named_copies id survey.read survey.value hs) slot block from t → t.holds ≡ Some x → DamagedCause at id slot block
      copy_cause from from_holds slot block (inl first) last =
          let among = subst (λ (l : List DirCopy). IsAmong l first.copy) (sym first.split) (among_right first.before (first.copy ∷ first.after) first.copy (inl refl)) in
          let k = named_from (named_copies id survey.read survey.value hs) refl first.copy among in
          copy survey.value value k.0 k.1 k.2 (first.slot_is ∙ ap (λ (c : DirCopy). c.slot) k.3)
          (inl (subst (λ (c : DirCopy). HasDamage c (Some block) x) k.3 (first.damage x last x from_holds)))
      copy_cause from from_holds slot block (inr twins) last =
          let k = named_from (named_copies id survey.read survey.value hs) refl twins.copy twins.taken.among in
          copy survey.value value k.0 k.1 k.2 (twins.slot_is ∙ ap (λ (c : DirCopy). c.slot) k.3)
          (inr (subst (λ (c : DirCopy). HasTwins c block x) k.3 (twins.twins x last x from_holds)))

      -- none was read
      lost_cause : (from : BayState) → from.holds ≡ Some x → ((slot : ℕ) → Rose (from.faults slot) (t.faults slot) → SlotFailed at slot)
          → ((c : DirCopy) → IsAmong (named_copies id survey.read survey.value hs) c → IsCopyUnread c from t) → t.holds ≡ Some x → DirectoriesLostCause at id
      lost_cause from from_holds failed unread last = record {
        value = survey.value;
        record_ = value;
        shut = λ d there is.
            let own : d.header.id ≡ id = eqb-true d.header.id id (and_parts (d.header.id == id) _ is).0 in
            let among = subst (λ (l : List DirCopy). IsAmong l (directory_copy_of d)) (sym (copies_picked id survey.read survey.value hs)) (picked_all Named directory_copy_of hs d (every.all d there own) is) in
            ⊎_elim (λ rose. absurd (there.fine (failed d.slot rose))) (λ (told : Told from t (AreShut (directory_copy_of d))). told x last x from_holds) (unread (directory_copy_of d) among);
      }

      load_cause : (from : BayState) → from.holds ≡ Some x → ((slot : ℕ) → Rose (from.faults slot) (t.faults slot) → SlotFailed at slot) → t.holds ≡ Some x → (l : LoadError)
          → LoadCause (named_copies id survey.read survey.value hs) from t l → ErrorCause name option (refusal_of_load l) at
      load_cause from from_holds failed last load.DirectoriesLost cause = (id, named, lost_cause from from_holds failed cause last)
      load_cause from from_holds failed last (load.Damaged slot block) cause = (id, named, copy_cause from from_holds slot block cause last)
      load_cause from from_holds failed last load.NoMemory cause = tt

      -- the last epoch is used up
      epoch_cause : (e : MountError) → IsLastEpochRefusal survey e → ErrorCause name option e at
      epoch_cause (error.NoMajority seen need) (last, none, most) = (id, named, last_epoch survey.value value (ap (λ (k : ℕ). k + 1) (sym epoch_on) ∙ last) none most)
      epoch_cause error.NoGroup cause = absurd cause
      epoch_cause error.TwoGroups cause = absurd cause
      epoch_cause (error.Damaged slot block) cause = absurd cause
      epoch_cause error.DirectoriesLost cause = absurd cause
      epoch_cause (error.MissingDisk number disk) cause = absurd cause
      epoch_cause (error.Dead slot disk) cause = absurd cause
      epoch_cause error.NoMemory cause = absurd cause

      -- a record of the directories is at fault
      fault_cause : (store : Stored) (shape : Shape) → AreDirectories at id survey.value value store → (e : MountError) → CatalogRefusal store survey.value shape e → ErrorCause name option e at
      fault_cause store shape are (error.Damaged slot block) cause = (id, named, fault survey.value value store shape are cause)
      fault_cause store shape are error.NoMemory cause = tt
      fault_cause store shape are error.NoGroup cause = absurd cause
      fault_cause store shape are error.TwoGroups cause = absurd cause
      fault_cause store shape are (error.NoMajority seen need) cause = absurd cause
      fault_cause store shape are error.DirectoriesLost cause = absurd cause
      fault_cause store shape are (error.MissingDisk number disk) cause = absurd cause
      fault_cause store shape are (error.Dead slot disk) cause = absurd cause

      -- a disk is missing
      none_is : (entry : Entry) → has_disk_of_entry id hs entry ≡ false → (d : Headed) → IsDiskThere at d → is_disk_of id entry d ≡ false
      none_is entry none d there = ⊎_elim
          (λ (yes : is_disk_of id entry d ≡ true).
          let own : d.header.id ≡ id = eqb-true d.header.id id (and_parts (d.header.id == id) _ yes).0 in
          none_of (is_disk_of id entry) hs d (every.all d there own) none)
          (λ no. no)
          (cases_Bool (is_disk_of id entry d))

      missing_cause : (store : Stored) (shape : Shape) (catalog : Catalogued) → AreDirectories at id survey.value value store → IsCatalogIn store survey.value shape catalog → (e : MountError)
          → IsMissingRefusal option catalog.tables (first_missing id hs survey.value.entries) e → ErrorCause name option e at
      missing_cause store shape catalog are catalogued (error.MissingDisk number disk) (unforced, entry, missing_is, (number_is, name_is)) =
          let k = entry_by (is_missing id hs) survey.value.entries entry missing_is in
          let parts = and_parts (serves entry.mode) (not (has_disk_of_entry id hs entry)) k.1 in (
            unforced,
            (
              id,
              named,
              record {
                value = survey.value;
                entry = entry;
                among = k.0;
                serving = parts.0;
                absent = none_is entry (not_false (has_disk_of_entry id hs entry) parts.1);
                named = record {
                  record_ = value;
                  store = store;
                  are = are;
                  shape = shape;
                  catalog = catalog;
                  catalogued = catalogued;
                  name_is = subst (λ (d : ℕ). option_map (λ (i : DiskInfo). i.name) (info_at catalog.tables.disks d) ≡ Some disk) number_is name_is;
                };
              },
            ),
          )
      missing_cause store shape catalog are catalogued error.NoMemory cause = tt
      missing_cause store shape catalog are catalogued error.NoGroup (unforced, entry, missing_is, cause) = absurd cause
      missing_cause store shape catalog are catalogued error.TwoGroups (unforced, entry, missing_is, cause) = absurd cause
      missing_cause store shape catalog are catalogued (error.NoMajority seen need) (unforced, entry, missing_is, cause) = absurd cause
      missing_cause store shape catalog are catalogued (error.Damaged slot block) (unforced, entry, missing_is, cause) = absurd cause
      missing_cause store shape catalog are catalogued error.DirectoriesLost (unforced, entry, missing_is, cause) = absurd cause
      missing_cause store shape catalog are catalogued (error.Dead slot disk) (unforced, entry, missing_is, cause) = absurd cause

      -- the claim didn't come to a majority, or the record wasn't written
      took_cause : (seen need : ℕ) (took : List Member) → AreRead (λ slot. Rose (u.faults slot) (t.faults slot)) survey.members took → missing took (Some survey.value) ≡ Some (seen, need)
          → NoMajorityCause at id seen need
      took_cause seen need took are few = few_took survey.value value took
          (λ m among. ⊎_elim (λ there. inr there) (λ lost. inl (wider u looks.faults m.slot lost))
          (took_or_failed (λ slot. Rose (u.faults slot) (t.faults slot)) survey.members took are m (surveyed.well.among m among)))
          few

      whole_cause : (seen need : ℕ) → missing (own_members id survey.value.entries hs) (Some survey.value) ≡ Some (seen, need) → NoMajorityCause at id seen need
      whole_cause seen need few = few_whole survey.value value (own_members id survey.value.entries hs) (own_of id survey.value.entries hs every) few

    -- a header is that of no disk of the group
    stranger_cause : (e : MountError) → IsStrangerRefusal id hs e → ErrorCause name option e at
    stranger_cause (error.Damaged slot block) (first, one) =
        let k = strangers id slot hs every.apart first in
        (id, named, stranger k.one k.other (every.are k.one k.one_among) (every.are k.other k.other_among) k.apart k.member k.clash k.is one)
    stranger_cause error.NoGroup none = none_there id named (λ d there own. no_shape id hs none d (every.all d there own) own)
    stranger_cause error.TwoGroups cause = absurd cause
    stranger_cause (error.NoMajority seen need) cause = absurd cause
    stranger_cause error.DirectoriesLost cause = absurd cause
    stranger_cause (error.MissingDisk number disk) cause = absurd cause
    stranger_cause (error.Dead slot disk) cause = absurd cause
    stranger_cause error.NoMemory cause = absurd cause

    -- the survey behind the search
    module _ (from : BayState) (from_holds : from.holds ≡ Some x) (failed : (slot : ℕ) → Rose (from.faults slot) (t.faults slot) → SlotFailed at slot) (last : t.holds ≡ Some x) where
      read_from : (read : List Member) → AreRead (λ slot. Rose (from.faults slot) (t.faults slot)) (members_with id hs) read → AreDisksWith at (has_id id) read
      read_from read reads = of_read n s t x holds (has_id id) (members_with id hs) read (λ slot. Rose (from.faults slot) (t.faults slot)) (members_of id hs every) reads failed

      survey_cause : (e : MountError) → MembersCause id (members_with id hs) e from t → ErrorCause name option e at
      survey_cause error.NoGroup (read, reads, told) =
          let on : IsGoneOn id read x = told x last x from_holds in
          one_gone id named (record { read = read; are = read_from read reads; enough = on.enough; marked = on.gone })
      survey_cause (error.NoMajority seen need) (read, reads, told) = (id, named, few_read read (read_from read reads) (told x last x from_holds))
      survey_cause (error.Damaged slot block) (read, reads, told) =
          let on : (missing read (greatest (records_on id x read)) ≡ None) × (first_damage x read ≡ Some (slot, block)) = told x last x from_holds in
          (id, named, body read (read_from read reads) on.0 on.1)
      survey_cause error.NoMemory cause = tt
      survey_cause error.TwoGroups cause = absurd cause
      survey_cause error.DirectoriesLost cause = absurd cause
      survey_cause (error.MissingDisk number disk) cause = absurd cause
      survey_cause (error.Dead slot disk) cause = absurd cause

  -- ---- the group isn't quorate

  module _ (held : List ℕ) (elsewhere : AreElsewhere at name held) (e : MountError) where
    quorum_cause : {B : Type 0} (state : B → BayState) (sounds : (b : B) → IsSound (state b)) → IsSound t → IsNotQuorate state name n held option s t e → ErrorCause name option e at
    quorum_cause state sounds sound why =
        let u = state why.between in
        let found = why.found in
        let hs = not_held held found.headed in
        let every = free_of held elsewhere u (sounds why.between) why.searched found why.is why.reads.faults in
        let named = named_of held elsewhere u (sounds why.between) why.searched found why.is in
        let from_holds = holds_there n s t x holds u (sounds why.between) why.searched in
        let looks : Runs (λ slot. slot < n) Same s t = goes_on same-trans why.searched (stops why.searched) why.reads in
        let last = holds_there n s t x holds t sound looks in
        let failed = wider u why.searched.faults in
        ⊎_elim
        (λ cause. survey_cause found.id hs every named u from_holds failed last e cause)
        (λ (after : IsRefusedAfter option (free_disks held found) e u t).
        after_cause found.id hs every named sound looks u from_holds failed last found.slots why.slots after)
        why.cause
      where
        after_cause : (id : ℕ) (hs : List Headed) (every : AreAllOf at id hs) (named : HasNamedDisk at name id) → IsSound t → Runs (λ slot. slot < n) Same s t → (from : BayState) → from.holds ≡ Some x
            → ((slot : ℕ) → Rose (from.faults slot) (t.faults slot) → SlotFailed at slot) → t.holds ≡ Some x → (slots : ℕ) → slots ≡ n
            → (let f : FoundDisks = record { id = id; slots = slots; headed = hs } in IsRefusedAfter option f e from t) → ErrorCause name option e at
        after_cause id hs every named sound looks from from_holds failed last slots slots_are after =
            let v = after.survey in
            let by = after.surveyed in
            ⊎_elim (λ cause. epoch_cause id hs every named t sound looks slots id v slots_are refl by e cause)
            (λ more. ⊎_elim (λ cause. stranger_cause id hs every named e cause)
            (λ rest. ⊎_elim (λ loading. ⊎_elim
            (λ (c : (l : LoadError) × (e ≡ refusal_of_load l) × LoadCause (named_copies id v.read v.value hs) from t l). subst (λ (k : MountError). ErrorCause name option k at) (sym c.1)
            (load_cause id hs every named t sound looks slots id v slots_are refl by from from_holds failed last c.0 c.2))
            (λ (none : e ≡ error.NoMemory). subst (λ (k : MountError). ErrorCause name option k at) (sym none) tt)
            loading)
            (λ left. ⊎_elim
            (λ (c : IsDamagedRefusal (record { id = id; slots = slots; headed = hs }) v e t).
            fault_cause id hs every named t sound looks slots id v slots_are refl by c.store c.shape
            (directories id hs every named t sound looks slots id v slots_are refl by c.store c.loaded.copies c.loaded.kept) e c.cause)
            (λ (c : IsForceRefusal option (record { id = id; slots = slots; headed = hs }) v e t).
            missing_cause id hs every named t sound looks slots id v slots_are refl by c.store c.shape c.catalog
            (directories id hs every named t sound looks slots id v slots_are refl by c.store c.loaded.copies c.loaded.kept) c.catalogued e c.cause)
            left)
            rest)
            more)
            after.cause

  -- ---- its record wasn't written anew

  module _ (held : List ℕ) (elsewhere : AreElsewhere at name held) {B : Type 0} (state : B → BayState) (sounds : (b : B) → IsSound (state b)) where
    renewed_cause : (e : MountError) → IsNotRenewed state name n held option s t e → ErrorCause name option e at
    renewed_cause e why = by e why.cause
      where
        was : WasQuorate state name n held option s
        was = why.was

        q : Quorate
        q = was.quorum

        u : BayState
        u = state was.later

        looks : Runs (λ slot. slot < n) Same s u
        looks = goes_on same-trans was.searched (stops was.searched) why.reads

        on : (slot : ℕ) → (state was.between).faults slot ≤ t.faults slot
        on slot = omega (arith, why.reads.faults slot, why.later slot)

        every : AreAllOf at q.id q.headed.items
        every = subst (λ (l : List Headed). AreAllOf at q.id l) (sym was.quorate.headed_are) (subst (λ (k : ℕ). AreAllOf at k (not_held held was.found.headed)) (sym was.quorate.id_is)
            (free_of held elsewhere (state was.between) (sounds was.between) was.searched was.found was.is on))

        named : HasNamedDisk at name q.id
        named = subst (λ (k : ℕ). HasNamedDisk at name k) (sym was.quorate.id_is) (named_of held elsewhere (state was.between) (sounds was.between) was.searched was.found was.is)

        slots_are : q.slots ≡ n
        slots_are = was.quorate.slots_are ∙ why.slots

        by : (k : MountError) → RecoverCause q k u t → ErrorCause name option k at
        by (error.NoMajority seen need) (inl (took, are, few)) =
            (q.id, named, took_cause q.id q.headed.items every named u (sounds was.later) looks q.slots q.id q.survey slots_are refl was.quorate.quorum.survey seen need took are few)
        by (error.NoMajority seen need) (inr few) =
            (q.id, named, whole_cause q.id q.headed.items every named u (sounds was.later) looks q.slots q.id q.survey slots_are refl was.quorate.quorum.survey seen need few)
        by (error.Dead slot disk) (place, rose, (slot_is, h, among, at_slot, name_is)) =
            (q.id, named, at_record h (every.are h among) name_is (subst (λ (k : ℕ). SlotFailed at k) (sym at_slot) (wider u looks.faults slot rose)))
        by error.NoMemory cause = tt
        by error.NoGroup cause = absurd cause
        by error.TwoGroups cause = absurd cause
        by (error.Damaged slot block) cause = absurd cause
        by error.DirectoriesLost cause = absurd cause
        by (error.MissingDisk number disk) cause = absurd cause

    cleared_cause : (e : MountError) (was : WasQuorate state name n held option s) → IsLostCause was.quorum s t e → ErrorCause name option e at
    cleared_cause (error.Dead slot disk) was (rose, (h, among, own, at_slot)) =
        let u = state was.between in
        let there = subst (λ (l : List Headed). IsAmong l h) was.quorate.headed_are among in (
          was.quorum.id,
          subst (λ (k : ℕ). HasNamedDisk at name k) (sym was.quorate.id_is) (named_of held elsewhere u (sounds was.between) was.searched was.found was.is),
          behind_record h (disk_of held elsewhere u (sounds was.between) was.searched was.found was.is h there) own (subst (λ (k : ℕ). SlotFailed at k) (sym at_slot) rose),
        )
    cleared_cause error.NoMemory was cause = tt
    cleared_cause error.NoGroup was cause = absurd cause
    cleared_cause error.TwoGroups was cause = absurd cause
    cleared_cause (error.NoMajority seen need) was cause = absurd cause
    cleared_cause (error.Damaged slot block) was cause = absurd cause
    cleared_cause error.DirectoriesLost was cause = absurd cause
    cleared_cause (error.MissingDisk number disk) was cause = absurd cause

    all_causes : IsSound t → (e : MountError) → IsMountCause state name n held option s t e → ErrorCause name option e at
    all_causes sound e (not_found looks cause) = not_found_cause sound looks e cause
    all_causes sound e (of_others is looks others) = subst (λ (k : MountError). ErrorCause name option k at) (sym is) (others_cause sound looks held elsewhere others)
    all_causes sound e (not_quorate why) = quorum_cause held elsewhere e state sounds sound why
    all_causes sound e (not_renewed why) = renewed_cause e why
    all_causes sound e (not_cleared was cause) = cleared_cause e was cause

pub refusals_have_causes : {B : Type 0} (state : B → BayState) → ((b : B) → IsSound (state b)) → (s t : BayState) → IsSound t → RefusalsHaveCauses state s t
refusals_have_causes state sounds s t sound name n held option e image holds elsewhere cause = all_causes name option n s t image holds held elsewhere state sounds sound e cause
