-- Found disks that were synced are surveyed on each image.
use Rattle.std.proofs.Common.{◌≡◌, ◌≢◌, inl, inr, ⊎_elim, ℕ, ◌^◌, ◌<◌, List, [], ◌∷◌, ◌++◌, drop, refl, sym, ap, subst, ◌∙◌, Some, None, arith, Result, Ok, Err, IfOk, IfErr, ◌==◌}
use Rattle.std.proofs.lemmas.Bool.{cond_both, and_parts, eqb-true, ltb-true}
use Rattle.bay.specs.Image.{Image, Same}
use Rattle.bay.specs.State.{BayState, KeepsAttached}
use Rattle.bay.specs.Moments.{Runs}
use Rattle.std.proofs.Common.{true, false, nat_lt}
use Rattle.asm_group.specs.Names.{is_name}
use Rattle.asm_group.specs.Shape.{is_shape}
use Rattle.asm_formats.specs.Header.{Header, is_header}
use Rattle.asm_formats.specs.Status.{Status}
use Rattle.asm_formats.specs.Among.{IsAmong}
use Rattle.asm_placement.proofs.Membership.{among_left, among_right, among_split}
use Rattle.asm_images.specs.Kept.{header_in}
use Rattle.asm_images.specs.Register.{greatest}
use Rattle.status_register.specs.Answers.{Surveyed, IsSurveyed}
use Rattle.status_register.specs.Registered.{AreNumbered}
use Rattle.status_register.specs.SurveyLaws.{IsMemberOn}
use Rattle.status_register.specs.Surveys.{AreRead, none_yet, one_read, one_failed}
use Rattle.status_register.specs.declared.member.Member.{Member}
use Rattle.status_register.proofs.Holding.{Apart}
use Rattle.status_register.proofs.Taking.{kept_among}
use Rattle.group_recovery.specs.Finding.{AreInOwnSlots, AreThere}
use Rattle.group_recovery.specs.Surveying.{IsGoneOn, IsSurveyedNow, AreSurveyed, MembersCause, SurveyedIsRead, answer_of, mount_error_of}
use Rattle.group_recovery.specs.declared.error.MountError.{MountError}
use Rattle.group_recovery.specs.declared.error.MountError.TheVariants as error
use Rattle.std.specs.Option.{option_map}
use Rattle.bay.specs.Told.{Told}
use Rattle.group_recovery.specs.Syncing.{AreMembersDurable, AreSynced, IsSurveyNow, IsWellRead}
use Rattle.status_register.specs.declared.error.SurveyError.{SurveyError}
use Rattle.status_register.specs.declared.error.SurveyError.TheVariants.{NoMajority, Damaged}
use Rattle.status_register.specs.Surveys.{records_on, first_damage, missing}
use Rattle.status_register.proofs.Holding.{apart_list}
use Rattle.status_register.proofs.Tallying.{RoseAt, still_read}
use Rattle.bay.proofs.Telling.{told_before}
use Rattle.group_recovery.proofs.Told.{rose_before, rose_later}
use Rattle.group_recovery.proofs.Choices.{members_attached}
use Rattle.group_recovery.specs.Verdicts.{member_of, members_with}
use Rattle.group_recovery.specs.declared.finding.Headed.{Headed}
use Rattle.group_recovery.proofs.Choices.{member_from, records_before, damage_before}
use Rattle.group_recovery.proofs.Searches.{there_still, there_attached}

first_or : Member → List Member → Member
first_or x [] = x
first_or x (y ∷ ys) = y

no_more : (xs : List Member) (x : Member) → xs ++ x ∷ [] ≡ [] → ⊥
no_more [] x e = cc
no_more (y ∷ xs) x e = cc

-- ---- slots of their own

pub members_apart : (id : ℕ) (hs : List Headed) → AreInOwnSlots hs → Apart (members_with id hs)
members_apart id [] apart = tt
members_apart id (h ∷ hs) (here, rest) =
    let later : Apart (members_with id hs) = members_apart id hs rest in
    cond_both (h.header.id == id) (member_of h ∷ members_with id hs) (members_with id hs) Apart
    (λ is. ((λ n among same. let k = member_from id hs n among in here k.0 k.1 (ap (λ (x : Member). x.slot) (sym k.2) ∙ same)), later)) (λ no. later)

apart_front : (ms more : List Member) → Apart (ms ++ more) → Apart ms
apart_front [] more apart = tt
apart_front (m ∷ ms) more (here, rest) = ((λ n h. here n (among_left ms more n h)), apart_front ms more rest)

apart_last : (ms : List Member) (m : Member) → Apart (ms ++ m ∷ []) → (k : Member) → IsAmong ms k → m.slot ≢ k.slot
apart_last [] m apart k h = absurd h
apart_last (x ∷ ms) m (here, rest) k (inl same) = λ e. here m (among_right ms (m ∷ []) m (inl refl)) (e ∙ ap (λ (y : Member). y.slot) same)
apart_last (x ∷ ms) m (here, rest) k (inr h) = apart_last ms m rest k h

apart_end : (ms : List Member) (m : Member) → Apart ms → ((k : Member) → IsAmong ms k → m.slot ≢ k.slot) → Apart (ms ++ m ∷ [])
apart_end [] m apart differ = ((λ n h. absurd h), tt)
apart_end (x ∷ ms) m (here, rest) differ = (
  λ n h. ⊎_elim (λ old. here n old) (λ new. ⊎_elim (λ same e. differ x (inl refl) (sym (ap (λ (y : Member). y.slot) same) ∙ e)) (λ none. absurd none) new) (among_split ms (m ∷ []) n h),
  apart_end ms m rest (λ k h. differ k (inr h)),
)

pub read_apart : (failed : ℕ → Type 0) (ms read : List Member) → AreRead failed ms read → Apart ms → Apart read
read_apart failed ms read none_yet apart = tt
read_apart failed ms read (one_read before earlier m are) apart =
    apart_end earlier m (read_apart failed before earlier are (apart_front before (m ∷ []) apart)) (λ k h. apart_last before m apart k (kept_among failed before earlier are k h))
read_apart failed ms read (one_failed before earlier m fail are) apart = read_apart failed before earlier are (apart_front before (m ∷ []) apart)

-- ---- members of each image

pub header_number : (h : Header) → is_header h ≡ true → h.number < 64
unfolding is_header
header_number h ok =
    let a = and_parts (is_shape h.shape) _ ok in
    let b = and_parts (is_name h.group) _ a.1 in
    let c = and_parts (nat_lt h.id (2 ^ 64)) _ b.1 in
    let d = and_parts (nat_lt h.number 64) _ c.1 in
    ltb-true h.number 64 d.0

module _ (n id : ℕ) (named : List Headed) (state : BayState) (there : AreThere n named state) where
  pub numbered : AreNumbered (members_with id named)
  numbered m h =
      let k = member_from id named m h in
      let ok = (there.allowed k.0 k.1).header in
      omega (arith, ap (λ (x : Member). x.number) k.2, header_number k.0.header ok)

  id_of : (hs : List Headed) (m : Member) → IsAmong (members_with id hs) m → (k : Headed) × IsAmong hs k × (m ≡ member_of k) × (k.header.id ≡ id)
  id_of [] m h = absurd h
  id_of (x ∷ xs) m h =
      let later : IsAmong (members_with id xs) m → (k : Headed) × IsAmong xs k × (m ≡ member_of k) × (k.header.id ≡ id) = id_of xs m in
      cond_both (x.header.id == id) (member_of x ∷ members_with id xs) (members_with id xs) (λ (l : List Member). IsAmong l m → (k : Headed) × IsAmong (x ∷ xs) k × (m ≡ member_of k) × (k.header.id ≡ id))
      (λ is a. ⊎_elim (λ e. (x, inl refl, e, eqb-true x.header.id id is)) (λ b. let k = later b in (k.0, inr k.1, k.2, k.3)) a)
      (λ no a. let k = later a in (k.0, inr k.1, k.2, k.3)) h

  pub member_on : (m : Member) → IsAmong (members_with id named) m → (image : Image) → state.leaves state.calls image → IsMemberOn n id image m
  member_on m h image left =
      let k = id_of named m h in
      let slot : m.slot ≡ k.0.slot = ap (λ (x : Member). x.slot) k.2 in
      record {
        inside = omega (arith, slot, there.inside k.0 k.1);
        header = k.0.header;
        header_is = ap (header_in image) slot ∙ (there.now k.0 k.1).now image left;
        group = k.3;
        number = sym (ap (λ (x : Member). x.number) k.2);
        birth = sym (ap (λ (x : Member). x.birth) k.2);
      }

-- ---- what a mount has read

pub surveyed_is_read : SurveyedIsRead
surveyed_is_read = λ n survey next content image members on few. record {
  members = members;
  among = on.among;
  greatest_is = on.greatest_is;
  enough = on.enough;
  claims_below = omega (arith, on.epoch_is, few);
  record_below = omega (arith, on.epoch_is, few);
}

-- ---- syncs and a survey

same_last : (xs ys : List Member) (x y : Member) → xs ++ x ∷ [] ≡ ys ++ y ∷ [] → (xs ≡ ys) × (x ≡ y)
unfolding first_or
same_last [] [] x y e = (refl, ap (λ (l : List Member). first_or x l) e)
same_last [] (b ∷ ys) x y e = absurd (no_more ys y (sym (ap (λ (l : List Member). drop 1 l) e)))
same_last (a ∷ xs) [] x y e = absurd (no_more xs x (ap (λ (l : List Member). drop 1 l) e))
same_last (a ∷ xs) (b ∷ ys) x y e =
    let rest = same_last xs ys x y (ap (λ (l : List Member). drop 1 l) e) in
    ((λ i. first_or a (e i) ∷ rest.0 i), rest.1)

-- one list is left out of another that is left out
last_twice : (failed : ℕ → Type 0) (before earlier : List Member) (m : Member) → ((r : List Member) → AreRead failed earlier r → AreRead failed before r) → (some read : List Member) → AreRead failed some read
    → some ≡ earlier ++ m ∷ [] → AreRead failed (before ++ m ∷ []) read
last_twice failed before earlier m further some read none_yet e = absurd (no_more earlier m (sym e))
last_twice failed before earlier m further some read (one_read a b k are) e =
    let both = same_last a earlier k m e in
    subst (λ (x : Member). AreRead failed (before ++ m ∷ []) (b ++ x ∷ [])) (sym both.1) (one_read before b m (further b (subst (λ (l : List Member). AreRead failed l b) both.0 are)))
last_twice failed before earlier m further some read (one_failed a b k fail are) e =
    let both = same_last a earlier k m e in
    one_failed before b m (subst (λ (x : Member). failed x.slot) both.1 fail) (further b (subst (λ (l : List Member). AreRead failed l b) both.0 are))

read_twice : (failed : ℕ → Type 0) (ms some : List Member) → AreRead failed ms some → (read : List Member) → AreRead failed some read → AreRead failed ms read
read_twice failed ms some none_yet read two = two
read_twice failed ms some (one_failed before earlier m fail are) read two = one_failed before read m fail (read_twice failed before earlier are read two)
read_twice failed ms some (one_read before earlier m are) read two = last_twice failed before earlier m (read_twice failed before earlier are) (earlier ++ m ∷ []) read two refl

module _ (s m t : BayState) {early later : ℕ → Type 0} (first : Runs early Same s m) (next : Runs later Same m t) (id : ℕ) (ms synced : List Member) (are : AreSynced ms synced s m) where
  synced_read : AreRead (RoseAt s t) ms synced
  synced_read = still_read (RoseAt s m) (RoseAt s t) (λ slot rose. rose_later (s.faults slot) (m.faults slot) (t.faults slot) (next.faults slot) rose) ms synced are.are

  later_read : (read : List Member) → AreRead (RoseAt m t) synced read → AreRead (RoseAt s t) ms read
  later_read read two = read_twice (RoseAt s t) ms synced synced_read read
      (still_read (RoseAt m t) (RoseAt s t) (λ slot rose. rose_before (s.faults slot) (m.faults slot) (t.faults slot) (first.faults slot) rose) synced read two)

  gone_before : (read : List Member) → Told m t (IsGoneOn id read) → Told s t (IsGoneOn id read)
  gone_before read told = told_before s m t (IsGoneOn id read) first next (λ x y same is. record {
    enough = sym (ap (λ (l : List Status). missing read (greatest l)) (records_before id read x y same)) ∙ is.enough;
    gone = sym (ap (λ (l : List Status). option_map (λ (r : Status). r.gone) (greatest l)) (records_before id read x y same)) ∙ is.gone;
  }) told

  pub surveyed : (survey : Surveyed) → IsSurveyed id synced (Ok survey) m t → (survey.id ≡ id) × (survey.members ≡ synced) → IsSurveyNow survey t → AreMembersDurable synced t → IsWellRead survey → survey.value.gone ≡ false → AreSurveyed id ms survey s t
  surveyed survey answered of now durable well stays = record {
    well = well;
    not_gone = stays;
    id_is = of.0;
    are = subst (λ (l : List Member). AreRead (RoseAt s t) ms l) (sym of.1) synced_read;
    durable = subst (λ (l : List Member). AreMembersDurable l t) (sym of.1) durable;
    now = now;
  }

  pub members_cause : (e : SurveyError) → IsSurveyed id synced (Err e) m t → MembersCause id ms (mount_error_of e) s t
  members_cause (NoMajority seen need) (read, two, told) = (
    read,
    later_read read two,
    told_before s m t (λ image. missing read (greatest (records_on id image read)) ≡ Some (seen, need)) first next (λ x y same is. sym (ap (λ (l : List Status). missing read (greatest l)) (records_before id read x y same)) ∙ is) told,
  )
  members_cause (Damaged slot block gone) (read, two, told) =
      cond_both gone error.NoGroup (error.Damaged slot block) (λ (e : MountError). MembersCause id ms e s t)
      (λ is. (read, later_read read two, gone_before read (λ now holds image was. let d = told now holds image was in record { enough = d.0; gone = d.2 ∙ ap Some is })))
      (λ stays. (
        read,
        later_read read two,
        told_before s m t (λ image. (missing read (greatest (records_on id image read)) ≡ None) × (first_damage image read ≡ Some (slot, block))) first next
            (λ x y same is. (sym (ap (λ (l : List Status). missing read (greatest l)) (records_before id read x y same)) ∙ is.0, sym (damage_before read x y same) ∙ is.1))
            (λ now holds image was. let d = told now holds image was in (d.0, d.1)),
      ))

  pub answer_surveyed : (answer : Result Surveyed SurveyError) → IsSurveyed id synced answer m t → IfOk answer (λ survey. (survey.id ≡ id) × (survey.members ≡ synced)) → IfOk answer (λ survey. IsSurveyNow survey t)
      → AreMembersDurable synced t → IfOk answer IsWellRead → IfOk (answer_of answer) (λ survey. AreSurveyed id ms survey s t)
  answer_surveyed (Err e) answered of now durable well = tt
  answer_surveyed (Ok survey) answered of now durable well =
      cond_both survey.value.gone (Err error.NoGroup) (Ok survey) (λ (a : Result Surveyed MountError). IfOk a (λ survey. AreSurveyed id ms survey s t))
      (λ is. tt) (λ stays. surveyed survey answered of now durable well stays)

  pub answer_cause : (answer : Result Surveyed SurveyError) → IsSurveyed id synced answer m t → IfErr (answer_of answer) (λ e. MembersCause id ms e s t)
  answer_cause (Err e) answered = members_cause e answered
  answer_cause (Ok survey) (read, two, told) =
      cond_both survey.value.gone (Err error.NoGroup) (Ok survey) (λ (a : Result Surveyed MountError). IfErr a (λ e. MembersCause id ms e s t))
      (λ is. (
        read,
        later_read read two,
        gone_before read (λ now holds image was. let d = told now holds image was in record {
          enough = d.enough;
          gone = ap (option_map (λ (r : Status). r.gone)) d.value_is ∙ ap Some is;
        }),
      )) (λ stays. tt)

-- ---- the found disks

module _ (n id : ℕ) (named : List Headed) (s t : BayState) {slots : ℕ → Type 0} (run : Runs slots Same s t) (keeps : KeepsAttached s t) (there : AreThere n named s) where
  now_there : AreThere n named t
  now_there = there_still n named s t run keeps there

  pub survey_is : (survey : Surveyed) → AreSurveyed id (members_with id named) survey s t → IsSurveyedNow n id survey t
  survey_is survey are =
      let among : (m : Member) → IsAmong survey.members m → IsAmong (members_with id named) m = kept_among (RoseAt s t) (members_with id named) survey.members are.are in
      record {
        id_is = are.id_is;
        slots = λ m h. members_attached id named t (there_attached n named t now_there) m (among m h);
        apart = apart_list survey.members (read_apart (RoseAt s t) (members_with id named) survey.members are.are (members_apart id named there.apart));
        numbers = λ m h. numbered n id named t now_there m (among m h);
        durable = are.durable;
        not_gone = are.not_gone;
        well = are.well;
        members = record { now = λ image left m h. subst (λ (k : ℕ). IsMemberOn n k image m) (sym are.id_is) (member_on n id named t now_there m (among m h) image left) };
        now = are.now;
      }
