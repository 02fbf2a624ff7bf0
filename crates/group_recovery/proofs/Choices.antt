-- Surveys of ids, one after another.
use Rattle.std.proofs.Common.{◌≡◌, inl, inr, ⊎_elim, ℕ, ◌+◌, ◌*◌, ◌-◌, ◌≤◌, Bool, true, false, if◌then◌else◌, List, [], ◌∷◌, ◌++◌, length, take, drop, get_or, flat_map, refl, sym, ap, subst, ◌∙◌, Option, arith, Result, Ok, Err, IfOk, ◌==◌}
use Rattle.std.specs.Option.{option_map, option_or}
use Rattle.std.specs.List.{list_any}
use Rattle.std.specs.Prelude.{◌||◌}
use Rattle.asm_group.specs.Names.{Bytes, is_same_name}
use Rattle.std.proofs.lemmas.Bool.{cond_both, eqb-true, eq-eqb, false≢true}
use Rattle.std.proofs.lemmas.List.{take_all}
use Rattle.std.proofs.lemmas.Result.{IfOk-weaker}
use Rattle.asm_formats.specs.Status.{Status}
use Rattle.status_register.proofs.Filling.{still_slots}
use Rattle.bay.specs.Image.{Image, Same}
use Rattle.bay.specs.State.{BayState, KeepsAttached}
use Rattle.bay.specs.Counts.{Rose}
use Rattle.bay.specs.Moments.{Runs}
use Rattle.asm_formats.specs.Damage.{body_damage}
use Rattle.asm_formats.specs.Metadata.{metadata}
use Rattle.asm_formats.specs.Among.{IsAmong}
use Rattle.asm_placement.proofs.Membership.{among_split}
use Rattle.asm_images.specs.Members.{claims_of_group, of_group}
use Rattle.asm_images.specs.Register.{greatest}
use Rattle.asm_images.proofs.Bridges.{same_disk}
use Rattle.status_register.specs.Answers.{Surveyed, IsAnswer}
use Rattle.status_register.specs.Places.{HasSlots}
use Rattle.status_register.specs.Surveys.{AreRead, none_yet, one_read, one_failed, claims_on, records_on, greatest_epoch, first_damage}
use Rattle.status_register.specs.declared.error.SurveyError.{SurveyError}
use Rattle.status_register.specs.declared.member.Member.{Member}
use Rattle.status_register.proofs.Tallying.{RoseAt, still_read}
use Rattle.group_recovery.specs.Verdicts.{member_of, members_with, with_id, has_slot, ids_named, calls_to_survey, unread_by, unread_of, AreAttached, IsSlotIn, IsJudged, AreJudged, with_verdict, Chooses}
use Rattle.group_recovery.specs.declared.choosing.Choice.{Choice}
use Rattle.group_recovery.specs.declared.choosing.Verdict.{Verdict}
use Rattle.group_recovery.specs.declared.finding.Headed.{Headed}
use Rattle.bay.proofs.Telling.{told_before, told_later}
use Rattle.group_recovery.proofs.Told.{rose_before, rose_later}

-- ---- members of an id

-- a member of an id is that of one of the disks
pub member_from : (id : ℕ) (hs : List Headed) (m : Member) → IsAmong (members_with id hs) m → (h : Headed) × IsAmong hs h × (m ≡ member_of h)
member_from id [] m h = absurd h
member_from id (x ∷ xs) m h =
    let later : IsAmong (members_with id xs) m → (k : Headed) × IsAmong xs k × (m ≡ member_of k) = member_from id xs m in
    cond_both (x.header.id == id) (member_of x ∷ members_with id xs) (members_with id xs) (λ (l : List Member). IsAmong l m → (k : Headed) × IsAmong (x ∷ xs) k × (m ≡ member_of k))
    (λ is a. ⊎_elim (λ e. (x, inl refl, e)) (λ b. let k = later b in (k.0, inr k.1, k.2)) a)
    (λ no a. let k = later a in (k.0, inr k.1, k.2)) h

-- an id has at most as many members as there are disks
pub fewer_members : (id : ℕ) (hs : List Headed) → length (members_with id hs) ≤ length hs
fewer_members id [] = omega arith
fewer_members id (x ∷ xs) =
    let rest = fewer_members id xs in
    cond_both (x.header.id == id) (member_of x ∷ members_with id xs) (members_with id xs) (λ (l : List Member). length l ≤ length (x ∷ xs))
    (λ is. omega (arith, rest)) (λ no. omega (arith, rest))

pub members_attached : (id : ℕ) (hs : List Headed) (state : BayState) → AreAttached hs state → (m : Member) → IsAmong (members_with id hs) m → HasSlots state m.slot m.sector
members_attached id hs state all m h =
    let k = member_from id hs m h in
    subst (λ (x : Member). HasSlots state x.slot x.sector) (sym k.2) (all k.0 k.1)

pub members_in : (id : ℕ) (hs : List Headed) (slot : ℕ) → ((m : Member) × IsAmong (members_with id hs) m × (slot ≡ m.slot)) → IsSlotIn hs slot
members_in id hs slot of =
    let k = member_from id hs of.0 of.1 in
    (k.0, k.1, of.2 ∙ ap (λ (x : Member). x.slot) k.2)

pub attached_still : (hs : List Headed) (s t : BayState) → KeepsAttached s t → AreAttached hs s → AreAttached hs t
attached_still hs s t keeps all h among = still_slots (all h among) keeps

-- ---- one survey between two moments

module _ (id : ℕ) (ms read : List Member) (answer : Result Surveyed SurveyError) where
  -- what is answered depends on the disks
  abbrev AnswersBy : Image → Type 0
  AnswersBy image = IsAnswer id ms read (greatest_epoch (claims_on id image read)) (greatest (records_on id image read)) (first_damage image read) answer

  damage_same : (x y : Image) → Same x y → (ns : List Member) → first_damage y ns ≡ first_damage x ns
  unfolding first_damage
  damage_same x y same [] = refl
  damage_same x y same (m ∷ ns) = λ i. option_or (option_map (λ block. (m.slot, block)) (body_damage (same_disk x y m.slot (same.size m.slot) (same.byte m.slot) i))) (damage_same x y same ns i)

  claims_same : (x y : Image) → Same x y → claims_on id y read ≡ claims_on id x read
  unfolding claims_on
  claims_same x y same = λ i. flat_map (λ (m : Member). claims_of_group id (metadata (same_disk x y m.slot (same.size m.slot) (same.byte m.slot) i)).claims) read

  records_same : (x y : Image) → Same x y → records_on id y read ≡ records_on id x read
  unfolding records_on
  records_same x y same = λ i. flat_map (λ (m : Member). of_group id (metadata (same_disk x y m.slot (same.size m.slot) (same.byte m.slot) i)).statuses) read

  answers_same : (x y : Image) → Same x y → AnswersBy y → AnswersBy x
  answers_same x y same is =
      subst (λ (o : Option (ℕ × ℕ)). IsAnswer id ms read (greatest_epoch (claims_on id x read)) (greatest (records_on id x read)) o answer) (damage_same x y same read)
      (subst (λ (o : Option Status). IsAnswer id ms read (greatest_epoch (claims_on id x read)) o (first_damage y read) answer) (ap greatest (records_same x y same))
      (subst (λ (n : ℕ). IsAnswer id ms read n (greatest (records_on id y read)) (first_damage y read) answer) (ap greatest_epoch (claims_same x y same)) is))

-- the same records and damage on the same disks
pub records_before : (id : ℕ) (read : List Member) (x y : Image) → Same x y → records_on id y read ≡ records_on id x read
unfolding records_on
records_before id read x y same = λ i. flat_map (λ (m : Member). of_group id (metadata (same_disk x y m.slot (same.size m.slot) (same.byte m.slot) i)).statuses) read

pub damage_before : (ns : List Member) (x y : Image) → Same x y → first_damage y ns ≡ first_damage x ns
unfolding first_damage
damage_before [] x y same = refl
damage_before (m ∷ ns) x y same = λ i. option_or (option_map (λ block. (m.slot, block)) (body_damage (same_disk x y m.slot (same.size m.slot) (same.byte m.slot) i))) (damage_before ns x y same i)

module _ (s m t : BayState) (id : ℕ) (ms : List Member) (verdict : Verdict) (unread : List ℕ) where
  pub judged_later : {later : ℕ → Type 0} {step : Image → Image → Type 0} → Runs later step m t → IsJudged id ms verdict unread s m → IsJudged id ms verdict unread s t
  judged_later next judged = record {
    answer = judged.answer;
    verdict_is = judged.verdict_is;
    unread_are = judged.unread_are;
    surveyed = let (read, are, told) = judged.surveyed in (
      read,
      wider ms read are,
      told_later s m t (AnswersBy id ms read judged.answer) next told,
    );
    read = IfOk-weaker judged.answer _ _ (λ survey are. wider ms survey.read are) judged.read;
  }
    where
      wider : (ks read : List Member) → AreRead (RoseAt s m) ks read → AreRead (RoseAt s t) ks read
      wider = still_read (RoseAt s m) (RoseAt s t) (λ slot rose. rose_later (s.faults slot) (m.faults slot) (t.faults slot) (next.faults slot) rose)

  pub judged_before : {early later : ℕ → Type 0} → Runs early Same s m → Runs later Same m t → IsJudged id ms verdict unread m t → IsJudged id ms verdict unread s t
  judged_before first next judged = record {
    answer = judged.answer;
    verdict_is = judged.verdict_is;
    unread_are = judged.unread_are;
    surveyed = let (read, are, told) = judged.surveyed in (
      read,
      wider ms read are,
      told_before s m t (AnswersBy id ms read judged.answer) first next (answers_same id ms read judged.answer) told,
    );
    read = IfOk-weaker judged.answer _ _ (λ survey are. wider ms survey.read are) judged.read;
  }
    where
      wider : (ks read : List Member) → AreRead (RoseAt m t) ks read → AreRead (RoseAt s t) ks read
      wider = still_read (RoseAt m t) (RoseAt s t) (λ slot rose. rose_before (s.faults slot) (m.faults slot) (t.faults slot) (first.faults slot) rose)

-- ---- several

pub all_before : (s m t : BayState) {early later : ℕ → Type 0} (first : Runs early Same s m) (next : Runs later Same m t) (hs : List Headed) (ids : List ℕ) (verdicts : List (ℕ × Verdict)) (unread : List ℕ)
    → AreJudged hs ids verdicts unread m t → AreJudged hs ids verdicts unread s t
all_before s m t first next hs [] verdicts unread are = are
all_before s m t first next hs (id ∷ ids) verdicts unread (verdict, own, others, later, is, makes, judged, rest) =
    (verdict, own, others, later, is, makes, judged_before s m t id (members_with id hs) verdict own first next judged, all_before s m t first next hs ids others later rest)

-- one id, and then the others
pub chooses_more : (s m t : BayState) {early later : ℕ → Type 0} (first : Runs early Same s m) (next : Runs later Same m t) (hs : List Headed) (id : ℕ) (ids : List ℕ) (verdict : Verdict) (own more : List ℕ)
    (choice all : Choice) → IsJudged id (members_with id hs) verdict own s m → Chooses hs ids choice more m t → all ≡ with_verdict id verdict choice → Chooses hs (id ∷ ids) all (own ++ more) s t
chooses_more s m t first next hs id ids verdict own more choice all judged (verdicts, are, is) e = (
  (id, verdict) ∷ verdicts,
  (verdict, own, verdicts, more, refl, refl, judged_later s m t id (members_with id hs) verdict own next judged, all_before s m t first next hs ids verdicts more are),
  e ∙ ap (with_verdict id verdict) is,
)

-- ---- members that were left unread

any_split : (test : Member → Bool) (xs : List Member) (x : Member) → list_any test (xs ++ x ∷ []) ≡ false → (list_any test xs ≡ false) × (test x ≡ false)
any_split test [] x none = (refl, last (test x) none)
  where
    last : (b : Bool) → (b || false) ≡ false → b ≡ false
    last true e = e
    last false e = e
any_split test (y ∷ ys) x none = go (test y) none (any_split test ys x)
  where
    go : (b : Bool) → (b || list_any test (ys ++ x ∷ [])) ≡ false → (list_any test (ys ++ x ∷ []) ≡ false → (list_any test ys ≡ false) × (test x ≡ false))
        → ((b || list_any test ys) ≡ false) × (test x ≡ false)
    go true e later = absurd (false≢true (sym e))
    go false e later = later e

-- of those that were read nothing is left out but where a slot failed
unread_of_failed : (failed : ℕ → Type 0) (ms read : List Member) → AreRead failed ms read → (m : Member) → IsAmong ms m → has_slot read m.slot ≡ false → failed m.slot
unread_of_failed failed ms read none_yet m among unread = absurd among
unread_of_failed failed ms read (one_read before earlier k are) m among unread =
    let parts = any_split (λ (x : Member). x.slot == m.slot) earlier k unread in
    ⊎_elim (λ old. unread_of_failed failed before earlier are m old parts.0)
    (λ last. ⊎_elim (λ (e : m ≡ k). absurd (false≢true (sym parts.1 ∙ eq-eqb k.slot m.slot (ap (λ (x : Member). x.slot) (sym e))))) (λ none. absurd none) last)
    (among_split before (k ∷ []) m among)
unread_of_failed failed ms read (one_failed before earlier k fail are) m among unread =
    ⊎_elim (λ old. unread_of_failed failed before earlier are m old unread)
    (λ last. ⊎_elim (λ (e : m ≡ k). subst (λ (x : Member). failed x.slot) (sym e) fail) (λ none. absurd none) last)
    (among_split before (k ∷ []) m among)

-- each slot that is left is that of a member
unread_from : (read ms : List Member) (slot : ℕ) → IsAmong (unread_of read ms) slot → (m : Member) × IsAmong ms m × (m.slot ≡ slot) × (has_slot read m.slot ≡ false)
unread_from read [] slot among = absurd among
unread_from read (k ∷ ms) slot among =
    let later : IsAmong (unread_of read ms) slot → (m : Member) × IsAmong (k ∷ ms) m × (m.slot ≡ slot) × (has_slot read m.slot ≡ false) = λ old. let m = unread_from read ms slot old in (m.0, inr m.1, m.2, m.3) in
    cond_both (has_slot read k.slot) (unread_of read ms) (k.slot ∷ unread_of read ms) (λ (l : List ℕ). IsAmong l slot → (m : Member) × IsAmong (k ∷ ms) m × (m.slot ≡ slot) × (has_slot read m.slot ≡ false))
    (λ is. later)
    (λ no. λ a. ⊎_elim (λ (e : slot ≡ k.slot). (k, inl refl, sym e, no)) later a) among

-- what an answer leaves unread failed
answer_failed : (failed : ℕ → Type 0) (ms : List Member) (answer : Result Surveyed SurveyError) → IfOk answer (λ survey. AreRead failed ms survey.read) → (slot : ℕ) → IsAmong (unread_by ms answer) slot → failed slot
answer_failed failed ms (Err e) are slot among = absurd among
answer_failed failed ms (Ok survey) are slot among =
    let m = unread_from survey.read ms slot among in
    subst failed m.2 (unread_of_failed failed ms survey.read are m.0 m.1 m.3)

pub unread_failed : (s t : BayState) (hs : List Headed) (ids : List ℕ) (verdicts : List (ℕ × Verdict)) (unread : List ℕ) → AreJudged hs ids verdicts unread s t → (slot : ℕ) → IsAmong unread slot
    → Rose (s.faults slot) (t.faults slot)
unread_failed s t hs [] verdicts unread are slot among = absurd (subst (λ (l : List ℕ). IsAmong l slot) are.1 among)
unread_failed s t hs (id ∷ ids) verdicts unread (verdict, own, others, later, is, makes, judged, rest) slot among = ⊎_elim
    (λ here. answer_failed (RoseAt s t) (members_with id hs) judged.answer judged.read slot (subst (λ (l : List ℕ). IsAmong l slot) judged.unread_are here))
    (λ there. unread_failed s t hs ids others later rest slot there)
    (among_split own later slot (subst (λ (l : List ℕ). IsAmong l slot) makes among))

-- a list by its first item and the others
pub first_and_rest : (xs : List ℕ) → 1 ≤ length xs → xs ≡ get_or xs 0 0 ∷ take (length xs - 1) (drop 1 xs)
first_and_rest [] some = absurd (omega (arith, some))
first_and_rest (y ∷ ys) some =
    let n : ℕ = length (y ∷ ys) - 1 in
    let all : take n ys ≡ ys = take_all n ys (omega arith) in
    ap (λ zs. y ∷ zs) (sym all)

-- ---- what surveys cost

-- how often a number stands in a list
abbrev hits : ℕ → List ℕ → ℕ
hits n [] = 0
hits n (i ∷ is) = if n == i then 1 + hits n is else hits n is

hits_end : (n i : ℕ) (is : List ℕ) → hits n (is ++ i ∷ []) ≡ hits n is + (if n == i then 1 else 0)
hits_end n i [] = go (n == i)
  where
    go : (b : Bool) → (if b then 1 + 0 else 0) ≡ 0 + (if b then 1 else 0)
    go true = refl
    go false = refl
hits_end n i (j ∷ is) = go (n == j) (hits n (is ++ i ∷ [])) (hits n is) (if n == i then 1 else 0) (hits_end n i is)
  where
    go : (b : Bool) (k l more : ℕ) → k ≡ l + more → (if b then 1 + k else k) ≡ (if b then 1 + l else l) + more
    go true k l more e = omega (arith, e)
    go false k l more e = e

none_hit : (n : ℕ) (is : List ℕ) → list_any (λ (j : ℕ). j == n) is ≡ false → hits n is ≡ 0
none_hit n [] none = refl
none_hit n (i ∷ is) none = go (n == i) refl (none_hit n is (later (i == n) none))
  where
    later : (b : Bool) → (b || list_any (λ (j : ℕ). j == n) is) ≡ false → list_any (λ (j : ℕ). j == n) is ≡ false
    later true e = absurd (false≢true (sym e))
    later false e = e

    go : (b : Bool) → (n == i) ≡ b → hits n is ≡ 0 → hits n (i ∷ is) ≡ 0
    go true e rest = absurd (false≢true (sym none ∙ ap (λ (b : Bool). b || list_any (λ (j : ℕ). j == n) is) (eq-eqb i n (sym (eqb-true n i e)))))
    go false e rest = ap (λ (b : Bool). if b then 1 + hits n is else hits n is) e ∙ rest

with_one : (n id : ℕ) (ids : List ℕ) → hits n ids ≤ 1 → hits n (with_id id ids) ≤ 1
with_one n id ids few = cond_both (list_any (λ (j : ℕ). j == id) ids) ids (ids ++ id ∷ []) (λ (l : List ℕ). hits n l ≤ 1) (λ is. few)
    (λ fresh. cond_both (n == id) 1 0 (λ (k : ℕ). hits n (ids ++ id ∷ []) ≡ hits n ids + k → hits n (ids ++ id ∷ []) ≤ 1)
    (λ same e. omega (arith, e, none_hit n ids (subst (λ (m : ℕ). list_any (λ (j : ℕ). j == m) ids ≡ false) (sym (eqb-true n id same)) fresh)))
    (λ differ e. omega (arith, e, few)) (hits_end n id ids))

one_hit : (n : ℕ) (name : Bytes) (hs : List Headed) → hits n (ids_named name hs) ≤ 1
one_hit n name [] = omega arith
one_hit n name (x ∷ xs) =
    let rest = one_hit n name xs in
    cond_both (is_same_name x.header.group name) (with_id x.header.id (ids_named name xs)) (ids_named name xs) (λ (l : List ℕ). hits n l ≤ 1)
    (λ is. with_one n x.header.id (ids_named name xs) rest) (λ no. rest)

none_cost : (ids : List ℕ) → calls_to_survey [] ids ≡ 0
none_cost [] = refl
none_cost (id ∷ ids) = omega (arith, none_cost ids)

one_costs : (h : Headed) (hs : List Headed) (ids : List ℕ) → calls_to_survey (h ∷ hs) ids ≡ calls_to_survey hs ids + 8 * hits h.header.id ids
one_costs h hs [] = omega arith
one_costs h hs (id ∷ ids) =
    go (h.header.id == id) (members_with id hs) (calls_to_survey (h ∷ hs) ids) (calls_to_survey hs ids) (hits h.header.id ids) (one_costs h hs ids)
  where
    go : (b : Bool) (ms : List Member) (c d k : ℕ) → c ≡ d + 8 * k
        → 8 * length (if b then member_of h ∷ ms else ms) + c ≡ (8 * length ms + d) + 8 * (if b then 1 + k else k)
    go true ms c d k e = omega (arith, e)
    go false ms c d k e = omega (arith, e)

-- each disk is surveyed once
pub named_cost : (name : Bytes) (hs : List Headed) → calls_to_survey hs (ids_named name hs) ≤ 8 * length hs
named_cost name hs = go hs (ids_named name hs) (λ n. one_hit n name hs)
  where
    go : (ks : List Headed) (ids : List ℕ) → ((n : ℕ) → hits n ids ≤ 1) → calls_to_survey ks ids ≤ 8 * length ks
    go [] ids few = omega (arith, none_cost ids)
    go (k ∷ ks) ids few = omega (arith, one_costs k ks ids, go ks ids few, few k.header.id)

-- the same of what a search hands on
pub search_cost : (name : Bytes) (hs seen : List Headed) (ids : List ℕ) → seen ≡ hs → ids ≡ ids_named name hs → calls_to_survey seen ids ≤ 8 * length hs
search_cost name hs seen ids same are =
    subst (λ (l : List Headed). calls_to_survey l ids ≤ 8 * length hs) (sym same)
    (subst (λ (l : List ℕ). calls_to_survey hs l ≤ 8 * length hs) (sym are) (named_cost name hs))
