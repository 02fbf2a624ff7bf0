-- The ids of a name, and what surveys told of them.
use Rattle.std.proofs.Common.{◌≡◌, ◌≢◌, ◌⊎◌, inl, inr, ⊎_elim, ℕ, Bool, true, false, List, [], ◌∷◌, ◌++◌, Option, Some, None, Result, Err, refl, sym, ◌∙◌, ap, subst, ◌==◌}
use Rattle.std.specs.Prelude.{nat_lt}
use Rattle.std.specs.List.{list_any}
use Rattle.std.proofs.lemmas.Bool.{cond_both, eq-eqb, eqb-true, false≢true, or_cases}
use Rattle.std.proofs.lemmas.Option.{none-some, same_Some}
use Rattle.bay.specs.State.{BayState}
use Rattle.asm_group.specs.Names.{Bytes, is_same_name}
use Rattle.asm_formats.specs.Among.{IsAmong}
use Rattle.group_recovery.specs.Founds.{HasTwo, first_of_two, later, is_whole, id_of_choice, id_unless_damaged}
use Rattle.group_recovery.specs.Verdicts.{AreJudged, IsJudged, choice_of, greater_short_id, ids_named, members_with, with_id}
use Rattle.group_recovery.specs.declared.choosing.Choice.{Choice}
use Rattle.group_recovery.specs.declared.choosing.ShortId.{ShortId}
use Rattle.group_recovery.specs.declared.choosing.Verdict.{Verdict}
use Rattle.group_recovery.specs.declared.choosing.Verdict.TheVariants.{Gone, Short, Whole}
use Rattle.group_recovery.specs.declared.choosing.WholeId.{WholeId}
use Rattle.group_recovery.specs.declared.error.MountError.{MountError}
use Rattle.group_recovery.specs.declared.error.MountError.TheVariants as error
use Rattle.group_recovery.specs.declared.finding.Headed.{Headed}

-- ---- the ids of a name

last_in : (ids : List ℕ) (id : ℕ) → IsAmong (ids ++ id ∷ []) id
last_in [] id = inl refl
last_in (k ∷ ids) id = inr (last_in ids id)

still_in : (ids : List ℕ) (id k : ℕ) → IsAmong ids k → IsAmong (ids ++ id ∷ []) k
still_in [] id k is = absurd is
still_in (x ∷ ids) id k is = ⊎_elim (λ here. inl here) (λ old. inr (still_in ids id k old)) is

old_or_last : (ids : List ℕ) (id k : ℕ) → IsAmong (ids ++ id ∷ []) k → IsAmong ids k ⊎ (k ≡ id)
old_or_last [] id k is = ⊎_elim (λ same. inr same) (λ none. absurd none) is
old_or_last (x ∷ ids) id k is = ⊎_elim (λ here. inl (inl here)) (λ more. ⊎_elim (λ old. inl (inr old)) (λ new. inr new) (old_or_last ids id k more)) is

any_in : (ids : List ℕ) (id : ℕ) → list_any (λ (n : ℕ). n == id) ids ≡ true → IsAmong ids id
any_in [] id is = absurd (false≢true is)
any_in (k ∷ ids) id is = ⊎_elim (λ (here : (k == id) ≡ true). inl (sym (eqb-true k id here))) (λ more. inr (any_in ids id more)) (or_cases (k == id) (list_any (λ (n : ℕ). n == id) ids) is)

in_any : (ids : List ℕ) (id : ℕ) → IsAmong ids id → list_any (λ (n : ℕ). n == id) ids ≡ true
in_any [] id is = absurd is
in_any (k ∷ ids) id is = first (k == id) refl (in_any ids id)
  where
    first : (b : Bool) → (k == id) ≡ b → (IsAmong ids id → list_any (λ (n : ℕ). n == id) ids ≡ true) → list_any (λ (n : ℕ). n == id) (k ∷ ids) ≡ true
    first true here rest = rw here refl
    first false differs rest = rw differs (⊎_elim (λ (same : id ≡ k). absurd (false≢true (sym differs ∙ eq-eqb k id (sym same)))) rest is)

with_own : (id : ℕ) (ids : List ℕ) → IsAmong (with_id id ids) id
with_own id ids = cond_both (list_any (λ (n : ℕ). n == id) ids) ids (ids ++ id ∷ []) (λ (l : List ℕ). IsAmong l id) (λ there. any_in ids id there) (λ new. last_in ids id)

with_old : (id : ℕ) (ids : List ℕ) (k : ℕ) → IsAmong ids k → IsAmong (with_id id ids) k
with_old id ids k is = cond_both (list_any (λ (n : ℕ). n == id) ids) ids (ids ++ id ∷ []) (λ (l : List ℕ). IsAmong l k) (λ there. is) (λ new. still_in ids id k is)

-- the id of a disk of the name is one of them
pub id_of_named : (name : Bytes) (hs : List Headed) (h : Headed) → IsAmong hs h → is_same_name h.header.group name ≡ true → IsAmong (ids_named name hs) h.header.id
id_of_named name [] h among named = absurd among
id_of_named name (x ∷ xs) h among named =
    cond_both (is_same_name x.header.group name) (with_id x.header.id (ids_named name xs)) (ids_named name xs) (λ (l : List ℕ). IsAmong l h.header.id)
    (λ yes. ⊎_elim (λ (same : h ≡ x). subst (λ (k : Headed). IsAmong (with_id x.header.id (ids_named name xs)) k.header.id) (sym same) (with_own x.header.id (ids_named name xs)))
    (λ old. with_old x.header.id (ids_named name xs) h.header.id (id_of_named name xs h old named)) among)
    (λ no. ⊎_elim (λ (same : h ≡ x). absurd (false≢true (sym no ∙ (ap (λ (k : Headed). is_same_name k.header.group name) (sym same) ∙ named)))) (λ old. id_of_named name xs h old named) among)

-- each is there once
abbrev AreOnce : List ℕ → Type 0
AreOnce [] = Unit {0}
AreOnce (id ∷ ids) = (IsAmong ids id → ⊥) × AreOnce ids

once_with : (ids : List ℕ) (id : ℕ) → (IsAmong ids id → ⊥) → AreOnce ids → AreOnce (ids ++ id ∷ [])
once_with [] id new once = ((λ none. none), tt)
once_with (k ∷ ids) id new once = (
  λ is. ⊎_elim (λ old. once.0 old) (λ (same : k ≡ id). new (inl (sym same))) (old_or_last ids id k is),
  once_with ids id (λ old. new (inr old)) once.1,
)

ids_once : (name : Bytes) (hs : List Headed) → AreOnce (ids_named name hs)
ids_once name [] = tt
ids_once name (h ∷ hs) =
    let rest = ids_once name hs in
    let ids = ids_named name hs in
    let id = h.header.id in
    cond_both (is_same_name h.header.group name) (with_id id ids) ids AreOnce
    (λ yes. cond_both (list_any (λ (n : ℕ). n == id) ids) ids (ids ++ id ∷ []) AreOnce (λ there. rest)
    (λ fresh. once_with ids id (λ is. false≢true (sym fresh ∙ in_any ids id is)) rest))
    (λ no. rest)

-- ---- what was told of them

-- the survey of an id by which it has a verdict
pub record WasJudged (hs : List Headed) (ids : List ℕ) (id : ℕ) (verdict : Verdict) (s t : BayState) : Type 0 where
  pub among : IsAmong ids id
  pub own : List ℕ
  pub judged : IsJudged id (members_with id hs) verdict own s t

abbrev Verdicts : Type 0
Verdicts = List (ℕ × Verdict)

one_more : (hs : List Headed) (k : ℕ) (ids : List ℕ) (id : ℕ) (verdict : Verdict) (s t : BayState) → WasJudged hs ids id verdict s t → WasJudged hs (k ∷ ids) id verdict s t
one_more hs k ids id verdict s t was = record { among = inr was.among; own = was.own; judged = was.judged }

pub was_judged : (hs : List Headed) (ids : List ℕ) (verdicts : Verdicts) (unread : List ℕ) (s t : BayState) → AreJudged hs ids verdicts unread s t → (v : ℕ × Verdict) → IsAmong verdicts v
    → WasJudged hs ids v.0 v.1 s t
was_judged hs [] verdicts unread s t are v among = absurd (subst (λ (l : Verdicts). IsAmong l v) are.0 among)
was_judged hs (id ∷ ids) verdicts unread s t (verdict, own, others, more, is, makes, judged, rest) v among = ⊎_elim
    (λ (here : v ≡ (id, verdict)). subst (λ (w : ℕ × Verdict). WasJudged hs (id ∷ ids) w.0 w.1 s t) (sym here) (record { among = inl refl; own = own; judged = judged }))
    (λ old. one_more hs id ids v.0 v.1 s t (was_judged hs ids others more s t rest v old))
    (subst (λ (l : Verdicts). IsAmong l v) is among)

pub has_verdict : (hs : List Headed) (ids : List ℕ) (verdicts : Verdicts) (unread : List ℕ) (s t : BayState) → AreJudged hs ids verdicts unread s t → (id : ℕ) → IsAmong ids id
    → (verdict : Verdict) × IsAmong verdicts (id, verdict)
has_verdict hs [] verdicts unread s t are id among = absurd among
has_verdict hs (k ∷ ids) verdicts unread s t (verdict, own, others, more, is, makes, judged, rest) id among = ⊎_elim
    (λ (here : id ≡ k). (verdict, subst (λ (l : Verdicts). IsAmong l (id, verdict)) (sym is) (inl (ap (λ (i : ℕ). let v : ℕ × Verdict = (i, verdict) in v) here))))
    (λ old. let v = has_verdict hs ids others more s t rest id old in (v.0, subst (λ (l : Verdicts). IsAmong l (id, v.0)) (sym is) (inr v.1)))
    among

-- ---- two of them

pub record AreTwo (hs : List Headed) (ids : List ℕ) (s t : BayState) : Type 0 where
  pub one : ℕ × Verdict
  pub other : ℕ × Verdict
  pub one_whole : is_whole one.1 ≡ true
  pub other_whole : is_whole other.1 ≡ true
  pub apart : one.0 ≢ other.0
  pub one_judged : WasJudged hs ids one.0 one.1 s t
  pub other_judged : WasJudged hs ids other.0 other.1 s t

two_by : (hs : List Headed) (ids : List ℕ) (verdicts : Verdicts) (unread : List ℕ) (s t : BayState) → AreOnce ids → AreJudged hs ids verdicts unread s t → HasTwo verdicts → AreTwo hs ids s t
two_by hs [] verdicts unread s t once are two = absurd (none verdicts are.0 two)
  where
    none : (vs : Verdicts) → vs ≡ [] → HasTwo vs → ⊥
    none vs empty (first_of_two v w rest vw among ww) = absurd cc
    none vs empty (later v rest more) = absurd cc
two_by hs (id ∷ ids) verdicts unread s t once (verdict, own, others, more, is, makes, judged, rest) two = go (subst HasTwo is two) (two_by hs ids others more s t once.1 rest)
  where
    go : HasTwo ((id, verdict) ∷ others) → (HasTwo others → AreTwo hs ids s t) → AreTwo hs (id ∷ ids) s t
    go (first_of_two v w vs whole among other_whole) behind =
        let second = was_judged hs ids others more s t rest w among in
        record {
          one = (id, verdict);
          other = w;
          one_whole = whole;
          other_whole = other_whole;
          apart = λ (same : id ≡ w.0). once.0 (subst (λ (k : ℕ). IsAmong ids k) (sym same) second.among);
          one_judged = record { among = inl refl; own = own; judged = judged };
          other_judged = one_more hs id ids w.0 w.1 s t second;
        }
    go (later v vs more_two) behind =
        let old = behind more_two in
        record {
          one = old.one;
          other = old.other;
          one_whole = old.one_whole;
          other_whole = old.other_whole;
          apart = old.apart;
          one_judged = one_more hs id ids old.one.0 old.one.1 s t old.one_judged;
          other_judged = one_more hs id ids old.other.0 old.other.1 s t old.other_judged;
        }

pub two_judged : (name : Bytes) (hs : List Headed) (verdicts : Verdicts) (unread : List ℕ) (s t : BayState) → AreJudged hs (ids_named name hs) verdicts unread s t → HasTwo verdicts → AreTwo hs (ids_named name hs) s t
two_judged name hs verdicts unread s t are two = two_by hs (ids_named name hs) verdicts unread s t (ids_once name hs) are two

-- ---- the choice

short_one : (a : ShortId) (o : Option ShortId) (b : ShortId) → Some (greater_short_id a o) ≡ Some b → (b ≡ a) ⊎ (o ≡ Some b)
short_one a None b is = inl (sym (same_Some a b is))
short_one a (Some c) b is =
    cond_both (nat_lt a.id c.id) c a (λ (k : ShortId). Some k ≡ Some b → (b ≡ a) ⊎ (Some c ≡ Some b))
    (λ less e. inr e) (λ more e. inl (sym (same_Some a b e))) is

abbrev verdict_short : ShortId → ℕ × Verdict
verdict_short short = (short.id, Short short.seen short.need)

pub short_among : (verdicts : Verdicts) (short : ShortId) → (choice_of verdicts).short ≡ Some short → IsAmong verdicts (verdict_short short)
short_among [] short is = absurd (none-some short is)
short_among ((id, Gone) ∷ vs) short is = inr (short_among vs short is)
short_among ((id, Whole damage) ∷ vs) short is = inr (short_among vs short is)
short_among ((id, Short seen need) ∷ vs) short is = ⊎_elim
    (λ (same : short ≡ record { id = id; seen = seen; need = need }). inl (ap verdict_short same))
    (λ old. inr (short_among vs short old))
    (short_one (record { id = id; seen = seen; need = need }) (choice_of vs).short short is)

abbrev verdict_whole : WholeId → ℕ × Verdict
verdict_whole whole = (whole.id, Whole whole.damage)

pub whole_among : (verdicts : Verdicts) (whole : WholeId) → (choice_of verdicts).whole ≡ Some whole → IsAmong verdicts (verdict_whole whole)
whole_among [] whole is = absurd (none-some whole is)
whole_among ((id, Gone) ∷ vs) whole is = inr (whole_among vs whole is)
whole_among ((id, Short seen need) ∷ vs) whole is = inr (whole_among vs whole is)
whole_among ((id, Whole damage) ∷ vs) whole is = inl (ap verdict_whole (sym (same_Some (record { id = id; damage = damage }) whole is)))

-- why no id was taken, by the choice
abbrev pub NotTaken : Choice → MountError → Type 0
NotTaken choice error.NoGroup = (choice.whole ≡ None) × (choice.short ≡ None)
NotTaken choice error.TwoGroups = choice.are_two ≡ true
NotTaken choice (error.NoMajority seen need) = (short : ShortId) × (choice.short ≡ Some short) × (short.seen ≡ seen) × (short.need ≡ need)
NotTaken choice (error.Damaged slot block) = (whole : WholeId) × (choice.whole ≡ Some whole) × (whole.damage ≡ Some (slot, block))
NotTaken choice other = ⊥

same_err : (a b : MountError) → (let x : Result ℕ MountError = Err a in x ≡ Err b) → a ≡ b
same_err a b e = cc

pub not_taken : (choice : Choice) (e : MountError) → id_of_choice choice ≡ Err e → NotTaken choice e
not_taken choice e is = go choice.whole choice.are_two choice.short is
  where
    damaged : (id : ℕ) (damage : Option (ℕ × ℕ)) (short : Option ShortId) → id_unless_damaged (record { id = id; damage = damage }) ≡ Err e
        → NotTaken (record { whole = Some (record { id = id; damage = damage }); are_two = false; short = short }) e
    damaged id None short refused = absurd cc
    damaged id (Some place) short refused =
        subst (λ (k : MountError). NotTaken (record { whole = Some (record { id = id; damage = Some place }); are_two = false; short = short }) k) (same_err (error.Damaged place.0 place.1) e refused)
        (record { id = id; damage = Some place }, refl, refl)

    go : (whole : Option WholeId) (two : Bool) (short : Option ShortId) → id_of_choice (record { whole = whole; are_two = two; short = short }) ≡ Err e
        → NotTaken (record { whole = whole; are_two = two; short = short }) e
    go whole true short refused = subst (λ (k : MountError). NotTaken (record { whole = whole; are_two = true; short = short }) k) (same_err error.TwoGroups e refused) refl
    go None false None refused = subst (λ (k : MountError). NotTaken (record { whole = None; are_two = false; short = None }) k) (same_err error.NoGroup e refused) (refl, refl)
    go None false (Some short) refused =
        subst (λ (k : MountError). NotTaken (record { whole = None; are_two = false; short = Some short }) k) (same_err (error.NoMajority short.seen short.need) e refused) (short, refl, refl, refl)
    go (Some whole) false short refused = damaged whole.id whole.damage short refused
