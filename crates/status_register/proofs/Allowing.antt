-- What is read as a record is one of the formats, whatever the disks hold.
use Rattle.std.proofs.Common.{◌≡◌, ◌∙◌, ⊎_elim, ℕ, ◌++◌, Bool, true, false, cond, List, [], ◌∷◌, refl, sym, ap, subst, Option, Some, None, Result, Ok, Err, IfOk, IsTrue, ◌==◌}
use Rattle.std.specs.Option.{option_or}
use Rattle.std.proofs.lemmas.Bool.{and_parts, cond_both, eqb-true}
use Rattle.asm_formats.specs.asm_group.Names.{Bytes}
use Rattle.asm_formats.proofs.Codec.{spelled}
use Rattle.asm_formats.specs.Bytes.{spelled_by}
use Rattle.asm_formats.specs.Status.{Status, is_status, is_status_1, status_spelling, status_spelling_1, status_at, status_at_1, decoded_status}
use Rattle.asm_formats.specs.Among.{IsAmong}
use Rattle.asm_images.proofs.asm_placement.Membership.{among_split}
use Rattle.asm_images.specs.Members.{of_group}
use Rattle.asm_images.specs.Register.{greatest}
use Rattle.asm_images.proofs.History.{greatest_is}
use Rattle.status_register.specs.Answers.{Surveyed, Judges}
use Rattle.status_register.specs.Sayings.{IsAllowedStatus, IsOwnRecord, ShowsAllowed, none_or_one}
use Rattle.status_register.specs.Surveys.{AreRead, greater_of}
use Rattle.status_register.specs.declared.error.SurveyError.{SurveyError}
use Rattle.status_register.specs.declared.member.Member.{Member}
use Rattle.status_register.specs.declared.tally.Tally.{Tally}

allowed_by : (o : Option Status) → ((r : Status) → o ≡ Some r → IsTrue (is_status r)) → IsAllowedStatus o
allowed_by None each = tt
allowed_by (Some r) each = each r refl

either : (a b : Option Status) → IsAllowedStatus a → IsAllowedStatus b → IsAllowedStatus (option_or a b)
either None b one two = two
either (Some r) b one two = one

-- a block that is decoded
pub decoded_allowed : (bytes : Bytes) → IsAllowedStatus (decoded_status bytes)
unfolding decoded_status
decoded_allowed bytes = either (spelled_by is_status status_spelling bytes (status_at bytes)) (spelled_by is_status_1 status_spelling_1 bytes (status_at_1 bytes))
    (allowed_by (spelled_by is_status status_spelling bytes (status_at bytes)) (λ r is. (spelled is_status status_spelling bytes (status_at bytes) r is).allowed))
    (allowed_by (spelled_by is_status_1 status_spelling_1 bytes (status_at_1 bytes)) (λ r is. (and_parts (is_status r) (r.next_holders == 0) (spelled is_status_1 status_spelling_1 bytes (status_at_1 bytes) r is).allowed).0))

-- ---- the greatest record of both slots

own_allowed : (id : ℕ) (o : Option (Option Status)) → ShowsAllowed o → (r : Status) → IsAmong (of_group id (none_or_one o)) r → IsTrue (is_status r) × (r.id ≡ id)
own_allowed id None shows r h = absurd h
own_allowed id (Some None) shows r h = absurd h
own_allowed id (Some (Some k)) shows r h = cond_both (k.id == id) (k ∷ []) [] (λ (l : List Status). IsAmong l r → IsTrue (is_status r) × (r.id ≡ id))
    (λ is among. ⊎_elim
    (λ (same : r ≡ k). (subst (λ (x : Status). IsTrue (is_status x)) (sym same) shows, ap (λ (x : Status). x.id) same ∙ eqb-true k.id id is))
    (λ none. absurd none) among)
    (λ no none. absurd none) h

both_groups : (id : ℕ) (xs ys : List (Option Status)) → of_group id (xs ++ ys) ≡ of_group id xs ++ of_group id ys
both_groups id [] ys = refl
both_groups id (None ∷ xs) ys = both_groups id xs ys
both_groups id (Some k ∷ xs) ys = go (k.id == id) (both_groups id xs ys)
  where
    go : (b : Bool) → of_group id (xs ++ ys) ≡ of_group id xs ++ of_group id ys
        → cond b (k ∷ of_group id (xs ++ ys)) (of_group id (xs ++ ys)) ≡ cond b (k ∷ of_group id xs) (of_group id xs) ++ of_group id ys
    go true same = ap (λ (l : List Status). k ∷ l) same
    go false same = same

own_by : (id : ℕ) (o : Option Status) → ((r : Status) → o ≡ Some r → IsTrue (is_status r) × (r.id ≡ id)) → IsOwnRecord id o
own_by id None each = tt
own_by id (Some r) each = each r refl

pub greatest_own : (id : ℕ) (first second : Option (Option Status)) → ShowsAllowed first → ShowsAllowed second
    → IsOwnRecord id (greatest (of_group id (none_or_one first ++ none_or_one second)))
greatest_own id first second one two = own_by id (greatest (of_group id (none_or_one first ++ none_or_one second)))
    (λ r is. ⊎_elim (own_allowed id first one r) (own_allowed id second two r)
    (among_split (of_group id (none_or_one first)) (of_group id (none_or_one second)) r
    (subst (λ (l : List Status). IsAmong l r) (both_groups id (none_or_one first) (none_or_one second))
    (greatest_is (of_group id (none_or_one first ++ none_or_one second)) r is).among)))

-- ---- a member more

pub greater_own : (id : ℕ) (a b : Option Status) → IsOwnRecord id a → IsOwnRecord id b → IsOwnRecord id (greater_of a b)
greater_own id None b one two = two
greater_own id (Some r) None one two = one
greater_own id (Some r) (Some k) one two = cond_both _ (Some k) (Some r) (IsOwnRecord id) (λ less. two) (λ no. one)

-- ---- the answer

pub value_own : (id : ℕ) (ms : List Member) (tally : Tally) (answer : Result Surveyed SurveyError) → Judges id ms tally answer
    → IsOwnRecord id tally.status → IfOk answer (λ survey. IsTrue (is_status survey.value) × (survey.value.id ≡ id))
value_own id ms tally (Err e) judges own = tt
value_own id ms tally (Ok survey) judges own = subst (IsOwnRecord id) judges.value_is own

pub answer_read : (failed : ℕ → Type 0) (id : ℕ) (ms : List Member) (tally : Tally) (answer : Result Surveyed SurveyError) → Judges id ms tally answer → AreRead failed ms tally.read → IfOk answer (λ survey. AreRead failed ms survey.read)
answer_read failed id ms tally (Err e) judges are = tt
answer_read failed id ms tally (Ok survey) judges are = subst (λ (l : List Member). AreRead failed ms l) (sym judges.read_are) are
