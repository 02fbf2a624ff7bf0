-- The id that is taken is that of an image with the name.
use Rattle.std.proofs.Common.{◌≡◌, ◌⊎◌, inl, inr, ⊎_elim, ℕ, Bool, true, false, List, [], ◌∷◌, ◌++◌, Option, Some, None, Result, Ok, refl, sym, ◌∙◌, ap, subst, ◌==◌}
use Rattle.std.specs.List.{list_any}
use Rattle.std.proofs.lemmas.Bool.{cond_both}
use Rattle.std.proofs.lemmas.Option.{none-some, same_Some}
use Rattle.bay.specs.State.{BayState}
use Rattle.asm_group.specs.Names.{Bytes, is_same_name}
use Rattle.asm_formats.specs.Among.{IsAmong}
use Rattle.group_recovery.specs.Founds.{id_of_choice, id_unless_damaged}
use Rattle.group_recovery.specs.Verdicts.{AreJudged, Chooses, choice_of, ids_named, with_id, with_verdict}
use Rattle.group_recovery.specs.declared.choosing.Choice.{Choice}
use Rattle.group_recovery.specs.declared.choosing.ShortId.{ShortId}
use Rattle.group_recovery.specs.declared.choosing.Verdict.{Verdict}
use Rattle.group_recovery.specs.declared.choosing.Verdict.TheVariants.{Gone, Short, Whole}
use Rattle.group_recovery.specs.declared.choosing.WholeId.{WholeId}
use Rattle.group_recovery.specs.declared.error.MountError.{MountError}
use Rattle.group_recovery.specs.declared.finding.Headed.{Headed}

-- one of these has the id and the name
pub record IsNamedIn (id : ℕ) (name : Bytes) (hs : List Headed) : Type 0 where
  pub headed : Headed
  pub among : IsAmong hs headed
  pub member : headed.header.id ≡ id
  pub named : is_same_name headed.header.group name ≡ true

-- ---- the ids of a name

among_last : (ids : List ℕ) (id x : ℕ) → IsAmong (ids ++ id ∷ []) x → (x ≡ id) ⊎ IsAmong ids x
among_last [] id x (inl same) = inl same
among_last [] id x (inr none) = absurd none
among_last (k ∷ ids) id x (inl same) = inr (inl same)
among_last (k ∷ ids) id x (inr later) = ⊎_elim (λ same. inl same) (λ old. inr (inr old)) (among_last ids id x later)

among_with : (id : ℕ) (ids : List ℕ) (x : ℕ) → IsAmong (with_id id ids) x → (x ≡ id) ⊎ IsAmong ids x
among_with id ids x is = cond_both (list_any (λ (n : ℕ). n == id) ids) ids (ids ++ id ∷ []) (λ (l : List ℕ). IsAmong l x → (x ≡ id) ⊎ IsAmong ids x) (λ there old. inr old) (λ new. among_last ids id x) is

pub has_name : (name : Bytes) (hs : List Headed) (id : ℕ) → IsAmong (ids_named name hs) id → IsNamedIn id name hs
has_name name [] id is = absurd is
has_name name (h ∷ hs) id is =
    let later : IsAmong (ids_named name hs) id → IsNamedIn id name (h ∷ hs) = λ old. let k = has_name name hs id old in record { headed = k.headed; among = inr k.among; member = k.member; named = k.named } in
    cond_both (is_same_name h.header.group name) (with_id h.header.id (ids_named name hs)) (ids_named name hs) (λ (l : List ℕ). IsAmong l id → IsNamedIn id name (h ∷ hs))
    (λ named among. ⊎_elim (λ (same : id ≡ h.header.id). record { headed = h; among = inl refl; member = sym same; named = named }) later (among_with h.header.id (ids_named name hs) id among))
    (λ no. later) is

-- ---- the id that is taken

same_ok : (a b : ℕ) → (let e : Result ℕ MountError = Ok a in e ≡ Ok b) → a ≡ b
same_ok a b e = cc

whole_id : (id : ℕ) (damage : Option (ℕ × ℕ)) (k : ℕ) → id_unless_damaged (record { id = id; damage = damage }) ≡ Ok k → id ≡ k
whole_id id None k is = same_ok id k is
whole_id id (Some place) k is = absurd cc

-- it is whole
taken_whole : (whole : Option WholeId) (two : Bool) (short : Option ShortId) (id : ℕ) → id_of_choice (record { whole = whole; are_two = two; short = short }) ≡ Ok id → (w : WholeId) × (whole ≡ Some w) × (w.id ≡ id)
taken_whole whole true short id is = absurd cc
taken_whole None false short id is = absurd cc
taken_whole (Some w) false short id is = (w, refl, whole_id w.id w.damage id is)

whole_by : (id : ℕ) (ids : List ℕ) (v : Verdict) (choice : Choice) (w : WholeId) → (choice.whole ≡ Some w → IsAmong ids w.id) → (with_verdict id v choice).whole ≡ Some w → IsAmong (id ∷ ids) w.id
whole_by id ids Gone choice w later is = inr (later is)
whole_by id ids (Short seen need) choice w later is = inr (later is)
whole_by id ids (Whole damage) choice w later is = inl (sym (ap (λ (x : WholeId). x.id) (same_Some _ w is)))

whole_among : (hs : List Headed) (ids : List ℕ) (verdicts : List (ℕ × Verdict)) (unread : List ℕ) (s t : BayState) (w : WholeId) → AreJudged hs ids verdicts unread s t → (choice_of verdicts).whole ≡ Some w → IsAmong ids w.id
whole_among hs [] verdicts unread s t w are is = absurd (none-some w (sym (ap (λ (vs : List (ℕ × Verdict)). (choice_of vs).whole) are.0) ∙ is))
whole_among hs (id ∷ ids) verdicts unread s t w (verdict, own, others, later, makes, reads, judged, rest) is =
    whole_by id ids verdict (choice_of others) w (λ e. whole_among hs ids others later s t w rest e) (sym (ap (λ (vs : List (ℕ × Verdict)). (choice_of vs).whole) makes) ∙ is)

pub taken_is_named : (name : Bytes) (hs : List Headed) (choice : Choice) (unread : List ℕ) (s t : BayState) (id : ℕ) → Chooses hs (ids_named name hs) choice unread s t → id_of_choice choice ≡ Ok id → IsNamedIn id name hs
taken_is_named name hs choice unread s t id (verdicts, are, chooses) is =
    let w = taken_whole choice.whole choice.are_two choice.short id is in
    has_name name hs id (subst (λ (k : ℕ). IsAmong (ids_named name hs) k) w.2
    (whole_among hs (ids_named name hs) verdicts unread s t w.0 are (ap (λ (c : Choice). c.whole) (sym chooses) ∙ w.1)))
