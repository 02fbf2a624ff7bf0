-- A shift from a disk above its share to one below brings the disks nearer to their shares.
use Rattle.std.proofs.Common.{◌≡◌, inl, inr, ℕ, ◌+◌, ◌*◌, ◌/◌, ◌<◌, Bool, true, false, List, [], ◌∷◌, filter, refl, sym, ap, ◌∙◌, arith, ◌==◌, leb}
use Rattle.std.specs.Prelude.{if◌then◌else◌}
use Rattle.std.proofs.lemmas.Bool.{cond_both, and_parts, eq-eqb, ne_eqb, cases_eq, leb-true}
use Rattle.std.proofs.lemmas.Option.{same_Some}
use Rattle.asm_formats.specs.asm_group.Shape.{Shape}
use Rattle.asm_formats.specs.Status.{Entry, entry_of, ascends_from}
use Rattle.asm_formats.specs.Items.{Item}
use Rattle.asm_formats.specs.Among.{IsAmong}
use Rattle.asm_placement.specs.Modes.{is_target}
use Rattle.asm_placement.specs.DiskSets.{numbers}
use Rattle.asm_placement.specs.TableDisks.{targets}
use Rattle.asm_placement.specs.Space.{used_units, user_units, total, used_of_all, units_of_all, share, is_above, is_below}
use Rattle.asm_placement.specs.Work.{distance, unevenness}
use Rattle.asm_placement.proofs.Membership.{among_filter}
use Rattle.asm_placement.proofs.Chosen.{entry_found, number_from}
use Rattle.asm_placement.proofs.UnitsMoved.{part}

total_add : (F G : Entry → ℕ) (es : List Entry) → total (λ e. F e + G e) es ≡ total F es + total G es
total_add F G [] = refl
total_add F G (e ∷ es) = omega (arith, total_add F G es)

total_same : (F G : Entry → ℕ) (es : List Entry) → ((e : Entry) → IsAmong es e → F e ≡ G e) → total F es ≡ total G es
total_same F G [] h = refl
total_same F G (e ∷ es) h = omega (arith, h e (inl refl), total_same F G es (λ x k. h x (inr k)))

-- a sum in which one disk counts
total_none : (a n least : ℕ) (es : List Entry) (t : Entry → Bool) → ascends_from least (numbers es) ≡ true → a < least → total (λ (e : Entry). part n a e.number) (filter t es) ≡ 0
total_none a n least [] t up lt = refl
total_none a n least (e ∷ es) t up lt =
    let parts = and_parts (leb least e.number) (ascends_from (e.number + 1) (numbers es)) up in
    let low = leb-true least e.number parts.0 in
    let later : total (λ (x : Entry). part n a x.number) (filter t es) ≡ 0 = total_none a n (e.number + 1) es t parts.1 (omega arith) in
    let out : (a == e.number) ≡ false = ne_eqb a e.number (omega arith) in
    cond_both (t e) (e ∷ filter t es) (filter t es) (λ (l : List Entry). total (λ (x : Entry). part n a x.number) l ≡ 0) (λ yes. rw out (omega arith)) (λ no. later)

total_one : (n least : ℕ) (es : List Entry) (x : Entry) (t : Entry → Bool) → ascends_from least (numbers es) ≡ true → IsAmong es x → t x ≡ true → total (λ (e : Entry). part n x.number e.number) (filter t es) ≡ n
total_one n least [] x t up h pass = absurd h
total_one n least (e ∷ es) x t up (inl is) pass =
    let parts = and_parts (leb least e.number) (ascends_from (e.number + 1) (numbers es)) up in
    let same : x.number ≡ e.number = ap (λ (y : Entry). y.number) is in
    let te : t e ≡ true = ap t (sym is) ∙ pass in
    let none : total (λ (y : Entry). part n x.number y.number) (filter t es) ≡ 0 = total_none x.number n (e.number + 1) es t parts.1 (omega arith) in
    rw (te, eq-eqb x.number e.number same) (omega arith)
total_one n least (e ∷ es) x t up (inr h) pass =
    let parts = and_parts (leb least e.number) (ascends_from (e.number + 1) (numbers es)) up in
    let past = number_from (e.number + 1) es x parts.1 h in
    let later : total (λ (y : Entry). part n x.number y.number) (filter t es) ≡ n = total_one n (e.number + 1) es x t parts.1 h pass in
    let out : (x.number == e.number) ≡ false = ne_eqb x.number e.number (omega arith) in
    cond_both (t e) (e ∷ filter t es) (filter t es) (λ (l : List Entry). total (λ (y : Entry). part n x.number y.number) l ≡ n) (λ yes. rw out (omega arith)) (λ no. later)

-- n units went from one Online regular disk to another
pub record IsShift (s : Shape) (es : List Entry) (old new : List Item) (n : ℕ) (from to : Entry) : Type 0 where
  pub ascends : ascends_from 0 (numbers es) ≡ true
  pub from_among : IsAmong es from
  pub to_among : IsAmong es to
  pub from_target : is_target from ≡ true
  pub to_target : is_target to ≡ true
  pub differ : from.number ≡ to.number → ⊥
  pub used : (d : ℕ) → used_units s new d + part n from.number d ≡ used_units s old d + part n to.number d
  pub above : is_above s old es n from ≡ true
  pub below : is_below s old es n to ≡ true

all_used : (s : Shape) (es : List Entry) (old new : List Item) (n : ℕ) (from to : Entry) → IsShift s es old new n from to → used_of_all s new es ≡ used_of_all s old es
all_used s es old new n from to is =
    let ts = targets es in
    let U = λ (e : Entry). used_units s old e.number in
    let V = λ (e : Entry). used_units s new e.number in
    let A = λ (e : Entry). part n from.number e.number in
    let B = λ (e : Entry). part n to.number e.number in
    let both : total (λ e. V e + A e) ts ≡ total (λ e. U e + B e) ts = total_same (λ e. V e + A e) (λ e. U e + B e) ts (λ e k. is.used e.number) in
    let a : total A ts ≡ n = total_one n 0 es from is_target is.ascends is.from_among is.from_target in
    let b : total B ts ≡ n = total_one n 0 es to is_target is.ascends is.to_among is.to_target in
    omega (arith, both, total_add V A ts, total_add U B ts, a, b)

share_same : (s : Shape) (es : List Entry) (old new : List Item) (e : Entry) → used_of_all s new es ≡ used_of_all s old es → share s new es e ≡ share s old es e
unfolding share
share_same s es old new e same = ap (λ (u : ℕ). if units_of_all s es == 0 then 0 else u * user_units s e / units_of_all s es) same

same_entry : (es : List Entry) (d e : Entry) → ascends_from 0 (numbers es) ≡ true → IsAmong es d → IsAmong es e → d.number ≡ e.number → d ≡ e
same_entry es d e up hd he same = same_Some d e (sym (entry_found 0 es d up hd) ∙ ap (entry_of es) same ∙ entry_found 0 es e up he)

nearer : (s : Shape) (es : List Entry) (old new : List Item) (n : ℕ) (from to : Entry) → IsShift s es old new n from to → (e : Entry) → IsAmong (targets es) e
    → distance (used_units s new e.number) (share s new es e) + (part n from.number e.number + part n to.number e.number) ≡ distance (used_units s old e.number) (share s old es e)
nearer s es old new n from to is e h =
    let same = share_same s es old new e (all_used s es old new n from to is) in
    let among : IsAmong es e = among_filter is_target es e h in
    let used = is.used e.number in
    elim (cases_eq from.number e.number) [
      | inl here ↦
          let e_is : from ≡ e = same_entry es from e is.ascends is.from_among among here in
          let above = leb-true (share s old es e + n) (used_units s old e.number) (ap (λ (x : Entry). is_above s old es n x) (sym e_is) ∙ is.above) in
          let a : part n from.number e.number ≡ n = rw (eq-eqb from.number e.number here) refl in
          let b : part n to.number e.number ≡ 0 = rw (ne_eqb to.number e.number (λ k. is.differ (here ∙ sym k))) refl in
          omega (arith, same, above, a, b, used)
      | inr not_from ↦
          let a : part n from.number e.number ≡ 0 = rw (ne_eqb from.number e.number not_from) refl in
          elim (cases_eq to.number e.number) [
            | inl here ↦
                let e_is : to ≡ e = same_entry es to e is.ascends is.to_among among here in
                let below = leb-true (used_units s old e.number + n) (share s old es e) (ap (λ (x : Entry). is_below s old es n x) (sym e_is) ∙ is.below) in
                let b : part n to.number e.number ≡ n = rw (eq-eqb to.number e.number here) refl in
                omega (arith, same, below, a, b, used)
            | inr not_to ↦
                let b : part n to.number e.number ≡ 0 = rw (ne_eqb to.number e.number not_to) refl in
                omega (arith, same, a, b, used)
          ]
    ]

pub evener : (s : Shape) (es : List Entry) (old new : List Item) (n : ℕ) (from to : Entry) → 0 < n → IsShift s es old new n from to → unevenness s es new < unevenness s es old
unfolding unevenness
evener s es old new n from to some is =
    let ts = targets es in
    let D = λ (e : Entry). distance (used_units s old e.number) (share s old es e) in
    let F = λ (e : Entry). distance (used_units s new e.number) (share s new es e) in
    let A = λ (e : Entry). part n from.number e.number in
    let B = λ (e : Entry). part n to.number e.number in
    let both : total (λ e. F e + (A e + B e)) ts ≡ total D ts = total_same (λ e. F e + (A e + B e)) D ts (nearer s es old new n from to is) in
    let a : total A ts ≡ n = total_one n 0 es from is_target is.ascends is.from_among is.from_target in
    let sums : total (λ e. A e + B e) ts ≡ total A ts + total B ts = total_add A B ts in
    let whole : total (λ e. F e + (A e + B e)) ts ≡ total F ts + total (λ e. A e + B e) ts = total_add F (λ e. A e + B e) ts in
    omega (arith, both, a, sums, whole)
