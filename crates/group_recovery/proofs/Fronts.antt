-- A mount changes nothing but the claim and status slots of the members.
use Rattle.std.proofs.Common.{◌≡◌, ◌⊎◌, inl, inr, ⊎_elim, ℕ, ◌≤◌, List, refl, Option, Some, None, arith}
use Rattle.std.specs.Prelude.{nat_le}
use Rattle.std.proofs.lemmas.Bool.{cond_both}
use Rattle.bay.specs.Image.{ChangesOnly, Image}
use Rattle.bay.specs.State.{BayState}
use Rattle.bay.specs.Moments.{Runs}
use Rattle.bay.proofs.Calls.{goes_on, on_more, stops, widened}
use Rattle.bay.proofs.Images.{changes-same, changes-trans, changes-within}
use Rattle.asm_formats.specs.Claim.{decoded_claim}
use Rattle.asm_formats.specs.Status.{decoded_status}
use Rattle.asm_formats.specs.Among.{IsAmong}
use Rattle.directory_store.specs.change_directory.declared.copy.DirCopy.{DirCopy}
use Rattle.directory_store.specs.change_directory.StoreLaws.{SameRegion}
use Rattle.status_register.specs.Rows.{PutsRow, no_put, one_put}
use Rattle.status_register.specs.Slots.{claim_gate, claim_number, other_gate, record_number, body_says, status_gate}
use Rattle.status_register.specs.Tallies.{IsSlotOf}
use Rattle.status_register.specs.declared.member.Member.{Member}
use Rattle.group_recovery.specs.Writing.{FrontOf}

gate_in : (first second : ℕ) (n other : Option ℕ) → (other_gate first second n other ≡ first) ⊎ (other_gate first second n other ≡ second)
gate_in first second None other = inl refl
gate_in first second (Some n) None = inr refl
gate_in first second (Some n) (Some m) = cond_both (nat_le m n) second first (λ (k : ℕ). (k ≡ first) ⊎ (k ≡ second)) (λ is. inr refl) (λ no. inl refl)

abbrev IsFront : (ℕ → Image → ℕ) → Type 0
IsFront gate_of = (slot : ℕ) (x : Image) → (2 ≤ gate_of slot x) × (gate_of slot x ≤ 8)

claims_front : (id : ℕ) → IsFront (claim_gate id)
unfolding claim_gate
claims_front id slot x = ⊎_elim (λ one. (omega (arith, one), omega (arith, one))) (λ two. (omega (arith, two), omega (arith, two))) (gate_in 2 4 (claim_number id (body_says decoded_claim x slot 2)) (claim_number id (body_says decoded_claim x slot 4)))

records_front : (id : ℕ) → IsFront (status_gate id)
unfolding status_gate
records_front id slot x = ⊎_elim (λ one. (omega (arith, one), omega (arith, one))) (λ two. (omega (arith, two), omega (arith, two))) (gate_in 6 8 (record_number id (body_says decoded_status x slot 6)) (record_number id (body_says decoded_status x slot 8)))

row_front : (gate_of : ℕ → Image → ℕ) → IsFront gate_of → (ms : List Member) (body : List ℕ) (x y : Image) → PutsRow gate_of ms body x y → ChangesOnly (FrontOf ms) x y
row_front gate_of front ms body x y (no_put a b same) = changes-same (FrontOf ms) a b same
row_front gate_of front ms body x z (one_put a y b m among row step) =
    let bounds = front m.slot y in
    changes-trans (FrontOf ms) a y b (row_front gate_of front ms body a y row)
    (record {
      size = step.elsewhere.size;
      byte = λ s k out. step.elsewhere.byte s k (λ inside. out ((m, among, inside.0), omega (arith, inside.1, bounds.0), omega (arith, inside.2, bounds.1)));
    })

front_more : (some more : List Member) → ((m : Member) → IsAmong some m → IsAmong more m) → (x y : Image) → ChangesOnly (FrontOf some) x y → ChangesOnly (FrontOf more) x y
front_more some more among x y step = changes-within (FrontOf more) (FrontOf some) x y (λ s k inside. ((inside.0.0, among inside.0.0 inside.0.1, inside.0.2), inside.1, inside.2)) step

-- a claim on the members
pub claims_change : (id : ℕ) (ms : List Member) (body : List ℕ) (s t : BayState) {on : ℕ → Type 0} → Runs on (PutsRow (claim_gate id) ms body) s t → Runs on (ChangesOnly (FrontOf ms)) s t
claims_change id ms body s t run = widened (row_front (claim_gate id) (claims_front id) ms body) run

-- and then a record on some of them
pub record_changes : (id : ℕ) (ms some : List Member) (body : List ℕ) (s m t : BayState) → ((k : Member) → IsAmong some k → IsAmong ms k)
    → Runs (IsSlotOf ms) (ChangesOnly (FrontOf ms)) s m → Runs (IsSlotOf some) (PutsRow (status_gate id) some body) m t
    → Runs (IsSlotOf ms) (ChangesOnly (FrontOf ms)) s t
record_changes id ms some body s m t among first next = goes_on (changes-trans (FrontOf ms)) first (stops first)
    (on_more (λ slot of. (of.0, among of.0 of.1, of.2))
    (widened (λ x y row. front_more some ms among x y (row_front (status_gate id) (records_front id) some body x y row)) next))

-- on more members
pub front_runs : (some more : List Member) (s t : BayState) {on also : ℕ → Type 0} → ((m : Member) → IsAmong some m → IsAmong more m) → ((slot : ℕ) → on slot → also slot)
    → Runs on (ChangesOnly (FrontOf some)) s t → Runs also (ChangesOnly (FrontOf more)) s t
front_runs some more s t among wider run = on_more wider (widened (front_more some more among) run)

-- directory regions stay
pub front_region : (ms : List Member) (c : DirCopy) (x y : Image) → ChangesOnly (FrontOf ms) x y → SameRegion c x y
front_region ms c x y step = record { size = step.size c.slot; bytes = λ k low high. step.byte c.slot k (λ inside. omega (arith, inside.2, low)) }
