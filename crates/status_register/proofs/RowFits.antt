-- Claims that are put on several members keep the history.
use Rattle.std.proofs.Common.{◌≡◌, ℕ, ◌<◌, ◌≤◌, ◌^◌, List, Option, sym, subst, ◌∙◌, arith, IsTrue}
use Rattle.std.specs.Prelude.{◌&&◌}
use Rattle.std.proofs.lemmas.Bool.{lt-ltb}
use Rattle.bay.specs.Image as bay
use Rattle.bay.specs.State.{BayState, IsSound}
use Rattle.bay.specs.Moments.{Runs, NowOnly, LeavesOnly}
use Rattle.bay.proofs.Calls.{leaves_only}
use Rattle.asm_formats.specs.Among.{IsAmong}
use Rattle.asm_formats.specs.Claim.{Claim, is_claim, claim_spelling}
use Rattle.asm_formats.specs.Status.{Status}
use Rattle.asm_images.specs.Members.{ImageBytes, all_members}
use Rattle.asm_images.specs.Register.{Fits}
use Rattle.asm_images.proofs.Bridges.{same_is_same}
use Rattle.status_register.specs.Slots.{claim_gate}
use Rattle.status_register.specs.Rows.{PutsRow, no_put, one_put}
use Rattle.status_register.specs.History.{FitsHistory}
use Rattle.status_register.specs.Registered.{next_epoch}
use Rattle.status_register.specs.Tallies.{HaveSlots}
use Rattle.status_register.specs.declared.member.Member.{Member}
use Rattle.status_register.proofs.Telling.{slots_long}
use Rattle.status_register.proofs.Raising.{claim_fits}

pub row_sizes : (gate_of : ℕ → bay.Image → ℕ) (ms : List Member) (body : List ℕ) (x y : bay.Image) → PutsRow gate_of ms body x y → (s : ℕ) → y.size s ≡ x.size s
row_sizes gate_of ms body x y (no_put a b same) s = same.size s
row_sizes gate_of ms body x z (one_put a y b m among row step) s = step.elsewhere.size s ∙ row_sizes gate_of ms body a y row s

-- the disks of these members have their slots
abbrev pub AreLong : List Member → bay.Image → Type 0
AreLong ms image = (m : Member) → IsAmong ms m → 40960 ≤ image.size m.slot

module _ (slots id : ℕ) (c : Claim) (allowed : IsTrue (is_claim c)) (ms : List Member) (inside : (m : Member) → IsAmong ms m → m.slot < slots) (completed : Option Status) (begun : List Status) where
  pub row_fits : (x y : bay.Image) → AreLong ms x → PutsRow (claim_gate id) ms (claim_spelling c) x y → FitsHistory slots id completed begun x → FitsHistory slots id completed begun y
  row_fits x y long (no_put a b same) fits = subst (λ (i : ImageBytes). Fits id (all_members id i) completed begun) (sym (same_is_same slots a b same)) fits
  row_fits x z long (one_put a y b m among row step) fits =
      claim_fits slots id m.slot c allowed (inside m among) y b (omega (arith, long m among, row_sizes (claim_gate id) ms (claim_spelling c) a y row m.slot)) step completed begun (row_fits a y long row fits)

  pub row_leaves : {s t : BayState} {on : ℕ → Type 0} → IsSound s → HaveSlots s ms → Runs on (PutsRow (claim_gate id) ms (claim_spelling c)) s t
      → NowOnly s (FitsHistory slots id completed begun) → LeavesOnly s t (FitsHistory slots id completed begun)
  row_leaves {s} {t} {on} sound have run before = leaves_only
      {P = λ image. FitsHistory slots id completed begun image × AreLong ms image} {Q = FitsHistory slots id completed begun}
      (λ x y p step. row_fits x y p.1 step p.0) run
      (record { now = λ image left. (before.now image left, λ m among. slots_long m.slot m.sector sound (have m among) image left) })

-- a claim of numbers of 64 bits is one
pub claim_allowed : (id epoch : ℕ) → id < 2 ^ 64 → epoch < 2 ^ 64 → IsTrue (is_claim (record { id = id; epoch = epoch }))
unfolding is_claim
claim_allowed id epoch small few = λ i. lt-ltb id (2 ^ 64) small i && lt-ltb epoch (2 ^ 64) few i

-- the claim of the next epoch is one
pub next_claim_allowed : (id epoch : ℕ) → id < 2 ^ 64 → IsTrue (is_claim (record { id = id; epoch = next_epoch epoch }))
next_claim_allowed id epoch small = claim_allowed id (next_epoch epoch) small (omega arith)
