-- A claim that is put on the disk of one slot keeps the history that the disks fit.
use Rattle.std.proofs.Common.{◌≡◌, ⊎_elim, ℕ, ◌+◌, ◌*◌, ◌<◌, ◌≤◌, List, length, map, refl, sym, ap, subst, ◌∙◌, Option, arith, IsTrue}
use Rattle.bay.specs.Image as bay
use Rattle.bay.specs.Image.{Range, ChangesOnly}
use Rattle.asm_formats.specs.Among.{IsAmong}
use Rattle.asm_formats.specs.Claim.{Claim, is_claim, claim_spelling}
use Rattle.asm_formats.specs.Status.{Status}
use Rattle.asm_formats.specs.Metadata.{Metadata, metadata}
use Rattle.asm_formats.specs.Slots.{IsPut}
use Rattle.asm_images.specs.Bridge.{disk_bytes, disks_in}
use Rattle.asm_images.specs.Members.{ImageBytes, Member, all_members, written, disk_of, claims_of_group}
use Rattle.asm_images.specs.Register.{Fits}
use Rattle.asm_images.specs.Steps.{RaisesClaims}
use Rattle.asm_images.proofs.Bridges.{shown_is_put, range_change, disks_are_listed}
use Rattle.asm_images.proofs.Claiming.{fits_raised, at_change}
use Rattle.asm_images.proofs.Putting.{put_raises_claims}
use Rattle.asm_images.proofs.Replacing.{replaced, replaced_keeps, members_replaced}
use Rattle.status_register.specs.Slots.{MayPutNext, claim_gate}
use Rattle.status_register.specs.History.{FitsHistory}
use Rattle.status_register.proofs.Choosing.{claim_gate_next}

-- on the disks as lists
pub raised_fits : (id : ℕ) (old : ImageBytes) (completed : Option Status) (begun : List Status) → Fits id (all_members id old) completed begun → (slot : ℕ) (bytes : List ℕ) → slot < length old
    → RaisesClaims id (disk_of old slot) (metadata bytes) → Fits id (all_members id (written old slot bytes)) completed begun
raised_fits id old completed begun fits slot bytes inside raises =
    let ms = all_members id old in
    let d = metadata bytes in
    let f = replaced slot d in
    let keeps = replaced_keeps slot d in
    let members_same : all_members id (written old slot bytes) ≡ map f ms = members_replaced id old slot bytes inside (ap (λ (x : Metadata). x.header) raises.others) in
    let raised : (m : Member) (c : Claim) → IsAmong ms m → IsAmong (claims_of_group id m.disk.claims) c → (x : Claim) × IsAmong (claims_of_group id (f m).disk.claims) x × (c.epoch ≤ x.epoch) =
    λ m c h. at_change id old slot d (λ a b. IsAmong (claims_of_group id a.disk.claims) c → (x : Claim) × IsAmong (claims_of_group id b.disk.claims) x × (c.epoch ≤ x.epoch))
    (λ a is k. raises.raised c (subst (λ (x : Metadata). IsAmong (claims_of_group id x.claims) c) is k)) (λ a k. (c, k, omega arith)) m h in
    let statuses_same : (m : Member) → IsAmong ms m → (f m).disk.statuses ≡ m.disk.statuses =
    λ m h. at_change id old slot d (λ a b. b.disk.statuses ≡ a.disk.statuses) (λ a is. ap (λ (x : Metadata). x.statuses) (raises.others ∙ ap (λ (y : Metadata). record y { claims = d.claims }) (sym is))) (λ a. refl) m h in
    subst (λ (l : List Member). Fits id l completed begun) (sym members_same) (fits_raised id f keeps ms raised statuses_same completed begun fits)

module _ (slots id slot : ℕ) (c : Claim) (allowed : IsTrue (is_claim c)) (inside : slot < slots) (x y : bay.Image) (long : 40960 ≤ x.size slot) (step : MayPutNext (claim_gate id) slot (claim_spelling c) x y) where
  pub raises : RaisesClaims id (metadata (disk_bytes x slot)) (metadata (disk_bytes y slot))
  raises =
      let next = claim_gate_next id slot x long in
      let gate = claim_gate id slot x in
      let room : (gate + 2) * 4096 ≤ x.size slot = ⊎_elim (λ is. omega (arith, is.0, long)) (λ is. omega (arith, is.0, long)) next.pair in
      let put : IsPut (disk_bytes x slot) (disk_bytes y slot) gate (claim_spelling c) = shown_is_put x y slot gate (claim_spelling c) room step.elsewhere step.shows in
      put_raises_claims id (disk_bytes x slot) (disk_bytes y slot) gate next.other c next.pair allowed next.rule put

  -- on the bay's images
  pub claim_fits : (completed : Option Status) (begun : List Status) → FitsHistory slots id completed begun x → FitsHistory slots id completed begun y
  claim_fits completed begun fits =
      let listed = disks_are_listed slots slot x inside in
      let change = (range_change slots slot (claim_gate id slot x * 4096) (2 * 4096) x y step.elsewhere).0 in
      subst (λ (i : ImageBytes). Fits id (all_members id i) completed begun) (sym change)
      (raised_fits id (disks_in slots x) completed begun fits slot (disk_bytes y slot) (omega (arith, inside, listed.0))
      (subst (λ (bytes : List ℕ). RaisesClaims id (metadata bytes) (metadata (disk_bytes y slot))) (sym listed.1) raises))
