-- A record that is put on the disk of one slot keeps the history that the disks fit.
use Rattle.std.proofs.Common.{◌≡◌, ◌⊎◌, inl, inr, ⊎_elim, ℕ, ◌+◌, ◌*◌, ◌^◌, ◌<◌, ◌≤◌, List, length, map, refl, sym, ap, subst, ◌∙◌, Option, arith, IsTrue}
use Rattle.bay.specs.Image as bay
use Rattle.asm_formats.specs.Among.{IsAmong}
use Rattle.asm_formats.specs.Status.{Status, is_status, status_spelling}
use Rattle.asm_formats.specs.Following.{rank}
use Rattle.asm_formats.specs.Metadata.{Metadata, metadata}
use Rattle.asm_formats.specs.Slots.{IsPut}
use Rattle.asm_images.specs.Bridge.{disk_bytes, disks_in}
use Rattle.asm_images.specs.Members.{ImageBytes, Member, all_members, written, disk_of, of_group, statuses}
use Rattle.asm_images.specs.Register.{Fits}
use Rattle.asm_images.specs.Steps.{RaisesRecords, IsLast}
use Rattle.asm_images.proofs.Bridges.{shown_is_put, range_change, disks_are_listed, same_is_same}
use Rattle.asm_images.proofs.Claiming.{at_change}
use Rattle.asm_images.proofs.Recording.{fits_then, turn_below, status_allowed}
use Rattle.asm_images.proofs.Putting.{put_raises_records}
use Rattle.asm_images.proofs.Replacing.{replaced, replaced_keeps, members_replaced}
use Rattle.status_register.specs.Slots.{MayPutNext, status_gate}
use Rattle.status_register.specs.History.{FitsHistory}
use Rattle.status_register.specs.Rows.{PutsRow, no_put, one_put}
use Rattle.status_register.specs.declared.member.Member.{Member as Disk}
use Rattle.status_register.proofs.Choosing.{status_gate_next}
use Rattle.status_register.proofs.RowFits.{row_sizes}

pub raised_records_fit : (id : ℕ) (old : ImageBytes) (completed : Option Status) (begun : List Status) → Fits id (all_members id old) completed begun → (r : Status) → IsLast completed begun r → (slot : ℕ) (bytes : List ℕ) → slot < length old
    → RaisesRecords id (disk_of old slot) (metadata bytes) r → Fits id (all_members id (written old slot bytes)) completed begun
raised_records_fit id old completed begun fits r last slot bytes inside raises =
    let ms = all_members id old in
    let d = metadata bytes in
    let f = replaced slot d in
    let keeps = replaced_keeps slot d in
    let members_same : all_members id (written old slot bytes) ≡ map f ms = members_replaced id old slot bytes inside (ap (λ (x : Metadata). x.header) raises.others) in
    let raised : (m : Member) (s : Status) → IsAmong ms m → IsAmong (of_group id m.disk.statuses) s → (t : Status) × IsAmong (of_group id (f m).disk.statuses) t × (rank s ≤ rank t) =
    λ m s h. at_change id old slot d (λ a b. IsAmong (of_group id a.disk.statuses) s → (t : Status) × IsAmong (of_group id b.disk.statuses) t × (rank s ≤ rank t))
    (λ a is k. raises.raised s (subst (λ (x : Metadata). IsAmong (of_group id x.statuses) s) is k)) (λ a k. (s, k, omega arith)) m h in
    let from : (m : Member) (t : Status) → IsAmong ms m → IsAmong (of_group id (f m).disk.statuses) t → (t ≡ r) ⊎ IsAmong (of_group id m.disk.statuses) t =
    λ m t h. at_change id old slot d (λ a b. IsAmong (of_group id b.disk.statuses) t → (t ≡ r) ⊎ IsAmong (of_group id a.disk.statuses) t)
    (λ a is k. ⊎_elim (λ new. inl new) (λ was. inr (subst (λ (x : Metadata). IsAmong (of_group id x.statuses) t) (sym is) was)) (raises.from t k)) (λ a k. inr k) m h in
    let claims_same : (m : Member) → IsAmong ms m → (f m).disk.claims ≡ m.disk.claims =
    λ m h. at_change id old slot d (λ a b. b.disk.claims ≡ a.disk.claims) (λ a is. ap (λ (x : Metadata). x.claims) (raises.others ∙ ap (λ (y : Metadata). record y { statuses = d.statuses }) (sym is))) (λ a. refl) m h in
    let turns : (t : Status) → IsAmong (statuses id (map f ms)) t → t.turn < 2 ^ 64 =
    λ t h. turn_below t (status_allowed id (written old slot bytes) t (subst (λ (l : List Member). IsAmong (statuses id l) t) (sym members_same) h)) in
    subst (λ (l : List Member). Fits id l completed begun) (sym members_same) (fits_then id f keeps ms completed begun fits r last raised from claims_same turns)

module _ (slots id slot : ℕ) (r : Status) (allowed : IsTrue (is_status r)) (inside : slot < slots) (x y : bay.Image) (long : 40960 ≤ x.size slot) (step : MayPutNext (status_gate id) slot (status_spelling r) x y) where
  pub raises : RaisesRecords id (metadata (disk_bytes x slot)) (metadata (disk_bytes y slot)) r
  raises =
      let next = status_gate_next id slot x long in
      let gate = status_gate id slot x in
      let room : (gate + 2) * 4096 ≤ x.size slot = ⊎_elim (λ is. omega (arith, is.0, long)) (λ is. omega (arith, is.0, long)) next.pair in
      let put : IsPut (disk_bytes x slot) (disk_bytes y slot) gate (status_spelling r) = shown_is_put x y slot gate (status_spelling r) room step.elsewhere step.shows in
      put_raises_records id (disk_bytes x slot) (disk_bytes y slot) gate next.other r next.pair allowed next.rule put

  pub record_fits : (completed : Option Status) (begun : List Status) → IsLast completed begun r → FitsHistory slots id completed begun x → FitsHistory slots id completed begun y
  record_fits completed begun last fits =
      let listed = disks_are_listed slots slot x inside in
      let change = (range_change slots slot (status_gate id slot x * 4096) (2 * 4096) x y step.elsewhere).0 in
      subst (λ (i : ImageBytes). Fits id (all_members id i) completed begun) (sym change)
      (raised_records_fit id (disks_in slots x) completed begun fits r last slot (disk_bytes y slot) (omega (arith, inside, listed.0))
      (subst (λ (bytes : List ℕ). RaisesRecords id (metadata bytes) (metadata (disk_bytes y slot)) r) (sym listed.1) raises))

module _ (slots id : ℕ) (completed : Option Status) (begun : List Status) (r : Status) (last : IsLast completed begun r) (allowed : IsTrue (is_status r)) (ms : List Disk) (inside : (m : Disk) → IsAmong ms m → m.slot < slots) where
  row_of_records : (x y : bay.Image) → ((m : Disk) → IsAmong ms m → 40960 ≤ x.size m.slot) → PutsRow (status_gate id) ms (status_spelling r) x y → FitsHistory slots id completed begun x → FitsHistory slots id completed begun y
  row_of_records x y long (no_put a b same) fits = subst (λ (i : ImageBytes). Fits id (all_members id i) completed begun) (sym (same_is_same slots a b same)) fits
  row_of_records x z long (one_put a y b m among row step) fits =
      record_fits slots id m.slot r allowed (inside m among) y b (omega (arith, long m among, row_sizes (status_gate id) ms (status_spelling r) a y row m.slot)) step completed begun last (row_of_records a y long row fits)

pub stored_records_fit : (slots id : ℕ) (completed : Option Status) (begun : List Status) (r : Status) (ms : List Disk) (x y : bay.Image) → IsLast completed begun r → IsTrue (is_status r)
    → ((m : Disk) → IsAmong ms m → m.slot < slots) → ((m : Disk) → IsAmong ms m → 40960 ≤ x.size m.slot)
    → PutsRow (status_gate id) ms (status_spelling r) x y → FitsHistory slots id completed begun x → FitsHistory slots id completed begun y
stored_records_fit slots id completed begun r ms x y last allowed inside long row fits = row_of_records slots id completed begun r last allowed ms inside x y long row fits
