-- Rows of puts of claims and records keep the image sound, and leave what is behind them.
use Rattle.std.proofs.Common.{◌≡◌, ◌≢◌, ⊎_elim, ℕ, ◌+◌, ◌*◌, ◌<◌, ◌≤◌, List, sym, ap, subst, ◌∙◌, Option, arith, IsTrue}
use Rattle.bay.specs.Image.{Image, Range, ChangesOnly}
use Rattle.asm_group.specs.Group.{Group}
use Rattle.asm_formats.specs.Claim.{Claim, is_claim, claim_spelling}
use Rattle.asm_formats.specs.Metadata.{Metadata, metadata}
use Rattle.std.proofs.lemmas.Bool.{cases_eq}
use Rattle.asm_formats.specs.Slots.{IsPut}
use Rattle.asm_formats.specs.Status.{Status, is_status, status_spelling}
use Rattle.asm_formats.specs.Among.{IsAmong}
use Rattle.asm_images.specs.Bridge.{disk_bytes, disks_in}
use Rattle.asm_images.specs.Members as images
use Rattle.asm_images.specs.PutLaws.{OtherClaims, OtherHolds}
use Rattle.asm_images.specs.Sound.{SoundBy}
use Rattle.asm_images.specs.Steps.{IsLast, CoversBirths}
use Rattle.asm_images.proofs.Bridges.{shown_is_put, range_change, disks_are_listed, same_is_same, same_disk}
use Rattle.asm_images.proofs.PutKeeps.{claim_put_keeps, record_put_keeps}
use Rattle.status_register.specs.Rows.{PutsRow, no_put, one_put}
use Rattle.status_register.specs.Slots.{MayPutNext, claim_gate, status_gate}
use Rattle.status_register.specs.SurveyLaws.{IsMemberOn}
use Rattle.status_register.specs.declared.member.Member.{Member}
use Rattle.status_register.proofs.Choosing.{claim_gate_next, status_gate_next}
use Rattle.status_register.proofs.RowFits.{AreLong, row_sizes}
use Rattle.status_register.specs.Surveys.{disk_in}
use Rattle.status_register.proofs.Raising.{raises as claim_raises}
use Rattle.status_register.proofs.RaisingRecords.{raises as record_raises}
use Rattle.group_recovery.specs.Leaving.{LeavesUsers}
use Rattle.group_recovery.proofs.Leaving.{leaves_same, leaves_then, left_header}

-- a change in the claim and status slots of one disk leaves headers and user bytes
pub slots_leave : (slot gate : ℕ) (x y : Image) → 2 ≤ gate → gate ≤ 8 → ChangesOnly (Range slot (gate * 4096) (2 * 4096)) x y → LeavesUsers x y
slots_leave slot gate x y least most step = record {
  size = step.size;
  front = λ s k lt. step.byte s k (λ inside. omega (arith, inside.1, lt, least));
  behind = λ s k h is le. step.byte s k (λ inside. omega (arith, inside.2, le, most));
}

-- the same members, where headers stay
pub member_stays : (slots id : ℕ) (x y : Image) → LeavesUsers x y → (m : Member) → IsMemberOn slots id x m → IsMemberOn slots id y m
member_stays slots id x y leaves m on = record { inside = on.inside; header = on.header; header_is = left_header x y leaves m.slot ∙ on.header_is; group = on.group; number = on.number; birth = on.birth }

-- what a directory copy says stays on each other disk
other_content : (slot at n : ℕ) (x y : Image) → ChangesOnly (Range slot at n) x y → (s : ℕ) → s ≢ slot → (disk_in y s).content ≡ (disk_in x s).content
other_content slot at n x y step s differ = ap (λ (bytes : List ℕ). (metadata bytes).content) (same_disk x y s (step.size s) (λ k. step.byte s k (λ inside. differ inside.0)))

-- ---- claims

module _ (slots id slot : ℕ) (c : Claim) (allowed : IsTrue (is_claim c)) (inside : slot < slots) (x y : Image) (long : 40960 ≤ x.size slot) (step : MayPutNext (claim_gate id) slot (claim_spelling c) x y) where
  claim_step : (groups : List Group) (completed : Option Status) (begun : List Status) → SoundBy id (disks_in slots x) groups completed begun → SoundBy id (disks_in slots y) groups completed begun
  claim_step groups completed begun sound =
      let next = claim_gate_next id slot x long in
      let gate = claim_gate id slot x in
      let room : (gate + 2) * 4096 ≤ x.size slot = ⊎_elim (λ is. omega (arith, is.0, long)) (λ is. omega (arith, is.0, long)) next.pair in
      let put : IsPut (disk_bytes x slot) (disk_bytes y slot) gate (claim_spelling c) = shown_is_put x y slot gate (claim_spelling c) room step.elsewhere step.shows in
      let listed = disks_are_listed slots slot x inside in
      let change = (range_change slots slot (gate * 4096) (2 * 4096) x y step.elsewhere).0 in
      subst (λ (i : images.ImageBytes). SoundBy id i groups completed begun) (sym change)
      (claim_put_keeps id (disks_in slots x) groups completed begun sound c slot (disk_bytes y slot) gate next.other allowed (omega (arith, inside, listed.0)) next.pair
      (subst (λ (bytes : List ℕ). OtherClaims id bytes gate next.other) (sym listed.1) next.rule)
      (subst (λ (bytes : List ℕ). IsPut bytes (disk_bytes y slot) gate (claim_spelling c)) (sym listed.1) put))

  claim_content : (s : ℕ) → (disk_in y s).content ≡ (disk_in x s).content
  claim_content s = ⊎_elim
      (λ (same : s ≡ slot). subst (λ (k : ℕ). (disk_in y k).content ≡ (disk_in x k).content) (sym same) (ap (λ (d : Metadata). d.content) (claim_raises slots id slot c allowed inside x y long step).others))
      (λ differ. other_content slot (claim_gate id slot x * 4096) (2 * 4096) x y step.elsewhere s differ) (cases_eq s slot)

  claim_leaves : LeavesUsers x y
  claim_leaves =
      let next = claim_gate_next id slot x long in
      slots_leave slot (claim_gate id slot x) x y (⊎_elim (λ is. omega (arith, is.0)) (λ is. omega (arith, is.0)) next.pair) (⊎_elim (λ is. omega (arith, is.0)) (λ is. omega (arith, is.0)) next.pair) step.elsewhere

module _ (id : ℕ) (c : Claim) (allowed : IsTrue (is_claim c)) (ms : List Member) where
  pub claims_leave : (x y : Image) → AreLong ms x → PutsRow (claim_gate id) ms (claim_spelling c) x y → LeavesUsers x y
  claims_leave x y long (no_put a b same) = leaves_same a b same
  claims_leave x z long (one_put a y b m among row step) =
      leaves_then a y b (claims_leave a y long row)
      (claim_leaves (1 + m.slot) id m.slot c allowed (omega arith) y b (omega (arith, long m among, row_sizes (claim_gate id) ms (claim_spelling c) a y row m.slot)) step)

  pub claims_content : (x y : Image) → AreLong ms x → PutsRow (claim_gate id) ms (claim_spelling c) x y → (s : ℕ) → (disk_in y s).content ≡ (disk_in x s).content
  claims_content x y long (no_put a b same) s = ap (λ (bytes : List ℕ). (metadata bytes).content) (same_disk a b s (same.size s) (same.byte s))
  claims_content x z long (one_put a y b m among row step) s =
      claim_content (1 + m.slot) id m.slot c allowed (omega arith) y b (omega (arith, long m among, row_sizes (claim_gate id) ms (claim_spelling c) a y row m.slot)) step s ∙ claims_content a y long row s

  pub claims_keep : (slots : ℕ) → ((m : Member) → IsAmong ms m → m.slot < slots) → (groups : List Group) (completed : Option Status) (begun : List Status) (x y : Image) → AreLong ms x
      → PutsRow (claim_gate id) ms (claim_spelling c) x y → SoundBy id (disks_in slots x) groups completed begun → SoundBy id (disks_in slots y) groups completed begun
  claims_keep slots inside groups completed begun x y long (no_put a b same) sound = subst (λ (i : images.ImageBytes). SoundBy id i groups completed begun) (sym (same_is_same slots a b same)) sound
  claims_keep slots inside groups completed begun x z long (one_put a y b m among row step) sound =
      claim_step slots id m.slot c allowed (inside m among) y b (omega (arith, long m among, row_sizes (claim_gate id) ms (claim_spelling c) a y row m.slot)) step groups completed begun
      (claims_keep slots inside groups completed begun a y long row sound)

-- ---- records

module _ (slots id slot : ℕ) (r : Status) (allowed : IsTrue (is_status r)) (inside : slot < slots) (x y : Image) (long : 40960 ≤ x.size slot) (step : MayPutNext (status_gate id) slot (status_spelling r) x y) where
  record_step : (groups : List Group) (completed : Option Status) (begun : List Status) → IsLast completed begun r → CoversBirths completed begun r → SoundBy id (disks_in slots x) groups completed begun
      → SoundBy id (disks_in slots y) groups completed begun
  record_step groups completed begun last births sound =
      let next = status_gate_next id slot x long in
      let gate = status_gate id slot x in
      let room : (gate + 2) * 4096 ≤ x.size slot = ⊎_elim (λ is. omega (arith, is.0, long)) (λ is. omega (arith, is.0, long)) next.pair in
      let put : IsPut (disk_bytes x slot) (disk_bytes y slot) gate (status_spelling r) = shown_is_put x y slot gate (status_spelling r) room step.elsewhere step.shows in
      let listed = disks_are_listed slots slot x inside in
      let change = (range_change slots slot (gate * 4096) (2 * 4096) x y step.elsewhere).0 in
      subst (λ (i : images.ImageBytes). SoundBy id i groups completed begun) (sym change)
      (record_put_keeps id (disks_in slots x) groups completed begun sound r slot (disk_bytes y slot) gate next.other last allowed births (omega (arith, inside, listed.0)) next.pair
      (subst (λ (bytes : List ℕ). OtherHolds id bytes gate next.other) (sym listed.1) next.rule)
      (subst (λ (bytes : List ℕ). IsPut bytes (disk_bytes y slot) gate (status_spelling r)) (sym listed.1) put))

  record_content : (s : ℕ) → (disk_in y s).content ≡ (disk_in x s).content
  record_content s = ⊎_elim
      (λ (same : s ≡ slot). subst (λ (k : ℕ). (disk_in y k).content ≡ (disk_in x k).content) (sym same) (ap (λ (d : Metadata). d.content) (record_raises slots id slot r allowed inside x y long step).others))
      (λ differ. other_content slot (status_gate id slot x * 4096) (2 * 4096) x y step.elsewhere s differ) (cases_eq s slot)

  record_leaves : LeavesUsers x y
  record_leaves =
      let next = status_gate_next id slot x long in
      slots_leave slot (status_gate id slot x) x y (⊎_elim (λ is. omega (arith, is.0)) (λ is. omega (arith, is.0)) next.pair) (⊎_elim (λ is. omega (arith, is.0)) (λ is. omega (arith, is.0)) next.pair) step.elsewhere

module _ (id : ℕ) (r : Status) (allowed : IsTrue (is_status r)) (ms : List Member) where
  pub records_leave : (x y : Image) → AreLong ms x → PutsRow (status_gate id) ms (status_spelling r) x y → LeavesUsers x y
  records_leave x y long (no_put a b same) = leaves_same a b same
  records_leave x z long (one_put a y b m among row step) =
      leaves_then a y b (records_leave a y long row)
      (record_leaves (1 + m.slot) id m.slot r allowed (omega arith) y b (omega (arith, long m among, row_sizes (status_gate id) ms (status_spelling r) a y row m.slot)) step)

  pub records_content : (x y : Image) → AreLong ms x → PutsRow (status_gate id) ms (status_spelling r) x y → (s : ℕ) → (disk_in y s).content ≡ (disk_in x s).content
  records_content x y long (no_put a b same) s = ap (λ (bytes : List ℕ). (metadata bytes).content) (same_disk a b s (same.size s) (same.byte s))
  records_content x z long (one_put a y b m among row step) s =
      record_content (1 + m.slot) id m.slot r allowed (omega arith) y b (omega (arith, long m among, row_sizes (status_gate id) ms (status_spelling r) a y row m.slot)) step s ∙ records_content a y long row s

  pub records_keep : (slots : ℕ) → ((m : Member) → IsAmong ms m → m.slot < slots) → (groups : List Group) (completed : Option Status) (begun : List Status) → IsLast completed begun r → CoversBirths completed begun r
      → (x y : Image) → AreLong ms x → PutsRow (status_gate id) ms (status_spelling r) x y → SoundBy id (disks_in slots x) groups completed begun → SoundBy id (disks_in slots y) groups completed begun
  records_keep slots inside groups completed begun last births x y long (no_put a b same) sound = subst (λ (i : images.ImageBytes). SoundBy id i groups completed begun) (sym (same_is_same slots a b same)) sound
  records_keep slots inside groups completed begun last births x z long (one_put a y b m among row step) sound =
      record_step slots id m.slot r allowed (inside m among) y b (omega (arith, long m among, row_sizes (status_gate id) ms (status_spelling r) a y row m.slot)) step groups completed begun last births
      (records_keep slots inside groups completed begun last births a y long row sound)
