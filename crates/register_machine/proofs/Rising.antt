-- What is put on disks raises what they show.
use Rattle.std.proofs.Common.{◌≡◌, ◌⊎◌, inl, inr, ℕ, ◌≤◌, Bool, true, false, max, sym, ap, subst, refl, Option, Some, None, arith}
use Rattle.std.specs.Prelude.{nat_le}
use Rattle.std.proofs.lemmas.Bool.{cond_both, false≢true, le-leb, leb-true}
use Rattle.std.proofs.lemmas.Option.{same_Some}
use Rattle.asm_formats.specs.Status.{Status}
use Rattle.asm_formats.specs.Following.{Holder, rank}
use Rattle.register_machine.specs.Disks.{Disk, DisksByHolder, is_same, with_disk, with_claim, with_record, has_claim, epoch_of, shown_epoch}
use Rattle.register_machine.proofs.Surveying.{same_disk}

abbrev pub is_from : ℕ → Option Status → Bool
is_from n None = false
is_from n (Some r) = nat_le n (rank r)

-- the disk holds a record of at least this number
abbrev pub has_from : DisksByHolder → ℕ → Holder → Bool
has_from disks n d = is_from n (disks d).status

-- the disk shows at least this epoch
abbrev pub shows_from : DisksByHolder → ℕ → Holder → Bool
shows_from disks epoch d = nat_le epoch (shown_epoch (disks d))

pub record Rises (old new : DisksByHolder) : Type 0 where
  pub records : (n : ℕ) (d : Holder) → has_from old n d ≡ true → has_from new n d ≡ true
  pub epochs : (epoch : ℕ) (d : Holder) → shows_from old epoch d ≡ true → shows_from new epoch d ≡ true
  pub claims : (epoch : ℕ) (d : Holder) → has_claim old epoch d ≡ true → has_claim new epoch d ≡ true

from_below : (n m : ℕ) (o : Option Status) → n ≤ m → is_from m o ≡ true → is_from n o ≡ true
from_below n m None le h = h
from_below n m (Some r) le h = le-leb n (rank r) (let from = leb-true m (rank r) h in omega (arith, from, le))

pub has_from_below : (disks : DisksByHolder) (n m : ℕ) (d : Holder) → n ≤ m → has_from disks m d ≡ true → has_from disks n d ≡ true
has_from_below disks n m d le h = from_below n m (disks d).status le h

-- a disk shows the epochs of its claim
pub claim_shows : (disks : DisksByHolder) (least epoch : ℕ) (d : Holder) → least ≤ epoch → has_claim disks epoch d ≡ true → shows_from disks least d ≡ true
claim_shows disks least epoch d le h = le-leb least (shown_epoch (disks d)) (below (disks d).claimed (epoch_of (disks d).status) (leb-true epoch (disks d).claimed h))
  where
    below : (a b : ℕ) → epoch ≤ a → least ≤ max a b
    below a b from = omega arith

-- ---- one disk changes

module _ (disks : DisksByHolder) (place : Holder) (new : Disk)
    (records : (n : ℕ) → is_from n (disks place).status ≡ true → is_from n new.status ≡ true)
    (epochs : shown_epoch (disks place) ≤ shown_epoch new)
    (claims : (disks place).claimed ≤ new.claimed) where
  -- what held of the old disk, held of it under the name of the disk that changes
  at_place : (P : Disk → Type 0) (d : Holder) → is_same place d ≡ true → P (disks d) → P (disks place)
  at_place P d same h = subst (λ (e : Holder). P (disks e)) (sym (same_disk place d same)) h

  up : (n a b : ℕ) → a ≤ b → nat_le n a ≡ true → nat_le n b ≡ true
  up n a b le h = le-leb n b (let from = leb-true n a h in omega (arith, from, le))

  pub disk_rises : Rises disks (with_disk disks place new)
  disk_rises = record {
    records = λ n d h. cond_both (is_same place d) new (disks d) (λ (x : Disk). is_from n x.status ≡ true)
        (λ same. records n (at_place (λ (x : Disk). is_from n x.status ≡ true) d same h)) (λ other. h);
    epochs = λ epoch d h. cond_both (is_same place d) new (disks d) (λ (x : Disk). nat_le epoch (shown_epoch x) ≡ true)
        (λ same. up epoch (shown_epoch (disks place)) (shown_epoch new) epochs (at_place (λ (x : Disk). nat_le epoch (shown_epoch x) ≡ true) d same h)) (λ other. h);
    claims = λ epoch d h. cond_both (is_same place d) new (disks d) (λ (x : Disk). nat_le epoch x.claimed ≡ true)
        (λ same. up epoch (disks place).claimed new.claimed claims (at_place (λ (x : Disk). nat_le epoch x.claimed ≡ true) d same h)) (λ other. h);
  }

-- ---- claims and records

claim_up : (a b c : ℕ) → max a b ≤ max (max c a) b
claim_up a b c = omega arith

pub claim_rises : (disks : DisksByHolder) (place : Holder) (epoch : ℕ) → Rises disks (with_claim disks place epoch)
claim_rises disks place epoch = disk_rises disks place (record { claimed = max epoch (disks place).claimed; status = (disks place).status })
    (λ n h. h) (claim_up (disks place).claimed (epoch_of (disks place).status) epoch) (omega arith)

pub claim_keeps : (disks : DisksByHolder) (place : Holder) (epoch : ℕ) (d : Holder) → (with_claim disks place epoch d).status ≡ (disks d).status
claim_keeps disks place epoch d = cond_both (is_same place d) (record { claimed = max epoch (disks place).claimed; status = (disks place).status }) (disks d)
    (λ (x : Disk). x.status ≡ (disks d).status) (λ same. ap (λ (e : Holder). (disks e).status) (same_disk place d same)) (λ other. refl)

-- the disk holds no greater record, nor one of a greater epoch
abbrev pub IsNotAbove : Option Status → Status → Type 0
IsNotAbove None r = Unit {0}
IsNotAbove (Some s) r = (rank s ≤ rank r) × (s.epoch ≤ r.epoch)

record_from : (o : Option Status) (r : Status) (n : ℕ) → IsNotAbove o r → is_from n o ≡ true → nat_le n (rank r) ≡ true
record_from None r n below h = absurd (false≢true h)
record_from (Some s) r n below h = le-leb n (rank r) (let from = leb-true n (rank s) h in omega (arith, from, below.0))

record_up : (o : Option Status) (r : Status) (claimed : ℕ) → IsNotAbove o r → max claimed (epoch_of o) ≤ max claimed r.epoch
record_up None r claimed below = omega arith
record_up (Some s) r claimed below = omega (arith, below.1)

pub record_rises : (disks : DisksByHolder) (place : Holder) (r : Status) → IsNotAbove (disks place).status r → Rises disks (with_record disks place r)
record_rises disks place r below = disk_rises disks place (record { claimed = (disks place).claimed; status = Some r })
    (λ n h. record_from (disks place).status r n below h) (record_up (disks place).status r (disks place).claimed below) (omega arith)

-- what a disk holds then is the record, or what it held
pub record_held : (disks : DisksByHolder) (place : Holder) (r : Status) (d : Holder) (s : Status) → (with_record disks place r d).status ≡ Some s → (s ≡ r) ⊎ ((disks d).status ≡ Some s)
record_held disks place r d s h = cond_both (is_same place d) (record { claimed = (disks place).claimed; status = Some r }) (disks d)
    (λ (x : Disk). x.status ≡ Some s → (s ≡ r) ⊎ ((disks d).status ≡ Some s)) (λ same is. inl (sym (same_Some r s is))) (λ other is. inr is) h
