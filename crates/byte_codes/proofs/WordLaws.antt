-- A word is read from its number alone.
use Rattle.std.proofs.Common.{◌≡◌, ℕ, zero, suc, ◌<◌, Option, Some, None, refl, ap, arith}
use Rattle.asm_group.specs.declared.GroupKind.{GroupKind}
use Rattle.asm_group.specs.declared.GroupKind.TheVariants.{External, Normal, High}
use Rattle.asm_group.specs.declared.Mode.{Mode}
use Rattle.asm_group.specs.declared.Mode.TheVariants.{Online, Offline, Syncing, Dropping, Forced}
use Rattle.asm_group.specs.declared.Stripe.{Stripe}
use Rattle.asm_group.specs.declared.Stripe.TheVariants.{Coarse, Fine}
use Rattle.asm_group.specs.declared.NodeKind.{NodeKind}
use Rattle.asm_group.specs.declared.NodeKind.TheVariants.{Directory, System, Alias}
use Rattle.asm_group.specs.declared.PendingKind.{PendingKind}
use Rattle.asm_group.specs.declared.PendingKind.TheVariants.{Create, Remove, Grow, Shrink}
use Rattle.asm_formats.specs.Codes.{kind_code, mode_code, stripe_code, node_code, pending_code}
use Rattle.byte_codes.specs.Words.{known_kind, kind_reading, known_mode, mode_reading, known_stripe, stripe_reading, known_node_kind, node_kind_reading, known_pending_kind, pending_kind_reading}
use Rattle.asm_base.proofs.Exact.{IsExact, decoded_exact}
use Rattle.asm_base.proofs.FieldLaws.{one_byte, byte_exact}

pub kind_exact : IsExact (λ k. one_byte (kind_code k)) (λ k. Unit {0}) kind_reading
kind_exact = decoded_exact known_kind kind_code known one_code fits_code byte_exact where
  known : (k : GroupKind) → known_kind (kind_code k) ≡ Some k
  known External = refl
  known Normal = refl
  known High = refl

  coded : Option GroupKind → ℕ
  coded (Some k) = kind_code k
  coded None = 0

  one_code : (n : ℕ) (k : GroupKind) → known_kind n ≡ Some k → n ≡ kind_code k
  one_code zero k e = absurd cc
  one_code (suc zero) k e = ap coded e
  one_code (suc (suc zero)) k e = ap coded e
  one_code (suc (suc (suc zero))) k e = ap coded e
  one_code (suc (suc (suc (suc n)))) k e = absurd cc

  fits_code : (k : GroupKind) → kind_code k < 256
  fits_code External = omega arith
  fits_code Normal = omega arith
  fits_code High = omega arith

pub mode_exact : IsExact (λ m. one_byte (mode_code m)) (λ m. Unit {0}) mode_reading
mode_exact = decoded_exact known_mode mode_code known one_code fits_code byte_exact where
  known : (m : Mode) → known_mode (mode_code m) ≡ Some m
  known Online = refl
  known Offline = refl
  known Syncing = refl
  known Dropping = refl
  known Forced = refl

  coded : Option Mode → ℕ
  coded (Some m) = mode_code m
  coded None = 0

  one_code : (n : ℕ) (m : Mode) → known_mode n ≡ Some m → n ≡ mode_code m
  one_code zero m e = absurd cc
  one_code (suc zero) m e = ap coded e
  one_code (suc (suc zero)) m e = ap coded e
  one_code (suc (suc (suc zero))) m e = ap coded e
  one_code (suc (suc (suc (suc zero)))) m e = ap coded e
  one_code (suc (suc (suc (suc (suc zero))))) m e = ap coded e
  one_code (suc (suc (suc (suc (suc (suc n)))))) m e = absurd cc

  fits_code : (m : Mode) → mode_code m < 256
  fits_code Online = omega arith
  fits_code Offline = omega arith
  fits_code Syncing = omega arith
  fits_code Dropping = omega arith
  fits_code Forced = omega arith

pub stripe_exact : IsExact (λ s. one_byte (stripe_code s)) (λ s. Unit {0}) stripe_reading
stripe_exact = decoded_exact known_stripe stripe_code known one_code fits_code byte_exact where
  known : (s : Stripe) → known_stripe (stripe_code s) ≡ Some s
  known Coarse = refl
  known Fine = refl

  coded : Option Stripe → ℕ
  coded (Some s) = stripe_code s
  coded None = 0

  one_code : (n : ℕ) (s : Stripe) → known_stripe n ≡ Some s → n ≡ stripe_code s
  one_code zero s e = absurd cc
  one_code (suc zero) s e = ap coded e
  one_code (suc (suc zero)) s e = ap coded e
  one_code (suc (suc (suc n))) s e = absurd cc

  fits_code : (s : Stripe) → stripe_code s < 256
  fits_code Coarse = omega arith
  fits_code Fine = omega arith

pub node_kind_exact : IsExact (λ k. one_byte (node_code k)) (λ k. Unit {0}) node_kind_reading
node_kind_exact = decoded_exact known_node_kind node_code known one_code fits_code byte_exact where
  known : (k : NodeKind) → known_node_kind (node_code k) ≡ Some k
  known Directory = refl
  known System = refl
  known Alias = refl

  coded : Option NodeKind → ℕ
  coded (Some k) = node_code k
  coded None = 0

  one_code : (n : ℕ) (k : NodeKind) → known_node_kind n ≡ Some k → n ≡ node_code k
  one_code zero k e = absurd cc
  one_code (suc zero) k e = ap coded e
  one_code (suc (suc zero)) k e = ap coded e
  one_code (suc (suc (suc zero))) k e = ap coded e
  one_code (suc (suc (suc (suc n)))) k e = absurd cc

  fits_code : (k : NodeKind) → node_code k < 256
  fits_code Directory = omega arith
  fits_code System = omega arith
  fits_code Alias = omega arith

pub pending_kind_exact : IsExact (λ k. one_byte (pending_code k)) (λ k. Unit {0}) pending_kind_reading
pending_kind_exact = decoded_exact known_pending_kind pending_code known one_code fits_code byte_exact where
  known : (k : PendingKind) → known_pending_kind (pending_code k) ≡ Some k
  known Create = refl
  known Remove = refl
  known Grow = refl
  known Shrink = refl

  coded : Option PendingKind → ℕ
  coded (Some k) = pending_code k
  coded None = 0

  one_code : (n : ℕ) (k : PendingKind) → known_pending_kind n ≡ Some k → n ≡ pending_code k
  one_code zero k e = absurd cc
  one_code (suc zero) k e = ap coded e
  one_code (suc (suc zero)) k e = ap coded e
  one_code (suc (suc (suc zero))) k e = ap coded e
  one_code (suc (suc (suc (suc zero)))) k e = ap coded e
  one_code (suc (suc (suc (suc (suc n))))) k e = absurd cc

  fits_code : (k : PendingKind) → pending_code k < 256
  fits_code Create = omega arith
  fits_code Remove = omega arith
  fits_code Grow = omega arith
  fits_code Shrink = omega arith
