-- What holds of every layout.
use Rattle.std.specs.Prelude.{◌≡◌, ℕ, ◌%◌, ◌<◌, ◌≤◌, ◌↔◌, IsTrue}
use Rattle.asm_formats.specs.asm_group.declared.Stripe.{Stripe}
use Rattle.asm_placement.specs.Layout.{start, extents_at_once, LiesAt, has_extent_by_size, IsLayout}

-- a byte lies at one place only
abbrev pub LayoutIsOneToOne : Type 0
LayoutIsOneToOne = (stripe : Stripe) (au step o i q j r : ℕ) → IsLayout au step → LiesAt stripe au step o i q → LiesAt stripe au step o j r → (i ≡ j) × (q ≡ r)

-- each byte lies somewhere
abbrev pub LayoutReachesAll : Type 0
LayoutReachesAll = (stripe : Stripe) (au step o : ℕ) → IsLayout au step → (i : ℕ) × (q : ℕ) × LiesAt stripe au step o i q

-- whole sets of extents have the bytes before their end, and no others
abbrev pub LayoutFillsSets : Type 0
LayoutFillsSets =
    (stripe : Stripe) (au step o i q n : ℕ) → IsLayout au step → LiesAt stripe au step o i q → n % extents_at_once stripe ≡ 0
    → (i < n) ↔ (o < start au step n)

-- the extents that a file has by its size are whole sets, and have room for its bytes
abbrev pub ExtentsHoldTheFile : Type 0
ExtentsHoldTheFile =
    (stripe : Stripe) (au step size n : ℕ) → IsLayout au step → ((i : ℕ) → (i < n) ↔ IsTrue (has_extent_by_size stripe au step size i))
    → (n % extents_at_once stripe ≡ 0) × (size ≤ start au step n)
