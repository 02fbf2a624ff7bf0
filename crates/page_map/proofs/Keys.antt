-- Keys that compare equal are one.
use Rattle.std.proofs.Common.{◌≡◌, ℕ, Bool, true, false, refl, sym, ap, ◌∙◌, inl, inr, ◌⊎◌}
use Rattle.std.specs.declared.cmp.Ordering.{Ordering}
use Rattle.std.specs.declared.cmp.Ordering.TheVariants.{Less, Equal, Greater}
use Rattle.std.specs.Ordering.{nat_cmp, ordering_then, is_eq}
use Rattle.std.proofs.lemmas.Bool.{true≢false}
use Rattle.std.proofs.lemmas.Map.Lookups.{exact_unsigned}
use Rattle.std.specs.Cmp.{nat_cmp_is}
use Rattle.asm_formats.specs.Items.{Key}
use Rattle.allocator.specs.asm_base.Records.{is_key}

-- a test answers one or the other
pub one_or_other : (b : Bool) → (b ≡ true) ⊎ (b ≡ false)
one_or_other true = inl refl
one_or_other false = inr refl

both_equal : (r s : Ordering) → is_eq (ordering_then r s) ≡ true → (r ≡ Equal) × (is_eq s ≡ true)
both_equal Less s e = absurd (true≢false (sym e))
both_equal Equal s e = (refl, e)
both_equal Greater s e = absurd (true≢false (sym e))

is_equal : (r : Ordering) → is_eq r ≡ true → r ≡ Equal
is_equal Less e = absurd (true≢false (sym e))
is_equal Equal e = refl
is_equal Greater e = absurd (true≢false (sym e))

pub same_key : (j k : Key) → is_key j k ≡ true → j ≡ k
same_key j k e =
    let first = both_equal (nat_cmp j.kind k.kind) (ordering_then (nat_cmp j.a k.a) (nat_cmp j.b k.b)) e in
    let second = both_equal (nat_cmp j.a k.a) (nat_cmp j.b k.b) first.1 in
    let kind : j.kind ≡ k.kind = exact_unsigned j.kind k.kind first.0 in
    let a : j.a ≡ k.a = exact_unsigned j.a k.a second.0 in
    let b : j.b ≡ k.b = exact_unsigned j.b k.b (is_equal (nat_cmp j.b k.b) second.1) in
    ap (λ (n : ℕ). let x : Key = record { kind = n; a = j.a; b = j.b } in x) kind
    ∙ ap (λ (n : ℕ). let x : Key = record { kind = k.kind; a = n; b = j.b } in x) a
    ∙ ap (λ (n : ℕ). let x : Key = record { kind = k.kind; a = k.a; b = n } in x) b

pub key_itself : (k : Key) → is_key k k ≡ true
key_itself k = all_equal (nat_cmp k.kind k.kind) (nat_cmp k.a k.a) (nat_cmp k.b k.b) (itself k.kind) (itself k.a) (itself k.b) where
  itself : (n : ℕ) → nat_cmp n n ≡ Equal
  itself n = sym (nat_cmp_is n n Equal refl)

  all_equal : (r s t : Ordering) → r ≡ Equal → s ≡ Equal → t ≡ Equal → is_eq (ordering_then r (ordering_then s t)) ≡ true
  all_equal r s t a b c = rw (a, b, c) refl
