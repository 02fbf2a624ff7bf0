-- Which disks have a copy.
use Rattle.std.proofs.Common.{◌≡◌, ◌≢◌, ◌⊎◌, inl, inr, ⊎_elim, ℕ, Bool, true, false, List, [], ◌∷◌, refl, sym, ap, subst, ◌∙◌}
use Rattle.std.specs.Prelude.{◌==◌, ◌||◌}
use Rattle.std.proofs.lemmas.Bool.{eq-eqb, eqb-true, true≢false}
use Rattle.asm_formats.specs.Among.{IsAmong}
use Rattle.change_directory.specs.declared.copy.DirCopy.{DirCopy}
use Rattle.directory_store.specs.Copies.{AreCopiesApart, IsCopyApart}
use Rattle.directory_store.specs.Stores.{has_copy_of_disk}

pub disk_has : (number : ℕ) (copies : List DirCopy) (c : DirCopy) → IsAmong copies c → c.number ≡ number → has_copy_of_disk number copies ≡ true
disk_has number [] c among same = absurd among
disk_has number (d ∷ copies) c (inl e) same = ap (λ (b : Bool). b || has_copy_of_disk number copies) (eq-eqb d.number number (sym (ap (λ (k : DirCopy). k.number) e) ∙ same))
disk_has number (d ∷ copies) c (inr there) same = ap (λ (b : Bool). (d.number == number) || b) (disk_has number copies c there same) ∙ or_true (d.number == number)
  where
    or_true : (b : Bool) → (b || true) ≡ true
    or_true true = refl
    or_true false = refl

pub has_of_disk : (number : ℕ) (copies : List DirCopy) → has_copy_of_disk number copies ≡ true → (c : DirCopy) × IsAmong copies c × (c.number ≡ number)
has_of_disk number [] has = absurd (true≢false (sym has))
has_of_disk number (d ∷ copies) has = go (λ there. has_of_disk number copies there) (d.number == number) refl
  where
    go : (has_copy_of_disk number copies ≡ true → (c : DirCopy) × IsAmong copies c × (c.number ≡ number)) → (b : Bool) → (d.number == number) ≡ b
        → (c : DirCopy) × IsAmong (d ∷ copies) c × (c.number ≡ number)
    go among true is = (d, inl refl, eqb-true d.number number is)
    go among false is =
        let later = among (sym (ap (λ (b : Bool). b || has_copy_of_disk number copies) is) ∙ has) in
        (later.0, inr later.1, later.2)

-- two copies are one, or apart
one_or_apart : (copies : List DirCopy) → AreCopiesApart copies → (c d : DirCopy) → IsAmong copies c → IsAmong copies d → (c ≡ d) ⊎ ((c.slot ≢ d.slot) × (c.number ≢ d.number))
one_or_apart [] apart c d mine yours = absurd mine
one_or_apart (x ∷ copies) apart c d (inl a) (inl b) = inl (a ∙ sym b)
one_or_apart (x ∷ copies) apart c d (inl a) (inr there) =
    inr (subst (λ (k : DirCopy). (k.slot ≢ d.slot) × (k.number ≢ d.number)) (sym a) (apart.0 d there))
one_or_apart (x ∷ copies) apart c d (inr there) (inl b) =
    let from = apart.0 c there in
    inr (subst (λ (k : DirCopy). (c.slot ≢ k.slot) × (c.number ≢ k.number)) (sym b) ((λ e. from.0 (sym e)), (λ e. from.1 (sym e))))
one_or_apart (x ∷ copies) apart c d (inr there) (inr yonder) = one_or_apart copies apart.1 c d there yonder

pub absent_is_apart : (some copies : List DirCopy) (c : DirCopy) → AreCopiesApart copies → ((d : DirCopy) → IsAmong some d → IsAmong copies d) → IsAmong copies c → has_copy_of_disk c.number some ≡ false
    → IsCopyApart c some
absent_is_apart some copies c apart within mine absent d yours = ⊎_elim
    (λ (one : c ≡ d). absurd (true≢false (sym (disk_has c.number some d yours (sym (ap (λ (k : DirCopy). k.number) one))) ∙ absent)))
    (λ from. from)
    (one_or_apart copies apart c d mine (within d yours))
