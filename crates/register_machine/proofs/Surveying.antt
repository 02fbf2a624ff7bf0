-- What a survey reads.
use Rattle.std.proofs.Common.{◌≡◌, ◌⊎◌, inl, inr, ⊎_elim, ℕ, ◌≤◌, true, List, [], ◌∷◌, max, refl, sym, ap, subst, Option, Some, None, arith, ◌==◌}
use Rattle.std.specs.Prelude.{nat_lt}
use Rattle.std.proofs.lemmas.Bool.{and_parts, cond_both, eqb-true, false≢true, ltb-false, ltb-true, or_cases}
use Rattle.std.proofs.lemmas.Option.{cond_some, none-some}
use Rattle.asm_formats.specs.Among.{IsAmong}
use Rattle.asm_formats.specs.Status.{Status}
use Rattle.asm_formats.specs.Following.{Holder, rank}
use Rattle.register_machine.specs.Disks.{DisksByHolder, is_same, is_in, is_enough, greater, greatest, where_enough, surveyed_record, unless_gone, status, shown_epoch, seen_epoch}

pub same_disk : (d e : Holder) → is_same d e ≡ true → d ≡ e
same_disk d e h = let p = and_parts (d.0 == e.0) (d.1 == e.1) h in λ i. (eqb-true d.0 e.0 p.0 i, eqb-true d.1 e.1 p.1 i)

pub in_read : (read : List Holder) (d : Holder) → is_in read d ≡ true → IsAmong read d
in_read [] d h = absurd (false≢true h)
in_read (e ∷ es) d h = ⊎_elim (λ here. inl (same_disk d e here)) (λ later. inr (in_read es d later)) (or_cases (is_same d e) (is_in es d) h)

-- ---- the greatest record

-- the option has a record of at least the number of r
abbrev pub HasFrom : Status → Option Status → Type 0
HasFrom r o = (g : Status) × (o ≡ Some g) × (rank r ≤ rank g)

greater_left : (r : Status) (p : Option Status) → HasFrom r (greater (Some r) p)
greater_left r None = (r, refl, omega arith)
greater_left r (Some s) = cond_both (nat_lt (rank r) (rank s)) (Some s) (Some r) (λ (o : Option Status). HasFrom r o)
    (λ less. (s, refl, let lt = ltb-true (rank r) (rank s) less in omega (arith, lt))) (λ more. (r, refl, omega arith))

greater_right : (r s : Status) (o : Option Status) → rank r ≤ rank s → HasFrom r (greater o (Some s))
greater_right r s None le = (s, refl, le)
greater_right r s (Some t) le = cond_both (nat_lt (rank t) (rank s)) (Some s) (Some t) (λ (o : Option Status). HasFrom r o)
    (λ less. (s, refl, le)) (λ more. (t, refl, let ge = ltb-false (rank t) (rank s) more in omega (arith, ge, le)))

greater_one : (o p : Option Status) (g : Status) → greater o p ≡ Some g → (o ≡ Some g) ⊎ (p ≡ Some g)
greater_one None p g e = inr e
greater_one (Some r) None g e = inl e
greater_one (Some r) (Some s) g e = cond_both (nat_lt (rank r) (rank s)) (Some s) (Some r) (λ (o : Option Status). o ≡ Some g → (Some r ≡ Some g) ⊎ (Some s ≡ Some g))
    (λ less is. inr is) (λ more is. inl is) e

-- no record on the disks is greater
pub greatest_most : (disks : DisksByHolder) (read : List Holder) (d : Holder) (r : Status) → IsAmong read d → (disks d).status ≡ Some r → HasFrom r (greatest disks read)
greatest_most disks [] d r among is = absurd among
greatest_most disks (e ∷ es) d r (inl same) is =
    let here : (disks e).status ≡ Some r = subst (λ (f : Holder). (disks f).status ≡ Some r) same is in
    subst (λ (o : Option Status). HasFrom r (greater o (greatest disks es))) (sym here) (greater_left r (greatest disks es))
greatest_most disks (e ∷ es) d r (inr later) is =
    let most : HasFrom r (greatest disks es) = greatest_most disks es d r later is in
    subst (λ (o : Option Status). HasFrom r (greater (disks e).status o)) (sym most.1) (greater_right r most.0 (disks e).status most.2)

-- it stands on one of the disks
pub greatest_held : (disks : DisksByHolder) (read : List Holder) (g : Status) → greatest disks read ≡ Some g → (d : Holder) × IsAmong read d × ((disks d).status ≡ Some g)
greatest_held disks [] g e = absurd (none-some g e)
greatest_held disks (d ∷ ds) g e = ⊎_elim
    (λ here. (d, inl refl, here))
    (λ later. let h = greatest_held disks ds g later in (h.0, inr h.1, h.2))
    (greater_one (disks d).status (greatest disks ds) g e)

-- ---- what is surveyed

enough_parts : (read : List Holder) (o : Option Status) (r : Status) → where_enough read o ≡ Some r → (o ≡ Some r) × (is_enough (is_in read) r ≡ true)
enough_parts read None r e = absurd (none-some r e)
enough_parts read (Some s) r e =
    let p = cond_some (is_enough (is_in read) s) s r e in
    (ap (λ (t : Status). Some t) p.1, subst (λ (t : Status). is_enough (is_in read) t ≡ true) p.1 p.0)

pub surveyed_parts : (disks : DisksByHolder) (read : List Holder) (r : Status) → surveyed_record disks read ≡ Some r → (greatest disks read ≡ Some r) × (is_enough (is_in read) r ≡ true)
surveyed_parts disks read r e = enough_parts read (greatest disks read) r e

gone_parts : (o : Option Status) (r : Status) → unless_gone o ≡ Some r → o ≡ Some r
gone_parts None r e = e
gone_parts (Some s) r e = cond_both s.gone None (Some s) (λ (o : Option Status). o ≡ Some r → Some s ≡ Some r) (λ gone is. absurd (none-some r is)) (λ stays is. is) e

pub status_surveyed : (disks : DisksByHolder) (read : List Holder) (r : Status) → status disks read ≡ Some r → surveyed_record disks read ≡ Some r
status_surveyed disks read r e = gone_parts (surveyed_record disks read) r e

pub epoch_seen : (disks : DisksByHolder) (read : List Holder) (d : Holder) → IsAmong read d → shown_epoch (disks d) ≤ seen_epoch disks read
epoch_seen disks [] d among = absurd among
epoch_seen disks (e ∷ es) d (inl same) = at_most (shown_epoch (disks d)) (shown_epoch (disks e)) (seen_epoch disks es) (ap (λ (f : Holder). shown_epoch (disks f)) same)
  where
    at_most : (a b c : ℕ) → a ≡ b → a ≤ max b c
    at_most a b c same = omega arith
epoch_seen disks (e ∷ es) d (inr later) = at_most (shown_epoch (disks d)) (shown_epoch (disks e)) (seen_epoch disks es) (epoch_seen disks es d later)
  where
    at_most : (a b c : ℕ) → a ≤ c → a ≤ max b c
    at_most a b c le = omega arith
