-- Marks and numbers of a history.
use Rattle.std.proofs.Common.{◌≡◌, ◌⊎◌, inl, inr, ◌<◌, List, [], ◌∷◌, refl, sym, ap, subst, Option, Some, None, arith}
use Rattle.std.proofs.lemmas.Option.{none-some}
use Rattle.asm_formats.specs.Among.{IsAmong}
use Rattle.asm_formats.specs.Status.{Status}
use Rattle.asm_formats.specs.Following.{rank}
use Rattle.register_machine.specs.Machine.{Mark, Begun, Completed}
use Rattle.register_machine.specs.Laws.{begun, begun_since, last_completed, AreNumbered}

abbrev pub or_first : Option Status → Status → Option Status
or_first None first = Some first
or_first (Some v) first = Some v

-- the record that was completed last, and before there is one, the first that was begun
abbrev pub base : List Mark → Option Status
base [] = None
base (Begun r ∷ older) = or_first (base older) r
base (Completed r ∷ older) = Some r

first_is : (o : Option Status) (r : Status) → or_first o r ≡ None → ⊥
first_is None r e = none-some r (sym e)
first_is (Some v) r e = none-some v (sym e)

pub no_base : (history : List Mark) → base history ≡ None → history ≡ []
no_base [] e = refl
no_base (Begun r ∷ older) e = absurd (first_is (base older) r e)
no_base (Completed r ∷ older) e = absurd (none-some r (sym e))

pub has_base : (history : List Mark) (g : Status) → IsAmong (begun history) g → (v : Status) × (base history ≡ Some v)
has_base history g h = go (base history) refl
  where
    go : (o : Option Status) → base history ≡ o → (v : Status) × (base history ≡ Some v)
    go None e = absurd (subst (λ (l : List Mark). IsAmong (begun l) g) (no_base history e) h)
    go (Some v) e = (v, e)

pub last_is_base : (history : List Mark) (v : Status) → last_completed history ≡ Some v → base history ≡ Some v
last_is_base [] v e = absurd (none-some v e)
last_is_base (Begun r ∷ older) v e = ap (λ (o : Option Status). or_first o r) (last_is_base older v e)
last_is_base (Completed r ∷ older) v e = e

pub since_begun : (history : List Mark) (r : Status) → IsAmong (begun_since history) r → IsAmong (begun history) r
since_begun [] r h = absurd h
since_begun (Begun s ∷ older) r (inl e) = inl e
since_begun (Begun s ∷ older) r (inr h) = inr (since_begun older r h)
since_begun (Completed s ∷ older) r h = absurd h

-- ---- numbers

-- one number, one record
pub compared : (rs : List Status) → AreNumbered rs → (r s : Status) → IsAmong rs r → IsAmong rs s → (r ≡ s) ⊎ ((rank r < rank s) ⊎ (rank s < rank r))
compared [] numbered r s a b = absurd a
compared (x ∷ xs) numbered r s (inl e) (inl f) = inl cc
compared (x ∷ xs) numbered r s (inl e) (inr b) = let lt = numbered.0 s b in inr (inr (omega (arith, lt, ap rank e)))
compared (x ∷ xs) numbered r s (inr a) (inl f) = let lt = numbered.0 r a in inr (inl (omega (arith, lt, ap rank f)))
compared (x ∷ xs) numbered r s (inr a) (inr b) = compared xs numbered.1 r s a b

-- the newest has the greatest number
pub newest : (rs older : List Status) (next : Status) → rs ≡ next ∷ older → AreNumbered rs → (r : Status) → IsAmong rs r → (r ≡ next) ⊎ (rank r < rank next)
newest [] older next e numbered r h = absurd h
newest (x ∷ xs) older next e numbered r (inl same) = inl cc
newest (x ∷ xs) older next e numbered r (inr h) = let first : x ≡ next = cc in let lt = numbered.0 r h in inr (omega (arith, lt, ap rank first))
