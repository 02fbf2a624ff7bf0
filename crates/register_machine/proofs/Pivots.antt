-- The set that all records share which follow one record.
use Rattle.std.proofs.Common.{◌≡◌, inl, inr, List, [], ◌∷◌, refl, sym, subst}
use Rattle.asm_formats.specs.Among.{IsAmong}
use Rattle.asm_formats.specs.Status.{Status}
use Rattle.asm_formats.specs.Following.{Holder, sets, FollowsSets, Follows}
use Rattle.asm_formats.proofs.Orders.{same_sets_follow}

-- the last set
unfoldable pub pivot : List (List Holder) → List Holder
pivot [] = []
pivot (set ∷ []) = set
pivot (first ∷ set ∷ others) = set

shared : (vs rs : List (List Holder)) → FollowsSets vs rs → IsAmong rs (pivot vs)
unfolding pivot
shared [] rs f = absurd f
shared (set ∷ []) [] f = absurd f
shared (set ∷ []) (later ∷ others) f = inl (sym f)
shared (first ∷ set ∷ []) rs (inl e) = subst (λ (l : List (List Holder)). IsAmong l set) (sym e) (inr (inl refl))
shared (first ∷ set ∷ []) rs (inr e) = subst (λ (l : List (List Holder)). IsAmong l set) (sym e) (inl refl)
shared (first ∷ set ∷ third ∷ others) rs f = absurd f

pub shares_pivot : (v r : Status) → Follows v r → IsAmong (sets r) (pivot (sets v))
shares_pivot v r f = shared (sets v) (sets r) f

pub follows_itself : (v : Status) → Follows v v
follows_itself v = same_sets_follow v v refl

-- whatever has the same sets follows too
pub same_sets : (v r s : Status) → sets s ≡ sets r → Follows v r → Follows v s
same_sets v r s e f = subst (λ (l : List (List Holder)). FollowsSets (sets v) l) (sym e) f
