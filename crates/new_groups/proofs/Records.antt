-- Records that directories may hold.
use Rattle.std.proofs.Common.{◌≡◌, ◌⊎◌, inl, inr, ⊎_elim, List, [], ◌∷◌, ◌++◌, sym, subst}
use Rattle.asm_base.specs.Records.{DirectoryRecord}
use Rattle.asm_formats.specs.Among.{IsAmong}
use Rattle.directory_store.specs.Contents.{ArePutItems, IsPutItem}

in_more : (put : List DirectoryRecord) (e x : DirectoryRecord) → IsAmong (put ++ e ∷ []) x → IsAmong put x ⊎ (x ≡ e)
in_more [] e x (inl is) = inr is
in_more [] e x (inr none) = absurd none
in_more (y ∷ ys) e x (inl is) = inl (inl is)
in_more (y ∷ ys) e x (inr later) = ⊎_elim (λ among. inl (inr among)) (λ is. inr is) (in_more ys e x later)

-- one more
pub put_more : (put next : List DirectoryRecord) (e : DirectoryRecord) → next ≡ put ++ e ∷ [] → IsPutItem e → ArePutItems put → ArePutItems next
put_more put next e is one all =
    subst ArePutItems (sym is) (λ x among. ⊎_elim (λ before. all x before) (λ (same : x ≡ e). subst IsPutItem (sym same) one) (in_more put e x among))

pub put_none : (put : List DirectoryRecord) → put ≡ [] → ArePutItems put
put_none put is = subst ArePutItems (sym is) (λ x none. absurd none)
