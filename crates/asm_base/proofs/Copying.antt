-- A table that is copied entry by entry.
use Rattle.std.proofs.Common.{◌≡◌, Ordering, Bool, true, List, [], ◌∷◌, ◌++◌, refl, sym, ap, ◌∙◌, append_assoc}
use Rattle.std.specs.Cmp.{IsTotalOrder}
use Rattle.std.specs.Ordering.{is_lt}
use Rattle.std.specs.BTreeMap.{insert_entry}
use Rattle.asm_base.specs.Records.{Ascend, ends_below}
use Rattle.asm_base.proofs.Lists.{insert_at_end}

-- the entries before another one ascend, and end below it
front : {K T : Type 0} (is_below : K → K → Bool) (done : List (K × T)) (x : K × T) (rest : List (K × T)) → Ascend is_below (done ++ x ∷ rest) → Ascend is_below done × (ends_below is_below done x.0 ≡ true)
front is_below [] x rest up = (tt, refl)
front is_below (a ∷ []) x rest up = (tt, up.0)
front is_below (a ∷ b ∷ done) x rest up = let r = front is_below (b ∷ done) x rest up.1 in ((up.0, r.0), r.1)

-- the next entry of a table comes behind those that are copied
pub copied_more : {K T : Type 0} (R : K → K → Ordering) → IsTotalOrder R → (whole done rest : List (K × T)) (k : K) (v : T)
    → Ascend (λ a b. is_lt (R a b)) whole → done ++ (k, v) ∷ rest ≡ whole → insert_entry R done k v ++ rest ≡ whole
copied_more {K} {T} R order whole done rest k v up e =
    let f = front (λ a b. is_lt (R a b)) done (k, v) rest (rw e up) in
    ap (λ (es : List (K × T)). es ++ rest) (insert_at_end R order done k v f.0 f.1) ∙ (append_assoc done ((k, v) ∷ []) rest ∙ e)
