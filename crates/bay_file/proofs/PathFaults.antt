-- A map of counts by path after a change at one path.
use Rattle.std.proofs.Common.{◌≡◌, ◌≢◌, ℕ, false, true, List, String, string_bytes, Option, unwrap_or, ⊎_elim, ap, sym, ◌∙◌}
use Rattle.std.specs.BTreeMap.{BTreeMap, UpdatesBy, get_by_text}
use Rattle.std.specs.Ordering.{nat_cmp}
use Rattle.std.specs.Cmp.Lexicographic.{slice_cmp}
use Rattle.std.specs.Str.{bytes_eq}
use Rattle.std.specs.String.{string_cmp}
use Rattle.std.proofs.lemmas.Bool.{cases_Bool, cond-false}
use Rattle.std.proofs.lemmas.Slice.Eq.{bytes_eq-Decides}
use Rattle.std.proofs.lemmas.Map.Text.{btree_map_updates_text}
use Rattle.bay_file.specs.PathFaults.{OthersKeep}

not_same : (path other : List ℕ) → other ≢ path → bytes_eq path other ≡ false
not_same path other apart = ⊎_elim
    (λ (same : bytes_eq path other ≡ true). absurd (apart (sym ((bytes_eq-Decides path other).0 same))))
    (λ (differ : bytes_eq path other ≡ false). differ)
    (cases_Bool (bytes_eq path other))

module _ {Y : Type 0} (path : List ℕ) (m n : BTreeMap (String Y) ℕ) (w : Option ℕ) where
  pub others_keep : UpdatesBy string_cmp (λ k. slice_cmp nat_cmp path (string_bytes k)) m n w → OthersKeep path m n
  others_keep updates other apart = ap (λ (o : Option ℕ). unwrap_or o 0)
      (btree_map_updates_text path m n w updates other ∙ cond-false (bytes_eq path other) w (get_by_text m other) (not_same path other apart))
