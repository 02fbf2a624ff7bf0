-- Counts of faults by path.
use Rattle.std.specs.Prelude.{◌≡◌, ◌≢◌, ℕ, List, String, unwrap_or}
use Rattle.std.specs.BTreeMap.{get_by_text, BTreeMap}

module _ {Y : Type 0} where
  -- how often calls on a path failed; a path that isn't kept never failed
  abbrev pub faults_of_path : BTreeMap (String Y) ℕ → List ℕ → ℕ
  faults_of_path faults path = unwrap_or (get_by_text faults path) 0

  -- the counts of the other paths stay
  abbrev pub OthersKeep : List ℕ → BTreeMap (String Y) ℕ → BTreeMap (String Y) ℕ → Type 0
  OthersKeep path old new = (other : List ℕ) → other ≢ path → faults_of_path new other ≡ faults_of_path old other
