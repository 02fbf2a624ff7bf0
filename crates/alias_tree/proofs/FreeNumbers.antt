-- The least number that no node has.
use Rattle.std.proofs.Common.{◌≡◌, ℕ, ◌<◌, ◌≤◌, List, None, arith, inl, inr}
use Rattle.std.specs.Prelude.{IsTrue, is_some}
use Rattle.std.proofs.lemmas.Bool.{cases_lt}
use Rattle.alias_tree.specs.Numbers.{IsLeastFree}
use Rattle.alias_tree.specs.FileNames.{IsLow}
use Rattle.alias_tree.specs.Nodes.{Numbered, node_at}

abbrev Taken : List Numbered → ℕ → ℕ → Type 0
Taken nodes from n = (k : ℕ) → from ≤ k → k < n → IsTrue (is_some (node_at nodes k))

pub least_free : (nodes : List Numbered) (low n : ℕ) → IsLow nodes low → node_at nodes n ≡ None → low ≤ n → Taken nodes low n → IsLeastFree nodes n
least_free nodes low n l free from taken = record {
  some = (let some : 0 < low = l.some in omega arith);
  free = free;
  least = λ k some less. elim (cases_lt k low) [ inl b ↦ l.taken k some b | inr a ↦ taken k a less ];
}
