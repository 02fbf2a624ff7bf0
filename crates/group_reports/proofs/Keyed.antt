-- Paths under texts, as the program's map keeps them.
use Rattle.std.proofs.Common.{◌≡◌, ℕ, List, [], ◌∷◌, ◌++◌, map, refl, sym, ap, ◌∙◌}
use Rattle.std.specs.Prelude.{Vec}
use Rattle.std.specs.declared.alloc.Global.{Global}
use Rattle.std.specs.declared.cmp.Ordering.{Ordering}
use Rattle.std.specs.declared.cmp.Ordering.TheVariants.{Less, Equal, Greater}
use Rattle.std.specs.BTreeMap.{insert_entry}
use Rattle.std.specs.Map.{values_of}
use Rattle.std.specs.Ordering.{nat_cmp, match_ordering}
use Rattle.std.specs.Cmp.Lexicographic.{slice_cmp}
use Rattle.asm_group.specs.Names.{Bytes}
use Rattle.asm_base.specs.declared.path.Path.{Path}
use Rattle.group_reports.specs.Files.{folded_text, placed_among}
use Rattle.group_reports.specs.Keyed.{keyed_paths}

abbrev pub Key : Type 0
Key = Vec ℕ Global

abbrev key_cmp : Key → Key → Ordering
key_cmp a b = slice_cmp nat_cmp a.items b.items

-- an entry more, seen by the bytes of the keys
inserted : (entries : List (Key × Path)) (k : Key) (p : Path) → keyed_paths (insert_entry key_cmp entries k p) ≡ insert_entry (slice_cmp nat_cmp) (keyed_paths entries) k.items p
inserted [] k p = refl
inserted (e ∷ es) k p = by (key_cmp k e.0) (inserted es k p)
  where
    by : (o : Ordering) → keyed_paths (insert_entry key_cmp es k p) ≡ insert_entry (slice_cmp nat_cmp) (keyed_paths es) k.items p
        → keyed_paths (match_ordering o ((k, p) ∷ e ∷ es) ((e.0, p) ∷ es) (e ∷ insert_entry key_cmp es k p))
        ≡ match_ordering o ((k.items, p) ∷ (e.0.items, e.1) ∷ keyed_paths es) ((e.0.items, p) ∷ keyed_paths es) ((e.0.items, e.1) ∷ insert_entry (slice_cmp nat_cmp) (keyed_paths es) k.items p)
    by Less later = refl
    by Equal later = refl
    by Greater later = ap (λ (xs : List (Bytes × Path)). (e.0.items, e.1) ∷ xs) later

-- the last of the paths goes in first
last_first : (places : List (Bytes × Path)) (paths : List Path) (p : Path) → placed_among places (paths ++ p ∷ []) ≡ placed_among (insert_entry (slice_cmp nat_cmp) places (folded_text p) p) paths
last_first places [] p = refl
last_first places (q ∷ paths) p = ap (λ (es : List (Bytes × Path)). insert_entry (slice_cmp nat_cmp) es (folded_text q) q) (last_first places paths p)

-- one path more in the map
pub place_more : (entries new : List (Key × Path)) (k : Key) (p : Path) (paths left : List Path) (all : List (Bytes × Path)) → placed_among (keyed_paths entries) paths ≡ all → paths ≡ left ++ p ∷ []
    → new ≡ insert_entry key_cmp entries k p → k.items ≡ folded_text p → placed_among (keyed_paths new) left ≡ all
place_more entries new k p paths left all so_far split put text =
    ap (λ (es : List (Key × Path)). placed_among (keyed_paths es) left) put
    ∙ (ap (λ (es : List (Bytes × Path)). placed_among es left) (inserted entries k p ∙ ap (λ (b : Bytes). insert_entry (slice_cmp nat_cmp) (keyed_paths entries) b p) text)
    ∙ (sym (last_first (keyed_paths entries) left p) ∙ (ap (λ (ps : List Path). placed_among (keyed_paths entries) ps) (sym split) ∙ so_far)))

pub place_end : (entries : List (Key × Path)) (paths : List Path) (all : List (Bytes × Path)) → placed_among (keyed_paths entries) paths ≡ all → paths ≡ [] → keyed_paths entries ≡ all
place_end entries paths all so_far none = ap (λ (ps : List Path). placed_among (keyed_paths entries) ps) (sym none) ∙ so_far

-- the paths are the same
pub values_same : (entries : List (Key × Path)) → values_of entries ≡ map (λ (e : Bytes × Path). e.1) (keyed_paths entries)
values_same [] = refl
values_same (e ∷ es) = ap (λ (ps : List Path). e.1 ∷ ps) (values_same es)
