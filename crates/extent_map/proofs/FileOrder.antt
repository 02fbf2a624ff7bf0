-- The order of chunks by their files, and the chunks from a file's first on.
use Rattle.std.proofs.Common.{◌≡◌, ℕ, ◌<◌, ◌≤◌, Bool, true, false, List, [], ◌∷◌, Ordering, refl, sym, subst, arith}
use Rattle.std.specs.List.{AllByRecursion}
use Rattle.std.specs.Ordering.{nat_cmp, is_le, is_lt, ordering_then}
use Rattle.std.specs.declared.cmp.Ordering.TheVariants.{Less, Equal, Greater}
use Rattle.std.proofs.lemmas.Cmp.{ranked}
use Rattle.asm_base.specs.Records.{Ascend}
use Rattle.asm_base.specs.Chunks.{chunk_cmp, is_chunk_before}
use Rattle.extent_map.specs.Extents.{Chunked, chunks_from}

-- the chunks are of files from this one on
abbrev pub AreFrom : ℕ → List Chunked → Type 0
AreFrom f xs = AllByRecursion (λ (x : Chunked). f ≤ x.0.0) xs

-- no chunk is of a file below that of an earlier one
abbrev pub Rise : List Chunked → Type 0
Rise [] = Unit {0}
Rise (x ∷ xs) = AreFrom x.0.0 xs × Rise xs

pub raised : (f g : ℕ) (xs : List Chunked) → f ≤ g → AreFrom g xs → AreFrom f xs
raised f g [] le from = tt
raised f g (x ∷ xs) le from = (omega (arith, le, from.0), raised f g xs le from.1)

lt_is : (f g : ℕ) (o : Ordering) → is_lt (ordering_then (nat_cmp f g) o) ≡ true → f ≤ g
lt_is f g o e = by (nat_cmp f g) refl e
  where
    by : (p : Ordering) → nat_cmp f g ≡ p → is_lt (ordering_then p o) ≡ true → f ≤ g
    by Less is e = let less : f < g = ranked f g Less (sym is) in omega arith
    by Equal is e = let same : f ≡ g = ranked f g Equal (sym is) in omega arith
    by Greater is e = absurd cc

pub rises : (xs : List Chunked) → Ascend is_chunk_before xs → Rise xs
rises [] up = tt
rises (x ∷ []) up = (tt, tt)
rises (x ∷ y ∷ ys) up =
    let later = rises (y ∷ ys) up.1 in
    let le = lt_is x.0.0 y.0.0 (nat_cmp x.0.1 y.0.1) up.0 in
    ((le, raised x.0.0 y.0.0 ys le later.0), later)

pub le_is : (f g : ℕ) (o : Ordering) → is_le (ordering_then (nat_cmp f g) o) ≡ true → f ≤ g
le_is f g o e = by (nat_cmp f g) refl e
  where
    by : (p : Ordering) → nat_cmp f g ≡ p → is_le (ordering_then p o) ≡ true → f ≤ g
    by Less is e = let less : f < g = ranked f g Less (sym is) in omega arith
    by Equal is e = let same : f ≡ g = ranked f g Equal (sym is) in omega arith
    by Greater is e = absurd cc

pub not_le : (f g n : ℕ) → is_le (ordering_then (nat_cmp f g) (nat_cmp 0 n)) ≡ false → g ≡ f → ⊥
not_le f g n e same = by (nat_cmp f g) (nat_cmp 0 n) refl refl e
  where
    by : (p q : Ordering) → nat_cmp f g ≡ p → nat_cmp 0 n ≡ q → is_le (ordering_then p q) ≡ false → ⊥
    by Less q is iq e = absurd cc
    by Equal Less is iq e = absurd cc
    by Equal Equal is iq e = absurd cc
    by Equal Greater is iq e = absurd (let more : n < 0 = ranked 0 n Greater (sym iq) in omega arith)
    by Greater q is iq e = absurd (let more : g < f = ranked f g Greater (sym is) in omega arith)

-- ---- from a file on

-- the chunk isn't before those of the file
abbrev pub keeps : ℕ → Chunked → Bool
keeps f x = is_le (chunk_cmp (f, 0) x.0)

-- the chunks from the file's first on
abbrev pub starts : ℕ → List Chunked → List Chunked
starts f xs = chunks_from xs (f, 0)

pub kept_from : (f : ℕ) (xs : List Chunked) (n : ℕ) → AreFrom n xs → AreFrom n (starts f xs)
kept_from f [] n from = tt
kept_from f (x ∷ xs) n from = by (keeps f x) refl (kept_from f xs n from.1)
  where
    by : (b : Bool) → keeps f x ≡ b → AreFrom n (starts f xs) → AreFrom n (starts f (x ∷ xs))
    by true is later = let kept : starts f (x ∷ xs) ≡ x ∷ starts f xs = rw is refl in subst (AreFrom n) (sym kept) (from.0, later)
    by false is later = let dropped : starts f (x ∷ xs) ≡ starts f xs = rw is refl in subst (AreFrom n) (sym dropped) later
