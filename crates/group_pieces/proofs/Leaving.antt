-- The copies that a write leaves behind may be marked.
use Rattle.std.proofs.Common.{◌≡◌, inl, inr, ⊎_elim, ◌⊎◌, ℕ, zero, suc, ◌/◌, ◌%◌, ◌<◌, Bool, true, false, cond, List, [], get_or, refl, ap, ◌∙◌, Option, Some, None, arith, IsTrue}
use Rattle.std.specs.Prelude.{◌||◌, ◌≢◌, not, is_some}
use Rattle.std.specs.Option.{option_and_then, unwrap_or}
use Rattle.std.proofs.lemmas.Bool.{and_from, and_parts, false≢true}
use Rattle.std.proofs.lemmas.Option.{none-some}
use Rattle.asm_base.specs.declared.kinds.ExtentId.{ExtentId}
use Rattle.asm_formats.specs.Items.{Home, Homes, chunk_len}
use Rattle.asm_formats.specs.Sets.{has_bit}
use Rattle.record_laws.specs.extent_map.Extents.{absent_homes, chunk_at, extent_at, has_home}
use Rattle.record_laws.specs.catalog.ExtentPlans.{MayMark}
use Rattle.record_laws.specs.catalog_tables.Rules.{is_mark_of, homes_at}
use Rattle.record_laws.specs.catalog_tables.Tables.{Tables}
use Rattle.record_laws.specs.group_engine.Mounts.{MountedGroup}
use Rattle.group_pieces.specs.Marking.{is_left, left_of, three_bits}
use Rattle.group_pieces.specs.Usable.{extent_of}
use Rattle.group_pieces.proofs.Agreeing.{raw_home}

-- ---- three bits

pub few_bits : (a b c : Bool) → three_bits a b c < 8
few_bits true true true = omega arith
few_bits true true false = omega arith
few_bits true false true = omega arith
few_bits true false false = omega arith
few_bits false true true = omega arith
few_bits false true false = omega arith
few_bits false false true = omega arith
few_bits false false false = omega arith

pub bit_0 : (a b c : Bool) → has_bit (three_bits a b c) 0 ≡ a
unfolding has_bit
bit_0 true true true = refl
bit_0 true true false = refl
bit_0 true false true = refl
bit_0 true false false = refl
bit_0 false true true = refl
bit_0 false true false = refl
bit_0 false false true = refl
bit_0 false false false = refl

pub bit_1 : (a b c : Bool) → has_bit (three_bits a b c) 1 ≡ b
unfolding has_bit
bit_1 true true true = refl
bit_1 true true false = refl
bit_1 true false true = refl
bit_1 true false false = refl
bit_1 false true true = refl
bit_1 false true false = refl
bit_1 false false true = refl
bit_1 false false false = refl

pub bit_2 : (a b c : Bool) → has_bit (three_bits a b c) 2 ≡ c
unfolding has_bit
bit_2 true true true = refl
bit_2 true true false = refl
bit_2 true false true = refl
bit_2 true false false = refl
bit_2 false true true = refl
bit_2 false true false = refl
bit_2 false false true = refl
bit_2 false false false = refl

-- one of them is set
one_set : (a b c : Bool) → three_bits a b c ≢ 0 → (a ≡ true) ⊎ ((b ≡ true) ⊎ (c ≡ true))
one_set true b c some = inl refl
one_set false true c some = inr (inl refl)
one_set false false true some = inr (inr refl)
one_set false false false some = absurd (some refl)

or_true : (b : Bool) → (b || true) ≡ true
or_true true = refl
or_true false = refl

-- ---- the homes of a chunk

is_there : (o : Option Home) → is_some o ≡ true → (h : Home) × (o ≡ Some h)
is_there None none = absurd (false≢true none)
is_there (Some h) some = (h, refl)

chunk_there : (t : Tables) (f i k : ℕ) (h : Home) → get_or (unwrap_or (extent_at t.extents f i) absent_homes) k None ≡ Some h → IsTrue (is_some (chunk_at t.extents (f, i / chunk_len)))
chunk_there t f i k h is = go (chunk_at t.extents (f, i / chunk_len)) is
  where
    none_at : (j : ℕ) → get_or absent_homes j None ≡ Some h → ⊥
    none_at zero e = none-some h e
    none_at (suc zero) e = none-some h e
    none_at (suc (suc zero)) e = none-some h e
    none_at (suc (suc (suc j))) e = none-some h e

    go : (o : Option (List Homes)) → get_or (unwrap_or (option_and_then (λ chunk. cond (has_home (get_or chunk (i % chunk_len) [])) (Some (get_or chunk (i % chunk_len) [])) None) o) absent_homes) k None ≡ Some h
        → IsTrue (is_some o)
    go None found = absurd (none_at k found)
    go (Some w) found = refl

module _ (m : MountedGroup) (x : ExtentId) (inner failed : ℕ) where
  abbrev left : ℕ → Bool
  left k = is_left m (extent_of m x) inner failed k

  home_left : (k : ℕ) → left k ≡ true → (h : Home) × (get_or (extent_of m x).homes k None ≡ Some h)
  home_left k is = is_there (get_or (extent_of m x).homes k None) (and_parts _ _ is).0

  mark_of : (set k : ℕ) → has_bit set k ≡ left k → is_mark_of set (homes_at m.catalog.tables x.file x.index) k ≡ true
  mark_of set k bit = go (left k) refl
    where
      go : (b : Bool) → left k ≡ b → is_mark_of set (homes_at m.catalog.tables x.file x.index) k ≡ true
      go true is =
          let h = home_left k is in
          let raw = raw_home m.catalog.tables x.file x.index k h.0 h.1 in
          ap (λ (o : Option Home). not (has_bit set k) || is_some o) raw ∙ or_true (not (has_bit set k))
      go false is = ap (λ (b : Bool). not b || is_some (get_or (homes_at m.catalog.tables x.file x.index) k None)) (bit ∙ is)

  -- where a copy is left behind, the marks may be set
  pub may_mark : left_of m x inner failed ≢ 0 → MayMark m.catalog.tables x.file x.index (left_of m x inner failed)
  may_mark some =
      let set = left_of m x inner failed in
      let chunk = λ (k : ℕ) (is : left k ≡ true). let h = home_left k is in chunk_there m.catalog.tables x.file x.index k h.0 h.1 in
      record {
        chunk = ⊎_elim (λ first. chunk 0 first) (λ more. ⊎_elim (λ second. chunk 1 second) (λ third. chunk 2 third) more) (one_set (left 0) (left 1) (left 2) some);
        few = few_bits (left 0) (left 1) (left 2);
        copies = and_from _ _ (mark_of set 0 (bit_0 (left 0) (left 1) (left 2))) (and_from _ _ (mark_of set 1 (bit_1 (left 0) (left 1) (left 2))) (mark_of set 2 (bit_2 (left 0) (left 1) (left 2))));
      }
