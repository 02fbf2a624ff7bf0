-- The units of some chunks of a table, and of one chunk more or fewer.
use Rattle.std.proofs.Common.{◌≡◌, ℕ, Bool, true, false, cond, List, [], ◌∷◌, Option, Some, None, refl, sym, ap, ◌∙◌, inl, inr, ◌⊎◌, Ordering}
use Rattle.std.specs.Prelude.{◌&&◌, not, flat_map}
use Rattle.std.specs.Option.{option_and_then}
use Rattle.std.specs.BTreeMap.{is_at}
use Rattle.std.specs.Ordering.{is_lt}
use Rattle.std.specs.declared.cmp.Ordering.TheVariants.{Less, Equal}
use Rattle.std.proofs.lemmas.Bool.{true≢false}
use Rattle.std.proofs.lemmas.Option.{none-some}
use Rattle.catalog_tables.specs.asm_base.Records.{Ascend}
use Rattle.catalog_tables.proofs.asm_base.Exact.{bind_some, some_is}
use Rattle.asm_formats.specs.Items.{Homes}
use Rattle.catalog_tables.specs.allocator.UnitMaps.{UnitMap}
use Rattle.catalog_tables.specs.extent_map.Extents.{Chunked, chunk_at}
use Rattle.catalog_tables.specs.asm_base.Chunks.{Chunk, chunk_cmp, is_chunk_before}
use Rattle.catalog_tables.proofs.extent_map.Laws.{same_chunk}
use Rattle.catalog_tables.proofs.extent_map.Numbering.{comes_after, is_same, tail_up}
use Rattle.catalog_units.specs.Giving.{but, chunks_kept}
use Rattle.catalog_tables.specs.Placing.{after_chunks, after_homes, homes_of}
use Rattle.catalog_tables.proofs.HomeUnits.{chunks_are_homes}
use Rattle.catalog_units.proofs.UnitOrder.{front_last}

either : (b : Bool) → (b ≡ true) ⊎ (b ≡ false)
either true = inl refl
either false = inr refl

pub and_true : (b : Bool) → (b && true) ≡ b
and_true true = refl
and_true false = refl

pub and_false : (b : Bool) → (b && false) ≡ false
and_false true = refl
and_false false = refl

-- ---- which chunks are meant

pub kept_yes : (keep : Chunk → Bool) (x : Chunked) (t : List Chunked) → keep x.0 ≡ true → chunks_kept keep (x ∷ t) ≡ x ∷ chunks_kept keep t
kept_yes keep x t e = rw e refl

pub kept_no : (keep : Chunk → Bool) (x : Chunked) (t : List Chunked) → keep x.0 ≡ false → chunks_kept keep (x ∷ t) ≡ chunks_kept keep t
kept_no keep x t e = rw e refl

-- of chunks that are meant alike
pub kept_alike : (keep other : Chunk → Bool) (t : List Chunked) → ((c : Chunk) → keep c ≡ other c) → chunks_kept keep t ≡ chunks_kept other t
kept_alike keep other [] same = refl
kept_alike keep other (x ∷ t) same = rw (same x.0) (ap (λ (xs : List Chunked). cond (other x.0) (x ∷ xs) xs) (kept_alike keep other t same))

pub kept_all : (keep : Chunk → Bool) (t : List Chunked) → ((c : Chunk) → keep c ≡ true) → chunks_kept keep t ≡ t
kept_all keep [] each = refl
kept_all keep (x ∷ t) each = rw (each x.0) (ap (λ (xs : List Chunked). x ∷ xs) (kept_all keep t each))

-- a chunk that isn't there changes nothing
pub none_out : (keep : Chunk → Bool) (k : Chunk) (t : List Chunked) → chunk_at t k ≡ None → chunks_kept (but keep k) t ≡ chunks_kept keep t
none_out keep k [] e = refl
none_out keep k (x ∷ t) e = elim (either (is_at (chunk_cmp k) x.0)) [
  | inl here ↦ absurd (none-some x.1 (sym (rw here at e)))
  | inr other ↦
      let same : but keep k x.0 ≡ keep x.0 = ap (λ (b : Bool). keep x.0 && not b) other ∙ and_true (keep x.0) in
      rw same (ap (λ (xs : List Chunked). cond (keep x.0) (x ∷ xs) xs) (none_out keep k t (rw other at e)))
]

less_not : (o : Ordering) → o ≡ Less → o ≡ Equal → ⊥
less_not o less equal = true≢false (ap is_lt (sym less ∙ equal))

-- no later chunk has the key of the first
pub tail_none : (x : Chunked) (t : List Chunked) (k : Chunk) → Ascend is_chunk_before (x ∷ t) → chunk_cmp k x.0 ≡ Equal → chunk_at t k ≡ None
tail_none x t k up here = by (chunk_at t k) refl where
  same : k ≡ x.0
  same = same_chunk k x.0 here

  by : (o : Option (List Homes)) → chunk_at t k ≡ o → o ≡ None
  by None e = refl
  by (Some homes) e = absurd (less_not (chunk_cmp x.0 k) (comes_after x t k homes up e) (ap (λ (j : Chunk). chunk_cmp j k) (sym same) ∙ ap (chunk_cmp k) same ∙ here))

-- ---- one chunk

-- the homes of one chunk may be taken last
pub one_out : (step : ℕ) (ms z : List UnitMap) (keep : Chunk → Bool) (k : Chunk) (homes : List Homes) (t : List Chunked) → Ascend is_chunk_before t → keep k ≡ true → chunk_at t k ≡ Some homes
    → after_chunks step ms (chunks_kept keep t) ≡ Some z
    → (c : List UnitMap) × (after_chunks step ms (chunks_kept (but keep k) t) ≡ Some c) × (after_homes c (homes_of step (k, homes)) ≡ Some z)
unfolding after_chunks
one_out step ms z keep k homes [] up is there e = absurd (none-some homes there)
one_out step ms z keep k homes (x ∷ t) up is there e = elim (either (is_at (chunk_cmp k) x.0)) [
  | inl here ↦
      let equal = is_same (chunk_cmp k x.0) here in
      let same = same_chunk k x.0 equal in
      let its : x.1 ≡ homes = some_is x.1 homes (rw here at there) in
      let kept : keep x.0 ≡ true = ap keep (sym same) ∙ is in
      let out : but keep k x.0 ≡ false = ap (λ (b : Bool). keep x.0 && not b) here ∙ and_false (keep x.0) in
      let all : after_homes ms (flat_map (homes_of step) (x ∷ chunks_kept keep t)) ≡ Some z = sym (chunks_are_homes step (x ∷ chunks_kept keep t) ms) ∙ ap (after_chunks step ms) (sym (kept_yes keep x t kept)) ∙ e in
      let r = front_last ms z (homes_of step x) (flat_map (homes_of step) (chunks_kept keep t)) all in
      let rest : chunks_kept (but keep k) (x ∷ t) ≡ chunks_kept keep t = kept_no (but keep k) x t out ∙ none_out keep k t (tail_none x t k up equal) in
      let one : after_homes r.0 (homes_of step (x.0, x.1)) ≡ Some z = r.2 in (
        r.0,
        ap (after_chunks step ms) rest ∙ chunks_are_homes step (chunks_kept keep t) ms ∙ r.1,
        ap (λ (j : Chunk). after_homes r.0 (homes_of step (j, homes))) same ∙ ap (λ (hs : List Homes). after_homes r.0 (homes_of step (x.0, hs))) (sym its) ∙ one,
      )
  | inr other ↦
      let later : chunk_at t k ≡ Some homes = rw other at there in
      let alike : but keep k x.0 ≡ keep x.0 = ap (λ (b : Bool). keep x.0 && not b) other ∙ and_true (keep x.0) in
      elim (either (keep x.0)) [
        | inl kept ↦
            let b = bind_some (λ (next : List UnitMap). after_chunks step next (chunks_kept keep t)) (after_homes ms (homes_of step x)) z (ap (after_chunks step ms) (sym (kept_yes keep x t kept)) ∙ e) in
            let r = one_out step b.0 z keep k homes t (tail_up x t up) is later b.2 in
            (r.0, ap (after_chunks step ms) (kept_yes (but keep k) x t (alike ∙ kept)) ∙ ap (λ (o : Option (List UnitMap)). option_and_then (λ next. after_chunks step next (chunks_kept (but keep k) t)) o) b.1 ∙ r.1, r.2)
        | inr gone ↦
            let r = one_out step ms z keep k homes t (tail_up x t up) is later (ap (after_chunks step ms) (sym (kept_no keep x t gone)) ∙ e) in
            (r.0, ap (after_chunks step ms) (kept_no (but keep k) x t (alike ∙ gone)) ∙ r.1, r.2)
      ]
]

-- ---- a chunk given back, and a chunk put

-- there are maps before the homes of a chunk that is there
pub out_there : (step : ℕ) (z : List UnitMap) (k : Chunk) (homes : List Homes) (t : List Chunked) → Ascend is_chunk_before t → chunk_at t k ≡ Some homes
    → (keep : Chunk → Bool) × (keep k ≡ true) × ((ms : List UnitMap) × (after_chunks step ms (chunks_kept keep t) ≡ Some z)) → (c : List UnitMap) × (after_homes c (homes_of step (k, homes)) ≡ Some z)
out_there step z k homes t up there is =
    let r = one_out step is.2.0 z is.0 k homes t up is.1 there is.2.1 in
    (r.0, r.2)

pub out_given : (step : ℕ) (z new : List UnitMap) (k : Chunk) (homes : List Homes) (t : List Chunked) → Ascend is_chunk_before t → chunk_at t k ≡ Some homes
    → ((before : List UnitMap) → after_homes before (homes_of step (k, homes)) ≡ Some z → before ≡ new)
    → (keep : Chunk → Bool) (ms : List UnitMap) → keep k ≡ true → after_chunks step ms (chunks_kept keep t) ≡ Some z → after_chunks step ms (chunks_kept (but keep k) t) ≡ Some new
out_given step z new k homes t up there given keep ms is e =
    let r = one_out step ms z keep k homes t up is there e in
    r.1 ∙ ap (λ (xs : List UnitMap). Some xs) (given r.0 r.2)

pub out_not : (step : ℕ) (z : List UnitMap) (k : Chunk) (t : List Chunked) → chunk_at t k ≡ None
    → (keep : Chunk → Bool) (ms : List UnitMap) → keep k ≡ true → after_chunks step ms (chunks_kept keep t) ≡ Some z → after_chunks step ms (chunks_kept (but keep k) t) ≡ Some z
out_not step z k t there keep ms is e = ap (after_chunks step ms) (none_out keep k t there) ∙ e

-- units with a chunk more
pub put_is : (step : ℕ) (old new : List UnitMap) (k : Chunk) (homes : List Homes) (t : List Chunked) (r : Bool) → Ascend is_chunk_before t → chunk_at t k ≡ Some homes → after_homes old (homes_of step (k, homes)) ≡ cond r (Some new) None
    → (keep : Chunk → Bool) (ms z : List UnitMap) → keep k ≡ true → after_chunks step ms (chunks_kept (but keep k) t) ≡ Some old → after_chunks step ms (chunks_kept keep t) ≡ Some z → z ≡ new
put_is step old new k homes t r up there placed keep ms z is e f =
    let o = one_out step ms z keep k homes t up is there f in
    let same : o.0 ≡ old = some_is o.0 old (sym o.1 ∙ e) in
    by r placed (ap (λ (xs : List UnitMap). after_homes xs (homes_of step (k, homes))) (sym same) ∙ o.2)
  where
    by : (b : Bool) → after_homes old (homes_of step (k, homes)) ≡ cond b (Some new) None → after_homes old (homes_of step (k, homes)) ≡ Some z → z ≡ new
    by true p q = some_is z new (sym q ∙ p)
    by false p q = absurd (none-some z (sym p ∙ q))

pub put_not : (step : ℕ) (old : List UnitMap) (k : Chunk) (t : List Chunked) → chunk_at t k ≡ None
    → (keep : Chunk → Bool) (ms z : List UnitMap) → keep k ≡ true → after_chunks step ms (chunks_kept (but keep k) t) ≡ Some old → after_chunks step ms (chunks_kept keep t) ≡ Some z → z ≡ old
put_not step old k t there keep ms z is e f = some_is z old (sym f ∙ ap (after_chunks step ms) (sym (none_out keep k t there)) ∙ e)
