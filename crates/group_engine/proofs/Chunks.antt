-- The first chunk from one on, and which chunks a file has.
use Rattle.std.proofs.Common.{◌≡◌, ◌⊎◌, inl, inr, ⊎_elim, ℕ, ◌+◌, ◌*◌, ◌≤◌, Bool, true, false, cond, List, [], ◌∷◌, get_or, Ordering, Option, Some, None, refl, sym, ap, subst, ◌∙◌, arith, ◌==◌}
use Rattle.std.specs.Prelude.{◌/◌, ◌%◌, ◌||◌, ◌&&◌, not, is_some, unwrap_or}
use Rattle.std.specs.Bool.{OnTrue}
use Rattle.std.specs.Ordering.{nat_cmp, ordering_reverse, ordering_then, is_le}
use Rattle.std.specs.declared.cmp.Ordering.TheVariants.{Less, Equal, Greater}
use Rattle.std.specs.declared.ops.Bound.TheVariants.{Included, Unbounded}
use Rattle.std.specs.BTreeMap.Range.{range_contains}
use Rattle.std.proofs.lemmas.Bool.{cases_Bool, cases_eq, eq-eqb, eqb-true, false≢true, ne_eqb}
use Rattle.std.proofs.lemmas.Cmp.{nat_cmp_total}
use Rattle.std.proofs.lemmas.Option.{none-some, same_Some}
use Rattle.asm_base.specs.Records.{Ascend}
use Rattle.asm_formats.specs.Items.{FileHead, Homes, Pending, chunk_len}
use Rattle.asm_group.specs.Shape.{Shape}
use Rattle.asm_formats.specs.Among.{IsAmong}
use Rattle.asm_placement.specs.Naming.{is_pending}
use Rattle.rebalance.specs.catalog.ExtentPlans.{IsUndue}
use Rattle.rebalance.specs.catalog.Plans.{AreOwned}
use Rattle.rebalance.specs.catalog_tables.Rules.{first_wrong, head_has_extent, is_owned}
use Rattle.rebalance.specs.catalog_tables.Tables.{Tables}
use Rattle.rebalance.proofs.catalog.NumberedEntries.{passes_where}
use Rattle.rebalance.proofs.catalog_tables.TableItems.{below, chunks_exact, found_is, some_found, tail_up}
use Rattle.rebalance.specs.extent_map.Extents.{Chunked, chunk_at, chunks_from, has_extent, has_home}
use Rattle.asm_base.specs.Chunks.{Chunk, chunk_cmp, is_chunk_before}
use Rattle.rebalance.proofs.extent_map.Laws.{chunk_total}
use Rattle.rebalance.specs.file_directory.Files.{is_file_number}
use Rattle.group_engine.specs.Pending.{HasAtMost, first_key, without_pending}

-- ---- the order

equal_back : (o : Ordering) → o ≡ ordering_reverse o → o ≡ Equal
equal_back Less e = absurd cc
equal_back Equal e = refl
equal_back Greater e = absurd cc

itself : (k : Chunk) → chunk_cmp k k ≡ Equal
itself k = equal_back (chunk_cmp k k) (chunk_total.antisymm k k)

abbrev IsFrom : Chunk → Chunk → Type 0
IsFrom a b = is_le (chunk_cmp a b) ≡ true

from_files : (a b : Chunk) → IsFrom a b → a.0 ≤ b.0
from_files a b e = go (nat_cmp a.0 b.0) refl e
  where
    go : (o : Ordering) → nat_cmp a.0 b.0 ≡ o → is_le (ordering_then o (nat_cmp a.1 b.1)) ≡ true → a.0 ≤ b.0
    go Less is e = grind (arith, is)
    go Equal is e = grind (arith, is)
    go Greater is e = absurd cc

from_both : (a b : Chunk) → IsFrom a b → IsFrom b a → b ≡ a
from_both a b one two = go (chunk_cmp a b) refl one
  where
    go : (o : Ordering) → chunk_cmp a b ≡ o → is_le o ≡ true → b ≡ a
    go Less is e = absurd (false≢true (ap is_le (sym (chunk_total.antisymm b a ∙ ap ordering_reverse is)) ∙ two))
    go Equal is e = sym (chunks_exact a b is)
    go Greater is e = absurd cc

first_of_file : (f n : ℕ) → IsFrom (f, 0) (f, n)
first_of_file f n =
    let same : nat_cmp f f ≡ Equal = equal_back (nat_cmp f f) (nat_cmp_total.antisymm f f) in
    ap (λ (o : Ordering). is_le (ordering_then o (nat_cmp 0 n))) same ∙ zero_first n
  where
    zero_first : (k : ℕ) → is_le (nat_cmp 0 k) ≡ true
    zero_first k = grind arith

-- ---- the first of the chunks from one on

abbrev is_in : Chunk → Chunk → Bool
is_in from k = range_contains chunk_cmp (Included from) Unbounded k

in_is : (from k : Chunk) → is_in from k ≡ true → IsFrom from k
in_is from k e = go (is_le (chunk_cmp from k)) e
  where
    go : (b : Bool) → (b && true) ≡ true → b ≡ true
    go true e = refl
    go false e = e

is_in_from : (from k : Chunk) → IsFrom from k → is_in from k ≡ true
is_in_from from k e = ap (λ (b : Bool). b && true) e

pub first_among : (es : List Chunked) (from k : Chunk) → first_key (chunks_from es from) ≡ Some k → (w : List Homes) × IsAmong es (k, w)
first_among [] from k e = absurd (none-some k e)
first_among (x ∷ es) from k e = go (is_in from x.0) e (first_among es from k)
  where
    go : (b : Bool) → first_key (cond b (x ∷ chunks_from es from) (chunks_from es from)) ≡ Some k → (first_key (chunks_from es from) ≡ Some k → (w : List Homes) × IsAmong es (k, w))
        → (w : List Homes) × IsAmong (x ∷ es) (k, w)
    go true is later = (x.1, inl (ap (λ (j : Chunk). (j, x.1)) (sym (same_Some x.0 k is))))
    go false is later = let rest = later is in (rest.0, inr rest.1)

-- what the first chunk is where one is there
record IsFirst (es : List Chunked) (from : Chunk) (x : Chunk) : Type 0 where
  key : Chunk
  first : first_key (chunks_from es from) ≡ Some key
  behind : IsFrom from key
  before : IsFrom key x

first_least : (es : List Chunked) → Ascend is_chunk_before es → (from : Chunk) (x : Chunked) → IsAmong es x → IsFrom from x.0 → IsFirst es from x.0
first_least [] up from x h is = absurd h
first_least (y ∷ es) up from x h is =
    go (is_in from y.0) refl refl (λ later. first_least es (tail_up chunk_cmp chunk_total chunks_exact y es up) from x later is)
  where
    go : (b : Bool) → is_in from y.0 ≡ b → first_key (chunks_from (y ∷ es) from) ≡ first_key (cond b (y ∷ chunks_from es from) (chunks_from es from))
        → (IsAmong es x → IsFirst es from x.0) → IsFirst (y ∷ es) from x.0
    go true e same among = record {
      key = y.0;
      first = same;
      behind = in_is from y.0 e;
      before = ⊎_elim
          (λ (one : x ≡ y). subst (λ (z : Chunked). IsFrom y.0 z.0) (sym one) (ap is_le (itself y.0)))
          (λ later. ap is_le (below chunk_cmp chunk_total chunks_exact y es x up later))
          h;
    }
    go false e same among =
        let rest : IsFirst es from x.0 = among
        (⊎_elim (λ (one : x ≡ y). absurd (false≢true (sym e ∙ ap (λ (z : Chunked). is_in from z.0) (sym one) ∙ is_in_from from x.0 is))) (λ later. later) h) in
        record { key = rest.key; first = same ∙ rest.first; behind = rest.behind; before = rest.before }

-- ---- one chunk

module _ (es : List Chunked) (up : Ascend is_chunk_before es) (at : Chunk) where
  pub seen_first : (w : List Homes) → chunk_at es at ≡ Some w → first_key (chunks_from es at) ≡ Some at
  seen_first w is =
      let first = first_least es up at (at, w) (found_is chunk_cmp chunk_total chunks_exact at es w is) (ap is_le (itself at)) in
      first.first ∙ ap (λ (k : Chunk). Some k) (from_both at first.key first.behind first.before)

  pub first_seen : first_key (chunks_from es at) ≡ Some at → is_some (chunk_at es at) ≡ true
  first_seen is =
      let there = first_among es at at is in
      let found = some_found chunk_cmp chunk_total chunks_exact es at there.0 there.1 in
      ap is_some found.1

  -- another chunk is the first, or none is
  pub not_seen : (o : Option Chunk) → first_key (chunks_from es at) ≡ o → (o ≡ Some at → ⊥) → is_some (chunk_at es at) ≡ false
  not_seen o is other = go (chunk_at es at) refl
    where
      go : (v : Option (List Homes)) → chunk_at es at ≡ v → is_some (chunk_at es at) ≡ false
      go None v = ap is_some v
      go (Some w) v = absurd (other (sym is ∙ seen_first w v))

-- the first chunk from one on is one of the same file, or of another, or none is there
pub same_seen : (es : List Chunked) → Ascend is_chunk_before es → (at k : Chunk) → first_key (chunks_from es at) ≡ Some k → k.0 ≡ at.0 → (k.1 == at.1) ≡ is_some (chunk_at es at)
same_seen es up at k is file = ⊎_elim
    (λ (same : k.1 ≡ at.1). eq-eqb k.1 at.1 same ∙ sym (first_seen es up at (is ∙ ap (λ (c : Chunk). Some c) (λ i. (file i, same i)))))
    (λ differ. ne_eqb k.1 at.1 differ ∙ sym (not_seen es up at (Some k) is (λ e. differ (ap (λ (c : Chunk). c.1) (same_Some k at e)))))
    (cases_eq k.1 at.1)

pub other_seen : (es : List Chunked) → Ascend is_chunk_before es → (at k : Chunk) → first_key (chunks_from es at) ≡ Some k → (k.0 ≡ at.0 → ⊥) → (k.0 == at.0) ≡ is_some (chunk_at es at)
other_seen es up at k is file = ne_eqb k.0 at.0 file ∙ sym (not_seen es up at (Some k) is (λ e. file (ap (λ (c : Chunk). c.0) (same_Some k at e))))

pub none_seen : (es : List Chunked) → Ascend is_chunk_before es → (at : Chunk) → first_key (chunks_from es at) ≡ None → false ≡ is_some (chunk_at es at)
none_seen es up at is = sym (not_seen es up at None is (λ e. none-some at e))

-- the first chunk from a file's first on is that of another file, or there is none: the file has no chunk
pub no_chunk_of : (es : List Chunked) → Ascend is_chunk_before es → (f : ℕ) (o : Option Chunk) → first_key (chunks_from es (f, 0)) ≡ o → ((k : Chunk) → o ≡ Some k → k.0 ≡ f → ⊥)
    → (x : Chunked) → IsAmong es x → x.0.0 ≡ f → ⊥
no_chunk_of es up f o is other x h of =
    let from : IsFrom (f, 0) x.0 = subst (λ (g : ℕ). IsFrom (g, 0) x.0) of (first_of_file x.0.0 x.0.1) in
    let first = first_least es up (f, 0) x h from in
    let low = from_files (f, 0) first.key first.behind in
    let high = from_files first.key x.0 first.before in
    other first.key (sym is ∙ first.first) (omega (arith, low, high, of))

-- ---- a cut

no_home : (o : Option (List Homes)) (i : ℕ) → is_some o ≡ false → has_home (get_or (unwrap_or o []) i []) ≡ false
no_home None i e = refl
no_home (Some w) i e = absurd (false≢true (sym e))

pub none_behind : (es : List Chunked) (f n : ℕ) → is_some (chunk_at es (f, n)) ≡ false → has_extent es f (n * chunk_len) ≡ false
none_behind es f n none =
    let place : n * 256 / 256 ≡ n = omega arith in
    subst (λ (k : ℕ). has_home (get_or (unwrap_or (chunk_at es (f, k)) []) (n * 256 % 256) []) ≡ false) (sym place) (no_home (chunk_at es (f, n)) (n * 256 % 256) none)

pub undue_from : (s : Shape) (o : Option FileHead) (kept n from : ℕ) → HasAtMost s o kept → kept ≤ n * 256 + from → IsUndue s o n from
undue_from s None kept n from has le = tt
undue_from s (Some head) kept n from has le = λ i chunk place.
    ⊎_elim
    (λ (due : head_has_extent s head i ≡ true). let below = (has i).1 due in absurd (omega (arith, below, le, chunk, place)))
    (λ not. not)
    (cases_Bool (head_has_extent s head i))

-- ---- the end of the operation

pub owned_without : (t : Tables) → first_wrong (is_owned t) t.extents ≡ None → t.operations.pending ≡ None → AreOwned (without_pending t)
owned_without t owned none = passes_where (is_owned t) (is_owned (without_pending t)) t.extents (λ x h ok. ap (λ (o : Option Pending). is_file_number t.files x.0.0 || is_pending x.0.0 o) (sym none) ∙ ok) owned

pub owned_then : (t : Tables) (op : Pending) → first_wrong (is_owned t) t.extents ≡ None → t.operations.pending ≡ Some op
    → (is_file_number t.files op.file ≡ true) ⊎ ((x : Chunked) → IsAmong t.extents x → x.0.0 ≡ op.file → ⊥) → AreOwned (without_pending t)
owned_then t op owned pending alone = passes_where (is_owned t) (is_owned (without_pending t)) t.extents keeps owned
  where
    own : (x : Chunked) → IsAmong t.extents x → x.0.0 ≡ op.file → is_file_number t.files x.0.0 ≡ true
    own x h of = ⊎_elim (λ file. ap (is_file_number t.files) of ∙ file) (λ none. absurd (none x h of)) alone

    go : (x : Chunked) → IsAmong t.extents x → (b : Bool) → is_file_number t.files x.0.0 ≡ b → (b || (op.file == x.0.0)) ≡ true → is_file_number t.files x.0.0 ≡ true
    go x h true is ok = is
    go x h false is ok = own x h (sym (eqb-true op.file x.0.0 ok))

    keeps : (x : Chunked) → IsAmong t.extents x → is_owned t x ≡ true → is_owned (without_pending t) x ≡ true
    keeps x h ok =
        let file : is_file_number t.files x.0.0 ≡ true = go x h (is_file_number t.files x.0.0) refl (ap (λ (o : Option Pending). is_file_number t.files x.0.0 || is_pending x.0.0 o) (sym pending) ∙ ok) in
        ap (λ (b : Bool). b || false) file

-- the first chunk from the file's first on is that of another file, or there is none
pub owned_past : (t : Tables) (op : Pending) (f : ℕ) → f ≡ op.file → first_wrong (is_owned t) t.extents ≡ None → t.operations.pending ≡ Some op → Ascend is_chunk_before t.extents
    → (k : Chunk) → first_key (chunks_from t.extents (f, 0)) ≡ Some k → OnTrue (not (k.0 == f)) (AreOwned (without_pending t))
owned_past t op f same owned pending up k is = go (k.0 == f) refl
  where
    go : (b : Bool) → (k.0 == f) ≡ b → OnTrue (not b) (AreOwned (without_pending t))
    go true e = tt
    go false e = owned_then t op owned pending (inr (λ x h of. no_chunk_of t.extents up f (Some k) is
        (λ j j_is of_f. false≢true (sym e ∙ eq-eqb k.0 f (ap (λ (c : Chunk). c.0) (same_Some k j j_is) ∙ of_f))) x h (of ∙ sym same)))

pub owned_behind : (t : Tables) (op : Pending) (f : ℕ) → f ≡ op.file → first_wrong (is_owned t) t.extents ≡ None → t.operations.pending ≡ Some op → Ascend is_chunk_before t.extents
    → first_key (chunks_from t.extents (f, 0)) ≡ None → AreOwned (without_pending t)
owned_behind t op f same owned pending up is = owned_then t op owned pending (inr (λ x h of. no_chunk_of t.extents up f None is (λ j j_is of_f. none-some j j_is) x h (of ∙ sym same)))
