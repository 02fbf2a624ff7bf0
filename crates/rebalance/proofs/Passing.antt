-- Chunks with nothing due say nothing, so the search may pass over them.
use Rattle.std.proofs.Common.{◌≡◌, ℕ, zero, suc, ◌*◌, Bool, true, false, cond, ◌&&◌, List, [], ◌∷◌, refl, sym, ap, subst, ◌∙◌, Option, Some, None, inl, inr}
use Rattle.std.specs.Prelude.{find, nat_lt, ◌^◌}
use Rattle.std.specs.Option.{option_map, option_or}
use Rattle.std.specs.Ordering.{is_lt, ordering_reverse}
use Rattle.std.specs.declared.cmp.Ordering.{Ordering}
use Rattle.std.specs.declared.cmp.Ordering.TheVariants.{Less, Equal, Greater}
use Rattle.std.proofs.lemmas.Bool.{or_parts}
use Rattle.asm_group.specs.Shape.{Shape}
use Rattle.asm_formats.specs.Among.{IsAmong}
use Rattle.asm_formats.specs.Status.{Entry}
use Rattle.asm_formats.specs.Items.{FileHead, Homes}
use Rattle.asm_base.specs.Records.{Ascend}
use Rattle.asm_placement.specs.Rebalancing.{Next, option_when}
use Rattle.allocator.specs.UnitMaps.{UnitMap}
use Rattle.catalog_laws.specs.extent_map.Extents.{Chunked, chunks_from, has_home}
use Rattle.asm_base.specs.Chunks.{Chunk, chunk_cmp, is_chunk_before}
use Rattle.catalog_laws.proofs.extent_map.Laws.{chunk_total}
use Rattle.catalog_laws.specs.file_directory.Files.{head_at}
use Rattle.catalog_laws.specs.catalog_tables.Tables.{AreTables, Catalogued, Tables}
use Rattle.catalog_laws.proofs.catalog_tables.TableItems.{among_found, below, chunks_exact, found_is, tail_up}
use Rattle.extent_copies.specs.declared.extent.Extent.{Extent}
use Rattle.rebalance.specs.declared.moves.Next.{Next as CodeNext}
use Rattle.rebalance.specs.declared.stages.Stage.{Stage}
use Rattle.rebalance.specs.Sums.{Sums}
use Rattle.rebalance.specs.Extents.{any_from, first_from}
use Rattle.rebalance.specs.Moves.{next_meant}
use Rattle.rebalance.specs.Stages.{answer_at, is_due_at, copy_says}
use Rattle.rebalance.specs.Searching.{extent_in_tables, extent_says, first_of_chunk, first_of_extents, group_says, said_there, says_of, with_copies}
use Rattle.rebalance.specs.Due.{any_of_chunk, any_of_extents, any_with, first_due, first_due_of, is_due, is_due_in, passes_there}
use Rattle.rebalance.specs.Cursors.{IsClearBefore, is_passed}

-- ---- where nothing is due, nothing is said

quiet_at : (at : Stage) (es : List Entry) (ms : List UnitMap) (t : Sums) (x : Extent) (k : ℕ) → is_due_at at es ms t x k ≡ false → copy_says at es ms t x k ≡ None
quiet_at at es ms t x k e = ap (λ (b : Bool). option_when b (answer_at at es ms t x k)) e

quiet_from : (test : ℕ → Bool) (says : ℕ → Option Next) → ((j : ℕ) → test j ≡ false → says j ≡ None) → (k n : ℕ) → any_from test k n ≡ false → first_from says k n ≡ None
quiet_from test says quiet k zero e = refl
quiet_from test says quiet k (suc n) e =
    let p = or_parts (test k) (any_from test (suc k) n) e in
    rw (quiet k p.0) (quiet_from test says quiet (suc k) n p.1)

quiet_extent : (at : Stage) (es : List Entry) (ms : List UnitMap) (t : Sums) (x : Extent) → is_due at es ms t x ≡ false → extent_says at es ms t x ≡ None
quiet_extent at es ms t x e = quiet_from (is_due_at at es ms t x) (copy_says at es ms t x) (λ j quiet. quiet_at at es ms t x j quiet) 0 x.copies e

module _ (test : Extent → Bool) (says : Extent → Option Next) (quiet : (x : Extent) → test x ≡ false → says x ≡ None) (s : Shape) (t : Tables) where
  quiet_there : (b : Bool) (x : Extent) → (b && test x) ≡ false → option_when b (says x) ≡ None
  quiet_there true x e = quiet x e
  quiet_there false x e = refl

  quiet_row : (f copies i : ℕ) (xs : List Homes) → any_of_extents test s t f copies i xs ≡ false → first_of_extents says s t f copies i xs ≡ None
  quiet_row f copies i [] e = refl
  quiet_row f copies i (hs ∷ more) e =
      let p = or_parts (passes_there test s t f copies i hs) (any_of_extents test s t f copies (suc i) more) e in
      let here : said_there says s t f copies i hs ≡ None = quiet_there (has_home hs && nat_lt i (2 ^ 32)) (extent_in_tables s t f copies i hs) p.0 in
      ap (λ (o : Option Next). option_or o (first_of_extents says s t f copies (suc i) more)) here ∙ quiet_row f copies (suc i) more p.1

  quiet_with : (f i : ℕ) (xs : List Homes) (o : Option ℕ) → any_with (λ copies. any_of_extents test s t f copies i xs) o ≡ false → with_copies (λ copies. first_of_extents says s t f copies i xs) o ≡ None
  quiet_with f i xs None e = refl
  quiet_with f i xs (Some copies) e = quiet_row f copies i xs e

  quiet_chunk : (x : Chunked) → any_of_chunk test s t x ≡ false → first_of_chunk says s t x ≡ None
  quiet_chunk x e = quiet_with x.0.0 (x.0.1 * 256) x.1 (option_map (λ (h : FileHead). h.copies) (head_at t.files x.0.0)) e

pub quiet_in : (at : Stage) (es : List Entry) (c : Catalogued) (t : Sums) (x : Chunked) → is_due_in at es c t x ≡ false → first_of_chunk (extent_says at es c.units t) c.shape c.tables x ≡ None
quiet_in at es c t x e = quiet_chunk (is_due at es c.units t) (extent_says at es c.units t) (quiet_extent at es c.units t) c.shape c.tables x e

-- ---- the chunks from one on

comes_before : (from p : Chunk) → chunk_cmp from p ≡ Greater → is_chunk_before p from ≡ true
comes_before from p e = ap is_lt (chunk_total.antisymm p from ∙ ap ordering_reverse e)

-- chunks that say nothing may be left out in front
pub says_later : (says : Chunked → Option Next) (first : List Chunked → Option Next) (from : Chunk) → ((x : Chunked) (xs : List Chunked) → first (x ∷ xs) ≡ option_or (says x) (first xs))
    → (xs : List Chunked) → ((x : Chunked) → IsAmong xs x → is_chunk_before x.0 from ≡ true → says x ≡ None) → first xs ≡ first (chunks_from xs from)
says_later says first from more [] quiet = refl
says_later says first from more (x ∷ xs) quiet = by (chunk_cmp from x.0) refl (says_later says first from more xs (λ y h. quiet y (inr h)))
  where
    kept : first xs ≡ first (chunks_from xs from) → first (x ∷ xs) ≡ first (x ∷ chunks_from xs from)
    kept rest = more x xs ∙ ap (option_or (says x)) rest ∙ sym (more x (chunks_from xs from))

    by : (o : Ordering) → chunk_cmp from x.0 ≡ o → first xs ≡ first (chunks_from xs from) → first (x ∷ xs) ≡ first (chunks_from (x ∷ xs) from)
    by Less e rest = rw e (kept rest)
    by Equal e rest = rw e (kept rest)
    by Greater e rest = rw e (more x xs ∙ ap (λ (o : Option Next). option_or o (first xs)) (quiet x (inl refl) (comes_before from x.0 e)) ∙ rest)

-- and those in which nothing is due
pub due_later : (due : Chunked → Bool) (from : Chunk) (xs : List Chunked) → ((x : Chunked) → IsAmong xs x → is_chunk_before x.0 from ≡ true → due x ≡ false) → find due xs ≡ find due (chunks_from xs from)
due_later due from [] quiet = refl
due_later due from (x ∷ xs) quiet = by (chunk_cmp from x.0) refl (due_later due from xs (λ y h. quiet y (inr h)))
  where
    kept : find due xs ≡ find due (chunks_from xs from) → find due (x ∷ xs) ≡ find due (x ∷ chunks_from xs from)
    kept rest = ap (λ (o : Option Chunked). cond (due x) (Some x) o) rest

    by : (o : Ordering) → chunk_cmp from x.0 ≡ o → find due xs ≡ find due (chunks_from xs from) → find due (x ∷ xs) ≡ find due (chunks_from (x ∷ xs) from)
    by Less e rest = rw e (kept rest)
    by Equal e rest = rw e (kept rest)
    by Greater e rest = rw (e, quiet x (inl refl) (comes_before from x.0 e)) rest

none_due : (due : Chunked → Bool) (xs : List Chunked) → ((x : Chunked) → IsAmong xs x → due x ≡ false) → find due xs ≡ None
none_due due [] quiet = refl
none_due due (x ∷ xs) quiet = rw (quiet x (inl refl)) (none_due due xs (λ y h. quiet y (inr h)))

-- before the first chunk in which something is due nothing is
first_clear : (due : Chunked → Bool) (xs : List Chunked) (x : Chunked) → Ascend is_chunk_before xs → IsAmong xs x → is_passed (option_map (λ (y : Chunked). y.0) (find due xs)) x.0 ≡ true → due x ≡ false
first_clear due [] x up h passed = absurd h
first_clear due (y ∷ xs) x up (inl e) passed = subst (λ (z : Chunked). due z ≡ false) (sym e) (by (due y) refl passed)
  where
    itself : (o : Ordering) → o ≡ ordering_reverse o → is_lt o ≡ true → ⊥
    itself Less e lt = absurd cc
    itself Equal e lt = absurd cc
    itself Greater e lt = absurd cc

    never : is_chunk_before y.0 y.0 ≡ true → ⊥
    never lt = itself (chunk_cmp y.0 y.0) (chunk_total.antisymm y.0 y.0) lt

    by : (b : Bool) → due y ≡ b → is_passed (option_map (λ (z : Chunked). z.0) (cond b (Some y) (find due xs))) x.0 ≡ true → due y ≡ false
    by true is passed = absurd (never (subst (λ (z : Chunked). is_chunk_before z.0 y.0 ≡ true) e passed))
    by false is passed = is
first_clear due (y ∷ xs) x up (inr h) passed = by (due y) passed (first_clear due xs x (tail_up chunk_cmp chunk_total chunks_exact y xs up) h)
  where
    behind : chunk_cmp x.0 y.0 ≡ Greater
    behind = chunk_total.antisymm x.0 y.0 ∙ ap ordering_reverse (below chunk_cmp chunk_total chunks_exact y xs x up h)

    after : is_chunk_before x.0 y.0 ≡ false
    after = ap is_lt behind

    by : (b : Bool) → is_passed (option_map (λ (z : Chunked). z.0) (cond b (Some y) (find due xs))) x.0 ≡ true → (is_passed (option_map (λ (z : Chunked). z.0) (find due xs)) x.0 ≡ true → due x ≡ false) → due x ≡ false
    by true passed rest = let both : false ≡ true = sym after ∙ passed in absurd cc
    by false passed rest = rest passed

-- ---- a stage

module _ (at : Stage) (es : List Entry) (c : Catalogued) (t : Sums) (tables : AreTables c.tables) where
  clear_among : (place : Option Chunk) → IsClearBefore at es c t place → (x : Chunked) → IsAmong c.tables.extents x → is_passed place x.0 ≡ true → is_due_in at es c t x ≡ false
  clear_among place clear x h passed = clear x.0 x.1 (among_found chunk_cmp chunk_total chunks_exact c.tables.extents x tables.extents.0.0 h) passed

  pub first_is_clear : (place : Option Chunk) → place ≡ first_due at es c t → IsClearBefore at es c t place
  first_is_clear place is p homes found passed =
      first_clear (is_due_in at es c t) c.tables.extents (p, homes) tables.extents.0.0 (found_is chunk_cmp chunk_total chunks_exact p c.tables.extents homes found)
      (subst (λ (o : Option Chunk). is_passed o p ≡ true) is passed)

  pub due_is_first : (place : Chunk) (found : Option Chunk) → IsClearBefore at es c t (Some place) → found ≡ first_due_of at es c t (chunks_from c.tables.extents place) → found ≡ first_due at es c t
  due_is_first place found clear is =
      is ∙ ap (option_map (λ (x : Chunked). x.0)) (sym (due_later (is_due_in at es c t) place c.tables.extents (clear_among (Some place) clear)))

  pub none_is_first : IsClearBefore at es c t None → None ≡ first_due at es c t
  none_is_first clear = sym (ap (option_map (λ (x : Chunked). x.0)) (none_due (is_due_in at es c t) c.tables.extents (λ x h. clear_among None clear x h refl)))

  pub said_is_first : (place : Chunk) (next : Option CodeNext) → IsClearBefore at es c t (Some place) → option_map next_meant next ≡ says_of at es c t (chunks_from c.tables.extents place) → option_map next_meant next ≡ group_says at es c t
  said_is_first place next clear is =
      is ∙ sym (says_later (first_of_chunk (extent_says at es c.units t) c.shape c.tables) (says_of at es c t) place (λ x xs. refl) c.tables.extents
      (λ x h passed. quiet_in at es c t x (clear_among (Some place) clear x h passed)))

  none_say : (xs : List Chunked) → ((x : Chunked) → IsAmong xs x → is_due_in at es c t x ≡ false) → says_of at es c t xs ≡ None
  none_say [] quiet = refl
  none_say (x ∷ xs) quiet =
      ap (λ (o : Option Next). option_or o (says_of at es c t xs)) (quiet_in at es c t x (quiet x (inl refl))) ∙ none_say xs (λ y h. quiet y (inr h))

  pub none_is_said : IsClearBefore at es c t None → None ≡ group_says at es c t
  none_is_said clear = sym (none_say c.tables.extents (λ x h. clear_among None clear x h refl))

  pub due_none : (place found : Option Chunk) → place ≡ None → found ≡ None → IsClearBefore at es c t place → found ≡ first_due at es c t
  due_none place found end none clear = none ∙ none_is_first (subst (λ (o : Option Chunk). IsClearBefore at es c t o) end clear)

  pub due_some : (place found : Option Chunk) (p : Chunk) → place ≡ Some p → IsClearBefore at es c t place → found ≡ first_due_of at es c t (chunks_from c.tables.extents p) → found ≡ first_due at es c t
  due_some place found p here clear is = due_is_first p found (subst (λ (o : Option Chunk). IsClearBefore at es c t o) here clear) is

  pub said_none : (place : Option Chunk) (next : Option CodeNext) → place ≡ None → next ≡ None → IsClearBefore at es c t place → option_map next_meant next ≡ group_says at es c t
  said_none place next end none clear = ap (option_map next_meant) none ∙ none_is_said (subst (λ (o : Option Chunk). IsClearBefore at es c t o) end clear)

  pub said_some : (place : Option Chunk) (p : Chunk) (next : Option CodeNext) → place ≡ Some p → IsClearBefore at es c t place → option_map next_meant next ≡ says_of at es c t (chunks_from c.tables.extents p) → option_map next_meant next ≡ group_says at es c t
  said_some place p next here clear is = said_is_first p next (subst (λ (o : Option Chunk). IsClearBefore at es c t o) here clear) is

-- ---- one stage after the other

pub none_on : (a b said : Option Next) → said ≡ option_or a b → a ≡ None → b ≡ None → said ≡ None
none_on a b said is first second = is ∙ ap (λ (o : Option Next). option_or o b) first ∙ second

pub both_none : (a b : Option Next) → option_or a b ≡ None → (a ≡ None) × (b ≡ None)
both_none None b e = (refl, e)
both_none (Some next) b e = absurd cc

-- what is said so far after each stage, and what is said by all
in_turn : (a b c d e f g : Option Next) → option_or (option_or (option_or (option_or (option_or (option_or a b) c) d) e) f) g ≡ option_or (option_or a (option_or b c)) (option_or d (option_or e (option_or f g)))
in_turn (Some x) b c d e f g = refl
in_turn None (Some x) c d e f g = refl
in_turn None None (Some x) d e f g = refl
in_turn None None None (Some x) e f g = refl
in_turn None None None None (Some x) f g = refl
in_turn None None None None None f g = refl

pub all_in_turn : (a b c d e f g one two three four five six all : Option Next) → one ≡ a → two ≡ option_or one b → three ≡ option_or two c → four ≡ option_or three d → five ≡ option_or four e → six ≡ option_or five f → all ≡ option_or six g
    → all ≡ option_or (option_or a (option_or b c)) (option_or d (option_or e (option_or f g)))
all_in_turn a b c d e f g one two three four five six all e1 e2 e3 e4 e5 e6 e7 = rw (e7, e6, e5, e4, e3, e2, e1) (in_turn a b c d e f g)

-- the same of equal catalogs, entries and sums
pub along : (P : Catalogued → List Entry → Sums → Type 0) (c d : Catalogued) (es fs : List Entry) (t u : Sums) → c ≡ d → es ≡ fs → t ≡ u → P c es t → P d fs u
along P c d es fs t u same e f p = subst (λ (s : Sums). P d fs s) f (subst (λ (xs : List Entry). P d xs t) e (subst (λ (k : Catalogued). P k es t) same p))
