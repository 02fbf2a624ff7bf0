-- The pages of all records, key by key.
use Rattle.std.proofs.Common.{◌≡◌, ◌+◌, ℕ, false, cond, eqb, List, [], ◌∷◌, length, map, replicate, refl, sym, ap, ◌∙◌, subst, arith, inl, inr, Option, Some, None}
use Rattle.std.specs.Prelude.{unwrap_or, IfOk, Result, Ok, Err}
use Rattle.std.specs.List.{AllByRecursion}
use Rattle.std.specs.List.Sorted.{IsStrictlySortedBy}
use Rattle.std.specs.Ordering.{nat_cmp, is_eq}
use Rattle.std.specs.declared.cmp.Ordering.TheVariants.{Less}
use Rattle.std.proofs.lemmas.Bool.{true≢false, eqb-true, eq-eqb, cases_lt}
use Rattle.asm_formats.specs.asm_group.Names.{Bytes}
use Rattle.asm_formats.specs.Bytes.{block_size}
use Rattle.asm_formats.specs.Items.{Key}
use Rattle.allocator.specs.asm_base.declared.block.Block.{Block}
use Rattle.allocator.specs.asm_base.Records.{is_key, key_cmp, record_at}
use Rattle.page_map.specs.Applying.{block_at, page_number}
use Rattle.page_map.specs.Free.{is_page_free}
use Rattle.page_map.specs.Listing.{Lists, ListsBut, key_of_place, page_shown_by}
use Rattle.page_map.specs.Tables.{PageTable, IsPageTable, place_at, block_of}
use Rattle.page_map.proofs.Applied.{image_is, inside_is, ascends, all_from_zero}
use Rattle.page_map.proofs.Keys.{one_or_other, same_key, key_itself}

some_same : (x y : ℕ) → Some x ≡ Some y → x ≡ y
some_same x y e = cc

some_none : {X : Type 0} (x : X) → None ≡ Some x → ⊥
some_none x e = cc

-- a key with a page among these comes behind one that comes before all of them
behind : (key : Key) (left : List (Key × ℕ)) (k : Key) (p : ℕ) → AllByRecursion (λ (y : Key). key_cmp key y ≡ Less) (map key_of_place left) → place_at left k ≡ Some p → key_cmp key k ≡ Less
behind key [] k p all at = absurd (some_none p at)
behind key (e ∷ es) k p all at = elim (one_or_other (is_key k e.0)) [
  | inl same ↦ subst (λ (j : Key). key_cmp key j ≡ Less) (sym (same_key k e.0 same)) all.0
  | inr other ↦ behind key es k p all.1 (rw other at at)
]

module _ (t : PageTable) (key : Key) (page : ℕ) (left : List (Key × ℕ)) (old new : List (ℕ × Block)) (sound : IsPageTable t) (before : ListsBut t ((key, page) ∷ left) old)
    (blocks : (p : ℕ) → block_at new p ≡ cond (eqb p page) (Some (block_of key (record_at t.records key))) (block_at old p))
    (more : block_at old page ≡ None → length new ≡ length old + 1) where
  sorted : AllByRecursion (λ (y : Key). key_cmp key y ≡ Less) (map key_of_place left) × IsStrictlySortedBy key_cmp (map key_of_place left)
  unfolding IsStrictlySortedBy
  sorted = before.ordered

  here : place_at ((key, page) ∷ left) key ≡ Some page
  here = rw (key_itself key) refl

  placed : place_at t.places key ≡ Some page
  placed = before.there key page here

  -- a key that is left is another one
  apart : (k : Key) (p : ℕ) → place_at left k ≡ Some p → is_key k key ≡ false
  apart k p at = elim (one_or_other (is_key k key)) [
    | inl same ↦ absurd (true≢false (sym (key_itself key) ∙ ap is_eq (subst (λ (j : Key). key_cmp key j ≡ Less) (same_key k key same) (behind key left k p sorted.0 at))))
    | inr other ↦ other
  ]

  still_left : (k : Key) (p : ℕ) → place_at left k ≡ Some p → place_at ((key, page) ∷ left) k ≡ Some p
  still_left k p at = rw (apart k p at) at

  elsewhere : (p : ℕ) → (p ≡ page → ⊥) → block_at new p ≡ block_at old p
  elsewhere p differ = elim (one_or_other (eqb p page)) [
    | inl e ↦ absurd (differ (eqb-true p page e))
    | inr e ↦ rw e at (blocks p)
  ]

  -- another key's page is another one
  other_page : (k : Key) (p : ℕ) → place_at t.places k ≡ Some p → is_key k key ≡ false → p ≡ page → ⊥
  other_page k p at other same = true≢false (sym (sound.apart k key page (at ∙ ap (λ (n : ℕ). Some n) same) placed) ∙ other)

  pub list_more : ListsBut t left new
  list_more = record {
    there = λ k p at. before.there k p (still_left k p at);
    done = λ k p at none. elim (one_or_other (is_key k key)) [
      | inl e ↦
          let same : k ≡ key = same_key k key e in
          let is : p ≡ page = some_same p page (sym at ∙ subst (λ (j : Key). place_at t.places j ≡ Some page) (sym same) placed) in
          let b : block_at new p ≡ Some (block_of key (record_at t.records key)) = rw (eq-eqb p page is) at (blocks p) in
          b ∙ ap (λ (j : Key). Some (block_of j (record_at t.records j))) (sym same)
      | inr e ↦
          let before_none : place_at ((key, page) ∷ left) k ≡ None = rw e none in
          elsewhere p (other_page k p at e) ∙ before.done k p at before_none
    ];
    later = λ k p at. elsewhere p (other_page k p (before.there k p (still_left k p at)) (apart k p at)) ∙ before.later k p (still_left k p at);
    free = λ p free. elsewhere p (λ same. true≢false (sym free ∙ ap (is_page_free t.free) same ∙ sound.taken key page placed)) ∙ before.free p free;
    outside = λ p past. elsewhere p (λ same. let inside = sound.inside key page placed in omega arith) ∙ before.outside p past;
    count = omega (arith, before.count, more (before.later key page here));
    ordered = sorted.1;
  }

pub list_first : (t : PageTable) → IsStrictlySortedBy key_cmp (map key_of_place t.places) → ListsBut t t.places []
list_first t ordered = record {
  there = λ k p at. at;
  done = λ k p at none. absurd (some_none p (sym none ∙ at));
  later = λ k p at. refl;
  free = λ p free. refl;
  outside = λ p past. refl;
  count = omega arith;
  ordered = ordered;
}

module _ (t : PageTable) (pages : List (ℕ × Block)) (sound : IsPageTable t) (all : ListsBut t [] pages) (ascend : IsStrictlySortedBy nat_cmp (map page_number pages)) where
  block_is : (p : ℕ) (b : Option Bytes) → block_at pages p ≡ b → page_shown_by pages p ≡ unwrap_or b (replicate block_size 0)
  block_is p b e = ap (λ (x : Option Bytes). unwrap_or x (replicate block_size 0)) (image_is pages p ∙ e)

  held : (p : ℕ) (b : Bytes) → block_at pages p ≡ Some b → (k : Key) × (place_at t.places k ≡ Some p)
  held p b is = elim (cases_lt p t.free.units) [
    | inl inside ↦ elim (one_or_other (is_page_free t.free p)) [
      | inl free ↦ absurd (some_none b (sym (all.free p free) ∙ is))
      | inr taken ↦ sound.owned p inside taken
    ]
    | inr past ↦ absurd (some_none b (sym (all.outside p past) ∙ is))
  ]

  pub lists : Lists t pages
  lists = record {
    shows = record {
      taken = λ k p at. block_is p (Some (block_of k (record_at t.records k))) (all.done k p at refl);
      free = λ p free. block_is p None (all.free p free);
    };
    held = held;
    count = let c = all.count in omega (arith, c);
    ascend = ascends 0 (map page_number pages) (all_from_zero (map page_number pages)) ascend;
    inside = inside_is t.free.units pages all.outside;
  }

pub if_ok_both : {T E : Type 0} {P Q R : T → Type 0} (r : Result T E) → ((x : T) → P x → Q x → R x) → IfOk r P → IfOk r Q → IfOk r R
if_ok_both {T} {E} {P} {Q} {R} (Ok x) both p q = both x p q
if_ok_both {T} {E} {P} {Q} {R} (Err e) both p q = tt
