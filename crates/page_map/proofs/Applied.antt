-- What a whole change does to the table and to the pages that show it.
use Rattle.std.proofs.Common.{◌≡◌, ◌+◌, ◌<◌, ◌≤◌, ℕ, Bool, true, false, cond, eqb, ltb, List, [], ◌∷◌, map, replicate, refl, sym, ap, ◌∙◌, subst, arith, inl, inr, Option, Some, None}
use Rattle.std.specs.Prelude.{◌||◌, is_some, unwrap_or}
use Rattle.std.specs.List.{list_all, AllByRecursion}
use Rattle.std.specs.List.Sorted.{IsStrictlySortedBy}
use Rattle.std.specs.BTreeMap.{is_at}
use Rattle.std.specs.Cmp.{nat_cmp_is}
use Rattle.std.specs.Ordering.{nat_cmp, is_eq}
use Rattle.std.specs.declared.cmp.Ordering.{Ordering}
use Rattle.std.specs.declared.cmp.Ordering.TheVariants.{Less, Equal, Greater}
use Rattle.std.proofs.lemmas.Bool.{true≢false, cases_lt, eqb-true, eq-eqb, le-leb, lt-ltb, ne_eqb}
use Rattle.std.proofs.lemmas.Map.Lookups.{exact_unsigned}
use Rattle.asm_formats.specs.asm_group.Names.{Bytes}
use Rattle.asm_formats.specs.Bytes.{block_size}
use Rattle.asm_formats.specs.Items.{Key}
use Rattle.asm_formats.specs.Logs.{logged_image}
use Rattle.asm_formats.specs.Pages.{with_images}
use Rattle.asm_formats.specs.Status.{ascends_from}
use Rattle.allocator.specs.asm_base.declared.block.Block.{Block}
use Rattle.allocator.specs.asm_base.Records.{DirectoryRecord, record_at}
use Rattle.page_map.specs.Changes.{is_put, is_gone, last_put}
use Rattle.page_map.specs.Free.{is_page_free}
use Rattle.page_map.specs.Tables.{PageTable, IsPageTable, Shows, place_at, block_of}
use Rattle.page_map.specs.Applying.{AddsNew, RemovesAll, SetsAll, Blocks, Applies, block_at, page_number}
use Rattle.allocator.specs.asm_base.Blocks.{image_of_page}
use Rattle.page_map.proofs.Keys.{one_or_other}
use Rattle.page_map.proofs.Changing.{last_put_any, last_put_none, none_else}

-- ---- lists of pages

at_is : (n p : ℕ) → is_at (nat_cmp p) n ≡ eqb n p
at_is n p = elim (one_or_other (eqb n p)) [
  | inl e ↦ let same = eqb-true n p e in rw e (subst (λ (m : ℕ). is_eq (nat_cmp p m) ≡ true) (sym same) (ap is_eq (sym (nat_cmp_is p p Equal refl))))
  | inr e ↦ rw e (other (nat_cmp p n) refl e)
] where
  other : (r : Ordering) → nat_cmp p n ≡ r → eqb n p ≡ false → is_eq r ≡ false
  other Less e isnt = refl
  other Equal e isnt = absurd (true≢false (sym (eq-eqb n p (sym (exact_unsigned p n e))) ∙ isnt))
  other Greater e isnt = refl

pub image_is : (pages : List (ℕ × Block)) (p : ℕ) → logged_image (map image_of_page pages) p ≡ block_at pages p
image_is [] p = refl
image_is (e ∷ es) p = elim (one_or_other (eqb e.0 p)) [
  | inl here ↦ rw (here, at_is e.0 p, here) refl
  | inr other ↦ rw (other, at_is e.0 p, other) (image_is es p)
]

pub inside_is : (units : ℕ) (pages : List (ℕ × Block)) → ((p : ℕ) → units ≤ p → block_at pages p ≡ None) → list_all (λ (p : ℕ × Block). ltb p.0 units) pages ≡ true
inside_is units [] outside = refl
inside_is units (e ∷ es) outside = elim (cases_lt e.0 units) [
  | inl below ↦ rw (lt-ltb e.0 units below) (inside_is units es (λ p past. let h : block_at (e ∷ es) p ≡ None = outside p past in rw (at_is e.0 p, apart e.0 p (λ same. omega arith)) at h))
  | inr past ↦ let h : block_at (e ∷ es) e.0 ≡ None = outside e.0 past in absurd (some_is_none e.1.bytes (rw (at_is e.0 e.0, eq-eqb e.0 e.0 refl) at h))
] where
  apart : (n p : ℕ) → (n ≡ p → ⊥) → eqb n p ≡ false
  apart n p ne = ne_eqb n p ne

  some_is_none : (b : Bytes) → Some b ≡ None → ⊥
  some_is_none b e = cc

pub ascends : (least : ℕ) (pages : List ℕ) → AllByRecursion (λ p. least ≤ p) pages → IsStrictlySortedBy nat_cmp pages → ascends_from least pages ≡ true
unfolding IsStrictlySortedBy
ascends least [] low sorted = refl
ascends least (p ∷ ps) low sorted = rw (le-leb least p low.0) (ascends (p + 1) ps (above p ps sorted.0) sorted.1) where
  less : (x y : ℕ) → nat_cmp x y ≡ Less → x + 1 ≤ y
  less x y e = elim (cases_lt x y) [
    | inl below ↦ omega arith
    | inr from ↦ elim (cases_lt y x) [
      | inl above ↦ let h : Greater ≡ Less = nat_cmp_is x y Greater above ∙ e in absurd cc
      | inr to ↦ let same : x ≡ y = omega arith in let h : Equal ≡ Less = nat_cmp_is x y Equal same ∙ e in absurd cc
    ]
  ]

  above : (x : ℕ) (ys : List ℕ) → AllByRecursion (λ y. nat_cmp x y ≡ Less) ys → AllByRecursion (λ y. x + 1 ≤ y) ys
  above x [] h = tt
  above x (y ∷ ys) h = (less x y h.0, above x ys h.1)

pub all_from_zero : (pages : List ℕ) → AllByRecursion (λ p. 0 ≤ p) pages
all_from_zero [] = tt
all_from_zero (p ∷ ps) = (omega arith, all_from_zero ps)

-- ---- the change

module _ (a b c d : PageTable) (put : List DirectoryRecord) (gone : List Key) (pages : List (ℕ × Block)) (sound : IsPageTable a) (sound_b : IsPageTable b)
    (adds : AddsNew a b put) (blocks : Blocks b put gone pages) (sets : SetsAll b c put) (removes : RemovesAll c d gone) where
  is_nothing : {X : Type 0} (x : Option X) → is_some x ≡ false → x ≡ None
  is_nothing None e = refl
  is_nothing (Some x) e = absurd (true≢false e)

  -- the value before counts only where the key was there
  same_before : (k : Key) → last_put put k (record_at b.records k) ≡ last_put put k (record_at a.records k)
  same_before k = elim (one_or_other (is_some (place_at a.places k))) [
    | inl was ↦ ap (λ (v : Option (List ℕ)). last_put put k v) (adds.records k was)
    | inr was ↦ elim (one_or_other (is_put put k)) [
      | inl is ↦ last_put_any put k (record_at b.records k) (record_at a.records k) is
      | inr isnt ↦
          let none_a = is_nothing (record_at a.records k) (sound.same k ∙ was) in
          let there : is_some (place_at b.places k) ≡ false = rw (was, isnt) at (adds.there k) in
          let none_b = is_nothing (record_at b.records k) (sound_b.same k ∙ there) in
          ap (λ (v : Option (List ℕ)). last_put put k v) (none_b ∙ sym none_a)
    ]
  ]

  -- a key that is left had its page before the keys went
  page_before : (k : Key) (p : ℕ) → place_at d.places k ≡ Some p → (is_gone gone k ≡ false) × (place_at b.places k ≡ Some p)
  page_before k p at =
      let n = none_else (is_gone gone k) (place_at c.places k) p (sym (removes.places k) ∙ at) in
      (n.0, subst (λ (ps : List (Key × ℕ)). place_at ps k ≡ Some p) sets.places n.1)

  block_is : (page : ℕ → Bytes) (p : ℕ) (b : Option Bytes) → block_at pages p ≡ b → with_images (map image_of_page pages) page p ≡ unwrap_or b (page p)
  block_is page p b e = ap (λ (x : Option Bytes). unwrap_or x (page p)) (image_is pages p ∙ e)

  -- a key that isn't put had its page before
  old_key : (k : Key) (p : ℕ) → place_at b.places k ≡ Some p → is_put put k ≡ false → is_some (place_at a.places k) ≡ true
  old_key k p at isnt = or_left (is_some (place_at a.places k)) (sym (rw isnt at (adds.there k)) ∙ ap is_some at) where
    or_left : (x : Bool) → (x || false) ≡ true → x ≡ true
    or_left true e = refl
    or_left false e = e

  not_true : (x : Bool) → (x ≡ true → ⊥) → x ≡ false
  not_true true h = absurd (h refl)
  not_true false h = refl

  still_taken : ((k : Key) → is_put put k ≡ true → is_gone gone k ≡ false) → (k : Key) (p q : ℕ) → place_at a.places k ≡ None → place_at d.places k ≡ Some p → q < p
      → is_page_free a.free q ≡ true → is_page_free d.free q ≡ false
  still_taken alone k p q none at below free = not_true (is_page_free d.free q) (λ freed. elim (removes.freed q freed) [
    | inl was ↦
        let free_b : is_page_free b.free q ≡ true = sym (ap (λ f. is_page_free f q) sets.free) ∙ was in
        true≢false (sym free_b ∙ adds.least k p q none (page_before k p at).1 below)
    | inr h ↦
        let at_b : place_at b.places h.0 ≡ Some q = subst (λ (ps : List (Key × ℕ)). place_at ps h.0 ≡ Some q) sets.places h.1 in
        let isnt : is_put put h.0 ≡ false = not_true (is_put put h.0) (λ is. true≢false (sym h.2 ∙ alone h.0 is)) in
        let was = old_key h.0 q at_b isnt in
        true≢false (sym free ∙ sound.taken h.0 q (sym (adds.places h.0 was) ∙ at_b))
  ])

  shown_taken : (page : ℕ → Bytes) → Shows a page → (k : Key) (p : ℕ) → place_at d.places k ≡ Some p → with_images (map image_of_page pages) page p ≡ block_of k (record_at d.records k)
  shown_taken page shows k p at =
      let n = page_before k p at in
      let value : record_at d.records k ≡ last_put put k (record_at b.records k) = removes.records k ∙ rw n.0 (sets.records k) in
      elim (one_or_other (is_put put k)) [
        | inl is ↦
            let w : block_at pages p ≡ Some (block_of k (last_put put k None)) = rw (n.0, is) at (blocks.block k p n.1) in
            block_is page p (Some (block_of k (last_put put k None))) w ∙ ap (block_of k) (last_put_any put k None (record_at b.records k) is ∙ sym value)
        | inr isnt ↦
            let w : block_at pages p ≡ None = rw (n.0, isnt) at (blocks.block k p n.1) in
            let was : is_some (place_at a.places k) ≡ true = old_key k p n.1 isnt in
            block_is page p None w ∙ shows.taken k p (sym (adds.places k was) ∙ n.1)
            ∙ ap (block_of k) (sym (adds.records k was) ∙ sym (last_put_none put k (record_at b.records k) isnt) ∙ sym value)
      ]

  shown_free : (page : ℕ → Bytes) → Shows a page → (p : ℕ) → is_page_free d.free p ≡ true → with_images (map image_of_page pages) page p ≡ replicate block_size 0
  shown_free page shows p free = elim (removes.freed p free) [
    | inl was ↦
        let free_b : is_page_free b.free p ≡ true = sym (ap (λ f. is_page_free f p) sets.free) ∙ was in
        block_is page p None (blocks.free p free_b) ∙ shows.free p (adds.free p free_b)
    | inr h ↦
        let at : place_at b.places h.0 ≡ Some p = subst (λ (ps : List (Key × ℕ)). place_at ps h.0 ≡ Some p) sets.places h.1 in
        let w : block_at pages p ≡ Some (replicate block_size 0) = rw h.2 at (blocks.block h.0 p at) in
        block_is page p (Some (replicate block_size 0)) w
  ]

  pub applied : Applies a d put gone pages
  applied = record {
    records = λ k. removes.records k ∙ ap (λ (v : Option (List ℕ)). cond (is_gone gone k) None v) (sets.records k ∙ same_before k);
    shows = λ page shows. record { taken = shown_taken page shows; free = shown_free page shows };
    least = still_taken;
    stay = λ k p at stays.
        removes.places k ∙ rw stays (ap (λ (ps : List (Key × ℕ)). place_at ps k) sets.places ∙ adds.places k (ap is_some at) ∙ at);
    units = removes.units ∙ ap (λ f. f.units) sets.free ∙ adds.units;
    few = blocks.count;
    ascend = ascends 0 (map page_number pages) (all_from_zero (map page_number pages)) blocks.ascend;
    inside = inside_is d.free.units pages (λ p past. blocks.outside p (rw (sym (ap (λ f. f.units) sets.free)) (rw (sym removes.units) past)));
  }
