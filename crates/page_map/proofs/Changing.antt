-- What one record or key more of a change does.
use Rattle.std.proofs.Common.{◌≡◌, ◌+◌, ◌-◌, ◌<◌, ◌≤◌, ℕ, Bool, true, false, cond, eqb, List, [], ◌∷◌, ◌++◌, length, take, drop, get_or, replicate, refl, sym, ap, ◌∙◌, subst, arith, inl, inr, ◌⊎◌, Option, Some, None}
use Rattle.std.specs.Prelude.{◌||◌, ◌&&◌, is_some, OnOk, Result, Ok, Err}
use Rattle.std.specs.Map.{lookup}
use Rattle.std.proofs.lemmas.Bool.{true≢false, eqb-true, eq-eqb}
use Rattle.std.proofs.lemmas.List.{take_all}
use Rattle.asm_formats.specs.asm_group.Names.{Bytes}
use Rattle.asm_formats.specs.Bytes.{block_size}
use Rattle.asm_formats.specs.Items.{Key}
use Rattle.allocator.specs.asm_base.declared.block.Block.{Block}
use Rattle.allocator.specs.asm_base.Records.{DirectoryRecord, is_key, record_at}
use Rattle.page_map.specs.Changes.{is_put, is_gone, last_put}
use Rattle.page_map.specs.Free.{is_page_free}
use Rattle.page_map.specs.Tables.{PageTable, IsPageTable, place_at, block_of, Adds, Removes, is_this_page, is_new}
use Rattle.page_map.specs.Applying.{AddsNew, RemovesAll, PutOne, PutBlocks, GoneBlocks, block_at}
use Rattle.page_map.proofs.Keys.{one_or_other, same_key, key_itself}

-- a list by its first item and the others
pub first_and_rest : {X : Type 0} (xs : List X) (x : X) → 1 ≤ length xs → x ≡ get_or xs 0 x → xs ≡ x ∷ take (length xs - 1) (drop 1 xs)
first_and_rest [] x some e = absurd (omega arith)
first_and_rest (y ∷ ys) x some e =
    let n : ℕ = length (y ∷ ys) - 1 in
    let all : take n ys ≡ ys = take_all n ys (omega arith) in
    ap (λ zs. y ∷ zs) (sym all) ∙ ap (λ z. z ∷ take n ys) (sym e)

some_same : {X : Type 0} (x y : X) → Some x ≡ Some y → x ≡ y
some_same x y e = cc

some_none : {X : Type 0} (x : X) → None ≡ Some x → ⊥
some_none x e = cc

-- what follows where a call succeeds
pub on_ok : {T E A B : Type 0} (r : Result T E) → (A → B) → OnOk r A → OnOk r B
on_ok (Ok x) f a = f a
on_ok (Err e) f a = tt

pub on_ok_both : {T E A B C : Type 0} (r : Result T E) → (A → B → C) → OnOk r A → OnOk r B → OnOk r C
on_ok_both (Ok x) f a b = f a b
on_ok_both (Err e) f a b = tt

-- ---- new keys

pub keys_more : (t : PageTable) (key : Key) (rest : List DirectoryRecord) (old new : List (Key × Unit {0})) → is_new t key ≡ true
    → ((k : Key) → lookup (is_key k) new ≡ cond (is_key key k) (Some tt) (lookup (is_key k) old))
    → ((k : Key) → is_some (lookup (is_key k) old) ≡ (is_new t k && is_put rest k))
    → (k : Key) → is_some (lookup (is_key k) new) ≡ (is_new t k && (is_key key k || is_put rest k))
keys_more t key rest old new is puts keys k = elim (one_or_other (is_key key k)) [
  | inl e ↦
      let l : lookup (is_key k) new ≡ Some tt = rw e at (puts k) in
      let n : is_new t k ≡ true = subst (λ (j : Key). is_new t j ≡ true) (same_key key k e) is in
      rw (l, n, e) refl
  | inr e ↦
      let l : lookup (is_key k) new ≡ lookup (is_key k) old = rw e at (puts k) in
      rw (l, e) (keys k)
]

pub keys_same : (t : PageTable) (key : Key) (rest : List DirectoryRecord) (old : List (Key × Unit {0})) → is_new t key ≡ false
    → ((k : Key) → is_some (lookup (is_key k) old) ≡ (is_new t k && is_put rest k))
    → (k : Key) → is_some (lookup (is_key k) old) ≡ (is_new t k && (is_key key k || is_put rest k))
keys_same t key rest old is keys k = elim (one_or_other (is_key key k)) [
  | inl e ↦
      let n : is_new t k ≡ false = subst (λ (j : Key). is_new t j ≡ false) (same_key key k e) is in
      let before : is_some (lookup (is_key k) old) ≡ false = rw n at (keys k) in
      rw (before, n) refl
  | inr e ↦ rw e (keys k)
]

-- ---- the pages that change

pub block_put : (t : PageTable) (key : Key) (bytes : Bytes) (page : ℕ) (old new : List (ℕ × Block)) → IsPageTable t → place_at t.places key ≡ Some page
    → ((p : ℕ) → block_at new p ≡ cond (eqb p page) (Some bytes) (block_at old p)) → length new ≤ length old + 1 → PutOne t key bytes old new
block_put t key bytes page old new sound at blocks count = record {
  block = λ k p here. elim (one_or_other (is_key key k)) [
    | inl e ↦
        let same : p ≡ page = some_same p page (sym here ∙ subst (λ (j : Key). place_at t.places j ≡ Some page) (same_key key k e) at) in
        let b : block_at new p ≡ Some bytes = rw (eq-eqb p page same) at (blocks p) in
        rw e b
    | inr e ↦ rw e (stays p (λ same. true≢false (sym (sound.apart key k page at (here ∙ ap (λ (n : ℕ). Some n) same)) ∙ e)))
  ];
  free = λ p free. stays p (λ same. true≢false (sym free ∙ ap (is_page_free t.free) same ∙ sound.taken key page at));
  outside = λ p past. stays p (λ same. let inside = sound.inside key page at in omega arith);
  count = count;
} where
  stays : (p : ℕ) → (p ≡ page → ⊥) → block_at new p ≡ block_at old p
  stays p apart = elim (one_or_other (eqb p page)) [
    | inl e ↦ absurd (apart (eqb-true p page e))
    | inr e ↦ rw e at (blocks p)
  ]

pub no_block_put : (t : PageTable) (key : Key) (bytes : Bytes) (old : List (ℕ × Block)) → place_at t.places key ≡ None → PutOne t key bytes old old
no_block_put t key bytes old none = record {
  block = λ k p here. elim (one_or_other (is_key key k)) [
    | inl e ↦ absurd (some_none p (sym (subst (λ (j : Key). place_at t.places j ≡ None) (same_key key k e) none) ∙ here))
    | inr e ↦ rw e refl
  ];
  free = λ p free. refl;
  outside = λ p past. refl;
  count = omega arith;
}

-- the last put is what counts
pub last_put_any : (put : List DirectoryRecord) (k : Key) (b c : Option (List ℕ)) → is_put put k ≡ true → last_put put k b ≡ last_put put k c
last_put_any [] k b c e = absurd (true≢false (sym e))
last_put_any (p ∷ put) k b c e = elim (one_or_other (is_key p.0 k)) [
  | inl here ↦ rw here refl
  | inr not ↦ let later : is_put put k ≡ true = rw not at e in rw not (last_put_any put k b c later)
]

pub last_put_none : (put : List DirectoryRecord) (k : Key) (b : Option (List ℕ)) → is_put put k ≡ false → last_put put k b ≡ b
last_put_none [] k b e = refl
last_put_none (p ∷ put) k b e = elim (one_or_other (is_key p.0 k)) [
  | inl here ↦ absurd (true≢false (rw here at e))
  | inr not ↦ let later : is_put put k ≡ false = rw not at e in rw not (last_put_none put k b later)
]

pub put_more : (t : PageTable) (key : Key) (value : List ℕ) (rest : List DirectoryRecord) (old mid new : List (ℕ × Block)) → PutOne t key (block_of key (Some value)) old mid → PutBlocks t rest mid new
    → PutBlocks t ((key, value) ∷ rest) old new
put_more t key value rest old mid new one others = record {
  block = λ k p here. others.block k p here ∙ elim (one_or_other (is_put rest k)) [
    | inl later ↦ elim (one_or_other (is_key key k)) [
      | inl e ↦ rw (later, e) (ap (λ (v : Option (List ℕ)). Some (block_of k v)) (last_put_any rest k None (Some value) later))
      | inr e ↦ rw (later, e) refl
    ]
    | inr later ↦ elim (one_or_other (is_key key k)) [
      | inl e ↦
          let b : block_at mid p ≡ Some (block_of key (Some value)) = rw e at (one.block k p here) in
          rw (later, e) (b ∙ ap (λ (j : Key). Some (block_of j (Some value))) (same_key key k e) ∙ ap (λ (v : Option (List ℕ)). Some (block_of k v)) (sym (last_put_none rest k (Some value) later)))
      | inr e ↦ let b : block_at mid p ≡ block_at old p = rw e at (one.block k p here) in rw (later, e) b
    ]
  ];
  free = λ p free. others.free p free ∙ one.free p free;
  outside = λ p past. others.outside p past ∙ one.outside p past;
  count = omega (arith, others.count, one.count);
}

pub gone_more : (t : PageTable) (key : Key) (rest : List Key) (old mid new : List (ℕ × Block)) → PutOne t key (replicate block_size 0) old mid → GoneBlocks t rest mid new
    → GoneBlocks t (key ∷ rest) old new
gone_more t key rest old mid new one others = record {
  block = λ k p here. others.block k p here ∙ elim (one_or_other (is_gone rest k)) [
    | inl later ↦ elim (one_or_other (is_key key k)) [
      | inl e ↦ rw (later, e) refl
      | inr e ↦ rw (later, e) refl
    ]
    | inr later ↦ elim (one_or_other (is_key key k)) [
      | inl e ↦ let b : block_at mid p ≡ Some (replicate block_size 0) = rw e at (one.block k p here) in rw (later, e) b
      | inr e ↦ let b : block_at mid p ≡ block_at old p = rw e at (one.block k p here) in rw (later, e) b
    ]
  ];
  free = λ p free. others.free p free ∙ one.free p free;
  outside = λ p past. others.outside p past ∙ one.outside p past;
  count = omega (arith, others.count, one.count);
}

-- ---- keys that go

pub none_else : (b : Bool) (x : Option ℕ) (q : ℕ) → cond b None x ≡ Some q → (b ≡ false) × (x ≡ Some q)
none_else true x q e = absurd (some_none q e)
none_else false x q e = (refl, e)

pub or_true : (b : Bool) → (b || true) ≡ true
or_true true = refl
or_true false = refl

pub remove_none : (a : PageTable) → RemovesAll a a []
remove_none a = record {
  records = λ k. refl;
  places = λ k. refl;
  freed = λ p free. inl free;
  free = λ p free. free;
  units = refl;
}

pub remove_more : (a b c : PageTable) (key : Key) (rest : List Key) → Removes a b key → RemovesAll b c rest → RemovesAll a c (key ∷ rest)
remove_more a b c key rest one others = record {
  records = λ k. others.records k ∙ ap (λ (x : Option (List ℕ)). cond (is_gone rest k) None x) (one.records k) ∙ joined (is_key key k) (is_gone rest k) (record_at a.records k);
  places = λ k. others.places k ∙ ap (λ (x : Option ℕ). cond (is_gone rest k) None x) (one.places k) ∙ joined (is_key key k) (is_gone rest k) (place_at a.places k);
  freed = λ p free. elim (others.freed p free) [
    | inl was ↦ first (place_at a.places key) refl p (sym (one.free p) ∙ was)
    | inr h ↦
        let n = none_else (is_key key h.0) (place_at a.places h.0) p (sym (one.places h.0) ∙ h.1) in
        inr (h.0, n.1, rw h.2 (or_true (is_key key h.0)))
  ];
  free = λ p free. others.free p (one.free p ∙ rw free (either (is_this_page (place_at a.places key) p)));
  units = others.units ∙ one.units;
} where
  joined : {X : Type 0} (x y : Bool) (v : Option X) → cond y None (cond x None v) ≡ cond (x || y) None v
  joined true true v = refl
  joined true false v = refl
  joined false true v = refl
  joined false false v = refl

  either : (x : Bool) → cond x true true ≡ true
  either true = refl
  either false = refl

  first : (was : Option ℕ) → place_at a.places key ≡ was → (p : ℕ) → cond (is_this_page was p) true (is_page_free a.free p) ≡ true
      → (is_page_free a.free p ≡ true) ⊎ ((k : Key) × (place_at a.places k ≡ Some p) × (is_gone (key ∷ rest) k ≡ true))
  first None e p free = inl free
  first (Some page) e p free = elim (one_or_other (eqb p page)) [
    | inl here ↦ inr (key, e ∙ ap (λ (n : ℕ). Some n) (sym (eqb-true p page here)), rw (key_itself key) refl)
    | inr other ↦ inl (rw other at free)
  ]

-- ---- new records

pub add_none : (a : PageTable) → AddsNew a a []
add_none a = record {
  there = λ k. sym (or_false (is_some (place_at a.places k)));
  places = λ k e. refl;
  records = λ k e. refl;
  free = λ p free. free;
  from = λ k p none at. absurd (some_none p (sym none ∙ at));
  least = λ k p q none at. absurd (some_none p (sym none ∙ at));
  units = refl;
} where
  or_false : (b : Bool) → (b || false) ≡ b
  or_false true = refl
  or_false false = refl

-- a key that is there is not new
pub add_there : (a c : PageTable) (key : Key) (value : List ℕ) (rest : List DirectoryRecord) → is_some (place_at a.places key) ≡ true → AddsNew a c rest → AddsNew a c ((key, value) ∷ rest)
add_there a c key value rest is others = record {
  there = λ k. others.there k ∙ elim (one_or_other (is_key key k)) [
    | inl e ↦ let was : is_some (place_at a.places k) ≡ true = subst (λ (j : Key). is_some (place_at a.places j) ≡ true) (same_key key k e) is in rw was refl
    | inr e ↦ rw e refl
  ];
  places = others.places;
  records = others.records;
  free = others.free;
  from = others.from;
  least = others.least;
  units = others.units;
}

not_true : (b : Bool) → (b ≡ true → ⊥) → b ≡ false
not_true true h = absurd (h refl)
not_true false h = refl

pub add_more : (a b c : PageTable) (key : Key) (value copy : List ℕ) (rest : List DirectoryRecord) → place_at a.places key ≡ None → Adds a b key copy → AddsNew b c rest
    → AddsNew a c ((key, value) ∷ rest)
add_more a b c key value copy rest absent one others = record {
  there = λ k. others.there k ∙ elim (one_or_other (is_key key k)) [
    | inl e ↦ let p : place_at b.places k ≡ Some one.page = rw e at (one.places k) in rw (p, e) (sym (or_true (is_some (place_at a.places k))))
    | inr e ↦ let p : place_at b.places k ≡ place_at a.places k = rw e at (one.places k) in rw (p, e) refl
  ];
  places = λ k was. let p = kept k was in others.places k (ap is_some p ∙ was) ∙ p;
  records = λ k was.
      let p = kept k was in
      let r : record_at b.records k ≡ record_at a.records k = rw (apart k was) at (one.records k) in
      others.records k (ap is_some p ∙ was) ∙ r;
  free = λ p free. was_free p (others.free p free);
  from = λ k p none at. elim (one_or_other (is_key key k)) [
    | inl e ↦ let same = its_page k p e at in subst (λ (n : ℕ). is_page_free a.free n ≡ true) (sym same) one.least.free
    | inr e ↦ let n : place_at b.places k ≡ place_at a.places k = rw e at (one.places k) in was_free p (others.from k p (n ∙ none) at)
  ];
  least = λ k p q none at below. elim (one_or_other (is_key key k)) [
    | inl e ↦
        let same = its_page k p e at in
        let lower : q < one.page = omega arith in
        not_true (is_page_free c.free q) (λ free. true≢false (sym (was_free q (others.free q free)) ∙ one.least.least q lower))
    | inr e ↦ let n : place_at b.places k ≡ place_at a.places k = rw e at (one.places k) in others.least k p q (n ∙ none) at below
  ];
  units = others.units ∙ one.units;
} where
  -- a key that was there is another one
  apart : (k : Key) → is_some (place_at a.places k) ≡ true → is_key key k ≡ false
  apart k was = not_true (is_key key k) (λ e. true≢false (sym was ∙ ap is_some (subst (λ (j : Key). place_at a.places j ≡ None) (same_key key k e) absent)))

  kept : (k : Key) → is_some (place_at a.places k) ≡ true → place_at b.places k ≡ place_at a.places k
  kept k was = rw (apart k was) at (one.places k)

  its_page : (k : Key) (p : ℕ) → is_key key k ≡ true → place_at c.places k ≡ Some p → p ≡ one.page
  its_page k p e at =
      let b_at : place_at b.places k ≡ Some one.page = rw e at (one.places k) in
      some_same p one.page (sym at ∙ others.places k (ap is_some b_at) ∙ b_at)

  was_free : (p : ℕ) → is_page_free b.free p ≡ true → is_page_free a.free p ≡ true
  was_free p free = elim (one_or_other (eqb p one.page)) [
    | inl e ↦ let taken : is_page_free b.free p ≡ false = rw e at (one.free p) in absurd (true≢false (sym free ∙ taken))
    | inr e ↦ let same : is_page_free b.free p ≡ is_page_free a.free p = rw e at (one.free p) in sym same ∙ free
  ]

-- ---- values

pub is_put_end : (put : List DirectoryRecord) (last : DirectoryRecord) (k : Key) → is_put (put ++ last ∷ []) k ≡ (is_put put k || is_key last.0 k)
is_put_end [] last k = or_false (is_key last.0 k) where
  or_false : (b : Bool) → (b || false) ≡ b
  or_false true = refl
  or_false false = refl
is_put_end (p ∷ put) last k = ap (λ (b : Bool). is_key p.0 k || b) (is_put_end put last k) ∙ or_assoc (is_key p.0 k) (is_put put k) (is_key last.0 k) where
  or_assoc : (x y z : Bool) → (x || (y || z)) ≡ ((x || y) || z)
  or_assoc true y z = refl
  or_assoc false y z = refl

pub last_put_end : (put : List DirectoryRecord) (last : DirectoryRecord) (k : Key) (b : Option (List ℕ)) → last_put (put ++ last ∷ []) k b ≡ cond (is_key last.0 k) (Some last.1) (last_put put k b)
last_put_end [] last k b = refl
last_put_end (p ∷ put) last k b = last_put_end put last k (cond (is_key p.0 k) (Some p.1) b)
