-- A table of items by key is read exactly from the list of its records.
use Rattle.std.proofs.Common.{◌≡◌, suc, ◌-◌, Ordering, Bool, true, cond, List, [], ◌∷◌, ◌++◌, length, map, Option, Some, None, refl, sym, ap, subst, ◌∙◌, arith}
use Rattle.std.specs.Cmp.{IsTotalOrder}
use Rattle.std.specs.Ordering.{is_lt, ordering_reverse}
use Rattle.std.specs.declared.cmp.Ordering.TheVariants.{Less, Equal, Greater}
use Rattle.std.specs.BTreeMap.{insert_entry}
use Rattle.std.specs.List.{AllByRecursion, slice_get}
use Rattle.std.proofs.lemmas.List.{map_push}
use Rattle.asm_formats.specs.Items.{Key}
use Rattle.asm_base.specs.Records.{DirectoryRecord, add_item, ends_below, Ascend}
use Rattle.asm_base.proofs.Exact.{bind_some, test_some, some_is}
use Rattle.asm_base.proofs.Tables.{IsTable}

-- an item is read exactly from its record
pub record IsItem {K T : Type 0} (is_mine : Key → Bool) (record_of : K × T → DirectoryRecord) (F : K × T → Type 0) (item_of : DirectoryRecord → Option (K × T)) : Type 0 where
  pub takes : (e : DirectoryRecord) (x : K × T) → is_mine e.0 ≡ true → item_of e ≡ Some x → (record_of x ≡ e) × F x
  pub again : (x : K × T) → F x → item_of (record_of x) ≡ Some x

module _ {K T : Type 0} {is_mine : Key → Bool} {record_of : K × T → DirectoryRecord} {F : K × T → Type 0} {item_of : DirectoryRecord → Option (K × T)} (law : IsItem is_mine record_of F item_of) (is_below : K → K → Bool) where
  abbrev pub Fits : List (K × T) → Type 0
  Fits t = Ascend is_below t × AllByRecursion F t

  pub ascend_push : (t : List (K × T)) (x : K × T) → Ascend is_below t → ends_below is_below t x.0 ≡ true → Ascend is_below (t ++ x ∷ [])
  ascend_push [] x up e = tt
  ascend_push (a ∷ []) x up e = (e, tt)
  ascend_push (a ∷ b ∷ t) x up e = (up.0, ascend_push (b ∷ t) x up.1 e)

  all_push : (t : List (K × T)) (x : K × T) → AllByRecursion F t → F x → AllByRecursion F (t ++ x ∷ [])
  all_push [] x all f = (f, tt)
  all_push (a ∷ t) x all f = (all.0, all_push t x all.1 f)

  next_item : (t : List (K × T)) (e : DirectoryRecord) (u : List (K × T)) → is_mine e.0 ≡ true → Fits t → add_item is_below item_of t e ≡ Some u → (map record_of t ++ e ∷ [] ≡ map record_of u) × Fits u
  next_item t e u mine fits a =
      let b = bind_some (λ (x : K × T). cond (ends_below is_below t x.0) (Some (t ++ x ∷ [])) None) (item_of e) u a in
      let x = b.0 in
      let g = test_some (ends_below is_below t x.0) (t ++ x ∷ []) u b.2 in
      let item = law.takes e x mine b.1 in
      let made : map record_of t ++ e ∷ [] ≡ map record_of (t ++ x ∷ []) = ap (λ (r : DirectoryRecord). map record_of t ++ r ∷ []) (sym item.0) ∙ sym (map_push record_of t x) in
      subst (λ (v : List (K × T)). (map record_of t ++ e ∷ [] ≡ map record_of v) × Fits v) g.1 (made, (ascend_push t x fits.0 g.0, all_push t x fits.1 item.1))

  heads : (r s : DirectoryRecord) (rs ss : List DirectoryRecord) → r ∷ rs ≡ s ∷ ss → (r ≡ s) × (rs ≡ ss)
  heads r s rs ss e = (cc, cc)

  one_item : (x y : K × T) → F x → F y → record_of x ≡ record_of y → x ≡ y
  one_item x y f g e = some_is x y (sym (law.again x f) ∙ ap item_of e ∙ law.again y g)

  -- the next record of a table is one of an item behind the others
  item_follows : (t : List (K × T)) (e : DirectoryRecord) (es : List DirectoryRecord) (whole : List (K × T)) → AllByRecursion F t → Fits whole → map record_of t ++ e ∷ es ≡ map record_of whole → (x : K × T) × (item_of e ≡ Some x) × (ends_below is_below t x.0 ≡ true)
  item_follows [] e es [] all fits s = absurd cc
  item_follows [] e es (w ∷ ws) all fits s =
      let h = heads e (record_of w) es (map record_of ws) s in
      (w, ap item_of h.0 ∙ law.again w fits.1.0, refl)
  item_follows (a ∷ t) e es [] all fits s = absurd cc
  item_follows (a ∷ []) e es (w ∷ []) all fits s = absurd cc
  item_follows (a ∷ []) e es (w ∷ v ∷ ws) all fits s =
      let h = heads (record_of a) (record_of w) (e ∷ es) (record_of v ∷ map record_of ws) s in
      let k = heads e (record_of v) es (map record_of ws) h.1 in
      let same : a ≡ w = one_item a w all.0 fits.1.0 h.0 in
      (v, ap item_of k.0 ∙ law.again v fits.1.1.0, ap (λ (y : K × T). is_below y.0 v.0) same ∙ fits.0.0)
  item_follows (a ∷ b ∷ t) e es (w ∷ []) all fits s = absurd cc
  item_follows (a ∷ b ∷ t) e es (w ∷ v ∷ ws) all fits s =
      let h = heads (record_of a) (record_of w) (map record_of (b ∷ t) ++ e ∷ es) (map record_of (v ∷ ws)) s in
      item_follows (b ∷ t) e es (v ∷ ws) all.1 (fits.0.1, fits.1.1) h.1

  follows_item : (t : List (K × T)) (e : DirectoryRecord) (es : List DirectoryRecord) (whole : List (K × T)) → Fits t → Fits whole → map record_of t ++ e ∷ es ≡ map record_of whole → (u : List (K × T)) × (add_item is_below item_of t e ≡ Some u)
  follows_item t e es whole fits fits_whole s =
      let x = item_follows t e es whole fits.1 fits_whole s in
      (t ++ x.0 ∷ [], rw (x.1, x.2) refl)

  tail_up : (x : K × T) (t : List (K × T)) → Ascend is_below (x ∷ t) → Ascend is_below t
  tail_up x [] up = tt
  tail_up x (y ∷ t) up = up.1

  same_items : (t u : List (K × T)) → Fits t → Fits u → map record_of t ≡ map record_of u → t ≡ u
  same_items [] [] f g e = refl
  same_items [] (y ∷ u) f g e = absurd cc
  same_items (x ∷ t) [] f g e = absurd cc
  same_items (x ∷ t) (y ∷ u) f g e =
      let h = heads (record_of x) (record_of y) (map record_of t) (map record_of u) e in
      ap (λ (z : K × T). z ∷ t) (one_item x y f.1.0 g.1.0 h.0) ∙ ap (λ (zs : List (K × T)). y ∷ zs) (same_items t u (tail_up x t f.0, f.1.1) (tail_up y u g.0, g.1.1) h.1)

  pub is_list_table : IsTable is_mine (map record_of) Fits (add_item is_below item_of)
  is_list_table = record { next = next_item; follows = follows_item; same = same_items }

-- ---- an item that is put behind the last one of an ordered map

less_is : (r : Ordering) → is_lt r ≡ true → r ≡ Less
less_is Less e = refl
less_is Equal e = absurd cc
less_is Greater e = absurd cc

tail_ascends : {K T : Type 0} (is_below : K → K → Bool) (x : K × T) (t : List (K × T)) → Ascend is_below (x ∷ t) → Ascend is_below t
tail_ascends is_below x [] up = tt
tail_ascends is_below x (y ∷ t) up = up.1

tail_ends : {K T : Type 0} (is_below : K → K → Bool) (x : K × T) (t : List (K × T)) (k : K) → ends_below is_below (x ∷ t) k ≡ true → ends_below is_below t k ≡ true
tail_ends is_below x [] k e = refl
tail_ends is_below x (y ∷ t) k e = e

first_below : {K T : Type 0} (R : K → K → Ordering) → IsTotalOrder R → (x : K × T) (es : List (K × T)) (k : K) → Ascend (λ a b. is_lt (R a b)) (x ∷ es) → ends_below (λ a b. is_lt (R a b)) (x ∷ es) k ≡ true → R x.0 k ≡ Less
first_below R o x [] k up e = less_is (R x.0 k) e
first_below R o x (y ∷ es) k up e = o.trans x.0 y.0 k (less_is (R x.0 y.0) up.0) (first_below R o y es k up.1 e)

pub insert_at_end : {K T : Type 0} (R : K → K → Ordering) → IsTotalOrder R → (es : List (K × T)) (k : K) (v : T) → Ascend (λ a b. is_lt (R a b)) es → ends_below (λ a b. is_lt (R a b)) es k ≡ true → insert_entry R es k v ≡ es ++ (k, v) ∷ []
insert_at_end R o [] k v up e = refl
insert_at_end {K} {T} R o (x ∷ es) k v up e =
    let less = first_below R o x es k up e in
    let greater : R k x.0 ≡ Greater = o.antisymm k x.0 ∙ ap ordering_reverse less in
    rw greater (ap (λ (r : List (K × T)). x ∷ r) (insert_at_end R o es k v (tail_ascends (λ a b. is_lt (R a b)) x es up) (tail_ends (λ a b. is_lt (R a b)) x es k e)))

-- the last item says what comes behind the list
pub last_below : {K T : Type 0} (is_below : K → K → Bool) (es : List (K × T)) (x : K × T) (k : K) → slice_get es (length es - 1) ≡ Some x → ends_below is_below es k ≡ is_below x.0 k
last_below is_below [] x k e = absurd cc
last_below {K} {T} is_below (y ∷ []) x k e = ap (λ (z : K × T). is_below z.0 k) (some_is y x e)
last_below is_below (y ∷ z ∷ es) x k e =
    let n : suc (suc (length es)) - 1 ≡ suc (length es) = omega arith in
    let m : suc (length es) - 1 ≡ length es = omega arith in
    last_below is_below (z ∷ es) x k (rw m (rw n at e))

pub none_below : {K T : Type 0} (is_below : K → K → Bool) (es : List (K × T)) (k : K) → length es ≡ 0 → ends_below is_below es k ≡ true
none_below is_below [] k e = refl
none_below is_below (x ∷ es) k e = absurd (omega arith)
