-- A store is built of what was read.
use Rattle.std.proofs.Common.{◌≡◌, inl, inr, ⊎_elim, ℕ, zero, suc, ◌+◌, ◌<◌, ◌≤◌, Bool, true, false, List, [], ◌∷◌, ◌++◌, length, map, take, drop, get_or, refl, sym, ap, subst, ◌∙◌, arith, append_assoc}
use Rattle.std.specs.Prelude.{◌&&◌, nat_lt}
use Rattle.std.specs.List.{list_all}
use Rattle.std.proofs.lemmas.Bool.{and_parts, and_from}
use Rattle.asm_base.specs.declared.block.Block.{Block}
use Rattle.asm_formats.specs.Among.{IsAmong}
use Rattle.asm_formats.specs.Status.{ascends_from}
use Rattle.change_directory.specs.Logs.{are_pages}
use Rattle.page_map.specs.Loaded.{AreFilled}
use Rattle.std.proofs.lemmas.List.{append-nil}
use Rattle.change_directory.specs.declared.copy.DirCopy.{DirCopy}
use Rattle.directory_store.specs.declared.due.Due.{Due}
use Rattle.directory_store.specs.Reading.{IsBehind, IsNewest, KeepsOne, PutsKept, copies_of_readings, is_same_page, same_pages}
use Rattle.asm_formats.specs.Logs.{PageImage}
use Rattle.std.proofs.lemmas.List.{take_more}
use Rattle.asm_base.specs.Blocks.{image_of_page}
use Rattle.change_directory.specs.StoreLaws.{due_images, shown_by}
use Rattle.change_directory.specs.declared.loading.Pages.{Pages}
use Rattle.change_directory.specs.Loads.{AreInOrder}
use Rattle.std.proofs.lemmas.List.Folds.{list_all-map}
use Rattle.directory_store.proofs.Records.{same_numbers}
use Rattle.directory_store.specs.declared.reading.Reading.{Reading}

-- ---- lists

pub drop_one : {A : Type 0} (xs : List A) (i : ℕ) (d : A) → i < length xs → drop i xs ≡ get_or xs i d ∷ drop (i + 1) xs
drop_one [] i d lt = absurd (omega arith)
drop_one (x ∷ xs) zero d lt = refl
drop_one (x ∷ xs) (suc i) d lt =
    let e : suc (i + 1) ≡ suc i + 1 = omega arith in
    subst (λ (n : ℕ). drop i xs ≡ get_or xs i d ∷ drop n (x ∷ xs)) e (drop_one xs i d (omega arith))

pub drop_end : {A : Type 0} (xs : List A) (i : ℕ) → length xs ≤ i → drop i xs ≡ []
drop_end [] zero le = refl
drop_end [] (suc i) le = refl
drop_end (x ∷ xs) zero le = absurd (omega arith)
drop_end (x ∷ xs) (suc i) le = drop_end xs i (omega arith)

-- ---- the greatest number

-- a reading is behind itself
behind_self : (r : Reading) → IsBehind r r
behind_self r = inr (refl, omega arith)

-- what is behind one behind another is behind that
behind-trans : (r q p : Reading) → IsBehind r q → IsBehind q p → IsBehind r p
behind-trans r q p (inl a) (inl b) = inl (omega (arith, a, b))
behind-trans r q p (inl a) (inr b) = inl (omega (arith, a, b.0))
behind-trans r q p (inr a) (inl b) = inl (omega (arith, a.0, b))
behind-trans r q p (inr a) (inr b) = inr (b.0 ∙ a.0, omega (arith, a.1, b.1))

behind_most : (r q : Reading) → IsBehind r q → q.number ≤ r.number
behind_most r q (inl a) = omega (arith, a)
behind_most r q (inr a) = omega (arith, a.0)

-- none of the readings has a greater number
pub newest_most : (readings : List Reading) (r : Reading) → IsNewest readings r → (q : Reading) → IsAmong readings q → q.number ≤ r.number
newest_most readings r is q among = behind_most r q (is.others q among)

pub newest_first : (first : Reading) (rest : List Reading) (r : Reading) → IsNewest rest r → IsBehind first r → IsNewest (first ∷ rest) first
newest_first first rest r is behind = record {
  among = inl refl;
  others = λ q among. ⊎_elim (λ (e : q ≡ first). subst (λ (p : Reading). IsBehind first p) (sym e) (behind_self first)) (λ there. behind-trans first r q behind (is.others q there)) among;
}

pub newest_later : (first : Reading) (rest : List Reading) (r : Reading) → IsNewest rest r → IsBehind r first → IsNewest (first ∷ rest) r
newest_later first rest r is behind = record {
  among = inr is.among;
  others = λ q among. ⊎_elim (λ (e : q ≡ first). subst (λ (p : Reading). IsBehind r p) (sym e) behind) (λ there. is.others q there) among;
}

pub newest_alone : (first : Reading) (rest : List Reading) → rest ≡ [] → IsNewest (first ∷ rest) first
newest_alone first rest none = record {
  among = inl refl;
  others = λ q among. ⊎_elim (λ (e : q ≡ first). subst (λ (p : Reading). IsBehind first p) (sym e) (behind_self first))
      (λ there. absurd (subst (λ (l : List Reading). IsAmong l q) none there)) among;
}

-- ---- pages as a load gives them

pub filled_by_order : (d : ℕ) (pages : Pages) → AreInOrder d pages → AreFilled d pages.blocks.items
filled_by_order d pages order =
    let p = and_parts (ascends_from 0 (map (λ (p : ℕ × Block). p.0) pages.blocks.items)) (list_all (λ (p : ℕ × Block). nat_lt p.0 d) pages.blocks.items) order.ascend in
    record { ascend = p.0; inside = p.1; decode = order.decode; filled = order.filled }

-- so are the due pages
pub dues_by_order : (d : ℕ) (pages : Pages) (dues : List (ℕ × Block)) → map image_of_page dues ≡ due_images pages → AreInOrder d pages → are_pages d dues ≡ true
dues_by_order d pages dues are order =
    and_from (ascends_from 0 (map (λ (p : ℕ × Block). p.0) dues)) (list_all (λ (p : ℕ × Block). nat_lt p.0 d) dues)
    (ap (ascends_from 0) numbers ∙ p.0)
    (sym (list_all-map (λ n. nat_lt n d) (λ (p : ℕ × Block). p.0) dues) ∙ ap (list_all (λ n. nat_lt n d)) numbers ∙ p.1)
  where
    of_images : (due : List (ℕ × ℕ)) → map (λ (i : PageImage). i.0) (map (λ (e : ℕ × ℕ). (e.0, shown_by pages.blocks.items e.0)) due) ≡ map (λ (e : ℕ × ℕ). e.0) due
    of_images [] = refl
    of_images (e ∷ due) = ap (λ (l : List ℕ). e.0 ∷ l) (of_images due)

    numbers : map (λ (p : ℕ × Block). p.0) dues ≡ map (λ (e : ℕ × ℕ). e.0) pages.due.items
    numbers = sym (same_numbers dues) ∙ ap (map (λ (i : PageImage). i.0)) are ∙ of_images pages.due.items

    p : (ascends_from 0 (map (λ (e : ℕ × ℕ). e.0) pages.due.items) ≡ true) × (list_all (λ n. nat_lt n d) (map (λ (e : ℕ × ℕ). e.0) pages.due.items) ≡ true)
    p = and_parts (ascends_from 0 (map (λ (e : ℕ × ℕ). e.0) pages.due.items)) (list_all (λ n. nat_lt n d) (map (λ (e : ℕ × ℕ). e.0) pages.due.items)) order.due

-- ---- those that are kept

pub nothing_kept : (r : Reading) (readings : List Reading) (copies : List DirCopy) (dues : List Due) → length readings < 1 → PutsKept r readings copies copies dues dues
nothing_kept r [] copies dues none = record { kept = []; dues = []; are_kept = refl; are_dues = refl; copies_are = sym (append-nil copies); dues_are = sym (append-nil dues) }
nothing_kept r (q ∷ qs) copies dues none = absurd (omega arith)

pub more_kept : (r q : Reading) (qs : List Reading) (c0 c1 c2 : List DirCopy) (d0 d1 d2 : List Due) → KeepsOne r q c0 c1 d0 d1 → PutsKept r qs c1 c2 d1 d2 → PutsKept r (q ∷ qs) c0 c2 d0 d2
more_kept r q qs c0 c1 c2 d0 d1 d2 (inl one) rest = record {
  kept = q ∷ rest.kept;
  dues = one.1 ∷ rest.dues;
  are_kept = inl (one.0, rest.kept, refl, rest.are_kept);
  are_dues = (one.1, one.2, rest.dues, refl, rest.are_dues);
  copies_are = rest.copies_are ∙ ap (λ (l : List DirCopy). l ++ copies_of_readings rest.kept) one.3 ∙ append_assoc c0 (q.copy ∷ []) (copies_of_readings rest.kept);
  dues_are = rest.dues_are ∙ ap (λ (l : List Due). l ++ rest.dues) one.4 ∙ append_assoc d0 (one.1 ∷ []) rest.dues;
}
more_kept r q qs c0 c1 c2 d0 d1 d2 (inr one) rest = record {
  kept = rest.kept;
  dues = rest.dues;
  are_kept = inr (one.0, rest.are_kept);
  are_dues = rest.are_dues;
  copies_are = rest.copies_are ∙ ap (λ (l : List DirCopy). l ++ copies_of_readings rest.kept) one.1;
  dues_are = rest.dues_are ∙ ap (λ (l : List Due). l ++ rest.dues) one.2;
}

-- ---- pages

and_false : (a : Bool) → (a && false) ≡ false
and_false true = refl
and_false false = refl

pub other_length : (ps qs : List (ℕ × Block)) → (length ps ≡ length qs → ⊥) → same_pages ps qs ≡ false
other_length [] [] differ = absurd (differ refl)
other_length [] (q ∷ qs) differ = refl
other_length (p ∷ ps) [] differ = refl
other_length (p ∷ ps) (q ∷ qs) differ = rw (other_length ps qs (λ e. differ (omega (arith, e)))) (and_false (is_same_page p q))

map_end : {A B : Type 0} (f : A → B) (xs : List A) (y : A) → map f (xs ++ y ∷ []) ≡ map f xs ++ f y ∷ []
map_end f [] y = refl
map_end f (x ∷ xs) y = ap (λ l. f x ∷ l) (map_end f xs y)

pub due_more : (blocks : List (ℕ × Block)) (due : List (ℕ × ℕ)) (i : ℕ) (d : ℕ × ℕ) (old new : List (ℕ × Block)) (b : Block) → i < length due
    → map image_of_page old ≡ map (λ (e : ℕ × ℕ). (e.0, shown_by blocks e.0)) (take i due) → b.bytes ≡ shown_by blocks (get_or due i d).0 → new ≡ old ++ ((get_or due i d).0, b) ∷ []
    → map image_of_page new ≡ map (λ (e : ℕ × ℕ). (e.0, shown_by blocks e.0)) (take (i + 1) due)
due_more blocks due i d old new b lt was here is =
    let f : ℕ × ℕ → PageImage = λ e. (e.0, shown_by blocks e.0) in
    let last : map image_of_page (old ++ ((get_or due i d).0, b) ∷ []) ≡ map image_of_page old ++ ((get_or due i d).0, b.bytes) ∷ [] = map_end image_of_page old ((get_or due i d).0, b) in
    let both : map image_of_page old ++ ((get_or due i d).0, b.bytes) ∷ [] ≡ map f (take i due) ++ f (get_or due i d) ∷ [] = λ j. was j ++ ((get_or due i d).0, here j) ∷ [] in
    ap (map image_of_page) is ∙ last ∙ both ∙ sym (ap (map f) (take_more due i d lt) ∙ map_end f (take i due) (get_or due i d))

pub due_more_at : (blocks blocks' : List (ℕ × Block)) (due due' : List (ℕ × ℕ)) → blocks' ≡ blocks → due' ≡ due → (i : ℕ) (d : ℕ × ℕ) (old new : List (ℕ × Block)) (b : Block) → i < length due'
    → map image_of_page old ≡ map (λ (e : ℕ × ℕ). (e.0, shown_by blocks e.0)) (take i due) → b.bytes ≡ shown_by blocks' (get_or due' i d).0 → new ≡ old ++ ((get_or due' i d).0, b) ∷ []
    → map image_of_page new ≡ map (λ (e : ℕ × ℕ). (e.0, shown_by blocks e.0)) (take (i + 1) due)
due_more_at blocks blocks' due due' f e i d old new b lt was here is =
    due_more blocks due i d old new b (subst (λ (l : List (ℕ × ℕ)). i < length l) e lt) was (here ∙ (λ j. shown_by (f j) (get_or (e j) i d).0)) (is ∙ (λ j. old ++ ((get_or (e j) i d).0, b) ∷ []))
