-- Texts in folded order: the program's, and the world's.
use Rattle.std.proofs.Common.{◌≡◌, Bool, true, List, [], ◌∷◌, length, map, inl, inr, Option, Some, None, refl, sym, ap, ◌∙◌, arith}
use Rattle.std.specs.FinMap as maps
use Rattle.std.specs.FinMap.Entries.{by_order}
use Rattle.std.specs.Ordering.{nat_cmp, eq_by_cmp, match_ordering}
use Rattle.std.specs.declared.cmp.Ordering.{Ordering}
use Rattle.std.specs.declared.cmp.Ordering.TheVariants.{Less, Equal, Greater}
use Rattle.std.specs.BTreeMap.{insert_entry}
use Rattle.std.specs.Map.{values_of}
use Rattle.std.specs.Cmp.{Equal-is}
use Rattle.std.specs.Cmp.Lexicographic.{slice_cmp, nat_list_cmp_total}
use Rattle.std.proofs.lemmas.Bool.{cases_Bool, true≢false}
use Rattle.std.proofs.lemmas.Cmp.{eq_by_cmp_equiv}
use Rattle.std.proofs.lemmas.Option.{none-some, same_Some}
use Rattle.asm_formats.specs.Among.{IsAmong}
use Rattle.asm_group.specs.Names.{Bytes, folded}
use Rattle.asm_base.specs.declared.path.Path as code
use Rattle.asm_world.specs.Listings as world
use Rattle.asm_world.specs.Listings.{by_folded_text}
use Rattle.asmcmd.specs.Texts.{path_line}
use Rattle.group_reports.specs.Files.{folded_text, paths_in_order, placed_among}

abbrev pub R : Bytes → Bytes → Ordering
R = slice_cmp nat_cmp

abbrev pub Entries : Type 0
Entries = List (Bytes × Bytes)

abbrev pub entry : Bytes → Bytes × Bytes
entry text = (folded text, text)

-- ---- the program's order is the world's

abbrev line_of : Bytes × code.Path → Bytes × Bytes
line_of e = (e.0, path_line e.1)

put_same : (es : List (Bytes × code.Path)) (k : Bytes) (p : code.Path) → map line_of (insert_entry R es k p) ≡ maps.put R k (path_line p) (map line_of es)
put_same [] k p = refl
put_same (e ∷ es) k p = by (R k e.0) (put_same es k p) where
  by : (o : Ordering) → map line_of (insert_entry R es k p) ≡ maps.put R k (path_line p) (map line_of es)
      → map line_of (match_ordering o ((k, p) ∷ e ∷ es) ((e.0, p) ∷ es) (e ∷ insert_entry R es k p))
      ≡ by_order o ((k, path_line p) ∷ line_of e ∷ map line_of es) ((e.0, path_line p) ∷ map line_of es) (line_of e ∷ maps.put R k (path_line p) (map line_of es))
  by Less later = refl
  by Equal later = refl
  by Greater later = ap (λ (l : Entries). line_of e ∷ l) later

none_in : (es : Entries) → length es ≡ 0 → es ≡ []
none_in [] e = refl
none_in (x ∷ es) e = absurd (omega (arith, e))

placed_same : (paths : List code.Path) → map line_of (placed_among [] paths) ≡ maps.entries (by_folded_text (map path_line paths))
placed_same [] = sym (none_in (maps.entries (by_folded_text [])) (sym (maps.len-entries (by_folded_text [])) ∙ maps.len-empty R Bytes))
placed_same (p ∷ paths) =
    put_same (placed_among [] paths) (folded_text p) p
    ∙ (ap (maps.put R (folded_text p) (path_line p)) (placed_same paths)
    ∙ sym (maps.entries-insert nat_list_cmp_total (by_folded_text (map path_line paths)) (folded (path_line p)) (path_line p)))

seconds : (es : List (Bytes × code.Path)) → map path_line (values_of es) ≡ map (λ (e : Bytes × Bytes). e.1) (map line_of es)
seconds [] = refl
seconds (e ∷ es) = ap (λ (l : List Bytes). path_line e.1 ∷ l) (seconds es)

pub order_is : (paths : List code.Path) → map path_line (paths_in_order paths) ≡ world.in_order (map path_line paths)
order_is paths = seconds (placed_among [] paths) ∙ ap (map (λ (e : Bytes × Bytes). e.1)) (placed_same paths)

-- ---- lists of the same texts

abbrev is_key : Bytes → Bytes → Bool
is_key q k = eq_by_cmp R q k

key_is : (q k : Bytes) → is_key q k ≡ true → q ≡ k
key_is q k e = maps.slice_cmp-IsAntisymmetric maps.nat_cmp-IsAntisymmetric q k ((Equal-is (R q k)).0 e)

key_self : (q : Bytes) → is_key q q ≡ true
key_self q = (eq_by_cmp_equiv nat_list_cmp_total).refl q

-- no two of them are the same without case
abbrev pub AreApart : List Bytes → Type 0
AreApart texts = (x y : Bytes) → IsAmong texts x → IsAmong texts y → folded x ≡ folded y → x ≡ y

abbrev pub found : Bytes → List Bytes → Option Bytes
found q texts = maps.find R q (map entry texts)

pub found_is : (q : Bytes) (texts : List Bytes) (x : Bytes) → found q texts ≡ Some x → IsAmong texts x × (folded x ≡ q)
found_is q [] x e = absurd (none-some x e)
found_is q (y ∷ texts) x e = elim (cases_Bool (is_key q (folded y))) [
  | inl hit ↦
      let same : y ≡ x = same_Some y x (rw hit at e) in
      (inl (sym same), ap folded (sym same) ∙ sym (key_is q (folded y) hit))
  | inr miss ↦ let later = found_is q texts x (rw miss at e) in (inr later.0, later.1)
]

finds : (q : Bytes) (texts : List Bytes) (x : Bytes) → AreApart texts → IsAmong texts x → folded x ≡ q → found q texts ≡ Some x
finds q [] x apart among is = absurd among
finds q (y ∷ texts) x apart among is = elim (cases_Bool (is_key q (folded y))) [
  | inl hit ↦
      let same : y ≡ x = apart y x (inl refl) among (sym (key_is q (folded y) hit) ∙ sym is) in
      rw hit (ap (λ (t : Bytes). Some t) same)
  | inr miss ↦ elim among [
    | inl here ↦ absurd (true≢false (sym (key_self q) ∙ ap (is_key q) (sym is ∙ ap folded here) ∙ miss))
    | inr later ↦ rw miss (finds q texts x (λ a b m n e. apart a b (inr m) (inr n) e) later is)
  ]
]

pub same_texts : (a b : List Bytes) → ((x : Bytes) → IsAmong a x → IsAmong b x) → ((x : Bytes) → IsAmong b x → IsAmong a x) → AreApart b → world.in_order a ≡ world.in_order b
same_texts a b to from apart =
    ap maps.values (maps.same_map nat_list_cmp_total (maps.slice_cmp-IsAntisymmetric maps.nat_cmp-IsAntisymmetric) (by_folded_text a) (by_folded_text b) (λ q.
    maps.get-from_entries nat_list_cmp_total (map entry a) q ∙ (by q (found q a) refl ∙ sym (maps.get-from_entries nat_list_cmp_total (map entry b) q))))
  where
    apart_a : AreApart a
    apart_a x y m n e = apart x y (to x m) (to y n) e

    none : (q : Bytes) → found q a ≡ None → (o : Option Bytes) → found q b ≡ o → None ≡ o
    none q e None f = refl
    none q e (Some y) f = let is = found_is q b y f in absurd (none-some y (sym e ∙ finds q a y apart_a (from y is.0) is.1))

    by : (q : Bytes) (o : Option Bytes) → found q a ≡ o → found q a ≡ found q b
    by q None e = e ∙ (none q e (found q b) refl)
    by q (Some x) e = let is = found_is q a x e in e ∙ sym (finds q b x apart (to x is.0) is.1)
