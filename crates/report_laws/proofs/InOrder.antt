-- Names of groups in folded order: how one is put among them, and which of them match.
use Rattle.std.proofs.Common.{◌≡◌, ℕ, suc, Bool, true, false, cond, List, [], ◌∷◌, ◌++◌, length, map, inl, inr, Option, Some, None, refl, sym, ap, subst, ◌∙◌}
use Rattle.std.specs.Prelude.{◌&&◌, ◌||◌, ◌==◌, filter, filter_map}
use Rattle.std.specs.List.{cons_option, insert, list_any}
use Rattle.std.specs.FinMap as maps
use Rattle.std.specs.FinMap.Entries.{below_all, by_order, find-where_key, is_sorted-where_key, same_entries}
use Rattle.std.specs.Ordering.{is_lt, ordering_reverse}
use Rattle.std.specs.declared.cmp.Ordering.{Ordering}
use Rattle.std.specs.declared.cmp.Ordering.TheVariants.{Less, Equal, Greater}
use Rattle.std.specs.Cmp.Lexicographic.{nat_list_cmp_total}
use Rattle.std.proofs.lemmas.Bool.{and_parts}
use Rattle.std.proofs.lemmas.List.{map-append}
use Rattle.asm_base.specs.Names.{folded_cmp}
use Rattle.asm_formats.specs.Among.{IsAmong}
use Rattle.asm_group.specs.Names.{Bytes, folded}
use Rattle.asm_world.specs.Listings as world
use Rattle.asm_world.specs.Listings.{by_folded_text, matches, tails}
use Rattle.asm_world.specs.World.{SessionEntry, is_mounted}
use Rattle.group_reports.specs.Listing.{star}
use Rattle.report_laws.specs.Lists.{AllMatchStar, GroupsAreWorlds, MatchesAreInOrder, NamesAreInserted, matching_names, matching_name, names_before}
use Rattle.report_laws.proofs.Ordered.{Entries, R, entry, found, found_is}
use Rattle.report_laws.proofs.Sorted.{above, sorted_find, t_true}

same_key : maps.IsAntisymmetric R
same_key = maps.slice_cmp-IsAntisymmetric maps.nat_cmp-IsAntisymmetric

abbrev entries_of : List Bytes → Entries
entries_of texts = maps.entries (by_folded_text texts)

abbrev second : Bytes × Bytes → Bytes
second e = e.1

-- each is a text under its folded text
abbrev AreFolded : Entries → Type 0
AreFolded es = (e : Bytes × Bytes) → IsAmong es e → folded e.1 ≡ e.0

up : (texts : List Bytes) → maps.is_sorted R (entries_of texts) ≡ true
up texts = t_true (maps.is_sorted R (entries_of texts)) (maps.entries_sorted (by_folded_text texts))

found_in : (texts : List Bytes) (q : Bytes) → maps.find R q (entries_of texts) ≡ found q texts
found_in texts q = sym (maps.get-entries (by_folded_text texts) q) ∙ maps.get-from_entries nat_list_cmp_total (map entry texts) q

entry_is : (texts : List Bytes) (e : Bytes × Bytes) → IsAmong (entries_of texts) e → IsAmong texts e.1 × (folded e.1 ≡ e.0)
entry_is texts e m = found_is e.0 texts e.1 (sym (found_in texts e.0) ∙ sorted_find R nat_list_cmp_total same_key (entries_of texts) (up texts) e m)

-- ---- a name is put among others

insert_first : (l : List Bytes) (x : Bytes) → insert l 0 x ≡ x ∷ l
insert_first [] x = refl
insert_first (y ∷ l) x = refl

insert_later : (l : List Bytes) (y x : Bytes) (n : ℕ) → insert (y ∷ l) (suc n) x ≡ y ∷ insert l n x
insert_later l y x n = refl

one_before : (name x : Bytes) (l : List Bytes) → folded_cmp x name ≡ Less → names_before name (x ∷ l) ≡ suc (names_before name l)
one_before name x l less =
    let rest : List Bytes = filter (λ other. is_lt (folded_cmp other name)) l in
    ap (λ (o : Ordering). length (cond (is_lt o) (x ∷ rest) rest)) less

one_behind : (name x : Bytes) (l : List Bytes) → folded_cmp x name ≡ Greater → names_before name (x ∷ l) ≡ names_before name l
one_behind name x l greater =
    let rest : List Bytes = filter (λ other. is_lt (folded_cmp other name)) l in
    ap (λ (o : Ordering). length (cond (is_lt o) (x ∷ rest) rest)) greater

turned : (name : Bytes) (e : Bytes × Bytes) (o : Ordering) → folded e.1 ≡ e.0 → R (folded name) e.0 ≡ o → folded_cmp e.1 name ≡ ordering_reverse o
turned name e o is at = ap (λ (k : Bytes). R k (folded name)) is ∙ (nat_list_cmp_total.antisymm e.0 (folded name) ∙ ap ordering_reverse at)

none_before : (name : Bytes) (es : Entries) → AreFolded es → ((e : Bytes × Bytes) → IsAmong es e → R (folded name) e.0 ≡ Less) → names_before name (map second es) ≡ 0
none_before name [] is all = refl
none_before name (e ∷ es) is all =
    one_behind name e.1 (map second es) (turned name e Less (is e (inl refl)) (all e (inl refl))) ∙ none_before name es (λ x m. is x (inr m)) (λ x m. all x (inr m))

-- a name among entries, by how it compares with the first of them
abbrev placed : Bytes → Bytes × Bytes → Entries → Ordering → Entries
placed name e es o = by_order o ((folded name, name) ∷ e ∷ es) ((e.0, name) ∷ es) (e ∷ maps.put R (folded name) name es)

put_is : (name : Bytes) (es : Entries) → maps.is_sorted R es ≡ true → AreFolded es → ((e : Bytes × Bytes) → IsAmong es e → folded name ≡ e.0 → ⊥)
    → map second (maps.put R (folded name) name es) ≡ insert (map second es) (names_before name (map second es)) name
put_is name [] ascends is lacks = refl
put_is name (e ∷ es) ascends is lacks =
    let p = and_parts (below_all R e.0 es) (maps.is_sorted R es) ascends in
    by (R (folded name) e.0) refl p.0 (put_is name es p.1 (λ x m. is x (inr m)) (λ x m. lacks x (inr m)))
  where
    by : (o : Ordering) → R (folded name) e.0 ≡ o → below_all R e.0 es ≡ true → map second (maps.put R (folded name) name es) ≡ insert (map second es) (names_before name (map second es)) name
        → map second (placed name e es (R (folded name) e.0)) ≡ insert (map second (e ∷ es)) (names_before name (map second (e ∷ es))) name
    by Less at below later =
        let all : (x : Bytes × Bytes) → IsAmong (e ∷ es) x → R (folded name) x.0 ≡ Less = λ x m. elim m [
          | inl here ↦ ap (λ (y : Bytes × Bytes). R (folded name) y.0) here ∙ at
          | inr behind ↦ nat_list_cmp_total.trans (folded name) e.0 x.0 at (above R nat_list_cmp_total same_key e.0 es below x behind)
        ] in
        ap (λ (o : Ordering). map second (placed name e es o)) at
        ∙ sym (ap (λ (n : ℕ). insert (map second (e ∷ es)) n name) (none_before name (e ∷ es) is all) ∙ insert_first (map second (e ∷ es)) name)
    by Equal at below later = absurd (lacks e (inl refl) (same_key (folded name) e.0 at))
    by Greater at below later =
        ap (λ (o : Ordering). map second (placed name e es o)) at
        ∙ (ap (λ (l : List Bytes). e.1 ∷ l) later
        ∙ sym (ap (λ (n : ℕ). insert (map second (e ∷ es)) n name) (one_before name e.1 (map second es) (turned name e Greater (is e (inl refl)) at))
        ∙ insert_later (map second es) e.1 name (names_before name (map second es))))

pub names_are_inserted : NamesAreInserted
names_are_inserted texts names name are lacks =
    subst (λ (l : List Bytes). insert l (names_before name l) name ≡ world.in_order (texts ++ name ∷ [])) (sym are) (sym put) where
      unfound : (o : Option Bytes) → found (folded name) texts ≡ o → found (folded name) texts ≡ None
      unfound None e = e
      unfound (Some x) e = let is = found_is (folded name) texts x e in absurd (lacks x is.0 is.1)

      pushed : entries_of (texts ++ name ∷ []) ≡ maps.put R (folded name) name (entries_of texts)
      pushed =
          ap (λ (es : Entries). maps.entries (maps.from_entries {R = R} es)) (map-append entry texts (name ∷ []))
          ∙ (ap (λ m. maps.entries m) (maps.from_entries_push nat_list_cmp_total same_key (map entry texts) (folded name) name (unfound (found (folded name) texts) refl))
          ∙ maps.entries-insert nat_list_cmp_total (by_folded_text texts) (folded name) name)

      put : world.in_order (texts ++ name ∷ []) ≡ insert (world.in_order texts) (names_before name (world.in_order texts)) name
      put =
          ap (map second) pushed
          ∙ put_is name (entries_of texts) (up texts) (λ e m. (entry_is texts e m).1) (λ e m same. let is = entry_is texts e m in lacks e.1 is.0 (is.1 ∙ sym same))

-- ---- the names that match

module _ (pattern : Bytes) where
  abbrev passes : Bytes → Bool
  passes key = matches (folded pattern) key

  abbrev kept : Entries → Entries
  kept es = filter (λ (e : Bytes × Bytes). passes e.0) es

  texts_kept : (texts : List Bytes) → map entry (matching_names pattern texts) ≡ kept (map entry texts)
  texts_kept [] = refl
  texts_kept (x ∷ texts) = by (passes (folded x)) (texts_kept texts) where
    by : (b : Bool) → map entry (matching_names pattern texts) ≡ kept (map entry texts)
        → map entry (cons_option (cond b (Some x) None) (matching_names pattern texts)) ≡ cond b (entry x ∷ kept (map entry texts)) (kept (map entry texts))
    by true more = ap (λ (es : Entries). entry x ∷ es) more
    by false more = more

  seconds_kept : (es : Entries) → AreFolded es → map second (kept es) ≡ matching_names pattern (map second es)
  seconds_kept [] is = refl
  seconds_kept (e ∷ es) is =
      by (passes e.0) (seconds_kept es (λ x m. is x (inr m)))
      ∙ ap (λ (k : Bytes). cons_option (cond (passes k) (Some e.1) None) (matching_names pattern (map second es))) (sym (is e (inl refl)))
    where
      by : (b : Bool) → map second (kept es) ≡ matching_names pattern (map second es)
          → map second (cond b (e ∷ kept es) (kept es)) ≡ cons_option (cond b (Some e.1) None) (matching_names pattern (map second es))
      by true more = ap (λ (l : List Bytes). e.1 ∷ l) more
      by false more = more

  alike : (q x : Bytes) → R q x ≡ Equal → passes x ≡ passes q
  alike q x e = ap passes (sym (same_key q x e))

  entries_kept : (texts : List Bytes) → entries_of (matching_names pattern texts) ≡ kept (entries_of texts)
  entries_kept texts =
      same_entries R nat_list_cmp_total same_key (entries_of (matching_names pattern texts)) (kept (entries_of texts)) (maps.entries_sorted (by_folded_text (matching_names pattern texts)))
      (is_sorted-where_key R passes (entries_of texts) (maps.entries_sorted (by_folded_text texts)))
      (λ q.
      found_in (matching_names pattern texts) q
      ∙ (ap (maps.find R q) (texts_kept texts)
      ∙ (find-where_key R passes q (alike q) (map entry texts)
      ∙ (ap (λ (o : Option Bytes). cond (passes q) o None) (sym (found_in texts q))
      ∙ sym (find-where_key R passes q (alike q) (entries_of texts))))))

  in_order_kept : (texts : List Bytes) → world.in_order (matching_names pattern texts) ≡ matching_names pattern (world.in_order texts)
  in_order_kept texts = ap (map second) (entries_kept texts) ∙ seconds_kept (entries_of texts) (λ e m. (entry_is texts e m).1)

  abbrev mounted_name : SessionEntry → Option Bytes
  mounted_name entry = cond (is_mounted entry) (Some entry.name) None

  session_kept : (session : List SessionEntry) → filter_map (matching_name pattern) session ≡ matching_names pattern (filter_map mounted_name session)
  session_kept [] = refl
  session_kept (e ∷ session) = by (is_mounted e) (world.is_match pattern e.name) refl (session_kept session) where
    by : (a b : Bool) → world.is_match pattern e.name ≡ b → filter_map (matching_name pattern) session ≡ matching_names pattern (filter_map mounted_name session)
        → cons_option (cond (a && b) (Some e.name) None) (filter_map (matching_name pattern) session) ≡ matching_names pattern (cons_option (cond a (Some e.name) None) (filter_map mounted_name session))
    by false b is more = more
    by true b is more =
        ap (λ (l : List Bytes). cons_option (cond b (Some e.name) None) l) more
        ∙ ap (λ (c : Bool). cons_option (cond c (Some e.name) None) (matching_names pattern (filter_map mounted_name session))) (sym is)

pub matches_are_in_order : MatchesAreInOrder
matches_are_in_order pattern texts = in_order_kept pattern texts

pub groups_are_worlds : GroupsAreWorlds
groups_are_worlds w pattern = ap world.in_order (session_kept pattern w.session) ∙ in_order_kept pattern (filter_map (mounted_name pattern) w.session)

-- ---- all match a star

or_true : (b : Bool) → (b || true) ≡ true
or_true true = refl
or_true false = refl

some_tail : (bytes : Bytes) → list_any (λ rest. matches [] rest) (tails bytes) ≡ true
some_tail [] = refl
some_tail (b ∷ bytes) = ap (λ (a : Bool). (length (b ∷ bytes) == 0) || a) (some_tail bytes) ∙ or_true (length (b ∷ bytes) == 0)

pub star_matches : (name : Bytes) → world.is_match star name ≡ true
star_matches name = some_tail (folded name)

pub all_match_star : AllMatchStar
all_match_star [] = refl
all_match_star (name ∷ names) =
    ap (λ (b : Bool). cons_option (cond b (Some name) None) (matching_names star names)) (star_matches name) ∙ ap (λ (l : List Bytes). name ∷ l) (all_match_star names)
