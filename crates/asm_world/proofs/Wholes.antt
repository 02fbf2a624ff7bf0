-- What commands that are answered ok keep of a world.
use Rattle.std.proofs.Common.{◌≡◌, ◌≢◌, ◌⊎◌, ℕ, Bool, true, false, List, [], ◌∷◌, ◌++◌, length, refl, sym, ap, subst, ◌∙◌, Option, Some, None, inl, inr, arith}
use Rattle.std.specs.Prelude.{Ok, unwrap_or, All, ◌<◌}
use Rattle.std.specs.Option.{ForSome}
use Rattle.std.specs.Cmp.{Equal-is}
use Rattle.std.specs.FinMap as maps
use Rattle.std.specs.Ordering.{eq_by_cmp, nat_cmp}
use Rattle.std.proofs.lemmas.Cmp.{nat_cmp_total, eq_by_cmp_equiv}
use Rattle.std.proofs.lemmas.List.{length-append}
use Rattle.std.proofs.Math.Seq.{get_or-append_seam}
use Rattle.std.proofs.lemmas.Slice.Eq.{bytes_eq-Decides}
use Rattle.asm_grammar.proofs.Tests.{is_true_or_false}
use Rattle.asm_group.specs.Group.{Cell, File, Attributes, Group}
use Rattle.asm_world.specs.Below.{Below}
use Rattle.asm_group.specs.Names.{Bytes, Path, folded, is_same_name}
use Rattle.asm_world.specs.Between.{MayStandFor}
use Rattle.asm_world.specs.Edits as e
use Rattle.asm_world.specs.Files as f
use Rattle.asm_world.specs.Settings as t
use Rattle.asm_world.specs.Statement as s
use Rattle.asm_world.specs.Command as c
use Rattle.asm_world.specs.Paths.{resolved, is_host_path, target_from}
use Rattle.asm_world.specs.Reply.{Done}
use Rattle.asm_world.specs.Step.{Changes, ChangesAt, Creates, MountsGroup, Drops, EditsTree, DropsFile, AddsAlias, GoesTo, MakesFile, Copies, DoneClause, DoneStatement, DoneVerb, Step, last_id}
use Rattle.asm_world.specs.World.{World, SessionEntry, Mounted, entry_among, groups_of, with_group, without_entry, mounted_entry}
use Rattle.asm_world.specs.WorldLaws.{IsIn, IsWholeWorld}
use Rattle.asm_world.proofs.EditLemmas.{ok_is}

-- NAMES

same_self : (a : Bytes) → is_same_name a a ≡ true
same_self a = (bytes_eq-Decides (folded a) (folded a)).1 refl

same_turned : (a b : Bytes) → is_same_name a b ≡ true → is_same_name b a ≡ true
same_turned a b h = (bytes_eq-Decides (folded b) (folded a)).1 (sym ((bytes_eq-Decides (folded a) (folded b)).0 h))

same_joined : (a b c : Bytes) → is_same_name a b ≡ true → is_same_name b c ≡ true → is_same_name a c ≡ true
same_joined a b c h k = (bytes_eq-Decides (folded a) (folded c)).1 ((bytes_eq-Decides (folded a) (folded b)).0 h ∙ (bytes_eq-Decides (folded b) (folded c)).0 k)

-- THE SESSION

deeper : (x entry : SessionEntry) (session : List SessionEntry) → IsIn entry session → IsIn entry (x ∷ session)
deeper x entry session (before, after, e) = (x ∷ before, after, ap (λ s. x ∷ s) e)

-- the first, or one of the others
first_or_other : (x entry : SessionEntry) (session : List SessionEntry) → IsIn entry (x ∷ session) → (entry ≡ x) ⊎ IsIn entry session
first_or_other x entry session ([], after, e) = inl (sym (heads x entry session after e)) where
  heads : (x entry : SessionEntry) (session after : List SessionEntry) → x ∷ session ≡ entry ∷ after → x ≡ entry
  heads x entry session after e = cc
first_or_other x entry session (y ∷ before, after, e) = inr (before, after, tails x y session (before ++ entry ∷ after) e) where
  tails : (x y : SessionEntry) (xs ys : List SessionEntry) → x ∷ xs ≡ y ∷ ys → xs ≡ ys
  tails x y xs ys e = cc

nothing_in : (entry : SessionEntry) → IsIn entry [] → ⊥
nothing_in entry ([], after, e) = cc
nothing_in entry (y ∷ before, after, e) = cc

found_in : (session : List SessionEntry) (name : Bytes) (entry : SessionEntry) → entry_among session name ≡ Some entry → IsIn entry session × (is_same_name entry.name name ≡ true)
found_in [] name entry e = cc
found_in (x ∷ session) name entry e = elim (is_true_or_false (is_same_name x.name name)) [
  | inl h ↦ here x session name entry h (rw h at e)
  | inr h ↦ let r = found_in session name entry (rw h at e) in (deeper x entry session r.0, r.1)
] where
  here : (x : SessionEntry) (session : List SessionEntry) (name : Bytes) (entry : SessionEntry) → is_same_name x.name name ≡ true → Some x ≡ Some entry → IsIn entry (x ∷ session) × (is_same_name entry.name name ≡ true)
  here x session name entry h e = let q : x ≡ entry = cc in subst (λ z. IsIn z (x ∷ session) × (is_same_name z.name name ≡ true)) q (([], session, refl), h)

-- what is left without a name was there, and has another name
left_in : (session : List SessionEntry) (name : Bytes) (entry : SessionEntry) → IsIn entry (without_entry session name) → IsIn entry session × (is_same_name entry.name name ≡ false)
left_in [] name entry h = absurd (nothing_in entry h)
left_in (x ∷ session) name entry h = elim (is_true_or_false (is_same_name x.name name)) [
  | inl k ↦ let r = left_in session name entry (rw k at h) in (deeper x entry session r.0, r.1)
  | inr k ↦ other x session name entry k (λ j. left_in session name entry j) (first_or_other x entry (without_entry session name) (rw k at h))
] where
  other : (x : SessionEntry) (session : List SessionEntry) (name : Bytes) (entry : SessionEntry) → is_same_name x.name name ≡ false
      → (IsIn entry (without_entry session name) → IsIn entry session × (is_same_name entry.name name ≡ false)) → (entry ≡ x) ⊎ IsIn entry (without_entry session name)
      → IsIn entry (x ∷ session) × (is_same_name entry.name name ≡ false)
  other x session name entry k r (inl q) = subst (λ z. IsIn z (x ∷ session) × (is_same_name z.name name ≡ false)) (sym q) (([], session, refl), k)
  other x session name entry k r (inr j) = let p = r j in (deeper x entry session p.0, p.1)

last_or_before : (session : List SessionEntry) (x entry : SessionEntry) → IsIn entry (session ++ x ∷ []) → IsIn entry session ⊎ (entry ≡ x)
last_or_before [] x entry h = elim (first_or_other x entry [] h) [ inl q ↦ inr q | inr j ↦ absurd (nothing_in entry j) ]
last_or_before (y ∷ session) x entry h = elim (first_or_other y entry (session ++ x ∷ []) h) [
  | inl q ↦ inl (subst (λ z. IsIn z (y ∷ session)) (sym q) ([], session, refl))
  | inr j ↦ elim (last_or_before session x entry j) [ inl k ↦ inl (deeper y entry session k) | inr q ↦ inr q ]
]

-- GROUPS

groups_there : (w : World) (id : ℕ) (gs : List Group) → maps.get w.groups id ≡ Some gs → groups_of w id ≡ gs
groups_there w id gs e = ap (λ o. unwrap_or o []) e

groups_at : (w : World) (id other : ℕ) (g : Group) → ((other ≡ id) × (groups_of (with_group w id g) other ≡ g ∷ [])) ⊎ (groups_of (with_group w id g) other ≡ groups_of w other)
groups_at w id other g = elim (is_true_or_false (eq_by_cmp nat_cmp other id)) [
  | inl h ↦ inl (maps.nat_cmp-IsAntisymmetric other id ((Equal-is (nat_cmp other id)).0 h), ap (λ o. unwrap_or o []) (put_here h))
  | inr h ↦ inr (ap (λ o. unwrap_or o []) (put_elsewhere h))
] where
  put_here : eq_by_cmp nat_cmp other id ≡ true → maps.get (maps.insert w.groups id (g ∷ [])) other ≡ Some (g ∷ [])
  put_here h = maps.get-insert nat_cmp_total w.groups id (g ∷ []) other ∙ rw h refl

  put_elsewhere : eq_by_cmp nat_cmp other id ≡ false → maps.get (maps.insert w.groups id (g ∷ [])) other ≡ maps.get w.groups other
  put_elsewhere h = maps.get-insert nat_cmp_total w.groups id (g ∷ []) other ∙ rw h refl

only_one : (g h : Group) (before after : List Group) → g ∷ [] ≡ before ++ h ∷ after → h ≡ g
only_one g h [] after e = cc
only_one g h (x ∷ []) after e = cc
only_one g h (x ∷ y ∷ before) after e = cc

-- Where the groups of each entry of another session are those of a whole world, or one group of the entry's name, that is whole.
record Stands (w new : World) (entry : SessionEntry) : Type 0 where
  was : IsIn entry w.session
  same : (groups_of new entry.id ≡ groups_of w entry.id) ⊎ ((g : Group) × (groups_of new entry.id ≡ g ∷ []) × (is_same_name g.name entry.name ≡ true))

-- an entry that is new, with one group of its name
record IsNew (new : World) (entry : SessionEntry) : Type 0 where
  group : Group
  alone : groups_of new entry.id ≡ group ∷ []
  named : is_same_name group.name entry.name ≡ true

whole_from : (w new : World) → IsWholeWorld w → ((entry : SessionEntry) → IsIn entry new.session → Stands w new entry ⊎ IsNew new entry) → IsWholeWorld new
whole_from w new whole h = record {
  named = λ entry i g may. elim (h entry i) [ inl s ↦ named_old entry s g may | inr n ↦ named_new entry n g may ];
  some = λ entry i none. elim (h entry i) [ inl s ↦ some_old entry s none | inr n ↦ (let q : n.group ∷ [] ≡ [] = sym n.alone ∙ none in cc) ];
  one = λ entry i m. elim (h entry i) [ inl s ↦ one_old entry s m | inr n ↦ (n.group, n.alone) ];
} where
  named_at : (name : Bytes) (k : Group) (gs : List Group) → is_same_name k.name name ≡ true → gs ≡ k ∷ [] → (g : Group) (before after : List Group) → gs ≡ before ++ g ∷ after → is_same_name g.name name ≡ true
  named_at name k gs s e g before after d = subst (λ (z : Group). is_same_name z.name name ≡ true) (sym (only_one k g before after (sym e ∙ d))) s

  named_new : (entry : SessionEntry) → IsNew new entry → (g : Group) → MayStandFor new entry.id g → is_same_name g.name entry.name ≡ true
  named_new entry n g may = named_at entry.name n.group (groups_of new entry.id) n.named n.alone g may.0 may.1 may.2

  named_old : (entry : SessionEntry) → Stands w new entry → (g : Group) → MayStandFor new entry.id g → is_same_name g.name entry.name ≡ true
  named_old entry s g may = elim s.same [
    | inl e ↦ whole.named entry s.was g (may.0, may.1, sym e ∙ may.2)
    | inr p ↦ named_at entry.name p.0 (groups_of new entry.id) p.2 p.1 g may.0 may.1 may.2
  ]

  some_old : (entry : SessionEntry) → Stands w new entry → groups_of new entry.id ≡ [] → ⊥
  some_old entry s none = elim s.same [ inl e ↦ whole.some entry s.was (sym e ∙ none) | inr p ↦ (let q : p.0 ∷ [] ≡ [] = sym p.1 ∙ none in cc) ]

  one_old : (entry : SessionEntry) → Stands w new entry → entry.state ≡ Mounted → (g : Group) × (groups_of new entry.id ≡ g ∷ [])
  one_old entry s m = elim s.same [ inl e ↦ (let o = whole.one entry s.was m in (o.0, e ∙ o.1)) | inr p ↦ (p.0, p.1) ]

-- NAMES OF GROUPS

changed_name : (g : Group) (edit : e.TreeEdit) → (e.changed_group g edit).name ≡ g.name
changed_name g edit = refl

edited_name : (g h : Group) (edit : e.TreeEdit) → e.edited_group g edit ≡ Ok h → h.name ≡ g.name
edited_name g h edit k = ap (λ (x : Group). x.name) (sym (ok_is (e.first_cause (e.group_edit_causes g edit)) (e.changed_group g edit) h k).1) ∙ changed_name g edit

templates_name : (g h : Group) (edit : t.TemplateEdit) → t.group_after_template_edit g edit ≡ Ok h → h.name ≡ g.name
templates_name g h edit k = ap (λ (x : Group). x.name) (sym (ok_is (e.first_cause (t.group_template_causes g edit)) (t.group_with_template_edit g edit) h k).1)

attributes_name : (g h : Group) (name : Bytes) (o : Option Attributes) → t.with_attributes g name o ≡ Ok h → h.name ≡ g.name
attributes_name g h name None k = cc
attributes_name g h name (Some a) k = let q : record g { attributes = a } ≡ h = cc in ap (λ (x : Group). x.name) (sym q)

dropped_name : (g h : Group) (o : Option ℕ) → e.file_dropped g o ≡ Ok h → h.name ≡ g.name
dropped_name g h None k = cc
dropped_name g h (Some n) k = let q : e.group_without_file g n ≡ h = cc in ap (λ (x : Group). x.name) (sym q)

removed_name : (g h : Group) (path : Path) (o : Option ℕ) → e.removed g path o ≡ Ok h → h.name ≡ g.name
removed_name g h path None k = edited_name g h (e.DropDir path) k
removed_name g h path (Some n) k = let q : e.group_without_file g n ≡ h = cc in ap (λ (x : Group). x.name) (sym q)

cells_name : (g : Group) (o : Option ℕ) (file : Option File) (change : List Cell → List Cell) → (f.with_cells_of g o file change).name ≡ g.name
cells_name g None file change = refl
cells_name g (Some n) None change = refl
cells_name g (Some n) (Some x) change = refl

written_name : (g h : Group) (path : Path) (at : ℕ) (cells : List Cell) → f.group_after_write g path at cells ≡ Ok h → h.name ≡ g.name
written_name g h path at cells k =
    ap (λ (x : Group). x.name) (sym (ok_is (e.first_cause (f.span_causes g path at (length cells))) (f.with_cells_at g path (λ old. f.with_cells old at cells)) h k).1)
    ∙ cells_name g (e.group_file_at g path) (f.named_file g path) (λ old. f.with_cells old at cells)

resized_name : (g h : Group) (path : Path) (size : ℕ) → f.resized g path size ≡ Ok h → h.name ≡ g.name
resized_name g h path size k =
    ap (λ (x : Group). x.name) (sym (ok_is (e.first_cause (f.resize_causes g path size)) (f.with_cells_at g path (f.resized_cells size)) h k).1)
    ∙ cells_name g (e.group_file_at g path) (f.named_file g path) (f.resized_cells size)

dir_name : (g : Group) (path : Path) → (f.group_with_dir g path).name ≡ g.name
dir_name g path = elim (is_true_or_false (e.group_has_path g path)) [ inl h ↦ rw h refl | inr h ↦ rw h refl ]

made_name : (g : Group) (name : f.NewName) (n : ℕ) (file : File) → (f.group_with_file g name n file).name ≡ g.name
made_name g name n file = dir_name (f.group_with_dir g (name.db ∷ [])) (name.db ∷ name.type_name ∷ []) ∙ dir_name g (name.db ∷ [])

-- STEPS

same_whole : (w new : World) → IsWholeWorld w → new ≡ w → IsWholeWorld new
same_whole w new whole q = subst IsWholeWorld (sym q) whole

changes_whole : (w : World) (name : Bytes) (step : ℕ → Group → Group → Type 0) (new : World) → IsWholeWorld w → ((id : ℕ) (old changed : Group) → step id old changed → changed.name ≡ old.name)
    → Changes w name step new → IsWholeWorld new
changes_whole w name step new whole keeps c =
    subst IsWholeWorld (sym c.is) (whole_from w (with_group w c.id c.changed) whole (λ entry i. inl (record { was = i; same = stays entry i (groups_at w c.id entry.id c.changed) })))
  where
    stays : (entry : SessionEntry) → IsIn entry w.session → ((entry.id ≡ c.id) × (groups_of (with_group w c.id c.changed) entry.id ≡ c.changed ∷ [])) ⊎ (groups_of (with_group w c.id c.changed) entry.id ≡ groups_of w entry.id)
        → (groups_of (with_group w c.id c.changed) entry.id ≡ groups_of w entry.id) ⊎ ((g : Group) × (groups_of (with_group w c.id c.changed) entry.id ≡ g ∷ []) × (is_same_name g.name entry.name ≡ true))
    stays entry i (inr q) = inl q
    stays entry i (inl (q, alone)) =
        let old : groups_of w entry.id ≡ c.old ∷ [] = ap (groups_of w) q ∙ groups_there w c.id (c.old ∷ []) c.has.only in
        let named : is_same_name c.old.name entry.name ≡ true = whole.named entry i c.old ([], [], old) in
        inr (c.changed, alone, subst (λ z. is_same_name z entry.name ≡ true) (sym (keeps c.id c.old c.changed c.step_is)) named)

changes_at_whole : (w : World) (path : Bytes) (step : ℕ → Path → Group → Group → Type 0) (new : World) → IsWholeWorld w → ((id : ℕ) (p : Path) (old changed : Group) → step id p old changed → changed.name ≡ old.name)
    → ChangesAt w path step new → IsWholeWorld new
changes_at_whole w path step new whole keeps c = changes_whole w c.name (λ id old changed. step id c.inside old changed) new whole (λ id old changed h. keeps id c.inside old changed h) c.changes

in_all : (P : SessionEntry → Type 0) (session : List SessionEntry) → All P session → (entry : SessionEntry) → IsIn entry session → P entry
in_all P session all entry (before, after, e) =
    let a : All P (before ++ entry ∷ after) = subst (All P) e all in
    let size = length-append before (entry ∷ after) in
    subst P (get_or-append_seam before entry after entry) (a (length before) entry (omega arith))

groups_here : (w : World) (id : ℕ) (g : Group) → groups_of (with_group w id g) id ≡ g ∷ []
groups_here w id g = ap (λ o. unwrap_or o []) put_here where
  put_here : maps.get (maps.insert w.groups id (g ∷ [])) id ≡ Some (g ∷ [])
  put_here = maps.get-insert nat_cmp_total w.groups id (g ∷ []) id ∙ rw ((eq_by_cmp_equiv nat_cmp_total).refl id) refl

creates_whole : (below : Below) (w : World) (made : Group → Type 0) (new : World) → ForSome below.found.made (λ id. id < last_id) → IsWholeWorld w → Creates below w made new → IsWholeWorld new
creates_whole below w made new short whole c =
    subst IsWholeWorld (sym c.is) (whole_from w (record (with_group w c.id c.g) { session = w.session ++ mounted_entry c.g.name c.id ∷ [] }) whole (λ entry i. stands entry (last_or_before w.session (mounted_entry c.g.name c.id) entry i)))
  where
    stands : (entry : SessionEntry) → IsIn entry w.session ⊎ (entry ≡ mounted_entry c.g.name c.id) → Stands w (record (with_group w c.id c.g) { session = w.session ++ mounted_entry c.g.name c.id ∷ [] }) entry ⊎ IsNew (record (with_group w c.id c.g) { session = w.session ++ mounted_entry c.g.name c.id ∷ [] }) entry
    stands entry (inl i) = inl (record {
      was = i;
      same = elim (groups_at w c.id entry.id c.g) [
        | inr q ↦ inl q
        | inl p ↦ absurd (in_all (λ (x : SessionEntry). x.id ≢ c.id) w.session (c.is_new.not_in_session (short c.id c.is_new.given)) entry i p.0)
      ];
    })
    stands entry (inr q) = inr (subst (λ z. IsNew (record (with_group w c.id c.g) { session = w.session ++ mounted_entry c.g.name c.id ∷ [] }) z) (sym q)
        (record { group = c.g; alone = groups_here w c.id c.g; named = same_self c.g.name }))

mounts_whole : (w : World) (name : Bytes) (new : World) → IsWholeWorld w → MountsGroup w name new → IsWholeWorld new
mounts_whole w name new whole c =
    subst IsWholeWorld (sym c.is) (whole_from w (record (with_group w c.id c.g) { session = without_entry w.session name ++ mounted_entry c.g.name c.id ∷ [] }) whole
    (λ entry i. stands entry (last_or_before (without_entry w.session name) (mounted_entry c.g.name c.id) entry i)))
  where
    stays : (entry : SessionEntry) → IsIn entry w.session → ((entry.id ≡ c.id) × (groups_of (with_group w c.id c.g) entry.id ≡ c.g ∷ [])) ⊎ (groups_of (with_group w c.id c.g) entry.id ≡ groups_of w entry.id)
        → (groups_of (with_group w c.id c.g) entry.id ≡ groups_of w entry.id) ⊎ ((g : Group) × (groups_of (with_group w c.id c.g) entry.id ≡ g ∷ []) × (is_same_name g.name entry.name ≡ true))
    stays entry i (inr q) = inl q
    stays entry i (inl (q, alone)) = inr (c.g, alone, whole.named entry i c.g (c.may.0, c.may.1, ap (groups_of w) q ∙ c.may.2))

    stands : (entry : SessionEntry) → IsIn entry (without_entry w.session name) ⊎ (entry ≡ mounted_entry c.g.name c.id)
        → Stands w (record (with_group w c.id c.g) { session = without_entry w.session name ++ mounted_entry c.g.name c.id ∷ [] }) entry ⊎ IsNew (record (with_group w c.id c.g) { session = without_entry w.session name ++ mounted_entry c.g.name c.id ∷ [] }) entry
    stands entry (inl i) = let l = left_in w.session name entry i in inl (record { was = l.0; same = stays entry l.0 (groups_at w c.id entry.id c.g) })
    stands entry (inr q) = inr (subst (λ z. IsNew (record (with_group w c.id c.g) { session = without_entry w.session name ++ mounted_entry c.g.name c.id ∷ [] }) z) (sym q)
        (record { group = c.g; alone = groups_here w c.id c.g; named = same_self c.g.name }))

dismounts_whole : (w : World) (name : Bytes) → IsWholeWorld w → IsWholeWorld (record w { session = without_entry w.session name })
dismounts_whole w name whole = whole_from w (record w { session = without_entry w.session name }) whole (λ entry i. inl (record { was = (left_in w.session name entry i).0; same = inl refl }))

drops_whole : (w : World) (name : Bytes) (new : World) → IsWholeWorld w → Drops w name new → IsWholeWorld new
drops_whole w name new whole c =
    subst IsWholeWorld (sym c.is) (whole_from w (record w { groups = maps.remove w.groups c.id; session = without_entry w.session name }) whole
    (λ entry i. let l = left_in w.session name entry i in inl (record { was = l.0; same = inl (stays entry l.0 l.1 (is_true_or_false (eq_by_cmp nat_cmp entry.id c.id))) })))
  where
    gone : (entry : SessionEntry) → IsIn entry w.session → is_same_name entry.name name ≡ false → entry.id ≡ c.id → ⊥
    gone entry i other q =
        let old : groups_of w entry.id ≡ c.old ∷ [] = ap (groups_of w) q ∙ groups_there w c.id (c.old ∷ []) c.has.only in
        let one : is_same_name c.old.name entry.name ≡ true = whole.named entry i c.old ([], [], old) in
        let found = found_in w.session name c.has.entry c.has.named in
        let here : groups_of w c.has.entry.id ≡ c.old ∷ [] = ap (groups_of w) c.has.is ∙ groups_there w c.id (c.old ∷ []) c.has.only in
        let two : is_same_name c.old.name c.has.entry.name ≡ true = whole.named c.has.entry found.0 c.old ([], [], here) in
        let t : is_same_name entry.name name ≡ true = same_joined entry.name c.old.name name (same_turned c.old.name entry.name one) (same_joined c.old.name c.has.entry.name name two found.1) in
        cc

    stays : (entry : SessionEntry) → IsIn entry w.session → is_same_name entry.name name ≡ false → (eq_by_cmp nat_cmp entry.id c.id ≡ true) ⊎ (eq_by_cmp nat_cmp entry.id c.id ≡ false)
        → groups_of (record w { groups = maps.remove w.groups c.id; session = without_entry w.session name }) entry.id ≡ groups_of w entry.id
    stays entry i other (inl h) = absurd (gone entry i other (maps.nat_cmp-IsAntisymmetric entry.id c.id ((Equal-is (nat_cmp entry.id c.id)).0 h)))
    stays entry i other (inr h) = ap (λ o. unwrap_or o []) (left entry h) where
      left : (entry : SessionEntry) → eq_by_cmp nat_cmp entry.id c.id ≡ false → maps.get (maps.remove w.groups c.id) entry.id ≡ maps.get w.groups entry.id
      left entry h = maps.get-remove nat_cmp_total w.groups c.id entry.id ∙ rw h refl

-- COMMANDS

edits_name : (o : Option e.TreeEdit) (old changed : Group) → EditsTree o old changed → changed.name ≡ old.name
edits_name None old changed d = absurd d
edits_name (Some edit) old changed d = edited_name old changed edit d

drops_file_name : (o : Option Path) (old changed : Group) → DropsFile o old changed → changed.name ≡ old.name
drops_file_name None old changed d = absurd d
drops_file_name (Some path) old changed d = dropped_name old changed (e.group_file_at old path) d

adds_alias_name : (o : Option (Bytes × Path)) (alias : Path) (old changed : Group) → AddsAlias o alias old changed → changed.name ≡ old.name
adds_alias_name None alias old changed d = absurd d
adds_alias_name (Some (name, path)) alias old changed d = edited_name old changed (e.AddAliasEntry alias path) d.1

names_whole : (w : World) (name : Bytes) (o : Option e.TreeEdit) (new : World) → IsWholeWorld w → Changes w name (λ id old changed. EditsTree o old changed) new → IsWholeWorld new
names_whole w name o new whole d = changes_whole w name _ new whole (λ id old changed h. edits_name o old changed h) d

clause_whole : (below : Below) (w : World) (name : Bytes) (clause : s.Clause) (lines : List Bytes) (new : World) → IsWholeWorld w → DoneClause below w name clause lines new → IsWholeWorld new
clause_whole below w name (s.AddDirectory path) lines new whole d = names_whole w name _ new whole d.0
clause_whole below w name (s.DropDirectory path) lines new whole d = names_whole w name _ new whole d.0
clause_whole below w name (s.RenameDirectory old path) lines new whole d = names_whole w name _ new whole d.0
clause_whole below w name (s.AddAlias alias path) lines new whole d = names_whole w name _ new whole d.0
clause_whole below w name (s.RenameAlias old path) lines new whole d = names_whole w name _ new whole d.0
clause_whole below w name (s.DropAlias path) lines new whole d = names_whole w name _ new whole d.0
clause_whole below w name (s.DropFile path) lines new whole d = changes_whole w name _ new whole (λ id old changed h. drops_file_name _ old changed h) d.0
clause_whole below w name (s.AddTemplate template words) lines new whole d = changes_whole w name _ new whole (λ id old changed h. templates_name old changed (t.added_by template words) h) d.0
clause_whole below w name (s.ModifyTemplate template words) lines new whole d = changes_whole w name _ new whole (λ id old changed h. templates_name old changed (t.modified_by template words) h) d.0
clause_whole below w name (s.DropTemplate template) lines new whole d = changes_whole w name _ new whole (λ id old changed h. templates_name old changed (t.dropped_by template) h) d.0
clause_whole below w name (s.SetAttribute attribute) lines new whole d =
    changes_whole w name _ new whole (λ id old changed h. attributes_name old changed attribute.name (t.with_attribute old.attributes attribute) h) d.0
clause_whole below w name (s.Mount force) lines new whole d = mounts_whole w name new whole d.0
clause_whole below w name (s.Dismount force) lines new whole d = same_whole (record w { session = without_entry w.session name }) new (dismounts_whole w name whole) d.1
clause_whole below w name s.Check lines new whole d = same_whole w new whole d.is
clause_whole below w name other lines new whole d = same_whole w new whole d.is

statement_whole : (below : Below) (w : World) (statement : s.Statement) (lines : List Bytes) (new : World) → ForSome below.found.made (λ id. id < last_id) → IsWholeWorld w → DoneStatement below w statement lines new → IsWholeWorld new
statement_whole below w (s.CreateDisk path size) lines new short whole d = same_whole w new whole d.0
statement_whole below w (s.CreateGroup name kind groups attributes) lines new short whole d = creates_whole below w _ new short whole d.0
statement_whole below w (s.DropGroup name contents) lines new short whole d = drops_whole w name new whole d.0
statement_whole below w (s.Alter name clause) lines new short whole d = clause_whole below w name clause lines new whole d

goes_whole : (w : World) (o : Option (List Bytes)) (new : World) → IsWholeWorld w → GoesTo w o new → IsWholeWorld new
goes_whole w None new whole d = absurd d
goes_whole w (Some []) new whole d = same_whole (record w { place = [] }) new (record { named = whole.named; some = whole.some; one = whole.one }) d
goes_whole w (Some (name ∷ path)) new whole d = same_whole (record w { place = e.spelt d.1 path }) new (record { named = whole.named; some = whole.some; one = whole.one }) d.4

makes_whole : (w : World) (path : Bytes) (failgroups : ℕ → ℕ) (cells : List Cell) (template : Option Bytes) (lines : List Bytes) (new : World) → IsWholeWorld w
    → ChangesAt w path (λ id. MakesFile (failgroups id) cells template lines) new → IsWholeWorld new
makes_whole w path failgroups cells template lines new whole d =
    changes_at_whole w path _ new whole (λ id p old changed m. ap (λ (x : Group). x.name) m.is ∙ made_name old m.name (f.next_number old) (f.new_file old m.name m.by (failgroups id) cells)) d

copies_whole : (below : Below) (w : World) (source target : Bytes) (b : Bool) (lines : List Bytes) (new : World) → IsWholeWorld w → Copies below w source target b lines new → IsWholeWorld new
copies_whole below w source target true lines new whole d = same_whole (record w { host = new.host }) new (record { named = whole.named; some = whole.some; one = whole.one }) d.changes.is
copies_whole below w source target false lines new whole d = makes_whole w target (λ id. (below.group id).failgroups) d.cells None lines new whole d.made

verb_whole : (below : Below) (w : World) (verb : c.Verb) (lines : List Bytes) (new : World) → IsWholeWorld w → DoneVerb below w verb lines new → IsWholeWorld new
verb_whole below w (c.DbCreate path size template) lines new whole d = makes_whole w path (λ id. (below.group id).failgroups) _ template lines new whole d
verb_whole below w (c.DbWrite path at bytes) lines new whole d = changes_at_whole w path _ new whole (λ id p old changed h. written_name old changed p at _ h) d.0
verb_whole below w (c.DbFill path at size byte) lines new whole d = changes_at_whole w path _ new whole (λ id p old changed h. written_name old changed p at _ h) d.0
verb_whole below w (c.DbRead path at size) lines new whole d = same_whole w new whole d.shows.is
verb_whole below w (c.DbResize path size) lines new whole d = changes_at_whole w path _ new whole (λ id p old changed h. resized_name old changed p size h) d.0
verb_whole below w (c.Ls long path) lines new whole d = same_whole w new whole d.0
verb_whole below w (c.Cd path) lines new whole d = goes_whole w (resolved w.place path) new whole d.0
verb_whole below w c.Pwd lines new whole d = same_whole w new whole d.0
verb_whole below w (c.MakeDirectory path) lines new whole d = changes_at_whole w path _ new whole (λ id p old changed h. edited_name old changed (e.MakeDir p) h) d.0
verb_whole below w (c.Remove path) lines new whole d = changes_at_whole w path _ new whole (λ id p old changed h. removed_name old changed p (e.group_file_at old p) h) d.0
verb_whole below w (c.CopyFile source target) lines new whole d = copies_whole below w source target (is_host_path target) lines new whole d
verb_whole below w (c.Usage path) lines new whole d = same_whole w new whole d.0
verb_whole below w (c.Find path pattern) lines new whole d = same_whole w new whole d.0
verb_whole below w (c.MakeAlias path alias) lines new whole d = changes_at_whole w alias _ new whole (λ id p old changed h. adds_alias_name (target_from w.place path) p old changed h) d.0
verb_whole below w (c.RemoveAlias path) lines new whole d = changes_at_whole w path _ new whole (λ id p old changed h. edited_name old changed (e.DropAliasEntry p) h) d.0
verb_whole below w (c.ListGroups name) lines new whole d = same_whole w new whole d.0
verb_whole below w (c.ListDisks name) lines new whole d = same_whole w new whole d.is
verb_whole below w (c.ListTemplates name) lines new whole d = same_whole w new whole d.is
verb_whole below w (c.ListAttributes name) lines new whole d = same_whole w new whole d.is
verb_whole below w (c.OfflineDisk name disk) lines new whole d = same_whole w new whole d.is
verb_whole below w (c.OnlineDisk name disk) lines new whole d = same_whole w new whole d.is
verb_whole below w (c.SetPower name power) lines new whole d = same_whole w new whole d.is

pub done_keeps_whole : (below : Below) (w new : World) (command : c.Command) (lines : List Bytes) → ForSome below.found.made (λ id. id < last_id) → IsWholeWorld w → Step below w command (Done lines) new → IsWholeWorld new
done_keeps_whole below w new (c.Said statement) lines short whole d = statement_whole below w statement lines new short whole d
done_keeps_whole below w new (c.Asked verb) lines short whole d = verb_whole below w verb lines new whole d
done_keeps_whole below w new (c.Unreadable at) lines short whole d = absurd d
