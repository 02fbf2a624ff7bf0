-- Mounted groups stay alone under their ids.
use Rattle.std.proofs.Common.{◌≡◌, ◌≢◌, ◌⊎◌, ◌&&◌, ◌||◌, ◌==◌, inl, inr, ⊎_elim, ℕ, suc, Bool, true, false, cond, List, [], ◌∷◌, ◌++◌, Some, refl, sym, ◌∙◌, ap, subst, arith}
use Rattle.std.specs.Prelude.{All}
use Rattle.std.specs.List.{list_any}
use Rattle.std.specs.FinMap as maps
use Rattle.std.specs.Cmp.{unsigned_tied}
use Rattle.std.proofs.lemmas.Bool.{cases_Bool, cases_eq, cond-false, cond-true, eq-eqb, false≢true, ne_eqb}
use Rattle.std.proofs.lemmas.Cmp.{nat_cmp_total}
use Rattle.std.proofs.lemmas.Option.{same_Some}
use Rattle.asm_group.specs.Group.{Group}
use Rattle.asm_group.specs.Names.{Bytes, is_same_name}
use Rattle.asm_formats.specs.Among.{IsAmong}
use Rattle.asm_world.specs.World.{SessionEntry, SessionState, World, Mounted, DismountedBy, dismounted_if_named, entry_among, is_mounted, mounted_entry, with_dismounted, with_group, without_entry}
use Rattle.world_steps.specs.Told.{AreIdsApart, GroupsStayAlone}

-- ---- the list of an id

got_same : (w : World) (id : ℕ) (list : List Group) → maps.get (maps.insert w.groups id list) id ≡ Some list
got_same w id list = maps.get-insert nat_cmp_total w.groups id list id ∙ ap (λ (b : Bool). cond b (Some list) (maps.get w.groups id)) (unsigned_tied id id ∙ eq-eqb id id refl)

got_other : (w : World) (id other : ℕ) (list : List Group) → other ≢ id → maps.get (maps.insert w.groups id list) other ≡ maps.get w.groups other
got_other w id other list differ = maps.get-insert nat_cmp_total w.groups id list other ∙ ap (λ (b : Bool). cond b (Some list) (maps.get w.groups other)) (unsigned_tied other id ∙ ne_eqb other id differ)

abbrev HasOne : World → ℕ → Type 0
HasOne w id = (g : Group) × (maps.get w.groups id ≡ Some (g ∷ []))

one_after : (w : World) (id other : ℕ) (h : Group) → HasOne w other → HasOne (with_group w id h) other
one_after w id other h one = ⊎_elim
    (λ (same : other ≡ id). (h, ap (λ (i : ℕ). maps.get (maps.insert w.groups id (h ∷ [])) i) same ∙ got_same w id (h ∷ [])))
    (λ differ. (one.0, got_other w id other (h ∷ []) differ ∙ one.1))
    (cases_eq other id)

-- ---- entries

pub among_either : (xs ys : List SessionEntry) (e : SessionEntry) → IsAmong (xs ++ ys) e → IsAmong xs e ⊎ IsAmong ys e
among_either [] ys e is = inr is
among_either (x ∷ xs) ys e is = ⊎_elim (λ here. inl (inl here)) (λ later. ⊎_elim (λ front. inl (inr front)) (λ back. inr back) (among_either xs ys e later)) is

-- an entry whose id no mounted one has comes last
apart_last : (xs : List SessionEntry) (x : SessionEntry) → AreIdsApart xs → ((e : SessionEntry) → IsAmong xs e → is_mounted e ≡ true → e.id ≢ x.id) → AreIdsApart (xs ++ x ∷ [])
apart_last [] x all new = (λ f none. absurd none, tt)
apart_last (y ∷ xs) x all new = (
  λ f is mounted_y mounted_f. ⊎_elim
      (λ front. all.0 f front mounted_y mounted_f)
      (λ last. ⊎_elim (λ (same : f ≡ x). subst (λ (e : SessionEntry). y.id ≢ e.id) (sym same) (new y (inl refl) mounted_y)) (λ none. absurd none) last)
      (among_either xs (x ∷ []) f is),
  apart_last xs x all.1 (λ e is. new e (inr is)),
)

pub apart_joined : (xs : List SessionEntry) (x : SessionEntry) → AreIdsApart xs → ((e : SessionEntry) → IsAmong xs e → e.id ≢ x.id) → AreIdsApart (xs ++ x ∷ [])
apart_joined xs x all new = apart_last xs x all (λ e is mounted. new e is)

-- no mounted entry has an id that isn't mounted
none_mounted : (es : List SessionEntry) (id : ℕ) → list_any (λ (e : SessionEntry). is_mounted e && (e.id == id)) es ≡ false → (e : SessionEntry) → IsAmong es e → is_mounted e ≡ true → e.id ≢ id
none_mounted [] id none e is mounted = absurd is
none_mounted (x ∷ es) id none e is mounted = ⊎_elim
    (λ (here : e ≡ x). λ same.
    let at : (is_mounted x && (x.id == id)) ≡ true = ap (λ (y : SessionEntry). is_mounted y && (y.id == id)) (sym here) ∙ rw mounted (eq-eqb e.id id same) in
    false≢true (sym (neither (is_mounted x && (x.id == id)) (list_any (λ (e : SessionEntry). is_mounted e && (e.id == id)) es) none).0 ∙ at))
    (λ later. none_mounted es id (neither (is_mounted x && (x.id == id)) (list_any (λ (e : SessionEntry). is_mounted e && (e.id == id)) es) none).1 e later mounted)
    is
  where
    neither : (a b : Bool) → (a || b) ≡ false → (a ≡ false) × (b ≡ false)
    neither true b isnt = absurd (false≢true (sym isnt))
    neither false b isnt = (refl, isnt)

-- entries that are mounted under one id are one
pub one_entry : (es : List SessionEntry) (a b : SessionEntry) → AreIdsApart es → IsAmong es a → IsAmong es b → is_mounted a ≡ true → is_mounted b ≡ true → a.id ≡ b.id → a ≡ b
one_entry [] a b apart at_a at_b mounted_a mounted_b same = absurd at_a
one_entry (x ∷ es) a b apart at_a at_b mounted_a mounted_b same = ⊎_elim
    (λ (here : a ≡ x). ⊎_elim
    (λ (there : b ≡ x). here ∙ sym there)
    (λ later. absurd (apart.0 b later (ap is_mounted (sym here) ∙ mounted_a) mounted_b (ap (λ (e : SessionEntry). e.id) (sym here) ∙ same)))
    at_b)
    (λ first. ⊎_elim
    (λ (there : b ≡ x). absurd (apart.0 a first (ap is_mounted (sym there) ∙ mounted_b) mounted_a (ap (λ (e : SessionEntry). e.id) (sym there) ∙ sym same)))
    (λ later. one_entry es a b apart.1 first later mounted_a mounted_b same)
    at_b)
    at_a

pub all_among : (es : List SessionEntry) (P : SessionEntry → Type 0) → All P es → (e : SessionEntry) → IsAmong es e → P e
all_among [] P all e is = absurd is
all_among (x ∷ es) P all e is = ⊎_elim
    (λ (here : e ≡ x). subst P (sym here) (all 0 x (omega arith)))
    (λ later. all_among es P (λ k d below. all (suc k) d (omega (arith, below))) e later)
    is

pub named_among : (es : List SessionEntry) (name : Bytes) (entry : SessionEntry) → entry_among es name ≡ Some entry → IsAmong es entry × (is_same_name entry.name name ≡ true)
named_among [] name entry is = absurd cc
named_among (e ∷ es) name entry is = ⊎_elim
    (λ (yes : is_same_name e.name name ≡ true).
    let same : e ≡ entry = same_Some e entry (sym (cond-true (is_same_name e.name name) (Some e) (entry_among es name) yes) ∙ is) in
    (inl (sym same), ap (λ (x : SessionEntry). is_same_name x.name name) (sym same) ∙ yes))
    (λ no. let later = named_among es name entry (sym (cond-false (is_same_name e.name name) (Some e) (entry_among es name) no) ∙ is) in (inr later.0, later.1))
    (cases_Bool (is_same_name e.name name))

-- ---- without entries

pub fewer_among : (es : List SessionEntry) (name : Bytes) (e : SessionEntry) → IsAmong (without_entry es name) e → IsAmong es e
fewer_among [] name e is = absurd is
fewer_among (x ∷ es) name e is = ⊎_elim
    (λ (yes : is_same_name x.name name ≡ true). inr (fewer_among es name e (subst (λ (l : List SessionEntry). IsAmong l e) (cond-true (is_same_name x.name name) (without_entry es name) (x ∷ without_entry es name) yes) is)))
    (λ no. ⊎_elim (λ here. inl here) (λ later. inr (fewer_among es name e later))
    (subst (λ (l : List SessionEntry). IsAmong l e) (cond-false (is_same_name x.name name) (without_entry es name) (x ∷ without_entry es name) no) is))
    (cases_Bool (is_same_name x.name name))

pub fewer_apart : (es : List SessionEntry) (name : Bytes) → AreIdsApart es → AreIdsApart (without_entry es name)
fewer_apart [] name apart = tt
fewer_apart (x ∷ es) name apart = ⊎_elim
    (λ (yes : is_same_name x.name name ≡ true). subst (λ (l : List SessionEntry). AreIdsApart l) (sym (cond-true (is_same_name x.name name) (without_entry es name) (x ∷ without_entry es name) yes)) (fewer_apart es name apart.1))
    (λ no. subst (λ (l : List SessionEntry). AreIdsApart l) (sym (cond-false (is_same_name x.name name) (without_entry es name) (x ∷ without_entry es name) no))
    (λ f is. apart.0 f (fewer_among es name f is), fewer_apart es name apart.1))
    (cases_Bool (is_same_name x.name name))

-- ---- dismounted entries

-- a mounted entry that is left was there, under another name
module _ (name disk : Bytes) where
  still_mounted : (x e : SessionEntry) → e ≡ dismounted_if_named name disk x → is_mounted e ≡ true → (e ≡ x) × (is_same_name x.name name ≡ false)
  still_mounted x e is mounted = ⊎_elim
      (λ (yes : is_same_name x.name name ≡ true).
      let out : e ≡ record x { state = DismountedBy disk } = is ∙ cond-true (is_same_name x.name name) (record x { state = DismountedBy disk }) x yes in
      absurd (false≢true (ap is_mounted (sym out) ∙ mounted)))
      (λ no. (is ∙ cond-false (is_same_name x.name name) (record x { state = DismountedBy disk }) x no, no))
      (cases_Bool (is_same_name x.name name))

  was_among : (es : List SessionEntry) (e : SessionEntry) → IsAmong (with_dismounted es name disk) e → is_mounted e ≡ true → IsAmong es e × (is_same_name e.name name ≡ false)
  was_among [] e is mounted = absurd is
  was_among (x ∷ es) e is mounted = ⊎_elim
      (λ here. let s = still_mounted x e here mounted in (inl s.0, ap (λ (y : SessionEntry). is_same_name y.name name) s.0 ∙ s.1))
      (λ later. let s = was_among es e later mounted in (inr s.0, s.1))
      is

  pub torn_apart : (es : List SessionEntry) → AreIdsApart es → AreIdsApart (with_dismounted es name disk)
  torn_apart [] apart = tt
  torn_apart (x ∷ es) apart = (
    λ f is mounted_x mounted_f.
        let s = still_mounted x (dismounted_if_named name disk x) refl mounted_x in
        let at = was_among es f is mounted_f in
        subst (λ (y : SessionEntry). y.id ≢ f.id) (sym s.0) (apart.0 f at.0 (ap is_mounted (sym s.0) ∙ mounted_x) mounted_f),
    torn_apart es apart.1,
  )

mounted_state : (e : SessionEntry) → e.state ≡ Mounted → is_mounted e ≡ true
mounted_state e is = ap (λ (s : SessionState). is_mounted (record e { state = s })) is

-- ---- all of them

pub groups_stay_alone : GroupsStayAlone
groups_stay_alone = record {
  begins = λ w none. record {
    one = λ e is. absurd (subst (λ (l : List SessionEntry). IsAmong l e) none is);
    apart = subst (λ (l : List SessionEntry). AreIdsApart l) (sym none) tt;
  };
  created = λ below w id g is_new short has.
      let fresh = all_among w.session (λ (e : SessionEntry). e.id ≢ id) (is_new.not_in_session short) in
      record {
        one = λ e is mounted. ⊎_elim
            (λ front. one_after w id e.id g (has.one e front mounted))
            (λ last. ⊎_elim (λ (same : e ≡ mounted_entry g.name id). (g, ap (λ (x : SessionEntry). maps.get (maps.insert w.groups id (g ∷ [])) x.id) same ∙ got_same w id (g ∷ []))) (λ none. absurd none) last)
            (among_either w.session (mounted_entry g.name id ∷ []) e is);
        apart = apart_joined w.session (mounted_entry g.name id) has.apart fresh;
      };
  mounted = λ w name id g out has. record {
    one = λ e is mounted. ⊎_elim
        (λ front. one_after w id e.id g (has.one e (fewer_among w.session name e front) mounted))
        (λ last. ⊎_elim (λ (same : e ≡ mounted_entry g.name id). (g, ap (λ (x : SessionEntry). maps.get (maps.insert w.groups id (g ∷ [])) x.id) same ∙ got_same w id (g ∷ []))) (λ none. absurd none) last)
        (among_either (without_entry w.session name) (mounted_entry g.name id ∷ []) e is);
    apart = apart_last (without_entry w.session name) (mounted_entry g.name id) (fewer_apart w.session name has.apart)
        (λ e is mounted. none_mounted w.session id out e (fewer_among w.session name e is) mounted);
  };
  changed = λ w id g has. record { one = λ e is mounted. one_after w id e.id g (has.one e is mounted); apart = has.apart };
  torn = λ w id name g h disk at has.
      let named = named_among w.session name at.entry at.named in
      record {
        one = λ e is mounted.
            let was = was_among name disk w.session e is mounted in
            let one = has.one e was.0 mounted in
            let differ : e.id ≢ id = λ same.
            let equal = one_entry w.session e at.entry has.apart was.0 named.0 mounted (mounted_state at.entry at.mounted) (same ∙ sym at.is) in
            false≢true (sym was.1 ∙ ap (λ (x : SessionEntry). is_same_name x.name name) equal ∙ named.1) in
            (one.0, got_other w id e.id (g ∷ h ∷ []) differ ∙ one.1);
        apart = torn_apart name disk w.session has.apart;
      };
  left = λ w name has. record { one = λ e is mounted. has.one e (fewer_among w.session name e is) mounted; apart = fewer_apart w.session name has.apart };
}
