-- The world after a mount, and what the session knows of it.
use Rattle.std.proofs.Common.{◌≡◌, ◌≢◌, ◌⊎◌, ⊎_elim, inl, inr, ℕ, ◌==◌, ◌&&◌, Bool, true, false, List, [], ◌∷◌, ◌++◌, length, refl, sym, ◌∙◌, ap, subst, arith, if◌then◌else◌}
use Rattle.std.proofs.lemmas.List.{length-append}
use Rattle.std.specs.List.{list_any}
use Rattle.std.specs.Str.{bytes_eq}
use Rattle.std.proofs.lemmas.Bool.{eq-eqb, false≢true}
use Rattle.asm_formats.specs.Among.{IsAmong}
use Rattle.asm_formats.proofs.Codec.{bytes_same}
use Rattle.asm_group.specs.Group.{Group}
use Rattle.asm_group.specs.Names.{Bytes, folded, is_same_name}
use Rattle.asm_world.specs.Below.{GroupBelow}
use Rattle.asm_world.specs.World.{SessionEntry, World, groups_of, has_mounted, is_mounted, mounted_entry, with_group, without_entry}
use Rattle.session.specs.group_engine.Mounts.{MountedGroup}
use Rattle.session.specs.session_claims.Claims.{IsPaired}
use Rattle.session.specs.session_claims.Laws.{MountsGoOn, ReplacesGroups}
use Rattle.session.proofs.session_claims.Pairs.{has_id}
use Rattle.world_steps.specs.Told.{AreIdsApart}
use Rattle.world_steps.proofs.Told.{fewer_among, fewer_apart}
use Rattle.session.specs.Sessions.{AreToldBy, Knows, SessionView, groups_below, without_groups}
use Rattle.session.proofs.Creation.{groups_after}
use Rattle.session.proofs.Grouped.{gone}
use Rattle.session.proofs.Knowing.{entered_told, left_length, left_told, paired_among, paired_last, paired_left}
use Rattle.session.proofs.Ready.{or_left, or_right}
use Rattle.group_commands.proofs.ToldGroup.{is_told, name_told, told_group}

-- ---- entries

-- a name is told by any that is the same
pub without_same : (es : List SessionEntry) (a b : Bytes) → is_same_name a b ≡ true → without_entry es a ≡ without_entry es b
without_same es a b same = all es
  where
    alike : (x : Bytes) → is_same_name x a ≡ is_same_name x b
    alike x = ap (λ (f : Bytes). bytes_eq (folded x) f) (bytes_same (folded a) (folded b) same)

    all : (xs : List SessionEntry) → without_entry xs a ≡ without_entry xs b
    all [] = refl
    all (x ∷ xs) = ap (λ (t : Bool). if t then without_entry xs a else x ∷ without_entry xs a) (alike x.name)
        ∙ ap (λ (l : List SessionEntry). if is_same_name x.name b then l else x ∷ l) (all xs)

both_true : (a b : Bool) → a ≡ true → b ≡ true → (a && b) ≡ true
both_true true b is also = also
both_true false b is also = absurd (false≢true is)

-- the id of a mounted entry is mounted
pub among_mounted : (es : List SessionEntry) (e : SessionEntry) → IsAmong es e → is_mounted e ≡ true → list_any (has_id e.id) es ≡ true
among_mounted [] e at on = absurd at
among_mounted (x ∷ es) e at on = ⊎_elim
    (λ (here : e ≡ x). or_left (has_id e.id x) (list_any (has_id e.id) es) (subst (λ (y : SessionEntry). has_id e.id y ≡ true) here (both_true (is_mounted e) (e.id == e.id) on (eq-eqb e.id e.id refl))))
    (λ later. or_right (has_id e.id x) (list_any (has_id e.id) es) (among_mounted es e later on))
    at

-- one more entry, of an id that no mounted one has
joined_among : (xs : List SessionEntry) (x f : SessionEntry) → IsAmong (xs ++ x ∷ []) f → IsAmong xs f ⊎ (f ≡ x)
joined_among [] x f at = ⊎_elim (λ here. inr here) (λ none. absurd none) at
joined_among (y ∷ xs) x f at = ⊎_elim (λ here. inl (inl here)) (λ later. ⊎_elim (λ old. inl (inr old)) (λ new. inr new) (joined_among xs x f later)) at

apart_on : (xs : List SessionEntry) (x : SessionEntry) → AreIdsApart xs
    → ((e : SessionEntry) → IsAmong xs e → is_mounted e ≡ true → e.id ≢ x.id) → AreIdsApart (xs ++ x ∷ [])
apart_on [] x apart other = ((λ f none. absurd none), tt)
apart_on (y ∷ xs) x apart other = (
  λ f at on also. ⊎_elim (λ (old : IsAmong xs f). apart.0 f old on also) (λ (new : f ≡ x). λ same. other y (inl refl) on (same ∙ ap (λ (e : SessionEntry). e.id) new)) (joined_among xs x f at),
  apart_on xs x apart.1 (λ e at. other e (inr at)),
)

-- ---- the world

-- the world's group under the id is told by the tables of the mounted one, which is last, in place of one of its name
abbrev pub mounted_world : World → MountedGroup → World
mounted_world w m = record (with_group w m.register.value.id (told_group m (groups_of w m.register.value.id)))
    { session = without_entry w.session m.name ++ mounted_entry m.name m.register.value.id ∷ [] }

module _ (session session' : SessionView) (w : World) (below : ℕ → GroupBelow) (knows : Knows session w below) (m : MountedGroup)
    (paired : length session.groups ≡ length session.entries) (place : session'.place ≡ session.place)
    (entries : session'.entries ≡ without_entry session.entries m.name ++ mounted_entry m.name m.register.value.id ∷ [])
    (groups : session'.groups ≡ without_groups session.entries session.groups m.name ++ m ∷ []) where
  abbrev id : ℕ
  id = m.register.value.id

  abbrev told : Group
  told = told_group m (groups_of w id)

  abbrev after : World
  after = mounted_world w m

  abbrev others : List MountedGroup
  others = without_groups w.session session.groups m.name

  pub groups_are : session'.groups ≡ others ++ m ∷ []
  groups_are = groups ∙ ap (λ (es : List SessionEntry). without_groups es session.groups m.name ++ m ∷ []) (sym knows.entries_are)

  pub replaces : ReplacesGroups w id (told ∷ []) after
  replaces = groups_after w id told

  lengths : length session.groups ≡ length w.session
  lengths = paired ∙ ap (λ (es : List SessionEntry). length es) (sym knows.entries_are)

  left_lengths : length others ≡ length (without_entry w.session m.name)
  left_lengths = left_length w.session session.groups m.name lengths

  all_told : AreToldBy after (others ++ m ∷ [])
  all_told = entered_told (record w { session = without_entry w.session m.name }) after id m.name told others (name_told m (groups_of w id)) (gone w.session m.name) replaces
      (left_told w session.groups m.name (knows.told lengths)) m left_lengths refl (is_told m (groups_of w id))

  pub knows_after : Knows session' after (groups_below session'.entries session'.groups)
  knows_after = record {
    entries_are = rw (knows.entries_are, entries) refl;
    place_is = knows.place_is ∙ sym place;
    below_is = refl;
    told = λ same. subst (λ (l : List MountedGroup). AreToldBy after l) (sym groups_are) all_told;
  }

  -- the groups that were mounted stay so, and the new one comes
  pub goes_on : AreIdsApart w.session → has_mounted w id ≡ false → MountsGoOn id (λ k. k ≡ m) w after session.groups session'.groups
  goes_on ids unmounted = record {
    entries = ap (λ (l : List MountedGroup). length l) groups_are ∙ omega (arith, left_lengths, length-append others (m ∷ []), length-append (without_entry w.session m.name) (mounted_entry m.name id ∷ []));
    ids = apart_on (without_entry w.session m.name) (mounted_entry m.name id) (fewer_apart w.session m.name ids) (λ e at on. other_id e (fewer_among w.session m.name e at) on);
    pairs = λ e x pair on. ⊎_elim
        (λ (old : IsPaired (without_entry w.session m.name) others e x).
        let was = paired_left w.session session.groups m.name e x old in inr (other_id e (paired_among w.session session.groups e x was) on, was))
        (λ (new : (e ≡ mounted_entry m.name id) × (x ≡ m)). inl (ap (λ (y : SessionEntry). y.id) new.0, new.1))
        (paired_last (without_entry w.session m.name) others (mounted_entry m.name id) m e x left_lengths
        (subst (λ (l : List MountedGroup). IsPaired after.session l e x) groups_are pair));
  }
    where
      other_id : (e : SessionEntry) → IsAmong w.session e → is_mounted e ≡ true → e.id ≢ id
      other_id e at on same = false≢true (sym unmounted ∙ subst (λ (i : ℕ). has_mounted w i ≡ true) same (among_mounted w.session e at on))
