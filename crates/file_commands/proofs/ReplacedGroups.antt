-- The world and the session where another group takes the place of the mounted one of a name.
use Rattle.std.proofs.Common.{◌≡◌, ◌≢◌, ⊎_elim, inl, inr, ℕ, true, false, List, [], ◌∷◌, length, Some, refl, sym, ◌∙◌, ap, subst}
use Rattle.std.specs.FinMap as maps
use Rattle.std.proofs.lemmas.Bool.{cases_eq, false≢true}
use Rattle.std.proofs.lemmas.List.{length-map}
use Rattle.asm_group.specs.Group.{Group}
use Rattle.asm_group.specs.Names.{Bytes, is_same_name}
use Rattle.asm_formats.specs.Among.{IsAmong}
use Rattle.asm_world.specs.World.{SessionEntry, SessionState, World, Mounted, DismountedBy, entry_among, groups_of, is_mounted, with_dismounted, with_group}
use Rattle.session.specs.group_engine.Making.{dismounted_by}
use Rattle.session.specs.group_engine.Mounts.{IsMounted, MountedGroup}
use Rattle.session.specs.group_engine.declared.access.Access.{Access}
use Rattle.session.specs.session_claims.Claims.{IsPaired}
use Rattle.session.specs.session_claims.Laws.{MountsGoOn, ReplacesGroups}
use Rattle.world_steps.specs.Told.{AreIdsApart}
use Rattle.world_steps.proofs.Told.{named_among, one_entry, torn_apart}
use Rattle.session.specs.Entries.{by_disk, state_view}
use Rattle.session.specs.Naming as session
use Rattle.session.specs.Naming.{AreNamesApart, group_among}
use Rattle.session.specs.Sessions.{AreToldBy, IsToldBy}
use Rattle.session.specs.Works.{with_state}
use Rattle.session.proofs.Creation.{groups_after}
use Rattle.session.proofs.EditedEntries.{one_named, paired_of, paired_torn, paired_with, same_state, with_length}
use Rattle.session.proofs.Knowing.{cons_same, paired_among}
use Rattle.session.proofs.ReplacedLists.{at_id, elsewhere, listed}

-- The mounted group of the name was worked on: its entry, and the lists of the session before and after.
pub record IsWorkedOn (es entries' : List SessionEntry) (groups groups' : List MountedGroup) (name : Bytes) (before after : MountedGroup) (entry : SessionEntry) : Type 0 where
  pub named : entry_among es name ≡ Some entry
  pub found : group_among es groups name ≡ Some before
  pub apart : AreNamesApart es
  pub lengths : length groups ≡ length es
  pub groups_are : groups' ≡ session.with_group_named es groups name after
  pub entries_are : entries' ≡ with_state es name (state_view after)
  pub on : entry.state ≡ Mounted

-- ---- one group of the session

module _ (w : World) (entries' : List SessionEntry) (groups groups' : List MountedGroup) (name : Bytes) (before after : MountedGroup) (entry : SessionEntry)
    (worked : IsWorkedOn w.session entries' groups groups' name before after entry) (all_told : AreToldBy w groups) where
  pub pair : IsPaired w.session groups entry before
  pair = paired_of w.session groups name entry before worked.named worked.found

  pub among : IsAmong w.session entry
  among = paired_among w.session groups entry before pair

  entry_named : is_same_name entry.name name ≡ true
  entry_named = (named_among w.session name entry worked.named).1

  pub is_on : is_mounted entry ≡ true
  is_on = let on = worked.on in rw on refl

  -- where the group takes calls still, the entries are as they were
  pub on_session : IsMounted after → w.session ≡ entries'
  on_session still_on =
      let after_state : state_view after ≡ Mounted = ap (λ (a : Access). by_disk after (dismounted_by a)) still_on in
      sym (worked.entries_are ∙ same_state w.session name entry (state_view after) worked.apart worked.named (worked.on ∙ sym after_state))

  -- an entry of another name has another id
  other_entry : AreIdsApart w.session → (f : SessionEntry) (m : MountedGroup) → IsPaired w.session groups f m → is_mounted f ≡ true → is_same_name f.name name ≡ false → f.id ≢ entry.id
  other_entry ids f m at_f on_f differs same =
      let one : f ≡ entry = one_entry w.session f entry ids (paired_among w.session groups f m at_f) among on_f is_on same in
      false≢true (sym differs ∙ ap (λ (x : SessionEntry). is_same_name x.name name) one ∙ entry_named)

  other_name_of : (f : SessionEntry) → is_same_name f.name name ≡ false → f.name ≡ entry.name → ⊥
  other_name_of f differs same = false≢true (sym differs ∙ ap (λ (n : Bytes). is_same_name n name) same ∙ entry_named)

  -- ---- the id has another group, which is mounted

  module _ (h : Group) (name_of : h.name ≡ entry.name) where
    abbrev pub w_done : World
    w_done = with_group w entry.id h

    pub replaces : ReplacesGroups w entry.id (h ∷ []) w_done
    replaces = groups_after w entry.id h

    pub all_done : IsToldBy after h → AreToldBy w_done groups'
    all_done told_done f m k at_f on_f only named = ⊎_elim
        (λ mine.
        let was_there = subst (λ (l : List MountedGroup). IsPaired w.session l f m) worked.groups_are at_f in
        let f_among : IsAmong w.session f = paired_among w.session (session.with_group_named w.session groups name after) f m was_there in
        let one : f ≡ entry = one_named w.session name entry f worked.apart worked.named f_among mine.0 in
        let alike : h ≡ k = cons_same h k (sym (at_id w w_done entry.id (h ∷ []) replaces) ∙ ap (λ (x : SessionEntry). groups_of w_done x.id) (sym one) ∙ only) in
        subst (λ (x : Group). IsToldBy m x) alike (subst (λ (x : MountedGroup). IsToldBy x h) (sym mine.1) told_done))
        (λ other. ⊎_elim
        (λ (here : f.id ≡ entry.id).
        let alike : h ≡ k = cons_same h k (sym (at_id w w_done entry.id (h ∷ []) replaces) ∙ ap (λ (i : ℕ). groups_of w_done i) (sym here) ∙ only) in
        absurd (other_name_of f other.0 (sym named ∙ ap (λ (x : Group). x.name) (sym alike) ∙ name_of)))
        (λ differ. all_told f m k other.1 on_f (sym (elsewhere w w_done entry.id (h ∷ []) replaces f.id differ) ∙ only) named)
        (cases_eq f.id entry.id))
        (paired_with w.session groups name after f m worked.apart (subst (λ (l : List MountedGroup). IsPaired w.session l f m) worked.groups_are at_f))

    pub goes_done : AreIdsApart w.session → MountsGoOn entry.id (λ m. m ≡ after) w w_done groups groups'
    goes_done ids = record {
      entries = ap (λ (l : List MountedGroup). length l) worked.groups_are ∙ with_length w.session groups name after ∙ worked.lengths;
      ids = ids;
      pairs = λ f m at_f on_f. ⊎_elim
          (λ mine.
          let was_there = subst (λ (l : List MountedGroup). IsPaired w.session l f m) worked.groups_are at_f in
          let f_among : IsAmong w.session f = paired_among w.session (session.with_group_named w.session groups name after) f m was_there in
          inl (ap (λ (x : SessionEntry). x.id) (one_named w.session name entry f worked.apart worked.named f_among mine.0), mine.1))
          (λ other. inr (other_entry ids f m other.1 on_f other.0, other.1))
          (paired_with w.session groups name after f m worked.apart (subst (λ (l : List MountedGroup). IsPaired w.session l f m) worked.groups_are at_f));
    }

  -- ---- the id has another group, which was dismounted

  module _ (h : Group) (name_of : h.name ≡ entry.name) (disk : Bytes) (off : state_view after ≡ DismountedBy disk) where
    abbrev pub w_torn : World
    w_torn = record w { groups = maps.insert w.groups entry.id (h ∷ []); session = with_dismounted w.session name disk }

    pub torn_lists : ReplacesGroups w entry.id (h ∷ []) w_torn
    torn_lists = listed w w_torn entry.id (h ∷ []) refl

    pub torn_session : w_torn.session ≡ entries'
    torn_session = sym (worked.entries_are ∙ ap (λ (x : SessionState). with_state w.session name x) off)

    pub all_torn : AreToldBy w_torn groups'
    all_torn f m k at_f on_f only named =
        let kept = paired_torn disk w.session groups name after f m worked.apart on_f (subst (λ (l : List MountedGroup). IsPaired w_torn.session l f m) worked.groups_are at_f) in
        ⊎_elim
        (λ (here : f.id ≡ entry.id).
        let alike : h ≡ k = cons_same h k (sym (at_id w w_torn entry.id (h ∷ []) torn_lists) ∙ ap (λ (i : ℕ). groups_of w_torn i) (sym here) ∙ only) in
        absurd (other_name_of f kept.0 (sym named ∙ ap (λ (x : Group). x.name) (sym alike) ∙ name_of)))
        (λ differ. all_told f m k kept.1 on_f (sym (elsewhere w w_torn entry.id (h ∷ []) torn_lists f.id differ) ∙ only) named)
        (cases_eq f.id entry.id)

    pub goes_torn : AreIdsApart w.session → MountsGoOn entry.id (λ m. ⊥) w w_torn groups groups'
    goes_torn ids = record {
      entries = ap (λ (l : List MountedGroup). length l) worked.groups_are ∙ with_length w.session groups name after ∙ worked.lengths ∙ sym (length-map w.session _);
      ids = torn_apart name disk w.session ids;
      pairs = λ f m at_f on_f.
          let kept = paired_torn disk w.session groups name after f m worked.apart on_f (subst (λ (l : List MountedGroup). IsPaired w_torn.session l f m) worked.groups_are at_f) in
          inr (other_entry ids f m kept.1 on_f kept.0, kept.1);
    }
