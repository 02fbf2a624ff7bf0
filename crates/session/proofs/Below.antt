-- What is below the groups of the session.
use Rattle.std.proofs.Common.{◌≡◌, ◌&&◌, ◌==◌, ⊎_elim, ℕ, Bool, true, false, List, [], ◌∷◌, length, None, refl, sym, ◌∙◌, ap, subst}
use Rattle.std.specs.Prelude.{if◌then◌else◌}
use Rattle.std.proofs.lemmas.Bool.{and_parts, cases_Bool, eq-eqb, eqb-true}
use Rattle.asm_world.specs.Below.{GroupBelow}
use Rattle.asm_world.specs.World.{SessionEntry, World, is_mounted}
use Rattle.group_contents.specs.group_engine.Mounts.{MountedGroup}
use Rattle.group_turns.specs.group_reports.Disks.{disk_rows, group_row}
use Rattle.group_turns.specs.group_reports.Extents.{all_extents, checked_of, file_units}
use Rattle.session_claims.specs.Claims.{IsPaired}
use Rattle.world_steps.specs.Told.{AreIdsApart}
use Rattle.session.specs.Quiet.{quiet}
use Rattle.session.specs.Sessions.{Knows, SessionView, group_below, groups_below}
use Rattle.session.proofs.Knowing.{paired_among}

-- ---- nothing is due

-- Nothing expires, and no slice is due.
pub record IsStill (b : GroupBelow) : Type 0 where
  pub expires : b.expiring ≡ None
  pub syncs : b.syncing ≡ None
  pub moves : b.moving ≡ false

quiet_still : (id : ℕ) → IsStill (quiet id)
unfolding quiet
quiet_still id = record { expires = refl; syncs = refl; moves = refl }

group_still : (m : MountedGroup) → IsStill (group_below m)
unfolding group_below
group_still m = record { expires = refl; syncs = refl; moves = refl }

either_still : (t : Bool) (m : MountedGroup) (other : GroupBelow) → IsStill other → IsStill (if t then group_below m else other)
either_still true m other still = group_still m
either_still false m other still = still

groups_still : (es : List SessionEntry) (ms : List MountedGroup) (id : ℕ) → IsStill (groups_below es ms id)
groups_still [] ms id = quiet_still id
groups_still (e ∷ es) [] id = quiet_still id
groups_still (e ∷ es) (m ∷ ms) id = either_still (is_mounted e && (e.id == id)) m (groups_below es ms id) (groups_still es ms id)

pub still_below : {session : SessionView} {w : World} {below : ℕ → GroupBelow} → Knows session w below → (id : ℕ) → IsStill (below id)
still_below {session = session} knows id = subst (λ (b : ℕ → GroupBelow). IsStill (b id)) (sym knows.below_is) (groups_still session.entries session.groups id)

-- where no group is in the session
pub first_below : (es : List SessionEntry) (ms : List MountedGroup) → es ≡ [] → quiet ≡ groups_below es ms
first_below es ms none = subst (λ (l : List SessionEntry). quiet ≡ groups_below l ms) (sym none) (λ i. λ id. quiet id)

-- ---- what is below a group

pub disks_below : (m : MountedGroup) → (group_below m).disks ≡ disk_rows m.catalog m.register.value.entries
unfolding group_below
disks_below m = refl

pub row_below : (m : MountedGroup) → (group_below m).row ≡ group_row m.catalog m.register.value.entries
unfolding group_below
row_below m = refl

pub units_below : (m : MountedGroup) → (group_below m).units ≡ file_units m.catalog
unfolding group_below
units_below m = refl

pub extents_below : (m : MountedGroup) → (group_below m).extents ≡ length (all_extents m.catalog)
unfolding group_below
extents_below m = refl

pub not_full_below : (m : MountedGroup) → (group_below m).not_full ≡ (checked_of m.register.value.entries (all_extents m.catalog)).not_full
unfolding group_below
not_full_below m = refl

is_first : (x e : SessionEntry) → e ≡ x → is_mounted e ≡ true → (is_mounted x && (x.id == e.id)) ≡ true
is_first x e same on =
    let mounted : is_mounted x ≡ true = ap is_mounted (sym same) ∙ on in
    let id : (x.id == e.id) ≡ true = eq-eqb x.id e.id (ap (λ (y : SessionEntry). y.id) (sym same)) in
    rw (mounted, id) refl

-- it lies under the group's id, where no other mounted group has that
pub below_paired : (es : List SessionEntry) (ms : List MountedGroup) (e : SessionEntry) (m : MountedGroup) → AreIdsApart es → IsPaired es ms e m → is_mounted e ≡ true → groups_below es ms e.id ≡ group_below m
below_paired [] ms e m apart pair on = absurd pair
below_paired (x ∷ es) [] e m apart pair on = absurd pair
below_paired (x ∷ es) (y ∷ ms) e m apart pair on =
    let choose : Bool → GroupBelow = λ (t : Bool). if t then group_below y else groups_below es ms e.id in
    ⊎_elim
    (λ (here : (e ≡ x) × (m ≡ y)). ap choose (is_first x e here.0 on) ∙ ap group_below (sym here.1))
    (λ later. ⊎_elim
    (λ (same : (is_mounted x && (x.id == e.id)) ≡ true).
    let parts = and_parts (is_mounted x) (x.id == e.id) same in
    absurd (apart.0 e (paired_among es ms e m later) parts.0 on (eqb-true x.id e.id parts.1)))
    (λ (other : (is_mounted x && (x.id == e.id)) ≡ false). ap choose other ∙ below_paired es ms e m apart.1 later on)
    (cases_Bool (is_mounted x && (x.id == e.id))))
    pair
