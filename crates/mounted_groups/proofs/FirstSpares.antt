-- What the creation of a group leaves of other disks and groups.
use Rattle.std.proofs.Common.{◌≡◌, ◌≢◌, ℕ, ◌<◌, false, List, sym, ap, subst, ◌∙◌, Some, ◌==◌}
use Rattle.std.specs.List.{list_any}
use Rattle.std.proofs.lemmas.Bool.{false≢true}
use Rattle.bay.specs.Image.{Image, Same}
use Rattle.bay.specs.State.{BayState, IsSlot}
use Rattle.bay.specs.Moments.{Runs}
use Rattle.bay.proofs.Calls.{goes_on, on_more, stops, widened}
use Rattle.asm_group.specs.Group.{Group}
use Rattle.asm_group.specs.Names.{Bytes}
use Rattle.group_engine.specs.Mounts.{MountedGroup}
use Rattle.mounted_groups.specs.Creating.{CreatesGroupOn}
use Rattle.mounted_groups.specs.FirstParts.{IsMountedOnSlot, IsNewlyMounted, SameBut, SparesAllBut}
use Rattle.mounted_groups.specs.Holding.{IsHeldSlot, SameHeld, SparesHeld}
use Rattle.mounted_groups.specs.Planned.{Plan}
use Rattle.mounted_groups.proofs.Spared.{held_trans, looks_held}

module _ (paths : List Bytes) (path : Bytes) where
  pub same_but : (x y : Image) → Same x y → SameBut paths path x y
  same_but x y same slot other = record { size = same.size slot; byte = same.byte slot }

  pub but_trans : (x y z : Image) → SameBut paths path x y → SameBut paths path y z → SameBut paths path x z
  but_trans x y z one two slot other =
      let a = one slot other in
      let b = two slot other in
      record { size = b.size ∙ a.size; byte = λ k. b.byte k ∙ a.byte k }

  -- looks change no disk
  pub looks_spare : (n : ℕ) {s t : BayState} → Runs (λ slot. slot < n) Same s t → SparesAllBut paths path n s t
  looks_spare n {s} {t} run = widened same_but run

-- the slot was tested, and isn't held
module _ (held : List ℕ) (slot : ℕ) (tested : list_any (λ s. s == slot) held ≡ false) where
  free : IsHeldSlot held slot → ⊥
  free is_held = false≢true (sym tested ∙ is_held)

  creates_held : (id : ℕ) (g : Group) (x y : Image) → CreatesGroupOn slot id g x y → SameHeld held x y
  creates_held id g x y creates k is_held =
      let apart : k ≢ slot = λ same. free (subst (λ (j : ℕ). IsHeldSlot held j) same is_held) in
      record { size = creates.elsewhere.size k apart; byte = λ j. creates.elsewhere.byte k j apart }

  pub creation_spares_held : (n id : ℕ) (g : Group) {s m t : BayState} → slot < n → Runs (λ k. k < n) Same s m → Runs (IsSlot slot) (CreatesGroupOn slot id g) m t → SparesHeld held n s t
  creation_spares_held n id g {s} {m} {t} below looks creates =
      let first = looks_held held n looks in
      goes_on (held_trans held) first (stops first)
      (on_more (λ k (is : k ≡ slot). subst (λ (j : ℕ). j < n) (sym is) below) (widened (creates_held id g) creates))

  pub newly_mounted : (name : Bytes) (p q : Plan) (m : MountedGroup) (t : BayState) → p ≡ q → q.name ≡ name → IsMountedOnSlot slot q m t → IsNewlyMounted held name (Some p.id) m t
  newly_mounted name p q m t same named is = record {
    mounted = is.mounted;
    name_is = is.name ∙ named;
    id_is = ap (λ (r : Plan). Some r.id) same ∙ ap (λ (n : ℕ). Some n) (sym is.id);
    own = λ k own. λ is_held. free (subst (λ (j : ℕ). IsHeldSlot held j) (is.own k own) is_held);
    whole = is.whole;
    ready = is.ready;
  }
