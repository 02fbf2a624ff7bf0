-- What the disks of a mounted group hold, and what was copied, over calls of the group.
use Rattle.std.proofs.Common.{◌≡◌, ⊎_elim, ℕ, sym, subst, ◌∙◌, Some, arith, IsTrue}
use Rattle.std.proofs.lemmas.Option.{none-some}
use Rattle.bay.specs.Image as bay
use Rattle.bay.specs.Image.{ChangesOnly, Range}
use Rattle.bay.specs.Moments.{Runs}
use Rattle.bay.specs.State.{BayState}
use Rattle.asm_group.specs.Group.{Group}
use Rattle.asm_group.specs.Shape.{Shape, is_shape}
use Rattle.asm_placement.specs.Layout.{units_of}
use Rattle.asm_images.specs.Kept.{Kept}
use Rattle.asm_images.specs.WriteLaws.{AreApart}
use Rattle.group_engine.specs.Mounts.{MountedGroup, Mounts}
use Rattle.flight_laws.specs.Agreeing.{AgreesBelow}
use Rattle.flight_laws.specs.Elsewhere.{AreUserHomes, IsUserHome, LieInUnits, OnMetadata}
use Rattle.flight_laws.specs.Staying.{FlightOverMetadata, FlightOverSpare, HeldOverMetadata, HeldOverSpare, LedDescribe, MountedDescribe}
use Rattle.flight_laws.proofs.Elsewhere.{attached_are_in, described_homes_are_user, metadata_agrees, metadata_holds, spare_agrees, spare_holds}
use Rattle.flight_laws.proofs.Later.{described_have_entries, later_record_agrees, later_record_keeps}

-- each image that a stop may leave after calls comes from one that a stop might leave before
come_from : (slots : ℕ → Type 0) (step : bay.Image → bay.Image → Type 0) (s t : BayState) → Runs slots step s t → (y : bay.Image) → t.leaves t.calls y → (x : bay.Image) × s.leaves s.calls x × step x y
come_from slots step s t run y left = run.moments t.calls y run.later (omega arith) left

module _ (n : ℕ) (m : MountedGroup) (s : BayState) (g k : Group) (kept : Kept) (mounts : Mounts n m s g kept) (shape : k.shape ≡ g.shape) where
  shape_is : m.catalog.shape ≡ k.shape
  shape_is = sym mounts.represents.shape ∙ sym shape

pub mounted_describe : (s : BayState) → MountedDescribe s
mounted_describe = λ s n m g kept mounts. record { tables = mounts.whole.are_tables; group = g; shape = mounts.represents.shape; describes = mounts.represents.describes }

pub led_describe : (s : BayState) → LedDescribe s
led_describe = λ s n m put gone g h kept to. record { tables = to.after.tables; group = h; shape = to.leads.shape ∙ to.mounts.represents.shape; describes = to.leads.describes }

pub held_over_metadata : (s t : BayState) → HeldOverMetadata s t
held_over_metadata = λ s t m u k next ok some shape keeps run holds. record {
  now = λ y left.
      let from = come_from _ _ s t run y left in
      let same : some.group.shape ≡ k.shape = some.shape ∙ sym shape in
      let homes : AreUserHomes k.shape u = subst (λ (x : Shape). AreUserHomes x u) same
      (described_homes_are_user m.register.value u some.group some.tables (subst (λ (x : Shape). IsTrue (is_shape x)) (sym some.shape) ok) some.describes) in
      later_record_keeps m.register.id m.register.value next u k y some.tables (described_have_entries m.register.value u some.group some.tables some.describes) keeps
      (metadata_holds m.register.id m.register.value u k from.0 y some.tables homes (subst (λ (x : Shape). OnMetadata x from.0 y) (sym shape) from.2) (holds.now from.0 from.1));
}

pub held_over_spare : (s t : BayState) → HeldOverSpare s t
held_over_spare = λ s t n m g k kept d slot unit len at count held in_slot run_in none run. record {
  now = λ y left.
      let from = come_from _ _ s t run y left in
      let mounts = held.mounts in
      spare_holds m.register.id m.register.value m.catalog.tables k slot d unit len at count from.0 y mounts.whole.are_tables
      ((attached_are_in s n m g kept d slot mounts in_slot).now from.0 from.1)
      (subst (λ (x : Shape). LieInUnits x.au unit len at count) (shape_is n m s g k kept mounts held.shape) run_in) none from.2 (held.holds.now from.0 from.1);
}

pub flight_over_metadata : (s t : BayState) → FlightOverMetadata s t
flight_over_metadata = λ s t n old new g k kept mounts shape place keeps run agrees f flies. ⊎_elim
    (λ same. record {
      now = λ y left.
          let flew : old.flight ≡ Some f = sym same ∙ flies in
          let from = come_from _ _ s t run y left in
          let whole = shape_is n old s g k kept mounts shape in
          let at = place f flew in
          subst (λ (id : ℕ). AgreesBelow id new.register.value k f.x.file f.x.index f.to f.copied y) (sym keeps.id)
          (later_record_agrees old.register.id old.register.value new.register.value k f.x.file f.x.index f.to f.copied y at.1 keeps.kept
          (metadata_agrees old.register.id old.register.value k f.x.file f.x.index f.to f.copied from.0 y (subst (λ (x : Shape). IsUserHome x f.to) whole at.0)
          (subst (λ (x : Shape). OnMetadata x from.0 y) whole from.2) ((agrees f flew).now from.0 from.1)));
    })
    (λ gone. absurd (none-some f (sym gone ∙ flies)))
    keeps.flight

pub flight_over_spare : (s t : BayState) → FlightOverSpare s t
flight_over_spare = λ s t n m g k kept d slot unit len at count mounts shape in_slot run_in apart run agrees f flies. record {
  now = λ y left.
      let from = come_from _ _ s t run y left in
      let whole = shape_is n m s g k kept mounts shape in
      spare_agrees m.register.id m.register.value k f.x.file f.x.index f.to f.copied slot d unit len at count from.0 y
      ((attached_are_in s n m g kept d slot mounts in_slot).now from.0 from.1)
      (subst (λ (x : Shape). LieInUnits x.au unit len at count) whole run_in)
      (λ its. subst (λ (x : Shape). AreApart unit len f.to.unit (units_of x.step f.x.index)) whole (apart f flies its)) from.2 ((agrees f flies).now from.0 from.1);
}
