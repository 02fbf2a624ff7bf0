-- A creation at every moment.
use Rattle.std.proofs.Common.{◌≡◌, Bool, inl, inr, ℕ, ◌*◌, ◌<◌, ◌≤◌, true, List, ◌∙◌, length, All, None, Some, Result, Ok, Err, is_ok, refl, sym, subst, ap, arith}
use Rattle.std.specs.Prelude.{OnOk}
use Rattle.std.proofs.lemmas.List.Elements.{All-contains}
use Rattle.bay.specs.Image.{Image, Same}
use Rattle.bay.specs.State.{BayState, IsSound, IsSlot}
use Rattle.bay.specs.Counts.{last_count}
use Rattle.bay.specs.Moments.{Runs, Ends}
use Rattle.bay.proofs.Calls.{widened, goes_on, both_done, stops, on_more}
use Rattle.asm_group.specs.Names.{Bytes}
use Rattle.asm_group.specs.Group.{Group}
use Rattle.asm_images.specs.Sound.{SoundBy}
use Rattle.asm_formats.specs.Metadata.{header_of}
use Rattle.asm_images.specs.Members as lists
use Rattle.asm_images.specs.Members.{all_members}
use Rattle.asm_formats.specs.Among.{IsAmong}
use Rattle.asm_images.proofs.Bridges.{same_is_same, same_disk}
use Rattle.mounted_groups.specs.Creating.{HasMember, CreatesGroupOn, HasNoOpenHeader, MayCreate, Founds, HasCreated, made_group}
use Rattle.asm_images.specs.Kept.{header_in}
use Rattle.change_directory.proofs.Runs.{widened_from}
use Rattle.mounted_groups.specs.Found.{counts_of, ToldByCounts, AreAllRead, IsAboveAll}
use Rattle.mounted_groups.specs.Planned.{Plan, IsGroupPlan, kept_of_plan}
use Rattle.mounted_groups.specs.Stages.{MayForm, HasFormed}
use Rattle.mounted_groups.proofs.Forming.{forming_creates, formed_is_held}
use Rattle.mounted_groups.proofs.Outsiders.{creates_none}

pub forms_creates : {m t : BayState} (slot size : ℕ) (plan : Plan) → IsSound m → m.attached slot ≡ Some size → IsGroupPlan plan → plan.units * 1048576 ≤ size
    → Runs (IsSlot slot) (MayForm slot plan) m t → Runs (IsSlot slot) (CreatesGroupOn slot plan.id (made_group plan.name)) m t
forms_creates {m} {t} slot size plan sound attached is room run =
    widened_from (λ image. image.size slot ≡ size) sound (λ image left. sound.sized slot size image attached left)
    (λ x y sized step. forming_creates slot plan x y is (omega (arith, room, sized)) step) run

pub has_before : (id : ℕ) (x y : Image) → Same x y → HasMember id y → HasMember id x
has_before id x y same has = record { slots = has.slots; member = has.member; is = subst (λ (i : lists.ImageBytes). IsAmong (all_members id i) has.member) (same_is_same has.slots x y same) has.is }

-- a creation from disks that are as they were
same_creates : (slot id : ℕ) (g : Group) (x y z : Image) → Same x y → CreatesGroupOn slot id g y z → CreatesGroupOn slot id g x z
same_creates slot id g x y z same creates = record {
  others = λ other slots groups completed begun apart sound. creates.others other slots groups completed begun apart (subst (λ (i : lists.ImageBytes). SoundBy other i groups completed begun) (sym (same_is_same slots x y same)) sound);
  members = λ other apart has. has_before other x y same (creates.members other apart has);
  own = λ none. creates.own (λ has. none (has_before id x y same has));
  elsewhere = record { size = λ s differ. creates.elsewhere.size s differ ∙ same.size s; byte = λ s k differ. creates.elsewhere.byte s k differ ∙ same.byte s k };
  joins = λ other apart has.
      let was = creates.joins other apart has in
      (was.0, ap header_of (sym (same_disk x y slot (same.size slot) (λ k. same.byte slot k))) ∙ was.1, was.2);
}

-- what comes before the first write, and the writing on a disk that had no open header
all_creates : {s m t : BayState} {slots : ℕ → Type 0} (slot id : ℕ) (g : Group) → slots slot → IsSound m → ToldByCounts (counts_of s) (counts_of m) (λ image. header_in image slot ≡ None)
    → Runs slots Same s m → Runs (IsSlot slot) (CreatesGroupOn slot id g) m t → Runs slots (MayCreate s.holds slot id g) s t
all_creates {s} {m} {t} {slots} slot id g inside sound free first next =
    let writes : Runs (IsSlot slot) (λ x y. CreatesGroupOn slot id g x y × HasNoOpenHeader s.holds slot) m t =
    widened_from (λ image. HasNoOpenHeader s.holds slot) sound (λ image left. let held = sound.told image left in free held.0 held.1) (λ x y was step. (step, was)) next in
    goes_on {done = Same} {step = λ x y. CreatesGroupOn slot id g x y × HasNoOpenHeader s.holds slot} {whole = MayCreate s.holds slot id g} (λ x y z same step. record { creates = same_creates slot id g x y z same step.0; free = inr step.1 })
    (widened (λ x y same. record { creates = same_creates slot id g x y y same (creates_none slot id g y); free = inl same }) first) (stops first)
    (on_more (λ (k : ℕ) is. subst slots (sym is) inside) writes)

-- an id above all that were read is above all that are told
pub above_all : (s t : BayState) (paths : List Bytes) (n id : ℕ) (ids : List ℕ) → length paths ≡ n → AreAllRead n ids (counts_of s) (counts_of t) → All (λ (other : ℕ). other < id) ids
    → IsAboveAll paths id (counts_of s) (counts_of t)
above_all s t paths n id ids len are all = record {
  each = λ slot size below attached still now holds image was h is.
      All-contains (λ (other : ℕ). other < id) ids h.id all (are.each slot size (omega (arith, len, below)) attached still now holds image was h is);
}

pub plan_above : (s t : BayState) (paths : List Bytes) (n : ℕ) (ids : List ℕ) (p q : Plan) → p ≡ q → length paths ≡ n → AreAllRead n ids (counts_of s) (counts_of t)
    → (q.id < last_count → All (λ (other : ℕ). other < q.id) ids) → p.id < last_count → IsAboveAll paths p.id (counts_of s) (counts_of t)
plan_above s t paths n ids p q same len are all below =
    let is : p.id ≡ q.id = ap (λ (r : Plan). r.id) same in
    subst (λ (k : ℕ). IsAboveAll paths k (counts_of s) (counts_of t)) (sym is) (above_all s t paths n q.id ids len are (all (omega (arith, is, below))))

-- what is done to such disks as there may be
pub forms_founds : {m t : BayState} (slot slots size : ℕ) (plan : Plan) → IsSound m → m.attached slot ≡ Some size → IsGroupPlan plan → plan.units * 1048576 ≤ size → slot < slots
    → Ends (HasFormed slot plan) m t → Ends (Founds slots plan.id (made_group plan.name) (kept_of_plan slot plan)) m t
forms_founds {m} {t} slot slots size plan sound attached is room inside ends = record {
  held = λ image holds. let from = ends.held image holds in (from.0, from.1, founds from.0 image (sound.sized slot size from.0 attached (sound.held from.0 from.1)) from.2);
  now = λ image left. let from = ends.now image left in (from.0, from.1, founds from.0 image (sound.sized slot size from.0 attached from.1) from.2);
}
  where
    founds : (x y : Image) → x.size slot ≡ size → HasFormed slot plan x y → Founds slots plan.id (made_group plan.name) (kept_of_plan slot plan) x y
    founds x y sized formed = formed_is_held slot slots plan x y is (omega (arith, room, sized)) formed inside

when_ok : {A E : Type 0} {P : Type 0} (r : Result A E) → OnOk r P → is_ok r ≡ true → P
when_ok (Ok x) p is = p
when_ok (Err e) p is = absurd cc

-- the whole creation, by a plan that is seen as another
pub has_created : {s m t : BayState} {A E : Type 0} (n slot : ℕ) (p q : Plan) (name : Bytes) (result : Result A E) → p ≡ q → q.name ≡ name → slot < n → IsSound m
    → ToldByCounts (counts_of s) (counts_of m) (λ image. header_in image slot ≡ None) → Runs (λ k. k < n) Same s m → Runs (IsSlot slot) (CreatesGroupOn slot q.id (made_group q.name)) m t
    → OnOk result (Ends (Founds n q.id (made_group q.name) (kept_of_plan slot q)) m t) → HasCreated n p.id (made_group name) (is_ok result) s t
has_created {s} {m} {t} n slot p q name result same named inside sound free first next done =
    subst (λ (r : Plan). HasCreated n r.id (made_group name) (is_ok result) s t) (sym same)
    (subst (λ (l : Bytes). HasCreated n q.id (made_group l) (is_ok result) s t) named (record {
      slot = slot;
      moments = all_creates slot q.id (made_group q.name) inside sound free first next;
      done = λ ok. (
        kept_of_plan slot q,
        refl,
        both_done {first = Same} (λ x y z is founds. record {
          is_held = λ none. founds.is_held (λ has. none (has_before q.id x y is has));
          here = λ none. founds.here (λ has. none (has_before q.id x y is has));
        }) (stops first) (when_ok result done ok),
      );
    }))

-- where less is said to be done
pub created_less : {s t : BayState} (n id : ℕ) (g : Group) (a b : Bool) → (b ≡ true → a ≡ true) → HasCreated n id g a s t → HasCreated n id g b s t
created_less {s} {t} n id g a b less has = record { slot = has.slot; moments = has.moments; done = λ ok. has.done (less ok) }
