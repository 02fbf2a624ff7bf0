-- Ids without a member.
use Rattle.std.proofs.Common.{◌≡◌, ◌≢◌, inl, ℕ, List, [], ◌∷◌, refl}
use Rattle.bay.specs.Image.{Image}
use Rattle.asm_group.specs.Group.{Group}
use Rattle.asm_formats.specs.Among.{IsAmong}
use Rattle.asm_images.specs.Members as lists
use Rattle.asm_images.specs.Members.{Member, all_members}
use Rattle.asm_images.specs.Bridge.{disks_in}
use Rattle.asm_images.specs.Sound.{Sound}
use Rattle.asm_images.proofs.Zeros.{memberless}
use Rattle.asm_images.proofs.Spans.{widen_keeps}
use Rattle.mounted_groups.specs.Creating.{HasMember, CreatesGroupOn}
use Rattle.group_recovery.specs.Mounting.{Allows}

-- a list without an element is empty
pub nothing_among : {A : Type 0} (xs : List A) → ((x : A) → IsAmong xs x → ⊥) → xs ≡ []
nothing_among [] none = refl
nothing_among (x ∷ xs) none = absurd (none x (inl refl))

-- what stands for some groups stands for more
pub widened : (id : ℕ) (image : lists.ImageBytes) (groups more : List Group) → Sound id image groups → ((g : Group) → IsAmong groups g → IsAmong more g) → Sound id image more
widened id image groups more sound wider = record {
  completed = sound.completed;
  begun = sound.begun;
  holds = widen_keeps id image groups more sound.completed sound.begun sound.holds wider;
}

-- Where an id has no member, its images stand for any groups.
pub no_member_allows : (id : ℕ) (groups : List Group) (image : Image) → (HasMember id image → ⊥) → Allows id groups image
no_member_allows id groups image none = λ slots.
    widened id (disks_in slots image) [] groups (memberless id (disks_in slots image) (nothing_among (all_members id (disks_in slots image)) (λ m is. none (record { slots = slots; member = m; is = is })))) (λ g among. absurd among)

-- nothing is done
pub creates_none : (slot id : ℕ) (g : Group) (image : Image) → CreatesGroupOn slot id g image image
creates_none slot id g image = record {
  others = λ other slots groups completed begun apart sound. sound;
  members = λ other apart has. has;
  own = no_member_allows id (g ∷ []) image;
  elsewhere = record { size = λ s differ. refl; byte = λ s k differ. refl };
  joins = λ other apart has. has;
}

-- what other ids stand for stays
pub others_allow : (slot id : ℕ) (g : Group) (old new : Image) → CreatesGroupOn slot id g old new → (other : ℕ) (groups : List Group) → other ≢ id → Allows other groups old → Allows other groups new
others_allow slot id g old new creates other groups apart allows = λ slots.
    let s = allows slots in
    record { completed = s.completed; begun = s.begun; holds = creates.others other slots groups s.completed s.begun apart s.holds }
