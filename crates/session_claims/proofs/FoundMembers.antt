-- What a mount found is on the disks, and isn't mounted.
use Rattle.std.proofs.Common.{◌≡◌, inl, inr, ⊎_elim, ℕ, ◌<◌, Bool, IsSome, true, false, List, [], ◌∷◌, Option, Some, None, refl, sym, ◌∙◌, ap, subst}
use Rattle.std.proofs.lemmas.Bool.{cases_Bool, false≢true}
use Rattle.std.proofs.lemmas.Option.{same_Some}
use Rattle.bay.specs.Image.{Image}
use Rattle.bay.specs.State.{BayState, IsSound}
use Rattle.asm_group.specs.Group.{Group}
use Rattle.asm_group.specs.Names.{Bytes, is_same_name}
use Rattle.asm_formats.specs.Among.{IsAmong}
use Rattle.asm_formats.specs.Header.{Header}
use Rattle.asm_formats.specs.Metadata.{header_of}
use Rattle.asm_formats.specs.Status.{Status}
use Rattle.asm_images.specs.Bridge.{disks_in}
use Rattle.asm_images.specs.Kept.{IsHeld, Kept, header_in}
use Rattle.asm_images.proofs.Bridges.{same_disk}
use Rattle.asm_images.specs.Sound.{SoundBy}
use Rattle.asm_world.specs.World.{SessionEntry, World, has_mounted}
use Rattle.mounted_groups.specs.Creating.{HasMember}
use Rattle.mounted_groups.specs.Mounting.{WasQuorate}
use Rattle.mounted_groups.specs.group_engine.Mounts.{MountedGroup}
use Rattle.mounted_groups.proofs.group_engine.Slots.{member_there}
use Rattle.mounted_groups.proofs.group_engine.Standings.{there_by}
use Rattle.mounted_groups.specs.group_recovery.declared.quorum.MountOption.{MountOption}
use Rattle.mounted_groups.specs.status_register.Surveys.{disk_in}
use Rattle.session_claims.specs.Claims.{IsPaired, StandsFor}
use Rattle.session_claims.specs.Found.{FoundIsKnown, FoundIsMember, FoundIsUnmounted, HasNamed, HaveNames, IsNameFree}
use Rattle.mounted_groups.proofs.FoundIds.{IsNamedIn, taken_is_named}
use Rattle.session_claims.proofs.Pairs.{mounted_pair}

some_of : (o : Option Image) → IsSome o → (x : Image) × (o ≡ Some x)
some_of None some = absurd (false≢true some)
some_of (Some x) some = (x, refl)

has_member : (n id : ℕ) (name : Bytes) (x : Image) → HasNamed n id name x → HasMember id x
has_member n id name x has = record {
  slots = n;
  member = record { slot = has.slot; header = has.header; disk = disk_in x has.slot };
  is = member_there id n has.slot x has.header has.below has.is has.member;
}

-- ---- on the disks

module _ {B : Type 0} (state : B → BayState) (sound : (b : B) → IsSound (state b)) (s : BayState) (name : Bytes) (n : ℕ) (held : List ℕ) (option : MountOption) (was : WasQuorate state name n held option s) where
  found : IsNamedIn was.quorum.id name was.is.headed
  found = subst (λ (id : ℕ). IsNamedIn id name was.is.headed) (sym was.quorate.id_is)
      (taken_is_named name was.is.headed was.is.choice was.is.unread s (state was.between) was.found.id was.is.finds.judged was.is.taken_is)

  -- its header was there before the search, since that wrote nothing
  pub is_there : (x : Image) → s.holds ≡ Some x → HasNamed n was.quorum.id name x
  is_there x holds =
      let t : BayState = state was.between in
      let there = was.is.finds.there in
      let y = some_of t.holds (was.searched.tells (subst (λ (o : Option Image). IsSome o) (sym holds) refl)) in
      let from = was.searched.held y.0 y.1 in
      let is : from.0 ≡ x = same_Some from.0 x (sym from.1 ∙ holds) in
      let slot = found.headed.slot in
      let now : header_in y.0 slot ≡ Some found.headed.header = (there.now found.headed found.among).now y.0 ((sound was.between).held y.0 y.1) in
      record {
        slot = slot;
        below = there.inside found.headed found.among;
        header = found.headed.header;
        is = ap (λ (z : Image). header_in z slot) (sym is) ∙ sym (ap header_of (same_disk from.0 y.0 slot (from.2.size slot) (λ k. from.2.byte slot k))) ∙ now;
        member = found.member;
        named = found.named;
      }

module _ {B : Type 0} (state : B → BayState) (sound : (b : B) → IsSound (state b)) (s : BayState) (sound_s : IsSound s) where
  pub found_is_member : FoundIsMember state s
  found_is_member name n held option was x holds =
      let has = is_there state sound s name n held option was x holds in
      (has, has_member n was.quorum.id name x has)

  pub found_is_known : FoundIsKnown state s
  found_is_known n known given w groups name held option stands was =
      let x = some_of s.holds stands.tells in
      let has = is_there state sound s name n held option was x.0 x.1 in
      stands.origin x.0 was.quorum.id (sound_s.held x.0 x.1) (has_member n was.quorum.id name x.0 has)

-- ---- not mounted

-- each member of a mounted group's id has its name, also one that isn't attached
member_name : (n id : ℕ) (g : Group) (kept : Kept) (x : Image) → IsHeld n id (g ∷ []) kept x → kept.begun ≡ [] → (slot : ℕ) (h : Header) → slot < n → header_in x slot ≡ Some h → h.id ≡ id → h.group ≡ g.name
member_name n id g kept x is rests slot h below at member =
    let disks = disks_in n x in
    let sound : SoundBy id disks (g ∷ []) (Some kept.completed) [] = subst (λ (b : List Status). SoundBy id disks (g ∷ []) (Some kept.completed) b) rests (is.sound n) in
    let there = there_by id disks kept.slots kept.completed sound.fits is.standing in
    let (k, among, describes) = (sound.covered kept.completed (inl refl) there.alive).described kept.slots there.content there.found in
    let disk = describes.disks (record { slot = slot; header = h; disk = disk_in x slot }) (member_there id n slot x h below at member) in
    disk.name ∙ ap (λ (l : Group). l.name) (⊎_elim (λ (same : k ≡ g). same) (λ none. absurd none) among)

pub pair_among : (session : List SessionEntry) (groups : List MountedGroup) (e : SessionEntry) (m : MountedGroup) → IsPaired session groups e m → IsAmong session e
pair_among [] groups e m pair = absurd pair
pair_among (x ∷ es) [] e m pair = absurd pair
pair_among (x ∷ es) (y ∷ ms) e m pair = ⊎_elim (λ here. inl here.0) (λ later. inr (pair_among es ms e m later)) pair

-- the name of the mounted group is that which was asked for
clash : (n : ℕ) (known : ℕ → Bool) (given : ℕ) (s : BayState) (w : World) (groups : List MountedGroup) (name : Bytes) (id : ℕ) → IsSound s → StandsFor n known given s w groups → HaveNames w → IsNameFree w name
    → ((x : Image) → s.holds ≡ Some x → HasNamed n id name x) → has_mounted w id ≡ true → ⊥
clash n known given s w groups name id sound stands have free each is =
    let x = some_of s.holds stands.tells in
    let has = each x.0 x.1 in
    let (e, m, pair, mounted, same) = mounted_pair w.session groups id stands.entries is in
    let k = stands.mounted e m pair mounted in
    let among = pair_among w.session groups e m pair in
    let its : has.header.group ≡ k.group.name = member_name n m.register.id k.group k.kept x.0 (k.mounts.now.now x.0 (sound.held x.0 x.1)) k.mounts.begun has.slot has.header has.below has.is
    (has.member ∙ sym same ∙ sym k.same) in
    free e among mounted (ap (λ (b : Bytes). is_same_name b name) (sym (its ∙ have e k.group among mounted k.only)) ∙ has.named)

pub named_is_unmounted : (n : ℕ) (known : ℕ → Bool) (given : ℕ) (s : BayState) (w : World) (groups : List MountedGroup) (name : Bytes) (id : ℕ) → IsSound s → StandsFor n known given s w groups → HaveNames w
    → IsNameFree w name → ((x : Image) → s.holds ≡ Some x → HasNamed n id name x) → has_mounted w id ≡ false
named_is_unmounted n known given s w groups name id sound stands have free each =
    ⊎_elim (λ is. absurd (clash n known given s w groups name id sound stands have free each is)) (λ no. no) (cases_Bool (has_mounted w id))

module _ {B : Type 0} (state : B → BayState) (sound : (b : B) → IsSound (state b)) (s : BayState) (sound_s : IsSound s) where
  pub found_is_unmounted : FoundIsUnmounted state s
  found_is_unmounted n known given w groups name held option stands have free was =
      named_is_unmounted n known given s w groups name was.quorum.id sound_s stands have free (is_there state sound s name n held option was)
