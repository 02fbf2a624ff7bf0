-- Why a MOUNT is refused, by what is counted of the disks.
use Rattle.std.proofs.Common.{◌≡◌, ◌⊎◌, ⊎_elim, inl, inr, ℕ, zero, suc, ◌==◌, Bool, true, false, List, [], ◌∷◌, ◌++◌, length, Option, Some, None, refl, sym, ◌∙◌, ap, subst, arith}
use Rattle.std.specs.Prelude.{get_or, is_none, if◌then◌else◌}
use Rattle.std.specs.List.{list_any}
use Rattle.std.specs.Option.{option_map}
use Rattle.std.proofs.lemmas.Bool.{cases_Bool, eqb-true, false≢true, or_cases}
use Rattle.std.proofs.lemmas.List.Folds.{list_any-append}
use Rattle.std.proofs.lemmas.Option.{none-some, same_Some}
use Rattle.bay.specs.Image.{Image}
use Rattle.bay.specs.State.{BayState, IsSound}
use Rattle.asm_group.specs.Names.{Bytes}
use Rattle.asm_formats.specs.Among.{IsAmong}
use Rattle.asm_formats.specs.Header.{Header}
use Rattle.asm_world.specs.World.{Mounted, SessionEntry, SessionState, World, has_mounted, is_mounted}
use Rattle.session.specs.mounted_groups.Holding.{IsHeldSlot}
use Rattle.session.specs.mounted_groups.MountCauses.{AreElsewhere, ErrorCause, HasNamedDisk, IsMountRefused, Look, look}
use Rattle.session.specs.group_engine.Making.{dismounted_by}
use Rattle.session.specs.group_engine.Mounts.{IsOwn, IsWhole, MountedGroup, slot_at}
use Rattle.session.specs.group_engine.declared.attached.Attached.{Attached}
use Rattle.group_recovery.specs.declared.error.MountError.{MountError}
use Rattle.group_recovery.specs.declared.error.MountError.TheVariants as error
use Rattle.group_recovery.specs.declared.quorum.MountOption.{MountOption}
use Rattle.group_recovery.specs.declared.quorum.MountOption.TheVariants.{Force, NoForce}
use Rattle.group_recovery.specs.status_register.declared.member.Member.{Member}
use Rattle.session.specs.session_claims.Claims.{IsPaired, StandsFor}
use Rattle.session.specs.session_claims.Found.{HasNamed, HaveNames, IsNameFree}
use Rattle.session.proofs.session_claims.FoundMembers.{named_is_unmounted, pair_among}
use Rattle.session.specs.Entries.{AreAlike, by_disk}
use Rattle.session.specs.Sessions.{held_by, held_of, slots_in}
use Rattle.group_commands.specs.Mounting.{mount_said, option_of}
use Rattle.group_commands.proofs.MountWorld.{among_mounted}

-- ---- slots that mounted groups hold

-- a slot that is held is that of a group that no disk dismounted
record IsHolder (groups : List MountedGroup) (slot : ℕ) : Type 0 where
  pub group : MountedGroup
  pub among : IsAmong groups group
  pub on : dismounted_by group.access ≡ None
  pub slot_in : IsHeldSlot (slots_in group.disks) slot

holder : (groups : List MountedGroup) (slot : ℕ) → IsHeldSlot (held_by groups) slot → IsHolder groups slot
holder [] slot is = absurd (false≢true is)
holder (m ∷ groups) slot is = ⊎_elim
    (λ own. first (dismounted_by m.access) refl own)
    (λ more. let k = holder groups slot more in record { group = k.group; among = inr k.among; on = k.on; slot_in = k.slot_in })
    (or_cases (list_any (λ s. s == slot) (held_of m)) (list_any (λ s. s == slot) (held_by groups)) (sym (list_any-append (λ s. s == slot) (held_of m) (held_by groups)) ∙ is))
  where
    first : (by : Option ℕ) → dismounted_by m.access ≡ by → IsHeldSlot (held_of m) slot → IsHolder (m ∷ groups) slot
    first None on own =
        record { group = m; among = inl refl; on = on; slot_in = subst (λ (o : Option ℕ). IsHeldSlot (if is_none o then slots_in m.disks else []) slot) on own }
    first (Some disk) off own = absurd (false≢true (subst (λ (o : Option ℕ). IsHeldSlot (if is_none o then slots_in m.disks else []) slot) off own))

-- it is that of an attached disk
disk_at : (disks : List (Option Attached)) (slot : ℕ) → IsHeldSlot (slots_in disks) slot → (d : ℕ) × (slot_at disks d ≡ Some slot)
disk_at [] slot is = absurd (false≢true is)
disk_at (None ∷ disks) slot is = let k = disk_at disks slot is in (suc k.0, k.1)
disk_at (Some a ∷ disks) slot is = ⊎_elim
    (λ (here : (a.slot == slot) ≡ true). (zero, ap (λ (k : ℕ). Some k) (eqb-true a.slot slot here)))
    (λ later. let k = disk_at disks slot later in (suc k.0, k.1))
    (or_cases (a.slot == slot) (list_any (λ s. s == slot) (slots_in disks)) is)

own_slot : (m : MountedGroup) (slot : ℕ) → IsWhole m → IsHeldSlot (slots_in m.disks) slot → IsOwn m slot
own_slot m slot whole is =
    let k = disk_at m.disks slot is in
    by k.0 (get_or m.register.members k.0 None) refl (sym (whole.disks k.0) ∙ k.1)
  where
    by : (d : ℕ) (o : Option Member) → get_or m.register.members d None ≡ o → option_map (λ (x : Member). x.slot) (get_or m.register.members d None) ≡ Some slot → IsOwn m slot
    by d None at is_it = absurd (none-some slot (sym (ap (λ (o : Option Member). option_map (λ (x : Member). x.slot) o) at) ∙ is_it))
    by d (Some x) at is_it = (d, x, at, sym (same_Some x.slot slot (sym (ap (λ (o : Option Member). option_map (λ (x : Member). x.slot) o) at) ∙ is_it)))

-- a group has its entry
entry_for : (es : List SessionEntry) (groups : List MountedGroup) (m : MountedGroup) → length groups ≡ length es → IsAmong groups m → (e : SessionEntry) × IsPaired es groups e m
entry_for es [] m same among = absurd among
entry_for [] (x ∷ groups) m same among = absurd (omega (arith, same))
entry_for (e ∷ es) (x ∷ groups) m same among = ⊎_elim
    (λ (here : m ≡ x). (e, inl (refl, here)))
    (λ later. let k = entry_for es groups m (omega (arith, same)) later in (k.0, inr k.1))
    among

-- ---- an id of the name is none of those

module _ (n : ℕ) (known : ℕ → Bool) (given : ℕ) (s t : BayState) (w : World) (groups : List MountedGroup) (name : Bytes) (sound : IsSound s) (stands : StandsFor n known given s w groups)
    (have : HaveNames w) (free : IsNameFree w name) (alike : AreAlike w.session groups) (x : Image) (holds : s.holds ≡ Some x) where
  has_named : (id : ℕ) → HasNamedDisk (look n s t x) name id → HasNamed n id name x
  has_named id named = record {
    slot = named.disk.slot;
    below = named.is.below;
    header = named.disk.header;
    is = named.is.header;
    member = named.member;
    named = named.named;
  }

  unmounted : (id : ℕ) → HasNamedDisk (look n s t x) name id → has_mounted w id ≡ false
  unmounted id named = named_is_unmounted n known given s w groups name id sound stands have free
      (λ y at. subst (λ (z : Image). HasNamed n id name z) (same_Some x y (sym holds ∙ at)) (has_named id named))

  pub elsewhere : AreElsewhere (look n s t x) name (held_by groups)
  elsewhere id slot named held_is member =
      let k = holder groups slot held_is in
      let p = entry_for w.session groups k.group stands.entries k.among in
      let state : p.0.state ≡ Mounted = alike p.0 k.group p.1 ∙ ap (λ (o : Option ℕ). by_disk k.group o) k.on in
      let on : is_mounted p.0 ≡ true = subst (λ (v : SessionState). is_mounted (record p.0 { state = v }) ≡ true) (sym state) refl in
      let it = stands.mounted p.0 k.group p.1 on in
      let there = (it.mounts.now.now x (sound.held x holds)).there slot ((it.mounts.own slot).1 (own_slot k.group slot it.mounts.whole k.slot_in)) in
      let header : member.0 ≡ there.0 = same_Some member.0 there.0 (sym member.1 ∙ there.1) in
      let same : p.0.id ≡ id = sym it.same ∙ sym there.2 ∙ ap (λ (h : Header). h.id) (sym header) ∙ member.2 in
      false≢true (sym (unmounted id named) ∙ subst (λ (i : ℕ). has_mounted w i ≡ true) same (among_mounted w.session p.0 (pair_among w.session groups p.0 k.group p.1) on))

-- ---- as it is said

unforced : (force : Bool) → option_of force ≡ NoForce → force ≡ false
unforced true is = absurd cc
unforced false is = refl

-- a cause is that of the refusal that says it
pub said_cause : (paths : List Bytes) (name : Bytes) (force : Bool) (l : Look) (e : MountError) → ErrorCause name (option_of force) e l → IsMountRefused paths name force (mount_said paths e) l
said_cause paths name force l error.NoGroup cause = cause
said_cause paths name force l error.TwoGroups cause = cause
said_cause paths name force l (error.NoMajority seen need) cause = cause
said_cause paths name force l (error.Damaged slot block) cause = (slot, refl, cause)
said_cause paths name force l error.DirectoriesLost cause = cause
said_cause paths name force l (error.MissingDisk number disk) cause = (unforced force cause.0, cause.1)
said_cause paths name force l (error.Dead slot disk) cause = cause
said_cause paths name force l error.NoMemory cause = tt
