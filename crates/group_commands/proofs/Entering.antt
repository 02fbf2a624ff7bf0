-- A group is mounted into the session.
use Rattle.std.proofs.Common.{◌≡◌, ◌⊎◌, ⊎_elim, inl, inr, ℕ, ◌≤◌, List, [], ◌∷◌, ◌++◌, length, Ok, Err, refl, sym, ◌∙◌, ap, subst, arith}
use Rattle.bay.specs.State.{BayState}
use Rattle.bay.specs.declared.disk.Bay as Bay
use Rattle.bay.specs.declared.host.Host as Host
use Rattle.refusal_lines.specs.Refusals.{meaning_of}
use Rattle.refusal_lines.specs.declared.refusal.Refusal.{Refusal}
use Rattle.refusal_lines.specs.declared.refusal.Refusal.TheVariants as cause
use Rattle.asm_group.specs.Names.{Bytes}
use Rattle.asm_world.specs.World.{mounted_entry, without_entry}
use Rattle.session.specs.mounted_groups.Holding.{SparesHeld}
use Rattle.session.specs.mounted_groups.Leaving.{LeavesRefused, WasMounted}
use Rattle.session.specs.mounted_groups.Mounting.{IsMountCause, IsMountedBy}
use Rattle.session.specs.group_engine.Frames.{StaysAttached}
use Rattle.group_recovery.specs.declared.error.MountError.{MountError}
use Rattle.group_recovery.specs.declared.quorum.MountOption.{MountOption}
use Rattle.session.specs.group_engine.Mounts.{MountedGroup}
use Rattle.session.specs.Desks.{paths_on}
use Rattle.group_commands.specs.Mounting.{IsMountRefusal, MountsInto, mount_said}
use Rattle.session.specs.Sessions.{AreReady, SessionView, held_by, without_groups}
use Rattle.session.specs.declared.desk.Desk.{Desk}
use Rattle.session.proofs.Ready.{Covers, among_without, held_covers, joined_ready, left_ready, spared_ready}

-- with a group more, in place of one that leaves
replaced_ready : (session : SessionView) (name : Bytes) (m : MountedGroup) (held : List ℕ) {t : BayState} → Covers session.groups held → AreReady session.groups t → IsMountedBy name held m t
    → AreReady (without_groups session.entries session.groups m.name ++ m ∷ []) t
replaced_ready session name m held covers ready mounted =
    joined_ready (without_groups session.entries session.groups m.name) m held
    (λ other slot among on own. covers other slot (among_without session.entries session.groups m.name other among) on own)
    (left_ready session.entries session.groups m.name ready) (λ on. (mounted.whole, mounted.ready)) mounted.own

module _ {B H : Type 0} {bay : Bay.Ghosts B} {host : Host.Ghosts H} (name : Bytes) (option : MountOption) (old new : Desk B H bay host)
    (paths : paths_on new ≡ paths_on old) (stays : new.host ≡ old.host) (ready : AreReady old.session.groups (bay.state old.bay)) where
  -- want of memory before anything was done
  pub short_still : new.session ≡ old.session → new.bay ≡ old.bay → MountsInto name option (Err cause.NoMemory) old new
  short_still session same = record {
    paths = paths;
    host_stays = stays;
    place = ap (λ (s : SessionView). s.place) session;
    ready = rw (session, same) ready;
    calls = rw same (omega arith);
    past = λ m image before left. rw (← same) left;
    attached = rw same (record { stays = λ slot size at. at });
    entered = tt;
    refused = inr refl;
  }

  abbrev s : BayState
  s = bay.state old.bay

  abbrev t : BayState
  t = bay.state new.bay

  abbrev slots : ℕ
  slots = length old.paths.items

  abbrev own : List ℕ
  own = held_by old.session.groups

  -- what the disks went through
  module _ (held : List ℕ) (n : ℕ) (held_is : held ≡ own) (n_is : n ≡ slots) (attached : StaysAttached s t) (spares : SparesHeld held n s t) where
    covers : Covers old.session.groups held
    covers = held_covers old.session.groups held held_is ready

    others_ready : AreReady old.session.groups t
    others_ready = spared_ready old.session.groups held n covers ready (λ slot size held_at at. attached.stays slot size at) spares

    -- why the group wasn't mounted, by the slots that are held and the paths as the calls had them
    pub mount_refusal : (seen : List Bytes) (refusal : Refusal) (error : MountError) → seen ≡ paths_on old → IsMountCause bay.state name n held option s t error
        → LeavesRefused bay.state name n held option s t error
        → meaning_of (λ _. []) refusal ≡ mount_said seen error → IsMountRefusal name option old new refusal
    mount_refusal seen refusal error seen_is why left says = record {
      error_is = error;
      cause_is = subst (λ (k : ℕ). IsMountCause bay.state name k own option s t error) n_is (subst (λ (l : List ℕ). IsMountCause bay.state name n l option s t error) held_is why);
      leaves = subst (λ (k : ℕ). LeavesRefused bay.state name k own option s t error) n_is (subst (λ (l : List ℕ). LeavesRefused bay.state name n l option s t error) held_is left);
      says = says ∙ ap (λ (ps : List Bytes). mount_said ps error) seen_is;
    }

    pub refused_after : (refusal : Refusal) → new.session ≡ old.session → IsMountRefusal name option old new refusal → MountsInto name option (Err refusal) old new
    refused_after refusal session why = record {
      paths = paths;
      host_stays = stays;
      place = ap (λ (v : SessionView). v.place) session;
      ready = rw session others_ready;
      calls = spares.later;
      past = λ m image before left. (spares.ended m image before).0 left;
      attached = attached;
      entered = tt;
      refused = inl (session, why);
    }

    -- want of memory, where the group of the name may have left
    pub short_after : (left : Bytes) → new.session.place ≡ old.session.place
        → (new.session.groups ≡ old.session.groups) ⊎ (new.session.groups ≡ without_groups old.session.entries old.session.groups left) → MountsInto name option (Err cause.NoMemory) old new
    short_after left place groups = record {
      paths = paths;
      host_stays = stays;
      place = place;
      ready = ⊎_elim
          (λ same. subst (λ (l : List MountedGroup). AreReady l t) (sym same) others_ready)
          (λ gone. subst (λ (l : List MountedGroup). AreReady l t) (sym gone) (left_ready old.session.entries old.session.groups left others_ready))
          groups;
      calls = spares.later;
      past = λ m image before left_is. (spares.ended m image before).0 left_is;
      attached = attached;
      entered = tt;
      refused = inr refl;
    }

    pub entered_after : (m : MountedGroup) → IsMountedBy name held m t → WasMounted bay.state name n held option m s t → new.session.place ≡ old.session.place → old.session.given ≤ new.session.given
        → new.session.entries ≡ without_entry old.session.entries m.name ++ mounted_entry m.name m.register.value.id ∷ []
        → new.session.groups ≡ without_groups old.session.entries old.session.groups m.name ++ m ∷ [] → MountsInto name option (Ok tt) old new
    entered_after m mounted mounts place given entries groups = record {
      paths = paths;
      host_stays = stays;
      place = place;
      ready = rw groups (replaced_ready old.session name m held covers others_ready mounted);
      calls = spares.later;
      past = λ i image before left. (spares.ended i image before).0 left;
      attached = attached;
      entered = record {
        group = m;
        is = subst (λ (l : List ℕ). IsMountedBy name l m t) held_is mounted;
        mounts = subst (λ (k : ℕ). WasMounted bay.state name k own option m s t) n_is (subst (λ (l : List ℕ). WasMounted bay.state name n l option m s t) held_is mounts);
        entries = entries;
        groups = groups;
        given = given;
      };
      refused = tt;
    }
