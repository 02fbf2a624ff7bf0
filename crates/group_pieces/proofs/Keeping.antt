-- What calls on the users' bytes keep of a mounted group, on every bay.
use Rattle.std.proofs.Common.{◌≡◌, inl, ◌∙◌, ℕ, ◌*◌, refl, ap, arith}
use Rattle.bay.specs.Image as bay
use Rattle.bay.specs.Image.{ChangesOnly, Same}
use Rattle.bay.specs.State.{BayState, IsSound, KeepsAttached}
use Rattle.bay.specs.Moments.{Runs}
use Rattle.bay.proofs.Calls.{on_more, started, widened}
use Rattle.bay.proofs.Images.{changes-same, same-refl}
use Rattle.asm_formats.specs.Bytes.{block_size}
use Rattle.asm_formats.specs.Regions.{region_end}
use Rattle.record_laws.proofs.directory_store.Storing.{keeps_elsewhere}
use Rattle.record_laws.proofs.status_register.Elsewhere as register_proofs
use Rattle.asm_group.specs.Group.{Group}
use Rattle.asm_images.specs.Kept.{Kept}
use Rattle.record_laws.specs.group_engine.Mounts.{IsOwn, IsReady, IsWhole, MountedGroup, Mounts}
use Rattle.record_laws.specs.group_engine.Own.{KeepsGroup}
use Rattle.record_laws.proofs.group_engine.Causes.{same_itself}
use Rattle.record_laws.proofs.group_engine.Elsewhere.{mounts_elsewhere, stays_attached}
use Rattle.group_pieces.specs.Bytes.{UserBytes, WritesBytes}
use Rattle.group_pieces.specs.Reads.{ReadsGroup}

-- the group takes the next call after calls that leave its metadata
pub ready_kept : (m : MountedGroup) {s t : BayState} {on : ℕ → Type 0} → IsWhole m → IsReady m s → KeepsAttached s t → Runs on (ChangesOnly (UserBytes m)) s t → IsReady m t
ready_kept m {s} {t} {on} whole ready attached run = record {
  store = keeps_elsewhere m.store
      (λ x y c among from. record {
        size = from.size c.slot;
        bytes = λ k low high. from.byte c.slot k (λ user.
            let pages : region_end c.dir_blocks * block_size ≡ region_end m.catalog.shape.dir_blocks * block_size = ap (λ (n : ℕ). region_end n * block_size) (whole.copies.each c among).pages in
            omega (arith, high, pages, user.1));
      })
      attached run ready.store;
  register = register_proofs.ready_elsewhere m.register attached ready.register;
  sizes = λ d a is. attached.same a.slot ∙ ready.sizes d a is;
}

-- no call
pub no_reads : (m : MountedGroup) (s : BayState) → IsReady m s → ReadsGroup m s s
no_reads m s ready = record {
  attached = record { same = λ slot. refl };
  runs = started same-refl;
  ready = ready;
}

-- calls that change nothing
pub reads_group : (m : MountedGroup) (s t : BayState) (slots : ℕ → Type 0) → IsWhole m → IsReady m s → ((slot : ℕ) → slots slot → IsOwn m slot) → KeepsAttached s t → Runs slots Same s t
    → ReadsGroup m s t
reads_group m s t slots whole ready own attached run = record {
  attached = attached;
  runs = on_more own run;
  ready = ready_kept m whole ready attached (widened (λ x y same. changes-same (UserBytes m) x y same) run);
}

-- calls that change user bytes alone
pub writes_bytes : (m : MountedGroup) (s t : BayState) (slots : ℕ → Type 0) (region : ℕ → ℕ → Type 0) → IsWhole m → IsReady m s → ((slot : ℕ) → slots slot → IsOwn m slot)
    → ((slot k : ℕ) → region slot k → UserBytes m slot k) → ((x y : bay.Image) → ChangesOnly region x y → ChangesOnly (UserBytes m) x y) → KeepsAttached s t → Runs slots (ChangesOnly region) s t
    → WritesBytes m region s t
writes_bytes m s t slots region whole ready own user wide attached run = record {
  attached = attached;
  runs = on_more own run;
  user = user;
  ready = ready_kept m whole ready attached (widened wide run);
}

-- a group that was read is the same
pub reads_keep : (m : MountedGroup) (s t : BayState) → IsWhole m → ReadsGroup m s t → KeepsGroup m m s t
reads_keep m s t whole reads = record {
  same = same_itself m;
  attached = reads.attached;
  runs = widened (λ x y same. record { size = same.size; byte = λ slot k other. same.byte slot k }) reads.runs;
  whole = λ mounted. whole;
  ready = λ mounted. reads.ready;
}

-- a group of which user bytes changed is the same
pub writes_keep : (m : MountedGroup) (s t : BayState) (region : ℕ → ℕ → Type 0) → IsWhole m → WritesBytes m region s t → KeepsGroup m m s t
writes_keep m s t region whole writes = record {
  same = same_itself m;
  attached = writes.attached;
  runs = widened (λ x y change. record { size = change.size; byte = λ slot k other. change.byte slot k (λ inside. other (writes.user slot k inside).0) }) writes.runs;
  whole = λ mounted. whole;
  ready = λ mounted. writes.ready;
}

-- the group stays mounted over calls that change nothing
pub still_mounted : (n : ℕ) (m : MountedGroup) (s t : BayState) (g : Group) (kept : Kept) (on : ℕ → Type 0) → IsSound s → KeepsAttached s t → Runs on Same s t → Mounts n m s g kept → Mounts n m t g kept
still_mounted n m s t g kept on sound attached run mounts =
    mounts_elsewhere n m s t g kept sound mounts (stays_attached attached) run (λ x y same slot. inl (record { size = same.size slot; byte = λ k. same.byte slot k }))
