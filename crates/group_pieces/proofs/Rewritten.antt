-- A group stays mounted over calls on users' bytes.
use Rattle.std.proofs.Common.{◌≡◌, inl, ⊎_elim, ℕ, [], ap, ◌∙◌, Some, arith}
use Rattle.bay.specs.Image as bay
use Rattle.bay.specs.Image.{ChangesOnly}
use Rattle.bay.specs.State.{BayState}
use Rattle.asm_group.specs.Group.{Group}
use Rattle.record_laws.specs.status_register.Elsewhere.{LeavesRegister}
use Rattle.record_laws.proofs.status_register.Elsewhere as registers
use Rattle.piece_laws.specs.Rewriting.{Rewrites}
use Rattle.piece_laws.proofs.Rewriting.{rewritten_is_described}
use Rattle.record_laws.specs.group_engine.Mounts.{MountedGroup, Represents}
use Rattle.group_pieces.specs.Bytes.{UserBytes}
use Rattle.group_pieces.specs.Held.{BytesMount}

-- a group with other bytes has the name and the shape
pub rewritten_name : (g h : Group) → Rewrites g h → h.name ≡ g.name
rewritten_name g h rewrites = ⊎_elim (λ same. ap (λ (k : Group). k.name) same) (λ w. ap (λ (k : Group). k.name) w.same) rewrites

pub rewritten_shape : (g h : Group) → Rewrites g h → h.shape ≡ g.shape
rewritten_shape g h rewrites = ⊎_elim (λ same. ap (λ (k : Group). k.shape) same) (λ w. ap (λ (k : Group). k.shape) w.same) rewrites

pub rewritten_represents : (m : MountedGroup) (g h : Group) → Rewrites g h → Represents m g → Represents m h
rewritten_represents m g h rewrites is = record {
  name = rewritten_name g h rewrites ∙ is.name;
  shape = rewritten_shape g h rewrites ∙ is.shape;
  describes = λ items are. rewritten_is_described m.register.value items g h rewrites (is.describes items are);
}

-- the blocks in front of the directory regions stay
pub leaves_register : (m : MountedGroup) (n id : ℕ) (x y : bay.Image) → ChangesOnly (UserBytes m) x y → LeavesRegister n id x y
leaves_register m n id x y change slot lt = inl (record {
  size = change.size slot;
  byte = λ k low. change.byte slot k (λ user. omega (arith, low, user.1));
})

pub bytes_mount : (s t : BayState) → BytesMount s t
bytes_mount s t = λ n m g h kept mounts rewrites writes now. record {
  whole = mounts.whole;
  ready = writes.ready;
  represents = rewritten_represents m g h rewrites mounts.represents;
  own = mounts.own;
  completed = mounts.completed;
  begun = mounts.begun;
  register = registers.keeps_elsewhere n m.register (Some m.register.value) [] (λ x y change. leaves_register m n m.register.id x y change) writes.runs mounts.register;
  now = now;
}
