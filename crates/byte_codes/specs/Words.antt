-- The reading of a field of one byte whose number stands for a word.
use Rattle.std.specs.Prelude.{ℕ, zero, suc, Option, Some, None}
use Rattle.asm_group.specs.declared.GroupKind.{GroupKind}
use Rattle.asm_group.specs.declared.GroupKind.TheVariants.{External, Normal, High}
use Rattle.asm_group.specs.declared.Mode.{Mode}
use Rattle.asm_group.specs.declared.Mode.TheVariants.{Online, Offline, Syncing, Dropping, Forced}
use Rattle.asm_group.specs.declared.Stripe.{Stripe}
use Rattle.asm_group.specs.declared.Stripe.TheVariants.{Coarse, Fine}
use Rattle.asm_group.specs.declared.NodeKind.{NodeKind}
use Rattle.asm_group.specs.declared.NodeKind.TheVariants.{Directory, System, Alias}
use Rattle.asm_group.specs.declared.PendingKind.{PendingKind}
use Rattle.asm_group.specs.declared.PendingKind.TheVariants.{Create, Remove, Grow, Shrink}
use Rattle.asm_base.specs.Readings.{Reading, decoded, byte_reading}

abbrev pub known_kind : ℕ → Option GroupKind
known_kind zero = None
known_kind (suc zero) = Some External
known_kind (suc (suc zero)) = Some Normal
known_kind (suc (suc (suc zero))) = Some High
known_kind (suc (suc (suc (suc n)))) = None

abbrev pub kind_reading : Reading GroupKind
kind_reading = decoded known_kind byte_reading

abbrev pub known_mode : ℕ → Option Mode
known_mode zero = None
known_mode (suc zero) = Some Online
known_mode (suc (suc zero)) = Some Offline
known_mode (suc (suc (suc zero))) = Some Syncing
known_mode (suc (suc (suc (suc zero)))) = Some Dropping
known_mode (suc (suc (suc (suc (suc zero))))) = Some Forced
known_mode (suc (suc (suc (suc (suc (suc n)))))) = None

abbrev pub mode_reading : Reading Mode
mode_reading = decoded known_mode byte_reading

abbrev pub known_stripe : ℕ → Option Stripe
known_stripe zero = None
known_stripe (suc zero) = Some Coarse
known_stripe (suc (suc zero)) = Some Fine
known_stripe (suc (suc (suc n))) = None

abbrev pub stripe_reading : Reading Stripe
stripe_reading = decoded known_stripe byte_reading

abbrev pub known_node_kind : ℕ → Option NodeKind
known_node_kind zero = None
known_node_kind (suc zero) = Some Directory
known_node_kind (suc (suc zero)) = Some System
known_node_kind (suc (suc (suc zero))) = Some Alias
known_node_kind (suc (suc (suc (suc n)))) = None

abbrev pub node_kind_reading : Reading NodeKind
node_kind_reading = decoded known_node_kind byte_reading

abbrev pub known_pending_kind : ℕ → Option PendingKind
known_pending_kind zero = None
known_pending_kind (suc zero) = Some Create
known_pending_kind (suc (suc zero)) = Some Remove
known_pending_kind (suc (suc (suc zero))) = Some Grow
known_pending_kind (suc (suc (suc (suc zero)))) = Some Shrink
known_pending_kind (suc (suc (suc (suc (suc n))))) = None

abbrev pub pending_kind_reading : Reading PendingKind
pending_kind_reading = decoded known_pending_kind byte_reading
