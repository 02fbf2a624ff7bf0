-- The numbers that stand for words in a body.
use Rattle.std.specs.Prelude.{ℕ, Bool, if◌then◌else◌, ◌==◌}
use Rattle.asm_group.specs.declared.GroupKind.{GroupKind}
use Rattle.asm_group.specs.declared.GroupKind.TheVariants.{External, Normal, High}
use Rattle.asm_group.specs.declared.Stripe.{Stripe}
use Rattle.asm_group.specs.declared.Stripe.TheVariants.{Coarse, Fine}
use Rattle.asm_group.specs.declared.Mode.{Mode}
use Rattle.asm_group.specs.declared.Mode.TheVariants.{Online, Offline, Syncing, Dropping, Forced}
use Rattle.asm_group.specs.declared.NodeKind.{NodeKind}
use Rattle.asm_group.specs.declared.NodeKind.TheVariants.{Directory, System, Alias}
use Rattle.asm_group.specs.declared.PendingKind.{PendingKind}
use Rattle.asm_group.specs.declared.PendingKind.TheVariants.{Create, Remove, Grow, Shrink}

abbrev pub flag : Bool → ℕ
flag b = if b then 1 else 0

abbrev pub kind_code : GroupKind → ℕ
kind_code External = 1
kind_code Normal = 2
kind_code High = 3

abbrev pub group_kind_of : ℕ → GroupKind
group_kind_of n = if n == 1 then External else if n == 2 then Normal else High

abbrev pub stripe_code : Stripe → ℕ
stripe_code Coarse = 1
stripe_code Fine = 2

abbrev pub stripe_of_code : ℕ → Stripe
stripe_of_code n = if n == 1 then Coarse else Fine

abbrev pub mode_code : Mode → ℕ
mode_code Online = 1
mode_code Offline = 2
mode_code Syncing = 3
mode_code Dropping = 4
mode_code Forced = 5

abbrev pub mode_of : ℕ → Mode
mode_of n = if n == 1 then Online else if n == 2 then Offline else if n == 3 then Syncing else if n == 4 then Dropping else Forced

abbrev pub node_code : NodeKind → ℕ
node_code Directory = 1
node_code System = 2
node_code Alias = 3

abbrev pub node_kind_of : ℕ → NodeKind
node_kind_of n = if n == 1 then Directory else if n == 2 then System else Alias

abbrev pub pending_code : PendingKind → ℕ
pending_code Create = 1
pending_code Remove = 2
pending_code Grow = 3
pending_code Shrink = 4

abbrev pub pending_kind_of : ℕ → PendingKind
pending_kind_of n = if n == 1 then Create else if n == 2 then Remove else if n == 3 then Grow else Shrink
