-- What a refusal says, in other words.
use Rattle.std.proofs.Common.{ℕ, Option, Some, None}
use Rattle.std.specs.Prelude.{Result, Ok, Err, IfErr, IfSome}
use Rattle.change_directory.specs.declared.loading.LoadFault.{LoadFault}
use Rattle.change_directory.specs.Loads.{damaged_block}

block_weaker : (o : Option ℕ) (P Q : ℕ → Type 0) → ((b : ℕ) → P b → Q b) → IfSome o P → IfSome o Q
block_weaker None P Q f p = p
block_weaker (Some b) P Q f p = f b p

pub damage_weaker : {A : Type 0} (r : Result A LoadFault) (P Q : ℕ → Type 0) → ((b : ℕ) → P b → Q b) → IfErr r (λ e. IfSome (damaged_block e) P) → IfErr r (λ e. IfSome (damaged_block e) Q)
damage_weaker (Ok x) P Q f p = p
damage_weaker (Err e) P Q f p = block_weaker (damaged_block e) P Q f p

pub damage_of_err : (e : LoadFault) (P Q : ℕ → Type 0) → ((b : ℕ) → P b → Q b) → IfSome (damaged_block e) P → IfSome (damaged_block e) Q
damage_of_err e P Q f p = block_weaker (damaged_block e) P Q f p
