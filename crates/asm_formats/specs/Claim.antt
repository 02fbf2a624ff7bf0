-- The claim of an epoch.
use Rattle.std.specs.Prelude.{ℕ, ◌^◌, Bool, ◌&&◌, ◌++◌, drop, nat_lt, codes, Option}
use Rattle.std.specs.Int.{w64}
use Rattle.asm_group.specs.Names.{Bytes}
use Rattle.asm_formats.specs.Bytes.{number_bytes, whole_block, number_at, spelled_by}

pub record Claim : Type 0 where
  pub id : ℕ
  pub epoch : ℕ

-- the claim's one spelling
unfoldable pub claim_spelling : Claim → Bytes
claim_spelling c = whole_block (codes "ASMC" ++ (number_bytes w64 c.id ++ number_bytes w64 c.epoch))

unfoldable pub is_claim : Claim → Bool
is_claim c = nat_lt c.id (2 ^ 64) && nat_lt c.epoch (2 ^ 64)

unfoldable pub claim_at : Bytes → Claim
claim_at bytes =
    let id = number_at w64 (drop 4 bytes) in
    let epoch = number_at w64 id.1 in
    record { id = id.0; epoch = epoch.0 }

-- the claim that the bytes are the spelling of
unfoldable pub decoded_claim : Bytes → Option Claim
decoded_claim bytes = spelled_by is_claim claim_spelling bytes (claim_at bytes)
