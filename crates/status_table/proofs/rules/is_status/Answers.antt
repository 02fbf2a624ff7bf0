use Rattle.std.proofs.Common.{◌∙◌, arith}
use Rattle.status_table.proofs.Allowed.{passes_is}
use Rattle.status_table.proofs.rules.is_status.Goals as goal

pub returns : goal.returns
returns c =
    c.passes.ensures
    ∙ rw c.entries.ensures.entries (passes_is c.status.view_is (record { id = omega arith; epoch = omega arith; turn = omega arith; births = omega arith; holders = c.bits-holders.ensures.small; next_holders = c.bits-next_holders.ensures.small; directories = c.bits-dirs.ensures.small }))
