use Rattle.std.proofs.Common.{refl}
use Rattle.std.specs.Fmt.{digits}
use Rattle.asm_world.proofs.texts.text_rows.Goals as goal

pub returns : goal.returns
unfolding digits
returns c = record { ok = refl; first_file = refl; taken = refl; syntax = refl; under_wait = refl; done_under_wait = refl; short_ok = refl; short_refusal = refl; read = refl; read_in_the_middle = refl; read_nothing = refl; more = refl; finished = refl; lost = refl; move_fault = refl; move_ends = refl; online = refl; left = refl; sync_more = refl; sync_fault = refl; sync_ends = refl; expired = refl; expiry_ends = refl }
