use Rattle.status_register.proofs.Seeing.{claim_row_member}
use Rattle.status_register.proofs.laws.claims_keep_members.Goals as goal

pub returns : goal.returns
returns c = λ slots id claim ms x y allowed inside long row m on. claim_row_member slots id claim allowed ms inside x y long row m on
