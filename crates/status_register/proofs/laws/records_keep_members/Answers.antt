use Rattle.status_register.proofs.Seeing.{row_member}
use Rattle.status_register.proofs.laws.records_keep_members.Goals as goal

pub returns : goal.returns
returns c = λ slots id r ms x y allowed inside long row m on. row_member slots id r allowed ms inside x y long row m on
