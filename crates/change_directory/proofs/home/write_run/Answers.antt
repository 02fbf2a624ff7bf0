use Rattle.std.proofs.Common.{◌≡◌, ◌+◌, ◌*◌, ◌≤◌, length, take, arith, length-take}
use Rattle.std.proofs.lemmas.Result.{on_ok_weaker}
use Rattle.bay.proofs.Calls.{widened}
use Rattle.bay.proofs.OneCall.{call_of_parts}
use Rattle.change_directory.specs.Homes.{first_number}
use Rattle.change_directory.proofs.Homing.{holds_less, row_changes, row_homed}
use Rattle.change_directory.proofs.home.write_run.Goals as goal

pub returns : goal.returns
returns g c =
    let few : length c.args.run.now ≤ 64 = c.requires.few in
    let place : (10 + c.first_page.result) * 4096 ≡ (10 + first_number c.args.run.now) * 4096 = omega (arith, c.first_page.ensures) in
    let long : length (take (length c.args.run.now * 4096) c.gather.new.to) ≡ length c.args.run.now * 4096 = simp length-take (omega arith) in
    let homed = row_homed c.args.copy c.args.run.now c.requires.row _ _ place long c.gather.ensures.blocks c.gather.ensures.gathered in
    call_of_parts 1 (length c.args.run.now * 4096) c.write.ensures.attached (omega (arith, c.write.ensures.count)) (omega (arith, c.write.ensures.written, long))
    (widened (row_changes c.args.copy c.args.run.now c.requires.row _ _ place long) c.write.ensures.runs)
    (on_ok_weaker c.write.result (holds_less homed) c.write.ensures.done) c.write.ensures.cause
