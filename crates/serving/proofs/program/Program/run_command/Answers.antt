use Rattle.std.proofs.Common.{◌≡◌, refl, ap, arith, inl, []}
use Rattle.std.proofs.lemmas.Result.{err_from_is_err_and}
use Rattle.asm_world.specs.Run.{Resting}
use Rattle.disk_commands.specs.session.Sessions.{Knows, roster_of}
use Rattle.serving.proofs.Moves.{acts-unmarked, ends-answering, ends-expiring, ends-slicing}
use Rattle.serving.proofs.program.Program.run_command.Goals as goal

pub returns-in_err-reserve-clause-runs : goal.returns-in_err-reserve-clause-runs
returns-in_err-reserve-clause-runs g c = λ w below time knows.
    let p = err_from_is_err_and c.from_residual.result c.from_residual.ensures.1 in
    rw p.1 (record { w' = w; below' = below; phase = Resting; time' = time; commands = []; knows = knows; rests = tt; part = inl refl; acts = acts-unmarked _ _ w below Resting time _ _ _ _ _ _ _ _ c.reserve.ensures.items })

pub returns-in_err-expire_groups-clause-runs : goal.returns-in_err-expire_groups-clause-runs
returns-in_err-expire_groups-clause-runs g c = λ w below time knows.
    let p = err_from_is_err_and c.from_residual-in_err-expire_groups.result c.from_residual-in_err-expire_groups.ensures.1 in
    let roster_is : roster_of c.see.new.self ≡ roster_of c.args.self.now.desk.session = ap roster_of c.see.ensures in
    let knows_too : Knows c.see.new.self w below = rw c.see.ensures (record { entries_are = knows.entries_are; place_is = knows.place_is; below_is = knows.below_is; told = knows.told }) in
    let e = c.in_err-expire_groups.ensures.tells w below c.now-time.result knows_too in
    rw (p.1, p.2) (ends-expiring _ w below time c.now-time.result c.args.self.now _ c.now-time.ensures refl roster_is refl refl c.reserve.ensures.items refl refl _ c.expire_groups.new.self e)

pub returns-in_err-answer-clause-runs : goal.returns-in_err-answer-clause-runs
returns-in_err-answer-clause-runs g c = λ w below time knows.
    let p = err_from_is_err_and c.from_residual-in_err-answer.result c.from_residual-in_err-answer.ensures.1 in
    let roster_is : roster_of c.see.new.self ≡ roster_of c.args.self.now.desk.session = ap roster_of c.see.ensures in
    let knows_too : Knows c.see.new.self w below = rw c.see.ensures (record { entries_are = knows.entries_are; place_is = knows.place_is; below_is = knows.below_is; told = knows.told }) in
    let e = c.in_ok-expire_groups.ensures.tells w below c.now-time.result knows_too in
    let a = c.in_err-answer.ensures.answers e.w' e.below' c.now-time.result e.knows in
    rw (p.1, p.2) (ends-answering _ w below time c.now-time.result c.args.self.now _ c.now-time.ensures refl roster_is refl refl c.reserve.ensures.items refl refl c.expire_groups.new.self e c.expire_groups.ensures.paths _ c.answer.new.self a)

pub returns-clause-runs : goal.returns-clause-runs
returns-clause-runs g c = λ w below time knows.
    let roster_is : roster_of c.see.new.self ≡ roster_of c.args.self.now.desk.session = ap roster_of c.see.ensures in
    let knows_too : Knows c.see.new.self w below = rw c.see.ensures (record { entries_are = knows.entries_are; place_is = knows.place_is; below_is = knows.below_is; told = knows.told }) in
    let e = c.in_ok-expire_groups.ensures.tells w below c.now-time.result knows_too in
    let a = c.in_ok-answer.ensures.answers e.w' e.below' c.now-time.result e.knows in
    let s = c.slice_groups.ensures.tells a.w' a.below' c.now-time.result a.knows in
    ends-slicing _ w below time c.now-time.result c.args.self.now _ c.now-time.ensures refl roster_is refl refl c.reserve.ensures.items refl refl c.expire_groups.new.self e c.expire_groups.ensures.paths c.answer.new.self a c.answer.ensures.paths
    c.slice_groups.result c.slice_groups.new.self s

pub answer-requires-clause-room : goal.answer-requires-clause-room
answer-requires-clause-room g c = rw c.expire_groups.ensures.marks_stay (omega (arith, c.reserve.ensures.len, c.in_ok-reserve.ensures.ok))
