use Rattle.std.proofs.Common.{length, map, [], ap, Err, arith}
use Rattle.std.specs.String.{string_bytes}
use Rattle.std.proofs.lemmas.List.{length-map}
use Rattle.std.proofs.lemmas.Result.{err_from_is_err_and}
use Rattle.bay.specs.declared.fault.BayError.{BayError}
use Rattle.refusal_lines.specs.Refusals.{meaning_of}
use Rattle.mounted_groups.specs.Found.{counts_of}
use Rattle.mounted_groups.proofs.Makes.{failed_cause, held_cause, is_made, looked_held, looked_spares, looks_stay, made_spares, made_spares_held, made_stays, no_slot_cause, not_free, nothing_changed, nothing_held, nothing_made, was_free}
use Rattle.mounted_groups.proofs.Spared.{free_of}
use Rattle.mounted_groups.proofs.making.create_disk.Goals as goal

pub bounds-paths-slot : goal.bounds-paths-slot
bounds-paths-slot g c =
    omega (arith, c.in-Some.ensures.below, length-map c.args.paths.now string_bytes)

pub returns-in_default-clause-cause : goal.returns-in_default-clause-cause
returns-in_default-clause-cause g c =
    no_slot_cause (map string_bytes c.args.paths.now) c.args.path.now c.args.held.now (meaning_of (λ any. []) c.no_disk.result) (counts_of (g.B.Bay.state c.args.bay.now)) c.in_default.ensures c.no_disk.ensures

pub returns-in_default-clause-attached : goal.returns-in_default-clause-attached
returns-in_default-clause-attached g c =
    nothing_made (map string_bytes c.args.paths.now) c.args.path.now c.args.held.now (g.B.Bay.state c.args.bay.now)

pub returns-in_default-clause-spares : goal.returns-in_default-clause-spares
returns-in_default-clause-spares g c =
    nothing_changed (map string_bytes c.args.paths.now) c.args.path.now c.args.held.now (length c.args.paths.now) (g.B.Bay.state c.args.bay.now)

pub returns-in_default-clause-held : goal.returns-in_default-clause-held
returns-in_default-clause-held g c =
    nothing_held (map string_bytes c.args.paths.now) c.args.path.now c.args.held.now (length c.args.paths.now) (g.B.Bay.state c.args.bay.now)

pub returns-then-is_held-clause-cause : goal.returns-then-is_held-clause-cause
returns-then-is_held-clause-cause g c =
    held_cause (map string_bytes c.args.paths.now) c.args.path.now c.args.held.now c.in-Some.slot c.in-Some.ensures (meaning_of (λ any. []) c.disk_taken.result) (counts_of (g.B.Bay.state c.args.bay.now)) c.is_held.result c.is_held.ensures c.if-is_held.true c.disk_taken.ensures

pub returns-then-is_held-clause-attached : goal.returns-then-is_held-clause-attached
returns-then-is_held-clause-attached g c =
    nothing_made (map string_bytes c.args.paths.now) c.args.path.now c.args.held.now (g.B.Bay.state c.args.bay.now)

pub returns-then-is_held-clause-spares : goal.returns-then-is_held-clause-spares
returns-then-is_held-clause-spares g c =
    nothing_changed (map string_bytes c.args.paths.now) c.args.path.now c.args.held.now (length c.args.paths.now) (g.B.Bay.state c.args.bay.now)

pub returns-then-is_held-clause-held : goal.returns-then-is_held-clause-held
returns-then-is_held-clause-held g c =
    nothing_held (map string_bytes c.args.paths.now) c.args.path.now c.args.held.now (length c.args.paths.now) (g.B.Bay.state c.args.bay.now)

pub returns-in_default-look_at-clause-cause : goal.returns-in_default-look_at-clause-cause
unfolding meaning_of
returns-in_default-look_at-clause-cause g c = tt

pub returns-in_default-look_at-clause-attached : goal.returns-in_default-look_at-clause-attached
returns-in_default-look_at-clause-attached g c =
    looks_stay (map string_bytes c.args.paths.now) c.args.path.now c.args.held.now c.in-Some.slot c.in-Some.ensures c.look_at.ensures.looks

pub returns-in_default-look_at-clause-spares : goal.returns-in_default-look_at-clause-spares
returns-in_default-look_at-clause-spares g c =
    looked_spares (map string_bytes c.args.paths.now) c.args.path.now c.args.held.now c.in-Some.slot c.in-Some.ensures (length c.args.paths.now) (omega (arith, c.in-Some.ensures.below, length-map c.args.paths.now string_bytes)) c.look_at.ensures.looks

pub returns-in_default-look_at-clause-held : goal.returns-in_default-look_at-clause-held
returns-in_default-look_at-clause-held g c =
    looked_held (map string_bytes c.args.paths.now) c.args.path.now c.args.held.now c.in-Some.slot c.in-Some.ensures (length c.args.paths.now) (omega (arith, c.in-Some.ensures.below, length-map c.args.paths.now string_bytes)) c.look_at.ensures.looks

pub returns-in_err-check_free-clause-cause : goal.returns-in_err-check_free-clause-cause
returns-in_err-check_free-clause-cause g c =
    let f = err_from_is_err_and c.from_residual.result c.from_residual.ensures.1 in
    rw (f.1, f.2) (not_free (map string_bytes c.args.paths.now) c.args.path.now c.args.held.now c.in-Some.slot c.in-Some.ensures (g.B.Bay.state c.args.bay.now) (g.B.Bay.state c.look_at.new.bay) c.in-Ok.looked (meaning_of (λ any. []) c.in_err-check_free.field-0.0) (g.met.B.Bay.sound c.look_at.new.bay) c.look_at.ensures.looks c.in-Ok.ensures.looked c.in_err-check_free.ensures.cause)

pub returns-in_err-check_free-clause-attached : goal.returns-in_err-check_free-clause-attached
returns-in_err-check_free-clause-attached g c =
    looks_stay (map string_bytes c.args.paths.now) c.args.path.now c.args.held.now c.in-Some.slot c.in-Some.ensures c.look_at.ensures.looks

pub returns-in_err-check_free-clause-spares : goal.returns-in_err-check_free-clause-spares
returns-in_err-check_free-clause-spares g c =
    looked_spares (map string_bytes c.args.paths.now) c.args.path.now c.args.held.now c.in-Some.slot c.in-Some.ensures (length c.args.paths.now) (omega (arith, c.in-Some.ensures.below, length-map c.args.paths.now string_bytes)) c.look_at.ensures.looks

pub returns-in_err-check_free-clause-held : goal.returns-in_err-check_free-clause-held
returns-in_err-check_free-clause-held g c =
    looked_held (map string_bytes c.args.paths.now) c.args.path.now c.args.held.now c.in-Some.slot c.in-Some.ensures (length c.args.paths.now) (omega (arith, c.in-Some.ensures.below, length-map c.args.paths.now string_bytes)) c.look_at.ensures.looks

pub returns-in-Ok-make-clause-made : goal.returns-in-Ok-make-clause-made
returns-in-Ok-make-clause-made g c =
    is_made (map string_bytes c.args.paths.now) c.args.path.now c.args.held.now c.in-Some.slot c.in-Some.ensures c.args.size (free_of c.args.held.now c.in-Some.slot c.is_held.result c.is_held.ensures c.if-is_held.false)
    (was_free (map string_bytes c.args.paths.now) c.args.path.now c.args.held.now c.in-Some.slot c.in-Some.ensures (g.B.Bay.state c.args.bay.now) (g.B.Bay.state c.look_at.new.bay) (g.B.Bay.state c.make.new.self) c.in-Ok.looked (g.met.B.Bay.sound c.look_at.new.bay) c.look_at.ensures.looks c.in-Ok.ensures.looked c.in_ok-check_free.ensures.free c.make.ensures.runs)
    c.look_at.ensures.looks c.in-Ok-make.ensures.done.attached c.in-Ok-make.ensures.done.zeros

pub returns-in-Ok-make-clause-attached : goal.returns-in-Ok-make-clause-attached
returns-in-Ok-make-clause-attached g c =
    made_stays (map string_bytes c.args.paths.now) c.args.path.now c.args.held.now c.in-Some.slot c.in-Some.ensures (free_of c.args.held.now c.in-Some.slot c.is_held.result c.is_held.ensures c.if-is_held.false) c.look_at.ensures.looks c.make.ensures.others

pub returns-in-Ok-make-clause-spares : goal.returns-in-Ok-make-clause-spares
returns-in-Ok-make-clause-spares g c =
    made_spares (map string_bytes c.args.paths.now) c.args.path.now c.args.held.now c.in-Some.slot c.in-Some.ensures (free_of c.args.held.now c.in-Some.slot c.is_held.result c.is_held.ensures c.if-is_held.false) (length c.args.paths.now) (omega (arith, c.in-Some.ensures.below, length-map c.args.paths.now string_bytes)) c.look_at.ensures.looks c.make.ensures.runs

pub returns-in-Ok-make-clause-held : goal.returns-in-Ok-make-clause-held
returns-in-Ok-make-clause-held g c =
    made_spares_held (map string_bytes c.args.paths.now) c.args.path.now c.args.held.now c.in-Some.slot c.in-Some.ensures (free_of c.args.held.now c.in-Some.slot c.is_held.result c.is_held.ensures c.if-is_held.false) (length c.args.paths.now) (omega (arith, c.in-Some.ensures.below, length-map c.args.paths.now string_bytes)) c.look_at.ensures.looks c.make.ensures.runs

pub returns-in-Err-Fault-clause-cause : goal.returns-in-Err-Fault-clause-cause
returns-in-Err-Fault-clause-cause g c =
    failed_cause (map string_bytes c.args.paths.now) c.args.path.now c.args.held.now c.in-Some.slot c.in-Some.ensures (meaning_of (λ any. []) c.no_disk-in-Err-Fault.result) (g.B.Bay.state c.args.bay.now) (g.B.Bay.state c.look_at.new.bay) (g.B.Bay.state c.make.new.self) c.look_at.ensures.looks (c.in-Err-Fault.ensures.cause (ap (λ (e : BayError). Err e) c.in-Err-Fault.field-0-is)) c.no_disk-in-Err-Fault.ensures

pub returns-in-Err-Fault-clause-attached : goal.returns-in-Err-Fault-clause-attached
returns-in-Err-Fault-clause-attached g c =
    made_stays (map string_bytes c.args.paths.now) c.args.path.now c.args.held.now c.in-Some.slot c.in-Some.ensures (free_of c.args.held.now c.in-Some.slot c.is_held.result c.is_held.ensures c.if-is_held.false) c.look_at.ensures.looks c.make.ensures.others

pub returns-in-Err-Fault-clause-spares : goal.returns-in-Err-Fault-clause-spares
returns-in-Err-Fault-clause-spares g c =
    made_spares (map string_bytes c.args.paths.now) c.args.path.now c.args.held.now c.in-Some.slot c.in-Some.ensures (free_of c.args.held.now c.in-Some.slot c.is_held.result c.is_held.ensures c.if-is_held.false) (length c.args.paths.now) (omega (arith, c.in-Some.ensures.below, length-map c.args.paths.now string_bytes)) c.look_at.ensures.looks c.make.ensures.runs

pub returns-in-Err-Fault-clause-held : goal.returns-in-Err-Fault-clause-held
returns-in-Err-Fault-clause-held g c =
    made_spares_held (map string_bytes c.args.paths.now) c.args.path.now c.args.held.now c.in-Some.slot c.in-Some.ensures (free_of c.args.held.now c.in-Some.slot c.is_held.result c.is_held.ensures c.if-is_held.false) (length c.args.paths.now) (omega (arith, c.in-Some.ensures.below, length-map c.args.paths.now string_bytes)) c.look_at.ensures.looks c.make.ensures.runs

pub returns-in-Err-NoMemory-clause-cause : goal.returns-in-Err-NoMemory-clause-cause
unfolding meaning_of
returns-in-Err-NoMemory-clause-cause g c = tt

pub returns-in-Err-NoMemory-clause-attached : goal.returns-in-Err-NoMemory-clause-attached
returns-in-Err-NoMemory-clause-attached g c =
    made_stays (map string_bytes c.args.paths.now) c.args.path.now c.args.held.now c.in-Some.slot c.in-Some.ensures (free_of c.args.held.now c.in-Some.slot c.is_held.result c.is_held.ensures c.if-is_held.false) c.look_at.ensures.looks c.make.ensures.others

pub returns-in-Err-NoMemory-clause-spares : goal.returns-in-Err-NoMemory-clause-spares
returns-in-Err-NoMemory-clause-spares g c =
    made_spares (map string_bytes c.args.paths.now) c.args.path.now c.args.held.now c.in-Some.slot c.in-Some.ensures (free_of c.args.held.now c.in-Some.slot c.is_held.result c.is_held.ensures c.if-is_held.false) (length c.args.paths.now) (omega (arith, c.in-Some.ensures.below, length-map c.args.paths.now string_bytes)) c.look_at.ensures.looks c.make.ensures.runs

pub returns-in-Err-NoMemory-clause-held : goal.returns-in-Err-NoMemory-clause-held
returns-in-Err-NoMemory-clause-held g c =
    made_spares_held (map string_bytes c.args.paths.now) c.args.path.now c.args.held.now c.in-Some.slot c.in-Some.ensures (free_of c.args.held.now c.in-Some.slot c.is_held.result c.is_held.ensures c.if-is_held.false) (length c.args.paths.now) (omega (arith, c.in-Some.ensures.below, length-map c.args.paths.now string_bytes)) c.look_at.ensures.looks c.make.ensures.runs
