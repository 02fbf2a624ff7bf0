use Rattle.std.proofs.Common.{◌≡◌, ◌+◌, ◌*◌, length, take, ap, rules, arith, inl}
use Rattle.bay.proofs.OneCall.{afforded, then, wider}
use Rattle.body_slot.specs.declared.place.Place.{Place}
use Rattle.change_directory.specs.Changes.{MayLog}
use Rattle.change_directory.specs.Logs.{log_of, log_body}
use Rattle.change_directory.proofs.Usable.{usable_log, still_copy, some_sector}
use Rattle.change_directory.proofs.Settled.{logs_read, gate_settled, found_call, then_logs}
use Rattle.change_directory.proofs.change.put_log.Goals as goal

pub returns-in_err-log : goal.returns-in_err-log
returns-in_err-log g c = let calls = wider {whole = MayLog c.args.copy c.args.number c.args.pages.now} (λ x y same. inl same) c.spare_slot.ensures.reads.calls in search rules

pub put_settled-requires-clause-usable : goal.put_settled-requires-clause-usable
put_settled-requires-clause-usable g c = rw c.log_place-place.ensures (usable_log _ _ (still_copy c.requires.copy c.spare_slot.ensures.reads.calls.attached) (omega (arith, c.requires.pages)))

pub put_settled-requires-clause-settled : goal.put_settled-requires-clause-settled
put_settled-requires-clause-settled g c = rw c.log_place-place.ensures (gate_settled c.args.copy _ _ _ (logs_read c.args.copy c.spare_slot.ensures.reads.calls.runs c.requires.logs))

pub returns : goal.returns
returns g c =
    let has : take ((length c.args.pages.now + 1) * 4096) c.fill_body.new.to ≡ log_body (log_of c.args.number c.args.pages.now) = c.fill_body.ensures in
    let sector : c.log_place-place.result.sector ≡ c.args.copy.sector = ap (λ (p : Place). p.sector) c.log_place-place.ensures in
    let len : c.log_place-place.result.len ≡ (length c.args.pages.now + 1) * 4096 = ap (λ (p : Place). p.len) c.log_place-place.ensures in
    let found = found_call c.args.copy _ (g.met.B.Bay.sound c.spare_slot.new.bay) c.requires.logs c.in_ok-log.ensures in
    afforded (record { calls = omega arith; bytes = λ s. omega (arith, sector, len) })
    (then (then_logs c.args.copy c.args.number c.args.pages.now (some_sector _ c.requires.copy.sector_size) _ _ _ c.log_place-place.ensures has) found c.put_settled.ensures)
