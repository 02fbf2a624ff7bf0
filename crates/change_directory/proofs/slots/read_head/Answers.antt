use Rattle.std.proofs.Common.{ℕ, ◌+◌, ◌*◌, sym, ap, rules, arith}
use Rattle.std.proofs.lemmas.List.{length-replicate}
use Rattle.change_directory.specs.Works.{OnlyReads}
use Rattle.change_directory.proofs.LoadTold.{head_told, shut_told}
use Rattle.change_directory.proofs.Works.{one_read, reads_on, reads_fit}
use Rattle.change_directory.proofs.slots.read_head.Goals as goal

pub returns-then-not-branch : goal.returns-then-not-branch
returns-then-not-branch g c = record {
  reads = reads_fit {m = 1} (omega arith) (record { calls = c.is_open.ensures.call.calls; written = c.is_open.ensures.written });
  done = shut_told c.args.copy c.args.log (g.B.Bay.state c.args.bay.now) (g.B.Bay.state c.is_open.new.bay) c.log_place.result c.log_place.ensures c.in_ok-is_open.field-0 (sym c.if-not-branch.true) c.in_ok-is_open.ensures.call.done;
  cause = tt;
}

pub returns-in_err-read : goal.returns-in_err-read
returns-in_err-read g c =
    let looked : OnlyReads c.args.copy.slot 1 (g.B.Bay.state c.args.bay.now) (g.B.Bay.state c.is_open.new.bay) = record { calls = c.is_open.ensures.call.calls; written = c.is_open.ensures.written } in
    let reads = reads_on looked (one_read c.read.ensures.attached (omega (arith, c.read.ensures.count)) c.read.ensures.written c.read.ensures.runs) in search rules

pub returns : goal.returns
returns g c =
    let looked : OnlyReads c.args.copy.slot 1 (g.B.Bay.state c.args.bay.now) (g.B.Bay.state c.is_open.new.bay) = record { calls = c.is_open.ensures.call.calls; written = c.is_open.ensures.written } in
    record {
      reads = reads_on looked (one_read c.read.ensures.attached (omega (arith, c.read.ensures.count)) c.read.ensures.written c.read.ensures.runs);
      done = head_told c.args.copy c.args.log _ _ _ c.is_open.ensures.call.calls.runs c.read.ensures.runs c.log_place.result c.log_place.ensures
          c.in_ok-is_open.field-0 (sym c.if-not-branch.false) c.in_ok-is_open.ensures.call.done _ (ap (λ (n : ℕ). (n + 1) * 4096) c.gate_block.ensures) c.read.new.buf _ (length-replicate {A = ℕ} 4096 0) c.in_ok-read.ensures.done;
      cause = tt;
    }
