use Rattle.std.proofs.Common.{◌≡◌, ◌⊎◌, [], Some}
use Rattle.refusal_lines.specs.Refusals.{meaning_of}
use Rattle.refusal_lines.specs.declared.refusal.Refusal.{Refusal}
use Rattle.refusal_lines.specs.declared.refusal.Refusal.TheVariants as cause
use Rattle.session.proofs.resync.Chains.{on_err}
use Rattle.disk_commands.specs.Waits.{WaitCause}
use Rattle.disk_commands.proofs.Waits.{refused_so, waited_so}
use Rattle.disk_commands.proofs.waiting.rebalance_all.Goals as goal

pub returns-in-Ok-clause-why : goal.returns-in-Ok-clause-why
returns-in-Ok-clause-why g c =
    on_err (λ (e : Refusal). (c.in-Ok.waited.refusal ≡ Some e) ⊎ (e ≡ cause.NoMemory)) (λ (e : Refusal). WaitCause c.work.new.self c.args.name.now (meaning_of (λ _. []) e)) c.put_waited.result
    (waited_so c.args.name.now c.args.session.now c.work.new.self (g.B.Bay.state c.args.bay.now) (g.B.Bay.state c.work.new.bay) c.work.result c.work.ensures c.in-Ok.waited c.in-Ok.is) c.put_waited.ensures

pub returns-in-Err-clause-why : goal.returns-in-Err-clause-why
returns-in-Err-clause-why g c =
    refused_so c.args.name.now c.args.session.now c.work.new.self (g.B.Bay.state c.args.bay.now) (g.B.Bay.state c.work.new.bay) c.work.result c.work.ensures c.in-Err.refusal c.in-Err.is
