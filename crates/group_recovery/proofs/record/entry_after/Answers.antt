use Rattle.std.proofs.Common.{◌≡◌, true, sym, subst, arith}
use Rattle.asm_group.specs.declared.Mode.TheVariants.{Offline, Syncing}
use Rattle.asm_formats.specs.Status.{Entry, is_entry}
use Rattle.group_recovery.proofs.Entries.{offline_fits, syncing_fits}
use Rattle.group_recovery.proofs.record.entry_after.Goals as goal

pub returns-then-missing-clause-kept : goal.returns-then-missing-clause-kept
returns-then-missing-clause-kept c = λ ok.
    subst (λ (e : Entry). is_entry (record e { mode = Offline; since = c.args.now; repair = c.args.repair }) ≡ true) (sym c.entry.view_is)
    (offline_fits c.args.now c.args.repair c.args.entry (omega (arith, c.ranges.now.fits)) (omega (arith, c.ranges.repair.fits)) ok)

pub returns-then-marked-clause-kept : goal.returns-then-marked-clause-kept
returns-then-marked-clause-kept c = λ ok.
    subst (λ (e : Entry). is_entry (record e { mode = Syncing }) ≡ true) (sym c.entry.view_is) (syncing_fits c.args.entry ok)
