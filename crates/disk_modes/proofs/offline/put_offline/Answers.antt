use Rattle.std.proofs.Common.{ℕ, subst}
use Rattle.std.specs.Prelude.{OnOk}
use Rattle.disk_modes.specs.declared.records.NewModes.TheVariants as modes
use Rattle.disk_modes.specs.Effects.{PutsModes}
use Rattle.disk_modes.proofs.offline.put_offline.Goals as goal

pub returns-clause-done : goal.returns-clause-done
returns-clause-done g c =
    subst (λ (repair : ℕ). OnOk c.change_disks.result (PutsModes (modes.Offline c.args.disks c.args.now repair) c.args.m.now c.change_disks.new.m)) c.repair_of.ensures c.change_disks.ensures.done

pub returns-clause-held : goal.returns-clause-held
returns-clause-held g c = λ may. c.change_disks.ensures.held (record { taken = may.online; left = may.left })
