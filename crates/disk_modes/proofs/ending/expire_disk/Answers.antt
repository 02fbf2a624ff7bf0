use Rattle.std.proofs.Common.{ℕ, ◌==◌, ◌||◌, ap, sym, ◌∙◌}
use Rattle.asm_formats.specs.Sets.{has_bit}
use Rattle.disk_modes.specs.declared.records.NewModes.TheVariants as modes
use Rattle.disk_modes.specs.Effects.{DropsByForce, PutsBoth}
use Rattle.disk_modes.proofs.Drops.{forces_by}
use Rattle.disk_modes.proofs.Effects.{on_ok}
use Rattle.disk_modes.proofs.Expiring.{may_force}
use Rattle.disk_modes.proofs.Naming.{no_bit}
use Rattle.disk_modes.proofs.ending.expire_disk.Goals as goal

pub returns-clause-done : goal.returns-clause-done
returns-clause-done g c =
    on_ok (PutsBoth 1 (modes.Dropped c.empty.result c.with_number.result) c.args.m.now c.change_disks.new.m) (DropsByForce c.args.disk c.args.m.now c.change_disks.new.m) c.change_disks.result
    (λ puts. forces_by c.empty.result c.with_number.result c.args.disk c.args.m.now c.change_disks.new.m
    (λ k lt. ap (λ (n : ℕ). has_bit n k) c.empty.ensures ∙ no_bit k)
    (λ k lt. c.with_number.ensures k lt ∙ ap (λ (n : ℕ). k == c.args.disk || has_bit n k) (c.empty-2.ensures ∙ sym c.empty.ensures))
    (c.requires.takes c.requires.mounted).0.status puts)
    c.change_disks.ensures.done

pub returns-clause-held : goal.returns-clause-held
returns-clause-held g c = λ goes turns. c.change_disks.ensures.held (may_force c.args.m.now c.empty-2.result c.empty.result c.with_number.result c.args.disk c.empty.ensures c.empty-2.ensures no_bit c.with_number.ensures goes, turns)
