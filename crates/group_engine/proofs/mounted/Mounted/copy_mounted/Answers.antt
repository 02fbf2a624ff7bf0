use Rattle.std.proofs.Common.{rules, ◌≡◌, ◌≤◌, true, length, ap, None}
use Rattle.std.specs.Option.{option_map}
use Rattle.std.proofs.lemmas.List.{get_or_past}
use Rattle.asm_formats.specs.Sets.{has_bit}
use Rattle.refusal_lines.specs.declared.refusal.Refusal.TheVariants as cause
use Rattle.group_engine.specs.Mounts.{slot_at}
use Rattle.group_engine.specs.declared.attached.Attached.{Attached}
use Rattle.group_engine.proofs.Copied.{copied_before, copied_not, copied_nowhere}
use Rattle.group_engine.proofs.mounted.Mounted.copy_mounted.Goals.{then-to-ge64-via-then-to-ge64, then-to-ge64-via-else-to-ge64+then-is_none}
use Rattle.group_engine.proofs.mounted.Mounted.copy_mounted.Goals as goal

pub returns-then-has : goal.returns-then-has
returns-then-has g c =
    let named : has_bit c.args.self.now.register.value.directories c.args.to ≡ true = search rules in
    copied_before c.args.self.now (g.B.Bay.state c.args.bay.now) c.args.to c.requires.mounted c.requires.takes named

pub returns-then-to-ge64 : goal.returns-then-to-ge64
returns-then-to-ge64 g c =
    let none : slot_at c.args.self.now.disks c.args.to ≡ None = elim c.then-to-ge64.branch [
      | then-to-ge64-via-then-to-ge64 w ↦
          let behind : length c.args.self.now.disks ≤ c.args.to = search rules in
          ap (option_map (λ (a : Attached). a.slot)) (get_or_past c.args.self.now.disks c.args.to None behind)
      | then-to-ge64-via-else-to-ge64+then-is_none w ↦ search rules
    ] in
    copied_nowhere c.args.self.now (g.B.Bay.state c.args.bay.now) c.args.to c.write_fault.result c.requires.takes c.write_fault.ensures none

pub returns-in-None : goal.returns-in-None
returns-in-None g c = copied_not c.args.self.now (g.B.Bay.state c.args.bay.now) c.args.to cause.NoMemory c.requires.takes tt

pub store_copy-requires : goal.store_copy-requires
store_copy-requires g c =
    let takes = c.requires.takes c.requires.mounted in
    record { mounted = c.requires.mounted; whole = takes.0; ready = takes.1; copy = search rules; unnamed = search rules }
