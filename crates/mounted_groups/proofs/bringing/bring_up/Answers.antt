use Rattle.std.proofs.Common.{refl, rules, arith}
use Rattle.std.proofs.lemmas.Grind.{common_steps}
use Rattle.mounted_groups.proofs.Brought.{brought_named, brought_nowhere, copy_clear}
use Rattle.mounted_groups.proofs.BroughtMounts.{mounts_still, stands_still}
use Rattle.mounted_groups.proofs.Drops.{nothing_done}
use Rattle.mounted_groups.proofs.bringing.bring_up.Goals as goal

pub returns-then-not-has_room : goal.returns-then-not-has_room
returns-then-not-has_room g c =
    let m = c.args.m.now in
    let s = g.B.Bay.state c.args.bay.now in
    record {
      works = record { keeps = nothing_done m s c.requires.takes; mounted = c.requires.mounted; cause = tt };
      brought = brought_nowhere g.B.Bay.state m c.args.disk s c.has_room.result c.has_room.ensures c.if-not-has_room.true;
      moments = stands_still m s;
      mounts = λ mounted. mounts_still m s;
      turns = first_of (search rules, grind (arith, common_steps));
    }

pub returns-in-Ok : goal.returns-in-Ok
returns-in-Ok g c =
    let brought = brought_named g.B.Bay.state c.args.m.now c.args.disk c.copy_directory.new.self (g.B.Bay.state c.args.bay.now) c.copy_directory.new.bay c.in-Ok.ensures.mounted c.copy_directory.ensures.keeps c.in-Ok.ensures.named in
    record {
      works = record { keeps = first_of (search rules, grind (arith, common_steps)); mounted = first_of (search rules, grind (arith, common_steps)); cause = tt };
      brought = brought;
      moments = first_of (search rules, grind (arith, common_steps));
      mounts = first_of (search rules, grind (arith, common_steps));
      turns = first_of (search rules, grind (arith, common_steps));
    }

pub returns-in-Err : goal.returns-in-Err
returns-in-Err g c = record {
  works = record {
    keeps = c.copy_directory.ensures.keeps;
    mounted = tt;
    cause = copy_clear c.args.m.now c.args.disk c.copy_directory.new.self (g.B.Bay.state c.args.bay.now) (g.B.Bay.state c.copy_directory.new.bay) c.in-Err.refusal c.requires.mounted c.in-Err.ensures.cause;
  };
  brought = tt;
  moments = c.copy_directory.ensures.moments;
  mounts = λ mounted n group kept may. (kept, refl, c.in-Err.ensures.stays mounted n group kept may.mounts);
  turns = c.copy_directory.ensures.turns;
}
