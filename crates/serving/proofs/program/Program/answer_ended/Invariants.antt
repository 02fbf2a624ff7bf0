use Rattle.std.proofs.Common.{◌≡◌, ℕ, ◌-◌, ◌≤◌, true, List, length, drop}
use Rattle.script.specs.Scanning.{place_of_state, IsCutterOf}
use Rattle.asm_world.specs.World.{World}
use Rattle.asm_world.specs.Run.{Resting}
use Rattle.serving.specs.Acts.{Acts}
use Rattle.disk_commands.specs.session.Desks.{paths_on}
use Rattle.serving.specs.Programs.{scene_of}
use Rattle.disk_commands.specs.session.Sessions.{AreReady, Knows}
use Rattle.serving.specs.Serves.{BeginsFrom}
use Rattle.serving.proofs.program.Program.answer_ended.Given as goal
use Rattle.asm_world.specs.Below.{GroupBelow}

abbrev pub invariant-loop-span : goal.invariant-loop-span
invariant-loop-span g l =
    (commands : List (List ℕ)) × (l.done ≤ length l.pending.items)
    × IsCutterOf (drop l.done l.pending.items) l.cutter
    × BeginsFrom (place_of_state l.fn.cutter.from) l.pending.items commands (place_of_state l.cutter.from) (drop l.done l.pending.items)
    × ((w : World) (below : ℕ → GroupBelow) (time : ℕ) → Knows l.fn.self.desk.session w below → (w' : World) × (below' : ℕ → GroupBelow) × (time' : ℕ) × Knows l.self.desk.session w' below'
    × Acts g.C.Clock.gives (paths_on l.fn.self.desk) true commands (scene_of w below Resting time l.fn.self) (scene_of w' below' Resting time' l.self))
    × (g.K.Sink.faults l.fn.self.sink ≤ g.K.Sink.faults l.self.sink)
    × (paths_on l.self.desk ≡ paths_on l.fn.self.desk)
    × AreReady l.self.desk.session.groups (g.B.Bay.state l.self.desk.bay)

abbrev pub decreases-loop-span : goal.decreases-loop-span
decreases-loop-span g l = length l.pending.items - l.done
