use Rattle.std.proofs.Common.{◌≡◌, ℕ, ◌-◌, ◌≤◌, true, List}
use Rattle.script.specs.Scanning.{place_of_state, IsCutterOf}
use Rattle.asm_world.specs.World.{World}
use Rattle.asm_world.specs.Run.{Resting}
use Rattle.serving.specs.Acts.{Acts}
use Rattle.disk_commands.specs.session.Desks.{paths_on}
use Rattle.serving.specs.Programs.{scene_of}
use Rattle.disk_commands.specs.session.Sessions.{AreReady, Knows}
use Rattle.serving.specs.Serves.{limit}
use Rattle.serving.proofs.Serving.{Taken}
use Rattle.serving.proofs.program.Program.serve.Given as goal
use Rattle.asm_world.specs.Below.{GroupBelow}

abbrev pub invariant-loop-pending : goal.invariant-loop-pending
invariant-loop-pending g l =
    IsCutterOf l.pending.items l.cutter
    × (l.taken ≤ limit)
    × ((w : World) (below : ℕ → GroupBelow) (time : ℕ) → Knows l.fn.self.desk.session w below → (w' : World) × (below' : ℕ → GroupBelow) × (time' : ℕ) × (taken : List ℕ) × (commands : List (List ℕ)) × Knows l.self.desk.session w' below'
    × Taken (g.S.Source.left l.fn.source) (g.S.Source.left l.source) taken l.taken commands (place_of_state l.cutter.from) l.pending.items
    × Acts g.C.Clock.gives (paths_on l.fn.self.desk) true commands (scene_of w below Resting time l.fn.self) (scene_of w' below' Resting time' l.self))
    × (g.S.Source.faults l.fn.source ≤ g.S.Source.faults l.source)
    × (g.K.Sink.faults l.fn.self.sink ≤ g.K.Sink.faults l.self.sink)
    × (paths_on l.self.desk ≡ paths_on l.fn.self.desk)
    × AreReady l.self.desk.session.groups (g.B.Bay.state l.self.desk.bay)

abbrev pub decreases-loop-pending : goal.decreases-loop-pending
decreases-loop-pending g l = limit - l.taken
