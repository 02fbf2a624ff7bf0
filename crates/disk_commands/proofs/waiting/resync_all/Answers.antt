use Rattle.session.proofs.Calls.{carries_more}
use Rattle.session.proofs.Carrying.{carries_none}
use Rattle.disk_commands.proofs.waiting.resync_all.Goals as goal

pub loop-disk-init : goal.loop-disk-init
loop-disk-init g c = record { carries = carries_none c.args.session.now c.requires.ready }

pub resync_one-requires : goal.resync_one-requires
resync_one-requires g c = record { ready = c.loop-disk.invariant.carries.ready }

pub loop-disk-preserved : goal.loop-disk-preserved
loop-disk-preserved g c = record {
  carries = carries_more c.args.session.now c.loop-disk.session c.resync_one.new.session _ _ _ c.loop-disk.invariant.carries c.resync_one.ensures.carries;
}

pub returns-in_err-resync_one : goal.returns-in_err-resync_one
returns-in_err-resync_one g c = record { carries = carries_more c.args.session.now c.loop-disk.session c.resync_one.new.session _ _ _ c.loop-disk.invariant.carries c.resync_one.ensures.carries }

pub returns : goal.returns
returns g c = record { carries = c.loop-disk.invariant.carries }
