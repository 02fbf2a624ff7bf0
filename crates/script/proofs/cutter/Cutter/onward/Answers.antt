use Rattle.std.proofs.Common.{refl}
use Rattle.script.proofs.Going.{at-byte, stands-skip, stands-take, ends-before, ends-with, unended-waits, few}
use Rattle.script.proofs.cutter.Cutter.onward.Goals as goal

pub returns-in-Skip : goal.returns-in-Skip
returns-in-Skip c =
    let s = at-byte _ c.args.bytes.now c.args.self.at _ c.requires.more c.in-Skip.ensures in
    (stands-skip _ _ _ _ _ _ c.requires.stands c.requires.more s.0 s.1 s.2, refl, refl)

pub returns-in-Take : goal.returns-in-Take
returns-in-Take c =
    let s = at-byte _ c.args.bytes.now c.args.self.at _ c.requires.more c.in-Take.ensures in
    (stands-take _ _ _ _ _ _ c.requires.stands c.requires.more s.0 s.1 s.2, refl, refl)

pub returns-in-EndsBefore : goal.returns-in-EndsBefore
returns-in-EndsBefore c =
    let s = at-byte _ c.args.bytes.now c.args.self.at _ c.requires.more c.in-EndsBefore.ensures in
    ends-before _ _ _ _ _ c.requires.stands c.requires.more s.0 s.1

pub returns-in-EndsWith : goal.returns-in-EndsWith
returns-in-EndsWith c =
    let s = at-byte _ c.args.bytes.now c.args.self.at _ c.requires.more c.in-EndsWith.ensures in
    ends-with _ _ _ _ _ c.requires.stands c.requires.more s.0 s.1

pub returns-in-Waits : goal.returns-in-Waits
returns-in-Waits c =
    let s = at-byte _ c.args.bytes.now c.args.self.at _ c.requires.more c.in-Waits.ensures in
    (unended-waits _ _ _ _ _ c.requires.stands c.requires.more s.0 s.1, few _ _ c.requires.more s.2)
