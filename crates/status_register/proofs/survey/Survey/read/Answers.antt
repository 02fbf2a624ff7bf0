use Rattle.status_register.proofs.Allowing.{value_own, answer_read}
use Rattle.status_register.proofs.Answering.{answered, judged}
use Rattle.status_register.proofs.Tallying.{RoseAt}
use Rattle.status_register.proofs.survey.Survey.read.Goals as goal

pub returns : goal.returns
returns g c =
    let s = g.B.Bay.state c.args.bay.now in
    let t = g.B.Bay.state c.read_all-tally.new.bay in
    let ms = c.args.members.now in
    let tally = c.read_all-tally.result in
    let said = c.read_all-tally.ensures in
    record {
      answer = answered s t c.args.id ms tally c.judge.result said.read said.says c.judge.ensures;
      surveyed = judged c.args.id ms tally c.judge.result c.judge.ensures;
      own = value_own c.args.id ms tally c.judge.result c.judge.ensures said.own;
      seen = answer_read (RoseAt s t) c.args.id ms tally c.judge.result c.judge.ensures said.read;
      calls = said.calls;
    }
