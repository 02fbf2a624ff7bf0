use Rattle.std.proofs.Common.{rules}
use Rattle.bay.proofs.Calls.{leaves_on}
use Rattle.bay.proofs.OneCall.{afforded, on_region}
use Rattle.directory_store.proofs.Steps.{still_either}
use Rattle.directory_store.proofs.commit.commit_one.Goals as goal

pub settle-requires-clause-kept : goal.settle-requires-clause-kept
settle-requires-clause-kept g c = (c.requires.kept.before, c.requires.kept.page, c.requires.kept.holds)

pub returns-in_err-settle : goal.returns-in_err-settle
returns-in_err-settle g c =
    let calls = c.settle.ensures.call.calls in
    record {
      call = search rules;
      moments = λ before page less now. still_either c.args.copy c.args.number c.args.pages.now before page (c.settle.ensures.moments before page now);
    }

pub log_and_home-requires-clause-settled : goal.log_and_home-requires-clause-settled
log_and_home-requires-clause-settled g c =
    let e = c.requires.kept in
    record { before = e.before; page = e.page; smaller = e.smaller; holds = c.in_ok-settle.ensures.call.done.pages e.before e.page e.holds }

pub log_and_home-requires-clause-logs : goal.log_and_home-requires-clause-logs
log_and_home-requires-clause-logs g c = c.in_ok-settle.ensures.call.done.logs

pub returns : goal.returns
returns g c =
    let settled = c.in_ok-settle.ensures.call.done.pages in
    record {
      call = afforded (search rules)
          (on_region c.settle.ensures.call.calls (λ _ took. record { done = λ before page less now. took.done before page less (settled before page now); logs = took.logs }) c.log_and_home.ensures.call);
      moments = λ before page less now. leaves_on
          (still_either c.args.copy c.args.number c.args.pages.now before page (c.settle.ensures.moments before page now))
          (c.log_and_home.ensures.moments before page less (settled before page now));
    }
