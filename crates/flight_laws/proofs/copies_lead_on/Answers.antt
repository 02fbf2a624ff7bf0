use Rattle.flight_laws.proofs.Leading.{clearing_leads_on, held_leads_on, marks_lead_on, move_leads_on, recopy_leads_on}
use Rattle.flight_laws.proofs.copies_lead_on.Goals as goal

pub returns : goal.returns
returns g c = record {
  any = held_leads_on (g.B.Bay.state c.args.bay.now);
  moved = move_leads_on (g.B.Bay.state c.args.bay.now);
  cleared = clearing_leads_on (g.B.Bay.state c.args.bay.now);
  recopied = recopy_leads_on (g.B.Bay.state c.args.bay.now);
  marked = marks_lead_on (g.B.Bay.state c.args.bay.now);
}
