use Rattle.report_commands.proofs.Going.{led_within, refused_within}
use Rattle.report_commands.proofs.places.led_by.Goals as goal

pub returns-in-Ok-clause-led : goal.returns-in-Ok-clause-led
returns-in-Ok-clause-led c =
    led_within c.args.session.now c.args.parts c.in-Some.path.group c.in-Some.path.parts c.in-Some.ensures c.in-Ok.m.now c.in-Ok.ensures.found _ c.place_at.ensures.place

pub returns-in-Ok-clause-cause : goal.returns-in-Ok-clause-cause
returns-in-Ok-clause-cause c =
    refused_within c.args.session.now c.args.parts c.in-Some.path.group c.in-Some.path.parts c.in-Some.ensures c.in-Ok.m.now c.in-Ok.ensures.found _ c.place_at.ensures.cause
