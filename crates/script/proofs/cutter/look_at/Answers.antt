use Rattle.script.proofs.Looking.{comment-feed, comment-byte, line-feed, line-byte, statement-semicolon, statement-quote, statement-byte, quote-quote, quote-byte}
use Rattle.script.proofs.cutter.look_at.Goals as goal

pub returns-in-Comment-eq10 : goal.returns-in-Comment-eq10
returns-in-Comment-eq10 c = rw c.in-Comment-eq10.is-0 (comment-feed _ c.in-Comment-eq10.is-1)

pub returns-in-Comment-default : goal.returns-in-Comment-default
returns-in-Comment-default c = rw c.in-Comment-default.is-0 (comment-byte _ c.in-Comment-default.is-1.1)

pub returns-in-Line-eq10 : goal.returns-in-Line-eq10
returns-in-Line-eq10 c = rw c.in-Line-eq10.is-0 (line-feed _ c.in-Line-eq10.is-1)

pub returns-in-Line-default : goal.returns-in-Line-default
returns-in-Line-default c = rw c.in-Line-default.is-0 (line-byte _ c.in-Line-default.is-1.1)

pub returns-in-Statement-eq59 : goal.returns-in-Statement-eq59
returns-in-Statement-eq59 c = rw c.in-Statement-eq59.is-0 (statement-semicolon _ c.in-Statement-eq59.is-1)

pub returns-in-Statement-eq39 : goal.returns-in-Statement-eq39
returns-in-Statement-eq39 c = rw c.in-Statement-eq39.is-0 (statement-quote _ c.in-Statement-eq39.is-1)

pub returns-in-Statement-default : goal.returns-in-Statement-default
returns-in-Statement-default c = rw c.in-Statement-default.is-0 (statement-byte _ c.in-Statement-default.is-1.0.1 c.in-Statement-default.is-1.1)

pub returns-in-Quote-eq39 : goal.returns-in-Quote-eq39
returns-in-Quote-eq39 c = rw c.in-Quote-eq39.is-0 (quote-quote _ c.in-Quote-eq39.is-1)

pub returns-in-Quote-default : goal.returns-in-Quote-default
returns-in-Quote-default c = rw c.in-Quote-default.is-0 (quote-byte _ c.in-Quote-default.is-1.1)
