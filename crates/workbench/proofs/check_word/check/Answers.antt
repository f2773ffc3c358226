use Rattle.std.proofs.Common.{Err, ap}
use Rattle.workbench.proofs.CheckWord.{verdict_touches, verdict_unmet, check_lost, check_long}
use Rattle.workbench.proofs.CheckWord.{check_refused, check_refused_cut, check_cut, check_done}
use Rattle.workbench.proofs.check_word.check.Goals as goal

pub returns-in-Err-TooLong-clause-does : goal.returns-in-Err-TooLong-clause-does
returns-in-Err-TooLong-clause-does g c =
    let h = rw c.in-Err-TooLong.field-0-is at c.in-Err-TooLong.ensures.checks in
    let still = rw c.in-Err-TooLong.field-0-is at c.in-Err-TooLong.ensures.cause in
    check_long _ _ _ _ _ h still

pub returns-in-Err-ReadFault-clause-does : goal.returns-in-Err-ReadFault-clause-does
returns-in-Err-ReadFault-clause-does g c =
    let h = rw c.in-Err-ReadFault.field-0-is at c.in-Err-ReadFault.ensures.checks in
    let cause = rw c.in-Err-ReadFault.field-0-is at c.in-Err-ReadFault.ensures.cause in
    check_lost _ _ _ _ _ h cause

pub returns-in-Ok-put_refusal-clause-does : goal.returns-in-Ok-put_refusal-clause-does
returns-in-Ok-put_refusal-clause-does g c =
    let h = rw c.in-Err-Refused.field-0-is at c.in-Err-Refused.ensures.checks in
    let still = rw c.in-Err-Refused.field-0-is at c.in-Err-Refused.ensures.cause in
    rw c.status.ensures (check_refused _ _ _ _ _ h still _ _ c.in-Ok-put_refusal.ensures)

pub returns-in-Err-clause-does : goal.returns-in-Err-clause-does
returns-in-Err-clause-does g c =
    let h = rw c.in-Err-Refused.field-0-is at c.in-Err-Refused.ensures.checks in
    let still = rw c.in-Err-Refused.field-0-is at c.in-Err-Refused.ensures.cause in
    check_refused_cut _ _ _ _ _ h still _ _ c.in-Err.ensures

pub returns-in-Ok-put_verdict-clause-does : goal.returns-in-Ok-put_verdict-clause-does
returns-in-Ok-put_verdict-clause-does g c =
    rw c.verdict_status.ensures
    (check_done _ _ _ _ c.limits_matter_beyond.ensures _ c.in-Ok.ensures.checks
    c.in-Ok.ensures.cause _ _ c.in-Ok-put_verdict.ensures)

pub returns-in-Err-put_verdict-clause-does : goal.returns-in-Err-put_verdict-clause-does
returns-in-Err-put_verdict-clause-does g c =
    check_cut _ _ _ _ c.limits_matter_beyond.ensures _ c.in-Ok.ensures.checks c.in-Ok.ensures.cause
    _ _ c.in-Err-put_verdict.ensures

pub returns-in-Ok-put_refusal-clause-untouched : goal.returns-in-Ok-put_refusal-clause-untouched
returns-in-Ok-put_refusal-clause-untouched g c = rw c.status.ensures tt

pub returns-in-Ok-put_verdict-clause-untouched : goal.returns-in-Ok-put_verdict-clause-untouched
returns-in-Ok-put_verdict-clause-untouched g c =
    rw c.verdict_status.ensures (verdict_touches c.in-Ok.verdict _ _)

pub returns-in-Err-ReadFault-clause-unmet : goal.returns-in-Err-ReadFault-clause-unmet
returns-in-Err-ReadFault-clause-unmet g c =
    c.in-Err-ReadFault.ensures.unmet (ap Err c.in-Err-ReadFault.field-0-is)

pub returns-in-Ok-put_refusal-clause-unmet : goal.returns-in-Ok-put_refusal-clause-unmet
returns-in-Ok-put_refusal-clause-unmet g c = rw c.status.ensures tt

pub returns-in-Ok-put_verdict-clause-unmet : goal.returns-in-Ok-put_verdict-clause-unmet
returns-in-Ok-put_verdict-clause-unmet g c =
    rw c.verdict_status.ensures (verdict_unmet c.in-Ok.verdict _ _)
