use Rattle.std.proofs.Common.{refl, arith, sym, ◌∙◌}
use Rattle.plan_certificate.proofs.TableEnds.{none_left, refused_there, goes_on, ends_there}
use Rattle.plan_certificate.proofs.TableEnds.{is_followed, takes_more, takes_last, takes_none}
use Rattle.plan_certificate.proofs.TableEnds.{no_bytes, some_bytes}
use Rattle.plan_certificate.proofs.table_reading.read_table.Goals as goal

pub returns-in-Err-Refused : goal.returns-in-Err-Refused
returns-in-Err-Refused c =
    rw c.in-Err-Refused.cause-is
    (refused_there _ _ _ _ c.loop-line.invariant.read _ _ c.in-Some.ensures _
    (takes_none _ _ c.in-Err-Refused.cause
    (rw c.in-Err-Refused.field-0-is at c.in-Err-Refused.ensures)))

pub returns-then-is_empty : goal.returns-then-is_empty
returns-then-is_empty c =
    ends_there _ _ _ _ c.loop-line.invariant.read _ _ c.in-Some.ensures _
    (takes_last _ _ c.in-Ok-Some.plan (rw c.in-Ok-Some.field-0-is at c.in-Ok-Some.ensures))
    (no_bytes _ (sym c.is_empty.ensures ∙ c.if-is_empty.true))

pub returns-in-Ok-Some : goal.returns-in-Ok-Some
returns-in-Ok-Some c =
    rw c.ill_formed.ensures
    (is_followed _ _ _ _ c.loop-line.invariant.read _ _ c.in-Some.ensures _
    (takes_last _ _ c.in-Ok-Some.plan (rw c.in-Ok-Some.field-0-is at c.in-Ok-Some.ensures))
    (some_bytes _ (sym c.is_empty.ensures ∙ c.if-is_empty.false)))

pub loop-line-init : goal.loop-line-init
loop-line-init c = record {
  fits = omega arith;
  read = record { some = omega arith; so_far = rw c.new-reader.ensures refl; behind = refl };
}

pub loop-line-preserved : goal.loop-line-preserved
loop-line-preserved c =
    let shorter = c.in-Some.ensures.shorter in
    let fits = c.loop-line.invariant.fits in
    record {
      fits = omega (arith, shorter, fits);
      read =
          goes_on _ _ _ _ c.loop-line.invariant.read _ _ c.in-Some.ensures _
          (takes_more _ _ (rw c.in-Ok-None.field-0-is at c.in-Ok-None.ensures));
    }

pub returns : goal.returns
returns c =
    rw c.ill_formed-2.ensures (none_left _ _ _ _ c.loop-line.invariant.read c.in_default.ensures)
