use Rattle.std.proofs.Common.{◌∙◌, length, arith}
use Rattle.edge_io.proofs.LastDigits.{decimal_some, anew}
use Rattle.edge_io.proofs.rising.RisingText.new.Goals as goal

pub overflow_sub-digit : goal.overflow_sub-digit
overflow_sub-digit c = omega
    (arith, c.place_number-end.ensures.end, decimal_some c.args.value c.ranges.value.fits)

pub overflow_sub-result : goal.overflow_sub-result
overflow_sub-result c = omega
    (arith, c.place_number-end.ensures.end, decimal_some c.args.value c.ranges.value.fits)

pub invariant_of-result : goal.invariant_of-result
invariant_of-result c =
    anew c.place.new.buffer c.place_number-end.new.buffer (length c.args.label.now)
    c.place_number-end.result c.args.value c.ranges.value.fits c.place.auto.buffer
    (c.place_number-end.auto.buffer ∙ c.place.auto.buffer) c.requires
    (omega (arith, c.place_number-end.ensures.within, c.requires)) c.place_number-end.ensures.end
    c.place_number-end.ensures.placed
