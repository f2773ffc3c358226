use Rattle.std.proofs.Common.{◌≡◌, ℕ, ap, length, arith}
use Rattle.std.specs.List.{flat_map, range_with_len}
use Rattle.edge_io.proofs.Writing.{writes_is, writes_next, writes_none}
use Rattle.sweep.specs.Tallies.{place_line}
use Rattle.sweep.proofs.Texts.{place_written}
use Rattle.sweep.proofs.writing.put_locked.Goals as goal

pub loop-place-init : goal.loop-place-init
loop-place-init g c = writes_none

pub loop-place-preserved : goal.loop-place-preserved
loop-place-preserved g c =
    let era = c.args.era.now in
    let place = c.loop-place.place in
    let is = place_written era place _ _ _ c.first.ensures c.configuration.ensures
    c.locked_at.ensures in
    writes_next (place_line era) 0 place place c.loop-place.invariant
    (writes_is is c.put_line.ensures) (omega arith)

pub returns : goal.returns
returns g c =
    let era = c.args.era.now in
    let all : c.loop-place.place ≡ length era.locked = omega (
      arith,
      c.loop-place-test.false,
      c.loop-place.auto.place-end,
      c.size-place-end.ensures,
    ) in
    writes_is (ap (λ (n : ℕ). flat_map (place_line era) (range_with_len 0 n)) all)
    c.loop-place.invariant
