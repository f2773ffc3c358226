use Rattle.std.proofs.Common.{◌<◌, sym, ap, arith}
use Rattle.std.specs.List.{flat_map}
use Rattle.std.specs.Prelude.{slice_index_or}
use Rattle.halving_plan.proofs.Depths.{two_deep}
use Rattle.edge_io.proofs.Writing.{writes_is, writes_last, writes_none, writes_then}
use Rattle.trace.specs.Around.{IsAround}
use Rattle.trace.specs.GroupTexts.{group_line}
use Rattle.trace.proofs.GroupDescent.{no_groups, lines_in_half, lines_of_spare}
use Rattle.trace.proofs.group_lines.+put_groups.Goals as goal

pub returns-then-faults-eq0 : goal.returns-then-faults-eq0
returns-then-faults-eq0 g t c =
    let view = c.args.view.now in
    let line = group_line view.heading view.faulty.now.ids view.config.now view.hears
    c.args.heard.now in
    writes_is
    (sym (ap (flat_map line)
    (no_groups c.args.side c.args.group.now view.heading.node (omega arith))))
    writes_none

pub invariant_of-seen : goal.invariant_of-seen
invariant_of-seen g t c =
    let group = c.args.group.now in
    let around = c.requires in
    let some : 0 < group.faults = omega arith in
    record {
      halves = some;
      within = around.within;
      deep = λ k d lt. two_deep group (slice_index_or c.args.view.now.config.now k d) some
          (around.deep k d lt);
      among = omega (arith, around.within, around.size);
      hears = λ k d lt. two_deep group (slice_index_or c.args.heard.now k d) some
          (around.hears k d lt);
      halves_hear = around.hears;
    }

pub put_groups-requires : goal.put_groups-requires
put_groups-requires g t c κs within =
    let around = c.requires in
    let fits = c.in-Some.ensures.half around.first in
    let falls : c.in-Some.half.faults < t = omega (arith, fits.fewer, c.decreases) in
    let stays : IsAround c.in-Some.half c.args.view.now c.args.heard.now = record {
      first = fits.first;
      last = fits.last;
      within = omega (arith, fits.within, around.within);
      size = around.size;
      deep = λ k d lt. omega (arith, fits.registers, around.deep k d lt);
      hears = λ k d lt. omega (arith, fits.registers, around.hears k d lt);
    } in
    (falls, (within, stays))

pub returns-in-Some : goal.returns-in-Some
returns-in-Some g t c =
    let view = c.args.view.now in
    let group = c.args.group.now in
    let some : 0 < group.faults = omega arith in
    let line = group_line view.heading view.faulty.now.ids view.config.now view.hears
    c.args.heard.now in
    writes_is
    (lines_in_half line c.args.side group view.heading.node some c.in-Some.half
    c.in-Some.ensures.value)
    (writes_then c.put_group_line.ensures (rw c.of.ensures at c.put_groups.ensures))

pub returns-in_default : goal.returns-in_default
returns-in_default g t c =
    let view = c.args.view.now in
    let group = c.args.group.now in
    let some : 0 < group.faults = omega arith in
    let line = group_line view.heading view.faulty.now.ids view.config.now view.hears
    c.args.heard.now in
    writes_is
    (lines_of_spare line c.args.side group view.heading.node some c.in_default.ensures.value)
    (writes_last c.put_group_line.ensures)
