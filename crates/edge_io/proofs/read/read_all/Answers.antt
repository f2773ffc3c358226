use Rattle.std.proofs.Common.{◌≡◌, ◌≤◌, ◌<◌, ◌-◌, length, ◌∙◌, arith}
use Rattle.edge_io.proofs.Loops.{lost_before, lost_within, kept_within, lost_with, lost_past}
use Rattle.edge_io.proofs.Loops.{at_error}
use Rattle.edge_io.proofs.read.read_all.Goals as goal

pub returns-in-Err-clause-lost : goal.returns-in-Err-clause-lost
returns-in-Err-clause-lost g c =
    lost_before _ _ _ _ c.loop-count.invariant.read c.in-Err.ensures.bytes

pub returns-then-count-limit-clause-lost : goal.returns-then-count-limit-clause-lost
returns-then-count-limit-clause-lost g c =
    lost_with _ _ _ _ _ c.loop-count.invariant.read c.in-Ok.ensures.bytes.0

pub returns-in_err-extend_from_slice-clause-lost : goal.returns-in_err-extend_from_slice-clause-lost
returns-in_err-extend_from_slice-clause-lost g c =
    at_error _ (lost_with _ _ _ _ _ c.loop-count.invariant.read c.in-Ok.ensures.bytes.0)

pub returns-then-count-limit-clause-past : goal.returns-then-count-limit-clause-past
returns-then-count-limit-clause-past g c =
    let read = c.in-Ok.ensures in
    let past : c.args.limit - length c.loop-count.bytes.items < c.in-Ok.count =
    omega (arith, c.loop-count.bytes.ok.0, c.len.ensures, c.if-count-limit.true) in
    let size : length c.read.new.buf ≡ 4096 = c.read.auto.buf ∙ c.loop-count.invariant.size in
    λ _. lost_past _ _ _ _ _ _ _ c.loop-count.invariant.read read.bytes.0 read.bound.0
    size c.loop-count.invariant.short past

pub returns-in_err-extend_from_slice-clause-kept : goal.returns-in_err-extend_from_slice-clause-kept
returns-in_err-extend_from_slice-clause-kept g c =
    let read = c.in-Ok.ensures in
    let fits : c.in-Ok.count ≤ c.args.limit - length c.loop-count.bytes.items =
    omega (arith, c.loop-count.bytes.ok.0, c.len.ensures, c.if-count-limit.false) in
    λ _. kept_within _ _ _ _ _ _ _ c.loop-count.invariant.read read.bytes.0 read.bound.0
    c.loop-count.invariant.short fits

pub returns-in-Err-clause-within : goal.returns-in-Err-clause-within
returns-in-Err-clause-within g c = λ _.
    lost_within _ _ _ _ _ c.loop-count.invariant.read c.in-Err.ensures.bytes
    c.loop-count.invariant.short
