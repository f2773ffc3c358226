use Rattle.std.proofs.Common.{◌+◌, ◌*◌, List, ℕ, ◌∙◌, ap, length, length-set, slice_index, take}
use Rattle.std.proofs.Common.{arith}
use Rattle.std.proofs.lemmas.List.{length-take-le}
use Rattle.hex.proofs.Pairs.{decode_start, decode_step}
use Rattle.state_codec.specs.Texts.{decoded}
use Rattle.run_checker.proofs.Decoded.{pair_of, all_decoded}
use Rattle.run_checker.proofs.digits.Digits.decode.Goals as goal

pub loop-i-init : goal.loop-i-init
loop-i-init c = record {
  size = c.told-bytes;
  so_far = decode_start (take (2 * c.self.inside.bytes) c.self.inside.text) c.args.bytes.now;
}

pub loop-i-preserved : goal.loop-i-preserved
loop-i-preserved c =
    let digits = take (2 * c.self.inside.bytes) c.self.inside.text in
    let long = length-take-le (2 * c.self.inside.bytes) c.self.inside.text
    (omega (arith, c.self.told, c.self.invariant.0)) in
    record {
      size = length-set c.loop-i.bytes c.loop-i.i _ ∙ c.loop-i.invariant.size;
      so_far = decode_step digits c.loop-i.bytes c.loop-i.i _
          (omega (arith, c.loop-i-test.true, long))
          (omega (arith, c.loop-i-test.true, c.self.invariant.0, c.loop-i.invariant.size))
          (pair_of (slice_index digits (2 * c.loop-i.i)) (slice_index digits (2 * c.loop-i.i + 1))
          c.value_of.result c.value_of-in-loop-i.result (2 * c.loop-i.i) c.value_of.ensures.value
          c.value_of-in-loop-i.ensures.value)
          c.loop-i.invariant.so_far;
    }

pub returns : goal.returns
returns c = λ count twice.
    let digits = take (2 * c.self.inside.bytes) c.self.inside.text in
    let seen = ap (λ (l : List ℕ). length l) c.self.view_is in
    let long = length-take-le (2 * c.self.inside.bytes) c.self.inside.text
    (omega (arith, c.self.told, c.self.invariant.0)) in
    all_decoded digits c.loop-i.bytes count c.loop-i.i (omega (arith, seen, twice))
    (omega (arith, c.loop-i-test.false, c.loop-i.auto.i-end, long, seen, twice))
    c.loop-i.invariant.so_far
    ∙ ap decoded c.self.view_is
