use Rattle.std.proofs.Common.{◌≡◌, ℕ, ◌+◌, ◌<◌, length, map, get_or, nat_eq, ap, sym, ◌∙◌, arith}
use Rattle.std.proofs.lemmas.Bool.{eq-eqb, ne_eqb}
use Rattle.std.proofs.lemmas.List.{get_or-map, length-map}
use Rattle.std.proofs.lemmas.List.Sums.{count_by_more_yes, count_by_more_no}
use Rattle.boost_step.proofs.most.times.Goals as goal
use Rattle.boost_step.proofs.most.times.Goals.{then-of-wanted, else-of-wanted}

pub loop-number-preserved : goal.loop-number-preserved
loop-number-preserved g c =
    let read : ℕ → ℕ = g.R.Reading.read c.args.reading.now in
    let numbers = c.args.numbers.now in
    let i = c.loop-number.number-index in
    let wanted : ℕ = c.args.wanted in
    let lt : i < length numbers =
    omega (arith, c.loop-number-test.true, c.loop-number.auto.number-index-end) in
    let there : i < length (map read numbers) = omega (arith, lt, length-map numbers read) in
    let at : get_or (map read numbers) i 0 ≡ c.of.result =
    get_or-map read numbers i 0 0 lt ∙ sym c.of.ensures in
    elim c.if-of-wanted.branch [
      | then-of-wanted w ↦ record {
        counted = w.times-is ∙ ap (λ n. n + 1) c.loop-number.invariant.counted
            ∙ sym (count_by_more_yes (nat_eq wanted) (map read numbers) i 0 there
            (eq-eqb wanted _ (sym (at ∙ w.if-of-wanted.true))));
        few = omega (arith, w.times-is, c.loop-number.invariant.few);
      }
      | else-of-wanted w ↦ record {
        counted = w.times-is ∙ c.loop-number.invariant.counted
            ∙ sym (count_by_more_no (nat_eq wanted) (map read numbers) i 0 there
            (ne_eqb wanted _ (λ e. w.if-of-wanted.false (sym (e ∙ at)))));
        few = omega (arith, w.times-is, c.loop-number.invariant.few);
      }
    ]
