use Rattle.std.proofs.Common.{◌≡◌, ℕ, ◌+◌, ◌<◌, ◌++◌, [], ◌∷◌, List, length, map, take, ap, sym}
use Rattle.std.proofs.Common.{◌∙◌, subst, arith}
use Rattle.std.proofs.lemmas.List.{get_or-map, length-map, take_more}
use Rattle.boost_step.specs.Leads.{Leads}
use Rattle.boost_step.proofs.most.leading.Goals as goal

pub loop-number-preserved : goal.loop-number-preserved
loop-number-preserved g c =
    let read : ℕ → ℕ = g.R.Reading.read c.args.reading.now in
    let numbers = c.args.numbers.now in
    let i = c.loop-number.number-index in
    let lt : i < length numbers =
    omega (arith, c.loop-number-test.true, c.loop-number.auto.number-index-end) in
    let there : i < length (map read numbers) = omega (arith, lt, length-map numbers read) in
    let more : take i (map read numbers) ++ c.of.result ∷ [] ≡ take (i + 1) (map read numbers) =
    ap (λ (n : ℕ). take i (map read numbers) ++ n ∷ [])
    (c.of.ensures ∙ sym (get_or-map read numbers i 0 0 lt))
    ∙ sym (take_more (map read numbers) i 0 there) in
    record {
      leads = subst (λ (ns : List ℕ). Leads ns c.follow-leading.result.number
          c.follow-leading.result.lead) more
          (c.follow-leading.ensures.leads
          (take i (map read numbers)) c.loop-number.invariant.leads);
      few = omega (arith, c.follow-leading.ensures.few, c.loop-number.invariant.few);
    }
