use Rattle.std.proofs.Common.{◌≡◌, ◌<◌, ◌+◌, ◌*◌, ◌++◌, ◌∷◌, [], length, sym, ap, ◌∙◌, subst, arith}
use Rattle.std.proofs.Common.{rules}
use Rattle.std.specs.Prelude.{Some, None}
use Rattle.std.specs.List.{flat_map, range_with_len}
use Rattle.std.proofs.lemmas.List.{append-nil}
use Rattle.plan_finder.specs.Costs.{Reaches}
use Rattle.plan_finder.specs.Best.{IsBestOf, AreCostsBefore}
use Rattle.plan_finder.specs.Least.{pots_at}
use Rattle.plan_finder.proofs.Sets.{in_rows}
use Rattle.plan_finder.proofs.Gathered.{costs_skip, costs_push, costs_row, pot_of}
use Rattle.plan_finder.proofs.Enumerated.{rows_before, row_more, rows_push, pair_found}
use Rattle.plan_finder.proofs.choosing.least_costs.Goals.{in-None, in-Some+in_ok-map_err-in-Some}
use Rattle.plan_finder.proofs.choosing.least_costs.Goals as goal

pub loop-f-preserved : goal.loop-f-preserved
loop-f-preserved c =
    let most = c.args.rows.now.most in
    let n = c.loop-n.n in
    let f = c.loop-f.f in
    let before = c.loop-f.invariant.costs in
    let inside : n * c.args.rows.now.width + f < length c.args.rows.now.cells.now =
    omega (
      arith,
      in_rows n f c.args.rows.now.width (most + 1) c.loop-f-test.true c.loop-n-test.true,
      c.requires.size,
    ) in
    let cell = c.args.rows.now.best.best n f c.loop-f-test.true inside in
    elim c.match-rows-n.branch [
      | in-None w ↦
          let items : c.match-rows-n.pots.items ≡ c.loop-f.pots.items = search rules in
          let is = subst (IsBestOf (Reaches most n f)) w.in-None.is cell in
          record {
            costs =
                subst (AreCostsBefore most n (f + 1)) (sym items)
                (costs_skip most n f c.loop-f.pots.items before is);
            same =
                items
                ∙ (sym (append-nil c.loop-f.pots.items)
                ∙ row_more most c.args.rows.now.width n f c.loop-f.pots.items []
                c.loop-f.invariant.same
                (pair_found most c.requires.some c.args.rows.now.sizes.0 n f None is));
          }
      | in-Some+in_ok-map_err-in-Some w ↦
          let best = w.in-Some.best in
          let items : c.match-rows-n.pots.items
          ≡ c.loop-f.pots.items ++ pot_of n f best.value ∷ [] = search rules in
          let is = subst (IsBestOf (Reaches most n f)) w.in-Some.is cell in
          record {
            costs =
                subst (AreCostsBefore most n (f + 1)) (sym items)
                (costs_push most n f c.loop-f.pots.items before best is);
            same =
                items
                ∙ row_more most c.args.rows.now.width n f c.loop-f.pots.items
                (pot_of n f best.value ∷ []) c.loop-f.invariant.same
                (ap (λ v. pot_of n f v ∷ []) is.kept.value
                ∙ pair_found most c.requires.some c.args.rows.now.sizes.0 n f (Some best) is);
          }
    ]

pub loop-n-preserved : goal.loop-n-preserved
loop-n-preserved c =
    let most = c.args.rows.now.most in
    let width = c.args.rows.now.width in
    let n = c.loop-n.n in
    let pots = c.loop-f.pots.items in
    let full : c.loop-f.f ≡ width = omega arith in
    record {
      costs =
          costs_row most n width pots c.requires.some c.args.rows.now.sizes.1
          (subst (λ f. AreCostsBefore most n f pots) full c.loop-f.invariant.costs);
      same =
          subst
          (λ f. pots ≡ rows_before most width n ++ flat_map (pots_at most n) (range_with_len 0 f))
          full c.loop-f.invariant.same
          ∙ sym (rows_push most width n);
    }
