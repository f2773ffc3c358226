use Rattle.std.proofs.Common.{◌≡◌, ℕ, ◌<◌, true, List, [], ◌∷◌, length, take, get_or, sym, ap, ◌∙◌}
use Rattle.std.proofs.Common.{subst, ⊎_elim, arith}
use Rattle.std.specs.List.{sum_by}
use Rattle.std.proofs.Math.Seq.{map-set_same}
use Rattle.std.proofs.lemmas.Bool.{cases_lt}
use Rattle.std.proofs.lemmas.List.{length-set, get_or-set_other, get_or-map, take_more}
use Rattle.std.proofs.lemmas.Grind.{get_or-set_at}
use Rattle.std.proofs.lemmas.List.Elements.{All-set}
use Rattle.std.proofs.lemmas.List.Sums.{sum_by-append, sum_by-cons}
use Rattle.plan_numbers.specs.declared.numbers.LevelNums.{LevelNums}
use Rattle.plan_numbers.specs.Numbers.{level_of}
use Rattle.plan_numbers.specs.Sizes.{block_nodes}
use Rattle.shared_board.specs.GroupVotes.{Stands}
use Rattle.shared_board.specs.Sharing.{honest_in}
use Rattle.shared_board.specs.Boards.{Board, sent_of}
use Rattle.tower.specs.Placings.{Placing}
use Rattle.tower.specs.Placings.{key_of, cost_of, IsPlacedOn}
use Rattle.tower.proofs.groups.gather_groups.Goals as goal

pub loop-g-preserved : goal.loop-g-preserved
loop-g-preserved g c =
    let i = c.loop-g.invariant in
    let e = c.gather-settled.ensures in
    let at : ℕ = c.loop-g.g in
    let board : Board = c.args.board.now in
    let gs : List Placing = c.loop-g.groups in
    let first : List Placing = c.args.groups.now in
    let new : Placing = c.gather-settled.new.self in
    let d : Placing = c.index-groups-g.result in
    let old : Placing = get_or gs at d in
    let less : at < length gs = omega (arith, c.loop-g-test.true, i.size) in
    let Stands : Placing → Type 0 = λ p. Stands (sent_of board p.height) p.group in
    let Settled : Placing → Type 0 = λ p. p.group.is_settled ≡ true in
    let cost : cost_of board new ≡ cost_of board old =
    ap (λ f. length (honest_in board.faulty f new.group.nums.nodes)) e.same_first
    ∙ ap (λ (m : LevelNums). length (honest_in board.faulty old.group.first m.nodes)) e.same_nums in
    let cost_at : cost_of board old ≡ cost_of board (get_or first at d) =
    sym (get_or-map (cost_of board) gs at d 0 less)
    ∙ (ap (λ cs. get_or cs at 0) i.costs
    ∙ get_or-map (cost_of board) first at d 0 c.loop-g-test.true) in
    let sum = ap (sum_by (cost_of board)) (take_more first at d c.loop-g-test.true)
    ∙ sum_by-append (cost_of board) (take at first) (get_or first at d ∷ []) in
    let one = sum_by-cons (cost_of board) (get_or first at d) [] in
    let height = e.same_height in
    let nodes = ap (λ (m : LevelNums). m.nodes) e.same_nums in
    let old_fits : IsPlacedOn board old = i.fits at d less in
    let key : key_of new ≡ key_of old =
    ap (λ (m : LevelNums).
    record {
      level = level_of m;
      below = new.height;
      block = block_nodes m;
      first =
          new.group.first;
    }) e.same_nums
    ∙ (ap (λ h. record {
      level = level_of old.group.nums;
      below = h;
      block =
          block_nodes old.group.nums;
      first = new.group.first;
    }) e.same_height
    ∙ ap (λ f. record {
      level = level_of old.group.nums;
      below = old.height;
      block =
          block_nodes old.group.nums;
      first = f;
    }) e.same_first) in
    record {
      keys = map-set_same key_of gs at new d key ∙ i.keys;
      costs = map-set_same (cost_of board) gs at new d cost ∙ i.costs;
      size = length-set gs at new ∙ i.size;
      fits = All-set (IsPlacedOn board) gs at new
          (record {
            ready = e.stands.room;
            height = omega (arith, height, old_fits.height);
            within = omega (arith, e.same_first, nodes, old_fits.within);
          })
          i.fits;
      stand = λ j none lt. ⊎_elim
          (λ earlier. subst Stands
          (sym (get_or-set_other gs at j new none (λ (same : j ≡ at). omega arith)))
          (i.stand j none earlier))
          (λ le. let is : j ≡ at = omega arith in
          subst Stands (sym (get_or-set_at gs at j new none is less)) e.stands)
          (cases_lt j at);
      settled = λ all j none lt.
          let both = c.both-all_settled.ensures all in
          ⊎_elim
          (λ earlier. subst Settled
          (sym (get_or-set_other gs at j new none (λ (same : j ≡ at). omega arith)))
          (i.settled both.0 j none earlier))
          (λ le. let is : j ≡ at = omega arith in
          subst Settled (sym (get_or-set_at gs at j new none is less)) (sym e.settled ∙ both.1))
          (cases_lt j at);
      steps = omega (arith, e.steps, i.steps, sum, one, cost_at);
    }
