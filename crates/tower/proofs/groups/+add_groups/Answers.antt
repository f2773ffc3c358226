use Rattle.std.proofs.Common.{◌+◌, ◌*◌, ◌<◌, ◌++◌, List, [], ◌∷◌, length, map, All, sym, ap, ◌∙◌}
use Rattle.std.proofs.Common.{subst, arith}
use Rattle.plan_numbers.specs.Numbers.{levels_in}
use Rattle.shared_board.specs.Groups.{groups_of}
use Rattle.std.proofs.Common.{append-nil}
use Rattle.std.proofs.lemmas.List.{map_push}
use Rattle.std.proofs.lemmas.List.Elements.{All-append, All-cons}
use Rattle.tower.specs.Placings.{Placing, key_of, IsReady}
use Rattle.tower.proofs.Descent.{below_levels, top_sized}
use Rattle.tower.proofs.Adding.{blocks_more, top_are, block_within, all_added}
use Rattle.tower.proofs.groups.+add_groups.Goals as goal

pub new-requires : goal.new-requires
new-requires t c =
    let a = c.requires.levels in
    top_are a.0 _ _ _ c.in-Some.ensures.cases.0 a.1

pub block_nodes-n-requires : goal.block_nodes-n-requires
block_nodes-n-requires t c =
    let a = c.requires.levels in
    top_sized a.0 _ _ _ c.in-Some.ensures.cases.0 a.1

pub add_groups-requires : goal.add_groups-requires
add_groups-requires t c =
    let a = c.requires.levels in
    let e = c.in-Some.ensures.cases.0 in
    let falls : length c.in-Some.below.now < t =
    omega (arith, c.decreases, c.in-Some.ensures.cases.1) in (
      falls,
      (
        (a.0, below_levels a.0 _ _ _ e a.1),
        (
          block_within a.0 _ _ _ e a.1 c.args.first c.loop-b.b c.block_nodes-n.result
              c.block_nodes-n.ensures c.requires.small c.loop-b-test.true,
          c.loop-b.invariant.ready,
        ),
      ),
    )

pub loop-b-init : goal.loop-b-init
loop-b-init t c =
    let old : List Placing = c.args.groups.now.items in
    let top : Placing = c.in_ok-top.top in
    let one : All IsReady (top ∷ []) =
    All-cons IsReady top [] c.in_ok-top.ensures.ready (λ k d lt. absurd (omega (arith, lt))) in
    record {
      added = sym (append-nil (map key_of c.push.new.groups.items));
      ready = subst (All IsReady) (sym c.in_ok-push.ensures)
          (All-append IsReady old (top ∷ []) c.requires.ready one);
    }

pub loop-b-preserved : goal.loop-b-preserved
loop-b-preserved t c = record {
  added = blocks_more (λ b. groups_of (levels_in c.in-Some.below.now)
      (c.args.first + b * c.block_nodes-n.result)) _ _ _ c.loop-b.b
      c.loop-b.invariant.added c.in_ok-add_groups.ensures.added;
  ready = c.in_ok-add_groups.ensures.ready;
}

pub returns-clause-added : goal.returns-clause-added
returns-clause-added t c =
    let a = c.requires.levels in
    let old : List Placing = c.args.groups.now.items in
    let top : Placing = c.in_ok-top.top in
    let after = ap (map key_of) c.in_ok-push.ensures
    ∙ (map_push key_of old top ∙ ap (λ k. map key_of old ++ k ∷ []) c.in_ok-top.ensures.key) in
    all_added a.0 _ _ _ c.in-Some.ensures.cases.0 a.1 c.args.first c.block_nodes-n.result c.loop-b.b
    (map key_of old) _ _
    c.block_nodes-n.ensures after c.loop-b.invariant.added
    (omega (arith, c.loop-b-test.false, c.loop-b.auto.b-end))

pub returns-clause-ready : goal.returns-clause-ready
returns-clause-ready t c = c.loop-b.invariant.ready
