use Rattle.std.proofs.Common.{◌≡◌, ℕ, ◌+◌, ◌≤◌, if◌then◌else◌, Bool, List, length, ap, sym, ◌∙◌}
use Rattle.std.proofs.Common.{arith, map, set}
use Rattle.std.specs.List.{range_with_len}
use Rattle.std.proofs.lemmas.List.{length-set}
use Rattle.sync_types.specs.FaultSets.{is_in}
use Rattle.shared_board.specs.Sharing.{place_among}
use Rattle.shared_board.proofs.Marking.{one_more, last_one, counted, at_most_one}
use Rattle.shared_board.proofs.liars.mark.Goals as goal
use Rattle.shared_board.proofs.liars.mark.Goals.{then-is_liar, else-is_liar}

pub loop-v-preserved : goal.loop-v-preserved
loop-v-preserved c =
    let i = c.loop-v.invariant in
    let ids : List ℕ = c.args.faulty.now.ids in
    let v : ℕ = c.loop-v.v in
    let liar : Bool = c.contains-is_liar.result in
    let less = c.loop-v-test.true in
    let nodes = c.len-nodes.ensures in
    let ok = c.args.marks.now.ok.0 in
    let size = c.requires.size in
    let count : c.if-is_liar.count ≡ c.loop-v.count + (if liar then 1 else 0) =
    elim c.if-is_liar.branch [
      | then-is_liar w ↦ w.count-is
          ∙ ap (λ b. c.loop-v.count + (if b then 1 else 0)) (sym w.if-is_liar.true)
      | else-is_liar w ↦ w.count-is
          ∙ (omega arith ∙ ap (λ b. c.loop-v.count + (if b then 1 else 0)) (sym w.if-is_liar.false))
    ] in
    let one : (if liar then 1 else 0) ≤ 1 = at_most_one liar in
    record {
      count = count ∙ counted ids v c.loop-v.count liar c.contains-is_liar.ensures i.count;
      few = omega (arith, count, i.few, one);
      marks_long = length-set c.loop-v.marks.items v liar ∙ i.marks_long;
      before_long = length-set c.loop-v.before.items v c.loop-v.count ∙ i.before_long;
      marks = one_more (is_in ids) v liar c.loop-v.marks.items
          (omega (arith, less, nodes, ok, i.marks_long)) i.marks c.contains-is_liar.ensures;
      before = one_more (place_among ids) v c.loop-v.count c.loop-v.before.items
          (omega (arith, less, nodes, ok, i.before_long, size)) i.before i.count;
    }

pub returns-clause-before : goal.returns-clause-before
returns-clause-before c =
    let i = c.loop-v.invariant in
    let ids : List ℕ = c.args.faulty.now.ids in
    let before : List ℕ = c.loop-v.before.items in
    let ok = c.args.marks.now.ok.0 in
    let all : c.loop-v.v ≡ length c.args.marks.now.items =
    omega (arith, c.loop-v-test.false, c.loop-v.auto.v-end, c.len-nodes.ensures, ok) in
    let at : c.len-nodes.result ≡ c.loop-v.v = omega (arith, all, c.len-nodes.ensures, ok) in
    ap (λ k. set before k c.loop-v.count) at
    ∙ (last_one (place_among ids) c.loop-v.v c.loop-v.count before
    (omega (arith, i.before_long, c.requires.size, all)) i.before i.count
    ∙ ap (λ n. map (place_among ids) (range_with_len 0 (n + 1))) all)
