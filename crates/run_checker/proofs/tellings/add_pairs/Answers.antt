use Rattle.std.proofs.Common.{ℕ, List, ◌≡◌, ◌≤◌, ◌++◌, [], ◌∷◌, cond, length, map, refl, sym, ap}
use Rattle.std.proofs.Common.{◌∙◌, arith, length-append, vec_capacity}
use Rattle.std.proofs.lemmas.List.{append-nil, length-map}
use Rattle.sync_types.specs.FaultSets.{is_in}
use Rattle.round_runner.specs.Locks.{correct_nodes}
use Rattle.run_checker.proofs.Ranges.{pairs_more}
use Rattle.run_checker.proofs.ToldPlaces.{fewer_before}
use Rattle.run_checker.proofs.tellings.add_pairs.Goals as goal
use Rattle.run_checker.proofs.tellings.add_pairs.Goals.{then-not-contains, else-not-contains}

pub unwrap-requires : goal.unwrap-requires
unwrap-requires c =
    let free = sym c.contains.ensures ∙ c.if-not-contains.true in
    let ids = c.args.faulty.now.ids in
    let h = c.loop-v.invariant in
    let pair : ℕ → ℕ × ℕ = λ v. (c.args.sender, v) in
    let row = map pair (correct_nodes c.loop-v.v ids) in
    let few = fewer_before c.args.faulty.now.nodes c.loop-v.v ids
    (omega (arith, c.loop-v-test.true, c.nodes-v-end.ensures)) free in
    let now = ap (λ (l : List (ℕ × ℕ)). length l) h.pairs in
    let long = length-append c.args.pairs.now.items row in
    let size = length-map (correct_nodes c.loop-v.v ids) pair in
    c.push.ensures.succeeds (omega (arith, few, now, long, size, c.requires, h.room))

pub loop-v-preserved : goal.loop-v-preserved
loop-v-preserved c =
    let h = c.loop-v.invariant in
    let ids = c.args.faulty.now.ids in
    let row : List (ℕ × ℕ) = cond (is_in ids c.loop-v.v) [] ((c.args.sender, c.loop-v.v) ∷ []) in
    let pairs : c.if-not-contains.pairs.items ≡ c.loop-v.pairs.items ++ row =
    elim c.if-not-contains.branch [
      | then-not-contains w ↦
          rw (
            w.pairs-is,
            w.push.ensures.items,
            w.unwrap.ensures,
            w.new.ensures,
            ← c.contains.ensures,
            w.if-not-contains.true,
          ) refl
      | else-not-contains w ↦
          rw (w.pairs-is, ← c.contains.ensures, w.if-not-contains.false)
          (sym (append-nil c.loop-v.pairs.items))
    ] in
    let room : vec_capacity c.loop-v.pairs ≤ vec_capacity c.if-not-contains.pairs =
    elim c.if-not-contains.branch [
      | then-not-contains w ↦ rw w.pairs-is (omega (arith, w.push.ensures.capacity))
      | else-not-contains w ↦ rw w.pairs-is (omega arith)
    ] in
    record {
      pairs = pairs ∙ pairs_more ids c.args.sender c.loop-v.v c.args.pairs.now.items
          c.loop-v.pairs.items h.pairs;
      room = omega (arith, room, h.room);
    }
