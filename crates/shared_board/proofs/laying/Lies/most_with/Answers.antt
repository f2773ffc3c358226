use Rattle.std.proofs.Common.{◌≡◌, ℕ, ◌≤◌, ◌++◌, List, Option, Some, None, map}
use Rattle.std.proofs.Common.{get_or, sym, ap, ◌∙◌, subst, ⊎_elim, arith}
use Rattle.std.proofs.lemmas.Bool.{cases_lt, true≢false}
use Rattle.std.proofs.lemmas.List.{length-map, get_or-map}
use Rattle.counting.specs.Values.{count_of}
use Rattle.sync_types.specs.States.{State}
use Rattle.construction.specs.Shown.{shown}
use Rattle.shared_board.proofs.Told.{found, none_found}
use Rattle.shared_board.proofs.laying.Lies.most_with.Goals as goal

-- it has more than half with them
pub returns-then-is_above-clause-most : goal.returns-then-is_above-clause-most
returns-then-is_above-clause-most g c =
    let read : State → Option ℕ = λ s. Some (g.R.Reading.reads c.args.reading.now
    (shown c.args.self.now.height s)) in
    let lies = c.args.self.now.lies.now in
    found c.args.poll.now.values (map read lies) c.args.half
    (omega (arith, c.requires.half, length-map lies read)) c.of-number.result
    (c.is_above.ensures.0 c.if-is_above.true)

-- the next lie's number has not
pub loop-lie-preserved : goal.loop-lie-preserved
loop-lie-preserved g c = λ k lt.
    let read : State → Option ℕ = λ s. Some (g.R.Reading.reads c.args.reading.now
    (shown c.args.self.now.height s)) in
    let lies = c.args.self.now.lies.now in
    let all : List (Option ℕ) = c.args.poll.now.values ++ map read lies in
    let half : ℕ = c.args.half in
    let at = c.loop-lie.lie-index in
    let few : count_of all (Some c.of-number.result) ≤ half =
    ⊎_elim (λ above. absurd (true≢false (sym (c.is_above.ensures.1 above)
    ∙ c.if-is_above.false)))
    (λ le. le) (cases_lt half (count_of all (Some c.of-number.result))) in
    let is : Some c.of-number.result ≡ get_or (map read lies) at None =
    ap Some (c.of-number.ensures ∙ ap (g.R.Reading.reads c.args.reading.now) c.shown.ensures)
    ∙ (ap read c.lie-item.is
    ∙ sym (get_or-map read lies at c.lie-item.result None (omega (
      arith,
      c.loop-lie-test.true,
      c.loop-lie.auto.lie-index-end,
    )))) in
    let few_at : count_of all (get_or (map read lies) at None) ≤ half =
    subst (λ o. count_of all o ≤ half) is few in
    ⊎_elim (λ earlier. c.loop-lie.invariant k earlier)
    (λ le. let here : at ≡ k = omega arith in
    subst (λ j. count_of all (get_or (map read lies) j None) ≤ half) here few_at)
    (cases_lt k at)

-- neither the others nor the lies have one
pub returns-clause-most : goal.returns-clause-most
returns-clause-most g c =
    let read : State → Option ℕ = λ s. Some (g.R.Reading.reads c.args.reading.now
    (shown c.args.self.now.height s)) in
    let lies = c.args.self.now.lies.now in
    none_found c.args.poll.now.values (map read lies) c.args.half
    (omega (arith, c.requires.half, length-map lies read))
    c.requires.open
    (λ k lt. c.loop-lie.invariant k (omega (
      arith,
      length-map lies read,
      c.loop-lie.auto.lie-index-end,
      c.loop-lie-test.false,
    )))
