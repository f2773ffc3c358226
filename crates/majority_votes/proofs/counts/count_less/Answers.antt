use Rattle.std.proofs.Common.{◌≡◌, ℕ, ◌-◌, ◌≤◌, ◌∙◌, sym, ap, subst, set, arith}
use Rattle.std.proofs.lemmas.List.{get_or_read}
use Rattle.majority_votes.specs.declared.counts.Count.{Count}
use Rattle.majority_votes.specs.Counts.{count_at, IsAt, IsGapFor, CountsOneLess}
use Rattle.majority_votes.proofs.Lookups.{places_of_absent}
use Rattle.majority_votes.proofs.Fewer.{one_less_remove, one_less_put}
use Rattle.majority_votes.proofs.counts.count_less.Goals as goal

-- the number's last place goes, and its count with it
pub returns-then-index-eq1-clause-less : goal.returns-then-index-eq1-clause-less
returns-then-index-eq1-clause-less c =
    let counts = c.args.counts.now.items in
    let found : IsAt counts c.args.value c.in-Ok.at = rw (← c.deref.ensures.value)
    c.in-Ok.ensures.found in
    let is : c.index.result.now
    ≡ count_at counts c.in-Ok.at = get_or_read counts c.in-Ok.at c.index.result.now
    found.in_range c.index.ensures (record { value = 0; places = 0 }) in
    rw (c.remove-last.ensures.items)
    (one_less_remove counts c.requires.rising c.args.value c.in-Ok.at found c.requires.positive
    (ap (λ (count : Count). count.places) (sym is) ∙ c.if-index-eq1.true))

-- the number's count is one less
pub returns-else-index-eq1-clause-less : goal.returns-else-index-eq1-clause-less
returns-else-index-eq1-clause-less c =
    let counts = c.args.counts.now.items in
    let at = c.in-Ok.at in
    let none : Count = record { value = 0; places = 0 } in
    let x = c.index_mut.result.now in
    let found : IsAt counts c.args.value at = rw (← c.deref.ensures.value) c.in-Ok.ensures.found in
    let is : c.index.result.now
    ≡ count_at counts at = get_or_read counts at c.index.result.now found.in_range
    c.index.ensures none in
    let same : x
    ≡ count_at counts at = get_or_read counts at x found.in_range c.index_mut.ensures.value
    none in
    let some : 1 ≤ (count_at counts at).places = c.requires.positive at none found.in_range in
    let more : 2
    ≤ (count_at counts at).places = grind (
      arith,
      some,
      λ (e : (count_at counts at).places ≡ 1). c.if-index-eq1.false
          (ap (λ (count : Count). count.places) is ∙ e),
    ) in
    let places : x.places
    ≡ (count_at counts at).places = ap (λ (count : Count). count.places) same in
    let value : x.value ≡ c.args.value = ap (λ (count : Count). count.value) same
    ∙ found.has_value in
    subst
    (λ (y : ℕ). CountsOneLess counts
    (set counts at (record { value = y; places = x.places - 1 })) c.args.value)
    (sym value)
    (one_less_put counts c.requires.rising c.args.value at found c.requires.positive (x.places - 1)
    (omega (arith, more, places)) (omega (arith, more, places)))

-- a number that some place holds has a count
pub returns-in_default-clause-less : goal.returns-in_default-clause-less
returns-in_default-clause-less c =
    let gap : IsGapFor c.args.counts.now.items c.args.value c.in_default.field-0 = rw
    (← c.deref.ensures.value) c.in_default.ensures.absent in
    absurd
    (omega (
      arith,
      c.requires.held,
      places_of_absent c.args.counts.now.items c.args.value
          (λ j lt same. grind (arith, gap.less_before j, gap.greater_after j)),
    ))
