use Rattle.std.proofs.Common.{ℕ, map, subst, arith}
use Rattle.std.proofs.lemmas.List.{length-map}
use Rattle.boost_step.specs.Leads.{Leads}
use Rattle.boost_step.proofs.Leads.{is_most, leads_most, none_most, none_leads}
use Rattle.boost_step.proofs.most.most.Goals as goal

pub returns-then-leading-eq0 : goal.returns-then-leading-eq0
returns-then-leading-eq0 g c =
    let read : ℕ → ℕ = g.R.Reading.read c.args.reading.now in
    none_leads (map read c.args.numbers.now) c.leading-leading.result.number
    (subst (λ (k : ℕ). Leads (map read c.args.numbers.now) c.leading-leading.result.number k)
    c.if-leading-eq0.true c.leading-leading.ensures)

pub returns-then-half-leading : goal.returns-then-half-leading
returns-then-half-leading g c =
    let read : ℕ → ℕ = g.R.Reading.read c.args.reading.now in
    let long = length-map c.args.numbers.now read in
    leads_most (map read c.args.numbers.now) c.leading-leading.result.number
    c.leading-leading.result.lead c.leading-leading.ensures
    (omega (arith, long, c.if-half-leading.true))

pub returns-then-half-times : goal.returns-then-half-times
returns-then-half-times g c =
    let read : ℕ → ℕ = g.R.Reading.read c.args.reading.now in
    let long = length-map c.args.numbers.now read in
    is_most (map read c.args.numbers.now) c.leading-leading.result.number
    (omega (arith, long, c.times.ensures, c.if-half-times.true))

pub returns-else-half-times : goal.returns-else-half-times
returns-else-half-times g c =
    let read : ℕ → ℕ = g.R.Reading.read c.args.reading.now in
    let long = length-map c.args.numbers.now read in
    none_most (map read c.args.numbers.now) c.leading-leading.result.number
    c.leading-leading.result.lead c.leading-leading.ensures
    (omega (arith, long, c.times.ensures, c.if-half-times.false))
