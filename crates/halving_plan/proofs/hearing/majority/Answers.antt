use Rattle.std.proofs.Common.{◌≡◌, ◌≢◌, ℕ, ◌+◌, ◌*◌, ◌≤◌, List, Option, Some, length, map}
use Rattle.std.proofs.Common.{count_by, nat_eq, unwrap_or, sym, ap, ◌∙◌, ⊎_elim, arith}
use Rattle.std.proofs.lemmas.Bool.{cases_eq}
use Rattle.std.proofs.lemmas.List.{length-map}
use Rattle.sync_types.specs.States.{State}
use Rattle.counting.specs.Values.{count_of}
use Rattle.counting.proofs.Counts.{count_of_numbers}
use Rattle.counting.proofs.Majority.{majority_is, no_majority}
use Rattle.halving_plan.specs.Groups.{HalvingGroup}
use Rattle.halving_plan.specs.GroupStates.{section}
use Rattle.halving_plan.specs.GroupHearing.{shown_by, outputs_in}
use Rattle.halving_plan.proofs.Lists.{count_by-map, length-section}
use Rattle.halving_plan.proofs.hearing.majority.Goals as goal

module _ (half : HalvingGroup) (heard : List State) where
  abbrev values : List (Option ℕ)
  values = map Some (outputs_in half heard)

  long : half.first + half.nodes ≤ length heard → length values ≡ half.nodes
  long within =
      length-map (outputs_in half heard) Some
      ∙ (length-map (section half.first half.nodes heard) (shown_by half)
      ∙ length-section half.first half.nodes heard within)

  -- so many show a number
  showing : (z : ℕ) → count_of values (Some z)
      ≡ count_by (λ (s : State). nat_eq z (shown_by half s)) (section half.first half.nodes heard)
  showing z =
      count_of_numbers (outputs_in half heard) z
      ∙ count_by-map (nat_eq z) (shown_by half) (section half.first half.nodes heard)

pub returns-then-found-from : goal.returns-then-found-from
returns-then-found-from c =
    let half = c.args.half.now in
    let heard = c.args.heard.now in
    let z = c.candidate-found.result.number in
    sym (ap (λ (o : Option ℕ). unwrap_or o 0) (majority_is (values half heard) z
    (omega (
      arith,
      long half heard c.requires.within,
      showing half heard z,
      c.candidate-found.ensures.own,
      c.nodes-nodes.ensures,
      c.from.ensures,
      c.if-found-from.true,
    ))))

pub returns-then-count_showing-nodes : goal.returns-then-count_showing-nodes
returns-then-count_showing-nodes c =
    let half = c.args.half.now in
    let heard = c.args.heard.now in
    let z = c.candidate-found.result.number in
    sym (ap (λ (o : Option ℕ). unwrap_or o 0) (majority_is (values half heard) z
    (omega (
      arith,
      long half heard c.requires.within,
      showing half heard z,
      c.count_showing.ensures.value,
      c.nodes-nodes.ensures,
      c.if-count_showing-nodes.true,
    ))))

pub returns-else-count_showing-nodes : goal.returns-else-count_showing-nodes
returns-else-count_showing-nodes c =
    let half = c.args.half.now in
    let heard = c.args.heard.now in
    let number = c.candidate-found.result.number in
    let all = long half heard c.requires.within in
    let few : 2 * count_of (values half heard) (Some number) ≤ half.nodes = omega (
      arith,
      showing half heard number,
      c.count_showing.ensures.value,
      c.nodes-nodes.ensures,
      c.if-count_showing-nodes.false,
    ) in
    sym (ap (λ (o : Option ℕ). unwrap_or o 0) (no_majority (values half heard)
    (λ z. ⊎_elim
    (λ (e : z ≡ number). omega (arith, all, few, ap (λ y. count_of (values half heard) (Some y)) e))
    (λ (ne : z ≢ number). omega (arith, all, c.candidate-found.ensures.others z ne, showing half heard z))
    (cases_eq z number))))
