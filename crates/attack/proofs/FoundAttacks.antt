-- What is found on a plan, by what is made of it: its machine, the shape of the states, the line
-- with which a script begins, and the maker.
use Rattle.std.proofs.Common.{◌≡◌, ℕ, ◌≤◌, List, Option, Some, None, sym, ap, ◌∙◌, subst}
use Rattle.std.specs.Prelude.{is_some}
use Rattle.std.proofs.lemmas.Bool.{true≢false}
use Rattle.state_codec.specs.Shapes.{Shape}
use Rattle.machines.specs.Machines.{Machine}
use Rattle.attack.specs.AttackTexts.{attack_text}
use Rattle.attack.specs.Drawings.{Drawing, drawing_for, made_by}
use Rattle.attack.specs.Found.{made, best_found, Finds}
use Rattle.attack.specs.Lean.{finished}
use Rattle.attack.specs.PlanTexts.{machine_in, shape_in, first_line_of, IsAcceptedPlan}
use Rattle.attack.specs.SearchLaws.{IsBest, IsBestOf}
use Rattle.attack.specs.Searches.{searched}
use Rattle.attack.specs.Targets.{IsTarget}
use Rattle.attack.specs.declared.finding.Found.{Found}
use Rattle.attack.specs.declared.kinds.Kind.{Kind}
use Rattle.attack.specs.declared.plans.AnyPlan.{AnyPlan}
use Rattle.attack.specs.declared.requests.Numbers.{Numbers}
use Rattle.attack.specs.declared.searching.Best.{Best}
use Rattle.attack.proofs.BestOfTries.{searches_find_best}
use Rattle.attack.proofs.FreshAttacks.{plans_are_attacked}
use Rattle.attack.proofs.LeanBests.{lean_is_as_late}

-- what holds of a machine, a shape and a line holds of those that are the same
moved : (P : Machine → Shape → ℕ → Type 0) (k k' : Machine) (o o' : Shape) (n n' : ℕ) → k' ≡ k
    → o' ≡ o → n' ≡ n → P k o n → P k' o' n'
moved P k k' o o' n n' machine shape line p =
    subst (λ (n : ℕ). P k' o' n) (sym line)
    (subst (λ (o : Shape). P k' o n) (sym shape)
    (subst (λ (k : Machine). P k o n) (sym machine) p))

module _ (plan : AnyPlan) (numbers : Numbers) (kinds : List Kind) where
  abbrev own : Machine
  own = machine_in plan

  abbrev states : Shape
  states = shape_in plan

  abbrev line : ℕ
  line = first_line_of plan

  -- the best one of a machine, a shape and a line
  abbrev best_at : Machine → Shape → ℕ → Option Best
  best_at k o n =
      searched k o n (made_by (drawing_for k numbers.seed numbers.runs kinds)) numbers.runs

  best_is : (best : Best) → IsTarget own states line → best_found plan numbers kinds ≡ Some best
      → IsBest own states line (made plan numbers kinds) numbers.runs best
  best_is best target is =
      subst (IsBestOf own states line (made plan numbers kinds) numbers.runs) is
      (searches_find_best own states line (made plan numbers kinds) numbers.runs target)

  -- what is to be found, of a machine, a shape and a line
  abbrev IsFoundAt : (best : Best) (text : List ℕ) (found : Found) → Machine → Shape → ℕ → Type 0
  IsFoundAt best text found k o n = IsTarget k o n → best_at k o n ≡ Some best
      → text ≡ attack_text k (finished k o n best).attack
      → found.lock ≡ (finished k o n best).lock → found.bound ≡ k.bound
      → Finds plan numbers kinds text found

  found_is : (best : Best) (text : List ℕ) (found : Found)
      → IsFoundAt best text found own states line
  found_is best text found target is said lock bound =
      let latest = best_is best target is in
      record {
        best = best;
        is = is;
        latest = latest;
        late = lean_is_as_late own states line best target latest.played;
        said = said;
        lock = lock;
        bound = bound;
      }

  none_is : IsAcceptedPlan plan → 1 ≤ numbers.runs → best_at own states line ≡ None → ⊥
  none_is accepted some none =
      true≢false (sym (plans_are_attacked plan accepted numbers kinds some) ∙ ap is_some none)

  module _ (k : Machine) (o : Shape) (n : ℕ) (d : Drawing) (machine : k ≡ own) (shape : o ≡ states)
      (first : n ≡ line) (drawing : d ≡ drawing_for k numbers.seed numbers.runs kinds) where
    same : best_at k o n ≡ searched k o n (made_by d) numbers.runs
    same = ap (λ (d : Drawing). searched k o n (made_by d) numbers.runs) (sym drawing)

    pub found_by : (best : Best) (text : List ℕ) (found : Found) → IsTarget k o n
        → searched k o n (made_by d) numbers.runs ≡ Some best
        → text ≡ attack_text k (finished k o n best).attack
        → found.lock ≡ (finished k o n best).lock → found.bound ≡ k.bound
        → Finds plan numbers kinds text found
    found_by best text found target is said lock bound =
        moved (IsFoundAt best text found) own k states o line n machine shape first
        (found_is best text found) target (same ∙ is) said lock bound

    pub not_none : IsAcceptedPlan plan → 1 ≤ numbers.runs
        → searched k o n (made_by d) numbers.runs ≡ None → ⊥
    not_none accepted some none =
        moved (λ k o n. best_at k o n ≡ None → ⊥) own k states o line n machine shape first
        (none_is accepted some) (same ∙ none)
