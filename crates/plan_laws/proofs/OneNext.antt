-- The next configuration is there, and only the states of faulty nodes are free in it.
use Rattle.std.proofs.Common.{ℕ, ◌<◌, map, get_or, sym, subst, ◌∙◌, arith}
use Rattle.std.specs.List.{range_with_len}
use Rattle.std.proofs.lemmas.List.FromFn.{length-map-range_with_len, get_or-map-range_with_len}
use Rattle.sync_types.specs.States.{State, zero_state}
use Rattle.construction.specs.Plans.{plan_nodes}
use Rattle.construction.specs.Steps.{step_of}
use Rattle.construction.specs.Runs.{IsState, heard_by}
use Rattle.construction.proofs.Ranges.{step_is_state}
use Rattle.plan_laws.specs.Laws.{EachHasOneNext}
use Rattle.plan_laws.proofs.PlanCounter.{positive}

-- in a list that is made place by place
made : {X : Type 0} (P : ℕ → X → Type 0) (f : ℕ → X) (n : ℕ) (d : X) → ((i : ℕ) → P i (f i))
    → (i : ℕ) → i < n → P i (get_or (map f (range_with_len 0 n)) i d)
made P f n d holds i lt =
    subst (P i) (sym (get_or-map-range_with_len f 0 n i i d lt (omega arith))) (holds i)

pub each_has_one_next : EachHasOneNext
each_has_one_next plan accepted faulty old lies is table =
    let some = positive plan.base plan.levels accepted.levels in
    let n : ℕ = plan_nodes plan in
    let f : ℕ → State = λ v. step_of plan v (heard_by n faulty old lies v) in
    record {
      new = map f (range_with_len 0 n);
      states = record {
        size = length-map-range_with_len f 0 n;
        states =
            made (IsState plan) f n (zero_state 0)
            (λ v. step_is_state plan some.0 some.1 v (heard_by n faulty old lies v));
      };
      round = record {
        table = table;
        steps = λ v lt correct. get_or-map-range_with_len f 0 n v v (zero_state 0) lt (omega arith);
      };
      only = λ other round v lt correct. round.steps v lt correct
          ∙ sym (get_or-map-range_with_len f 0 n v v (zero_state 0) lt (omega arith));
    }
