-- The next configuration is there, and only the states of faulty nodes are free in it.
use Rattle.std.proofs.Common.{ℕ, ◌<◌, map, get_or, sym, subst, ◌∙◌, arith}
use Rattle.std.specs.List.{range_with_len}
use Rattle.std.proofs.lemmas.List.FromFn.{length-map-range_with_len, get_or-map-range_with_len}
use Rattle.sync_types.specs.States.{State, zero_state}
use Rattle.construction.specs.Runs.{heard_by}
use Rattle.halving_plan.specs.Trees.{tree_nodes}
use Rattle.halving_plan.specs.Steps.{step_of}
use Rattle.state_codec.specs.Ranges.{InRange}
use Rattle.halving_plan.specs.Runs.{all_fields}
use Rattle.halving_plan.proofs.States.{range_of_state}
use Rattle.halving_plan.proofs.Ranges.{step_is_state}
use Rattle.halving_plan.specs.TreeLaws.{EachHasOneNext}

-- in a list that is made place by place
made : {X : Type 0} (P : ℕ → X → Type 0) (f : ℕ → X) (n : ℕ) (d : X) → ((i : ℕ) → P i (f i))
    → (i : ℕ) → i < n → P i (get_or (map f (range_with_len 0 n)) i d)
made P f n d holds i lt =
    subst (P i) (sym (get_or-map-range_with_len f 0 n i i d lt (omega arith))) (holds i)

pub each_has_one_next : EachHasOneNext
each_has_one_next tree modulus two faulty old lies is table =
    let n : ℕ = tree_nodes tree in
    let f : ℕ → State = λ v. step_of tree modulus v (heard_by n faulty old lies v) in
    record {
      new = map f (range_with_len 0 n);
      states = record {
        size = length-map-range_with_len f 0 n;
        states =
            made (λ v. InRange (all_fields tree modulus v)) f n (zero_state 0)
            (λ v. range_of_state tree modulus (omega arith) v (f v)
            (step_is_state tree modulus v (heard_by n faulty old lies v) (omega arith)));
      };
      round = record {
        table = table;
        steps = λ v lt correct. get_or-map-range_with_len f 0 n v v (zero_state 0) lt (omega arith);
      };
      only = λ other round v lt correct. round.steps v lt correct
          ∙ sym (get_or-map-range_with_len f 0 n v v (zero_state 0) lt (omega arith));
    }
