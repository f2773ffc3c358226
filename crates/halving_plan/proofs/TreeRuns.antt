-- A run of a tree as a list of configurations is one by place.
use Rattle.std.proofs.Common.{◌≡◌, ℕ, ◌+◌, ◌-◌, ◌<◌, false, eqb, not, ◌||◌, cond, List, [], length}
use Rattle.std.proofs.Common.{get_or, replicate, ap, ◌∙◌, arith}
use Rattle.std.proofs.Math.Bool.{or-true}
use Rattle.std.proofs.lemmas.List.Elements.{All-get_or}
use Rattle.std.proofs.lemmas.List.FromFn.{length-map-range_with_len, get_or-map-range_with_len}
use Rattle.sync_types.specs.States.{State, zero_state, zero_register}
use Rattle.construction.specs.Steps.{state_of}
use Rattle.construction.specs.Runs.{is_in, configuration, heard_of, heard_by}
use Rattle.halving_plan.specs.Trees.{Tree, tree_nodes}
use Rattle.halving_plan.specs.Steps.{step_in, tree_depth}
use Rattle.machines.specs.Machines.{IsConfiguration, Round, Run}
use Rattle.halving_plan.specs.Runs.{machine_of}
use Rattle.halving_plan.proofs.Places.{StepsIn, RunIn}
use Rattle.halving_plan.proofs.States.{state_of_range}

module _ (tree : Tree) (modulus : ℕ) (faulty : List ℕ) where
  -- a node's round
  node_steps : (old new : List State) (lies : List (List State)) (v : ℕ)
      → Round (machine_of tree modulus) faulty old lies new → v < tree_nodes tree
      → is_in faulty v ≡ false
      → StepsIn tree modulus (is_in faulty) (state_of old) v (state_of new v)
  node_steps old new lies v round lt correct =
      let n : ℕ = tree_nodes tree in
      let f : ℕ → State = heard_of faulty old lies v in
      let s : State = step_in tree modulus v (heard_by n faulty old lies v) in
      record {
        heard = heard_by n faulty old lies v;
        size = length-map-range_with_len f 0 n;
        honest = λ u ult uok.
            get_or-map-range_with_len f 0 n u u (zero_state 0) ult (omega arith)
            ∙ (ap (λ b.
            cond (eqb u v || not b) (state_of old u) (state_of (get_or lies u []) v)) uok
            ∙ ap (λ b. cond b (state_of old u) (state_of (get_or lies u []) v))
            (or-true (eqb u v)));
        further = replicate (tree_depth tree - length s.registers) zero_register;
        step = round.steps v lt correct;
      }

  pub run_in : 0 < modulus → (run : List (List State)) → Run (machine_of tree modulus) faulty run
      → RunIn tree modulus (is_in faulty) (length run - 1)
      (λ t v. state_of (configuration run t) v)
  run_in positive run is =
      let some = is.some in record {
        fields = λ t v hi lt correct.
            (state_of_range tree modulus positive v (state_of (configuration run t) v)
            ((All-get_or (IsConfiguration (machine_of tree modulus)) run t [] (omega arith)
            is.configurations).states v lt)).fields;
        steps = λ t v hi lt correct. let next =
            is.rounds t (omega arith) in
            node_steps (configuration run t) (configuration run (t + 1)) next.lies v next.round lt
            correct;
      }
