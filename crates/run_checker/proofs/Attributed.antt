-- What is told by the order of the pairs is what the statements attribute.
use Rattle.std.proofs.Common.{◌≡◌, ℕ, Bool, true, false, cond, eqb, ◌&&◌, List, [], ◌∷◌, map, Some}
use Rattle.std.proofs.Common.{find, unwrap_or, refl, sym, ap, ap₂, ◌∙◌}
use Rattle.std.specs.Option.{option_map}
use Rattle.std.specs.List.{range_with_len, zip}
use Rattle.sync_types.specs.States.{State, zero_state}
use Rattle.construction.specs.Plans.{Plan, plan_nodes, plan_depth}
use Rattle.construction.specs.Runs.{is_in, heard_by}
use Rattle.construction.specs.Steps.{step_of}
use Rattle.run_checker.specs.Grammar.{pairs_of}
use Rattle.run_checker.specs.Stated.{Message, told_of, lies_table, stepped}
use Rattle.run_checker.specs.Checking.{attributed}
use Rattle.run_checker.specs.Rounds.{told_for, told_table, stepped_all}

same_map : {X Y : Type 0} (f g : X → Y) → ((x : X) → f x ≡ g x) → (xs : List X)
    → map f xs ≡ map g xs
same_map f g same [] = refl
same_map f g same (x ∷ xs) = ap₂ (λ y ys. y ∷ ys) (same x) (same_map f g same xs)

module _ (plan : Plan) where
  abbrev told_to : ℕ × ℕ → State → Message
  told_to pair state = record { sender = pair.0; receiver = pair.1; state = state }

  told_same : (pairs : List (ℕ × ℕ)) (states : List State) (u v : ℕ)
      → told_of plan (map (λ (pair, state). told_to pair state) (zip pairs states)) u v
      ≡ told_for (plan_depth plan) pairs states u v
  told_same [] states u v = refl
  told_same (p ∷ pairs) [] u v = refl
  told_same (p ∷ pairs) (s ∷ states) u v =
      by (eqb p.0 u && eqb p.1 v) (told_same pairs states u v) where
        by : (b : Bool)
            → told_of plan (map (λ (pair, state). told_to pair state) (zip pairs states)) u v
            ≡ told_for (plan_depth plan) pairs states u v
            → unwrap_or
            (option_map (λ (t : Message). t.state)
            (cond b (Some (told_to p s))
            (find (λ (t : Message). eqb t.sender u && eqb t.receiver v)
            (map (λ (pair, state). told_to pair state) (zip pairs states)))))
            (zero_state (plan_depth plan))
            ≡ cond b s (told_for (plan_depth plan) pairs states u v)
        by true more = refl
        by false more = more

  table_same : (faulty : List ℕ) (states : List State)
      → told_table (plan_nodes plan) (plan_depth plan) (pairs_of (plan_nodes plan) faulty) states
      ≡ lies_table plan (attributed (plan_nodes plan) faulty states)
  table_same faulty states =
      same_map
      (λ u. map (λ v. told_for (plan_depth plan) (pairs_of (plan_nodes plan) faulty) states u v)
      (range_with_len 0 (plan_nodes plan)))
      (λ u. map (λ v. told_of plan (attributed (plan_nodes plan) faulty states) u v)
      (range_with_len 0 (plan_nodes plan)))
      (λ u. same_map
      (λ v. told_for (plan_depth plan) (pairs_of (plan_nodes plan) faulty) states u v)
      (λ v. told_of plan (attributed (plan_nodes plan) faulty states) u v)
      (λ v. sym (told_same (pairs_of (plan_nodes plan) faulty) states u v))
      (range_with_len 0 (plan_nodes plan)))
      (range_with_len 0 (plan_nodes plan))

  -- the configuration after a round is the stated one
  pub stepped_is : (faulty new : List ℕ) (config : List State) (pairs : List (ℕ × ℕ))
      (states : List State)
      → pairs ≡ pairs_of (plan_nodes plan) faulty
      → stepped_all plan faulty new config pairs states
      ≡ stepped plan new (record { faulty = faulty; config = config })
      (attributed (plan_nodes plan) faulty states)
  stepped_is faulty new config pairs states is =
      ap (λ (ps : List (ℕ × ℕ)). stepped_all plan faulty new config ps states) is
      ∙ ap
      (λ (table : List (List State)). map
      (λ v. cond (is_in new v) (zero_state (plan_depth plan))
      (step_of plan v (heard_by (plan_nodes plan) faulty config table v)))
      (range_with_len 0 (plan_nodes plan)))
      (table_same faulty states)
