-- What is recorded meets the grammar, but for the lengths of its lines.
use Rattle.std.proofs.Common.{◌≡◌, ℕ, zero, suc, ◌+◌, ◌<◌, Bool, true, false, cond, eqb, not, ◌||◌}
use Rattle.std.proofs.Common.{List, [], ◌∷◌, map, Option, Some, None, find, is_some, filter}
use Rattle.std.proofs.Common.{refl, sym, ap, subst, ◌∙◌, arith}
use Rattle.std.specs.Prelude.{IfSome}
use Rattle.std.specs.List.{range_with_len}
use Rattle.std.specs.List.Sorted.{IsStrictlyIncreasing}
use Rattle.std.proofs.lemmas.Bool.{and_from, and_parts, not-true}
use Rattle.std.proofs.lemmas.List.Elements.{All-map, All-filter, All-weaker, filter_passes}
use Rattle.std.proofs.lemmas.List.Kept.{IsStrictlyIncreasing-filter}
use Rattle.std.proofs.lemmas.List.FromFn.{length-range_with_len, get_or-range_with_len}
use Rattle.construction.specs.Plans.{Plan, plan_nodes, plan_depth}
use Rattle.construction.specs.Shown.{shown}
use Rattle.construction.specs.Steps.{state_of}
use Rattle.construction.specs.Runs.{is_in, IsToleratedBy}
use Rattle.run_checker.specs.NodeFields.{fields_of}
use Rattle.state_codec.specs.Texts.{is_state_text}
use Rattle.state_codec.proofs.Digits.{text_is_taken}
use Rattle.round_runner.specs.Locks.{correct_nodes}
use Rattle.adversary_script.specs.Scripts as scripts
use Rattle.adversary_script.specs.Scripts.{Script}
use Rattle.adversary_script.specs.Eras.{faulty_of_era, faulty_at}
use Rattle.round_runner.specs.Laws.{IsReadFor}
use Rattle.run_checker.proofs.EraBegins.{same_begun, found_faulty}
use Rattle.run_checker.proofs.PlayedStates.{borne_at}
use Rattle.run_checker.proofs.Live.{below_range}
use Rattle.run_checker.specs.Certificates.{Put, Lie}
use Rattle.run_checker.specs.Grammar.{pairs_of, AreStarts, IsRow, IsEra, IsTurn, AreTurns}
use Rattle.run_checker.specs.Grammar.{faulty_behind}
use Rattle.run_checker.specs.Stated.{Snapshot, shown_row}
use Rattle.run_checker.specs.Recorded.{stand_at, put_at, lie_at, is_put, era_with, turn_at}
use Rattle.run_checker.proofs.RecordedTellings.{is_in_filter, is_in_range}

rising_range : (n : ℕ) → IsStrictlyIncreasing (range_with_len 0 n)
rising_range n =
    λ k l. let size = length-range_with_len 0 n in
    omega (
      arith,
      get_or-range_with_len 0 n k 0 (omega (arith, size)),
      get_or-range_with_len 0 n (k + 1) 0 (omega (arith, size)),
    )

module _ (plan : Plan) (s : Script) (is : IsReadFor plan s) where
  mark : (liar : Bool) (o : ℕ) → is_some {T = ℕ} (cond liar None (Some o)) ≡ not liar
  mark true o = refl
  mark false o = refl

  marks : (x : Snapshot) (vs : List ℕ)
      → map is_some
      (map
      (λ v. cond (is_in x.faulty v) None
      (Some (shown (plan_depth plan) (state_of x.config v))))
      vs)
      ≡ map (λ v. not (is_in x.faulty v)) vs
  marks x [] = refl
  marks x (v ∷ vs) =
      ap
      (λ b. b
      ∷ map is_some
      (map
      (λ v. cond (is_in x.faulty v) None
      (Some (shown (plan_depth plan) (state_of x.config v))))
      vs))
      (mark (is_in x.faulty v) (shown (plan_depth plan) (state_of x.config v)))
      ∙ ap (λ l. not (is_in x.faulty v) ∷ l) (marks x vs)

  pub row_is : (x : Snapshot) → IsRow plan x.faulty (shown_row plan x)
  row_is x = record { size = marks x (range_with_len 0 (plan_nodes plan)) }

  nodes_put : (t : ℕ) (vs : List ℕ) → map (λ (put : Put). put.node) (map (put_at plan s t) vs) ≡ vs
  nodes_put t [] = refl
  nodes_put t (v ∷ vs) = ap (λ l. v ∷ l) (nodes_put t vs)

  -- states that are put when an era begins, or at first
  puts_are : (t : ℕ) (unknown : List ℕ) (p : ℕ → Bool)
      → ((v : ℕ) → p v ≡ true → is_in (faulty_at s t) v ≡ false)
      → ((v : ℕ) → is_in unknown v ≡ true → is_in (faulty_at s t) v ≡ false → p v ≡ true)
      → AreStarts plan unknown (faulty_at s t)
      (map (put_at plan s t) (filter p (range_with_len 0 (plan_nodes plan))))
  puts_are t unknown p correct needed =
      let vs : List ℕ = filter p (range_with_len 0 (plan_nodes plan)) in
      record {
        rising =
            subst IsStrictlyIncreasing (sym (nodes_put t vs))
            (IsStrictlyIncreasing-filter p (range_with_len 0 (plan_nodes plan))
            (rising_range (plan_nodes plan)));
        nodes =
            All-map (λ (put : Put). put.node < plan_nodes plan) (put_at plan s t) vs
            (All-filter p (λ v. v < plan_nodes plan) (range_with_len 0 (plan_nodes plan))
            (below_range (plan_nodes plan)));
        correct =
            All-map (λ (put : Put). is_in (faulty_at s t) put.node ≡ false) (put_at plan s t) vs
            (All-weaker (λ v. p v ≡ true) (λ v. is_in (faulty_at s t) v ≡ false) correct vs
            (filter_passes p (range_with_len 0 (plan_nodes plan))));
        needed =
            λ v lt fresh free. ap (λ l. is_in l v) (nodes_put t vs)
            ∙ is_in_filter p (range_with_len 0 (plan_nodes plan)) v
            ∙ and_from _ _ (needed v fresh free) (is_in_range (plan_nodes plan) v lt);
        states =
            All-map (λ (put : Put). is_state_text (fields_of plan put.node) put.digits ≡ true)
            (put_at plan s t) vs (λ i d l. text_is_taken (fields_of plan _) _);
      }

  pub first_starts : AreStarts plan (range_with_len 0 (plan_nodes plan)) (faulty_at s 0)
      (map (put_at plan s 0) (correct_nodes (plan_nodes plan) (faulty_at s 0)))
  first_starts =
      puts_are 0 (range_with_len 0 (plan_nodes plan)) (λ v. not (is_in (faulty_at s 0) v))
      (λ v e. not-true _ e) (λ v fresh free. ap not free)

  pairs_told : (t : ℕ) (ps : List (ℕ × ℕ))
      → map (λ (lie : Lie). (lie.sender, lie.receiver)) (map (lie_at plan s t) ps) ≡ ps
  pairs_told t [] = refl
  pairs_told t (p ∷ ps) = ap (λ l. p ∷ l) (pairs_told t ps)

  -- the faulty nodes after a round
  faulty_next : (t : ℕ) (found : Option scripts.Era)
      → find (λ era. eqb era.first (t + 1)) s.eras ≡ found
      → faulty_behind (faulty_at s t) (era_with plan s t found) ≡ faulty_at s (t + 1)
  faulty_next t None e = sym (ap (faulty_of_era s) (same_begun t s.eras e))
  faulty_next t (Some era) e =
      sym (found_faulty 0 (t + 1) s.faulty s.eras era is.whole.formed.rising e)

  put_is_correct : (t v : ℕ) → is_put plan s t v ≡ true → is_in (faulty_at s (t + 1)) v ≡ false
  put_is_correct t v e = not-true _ (and_parts _ _ e).0

  was_faulty : (b c : Bool) → b ≡ true → (b || c) ≡ true
  was_faulty true c e = refl
  was_faulty false c e = absurd cc

  era_is : (t : ℕ) (found : Option scripts.Era) → find (λ era. eqb era.first (t + 1)) s.eras ≡ found
      → IfSome (era_with plan s t found) (IsEra plan (faulty_at s t))
  era_is t None e = tt
  era_is t (Some era) e =
      let same : faulty_at s (t + 1)
      ≡ era.faulty = found_faulty 0 (t + 1) s.faulty s.eras era is.whole.formed.rising e in
      record {
        borne = subst (IsToleratedBy plan) same (borne_at plan s is (t + 1));
        starts =
            subst
            (λ f. AreStarts plan (faulty_at s t) f
            (map (put_at plan s (t + 1))
            (filter (is_put plan s t) (range_with_len 0 (plan_nodes plan)))))
            same
            (puts_are (t + 1) (faulty_at s t) (is_put plan s t) (λ v p. put_is_correct t v p)
            (λ v before free. and_from _ _ (ap not free) (was_faulty _ _ before)));
      }

  turn_is : (t : ℕ) → IsTurn plan (faulty_at s t) (turn_at plan s t)
  turn_is t = record {
    told = pairs_told t (pairs_of (plan_nodes plan) (faulty_at s t));
    states =
        All-map (λ (lie : Lie). is_state_text (fields_of plan lie.sender) lie.digits ≡ true)
        (lie_at plan s t) (pairs_of (plan_nodes plan) (faulty_at s t))
        (λ i d l. text_is_taken (fields_of plan _) _);
    era = era_is t (find (λ era. eqb era.first (t + 1)) s.eras) refl;
    row =
        subst (λ f. IsRow plan f (shown_row plan (stand_at plan s (t + 1))))
        (sym (faulty_next t (find (λ era. eqb era.first (t + 1)) s.eras) refl))
        (row_is (stand_at plan s (t + 1)));
  }

  pub turns_are : (k t : ℕ)
      → AreTurns plan (faulty_at s t) (map (turn_at plan s) (range_with_len t k))
  turns_are zero t = tt
  turns_are (suc k) t = (
    turn_is t,
    subst (λ f. AreTurns plan f (map (turn_at plan s) (range_with_len (t + 1) k)))
        (sym (faulty_next t (find (λ era. eqb era.first (t + 1)) s.eras) refl))
        (turns_are k (t + 1)),
  )
