-- The states that a recorded certificate puts and the lies that it tells, looked up.
use Rattle.std.proofs.Common.{inl, inr, ⊎_elim, ◌≡◌, ◌⊎◌, ℕ, ◌<◌, Bool, true, false}
use Rattle.std.proofs.Common.{cond, eqb, not, ◌&&◌, ◌||◌, List, [], ◌∷◌, ◌++◌, length, map, set}
use Rattle.std.proofs.Common.{Some, find, unwrap_or, filter, refl, sym, ap}
use Rattle.std.proofs.Common.{subst, ◌∙◌, arith}
use Rattle.std.specs.Option.{option_map}
use Rattle.std.specs.List.{range_with_len, flat_map, list_any}
use Rattle.std.proofs.lemmas.Bool.{and_from, and_parts, eqb-true, eq-eqb, or_cases, true≢false}
use Rattle.std.proofs.lemmas.List.{length-set, get_or-set_same, get_or-set_other}
use Rattle.sync_types.specs.States.{State, zero_state}
use Rattle.construction.specs.Plans.{Plan, plan_nodes, plan_depth}
use Rattle.construction.specs.Steps.{state_of}
use Rattle.construction.specs.Runs.{is_in}
use Rattle.run_checker.specs.NodeFields.{fields_of}
use Rattle.state_codec.specs.Texts.{read_text, written_text}
use Rattle.round_runner.specs.Locks.{correct_nodes}
use Rattle.run_checker.specs.Certificates.{Put}
use Rattle.run_checker.specs.Stated.{Snapshot, Message, told_of}
use Rattle.run_checker.specs.Stated.{with_starts}
use Rattle.std.proofs.lemmas.List.Folds.{list_any_at}
use Rattle.std.proofs.lemmas.List.FromFn.{length-range_with_len, get_or-range_with_len}

pub map_map : {X Y Z : Type 0} (f : Y → Z) (g : X → Y) (xs : List X)
    → map f (map g xs) ≡ map (λ x. f (g x)) xs
map_map f g [] = refl
map_map f g (x ∷ xs) = ap (λ l. f (g x) ∷ l) (map_map f g xs)

-- ---- membership

in_map_range_by : (b : Bool) (x y : Bool) → b ≡ true → (b || x) ≡ true
in_map_range_by true x y e = refl
in_map_range_by false x y e = absurd cc

or_right : (x y : Bool) → y ≡ true → (x || y) ≡ true
or_right true y e = refl
or_right false y e = e

-- ---- states that are put

module _ (plan : Plan) (state : ℕ → State) where
  abbrev put_of : ℕ → Put
  put_of v = record { node = v; digits = written_text (fields_of plan v) (state v) }

  abbrev back : ℕ → State
  back v = read_text (fields_of plan v) (written_text (fields_of plan v) (state v))

  with_one : (config : List State) (u v : ℕ) → v < length config
      → state_of (set config u (back u)) v ≡ cond (eqb v u) (back v) (state_of config v)
  with_one config u v lt = by (eqb v u) refl where
    by : (b : Bool) → eqb v u ≡ b
        → state_of (set config u (back u)) v ≡ cond b (back v) (state_of config v)
    by true e =
        let same : v ≡ u = eqb-true v u e in
        ap (λ w. state_of (set config w (back w)) v) (sym same)
        ∙ get_or-set_same config v (back v) (zero_state 0) lt
    by false e =
        get_or-set_other config u v (back u) (zero_state 0)
        (λ same. true≢false (sym (eq-eqb v u same) ∙ e))

  merged : (b more : Bool) (x y : State) → cond more x (cond b x y) ≡ cond (b || more) x y
  merged true true x y = refl
  merged true false x y = refl
  merged false true x y = refl
  merged false false x y = refl

  -- a node that is put is in its state, another one stays
  pub put_states : (vs : List ℕ) (config : List State) (v : ℕ) → v < length config
      → state_of (with_starts plan config (map put_of vs)) v
      ≡ cond (is_in vs v) (back v) (state_of config v)
  put_states [] config v lt = refl
  put_states (u ∷ vs) config v lt =
      put_states vs (set config u (back u)) v (omega (arith, length-set config u (back u)))
      ∙ ap (cond (is_in vs v) (back v)) (with_one config u v lt)
      ∙ merged (eqb v u) (is_in vs v) (back v) (state_of config v)

-- ---- what is told

module _ (plan : Plan) (state : ℕ → ℕ → State) where
  abbrev told_at : ℕ × ℕ → Message
  told_at p = record { sender = p.0; receiver = p.1; state = state p.0 p.1 }

  abbrev is_pair : (u v : ℕ) → ℕ × ℕ → Bool
  is_pair u v p = eqb p.0 u && eqb p.1 v

  pub told_state : (ps : List (ℕ × ℕ)) (u v : ℕ) → list_any (is_pair u v) ps ≡ true
      → told_of plan (map told_at ps) u v ≡ state u v
  told_state [] u v e = absurd (true≢false (sym e))
  told_state (p ∷ ps) u v e = by (is_pair u v p) refl e (told_state ps u v) where
    by : (here : Bool) → is_pair u v p ≡ here → (here || list_any (is_pair u v) ps) ≡ true
        → (list_any (is_pair u v) ps ≡ true → told_of plan (map told_at ps) u v ≡ state u v)
        → unwrap_or
        (option_map (λ (t : Message). t.state)
        (cond here (Some (told_at p))
        (find (λ (t : Message). eqb t.sender u && eqb t.receiver v) (map told_at ps))))
        (zero_state (plan_depth plan))
        ≡ state u v
    by true is e more =
        let q = and_parts _ _ is in
        ap (λ a. state a p.1) (eqb-true p.0 u q.0) ∙ ap (λ b. state u b) (eqb-true p.1 v q.1)
    by false is e more = more e

any_append : (p : ℕ × ℕ → Bool) (xs ys : List (ℕ × ℕ))
    → (list_any p xs ≡ true) ⊎ (list_any p ys ≡ true) → list_any p (xs ++ ys) ≡ true
any_append p [] ys (inl e) = absurd (true≢false (sym e))
any_append p [] ys (inr e) = e
any_append p (x ∷ xs) ys (inl e) =
    ⊎_elim (λ here. in_map_range_by (p x) (list_any p (xs ++ ys)) true here)
    (λ more. or_right (p x) _ (any_append p xs ys (inl more))) (or_cases _ _ e)
any_append p (x ∷ xs) ys (inr e) = or_right (p x) _ (any_append p xs ys (inr e))

any_of_row : (u v : ℕ) (vs : List ℕ) → is_in vs v ≡ true
    → list_any (λ (p : ℕ × ℕ). eqb p.0 u && eqb p.1 v) (map (λ w. (u, w)) vs) ≡ true
any_of_row u v [] e = absurd (true≢false (sym e))
any_of_row u v (w ∷ vs) e =
    ⊎_elim
    (λ here. in_map_range_by (eqb u u && eqb w v) _ true
    (and_from _ _ (eq-eqb u u refl) (eq-eqb w v (sym (eqb-true v w here)))))
    (λ more. or_right (eqb u u && eqb w v) _ (any_of_row u v vs more)) (or_cases _ _ e)

-- each faulty node is paired with each correct one
pub paired : (n : ℕ) (faulty us : List ℕ) (u v : ℕ) → is_in us u ≡ true
    → is_in (correct_nodes n faulty) v ≡ true
    → list_any (λ (p : ℕ × ℕ). eqb p.0 u && eqb p.1 v)
    (flat_map (λ w. map (λ x. (w, x)) (correct_nodes n faulty)) us)
    ≡ true
paired n faulty [] u v e correct = absurd (true≢false (sym e))
paired n faulty (w ∷ us) u v e correct =
    any_append (λ p. eqb p.0 u && eqb p.1 v) (map (λ x. (w, x)) (correct_nodes n faulty))
    (flat_map (λ w. map (λ x. (w, x)) (correct_nodes n faulty)) us)
    (⊎_elim
    (λ here. inl
    (subst
    (λ z. list_any (λ (p : ℕ × ℕ). eqb p.0 u && eqb p.1 v)
    (map (λ x. (z, x)) (correct_nodes n faulty))
    ≡ true)
    (eqb-true u w here) (any_of_row u v (correct_nodes n faulty) correct)))
    (λ more. inr (paired n faulty us u v more correct)) (or_cases _ _ e))

-- ---- one more round

-- two configurations with the same faulty nodes, and the same states of correct ones
pub record Agrees (plan : Plan) (a b : Snapshot) : Type 0 where
  pub faulty : a.faulty ≡ b.faulty
  pub size : length a.config ≡ plan_nodes plan
  pub same : (v : ℕ) → v < plan_nodes plan → is_in b.faulty v ≡ false
      → state_of a.config v ≡ state_of b.config v

pub is_in_filter : (p : ℕ → Bool) (xs : List ℕ) (v : ℕ)
    → is_in (filter p xs) v ≡ (p v && is_in xs v)
is_in_filter p [] v = none (p v) where
  none : (b : Bool) → false ≡ (b && false)
  none true = refl
  none false = refl
is_in_filter p (x ∷ xs) v = by (p x) (eqb v x) refl refl (is_in_filter p xs v) where
  by : (keep here : Bool) → p x ≡ keep → eqb v x ≡ here
      → is_in (filter p xs) v ≡ (p v && is_in xs v)
      → is_in (cond keep (x ∷ filter p xs) (filter p xs)) v ≡ (p v && (here || is_in xs v))
  by true true k h more =
      ap (λ b. b || is_in (filter p xs) v) h ∙ sym (ap (λ b. b && true) (ap p (eqb-true v x h) ∙ k))
  by true false k h more = ap (λ b. b || is_in (filter p xs) v) h ∙ more
  by false true k h more =
      let not_here : p v ≡ false = ap p (eqb-true v x h) ∙ k in
      more ∙ ap (λ b. b && is_in xs v) not_here ∙ sym (ap (λ b. b && true) not_here)
  by false false k h more = more

pub is_in_range : (n v : ℕ) → v < n → is_in (range_with_len 0 n) v ≡ true
is_in_range n v lt =
    list_any_at (λ id. eqb v id) (range_with_len 0 n) v 0 (omega (arith, length-range_with_len 0 n))
    (eq-eqb _ _ (sym (get_or-range_with_len 0 n v 0 lt ∙ (omega arith))))

pub is_correct : (n : ℕ) (faulty : List ℕ) (v : ℕ) → v < n → is_in faulty v ≡ false
    → is_in (correct_nodes n faulty) v ≡ true
is_correct n faulty v lt free =
    is_in_filter (λ u. not (is_in faulty u)) (range_with_len 0 n) v
    ∙ and_from _ _ (ap not free) (is_in_range n v lt)
