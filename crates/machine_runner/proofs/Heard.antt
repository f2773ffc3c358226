-- What a node hears: the states, those of faulty nodes replaced by what they tell.
use Rattle.std.proofs.Common.{◌≡◌, ℕ, zero, suc, ◌<◌, Bool, true, false, cond, not, ◌||◌, List, []}
use Rattle.std.proofs.Common.{◌∷◌, length, map, refl, sym, ap, ◌∙◌, subst, arith}
use Rattle.std.specs.Prelude.{◌==◌, slice_index, slice_index_or}
use Rattle.std.specs.List.{range_with_len}
use Rattle.std.proofs.lemmas.Bool.{eq-eqb, true≢false}
use Rattle.std.proofs.Math.Bool.{or-true}
use Rattle.std.proofs.lemmas.List.FromFn.{fill_by_all, get_or-map-range_with_len}
use Rattle.sync_types.specs.FaultSets.{is_in}
use Rattle.sync_types.specs.States.{State, zero_state}
use Rattle.construction.specs.Steps.{state_of}
use Rattle.construction.specs.Runs.{heard_of, heard_by}
use Rattle.machine_runner.proofs.Places.{placed}

-- the id at a place is among the ids
pub is_among : (ids : List ℕ) (j : ℕ) → j < length ids → is_in ids (slice_index ids j) ≡ true
is_among [] j lt = absurd (omega arith)
is_among (id ∷ ids) zero lt = ap (λ b. b || is_in ids id) (eq-eqb id id refl)
is_among (id ∷ ids) (suc j) lt =
    ap (λ b. (slice_index ids j == id) || b) (is_among ids j (omega arith))
    ∙ or-true (slice_index ids j == id)

either_has : (P : State → Type 0) (b : Bool) (s t : State) → P s → P t → P (cond b s t)
either_has P true s t p q = p
either_has P false s t p q = q

module _ (n : ℕ) (faulty : List ℕ) (config : List State) (lie : ℕ → ℕ → State) (v : ℕ) where
  -- the table of what each tells each
  abbrev table : List (List State)
  table = map (λ u. map (λ w. lie u w) (range_with_len 0 n)) (range_with_len 0 n)

  table_at : (u : ℕ) → u < n → v < n → state_of (slice_index_or table u []) v ≡ lie u v
  table_at u ult vlt =
      ap (λ (row : List State). state_of row v)
      (get_or-map-range_with_len (λ u. map (λ w. lie u w) (range_with_len 0 n)) 0 n u u [] ult
      (omega arith))
      ∙ get_or-map-range_with_len (λ w. lie u w) 0 n v v (zero_state 0) vlt (omega arith)

  -- what is heard at one place, by whether the node is v and whether it is faulty
  one : (same bad : Bool) (u : ℕ) (told : State) → u < n → v < n
      → (bad ≡ true → told ≡ cond same (state_of config u) (lie u v))
      → cond bad told (state_of config u) ≡ cond (same || not bad) (state_of config u)
      (state_of (slice_index_or table u []) v)
  one true true u told ult vlt is = is refl
  one true false u told ult vlt is = refl
  one false true u told ult vlt is = is refl ∙ sym (table_at u ult vlt)
  one false false u told ult vlt is = refl

  pub one_at : (bad : Bool) (u : ℕ) (told : State) → is_in faulty u ≡ bad → u < n → v < n
      → (is_in faulty u ≡ true → told ≡ cond (u == v) (state_of config u) (lie u v))
      → (is_in faulty u ≡ false → told ≡ state_of config u)
      → told ≡ heard_of faulty config table v u
  one_at true u told is ult vlt lies honest =
      one (u == v) true u told ult vlt (λ b. lies is)
      ∙ ap (λ (b : Bool). cond (u == v || not b) (state_of config u)
      (state_of (slice_index_or table u []) v)) (sym is)
  one_at false u told is ult vlt lies honest =
      honest is ∙ (one (u == v) false u told ult vlt (λ b. absurd (true≢false (sym b)))
      ∙ ap (λ (b : Bool). cond (u == v || not b) (state_of config u)
      (state_of (slice_index_or table u []) v)) (sym is))

  -- a list with the states of the correct nodes, and in the places of the faulty ones what they
  -- tell, is what v hears
  pub heard_is : (heard : List State) → v < n → length heard ≡ n
      → ((u : ℕ) → u < n → is_in faulty u ≡ false → state_of heard u ≡ state_of config u)
      → ((u : ℕ) → u < n → is_in faulty u ≡ true
      → state_of heard u ≡ cond (u == v) (state_of config u) (lie u v))
      → heard ≡ heard_by n faulty config table v
  heard_is heard vlt size honest told =
      fill_by_all (heard_of faulty config table v) heard n (zero_state 0) size
      (λ u ult. one_at (is_in faulty u) u (state_of heard u) refl ult vlt (told u ult)
      (honest u ult))

  -- what holds of the states of the nodes and of what they tell holds of what is heard
  pub heard_has : (P : ℕ → State → Type 0) → v < n
      → ((u : ℕ) → u < n → P u (state_of config u)) → ((u : ℕ) → u < n → P u (lie u v))
      → (u : ℕ) → u < n → P u (state_of (heard_by n faulty config table v) u)
  heard_has P vlt states lies = placed P (heard_of faulty config table v) n (λ u ult.
      either_has (P u) (u == v || not (is_in faulty u)) (state_of config u)
      (state_of (slice_index_or table u []) v) (states u ult)
      (subst (P u) (sym (table_at u ult vlt)) (lies u ult)))

  -- a node hears its own state of itself
  own_of : (same : Bool) (told : State) → same ≡ true
      → cond (same || not (is_in faulty v)) (state_of config v) told ≡ state_of config v
  own_of true told is = refl
  own_of false told is = absurd (true≢false (sym is))

  pub heard_own : v < n → state_of (heard_by n faulty config table v) v ≡ state_of config v
  heard_own lt =
      get_or-map-range_with_len (heard_of faulty config table v) 0 n v v (zero_state 0) lt
      (omega arith)
      ∙ own_of (v == v) (state_of (slice_index_or table v []) v) (eq-eqb v v refl)
