-- The first locked configuration of the last era, in what is recorded and in what is played.
use Rattle.std.proofs.Common.{◌≡◌, ℕ, zero, suc, ◌+◌, ◌<◌, ◌≤◌, Bool, true, false, cond, not, ◌&&◌}
use Rattle.std.proofs.Common.{List, [], ◌∷◌, length, map, All, Option, Some, None, is_some, filter}
use Rattle.std.proofs.Common.{add-one, refl, sym, ap, subst, ◌∙◌, arith}
use Rattle.std.specs.Prelude.{◌-◌}
use Rattle.std.specs.List.{range_with_len}
use Rattle.std.proofs.lemmas.Bool.{eq-eqb, ne_eqb, le-leb, not-true}
use Rattle.std.proofs.lemmas.List.{length-map}
use Rattle.std.proofs.lemmas.List.Elements.{All-head, All-tail}
use Rattle.std.proofs.lemmas.List.FromFn.{length-range_with_len, get_or-range_with_len}
use Rattle.sync_types.specs.States.{State, register_at}
use Rattle.sync_types.specs.declared.states.Reg.{Reg}
use Rattle.construction.specs.Plans.{Level, Plan, nodes_of}
use Rattle.construction.specs.Steps.{state_of}
use Rattle.construction.specs.Runs.{is_in}
use Rattle.adversary_script.specs.Scripts as scripts
use Rattle.adversary_script.specs.Scripts.{Script}
use Rattle.adversary_script.specs.Eras.{era_of, faulty_at}
use Rattle.round_runner.specs.Laws.{IsReadFor}
use Rattle.round_runner.specs.Locks.{are_locked, is_locked, is_locked_in, first_of, first_locked}
use Rattle.round_runner.specs.Locks.{era_locked}
use Rattle.round_runner.specs.Played.{played_at}
use Rattle.run_checker.specs.declared.Verdict.TheVariants as verdict
use Rattle.run_checker.specs.Certificates.{Turn}
use Rattle.run_checker.specs.Stated.{Snapshot, stand_behind, stands_behind, first_stand, locks_at}
use Rattle.run_checker.specs.Stated.{verdict_by, verdict_of}
use Rattle.run_checker.specs.Recorded.{stand_at, era_with, era_at, turn_at, certificate_of}
use Rattle.run_checker.proofs.EraBegins.{begun, begun_more, same_begun, begins_more}
use Rattle.run_checker.proofs.EraBegins.{begun_grows}
use Rattle.run_checker.proofs.RecordedTellings.{Agrees}
use Rattle.run_checker.proofs.RecordedTrue.{agree_first, agree_next, no_difference}
use Rattle.run_checker.proofs.Verdicts.{lock_over, locks_are}

-- ---- configurations that agree are locked alike

kept_alike : (keep : Bool) (v : ℕ) (vs : List ℕ) (f g : ℕ → Reg) → (keep ≡ true → f v ≡ g v)
    → map f vs ≡ map g vs
    → map f (cond keep (v ∷ vs) vs) ≡ map g (cond keep (v ∷ vs) vs)
kept_alike true v vs f g here more = ap (λ x. x ∷ map f vs) (here refl) ∙ ap (λ xs. g v ∷ xs) more
kept_alike false v vs f g here more = more

same_map : (p : ℕ → Bool) (vs : List ℕ) (n : ℕ) (f g : ℕ → Reg) → All (λ v. v < n) vs
    → ((v : ℕ) → v < n → p v ≡ true → f v ≡ g v) → map f (filter p vs) ≡ map g (filter p vs)
same_map p [] n f g below h = refl
same_map p (v ∷ vs) n f g below h =
    kept_alike (p v) v (filter p vs) f g (λ keep. h v (All-head (λ v. v < n) v vs below) keep)
    (same_map p vs n f g (All-tail (λ v. v < n) v vs below) h)

below_range : (n : ℕ) → All (λ v. v < n) (range_with_len 0 n)
below_range n = λ i d l.
    let is = get_or-range_with_len 0 n i d (subst (λ m. i < m) (length-range_with_len 0 n) l) in
    omega (arith, is, l, length-range_with_len 0 n)

alike_in : (levels : List Level) (faulty : List ℕ) (a b : List State)
    → ((v : ℕ) → v < nodes_of levels → is_in faulty v ≡ false → state_of a v ≡ state_of b v)
    → is_locked_in levels faulty a ≡ is_locked_in levels faulty b
alike_in [] faulty a b same = refl
alike_in (level ∷ below) faulty a b same =
    let n = nodes_of (level ∷ below) in
    ap are_locked (same_map (λ v. not (is_in faulty v)) (range_with_len 0 n) n
    (λ v. register_at (length below) (state_of a v))
    (λ v. register_at (length below) (state_of b v))
    (below_range n) (λ v lt free. ap (register_at (length below)) (same v lt (not-true _ free))))

locked_alike : (plan : Plan) (a b : Snapshot) → Agrees plan a b
    → is_locked plan a.faulty a.config ≡ is_locked plan b.faulty b.config
locked_alike plan a b agree =
    ap (λ f. is_locked plan f a.config) agree.faulty
    ∙ alike_in plan.levels b.faulty a.config b.config agree.same

-- ---- the first locked one so far

none_locked : (p : ℕ → Bool) (t : ℕ) → ((u : ℕ) → u ≤ t → p u ≡ false) → first_locked p t ≡ None
none_locked p zero none = ap (λ b. first_of None b zero) (none zero (omega arith))
none_locked p (suc t) none =
    ap (λ o. first_of o (p (suc t)) (suc t)) (none_locked p t (λ u le. none u (omega arith)))
    ∙ ap (λ b. first_of None b (suc t)) (none (suc t) (omega arith))

all_begun : (t : ℕ) (fs : List ℕ) → All (λ f. f ≤ t) fs → begun t fs ≡ length fs
all_begun t [] h = refl
all_begun t (f ∷ fs) h =
    begun_more t f fs
    ∙ ap (λ b. cond b 1 0 + begun t fs) (le-leb f t (All-head (λ f. f ≤ t) f fs h))
    ∙ omega (arith, all_begun t fs (All-tail (λ f. f ≤ t) f fs h))

module _ (plan : Plan) (s : Script) (is : IsReadFor plan s) where
  abbrev locked : ℕ → Bool
  locked t = is_locked plan (faulty_at s t) (played_at plan s t)

  abbrev tested : (j : ℕ) → ℕ → Bool
  tested j t = era_locked plan s (played_at plan s) j t

  -- the first of the era of configuration t, up to it
  abbrev known : ℕ → Option ℕ
  known t = first_locked (tested (era_of s t)) t

  own_test : (t : ℕ) → tested (era_of s t) t ≡ locked t
  own_test t = ap (λ b. b && locked t) (eq-eqb (era_of s t) (era_of s t) refl)

  other_test : (j t : ℕ) → (era_of s t ≡ j → ⊥) → tested j t ≡ false
  other_test j t other = ap (λ b. b && locked t) (ne_eqb (era_of s t) j other)

  known_next : (t : ℕ)
      → known (t + 1)
      ≡ first_of (first_locked (tested (era_of s (t + 1))) t) (locked (t + 1)) (t + 1)
  known_next t =
      let j = era_of s (t + 1) in
      ap (first_locked (tested j)) (add-one t)
      ∙ ap (λ n. first_of (first_locked (tested j) t) (tested j n) n) (sym (add-one t))
      ∙ ap (λ b. first_of (first_locked (tested j) t) b (t + 1)) (own_test (t + 1))

  before_by : (t : ℕ) (found : Option scripts.Era) → era_at plan s (t + 1) ≡ found
      → cond (is_some (era_with plan s t found)) None (known t)
      ≡ first_locked (tested (era_of s (t + 1))) t
  before_by t None e = ap (λ j. first_locked (tested j) t) (sym (same_begun t s.eras e))
  before_by t (Some era) e =
      let more : era_of s t + 1 ≤ era_of s (t + 1) = begins_more t s.eras era e in
      sym
      (none_locked (tested (era_of s (t + 1))) t
      (λ u le. other_test (era_of s (t + 1)) u (λ same.
      let rest : (k : ℕ) × (u + k ≡ t) = (t - u, omega arith) in
      let grown : era_of s u
      ≤ era_of s (u + rest.0) = begun_grows rest.0 u
      (map (λ (era : scripts.Era). era.first) s.eras) in
      let up : era_of s u ≤ era_of s t = subst (λ m. era_of s u ≤ era_of s m) rest.1 grown in
      omega (arith, more, up, same))))

  abbrev turns : (t k : ℕ) → List Turn
  turns t k = map (turn_at plan s) (range_with_len t k)

  locks_on : (k t : ℕ) (x : Snapshot) → Agrees plan x (stand_at plan s t)
      → lock_over plan (known t) (t + 1) (turns t k) (stands_behind plan x (turns t k))
      ≡ known (t + k)
  locks_on zero t x agree = let same : t + 0 ≡ t = omega arith in ap known (sym same)
  locks_on (suc k) t x agree =
      let turn = turn_at plan s t in
      let next : Snapshot = stand_behind plan x turn in
      let agrees = agree_next plan s is t x agree in
      let rest = stands_behind plan next (turns (t + 1) k) in
      let step : first_of (cond (is_some turn.era) None (known t))
      (is_locked plan next.faulty next.config) (t + 1)
      ≡ known (t + 1) =
      ap (λ b. first_of (cond (is_some turn.era) None (known t)) b (t + 1))
      (locked_alike plan next (stand_at plan s (t + 1)) agrees)
      ∙ ap (λ o. first_of o (locked (t + 1)) (t + 1)) (before_by t (era_at plan s (t + 1)) refl)
      ∙ sym (known_next t) in
      let same : t + 1 + k ≡ t + suc k = omega arith in
      ap (λ o. lock_over plan o (t + 1 + 1) (turns (t + 1) k) rest) step
      ∙ locks_on k (t + 1) next agrees
      ∙ ap known same

  last_era : era_of s s.rounds ≡ length s.eras
  last_era =
      let fs = map (λ (era : scripts.Era). era.first) s.eras in
      all_begun s.rounds fs (All-tail (λ first. first ≤ s.rounds) 0 fs is.whole.within)
      ∙ length-map s.eras (λ (era : scripts.Era). era.first)

  lock_is : locks_at (certificate_of plan s) ≡ first_locked (tested (length s.eras)) s.rounds
  lock_is =
      let c = certificate_of plan s in
      let first = first_stand c in
      let agrees = agree_first plan s is in
      let same_end : 0 + s.rounds ≡ s.rounds = omega arith in
      let start : first_of None (is_locked plan first.faulty first.config) 0 ≡ known 0 =
      ap (λ b. first_of None b 0)
      (locked_alike plan first (stand_at plan s 0) agrees ∙ sym (own_test 0)) in
      sym
      (locks_are c (is_locked plan first.faulty first.config) refl
      (stands_behind plan first c.turns) refl)
      ∙ ap (λ o. lock_over plan o 1 c.turns (stands_behind plan first c.turns)) start
      ∙ locks_on s.rounds 0 first agrees
      ∙ ap known same_end
      ∙ ap (λ j. first_locked (tested j) s.rounds) last_era

  -- what is recorded is true, and its verdict has the lock of the last era
  pub recorded_verdict : verdict_of (certificate_of plan s)
      ≡ verdict.True (s.rounds + 1) (first_locked (tested (length s.eras)) s.rounds)
  recorded_verdict =
      let c = certificate_of plan s in
      let size : length c.turns ≡ s.rounds = length-map (range_with_len 0 s.rounds) (turn_at plan s)
      ∙ length-range_with_len 0 s.rounds in
      ap (λ d. verdict_by d (length c.turns + 1) (locks_at c)) (no_difference plan s is)
      ∙ ap (λ n. verdict.True (n + 1) (locks_at c)) size
      ∙ ap (verdict.True (s.rounds + 1)) lock_is
