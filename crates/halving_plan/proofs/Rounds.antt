-- The steps of level states, as histories: what each correct node hears, and how what it saw, its
-- trust and its instructions go from round to round.
use Rattle.std.proofs.Common.{◌≡◌, ℕ, ◌+◌, ◌%◌, ◌<◌, ◌≤◌, Bool, true, false, not, ◌&&◌, [], leb}
use Rattle.std.proofs.Common.{ltb, refl, sym, ap, ◌∙◌, subst, None, arith, mod-lt}
use Rattle.std.proofs.lemmas.Bool.{false≢true, leb-true, ltb-true, le-leb, lt-ltb, and_parts}
use Rattle.std.proofs.lemmas.Bool.{and_from}
use Rattle.std.proofs.lemmas.Bool.{not-true}
use Rattle.std.proofs.lemmas.List.{length-map, get_or-map}
use Rattle.counting.specs.Places.{places}
use Rattle.phase_king.specs.Hearing.{Obeys}
use Rattle.halving_plan.specs.Halves.{Halves, Halved, faults_of, left_period, right_period}
use Rattle.halving_plan.specs.Halves.{right_share}
use Rattle.halving_plan.specs.LevelStates.{LevelState, zero_level_state, level_state_after, shown}
use Rattle.halving_plan.specs.LevelStates.{backed, trusts, follows_left, instruction_of, king_of}
use Rattle.halving_plan.specs.LevelStates.{values_of}
use Rattle.halving_plan.specs.Hearing.{Heard, Hears, LevelStatesStep}
use Rattle.halving_plan.specs.Level.{LeftCounts, RightCounts}
use Rattle.halving_plan.proofs.Correct.{IsCorrect}
use Rattle.halving_plan.proofs.Heard.{one_backed, all_back, is_shown}
use Rattle.halving_plan.proofs.Trust.{Trust}

nothing : Heard
nothing = record { left = []; right = []; states = [] }

module _ (halves : Halves) (next : ℕ → ℕ) (faulty : ℕ → Bool) (t last : ℕ) (outputs : ℕ → ℕ → ℕ)
    (states : ℕ → ℕ
    → LevelState) (steps : LevelStatesStep halves next faulty t last outputs states) where
  -- ---- what is heard, as a function

  abbrev stepping : ℕ → ℕ → Bool
  stepping r v = leb t r && (ltb r last && (ltb v halves.nodes && not (faulty v)))

  heard_by : (r v : ℕ) (b : Bool) → stepping r v ≡ b → Heard
  heard_by r v true e =
      let p = and_parts (leb t r) (ltb r last && (ltb v halves.nodes && not (faulty v))) e in
      let q = and_parts (ltb r last) (ltb v halves.nodes && not (faulty v)) p.1 in
      let s = and_parts (ltb v halves.nodes) (not (faulty v)) q.1 in
      (steps r v (leb-true t r p.0) (ltb-true r last q.0) (ltb-true v halves.nodes s.0)
      (not-true (faulty v) s.1)).heard
  heard_by r v false e = nothing

  Steps : (r v : ℕ) → Heard → Type 0
  Steps r v h =
      Hears halves faulty (outputs r) (states r) h
      × (states (r + 1) v ≡ level_state_after halves next (states r v) h.left h.right h.states)

  heard_steps : (r v : ℕ) (b : Bool) (e : stepping r v ≡ b) → b ≡ true
      → Steps r v (heard_by r v b e)
  unfolding heard_by Steps
  heard_steps r v true e is =
      let p = and_parts (leb t r) (ltb r last && (ltb v halves.nodes && not (faulty v))) e in
      let q = and_parts (ltb r last) (ltb v halves.nodes && not (faulty v)) p.1 in
      let s = and_parts (ltb v halves.nodes) (not (faulty v)) q.1 in
      let step =
      steps r v (leb-true t r p.0) (ltb-true r last q.0) (ltb-true v halves.nodes s.0)
      (not-true (faulty v) s.1) in
      (step.hears, step.step)
  heard_steps r v false e is = absurd (false≢true is)

  heard : ℕ → ℕ → Heard
  heard r v = heard_by r v (stepping r v) refl

  goes_on : (r v : ℕ) → t ≤ r → r < last → IsCorrect halves.nodes faulty v → Steps r v (heard r v)
  unfolding heard
  goes_on r v lo hi c = heard_steps r v (stepping r v) refl
      (and_from (leb t r) (ltb r last && (ltb v halves.nodes && not (faulty v))) (le-leb t r lo)
      (and_from (ltb r last) (ltb v halves.nodes && not (faulty v)) (lt-ltb r last hi)
      (and_from (ltb v halves.nodes) (not (faulty v)) (lt-ltb v halves.nodes c.below)
      (ap not c.ok))))

  hears : (r v : ℕ) → t ≤ r → r < last → IsCorrect halves.nodes faulty v
      → Hears halves faulty (outputs r) (states r) (heard r v)
  unfolding Steps
  hears r v lo hi c = (goes_on r v lo hi c).0

  step : (r v : ℕ) → t ≤ r → r < last → IsCorrect halves.nodes faulty v
      → states (r + 1) v
      ≡ level_state_after halves next (states r v) (heard r v).left (heard r v).right
      (heard r v).states
  unfolding Steps
  step r v lo hi c = (goes_on r v lo hi c).1

  -- ---- what was seen, and trust

  pub back : ℕ → ℕ → Bool
  back r v = backed halves (states r v) (heard r v).states

  left : ℕ → ℕ → ℕ
  left r v = shown (left_period halves) (heard r v).left

  pub right : ℕ → ℕ → ℕ
  right r v = shown (right_period halves) (heard r v).right

  pub follows : ℕ → ℕ → Bool
  follows r v = follows_left halves (states r v) (back r v)

  pub follows_is : (r v : ℕ) → follows r v
      ≡ (back r v && ((states r v).trusted && leb (right_share halves) (states r v).seen))
  unfolding follows
  follows_is r v = refl

  seen_goes : (r v : ℕ) → t ≤ r → r < last → IsCorrect halves.nodes faulty v
      → (states (r + 1) v).seen ≡ left r v
  unfolding left
  seen_goes r v lo hi c = ap (λ (p : LevelState). p.seen) (step r v lo hi c)

  trusted_goes : (r v : ℕ) → t ≤ r → r < last → IsCorrect halves.nodes faulty v
      → (states (r + 1) v).trusted ≡ trusts (states r v) (left r v) (back r v)
  unfolding left back
  trusted_goes r v lo hi c = ap (λ (p : LevelState). p.trusted) (step r v lo hi c)

  pub trust : Halved halves → places faulty halves.nodes ≤ faults_of halves
      → Trust halves.nodes faulty t last (left_period halves) (λ r v. (states r v).seen)
      (λ r v. (states r v).trusted) back
  unfolding back left
  trust is few = record {
    below = λ r v lo hi c. subst (λ x. x < left_period halves) (sym (seen_goes r v lo hi c))
        (mod-lt _ (omega arith));
    goes = λ r v lo hi c. trusted_goes r v lo hi c
        ∙ ap (λ x. trusts (states r v) x (back r v)) (sym (seen_goes r v lo hi c));
    one = λ r v u lo hi c d. one_backed halves.nodes (faults_of halves) faulty is.quorum few
        (states r) (states r v).seen (states r u).seen (heard r v).states (heard r u).states
        (hears r v lo hi c).group (hears r u lo hi d).group;
    all = λ r v lo hi c same. all_back halves.nodes (faults_of halves) faulty is.quorum few
        (states r) (states r v).seen (heard r v).states (hears r v lo hi c).group
        (λ w lt ok. same w (record { below = lt; ok = ok }));
  }

  -- ---- registers and instructions

  pub instruction : ℕ → ℕ → ℕ
  instruction r v = instruction_of halves (follows r v) (states r v).seen (right r v)

  pub instruction_is : (r v : ℕ) → instruction r v
      ≡ instruction_of halves (follows r v) (states r v).seen (right r v)
  unfolding instruction
  instruction_is r v = refl

  pub obey : (r v : ℕ) → t ≤ r → r < last → v < halves.nodes → faulty v ≡ false
      → Obeys halves.nodes (faults_of halves) next faulty (λ u. (states r u).register)
      (instruction r v % 3) (king_of halves (follows r v) (instruction r v)) (states r v).register
      (states (r + 1) v).register
  unfolding instruction follows right back
  obey r v lo hi lt ok =
      let c : IsCorrect halves.nodes faulty v = record { below = lt; ok = ok } in
      let h = (hears r v lo hi c).group in
      let size = h.size in
      record {
        heard = values_of (heard r v).states;
        hears = record {
          size = length-map (heard r v).states (λ (p : LevelState). p.register.a) ∙ h.size;
          honest = λ u ult uok. get_or-map (λ (p : LevelState). p.register.a) (heard r v).states u
              zero_level_state None (omega arith)
              ∙ ap (λ (p : LevelState). p.register.a) (h.honest u ult uok);
        };
        step = ap (λ (p : LevelState). p.register) (step r v lo hi c);
      }

  -- ---- a half that counts

  -- what the left half shows is seen a round later
  pub left_seen : Halved halves → (from : ℕ) → t ≤ from
      → (counts : LeftCounts halves faulty from last outputs) → (r v : ℕ) → from ≤ r → r < last
      → IsCorrect halves.nodes faulty v → counts.output r < left_period halves
      → (states (r + 1) v).seen ≡ counts.output r
  unfolding left
  left_seen is from later counts r v lo hi c below =
      seen_goes r v (omega arith) hi c
      ∙ is_shown 0 halves.left_nodes halves.left_faults (left_period halves) faulty is.left
      counts.few (outputs r) (heard r v).left (hears r v (omega arith) hi c).left
      (counts.output r) below (λ u lt ok. counts.common r u lo (omega arith) lt ok)

  -- what the right half shows is the instruction now
  pub right_heard : Halved halves → (from : ℕ) → t ≤ from
      → (counts : RightCounts halves faulty from last outputs) → (r v : ℕ) → from ≤ r → r < last
      → IsCorrect halves.nodes faulty v → counts.output r < right_period halves
      → right r v ≡ counts.output r
  unfolding right
  right_heard is from later counts r v lo hi c below =
      is_shown halves.left_nodes halves.right_nodes halves.right_faults (right_period halves)
      faulty is.right counts.few (outputs r) (heard r v).right
      (hears r v (omega arith) hi c).right (counts.output r) below
      (λ u lt ok. counts.common r u lo (omega arith) lt ok)
