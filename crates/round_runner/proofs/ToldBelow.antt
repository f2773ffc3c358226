-- What a stretch of the faulty nodes tell a node, place by place.
use Rattle.std.proofs.Common.{◌≡◌, ℕ, ◌+◌, ◌<◌, ◌≤◌, inl, inr, cond, Bool, List, length, set, sym}
use Rattle.std.proofs.Common.{ap, ◌∙◌, subst, arith}
use Rattle.std.specs.Prelude.{slice_index}
use Rattle.std.proofs.lemmas.Bool.{cases_eq, eq-eqb, ne_eqb}
use Rattle.std.proofs.lemmas.List.{get_or-set_same, get_or-set_other, length-set}
use Rattle.std.proofs.lemmas.List.Elements.{All-set}
use Rattle.sync_types.specs.States.{State, zero_state}
use Rattle.construction.specs.Plans.{Plan, plan_nodes}
use Rattle.construction.specs.Steps.{state_of}
use Rattle.plan_laws.specs.PlanMeaning.{IsInRange}
use Rattle.round_runner.specs.declared.hearers.Hearer.{Hearer}
use Rattle.round_runner.specs.Hearing.{AreLies, TellsItself, told_by}

-- a state that is laid among the lies is one more of them
pub lie_laid : (plan : Plan) (depth j : ℕ) (lies : List State) (out : State)
    → AreLies plan depth lies → length out.registers ≡ depth → IsInRange plan out
    → AreLies plan depth (set lies j out)
lie_laid plan depth j lies out are deep range = record {
  size = length-set lies j out ∙ are.size;
  deep = All-set (λ (s : State). length s.registers ≡ depth) lies j out deep are.deep;
  range = All-set (IsInRange plan) lies j out range are.range;
}

module _ {N : Type 0} (hearer : Hearer) (says : List State → (u v : ℕ) → State) (from : ℕ)
    (key : N) where
  abbrev ids : List ℕ
  ids = hearer.faulty.now.ids

  abbrev config : List State
  config = hearer.states.now.current

  abbrev plan : Plan
  plan = hearer.tower.now

  abbrev depth : ℕ
  depth = hearer.states.now.shape.depth

  -- the places from the first on and below j hold what it hears
  pub record ToldBelow (j : ℕ) (told : List State) (now : N) : Type 0 where
    pub each : (k : ℕ) → from ≤ k → k < j
        → state_of told k ≡ told_by hearer says (slice_index ids k)
    pub own : TellsItself ids hearer.v config told
    pub lies : AreLies plan depth told
    pub noise : now ≡ key

  -- of itself it hears its state, and of another one what that says
  from_itself : (u : ℕ) → u ≡ hearer.v → told_by hearer says u ≡ state_of config hearer.v
  from_itself u same =
      ap (λ (b : Bool). cond b (state_of config u) (says config u hearer.v))
      (eq-eqb u hearer.v same) ∙ ap (state_of config) same

  from_other : (u : ℕ) → (u ≡ hearer.v → ⊥) → told_by hearer says u ≡ says config u hearer.v
  from_other u other =
      ap (λ (b : Bool). cond b (state_of config u) (says config u hearer.v))
      (ne_eqb u hearer.v other)

  pub one_told : (j u : ℕ) (told : List State) (now next : N) (out : State)
      → j < length ids → length ids ≤ plan_nodes plan → slice_index ids j ≡ u
      → (u ≡ hearer.v → ⊥) → ToldBelow j told now → out ≡ says config u hearer.v
      → length out.registers ≡ depth → IsInRange plan out → next ≡ now
      → ToldBelow (j + 1) (set told j out) next
  one_told j u told now next out lt fits id other h is deep range same =
      let size = h.lies.size in
      let inside : j < length told = omega (arith, lt, fits, size) in
      let here : state_of (set told j out) j ≡ out =
      get_or-set_same told j out (zero_state 0) inside in
      record {
        each = λ k low high. elim (cases_eq k j) [
          | inl at ↦ subst (λ (i : ℕ). state_of (set told j out) i
              ≡ told_by hearer says (slice_index ids i)) (sym at)
              (here ∙ is ∙ sym (from_other u other) ∙ ap (told_by hearer says) (sym id))
          | inr ne ↦ get_or-set_other told j k out (zero_state 0) ne
              ∙ h.each k low (omega (arith, high, ne))
        ];
        own = λ k among mine. elim (cases_eq k j) [
          | inl at ↦ absurd (other (sym id ∙ ap (slice_index ids) (sym at) ∙ mine))
          | inr ne ↦ get_or-set_other told j k out (zero_state 0) ne ∙ h.own k among mine
        ];
        lies = lie_laid plan depth j told out h.lies deep range;
        noise = same ∙ h.noise;
      }

  -- its own state stands in its place
  pub none_told : (j u : ℕ) (told : List State) (now : N) → j < length ids
      → slice_index ids j ≡ u → u ≡ hearer.v → ToldBelow j told now → ToldBelow (j + 1) told now
  none_told j u told now lt id it h = record {
    each = λ k low high. elim (cases_eq k j) [
      | inl at ↦ subst (λ (i : ℕ). state_of told i ≡ told_by hearer says (slice_index ids i))
          (sym at) (h.own j lt (id ∙ it)
          ∙ sym (ap (told_by hearer says) id ∙ from_itself u it))
      | inr ne ↦ h.each k low (omega (arith, high, ne))
    ];
    own = h.own;
    lies = h.lies;
    noise = h.noise;
  }
