-- Registers after those of the levels matter neither to what is in range, nor to what is shown, nor
-- to the step.
use Rattle.std.proofs.Common.{◌≡◌, ℕ, zero, suc, ◌+◌, ◌*◌, ◌/◌, ◌%◌, ◌<◌, ◌≤◌, cond, Bool, true}
use Rattle.std.proofs.Common.{false, List, [], ◌∷◌, length, take, map, Option, IfSome, unwrap_or}
use Rattle.std.proofs.Common.{refl, sym, ap, ap₂, ◌∙◌, subst, arith}
use Rattle.std.specs.Prelude.{nat_lt, nat_le}
use Rattle.std.proofs.lemmas.List.{take-map}
use Rattle.sync_types.specs.declared.states.Reg.{Reg}
use Rattle.sync_types.specs.States.{State, zero_state, register_at}
use Rattle.construction.specs.Plans.{Level, Plan, nodes_of, low_of, plan_depth}
use Rattle.construction.specs.Shown.{shown}
use Rattle.construction.specs.PhaseKing.{up}
use Rattle.construction.specs.Votes.{block}
use Rattle.construction.specs.Steps.{state_of, register_after, new_register, with_register, step_in}
use Rattle.construction.specs.Steps.{step_of}
use Rattle.construction.specs.Runs.{IsNumber, IsRegister, HasRegisters, IsState}
use Rattle.construction.proofs.Ranges.{ArePositive}
use Rattle.construction.proofs.Blocks.{block-map}
use Rattle.counter_core.specs.Meanings.{cut}
use Rattle.plan_laws.proofs.BoostLaws.{register_cut, map_over}
use Rattle.plan_laws.specs.PlanMeaning.{InRange, IsInRange}

-- what is shown below the cut
pub shown_of_cut : (l d : ℕ) → l ≤ d → (s : State) → shown l (cut d s) ≡ shown l s
shown_of_cut zero d le s = refl
shown_of_cut (suc l) d le s = ap (λ (r : Reg). unwrap_or r.a 0) (register_cut l d s (omega arith))

-- values in range of levels below the cut
pub range_of_cut : (levels : List Level) (d : ℕ) → length levels ≤ d → (s : State)
    → InRange levels s → InRange levels (cut d s)
range_of_cut [] d le s range = tt
range_of_cut (level ∷ below) d le s range = (
  range_of_cut below d (omega arith) s range.0,
  subst (λ (r : Reg). IfSome r.a (λ a. a < level.modulus))
      (sym (register_cut (length below) d s (omega arith))) range.1,
)

pub range_from_cut : (levels : List Level) (d : ℕ) → length levels ≤ d → (s : State)
    → InRange levels (cut d s) → InRange levels s
range_from_cut [] d le s range = tt
range_from_cut (level ∷ below) d le s range = (
  range_from_cut below d (omega arith) s range.0,
  subst (λ (r : Reg). IfSome r.a (λ a. a < level.modulus))
      (register_cut (length below) d s (omega arith)) range.1,
)

-- the registers of a node that takes part from some level on, below the cut
pub registers_of_cut : (low : ℕ) (levels : List Level) (d : ℕ) → length levels ≤ d → (s : State)
    → HasRegisters low levels s → HasRegisters low levels (cut d s)
registers_of_cut low [] d le s has = tt
registers_of_cut low (level ∷ below) d le s has = (
  registers_of_cut low below d (omega arith) s has.0,
  subst (IsRegister (nat_le low (length below + 1)) level.modulus)
      (sym (register_cut (length below) d s (omega arith))) has.1,
)

-- ---- a state of a node is in range

number_below : (has : Bool) (base x : ℕ) → 0 < base → IsNumber has base x → x < base
number_below true base x some is = is
number_below false base x some is = omega arith

register_below : (has : Bool) (modulus : ℕ) (r : Reg) → 0 < modulus → IsRegister has modulus r
    → IfSome r.a (λ a. a < modulus)
register_below true modulus r some is = is
register_below false modulus r some is =
    subst (λ (r : Reg). IfSome r.a (λ a. a < modulus)) (sym is) some

registers_below : (low : ℕ) (levels : List Level) → ArePositive levels → (s : State)
    → HasRegisters low levels s → InRange levels s
registers_below low [] some s has = tt
registers_below low (level ∷ below) some s has = (
  registers_below low below some.1 s has.0,
  register_below (nat_le low (length below + 1)) level.modulus (register_at (length below) s) some.0
      has.1,
)

pub range_of_state : (plan : Plan) → 0 < plan.base → ArePositive plan.levels → (v : ℕ) (s : State)
    → IsState plan v s → IsInRange plan s
range_of_state plan base levels v s is = record {
  x = number_below (nat_le (low_of plan.levels v) 0) plan.base s.x base is.x;
  values = registers_below (low_of plan.levels v) plan.levels levels s is.registers;
}

-- ---- the step

-- a state of a list whose states are cut
pub state_of-cut : (d : ℕ) (heard : List State) (v : ℕ)
    → state_of (map (cut d) heard) v ≡ cut d (state_of heard v)
state_of-cut zero [] v = refl
state_of-cut (suc d) [] v = refl
state_of-cut d (s ∷ heard) zero = refl
state_of-cut d (s ∷ heard) (suc v) = state_of-cut d heard v

-- a new register by what is heard of the states up to the cut
new_register-cut : (l d n : ℕ) (level : Level) (v : ℕ) (group : List State) → l < d
    → new_register l n level v (map (cut d) group) ≡ new_register l n level v group
new_register-cut l d n level v group lt =
    let values : State → Option ℕ = λ s. (register_at l s).a in
    let by : Reg → List ℕ → List (Option ℕ) → Reg = register_after n level in
    let front : List State → List State = take (level.blocks * n) in
    ap (λ s. by (register_at l s) (map (shown l) (front (map (cut d) group)))
    (map values (map (cut d) group))) (state_of-cut d group v)
    ∙ (ap (λ r. by r (map (shown l) (front (map (cut d) group))) (map values (map (cut d) group)))
    (register_cut l d (state_of group v) lt)
    ∙ (ap (λ outputs.
    by (register_at l (state_of group v)) outputs (map values (map (cut d) group)))
    (ap (map (shown l)) (take-map (cut d) (level.blocks * n) group)
    ∙ map_over (shown l) (shown l) (cut d) (shown_of_cut l d (omega arith)) (front group))
    ∙ ap (by (register_at l (state_of group v)) (map (shown l) (front group)))
    (map_over values values (cut d) (λ s. ap (λ (r : Reg). r.a) (register_cut l d s lt))
    group)))

-- the step is that by the states up to the cut
pub step_in-cut : (base : ℕ) (levels : List Level) (d v : ℕ) (group : List State)
    → length levels ≤ d → step_in base levels v (map (cut d) group) ≡ step_in base levels v group
step_in-cut base [] d v group le =
    ap (λ (s : State). record { x = up base s.x; registers = [] }) (state_of-cut d group v)
step_in-cut base (level ∷ below) d v group le =
    let n : ℕ = nodes_of below in
    let choose : State → State =
    λ s. cond (nat_lt v (level.blocks * n)) s (zero_state (length below)) in
    ap₂ (λ s r. with_register (choose s) r)
    (ap (step_in base below (v % n)) (block-map (cut d) n (v / n) group)
    ∙ step_in-cut base below d (v % n) (block n (v / n) group) (omega arith))
    (new_register-cut (length below) d n level v group (omega arith))

pub step_of-cut : (plan : Plan) (v : ℕ) (heard : List State)
    → step_of plan v (map (cut (plan_depth plan)) heard) ≡ step_of plan v heard
step_of-cut plan v heard = step_in-cut plan.base plan.levels (plan_depth plan) v heard (omega arith)
