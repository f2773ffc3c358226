-- What steps give is a state of the node, whatever was heard.
use Rattle.std.proofs.Common.{replicate, get_or, zero, suc, ◌≡◌, ℕ, ◌+◌, ◌*◌, ◌/◌, ◌%◌, ◌<◌, ◌≤◌}
use Rattle.std.proofs.Common.{Bool, true, false, cond, List, [], ◌∷◌, length, Option, Some, None}
use Rattle.std.proofs.Common.{IfSome, refl, sym, ap, ◌∙◌, subst, arith}
use Rattle.std.specs.Prelude.{⊤, nat_lt, nat_le}
use Rattle.std.specs.Option.{option_map}
use Rattle.std.proofs.Math.Nat.{mod-lt}
use Rattle.std.proofs.lemmas.Bool.{le-leb, lt-leb, cond_both}
use Rattle.std.proofs.lemmas.List.{length-replicate, get_or_at, get_or_append_left, length_push}
use Rattle.sync_types.specs.declared.states.Reg.{Reg}
use Rattle.sync_types.specs.States.{State, zero_state, zero_register, register_at}
use Rattle.construction.specs.Plans.{Level, Plan, nodes_of, low_of}
use Rattle.construction.specs.PhaseKing.{up}
use Rattle.construction.specs.Votes.{block}
use Rattle.construction.specs.Steps.{state_of, new_register, with_register, step_in, step_of}
use Rattle.construction.specs.Runs.{IsNumber, IsRegister, HasRegisters, IsState}

-- every modulus is at least one
abbrev pub ArePositive : List Level → Type 0
ArePositive [] = ⊤
ArePositive (level ∷ below) = (0 < level.modulus) × ArePositive below

-- ---- how many registers

-- each register of a zero state is the zero register
pub zero_at : (n i : ℕ) → get_or (replicate n zero_register) i zero_register ≡ zero_register
zero_at zero i = refl
zero_at (suc n) zero = refl
zero_at (suc n) (suc i) = zero_at n i

-- there is a register for each level
pub length-step_in : (base : ℕ) (levels : List Level) (v : ℕ) (group : List State)
    → length (step_in base levels v group).registers ≡ length levels
length-step_in base [] v group = refl
length-step_in base (level ∷ below) v group =
    let n : ℕ = nodes_of below in
    let here : Bool = nat_lt v (level.blocks * n) in
    let inner : State = step_in base below (v % n) (block n (v / n) group) in
    let lower : State = cond here inner (zero_state (length below)) in
    let deep : length lower.registers ≡ length below =
    cond_both here inner (zero_state (length below)) (λ s. length s.registers ≡ length below)
    (λ e. length-step_in base below (v % n) (block n (v / n) group))
    (λ e. length-replicate (length below) zero_register) in
    length_push lower.registers (new_register (length below) n level v group)
    ∙ (ap (λ n. n + 1) deep ∙ omega arith)

-- ---- levels from which nodes take part

pub low_most : (levels : List Level) (v : ℕ) → low_of levels v ≤ length levels
low_most [] v = omega arith
low_most (level ∷ below) v =
    let n : ℕ = nodes_of below in
    let most : low_of (level ∷ below) v ≤ length below + 1 =
    cond_both (nat_lt v (level.blocks * n)) (low_of below (v % n)) (length below + 1)
    (λ low. low ≤ length below + 1)
    (λ e. let h = low_most below (v % n) in omega arith)
    (λ e. omega arith) in
    omega arith

-- ---- ranges

-- registers that are the same below the levels are in range together
pub same_registers : (low : ℕ) (levels : List Level) (s t : State)
    → ((i : ℕ) → i < length levels → register_at i s ≡ register_at i t)
    → HasRegisters low levels s → HasRegisters low levels t
same_registers low [] s t same has = tt
same_registers low (level ∷ below) s t same has = (
  same_registers low below s t (λ i lt. same i (omega arith)) has.0,
  subst (IsRegister (nat_le low (length below + 1)) level.modulus)
      (same (length below) (omega arith)) has.1,
)

-- an incremented value is below the modulus
incremented_below : (c : ℕ) → 0 < c → (a : Option ℕ) → IfSome (option_map (up c) a) (λ x. x < c)
incremented_below c some None = tt
incremented_below c some (Some a) = mod-lt (a + 1) some

-- the fields of a node that takes part from level `low` on
abbrev pub HasFields : (low base : ℕ) → List Level → State → Type 0
HasFields low base levels s = IsNumber (nat_le low 0) base s.x × HasRegisters low levels s

register_below : (s : State) (r : Reg) (d i : ℕ) → length s.registers ≡ d → i < d
    → register_at i s ≡ register_at i (with_register s r)
register_below s r d i e lt =
    sym (get_or_append_left s.registers (r ∷ []) zero_register i (omega arith))

module _ (level : Level) (below : List Level) where
  -- one more register
  has_more : (low base : ℕ) (s : State) (r : Reg) → low ≤ length below + 1
      → length s.registers ≡ length below → HasFields low base below s
      → IfSome r.a (λ a. a < level.modulus)
      → HasFields low base (level ∷ below) (with_register s r)
  has_more low base s r le e has range =
      let d : ℕ = length below in
      let t : State = with_register s r in
      let last : r ≡ register_at d t = sym (get_or_at s.registers r [] zero_register d e) in
      let is : IsRegister true level.modulus (register_at d t) =
      subst (λ (r : Reg). IfSome r.a (λ a. a < level.modulus)) last range in (
        has.0,
        (
          same_registers low below s t (λ i lt. register_below s r d i e lt) has.1,
          subst (λ b. IsRegister b level.modulus (register_at d t))
              (sym (le-leb low (d + 1) le)) is,
        ),
      )

-- the missing registers of a spare are zero
zero_registers : (low : ℕ) (levels : List Level) (s : State) → length levels < low
    → ((i : ℕ) → i < length levels → register_at i s ≡ zero_register) → HasRegisters low levels s
zero_registers low [] s lt missing = tt
zero_registers low (level ∷ below) s lt missing =
    let d : ℕ = length below in (
      zero_registers low below s (omega arith) (λ i ilt. missing i (omega arith)),
      subst (λ b. IsRegister b level.modulus (register_at d s))
          (sym (lt-leb low (d + 1) (omega arith))) (missing d (omega arith)),
    )

module _ (base : ℕ) (some_base : 0 < base) where
  -- of a spare of the level above d levels, these d levels
  zero_has : (below : List Level)
      → HasFields (length below + 1) base below (zero_state (length below))
  zero_has below =
      let d : ℕ = length below in (
        subst (λ b. IsNumber b base 0) (sym (lt-leb (d + 1) 0 (omega arith))) refl,
        zero_registers (d + 1) below (zero_state d) (omega arith) (λ i lt. zero_at d i),
      )

  -- the step of a node of a block, or of a spare
  has_chosen : (level : Level) (below : List Level) (low : ℕ) (inner : State) (r : Reg)
      → IfSome r.a (λ a. a < level.modulus) → low ≤ length below
      → length inner.registers ≡ length below → HasFields low base below inner → (b : Bool)
      → HasFields (cond b low (length below + 1)) base (level ∷ below)
      (with_register (cond b inner (zero_state (length below))) r)
  has_chosen level below low inner r range le deep has true =
      has_more level below low base inner r (omega arith) deep has range
  has_chosen level below low inner r range le deep has false =
      let d : ℕ = length below in
      has_more level below (d + 1) base (zero_state d) r (omega arith)
      (length-replicate d zero_register) (zero_has below) range

  -- the step of a node, whatever is heard
  pub step_has_fields : (levels : List Level) → ArePositive levels → (v : ℕ) (group : List State)
      → HasFields (low_of levels v) base levels (step_in base levels v group)
  step_has_fields [] some v group = (mod-lt ((state_of group v).x + 1) some_base, tt)
  step_has_fields (level ∷ below) some v group =
      let n : ℕ = nodes_of below in
      let inner : List State = block n (v / n) group in
      has_chosen level below (low_of below (v % n)) (step_in base below (v % n) inner)
      (new_register (length below) n level v group)
      (incremented_below level.modulus some.0 _) (low_most below (v % n))
      (length-step_in base below (v % n) inner) (step_has_fields below some.1 (v % n) inner)
      (nat_lt v (level.blocks * n))

-- the step of a node gives a state of it
pub step_is_state : (plan : Plan) → 0 < plan.base → ArePositive plan.levels → (v : ℕ)
    → (heard : List State) → IsState plan v (step_of plan v heard)
step_is_state plan base levels v heard =
    let has = step_has_fields plan.base base plan.levels levels v heard in
    record { depth = length-step_in plan.base plan.levels v heard; x = has.0; registers = has.1 }
