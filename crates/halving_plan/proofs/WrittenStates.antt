-- States that are written register by register.
use Rattle.std.proofs.Common.{◌≡◌, ℕ, suc, get_or, ◌+◌, ◌-◌, ◌≤◌, List, [], ◌∷◌, ◌++◌, length, take}
use Rattle.std.proofs.Common.{drop, set}
use Rattle.std.proofs.Common.{replicate, sym, ap, ap₂, ◌∙◌, append_assoc, arith}
use Rattle.std.proofs.lemmas.List.{take-append-drop, drop-drop, drop-replicate, length-append}
use Rattle.std.proofs.lemmas.List.{length-take-le}
use Rattle.std.proofs.lemmas.List.{length-drop, length-replicate, take_at, drop_at}
use Rattle.std.proofs.lemmas.List.{drop-append-le}
use Rattle.std.proofs.lemmas.List.{set-append_right, drop_more}
use Rattle.sync_types.specs.declared.states.Reg.{Reg}
use Rattle.sync_types.specs.States.{State, zero_register, zero_state}
use Rattle.counter_core.specs.Meanings.{written}
use Rattle.halving_plan.specs.LevelStates.{LevelState}
use Rattle.halving_plan.specs.Registers.{registers_of, with_level_state}
use Rattle.halving_plan.specs.Steps.{filled}
use Rattle.halving_plan.specs.GroupStates.{overlaid}
use Rattle.halving_plan.specs.WrittenLevelStates.{with_level_state_at}

set_in : (before ys : List Reg) (n i j : ℕ) (y : Reg) → length before ≡ n → i ≡ n + j
    → set (before ++ ys) i y ≡ before ++ set ys j y
set_in before ys n i j y e at =
    set-append_right before ys n i y e (omega arith)
    ∙ ap (λ k. before ++ set ys k y) (omega arith)

-- the registers from one on, of which there are two
two_from : (out : List Reg) (r : ℕ) → r + 2 ≤ length out
    → out
    ≡ take r out
    ++ (get_or out r zero_register ∷ get_or out (r + 1) zero_register ∷ drop (r + 2) out)
two_from out r le =
    let z = zero_register in
    let before = take r out in
    sym (take-append-drop r out)
    ∙ (ap (λ ys. before ++ ys) (drop_more out r z (omega arith))
    ∙ ap (λ ys. before ++ (get_or out r z ∷ ys)) (drop_more out (r + 1) z (omega arith)
    ∙ ap (λ k. get_or out (r + 1) z ∷ drop k out) (omega arith)))

-- two registers are written one by one
pub two_set : (out : List Reg) (r : ℕ) (a b : Reg) → r + 2 ≤ length out
    → set (set out r a) (r + 1) b ≡ take r out ++ (a ∷ b ∷ []) ++ drop (r + 2) out
two_set out r a b le =
    let before = take r out in
    let rest = drop (r + 2) out in
    let size : length before ≡ r = length-take-le r out (omega arith) in
    let w = get_or out r zero_register in
    let x = get_or out (r + 1) zero_register in
    ap (λ o. set (set o r a) (r + 1) b) (two_from out r le)
    ∙ (ap (λ o. set o (r + 1) b) (set_in before (w ∷ x ∷ rest) r r 0 a size (omega arith))
    ∙ (set_in before (a ∷ x ∷ rest) r (r + 1) 1 b size (omega arith)
    ∙ sym (append_assoc before (a ∷ b ∷ []) rest)))

-- how long what stands before the half's registers is
length_before : (r : ℕ) (level_state : LevelState) (out : List Reg) → r + 2 ≤ length out
    → length (take r out ++ registers_of level_state) ≡ r + 2
length_before r level_state out le =
    length-append (take r out) (registers_of level_state)
    ∙ ap (λ n. n + 2) (length-take-le r out (omega arith))

-- how long a written state is
pub length_with_level_state_at : (r : ℕ) (level_state : LevelState) (out : State)
    → r + 2 ≤ length out.registers
    → length (with_level_state_at r level_state out).registers ≡ length out.registers
length_with_level_state_at r level_state out le =
    length-append (take r out.registers ++ registers_of level_state) (drop (r + 2) out.registers)
    ∙ omega (
      arith,
      length_before r level_state out.registers le,
      length-drop (r + 2) out.registers,
    )

-- the half's step is written after the level state
pub overlaid_after : (r : ℕ) (level_state : LevelState) (state out : State)
    → r + 2 ≤ length out.registers
    → overlaid (r + 2) state (with_level_state_at r level_state out)
    ≡ overlaid r (with_level_state level_state state) out
overlaid_after r level_state state out le =
    let before = take r out.registers in
    let two = registers_of level_state in
    let rest = drop (r + 2) out.registers in
    let size = length_before r level_state out.registers le in
    let own = length state.registers in
    let far : r + 2 + own ≡ r + suc (suc own) = omega arith in
    let ahead : take (r + 2) (with_level_state_at r level_state out).registers ≡ before ++ two =
    take_at (before ++ two) rest (r + 2) size in
    let after : drop (r + 2 + own) (with_level_state_at r level_state out).registers
    ≡ drop (r + suc (suc own)) out.registers =
    sym (drop-drop own (r + 2) (with_level_state_at r level_state out).registers)
    ∙ (ap (drop own) (drop_at (before ++ two) rest (r + 2) size)
    ∙ (drop-drop own (r + 2) out.registers ∙ ap (λ n. drop n out.registers) far)) in
    ap₂ (λ (xs ys : List Reg). record { x = state.x; registers = xs ++ state.registers ++ ys })
    ahead
    after
    ∙ ap (λ (xs : List Reg). record {
      x = state.x;
      registers = xs ++ drop (r + suc (suc own)) out.registers;
    }) (append_assoc before two state.registers)

-- what is written over a cleared state
pub over_cleared : (d : ℕ) (state out : State) → length state.registers ≤ d
    → overlaid 0 state (written d (zero_state d) out) ≡ written d (filled d state) out
over_cleared d state out le =
    let own = length state.registers in
    let zeros = replicate d zero_register in
    let further = drop d out.registers in
    let at : 0 + own ≡ own = omega arith in
    ap (λ (ys : List Reg). record { x = state.x; registers = ys })
    (ap (λ n. state.registers ++ drop n (zeros ++ further)) at
    ∙ (ap (λ ys. state.registers ++ ys)
    (drop-append-le own zeros further (omega (arith, length-replicate d zero_register))
    ∙ ap (λ ys. ys ++ further) (drop-replicate own d zero_register))
    ∙ sym (append_assoc state.registers (replicate (d - own) zero_register) further)))
