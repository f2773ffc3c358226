-- Registers that are cleared one by one.
use Rattle.std.proofs.Common.{◌≡◌, ℕ, ◌+◌, ◌-◌, ◌<◌, ◌≤◌, List, [], ◌∷◌, ◌++◌, length, set, drop}
use Rattle.std.proofs.Common.{replicate, sym, ap, ◌∙◌, arith, append_assoc}
use Rattle.std.proofs.lemmas.List.{set-append_right, drop_more, length-append, length-drop}
use Rattle.std.proofs.lemmas.List.{length-replicate, replicate-append-replicate}
use Rattle.sync_types.specs.declared.states.Reg.{Reg}
use Rattle.sync_types.specs.States.{zero_register}

pub length_cleared : (out : List Reg) (i : ℕ) → i ≤ length out
    → length (replicate i zero_register ++ drop i out) ≡ length out
length_cleared out i le = simp (length-append, length-replicate, length-drop) (omega arith)

pub one_cleared : (out : List Reg) (i : ℕ) → i < length out
    → set (replicate i zero_register ++ drop i out) i zero_register
    ≡ replicate (i + 1) zero_register ++ drop (i + 1) out
one_cleared out i lt =
    let none : i - i ≡ 0 = omega arith in
    let size : length (replicate i zero_register) ≡ i = length-replicate i zero_register in
    set-append_right (replicate i zero_register) (drop i out) i i zero_register size (omega arith)
    ∙ (ap (λ j. replicate i zero_register ++ set (drop i out) j zero_register) none
    ∙ (ap (λ ys. replicate i zero_register ++ set ys 0 zero_register)
    (drop_more out i zero_register lt)
    ∙ (sym (append_assoc (replicate i zero_register) (zero_register ∷ []) (drop (i + 1) out))
    ∙ ap (λ xs. xs ++ drop (i + 1) out) (replicate-append-replicate i 1 zero_register))))
