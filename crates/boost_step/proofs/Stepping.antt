-- What a step of the group does beside the level's register: inner outputs are heard, the node's
-- block steps, and the register is put at the end.
use Rattle.std.proofs.Common.{◌≡◌, ℕ, ◌+◌, ◌-◌, ◌*◌, ◌/◌, ◌%◌, ◌<◌, ◌≤◌, List, [], ◌∷◌, ◌++◌}
use Rattle.std.proofs.Common.{length, take, drop, map, set, sym, ap, ◌∙◌, subst, arith}
use Rattle.std.proofs.Common.{append_assoc}
use Rattle.std.specs.List.{range_with_len}
use Rattle.std.proofs.Math.Nat.{mod-add-mod}
use Rattle.std.proofs.lemmas.List.{set-append_right, drop_more, take_more_set, length-append}
use Rattle.std.proofs.lemmas.List.{length-drop}
use Rattle.std.proofs.lemmas.List.FromFn.{map-range_with_len_more}
use Rattle.sync_types.specs.declared.states.Reg.{Reg}
use Rattle.sync_types.specs.States.{State, zero_register}
use Rattle.construction.specs.Votes.{block}
use Rattle.counter_core.specs.Meanings.{written}
use Rattle.construction.proofs.Blocks.{length-block}
use Rattle.construction.specs.Steps.{with_register}

-- the place of the next node in its block
pub place_more : (place n nodes u next : ℕ) → n ≡ nodes → place ≡ u % nodes → next ≡ (place + 1) % n
    → next ≡ (u + 1) % nodes
place_more place n nodes u next e h is = is
    ∙ (ap (λ m. (place + 1) % m) e ∙ (ap (λ p. (p + 1) % nodes) h ∙ mod-add-mod u nodes 1))

-- one more output is heard
pub output_more : (f : ℕ → ℕ) (u o : ℕ) (outputs : List ℕ) → u < length outputs
    → take u outputs ≡ map f (range_with_len 0 u) → o ≡ f u
    → take (u + 1) (set outputs u o) ≡ map f (range_with_len 0 (u + 1))
output_more f u o outputs lt h e =
    take_more_set outputs u o lt
    ∙ (ap (λ xs. xs ++ o ∷ []) h
    ∙ (ap (λ x. map f (range_with_len 0 u) ++ x ∷ []) e
    ∙ sym (map-range_with_len_more f 0 u u (omega arith))))

-- the block of a place, all of which is heard
pub record OwnBlock (nodes v n i : ℕ) (heard own : List State) : Type 0 where
  pub fits : (i + 1) * n ≤ length heard
  pub block : own ≡ block nodes (v / nodes) heard
  pub size : length own ≡ nodes

pub own_block : (nodes v n i : ℕ) (heard own : List State) → (v / nodes + 1) * nodes ≤ length heard
    → n ≡ nodes → i ≡ v / n → own ≡ block n i heard → OwnBlock nodes v n i heard own
own_block nodes v n i heard own room e is e' =
    let at : i ≡ v / nodes = is ∙ ap (λ m. v / m) e in
    let own_is : own ≡ block nodes (v / nodes) heard = e'
    ∙ (ap (λ m. block m i heard) e ∙ ap (λ j. block nodes j heard) at) in
    record {
      fits = subst (λ m. (i + 1) * m ≤ length heard) (sym e)
          (subst (λ j. (j + 1) * nodes ≤ length heard) (sym at) room);
      block = own_is;
      size = ap length own_is
          ∙ length-block (v / nodes + 1) nodes (v / nodes) heard room (omega arith);
    }

-- the state written has as many registers as before
pub length_written : (d : ℕ) (s out : State) → length s.registers ≡ d → d ≤ length out.registers
    → length (written d s out).registers ≡ length out.registers
length_written d s out e le = length-append s.registers (drop d out.registers)
    ∙ omega (arith, length-drop d out.registers)

-- the register is put after those of the counter below
pub register_written : (d : ℕ) (s out : State) (r : Reg) → length s.registers ≡ d
    → d < length out.registers
    → record (written d s out) { registers = set (written d s out).registers d r }
    ≡ written (d + 1) (with_register s r) out
register_written d s out r e lt =
    let z : d - d ≡ 0 = omega arith in
    ap (λ rs. record { x = s.x; registers = rs })
    (set-append_right s.registers (drop d out.registers) d d r e (omega arith)
    ∙ (ap (λ i. s.registers ++ set (drop d out.registers) i r) z
    ∙ (ap (λ ys. s.registers ++ set ys 0 r) (drop_more out.registers d zero_register lt)
    ∙ sym (append_assoc s.registers (r ∷ []) (drop (d + 1) out.registers)))))
