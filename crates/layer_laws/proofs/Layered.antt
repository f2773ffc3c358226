-- A counter's step and then a layer's, written into one state that has room for both and nothing
-- more.
use Rattle.std.proofs.Common.{◌≡◌, ◌⊎◌, ℕ, zero, suc, ◌+◌, ◌<◌, List, [], ◌++◌, length, take, drop}
use Rattle.std.proofs.Common.{refl, sym, ap, ◌∙◌, inl, inr, arith}
use Rattle.std.proofs.lemmas.List.{take_at, drop_all, take-append-drop, append-nil, nil_from_length}
use Rattle.std.proofs.lemmas.Slice.{drop-append-drop}
use Rattle.sync_types.specs.declared.states.Reg.{Reg}
use Rattle.sync_types.specs.States.{State}
use Rattle.counter_core.specs.Meanings.{written}
use Rattle.counter_core.specs.Overlays.{Layer, layered}

pub none_or_some : (n : ℕ) → (n ≡ 0) ⊎ (0 < n)
none_or_some zero = inl refl
none_or_some (suc n) = inr (omega arith)

module _ {Kept : Type 0} (depth : ℕ) (layer : Layer Kept) (s out : State) (registers : List Reg)
    (deep : length s.registers ≡ depth) (size : length registers ≡ layer.extra)
    (room : length out.registers ≡ depth + layer.extra) where
  abbrev stepped : List Reg
  stepped = s.registers ++ drop depth out.registers

  abbrev both : List Reg
  both = (take layer.depth stepped ++ registers) ++ drop (layer.depth + layer.extra) stepped

  with_some : layer.depth ≡ depth → both ≡ s.registers ++ registers
  with_some is = rw is (
      ap (λ (front : List Reg). (front ++ registers) ++ drop (depth + layer.extra) stepped)
      (take_at s.registers (drop depth out.registers) depth deep)
      ∙ ap (λ (behind : List Reg). (s.registers ++ registers) ++ behind)
      (drop-append-drop depth out.registers s.registers (depth + layer.extra) (omega arith) deep
      ∙ drop_all (depth + layer.extra) out.registers (omega (arith, room)))
      ∙ append-nil (s.registers ++ registers))

  with_none : layer.extra ≡ 0 → both ≡ s.registers ++ registers
  with_none is =
      let empty : registers ≡ [] = nil_from_length registers (size ∙ is) in
      let end : layer.depth + layer.extra ≡ layer.depth = omega (arith, is) in
      ap (λ (rs : List Reg). (take layer.depth stepped ++ rs)
      ++ drop (layer.depth + layer.extra) stepped) empty
      ∙ ap (λ (front : List Reg). front ++ drop (layer.depth + layer.extra) stepped)
      (append-nil (take layer.depth stepped))
      ∙ ap (λ (n : ℕ). take layer.depth stepped ++ drop n stepped) end
      ∙ take-append-drop layer.depth stepped
      ∙ ap (λ (behind : List Reg). s.registers ++ behind)
      (drop_all depth out.registers (omega (arith, room, is)))
      ∙ ap (λ (rs : List Reg). s.registers ++ rs) (sym empty)

  pub layered_written : (0 < layer.extra → layer.depth ≡ depth)
      → layered layer registers (written depth s out)
      ≡ record { x = s.x; registers = s.registers ++ registers }
  layered_written over =
      ap (λ (rs : List Reg). let t : State = record { x = s.x; registers = rs } in t)
      (elim (none_or_some layer.extra) [
        | inl none ↦ with_none none
        | inr some ↦ with_some (over some)
      ])
