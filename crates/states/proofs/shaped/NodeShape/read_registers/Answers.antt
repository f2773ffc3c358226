use Rattle.std.proofs.Common.{◌≡◌, ◌<◌, ◌+◌, ◌∷◌, [], ◌∙◌, sym, ap, arith, take, drop, refl}
use Rattle.std.proofs.Common.{ℕ, ◌≤◌, Bool, true, false, List, Some, None, length}
use Rattle.std.proofs.lemmas.List.{append-nil, drop_more, drop_all, take_all, take_more_set}
use Rattle.std.proofs.lemmas.List.{length-set}
use Rattle.state_codec.specs.Shapes.{fields_at}
use Rattle.state_codec.proofs.Lows.{depth_at}
use Rattle.sync_types.specs.declared.states.Reg.{Reg}
use Rattle.states.specs.StateWords.{Said, all_said, registers_said, with_number}
use Rattle.states.proofs.SaidRegisters.{onto, one_more}
use Rattle.states.proofs.shaped.NodeShape.read_registers.Goals as goal

pub loop-i-preserved : goal.loop-i-preserved
loop-i-preserved c =
    let self = c.args.self.now in
    let moduli = (fields_at self.shape.now self.node).moduli in
    let old = c.loop-i.state.registers in
    let i = c.loop-i.i in
    let inside : i < length moduli =
    omega (arith, depth_at self.shape.now self.node, c.loop-i-test.true, c.depth-i-end.ensures) in
    let here : i < length old =
    omega (arith, c.loop-i.invariant.depth, c.loop-i-test.true, c.depth-i-end.ensures) in
    let said : Said Reg = record {
      value = c.in-Some.said.value;
      further = c.in-Some.said.further;
      behind = c.next_of_node.new.words;
    } in
    let rest = registers_said (drop (i + 1) moduli) said.further said.behind in
    record {
      depth = ap (λ s. length s.registers) c.set_reg.ensures
          ∙ length-set old i said.value ∙ c.loop-i.invariant.depth;
      x = ap (λ s. s.x) c.set_reg.ensures ∙ c.loop-i.invariant.x;
      so_far = ap (λ s. onto (take (i + 1) s.registers) rest) c.set_reg.ensures
          ∙ ap (λ front. onto front rest) (take_more_set old i said.value here)
          ∙ sym (one_more (take i old) _ (drop (i + 1) moduli) c.loop-i.further c.loop-i.words said
          (rw c.modulus.ensures.value at c.in-Some.ensures))
          ∙ ap (λ ms. onto (take i old) (registers_said ms c.loop-i.further c.loop-i.words))
          (sym (drop_more moduli i 0 inside))
          ∙ c.loop-i.invariant.so_far;
    }

-- nothing is read at the end of the moduli
module _ (moduli : List ℕ) (registers : List Reg) (first further : Bool)
    (words left : List (List ℕ)) (i : ℕ) (end : length moduli ≤ i)
    (so_far : onto (take i registers) (registers_said (drop i moduli) further left)
    ≡ registers_said moduli first words) where
  at_end : registers_said moduli first words ≡ onto (take i registers) (all_said further left)
  at_end =
      sym so_far
      ∙ ap (λ ms. onto (take i registers) (registers_said ms further left)) (drop_all i moduli end)

  none_further : further ≡ true → registers_said moduli first words ≡ None
  none_further is = at_end ∙ ap (λ b. onto (take i registers) (all_said b left)) is

  word_left : (word : List ℕ) (rest : List (List ℕ)) → further ≡ false → left ≡ word ∷ rest
      → registers_said moduli first words ≡ None
  word_left word rest is some =
      at_end ∙ rw (is, some) refl

  all_read : further ≡ false → left ≡ [] → length registers ≤ i
      → registers_said moduli first words ≡ Some registers
  all_read is none long =
      at_end ∙ rw (is, none)
      (ap Some (append-nil (take i registers) ∙ take_all i registers long))

pub returns-then-further : goal.returns-then-further
returns-then-further c =
    let self = c.args.self.now in
    let moduli = (fields_at self.shape.now self.node).moduli in
    let end : length moduli ≤ c.loop-i.i =
    omega (arith, depth_at self.shape.now self.node, c.loop-i-test.false, c.depth-i-end.ensures) in
    sym (ap (with_number 0) (none_further moduli c.loop-i.state.registers c.args.first
    c.loop-i.further c.args.words.now c.loop-i.words c.loop-i.i end c.loop-i.invariant.so_far
    c.if-further.true))

pub returns-in-Some-next : goal.returns-in-Some-next
returns-in-Some-next c =
    let self = c.args.self.now in
    let moduli = (fields_at self.shape.now self.node).moduli in
    let end : length moduli ≤ c.loop-i.i =
    omega (arith, depth_at self.shape.now self.node, c.loop-i-test.false, c.depth-i-end.ensures) in
    sym (ap (with_number 0) (word_left moduli c.loop-i.state.registers c.args.first
    c.loop-i.further c.args.words.now c.loop-i.words c.loop-i.i end c.loop-i.invariant.so_far _ _
    c.if-further.false c.in-Some-next.ensures.steps))

pub returns-in-None : goal.returns-in-None
returns-in-None c =
    let self = c.args.self.now in
    let moduli = (fields_at self.shape.now self.node).moduli in
    let registers = c.loop-i.state.registers in
    let end : length moduli ≤ c.loop-i.i =
    omega (arith, depth_at self.shape.now self.node, c.loop-i-test.false, c.depth-i-end.ensures) in
    let long : length registers ≤ c.loop-i.i =
    omega (arith, c.loop-i.invariant.depth, c.loop-i-test.false, c.depth-i-end.ensures) in
    sym (ap (with_number 0) (all_read moduli registers c.args.first c.loop-i.further
    c.args.words.now c.loop-i.words c.loop-i.i end c.loop-i.invariant.so_far c.if-further.false
    c.in-None.ensures.steps.0 long)
    ∙ ap (λ x. Some (record { x = x; registers = registers })) (sym c.loop-i.invariant.x))
