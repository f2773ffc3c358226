use Rattle.std.proofs.Common.{◌≡◌, ℕ, ◌+◌, List, [], length, map, get_or, Vec, Global, refl, ap}
use Rattle.std.proofs.Common.{◌∙◌, arith}
use Rattle.std.proofs.lemmas.List.{length-map, length-set, map-set}
use Rattle.std.proofs.lemmas.Grind.{get_or-set_at}
use Rattle.std.proofs.lemmas.List.Elements.{All-set}
use Rattle.sync_types.specs.declared.states.Reg.{Reg}
use Rattle.sync_types.specs.States.{State, register_at}
use Rattle.shared_board.proofs.Filling.{filled_set}
use Rattle.shared_board.proofs.columns.fill.Goals as goal

pub loop-l-init : goal.loop-l-init
loop-l-init c =
    let states : List State = c.args.config.now.current in
    let outs : List (Vec ℕ Global) = c.args.outputs.now.items in
    let new : Vec ℕ Global = c.fill_numbers.new.numbers in
    let item : Vec ℕ Global → List ℕ = λ v. v.items in
    let many = c.requires.many in
    record {
      registers_long = c.requires.registers;
      outputs_long = All-set (λ (s : Vec ℕ Global). length s.items ≡ length states) outs 0 new
          (ap length c.fill_numbers.ensures ∙ length-map states (λ (s : State). s.x))
          c.requires.outputs;
      deep = refl;
      many = length-set outs 0 new ∙ many;
      filled = record {
        numbers =
            ap (λ xs. get_or xs 0 []) (map-set item outs 0 new)
            ∙ (get_or-set_at (map item outs) 0 0 new.items [] refl
            (omega (arith, length-map outs item, many))
            ∙ c.fill_numbers.ensures);
        registers = λ l lt. absurd (omega (arith, lt));
        outputs = λ l lt. absurd (omega (arith, lt));
      };
    }

pub loop-l-preserved : goal.loop-l-preserved
loop-l-preserved c =
    let states : List State = c.args.config.now.current in
    let i = c.loop-l.invariant in
    let l : ℕ = c.loop-l.l in
    let rows : List (Vec Reg Global) = c.loop-l.registers.items in
    let outs : List (Vec ℕ Global) = c.loop-l.outputs.items in
    let r : Vec Reg Global = c.fill_level.new.registers in
    let o : Vec ℕ Global = c.fill_level.new.outputs in
    let ri : Vec Reg Global → List Reg = λ v. v.items in
    let oi : Vec ℕ Global → List ℕ = λ v. v.items in
    let less = c.loop-l-test.true in
    let end = c.len-l-end.ensures in
    let ok = c.args.registers.now.ok.0 in
    record {
      registers_long = All-set (λ (s : Vec Reg Global). length s.items ≡ length states) rows l r
          (ap length c.fill_level.ensures.registers ∙ length-map states (register_at l))
          i.registers_long;
      outputs_long = All-set (λ (s : Vec ℕ Global). length s.items ≡ length states) outs (l + 1) o
          (ap length c.fill_level.ensures.outputs ∙ length-map states _) i.outputs_long;
      deep = length-set rows l r ∙ i.deep;
      many = length-set outs (l + 1) o ∙ i.many;
      filled = filled_set ri oi states rows outs l r o
          (omega (arith, length-map rows ri, i.deep, less, end, ok))
          (omega (arith, length-map outs oi, i.many, less, end, ok))
          c.fill_level.ensures.registers c.fill_level.ensures.outputs i.filled;
    }
