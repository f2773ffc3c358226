use Rattle.std.proofs.Common.{◌≡◌, ℕ, ◌+◌, ◌<◌, List, length, map, Vec, Global, All, sym, ap, ◌∙◌}
use Rattle.std.proofs.Common.{subst, arith}
use Rattle.std.specs.List.{range_with_len}
use Rattle.std.proofs.lemmas.List.{length-map}
use Rattle.std.proofs.lemmas.List.FromFn.{length-map-range_with_len}
use Rattle.sync_types.specs.declared.states.Reg.{Reg}
use Rattle.sync_types.specs.FaultSets.{is_in}
use Rattle.sync_types.specs.States.{State}
use Rattle.counter_core.specs.Meanings.{cut}
use Rattle.shared_board.specs.Sharing.{place_among}
use Rattle.shared_board.specs.Boards.{AreLiars, AreFilled, state_by}
use Rattle.shared_board.proofs.Marking.{few_liars}
use Rattle.shared_board.proofs.ByPlace.{board_size, board_depth, lists_held}
use Rattle.shared_board.proofs.Filled.{registers_long, outputs_long, shown_filled, filled_states}
use Rattle.shared_board.proofs.board.Board.take.Goals as goal

pub take_liars-requires-clause-room : goal.take_liars-requires-clause-room
take_liars-requires-clause-room c =
    let inside = c.self.inside in
    let shows : List (List ℕ) = map (λ (v : Vec ℕ Global). v.items) inside.outputs.items in
    let columns : List (List Reg) = map (λ (v : Vec Reg Global). v.items) inside.registers.items in
    let ids : List ℕ = inside.liars.items in
    let size = board_size inside.nodes shows columns ids c.args.self.now c.self.view_is in
    let below = subst (λ n. All (λ id. id < n) c.args.faulty.now.ids) size c.requires.ids in
    let few = few_liars inside.nodes c.args.faulty.now.ids
    (record { rising = c.facts.ensures.rising; below = below }) in
    omega (arith, few, c.self.invariant.has_room)

pub take_liars-requires-clause-size : goal.take_liars-requires-clause-size
take_liars-requires-clause-size c =
    let inside = c.self.inside in
    let ids : List ℕ = inside.liars.items in
    let marks = ap length c.self.invariant.marked
    ∙ length-map-range_with_len (is_in ids) 0 inside.nodes in
    let before = ap length c.self.invariant.counted
    ∙ length-map-range_with_len (place_among ids) 0 (inside.nodes + 1) in
    omega (arith, marks, before)

pub take_liars-requires-clause-most : goal.take_liars-requires-clause-most
take_liars-requires-clause-most c =
    let inside = c.self.inside in
    let ids : List ℕ = inside.liars.items in
    let marks = ap length c.self.invariant.marked
    ∙ length-map-range_with_len (is_in ids) 0 inside.nodes in
    omega (arith, marks, c.self.invariant.most)

pub fill-requires-clause-registers : goal.fill-requires-clause-registers
fill-requires-clause-registers c =
    let inside = c.self.inside in
    let shows : List (List ℕ) = map (λ (v : Vec ℕ Global). v.items) inside.outputs.items in
    let columns : List (List Reg) = map (λ (v : Vec Reg Global). v.items) inside.registers.items in
    let ids : List ℕ = inside.liars.items in
    let size = board_size inside.nodes shows columns ids c.args.self.now c.self.view_is in
    let same : inside.nodes ≡ length c.args.config.now.current = sym (c.requires.size ∙ size) in
    subst (λ n. All (λ (v : Vec Reg Global). length v.items ≡ n) inside.registers.items) same
    (lists_held (λ (v : Vec Reg Global). v.items) inside.nodes inside.registers.items
    c.self.invariant.registers)

pub fill-requires-clause-outputs : goal.fill-requires-clause-outputs
fill-requires-clause-outputs c =
    let inside = c.self.inside in
    let shows : List (List ℕ) = map (λ (v : Vec ℕ Global). v.items) inside.outputs.items in
    let columns : List (List Reg) = map (λ (v : Vec Reg Global). v.items) inside.registers.items in
    let ids : List ℕ = inside.liars.items in
    let size = board_size inside.nodes shows columns ids c.args.self.now c.self.view_is in
    let same : inside.nodes ≡ length c.args.config.now.current = sym (c.requires.size ∙ size) in
    subst (λ n. All (λ (v : Vec ℕ Global). length v.items ≡ n) inside.outputs.items) same
    (lists_held (λ (v : Vec ℕ Global). v.items) inside.nodes inside.outputs.items
    c.self.invariant.outputs)

pub invariant_of-self : goal.invariant_of-self
invariant_of-self c =
    let inside = c.self.inside in
    let shows : List (List ℕ) = map (λ (v : Vec ℕ Global). v.items) inside.outputs.items in
    let columns : List (List Reg) = map (λ (v : Vec Reg Global). v.items) inside.registers.items in
    let size = board_size inside.nodes shows columns inside.liars.items c.args.self.now
    c.self.view_is in
    let states : List State = c.args.config.now.current in
    let faulty : List ℕ = c.args.faulty.now.ids in
    let oi : Vec ℕ Global → List ℕ = λ v. v.items in
    let ri : Vec Reg Global → List Reg = λ v. v.items in
    let new_shows : List (List ℕ) = map oi c.fill.new.outputs.items in
    let new_columns : List (List Reg) = map ri c.fill.new.registers.items in
    let long : length new_columns ≡ length inside.registers.items =
    length-map c.fill.new.registers.items ri ∙ c.fill.ensures.deep in
    let filled : AreFilled states new_columns new_shows (length new_columns) =
    subst (AreFilled states new_columns new_shows) (sym long) c.fill.ensures.filled in
    let nodes : length states ≡ inside.nodes = c.requires.size ∙ size in
    let many : length new_shows ≡ length new_columns + 1 =
    omega (
      arith,
      long,
      length-map c.fill.new.outputs.items oi,
      c.fill.ensures.many,
      c.self.invariant.many,
      length-map inside.outputs.items oi,
      length-map inside.registers.items
          ri,
    ) in
    let below = subst (λ n. All (λ id. id < n) faulty) size c.requires.ids in
    let liars : AreLiars inside.nodes faulty =
    record { rising = c.facts.ensures.rising; below = below } in
    let same : c.take_liars.new.ids.items ≡ faulty = c.take_liars.ensures.ids in
    let marks = ap length c.self.invariant.marked
    ∙ length-map-range_with_len (is_in inside.liars.items) 0 inside.nodes in
    record {
      most = c.self.invariant.most;
      many = many;
      outputs = outputs_long states new_columns new_shows inside.nodes filled nodes many;
      registers = registers_long states new_columns new_shows inside.nodes filled nodes;
      shown = shown_filled states new_columns new_shows inside.nodes filled nodes;
      liars = subst (AreLiars inside.nodes) (sym same) liars;
      marked = c.take_liars.ensures.marks ∙ (ap (λ n. map (is_in faulty) (range_with_len 0 n)) marks
          ∙ ap (λ xs. map (is_in xs) (range_with_len 0 inside.nodes)) (sym same));
      counted = c.take_liars.ensures.before
          ∙ (ap (λ n. map (place_among faulty) (range_with_len 0 (n + 1))) marks
          ∙ ap (λ xs. map (place_among xs) (range_with_len 0 (inside.nodes + 1))) (sym same));
      has_room = omega (arith, c.self.invariant.has_room, c.take_liars.ensures.room);
    }

pub returns : goal.returns
returns c =
    let inside = c.self.inside in
    let shows : List (List ℕ) = map (λ (v : Vec ℕ Global). v.items) inside.outputs.items in
    let columns : List (List Reg) = map (λ (v : Vec Reg Global). v.items) inside.registers.items in
    let size = board_size inside.nodes shows columns inside.liars.items c.args.self.now
    c.self.view_is in
    let depth = board_depth inside.nodes shows columns inside.liars.items c.args.self.now
    c.self.view_is in
    let states : List State = c.args.config.now.current in
    let oi : Vec ℕ Global → List ℕ = λ v. v.items in
    let ri : Vec Reg Global → List Reg = λ v. v.items in
    let new_shows : List (List ℕ) = map oi c.fill.new.outputs.items in
    let new_columns : List (List Reg) = map ri c.fill.new.registers.items in
    let long : length new_columns ≡ length inside.registers.items =
    length-map c.fill.new.registers.items ri ∙ c.fill.ensures.deep in
    let filled : AreFilled states new_columns new_shows (length new_columns) =
    subst (AreFilled states new_columns new_shows) (sym long) c.fill.ensures.filled in
    let nodes : length states ≡ inside.nodes = c.requires.size ∙ size in
    let same_depth : length new_columns ≡ c.args.self.now.depth =
    long ∙ (sym (length-map inside.registers.items ri) ∙ sym depth) in
    let whole : map (state_by new_shows new_columns) (range_with_len 0 inside.nodes)
    ≡ map (cut (length new_columns)) states =
    filled_states states new_columns new_shows inside.nodes filled nodes (λ v lt.
    let within : v < length states = omega (arith, lt, nodes) in
    let moduli = (c.facts-2.ensures.current v within).depth
    ∙ length-map-range_with_len _ 0 c.args.config.now.shape.depth in
    omega (arith, moduli, same_depth, c.requires.deep)) in
    ap (λ ss. record {
      depth = length new_columns;
      faulty = c.take_liars.new.ids.items;
      states =
          ss;
    })
    (whole ∙ ap (λ d. map (cut d) states) same_depth)
    ∙ (ap (λ d. record {
      depth = d;
      faulty = c.take_liars.new.ids.items;
      states =
          map (cut c.args.self.now.depth) states;
    }) same_depth
    ∙ ap (λ xs. record {
      depth = c.args.self.now.depth;
      faulty = xs;
      states =
          map (cut c.args.self.now.depth) states;
    }) c.take_liars.ensures.ids)

pub take_liars-requires-clause-marks : goal.take_liars-requires-clause-marks
take_liars-requires-clause-marks c =
    let inside = c.self.inside in
    let ids : List ℕ = inside.liars.items in
    let marks = ap length c.self.invariant.marked
    ∙ length-map-range_with_len (is_in ids) 0 inside.nodes in
    c.self.invariant.marked ∙ ap (λ n. map (is_in ids) (range_with_len 0 n)) (sym marks)

pub take_liars-requires-clause-before : goal.take_liars-requires-clause-before
take_liars-requires-clause-before c =
    let inside = c.self.inside in
    let ids : List ℕ = inside.liars.items in
    let marks = ap length c.self.invariant.marked
    ∙ length-map-range_with_len (is_in ids) 0 inside.nodes in
    c.self.invariant.counted
    ∙ ap (λ n. map (place_among ids) (range_with_len 0 (n + 1))) (sym marks)
