-- What columns of outputs and registers are of the states that they make up.
use Rattle.std.proofs.Common.{◌≡◌, ℕ, zero, suc, ◌+◌, ◌<◌, List, [], length, map, get_or, All, Bool}
use Rattle.std.proofs.Common.{false, unwrap_or, refl, sym, ap, ◌∙◌, subst, arith}
use Rattle.std.specs.List.{range_with_len}
use Rattle.std.proofs.lemmas.List.{get_or-map, ext_get_or, length-map}
use Rattle.std.proofs.lemmas.List.FromFn.{length-map-range_with_len, get_or-map-range_with_len}
use Rattle.std.proofs.lemmas.Simd.{map-map}
use Rattle.counting.proofs.Places.{same_places}
use Rattle.sync_types.specs.declared.states.Reg.{Reg}
use Rattle.sync_types.specs.FaultSets.{is_in}
use Rattle.sync_types.specs.States.{State, zero_state, zero_register, register_at}
use Rattle.construction.specs.Shown.{shown}
use Rattle.construction.specs.Steps.{state_of}
use Rattle.shared_board.specs.Senders.{AreSent}
use Rattle.shared_board.specs.Sharing.{place_among}
use Rattle.shared_board.proofs.GroupStretches.{same_range}
use Rattle.shared_board.specs.Boards.{Board, AreLiars, IsBoard, board_of, state_by, sent_of}

-- a list by its places
pub by_places : {X : Type 0} → (d : X) (xs : List X) (n : ℕ) → length xs ≡ n
    → map (λ v. get_or xs v d) (range_with_len 0 n) ≡ xs
by_places d xs n long =
    ext_get_or d (map (λ v. get_or xs v d) (range_with_len 0 n)) xs
    (length-map-range_with_len (λ v. get_or xs v d) 0 n ∙ sym long)
    (λ i lt. get_or-map-range_with_len (λ v. get_or xs v d) 0 n i i d
    (omega (arith, lt, length-map-range_with_len (λ v. get_or xs v d) 0 n)) (omega arith))

module _ (nodes : ℕ) (shows : List (List ℕ)) (columns : List (List Reg)) (ids : List ℕ)
    (b : Board) (is : board_of nodes shows columns ids ≡ b) where
  states_are : b.states ≡ map (state_by shows columns) (range_with_len 0 nodes)
  states_are = ap (λ (b : Board). b.states) (sym is)

  pub board_size : length b.states ≡ nodes
  board_size = ap length states_are ∙ length-map-range_with_len (state_by shows columns) 0 nodes

  pub board_depth : b.depth ≡ length columns
  board_depth = ap (λ (b : Board). b.depth) (sym is)

  pub board_faulty : b.faulty ≡ ids
  board_faulty = ap (λ (b : Board). b.faulty) (sym is)

  pub board_liars : AreLiars nodes ids → AreLiars (length b.states) b.faulty
  board_liars are =
      subst (λ n. AreLiars n b.faulty) (sym board_size)
      (subst (AreLiars nodes) (sym board_faulty) are)

  -- the number of a node is that of its place in the first column
  pub number_at : (u : ℕ) → u < nodes → (state_of b.states u).x ≡ get_or (get_or shows 0 []) u 0
  number_at u lt =
      ap (λ (s : State). s.x) (ap (λ ss. state_of ss u) states_are
      ∙ get_or-map-range_with_len (state_by shows columns) 0 nodes u u (zero_state 0) lt
      (omega arith))

  module _ (marks : List Bool) (before : List ℕ) (room : ℕ)
      (kept : IsBoard nodes shows columns ids marks before room) (h : ℕ)
      (deep : h < length columns) where
    abbrev pub column : List Reg
    column = get_or columns h []

    abbrev pub outs : List ℕ
    outs = get_or shows h []

    column_long : length column ≡ nodes
    column_long = kept.registers h [] deep

    outs_long : length outs ≡ nodes
    outs_long = kept.outputs h [] (omega (arith, kept.many, deep))

    -- the column of a level is that of the states
    registers_at : (l : ℕ) → l < length columns → get_or columns l [] ≡ map (register_at l) b.states
    registers_at l less =
        sym (by_places zero_register (get_or columns l []) nodes (kept.registers l [] less))
        ∙ (same_range (λ v. get_or (get_or columns l []) v zero_register)
        (λ v. register_at l (state_by shows columns v)) nodes 0
        (λ v le lt. sym (get_or-map
        (λ c. get_or c v zero_register) columns l [] zero_register less))
        ∙ (sym (map-map (register_at l) (state_by shows columns) (range_with_len 0 nodes))
        ∙ ap (map (register_at l)) (sym states_are)))

    registers_are : column ≡ map (register_at h) b.states
    registers_are = registers_at h deep

    -- and so is that of the outputs
    outputs_are : outs ≡ map (shown h) b.states
    outputs_are = by h refl
      where
        numbers : get_or shows 0 [] ≡ map (λ s. s.x) b.states
        numbers =
            sym (by_places 0 (get_or shows 0 []) nodes
            (kept.outputs 0 [] (omega (arith, kept.many))))
            ∙ (sym (map-map (λ (s : State). s.x) (state_by shows columns) (range_with_len 0 nodes))
            ∙ ap (map (λ s. s.x)) (sym states_are))

        by : (l : ℕ) → l ≡ h → get_or shows l [] ≡ map (shown l) b.states
        by zero e = numbers
        by (suc l) e =
            let next : l + 1 ≡ suc l = omega arith in
            let less : l < length columns = omega (arith, e, deep) in
            sym (ap (λ k. get_or shows k []) next)
            ∙ (kept.shown l less
            ∙ (ap (map (λ r. unwrap_or r.a 0)) (registers_at l less)
            ∙ map-map (λ (r : Reg). unwrap_or r.a 0) (register_at l) b.states))

    pub are_sent : (os : List ℕ) (rs : List Reg) (ms : List Bool) (bs : List ℕ) → os ≡ outs
        → rs ≡ column → ms ≡ marks → bs ≡ before → AreSent os rs ms bs
    are_sent os rs ms bs o r m w =
        let n : length rs ≡ nodes = ap length r ∙ column_long in
        let marks_long = ap length (m ∙ kept.marked)
        ∙ length-map-range_with_len (is_in ids) 0 nodes in
        let before_long = ap length (w ∙ kept.counted)
        ∙ length-map-range_with_len (place_among ids) 0 (nodes + 1) in
        record {
          shows = ap length o ∙ (outs_long ∙ sym n);
          marks = marks_long ∙ sym n;
          sums = before_long ∙ ap (λ n. n + 1) (sym n);
          counts = λ v le.
              ap (λ xs. get_or xs v 0) (w ∙ kept.counted)
              ∙ (get_or-map-range_with_len (place_among ids) 0 (nodes + 1) v v 0
              (omega (arith, le, n)) (omega arith)
              ∙ same_places (is_in ids) (λ u. get_or ms u false) v (λ u lt.
              sym (ap (λ xs. get_or xs u false) (m ∙ kept.marked)
              ∙ get_or-map-range_with_len (is_in ids) 0 nodes u u false (omega (arith, lt, le, n))
              (omega arith))));
        }

    pub sent_is : (os : List ℕ) (rs : List Reg) (ms : List Bool) → os ≡ outs → rs ≡ column
        → ms ≡ marks → record { height = h; outputs = os; registers = rs; liars = ms } ≡ sent_of b h
    sent_is os rs ms o r m =
        let sized : marks ≡ map (is_in b.faulty) (range_with_len 0 (length b.states)) =
        kept.marked ∙ (ap (λ xs. map (is_in xs) (range_with_len 0 nodes)) (sym board_faulty)
        ∙ ap (λ n. map (is_in b.faulty) (range_with_len 0 n)) (sym board_size)) in
        ap (λ os. record { height = h; outputs = os; registers = rs; liars = ms }) (o ∙ outputs_are)
        ∙ (ap (λ rs. record {
          height = h;
          outputs = map (shown h) b.states;
          registers = rs;
          liars =
              ms;
        }) (r ∙ registers_are)
        ∙ ap (λ ms. record {
          height = h;
          outputs = map (shown h) b.states;
          registers =
              map (register_at h) b.states;
          liars = ms;
        }) (m ∙ sized))

-- what holds of the lists that are held in some way
pub lists_held : {R X : Type 0} → (f : R → List X) (n : ℕ) (xs : List R)
    → All (λ column. length column ≡ n) (map f xs) → All (λ r. length (f r) ≡ n) xs
lists_held f n xs all = λ k d lt.
    ap length (sym (get_or-map f xs k d (f d) lt))
    ∙ all k (f d) (omega (arith, length-map xs f, lt))
