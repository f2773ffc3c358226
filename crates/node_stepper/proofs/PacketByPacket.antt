-- The cells of a packet, one after another.
use Rattle.std.proofs.Common.{◌⊎◌, ◌≡◌, ◌≢◌, ℕ, zero, suc, ◌+◌, ◌-◌, ◌<◌, ◌≤◌, inl, inr, Bool, true}
use Rattle.std.proofs.Common.{false, List, [], ◌∷◌, ◌++◌, length, set, slice_index_or, Option, Some}
use Rattle.std.proofs.Common.{None, Result, Ok, Err, refl, sym, ap, ◌∙◌, append_assoc, append-nil}
use Rattle.std.proofs.Common.{length-append, subst, arith}
use Rattle.std.specs.Io.KnownBytes.{Consumes}
use Rattle.std.proofs.KnownBytes.{Consumes-nil, Consumes-trans}
use Rattle.std.proofs.lemmas.Bool.{cases_eq, eq-eqb, ne_eqb}
use Rattle.std.proofs.lemmas.List.{length_push, length-set, get_or-set_same, get_or-set_other}
use Rattle.std.proofs.lemmas.List.{get_or_append_left, get_or-append-add}
use Rattle.std.proofs.lemmas.List.FromFn.{fill_by_all}
use Rattle.sync_types.specs.States.{zero_state}
use Rattle.construction.specs.Steps.{state_of}
use Rattle.state_codec.specs.Reading.{read}
use Rattle.node_stepper.specs.declared.faults.Amount.{Amount}
use Rattle.node_stepper.specs.declared.faults.Amount.TheVariants as amounts
use Rattle.node_stepper.specs.Packets.{cell_at, onto_cell, cells_of}
use Rattle.machines.specs.Machines.{Machine}
use Rattle.node_stepper.specs.Nodes.{Standing, own, heard_of, heard_in, state_after}
use Rattle.node_stepper.specs.Nodes.{hearing, stepped, AllHeard}
use Rattle.node_stepper.specs.Hearing.{IsSame, HeardCells, WholeCell, CellFed, CellsFed, PacketFed}
use Rattle.node_stepper.specs.Hearing.{PacketCut, PacketHeard, onto_cells}

onto_none : (r : Result (List (List ℕ) × List ℕ) ℕ) → onto_cells [] r ≡ r
onto_none (Ok x) = refl
onto_none (Err u) = refl

onto_one_more : (cells : List (List ℕ)) (cell : List ℕ) (r : Result (List (List ℕ) × List ℕ) ℕ)
    → onto_cells cells (onto_cell cell r) ≡ onto_cells (cells ++ cell ∷ []) r
onto_one_more cells cell (Ok x) =
    ap (λ (l : List (List ℕ)). let r : Result (List (List ℕ) × List ℕ) ℕ = Ok (l, x.1) in r)
    (sym (append_assoc cells (cell ∷ []) (x.0)))
onto_one_more cells cell (Err u) = refl

pub cells_next : (left count : ℕ) (rest cell behind : List ℕ) → cell_at rest ≡ Some (cell, behind)
    → cells_of (suc left) count rest ≡ onto_cell cell (cells_of left (count + 1) behind)
cells_next left count rest cell behind e = rw (cells_of, e) refl

cells_cut : (left count : ℕ) (rest : List ℕ) → cell_at rest ≡ None
    → cells_of (suc left) count rest ≡ Err count
cells_cut left count rest e = rw (cells_of, e) refl

-- a whole cell has some bytes
whole_some : (bytes cell : List ℕ)
    → ((rest : List ℕ) → cell_at (bytes ++ rest) ≡ Some (cell, rest)) → 0 < length bytes
whole_some [] cell is =
    let e : cell_at [] ≡ Some (cell, []) = is [] in
    absurd (cc)
whole_some (b ∷ bytes) cell is = omega arith

-- ---- one cell is heard

-- the cell at a place among one more
cell_before : (cells : List (List ℕ)) (cell : List ℕ) (u : ℕ) → u < length cells
    → slice_index_or (cells ++ cell ∷ []) u [] ≡ slice_index_or cells u []
cell_before cells cell u lt = get_or_append_left cells (cell ∷ []) [] u lt

cell_last : (cells : List (List ℕ)) (cell : List ℕ)
    → slice_index_or (cells ++ cell ∷ []) (length cells) [] ≡ cell
cell_last cells cell =
    let at : length cells ≡ length cells + 0 = omega arith in
    ap (λ (n : ℕ). slice_index_or (cells ++ cell ∷ []) n []) at
    ∙ get_or-append-add cells (cell ∷ []) 0 []

last_or_before : (n u : ℕ) → u < n + 1 → (u ≡ n) ⊎ (u < n)
last_or_before n u lt = elim (cases_eq u n) [
  | inl at ↦ inl at
  | inr other ↦ inr (omega (arith, lt, other))
]

-- the same inside the first cell
pub first_end : (nodes high : ℕ) (s t u : Option (List ℕ)) (bytes : List ℕ) → 0 < nodes
    → Consumes s t (high ∷ []) → Consumes t u bytes → cell_at (high ∷ bytes) ≡ None
    → PacketCut nodes 0 s u
first_end nodes high s t u bytes lt first read none =
    let left : nodes ≡ suc (nodes - 1) = omega (arith, lt) in
    record {
      bytes = high ∷ bytes;
      read = Consumes-trans s t u (high ∷ []) bytes first read;
      some = omega arith;
      cut = ap (λ n. cells_of n 0 (high ∷ bytes)) left
          ∙ cells_cut (nodes - 1) 0 (high ∷ bytes) none;
    }

pub unchanged : {M : Type 0} (before after : Standing M) → after ≡ before → IsSame before after
unchanged before after is =
    subst (IsSame before) (sym is) (record { counter = refl; id = refl; own = refl })

pub same_as : {M : Type 0} (before mid after : Standing M) → IsSame before mid → after ≡ mid
    → IsSame before after
same_as before mid after same is = subst (IsSame before) (sym is) same

-- which machine each counter is
module _ {M : Type 0} (machine : M → Machine) where
  module _ (before mid : Standing M) (cells : List (List ℕ)) (cell : List ℕ)
      (h : HeardCells machine before mid cells) (lt : length cells < (machine before.counter).nodes)
    where
      -- its own cell is dropped
      own_at : (P : ℕ → Type 0) → length cells ≡ mid.id
          → ((u : ℕ) → u < length cells → u ≢ before.id → P u)
          → (u : ℕ) → u < length (cells ++ cell ∷ []) → u ≢ before.id → P u
      own_at P at holds u within other =
          elim (last_or_before (length cells) u (omega (arith, within, length_push cells cell))) [
            | inl last ↦ absurd (other (last ∙ at ∙ h.same.id))
            | inr inside ↦ holds u inside other
          ]

      heard_own : length cells ≡ mid.id → HeardCells machine before mid (cells ++ cell ∷ [])
      heard_own at = record {
        same = h.same;
        states = h.states;
        marks = h.marks;
        heard = own_at (λ u. state_of mid.states u ≡ read ((machine before.counter).fields u)
            (slice_index_or (cells ++ cell ∷ []) u [])) at
            (λ u inside other. h.heard u inside other
            ∙ ap (read ((machine before.counter).fields u))
            (sym (cell_before cells cell u inside)));
        since = own_at (λ u. slice_index_or mid.since u false ≡ true) at h.since;
      }

      -- another node's is heard
      abbrev with_cell : Standing M
      with_cell = record mid {
        states = set mid.states (length cells)
            (read ((machine mid.counter).fields (length cells)) cell);
        since = set mid.since (length cells) true;
      }

      heard_other : (length cells ≡ mid.id → ⊥)
          → HeardCells machine before with_cell (cells ++ cell ∷ [])
      heard_other apart =
          let place : length cells < length mid.states = omega (arith, lt, h.states) in
          let mark : length cells < length mid.since = omega (arith, lt, h.marks) in
          record {
            same = record {
              counter = h.same.counter;
              id = h.same.id;
              own = get_or-set_other mid.states (length cells) mid.id
                  (read ((machine mid.counter).fields (length cells)) cell) (zero_state 0)
                  (λ e. apart (sym e))
                  ∙ h.same.own;
            };
            states = length-set mid.states (length cells)
                (read ((machine mid.counter).fields (length cells)) cell) ∙ h.states;
            marks = length-set mid.since (length cells) true ∙ h.marks;
            heard = λ u within other. elim
                (last_or_before (length cells) u (omega (arith, within, length_push cells cell))) [
                  | inl last ↦
                      subst (λ w. state_of with_cell.states w
                      ≡ read ((machine before.counter).fields w)
                      (slice_index_or (cells ++ cell ∷ []) w [])) (sym last)
                      (get_or-set_same mid.states (length cells)
                      (read ((machine mid.counter).fields (length cells)) cell) (zero_state 0) place
                      ∙ ap (λ p. read ((machine p).fields (length cells)) cell) h.same.counter
                      ∙ ap (read ((machine before.counter).fields (length cells)))
                      (sym (cell_last cells cell)))
                  | inr inside ↦
                      get_or-set_other mid.states (length cells) u
                      (read ((machine mid.counter).fields (length cells)) cell) (zero_state 0)
                      (λ e. absurd (omega (arith, e, inside)))
                      ∙ h.heard u inside other
                      ∙ ap (read ((machine before.counter).fields u))
                      (sym (cell_before cells cell u inside))
                ];
            since = λ u within other. elim
                (last_or_before (length cells) u (omega (arith, within, length_push cells cell))) [
                  | inl last ↦ subst (λ w. slice_index_or with_cell.since w false ≡ true) (sym last)
                      (get_or-set_same mid.since (length cells) true false mark)
                  | inr inside ↦
                      get_or-set_other mid.since (length cells) u true false
                      (λ e. absurd (omega (arith, e, inside)))
                      ∙ h.since u inside other
                ];
          }

      pub heard_more : (after : Standing M) → after ≡ hearing machine mid (length cells) cell
          → HeardCells machine before after (cells ++ cell ∷ [])
      heard_more after is = elim (cases_eq (length cells) mid.id) [
        | inl at ↦ subst (λ e. HeardCells machine before e (cells ++ cell ∷ []))
            (sym (is ∙ rw (eq-eqb (length cells) mid.id at) refl)) (heard_own at)
        | inr apart ↦ subst (λ e. HeardCells machine before e (cells ++ cell ∷ []))
            (sym (is ∙ rw (ne_eqb (length cells) mid.id apart) refl)) (heard_other apart)
      ]

  -- hearing leaves the counter
  counter_so : (mid : Standing M) (sender : ℕ) (cell : List ℕ)
      → (hearing machine mid sender cell).counter ≡ mid.counter
  counter_so mid sender cell = elim (cases_eq sender mid.id) [
    | inl at ↦ rw (eq-eqb sender mid.id at) refl
    | inr apart ↦ rw (ne_eqb sender mid.id apart) refl
  ]

  pub same_counter : (mid after : Standing M) (sender : ℕ) (cell : List ℕ)
      → after ≡ hearing machine mid sender cell → after.counter ≡ mid.counter
  same_counter mid after sender cell is =
      subst (λ (e : Standing M). e.counter ≡ mid.counter) (sym is) (counter_so mid sender cell)

  pub fed_counter : (mid after : Standing M) (sender : ℕ) (s t : Option (List ℕ))
      → WholeCell machine [] sender mid after s t → after.counter ≡ mid.counter
  fed_counter mid after sender s t (bytes, cell, read, is, heard) =
      same_counter mid after sender cell heard

  -- nothing is heard yet
  pub heard_none : (before : Standing M) → length before.states ≡ (machine before.counter).nodes
      → length before.since ≡ (machine before.counter).nodes → HeardCells machine before before []
  heard_none before states marks = record {
    same = record { counter = refl; id = refl; own = refl };
    states = states;
    marks = marks;
    heard = λ u within. absurd (omega arith);
    since = λ u within. absurd (omega arith);
  }

  -- ---- the cells of a packet

  -- one more cell
  pub cells_more : (before mid after : Standing M) (s t u : Option (List ℕ))
      (count : ℕ)
      → count < (machine before.counter).nodes → CellsFed machine before mid s t count
      → WholeCell machine [] count mid after t u
      → CellsFed machine before after s u (count + 1)
  cells_more before mid after s t u count lt h (bytes, cell, read, is, heard) =
      let nodes = (machine before.counter).nodes in
      let left : nodes - count ≡ suc (nodes - (count + 1)) = omega (arith, lt) in
      record {
        bytes = h.bytes ++ bytes;
        cells = h.cells ++ cell ∷ [];
        read = Consumes-trans s t u h.bytes bytes h.read read;
        some = λ _. omega (arith, length-append h.bytes bytes, whole_some bytes cell is);
        none = λ e. absurd (omega (arith, e));
        short = omega (arith, lt);
        long = omega (arith, length_push h.cells cell, h.long);
        cells_are = λ rest.
            ap (cells_of nodes 0) (append_assoc h.bytes bytes rest) ∙ h.cells_are (bytes ++ rest)
            ∙ ap (onto_cells h.cells) (ap (λ n. cells_of n count (bytes ++ rest)) left
            ∙ cells_next (nodes - (count + 1)) count (bytes ++ rest) cell rest (is rest))
            ∙ onto_one_more h.cells cell (cells_of (nodes - (count + 1)) (count + 1) rest);
        heard = heard_more before mid h.cells cell h.heard (omega (arith, h.long, lt)) after
            (heard ∙ ap (λ n. hearing machine mid n cell) (sym h.long));
      }

  -- none yet
  pub cells_none : (before : Standing M) (s : Option (List ℕ))
      → length before.states ≡ (machine before.counter).nodes
      → length before.since ≡ (machine before.counter).nodes → CellsFed machine before before s s 0
  cells_none before s states marks = record {
    bytes = [];
    cells = [];
    read = Consumes-nil s;
    some = λ lt. absurd (omega (arith, lt));
    none = λ _. (refl, refl);
    short = omega arith;
    long = refl;
    cells_are = λ rest.
        let all : (machine before.counter).nodes - 0 ≡ (machine before.counter).nodes =
        omega arith in
        rw all (sym (onto_none (cells_of ((machine before.counter).nodes) 0 rest)));
    heard = heard_none before states marks;
  }

  -- all cells
  cells_all : (before now : Standing M) (s t : Option (List ℕ))
      → 0 < (machine before.counter).nodes
      → CellsFed machine before now s t ((machine before.counter).nodes)
      → PacketFed machine before now s t
  cells_all before now s t node h =
      let nodes = (machine before.counter).nodes in
      let none_left : nodes - nodes ≡ 0 = omega arith in
      record {
        bytes = h.bytes;
        packet = h.cells;
        read = h.read;
        whole = λ rest.
            h.cells_are rest ∙ ap (onto_cells h.cells) (ap (λ n. cells_of n nodes rest) none_left)
            ∙ ap (λ l. let r : Result (List (List ℕ) × List ℕ) ℕ = Ok (l, rest) in r)
            (append-nil h.cells);
        some = h.some node;
        size = h.long;
        heard = h.heard;
      }

  pub cells_whole : (before now : Standing M) (s t : Option (List ℕ)) (count : ℕ)
      → 0 < (machine before.counter).nodes → count ≡ (machine before.counter).nodes
      → CellsFed machine before now s t count → PacketFed machine before now s t
  cells_whole before now s t count node full h = cells_all before now s t node (rw (← full) h)

  -- the input ended, or a call failed, inside a cell
  pub cells_end : (before now : Standing M) (s t u : Option (List ℕ)) (count : ℕ) (bytes : List ℕ)
      → 0 < count → count < (machine before.counter).nodes → CellsFed machine before now s t count
      → Consumes t u bytes
      → cell_at bytes ≡ None → PacketCut ((machine before.counter).nodes) count s u
  cells_end before now s t u count bytes first lt h read none =
      let nodes = (machine before.counter).nodes in
      let left : nodes - count ≡ suc (nodes - (count + 1)) = omega (arith, lt) in
      record {
        bytes = h.bytes ++ bytes;
        read = Consumes-trans s t u h.bytes bytes h.read read;
        some = omega (arith, length-append h.bytes bytes, h.some first);
        cut = h.cells_are bytes ∙ ap (onto_cells h.cells) (ap (λ n. cells_of n count bytes) left
            ∙ cells_cut (nodes - (count + 1)) count bytes none);
      }

  -- nothing more was read
  pub cells_stop : (before now : Standing M) (s t : Option (List ℕ)) (count : ℕ)
      → count < (machine before.counter).nodes → CellsFed machine before now s t count
      → (Consumes s t [] ⊎ ((sender : ℕ)
      × PacketCut ((machine before.counter).nodes) sender s t)) × IsSame before now
  cells_stop before now s t zero lt h =
      (inl (rw (h.none refl).1 (Consumes-nil s)), h.heard.same)
  cells_stop before now s t (suc count) lt h = (
    inr (
      suc count,
      cells_end before now s t t (suc count) [] (omega arith) lt h (Consumes-nil t)
          refl,
    ),
    h.heard.same,
  )

  -- what was heard of a packet does not hang on how a call fails
  pub heard_so : (E F : Type 0) (before after : Standing M) (s t : Option (List ℕ))
      (amount : Amount)
      → PacketHeard machine before after s t (let r : Result Amount E = Ok amount in r)
      → PacketHeard machine before after s t (let r : Result Amount F = Ok amount in r)
  heard_so E F before after s t amounts.Whole h = h
  heard_so E F before after s t (amounts.Cut sender) h = h
  heard_so E F before after s t amounts.Nothing h = h

  -- ---- a packet that was heard

  module _ (before mid : Standing M) (packet : List (List ℕ))
      (h : HeardCells machine before mid packet)
      (size : length packet ≡ (machine before.counter).nodes)
      (node : before.id < (machine before.counter).nodes) where
    pub all_heard : AllHeard machine mid
    all_heard u within other =
        let same = h.same in
        h.since u (rw size (subst (λ c. u < (machine c).nodes) same.counter within)) (λ e. other (e
        ∙ sym same.id))

    -- the states are what the packet says
    states_are : mid.states ≡ heard_in (machine before.counter) before.id (own before) packet
    states_are =
        fill_by_all (heard_of (machine before.counter) before.id (own before) packet) mid.states
        ((machine before.counter).nodes) (zero_state 0) h.states
        (λ u within. elim (cases_eq u before.id) [
          | inl at ↦ rw (eq-eqb u before.id at) (ap (state_of mid.states) (at ∙ sym h.same.id)
              ∙ h.same.own)
          | inr other ↦ rw (ne_eqb u before.id other) (h.heard u (rw size within) other)
        ])

    -- its new state
    pub own_stepped : own (stepped machine mid)
        ≡ state_after (machine before.counter) before.id (own before) packet
    own_stepped =
        let same = h.same in
        get_or-set_same mid.states mid.id ((machine mid.counter).step mid.id mid.states)
        (zero_state 0)
        (rw (same.id, h.states) node)
        ∙ rw (same.counter, same.id) (ap ((machine before.counter).step before.id) states_are)
