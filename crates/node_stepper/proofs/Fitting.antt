-- What connected nodes are given fits into cells, if what is sent does.
use Rattle.std.proofs.Common.{◌≡◌, ℕ, ◌+◌, ◌-◌, ◌<◌, Bool, true, false, inl, inr, List, refl, sym}
use Rattle.std.proofs.Common.{subst, arith}
use Rattle.std.proofs.lemmas.Bool.{cases_lt}
use Rattle.sync_types.specs.States.{State}
use Rattle.construction.specs.Runs.{is_in}
use Rattle.machines.specs.Machines.{Machine}
use Rattle.node_stepper.specs.Bytes.{FitsCell, StatesFit, AllFit}
use Rattle.node_stepper.specs.NodeRuns.{cell_given, state_in}
use Rattle.node_stepper.specs.RunLaws.{Connects}
use Rattle.node_stepper.specs.Lossy.{ConnectsMost}
use Rattle.node_stepper.proofs.Bytes.{written_fits}

module _ (m : Machine) (short : StatesFit m) (faulty : List ℕ) (starts : ℕ → State)
    (sent : ℕ → ℕ → ℕ → List ℕ) (begins : ℕ → ℕ) (rounds : ℕ) (fits : AllFit m sent) where
  module _ (c : Connects m faulty starts sent begins rounds) where
    in_round : (i v u : ℕ) → i < rounds → u < m.nodes → (b : Bool) → is_in faulty u ≡ b
        → FitsCell (cell_given c.nodes (begins v + i) v u)
    in_round i v u lt ult true is =
        subst FitsCell (sym (c.given (begins v + i) v u (omega (arith, lt)) ult (inr is)))
        (fits (begins v + i) v u ult)
    in_round i v u lt ult false is =
        subst FitsCell (sym (c.wrote i v u lt (ult, is)))
        (written_fits (m.fields u) (state_in m c.nodes begins i u) (short u ult))

    pub cells_fit : (t v u : ℕ) → t < begins v + rounds → u < m.nodes
        → FitsCell (cell_given c.nodes t v u)
    cells_fit t v u lt ult = elim (cases_lt t (begins v)) [
      | inl before ↦
          subst FitsCell (sym (c.given t v u lt ult (inl before))) (fits t v u ult)
      | inr later ↦
          let at : begins v + (t - begins v) ≡ t = omega (arith, later) in
          subst (λ n. FitsCell (cell_given c.nodes n v u)) at
          (in_round (t - begins v) v u (omega (arith, lt, later)) ult (is_in faulty u) refl)
    ]

  -- so what nodes are given to which cells are lost
  module _ (missed : (i v : ℕ) → List ℕ)
      (c : ConnectsMost m faulty starts sent missed begins rounds) where
    in_lossy_round : (i v u : ℕ) → i < rounds → u < m.nodes → (b : Bool)
        → is_in (missed i v) u ≡ b → FitsCell (cell_given c.nodes (begins v + i) v u)
    in_lossy_round i v u lt ult true is =
        subst FitsCell (sym (c.lost i v u lt ult is)) (fits (begins v + i) v u ult)
    in_lossy_round i v u lt ult false is =
        subst FitsCell (sym (c.wrote i v u lt ult is))
        (written_fits (m.fields u) (state_in m c.nodes begins i u) (short u ult))

    pub lossy_cells_fit : (t v u : ℕ) → t < begins v + rounds → u < m.nodes
        → FitsCell (cell_given c.nodes t v u)
    lossy_cells_fit t v u lt ult = elim (cases_lt t (begins v)) [
      | inl before ↦ subst FitsCell (sym (c.early t v u before ult)) (fits t v u ult)
      | inr later ↦
          let at : begins v + (t - begins v) ≡ t = omega (arith, later) in
          subst (λ n. FitsCell (cell_given c.nodes n v u)) at
          (in_lossy_round (t - begins v) v u (omega (arith, lt, later)) ult
          (is_in (missed (t - begins v) v) u) refl)
    ]
