-- Bytes, and what fits into a cell.
use Rattle.std.specs.Prelude.{ℕ, ◌<◌, List, length, All}
use Rattle.state_codec.specs.Shapes.{bytes_in}
use Rattle.machines.specs.Machines.{Machine}

-- each number is a byte
abbrev pub AreBytes : List ℕ → Type 0
AreBytes bytes = All (λ byte. byte < 256) bytes

-- bytes whose number a cell can say
pub record FitsCell (cell : List ℕ) : Type 0 where
  pub bytes : AreBytes cell
  pub short : length cell < 65536

-- the states of each node have so few bytes
abbrev pub StatesFit : Machine → Type 0
StatesFit m = (v : ℕ) → v < m.nodes → bytes_in (m.fields v) < 65536

-- what is sent as the cells of nodes, to each node in each packet, fits into cells
abbrev pub AllFit : Machine → (sent : ℕ → ℕ → ℕ → List ℕ) → Type 0
AllFit m sent = (t v u : ℕ) → u < m.nodes → FitsCell (sent t v u)
