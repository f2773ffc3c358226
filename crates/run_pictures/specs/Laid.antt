-- Where the words of a chart's rows belong, and the lines after the rows.
use Rattle.std.specs.Prelude.{◌≡◌, ◌+◌, ◌*◌, ◌<◌, ◌≤◌, List, [], ◌∷◌, length, map, All, None}
use Rattle.std.specs.List.{range_with_len}
use Rattle.run_pictures.specs.declared.charts.End.{End}
use Rattle.run_pictures.specs.declared.charts.Chart.{Chart}
use Rattle.picture_parts.specs.Moduli.{IsModulusOf}

-- where the era of the next line begins is known to each line
abbrev pub AreNext : List End → Type 0
AreNext [] = Unit {0}
AreNext (end ∷ []) = end.next ≡ None
AreNext (end ∷ next ∷ ends) = (end.next ≡ next.era) × AreNext (next ∷ ends)

-- The words come row by row, and in a row node by node; lines after the rows know their places.
-- Colours go by what the outputs count by. There is a row, and a word in it.
pub record IsLaid (chart : Chart) : Type 0 where
  pub some : (1 ≤ chart.rows) × (1 ≤ chart.nodes)
  pub whole : length chart.cells.items ≡ chart.rows * chart.nodes
  pub nodes : All (λ cell. cell.node < chart.nodes) chart.cells.items
  pub words : map (λ cell. cell.row * chart.nodes + cell.node) chart.cells.items
      ≡ range_with_len 0 (length chart.cells.items)
  pub places : map (λ end. end.place) chart.ends.items
      ≡ range_with_len 0 (length chart.ends.items)
  pub next : AreNext chart.ends.items
  pub modulus : IsModulusOf (λ cell. cell.shown) chart.cells.items chart.modulus
