-- The text of a chart: what `run` writes of it.
use Rattle.std.specs.Prelude.{ℕ, ◌+◌, ◌==◌, List, [], ◌∷◌, ◌++◌, Option, Some, None, if◌then◌else◌}
use Rattle.std.specs.Prelude.{codes, decimal}
use Rattle.std.specs.List.{concat, flat_map}
use Rattle.run_pictures.specs.declared.charts.Cell.{Cell}
use Rattle.run_pictures.specs.declared.charts.End.{End}
use Rattle.run_pictures.specs.declared.charts.Chart.{Chart}
use Rattle.picture_parts.specs.declared.frames.Frame.{Frame}
use Rattle.picture_parts.specs.Frames.{band_height}
use Rattle.picture_parts.specs.LineWords.{bound_line, era_words, locked_words}

-- ---- rows

-- an output, or a star
abbrev pub word_text : Option ℕ → List ℕ
word_text (Some output) = concat (codes " " ∷ decimal output ∷ [])
word_text None = codes " *"

-- what stands before the first word of a row
abbrev pub cell_front : (first : ℕ) → Cell → List ℕ
cell_front first cell =
    if cell.node == 0 then concat (codes "row " ∷ decimal (first + cell.row) ∷ []) else []

-- what stands after the last one
abbrev pub cell_end : (nodes : ℕ) → Cell → List ℕ
cell_end nodes cell = if cell.node + 1 == nodes then codes "\n" else []

abbrev pub cell_words : (first nodes : ℕ) → Cell → List ℕ
cell_words first nodes cell = cell_front first cell ++ (word_text cell.shown ++ cell_end nodes cell)

-- ---- lines after the rows

abbrev pub end_words : End → List ℕ
end_words end = era_words end.era ++ locked_words end.locked

abbrev pub end_line : End → List ℕ
end_line end = end_words end ++ codes "\n"

-- ---- all lines

abbrev pub chart_text : Chart → List ℕ
chart_text chart =
    bound_line chart.bound
    ++ (flat_map (cell_words chart.first chart.nodes) chart.cells.items
    ++ flat_map end_line chart.ends.items)

-- what the picture of a chart stands in
abbrev pub frame_of : Chart → Frame
frame_of chart = record {
  first = chart.first;
  columns = chart.rows;
  digits = chart.digits;
  height = band_height chart.nodes;
  modulus = chart.modulus;
}
