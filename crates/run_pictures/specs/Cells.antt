-- The cells of a chart, in SVG.
use Rattle.std.specs.Prelude.{ℕ, ◌==◌, List, [], ◌++◌, if◌then◌else◌}
use Rattle.run_pictures.specs.declared.charts.Cell.{Cell}
use Rattle.picture_parts.specs.declared.frames.Frame.{Frame}
use Rattle.picture_parts.specs.declared.frames.CellPosition.{CellPosition}
use Rattle.picture_parts.specs.Faces.{face_of}
use Rattle.picture_parts.specs.Frames.{line_top}
use Rattle.picture_parts.specs.Squares.{column_head, node_label, shown_at}

-- what stands above a column, drawn with the first cell
abbrev pub cell_head : Frame → Cell → List ℕ
cell_head frame cell = if cell.node == 0 then column_head frame cell.row else []

-- where a cell is drawn
abbrev pub cell_spot : Frame → Cell → CellPosition
cell_spot frame cell = record {
  frame = frame;
  column = cell.row;
  top = line_top cell.node;
}

-- a cell in its spot
abbrev pub cell_at : CellPosition → Cell → List ℕ
cell_at spot cell =
    cell_head spot.frame cell
    ++ (node_label spot cell.node ++ shown_at spot cell.node (face_of cell.shown) cell.is_hit)

abbrev pub cell_picture : Frame → Cell → List ℕ
cell_picture frame cell = cell_at (cell_spot frame cell) cell
