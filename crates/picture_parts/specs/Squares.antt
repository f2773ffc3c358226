-- What is drawn of what a node shows, and the numbers and words beside it, in SVG.
use Rattle.std.specs.Prelude.{ℕ, ◌+◌, ◌-◌, ◌%◌, ◌==◌, List, [], ◌∷◌, ◌++◌, Bool, true, false}
use Rattle.std.specs.Prelude.{if◌then◌else◌, codes, decimal}
use Rattle.std.specs.List.{concat}
use Rattle.picture_parts.specs.declared.faces.Face.{Face}
use Rattle.picture_parts.specs.declared.faces.Face.TheVariants as face
use Rattle.picture_parts.specs.declared.frames.Frame.{Frame}
use Rattle.picture_parts.specs.declared.frames.CellPosition.{CellPosition}
use Rattle.picture_parts.specs.Faces.{lead_of, shade}
use Rattle.picture_parts.specs.Frames.{band_top, column_middle, configuration, left, middle}
use Rattle.picture_parts.specs.Frames.{spot_top, width}

-- ---- beside the cells

-- a number, in the middle of x
abbrev pub number_text : (x y n : ℕ) → List ℕ
number_text x y n = concat (
    codes "<text x='" ∷ decimal x
    ∷ codes "' y='" ∷ decimal y
    ∷ codes "'>" ∷ decimal n
    ∷ codes "</text>\n" ∷ [])

-- what is counted to the right and down, at the top of a band
abbrev pub axes : (top : ℕ) → List ℕ
axes top = concat (
    codes "<text x='52' y='" ∷ decimal (top + 11)
    ∷ codes "' text-anchor='start'>configuration</text>\n<text x='26' y='" ∷ decimal (top + 25)
    ∷ codes "'>node</text>\n" ∷ [])

-- the same if a column is the first one of its band
abbrev pub axes_at : Frame → (column : ℕ) → List ℕ
axes_at frame column = if column % 120 == 0 then axes (band_top frame.height column) else []

-- the number of a configuration, above its column
abbrev pub column_number : Frame → (column : ℕ) → List ℕ
column_number frame column =
    number_text (column_middle frame.digits column) (band_top frame.height column + 25)
    (frame.first + column)

abbrev pub column_head : Frame → (column : ℕ) → List ℕ
column_head frame column = axes_at frame column ++ column_number frame column

-- the id of a node, before its line in each band
abbrev pub node_label : CellPosition → (node : ℕ) → List ℕ
node_label spot node =
    if spot.column % 120 == 0 then number_text 26 (spot_top spot + 13) node else []

-- ---- cells

-- What is said of a node when the pointer rests on its cell: the beginning of a group, which the
-- cell is in.
abbrev pub hover_front : CellPosition → (node : ℕ) → List ℕ
hover_front spot node = concat (
    codes "<g><title>node " ∷ decimal node
    ∷ codes ", configuration " ∷ decimal (configuration spot) ∷ [])

-- what it shows, at the end of that
abbrev pub face_word : Face → List ℕ
face_word face.Faulty = codes ": faulty</title>\n"
face_word face.Nothing = codes ": no value</title>\n"
face_word (face.Value output) = concat (codes ": " ∷ decimal output ∷ codes "</title>\n" ∷ [])

abbrev pub hover : CellPosition → (node : ℕ) → Face → List ℕ
hover spot node face = hover_front spot node ++ face_word face

-- the beginning of a rectangle, up to its filling
abbrev pub rectangle_front : CellPosition → List ℕ
rectangle_front spot = concat (
    codes "<rect x='" ∷ decimal (left spot)
    ∷ codes "' y='" ∷ decimal (spot_top spot)
    ∷ codes "' width='" ∷ decimal (width spot)
    ∷ codes "' height='18' stroke='white' fill='" ∷ [])

-- the colour of a lead, and the end of a rectangle
abbrev pub colour : (lead : ℕ) → List ℕ
colour lead = concat (
    codes "rgb(" ∷ decimal (shade 87 5 113 lead)
    ∷ codes "," ∷ decimal (shade 0 50 109 lead)
    ∷ codes "," ∷ decimal (shade 93 32 107 lead)
    ∷ codes ")'/>\n" ∷ [])

-- the rest of a rectangle: nodes that count keep one colour
abbrev pub filling : CellPosition → Face → List ℕ
filling spot face.Faulty = codes "url(#faulty)'/>\n"
filling spot face.Nothing = codes "whitesmoke'/>\n"
filling spot (face.Value output) =
    colour (lead_of spot.frame.modulus (configuration spot) output)

-- a cross, which stands for no value
abbrev pub cross : CellPosition → List ℕ
cross spot = concat (
    codes "<path d='M" ∷ decimal (middle spot - 3)
    ∷ codes " " ∷ decimal (spot_top spot + 6)
    ∷ codes "l6 6m0 -6l-6 6' stroke='dimgray'/>\n" ∷ [])

-- what is written within a rectangle
abbrev pub inscription : CellPosition → Face → List ℕ
inscription spot face.Faulty = []
inscription spot face.Nothing = cross spot
inscription spot (face.Value output) = number_text (middle spot) (spot_top spot + 13) output

-- a rectangle with what a node shows
abbrev pub square : CellPosition → Face → List ℕ
square spot face = rectangle_front spot ++ (filling spot face ++ inscription spot face)

-- a corner, black if the start of an era put a node into another state, and the end of a group
abbrev pub cell_close : CellPosition → Bool → List ℕ
cell_close spot true = concat (
    codes "<path d='M" ∷ decimal (left spot)
    ∷ codes " " ∷ decimal (spot_top spot)
    ∷ codes "h8l-8 8z'/></g>\n" ∷ [])
cell_close spot false = codes "</g>\n"

-- what a node shows, with that corner
abbrev pub shown_at : CellPosition → (node : ℕ) → Face → (hit : Bool) → List ℕ
shown_at spot node face hit =
    hover spot node face ++ (square spot face ++ cell_close spot hit)
