-- The picture of a chart, in SVG.
use Rattle.std.specs.Prelude.{ℕ, ◌+◌, ◌-◌, ◌*◌, ◌&&◌, nat_le, nat_lt, length, List, [], ◌∷◌, ◌++◌}
use Rattle.std.specs.Prelude.{Bool, true, Option, Some, None, if◌then◌else◌, codes, decimal}
use Rattle.std.specs.List.{concat, flat_map}
use Rattle.run_pictures.specs.declared.charts.End.{End}
use Rattle.run_pictures.specs.declared.charts.Chart.{Chart}
use Rattle.picture_parts.specs.declared.frames.Frame.{Frame}
use Rattle.picture_parts.specs.Frames.{bottom, line_top}
use Rattle.picture_parts.specs.Marks.{mark_at}
use Rattle.picture_parts.specs.Fronts.{picture_front, picture_ground, picture_width}
use Rattle.picture_parts.specs.Captions.{colour_legend, number_caption, span_caption}
use Rattle.run_pictures.specs.Charts.{end_words, frame_of}
use Rattle.run_pictures.specs.Cells.{cell_picture}

-- ---- marks

-- whether a configuration has a column
abbrev pub has_column : Frame → (t : ℕ) → Bool
has_column frame t = nat_le frame.first t && nat_lt t (frame.first + frame.columns)

-- a mark at a configuration, if that has a row
abbrev pub mark_row : Chart → (t below : ℕ) (colour word : List ℕ) → List ℕ
mark_row chart t below colour word =
    if has_column (frame_of chart) t
    then mark_at (frame_of chart) (t - chart.first) (line_top chart.nodes) below colour word else []

-- where an era begins; the one era of a script that names none begins at 0
abbrev pub era_begin : Option ℕ → ℕ
era_begin None = 0
era_begin (Some begin) = begin

abbrev pub era_mark : Chart → Option ℕ → List ℕ
era_mark chart None = []
era_mark chart (Some begin) = mark_row chart begin 12 (codes "black") (codes "era")

-- whether a configuration is before the next era, if there is one
abbrev pub is_before : (t : ℕ) → Option ℕ → Bool
is_before t None = true
is_before t (Some next) = nat_lt t next

-- the bound at a configuration, if that is before the next era
abbrev pub bound_at : Chart → (t : ℕ) → (next : Option ℕ) → List ℕ
bound_at chart t next =
    if is_before t next then mark_row chart t 24 (codes "firebrick") (codes "bound") else []

-- the bound, counted from where the era begins, if the era is so long
abbrev pub bound_mark : Chart → End → List ℕ
bound_mark chart end = bound_at chart (era_begin end.era + chart.bound) end.next

abbrev pub locked_mark : Chart → Option ℕ → List ℕ
locked_mark chart None = []
locked_mark chart (Some t) = mark_row chart t 36 (codes "darkgreen") (codes "locked")

-- ---- below the bands

-- the beginning of a line of the caption
abbrev pub caption_front : (y : ℕ) → List ℕ
caption_front y = concat (codes "<text text-anchor='start' x='4' y='" ∷ decimal y ∷ codes "'>" ∷ [])

abbrev pub caption_at : (y : ℕ) → End → List ℕ
caption_at y end = caption_front y ++ (end_words end ++ codes "</text>\n")

-- a line after the rows
abbrev pub caption : Chart → End → List ℕ
caption chart end = caption_at (bottom (frame_of chart) + 60 + 16 * end.place) end

abbrev pub end_picture : Chart → End → List ℕ
end_picture chart end =
    era_mark chart end.era
    ++ (bound_mark chart end ++ (locked_mark chart end.locked ++ caption chart end))

-- ---- the picture

-- the beginning, with the picture's width and height
abbrev pub sized_front : Chart → List ℕ
sized_front chart =
    picture_front (picture_width (frame_of chart))
    (bottom (frame_of chart) + 102 + 16 * length chart.ends.items)

-- what the picture is of: configurations, nodes and the bound
abbrev pub facts_in : Frame → (nodes bound : ℕ) → List ℕ
facts_in frame nodes bound =
    span_caption frame
    ++ (number_caption (bottom frame + 28) (codes "nodes") nodes
    ++ number_caption (bottom frame + 44) (codes "bound") bound)

abbrev pub facts : Chart → List ℕ
facts chart = facts_in (frame_of chart) chart.nodes chart.bound

-- what else the cells mean
abbrev pub cell_legend : (y : ℕ) → List ℕ
cell_legend y = concat (
    codes "<g text-anchor='start' transform='translate(4," ∷ decimal y
    ∷ codes ")'>\n<rect width='18' height='18' fill='url(#faulty)'/>"
    ∷ codes "<text x='24' y='13'>faulty</text>\n"
    ∷ codes "<rect x='110' width='18' height='18' fill='silver'/><path d='M110 0h8l-8 8z'/>"
    ∷ codes "<text x='134' y='13'>hit by an era's start</text>\n</g>\n" ∷ [])

-- both, below so many lines of the caption
abbrev pub legend_in : Frame → (lines : ℕ) → List ℕ
legend_in frame lines =
    colour_legend (bottom frame + 54 + 16 * lines)
    ++ cell_legend (bottom frame + 76 + 16 * lines)

abbrev pub chart_legend : Chart → List ℕ
chart_legend chart = legend_in (frame_of chart) (length chart.ends.items)

abbrev pub picture_text : Chart → List ℕ
picture_text chart =
    sized_front chart
    ++ (picture_ground
    ++ (flat_map (cell_picture (frame_of chart)) chart.cells.items
    ++ (facts chart
    ++ (flat_map (end_picture chart) chart.ends.items
    ++ (chart_legend chart ++ codes "</svg>\n")))))
