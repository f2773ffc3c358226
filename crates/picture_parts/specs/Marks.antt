-- A line down a column, in SVG.
use Rattle.std.specs.Prelude.{ℕ, ◌+◌, List, [], ◌∷◌, codes, decimal}
use Rattle.std.specs.List.{concat}
use Rattle.picture_parts.specs.declared.frames.Frame.{Frame}
use Rattle.picture_parts.specs.Frames.{band_top, column_left}

-- a line down, with a word before its end
abbrev pub mark : (x top end : ℕ) (colour word : List ℕ) → List ℕ
mark x top end colour word = concat (
    codes "<path d='M" ∷ decimal x
    ∷ codes " " ∷ decimal top
    ∷ codes "V" ∷ decimal end
    ∷ codes "' stroke='" ∷ colour
    ∷ codes "'/>\n<text x='" ∷ decimal x
    ∷ codes "' y='" ∷ decimal end
    ∷ codes "' dx='-3' text-anchor='end' fill='" ∷ colour
    ∷ codes "'>" ∷ word
    ∷ codes "</text>\n" ∷ [])

-- a line down a column of cells, and as far below them
abbrev pub mark_at : Frame → (column cells below : ℕ) (colour word : List ℕ) → List ℕ
mark_at frame column cells below colour word =
    mark (column_left frame.digits column) (band_top frame.height column + 30)
    (band_top frame.height column + cells + below) colour word
