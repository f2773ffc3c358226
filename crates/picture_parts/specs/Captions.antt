-- Lines of the caption, below the bands, in SVG.
use Rattle.std.specs.Prelude.{ℕ, ◌+◌, ◌-◌, List, [], ◌∷◌, codes, decimal}
use Rattle.std.specs.List.{concat}
use Rattle.picture_parts.specs.declared.frames.Frame.{Frame}
use Rattle.picture_parts.specs.Frames.{bottom}

-- the configuration of the last column
abbrev pub last_of : Frame → ℕ
last_of frame = frame.first + frame.columns - 1

-- two configurations in a line of the caption
abbrev pub span_at : (y first last : ℕ) → List ℕ
span_at y first last = concat (
    codes "<text text-anchor='start' x='4' y='" ∷ decimal y
    ∷ codes "'>configurations " ∷ decimal first
    ∷ codes " to " ∷ decimal last
    ∷ codes "</text>\n" ∷ [])

-- which configurations a picture shows
abbrev pub span_caption : Frame → List ℕ
span_caption frame = span_at (bottom frame + 12) frame.first (last_of frame)

-- a word and a number in a line of the caption
abbrev pub number_caption : (y : ℕ) (word : List ℕ) (n : ℕ) → List ℕ
number_caption y word n = concat (
    codes "<text text-anchor='start' x='4' y='" ∷ decimal y
    ∷ codes "'>" ∷ word ∷ codes " " ∷ decimal n
    ∷ codes "</text>\n" ∷ [])

-- what the colours of outputs mean, from that height on
abbrev pub colour_legend : (y : ℕ) → List ℕ
colour_legend y = concat (
    codes "<g text-anchor='start' transform='translate(4," ∷ decimal y
    ∷ codes ")'>\n<rect width='18' height='18' fill='rgb(215,128,221)'/>"
    ∷ codes "<text x='24' y='13'>colour: output less configuration</text>\n</g>\n" ∷ [])
