-- The beginning of a picture, in SVG, and its ground.
use Rattle.std.specs.Prelude.{ℕ, ◌+◌, ◌*◌, max, List, [], ◌∷◌, codes, decimal}
use Rattle.std.specs.List.{concat}
use Rattle.picture_parts.specs.declared.frames.Frame.{Frame}
use Rattle.picture_parts.specs.Frames.{right}

-- the beginning, with the width and the height of the picture
abbrev pub picture_front : (width height : ℕ) → List ℕ
picture_front width height = concat (
    codes "<svg xmlns='http://www.w3.org/2000/svg' width='" ∷ decimal width
    ∷ codes "' height='" ∷ decimal height
    ∷ codes "' viewBox='0 0 " ∷ decimal width
    ∷ codes " " ∷ decimal height
    ∷ codes "' font-family='monospace' font-size='11' text-anchor='middle'>\n" ∷ [])

-- how faulty nodes are hatched, and the ground
abbrev pub picture_ground : List ℕ
picture_ground = concat (
    codes "<defs><pattern id='faulty' width='6' height='6' patternUnits='userSpaceOnUse'>"
    ∷ codes "<path d='M0 0H6V6H0Z' fill='white'/><path d='M0 6L6 0' stroke='black'/>"
    ∷ codes "</pattern></defs>\n<rect width='100%' height='100%' fill='white'/>\n" ∷ [])

-- how wide a picture is, with a legend and a line of the caption that has two configurations
abbrev pub picture_width : Frame → ℕ
picture_width frame = max (right frame) (max 330 (141 + 14 * frame.digits))
