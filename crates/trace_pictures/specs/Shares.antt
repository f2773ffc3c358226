-- What a node of a group saw of the left half, and which half it follows, in SVG.
use Rattle.std.specs.Prelude.{ℕ, ◌+◌, ◌-◌, List, [], ◌∷◌, Bool, true, false, Option, Some, None}
use Rattle.std.specs.Prelude.{codes, decimal}
use Rattle.std.specs.List.{concat}
use Rattle.picture_parts.specs.declared.frames.CellPosition.{CellPosition}
use Rattle.picture_parts.specs.Frames.{left, middle, spot_top, width}
use Rattle.trace_pictures.specs.declared.traces.Half.{Half}
use Rattle.trace_pictures.specs.declared.traces.Half.TheVariants as half
use Rattle.trace_pictures.specs.declared.traces.LeftSeen.{LeftSeen}
use Rattle.trace_pictures.specs.declared.traces.Basis.{Basis}
use Rattle.trace_pictures.specs.declared.traces.Basis.TheVariants.{Votes, Follows}
use Rattle.trace_pictures.specs.declared.traces.Heard.{Heard}

-- the left half's share is blue, the right half's orange; it is darker if the left half is trusted
abbrev pub tint : Half → (is_trusted : Bool) → List ℕ
tint half.Left true = codes "#4292c6"
tint half.Left false = codes "#c6dbef"
tint half.Right true = codes "#f16913"
tint half.Right false = codes "#fdd0a2"

-- a bar below a cell
abbrev pub share_bar : CellPosition → LeftSeen → List ℕ
share_bar spot own = concat (
    codes "<rect x='" ∷ decimal (left spot)
    ∷ codes "' y='" ∷ decimal (spot_top spot + 18)
    ∷ codes "' width='" ∷ decimal (width spot)
    ∷ codes "' height='8' stroke='white' fill='" ∷ tint own.share own.is_trusted
    ∷ codes "'/>\n" ∷ [])

-- the rest of an arrow, filled if what the node saw is backed
abbrev pub arrow_edge : (is_backed : Bool) → List ℕ
arrow_edge true = codes "z' stroke='black'/>\n"
arrow_edge false = codes "z' fill='white' stroke='black'/>\n"

-- an arrow in that bar, to the half that the node follows
abbrev pub arrow : CellPosition → Half → (edge : List ℕ) → List ℕ
arrow spot half.Left edge = concat (
    codes "<path d='M" ∷ decimal (middle spot + 3)
    ∷ codes " " ∷ decimal (spot_top spot + 20)
    ∷ codes "v4l-6 -2" ∷ edge ∷ [])
arrow spot half.Right edge = concat (
    codes "<path d='M" ∷ decimal (middle spot - 3)
    ∷ codes " " ∷ decimal (spot_top spot + 20)
    ∷ codes "v4l6 -2" ∷ edge ∷ [])

abbrev pub arrow_by : CellPosition → Basis → List ℕ
arrow_by spot (Votes beat) = []
arrow_by spot (Follows following) = arrow spot following.half (arrow_edge following.is_backed)

abbrev pub arrow_if : CellPosition → Option Heard → List ℕ
arrow_if spot None = []
arrow_if spot (Some heard) = arrow_by spot heard.basis
