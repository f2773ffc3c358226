-- The picture of a choice, in SVG: nodes to the right, bounds up. A decade is 36 high, and in it a
-- bound stands by its first two digits. There are as many decades as the greatest bound takes.
-- Beside each plan stand its numbers.
use Rattle.std.specs.Prelude.{ℕ, ◌+◌, ◌-◌, ◌*◌, ◌/◌, max, List, [], ◌∷◌, ◌++◌, Bool, true, false}
use Rattle.std.specs.Prelude.{Option, Some, None, if◌then◌else◌, codes, decimal}
use Rattle.std.specs.List.{concat, flat_map, range_with_len}
use Rattle.run_pictures.specs.declared.choices.Choice.{Choice}
use Rattle.run_pictures.specs.declared.choices.Point.{Point}
use Rattle.picture_parts.specs.Fronts.{picture_front, picture_ground}
use Rattle.run_pictures.specs.Choices.{is_halving, point_words}

-- ---- where the plans stand

-- how many decades the bounds of these plans take
abbrev pub decades_of : List Point → ℕ
decades_of [] = 0
decades_of (point ∷ points) = max (point.decade + 1) (decades_of points)

-- where the axis of nodes stands, below so many decades
abbrev pub base_below : (decades : ℕ) → ℕ
base_below decades = 24 + 36 * decades

-- how high a bound stands
abbrev pub height_of : Point → ℕ
height_of point = 36 * point.decade + (point.part - 10) * 2 / 5

-- how far below the top it stands, above the axis of nodes
abbrev pub point_top : (base : ℕ) → Point → ℕ
point_top base point = base - height_of point

-- how far on the right a plan stands
abbrev pub point_left : Point → ℕ
point_left point = 60 + 2 * point.nodes

-- how far below the top its numbers stand, below those of the boosting plan before it
abbrev pub numbers_top : (base last : ℕ) → Point → ℕ
numbers_top base last point = max (point_top base point + 4) (last + 13)

-- how far below the top those of the last boosting plan stand, up to this plan
abbrev pub last_behind : (base last : ℕ) → Point → ℕ
last_behind base last point = if is_halving point then last else numbers_top base last point

-- ---- plans

-- the rest of a plan's mark: a square for halving, else a diamond
abbrev pub mark_word : (halving : Bool) → List ℕ
mark_word true = codes "m-4 -4h8v8h-8z' fill='darkorange'/>\n"
mark_word false = codes "m0 -5l5 5l-5 5l-5 -5z' fill='steelblue'/>\n"

-- the mark of a plan, and a line from it to its numbers, which end this far below the top
abbrev pub point_mark : (base numbers : ℕ) → Point → List ℕ
point_mark base numbers point = concat (
    codes "</title>\n<path d='M" ∷ decimal (point_left point)
    ∷ codes " " ∷ decimal (point_top base point)
    ∷ codes "L" ∷ decimal (point_left point + 9)
    ∷ codes " " ∷ decimal (numbers - 4)
    ∷ codes "' stroke='gray'/>\n<path d='M" ∷ decimal (point_left point)
    ∷ codes " " ∷ decimal (point_top base point)
    ∷ mark_word (is_halving point) ∷ [])

abbrev pub point_numbers : (numbers : ℕ) → Point → List ℕ
point_numbers numbers point = concat (
    codes "<text text-anchor='start' x='" ∷ decimal (point_left point + 11)
    ∷ codes "' y='" ∷ decimal numbers
    ∷ codes "'>" ∷ decimal point.nodes
    ∷ codes " nodes, T " ∷ decimal point.bound
    ∷ codes "</text></g>\n" ∷ [])

-- a plan, in a group with its line as the title
abbrev pub point_at : (base numbers : ℕ) → Point → List ℕ
point_at base numbers point =
    codes "<g><title>"
    ++ (point_words point ++ (point_mark base numbers point ++ point_numbers numbers point))

abbrev pub points_picture : (base last : ℕ) → List Point → List ℕ
points_picture base last [] = []
points_picture base last (point ∷ points) =
    point_at base (numbers_top base last point) point
    ++ points_picture base (last_behind base last point) points

-- ---- axes

-- what the picture is of
abbrev pub faults_words : Option ℕ → List ℕ
faults_words None = []
faults_words (Some faults) = concat (codes " for F = " ∷ decimal faults ∷ [])

abbrev pub heading : Option ℕ → List ℕ
heading faults =
    codes "<text x='310' y='14'>the bound T of plans"
    ++ (faults_words faults ++ codes ", by their nodes</text>\n")

-- lines for every 50 nodes, and numbers below them
abbrev pub nodes_axis : (base high : ℕ) → List ℕ
nodes_axis base high = concat (
    codes "<g transform='translate(0," ∷ decimal base
    ∷ codes ")'>\n<path d='M60 0v-" ∷ decimal high
    ∷ codes "M160 0v-" ∷ decimal high
    ∷ codes "M260 0v-" ∷ decimal high
    ∷ codes "M360 0v-" ∷ decimal high
    ∷ codes "M460 0v-" ∷ decimal high
    ∷ codes "M560 0v-" ∷ decimal high
    ∷ codes "' stroke='gainsboro'/>\n"
    ∷ codes "<text x='60' y='18'>0</text><text x='160' y='18'>50</text>"
    ∷ codes "<text x='260' y='18'>100</text><text x='360' y='18'>150</text>"
    ∷ codes "<text x='460' y='18'>200</text><text x='560' y='18'>250</text>"
    ∷ codes "<text x='310' y='34'>nodes</text>\n"
    ∷ codes "<path d='M64 52m-4 -4h8v8h-8z' fill='darkorange'/>"
    ∷ codes "<text x='76' y='56' text-anchor='start'>halving</text>\n"
    ∷ codes "<path d='M164 52m0 -5l5 5l-5 5l-5 -5z' fill='steelblue'/>"
    ∷ codes "<text x='176' y='56' text-anchor='start'>boosting</text>\n</g>\n" ∷ [])

-- a line for a decade of T, and its number
abbrev pub decade_line : (base decade : ℕ) → List ℕ
decade_line base decade = concat (
    codes "<path d='M60 " ∷ decimal (base - 36 * decade)
    ∷ codes "H572' stroke='gainsboro'/><text text-anchor='end' x='54' y='"
    ∷ decimal (base - 36 * decade + 4)
    ∷ codes "'>1e" ∷ decimal decade
    ∷ codes "</text>\n" ∷ [])

abbrev pub decade_lines : (base decades : ℕ) → List ℕ
decade_lines base decades = flat_map (decade_line base) (range_with_len 0 (decades + 1))

-- ---- the picture

abbrev pub choice_in : (base decades : ℕ) → Choice → List ℕ
choice_in base decades choice =
    picture_front 780 (base + 70)
    ++ (picture_ground
    ++ (heading choice.faults
    ++ (nodes_axis base (36 * decades)
    ++ (decade_lines base decades
    ++ (points_picture base 0 choice.points.items ++ codes "</svg>\n")))))

abbrev pub choice_below : (decades : ℕ) → Choice → List ℕ
choice_below decades choice = choice_in (base_below decades) decades choice

abbrev pub choice_picture : Choice → List ℕ
choice_picture choice = choice_below (decades_of choice.points.items) choice
