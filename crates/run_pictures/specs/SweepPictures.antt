-- The picture of a sweep, in SVG: a band for each era, and in it a bar for each range of first
-- locked configurations, and on the right one for the runs that have none.
use Rattle.std.specs.Prelude.{ℕ, ◌+◌, ◌-◌, ◌*◌, ◌==◌, max, Bool, List, [], ◌∷◌, ◌++◌, Option, Some}
use Rattle.std.specs.Prelude.{None, nat_lt, if◌then◌else◌, codes, decimal}
use Rattle.std.specs.List.{concat, flat_map}
use Rattle.run_pictures.specs.declared.sweep_charts.Tally.{Tally}
use Rattle.run_pictures.specs.declared.sweep_charts.Tick.{Tick}
use Rattle.run_pictures.specs.declared.sweep_charts.Sweep.{Sweep}
use Rattle.picture_parts.specs.Fronts.{picture_front, picture_ground}
use Rattle.run_pictures.specs.Sweeps.{tally_words}

-- the left side of a bar
abbrev pub bar_left : (column : ℕ) → ℕ
bar_left column = 60 + 16 * column

-- what the bars of a band stand on
abbrev pub bar_base : (band : ℕ) → ℕ
bar_base band = 160 * band + 138

-- what is below all bands
abbrev pub sweep_bottom : Sweep → ℕ
sweep_bottom sweep = 160 * sweep.bands

-- what is on the right of all bars
abbrev pub sweep_right : Sweep → ℕ
sweep_right sweep = bar_left (sweep.columns + 2)

-- the middle of the bar of runs that have no first locked configuration
abbrev pub none_middle : Sweep → ℕ
none_middle sweep = bar_left (sweep.columns + 1) + 7

-- ---- bars

abbrev pub bar_colour : Option ℕ → List ℕ
bar_colour (Some locked) = codes "steelblue"
bar_colour None = codes "firebrick"

-- a part of a bar
abbrev pub bar_part : Tally → List ℕ
bar_part tally = concat (
    codes "</title>\n<rect x='" ∷ decimal (bar_left tally.column)
    ∷ codes "' y='" ∷ decimal (bar_base tally.band - tally.head)
    ∷ codes "' width='14' height='" ∷ decimal (tally.head - tally.foot)
    ∷ codes "' fill='" ∷ bar_colour tally.locked
    ∷ codes "'/></g>\n" ∷ [])

-- the same in a group with its line as the title
abbrev pub bar : Tally → List ℕ
bar tally = codes "<g><title>" ++ (tally_words tally ++ bar_part tally)

-- ---- eras

-- what the bars of a band stand on, a ground for the words above them, and how many runs the
-- highest bar has
abbrev pub band_axis : Sweep → (band : ℕ) → List ℕ
band_axis sweep band = concat (
    codes "<rect width='100%' height='36' fill='white' y='" ∷ decimal (160 * band)
    ∷ codes "'/>\n<path d='M56 " ∷ decimal (bar_base band)
    ∷ codes ".5H" ∷ decimal (sweep_right sweep)
    ∷ codes "' stroke='black'/>\n<text x='28' y='" ∷ decimal (160 * band + 46)
    ∷ codes "'>" ∷ decimal sweep.most
    ∷ codes "</text>\n" ∷ [])

-- it is drawn with the first line of an era
abbrev pub is_first : Tally → Bool
is_first tally = tally.total == tally.runs

abbrev pub axis_if : Sweep → Tally → List ℕ
axis_if sweep tally = if is_first tally then band_axis sweep tally.band else []

-- a number of runs, and words, before a line of the sweep
abbrev pub total_words : (y total : ℕ) (words : List ℕ) → List ℕ
total_words y total words = concat (
    codes "<text text-anchor='start' x='4' y='" ∷ decimal y
    ∷ codes "'>" ∷ decimal total
    ∷ words ∷ [])

-- how many runs of an era lock, or how many there are if the last ones do not
abbrev pub worst_front : (band total : ℕ) → Option ℕ → List ℕ
worst_front band total (Some locked) =
    total_words (160 * band + 16) total (codes " runs lock, the worst: ")
worst_front band total None =
    total_words (160 * band + 30) total (codes " runs in all, not locked: ")

-- the same, and the line that has the worst of them
abbrev pub worst_words : Tally → List ℕ
worst_words tally =
    worst_front tally.band tally.total tally.locked ++ (tally_words tally ++ codes "</text>\n")

abbrev pub worst_if : Tally → List ℕ
worst_if tally = if tally.is_worst then worst_words tally else []

abbrev pub tally_picture : Sweep → Tally → List ℕ
tally_picture sweep tally = axis_if sweep tally ++ (bar tally ++ worst_if tally)

-- ---- below the bands

-- a number on the left of a bar, and a line above it through all bands
abbrev pub tick_picture : Sweep → Tick → List ℕ
tick_picture sweep tick = concat (
    codes "<path d='M" ∷ decimal (bar_left tick.column)
    ∷ codes " 36V" ∷ decimal (sweep_bottom sweep)
    ∷ codes "' stroke='gainsboro'/>\n<text x='" ∷ decimal (bar_left tick.column)
    ∷ codes "' y='" ∷ decimal (sweep_bottom sweep + 4)
    ∷ codes "'>" ∷ decimal tick.number
    ∷ codes "</text>\n" ∷ [])

-- the middle of the range that the bound stands in, or what is after the last bar
abbrev pub bound_middle : Sweep → ℕ
bound_middle sweep = bar_left sweep.bound_column + 7

-- what stands after a bound that is beyond the last bar
abbrev pub beyond_words : Sweep → List ℕ
beyond_words sweep = if nat_lt sweep.bound_column sweep.columns then [] else codes " .."

-- a line through all bands, and the bound below it
abbrev pub bound_picture : Sweep → List ℕ
bound_picture sweep = concat (
    codes "<path d='M" ∷ decimal (bound_middle sweep)
    ∷ codes " 36V" ∷ decimal (sweep_bottom sweep + 8)
    ∷ codes "' stroke='firebrick'/>\n<text text-anchor='end' x='" ∷ decimal (bound_middle sweep)
    ∷ codes "' y='" ∷ decimal (sweep_bottom sweep + 18)
    ∷ codes "'>T " ∷ decimal sweep.bound
    ∷ beyond_words sweep
    ∷ codes "</text>\n" ∷ [])

-- where the runs stand that have no first locked configuration, and what is counted to the right
abbrev pub sweep_foot : Sweep → List ℕ
sweep_foot sweep = concat (
    codes "<text x='" ∷ decimal (none_middle sweep)
    ∷ codes "' y='" ∷ decimal (sweep_bottom sweep + 4)
    ∷ codes "'>none</text>\n<text text-anchor='start' x='4' y='"
    ∷ decimal (sweep_bottom sweep + 36)
    ∷ codes "'>rounds from the begin of the era to its first locked configuration; "
    ∷ codes "a bar stands for "
    ∷ decimal sweep.span
    ∷ codes "</text>\n</svg>\n" ∷ [])

-- ---- the picture

abbrev pub sweep_front : Sweep → List ℕ
sweep_front sweep = picture_front (max (sweep_right sweep + 8) 640) (sweep_bottom sweep + 44)

abbrev pub sweep_picture : Sweep → List ℕ
sweep_picture sweep =
    sweep_front sweep
    ++ (picture_ground
    ++ (flat_map (tick_picture sweep) sweep.ticks.items
    ++ (bound_picture sweep
    ++ (flat_map (tally_picture sweep) sweep.tallies.items ++ sweep_foot sweep))))
