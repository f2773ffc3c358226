-- The picture of a trace, in SVG.
use Rattle.std.specs.Prelude.{ℕ, ◌+◌, ◌*◌, length, List, [], ◌∷◌, ◌++◌, Bool, true, false, Option}
use Rattle.std.specs.Prelude.{Some, None, if◌then◌else◌, codes, decimal}
use Rattle.std.specs.List.{concat, flat_map}
use Rattle.picture_parts.specs.declared.frames.Frame.{Frame}
use Rattle.trace_pictures.specs.declared.traces.Level.{Level}
use Rattle.trace_pictures.specs.declared.traces.Trace.{Trace}
use Rattle.trace_pictures.specs.declared.traces.StripName.{StripName}
use Rattle.trace_pictures.specs.declared.traces.StripName.TheVariants as name
use Rattle.trace_pictures.specs.Traces.{strip_words}
use Rattle.picture_parts.specs.Frames.{bottom}
use Rattle.picture_parts.specs.Captions.{colour_legend, number_caption, span_caption}
use Rattle.picture_parts.specs.Marks.{mark_at}
use Rattle.picture_parts.specs.Fronts.{picture_front, picture_ground, picture_width}
use Rattle.trace_pictures.specs.Strips.{note_picture, reign_picture, title_picture}

-- the dots on what is marked
abbrev pub dots : List ℕ
dots = concat (
    codes "<defs><pattern id='marked' width='5' height='5' patternUnits='userSpaceOnUse'>"
    ∷ codes "<circle cx='2' cy='2' r='1' fill='#3a6ea5'/></pattern></defs>\n" ∷ [])

-- where an era must begin
abbrev pub start_mark : Frame → (cells column : ℕ) → List ℕ
start_mark frame cells column = mark_at frame column cells 12 (codes "black") (codes "era")

-- ---- below the bands

abbrev pub blocks_words : Option ℕ → List ℕ
blocks_words (Some blocks) = concat (codes " blocks " ∷ decimal blocks ∷ codes "</text>\n" ∷ [])
blocks_words None = codes "</text>\n"

abbrev pub level_front : (y : ℕ) → List ℕ
level_front y = concat (codes "<text text-anchor='start' x='4' y='" ∷ decimal y ∷ codes "'>" ∷ [])

abbrev pub level_at : (y : ℕ) → Level → List ℕ
level_at y level = level_front y ++ (strip_words level.name ++ blocks_words level.blocks)

abbrev pub level_caption : Frame → Level → List ℕ
level_caption frame level = level_at (bottom frame + 44 + 16 * level.place) level

-- what the registers and the kings' phases mean, from that height on
abbrev pub legend : (y : ℕ) → List ℕ
legend y = concat (
    codes "<g text-anchor='start' transform='translate(4," ∷ decimal y
    ∷ codes ")'>\n<rect width='18' height='18' fill='whitesmoke'/>"
    ∷ codes "<path d='M6 6l6 6m0 -6l-6 6' stroke='dimgray'/><text x='24' y='13'>no value</text>\n"
    ∷ codes "<rect x='110' width='18' height='18' fill='#fde9b0'/>"
    ∷ codes "<text x='134' y='13'>unmarked</text>\n"
    ∷ codes "<rect y='22' width='18' height='18' fill='#b5d3f2'/>"
    ∷ codes "<rect y='22' width='18' height='18' fill='url(#marked)'/>"
    ∷ codes "<text x='24' y='35'>marked</text>\n"
    ∷ codes "<rect x='110' y='22' width='18' height='18' fill='#a6dba0'/>"
    ∷ codes "<path d='M112 24h14v14H112z' fill='none' stroke='darkgreen' stroke-width='2'/>"
    ∷ codes "<text x='134' y='35'>locked</text>\n"
    ∷ codes "<rect y='44' width='18' height='18' fill='url(#faulty)'/>"
    ∷ codes "<text x='24' y='57'>faulty</text>\n"
    ∷ codes "<rect x='110' y='44' width='18' height='18' fill='silver'/>"
    ∷ codes "<path d='M110 44h8l-8 8z'/>"
    ∷ codes "<text x='134' y='57'>hit by an era's start</text>\n"
    ∷ codes "<path d='M0 68h6v14H0zM18 68h12v14H18zM36 68h18v14H36z' fill='gold'/>"
    ∷ codes "<path d='M0 68h18v14H0zM18 68h18v14H18zM36 68h18v14H36z'"
    ∷ codes " fill='none' stroke='black'/>"
    ∷ codes "<text x='60' y='79'>a king's turn: keep, mark, king</text>\n"
    ∷ codes "<path d='M0 88h18v14H0z' fill='none' stroke='black' stroke-dasharray='2'/>"
    ∷ codes "<text x='24' y='99'>a turn that not all obey</text>\n</g>\n" ∷ [])

-- what is drawn of groups
abbrev pub group_legend : (y : ℕ) → List ℕ
group_legend y = concat (
    codes "<g text-anchor='start' transform='translate(4," ∷ decimal y
    ∷ codes ")'>\n<rect width='18' height='18' fill='gainsboro'/>"
    ∷ codes "<text x='42' y='13'>in a group with too many liars</text>\n"
    ∷ codes "<path d='M0 24h18v8H0z' fill='#c6dbef'/><path d='M18 24h18v8H18z' fill='#4292c6'/>"
    ∷ codes "<text x='42' y='32'>the left half's share; trusted</text>\n"
    ∷ codes "<path d='M0 38h18v8H0z' fill='#fdd0a2'/><path d='M18 38h18v8H18z' fill='#f16913'/>"
    ∷ codes "<text x='42' y='46'>the right half's share; trusted</text>\n"
    ∷ codes "<path d='M12 54v4l-6 -2zM24 54v4l6 -2z' stroke='black'/>"
    ∷ codes "<text x='42' y='60'>follows the left, the right half</text>\n"
    ∷ codes "<path d='M12 68v4l-6 -2zM24 68v4l6 -2z' fill='white' stroke='black'/>"
    ∷ codes "<text x='42' y='74'>what it saw is not backed</text>\n</g>\n" ∷ [])

-- whether strips are those of groups
abbrev pub is_group : StripName → Bool
is_group (name.Level level) = false
is_group (name.Group group) = true

abbrev pub are_groups : List Level → Bool
are_groups [] = false
are_groups (level ∷ levels) = is_group level.name

-- how high what is said of groups is
abbrev pub group_height : (groups : Bool) → ℕ
group_height true = 86
group_height false = 0

abbrev pub group_legend_if : (groups : Bool) (y : ℕ) → List ℕ
group_legend_if groups y = if groups then group_legend y else []

-- what the picture is of: configurations and nodes
abbrev pub trace_facts : Trace → List ℕ
trace_facts trace =
    span_caption trace.frame ++ number_caption (bottom trace.frame + 28) (codes "nodes") trace.nodes

-- ---- the picture

abbrev pub trace_front : Trace → List ℕ
trace_front trace =
    picture_front (picture_width trace.frame)
    (bottom trace.frame + 168 + 16 * length trace.levels.items
    + group_height (are_groups trace.levels.items))

-- what the colours and the cells mean, below the captions of these strips
abbrev pub legend_below : Frame → List Level → List ℕ
legend_below frame levels =
    let lines = 16 * length levels in
    colour_legend (bottom frame + 40 + lines)
    ++ (legend (bottom frame + 62 + lines)
    ++ group_legend_if (are_groups levels) (bottom frame + 172 + lines))

-- the captions of the strips, and what the cells mean
abbrev pub trace_captions : Trace → List ℕ
trace_captions trace =
    flat_map (level_caption trace.frame) trace.levels.items
    ++ legend_below trace.frame trace.levels.items

-- all that is within the bands
abbrev pub bands : Trace → List ℕ
bands trace =
    flat_map (note_picture trace.frame) trace.notes.items
    ++ (flat_map (reign_picture trace.frame) trace.reigns.items
    ++ (flat_map (title_picture trace.frame) trace.titles.items
    ++ flat_map (start_mark trace.frame trace.cells) trace.eras.items))

abbrev pub trace_picture : Trace → List ℕ
trace_picture trace =
    trace_front trace
    ++ (picture_ground
    ++ (dots
    ++ (bands trace
    ++ (trace_facts trace
    ++ (trace_captions trace ++ codes "</svg>\n")))))
