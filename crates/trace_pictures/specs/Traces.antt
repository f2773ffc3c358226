-- The text of a trace: what `trace` writes of it.
use Rattle.std.specs.Prelude.{ℕ, ◌+◌, List, [], ◌∷◌, ◌++◌, Bool, true, false, Option, Some, None}
use Rattle.std.specs.Prelude.{codes, decimal}
use Rattle.std.specs.List.{concat, flat_map}
use Rattle.trace_pictures.specs.declared.traces.Held.{Held}
use Rattle.trace_pictures.specs.declared.traces.Held.TheVariants.{Unmarked, Marked, Locked}
use Rattle.trace_pictures.specs.declared.traces.Turn.{Turn}
use Rattle.trace_pictures.specs.declared.traces.Turn.TheVariants.{Keep, Mark, King}
use Rattle.trace_pictures.specs.declared.traces.Side.{Side}
use Rattle.trace_pictures.specs.declared.traces.Side.TheVariants as side
use Rattle.trace_pictures.specs.declared.traces.Group.{Group}
use Rattle.trace_pictures.specs.declared.traces.StripName.{StripName}
use Rattle.trace_pictures.specs.declared.traces.StripName.TheVariants as name
use Rattle.trace_pictures.specs.declared.traces.Half.{Half}
use Rattle.trace_pictures.specs.declared.traces.Half.TheVariants as half
use Rattle.trace_pictures.specs.declared.traces.LeftSeen.{LeftSeen}
use Rattle.trace_pictures.specs.declared.traces.Beat.{Beat}
use Rattle.trace_pictures.specs.declared.traces.Following.{Following}
use Rattle.trace_pictures.specs.declared.traces.Basis.{Basis}
use Rattle.trace_pictures.specs.declared.traces.Basis.TheVariants.{Votes, Follows}
use Rattle.trace_pictures.specs.declared.traces.Heard.{Heard}
use Rattle.trace_pictures.specs.declared.traces.Output.{Output}
use Rattle.trace_pictures.specs.declared.traces.Register.{Register}
use Rattle.trace_pictures.specs.declared.traces.Seen.{Seen}
use Rattle.trace_pictures.specs.declared.traces.Seen.TheVariants.{Shows, Holds}
use Rattle.trace_pictures.specs.declared.traces.Note.{Note}
use Rattle.trace_pictures.specs.declared.traces.Trace.{Trace}

-- ---- words

abbrev pub faulty_word : Bool → List ℕ
faulty_word true = codes " faulty"
faulty_word false = []

abbrev pub held_word : Held → List ℕ
held_word Unmarked = codes " unmarked"
held_word Marked = codes " marked"
held_word Locked = codes " locked"

abbrev pub turn_word : Turn → List ℕ
turn_word Keep = codes " keep king "
turn_word Mark = codes " mark king "
turn_word King = codes " king king "

-- a number, or none
abbrev pub number_or_none : Option ℕ → List ℕ
number_or_none (Some n) = decimal n
number_or_none None = codes "none"

-- ---- what a node heard

abbrev pub vote_word : ℕ → List ℕ
vote_word vote = concat (codes " " ∷ decimal vote ∷ [])

-- the beat of the lead's block
abbrev pub lead_words : Beat → List ℕ
lead_words beat = concat (
    codes " lead " ∷ decimal beat.lead
    ∷ codes " position " ∷ decimal beat.position ∷ [])

abbrev pub beat_words : Beat → List ℕ
beat_words beat = codes " votes" ++ (flat_map vote_word beat.votes.items ++ lead_words beat)

-- one half of a group
abbrev pub half_word : Half → List ℕ
half_word half.Left = codes " left"
half_word half.Right = codes " right"

abbrev pub backed_word : Bool → List ℕ
backed_word true = codes " backed"
backed_word false = codes " unbacked"

-- which half a node follows
abbrev pub following_words : Following → List ℕ
following_words following = concat (
    codes " saw " ∷ decimal following.saw ∷ backed_word following.is_backed
    ∷ codes " follows" ∷ half_word following.half
    ∷ codes " instruction " ∷ decimal following.instruction ∷ [])

-- by what a node has its instruction
abbrev pub basis_words : Basis → List ℕ
basis_words (Votes beat) = beat_words beat
basis_words (Follows following) = following_words following

abbrev pub count_words : Heard → List ℕ
count_words heard = concat (
    turn_word heard.turn ∷ decimal heard.king
    ∷ codes " same " ∷ decimal heard.same
    ∷ codes " least " ∷ [])

abbrev pub heard_words : Heard → List ℕ
heard_words heard =
    basis_words heard.basis ++ (count_words heard ++ number_or_none heard.least)

abbrev pub heard_or_nothing : Option Heard → List ℕ
heard_or_nothing (Some heard) = heard_words heard
heard_or_nothing None = []

-- ---- lines

abbrev pub output_word : ℕ → List ℕ
output_word output = concat (codes " output " ∷ decimal output ∷ [])

abbrev pub output_words : Output → List ℕ
output_words shown =
    codes " number " ++ (number_or_none shown.number ++ output_word shown.output)

-- which group of a plan it is
abbrev pub side_word : Side → List ℕ
side_word side.Whole = codes " whole "
side_word side.Left = codes " left "
side_word side.Right = codes " right "

abbrev pub group_words : Group → List ℕ
group_words group =
    concat (side_word group.side ∷ decimal group.first ∷ codes " " ∷ decimal group.last ∷ [])

-- what a strip is of
abbrev pub strip_words : StripName → List ℕ
strip_words (name.Level level) = concat (codes " level " ∷ decimal level ∷ [])
strip_words (name.Group group) = group_words group

abbrev pub sound_word : Bool → List ℕ
sound_word true = codes " sound"
sound_word false = codes " unsound"

abbrev pub trust_word : Bool → List ℕ
trust_word true = codes " trusted"
trust_word false = codes " untrusted"

-- what a node of a group holds besides its register
abbrev pub own_words : LeftSeen → List ℕ
own_words own = concat (
    sound_word own.is_sound ∷ codes " seen " ∷ decimal own.seen ∷ trust_word own.is_trusted
    ∷ codes " share" ∷ half_word own.share ∷ [])

abbrev pub own_or_nothing : Option LeftSeen → List ℕ
own_or_nothing (Some own) = own_words own
own_or_nothing None = []

abbrev pub register_words : Register → List ℕ
register_words register =
    strip_words register.name
    ++ (codes " value "
    ++ (number_or_none register.value
    ++ (held_word register.held
    ++ (own_or_nothing register.own ++ heard_or_nothing register.heard))))

abbrev pub seen_words : Seen → List ℕ
seen_words (Shows shown) = output_words shown
seen_words (Holds register) = register_words register

-- the configuration and the node of a line
abbrev pub note_front : (first : ℕ) → Note → List ℕ
note_front first note = concat (
    codes "at " ∷ decimal (first + note.column)
    ∷ codes " node " ∷ decimal note.node
    ∷ faulty_word note.is_faulty ∷ [])

abbrev pub note_line : (first : ℕ) → Note → List ℕ
note_line first note = note_front first note ++ (seen_words note.seen ++ codes "\n")

abbrev pub trace_text : Trace → List ℕ
trace_text trace = flat_map (note_line trace.frame.first) trace.notes.items
