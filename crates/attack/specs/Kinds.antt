-- The kinds of attacks, and how a candidate of a kind is drawn.
use Rattle.std.specs.Prelude.{ℕ, ◌+◌, ◌-◌, ◌*◌, ◌==◌, ◌||◌, nat_le, nat_lt, if◌then◌else◌, Bool}
use Rattle.std.specs.Prelude.{List, [], ◌∷◌, Option, Some, None, codes}
use Rattle.std.specs.List.{flat_map}
use Rattle.std.specs.Str.{bytes_eq}
use Rattle.halving_plan.specs.Trees.{left_part}
use Rattle.attack.specs.declared.candidates.Say.{Say}
use Rattle.attack.specs.declared.candidates.Say.TheVariants as say
use Rattle.attack.specs.declared.candidates.LieLine.{LieLine}
use Rattle.attack.specs.declared.kinds.Kind.{Kind}
use Rattle.attack.specs.declared.kinds.Kind.TheVariants as kind
use Rattle.attack.specs.Draws.{drawn, below}
use Rattle.attack.specs.Attacks.{Attack}
use Rattle.attack.specs.FaultyIds.{chosen, kings_but}
use Rattle.attack.specs.DrawnLines.{drawn_span, whole_span, all_hear, between, drawn_hearers}
use Rattle.attack.specs.DrawnLines.{drawn_shift, lie_of}

-- the kind of a word
abbrev pub kind_of : List ℕ → Option Kind
kind_of word =
    if bytes_eq word (codes "noise") then Some kind.Noise
    else if bytes_eq word (codes "frozen") then Some kind.Frozen
    else if bytes_eq word (codes "split") then Some kind.Split
    else if bytes_eq word (codes "king") then Some kind.King
    else if bytes_eq word (codes "shadow") then Some kind.Shadow
    else if bytes_eq word (codes "left") then Some kind.Left
    else if bytes_eq word (codes "right") then Some kind.Right
    else None

-- all kinds
abbrev pub all_kinds : List Kind
all_kinds =
    kind.Noise ∷ kind.Frozen ∷ kind.Split ∷ kind.King ∷ kind.Shadow ∷ kind.Left ∷ kind.Right ∷ []

-- these kinds, or all if none is named
abbrev pub or_all : List Kind → List Kind
or_all [] = all_kinds
or_all (kind ∷ kinds) = kind ∷ kinds

-- a copy of another node, or, one time in four, a shift
abbrev pub shadow_say : (seed nodes : ℕ) → Say
shadow_say seed nodes =
    if below seed 6 4 == 0 then say.Shift (drawn_shift seed) else say.Copy (below seed 7 nodes)

-- The nodes up to the middle one hear of a left half that is ahead of the one that the others hear
-- of, by less than its period, 3 F + 5. A faulty node that is heard with the others, or is in the
-- left half, says its own state to these; any other one says it to the nodes up to the middle one.
abbrev pub ahead : (seed faults : ℕ) → ℕ
ahead seed faults = 1 + below seed 4 (3 * faults + 4)

abbrev pub is_with_others : (faults middle sender : ℕ) → Bool
is_with_others faults middle sender = nat_le sender (3 * left_part faults) || nat_lt middle sender

-- by how much it is ahead of its own state to the nodes up to the middle one, and to the others
abbrev pub lower_ahead : (faults middle sender by : ℕ) → ℕ
lower_ahead faults middle sender by = if is_with_others faults middle sender then by else 0

abbrev pub upper_ahead : (faults middle sender by : ℕ) → ℕ
upper_ahead faults middle sender by =
    if is_with_others faults middle sender then 0 else 3 * faults + 5 - by

module _ (nodes rounds sender : ℕ) where
  -- in all rounds all nodes hear that
  abbrev pub always : Say → LieLine
  always says = lie_of (whole_span rounds) sender (all_hear nodes) says

  -- in all rounds the nodes up to a drawn one hear that
  abbrev pub lower_half : (middle : ℕ) → Say → LieLine
  lower_half middle says = lie_of (whole_span rounds) sender (between 0 middle) says

  -- noise in some rounds that are drawn
  abbrev pub at_times : (seed : ℕ) → LieLine
  at_times seed = lie_of (drawn_span seed rounds) sender (all_hear nodes) say.Noise

  -- some nodes hear a copy or a shift in all rounds
  abbrev pub shadow : (seed : ℕ) → LieLine
  shadow seed =
      lie_of (whole_span rounds) sender (drawn_hearers seed nodes) (shadow_say seed nodes)

  -- what a sender says in an attack of a kind
  unfoldable pub kind_lies : Kind → (middle lower upper seed : ℕ) → List LieLine
  kind_lies kind.Noise middle lower upper seed = always say.Noise ∷ []
  kind_lies kind.Frozen middle lower upper seed = always (say.Drawn (drawn seed 0)) ∷ []
  kind_lies kind.Split middle lower upper seed =
      lower_half middle (say.Drawn (drawn seed 0)) ∷ always (say.Drawn (drawn seed 1)) ∷ []
  kind_lies kind.King middle lower upper seed =
      at_times (drawn seed 0) ∷ at_times (drawn seed 1) ∷ at_times (drawn seed 2) ∷ []
  kind_lies kind.Shadow middle lower upper seed =
      shadow (drawn seed 0) ∷ shadow (drawn seed 1) ∷ shadow (drawn seed 2) ∷ []
  kind_lies kind.Left middle lower upper seed =
      lower_half middle (say.Shift lower) ∷ always (say.Shift upper) ∷ []
  kind_lies kind.Right middle lower upper seed =
      at_times (drawn seed 1) ∷ always (say.Drawn (drawn seed 0)) ∷ []

-- The faulty nodes: of the kinds `king`, `left` and `right` they are all kings but one, which is
-- any one, one of the right half, or one of the left half.
abbrev pub kind_faulty : Kind → (seed nodes faults : ℕ) → List ℕ
kind_faulty kind.King seed nodes faults =
    kings_but (left_part faults) (below seed 0 (faults + 1)) faults
kind_faulty kind.Left seed nodes faults =
    kings_but (left_part faults) (left_part faults + 1 + below seed 0 (faults - left_part faults))
    faults
kind_faulty kind.Right seed nodes faults =
    kings_but (left_part faults) (below seed 0 (left_part faults + 1)) faults
kind_faulty other seed nodes faults = chosen seed nodes faults

-- what all of them say
abbrev pub all_lies : Kind → (seed nodes faults rounds : ℕ) → List ℕ → List LieLine
all_lies kind seed nodes faults rounds ids =
    flat_map
    (λ sender. kind_lies nodes rounds sender kind (below seed 2 (nodes - 1))
    (lower_ahead faults (below seed 2 (nodes - 1)) sender (ahead seed faults))
    (upper_ahead faults (below seed 2 (nodes - 1)) sender (ahead seed faults))
    (drawn (drawn seed 3) sender)) ids

-- an attack of a kind
unfoldable pub fresh : Kind → (seed nodes faults rounds : ℕ) → Attack
fresh kind seed nodes faults rounds = record {
  faulty = kind_faulty kind (drawn seed 1) nodes faults;
  key = drawn seed 0;
  starts = [];
  lies = all_lies kind seed nodes faults rounds (kind_faulty kind (drawn seed 1) nodes faults);
  rounds = rounds;
  first = rounds;
  last = rounds;
}
