-- The lies that are drawn afresh: rounds and hearers in order, of nodes that there are, and
-- contents that a line can say.
use Rattle.std.proofs.Common.{◌≡◌, ℕ, ◌+◌, ◌-◌, ◌*◌, ◌^◌, ◌<◌, ◌≤◌, min, Bool, true}
use Rattle.std.proofs.Common.{false, List, [], ◌∷◌, length, refl, arith, inl, inr}
use Rattle.std.specs.Prelude.{⊤, if◌then◌else◌, ◌==◌}
use Rattle.std.specs.List.{AllByRecursion, flat_map}
use Rattle.std.proofs.lemmas.Bool.{cases_lt}
use Rattle.std.proofs.lemmas.List.{length-append}
use Rattle.adversary_script.specs.Scripts.{most_rounds}
use Rattle.attack.specs.declared.candidates.Say.{Say}
use Rattle.attack.specs.declared.candidates.Say.TheVariants as say
use Rattle.attack.specs.declared.candidates.LieLine.{LieLine}
use Rattle.attack.specs.declared.drawn_lines.Span.{Span}
use Rattle.attack.specs.declared.drawn_lines.Hearers.{Hearers}
use Rattle.attack.specs.declared.kinds.Kind.{Kind}
use Rattle.attack.specs.declared.kinds.Kind.TheVariants as kind
use Rattle.attack.specs.Draws.{drawn, below}
use Rattle.attack.specs.DrawnLines.{drawn_more, drawn_span, whole_span, all_hear, between}
use Rattle.attack.specs.DrawnLines.{drawn_hearers, drawn_shift, lie_of}
use Rattle.attack.specs.Kinds.{shadow_say, always, lower_half, at_times, shadow, kind_lies}
use Rattle.attack.proofs.DrawnIds.{below_less}

-- what is said is said of nodes that there are, and by a number of few digits
abbrev pub IsSaidOf : (n : ℕ) → Say → Type 0
IsSaidOf n (say.Copy node) = node < n
IsSaidOf n (say.Shift by) = by < 10 ^ 15
IsSaidOf n other = ⊤

pub record IsSpan (span : Span) : Type 0 where
  pub order : span.first ≤ span.last
  pub most : span.last ≤ most_rounds

pub record AreHearers (n : ℕ) (hearers : Hearers) : Type 0 where
  pub order : hearers.from ≤ hearers.to
  pub below : hearers.to < n

-- a lie of a sender, in order
pub record IsDrawnLie (n sender : ℕ) (lie : LieLine) : Type 0 where
  pub sender_is : lie.sender ≡ sender
  pub rounds : lie.first ≤ lie.last
  pub most : lie.last ≤ most_rounds
  pub hearers : lie.from ≤ lie.to
  pub below : lie.to < n
  pub says : IsSaidOf n lie.says

lie_of_is : (n : ℕ) (span : Span) (sender : ℕ) (hearers : Hearers) (says : Say) → IsSpan span
    → AreHearers n hearers → IsSaidOf n says → IsDrawnLie n sender (lie_of span sender hearers says)
lie_of_is n span sender hearers says in_span heard said = record {
  sender_is = refl;
  rounds = in_span.order;
  most = in_span.most;
  hearers = heard.order;
  below = heard.below;
  says = said;
}

-- one below a count, or 0
none_below : (seed place count : ℕ) → count ≡ 0 → below seed place count ≤ count - 1
unfolding below
none_below seed place count none = rw none (omega arith)

pub below_most : (seed place count : ℕ) → below seed place count ≤ count - 1
below_most seed place count = elim (cases_lt 0 count) [
  | inl some ↦ let less = below_less seed place count some in omega (arith, less)
  | inr none ↦ none_below seed place count (omega (arith, none))
]

module _ (n rounds : ℕ) (some : 1 ≤ n) (few : rounds ≤ most_rounds) where
  whole_is : IsSpan (whole_span rounds)
  whole_is = record { order = omega arith; most = omega (arith, few) }

  span_is : (first more : ℕ) → first ≤ rounds - 1
      → IsSpan (record { first = first; last = min (first + more) (rounds - 1) })
  span_is first more most =
      record { order = omega (arith, most); most = omega (arith, most, few) }

  drawn_is : (seed : ℕ) → IsSpan (drawn_span seed rounds)
  drawn_is seed = span_is (below seed 0 rounds) (drawn_more seed) (below_most seed 0 rounds)

  all_are : AreHearers n (all_hear n)
  all_are = record { order = omega arith; below = omega (arith, some) }

  between_are : (one other : ℕ) → one < n → other < n → AreHearers n (between one other)
  between_are one other first second =
      record { order = omega arith; below = omega (arith, first, second) }

  hearers_by : (single some_of : Bool) (one other : ℕ) → one < n → other < n
      → AreHearers n (if single then between one one
      else if some_of then between one other else all_hear n)
  hearers_by true some_of one other first second = between_are one one first first
  hearers_by false true one other first second = between_are one other first second
  hearers_by false false one other first second = all_are

  hearers_are : (seed : ℕ) → AreHearers n (drawn_hearers seed n)
  hearers_are seed =
      hearers_by (below seed 3 4 == 0) (below seed 3 4 == 1) (below seed 4 n) (below seed 5 n)
      (below_less seed 4 n some) (below_less seed 5 n some)

  shift_by : (little : Bool) (one other : ℕ) → one < 3 → other < 1000
      → (if little then 1 + one else 1 + other) < 10 ^ 15
  shift_by true one other first second = omega (arith, first)
  shift_by false one other first second = omega (arith, second)

  shift_few : (seed : ℕ) → drawn_shift seed < 10 ^ 15
  shift_few seed =
      shift_by (below seed 8 2 == 0) (below seed 7 3) (below seed 7 1000)
      (below_less seed 7 3 (omega arith)) (below_less seed 7 1000 (omega arith))

  shadow_by : (shifts : Bool) (by node : ℕ) → by < 10 ^ 15 → node < n
      → IsSaidOf n (if shifts then say.Shift by else say.Copy node)
  shadow_by true by node small inside = small
  shadow_by false by node small inside = inside

  shadow_is : (seed : ℕ) → IsSaidOf n (shadow_say seed n)
  shadow_is seed =
      shadow_by (below seed 6 4 == 0) (drawn_shift seed) (below seed 7 n) (shift_few seed)
      (below_less seed 7 n some)

  module _ (sender : ℕ) where
    always_is : (says : Say) → IsSaidOf n says → IsDrawnLie n sender (always n rounds sender says)
    always_is says said =
        lie_of_is n (whole_span rounds) sender (all_hear n) says whole_is all_are said

    lower_is : (middle : ℕ) (says : Say) → middle < n → IsSaidOf n says
        → IsDrawnLie n sender (lower_half n rounds sender middle says)
    lower_is middle says lt said =
        lie_of_is n (whole_span rounds) sender (between 0 middle) says whole_is
        (between_are 0 middle (omega (arith, some)) lt) said

    times_is : (seed : ℕ) → IsDrawnLie n sender (at_times n rounds sender seed)
    times_is seed =
        lie_of_is n (drawn_span seed rounds) sender (all_hear n) say.Noise (drawn_is seed) all_are
        tt

    shadowed_is : (seed : ℕ) → IsDrawnLie n sender (shadow n rounds sender seed)
    shadowed_is seed =
        lie_of_is n (whole_span rounds) sender (drawn_hearers seed n) (shadow_say seed n) whole_is
        (hearers_are seed) (shadow_is seed)

    pub lies_are : (kind : Kind) (middle lower upper seed : ℕ) → middle < n → lower < 10 ^ 15
        → upper < 10 ^ 15
        → AllByRecursion (IsDrawnLie n sender)
        (kind_lies n rounds sender kind middle lower upper seed)
    unfolding kind_lies
    lies_are kind.Noise middle lower upper seed lt one other = (always_is say.Noise tt, tt)
    lies_are kind.Frozen middle lower upper seed lt one other =
        (always_is (say.Drawn (drawn seed 0)) tt, tt)
    lies_are kind.Split middle lower upper seed lt one other = (
      lower_is middle (say.Drawn (drawn seed 0)) lt tt,
      (always_is (say.Drawn (drawn seed 1)) tt, tt),
    )
    lies_are kind.King middle lower upper seed lt one other =
        (times_is (drawn seed 0), (times_is (drawn seed 1), (times_is (drawn seed 2), tt)))
    lies_are kind.Shadow middle lower upper seed lt one other =
        (shadowed_is (drawn seed 0), (shadowed_is (drawn seed 1), (shadowed_is (drawn seed 2), tt)))
    lies_are kind.Left middle lower upper seed lt one other =
        (lower_is middle (say.Shift lower) lt one, (always_is (say.Shift upper) other, tt))
    lies_are kind.Right middle lower upper seed lt one other =
        (times_is (drawn seed 1), (always_is (say.Drawn (drawn seed 0)) tt, tt))

    few_lies : (kind : Kind) (middle lower upper seed : ℕ)
        → length (kind_lies n rounds sender kind middle lower upper seed) ≤ 3
    unfolding kind_lies
    few_lies kind.Noise middle lower upper seed = omega arith
    few_lies kind.Frozen middle lower upper seed = omega arith
    few_lies kind.Split middle lower upper seed = omega arith
    few_lies kind.King middle lower upper seed = omega arith
    few_lies kind.Shadow middle lower upper seed = omega arith
    few_lies kind.Left middle lower upper seed = omega arith
    few_lies kind.Right middle lower upper seed = omega arith

  pub all_few : (own : Kind) (middle : ℕ) (lower upper seed : ℕ → ℕ) (senders : List ℕ)
      → length (flat_map
      (λ sender. kind_lies n rounds sender own middle (lower sender) (upper sender) (seed sender))
      senders)
      ≤ 3 * length senders
  all_few own middle lower upper seed [] = omega arith
  all_few own middle lower upper seed (sender ∷ senders) =
      let told : ℕ → List LieLine =
      λ sender. kind_lies n rounds sender own middle (lower sender) (upper sender) (seed sender) in
      omega (
        arith,
        length-append (told sender) (flat_map told senders),
        few_lies sender own middle (lower sender) (upper sender) (seed sender),
        all_few own middle lower upper seed senders,
      )
