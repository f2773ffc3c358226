-- The line that a line is turned into is turned again.
use Rattle.std.proofs.Common.{◌≡◌, ℕ, ◌<◌, ◌≤◌, ◌*◌, Bool, true, false, List, [], ◌∷◌, Option, Some}
use Rattle.std.proofs.Common.{None, Result, Ok, Err, refl, subst}
use Rattle.std.specs.Prelude.{codes, nat_lt, if◌then◌else◌}
use Rattle.std.specs.Str.{bytes_eq}
use Rattle.std.proofs.lemmas.Bool.{ltb-true}
use Rattle.sync_types.specs.States.{State}
use Rattle.state_codec.specs.Shapes.{Fields, Shape, IsShape, shape_nodes, fields_at, bytes_in}
use Rattle.state_codec.specs.Ranges.{InRange}
use Rattle.state_codec.specs.Texts.{is_state_text, decoded, read_text}
use Rattle.state_codec.proofs.Lows.{fields_limited}
use Rattle.state_codec.proofs.Ranged.{read_is_in_range}
use Rattle.texts.specs.Lines.{words_of}
use Rattle.texts.specs.Numbers.{number_of}
use Rattle.states.specs.Laws.{HasField, EachIsTurnedAgain}
use Rattle.states.specs.StateTexts.{worded, in_digits}
use Rattle.states.specs.StateWords.{state_said}
use Rattle.states.specs.Turned.{digits_turned, said_turned, is_key, alone_turned, rest_turned}
use Rattle.states.specs.Turned.{named_turned, node_turned, words_turned, line_turned}
use Rattle.states.specs.declared.faults.Fault.{Fault}
use Rattle.states.specs.declared.faults.Fault.TheVariants as fault
use Rattle.states.proofs.SaidInRange.{state_in_range}
use Rattle.states.proofs.TurnedBoth.{each_is_turned}

module _ (shape : Shape) (is_shape : IsShape shape) (few : shape_nodes shape ≤ 256)
    (has : (v : ℕ) → v < shape_nodes shape → HasField (fields_at shape v)) where
  abbrev IsAgain : List ℕ → Type 0
  IsAgain other = (back : List ℕ) × (line_turned shape other ≡ Ok back)

  module _ (v : ℕ) (lt : v < shape_nodes shape) where
    said_again : (words : List (List ℕ)) (said : Option State) (other : List ℕ)
        → state_said (fields_at shape v) words ≡ said
        → said_turned (fields_at shape v) v said ≡ Ok other → IsAgain other
    said_again words None other said is = absurd cc
    said_again words (Some state) other said is =
        let range =
        state_in_range (fields_at shape v) words state (fields_limited shape v is_shape) said in
        let both = each_is_turned shape v state is_shape few lt range in
        let same : in_digits (fields_at shape v) v state ≡ other = cc in
        subst IsAgain same (worded (fields_at shape v) v state, both.from_digits)

    digits_again : (digits other : List ℕ)
        → digits_turned (fields_at shape v) v digits ≡ Ok other → IsAgain other
    digits_again digits other is = by (is_state_text (fields_at shape v) digits) is where
      by : (b : Bool)
          → (if b then Ok (worded (fields_at shape v) v (read_text (fields_at shape v) digits))
          else Err (fault.Hex (2 * bytes_in (fields_at shape v)))) ≡ Ok other
          → IsAgain other
      by true is =
          let state = read_text (fields_at shape v) digits in
          let range = read_is_in_range (fields_at shape v) (decoded digits)
          (fields_limited shape v is_shape) in
          let both = each_is_turned shape v state is_shape few lt range in
          let same : worded (fields_at shape v) v state ≡ other = cc in
          subst IsAgain same (in_digits (fields_at shape v) v state, both.from_words (has v lt))
      by false is = absurd cc

    alone_again : (digits : List ℕ) (words : List (List ℕ)) (other : List ℕ)
        → alone_turned (fields_at shape v) v digits words ≡ Ok other → IsAgain other
    alone_again digits [] other is = digits_again digits other is
    alone_again digits (word ∷ words) other is = absurd cc

    rest_again : (words : List (List ℕ)) (other : List ℕ)
        → rest_turned (fields_at shape v) v words ≡ Ok other → IsAgain other
    rest_again [] other is = absurd cc
    rest_again (key ∷ words) other is = by (is_key key) is where
      by : (b : Bool)
          → (if b
          then said_turned (fields_at shape v) v (state_said (fields_at shape v) (key ∷ words))
          else alone_turned (fields_at shape v) v key words) ≡ Ok other
          → IsAgain other
      by true is =
          said_again (key ∷ words) (state_said (fields_at shape v) (key ∷ words)) other refl is
      by false is = alone_again key words other is

  named_again : (id : Option ℕ) (words : List (List ℕ)) (other : List ℕ)
      → named_turned shape id words ≡ Ok other → IsAgain other
  named_again None words other is = absurd cc
  named_again (Some v) words other is = by (nat_lt v (shape_nodes shape)) refl is where
    by : (b : Bool) → nat_lt v (shape_nodes shape) ≡ b
        → (if b then rest_turned (fields_at shape v) v words else Err fault.Node) ≡ Ok other
        → IsAgain other
    by true below is = rest_again v (ltb-true v (shape_nodes shape) below) words other is
    by false below is = absurd cc

  node_again : (words : List (List ℕ)) (other : List ℕ) → node_turned shape words ≡ Ok other
      → IsAgain other
  node_again [] other is = absurd cc
  node_again (id ∷ words) other is = named_again (number_of id) words other is

  words_again : (words : List (List ℕ)) (other : List ℕ) → words_turned shape words ≡ Ok other
      → IsAgain other
  words_again [] other is = absurd cc
  words_again (word ∷ words) other is = by (bytes_eq word (codes "node")) is where
    by : (b : Bool) → (if b then node_turned shape words else Err fault.Form) ≡ Ok other
        → IsAgain other
    by true is = node_again words other is
    by false is = absurd cc

  line_again : (line other : List ℕ) → line_turned shape line ≡ Ok other
      → (back : List ℕ) × (line_turned shape other ≡ Ok back)
  line_again line other is = words_again (words_of line) other is

pub each_is_turned_again : EachIsTurnedAgain
each_is_turned_again shape is_shape few has line other is =
    line_again shape is_shape few has line other is
