-- A script after each of its lines, with the line's tests in their order.
use Rattle.std.specs.Prelude.{ℕ, ◌==◌, List, [], ◌∷◌, ◌++◌, length, Bool, ◌&&◌, ◌||◌, not, nat_le}
use Rattle.std.specs.Prelude.{nat_lt, Option, Some, None, is_some, Result, Ok, Err, codes}
use Rattle.std.specs.Prelude.{if◌then◌else◌}
use Rattle.std.specs.List.{list_all}
use Rattle.std.specs.Str.{bytes_eq}
use Rattle.hex.specs.Hex.{decode_of}
use Rattle.sync_types.specs.declared.answers.Rule.{Rule}
use Rattle.sync_types.specs.declared.answers.Rule.TheVariants as rule
use Rattle.state_codec.specs.Texts.{is_lower_digit}
use Rattle.adversary_script.specs.declared.kinds.Kind.{Kind}
use Rattle.adversary_script.specs.declared.kinds.Kind.TheVariants as kind
use Rattle.adversary_script.specs.declared.lies.CommonStart.TheVariants as common
use Rattle.adversary_script.specs.WordTests.{only, both, is_name, are_below, is_rising}
use Rattle.texts.specs.Shapes.{all_numbers}
use Rattle.adversary_script.specs.Scripts.{Script, most_rounds}
use Rattle.adversary_script.specs.Tested.{tested}
use Rattle.adversary_script.specs.FaultySteps.{faulty_tested, last_first, era_step}
use Rattle.adversary_script.specs.StartSteps.{start_step}
use Rattle.adversary_script.specs.LieSteps.{group_at, lie_step}

-- nothing stands after the words of the kind
abbrev pub done : Script → List (List ℕ) → Result Script Rule
done s [] = Ok s
done s (word ∷ words) = Err rule.Form

-- `script 1` or `script 2`
abbrev pub head_tested : Script → Option (List ℕ) → Result Script Rule
head_tested s None = Err rule.Form
head_tested s (Some word) =
    if bytes_eq word (codes "1") then Ok (record s { version = 1 })
    else if bytes_eq word (codes "2") then Ok (record s { version = 2 })
    else Err rule.Form

abbrev pub decoded_bytes : {E : Type 0} → Result (List ℕ) E → Option (List ℕ)
decoded_bytes (Ok bytes) = Some bytes
decoded_bytes (Err e) = None

-- the 32 bytes of 64 hex digits
abbrev pub key_of_digits : List ℕ → Option (List ℕ)
key_of_digits word =
    if length word == 64 && list_all is_lower_digit word then decoded_bytes (decode_of word)
    else None

abbrev pub with_key : Script → Option (List ℕ) → Result Script Rule
with_key s None = Err rule.Hex
with_key s (Some key) = Ok (record s { key = key })

-- `seed H`
abbrev pub seed_tested : Script → Option (List ℕ) → Result Script Rule
seed_tested s None = Err rule.Form
seed_tested s (Some word) = with_key s (key_of_digits word)

abbrev pub group_tests : Script → (name ids : List ℕ) → List (Bool × Rule)
group_tests s name ids =
    (nat_le 256 (length s.groups), rule.Limit)
    ∷ (not (are_below s.nodes ids), rule.Node)
    ∷ (not (is_rising ids), rule.Order)
    ∷ (
      not (is_name name) || bytes_eq name (codes "all") || is_some (group_at s.groups name),
      rule.Name,
    ) ∷ []

abbrev pub group_tested : Script → List ℕ → Option (List ℕ) → Result Script Rule
group_tested s name None = Err rule.Form
group_tested s name (Some []) = Err rule.Form
group_tested s name (Some (id ∷ ids)) =
    tested (group_tests s name (id ∷ ids))
    (Ok (record s { groups = s.groups ++ record { name = name; ids = id ∷ ids } ∷ [] }))

-- `group NAME` and ids
abbrev pub group_step : Script → List (List ℕ) → Result Script Rule
group_step s [] = Err rule.Form
group_step s (name ∷ words) = group_tested s name (all_numbers words)

-- `rounds R`; what is shown of them is said by the next line
abbrev pub rounds_tests : Script → ℕ → List (Bool × Rule)
rounds_tests s r = (nat_lt most_rounds r, rule.Limit) ∷ (nat_lt r (last_first s), rule.Range) ∷ []

abbrev pub rounds_tested : Script → Option (List ℕ) → Result Script Rule
rounds_tested s (Some (r ∷ [])) =
    tested (rounds_tests s r) (Ok (record s { rounds = r; first = 0; last = 0 }))
rounds_tested s other = Err rule.Form

-- `show A B`
abbrev pub show_tests : Script → (a b : ℕ) → List (Bool × Rule)
show_tests s a b = (nat_lt b a || nat_lt s.rounds b, rule.Range) ∷ []

abbrev pub show_tested : Script → Option (List ℕ) → Result Script Rule
show_tested s (Some (a ∷ b ∷ [])) =
    tested (show_tests s a b) (Ok (record s { first = a; last = b }))
show_tested s other = Err rule.Form

-- a line of a kind, by the words after it; f ids at most may be faulty
abbrev pub line_step : (f : ℕ) → Kind → Script → List (List ℕ) → Result Script Rule
line_step f kind.Script s words = head_tested s (only words)
line_step f kind.Faulty s words = faulty_tested f s (all_numbers words)
line_step f kind.Seed s words = seed_tested s (only words)
line_step f kind.StartZero s words = done (record s { common = common.Zero }) words
line_step f kind.StartNoise s words = done (record s { common = common.Noise }) words
line_step f kind.StartNode s words = start_step s (both words)
line_step f kind.Era s words = era_step f s words
line_step f kind.Group s words = group_step s words
line_step f kind.Lie s words = lie_step s words
line_step f kind.Rounds s words = rounds_tested s (all_numbers words)
line_step f kind.Show s words = show_tested s (all_numbers words)
line_step f kind.End s words = done s words
