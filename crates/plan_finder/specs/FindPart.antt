-- The part `find` of an input: `find 1`, `want F C M`, `end`.
use Rattle.std.specs.Prelude.{ℕ, ◌+◌, ◌^◌, ◌≤◌, ◌||◌, nat_lt, List, [], ◌∷◌, Option, Some, None}
use Rattle.std.specs.Prelude.{Result, Ok, Err, if◌then◌else◌, codes}
use Rattle.std.specs.Str.{bytes_eq}
use Rattle.texts.specs.Lines.{lines_of, words_of}
use Rattle.texts.specs.Shapes.{numbers_after}
use Rattle.texts.specs.Parts.{Next, goes, ends, refuses, with_skips, Found, At, part_from}
use Rattle.sync_types.specs.declared.answers.Rule.{Rule}
use Rattle.sync_types.specs.declared.answers.Rule.TheVariants.{Form, Limit, Range}
use Rattle.plan_reader.specs.Skipped.{first_unskipped}
use Rattle.plan_finder.specs.declared.wants.Want.{Want}
use Rattle.plan_finder.specs.declared.want_lines.FindStage.{FindStage}
use Rattle.plan_finder.specs.declared.want_lines.FindStage.TheVariants.{Unread, Begun, Wanted}

-- the wants of a line with these numbers, or the first rule that it fails
abbrev pub want_by : Option (List ℕ) → Result Want Rule
want_by (Some (f ∷ c ∷ most ∷ [])) =
    if nat_lt 85 f || nat_lt (2 ^ 40) c || nat_lt 256 most then Err Limit
    else if nat_lt c 2 || nat_lt most 1 then Err Range
    else Ok (record { faults = f; modulus = c; most = most })
want_by other = Err Form

-- the part goes on with these wants, or the line is refused
abbrev pub goes_with : Result Want Rule → Next FindStage Want Rule
goes_with (Ok want) = goes (Wanted want)
goes_with (Err rule) = refuses rule

-- `want F C M`
abbrev pub after_want : List ℕ → Result Want Rule
after_want line = want_by (numbers_after (codes "want") 3 (words_of line))

-- a line after those that were read
abbrev pub find_step : FindStage → List ℕ → Next FindStage Want Rule
find_step Unread line = if bytes_eq line (codes "find 1") then goes Begun else refuses Form
find_step Begun line = goes_with (after_want line)
find_step (Wanted want) line = if bytes_eq line (codes "end") then ends want else refuses Form

-- the wants, unless the line with that number follows them
abbrev pub unless_followed : Option ℕ → Want → Result Want (At Rule)
unless_followed None want = Ok want
unless_followed (Some number) want = Err (record { line = number; rule = Form })

-- the wants of a part, after which only skipped lines may stand
abbrev pub alone : Result (Found Want) (At Rule) → Result Want (At Rule)
alone (Ok found) = unless_followed (first_unskipped (1 + found.taken) found.behind) found.value
alone (Err refusal) = Err refusal

-- the wants of an input that is a find part, or the first line that fails
abbrev pub want_of : List ℕ → Result Want (At Rule)
want_of input = alone (part_from (with_skips find_step Form) Form Unread 0 1 (lines_of input))

-- what wants are that were read
pub record IsFit (want : Want) : Type 0 where
  pub faults : want.faults ≤ 85
  pub least_modulus : 2 ≤ want.modulus
  pub most_modulus : want.modulus ≤ 2 ^ 40
  pub some : 1 ≤ want.most
  pub most : want.most ≤ 256
