-- Bytes that do not decide a part or a text: what follows does.
use Rattle.std.proofs.Common.{◌≡◌, ℕ, ◌+◌, ◌-◌, ◌≤◌, Bool, true, false, List, [], ◌∷◌, ◌++◌, length}
use Rattle.std.proofs.Common.{Option, Result, Ok, Err, refl, ap, ◌∙◌, arith}
use Rattle.texts.specs.Lines.{lines_of, whole_lines}
use Rattle.texts.specs.Parts.{Next, Found, At, part_from}
use Rattle.texts.specs.Limits.{Limited, by, with_limit, room_of, behind_lines}
use Rattle.texts.specs.EndedTexts.{with_length, ended_lines, alone, then_alone}
use Rattle.texts.specs.Pending.{IsBehind}
use Rattle.texts.proofs.LineByLine.{PartsLines, lines_part, whole_part}
use Rattle.texts.proofs.Pending.{EndsAt, goes_behind, ends_behind, whole_few}
use Rattle.edge_io.specs.EndedReads.{RefusedOnlyAt}
use Rattle.edge_io.specs.PendingLaws.{PendingPartGoesOn, RefusedBehind, PendingTextGoesOn}

pub part_goes_on : (S V R : Type 0) → PendingPartGoesOn S V R
part_goes_on S V R step form start first limit before bytes h longer rest =
    goes_behind step form lines_of lines_part start first (limit - before) bytes longer rest
    (let within = h.room.within in omega (arith, within)) h.lines

parts_lines : (longer : Bool) → PartsLines (ended_lines longer)
parts_lines true = lines_part
parts_lines false = whole_part

module _ {S V R : Type 0} (step : S → List ℕ → Next S V R) (form : R) (start : S) (limit : ℕ)
    (bytes : List ℕ) (longer : Bool) (rest : List ℕ) where
  abbrev part : (longer : Bool) → List (List ℕ) → Result (Found (Option ℕ × V)) (At (Limited R))
  part longer lines =
      part_from (with_limit (with_length step form)) (by form) (room_of longer limit, start) 0 1
      lines

  abbrev whole : ℕ
  whole = length (whole_lines bytes)

  alone_behind : (number : ℕ) (room : Option ℕ) (value : V) (lines : List (List ℕ))
      → whole ≤ number → RefusedBehind whole (alone form (number + 1) room value lines)
  alone_behind number room value [] h = tt
  alone_behind number room value (line ∷ lines) h = omega (arith, h)

  -- the part is refused, or ends, after the whole lines
  then_behind : (r : Result (Found (Option ℕ × V)) (At (Limited R))) → IsBehind 1 whole r
      → RefusedBehind whole (then_alone step form (bytes ++ rest) r)
  then_behind (Ok found) h =
      alone_behind found.taken found.value.0 found.value.1
      (lines_of (behind_lines found.taken (bytes ++ rest))) (omega (arith, h))
  then_behind (Err at) h = omega (arith, h)

  -- the part ends with the last of them
  then_alone_behind : (taken : ℕ) → whole ≤ taken
      → (r : Result (Found (Option ℕ × V)) (At (Limited R))) → EndsAt taken r
      → RefusedBehind whole (then_alone step form (bytes ++ rest) r)
  then_alone_behind taken most (Ok found) h =
      alone_behind found.taken found.value.0 found.value.1
      (lines_of (behind_lines found.taken (bytes ++ rest))) (omega (arith, h, most))
  then_alone_behind taken most (Err at) h = absurd h

  -- if the part ended so far, nothing but the open line stands after it
  taken_all : (found : Found (Option ℕ × V)) (lines : List (List ℕ))
      → lines_of (behind_lines found.taken bytes) ≡ lines
      → RefusedOnlyAt (1 + whole) form
      (alone form (found.taken + 1) (found.value.0) (found.value.1) lines)
      → whole ≤ found.taken
  taken_all found [] is h = whole_few found.taken bytes is
  taken_all found (line ∷ lines) is h =
      let same : found.taken + 1 ≡ 1 + whole = ap (λ (a : At (Limited R)). a.line) h in
      omega (arith, same)

  by_part : length bytes ≤ limit
      → (r : Result (Found (Option ℕ × V)) (At (Limited R))) → part false (whole_lines bytes) ≡ r
      → RefusedOnlyAt (1 + whole) form (then_alone step form bytes r)
      → RefusedBehind whole (then_alone step form (bytes ++ rest)
      (part longer (ended_lines longer (bytes ++ rest))))
  by_part within (Ok found) is h =
      then_alone_behind found.taken
      (taken_all found (lines_of (behind_lines found.taken bytes)) refl h)
      (part longer (ended_lines longer (bytes ++ rest)))
      (ends_behind (with_length step form) form (ended_lines longer) (parts_lines longer) start 1
      limit bytes longer rest within found is)
  by_part within (Err at) is h =
      then_behind (part longer (ended_lines longer (bytes ++ rest)))
      (goes_behind (with_length step form) form (ended_lines longer) (parts_lines longer) start 1
      limit bytes longer rest within
      (is ∙ ap (λ (a : At (Limited R)). Err a) h))

pub text_goes_on : (S V R : Type 0) → PendingTextGoesOn S V R
text_goes_on S V R step form start limit bytes h longer rest =
    by_part step form start limit bytes longer rest (let within = h.room.within in
    omega (arith, within))
    (part step form start limit bytes longer rest false (whole_lines bytes)) refl h.lines
