-- Bytes that do not show what decides a part: what follows does.
use Rattle.std.proofs.Common.{◌≡◌, ℕ, zero, suc, ◌+◌, ◌-◌, ◌≤◌, min, Bool, true, false, eqb, not}
use Rattle.std.proofs.Common.{List, [], ◌∷◌, ◌++◌, length, Option, Some, None, Result, Ok, Err}
use Rattle.std.proofs.Common.{refl, sym, ap, ◌∙◌, subst, append_assoc, length-append, arith}
use Rattle.std.proofs.lemmas.Bool.{le-leb, eqb-true}
use Rattle.std.proofs.lemmas.List.Folds.{list_all-append}
use Rattle.texts.specs.Lines.{lines_of, is_one_line, whole_from, whole_lines}
use Rattle.texts.specs.Parts.{Next, goes, ends, refuses, Found, At, part_from}
use Rattle.texts.specs.Limits.{Limited, by, shows, less, room_of, with_rest, with_limit}
use Rattle.texts.specs.Limits.{behind_lines}
use Rattle.texts.specs.Pending.{IsBehind}
use Rattle.texts.specs.Words.{open_from}
use Rattle.texts.proofs.LineByLine.{PartsLines, longer_line}

-- a text is its whole lines, and the lines from the open one on
module _ (split : List ℕ → List (List ℕ)) (parts : PartsLines split) (rest : List ℕ) where
  abbrev Parted : (acc bytes : List ℕ) → Type 0
  Parted acc bytes =
      is_one_line acc ≡ true
      → split (acc ++ (bytes ++ rest)) ≡ whole_from acc bytes ++ split (open_from acc bytes ++ rest)

  parted_by : (acc : List ℕ) (b : ℕ) (bs : List ℕ) (test : Bool) → eqb b 10 ≡ test
      → Parted [] bs → Parted (acc ++ b ∷ []) bs → Parted acc (b ∷ bs)
  parted_by acc b bs true is first more one =
      rw is (
      ap (λ (c : ℕ). split (acc ++ c ∷ (bs ++ rest))) (eqb-true b 10 is)
      ∙ parts acc (bs ++ rest) one
      ∙ ap (λ (ls : List (List ℕ)). acc ∷ ls) (first refl)
      )
  parted_by acc b bs false is first more one =
      let longer : is_one_line (acc ++ b ∷ []) ≡ true =
      list_all-append (λ c. not (eqb c 10)) acc (b ∷ []) ∙ rw (one, is) refl in
      rw is (ap split (sym (append_assoc acc (b ∷ []) (bs ++ rest))) ∙ more longer)

  parted : (acc bytes : List ℕ) → Parted acc bytes
  parted acc [] one = refl
  parted acc (b ∷ bs) one =
      parted_by acc b bs (eqb b 10) refl (parted [] bs) (parted (acc ++ b ∷ []) bs) one

-- the bytes of lines, newlines included
abbrev bytes_of : List (List ℕ) → ℕ
bytes_of [] = 0
bytes_of (line ∷ lines) = length line + 1 + bytes_of lines

abbrev Sized : (acc bytes : List ℕ) → Type 0
Sized acc bytes = bytes_of (whole_from acc bytes) ≤ length acc + length bytes

sized_by : (acc : List ℕ) (b : ℕ) (bs : List ℕ) (test : Bool) → eqb b 10 ≡ test
    → Sized [] bs → Sized (acc ++ b ∷ []) bs → Sized acc (b ∷ bs)
sized_by acc b bs true is first more =
    let goal : length acc + 1 + bytes_of (whole_from [] bs) ≤ length acc + length (b ∷ bs) =
    omega (arith, first) in
    rw is goal
sized_by acc b bs false is first more =
    let goal : bytes_of (whole_from (acc ++ b ∷ []) bs) ≤ length acc + length (b ∷ bs) =
    omega (arith, more, length-append acc (b ∷ [])) in
    rw is goal

sized : (acc bytes : List ℕ) → Sized acc bytes
sized acc [] = omega arith
sized acc (b ∷ bs) =
    sized_by acc b bs (eqb b 10) refl (sized [] bs) (sized (acc ++ b ∷ []) bs)

-- so many bytes are within the room
abbrev HasRoomFor : Option ℕ → ℕ → Type 0
HasRoomFor None n = Unit {0}
HasRoomFor (Some left) n = n ≤ left

fits_shown : (room : Option ℕ) (line : List ℕ) (n : ℕ) → HasRoomFor room (length line + 1 + n)
    → shows room line ≡ true
fits_shown None line n h = refl
fits_shown (Some left) line n h = le-leb (min (length line + 1) 4097) left (omega (arith, h))

fits_less : (room : Option ℕ) (line : List ℕ) (n : ℕ) → HasRoomFor room (length line + 1 + n)
    → HasRoomFor (less room line) n
fits_less None line n h = tt
fits_less (Some left) line n h =
    let goal : n ≤ left - min (length line + 1) 4097 = omega (arith, h) in goal

fits_of : (longer : Bool) (left n : ℕ) → n ≤ left → HasRoomFor (room_of longer left) n
fits_of true left n h = h
fits_of false left n h = tt

-- the part ends with so many lines
abbrev pub EndsAt : {V R : Type 0} → ℕ → Result (Found V) (At R) → Type 0
EndsAt lines (Ok found) = found.taken ≡ lines
EndsAt lines (Err at) = ⊥

behind_less : {V R : Type 0} (first n : ℕ) (r : Result (Found V) (At R)) → IsBehind first (n + 1) r
    → IsBehind first n r
behind_less first n (Ok found) h = omega (arith, h)
behind_less first n (Err at) h = omega (arith, h)

-- what a line makes of a part
abbrev onward : {S V R : Type 0} → (S → List ℕ → Next S V R) → R → (taken number : ℕ)
    → List (List ℕ) → Next S V R → Result (Found V) (At R)
onward step form taken number lines (goes t) =
    part_from step form t (taken + 1) (number + 1) lines
onward step form taken number lines (ends v) =
    Ok (record { value = v; taken = taken + 1; behind = lines })
onward step form taken number lines (refuses r) = Err (record { line = number; rule = r })

module _ {S V R : Type 0} (step : S → List ℕ → Next S V R) (form : R) where
  line_made : (s : S) (taken number : ℕ) (line : List ℕ) (lines : List (List ℕ)) (next : Next S V R)
      → step s line ≡ next
      → part_from step form s taken number (line ∷ lines) ≡ onward step form taken number lines next
  line_made s taken number line lines (goes t) is = rw (part_from, is) refl
  line_made s taken number line lines (ends v) is = rw (part_from, is) refl
  line_made s taken number line lines (refuses r) is = rw (part_from, is) refl

  -- a part ends, or is refused, at one of the lines that are read
  later : (first : ℕ) (lines : List (List ℕ)) (s : S) (taken number : ℕ) → number ≡ first + taken
      → IsBehind first taken (part_from step form s taken number lines)
  later first [] s taken number at = omega (arith, at)
  later first (line ∷ lines) s taken number at =
      let goal : Next S V R → Type 0 = λ next.
      IsBehind first taken (onward step form taken number lines next) in
      let further : (t : S) → goal (goes t) = λ t.
      behind_less first taken (part_from step form t (taken + 1) (number + 1) lines)
      (later first lines t (taken + 1) (number + 1) (omega (arith, at))) in
      let cases : (next : Next S V R) → goal next = λ next. elim next as goal [
        | goes t ↦ further t
        | ends v ↦ omega arith
        | refuses r ↦ omega (arith, at)
      ] in
      subst (λ r. IsBehind first taken r)
      (sym (line_made s taken number line lines (step s line) refl))
      (cases (step s line))

-- the line of a refusal
abbrev refused_line : {V R : Type 0} → Result (Found V) (At R) → ℕ
refused_line (Ok found) = 0
refused_line (Err at) = at.line

module _ {S V R : Type 0} (step : S → List ℕ → Next S V R) (form : R) where
  abbrev full : (Option ℕ × S) → List ℕ → Next (Option ℕ × S) (Option ℕ × V) (Limited R)
  full = with_limit step

  -- a line within the room
  shown_made : (room : Option ℕ) (s : S) (line : List ℕ) → shows room line ≡ true
      → full (room, s) line ≡ with_rest (less room line) (step s line)
  shown_made room s line shown = rw shown refl

  -- if lines alone lack an end, a part with more lines after them comes to these
  goes_by : (first : ℕ) (more lines : List (List ℕ)) (s : S) (taken number : ℕ) (room : Option ℕ)
      → number ≡ first + taken → HasRoomFor room (bytes_of lines)
      → part_from full (by form) (None, s) taken number lines
      ≡ Err (record { line = number + length lines; rule = by form })
      → IsBehind first (taken + length lines)
      (part_from full (by form) (room, s) taken number (lines ++ more))
  goes_by first more [] s taken number room at fits h =
      let none : taken ≡ taken + 0 = omega arith in
      subst (λ n. IsBehind first n (part_from full (by form) (room, s) taken number more)) none
      (later full (by form) first more (room, s) taken number at)
  goes_by first more (line ∷ lines) s taken number room at fits h =
      let far : number + length (line ∷ lines) ≡ number + 1 + length lines = omega arith in
      let last : taken + 1 + length lines ≡ taken + length (line ∷ lines) = omega arith in
      let rest = less room line in
      let there : Result (Found (Option ℕ × V)) (At (Limited R)) =
      Err (record { line = number + length (line ∷ lines); rule = by form }) in
      let goal : Next S V R → Type 0 = λ next.
      onward full (by form) taken number lines (with_rest None next) ≡ there
      → IsBehind first (taken + length (line ∷ lines))
      (onward full (by form) taken number (lines ++ more) (with_rest rest next)) in
      let further : (t : S) → goal (goes t) = λ t k.
      subst (λ n. IsBehind first n
      (part_from full (by form) (rest, t) (taken + 1) (number + 1) (lines ++ more))) last
      (goes_by first more lines t (taken + 1) (number + 1) rest (omega (arith, at))
      (fits_less room line (bytes_of lines) fits) (rw far at k)) in
      let past : (r : R) → goal (refuses r) = λ r k.
      let e : number ≡ number + length (line ∷ lines) = ap refused_line k in
      absurd (omega (arith, e)) in
      let cases : (next : Next S V R) → goal next = λ next. elim next as goal [
        | goes t ↦ further t
        | ends v ↦ λ k. absurd cc
        | refuses r ↦ past r
      ] in
      let made = shown_made room s line (fits_shown room line (bytes_of lines) fits) in
      subst (λ r. IsBehind first (taken + length (line ∷ lines)) r)
      (sym (line_made full (by form) (room, s) taken number line (lines ++ more)
      (with_rest rest (step s line)) made))
      (cases (step s line)
      (sym (line_made full (by form) (None, s) taken number line lines
      (with_rest None (step s line)) refl) ∙ h))

  -- if lines alone are a part, it ends there too
  ends_by : (more lines : List (List ℕ)) (s : S) (taken number : ℕ) (room : Option ℕ)
      (found : Found (Option ℕ × V)) → HasRoomFor room (bytes_of lines)
      → part_from full (by form) (None, s) taken number lines ≡ Ok found
      → EndsAt found.taken (part_from full (by form) (room, s) taken number (lines ++ more))
  ends_by more [] s taken number room found fits h = absurd cc
  ends_by more (line ∷ lines) s taken number room found fits h =
      let rest = less room line in
      let goal : Next S V R → Type 0 = λ next.
      onward full (by form) taken number lines (with_rest None next) ≡ Ok found
      → EndsAt found.taken (onward full (by form) taken number (lines ++ more)
      (with_rest rest next)) in
      let further : (t : S) → goal (goes t) = λ t k.
      ends_by more lines t (taken + 1) (number + 1) rest found
      (fits_less room line (bytes_of lines) fits) k in
      let here : (v : V) → goal (ends v) = λ v k.
      let same : record { value = (None, v); taken = taken + 1; behind = lines } ≡ found = cc in
      ap (λ (f : Found (Option ℕ × V)). f.taken) same in
      let cases : (next : Next S V R) → goal next = λ next. elim next as goal [
        | goes t ↦ further t
        | ends v ↦ here v
        | refuses r ↦ λ k. absurd cc
      ] in
      let made = shown_made room s line (fits_shown room line (bytes_of lines) fits) in
      subst (λ r. EndsAt found.taken r)
      (sym (line_made full (by form) (room, s) taken number line (lines ++ more)
      (with_rest rest (step s line)) made))
      (cases (step s line)
      (sym (line_made full (by form) (None, s) taken number line lines
      (with_rest None (step s line)) refl) ∙ h))

  -- so it is of bytes that begin with such lines
  module _ (split : List ℕ → List (List ℕ)) (parts : PartsLines split) (start : S) (first left : ℕ)
      (bytes : List ℕ) (longer : Bool) (rest : List ℕ) (within : length bytes ≤ left) where
    abbrev part_is : List (List ℕ) → Result (Found (Option ℕ × V)) (At (Limited R))
    part_is lines = part_from full (by form) (room_of longer left, start) 0 first lines

    abbrev more : List (List ℕ)
    more = split (open_from [] bytes ++ rest)

    fits : HasRoomFor (room_of longer left) (bytes_of (whole_lines bytes))
    fits =
        let few = sized [] bytes in
        fits_of longer left (bytes_of (whole_lines bytes)) (omega (arith, few, within))

    pub goes_behind : part_from full (by form) (None, start) 0 first (whole_lines bytes)
        ≡ Err (record { line = first + length (whole_lines bytes); rule = by form })
        → IsBehind first (length (whole_lines bytes)) (part_is (split (bytes ++ rest)))
    goes_behind h =
        let lines = whole_lines bytes in
        let none : 0 + length lines ≡ length lines = omega arith in
        subst (λ ls. IsBehind first (length lines) (part_is ls))
        (sym (parted split parts rest [] bytes refl))
        (subst (λ n. IsBehind first n (part_is (lines ++ more))) none
        (goes_by first more lines start 0 first (room_of longer left) (omega arith) fits h))

    pub ends_behind : (found : Found (Option ℕ × V))
        → part_from full (by form) (None, start) 0 first (whole_lines bytes) ≡ Ok found
        → EndsAt found.taken (part_is (split (bytes ++ rest)))
    ends_behind found h =
        subst (λ ls. EndsAt found.taken (part_is ls)) (sym (parted split parts rest [] bytes refl))
        (ends_by more (whole_lines bytes) start 0 first (room_of longer left) found fits h)

-- if nothing stands after so many lines, no more are whole
few_by : (k : ℕ) (acc : List ℕ) (b : ℕ) (bs : List ℕ) (test : Bool) → eqb b 10 ≡ test
    → (behind_lines k bs ≡ [] → length (whole_from [] bs) ≤ k)
    → (behind_lines (suc k) bs ≡ [] → length (whole_from (acc ++ b ∷ []) bs) ≤ suc k)
    → behind_lines (suc k) (b ∷ bs) ≡ [] → length (whole_from acc (b ∷ bs)) ≤ suc k
few_by k acc b bs true is first more h =
    let few = first (rw is at h) in
    let goal : suc (length (whole_from [] bs)) ≤ suc k = omega (arith, few) in rw is goal
few_by k acc b bs false is first more h = let few = more (rw is at h) in rw is few

few_lines : (k : ℕ) (acc bytes : List ℕ) → behind_lines k bytes ≡ []
    → length (whole_from acc bytes) ≤ k
few_lines k acc [] h = omega arith
few_lines zero acc (b ∷ bs) h = absurd cc
few_lines (suc k) acc (b ∷ bs) h =
    few_by k acc b bs (eqb b 10) refl (few_lines k [] bs) (few_lines (suc k) (acc ++ b ∷ []) bs) h

no_lines : (bytes : List ℕ) → lines_of bytes ≡ [] → bytes ≡ []
no_lines [] h = refl
no_lines (b ∷ bs) h =
    let some = longer_line [] (b ∷ bs) (omega arith) refl in
    let e : some.more ∷ some.lines ≡ [] = sym some.first ∙ h in absurd cc

pub whole_few : (k : ℕ) (bytes : List ℕ) → lines_of (behind_lines k bytes) ≡ []
    → length (whole_lines bytes) ≤ k
whole_few k bytes h = few_lines k [] bytes (no_lines (behind_lines k bytes) h)
