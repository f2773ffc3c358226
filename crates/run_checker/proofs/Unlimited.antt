-- A text that is not longer than its limit is answered as if there were none.
use Rattle.std.proofs.Common.{◌≡◌, ℕ, zero, suc, ◌+◌, ◌<◌, ◌≤◌, Bool, true, false, cond, eqb, List}
use Rattle.std.proofs.Common.{[], ◌∷◌, ◌++◌, length, drop, Option, None, Result, Ok, Err, refl, sym}
use Rattle.std.proofs.Common.{ap, ap₂, ◌∙◌, arith}
use Rattle.std.proofs.lemmas.Bool.{le-ltb, ltb-true, leb-true}
use Rattle.texts.specs.Lines.{lines_of, whole_from, whole_lines}
use Rattle.texts.specs.Parts.{goes, ends, refuses, Found, At, part_from}
use Rattle.texts.specs.Limits.{Limited, by, with_limit, with_rest, behind_lines}
use Rattle.texts.specs.EndedTexts as texts
use Rattle.texts.specs.EndedTexts.{with_length, then_alone}
use Rattle.texts.proofs.Lines.{lines_of_first}
use Rattle.texts.specs.Words.{text_of, open_from, open_rest}
use Rattle.texts.proofs.Texts.{whole_text}
use Rattle.run_checker.specs.declared.Verdict.{Verdict}
use Rattle.run_checker.specs.Items.{item_of}
use Rattle.run_checker.specs.Checking.{Stage, Onward, unread, refused, step_by, line_step}
use Rattle.run_checker.specs.Checking.{alone, checked}
use Rattle.texts.specs.Lines.{words_of}
use Rattle.std.specs.Prelude.{nat_le, nat_lt}
use Rattle.run_checker.specs.Checks.{checked_by, checked_within, unlimited, LimitsMatterBeyond}

-- ---- lines

-- after so many whole lines stand the others, and what has no newline
pub record Behind (front text : List ℕ) (n : ℕ) : Type 0 where
  pub lines : whole_lines (behind_lines (suc n) text) ≡ drop (suc n) (whole_from front text)
  pub rest : open_rest (behind_lines (suc n) text) ≡ open_from front text

behind_by : (newline : Bool) (front : List ℕ) (b : ℕ) (bs : List ℕ) (n : ℕ) → eqb b 10 ≡ newline
    → suc n ≤ length (cond newline (front ∷ whole_from [] bs) (whole_from (front ++ b ∷ []) bs))
    → ((m : ℕ) → n ≡ suc m → suc m ≤ length (whole_from [] bs) → Behind [] bs m)
    → (suc n ≤ length (whole_from (front ++ b ∷ []) bs) → Behind (front ++ b ∷ []) bs n)
    → Behind front (b ∷ bs) n
behind_by true front b bs zero is le line more = record { lines = rw is refl; rest = rw is refl }
behind_by true front b bs (suc m) is le line more =
    let h = line m refl (omega (arith, le)) in record { lines = rw is h.lines; rest = rw is h.rest }
behind_by false front b bs n is le line more =
    let h = more le in record { lines = rw is h.lines; rest = rw is h.rest }

pub behind : (front text : List ℕ) (n : ℕ) → suc n ≤ length (whole_from front text)
    → Behind front text n
behind front [] n le = absurd (omega arith)
behind front (b ∷ bs) n le =
    behind_by (eqb b 10) front b bs n refl le (λ m e. behind [] bs m)
    (behind (front ++ b ∷ []) bs n)

-- ---- the steps

-- what a step does without a limit
abbrev limited : Result (Found Verdict) (At (Unit {0}))
    → Result (Found (Option ℕ × Verdict)) (At (Limited (Unit {0})))
limited (Ok found) =
    Ok (record { value = (None, found.value); taken = found.taken; behind = found.behind })
limited (Err at) = Err (record { line = at.line; rule = by at.rule })

short_by : (b : Bool) (s : Stage) (line : List ℕ) → nat_lt 4096 (length line) ≡ b
    → cond b refused (line_step s line) ≡ line_step s line
short_by false s line is = refl
short_by true s line is = long (nat_le (length line) 4096) refl where
  long : (c : Bool) → nat_le (length line) 4096 ≡ c → refused ≡ line_step s line
  long true e =
      let above : 4096 < length line = ltb-true 4096 (length line) is in
      let within : length line ≤ 4096 = leb-true (length line) 4096 e in
      absurd (omega (arith, above, within))
  long false e = sym (ap (λ (c : Bool). step_by s (cond c (item_of (words_of line)) None)) e)

part_same : (lines : List (List ℕ)) (s : Stage) (taken number : ℕ)
    → part_from (with_limit (with_length line_step tt)) (by tt) (None, s) taken number lines
    ≡ limited (part_from line_step tt s taken number lines)
part_same [] s taken number = refl
part_same (line ∷ lines) s taken number =
    ap
    (λ (next : Onward). elim (with_rest None next) as
    (λ _. Result (Found (Option ℕ × Verdict)) (At (Limited (Unit {0})))) [
      | goes t ↦ part_from (with_limit (with_length line_step tt)) (by tt) t (taken + 1)
          (number + 1) lines
      | ends v ↦ Ok (record { value = v; taken = taken + 1; behind = lines })
      | refuses r ↦ Err (record { line = number; rule = r })
    ]) (short_by (nat_lt 4096 (length line)) s line refl)
    ∙ by_step (line_step s line) (λ t. part_same lines t (taken + 1) (number + 1)) where
      by_step : (next : Onward)
          →
          ((t : Stage)
          → part_from (with_limit (with_length line_step tt)) (by tt) (None, t) (taken + 1)
          (number + 1) lines
          ≡ limited (part_from line_step tt t (taken + 1) (number + 1) lines))
          → elim (with_rest None next) as
          (λ _. Result (Found (Option ℕ × Verdict)) (At (Limited (Unit {0})))) [
            | goes t ↦ part_from (with_limit (with_length line_step tt)) (by tt) t (taken + 1)
                (number + 1) lines
            | ends v ↦ Ok (record { value = v; taken = taken + 1; behind = lines })
            | refuses r ↦ Err (record { line = number; rule = r })
          ] ≡ limited (elim next [
            | goes t ↦ part_from line_step tt t (taken + 1) (number + 1) lines
            | ends v ↦ Ok (record { value = v; taken = taken + 1; behind = lines })
            | refuses r ↦ Err (record { line = number; rule = r })
          ])
      by_step (goes t) more = more t
      by_step (ends v) more = refl
      by_step (refuses r) more = refl

-- ---- what is found

record FoundIn (lines : List (List ℕ)) (taken : ℕ) (found : Found Verdict) : Type 0 where
  n : ℕ
  count : found.taken ≡ taken + suc n
  within : suc n ≤ length lines
  behind : found.behind ≡ drop (suc n) lines

abbrev taken_in : Result (Found Verdict) (At (Unit {0})) → ℕ
taken_in (Ok found) = found.taken
taken_in (Err at) = 0

abbrev behind_in : Result (Found Verdict) (At (Unit {0})) → List (List ℕ)
behind_in (Ok found) = found.behind
behind_in (Err at) = []

found_next : (next : Onward) (line : List ℕ) (lines : List (List ℕ)) (taken number : ℕ)
    (found : Found Verdict)
    →
    ((t : Stage) → part_from line_step tt t (taken + 1) (number + 1) lines ≡ Ok found
    → FoundIn lines (taken + 1) found)
    → elim next as (λ _. Result (Found Verdict) (At (Unit {0}))) [
      | goes t ↦ part_from line_step tt t (taken + 1) (number + 1) lines
      | ends v ↦ Ok (record { value = v; taken = taken + 1; behind = lines })
      | refuses r ↦ Err (record { line = number; rule = r })
    ] ≡ Ok found → FoundIn (line ∷ lines) taken found
found_next (goes t) line lines taken number found more e =
    let h = more t e in
    record {
      n = suc h.n;
      count = omega (arith, h.count);
      within = omega (arith, h.within);
      behind = h.behind;
    }
found_next (ends v) line lines taken number found more e = record {
  n = 0;
  count = omega (arith, ap taken_in e);
  within = omega arith;
  behind = sym (ap behind_in e);
}
found_next (refuses r) line lines taken number found more e = absurd cc

found_in : (lines : List (List ℕ)) (s : Stage) (taken number : ℕ) (found : Found Verdict)
    → part_from line_step tt s taken number lines ≡ Ok found → FoundIn lines taken found
found_in [] s taken number found e = absurd cc
found_in (line ∷ lines) s taken number found e =
    found_next (line_step s line) line lines taken number found
    (λ t. found_in lines t (taken + 1) (number + 1) found) e

-- ---- what stands after the last line

followed : (v : Verdict) (k : ℕ) (lines : List (List ℕ)) (rest : List ℕ)
    → 0 < length (text_of lines ++ rest)
    → alone rest (Ok (record { value = v; taken = k; behind = lines })) ≡ Err (k + 1)
followed v k [] [] some = absurd (omega arith)
followed v k (line ∷ lines) [] some = refl
followed v k lines (b ∷ rest) some = refl

some_line : (v : Verdict) (k : ℕ) (lines : List (List ℕ)) → 0 < length lines
    → texts.alone {R = Unit {0}} tt (k + 1) None v lines
    ≡ Err (record { line = k + 1; rule = by tt })
some_line v k [] some = absurd (omega arith)
some_line v k (line ∷ lines) some = refl

ends_same : (v : Verdict) (k : ℕ) (text : List ℕ)
    → texts.alone {R = Unit {0}} tt (k + 1) None v (lines_of text)
    ≡ unlimited
    (alone (open_rest text) (Ok (record { value = v; taken = k; behind = whole_lines text })))
ends_same v k [] = refl
ends_same v k (b ∷ bs) =
    let first = lines_of_first (b ∷ bs) (omega arith) in
    some_line v k (lines_of (b ∷ bs)) (omega (arith, ap length first))
    ∙ sym
    (ap unlimited
    (followed v k (whole_lines (b ∷ bs)) (open_rest (b ∷ bs))
    (omega (arith, ap length (whole_text (b ∷ bs))))))

module _ (text : List ℕ) where
  found_same : (found : Found Verdict) → FoundIn (whole_lines text) 0 found
      → texts.alone {R = Unit {0}} tt (found.taken + 1) None found.value
      (lines_of (behind_lines found.taken text))
      ≡ unlimited (alone (open_rest text) (Ok found))
  found_same found h =
      let b = behind [] text h.n h.within in
      let count : found.taken ≡ suc h.n = omega (arith, h.count) in
      let rest : open_rest (behind_lines found.taken text) ≡ open_rest text = rw count b.rest in
      let lines : whole_lines (behind_lines found.taken text)
      ≡ found.behind = rw (count, h.behind) b.lines in
      ends_same found.value found.taken (behind_lines found.taken text)
      ∙ ap₂
      (λ (o : List ℕ) (l : List (List ℕ)). unlimited
      (alone o (Ok (record { value = found.value; taken = found.taken; behind = l }))))
      rest lines

  part_answer : (part : Result (Found Verdict) (At (Unit {0})))
      → ((found : Found Verdict) → part ≡ Ok found → FoundIn (whole_lines text) 0 found)
      → then_alone line_step tt text (limited part) ≡ unlimited (alone (open_rest text) part)
  part_answer (Ok found) is = found_same found (is found refl)
  part_answer (Err at) is = refl

  within_is : (limit : ℕ) → length text ≤ limit
      → checked_within limit text ≡ unlimited (checked text)
  within_is limit le =
      let short : nat_lt limit (length text) ≡ false = le-ltb limit (length text) le in
      ap (λ (b : Bool). checked_by limit b text) short
      ∙ ap (then_alone line_step tt text) (part_same (whole_lines text) unread 0 1)
      ∙ part_answer (part_from line_step tt unread 0 1 (whole_lines text))
      (found_in (whole_lines text) unread 0 1)

pub limits_matter_beyond : LimitsMatterBeyond
limits_matter_beyond limit text le = within_is text limit le
