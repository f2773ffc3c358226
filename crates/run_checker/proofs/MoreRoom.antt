-- A line that is refused within a limit is refused within a greater one.
use Rattle.std.proofs.Common.{◌≡◌, ℕ, ◌+◌, ◌-◌, ◌≤◌, Bool, true, false, cond, List, [], ◌∷◌, Option}
use Rattle.std.proofs.Common.{Some, Result, Ok, Err, refl, sym, ap, ◌∙◌, arith}
use Rattle.std.specs.Prelude.{nat_le}
use Rattle.std.proofs.lemmas.Bool.{leb-true, le-leb, true≢false}
use Rattle.texts.specs.Lines.{lines_of}
use Rattle.texts.specs.Parts.{Next, goes, ends, refuses, Found, At, part_from}
use Rattle.texts.specs.Limits.{Limited, by, beyond, line_cost, with_limit, with_rest, behind_lines}
use Rattle.texts.specs.EndedTexts as texts
use Rattle.texts.specs.EndedTexts.{with_length, then_alone}
use Rattle.run_checker.specs.declared.Verdict.{Verdict}
use Rattle.run_checker.specs.Checking.{Stage, Onward, unread, line_step}
use Rattle.run_checker.specs.Checks.{checked_by}

-- a part of lines, and what is left of the limit after it
abbrev Part : Type 0
Part = Result (Found (Option ℕ × Verdict)) (At (Limited (Unit {0})))

abbrev LimitedNext : Type 0
LimitedNext = Next (Option ℕ × Stage) (Option ℕ × Verdict) (Limited (Unit {0}))

abbrev part_within : (room : ℕ) → Stage → (taken number : ℕ) → List (List ℕ) → Part
part_within room s taken number lines =
    part_from (with_limit (with_length line_step tt)) (by tt) (Some room, s) taken number lines

-- the same was found, and as much is left of the limit, or more
record FoundMore (found : Found (Option ℕ × Verdict)) (other : Part) : Type 0 where
  less : ℕ
  more : ℕ
  room : found.value.0 ≡ Some less
  within : less ≤ more
  same : other ≡ Ok (record {
    value = (Some more, found.value.1);
    taken = found.taken;
    behind = found.behind;
  })

-- what is found or refused, and not beyond the limit, is so in the other too
abbrev Grows : (part other : Part) → Type 0
Grows (Ok found) other = FoundMore found other
Grows (Err at) other = at.rule ≡ by tt → other ≡ Err at

abbrev is_rule : Limited (Unit {0}) → Bool
is_rule (by r) = true
is_rule beyond = false

not_both : (r : Limited (Unit {0})) → r ≡ beyond → r ≡ by tt → ⊥
not_both r hidden shown = true≢false (sym (ap is_rule shown) ∙ ap is_rule hidden)

module _ (line : List ℕ) (lines : List (List ℕ)) (taken number : ℕ) where
  abbrev after : LimitedNext → Part
  after next = elim next [
    | goes t ↦ part_from (with_limit (with_length line_step tt)) (by tt) t (taken + 1) (number + 1)
        lines
    | ends v ↦ Ok (record { value = v; taken = taken + 1; behind = lines })
    | refuses r ↦ Err (record { line = number; rule = r })
  ]

  -- the lines after it grow
  abbrev Behind : (m l : ℕ) → Type 0
  Behind m l = (t : Stage)
      → Grows (part_within m t (taken + 1) (number + 1) lines)
      (part_within l t (taken + 1) (number + 1) lines)

  next_grows : (next : Onward) (m l : ℕ) → m ≤ l → Behind m l
      → Grows (after (with_rest (Some m) next)) (after (with_rest (Some l) next))
  next_grows (goes t) m l le behind = behind t
  next_grows (ends v) m l le behind =
      record { less = m; more = l; room = refl; within = le; same = refl }
  next_grows (refuses r) m l le behind = λ e. refl

  line_grows : (next : Onward) (a b : Bool) (m l : ℕ) → nat_le (line_cost line) m ≡ a
      → nat_le (line_cost line) l ≡ b → m ≤ l → Behind (m - line_cost line) (l - line_cost line)
      → Grows (after (cond a (with_rest (Some (m - line_cost line)) next) (refuses beyond)))
      (after (cond b (with_rest (Some (l - line_cost line)) next) (refuses beyond)))
  line_grows next false b m l is other le behind = λ e. absurd (not_both beyond refl e)
  line_grows next true true m l is other le behind =
      next_grows next (m - line_cost line) (l - line_cost line) (omega (arith, le)) behind
  line_grows next true false m l is other le behind =
      let shown : line_cost line ≤ m = leb-true (line_cost line) m is in
      absurd (true≢false (sym (le-leb (line_cost line) l (omega (arith, shown, le))) ∙ other))

part_grows : (lines : List (List ℕ)) (s : Stage) (taken number m l : ℕ) → m ≤ l
    → Grows (part_within m s taken number lines) (part_within l s taken number lines)
part_grows [] s taken number m l le = λ e. refl
part_grows (line ∷ lines) s taken number m l le =
    line_grows line lines taken number (with_length line_step tt s line)
    (nat_le (line_cost line) m) (nat_le (line_cost line) l) m l refl refl le
    (λ t. part_grows lines t (taken + 1) (number + 1) (m - line_cost line) (l - line_cost line)
    (omega (arith, le)))

-- ---- after the last line

-- the answer that a line is refused
abbrev refused_at : (number : ℕ) → Result Verdict (At (Limited (Unit {0})))
refused_at number = Err (record { line = number; rule = by tt })

abbrev rule_in : Result Verdict (At (Limited (Unit {0}))) → Limited (Unit {0})
rule_in (Ok v) = by tt
rule_in (Err at) = at.rule

shown_grows : (line : List ℕ) (number at : ℕ) (a b : Bool) (m l : ℕ) → nat_le (line_cost line) m ≡ a
    → nat_le (line_cost line) l ≡ b → m ≤ l
    → Err (record { line = at; rule = cond a (by tt) beyond }) ≡ refused_at number
    → Err (record { line = at; rule = cond b (by tt) beyond }) ≡ refused_at number
shown_grows line number at false b m l is other le e = absurd (not_both beyond refl (ap rule_in e))
shown_grows line number at true true m l is other le e = e
shown_grows line number at true false m l is other le e =
    let shown : line_cost line ≤ m = leb-true (line_cost line) m is in
    absurd (true≢false (sym (le-leb (line_cost line) l (omega (arith, shown, le))) ∙ other))

alone_grows : (lines : List (List ℕ)) (v : Verdict) (number at m l : ℕ) → m ≤ l
    → texts.alone tt at (Some m) v lines ≡ refused_at number
    → texts.alone tt at (Some l) v lines ≡ refused_at number
alone_grows [] v number at m l le e = absurd cc
alone_grows (line ∷ lines) v number at m l le e =
    shown_grows line number at (nat_le (line_cost line) m) (nat_le (line_cost line) l) m l refl refl
    le e

module _ (text : List ℕ) (number : ℕ) where
  text_grows : (part other : Part) → Grows part other
      → then_alone line_step tt text part ≡ refused_at number
      → then_alone line_step tt text other ≡ refused_at number
  text_grows (Ok found) other grows e =
      ap (then_alone line_step tt text) grows.same
      ∙ alone_grows (lines_of (behind_lines found.taken text)) found.value.1 number
      (found.taken + 1)
      grows.less grows.more grows.within
      (sym
      (ap
      (λ (room : Option ℕ). texts.alone tt (found.taken + 1) room found.value.1
      (lines_of (behind_lines found.taken text)))
      grows.room)
      ∙ e)
  text_grows (Err at) other grows e =
      let is : at ≡ record { line = number; rule = by tt } = cc in
      ap (then_alone line_step tt text) (grows (ap (λ (a : At (Limited (Unit {0}))). a.rule) is))
      ∙ e

  pub more_room : (longer : Bool) (m l : ℕ) → m ≤ l → checked_by m longer text ≡ refused_at number
      → checked_by l longer text ≡ refused_at number
  more_room false m l le e = e
  more_room true m l le e =
      text_grows (part_within m unread 0 1 (lines_of text))
      (part_within l unread 0 1 (lines_of text))
      (part_grows (lines_of text) unread 0 1 m l le) e
