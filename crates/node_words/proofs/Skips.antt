-- A skipped line changes nothing of a header, within a limit too.
use Rattle.std.proofs.Common.{◌≡◌, ◌≢◌, ℕ, zero, suc, ◌+◌, ◌-◌, ◌<◌, ◌≤◌, Bool, true, false}
use Rattle.std.proofs.Common.{List, [], ◌∷◌, ◌++◌, length, Option, Some, None, Result, Ok, Err}
use Rattle.std.proofs.Common.{All, refl, sym, ap, ◌∙◌, append_assoc, arith}
use Rattle.std.specs.Prelude.{if◌then◌else◌}
use Rattle.std.proofs.lemmas.Bool.{le-ltb}
use Rattle.std.proofs.lemmas.List.Elements.{All-head, All-tail}
use Rattle.texts.specs.Lines.{lines_of, is_one_line}
use Rattle.texts.specs.Words.{text_of}
use Rattle.texts.specs.Parts.{Next, goes, ends, refuses, is_skipped, with_skips, Found, At}
use Rattle.texts.specs.Parts.{part_from}
use Rattle.texts.specs.Limits.{Limited, by, beyond, shows, less, with_rest, with_limit, room_in}
use Rattle.texts.specs.Limits.{longest_input}
use Rattle.texts.specs.Limits.{behind_lines}
use Rattle.texts.proofs.LineByLine.{line_first, behind_line}
use Rattle.edge_io.specs.FedParts.{limited_part}
use Rattle.sync_types.specs.declared.answers.Rule.{Rule}
use Rattle.sync_types.specs.declared.answers.Rule.TheVariants as rule
use Rattle.node_words.specs.declared.header_lines.NodeHeader.{NodeHeader}
use Rattle.node_words.specs.declared.headers.HeaderRefusal.{HeaderRefusal}
use Rattle.node_words.specs.declared.headers.HeaderRefusal.TheVariants as refusal
use Rattle.node_words.specs.NodePart.{header_step, nothing_read}
use Rattle.node_words.specs.HeaderParts.{PlanPart, HeaderOf, behind_node, behind_plan, header_in}
use Rattle.node_words.proofs.Unlimited.{without_room}
use Rattle.node_words.specs.Constructions.{Words}
use Rattle.node_words.specs.NodeAnswers.{packets_for, served_outcome, behind_header}
use Rattle.node_words.specs.NodeAnswers.{node_outcome}
use Rattle.node_words.specs.Calls.{whole, header_of}
use Rattle.node_words.specs.Skips.{with_line, moved_header, IsShort}
use Rattle.node_words.specs.Skips.{HeaderSkipsAreUnseen}
use Rattle.node_words.proofs.SkippedLines.{Moves, IsBlind, behind, then_next, part_is_blind, stays}
use Rattle.node_words.proofs.SkippedLines.{goes_on}
use Rattle.node_words.proofs.ShortInputs.{short_inputs}

-- ---- what is decided within a limit is so without one

-- a part without a limit gives what it gives within one, unless that is too small
abbrev by_rule : {V R : Type 0} → (line : ℕ) → Limited R → Result (Found V) (At R) → Type 0
by_rule line (by r) plain = plain ≡ Err (record { line = line; rule = r })
by_rule line beyond plain = Unit {0}

abbrev IsAs : {V R : Type 0} → Result (Found (Option ℕ × V)) (At (Limited R))
    → Result (Found V) (At R) → Type 0
IsAs (Ok found) plain = plain ≡ Ok (without_room found)
IsAs (Err at) plain = by_rule at.line at.rule plain

module _ {S V R : Type 0} (step : S → List ℕ → Next S V R) (form : R) where
  abbrev AreAs : (lines : List (List ℕ)) → Type 0
  AreAs lines = (room : Option ℕ) (s : S) (taken number : ℕ)
      → IsAs (limited_part step form s taken number room lines)
      (part_from step form s taken number lines)

  as_by : (line : List ℕ) (lines : List (List ℕ)) → AreAs lines
      → (room : Option ℕ) (taken number : ℕ) (test : Bool) (next : Next S V R)
      → IsAs (elim (if test then with_rest room next else refuses beyond)
      as (λ _. Result (Found (Option ℕ × V)) (At (Limited R))) [
        | goes t ↦ part_from (with_limit step) (by form) t (taken + 1) (number + 1) lines
        | ends v ↦ Ok (record { value = v; taken = taken + 1; behind = lines })
        | refuses r ↦ Err (record { line = number; rule = r })
      ])
      (elim next as (λ _. Result (Found V) (At R)) [
        | goes t ↦ part_from step form t (taken + 1) (number + 1) lines
        | ends v ↦ Ok (record { value = v; taken = taken + 1; behind = lines })
        | refuses r ↦ Err (record { line = number; rule = r })
      ])
  as_by line lines rest room taken number true (goes t) = rest room t (taken + 1) (number + 1)
  as_by line lines rest room taken number true (ends v) = refl
  as_by line lines rest room taken number true (refuses r) = refl
  as_by line lines rest room taken number false next = tt

  are_as : (lines : List (List ℕ)) → AreAs lines
  are_as [] room s taken number = refl
  are_as (line ∷ lines) room s taken number =
      as_by line lines (are_as lines) (less room line) taken number (shows room line) (step s line)

-- ---- a header without a limit

module _ {Reader Plan Premise : Type 0} (plans : PlanPart Reader Plan Premise) where
  abbrev Read : Type 0
  Read = Result (HeaderOf Plan) (Option (HeaderRefusal Premise))

  -- the end of a header, whose lines stand before this number
  abbrev at_end : (plan : Plan) → (node : NodeHeader) → (number : ℕ) → List (List ℕ) → Read
  at_end plan node number lines = Ok (record { plan = plan; node = node; lines = number - 1 })

  as_lines : (plan : Plan) (node : NodeHeader) {a b : ℕ} → a ≡ b
      → (let r : Read = Ok (record { plan = plan; node = node; lines = a }) in r)
      ≡ Ok (record { plan = plan; node = node; lines = b })
  as_lines plan node same =
      ap (λ n. let r : Read = Ok (record { plan = plan; node = node; lines = n }) in r) same

  end_is_blind : (line : List ℕ) (plan : Plan) (node : NodeHeader)
      → IsBlind moved_header line (at_end plan node)
  end_is_blind line plan node = record {
    later = λ k number lines lt.
        let one : number + 1 - 1 ≡ number - 1 + 1 = omega (arith, lt) in
        as_lines plan node (one ∙ sym (goes_on k (number - 1) (omega (arith, lt))));
    among = λ before lines k number at.
        as_lines plan node (sym (stays k (number - 1) (omega (arith, at))));
  }

  abbrev refuse_plan : At Premise → Read
  refuse_plan at = Err (Some (refusal.Plan at.line at.rule))

  abbrev refuse_node : At Rule → Read
  refuse_node at = Err (Some (refusal.Node at.line at.rule))

  abbrev node_from : (plan : Plan) → (number : ℕ) → List (List ℕ) → Read
  node_from plan =
      then_next refuse_node (at_end plan) (with_skips header_step rule.Form) rule.Form
      (nothing_read (plans.shape plan))

  abbrev plain : (number : ℕ) → List (List ℕ) → Read
  plain =
      then_next refuse_plan node_from (with_skips plans.step plans.form) plans.form plans.unread

  too_long : {A : Type 0} → (let r : Read = Err None in r) ≢ Err None → A
  too_long other = absurd (other refl)

  node_is : (plan : Plan) (taken : ℕ)
      (r : Result (Found (Option ℕ × NodeHeader)) (At (Limited Rule)))
      (s : Result (Found NodeHeader) (At Rule)) → IsAs r s
      → (let made : Read = behind_node plan taken r in made) ≢ Err None
      → behind_node plan taken r ≡ behind refuse_node (at_end plan) (1 + taken) s
  node_is plan taken (Ok found) s is short =
      let one : taken + found.taken ≡ 1 + taken + found.taken - 1 = omega arith in
      as_lines plan found.value.1 one
      ∙ ap (behind refuse_node (at_end plan) (1 + taken)) (sym is)
  node_is plan taken (Err at) s is short = by_rules at.line at.rule is short where
    by_rules : (line : ℕ) (r : Limited Rule) → by_rule line r s
        → (let made : Read =
        behind_node plan taken (Err (record { line = line; rule = r })) in made) ≢ Err None
        → behind_node plan taken (Err (record { line = line; rule = r }))
        ≡ behind refuse_node (at_end plan) (1 + taken) s
    by_rules line (by r) is short = ap (behind refuse_node (at_end plan) (1 + taken)) (sym is)
    by_rules line beyond is short = too_long short

  plan_is : (r : Result (Found (Option ℕ × Plan)) (At (Limited Premise)))
      (s : Result (Found Plan) (At Premise)) → IsAs r s → behind_plan plans r ≢ Err None
      → behind_plan plans r ≡ behind refuse_plan node_from 1 s
  plan_is (Ok found) s is short =
      let start = nothing_read (plans.shape (found.value.1)) in
      node_is (found.value.1) found.taken
      (limited_part (with_skips header_step rule.Form) rule.Form start 0 (1 + found.taken)
      (found.value.0) found.behind)
      (part_from (with_skips header_step rule.Form) rule.Form start 0 (1 + found.taken)
      found.behind)
      (are_as (with_skips header_step rule.Form) rule.Form found.behind (found.value.0) start 0
      (1 + found.taken)) short
      ∙ ap (behind refuse_plan node_from 1) (sym is)
  plan_is (Err at) s is short = by_rules at.line at.rule is short where
    by_rules : (line : ℕ) (r : Limited Premise) → by_rule line r s
        → behind_plan plans (Err (record { line = line; rule = r })) ≢ Err None
        → behind_plan plans (Err (record { line = line; rule = r }))
        ≡ behind refuse_plan node_from 1 s
    by_rules line (by r) is short = ap (behind refuse_plan node_from 1) (sym is)
    by_rules line beyond is short = too_long short

  -- a header that is not too long is read so
  plain_is : (room : Option ℕ) (lines : List (List ℕ)) → header_in plans room lines ≢ Err None
      → header_in plans room lines ≡ plain 1 lines
  plain_is room lines short =
      let step = with_skips plans.step plans.form in
      plan_is (limited_part step plans.form plans.unread 0 1 room lines)
      (part_from step plans.form plans.unread 0 1 lines)
      (are_as step plans.form lines room plans.unread 0 1) short

  -- ---- with one more line

  module _ (line : List ℕ) (skipped : is_skipped line ≡ true) (short : length line ≤ 4096) where
    passes : {S V R : Type 0} (step : S → List ℕ → Next S V R) (form : R) (s : S)
        → with_skips step form s line ≡ goes s
    passes step form s = rw (le-ltb 4096 (length line) short, skipped) refl

    plan_moves : Moves moved_header refuse_plan
    plan_moves k number premise = refl

    node_moves : Moves moved_header refuse_node
    node_moves k number rule = refl

    plain_is_blind : IsBlind moved_header line plain
    plain_is_blind =
        part_is_blind moved_header line (with_skips plans.step plans.form) plans.form
        (passes plans.step plans.form) refuse_plan plan_moves node_from
        (λ plan.
        part_is_blind moved_header line (with_skips header_step rule.Form) rule.Form
        (passes header_step rule.Form) refuse_node node_moves (at_end plan)
        (end_is_blind line plan) (nothing_read (plans.shape plan)))
        plans.unread

-- ---- lines of a text

abbrev IsOne : List ℕ → Type 0
IsOne line = is_one_line line ≡ true

abbrev AreLines : List (List ℕ) → Type 0
AreLines lines = All IsOne lines

one_first : (line rest behind : List ℕ)
    → ((line ++ 10 ∷ []) ++ rest) ++ behind ≡ line ++ 10 ∷ (rest ++ behind)
one_first line rest behind =
    append_assoc (line ++ 10 ∷ []) rest behind ∙ append_assoc line (10 ∷ []) (rest ++ behind)

lines_are : (before : List (List ℕ)) (rest : List ℕ) → AreLines before
    → lines_of (text_of before ++ rest) ≡ before ++ lines_of rest
lines_are [] rest are = refl
lines_are (line ∷ before) rest are =
    ap lines_of (one_first line (text_of before) rest)
    ∙ line_first line (text_of before ++ rest) (All-head IsOne line before are)
    ∙ ap (λ lines. line ∷ lines) (lines_are before rest (All-tail IsOne line before are))

-- what stands after so many lines stands there with the new one too
behind_are : (before : List (List ℕ)) (line rest : List ℕ) → AreLines before
    → is_one_line line ≡ true → (m : ℕ) → length before ≤ m
    → behind_lines (m + 1) (with_line before line rest) ≡ behind_lines m (text_of before ++ rest)
behind_are [] line rest are one m le =
    let e : m + 1 ≡ suc m = omega arith in
    ap (λ k. behind_lines k (line ++ 10 ∷ rest)) e ∙ behind_line m line rest one
behind_are (first ∷ before) line rest are one zero le = absurd (omega (arith, le))
behind_are (first ∷ before) line rest are one (suc m) le =
    let e : suc m + 1 ≡ suc (m + 1) = omega arith in
    let new = with_line before line rest in
    let old = text_of before ++ rest in
    let plain_first = All-head IsOne first before are in
    ap (λ k. behind_lines k (with_line (first ∷ before) line rest)) e
    ∙ ap (behind_lines (suc (m + 1))) (one_first first (text_of before) (line ++ 10 ∷ rest))
    ∙ behind_line (m + 1) first new plain_first
    ∙ behind_are before line rest (All-tail IsOne first before are) one m (omega (arith, le))
    ∙ sym (ap (behind_lines (suc m)) (one_first first (text_of before) rest)
    ∙ behind_line m first old plain_first)

-- ---- inputs

module _ {Reader Plan Premise : Type 0} (words : Words Reader Plan Premise)
    (before : List (List ℕ)) (line rest : List ℕ) (are : AreLines before)
    (one : is_one_line line ≡ true) (skipped : is_skipped line ≡ true)
    (few : length line ≤ 4096) (short : IsShort words (text_of before ++ rest))
    (short_too : IsShort words (with_line before line rest)) where
  abbrev old : List ℕ
  old = text_of before ++ rest

  abbrev new : List ℕ
  new = with_line before line rest

  abbrev n : ℕ
  n = length before

  header : header_of words (whole new) ≡ moved_header n (header_of words (whole old))
  header =
      plain_is words.part (room_in longest_input new) (lines_of new) short_too
      ∙ ap (plain words.part 1)
      (lines_are before (line ++ 10 ∷ rest) are
      ∙ ap (λ lines. before ++ lines) (line_first line rest one))
      ∙ (plain_is_blind words.part line skipped few).among before (lines_of rest) n 1 (omega arith)
      ∙ ap (λ r. moved_header n r)
      (ap (plain words.part 1) (sym (lines_are before rest are))
      ∙ sym (plain_is words.part (room_in longest_input old) (lines_of old) short))

  module _ (h : HeaderOf Plan) (is : header_of words (whole old) ≡ Ok h) (lt : n < h.lines) where
    header_new : header_of words (whole new)
        ≡ Ok (record { plan = h.plan; node = h.node; lines = h.lines + 1 })
    header_new =
        header ∙ ap (λ r. moved_header n r) is
        ∙ as_lines words.part h.plan h.node (goes_on n h.lines lt)

    outcome : node_outcome words new ≡ node_outcome words old
    outcome =
        ap (behind_header words new) header_new
        ∙ ap (λ (bytes : List ℕ). served_outcome words h (packets_for words h bytes))
        (behind_are before line rest are one h.lines (omega (arith, lt)))
        ∙ sym (ap (behind_header words old) is)

pub header_skips : {Reader Plan Premise : Type 0} (words : Words Reader Plan Premise)
    → HeaderSkipsAreUnseen words
header_skips words = record {
  unseen = λ before line rest are one skipped few short short_too. record {
    header = header words before line rest are one skipped few short short_too;
    outcome = outcome words before line rest are one skipped few short short_too;
  };
  short = short_inputs words;
}
