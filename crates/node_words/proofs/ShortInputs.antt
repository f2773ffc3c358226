-- No header is too long in an input that is not longer than a header may be.
use Rattle.std.proofs.Common.{◌≡◌, ◌≢◌, ℕ, ◌+◌, ◌≤◌, List, [], ◌∷◌, length, Option, None}
use Rattle.std.proofs.Common.{Result, Ok, Err, refl, sym, ap, subst, ◌∙◌}
use Rattle.std.proofs.lemmas.Bool.{le-ltb}
use Rattle.texts.specs.Lines.{lines_of}
use Rattle.texts.specs.Parts.{Next, goes, ends, refuses, with_skips, Found, At, part_from}
use Rattle.texts.specs.Limits.{Limited, by, beyond, with_rest, with_limit, room_of, longest_input}
use Rattle.edge_io.specs.FedParts.{limited_part}
use Rattle.sync_types.specs.declared.answers.Rule.{Rule}
use Rattle.sync_types.specs.declared.answers.Rule.TheVariants as rule
use Rattle.node_words.specs.declared.header_lines.NodeHeader.{NodeHeader}
use Rattle.node_words.specs.declared.headers.HeaderRefusal.{HeaderRefusal}
use Rattle.node_words.specs.NodePart.{header_step, nothing_read}
use Rattle.node_words.specs.HeaderParts.{PlanPart, HeaderOf, behind_node, behind_plan, header_in}
use Rattle.node_words.specs.HeaderParts.{plan_refused, node_refused}
use Rattle.node_words.specs.Constructions.{Words}
use Rattle.node_words.specs.Skips.{IsShort}

-- ---- a part without a limit is not beyond it

abbrev IsBy : {R : Type 0} → Limited R → Type 0
IsBy (by r) = Unit {0}
IsBy beyond = ⊥

abbrev IsRoomless : {V R : Type 0} → Result (Found (Option ℕ × V)) (At (Limited R)) → Type 0
IsRoomless (Ok found) = found.value.0 ≡ None
IsRoomless (Err at) = IsBy at.rule

module _ {S V R : Type 0} (step : S → List ℕ → Next S V R) (form : R) where
  abbrev AreRoomless : List (List ℕ) → Type 0
  AreRoomless lines = (s : S) (taken number : ℕ)
      → IsRoomless (limited_part step form s taken number None lines)

  by_next : (lines : List (List ℕ)) → AreRoomless lines → (taken number : ℕ) (next : Next S V R)
      → IsRoomless (elim (with_rest None next)
      as (λ _. Result (Found (Option ℕ × V)) (At (Limited R))) [
        | goes t ↦ part_from (with_limit step) (by form) t (taken + 1) (number + 1) lines
        | ends v ↦ Ok (record { value = v; taken = taken + 1; behind = lines })
        | refuses r ↦ Err (record { line = number; rule = r })
      ])
  by_next lines rest taken number (goes t) = rest t (taken + 1) (number + 1)
  by_next lines rest taken number (ends v) = refl
  by_next lines rest taken number (refuses r) = tt

  roomless : (lines : List (List ℕ)) → AreRoomless lines
  roomless [] s taken number = tt
  roomless (line ∷ lines) s taken number =
      by_next lines (roomless lines) taken number (step s line)

-- ---- headers

module _ {Reader Plan Premise : Type 0} (plans : PlanPart Reader Plan Premise) where
  abbrev Read : Type 0
  Read = Result (HeaderOf Plan) (Option (HeaderRefusal Premise))

  abbrev long : Read
  long = Err None

  some_node : (line : ℕ) (r : Limited Rule) → IsBy r
      → (let refused : Read = Err (node_refused line r) in refused) ≢ long
  some_node line (by r) is same = absurd cc
  some_node line beyond is same = is

  some_plan : (line : ℕ) (r : Limited Premise) → IsBy r
      → (let refused : Read = Err (plan_refused line r) in refused) ≢ long
  some_plan line (by r) is same = absurd cc
  some_plan line beyond is same = is

  short_node : (plan : Plan) (lines : ℕ)
      (r : Result (Found (Option ℕ × NodeHeader)) (At (Limited Rule))) → IsRoomless r
      → (let read : Read = behind_node plan lines r in read) ≢ long
  short_node plan lines (Ok found) is same = absurd cc
  short_node plan lines (Err at) is same = some_node at.line at.rule is same

  short_plan : (r : Result (Found (Option ℕ × Plan)) (At (Limited Premise))) → IsRoomless r
      → behind_plan plans r ≢ long
  short_plan (Ok found) is same =
      let step = with_skips header_step rule.Form in
      let start = nothing_read (plans.shape (found.value.1)) in
      short_node (found.value.1) found.taken
      (limited_part step rule.Form start 0 (1 + found.taken) (found.value.0) found.behind)
      (subst (λ room.
      IsRoomless (limited_part step rule.Form start 0 (1 + found.taken) room found.behind)) (sym is)
      (roomless step rule.Form found.behind start 0 (1 + found.taken))) same
  short_plan (Err at) is same = some_plan at.line at.rule is same

pub short_inputs : {Reader Plan Premise : Type 0} (words : Words Reader Plan Premise)
    (input : List ℕ) → length input ≤ longest_input → IsShort words input
short_inputs words input few same =
    let plans = words.part in
    let room = ap (λ b. room_of b longest_input) (le-ltb longest_input (length input) few) in
    short_plan plans
    (limited_part (with_skips plans.step plans.form) plans.form plans.unread 0 1 None
    (lines_of input))
    (roomless (with_skips plans.step plans.form) plans.form (lines_of input) plans.unread 0 1)
    (ap (λ r. header_in plans r (lines_of input)) (sym room) ∙ same)
