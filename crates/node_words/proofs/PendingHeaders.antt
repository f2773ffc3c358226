-- What does not show what decides a part of a header does not show what decides the header.
use Rattle.std.proofs.Common.{◌≡◌, ◌⊎◌, ℕ, ◌+◌, Bool, true, false, List, [], ◌∷◌, ◌++◌, length}
use Rattle.std.proofs.Common.{Option, refl, sym, ap, ◌∙◌, subst, append_assoc, arith}
use Rattle.texts.specs.Lines.{whole_lines}
use Rattle.texts.specs.Parts.{Next, with_skips}
use Rattle.texts.specs.Pending.{AllButLast, AtOnce}
use Rattle.texts.specs.Words.{open_rest}
use Rattle.texts.specs.Limits.{longest_input}
use Rattle.edge_io.specs.declared.fed_parts.FedPart.{FedPart}
use Rattle.edge_io.specs.FedParts.{PartPending, WholePart}
use Rattle.edge_io.proofs.Chains.{counts_behind, goes_on_behind}
use Rattle.sync_types.specs.declared.answers.Rule.{Rule}
use Rattle.sync_types.specs.declared.answers.Rule.TheVariants as rule
use Rattle.node_words.specs.declared.header_lines.NodeHeader.{NodeHeader}
use Rattle.node_words.specs.declared.headers.HeaderRefusal.TheVariants as refusal
use Rattle.node_words.specs.NodePart.{HeaderSoFar, header_step, nothing_read}
use Rattle.node_words.specs.HeaderParts.{PlanPart, behind_plan, behind_node}
use Rattle.node_words.specs.FedHeaders.{HeaderPending}

-- the steps of the parts over all lines
abbrev pub plan_line : {Reader Plan Premise : Type 0} → PlanPart Reader Plan Premise
    → Reader → List ℕ → Next Reader Plan Premise
plan_line plans = with_skips plans.step plans.form

abbrev pub node_line : HeaderSoFar → List ℕ → Next HeaderSoFar NodeHeader Rule
node_line = with_skips header_step rule.Form

-- what is so of all bytes but the last is so after others
module _ (P Q : List ℕ → Type 0) (front : List ℕ)
    (from : (bs : List ℕ) → P bs → Q (front ++ bs)) where
  pub all_but_last : (bytes : List ℕ) → AllButLast P bytes → AllButLast Q (front ++ bytes)
  all_but_last bytes h = record {
    front = front ++ h.front;
    last = h.last;
    parts =
        ap (λ (l : List ℕ). front ++ l) h.parts
        ∙ sym (append_assoc front h.front (h.last ∷ []));
    pending = from h.front h.pending;
  }

  pub at_once : ((bs : List ℕ) → open_rest (front ++ bs) ≡ open_rest bs)
      → (ended : Bool) (bytes : List ℕ) → AtOnce ended P bytes → AtOnce ended Q (front ++ bytes)
  at_once opens true bytes h = from bytes h
  at_once opens false bytes (h, shown) = (
    all_but_last bytes h,
    subst (λ (l : List ℕ). (l ≡ []) ⊎ (length l ≡ 4097)) (sym (opens bytes)) shown,
  )

module _ {Reader Plan Premise : Type 0} (plans : PlanPart Reader Plan Premise) where
  -- in the plan
  abbrev pub PlanPending : List ℕ → Type 0
  PlanPending bytes = PartPending (plan_line plans) plans.form plans.unread 1 longest_input 0 bytes

  pub pending_first : (bytes : List ℕ) → PlanPending bytes → HeaderPending plans bytes
  pending_first bytes p = record {
    refusal = refusal.Plan (1 + length (whole_lines bytes)) plans.form;
    lines = ap (behind_plan plans) p.lines;
    behind = refl;
    room = p.room;
  }

  -- in the node part
  module _ (s t : Option (List ℕ)) (after : ℕ) (x : FedPart Plan)
      (w : WholePart (plan_line plans) plans.form plans.unread 1 longest_input 0 after s t x)
      (goes_on : w.decided.ended ≡ false) where
    abbrev pub NodePending : List ℕ → Type 0
    NodePending bytes =
        PartPending node_line rule.Form (nothing_read (plans.shape x.value)) (1 + x.lines)
        longest_input
        after
        bytes

    pub pending_second : (bytes : List ℕ) → NodePending bytes
        → HeaderPending plans (w.decided.bytes ++ bytes)
    pending_second bytes p =
        let lines = counts_behind (plan_line plans) plans.form plans.unread 1 longest_input 0
        after s t x w goes_on bytes in
        record {
          refusal = refusal.Node (1 + x.lines + length (whole_lines bytes)) rule.Form;
          lines = ap (behind_plan plans) (w.whole goes_on bytes)
              ∙ ap (behind_node x.value x.lines) p.lines;
          behind = omega (arith, lines);
          room = goes_on_behind (plan_line plans) plans.form plans.unread 1 longest_input 0
              after s t x w goes_on bytes p.room;
        }
