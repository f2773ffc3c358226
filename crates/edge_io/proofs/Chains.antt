-- A part that is read after another one of the same text.
use Rattle.std.proofs.Common.{◌≡◌, ℕ, ◌+◌, ◌≤◌, Bool, true, false, List, ◌++◌, length, Option, None}
use Rattle.std.proofs.Common.{sym, ap, ◌∙◌, length-append, subst, arith}
use Rattle.texts.specs.Lines.{whole_lines}
use Rattle.texts.specs.Parts.{Next}
use Rattle.texts.specs.Limits.{by, with_limit, behind_lines}
use Rattle.texts.specs.Pending.{MayGoOn}
use Rattle.texts.specs.Words.{open_rest}
use Rattle.texts.proofs.LineByLine.{behind_both}
use Rattle.texts.proofs.OpenLines.{open_behind}
use Rattle.texts.proofs.Parts.{counts_all}
use Rattle.edge_io.specs.declared.fed_parts.FedPart.{FedPart}
use Rattle.edge_io.specs.FedParts.{MayFollow, WholePart}

module _ {S V R : Type 0} (step : S → List ℕ → Next S V R) (form : R) (start : S)
    (first limit before after : ℕ) (old new : Option (List ℕ)) (x : FedPart V)
    (w : WholePart step form start first limit before after old new x)
    (goes_on : w.decided.ended ≡ false) where
  -- the whole lines of both
  pub counts_behind : (bytes : List ℕ)
      → length (whole_lines (w.decided.bytes ++ bytes)) ≡ x.lines + length (whole_lines bytes)
  counts_behind bytes =
      let all = counts_all (with_limit step) (by form) (whole_lines (w.decided.bytes ++ bytes))
      (None, start) 0 first
      (record { value = (None, x.value); taken = x.lines; behind = whole_lines bytes })
      (w.whole goes_on bytes) in
      omega (arith, all)

  -- the line that is open is that of the second
  pub open_second : (bytes : List ℕ) → open_rest (w.decided.bytes ++ bytes) ≡ open_rest bytes
  open_second bytes =
      let count = length (whole_lines bytes) in
      let anything : MayFollow w.decided.ended true bytes =
      subst (λ (e : Bool). MayFollow e true bytes) (sym goes_on) tt in
      open_behind (w.decided.bytes ++ bytes)
      ∙ ap (λ n. behind_lines n (w.decided.bytes ++ bytes)) (counts_behind bytes)
      ∙ behind_both x.lines count (w.decided.bytes ++ bytes)
      ∙ ap (behind_lines count) (w.behind true bytes anything)
      ∙ sym (open_behind bytes)

  -- what may go on after the first, may go on
  pub goes_on_behind : (bytes : List ℕ) → MayGoOn limit after bytes
      → MayGoOn limit before (w.decided.bytes ++ bytes)
  goes_on_behind bytes h = record {
    short = subst (λ (l : List ℕ). length l ≤ 4096) (sym (open_second bytes)) h.short;
    within = omega (arith, length-append w.decided.bytes bytes, w.decided.count, h.within);
  }
