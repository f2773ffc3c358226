use Rattle.std.proofs.Common.{◌≡◌, ◌+◌, ◌-◌, ℕ, Some, None, List, ◌∷◌, length, take, drop}
use Rattle.std.proofs.Common.{length-drop, eqb, sym, ap, ◌∙◌, arith}
use Rattle.std.specs.List.{position}
use Rattle.std.proofs.lemmas.List.{take_all}
use Rattle.texts.specs.Lines.{whole_lines}
use Rattle.texts.proofs.Lines.{found, found_in}
use Rattle.texts.specs.Words.{open_rest}
use Rattle.texts.proofs.FirstLines.{whole_at, none_whole}
use Rattle.plan_certificate.specs.EndedLines.{HasNoLine, HasFirstLine}
use Rattle.plan_certificate.proofs.table_reading.first_ended.Goals as goal

no_line : (text : List ℕ) → position (λ b. eqb b 10) text ≡ None → HasNoLine text
no_line text e = let h = none_whole text e in record { lines = h.0; rest = h.1 }

a_line : (text : List ℕ) (i : ℕ) → position (λ b. eqb b 10) text ≡ Some i
    → HasFirstLine text (take i text) (take (length text - (i + 1)) (drop (i + 1) text))
a_line text i e =
    let h = whole_at text i e in
    let lt = found_in (λ b. eqb b 10) text i e in
    let place = found (λ b. eqb b 10) text i e in
    let size = length-drop (i + 1) text in
    let all : take (length text - (i + 1)) (drop (i + 1) text) ≡ drop (i + 1) text =
    take_all _ _ (omega (arith, size)) in
    record {
      lines = h.0 ∙ ap (λ t. take i text ∷ whole_lines t) (sym all);
      rest = h.1 ∙ ap open_rest (sym all);
      shorter = rw all (omega (arith, size, lt, place));
    }

pub returns-in_err-end : goal.returns-in_err-end
returns-in_err-end c =
    rw c.from_residual.ensures
    (no_line c.args.text.now (sym c.newline_in.ensures ∙ c.in_err-end.was))

pub returns : goal.returns
returns c = a_line c.args.text.now c.in_ok-end.end (sym c.newline_in.ensures ∙ c.in_ok-end.was)
