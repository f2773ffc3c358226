-- How reading a table text ends.
use Rattle.std.proofs.Common.{◌≡◌, ℕ, ◌+◌, ◌-◌, ◌<◌, ◌≤◌, List, [], ◌∷◌, ◌++◌, length, Some, None}
use Rattle.std.proofs.Common.{Ok, Err, Result, refl, sym, ap, ◌∙◌, arith}
use Rattle.std.specs.Prelude.{true, false, ◌==◌}
use Rattle.std.proofs.lemmas.Bool.{eqb-true}
use Rattle.texts.specs.Lines.{whole_lines}
use Rattle.texts.specs.Parts.{Next, goes, ends, refuses, Found, At, part_from}
use Rattle.texts.specs.Words.{text_of, open_rest}
use Rattle.texts.proofs.Texts.{whole_text}
use Rattle.sync_types.specs.declared.answers.Cause.{Cause}
use Rattle.sync_types.specs.declared.answers.Cause.TheVariants.{Premise}
use Rattle.sync_types.specs.declared.answers.Premise.TheVariants.{Form}
use Rattle.construction.specs.Plans.{Plan}
use Rattle.edge_io.specs.declared.taking.TakeError.TheVariants as take
use Rattle.edge_io.specs.Taking.{Takes}
use Rattle.plan_certificate.specs.declared.table_stages.TableStage.{TableStage}
use Rattle.plan_certificate.specs.declared.table_stages.TableStage.TheVariants.{Unread}
use Rattle.plan_certificate.specs.TableLines.{table_step, alone, unless_followed, table_of}
use Rattle.plan_certificate.specs.EndedLines.{HasNoLine, HasFirstLine}

-- what is read from a stage on
abbrev pub read_from : TableStage → (number : ℕ) → List (List ℕ) → Result (Found Plan) (At Cause)
read_from s number lines = part_from table_step (Premise Form) s (number - 1) number lines

-- the lines up to this number were read, and this is left
pub record IsReadTo (text : List ℕ) (s : TableStage) (number : ℕ) (rest : List ℕ) : Type 0 where
  pub some : 1 ≤ number
  pub so_far : read_from s number (whole_lines rest)
      ≡ part_from table_step (Premise Form) Unread 0 1 (whole_lines text)
  pub behind : open_rest rest ≡ open_rest text

module _ (text : List ℕ) (s : TableStage) (number : ℕ) (rest : List ℕ)
    (is : IsReadTo text s number rest) where
  answer : table_of text ≡ alone (open_rest rest) (read_from s number (whole_lines rest))
  answer = rw (is.so_far, is.behind) refl

  -- no line is left
  pub none_left : HasNoLine rest
      → table_of text ≡ Err (record { line = number; rule = Premise Form })
  none_left none = answer ∙ rw none.lines refl

  module _ (line behind : List ℕ) (first : HasFirstLine rest line behind) where
    pub refused_there : (cause : Cause) → table_step s line ≡ refuses cause
        → table_of text ≡ Err (record { line = number; rule = cause })
    refused_there cause at = answer ∙ rw (first.lines, part_from, at) refl

    onward : (t : TableStage) → table_step s line ≡ goes t
        → read_from s number (whole_lines rest)
        ≡ part_from table_step (Premise Form) t (number - 1 + 1) (number + 1) (whole_lines behind)
    onward t at = rw (first.lines, part_from, at) refl

    pub goes_on : (t : TableStage) → table_step s line ≡ goes t
        → IsReadTo text t (number + 1) behind
    goes_on t at =
        let some = is.some in
        let taken : number - 1 + 1 ≡ number + 1 - 1 = omega (arith, some) in
        record {
          some = omega arith;
          so_far = rw (← taken) (sym (onward t at) ∙ is.so_far);
          behind = sym first.rest ∙ is.behind;
        }

    ended : (plan : Plan) → table_step s line ≡ ends plan
        → table_of text ≡ unless_followed (whole_lines behind) (open_rest behind) plan number
    ended plan at =
        let some = is.some in
        let taken : number - 1 + 1 ≡ number = omega (arith, some) in
        answer ∙ rw (first.lines, part_from, at, first.rest, taken) refl

    pub ends_there : (plan : Plan) → table_step s line ≡ ends plan → behind ≡ []
        → table_of text ≡ Ok plan
    ends_there plan at none = ended plan at ∙ rw none refl

    followed : (lines : List (List ℕ)) (more : List ℕ) (plan : Plan)
        → 0 < length (text_of lines ++ more)
        → unless_followed lines more plan number
        ≡ Err (record { line = number + 1; rule = Premise Form })
    followed [] [] plan lt = absurd (omega arith)
    followed [] (b ∷ more) plan lt = refl
    followed (l ∷ lines) more plan lt = refl

    pub is_followed : (plan : Plan) → table_step s line ≡ ends plan → 0 < length behind
        → table_of text ≡ Err (record { line = number + 1; rule = Premise Form })
    is_followed plan at more =
        let some : 0 < length (text_of (whole_lines behind) ++ open_rest behind) =
        omega (arith, more, ap length (whole_text behind)) in
        ended plan at ∙ followed (whole_lines behind) (open_rest behind) plan some

-- what a reader's answer says of the step
pub takes_more : (next : Next TableStage Plan Cause) (new : TableStage) → Takes next new (Ok None)
    → next ≡ goes new
takes_more (goes t) new h = ap goes (sym h)
takes_more (ends v) new h = absurd h
takes_more (refuses r) new h = absurd h

pub takes_last : (next : Next TableStage Plan Cause) (new : TableStage) (plan : Plan)
    → Takes next new (Ok (Some plan)) → next ≡ ends plan
takes_last (goes t) new plan h = absurd h
takes_last (ends v) new plan h = ap ends (sym h)
takes_last (refuses r) new plan h = absurd h

pub takes_none : (next : Next TableStage Plan Cause) (new : TableStage) (cause : Cause)
    → Takes next new (Err (take.Refused cause)) → next ≡ refuses cause
takes_none (goes t) new cause h = absurd h
takes_none (ends v) new cause h = absurd h
takes_none (refuses r) new cause h = ap refuses (sym h)

-- what a test for bytes says
pub no_bytes : (bytes : List ℕ) → (length bytes == 0) ≡ true → bytes ≡ []
no_bytes [] e = refl
no_bytes (b ∷ bytes) e =
    let n : length (b ∷ bytes) ≡ 0 = eqb-true _ _ e in absurd (omega (arith, n))

pub some_bytes : (bytes : List ℕ) → (length bytes == 0) ≡ false → 0 < length bytes
some_bytes [] e = absurd cc
some_bytes (b ∷ bytes) e = omega arith
