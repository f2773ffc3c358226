-- The lines of a part that were read so far, and that what was read does not decide it.
use Rattle.std.proofs.Common.{◌≡◌, inr, ℕ, ◌+◌, ◌-◌, ◌≤◌, Bool, true, false, List, [], ◌∷◌, ◌++◌}
use Rattle.std.proofs.Common.{length, Option, Err, refl, sym, ap, ◌∙◌, append_assoc, append-nil}
use Rattle.std.proofs.Common.{length-append, subst, arith}
use Rattle.std.specs.Io.KnownBytes.{Consumes}
use Rattle.std.proofs.KnownBytes.{Consumes-nil}
use Rattle.texts.specs.Lines.{is_one_line, whole_lines}
use Rattle.texts.specs.Parts.{Next}
use Rattle.texts.specs.Limits.{by, room_of, behind_lines}
use Rattle.texts.specs.Pending.{MayGoOn, AllButLast, IsShown}
use Rattle.texts.specs.Words.{open_rest}
use Rattle.texts.proofs.LineByLine.{PartsLines, whole_part, whole_open}
use Rattle.texts.proofs.OpenLines.{open_behind, newline_shows}
use Rattle.edge_io.specs.FedParts.{limited_part, fed_part, PartPending}

module _ {S V R : Type 0} (step : S → List ℕ → Next S V R) (form : R) (start : S)
    (first limit before : ℕ) (old : Option (List ℕ)) where
  -- these lines were read, and the part goes on
  pub record Standing (now : Option (List ℕ)) (s : S) (number lines counted : ℕ) : Type 0 where
    pub bytes : List ℕ
    pub read : Consumes old now bytes
    pub count : counted ≡ before + length bytes
    pub within : counted ≤ limit
    pub numbered : number ≡ first + lines
    pub few : lines ≤ length bytes
    pub so_far : (split : List ℕ → List (List ℕ)) → PartsLines split
        → (longer : Bool) (rest : List ℕ)
        → fed_part step form start first limit before longer (split (bytes ++ rest))
        ≡ limited_part step form s lines number (room_of longer (limit - counted)) (split rest)
    pub counts : (rest : List ℕ)
        → length (whole_lines (bytes ++ rest)) ≡ lines + length (whole_lines rest)
    pub behind : (m : ℕ) (rest : List ℕ)
        → behind_lines (lines + m) (bytes ++ rest) ≡ behind_lines m rest

  pub stands_first : before ≤ limit → Standing old start first 0 before
  stands_first room = record {
    bytes = [];
    read = Consumes-nil old;
    count = omega arith;
    within = room;
    numbered = omega arith;
    few = omega arith;
    so_far = λ split parts longer rest. refl;
    counts = λ rest. omega arith;
    behind = λ m rest. let e : 0 + m ≡ m = omega arith in ap (λ n. behind_lines n rest) e;
  }

  module _ (now : Option (List ℕ)) (s : S) (number lines counted : ℕ)
      (stands : Standing now s number lines counted) where
    -- if a line is open after them, as many lines are whole
    pub open_counts : (line : List ℕ) → is_one_line line ≡ true
        → length (whole_lines (stands.bytes ++ line)) ≡ lines + 0
    open_counts line one =
        stands.counts line ∙ ap (λ (ls : List (List ℕ)). lines + length ls) (whole_open line one)

    -- and that line stands after the last newline
    pub open_is : (line : List ℕ) → is_one_line line ≡ true
        → open_rest (stands.bytes ++ line) ≡ line
    open_is line one =
        let text = stands.bytes ++ line in
        open_behind text ∙ ap (λ n. behind_lines n text) (open_counts line one)
        ∙ stands.behind 0 line

    pub may_go_on : (line : List ℕ) → is_one_line line ≡ true → length line ≤ 4096
        → counted + length line ≤ limit → MayGoOn limit before (stands.bytes ++ line)
    may_go_on line one short within =
        record {
          short = subst (λ (l : List ℕ). length l ≤ 4096) (sym (open_is line one)) short;
          within = omega (arith, length-append stands.bytes line, stands.count, within);
        }

    -- a line shows at its newline, and at its byte 4097
    pub newline_here : (line : List ℕ) → IsShown (stands.bytes ++ (line ++ 10 ∷ []))
    newline_here line =
        subst (λ (l : List ℕ). IsShown l) (append_assoc stands.bytes line (10 ∷ []))
        (newline_shows (stands.bytes ++ line))

    pub long_shows : (more : List ℕ) → is_one_line more ≡ true → length more ≡ 4097
        → IsShown (stands.bytes ++ more)
    long_shows more one size = inr (ap length (open_is more one) ∙ size)

    -- they and the open line do not show what decides the part
    pub pending : (line : List ℕ) → is_one_line line ≡ true → length line ≤ 4096
        → counted + length line ≤ limit
        → PartPending step form start first limit before (stands.bytes ++ line)
    pending line one short within =
        let next : number ≡ first + length (whole_lines (stands.bytes ++ line)) =
        omega (arith, stands.numbered, open_counts line one) in
        record {
          lines = stands.so_far whole_lines whole_part false line ∙ rw (whole_open line one) refl
              ∙ ap (λ n. Err (record { line = n; rule = by form })) next;
          room = may_go_on line one short within;
        }

    pub pending_end : PartPending step form start first limit before stands.bytes
    pending_end =
        subst (λ (l : List ℕ). PartPending step form start first limit before l)
        (append-nil stands.bytes) (pending [] refl (omega arith) (omega (arith, stands.within)))

    -- and with one more byte, all but the last do not
    pub but_last : (line : List ℕ) (b : ℕ) → is_one_line line ≡ true → length line ≤ 4096
        → counted + length line ≤ limit
        → AllButLast (λ bs. PartPending step form start first limit before bs)
        (stands.bytes ++ (line ++ b ∷ []))
    but_last line b one short within = record {
      front = stands.bytes ++ line;
      last = b;
      parts = sym (append_assoc stands.bytes line (b ∷ []));
      pending = pending line one short within;
    }
