-- What reading the line after the last one did.
use Rattle.std.proofs.Common.{◌≡◌, inr, ℕ, ◌+◌, ◌≤◌, true, false, eqb, not, List, [], ◌∷◌, ◌++◌}
use Rattle.std.proofs.Common.{length, Option, Ok, Err, refl, ap, ◌∙◌, append_assoc, append-nil}
use Rattle.std.proofs.Common.{length-append, arith}
use Rattle.std.specs.Io.KnownBytes.{Consumes}
use Rattle.std.proofs.lemmas.Bool.{lt-leb, ne_eqb}
use Rattle.std.proofs.lemmas.List.Folds.{list_all-append}
use Rattle.texts.specs.Lines.{lines_of, is_one_line}
use Rattle.texts.specs.Pending.{AllButLast}
use Rattle.texts.proofs.LineByLine.{line_first, line_last, longer_line}
use Rattle.texts.proofs.OpenLines.{newline_shows, open_alone}
use Rattle.edge_io.specs.declared.feed.Line.TheVariants as how
use Rattle.edge_io.specs.declared.feed.LineFault.TheVariants as fault
use Rattle.edge_io.specs.Feeds.{LineIs}
use Rattle.edge_io.specs.EndedReads.{LinePending, LineBehind, LineBeyond}
use Rattle.edge_io.proofs.FedLines.{shown_by}

module _ (limit before after : ℕ) (old new : Option (List ℕ)) (line : List ℕ)
    (one : is_one_line line ≡ true) (short : length line ≤ 4096) where
  line_pends : before + length line ≤ limit → LinePending limit before line
  line_pends within = record { one = one; short = short; within = within }

  line_but : (b : ℕ) → before + length line ≤ limit
      → AllButLast (λ bs. LinePending limit before bs) (line ++ b ∷ [])
  line_but b within =
      record { front = line; last = b; parts = refl; pending = line_pends within }

  -- a read failed within the line
  pub lost_behind : before ≤ limit → LineIs limit before after old new line (Err fault.ReadFault)
      → (bytes : List ℕ) × Consumes old new bytes × LinePending limit before bytes
  lost_behind room (read, count, within) = (line, read, line_pends (omega (arith, room, within)))

  -- a whole line
  pub whole_behind : LineIs limit before after old new line (Ok how.Whole)
      → LineBehind limit before old new
  whole_behind (read, count, within) =
      let size = length-append line (10 ∷ []) in
      record {
        bytes = line ++ 10 ∷ [];
        ended = false;
        read = read;
        at_end = λ e. absurd cc;
        within = omega (arith, size, count, within);
        at_once = (line_but 10 (omega (arith, count, within)), newline_shows line);
        shown = λ longer rest follows. record {
          line = line;
          behind = lines_of rest;
          is = ap lines_of (append_assoc line (10 ∷ []) rest) ∙ line_first line rest one;
          seen = shown_by longer limit before line (omega (arith, count, within));
        };
      }

  -- a line that ends the input
  pub open_behind : LineIs limit before after old new line (Ok how.Open)
      → LineBehind limit before old new
  open_behind (read, end, some, count, within) = record {
    bytes = line;
    ended = true;
    read = read;
    at_end = λ e. end;
    within = omega (arith, count, within);
    at_once = line_pends (omega (arith, count, within));
    shown = λ longer rest follows. record {
      line = line;
      behind = [];
      is = ap lines_of (ap (λ (l : List ℕ). line ++ l) (follows.0) ∙ append-nil line)
          ∙ line_last line some one;
      seen = rw (follows.1) refl;
    };
  }

  -- a line that is too long
  pub long_behind : LineIs limit before after old new line (Ok how.Long)
      → LineBehind limit before old new
  long_behind (b, other, read, size, count, within) =
      let more = line ++ b ∷ [] in
      let apart : eqb b 10 ≡ false = ne_eqb b 10 other in
      let all : is_one_line more ≡ true =
      list_all-append (λ c. not (eqb c 10)) line (b ∷ []) ∙ rw (one, apart) refl in
      let length_is = length-append line (b ∷ []) in
      record {
        bytes = more;
        ended = false;
        read = read;
        at_end = λ e. absurd cc;
        within = omega (arith, length_is, count, within);
        at_once = (
          line_but b (omega (arith, count, within)),
          inr (ap length (open_alone more all) ∙ omega (arith, length_is, size)),
        );
        shown = λ longer rest follows.
            let h = longer_line more rest (omega (arith, length_is)) all in
            record {
              line = more ++ h.more;
              behind = h.lines;
              is = h.first;
              seen = shown_by longer limit before (more ++ h.more)
                  (omega (arith, count, within, size));
            };
      }

  -- a byte after the limit
  pub beyond_behind : before ≤ limit → LineIs limit before after old new line (Err fault.TooLong)
      → LineBeyond limit before old new
  beyond_behind room (b, read, past, count) =
      let length_is = length-append line (b ∷ []) in
      record {
        bytes = line ++ b ∷ [];
        read = read;
        past = omega (arith, length_is, past);
        at_once = line_but b (omega (arith, past, room));
        hidden = λ rest.
            let h = longer_line line (b ∷ rest) (omega arith) one in
            record {
              line = line ++ h.more;
              behind = h.lines;
              is = ap lines_of (append_assoc line (b ∷ []) rest) ∙ h.first;
              seen = lt-leb _ _ (omega (arith, length-append line h.more, past, room, short));
            };
      }
