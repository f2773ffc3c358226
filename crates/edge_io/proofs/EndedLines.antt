-- One line after another of a text whose lines all end with a newline.
use Rattle.std.proofs.Common.{◌≡◌, ◌≢◌, ◌⊎◌, inl, inr, ℕ, ◌+◌, ◌-◌, ◌<◌, ◌≤◌, Bool, true, false}
use Rattle.std.proofs.Common.{eqb, not, List, [], ◌∷◌, ◌++◌, length, Option, None, Result, Ok, Err}
use Rattle.std.proofs.Common.{refl, sym, ap, ◌∙◌, append_assoc, append-nil, length-append, subst}
use Rattle.std.proofs.Common.{arith}
use Rattle.std.specs.Io.KnownBytes.{Consumes, IsAtEnd}
use Rattle.std.proofs.KnownBytes.{Consumes-nil, Consumes-trans, Consumes-kept}
use Rattle.std.proofs.lemmas.Bool.{le-ltb, lt-ltb, ne_eqb}
use Rattle.std.proofs.lemmas.List.Folds.{list_all-append}
use Rattle.texts.specs.Lines.{lines_of, whole_lines, is_one_line}
use Rattle.texts.specs.Parts.{Next, goes, ends, refuses, Found, At, part_from}
use Rattle.texts.specs.Limits.{Limited, by, with_limit, room_of, behind_lines}
use Rattle.texts.specs.Pending.{AllButLast, AtOnce}
use Rattle.texts.specs.EndedTexts.{with_length, ended_lines, alone, then_alone, ended_text}
use Rattle.texts.proofs.LineByLine.{PartsLines, lines_part, whole_part, whole_open, WholeLonger}
use Rattle.texts.proofs.LineByLine.{longer_whole}
use Rattle.edge_io.specs.declared.feed.Line.TheVariants as how
use Rattle.edge_io.specs.declared.feed.LineFault.TheVariants as fault
use Rattle.edge_io.specs.Feeds.{LineIs}
use Rattle.edge_io.specs.FedParts.{limited_part, fed_part}
use Rattle.edge_io.specs.EndedReads.{RefusedOnlyAt, TextPending, RefusedText, LongText, LostText}
use Rattle.edge_io.specs.EndedReads.{HaltedText}
use Rattle.edge_io.proofs.Standing.{Standing, stands_first, open_counts, may_go_on, newline_here}
use Rattle.edge_io.proofs.FedLines.{stands_more, parted, size_more, then_made, behind_more}
use Rattle.edge_io.proofs.FedLines.{counts_more}
use Rattle.edge_io.proofs.FedEnds.{RefusesLong, byte_shows, long_line, past_line, refused_long}
use Rattle.edge_io.proofs.AloneLines.{Alone}

parts_lines : (longer : Bool) → PartsLines (ended_lines longer)
parts_lines true = lines_part
parts_lines false = whole_part

pub length_refuses_long : {S V R : Type 0} (step : S → List ℕ → Next S V R) (form : R)
    → RefusesLong (with_length step form) form
length_refuses_long step form s line much = rw (lt-ltb 4096 (length line) much) refl

pub short_step : {S V R : Type 0} (step : S → List ℕ → Next S V R) (form : R) (s : S)
    (line : List ℕ) (next : Next S V R) → length line ≤ 4096 → step s line ≡ next
    → with_length step form s line ≡ next
short_step step form s line next short is = rw (le-ltb 4096 (length line) short) is

module _ {S V R : Type 0} (step : S → List ℕ → Next S V R) (form : R)
    (start : S) (limit : ℕ) (old : Option (List ℕ)) where
  -- the step with the test of a line's length
  abbrev full : S → List ℕ → Next S V R
  full = with_length step form

  -- nothing was read yet
  pub starts : (counted : ℕ) → counted ≡ 0
      → (lines : ℕ) × Standing full form start 1 limit 0 old old start 1 lines counted
  starts counted none = (0, rw none (stands_first full form start 1 limit 0 old (omega arith)))

  module _ (now new : Option (List ℕ)) (s : S) (number lines counted after : ℕ) (line : List ℕ)
      (one : is_one_line line ≡ true) (short : length line ≤ 4096)
      (stands : Standing full form start 1 limit 0 old now s number lines counted) where
    -- the bytes so far, then this line with a byte after it, then the rest
    line_at : (b : ℕ) (longer : Bool) (rest : List ℕ)
        → fed_part full form start 1 limit 0 longer
        (ended_lines longer ((stands.bytes ++ (line ++ b ∷ [])) ++ rest))
        ≡ limited_part full form s lines number (room_of longer (limit - counted))
        (ended_lines longer (line ++ b ∷ rest))
    line_at b longer rest =
        ap (λ (l : List ℕ). fed_part full form start 1 limit 0 longer (ended_lines longer l))
        (parted full form start 1 limit 0 old now new s number lines counted after line one short
        stands line b rest)
        ∙ stands.so_far (ended_lines longer) (parts_lines longer) longer (line ++ b ∷ rest)

    size_is : (b : ℕ) → length (stands.bytes ++ (line ++ b ∷ []))
        ≡ length stands.bytes + length line + 1
    size_is b = size_more full form start 1 limit 0 old now new s number lines counted after line
        one short stands b

    -- what the part makes of the text
    module _ (text : List ℕ) (longer : Bool) where
      text_by : (part : Result (Found (Option ℕ × V)) (At (Limited R)))
          → fed_part full form start 1 limit 0 longer (ended_lines longer text) ≡ part
          → ended_text step form start limit longer text ≡ then_alone step form text part
      text_by part is =
          let all : limit - 0 ≡ limit = omega arith in
          ap (λ n. then_alone step form text
          (part_from (with_limit full) (by form) (room_of longer n, start) 0 1
          (ended_lines longer text))) (sym all)
          ∙ ap (then_alone step form text) is

    -- the text, if it ended within the line
    stops_by : ended_text step form start limit false (stands.bytes ++ line)
        ≡ Err (record { line = number; rule = by form })
    stops_by =
        let whole : fed_part full form start 1 limit 0 false (whole_lines (stands.bytes ++ line))
        ≡ Err (record { line = number; rule = by form }) =
        stands.so_far whole_lines whole_part false line ∙ rw (whole_open line one) refl in
        text_by (stands.bytes ++ line) false _ whole

    -- it is not decided
    text_pends : counted + length line ≤ limit
        → TextPending step form start limit (stands.bytes ++ line)
    text_pends within =
        let next : number ≡ 1 + length (whole_lines (stands.bytes ++ line)) =
        omega (
          arith,
          stands.numbered,
          open_counts full form start 1 limit 0 old now s number lines
              counted stands line one,
        ) in
        record {
          lines = subst (λ o. RefusedOnlyAt (1 + length (whole_lines (stands.bytes ++ line))) form
              o) (sym stops_by)
              (ap (λ n. record { line = n; rule = by form }) next);
          room = may_go_on full form start 1 limit 0 old now s number lines counted stands line one
              short within;
        }

    text_but : (b : ℕ) → counted + length line ≤ limit
        → AllButLast (λ bs. TextPending step form start limit bs) (stands.bytes ++ (line ++ b ∷ []))
    text_but b within = record {
      front = stands.bytes ++ line;
      last = b;
      parts = sym (append_assoc stands.bytes line (b ∷ []));
      pending = text_pends within;
    }

    -- the line shows at its newline
    text_shown : counted + length line ≤ limit
        → AtOnce false (λ bs. TextPending step form start limit bs)
        (stands.bytes ++ (line ++ 10 ∷ []))
    text_shown within = (
      text_but 10 within,
      newline_here full form start 1 limit 0 old now s number lines counted stands line,
    )

    pub ended_here : (v : V) → LineIs limit counted after now new line (Ok how.Whole)
        → full s line ≡ ends v → Alone step form start limit old new v (number + 1) after
    ended_here v read is = record {
      bytes = stands.bytes ++ (line ++ 10 ∷ []);
      read = Consumes-trans old now new stands.bytes (line ++ 10 ∷ []) stands.read read.0;
      count = omega (arith, size_is 10, read.1, stands.count);
      within = read.2;
      lines = lines + 1;
      numbered = omega (arith, stands.numbered);
      counts = counts_more full form start 1 limit 0 old now new s number lines counted after line
          one short stands;
      behind = behind_more full form start 1 limit 0 old now new s number lines counted after line
          one short stands;
      so_far = λ longer rest.
          let text = (stands.bytes ++ (line ++ 10 ∷ [])) ++ rest in
          let one_more : lines + 1 ≡ lines + 1 + 0 = omega arith in
          let next : lines + 1 + 1 ≡ number + 1 = omega (arith, stands.numbered) in
          let room = room_of longer (limit - after) in
          let behind : behind_lines (lines + 1) text ≡ rest =
          ap (λ n. behind_lines n text) one_more
          ∙ behind_more full form start 1 limit 0 old now new s number lines counted after line one
          short stands 0 rest in
          text_by text longer _
          (then_made full form start 1 limit 0 old now new s number lines counted after line one
          short stands (ends v) read is (ended_lines longer) (parts_lines longer) longer rest)
          ∙ ap (λ (l : List ℕ). alone form (lines + 1 + 1) room v (lines_of l)) behind
          ∙ ap (λ n. alone form n room v (lines_of rest)) next;
    }

    -- the line is refused
    pub refused_here : (e : R) → LineIs limit counted after now new line (Ok how.Whole)
        → full s line ≡ refuses e → RefusedText step form start limit old new number e
    refused_here e read is = record {
      bytes = stands.bytes ++ (line ++ 10 ∷ []);
      ended = false;
      read = Consumes-trans old now new stands.bytes (line ++ 10 ∷ []) stands.read read.0;
      at_end = λ e. absurd cc;
      within = omega (arith, size_is 10, read.1, read.2, stands.count);
      at_once = text_shown (omega (arith, read.1, read.2));
      decides = λ longer rest follows.
          text_by ((stands.bytes ++ (line ++ 10 ∷ [])) ++ rest) longer _
          (then_made full form start 1 limit 0 old now new s number lines counted after line one
          short stands (refuses e) read is (ended_lines longer) (parts_lines longer) longer
          rest);
    }

    -- the text ends within a line
    stops_here : IsAtEnd new → Consumes now new line → counted + length line ≤ limit
        → RefusedText step form start limit old new number form
    stops_here end read within =
        let text = stands.bytes ++ line in
        record {
          bytes = text;
          ended = true;
          read = Consumes-trans old now new stands.bytes line stands.read read;
          at_end = λ e. end;
          within = omega (arith, length-append stands.bytes line, within, stands.count);
          at_once = text_pends within;
          decides = λ longer rest follows.
              ap (λ (b : Bool). ended_text step form start limit b (text ++ rest)) (follows.1)
              ∙ ap (λ (l : List ℕ). ended_text step form start limit false l)
              (ap (λ (l : List ℕ). text ++ l) (follows.0) ∙ append-nil text)
              ∙ stops_by;
        }

    pub line_open : LineIs limit counted after now new line (Ok how.Open)
        → RefusedText step form start limit old new number form
    line_open (read, end, some, count, within) = stops_here end read (omega (arith, count, within))

    pub no_line : LineIs limit counted after now new line (Ok how.End)
        → RefusedText step form start limit old new number form
    no_line (keeps, end, none, count) =
        stops_here end (rw none (Consumes-kept now now new [] (Consumes-nil now) keeps))
        (omega (arith, ap length none, stands.within))

    -- a line is too long
    long_whole : (b : ℕ) (rest : List ℕ) → b ≢ 10 → length line ≡ 4096
        → (whole_lines ((line ++ b ∷ []) ++ rest)
        ≡ []) ⊎ WholeLonger (line ++ b ∷ []) ((line ++ b ∷ []) ++ rest)
        → limited_part full form s lines number None (whole_lines (line ++ b ∷ rest))
        ≡ Err (record { line = number; rule = by form })
    long_whole b rest other size (inl none) =
        rw (ap whole_lines (sym (append_assoc line (b ∷ []) rest)) ∙ none) refl
    long_whole b rest other size (inr h) =
        let text = (line ++ b ∷ []) ++ h.more in
        let much : 4096 < length text =
        omega (arith, size, length-append (line ++ b ∷ []) h.more, length-append line (b ∷ []))
        in
        rw (ap whole_lines (sym (append_assoc line (b ∷ []) rest)) ∙ h.first)
        (refused_long full form (length_refuses_long step form) s lines number None text h.lines
        refl much)

    long_by : (longer : Bool) (b : ℕ) (rest : List ℕ) → b ≢ 10 → length line ≡ 4096
        → counted + 4097 ≤ limit
        → limited_part full form s lines number (room_of longer (limit - counted))
        (ended_lines longer (line ++ b ∷ rest))
        ≡ Err (record { line = number; rule = by form })
    long_by true b rest other size within =
        long_line full form start 1 limit 0 old now new s number lines counted after line one short
        stands
        (length_refuses_long step form) true b rest other size within
    long_by false b rest other size within =
        let apart : eqb b 10 ≡ false = ne_eqb b 10 other in
        let all : is_one_line (line ++ b ∷ []) ≡ true =
        list_all-append (λ c. not (eqb c 10)) line (b ∷ []) ∙ rw (one, apart) refl in
        long_whole b rest other size (longer_whole (line ++ b ∷ []) rest all)

    pub too_long_line : LineIs limit counted after now new line (Ok how.Long)
        → RefusedText step form start limit old new number form
    too_long_line (b, other, read, size, count, within) = record {
      bytes = stands.bytes ++ (line ++ b ∷ []);
      ended = false;
      read = Consumes-trans old now new stands.bytes (line ++ b ∷ []) stands.read read;
      at_end = λ e. absurd cc;
      within = omega (arith, size_is b, count, within, stands.count);
      at_once = (
        text_but b (omega (arith, count, within)),
        byte_shows full form start 1 limit 0 old now new s number lines counted after line one
            short stands b other size,
      );
      decides = λ longer rest follows.
          text_by ((stands.bytes ++ (line ++ b ∷ [])) ++ rest) longer _
          (line_at b longer rest ∙ long_by longer b rest other size
          (omega (arith, count, within, size)));
    }

    -- the limit is passed
    pub beyond_line : LineIs limit counted after now new line (Err fault.TooLong)
        → LongText step form start limit old new
    beyond_line (b, read, past, count) = record {
      bytes = stands.bytes ++ (line ++ b ∷ []);
      line = number;
      read = Consumes-trans old now new stands.bytes (line ++ b ∷ []) stands.read read;
      past = omega (arith, size_is b, past, stands.count);
      at_once = text_but b (omega (arith, past, stands.within));
      decides = λ rest.
          let gone : limit ≤ counted + length line = omega (arith, past) in
          text_by ((stands.bytes ++ (line ++ b ∷ [])) ++ rest) true _
          (line_at b true rest
          ∙ past_line full form start 1 limit 0 old now new s number lines counted after line one
          short stands b rest gone);
    }

    -- the part goes on
    pub goes_on : (t : S) → LineIs limit counted after now new line (Ok how.Whole)
        → full s line ≡ goes t
        → (m : ℕ) × Standing full form start 1 limit 0 old new t (number + 1) m after
    goes_on t read is = (
      lines + 1,
      stands_more full form start 1 limit 0 old now new s number lines counted after
          line one short stands t read is,
    )

    -- a read failed within the line
    pub lost_line : LineIs limit counted after now new line (Err fault.ReadFault)
        → LostText step form start limit old new
    lost_line (read, count, within) = record {
      bytes = stands.bytes ++ line;
      read = Consumes-trans old now new stands.bytes line stands.read read;
      lost = text_pends (omega (arith, within, stands.within));
    }

    -- memory ran out after the line
    pub halted_line : LineIs limit counted after now new line (Ok how.Whole)
        → HaltedText step form start limit old new
    halted_line (read, count, within) = record {
      bytes = stands.bytes ++ (line ++ 10 ∷ []);
      read = Consumes-trans old now new stands.bytes (line ++ 10 ∷ []) stands.read read;
      at_once = text_shown (omega (arith, count, within));
    }
