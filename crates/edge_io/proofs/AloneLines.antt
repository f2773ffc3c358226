-- The end after the last line of a text whose lines all end with a newline.
use Rattle.std.proofs.Common.{◌≡◌, ◌⊎◌, ℕ, ◌+◌, ◌-◌, ◌≤◌, Bool, true, false, List, [], ◌∷◌, ◌++◌}
use Rattle.std.proofs.Common.{length, Option, None, Result, Err, if◌then◌else◌, sym, ap, ◌∙◌}
use Rattle.std.proofs.Common.{append_assoc, append-nil, length-append, subst, arith}
use Rattle.std.specs.Io.KnownBytes.{Consumes, Keeps, IsAtEnd}
use Rattle.std.proofs.KnownBytes.{Consumes-trans, Consumes-kept}
use Rattle.texts.specs.Lines.{lines_of, whole_lines}
use Rattle.texts.specs.Parts.{Next}
use Rattle.texts.specs.Limits.{by, beyond, room_of, behind_lines}
use Rattle.texts.specs.Pending.{AllButLast, AtOnce}
use Rattle.texts.specs.Words.{open_rest}
use Rattle.texts.specs.EndedTexts.{alone, ended_text}
use Rattle.texts.proofs.LineByLine.{whole_open}
use Rattle.texts.proofs.OpenLines.{open_behind, open_alone}
use Rattle.edge_io.specs.declared.fed_parts.FedError.{FedError}
use Rattle.edge_io.specs.declared.fed_parts.FedError.TheVariants as fed
use Rattle.edge_io.specs.EndedReads.{RefusedOnlyAt, TextPending, WholeText, RefusedText, LongText}
use Rattle.edge_io.specs.EndedReads.{LostText, TextRead, FirstIs, LinePending, LineBehind}
use Rattle.edge_io.specs.EndedReads.{LineBeyond, EndIs}

module _ {S V R : Type 0} (step : S → List ℕ → Next S V R) (form : R)
    (start : S) (limit : ℕ) (old : Option (List ℕ)) where
  -- the part ended with the lines that were read
  pub record Alone (now : Option (List ℕ)) (value : V) (number counted : ℕ) : Type 0 where
    pub bytes : List ℕ
    pub read : Consumes old now bytes
    pub count : counted ≡ length bytes
    pub within : counted ≤ limit
    pub lines : ℕ
    pub numbered : number ≡ 1 + lines
    pub counts : (rest : List ℕ)
        → length (whole_lines (bytes ++ rest)) ≡ lines + length (whole_lines rest)
    pub behind : (m : ℕ) (rest : List ℕ)
        → behind_lines (lines + m) (bytes ++ rest) ≡ behind_lines m rest
    pub so_far : (longer : Bool) (rest : List ℕ)
        → ended_text step form start limit longer (bytes ++ rest)
        ≡ alone form number (room_of longer (limit - counted)) value (lines_of rest)

  -- what the end after the last line makes of the text
  module _ (now new : Option (List ℕ)) (value : V) (number counted : ℕ)
      (h : Alone now value number counted) where
    pub end_met : Keeps now new × IsAtEnd new → WholeText step form start limit old new value
    end_met (keeps, end) = record {
      bytes = h.bytes;
      read = Consumes-kept old now new h.bytes h.read keeps;
      at_end = end;
      within = omega (arith, h.count, h.within);
      is = ap (λ (l : List ℕ). ended_text step form start limit false l) (sym (append-nil h.bytes))
          ∙ h.so_far false [];
    }

    behind_by : (shown : Bool) (more rest : List ℕ) (longer : Bool)
        → FirstIs shown (room_of longer (limit - counted)) (lines_of (more ++ rest))
        → ended_text step form start limit longer ((h.bytes ++ more) ++ rest)
        ≡ Err (record { line = number; rule = if shown then by form else beyond })
    behind_by shown more rest longer first =
        ap (λ (l : List ℕ). ended_text step form start limit longer l)
        (append_assoc h.bytes more rest)
        ∙ h.so_far longer (more ++ rest)
        ∙ ap (alone form number (room_of longer (limit - counted)) value) first.is
        ∙ ap (λ (b : Bool). Err (record { line = number; rule = if b then by form else beyond }))
        first.seen

    -- ---- a line that is open after the last one does not decide the text

    alone_only : (n : ℕ) (lines : List (List ℕ)) → number ≡ n
        → RefusedOnlyAt n form (alone form number None value lines)
    alone_only n [] e = tt
    alone_only n (line ∷ lines) e = ap (λ k. record { line = k; rule = by form }) e

    open_is : (more : List ℕ) → open_rest (h.bytes ++ more) ≡ open_rest more
    open_is more =
        let text = h.bytes ++ more in
        open_behind text ∙ ap (λ n. behind_lines n text) (h.counts more)
        ∙ h.behind (length (whole_lines more)) more ∙ sym (open_behind more)

    alone_pends : (more : List ℕ) → LinePending limit counted more
        → TextPending step form start limit (h.bytes ++ more)
    alone_pends more p =
        let text = h.bytes ++ more in
        let count : length (whole_lines text) ≡ h.lines + 0 =
        h.counts more ∙ ap (λ (ls : List (List ℕ)). h.lines + length ls) (whole_open more p.one) in
        let is : open_rest text ≡ more = open_is more ∙ open_alone more p.one in
        record {
          lines = subst (λ o. RefusedOnlyAt (1 + length (whole_lines text)) form o)
              (sym (h.so_far false more))
              (alone_only (1 + length (whole_lines text)) (lines_of more)
              (omega (arith, h.numbered, count)));
          room = record {
            short = subst (λ (l : List ℕ). length l ≤ 4096) (sym is) p.short;
            within = omega (arith, length-append h.bytes more, h.count, p.within);
          };
        }

    alone_but : (bytes : List ℕ) → AllButLast (λ bs. LinePending limit counted bs) bytes
        → AllButLast (λ bs. TextPending step form start limit bs) (h.bytes ++ bytes)
    alone_but bytes p = record {
      front = h.bytes ++ p.front;
      last = p.last;
      parts = ap (λ (l : List ℕ). h.bytes ++ l) p.parts
          ∙ sym (append_assoc h.bytes p.front (p.last ∷ []));
      pending = alone_pends p.front p.pending;
    }

    alone_at_once : (ended : Bool) (bytes : List ℕ)
        → AtOnce ended (λ bs. LinePending limit counted bs) bytes
        → AtOnce ended (λ bs. TextPending step form start limit bs) (h.bytes ++ bytes)
    alone_at_once true bytes p = alone_pends bytes p
    alone_at_once false bytes (p, shown) = (
      alone_but bytes p,
      subst (λ (l : List ℕ). (l ≡ []) ⊎ (length l ≡ 4097)) (sym (open_is bytes)) shown,
    )

    pub line_met : LineBehind limit counted now new
        → RefusedText step form start limit old new number form
    line_met e = record {
      bytes = h.bytes ++ e.bytes;
      ended = e.ended;
      read = Consumes-trans old now new h.bytes e.bytes h.read e.read;
      at_end = e.at_end;
      within = omega (arith, length-append h.bytes e.bytes, e.within, h.count);
      at_once = alone_at_once e.ended e.bytes e.at_once;
      decides = λ longer rest follows. behind_by true e.bytes rest longer
          (e.shown longer rest follows);
    }

    pub limit_met : LineBeyond limit counted now new → LongText step form start limit old new
    limit_met e = record {
      bytes = h.bytes ++ e.bytes;
      line = number;
      read = Consumes-trans old now new h.bytes e.bytes h.read e.read;
      past = omega (arith, length-append h.bytes e.bytes, e.past, h.count);
      at_once = alone_but e.bytes e.at_once;
      decides = λ rest. behind_by false e.bytes rest true (e.hidden rest);
    }

    fault_met : (bytes : List ℕ) → Consumes now new bytes → LinePending limit counted bytes
        → LostText step form start limit old new
    fault_met bytes read p = record {
      bytes = h.bytes ++ bytes;
      read = Consumes-trans old now new h.bytes bytes h.read read;
      lost = alone_pends bytes p;
    }

    -- what looking for the end did to the text
    pub end_read : (fault : FedError R)
        → EndIs form number limit counted now new (let r : Result Unit (FedError R) = Err fault in
        r)
        → TextRead step form start limit old new (Err fault)
    end_read (fed.Refused r) (at, rule, e) =
        rw (at, rule) (line_met e)
    end_read fed.TooLong e = limit_met e
    end_read fed.ReadFault (bytes, read, p) = fault_met bytes read p
    end_read fed.NoMemory e = absurd e
