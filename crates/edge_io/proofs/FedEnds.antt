-- Where reading a part from a feed ends: a line is too long, nothing is left, or the limit is
-- passed.
use Rattle.std.proofs.Common.{◌≡◌, ◌≢◌, ℕ, ◌+◌, ◌-◌, ◌<◌, ◌≤◌, min, Bool, true, false, eqb, leb}
use Rattle.std.proofs.Common.{not, List, [], ◌∷◌, ◌++◌, length, Option, Ok, Err, refl, sym, ap, ◌∙◌}
use Rattle.std.proofs.Common.{append_assoc, length-append, arith}
use Rattle.std.proofs.KnownBytes.{Consumes-trans, Consumes-kept}
use Rattle.std.proofs.lemmas.Bool.{lt-leb, ne_eqb, lt-ltb}
use Rattle.std.proofs.lemmas.List.Folds.{list_all-append}
use Rattle.texts.specs.Lines.{lines_of, is_one_line}
use Rattle.texts.specs.Parts.{Next, refuses, with_skips, part_from}
use Rattle.texts.specs.Limits.{by, beyond, shows, room_of}
use Rattle.texts.specs.Pending.{AllButLast, IsShown}
use Rattle.texts.proofs.LineByLine.{lines_part, longer_line}
use Rattle.edge_io.specs.declared.feed.Line.TheVariants as how
use Rattle.edge_io.specs.declared.feed.LineFault.TheVariants as fault
use Rattle.edge_io.specs.Feeds.{LineIs}
use Rattle.edge_io.specs.FedParts.{limited_part, fed_part, PartPending, Decided, Undecided}
use Rattle.edge_io.specs.FedParts.{refused_at}
use Rattle.edge_io.proofs.Standing.{Standing, pending_end, but_last, long_shows}
use Rattle.edge_io.proofs.FedLines.{shown_by, parted, size_more}

-- a step refuses each line that is too long
abbrev pub RefusesLong : {S V R : Type 0} → (S → List ℕ → Next S V R) → R → Type 0
RefusesLong {S} step form = (s : S) (line : List ℕ) → 4096 < length line
    → step s line ≡ refuses form

pub skips_refuse_long : {S V R : Type 0} (step : S → List ℕ → Next S V R) (form : R)
    → RefusesLong (with_skips step form) form
skips_refuse_long step form s line much = rw (lt-ltb 4096 (length line) much) refl

module _ {S V R : Type 0} (step : S → List ℕ → Next S V R) (form : R) where
  -- a line that is too long is refused
  pub refused_long : RefusesLong step form
      → (s : S) (taken number : ℕ) (room : Option ℕ) (text : List ℕ) (ls : List (List ℕ))
      → shows room text ≡ true → 4096 < length text
      → limited_part step form s taken number room (text ∷ ls)
      ≡ Err (record { line = number; rule = by form })
  refused_long long s taken number room text ls shown much =
      rw (part_from, shown, long s text much) refl

  module _ (start : S) (first limit before : ℕ) (old now new : Option (List ℕ)) (s : S)
      (number lines counted after : ℕ) (line : List ℕ)
      (one : is_one_line line ≡ true) (short : length line ≤ 4096)
      (stands : Standing step form start first limit before old now s number lines counted) where
    -- the bytes so far, then this line with a byte after it, then the rest
    split_more : (b : ℕ) (longer : Bool) (rest : List ℕ)
        → fed_part step form start first limit before longer
        (lines_of ((stands.bytes ++ (line ++ b ∷ [])) ++ rest))
        ≡ limited_part step form s lines number (room_of longer (limit - counted))
        (lines_of (line ++ b ∷ rest))
    split_more b longer rest =
        ap (λ (l : List ℕ). fed_part step form start first limit before longer (lines_of l))
        (parted step form start first limit before old now new s number lines counted after line one
        short stands line b rest)
        ∙ stands.so_far lines_of lines_part longer (line ++ b ∷ rest)

    one_more : (b : ℕ) → b ≢ 10 → is_one_line (line ++ b ∷ []) ≡ true
    one_more b other =
        let apart : eqb b 10 ≡ false = ne_eqb b 10 other in
        list_all-append (λ c. not (eqb c 10)) line (b ∷ []) ∙ rw (one, apart) refl

    -- a line shows at its byte 4097
    pub byte_shows : (b : ℕ) → b ≢ 10 → length line ≡ 4096
        → IsShown (stands.bytes ++ (line ++ b ∷ []))
    byte_shows b other size =
        long_shows step form start first limit before old now s number lines counted stands
        (line ++ b ∷ []) (one_more b other)
        (length-append line (b ∷ []) ∙ omega (arith, size))

    pub long_line : RefusesLong step form → (longer : Bool) (b : ℕ) (rest : List ℕ) → b ≢ 10
        → length line ≡ 4096 → counted + 4097 ≤ limit
        → limited_part step form s lines number (room_of longer (limit - counted))
        (lines_of (line ++ b ∷ rest))
        ≡ Err (record { line = number; rule = by form })
    long_line long longer b rest other size within =
        let more = line ++ b ∷ [] in
        let all = one_more b other in
        let length_is = length-append line (b ∷ []) in
        let h = longer_line more rest (omega (arith, length_is)) all in
        let text = more ++ h.more in
        let same = sym (append_assoc line (b ∷ []) rest) in
        let first_is : lines_of (line ++ b ∷ rest) ≡ text ∷ h.lines = ap lines_of same ∙ h.first in
        let much : 4096 < length text = omega (arith, size, length-append more h.more, length_is) in
        let shown = shown_by longer limit counted text (omega (arith, within)) in
        rw first_is (refused_long long s lines number (room_of longer (limit - counted)) text
        h.lines shown much)

    -- the bytes so far and this line do not decide the part
    all_but : (b : ℕ) → counted + length line ≤ limit
        → AllButLast (λ bs. PartPending step form start first limit before bs)
        (stands.bytes ++ (line ++ b ∷ []))
    all_but b within =
        but_last step form start first limit before old now s number lines counted stands line b one
        short within

    pub past_line : (b : ℕ) (rest : List ℕ) → limit ≤ counted + length line
        → limited_part step form s lines number (room_of true (limit - counted))
        (lines_of (line ++ b ∷ rest))
        ≡ Err (record { line = number; rule = beyond })
    past_line b rest past =
        let h = longer_line line (b ∷ rest) (omega arith) one in
        let text = line ++ h.more in
        let unseen : leb (min (length text + 1) 4097) (limit - counted) ≡ false =
        lt-leb _ _ (omega (arith, length-append line h.more, past, stands.within, short)) in
        rw (h.first, part_from, unseen) refl

    more_size : (b : ℕ) → length (stands.bytes ++ (line ++ b ∷ []))
        ≡ length stands.bytes + length line + 1
    more_size b =
        size_more step form start first limit before old now new s number lines counted after line
        one short stands b

    pub long_here : RefusesLong step form → LineIs limit counted after now new line (Ok how.Long)
        → Decided step form start first limit before after old new
        (refused_at step form number form)
    long_here long (b, other, read, size, count, within) = record {
      bytes = stands.bytes ++ (line ++ b ∷ []);
      ended = false;
      read = Consumes-trans old now new stands.bytes (line ++ b ∷ []) stands.read read;
      at_end = λ e. absurd cc;
      count = omega (arith, more_size b, count, stands.count);
      within = within;
      at_once = (all_but b (omega (arith, count, within)), byte_shows b other size);
      decides = λ longer rest follows.
          split_more b longer rest ∙ long_line long longer b rest other size
          (omega (arith, count, within, size));
    }

    pub end_here : LineIs limit counted after now new line (Ok how.End)
        → Decided step form start first limit before after old new
        (refused_at step form number form)
    end_here (keeps, ended, none, count) = record {
      bytes = stands.bytes;
      ended = true;
      read = Consumes-kept old now new stands.bytes stands.read keeps;
      at_end = λ e. ended;
      count = omega (arith, count, stands.count);
      within = rw count stands.within;
      at_once = pending_end step form start first limit before old now s number lines counted
          stands;
      decides = λ longer rest follows.
          stands.so_far lines_of lines_part longer rest ∙ rw (follows.0) refl;
    }

    pub too_long : LineIs limit counted after now new line (Err fault.TooLong)
        → Undecided step form start first limit before old new
    too_long (b, read, past, count) = record {
      bytes = stands.bytes ++ (line ++ b ∷ []);
      line = number;
      read = Consumes-trans old now new stands.bytes (line ++ b ∷ []) stands.read read;
      past = omega (arith, more_size b, past, stands.count);
      at_once = all_but b (omega (arith, past, stands.within));
      decides = λ rest. split_more b true rest ∙ past_line b rest (omega (arith, past));
    }
