-- One line after another of a part that is read from a feed.
use Rattle.std.proofs.Common.{◌≡◌, ℕ, suc, ◌+◌, ◌-◌, ◌≤◌, min, Bool, true, false, List, [], ◌∷◌}
use Rattle.std.proofs.Common.{◌++◌, length, Option, Some, None, Ok, Err, refl, sym, ap, ◌∙◌}
use Rattle.std.proofs.Common.{append_assoc, length-append, arith}
use Rattle.std.proofs.KnownBytes.{Consumes-trans}
use Rattle.std.proofs.lemmas.Bool.{le-leb}
use Rattle.texts.specs.Lines.{lines_of, is_one_line, whole_lines}
use Rattle.texts.specs.Parts.{Next, goes, ends, refuses, part_from}
use Rattle.texts.specs.Limits.{by, shows, less, room_of, behind_lines}
use Rattle.texts.specs.Pending.{AtOnce}
use Rattle.texts.proofs.LineByLine.{PartsLines, lines_part, whole_part, behind_line}
use Rattle.edge_io.specs.declared.feed.Line.TheVariants as how
use Rattle.edge_io.specs.declared.feed.LineFault.TheVariants as fault
use Rattle.edge_io.specs.declared.taking.TakeError.TheVariants as take
use Rattle.edge_io.specs.declared.fed_parts.FedError.TheVariants as fed
use Rattle.edge_io.specs.Taking.{Takes}
use Rattle.edge_io.specs.Feeds.{LineIs}
use Rattle.edge_io.specs.FedParts.{LimitedPart, limited_part, fed_part, PartPending, Decided}
use Rattle.edge_io.specs.FedParts.{refused_at, PartFed}
use Rattle.edge_io.proofs.Standing.{Standing, pending, but_last, newline_here}

pub takes_goes : {S V R : Type 0} (next : Next S V R) (new : S) → Takes next new (Ok None)
    → next ≡ goes new
takes_goes (goes t) new h = ap goes (sym h)
takes_goes (ends v) new h = absurd h
takes_goes (refuses r) new h = absurd h

pub takes_ends : {S V R : Type 0} (next : Next S V R) (new : S) (w : V)
    → Takes next new (Ok (Some w)) → next ≡ ends w
takes_ends (goes t) new w h = absurd h
takes_ends (ends v) new w h = ap ends (sym h)
takes_ends (refuses r) new w h = absurd h

pub takes_refuses : {S V R : Type 0} (next : Next S V R) (new : S) (e : R)
    → Takes next new (Err (take.Refused e)) → next ≡ refuses e
takes_refuses (goes t) new e h = absurd h
takes_refuses (ends v) new e h = absurd h
takes_refuses (refuses r) new e h = ap refuses (sym h)

-- a line that is within the limit is shown, and leaves so much room
pub shown_by : (longer : Bool) (limit counted : ℕ) (line : List ℕ)
    → counted + min (length line + 1) 4097 ≤ limit
    → shows (room_of longer (limit - counted)) line ≡ true
shown_by true limit counted line fits =
    le-leb (min (length line + 1) 4097) (limit - counted) (omega (arith, fits))
shown_by false limit counted line fits = refl

less_by : (longer : Bool) (limit counted after : ℕ) (line : List ℕ) → length line ≤ 4096
    → after ≡ counted + length line + 1
    → less (room_of longer (limit - counted)) line ≡ room_of longer (limit - after)
less_by true limit counted after line short e = ap (λ (n : ℕ). Some n) (omega (arith, e, short))
less_by false limit counted after line short e = refl

module _ {S V R : Type 0} (step : S → List ℕ → Next S V R) (form : R) where
  -- what a line makes of a part
  abbrev pub made : (split : List ℕ → List (List ℕ)) → Next S V R → (taken number : ℕ) → Option ℕ
      → List ℕ → LimitedPart V R
  made split (goes t) taken number room rest =
      limited_part step form t (taken + 1) (number + 1) room (split rest)
  made split (ends v) taken number room rest =
      Ok (record { value = (room, v); taken = taken + 1; behind = split rest })
  made split (refuses r) taken number room rest = Err (record { line = number; rule = by r })

  module _ (split : List ℕ → List (List ℕ)) (parts : PartsLines split) (s : S) (taken number : ℕ)
      (line rest : List ℕ) (one : is_one_line line ≡ true) where
    line_in : (next : Next S V R) (room left : Option ℕ)
        → shows room line ≡ true → less room line ≡ left → step s line ≡ next
        → limited_part step form s taken number room (split (line ++ 10 ∷ rest))
        ≡ made split next taken number left rest
    line_in (goes t) room left shown lessened is =
        rw (parts line rest one, part_from, shown, is, lessened) refl
    line_in (ends v) room left shown lessened is =
        rw (parts line rest one, part_from, shown, is, lessened) refl
    line_in (refuses r) room left shown lessened is =
        rw (parts line rest one, part_from, shown, is) refl

    -- a whole line
    whole_line : (next : Next S V R) (limit counted after : ℕ) (longer : Bool)
        → length line ≤ 4096 → after ≡ counted + length line + 1 → after ≤ limit
        → step s line ≡ next
        → limited_part step form s taken number (room_of longer (limit - counted))
        (split (line ++ 10 ∷ rest))
        ≡ made split next taken number (room_of longer (limit - after)) rest
    whole_line next limit counted after longer short e within is =
        let shown = shown_by longer limit counted line (omega (arith, e, within)) in
        line_in next (room_of longer (limit - counted)) (room_of longer (limit - after)) shown
        (less_by longer limit counted after line short e) is

  module _ (start : S) (first limit before : ℕ) (old : Option (List ℕ)) where
    module _ (now new : Option (List ℕ)) (s : S) (number lines counted after : ℕ) (line : List ℕ)
        (one : is_one_line line ≡ true) (short : length line ≤ 4096)
        (stands : Standing step form start first limit before old now s number lines counted) where
      -- the bytes so far, with more bytes after them
      pub parted : (more : List ℕ) (b : ℕ) (rest : List ℕ)
          → (stands.bytes ++ (more ++ b ∷ [])) ++ rest ≡ stands.bytes ++ (more ++ b ∷ rest)
      parted more b rest =
          append_assoc stands.bytes (more ++ b ∷ []) rest
          ∙ ap (λ (l : List ℕ). stands.bytes ++ l) (append_assoc more (b ∷ []) rest)

      pub size_more : (b : ℕ) → length (stands.bytes ++ (line ++ b ∷ []))
          ≡ length stands.bytes + length line + 1
      size_more b =
          length-append stands.bytes (line ++ b ∷ []) ∙ omega (arith, length-append line (b ∷ []))

      line_more : (split : List ℕ → List (List ℕ)) → PartsLines split
          → (longer : Bool) (rest : List ℕ)
          → fed_part step form start first limit before longer
          (split ((stands.bytes ++ (line ++ 10 ∷ [])) ++ rest))
          ≡ limited_part step form s lines number (room_of longer (limit - counted))
          (split (line ++ 10 ∷ rest))
      line_more split parts longer rest =
          ap (λ (l : List ℕ). fed_part step form start first limit before longer (split l))
          (parted line 10 rest)
          ∙ stands.so_far split parts longer (line ++ 10 ∷ rest)

      pub behind_more : (m : ℕ) (rest : List ℕ)
          → behind_lines (lines + 1 + m) ((stands.bytes ++ (line ++ 10 ∷ [])) ++ rest)
          ≡ behind_lines m rest
      behind_more m rest =
          let count : lines + 1 + m ≡ lines + suc m = omega arith in
          ap (λ (l : List ℕ). behind_lines (lines + 1 + m) l) (parted line 10 rest)
          ∙ ap (λ n. behind_lines n (stands.bytes ++ (line ++ 10 ∷ rest))) count
          ∙ stands.behind (suc m) (line ++ 10 ∷ rest) ∙ behind_line m line rest one

      pub counts_more : (rest : List ℕ)
          → length (whole_lines ((stands.bytes ++ (line ++ 10 ∷ [])) ++ rest))
          ≡ lines + 1 + length (whole_lines rest)
      counts_more rest =
          let more = ap (λ (ls : List (List ℕ)). length ls) (whole_part line rest one) in
          let all = ap (λ (l : List ℕ). length (whole_lines l)) (parted line 10 rest)
          ∙ stands.counts (line ++ 10 ∷ rest) in
          omega (arith, all, more)

      -- the line shows at its newline, and no byte before it
      shown_here : counted + length line ≤ limit
          → AtOnce false (λ bs. PartPending step form start first limit before bs)
          (stands.bytes ++ (line ++ 10 ∷ []))
      shown_here within = (
        but_last step form start first limit before old now s number lines counted stands line 10
            one short within,
        newline_here step form start first limit before old now s number lines counted stands line,
      )

      module _ (next : Next S V R) (read : LineIs limit counted after now new line (Ok how.Whole))
          (is : step s line ≡ next) where
        -- what the line makes of the part
        pub then_made : (split : List ℕ → List (List ℕ)) → PartsLines split
            → (longer : Bool) (rest : List ℕ)
            → fed_part step form start first limit before longer
            (split ((stands.bytes ++ (line ++ 10 ∷ [])) ++ rest))
            ≡ made split next lines number (room_of longer (limit - after)) rest
        then_made split parts longer rest =
            line_more split parts longer rest
            ∙ whole_line split parts s lines number line rest one next limit counted after longer
            short read.1 read.2 is

        decided_line : Decided step form start first limit before after old new
            (λ room rest. made lines_of next lines number room rest)
        decided_line = record {
          bytes = stands.bytes ++ (line ++ 10 ∷ []);
          ended = false;
          read = Consumes-trans old now new stands.bytes (line ++ 10 ∷ []) stands.read read.0;
          at_end = λ e. absurd cc;
          count = omega (arith, size_more 10, read.1, stands.count);
          within = read.2;
          at_once = shown_here (omega (arith, read.1, read.2));
          decides = λ longer rest follows. then_made lines_of lines_part longer rest;
        }

      pub stands_more : (t : S) → LineIs limit counted after now new line (Ok how.Whole)
          → step s line ≡ goes t
          → Standing step form start first limit before old new t (number + 1) (lines + 1) after
      stands_more t read is = record {
        bytes = stands.bytes ++ (line ++ 10 ∷ []);
        read = Consumes-trans old now new stands.bytes (line ++ 10 ∷ []) stands.read read.0;
        count = omega (arith, size_more 10, read.1, stands.count);
        within = read.2;
        numbered = omega (arith, stands.numbered);
        few = omega (arith, size_more 10, stands.few);
        so_far = then_made (goes t) read is;
        behind = behind_more;
        counts = counts_more;
      }

      -- the part ends with the line
      pub ends_here : (v : V) → LineIs limit counted after now new line (Ok how.Whole)
          → step s line ≡ ends v
          → PartFed step form start first limit before after old new
          (Ok (record { value = v; lines = lines + 1; ended = false }))
      unfolding decided_line
      ends_here v read is =
          let text : List ℕ → List ℕ = λ rest. (stands.bytes ++ (line ++ 10 ∷ [])) ++ rest in
          let count : lines + 1 ≡ lines + 1 + 0 = omega arith in
          record {
            decided = decided_line (ends v) read is;
            behind = λ longer rest follows. ap (λ n. behind_lines n (text rest)) count
                ∙ behind_more 0 rest;
            whole = λ goes_on rest. then_made (ends v) read is whole_lines whole_part false rest;
            ends = refl;
          }

      -- the line is refused
      pub refuses_here : (e : R) → LineIs limit counted after now new line (Ok how.Whole)
          → step s line ≡ refuses e
          → Decided step form start first limit before after old new (refused_at step form number e)
      refuses_here e read is = decided_line (refuses e) read is

      -- a read failed within the line
      pub lost_here : LineIs limit counted after now new line (Err fault.ReadFault)
          → PartFed step form start first limit before after old new (Err fed.ReadFault)
      lost_here read = record {
        bytes = stands.bytes ++ line;
        read = Consumes-trans old now new stands.bytes line stands.read read.0;
        lost = pending step form start first limit before old now s number lines counted stands
            line one short (omega (arith, read.2, stands.within));
      }

      -- memory ran out after the line
      pub halted_here : LineIs limit counted after now new line (Ok how.Whole)
          → PartFed step form start first limit before after old new (Err fed.NoMemory)
      halted_here read = record {
        bytes = stands.bytes ++ (line ++ 10 ∷ []);
        ended = false;
        read = Consumes-trans old now new stands.bytes (line ++ 10 ∷ []) stands.read read.0;
        at_end = λ e. absurd cc;
        at_once = shown_here (omega (arith, read.1, read.2));
      }
