-- The line that ends an input, of a part that is read from a feed.
use Rattle.std.proofs.Common.{◌≡◌, ℕ, ◌+◌, ◌≤◌, true, false, List, [], ◌∷◌, ◌++◌, length, Option}
use Rattle.std.proofs.Common.{None, Result, Ok, Err, refl, sym, ap, ◌∙◌, append-nil, length-append}
use Rattle.std.proofs.Common.{arith}
use Rattle.std.proofs.KnownBytes.{Consumes-trans}
use Rattle.texts.specs.Lines.{lines_of, is_one_line}
use Rattle.texts.specs.Parts.{Next, goes, ends, refuses, Found, At, part_from}
use Rattle.texts.specs.Limits.{by, behind_lines}
use Rattle.texts.proofs.LineByLine.{lines_part, line_last, behind_last}
use Rattle.edge_io.specs.declared.feed.Line.TheVariants as how
use Rattle.edge_io.specs.declared.fed_parts.FedPart.{FedPart}
use Rattle.edge_io.specs.declared.fed_parts.FedError.{FedError}
use Rattle.edge_io.specs.declared.fed_parts.FedError.TheVariants as fed
use Rattle.edge_io.specs.Feeds.{LineIs}
use Rattle.edge_io.specs.FedParts.{LimitedPart, limited_part, PartPending, Decided, ends_with}
use Rattle.edge_io.specs.FedParts.{refused_at, PartFed, IsLastLine}
use Rattle.edge_io.proofs.Standing.{Standing, pending}

-- what a part answers: two that are the same have the same parts
abbrev Answer : (V R : Type 0) → Type 0
Answer V R = Result (Found V) (At R)

same_ok : {V R : Type 0} (a b : Found V) → (let e : Answer V R = Ok a in e) ≡ Ok b → a ≡ b
same_ok a b e = cc

same_err : {V R : Type 0} (a b : At R) → (let e : Answer V R = Err a in e) ≡ Err b → a ≡ b
same_err a b e = cc

ok_is_no_err : {V R : Type 0} (a : Found V) (b : At R) → (let e : Answer V R = Ok a in e) ≡ Err b
    → ⊥
ok_is_no_err a b e = cc

err_is_no_ok : {V R : Type 0} (a : At R) (b : Found V) → (let e : Answer V R = Err a in e) ≡ Ok b
    → ⊥
err_is_no_ok a b e = cc

module _ {S V R : Type 0} (step : S → List ℕ → Next S V R) (form : R)
    (s : S) (lines number : ℕ) (line : List ℕ) where
  last_end : (next : Next S V R) (value : V) (taken : ℕ) → step s line ≡ next
      → part_from step form s lines number (line ∷ [])
      ≡ Ok (record { value = value; taken = taken; behind = [] })
      → limited_part step form s lines number None (line ∷ [])
      ≡ Ok (record { value = (None, value); taken = taken; behind = [] })
  last_end (goes t) value taken is h = absurd (err_is_no_ok _ _ (rw (is, part_from) at h))
  last_end (ends v) value taken is h =
      let e = same_ok (record {
        value = v;
        taken = lines + 1;
        behind = [];
      }) _ (rw (is, part_from) at h) in
      rw (part_from, is) (ap (λ (f : Found V). Ok (record {
        value = (None, f.value);
        taken = f.taken;
        behind = f.behind;
      })) e)
  last_end (refuses r) value taken is h = absurd (err_is_no_ok _ _ (rw (is, part_from) at h))

  last_taken : (next : Next S V R) (value : V) (taken : ℕ) → step s line ≡ next
      → part_from step form s lines number (line ∷ [])
      ≡ Ok (record { value = value; taken = taken; behind = [] })
      → taken ≡ lines + 1
  last_taken (goes t) value taken is h = absurd (err_is_no_ok _ _ (rw (is, part_from) at h))
  last_taken (ends v) value taken is h =
      let e = same_ok (record {
        value = v;
        taken = lines + 1;
        behind = [];
      }) _ (rw (is, part_from) at h) in
      sym (ap (λ (f : Found V). f.taken) e)
  last_taken (refuses r) value taken is h = absurd (err_is_no_ok _ _ (rw (is, part_from) at h))

  last_refused : (next : Next S V R) (at : ℕ) (e : R) → step s line ≡ next
      → part_from step form s lines number (line ∷ []) ≡ Err (record { line = at; rule = e })
      → limited_part step form s lines number None (line ∷ [])
      ≡ Err (record { line = at; rule = by e })
  last_refused (goes t) at e is h =
      let k = same_err (record { line = number + 1; rule = form }) _ (rw (is, part_from) at h) in
      rw (part_from, is) (ap (λ (f : At R). Err (record { line = f.line; rule = by f.rule })) k)
  last_refused (ends v) at e is h = absurd (ok_is_no_err _ _ (rw (is, part_from) at h))
  last_refused (refuses r) at e is h =
      let k = same_err (record { line = number; rule = r }) _ (rw (is, part_from) at h) in
      rw (part_from, is) (ap (λ (f : At R). Err (record { line = f.line; rule = by f.rule })) k)

module _ {S V R : Type 0} (step : S → List ℕ → Next S V R) (form : R)
    (start : S) (first limit before : ℕ) (old now new : Option (List ℕ)) (s : S)
    (number lines counted after : ℕ) (line : List ℕ)
    (one : is_one_line line ≡ true) (short : length line ≤ 4096)
    (stands : Standing step form start first limit before old now s number lines counted) where
  open_pending : LineIs limit counted after now new line (Ok how.Open)
      → PartPending step form start first limit before (stands.bytes ++ line)
  open_pending (read, ended, some, count, within) =
      pending step form start first limit before old now s number lines counted stands
      line one short (omega (arith, count, within))

  open_decided : (outcome : Option ℕ → List ℕ → LimitedPart V R)
      → LineIs limit counted after now new line (Ok how.Open)
      → limited_part step form s lines number None (line ∷ []) ≡ outcome None []
      → Decided step form start first limit before after old new outcome
  open_decided outcome (read, ended, some, count, within) is =
      let text = stands.bytes ++ line in
      let whole : limited_part step form start 0 first None (lines_of (text ++ []))
      ≡ outcome None [] =
      ap (λ (l : List ℕ). limited_part step form start 0 first None (lines_of l)) (append-nil text)
      ∙ stands.so_far lines_of lines_part false line ∙ rw (line_last line some one) is in
      record {
        bytes = text;
        ended = true;
        read = Consumes-trans old now new stands.bytes line stands.read read;
        at_end = λ e. ended;
        count = omega (arith, length-append stands.bytes line, count, stands.count);
        within = within;
        at_once = open_pending (read, ended, some, count, within);
        decides = λ longer rest follows. rw (follows.0, follows.1) whole;
      }

  all_behind : (n : ℕ) → n ≡ lines + 1 → behind_lines n ((stands.bytes ++ line) ++ []) ≡ []
  all_behind n e =
      let whole : behind_lines (lines + 1) ((stands.bytes ++ line) ++ []) ≡ [] =
      ap (λ (l : List ℕ). behind_lines (lines + 1) l) (append-nil (stands.bytes ++ line))
      ∙ stands.behind 1 line ∙ behind_last 0 line one in
      rw e whole

  -- the line that ends the input decides the part
  pub open_here : (result : Result (FedPart V) (FedError R))
      → LineIs limit counted after now new line (Ok how.Open)
      → IsLastLine step form s number lines line result
      → PartFed step form start first limit before after old new result
  unfolding open_decided
  open_here (Ok x) read (last, over) =
      let next = step s line in
      let taken = last_taken step form s lines number line next x.value x.lines refl last in
      let value = last_end step form s lines number line next x.value x.lines refl last in
      record {
        decided = open_decided (ends_with step form x.value x.lines) read value;
        ends = over;
        behind = λ longer rest follows. rw (follows.0) (all_behind x.lines taken);
        whole = λ goes_on. absurd cc;
      }
  open_here (Err (fed.Refused r)) read last =
      let next = step s line in
      open_decided (refused_at step form r.line r.rule) read
      (last_refused step form s lines number line next r.line r.rule refl last)
  open_here (Err fed.NoMemory) read last = record {
    bytes = stands.bytes ++ line;
    ended = true;
    read = Consumes-trans old now new stands.bytes line stands.read read.0;
    at_end = λ e. read.1;
    at_once = open_pending read;
  }
  open_here (Err fed.ReadFault) read last = absurd last
  open_here (Err fed.TooLong) read last = absurd last
