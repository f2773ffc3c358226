-- The lines that a part takes, and the line at which it is refused.
use Rattle.std.proofs.Common.{◌≡◌, ℕ, ◌+◌, Bool, true, false, List, [], ◌∷◌, ◌++◌, length, not}
use Rattle.std.proofs.Common.{Result, Ok, Err, refl, sym, ap, subst, ◌∙◌, append_assoc, arith}
use Rattle.std.specs.Prelude.{IfOk, nat_lt, if◌then◌else◌}
use Rattle.std.proofs.lemmas.List.{append-nil}
use Rattle.std.proofs.lemmas.List.Elements.{filter-append}
use Rattle.texts.specs.Lines.{is_well_parted}
use Rattle.texts.specs.Parts.{Next, goes, ends, refuses, Found, At, is_skipped, with_skips}
use Rattle.texts.specs.Parts.{part_from}
use Rattle.part_lines.specs.TakenLines.{counting, Took, StopsAt, IsRefusedFirst, RefusedLineIsFirst}
use Rattle.texts.proofs.Parts.{After, after_if}

-- ---- what is said by the lines that count

-- a part that was begun took these lines up to those behind it, and all that counts says it
record TookOn {V : Type 0} (lines before : List (List ℕ)) (taken : ℕ) (found : Found V)
    (Says : List (List ℕ) → Type 0) : Type 0 where
  pub front : List (List ℕ)
  pub parts : lines ≡ front ++ found.behind
  pub many : found.taken ≡ taken + length front
  pub says : Says (before ++ counting front)

counting_more : (before : List (List ℕ)) (line : List ℕ) (front : List (List ℕ))
    → (before ++ counting (line ∷ [])) ++ counting front ≡ before ++ counting (line ∷ front)
counting_more before line front =
    append_assoc before (counting (line ∷ [])) (counting front)
    ∙ ap (λ ls. before ++ ls) (sym (filter-append (λ l. not (is_skipped l)) (line ∷ []) front))

module _ {S V R : Type 0} (step : S → List ℕ → Next S V R) (form : R)
    (P : S → List (List ℕ) → Type 0) (Q : V → List (List ℕ) → Type 0)
    (kept : (s : S) (before : List (List ℕ)) (line : List ℕ) → P s before
    → After (λ t. P t (before ++ line ∷ [])) (λ v. Q v (before ++ line ∷ [])) (step s line)) where
  abbrev Kept : (before : List (List ℕ)) → Next S V R → Type 0
  Kept before next = After (λ t. P t before) (λ v. Q v before) next

  -- a line that is skipped changes nothing
  counted : (skipped parted : Bool) (s : S) (before : List (List ℕ)) (line : List ℕ)
      → is_skipped line ≡ skipped → P s before
      → Kept (before ++ counting (line ∷ []))
      (if skipped then goes s else if parted then step s line else refuses form)
  counted true parted s before line is p =
      rw is (subst (P s) (sym (append-nil before)) p)
  counted false true s before line is p = rw is (kept s before line p)
  counted false false s before line is p = tt

  line_kept : (s : S) (before : List (List ℕ)) (line : List ℕ) → P s before
      → Kept (before ++ counting (line ∷ [])) (with_skips step form s line)
  line_kept s before line p =
      let now = before ++ counting (line ∷ []) in
      after_if (λ t. P t now) (λ v. Q v now) (nat_lt 4096 (length line)) (refuses form) _ tt
      (counted (is_skipped line) (is_well_parted line) s before line refl p)

  abbrev Reads : (lines before : List (List ℕ)) → (taken : ℕ) → Result (Found V) (At R) → Type 0
  Reads lines before taken read =
      IfOk read (λ found. TookOn lines before taken found (Q found.value))

  more_taken : (line : List ℕ) (lines before : List (List ℕ)) (taken : ℕ)
      (read : Result (Found V) (At R))
      → Reads lines (before ++ counting (line ∷ [])) (taken + 1) read
      → Reads (line ∷ lines) before taken read
  more_taken line lines before taken (Ok found) r = record {
    front = line ∷ r.front;
    parts = ap (λ ls. line ∷ ls) r.parts;
    many = omega (arith, r.many);
    says = subst (Q found.value) (counting_more before line r.front) r.says;
  }
  more_taken line lines before taken (Err at) r = tt

  took_on : (lines : List (List ℕ)) (s : S) (before : List (List ℕ)) (taken number : ℕ) → P s before
      → Reads lines before taken (part_from (with_skips step form) form s taken number lines)
  took_on [] s before taken number p = tt
  took_on (line ∷ lines) s before taken number p =
      let goal : Next S V R → Type 0 = λ next. Reads (line ∷ lines) before taken
      (elim next as (λ _. Result (Found V) (At R)) [
        | goes t ↦
            part_from (with_skips step form) form t (taken + 1) (number + 1) lines
        | ends v ↦ Ok (record { value = v; taken = taken + 1; behind = lines })
        | refuses r ↦ Err (record { line = number; rule = r })
      ]) in
      let now = before ++ counting (line ∷ []) in
      let cases : (next : Next S V R) → Kept now next → goal next =
      λ next. elim next as (λ next. Kept now next → goal next) [
        | goes t ↦ λ q. more_taken line lines before taken
            (part_from (with_skips step form) form t (taken + 1) (number + 1) lines)
            (took_on lines t now (taken + 1) (number + 1) q)
        | ends v ↦ λ q. record { front = line ∷ []; parts = refl; many = refl; says = q }
        | refuses r ↦ λ q. tt
      ] in
      cases (with_skips step form s line) (line_kept s before line p)

  from_nothing : (lines : List (List ℕ)) (read : Result (Found V) (At R)) → Reads lines [] 0 read
      → IfOk read (λ found. Took lines found (Q found.value))
  from_nothing lines (Ok found) r =
      record { front = r.front; parts = r.parts; many = omega (arith, r.many); says = r.says }
  from_nothing lines (Err at) r = tt

  -- what each line says, and so what all that were taken say
  pub took : (lines : List (List ℕ)) (s : S) (number : ℕ) → P s []
      → IfOk (part_from (with_skips step form) form s 0 number lines)
      (λ found. Took lines found (Q found.value))
  took lines s number p =
      from_nothing lines (part_from (with_skips step form) form s 0 number lines)
      (took_on lines s [] 0 number p)

-- ---- the line that is refused

module _ {S V R : Type 0} (step : S → List ℕ → Next S V R) (form : R) where
  abbrev read_next : (taken number : ℕ) → List (List ℕ) → Next S V R → Result (Found V) (At R)
  read_next taken number lines next = elim next as (λ _. Result (Found V) (At R)) [
    | goes t ↦ part_from step form t (taken + 1) (number + 1) lines
    | ends v ↦ Ok (record { value = v; taken = taken + 1; behind = lines })
    | refuses r ↦ Err (record { line = number; rule = r })
  ]

  abbrev First : S → (taken number : ℕ) → List (List ℕ) → At R → Type 0
  First s taken number lines at =
      IsRefusedFirst (part_from step form s taken number) form number lines at

  stops_behind : (s t : S) (taken number : ℕ) (line : List ℕ) (front behind : List (List ℕ))
      (at : At R) → step s line ≡ goes t
      → StopsAt (part_from step form t (taken + 1) (number + 1)) form at front behind
      → StopsAt (part_from step form s taken number) form at (line ∷ front) behind
  stops_behind s t taken number line front [] at is h = h
  stops_behind s t taken number line front (next ∷ behind) at is h =
      λ more. ap (read_next taken number (front ++ next ∷ more)) is ∙ h more

  -- so is one of the lines behind a line with which the part goes on
  first_behind : (s t : S) (taken number : ℕ) (line : List ℕ) (lines : List (List ℕ)) (at : At R)
      → step s line ≡ goes t → First t (taken + 1) (number + 1) lines at
      → First s taken number (line ∷ lines) at
  first_behind s t taken number line lines at is h =
      let far : number + 1 + length h.front ≡ number + length (line ∷ h.front) = omega arith in
      let there : Result (Found V) (At R) =
      Err (record { line = number + length (line ∷ h.front); rule = form }) in
      let goes_on : part_from step form t (taken + 1) (number + 1) h.front ≡ there =
      h.goes ∙ ap (λ n. Err (record { line = n; rule = form })) far in
      record {
        front = line ∷ h.front;
        behind = h.behind;
        parts = ap (λ ls. line ∷ ls) h.parts;
        line = h.line ∙ far;
        goes = ap (read_next taken number h.front) is ∙ goes_on;
        stops = stops_behind s t taken number line h.front h.behind at is h.stops;
      }

  pub refused_first : (lines : List (List ℕ)) (s : S) (taken number : ℕ) (at : At R)
      → part_from step form s taken number lines ≡ Err at → First s taken number lines at
  refused_first [] s taken number at e =
      let same : record { line = number; rule = form } ≡ at = cc in
      let none : number ≡ number + 0 = omega arith in
      record {
        front = [];
        behind = [];
        parts = refl;
        line = sym (ap (λ (a : At R). a.line) same) ∙ none;
        goes = ap (λ n. Err (record { line = n; rule = form })) none;
        stops = sym (ap (λ (a : At R). a.rule) same);
      }
  refused_first (line ∷ lines) s taken number at e =
      let goal : Next S V R → Type 0 = λ next.
      step s line ≡ next → read_next taken number lines next ≡ Err at
      → First s taken number (line ∷ lines) at in
      let here : (r : R) → goal (refuses r) = λ r is k.
      let same : record { line = number; rule = r } ≡ at = cc in
      let none : number ≡ number + 0 = omega arith in
      let at_once : (more : List (List ℕ))
      → part_from step form s taken number (line ∷ more) ≡ Err at =
      λ more. ap (read_next taken number more) is ∙ k in
      record {
        front = [];
        behind = line ∷ lines;
        parts = refl;
        line = sym (ap (λ (a : At R). a.line) same) ∙ none;
        goes = ap (λ n. Err (record { line = n; rule = form })) none;
        stops = at_once;
      } in
      let onward : (t : S) → goal (goes t) = λ t is k.
      first_behind s t taken number line lines at is
      (refused_first lines t (taken + 1) (number + 1) at k) in
      let cases : (next : Next S V R) → goal next = λ next. elim next as goal [
        | goes t ↦ onward t
        | ends v ↦ λ is k. absurd cc
        | refuses r ↦ here r
      ] in
      cases (step s line) refl e

-- each refusal is of the first line that fails
pub refused_line : (S V R : Type 0) → RefusedLineIsFirst S V R
refused_line S V R step form s taken number lines at e =
    refused_first step form lines s taken number at e
