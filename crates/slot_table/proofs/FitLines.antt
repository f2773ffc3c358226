-- The lines of a table that is read are of nodes and outputs of the plan, and no output stands in
-- two of them.
use Rattle.std.proofs.Common.{◌≡◌, ℕ, zero, suc, ◌<◌, ◌≤◌, inl, inr, Bool, true, false, List}
use Rattle.std.proofs.Common.{[], ◌∷◌, ◌++◌, length, get_or, All, Option, Some, None, Result, Ok}
use Rattle.std.proofs.Common.{Err, refl, sym, ap, ◌∙◌, subst, arith}
use Rattle.std.specs.Prelude.{IfOk, ◌&&◌, ◌||◌, nat_le, nat_lt, if◌then◌else◌, codes}
use Rattle.std.specs.List.{list_any}
use Rattle.std.specs.Str.{bytes_eq}
use Rattle.std.proofs.lemmas.Bool.{true≢false, and_parts, leb-true, le-leb, or_parts, leb-false}
use Rattle.std.proofs.lemmas.Bool.{ltb-false, cases_lt}
use Rattle.std.proofs.lemmas.List.{length_push, get_or_append_left, get_or_at}
use Rattle.std.proofs.lemmas.List.Elements.{All-push, All-nil}
use Rattle.texts.specs.Lines.{words_of}
use Rattle.texts.specs.Shapes.{numbers_after}
use Rattle.texts.specs.Parts.{Next, goes, ends, refuses, goes_on}
use Rattle.texts.proofs.Parts.{After, goes_on_keeps, skipping_keeps}
use Rattle.sync_types.specs.declared.answers.Rule.{Rule}
use Rattle.sync_types.specs.declared.answers.Rule.TheVariants.{Form, Limit, Node, Range, Overlap}
use Rattle.construction.specs.Plans.{Plan, plan_nodes, plan_modulus}
use Rattle.slot_table.specs.declared.lines.SlotLine.{SlotLine}
use Rattle.slot_table.specs.Tables.{covers, meets, AreApart}
use Rattle.slot_table.specs.SlotPart.{SlotsSoFar, no_lines, line_tested, line_in, with_line}
use Rattle.slot_table.specs.SlotPart.{slots_step, part_for, part_of, IsLineFor, IsTable, AreFor}

-- ---- a line that meets no other one

-- an output in both makes them meet
meet_there : (output : ℕ) (old line : SlotLine) → covers output old ≡ true
    → covers output line ≡ true → meets line.first line.last old ≡ true
meet_there output old line here there =
    let a = and_parts (nat_le old.first output) (nat_le output old.last) here in
    let b = and_parts (nat_le line.first output) (nat_le output line.last) there in
    let old_from = leb-true _ _ a.0 in
    let old_to = leb-true _ _ a.1 in
    let from = leb-true _ _ b.0 in
    let to = leb-true _ _ b.1 in
    ap (λ (x : Bool). x && nat_le line.first old.last)
    (le-leb old.first line.last (omega (arith, old_from, to)))
    ∙ le-leb line.first old.last (omega (arith, from, old_to))

none_before : (b rest : Bool) → (b || rest) ≡ false → b ≡ false
none_before true rest e = e
none_before false rest e = refl

none_behind : (b rest : Bool) → (b || rest) ≡ false → rest ≡ false
none_behind true rest e = absurd (true≢false e)
none_behind false rest e = e

no_meeting : (p : SlotLine → Bool) (lines : List SlotLine) (i : ℕ) (d : SlotLine)
    → list_any p lines ≡ false → i < length lines → p (get_or lines i d) ≡ false
no_meeting p [] i d e lt = absurd (omega arith)
no_meeting p (x ∷ xs) zero d e lt = (or_parts (p x) (list_any p xs) e).0
no_meeting p (x ∷ xs) (suc i) d e lt =
    no_meeting p xs i d (or_parts (p x) (list_any p xs) e).1 (omega arith)

module _ (lines : List SlotLine) (line : SlotLine) (apart : AreApart lines)
    (clear : list_any (meets line.first line.last) lines ≡ false) where
  abbrev all : List SlotLine
  all = lines ++ line ∷ []

  old_at : (i : ℕ) (d : SlotLine) → i < length lines → get_or all i d ≡ get_or lines i d
  old_at i d lt = get_or_append_left lines (line ∷ []) d i lt

  new_at : (i : ℕ) (d : SlotLine) → length lines ≤ i → i < length all → get_or all i d ≡ line
  new_at i d le lt =
      let long = length_push lines line in get_or_at lines line [] d i (omega (arith, le, lt, long))

  never_both : (i j output : ℕ) (d : SlotLine) → i < length lines
      → covers output (get_or lines i d) ≡ true → covers output line ≡ true → i ≡ j
  never_both i j output d lt here there =
      absurd
      (true≢false
      (sym (meet_there output (get_or lines i d) line here there)
      ∙ no_meeting (meets line.first line.last) lines i d clear lt))

  pub apart_more : AreApart all
  apart_more i j output d ilt jlt here there = elim (cases_lt i (length lines)) [
    | inl i_old ↦ elim (cases_lt j (length lines)) [
      | inl j_old ↦ apart i j output d i_old j_old
          (ap (covers output) (sym (old_at i d i_old)) ∙ here)
          (ap (covers output) (sym (old_at j d j_old)) ∙ there)
      | inr j_new ↦ never_both i j output d i_old
          (ap (covers output) (sym (old_at i d i_old)) ∙ here)
          (ap (covers output) (sym (new_at j d j_new jlt)) ∙ there)
    ]
    | inr i_new ↦ elim (cases_lt j (length lines)) [
      | inl j_old ↦ sym
          (never_both j i output d j_old (ap (covers output) (sym (old_at j d j_old)) ∙ there)
          (ap (covers output) (sym (new_at i d i_new ilt)) ∙ here))
      | inr j_new ↦ let long = length_push lines line in omega (arith, i_new, j_new, ilt, jlt, long)
    ]
  ]

-- ---- each line that is read

-- what holds of the lines so far
record FitSoFar (nodes modulus : ℕ) (s : SlotsSoFar) : Type 0 where
  same_nodes : s.nodes ≡ nodes
  same_modulus : s.modulus ≡ modulus
  many : length s.lines ≤ 256
  each : All (IsLineFor nodes modulus) s.lines
  apart : AreApart s.lines

-- a line that may be put after the others
record IsOneMore (s : SlotsSoFar) (line : SlotLine) : Type 0 where
  room : length s.lines < 256
  right : IsLineFor s.nodes s.modulus line
  clear : list_any (meets line.first line.last) s.lines ≡ false

by_tests : (s : SlotsSoFar) (v a b : ℕ) (full high out met : Bool)
    → nat_le 256 (length s.lines) ≡ full → nat_le s.nodes v ≡ high
    → (nat_lt b a || nat_le s.modulus b) ≡ out → list_any (meets a b) s.lines ≡ met
    → IfOk (if full then Err Limit else if high then Err Node else if out then Err Range
    else if met then Err Overlap else Ok (record { node = v; first = a; last = b })) (IsOneMore s)
by_tests s v a b true high out met e e' e'' e3 = tt
by_tests s v a b false true out met e e' e'' e3 = tt
by_tests s v a b false false true met e e' e'' e3 = tt
by_tests s v a b false false false true e e' e'' e3 = tt
by_tests s v a b false false false false e e' e'' e3 =
    let parts = or_parts (nat_lt b a) (nat_le s.modulus b) e'' in
    record {
      room = leb-false 256 (length s.lines) e;
      right = record {
        node = leb-false s.nodes v e';
        order = ltb-false b a parts.0;
        output = leb-false s.modulus b parts.1;
      };
      clear = e3;
    }

tested : (s : SlotsSoFar) (numbers : Option (List ℕ)) → IfOk (line_tested s numbers) (IsOneMore s)
tested s None = tt
tested s (Some []) = tt
tested s (Some (v ∷ [])) = tt
tested s (Some (v ∷ a ∷ [])) = tt
tested s (Some (v ∷ a ∷ b ∷ [])) =
    by_tests s v a b (nat_le 256 (length s.lines)) (nat_le s.nodes v)
    (nat_lt b a || nat_le s.modulus b) (list_any (meets a b) s.lines) refl refl refl refl
tested s (Some (v ∷ a ∷ b ∷ c ∷ more)) = tt

-- so lines stay apart
pub still_apart : (s : SlotsSoFar) (line : SlotLine) (numbers : Option (List ℕ)) → AreApart s.lines
    → Ok line ≡ line_tested s numbers → AreApart (s.lines ++ line ∷ [])
still_apart s line numbers apart is =
    let one = subst (λ (r : Result SlotLine Rule). IfOk r (IsOneMore s)) (sym is)
    (tested s numbers) in
    apart_more s.lines line apart one.clear

module _ (nodes modulus : ℕ) where
  abbrev Goes : Next SlotsSoFar (List SlotLine) Rule → Type 0
  Goes next = After (FitSoFar nodes modulus) (IsTable nodes modulus) next

  one_more : (s : SlotsSoFar) → FitSoFar nodes modulus s → (line : SlotLine) → IsOneMore s line
      → FitSoFar nodes modulus (with_line s line)
  one_more s fit line one = record {
    same_nodes = fit.same_nodes;
    same_modulus = fit.same_modulus;
    many = let room = one.room in omega (arith, length_push s.lines line, room);
    each = All-push (IsLineFor nodes modulus) s.lines line fit.each
        (subst (λ n. IsLineFor n modulus line) fit.same_nodes
        (subst (λ c. IsLineFor s.nodes c line) fit.same_modulus one.right));
    apart = apart_more s.lines line fit.apart one.clear;
  }

  headed : (s : SlotsSoFar) (is : Bool) → FitSoFar nodes modulus s
      → Goes (if is then goes (record s { begun = true }) else refuses Form)
  headed s false fit = tt
  headed s true fit =
      record {
        same_nodes = fit.same_nodes;
        same_modulus = fit.same_modulus;
        many = fit.many;
        each = fit.each;
        apart = fit.apart;
      }

  ended : (s : SlotsSoFar) (is : Bool) (line : List ℕ) → FitSoFar nodes modulus s
      → Goes (if is then ends s.lines else goes_on (with_line s) (line_in s line))
  ended s true line fit = record { many = fit.many; each = fit.each; apart = fit.apart }
  ended s false line fit =
      goes_on_keeps (FitSoFar nodes modulus) (IsTable nodes modulus) (with_line s) (IsOneMore s)
      (line_in s line) (tested s (numbers_after (codes "slot") 3 (words_of line)))
      (one_more s fit)

  stepped : (s : SlotsSoFar) (line : List ℕ) (begun : Bool) → FitSoFar nodes modulus s
      → Goes (if begun
      then (if bytes_eq line (codes "end") then ends s.lines
      else goes_on (with_line s) (line_in s line))
      else (if bytes_eq line (codes "slots 1") then goes (record s { begun = true })
      else refuses Form))
  stepped s line true fit = ended s (bytes_eq line (codes "end")) line fit
  stepped s line false fit = headed s (bytes_eq line (codes "slots 1")) fit

  begins : FitSoFar nodes modulus (no_lines nodes modulus)
  begins = record {
    same_nodes = refl;
    same_modulus = refl;
    many = omega arith;
    each = All-nil (IsLineFor nodes modulus);
    apart = λ i j output d ilt jlt here there. absurd (omega (arith, ilt));
  }

-- what is read is a table
pub tables_fit : (nodes modulus number : ℕ) (lines : List (List ℕ))
    → IfOk (part_for nodes modulus number lines) (λ found. IsTable nodes modulus found.value)
tables_fit nodes modulus number lines =
    skipping_keeps slots_step Form (FitSoFar nodes modulus) (IsTable nodes modulus)
    (λ s line fit. stepped nodes modulus s line s.begun fit)
    lines (no_lines nodes modulus) 0 number (begins nodes modulus)

-- what is read for a plan is one for it
pub lines_fit : (plan : Plan) (number : ℕ) (lines : List (List ℕ))
    → IfOk (part_of plan number lines) (λ found. AreFor plan found.value)
lines_fit plan number lines = tables_fit (plan_nodes plan) (plan_modulus plan) number lines
