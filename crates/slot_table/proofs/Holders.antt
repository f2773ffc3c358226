-- A holder holds, and if lines are apart it is the only one.
use Rattle.std.proofs.Common.{◌≡◌, ℕ, zero, suc, ◌<◌, Bool, true, false, List, [], ◌∷◌, length}
use Rattle.std.proofs.Common.{get_or, Some, None, refl, sym, ap, ◌∙◌, subst, arith}
use Rattle.std.specs.Prelude.{if◌then◌else◌}
use Rattle.slot_table.specs.declared.lines.SlotLine.{SlotLine}
use Rattle.plan_laws.proofs.RunLaws.{every_plan_settles}
use Rattle.slot_table.specs.Tables.{covers, holder_of, Holds, AreApart, HolderHolds, HolderIsOne}
use Rattle.slot_table.specs.HoldLaws.{AtMostOneHolds}

some_one : (x y : ℕ) → Some x ≡ Some y → x ≡ y
some_one x y e = cc

none_is : (v : ℕ) → None ≡ Some v → ⊥
none_is v e = cc

-- ---- the holder holds

first_holds : (line : SlotLine) (lines : List SlotLine) (v output : ℕ) (b : Bool)
    → covers output line ≡ b → (if b then Some line.node else holder_of lines output) ≡ Some v
    → (holder_of lines output ≡ Some v → Holds lines v output) → Holds (line ∷ lines) v output
first_holds line lines v output true is e later =
    record {
      place = 0;
      line = line;
      inside = omega arith;
      at = λ d. refl;
      node = some_one line.node v e;
      covers_it = is;
    }
first_holds line lines v output false is e later =
    let h = later e in
    let inside = h.inside in
    record {
      place = suc h.place;
      line = h.line;
      inside = omega (arith, inside);
      at = λ d. h.at d;
      node = h.node;
      covers_it = h.covers_it;
    }

pub holder_is_one : HolderIsOne
holder_is_one [] v output e = absurd (none_is v e)
holder_is_one (line ∷ lines) v output e =
    first_holds line lines v output (covers output line) refl e (holder_is_one lines v output)

-- ---- and no other

later_apart : (line : SlotLine) (lines : List SlotLine) → AreApart (line ∷ lines) → AreApart lines
later_apart line lines apart i j output d ilt jlt here there =
    let e = apart (suc i) (suc j) output d (omega arith) (omega arith) here there in
    omega (arith, e)

later : (line : SlotLine) (lines : List SlotLine) (output place node : ℕ) (b : Bool)
    → covers output line ≡ b → (b ≡ true → ⊥) → holder_of lines output ≡ Some node
    → (if b then Some line.node else holder_of lines output) ≡ Some node
later line lines output place node true is other rest = absurd (other refl)
later line lines output place node false is other rest = rest

holder_at : (lines : List SlotLine) → AreApart lines → (output place : ℕ) (line : SlotLine)
    → place < length lines → ((d : SlotLine) → get_or lines place d ≡ line)
    → covers output line ≡ true → holder_of lines output ≡ Some line.node
holder_at [] apart output place line lt at it = absurd (omega arith)
holder_at (first ∷ lines) apart output zero line lt at it =
    let same : first ≡ line = at line in
    ap (λ (b : Bool). if b then Some first.node else holder_of lines output)
    (ap (covers output) same ∙ it)
    ∙ ap (λ (l : SlotLine). Some l.node) same
holder_at (first ∷ lines) apart output (suc place) line lt at it =
    later first lines output place line.node (covers output first) refl
    (λ yes. let e = apart 0 (suc place) output line (omega arith) lt yes
    (ap (covers output) (at line) ∙ it) in
    absurd (omega (arith, e)))
    (holder_at lines (later_apart first lines apart) output place line (omega arith) at it)

pub holder_holds : HolderHolds
holder_holds lines apart v output h =
    holder_at lines apart output h.place h.line h.inside h.at h.covers_it ∙ ap Some h.node

-- ---- correct nodes show one output

pub at_most_one_holds : AtMostOneHolds
at_most_one_holds plan accepted lines apart faulty run borne is t lo hi u v here there =
    let counts = every_plan_settles plan accepted faulty run borne is in
    let output : ℕ = counts.output t in
    let one : holder_of lines output
    ≡ Some u = holder_holds lines apart u output
    (subst (Holds lines u) (counts.shows t lo hi u here.node here.correct) here.holds) in
    let other : holder_of lines output
    ≡ Some v = holder_holds lines apart v output
    (subst (Holds lines v) (counts.shows t lo hi v there.node there.correct) there.holds) in
    some_one u v (sym one ∙ other)
