-- The answer to a whole text.
use Rattle.std.proofs.Common.{◌≡◌, ℕ, zero, suc, ◌+◌, List, [], ◌∷◌, ◌++◌, length, map, Option}
use Rattle.std.proofs.Common.{Some, None, Result, Ok, Err, refl, sym, ap, ◌∙◌, arith}
use Rattle.std.specs.Prelude.{All}
use Rattle.std.proofs.lemmas.List.Elements.{All-nil, All-cons, All-head, All-tail}
use Rattle.texts.specs.Parts.{goes, ends, refuses, Found, At, part_from}
use Rattle.run_checker.specs.declared.Verdict.{Verdict}
use Rattle.run_checker.specs.Items.{Item, HasLine, item_line, said}
use Rattle.run_checker.specs.Checking.{Stage, Onward, step, step_by, line_step, accepts}
use Rattle.run_checker.specs.Checking.{at_end}
use Rattle.run_checker.proofs.Lexical.{said_there, said_back}
use Rattle.run_checker.proofs.Complete.{following}

-- ---- items and their lines

abbrev pub read_lines : Stage → (taken number : ℕ) → List (List ℕ)
    → Result (Found Verdict) (At (Unit {0}))
read_lines stage taken number lines = part_from line_step tt stage taken number lines

abbrev pub lines_following : Onward → (taken number : ℕ) → List (List ℕ)
    → Result (Found Verdict) (At (Unit {0}))
lines_following next taken number lines = elim next [
  | goes t ↦ read_lines t (taken + 1) (number + 1) lines
  | ends v ↦ Ok (record { value = v; taken = taken + 1; behind = lines })
  | refuses r ↦ Err (record { line = number; rule = r })
]

line_steps : (stage : Stage) (item : Item) → HasLine item
    → line_step stage (item_line item) ≡ step stage item
line_steps stage item h = ap (step_by stage) (said_there item h)

-- the answer if the lines of these items were read
abbrev pub done : Verdict → (taken : ℕ) → List Item → List (List ℕ)
    → Result (Found Verdict) (At (Unit {0}))
done v taken items behind = Ok (record { value = v; taken = taken + length items; behind = behind })

last_read : (more : List Item) (taken number : ℕ) (behind : List (List ℕ)) (v w : Verdict)
    (item : Item)
    → at_end w more ≡ Some v
    → lines_following (ends w) taken number (map item_line more ++ behind)
    ≡ done v taken (item ∷ more) behind
last_read [] taken number behind v w item e =
    let same : w ≡ v = cc in
    let count : taken + suc zero ≡ taken + 1 = omega arith in
    rw (count, same) refl
last_read (x ∷ xs) taken number behind v w item e = absurd cc

next_read : (next : Onward) (item : Item) (items : List Item) (taken number : ℕ)
    (behind : List (List ℕ)) (v : Verdict)
    →
    ((t : Stage) → accepts t items ≡ Some v
    → read_lines t (taken + 1) (number + 1) (map item_line items ++ behind)
    ≡ done v (taken + 1) items behind)
    → following next items ≡ Some v
    → lines_following next taken number (map item_line items ++ behind)
    ≡ done v taken (item ∷ items) behind
next_read (goes t) item items taken number behind v more e =
    more t e ∙ ap (λ n. Ok (record { value = v; taken = n; behind = behind })) (omega arith)
next_read (ends w) item items taken number behind v more e =
    last_read items taken number behind v w item e
next_read (refuses r) item items taken number behind v more e = absurd cc

-- what is read to a verdict as items is read so as lines
pub lines_read : (items : List Item) (stage : Stage) (taken number : ℕ) (behind : List (List ℕ))
    (v : Verdict)
    → All HasLine items → accepts stage items ≡ Some v
    → read_lines stage taken number (map item_line items ++ behind) ≡ done v taken items behind
lines_read [] stage taken number behind v h e = absurd cc
lines_read (item ∷ items) stage taken number behind v h e =
    ap (λ next. lines_following next taken number (map item_line items ++ behind))
    (line_steps stage item (All-head HasLine item items h))
    ∙ next_read (step stage item) item items taken number behind v
    (λ t more. lines_read items t (taken + 1) (number + 1) behind v
    (All-tail HasLine item items h) more)
    e

-- ---- and back

-- lines that were read to a verdict are those of items
pub record Taken (stage : Stage) (taken : ℕ) (lines : List (List ℕ)) (found : Found Verdict) : Type
    0 where
  pub items : List Item
  pub has : All HasLine items
  pub is : lines ≡ map item_line items ++ found.behind
  pub read : accepts stage items ≡ Some found.value
  pub count : found.taken ≡ taken + length items

-- the stage that items lead to
abbrev pub reaches : Stage → List Item → Option Stage
reaches stage [] = Some stage
reaches stage (item ∷ items) = elim (step stage item) [
  | goes t ↦ reaches t items
  | ends v ↦ None
  | refuses r ↦ None
]

-- lines that were refused: those before are of items that lead to a stage, and the next line, if
-- there is one, is refused there
pub record Stopped (stage : Stage) (number : ℕ) (lines : List (List ℕ)) (at : At (Unit {0})) : Type
    0 where
  pub items : List Item
  pub has : All HasLine items
  pub rest : List (List ℕ)
  pub is : lines ≡ map item_line items ++ rest
  pub reached : Stage
  pub reach : reaches stage items ≡ Some reached
  pub count : at.line ≡ number + length items

abbrev pub Read : Stage → (taken number : ℕ) → List (List ℕ)
    → Result (Found Verdict) (At (Unit {0})) → Type 0
Read stage taken number lines (Ok found) = Taken stage taken lines found
Read stage taken number lines (Err at) = Stopped stage number lines at

stop_here : (stage : Stage) (taken number : ℕ) (lines : List (List ℕ)) (at : At (Unit {0}))
    → at.line ≡ number → Stopped stage number lines at
stop_here stage taken number lines at e =
    record {
      items = [];
      has = All-nil HasLine;
      rest = lines;
      is = refl;
      reached = stage;
      reach = refl;
      count = omega (arith, e);
    }

one_before : (stage t : Stage) (item : Item) (line : List ℕ) (taken number : ℕ)
    (lines : List (List ℕ))
    → step stage item ≡ goes t → item_line item ≡ line → HasLine item
    → (answer : Result (Found Verdict) (At (Unit {0})))
    → Read t (taken + 1) (number + 1) lines answer
    → Read stage taken number (line ∷ lines) answer
one_before stage t item line taken number lines e is has (Ok found) r = record {
  items = item ∷ r.items;
  has = All-cons HasLine item r.items has r.has;
  is = ap (λ l. l ∷ lines) (sym is) ∙ ap (λ l. item_line item ∷ l) r.is;
  read = ap (λ next. following next r.items) e ∙ r.read;
  count = omega (arith, r.count);
}
one_before stage t item line taken number lines e is has (Err at) r = record {
  items = item ∷ r.items;
  has = All-cons HasLine item r.items has r.has;
  rest = r.rest;
  is = ap (λ l. l ∷ lines) (sym is) ∙ ap (λ l. item_line item ∷ l) r.is;
  reached = r.reached;
  reach =
      ap
      (λ (next : Onward). elim next as (λ _. Option Stage)
      [ goes t ↦ reaches t r.items | ends v ↦ None | refuses x ↦ None ])
      e
      ∙ r.reach;
  count = omega (arith, r.count);
}

read_item : (next : Onward) (stage : Stage) (item : Item) (line : List ℕ) (taken number : ℕ)
    (lines : List (List ℕ))
    → item_line item ≡ line → HasLine item
    →
    ((t : Stage)
    → Read t (taken + 1) (number + 1) lines (read_lines t (taken + 1) (number + 1) lines))
    → step stage item ≡ next
    → Read stage taken number (line ∷ lines) (lines_following next taken number lines)
read_item (goes t) stage item line taken number lines is has more s =
    one_before stage t item line taken number lines s is has
    (read_lines t (taken + 1) (number + 1) lines) (more t)
read_item (ends v) stage item line taken number lines is has more s =
    record {
      items = item ∷ [];
      has = All-cons HasLine item [] has (All-nil HasLine);
      is = ap (λ l. l ∷ lines) (sym is);
      read = ap (λ next. following next []) s;
      count = omega arith;
    }
read_item (refuses r) stage item line taken number lines is has more s =
    stop_here stage taken number (line ∷ lines) (record { line = number; rule = r }) refl

read_by : (found : Option Item) (stage : Stage) (line : List ℕ) (taken number : ℕ)
    (lines : List (List ℕ))
    → said line ≡ found
    →
    ((t : Stage)
    → Read t (taken + 1) (number + 1) lines (read_lines t (taken + 1) (number + 1) lines))
    → Read stage taken number (line ∷ lines)
    (lines_following (step_by stage found) taken number lines)
read_by None stage line taken number lines e more =
    stop_here stage taken number (line ∷ lines) (record { line = number; rule = tt }) refl
read_by (Some item) stage line taken number lines e more =
    read_item (step stage item) stage item line taken number lines (said_back line item e).is
    (said_back line item e).has more refl

-- whatever lines are read
pub lines_taken : (lines : List (List ℕ)) (stage : Stage) (taken number : ℕ)
    → Read stage taken number lines (read_lines stage taken number lines)
lines_taken [] stage taken number =
    stop_here stage taken number [] (record { line = number; rule = tt }) refl
lines_taken (line ∷ lines) stage taken number =
    read_by (said line) stage line taken number lines refl
    (λ t. lines_taken lines t (taken + 1) (number + 1))
