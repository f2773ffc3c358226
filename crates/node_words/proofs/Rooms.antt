-- A part of few lines is found within a limit too: a line takes at most 4097 bytes of it.
use Rattle.std.proofs.Common.{◌≡◌, ℕ, ◌+◌, ◌*◌, ◌-◌, ◌<◌, ◌≤◌, Bool, true, List, [], ◌∷◌, Option}
use Rattle.std.proofs.Common.{Some, None, Result, Ok, Err, refl, ap, ◌∙◌, subst, arith}
use Rattle.std.specs.Prelude.{if◌then◌else◌}
use Rattle.std.proofs.lemmas.Bool.{le-leb}
use Rattle.texts.specs.Parts.{Next, goes, ends, refuses, Found, At, part_from}
use Rattle.texts.specs.Limits.{Limited, by, beyond, line_cost, shows, less, with_rest, with_limit}
use Rattle.edge_io.specs.FedParts.{LimitedPart, limited_part}

-- the rooms in which so many lines are shown, and more
abbrev pub HasRoom : (lines more : ℕ) → Option ℕ → Type 0
HasRoom lines more None = Unit {0}
HasRoom lines more (Some left) = 4097 * lines + more ≤ left

cost_most : (line : List ℕ) → line_cost line ≤ 4097
cost_most line = grind arith

shown : (lines more : ℕ) (room : Option ℕ) (line : List ℕ) → 0 < lines → HasRoom lines more room
    → shows room line ≡ true
shown lines more None line some has = refl
shown lines more (Some left) line some has =
    le-leb (line_cost line) left (omega (arith, cost_most line))

one_less : (lines more : ℕ) (room : Option ℕ) (line : List ℕ) → HasRoom (lines + 1) more room
    → HasRoom lines more (less room line)
one_less lines more None line has = tt
one_less lines more (Some left) line has = omega (arith, cost_most line)

-- what becomes of a part, with the room after it
abbrev with_left : {V R : Type 0} → Option ℕ → Result (Found V) (At R) → LimitedPart V R
with_left left (Ok found) =
    Ok (record { value = (left, found.value); taken = found.taken; behind = found.behind })
with_left left (Err at) = Err (record { line = at.line; rule = by at.rule })

module _ {S V R : Type 0} (step : S → List ℕ → Next S V R) (form : R) where
  -- a part has at least one line
  abbrev TakesSome : (lines : List (List ℕ)) → Type 0
  TakesSome lines = (s : S) (taken number : ℕ) (found : Found V)
      → part_from step form s taken number lines ≡ Ok found → taken < found.taken

  some_by : (lines : List (List ℕ)) → TakesSome lines → (taken number : ℕ) (found : Found V)
      → (next : Next S V R)
      → elim next as (λ _. Result (Found V) (At R)) [
        | goes t ↦ part_from step form t (taken + 1) (number + 1) lines
        | ends v ↦ Ok (record { value = v; taken = taken + 1; behind = lines })
        | refuses r ↦ Err (record { line = number; rule = r })
      ] ≡ Ok found
      → taken < found.taken
  some_by lines further taken number found (goes t) is =
      let more = further t (taken + 1) (number + 1) found is in omega (arith, more)
  some_by lines further taken number found (ends v) is =
      let e : taken + 1 ≡ found.taken = cc in omega (arith, e)
  some_by lines further taken number found (refuses r) is = absurd cc

  takes_some : (lines : List (List ℕ)) → TakesSome lines
  takes_some [] s taken number found is = absurd cc
  takes_some (line ∷ lines) s taken number found is =
      some_by lines (takes_some lines) taken number found (step s line) is

  -- it is found if each of its lines is shown
  pub record Within (lines : List (List ℕ)) (s : S) (taken number : ℕ) (room : Option ℕ)
      (more : ℕ) (found : Found V) : Type 0 where
    pub left : Option ℕ
    pub has : HasRoom 0 more left
    pub is : limited_part step form s taken number room lines
        ≡ Ok (record { value = (left, found.value); taken = found.taken; behind = found.behind })

  abbrev AreWithin : (lines : List (List ℕ)) → Type 0
  AreWithin lines = (s : S) (taken number : ℕ) (found : Found V)
      → part_from step form s taken number lines ≡ Ok found
      → (count more : ℕ) (room : Option ℕ) → found.taken ≡ taken + count → HasRoom count more room
      → Within lines s taken number room more found

  -- a line that is shown makes the step
  abbrev next_part : (lines : List (List ℕ)) (taken number : ℕ)
      → Next (Option ℕ × S) (Option ℕ × V) (Limited R) → LimitedPart V R
  next_part lines taken number next = elim next as (λ _. LimitedPart V R) [
    | goes t ↦ part_from (with_limit step) (by form) t (taken + 1) (number + 1) lines
    | ends v ↦ Ok (record { value = v; taken = taken + 1; behind = lines })
    | refuses r ↦ Err (record { line = number; rule = r })
  ]

  step_is : (line : List ℕ) (lines : List (List ℕ)) (s : S) (taken number : ℕ) (room : Option ℕ)
      (next : Next S V R) → shows room line ≡ true → step s line ≡ next
      → limited_part step form s taken number room (line ∷ lines)
      ≡ next_part lines taken number (with_rest (less room line) next)
  step_is line lines s taken number room next show is =
      ap (λ (b : Bool). next_part lines taken number
      (if b then with_rest (less room line) (step s line) else refuses beyond)) show
      ∙ ap (λ (n : Next S V R). next_part lines taken number (with_rest (less room line) n)) is

  within_by : (line : List ℕ) (lines : List (List ℕ)) → AreWithin lines
      → (s : S) (taken number : ℕ) (found : Found V) (count more : ℕ) (room : Option ℕ)
      → found.taken ≡ taken + count → HasRoom count more room
      → (next : Next S V R) → step s line ≡ next
      → elim next as (λ _. Result (Found V) (At R)) [
        | goes t ↦ part_from step form t (taken + 1) (number + 1) lines
        | ends v ↦ Ok (record { value = v; taken = taken + 1; behind = lines })
        | refuses r ↦ Err (record { line = number; rule = r })
      ] ≡ Ok found
      → Within (line ∷ lines) s taken number room more found
  within_by line lines further s taken number found count more room e has (goes t) step_to is =
      let grows = takes_some lines t (taken + 1) (number + 1) found is in
      let n : count ≡ count - 1 + 1 = omega arith in
      let has' : HasRoom (count - 1 + 1) more room = subst (λ k. HasRoom k more room) n has in
      let rest = further t (taken + 1) (number + 1) found is (count - 1) more (less room line)
      (omega arith) (one_less (count - 1) more room line has') in
      record {
        left = rest.left;
        has = rest.has;
        is = step_is line lines s taken number room (goes t)
            (shown count more room line (omega arith) has) step_to ∙ rest.is;
      }
  within_by line lines further s taken number found count more room e has (ends v) step_to is =
      let one : taken + 1 ≡ found.taken = cc in
      let n : count ≡ 0 + 1 = omega (arith, one, e) in
      let has' : HasRoom (0 + 1) more room = subst (λ k. HasRoom k more room) n has in
      record {
        left = less room line;
        has = one_less 0 more room line has';
        is = step_is line lines s taken number room (ends v)
            (shown count more room line (omega (arith, n)) has) step_to
            ∙ ap (λ (r : Result (Found V) (At R)). with_left (less room line) r) is;
      }
  within_by line lines further s taken number found count more room e has (refuses r) step_to is =
      absurd cc

  pub is_within : (lines : List (List ℕ)) → AreWithin lines
  is_within [] s taken number found is count more room e has = absurd cc
  is_within (line ∷ lines) s taken number found is count more room e has =
      within_by line lines (is_within lines) s taken number found count more room e has
      (step s line) refl is
