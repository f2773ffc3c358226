-- A text that says a script, line by line: if it is read as a script at all, then as that one.
use Rattle.std.proofs.Common.{◌≡◌, ℕ, ◌+◌, Bool, true, false, List, [], ◌∷◌, ◌++◌, length, Option}
use Rattle.std.proofs.Common.{Some, None, Result, Ok, Err, refl, sym, subst}
use Rattle.std.specs.Prelude.{IfOk, nat_lt, codes, if◌then◌else◌}
use Rattle.std.specs.List.{AllByRecursion}
use Rattle.texts.specs.Lines.{lines_of, is_well_parted}
use Rattle.texts.specs.Words.{joined}
use Rattle.texts.specs.Parts.{Next, goes, ends, refuses, is_skipped, with_skips, Found, At}
use Rattle.texts.specs.Parts.{part_from}
use Rattle.texts.proofs.LineByLine.{line_first}
use Rattle.texts.proofs.LineWords.{IsWord, is_solid, words_there, joined_is_one}
use Rattle.texts.proofs.Parts.{After, after_if}
use Rattle.sync_types.specs.declared.answers.Rule.{Rule}
use Rattle.sync_types.specs.declared.answers.Rule.TheVariants.{Form}
use Rattle.plan_reader.specs.Skipped.{first_unskipped}
use Rattle.adversary_script.specs.declared.kinds.Kind.{Kind}
use Rattle.adversary_script.specs.declared.kinds.Kind.TheVariants as kind
use Rattle.adversary_script.specs.Kinds.{kind_of, may_follow}
use Rattle.adversary_script.specs.Scripts.{Script}
use Rattle.adversary_script.specs.Steps.{line_step}
use Rattle.adversary_script.specs.ScriptPart.{ScriptSoFar, passed, read_as, script_step}
use Rattle.adversary_script.specs.ScriptPart.{unless_followed, alone}
use Rattle.adversary_script.proofs.ReadOn.{read_on, at}

-- f ids at most may be faulty
module _ (f : ℕ) (script : Script) where
  abbrev IsIt : Script → Type 0
  IsIt s = s ≡ script

  -- from here on the text says the script
  abbrev pub Says : ScriptSoFar → List ℕ → Type 0
  Says s text = (taken number : ℕ)
      → IfOk (read_on s taken number text) (λ found. found.value ≡ script)

  abbrev SaysRest : List ℕ → ScriptSoFar → Type 0
  SaysRest rest s = Says s rest

  -- what a line leaves to say
  abbrev Leaves : List ℕ → Next ScriptSoFar Script Rule → Type 0
  Leaves rest next = After (SaysRest rest) IsIt next

  after_line : (s : ScriptSoFar) (line rest : List ℕ) (taken number : ℕ)
      → Leaves rest (with_skips script_step Form s line)
      → IfOk (part_from (with_skips script_step Form) Form s taken number (line ∷ lines_of rest))
      (λ found. found.value ≡ script)
  after_line s line rest taken number left =
      let goal : Next ScriptSoFar Script Rule → Type 0 =
      λ next. IfOk (elim next as (λ _. Result (Found Script) (At Rule)) [
        | goes t ↦
            part_from (with_skips script_step Form) Form t (taken + 1) (number + 1) (lines_of rest)
        | ends v ↦ Ok (record { value = v; taken = taken + 1; behind = lines_of rest })
        | refuses r ↦ Err (record { line = number; rule = r })
      ]) (λ found. found.value ≡ script) in
      let cases : (next : Next ScriptSoFar Script Rule) → Leaves rest next → goal next =
      λ next. elim next as (λ next. Leaves rest next → goal next) [
        | goes t ↦ λ q. q (taken + 1) (number + 1)
        | ends v ↦ λ q. q
        | refuses r ↦ λ q. tt
      ] in
      cases (with_skips script_step Form s line) left

  unskipped : (skipped : Bool) (s : ScriptSoFar) (x : Next ScriptSoFar Script Rule)
      (rest : List ℕ) → skipped ≡ false → Leaves rest x
      → Leaves rest (if skipped then goes s else x)
  unskipped true s x rest counts left = absurd cc
  unskipped false s x rest counts left = left

  counted : (s : ScriptSoFar) (line rest : List ℕ) → is_skipped line ≡ false
      → Leaves rest (script_step s line) → Leaves rest (with_skips script_step Form s line)
  counted s line rest counts left =
      after_if (SaysRest rest) IsIt (nat_lt 4096 (length line)) (refuses Form) _ tt
      (unskipped (is_skipped line) s _ rest counts
      (after_if (SaysRest rest) IsIt (is_well_parted line) (script_step s line) (refuses Form) left
      tt))

  line_says : (s : ScriptSoFar) (word : List ℕ) (words : List (List ℕ)) (rest : List ℕ)
      → AllByRecursion IsWord (word ∷ words) → is_skipped (joined (word ∷ words)) ≡ false
      → Leaves rest (read_as s (kind_of (word ∷ words)))
      → Says s (joined (word ∷ words) ++ 10 ∷ rest)
  line_says s word words rest solid counts left taken number =
      let line = joined (word ∷ words) in
      let first : lines_of (line ++ 10 ∷ rest) ≡ line ∷ lines_of rest =
      line_first line rest (joined_is_one (word ∷ words) solid) in
      let step : Leaves rest (script_step s line) =
      subst (λ (ws : List (List ℕ)). Leaves rest (read_as s (kind_of ws)))
      (sym (words_there word words solid)) left in
      subst (λ (lines : List (List ℕ)).
      IfOk (part_from (with_skips script_step Form) Form s taken number lines)
      (λ found. found.value ≡ script)) (sym first)
      (after_line s line rest taken number (counted s line rest counts step))

  passed_leaves : (last : Option Kind) (s t : Script) (k : Kind) (r : Result Script Rule)
      (rest : List ℕ) → IfOk r (λ u. u ≡ t)
      → ((u : Script) → passed (at f last s) k (Ok u) ≡ goes (at f (Some k) u))
      → Says (at f (Some k) t) rest → Leaves rest (passed (at f last s) k r)
  passed_leaves last s t k (Err rule) rest is on says = tt
  passed_leaves last s t k (Ok u) rest is on says =
      subst (Leaves rest) (sym (on u))
      (subst (λ (u : Script). Says (at f (Some k) u) rest) (sym is) says)

  -- a line that can only lead to t, before a text that says the script from there on
  pub step_says : (last : Option Kind) (s t : Script) (k : Kind) (word : List ℕ)
      (words behind : List (List ℕ)) (rest : List ℕ)
      → AllByRecursion IsWord (word ∷ words) → is_skipped (joined (word ∷ words)) ≡ false
      → kind_of (word ∷ words) ≡ Some (k, behind)
      → IfOk (line_step f k s behind) (λ u. u ≡ t)
      → ((u : Script) → passed (at f last s) k (Ok u) ≡ goes (at f (Some k) u))
      → Says (at f (Some k) t) rest → Says (at f last s) (joined (word ∷ words) ++ 10 ∷ rest)
  step_says last s t k word words behind rest solid counts is leads on says =
      line_says (at f last s) word words rest solid counts
      (subst (λ (read : Option (Kind × List (List ℕ))). Leaves rest (read_as (at f last s) read))
      (sym is)
      (after_if (SaysRest rest) IsIt (may_follow last k)
      (passed (at f last s) k (line_step f k s behind)) (refuses Form)
      (passed_leaves last s t k (line_step f k s behind) rest leads on says) tt))

  end_solid : IsWord (codes "end")
  unfolding is_solid
  end_solid = refl

  -- the line that ends the text
  pub end_says : (s : Script) → s ≡ script → Says (at f (Some kind.Show) s) (codes "end\n")
  end_says s is =
      line_says (at f (Some kind.Show) s) (codes "end") [] [] (end_solid, tt) refl is

  -- ---- alone

  followed_is : (number : Option ℕ) (s : Script) → s ≡ script
      → IfOk (unless_followed number s) (λ s. s ≡ script)
  followed_is None s is = is
  followed_is (Some number) s is = tt

  pub alone_is : (number : ℕ) (r : Result (Found Script) (At Rule))
      → IfOk r (λ found. found.value ≡ script) → IfOk (alone number r) (λ s. s ≡ script)
  alone_is number (Ok found) is =
      followed_is (first_unskipped (number + found.taken) found.behind) found.value is
  alone_is number (Err refusal) is = tt
