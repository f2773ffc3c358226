-- What is read as a script is what its lines say.
use Rattle.std.proofs.Common.{◌≡◌, ℕ, ◌-◌, Bool, true, false, List, [], ◌∷◌, ◌++◌}
use Rattle.std.proofs.Common.{map, Option, Some, None, Result, Ok, Err, decimal, refl}
use Rattle.std.proofs.Common.{sym}
use Rattle.std.proofs.Common.{ap, ◌∙◌, subst, append_assoc, ◌+◌}
use Rattle.std.specs.Prelude.{IfSome, IfOk, codes, if◌then◌else◌}
use Rattle.texts.specs.Lines.{words_of}
use Rattle.texts.specs.Parts.{Next, refuses, Found, At}
use Rattle.texts.specs.Shapes.{all_numbers}
use Rattle.part_lines.specs.TakenLines.{counting, Took}
use Rattle.texts.specs.Words.{joined}
use Rattle.texts.proofs.LineWords.{words_back}
use Rattle.texts.proofs.Parts.{After}
use Rattle.part_lines.proofs.ReadWords.{all_words_are, took_weaker}
use Rattle.part_lines.proofs.TakenLines.{took}
use Rattle.read_texts.proofs.Unskipped.{none_behind}
use Rattle.plan_reader.specs.Skipped.{first_unskipped}
use Rattle.sync_types.specs.declared.answers.Rule.{Rule}
use Rattle.sync_types.specs.declared.answers.Rule.TheVariants as rule
use Rattle.adversary_script.specs.declared.kinds.Kind.{Kind}
use Rattle.adversary_script.specs.declared.kinds.Kind.TheVariants as kind
use Rattle.adversary_script.specs.declared.lies.CommonStart.TheVariants as common
use Rattle.adversary_script.specs.FaultySteps.{era_words}
use Rattle.adversary_script.specs.Kinds.{kind_of, may_follow}
use Rattle.adversary_script.specs.LieWords.{lie_words}
use Rattle.read_texts.specs.ReadScripts.{SayLines, ReadIsScriptText, ReadIsWholeScriptText}
use Rattle.adversary_script.specs.ScriptPart.{ScriptSoFar, nothing_read, passed, read_as}
use Rattle.adversary_script.specs.ScriptPart.{script_step, part_for, unless_followed, alone}
use Rattle.adversary_script.specs.ScriptPart.{script_for}
use Rattle.adversary_script.specs.ScriptTexts.{head_lines, eras_lines, lies_lines, last_lines}
use Rattle.adversary_script.specs.ScriptTexts.{script_lines}
use Rattle.adversary_script.specs.Scripts.{Script}
use Rattle.adversary_script.specs.Steps.{line_step}
use Rattle.adversary_script.specs.WordTests.{only}
use Rattle.read_texts.proofs.SaidSections.{middle}
use Rattle.read_texts.proofs.TakenWords.{front, kind_is, era_is, lie_said, lie_is}
use Rattle.read_texts.proofs.SaidAfter.{SaysAfter, before_script, before_faulty, before_seed}
use Rattle.read_texts.proofs.SaidAfter.{before_zero}
use Rattle.read_texts.proofs.SaidAfter.{before_noise, before_node, before_era, before_group}
use Rattle.read_texts.proofs.SaidAfter.{before_lie}
use Rattle.read_texts.proofs.SaidAfter.{before_rounds, before_show, before_end}
use Rattle.read_texts.proofs.SaidHeads.{headed, of_faulty, of_seed, of_common, none_left, of_node}
use Rattle.read_texts.proofs.SaidLies.{of_era, of_group_words, of_lie, of_rounds, of_show, of_end}
use Rattle.read_texts.proofs.SaidLies.{words_said}
use Rattle.read_texts.proofs.SaidLies.{only_said}

module _ (f : ℕ) (s : Script) (said : List (List ℕ)) (line : List ℕ) where
  -- a line of a kind, after one after which it may stand
  line_says : (last : Option Kind) (k : Kind) (words : List (List ℕ)) → may_follow last k ≡ true
      → SaysAfter last s said → line ≡ joined (front k ++ words)
      → IfOk (line_step f k s words) (λ t. SaysAfter (Some k) t (said ++ line ∷ []))
  line_says last kind.Script words may h is =
      headed f s said line (only words) (before_script s said last may h)
      (words_said f s said line (front kind.Script) words (only words) (λ w. w ∷ []) is
      (only_said f s said line words))
  line_says last kind.Faulty words may h is =
      of_faulty f s said line (all_numbers words) (before_faulty s said last may h)
      (words_said f s said line (front kind.Faulty) words (all_numbers words) (map decimal) is
      (all_words_are words))
  line_says last kind.Seed words may h is =
      of_seed f s said line (only words) (before_seed s said last may h)
      (words_said f s said line (front kind.Seed) words (only words) (λ w. w ∷ []) is
      (only_said f s said line words))
  line_says last kind.StartZero words may h is =
      none_left f s said line (record s { common = common.Zero }) kind.StartZero words
      (λ none. of_common f s said line common.Zero (before_zero s said last may h)
      (is ∙ ap (λ (ws : List (List ℕ)). joined (front kind.StartZero ++ ws)) none))
  line_says last kind.StartNoise words may h is =
      none_left f s said line (record s { common = common.Noise }) kind.StartNoise words
      (λ none. of_common f s said line common.Noise (before_noise s said last may h)
      (is ∙ ap (λ (ws : List (List ℕ)). joined (front kind.StartNoise ++ ws)) none))
  line_says last kind.StartNode words may h is =
      of_node f s said line words (before_node s said last may h) is
  line_says last kind.Era words may h is =
      of_era f s said line (era_words words) (before_era s said last may h)
      (words_said f s said line (front kind.Era) words (era_words words)
      (λ era. decimal era.0 ∷ codes "faulty" ∷ map decimal era.1) is (era_is words))
  line_says last kind.Group words may h is =
      of_group_words f s said line words (before_group s said last may h) is
  line_says last kind.Lie words may h is =
      of_lie f s said line (lie_words words) (before_lie s said last may h)
      (words_said f s said line (front kind.Lie) words (lie_words words) lie_said is (lie_is words))
  line_says last kind.Rounds words may h is =
      of_rounds f s said line (all_numbers words) (before_rounds s said last may h)
      (words_said f s said line (front kind.Rounds) words (all_numbers words) (map decimal) is
      (all_words_are words))
  line_says last kind.Show words may h is =
      of_show f s said line (all_numbers words) (before_show s said last may h)
      (words_said f s said line (front kind.Show) words (all_numbers words) (map decimal) is
      (all_words_are words))
  line_says last kind.End words may h is =
      of_end f s said line words (before_end s said last may h) is

-- ---- all lines

abbrev Says : ScriptSoFar → List (List ℕ) → Type 0
Says s said = SaysAfter s.last s.script said

abbrev SaysAll : Script → List (List ℕ) → Type 0
SaysAll s said = SaysAfter (Some kind.End) s said

abbrev Goes : List (List ℕ) → Next ScriptSoFar Script Rule → Type 0
Goes said next = After (λ s. Says s said) (λ s. SaysAll s said) next

passed_says : (s : ScriptSoFar) (said : List (List ℕ)) (k : Kind) (r : Result Script Rule)
    → IfOk r (λ t. SaysAfter (Some k) t said) → Goes said (passed s k r)
passed_says s said k (Err r) h = tt
passed_says s said kind.End (Ok script) h = h
passed_says s said k (Ok script) h = h

may_says : (said : List (List ℕ)) (b : Bool) (x : Next ScriptSoFar Script Rule)
    → (b ≡ true → Goes said x) → Goes said (if b then x else refuses rule.Form)
may_says said true x h = h refl
may_says said false x h = tt

read_says : (s : ScriptSoFar) (said : List (List ℕ)) (line : List ℕ)
    (found : Option (Kind × List (List ℕ))) → Says s said
    → IfSome found (λ found. line ≡ joined (front found.0 ++ found.1))
    → Goes (said ++ line ∷ []) (read_as s found)
read_says s said line None h is = tt
read_says s said line (Some (k, words)) h is =
    may_says (said ++ line ∷ []) (may_follow s.last k)
    (passed s k (line_step s.faults k s.script words))
    (λ may. passed_says s (said ++ line ∷ []) k (line_step s.faults k s.script words)
    (line_says s.faults s.script said line s.last k words may h is))

line_words : (line : List ℕ) (words : List (List ℕ)) (found : Option (Kind × List (List ℕ)))
    → line ≡ joined words → IfSome found (λ found. words ≡ front found.0 ++ found.1)
    → IfSome found (λ found. line ≡ joined (front found.0 ++ found.1))
line_words line words None is same = tt
line_words line words (Some found) is same = is ∙ ap joined same

step_says : (s : ScriptSoFar) (said : List (List ℕ)) (line : List ℕ) → Says s said
    → Goes (said ++ line ∷ []) (script_step s line)
step_says s said line h =
    let words = words_of line in
    read_says s said line (kind_of words) h
    (line_words line words (kind_of words) (sym (words_back line)) (kind_is words))

-- the script's lines, in their sections
whole_script : (s : Script) → middle s ++ last_lines s ≡ script_lines s
whole_script s =
    append_assoc (head_lines s) (eras_lines s ++ lies_lines s) (last_lines s)
    ∙ ap (λ ls. head_lines s ++ ls) (append_assoc (eras_lines s) (lies_lines s) (last_lines s))

-- what counts says the script
pub read_is_text : ReadIsScriptText
read_is_text nodes faults shape number lines =
    took_weaker lines SaysAll (λ s said. SayLines s.shape said (script_lines s))
    (λ s said h. subst (SayLines s.shape said) (whole_script s) h)
    (part_for nodes faults shape number lines)
    (took script_step rule.Form Says SaysAll step_says lines (nothing_read nodes faults shape)
    number (refl, refl, (refl, refl, refl, refl)))

followed : (lines : List (List ℕ)) (first : ℕ) (found : Found Script) (number : Option ℕ)
    → first_unskipped (first + found.taken) found.behind ≡ number
    → Took lines found
    (λ said. SayLines found.value.shape said (script_lines found.value))
    → IfOk (unless_followed number found.value)
    (λ s. SayLines s.shape (counting lines) (script_lines s))
followed lines first found (Some number) is t = tt
followed lines first found None is t =
    let s = found.value in
    subst (λ ls. SayLines s.shape ls (script_lines s))
    (sym (none_behind lines t.front found.behind (first + found.taken) t.parts is)) t.says

whole : (lines : List (List ℕ)) (number : ℕ) (read : Result (Found Script) (At Rule))
    → IfOk read (λ found. Took lines found
    (λ said. SayLines found.value.shape said (script_lines found.value)))
    → IfOk (alone number read) (λ s. SayLines s.shape (counting lines) (script_lines s))
whole lines number (Ok found) t =
    followed lines number found (first_unskipped (number + found.taken) found.behind) refl t
whole lines number (Err at) t = tt

pub read_is_whole : ReadIsWholeScriptText
unfolding script_for
read_is_whole nodes faults shape number lines =
    whole lines number (part_for nodes faults shape number lines)
    (read_is_text nodes faults shape number lines)
