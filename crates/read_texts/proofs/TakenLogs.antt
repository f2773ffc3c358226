-- What is read of a log is its text.
use Rattle.std.proofs.Common.{◌≡◌, ℕ, ◌+◌, Bool, true, false, List, [], ◌∷◌, ◌++◌, length, map}
use Rattle.std.proofs.Common.{Option, Some, None, refl, sym, ap, ◌∙◌, subst, arith}
use Rattle.std.specs.Prelude.{IfOk, IfSome, ◌==◌, nat_lt, not, if◌then◌else◌, codes, decimal}
use Rattle.std.specs.Prelude.{Result, Ok, Err}
use Rattle.std.specs.List.{list_all}
use Rattle.std.specs.Str.{bytes_eq}
use Rattle.std.proofs.lemmas.Bool.{not-false, eqb-true}
use Rattle.texts.specs.Lines.{words_of}
use Rattle.texts.specs.Shapes.{all_numbers_after}
use Rattle.texts.specs.Parts.{Next, ends, refuses, goes_on}
use Rattle.texts.specs.Words.{joined, text_of}
use Rattle.texts.proofs.Parts.{After, after_if, goes_on_keeps}
use Rattle.part_lines.proofs.ReadWords.{same_bytes, IsLineOf, all_line_is, behind_test, took_weaker}
use Rattle.part_lines.proofs.TakenLines.{took}
use Rattle.sync_types.specs.declared.answers.Rule.{Rule}
use Rattle.sync_types.specs.declared.answers.Rule.TheVariants.{Form, Limit, Node, Range}
use Rattle.consensus_layer.specs.PartLines.{head_tested, number_within}
use Rattle.read_texts.proofs.SaidLines.{head_is, number_is}
use Rattle.replicated_log.specs.LogContent.{LogContent}
use Rattle.replicated_log.specs.LogPart.{LogSoFar, nothing_read_over, commands_tested, commands_in}
use Rattle.replicated_log.specs.LogPart.{at_stage, with_own, end_step, step_at, log_step, part_over}
use Rattle.replicated_log.specs.LogTexts.{values_line, keep_line, commands_line, commands_lines}
use Rattle.replicated_log.specs.LogTexts.{log_text}
use Rattle.read_texts.specs.ReadLogs.{ReadIsLogText}
use Rattle.replicated_log.specs.declared.log_lines.LogStage.{LogStage}
use Rattle.replicated_log.specs.declared.log_lines.LogStage.TheVariants.{Unread, Begun, Valued}
use Rattle.replicated_log.specs.declared.log_lines.LogStage.TheVariants.{Keeping}

abbrev line_of : (key : List ℕ) → ℕ → List ℕ
line_of key n = joined (key ∷ decimal n ∷ [])

abbrev first_lines : (values keep : ℕ) → List (List ℕ) → List (List ℕ)
first_lines values keep more =
    codes "log 1" ∷ line_of (codes "values") values ∷ line_of (codes "keep") keep ∷ more

-- what the lines of a stage say
abbrev SaysAt : LogStage → (commands : List (List ℕ)) → List (List ℕ) → Type 0
SaysAt Unread commands said = (said ≡ []) × (commands ≡ [])
SaysAt Begun commands said = (said ≡ codes "log 1" ∷ []) × (commands ≡ [])
SaysAt (Valued values) commands said =
    (said ≡ codes "log 1" ∷ line_of (codes "values") values ∷ []) × (commands ≡ [])
SaysAt (Keeping values keep) commands said =
    said ≡ first_lines values keep (commands_lines 0 commands)

abbrev Says : LogSoFar → List (List ℕ) → Type 0
Says s said = SaysAt s.stage s.commands said

abbrev SaysAll : LogContent → List (List ℕ) → Type 0
SaysAll c said =
    said ≡ first_lines c.values c.keep (commands_lines 0 c.commands ++ codes "end" ∷ [])

abbrev Goes : List (List ℕ) → Next LogSoFar LogContent Rule → Type 0
Goes said next = After (λ s. Says s said) (λ c. SaysAll c said) next

-- ---- the commands of a node

owned : (values before v c : ℕ) (cs line : List ℕ) (other : Bool) → not (v == before) ≡ other
    → line ≡ joined (codes "commands" ∷ decimal v ∷ map decimal (c ∷ cs))
    → IfOk (if other then Err Node
    else if not (list_all (λ a. nat_lt a values) (c ∷ cs)) then Err Range else Ok (c ∷ cs))
    (λ own. line ≡ commands_line before own)
owned values before v c cs line true e is = tt
owned values before v c cs line false e is =
    let same : v ≡ before = eqb-true v before (not-false (v == before) e) in
    behind_test (λ own. line ≡ commands_line before own)
    (not (list_all (λ a. nat_lt a values) (c ∷ cs))) Range _
    (is ∙ ap (λ (n : ℕ). joined (codes "commands" ∷ decimal n ∷ map decimal (c ∷ cs))) same)

tested : (values before : ℕ) (line : List ℕ) (numbers : Option (List ℕ))
    → IfSome numbers (IsLineOf (codes "commands") line)
    → IfOk (commands_tested values before numbers) (λ own. line ≡ commands_line before own)
tested values before line None is = tt
tested values before line (Some []) is = tt
tested values before line (Some (v ∷ [])) is = tt
tested values before line (Some (v ∷ c ∷ cs)) is =
    behind_test (λ own. line ≡ commands_line before own) (nat_lt 16 (length (c ∷ cs))) Limit _
    (owned values before v c cs line (not (v == before)) refl is)

given : (values before : ℕ) (line : List ℕ) (left : Bool)
    → IfOk (if left
    then commands_tested values before (all_numbers_after (codes "commands") (words_of line))
    else Err Form) (λ own. line ≡ commands_line before own)
given values before line false = tt
given values before line true =
    tested values before line (all_numbers_after (codes "commands") (words_of line))
    (all_line_is (codes "commands") line)

-- one more node's line is the last
lines_more : (v : ℕ) (commands : List (List ℕ)) (own : List ℕ)
    → commands_lines v commands ++ commands_line (v + length commands) own ∷ []
    ≡ commands_lines v (commands ++ own ∷ [])
lines_more v [] own =
    let here : v + 0 ≡ v = omega arith in ap (λ n. commands_line n own ∷ []) here
lines_more v (first ∷ commands) own =
    let far : v + length (first ∷ commands) ≡ v + 1 + length commands = omega arith in
    ap (λ n. commands_line v first ∷ (commands_lines (v + 1) commands
    ++ commands_line n own ∷ [])) far
    ∙ ap (λ ls. commands_line v first ∷ ls) (lines_more (v + 1) commands own)

one_more : (s : LogSoFar) (values keep : ℕ) (said : List (List ℕ)) (line : List ℕ)
    → s.stage ≡ Keeping values keep → SaysAt (Keeping values keep) s.commands said
    → (own : List ℕ) → line ≡ commands_line (length s.commands) own
    → Says (with_own s own) (said ++ line ∷ [])
one_more s values keep said line at h own is =
    let none : length s.commands ≡ 0 + length s.commands = omega arith in
    let more : SaysAt (Keeping values keep) (s.commands ++ own ∷ []) (said ++ line ∷ []) =
    ap (λ ls. ls ++ line ∷ []) h
    ∙ ap (λ l. first_lines values keep (commands_lines 0 s.commands ++ l ∷ [])) is
    ∙ ap (λ (n : ℕ). first_lines values keep
    (commands_lines 0 s.commands ++ commands_line n own ∷ [])) none
    ∙ ap (first_lines values keep) (lines_more 0 s.commands own) in
    subst (λ stage. SaysAt stage (s.commands ++ own ∷ []) (said ++ line ∷ [])) (sym at) more

-- ---- line by line

ended_by : (s : LogSoFar) (values keep : ℕ) (said : List (List ℕ)) (line : List ℕ) (few : Bool)
    → line ≡ codes "end" → SaysAt (Keeping values keep) s.commands said
    → Goes (said ++ line ∷ []) (if few then refuses Form
    else ends (record { values = values; keep = keep; commands = s.commands }))
ended_by s values keep said line true is h = tt
ended_by s values keep said line false is h =
    ap (λ ls. ls ++ line ∷ []) h
    ∙ ap (λ l. first_lines values keep (commands_lines 0 s.commands ++ l ∷ [])) is

kept_on : (s : LogSoFar) (values keep : ℕ) (said : List (List ℕ)) (line : List ℕ) (is : Bool)
    → bytes_eq line (codes "end") ≡ is → s.stage ≡ Keeping values keep
    → SaysAt (Keeping values keep) s.commands said
    → Goes (said ++ line ∷ []) (if is then end_step values keep s
    else goes_on (with_own s) (commands_in values s.nodes (length s.commands) line))
kept_on s values keep said line true is at h =
    ended_by s values keep said line (nat_lt (length s.commands) s.nodes)
    (same_bytes line (codes "end") is) h
kept_on s values keep said line false is at h =
    goes_on_keeps (λ t. Says t (said ++ line ∷ [])) (λ c. SaysAll c (said ++ line ∷ []))
    (with_own s) (λ own. line ≡ commands_line (length s.commands) own)
    (commands_in values s.nodes (length s.commands) line)
    (given values (length s.commands) line (nat_lt (length s.commands) s.nodes))
    (one_more s values keep said line at h)

stepped : (stage : LogStage) (s : LogSoFar) (said : List (List ℕ)) (line : List ℕ)
    → s.stage ≡ stage → SaysAt stage s.commands said
    → Goes (said ++ line ∷ []) (step_at stage s line)
stepped Unread s said line at h =
    goes_on_keeps (λ t. Says t (said ++ line ∷ [])) (λ c. SaysAll c (said ++ line ∷ []))
    (λ _. at_stage s Begun) (λ _. line ≡ codes "log 1")
    (head_tested (codes "log 1") s.whole line) (head_is (codes "log 1") s.whole line)
    (λ _ is. (ap (λ ls. ls ++ line ∷ []) h.0 ∙ ap (λ l. l ∷ []) is, h.1))
stepped Begun s said line at h =
    goes_on_keeps (λ t. Says t (said ++ line ∷ [])) (λ c. SaysAll c (said ++ line ∷ []))
    (λ values. at_stage s (Valued values)) (λ values. line ≡ line_of (codes "values") values)
    (number_within (codes "values") 2 65536 line) (number_is (codes "values") 2 65536 line)
    (λ values is. (ap (λ ls. ls ++ line ∷ []) h.0 ∙ ap (λ l. codes "log 1" ∷ l ∷ []) is, h.1))
stepped (Valued values) s said line at h =
    goes_on_keeps (λ t. Says t (said ++ line ∷ [])) (λ c. SaysAll c (said ++ line ∷ []))
    (λ keep. at_stage s (Keeping values keep)) (λ keep. line ≡ line_of (codes "keep") keep)
    (number_within (codes "keep") 1 1024 line) (number_is (codes "keep") 1 1024 line)
    (λ keep is. ap (λ ls. ls ++ line ∷ []) h.0
    ∙ ap (λ l. codes "log 1" ∷ line_of (codes "values") values ∷ l ∷ []) is
    ∙ ap (λ commands. first_lines values keep (commands_lines 0 commands)) (sym h.1))
stepped (Keeping values keep) s said line at h =
    kept_on s values keep said line (bytes_eq line (codes "end")) refl at h

-- the lines that count are those of the text
pub taken_logs : ReadIsLogText
taken_logs numbers number lines =
    took_weaker lines SaysAll (λ c said. text_of said ≡ log_text c) (λ c said is. ap text_of is)
    (part_over numbers number lines)
    (took log_step Form Says SaysAll (λ s said line h. stepped s.stage s said line refl h) lines
    (nothing_read_over numbers) number (refl, refl))
