-- The text of a log part is read as what it says.
use Rattle.std.proofs.Common.{◌≡◌, ℕ, ◌+◌, ◌*◌, ◌%◌, ◌<◌, ◌≤◌, Bool, true, List, [], ◌∷◌, ◌++◌}
use Rattle.std.proofs.Common.{length, map, get_or, All, Result, Ok, Err, refl, sym, ap, subst, ◌∙◌}
use Rattle.std.proofs.Common.{Some, arith}
use Rattle.std.specs.Prelude.{codes, decimal, nat_lt, ◌==◌, if◌then◌else◌}
use Rattle.std.specs.List.{list_all}
use Rattle.std.proofs.lemmas.Bool.{lt-ltb, le-ltb, eq-eqb}
use Rattle.std.proofs.lemmas.List.{length-append, get_or-append-add}
use Rattle.std.proofs.lemmas.List.Elements.{All-get_or}
use Rattle.texts.specs.Words.{text_of}
use Rattle.texts.specs.Lines.{lines_of, words_of}
use Rattle.texts.specs.Shapes.{all_numbers_after}
use Rattle.texts.specs.Parts.{goes, ends, refuses, goes_on, with_skips, Found, At, part_from}
use Rattle.texts.proofs.ItemLines.{one_plain, text_more, items_read}
use Rattle.texts.proofs.NumberLines.{AreShort, are_short, numbers_short, line_plain}
use Rattle.texts.proofs.NumberLines.{all_numbers_back}
use Rattle.texts.proofs.Printed.{IsPlain, spaced_length, counts, goes_behind}
use Rattle.sync_types.specs.declared.answers.Rule.{Rule}
use Rattle.sync_types.specs.declared.answers.Rule.TheVariants.{Form, Slot}
use Rattle.layer_laws.specs.Numbers.{Numbers, AreNumbers, numbers_of as plan_numbers}
use Rattle.layer_laws.proofs.PlanCounters.{plan_numbers_are}
use Rattle.consensus_layer.proofs.AgreeTexts.{values_plain}
use Rattle.consensus_layer.proofs.PartLines.{within_back, below_pass, below_short}
use Rattle.replicated_log.specs.declared.log_lines.LogStage.{LogStage}
use Rattle.replicated_log.specs.declared.log_lines.LogStage.TheVariants.{Begun, Valued, Keeping}
use Rattle.replicated_log.specs.EntryLength.{entry_length}
use Rattle.replicated_log.specs.LogContent.{LogContent}
use Rattle.replicated_log.specs.LogPart.{LogSoFar, nothing_read_over, commands_tested, commands_in}
use Rattle.replicated_log.specs.LogPart.{at_stage, with_own, log_step, IsForNumbers}
use Rattle.replicated_log.specs.LogTexts.{values_line, keep_line, commands_line, commands_lines}
use Rattle.replicated_log.specs.LogTexts.{log_text, LogTextIsReadOver, LogTextIsRead}

log_plain : IsPlain (codes "log")
log_plain = record { some = omega arith; above = refl }

keep_plain : IsPlain (codes "keep")
keep_plain = record { some = omega arith; above = refl }

commands_plain : IsPlain (codes "commands")
commands_plain = record { some = omega arith; above = refl }

-- how the part is read on
abbrev read_on : LogSoFar → (taken number : ℕ) → List ℕ → Result (Found LogContent) (At Rule)
read_on s taken number text =
    part_from (with_skips log_step Form) Form s taken number (lines_of text)

-- the commands of a node pass their tests
commands_pass : (values v : ℕ) (own : List ℕ) → 0 < length own → length own ≤ 16
    → list_all (λ a. nat_lt a values) own ≡ true
    → commands_tested values v (Some (v ∷ own)) ≡ Ok own
commands_pass values v [] some few range = absurd (omega arith)
commands_pass values v (c ∷ cs) some few range =
    rw (le-ltb 16 (length (c ∷ cs)) few, eq-eqb v v refl, range) refl

module _ (numbers : Numbers) (fine : AreNumbers numbers) (said : LogContent)
    (for : IsForNumbers numbers said) (short : All (λ own. length own ≤ 16) said.commands) where
  abbrev whole : Bool
  whole = numbers.modulus % (numbers.nodes * entry_length numbers.faults) == 0

  -- a part that was read so far
  abbrev so_far : LogStage → List (List ℕ) → LogSoFar
  so_far stage commands = record {
    nodes = numbers.nodes;
    whole = whole;
    stage = stage;
    commands = commands;
  }

  abbrev keeping : List (List ℕ) → LogSoFar
  keeping commands = so_far (Keeping said.values said.keep) commands

  -- ---- the values, and how many entries are kept

  values_short : AreShort (said.values ∷ [])
  values_short = let few = for.few in (omega (arith, few), tt)

  values_step : log_step (so_far Begun []) (values_line said)
      ≡ goes (so_far (Valued said.values) [])
  values_step =
      ap (goes_on (λ values. at_stage (so_far Begun []) (Valued values)))
      (within_back (codes "values") values_plain 2 65536 said.values values_short.0
      (for.two, for.few))

  keep_short : AreShort (said.keep ∷ [])
  keep_short = let most = for.short in (omega (arith, most), tt)

  keep_step : log_step (so_far (Valued said.values) []) (keep_line said) ≡ goes (keeping [])
  keep_step =
      ap (goes_on (λ keep. at_stage (so_far (Valued said.values) []) (Keeping said.values keep)))
      (within_back (codes "keep") keep_plain 1 1024 said.keep keep_short.0 (for.some, for.short))

  -- ---- the commands of a node, after those of others

  module _ (done more : List (List ℕ)) (own : List ℕ)
      (all_are : said.commands ≡ done ++ own ∷ more) where
    abbrev v : ℕ
    v = length done

    long : length said.commands ≡ v + (length more + 1)
    long = ap length all_are ∙ length-append done (own ∷ more) ∙ omega arith

    at_place : get_or said.commands v [] ≡ own
    at_place =
        let zero_more : v ≡ v + 0 = omega arith in
        ap (λ l. get_or l v []) all_are
        ∙ ap (λ i. get_or (done ++ own ∷ more) i []) zero_more
        ∙ get_or-append-add done (own ∷ more) 0 []

    few : length own ≤ 16
    few = subst (λ l. length l ≤ 16) at_place
        (All-get_or (λ own. length own ≤ 16) said.commands v [] (omega (arith, long)) short)

    in_range : (0 < length own) × All (λ a. a < said.values) own
    in_range = subst (λ l. (0 < length l) × All (λ a. a < said.values) l) at_place
        (All-get_or (λ own. (0 < length own) × All (λ a. a < said.values) own) said.commands v []
        (omega (arith, long)) for.range)

    v_below : v < numbers.nodes
    v_below = let nodes = for.nodes in omega (arith, nodes, long)

    -- the numbers of its line
    line_short : AreShort (v ∷ own)
    line_short =
        let most = fine.few in
        let values = for.few in (
          omega (arith, most, v_below),
          are_short own (below_short said.values (omega (arith, values)) own in_range.1),
        )

    room : spaced_length (codes "commands" ∷ map decimal (v ∷ own)) ≤ 4096
    room = omega (arith, few, numbers_short (v ∷ own) line_short)

    tested : commands_in said.values (numbers.nodes) v (commands_line v own) ≡ Ok own
    tested =
        ap (λ (b : Bool). if b then commands_tested said.values v
        (all_numbers_after (codes "commands") (words_of (commands_line v own))) else Err Form)
        (lt-ltb v (numbers.nodes) v_below)
        ∙ ap (commands_tested said.values v)
        (all_numbers_back (codes "commands") commands_plain (v ∷ own) line_short)
        ∙ commands_pass said.values v own in_range.0 few (below_pass said.values own in_range.1)

    steps : log_step (keeping done) (commands_line v own) ≡ goes (keeping (done ++ own ∷ []))
    steps = ap (goes_on (with_own (keeping done))) tested

    line_read : (taken number : ℕ) (rest : List ℕ)
        → read_on (keeping done) taken number (commands_line v own ++ 10 ∷ rest)
        ≡ read_on (keeping (done ++ own ∷ [])) (taken + 1) (number + 1) rest
    line_read taken number rest =
        goes_behind log_step Form (codes "commands") (map decimal (v ∷ own)) rest
        (line_plain (codes "commands") commands_plain (v ∷ own) line_short) room
        (counts (commands_line v own) (omega arith) refl) (keeping done) taken number
        (keeping (done ++ own ∷ [])) steps

  -- ---- the end

  end_is : log_step (keeping said.commands) (codes "end") ≡ ends said
  end_is =
      let nodes = for.nodes in
      ap (λ (b : Bool). if b then refuses Form else ends said)
      (le-ltb (length said.commands) (numbers.nodes) (omega (arith, nodes)))

  lines_read : (number : ℕ) (rest : List ℕ)
      → read_on (keeping []) 3 number
      (text_of (commands_lines 0 said.commands ++ codes "end" ∷ []) ++ rest)
      ≡ Ok (record {
        value = said;
        taken = 3 + (length said.commands + 1);
        behind = lines_of rest;
      })
  lines_read number rest =
      items_read log_step Form keeping (λ _. said) commands_line commands_lines (λ n. refl)
      (λ n own more. refl) (λ commands. said.commands ≡ commands)
      (λ done more own all_are. line_read done more own all_are)
      (λ commands same. ap (λ (c : List (List ℕ)). log_step (keeping c) (codes "end")) (sym same)
      ∙ end_is)
      [] said.commands 3 number rest refl

  -- ---- all lines

  head_is : log_step (nothing_read_over numbers) (codes "log 1") ≡ goes (so_far Begun [])
  head_is =
      ap (λ (b : Bool). goes_on (λ (x : Unit). so_far Begun []) (if b then Ok tt else Err Slot))
      (eq-eqb (numbers.modulus % (numbers.nodes * entry_length numbers.faults)) 0 for.whole)

  abbrev fourth : List ℕ → List ℕ
  fourth rest = text_of (commands_lines 0 said.commands ++ codes "end" ∷ []) ++ rest

  abbrev third : List ℕ → List ℕ
  third rest = keep_line said ++ 10 ∷ fourth rest

  abbrev second : List ℕ → List ℕ
  second rest = values_line said ++ 10 ∷ third rest

  text_is : (rest : List ℕ) → log_text said ++ rest ≡ codes "log 1" ++ 10 ∷ second rest
  text_is rest =
      let last = commands_lines 0 said.commands ++ codes "end" ∷ [] in
      text_more (codes "log 1") (values_line said ∷ keep_line said ∷ last) rest
      ∙ ap (λ text. codes "log 1" ++ 10 ∷ text)
      (text_more (values_line said) (keep_line said ∷ last) rest
      ∙ ap (λ text. values_line said ++ 10 ∷ text) (text_more (keep_line said) last rest))

  pub is_read : (number : ℕ) (rest : List ℕ)
      → read_on (nothing_read_over numbers) 0 number (log_text said ++ rest)
      ≡ Ok (record {
        value = said;
        taken = 3 + (length said.commands + 1);
        behind = lines_of rest;
      })
  is_read number rest =
      ap (read_on (nothing_read_over numbers) 0 number) (text_is rest)
      ∙ goes_behind log_step Form (codes "log") (codes "1" ∷ []) (second rest)
      (log_plain, (one_plain, tt)) (omega arith) refl (nothing_read_over numbers) 0 number
      (so_far Begun []) head_is
      ∙ goes_behind log_step Form (codes "values") (decimal said.values ∷ []) (third rest)
      (line_plain (codes "values") values_plain (said.values ∷ []) values_short)
      (omega (arith, numbers_short (said.values ∷ []) values_short))
      (counts (values_line said) (omega arith) refl) (so_far Begun []) 1 (number + 1)
      (so_far (Valued said.values) []) values_step
      ∙ goes_behind log_step Form (codes "keep") (decimal said.keep ∷ []) (fourth rest)
      (line_plain (codes "keep") keep_plain (said.keep ∷ []) keep_short)
      (omega (arith, numbers_short (said.keep ∷ []) keep_short))
      (counts (keep_line said) (omega arith) refl) (so_far (Valued said.values) []) 2
      (number + 1 + 1) (keeping []) keep_step
      ∙ lines_read (number + 1 + 1 + 1) rest

pub log_text_is_read_over : LogTextIsReadOver
log_text_is_read_over = is_read

pub log_text_is_read : LogTextIsRead
log_text_is_read plan accepted =
    log_text_is_read_over (plan_numbers plan) (plan_numbers_are plan accepted)
