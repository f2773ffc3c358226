-- The lines of the texts, and the words of these.
use Rattle.std.proofs.Common.{◌≡◌, ℕ, ◌+◌, Bool, true, false, cond, List, [], ◌∷◌, ◌++◌}
use Rattle.std.proofs.Common.{length, map, Option, Some, None, decimal, codes, refl, sym, ap, ap₂}
use Rattle.std.proofs.Common.{◌∙◌, append_assoc, append-nil}
use Rattle.std.specs.Prelude.{◌==◌, if◌then◌else◌, filter, nat_eq}
use Rattle.std.specs.List.{concat, flat_map, range_with_len}
use Rattle.std.specs.Option.{option_eq}
use Rattle.texts.specs.Words.{joined, ended}
use Rattle.sync_types.specs.States.{State}
use Rattle.construction.specs.Plans.{Plan, plan_nodes, plan_faults, plan_bound}
use Rattle.construction.specs.Runs.{is_in}
use Rattle.adversary_script.specs.Scripts.{Script}
use Rattle.adversary_script.specs.Eras.{first_of_era, faulty_at}
use Rattle.round_runner.specs.Played.{played_at}
use Rattle.slot_table.specs.declared.lines.SlotLine.{SlotLine}
use Rattle.slot_table.specs.Tables.{holder_of}
use Rattle.layer_laws.specs.Slots.{slot_length}
use Rattle.consensus_layer.specs.AgreeContent.{AgreeContent}
use Rattle.consensus_layer.specs.Agreements.{decision}
use Rattle.firing.specs.declared.requests.Request.{Request}
use Rattle.firing.specs.Firings.{fires_of}
use Rattle.replicated_log.specs.EntryLength.{entry_length}
use Rattle.replicated_log.specs.LogContent.{LogContent}
use Rattle.replicated_log.specs.Logs.{log_of}
use Rattle.run_lines.specs.RunTexts.{bound_line, word_or_star, words_of_nodes, locked_line}
use Rattle.run_lines.specs.RunTexts.{lock_of_era, era_line, lock_lines}
use Rattle.run_lines.specs.RowTexts.{shown_word}
use Rattle.run_lines.specs.ShownTexts.{shown_line}
use Rattle.run_lines.specs.SlotTexts.{begins_at, slot_lines}
use Rattle.run_lines.specs.HoldTexts.{hold_word}
use Rattle.run_lines.specs.DecisionTexts.{agree_scene, decision_word, decision_line}
use Rattle.run_lines.specs.FireTexts.{fire_scene, fire_word, fire_line}
use Rattle.run_lines.specs.EntryTexts.{newest_value, log_scene, slot_owner, entry_word, entry_line}
use Rattle.promises.specs.WrittenLines.{text_of_words, starred, output_shown, shown_numbers}
use Rattle.promises.specs.WrittenLines.{lock_words, era_words, locks_said, around, slots_shown}
use Rattle.promises.specs.WrittenLines.{row_words, hold_words, decision_words, fire_words}
use Rattle.promises.specs.WrittenLines.{entry_words, RowsAreWritten, HoldsAreWritten}
use Rattle.promises.specs.WrittenLines.{DecisionsAreWritten, FiresAreWritten}
use Rattle.promises.specs.WrittenLines.{EntriesAreWritten, TextsAreWritten}

-- ---- words after spaces

abbrev behind_space : List ℕ → List ℕ
behind_space word = 32 ∷ word

spaced : (word : List ℕ) (words : List (List ℕ))
    → joined (word ∷ words) ≡ word ++ flat_map behind_space words
spaced word [] = sym (append-nil word)
spaced word (next ∷ words) = ap (λ rest. word ++ 32 ∷ rest) (spaced next words)

-- a line of a name, a number, and words after spaces
line_is : (name number behind : List ℕ) (words : List (List ℕ))
    → behind ≡ flat_map behind_space words
    → ((name ++ 32 ∷ []) ++ number) ++ (behind ++ 10 ∷ [])
    ≡ ended (joined (name ∷ number ∷ words))
line_is name number behind words is =
    ap (λ front. front ++ (behind ++ 10 ∷ [])) (append_assoc name (32 ∷ []) number)
    ∙ sym (append_assoc (name ++ 32 ∷ number) behind (10 ∷ []))
    ∙ ap (λ line. line ++ 10 ∷ [])
    (append_assoc name (32 ∷ number) behind
    ∙ ap (λ rest. name ++ 32 ∷ (number ++ rest)) is
    ∙ ap (λ rest. name ++ 32 ∷ rest) (sym (spaced number words)))

-- ---- the words of nodes

star_by : (b : Bool) (word own : List ℕ) → word ≡ 32 ∷ own
    → cond b (codes " *") word ≡ 32 ∷ cond b (codes "*") own
star_by true word own is = refl
star_by false word own is = is

stars : (faulty : List ℕ) (word own : ℕ → List ℕ) → ((v : ℕ) → word v ≡ 32 ∷ own v)
    → (nodes : List ℕ)
    → flat_map (word_or_star word faulty) nodes
    ≡ flat_map behind_space (map (λ v. if is_in faulty v then codes "*" else own v) nodes)
stars faulty word own is [] = refl
stars faulty word own is (v ∷ nodes) =
    ap₂ (λ first rest. first ++ rest) (star_by (is_in faulty v) (word v) (own v) (is v))
    (stars faulty word own is nodes)

mark_is : (b : Bool) → cond b (codes " 1") (codes " .") ≡ 32 ∷ cond b (codes "1") (codes ".")
mark_is true = refl
mark_is false = refl

-- ---- lines of a list of numbers

each_line : (line : ℕ → List ℕ) (words : ℕ → List (List ℕ))
    → ((t : ℕ) → line t ≡ ended (joined (words t))) → (numbers : List ℕ)
    → flat_map line numbers ≡ text_of_words (map words numbers)
each_line line words is [] = refl
each_line line words is (t ∷ numbers) =
    ap₂ (λ first rest. first ++ rest) (is t) (each_line line words is numbers)

-- those that pass a test
if_begun : (b : Bool) (line rest : List ℕ) (words : List (List ℕ)) (more : List (List (List ℕ)))
    → line ≡ ended (joined words) → rest ≡ text_of_words more
    → cond b line [] ++ rest ≡ text_of_words (cond b (words ∷ more) more)
if_begun true line rest words more is behind = ap₂ (λ first last. first ++ last) is behind
if_begun false line rest words more is behind = behind

only_begun : (begins : ℕ → Bool) (line : ℕ → List ℕ) (words : ℕ → List (List ℕ))
    → ((t : ℕ) → line t ≡ ended (joined (words t))) → (numbers : List ℕ)
    → flat_map (λ t. if begins t then line t else []) numbers
    ≡ text_of_words (map words (filter begins numbers))
only_begun begins line words is [] = refl
only_begun begins line words is (t ∷ numbers) =
    if_begun (begins t) (line t) (flat_map (λ t. if begins t then line t else []) numbers) (words t)
    (map words (filter begins numbers)) (is t) (only_begun begins line words is numbers)
    ∙ ap text_of_words (pick (begins t))
  where
    pick : (b : Bool) → cond b (words t ∷ map words (filter begins numbers))
        (map words (filter begins numbers))
        ≡ map words (cond b (t ∷ filter begins numbers) (filter begins numbers))
    pick true = refl
    pick false = refl

-- the text of two lists of lines
both : (one other : List (List (List ℕ)))
    → text_of_words one ++ text_of_words other ≡ text_of_words (one ++ other)
both [] other = refl
both (line ∷ one) other =
    append_assoc (ended (joined line)) (text_of_words one) (text_of_words other)
    ∙ ap (λ rest. ended (joined line) ++ rest) (both one other)

-- ---- the last lines

module _ (plan : Plan) (script : Script) where
  locked_is : (lock : Option ℕ) → locked_line lock ≡ ended (joined (lock_words plan script lock))
  locked_is (Some t) = refl
  locked_is None = refl

  era_by : (lock : Option ℕ) (first : List ℕ)
      → ((codes "era " ++ first) ++ codes " ") ++ (locked_line lock ++ [])
      ≡ ended (joined (codes "era" ∷ first ∷ lock_words plan script lock))
  era_by lock first =
      ap (λ line. ((codes "era " ++ first) ++ codes " ") ++ line) (append-nil (locked_line lock))
      ∙ append_assoc (codes "era " ++ first) (codes " ") (locked_line lock)
      ∙ ap (λ line. (codes "era " ++ first) ++ 32 ∷ line) (locked_is lock)
      ∙ line_is (codes "era") first (32 ∷ joined (lock_words plan script lock))
      (lock_words plan script lock) (front lock)
    where
      front : (lock : Option ℕ) → 32 ∷ joined (lock_words plan script lock)
          ≡ flat_map behind_space (lock_words plan script lock)
      front (Some t) = ap (λ rest. codes " locked " ++ rest) (sym (append-nil (decimal t)))
      front None = refl

  module _ (config_at : ℕ → List State) where
    locks_by : (b : Bool) → cond b (locked_line (lock_of_era plan script config_at 0))
        (flat_map (era_line plan script config_at) (range_with_len 0 (length script.eras + 1)))
        ≡ text_of_words (cond b (lock_words plan script (lock_of_era plan script config_at 0) ∷ [])
        (map (era_words plan script config_at) (range_with_len 0 (length script.eras + 1))))
    locks_by true =
        locked_is (lock_of_era plan script config_at 0)
        ∙ sym (append-nil (ended (joined (lock_words plan script
        (lock_of_era plan script config_at 0)))))
    locks_by false =
        each_line (era_line plan script config_at) (era_words plan script config_at)
        (λ j. era_by (lock_of_era plan script config_at j) (decimal (first_of_era script j)))
        (range_with_len 0 (length script.eras + 1))

    -- all lines of a text
    pub all_lines : (written : List ℕ) (lines : List (List (List ℕ)))
        → written ≡ text_of_words lines
        → concat (bound_line (plan_bound plan) ∷ written
        ∷ lock_lines plan script config_at ∷ [])
        ≡ text_of_words (around plan script config_at lines)
    all_lines written lines is =
        ap (λ rest. bound_line (plan_bound plan) ++ rest)
        (ap₂ (λ middle last. middle ++ last) is
        (append-nil (lock_lines plan script config_at) ∙ locks_by (script.version == 1))
        ∙ both lines (locks_said plan script config_at))

  -- ---- each line

  nodes_are : (c : ℕ) (word own : ℕ → List ℕ) → ((v : ℕ) → word v ≡ 32 ∷ own v)
      → words_of_nodes plan word (faulty_at script c)
      ≡ flat_map behind_space (starred plan script c own)
  nodes_are c word own is =
      stars (faulty_at script c) word own is (range_with_len 0 (plan_nodes plan))

  row_is : (t : ℕ) → shown_line (codes "row ") shown_word plan script t
      ≡ ended (joined (row_words plan script t))
  row_is t =
      line_is (codes "row") (decimal t)
      (words_of_nodes plan (shown_word plan (played_at plan script t)) (faulty_at script t))
      (starred plan script t (λ v. decimal (output_shown plan script t v)))
      (nodes_are t (shown_word plan (played_at plan script t))
      (λ v. decimal (output_shown plan script t v)) (λ v. refl))

  hold_is : (table : List SlotLine) (t : ℕ)
      → shown_line (codes "hold ") (λ plan. hold_word plan table) plan script t
      ≡ ended (joined (hold_words plan script table t))
  hold_is table t =
      let mark : ℕ → List ℕ = λ v.
      if option_eq nat_eq (holder_of table (output_shown plan script t v)) (Some v)
      then codes "1" else codes "." in
      line_is (codes "hold") (decimal t)
      (words_of_nodes plan (hold_word plan table (played_at plan script t)) (faulty_at script t))
      (starred plan script t mark)
      (nodes_are t (hold_word plan table (played_at plan script t)) mark
      (λ v. mark_is (option_eq nat_eq (holder_of table (output_shown plan script t v)) (Some v))))

  decision_is : (said : AgreeContent) (t : ℕ)
      → decision_line plan script said t ≡ ended (joined (decision_words plan script said t))
  decision_is said t =
      let end : ℕ = t + slot_length (plan_faults plan) in
      let own : ℕ → List ℕ = λ v. decimal (decision (agree_scene plan script said end) v) in
      line_is (codes "slot") (decimal t)
      (words_of_nodes plan (decision_word (agree_scene plan script said end))
      (faulty_at script end)) (starred plan script end own)
      (nodes_are end (decision_word (agree_scene plan script said end)) own (λ v. refl))

  fire_is : (requests : List Request) (t : ℕ)
      → fire_line plan script requests t ≡ ended (joined (fire_words plan script requests t))
  fire_is requests t =
      let end : ℕ = t + slot_length (plan_faults plan) in
      let fired : ℕ → Bool = λ v. fires_of (fire_scene plan script requests end).kept v in
      let own : ℕ → List ℕ = λ v. if fired v then codes "1" else codes "." in
      line_is (codes "fire") (decimal t)
      (words_of_nodes plan (fire_word (fire_scene plan script requests end))
      (faulty_at script end)) (starred plan script end own)
      (nodes_are end (fire_word (fire_scene plan script requests end)) own
      (λ v. mark_is (fired v)))

  -- a line of the log has its owner after the number
  entry_is : (said : LogContent) (t : ℕ)
      → entry_line plan script said t ≡ ended (joined (entry_words plan script said t))
  entry_is said t =
      let end : ℕ = t + entry_length (plan_faults plan) in
      let owner : List ℕ = decimal (slot_owner plan script said t) in
      let own : ℕ → List ℕ = λ v.
      decimal (newest_value (log_of (log_scene plan script said end) v)) in
      let words : List ℕ =
      words_of_nodes plan (entry_word (log_scene plan script said end)) (faulty_at script end) in
      append_assoc (codes "entry " ++ decimal t) (codes " owner " ++ owner) (words ++ 10 ∷ [])
      ∙ ap (λ rest. (codes "entry " ++ decimal t) ++ (32 ∷ 111 ∷ 119 ∷ 110 ∷ 101 ∷ 114 ∷ 32 ∷ rest))
      (sym (append_assoc owner words (10 ∷ [])))
      ∙ line_is (codes "entry") (decimal t) (codes " owner " ++ (owner ++ words))
      (codes "owner" ∷ owner ∷ starred plan script end own)
      (ap (λ rest. codes " owner " ++ (owner ++ rest))
      (nodes_are end (entry_word (log_scene plan script said end)) own (λ v. refl)))

pub rows_are_written : (plan : Plan) (script : Script) → RowsAreWritten plan script
rows_are_written plan script =
    all_lines plan script (played_at plan script)
    (flat_map (shown_line (codes "row ") shown_word plan script) (shown_numbers plan script))
    (map (row_words plan script) (shown_numbers plan script))
    (each_line (shown_line (codes "row ") shown_word plan script) (row_words plan script)
    (row_is plan script) (shown_numbers plan script))

pub holds_are_written : (plan : Plan) (script : Script) (table : List SlotLine)
    → HoldsAreWritten plan script table
holds_are_written plan script table =
    let line : ℕ → List ℕ =
    shown_line (codes "hold ") (λ plan. hold_word plan table) plan script in
    all_lines plan script (played_at plan script) (flat_map line (shown_numbers plan script))
    (map (hold_words plan script table) (shown_numbers plan script))
    (each_line line (hold_words plan script table) (hold_is plan script table)
    (shown_numbers plan script))

-- of lines of slots
module _ (plan : Plan) (script : Script) (config_at : ℕ → List State) (q : ℕ)
    (line : ℕ → List ℕ) (words : ℕ → List (List ℕ))
    (is : (t : ℕ) → line t ≡ ended (joined (words t))) where
  slots_written : concat (bound_line (plan_bound plan)
      ∷ slot_lines plan script q config_at line
      ∷ lock_lines plan script config_at ∷ [])
      ≡ text_of_words (around plan script config_at
      (map words (slots_shown plan script config_at q)))
  slots_written =
      all_lines plan script config_at (slot_lines plan script q config_at line)
      (map words (slots_shown plan script config_at q))
      (only_begun (λ t. begins_at plan script q t (config_at t)) line words is
      (shown_numbers plan script))

pub decisions_are_written : (plan : Plan) (script : Script) (said : AgreeContent)
    → DecisionsAreWritten plan script said
decisions_are_written plan script said =
    slots_written plan script (λ c. (agree_scene plan script said c).states)
    (slot_length (plan_faults plan)) (decision_line plan script said)
    (decision_words plan script said) (decision_is plan script said)

pub fires_are_written : (plan : Plan) (script : Script) (requests : List Request)
    → FiresAreWritten plan script requests
fires_are_written plan script requests =
    slots_written plan script (λ c. (fire_scene plan script requests c).states)
    (slot_length (plan_faults plan)) (fire_line plan script requests)
    (fire_words plan script requests) (fire_is plan script requests)

pub entries_are_written : (plan : Plan) (script : Script) (said : LogContent)
    → EntriesAreWritten plan script said
entries_are_written plan script said =
    slots_written plan script (λ c. (log_scene plan script said c).states)
    (entry_length (plan_faults plan)) (entry_line plan script said)
    (entry_words plan script said) (entry_is plan script said)

pub texts_are_written : TextsAreWritten
texts_are_written = record {
  rows = rows_are_written;
  holds = holds_are_written;
  decisions = decisions_are_written;
  fires = fires_are_written;
  entries = entries_are_written;
}
