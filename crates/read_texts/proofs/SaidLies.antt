-- What the lines of eras, groups and lies say, and those behind them.
use Rattle.std.proofs.Common.{◌≡◌, inl, inr, ℕ, ◌-◌, true, List, [], ◌∷◌, ◌++◌}
use Rattle.std.proofs.Common.{map, Option, Some, None, Ok, decimal, refl}
use Rattle.std.proofs.Common.{sym}
use Rattle.std.proofs.Common.{ap, ◌∙◌, subst, append_assoc, ◌+◌}
use Rattle.std.specs.Prelude.{IfSome, IfOk, codes}
use Rattle.std.specs.Option.{option_map}
use Rattle.texts.specs.Shapes.{all_numbers}
use Rattle.texts.specs.Words.{joined}
use Rattle.part_lines.proofs.ReadWords.{all_words_are}
use Rattle.sync_types.specs.States.{State}
use Rattle.state_codec.specs.Shapes.{fields_at}
use Rattle.state_codec.specs.Texts.{is_state_text, read_text, written_text}
use Rattle.adversary_script.specs.declared.kinds.Kind.TheVariants as kind
use Rattle.adversary_script.specs.declared.lies.Lie.{Lie}
use Rattle.adversary_script.specs.declared.lies.Who.{Who}
use Rattle.adversary_script.specs.declared.lies.What.{What}
use Rattle.adversary_script.specs.declared.lies.What.TheVariants as what
use Rattle.adversary_script.specs.FaultySteps.{era_tests}
use Rattle.adversary_script.specs.FaultySteps.{era_tested, with_era}
use Rattle.adversary_script.specs.LieSteps.{state_of_digits, who_of, what_of, with_lie, lie_tests}
use Rattle.adversary_script.specs.LieSteps.{lie_tested}
use Rattle.adversary_script.specs.LieWords.{WhatSaid, noise, copy, digits, shift, LieSaid}
use Rattle.read_texts.specs.ReadScripts.{SaysLine}
use Rattle.read_texts.specs.ReadScripts.{SayLines}
use Rattle.adversary_script.specs.ScriptPart.{passed}
use Rattle.adversary_script.specs.ScriptTexts.{era_line, group_line, hearers}
use Rattle.adversary_script.specs.ScriptTexts.{saying, lie_line, rounds_line, show_line, end_line}
use Rattle.adversary_script.specs.ScriptTexts.{last_lines}
use Rattle.adversary_script.specs.Scripts.{Group, Script}
use Rattle.adversary_script.specs.Steps.{done}
use Rattle.adversary_script.specs.Steps.{group_tests, group_tested, group_step, rounds_tests}
use Rattle.adversary_script.specs.Steps.{rounds_tested, show_tests, show_tested}
use Rattle.adversary_script.specs.WordTests.{only}
use Rattle.read_texts.proofs.SaidOnce.{say_more}
use Rattle.read_texts.proofs.SaidSections.{middle}
use Rattle.read_texts.proofs.SaidSections.{with_one_era, with_one_group, with_one_lie}
use Rattle.read_texts.proofs.TakenWords.{front, lie_said}
use Rattle.read_texts.proofs.TakenWords.{heard_words}
use Rattle.read_texts.proofs.TakenWords.{told_words, hearers_are, state_is}
use Rattle.adversary_script.proofs.Tested.{tested_keeps}
use Rattle.read_texts.proofs.SaidAfter.{SaysAfter}
use Rattle.read_texts.proofs.SaidHeads.{says, says_as, none_left}

-- ---- one more line behind the starts

module _ (f : ℕ) (s : Script) (said : List (List ℕ)) (line : List ℕ) where
  -- `era A faulty` and ids
  pub of_era : (found : Option (ℕ × List ℕ)) → SaysAfter (Some kind.StartNode) s said
      → IfSome found (λ era. line ≡ joined (era_line era.0 era.1))
      → IfOk (era_tested f s found) (λ t. SaysAfter (Some kind.Era) t (said ++ line ∷ []))
  of_era None h is = tt
  of_era (Some era) h is =
      tested_keeps (λ t. SaysAfter (Some kind.Era) t (said ++ line ∷ []))
      (era_tests f s era.0 era.1)
      (Ok (with_era s era.0 era.1))
      (λ passed. (
        says_as f s said line s.shape (middle s) (middle (with_era s era.0 era.1))
            (era_line era.0 era.1) h.0 is
            (with_one_era s era.0 era.1 h.1.0 h.1.1),
        h.1,
      ))

  -- `group NAME` and ids
  of_group : (name : List ℕ) (ids : Option (List ℕ)) → SaysAfter (Some kind.Group) s said
      → IfSome ids (λ ids. line ≡ joined (codes "group" ∷ name ∷ map decimal ids))
      → IfOk (group_tested s name ids) (λ t. SaysAfter (Some kind.Group) t (said ++ line ∷ []))
  of_group name None h is = tt
  of_group name (Some []) h is = tt
  of_group name (Some (id ∷ ids)) h is =
      let group : Group = record { name = name; ids = id ∷ ids } in
      tested_keeps (λ t. SaysAfter (Some kind.Group) t (said ++ line ∷ []))
      (group_tests s name (id ∷ ids))
      (Ok (record s { groups = s.groups ++ group ∷ [] }))
      (λ passed. (
        says_as f s said line s.shape (middle s)
            (middle (record s { groups = s.groups ++ group ∷ [] }))
            (group_line group) h.0 is (with_one_group s group h.1),
        h.1,
      ))

  -- `lie A B U to WHO WHAT`
  lie_text : (l : LieSaid) (said : What) (who : Who) → line ≡ joined (codes "lie" ∷ lie_said l)
      → heard_words l.who ≡ hearers s.groups who
      → told_words l.what ≡ saying (fields_at s.shape l.sender) said
      → SaysLine s.shape line (lie_line s.groups s.shape
      (record { first = l.first; last = l.last; sender = l.sender; who = who; what = said }))
  lie_text l said who is hear tell =
      inl
      (is
      ∙ ap (λ (ws : List (List ℕ)). joined (codes "lie" ∷ decimal l.first ∷ decimal l.last
      ∷ decimal l.sender ∷ codes "to" ∷ (ws ++ told_words l.what))) hear
      ∙ ap (λ (ws : List (List ℕ)). joined (codes "lie" ∷ decimal l.first ∷ decimal l.last
      ∷ decimal l.sender ∷ codes "to" ∷ (hearers s.groups who ++ ws))) tell)

  lie_digits : (l : LieSaid) (word : List ℕ) (state : State) (who : Who)
      → line ≡ joined (codes "lie" ∷ decimal l.first ∷ decimal l.last ∷ decimal l.sender
      ∷ codes "to" ∷ (heard_words l.who ++ codes "hex" ∷ word ∷ []))
      → heard_words l.who ≡ hearers s.groups who
      → is_state_text (fields_at s.shape l.sender) word ≡ true
      → state ≡ read_text (fields_at s.shape l.sender) word
      → SaysLine s.shape line (lie_line s.groups s.shape (record {
        first = l.first;
        last = l.last;
        sender = l.sender;
        who = who;
        what = what.State state;
      }))
  lie_digits l word state who is hear size read =
      let fields = fields_at s.shape l.sender in
      let words = hearers s.groups who in
      let begins : List (List ℕ) → List (List ℕ) = λ ws.
      codes "lie" ∷ decimal l.first ∷ decimal l.last ∷ decimal l.sender ∷ codes "to" ∷ ws in
      let part : (last : List ℕ) → words ++ codes "hex" ∷ last ∷ []
      ≡ (words ++ codes "hex" ∷ []) ++ last ∷ [] =
      λ last. sym (append_assoc words (codes "hex" ∷ []) (last ∷ [])) in
      inr (inl (record {
        node = l.sender;
        front = begins (words ++ codes "hex" ∷ []);
        digits = word;
        before = inr (record { first = l.first; last = l.last; who = words; is = refl });
        size = size;
        line_is =
            is
            ∙ ap (λ (ws : List (List ℕ)). joined (begins (ws ++ codes "hex" ∷ word ∷ []))) hear
            ∙ ap (λ (ws : List (List ℕ)). joined (begins ws)) (part word);
        words_are =
            ap (λ (t : State). begins (words ++ codes "hex" ∷ written_text fields t ∷ [])) read
            ∙ ap begins (part (written_text fields (read_text fields word)));
      }))

  -- what the lie says of its sender
  abbrev SaysWhat : LieSaid → What → Type 0
  SaysWhat l said = (who : Who) → heard_words l.who ≡ hearers s.groups who
      → SaysLine s.shape line (lie_line s.groups s.shape
      (record { first = l.first; last = l.last; sender = l.sender; who = who; what = said }))

  state_told : (l : LieSaid) (word : List ℕ) (state : Option State)
      → line ≡ joined (codes "lie" ∷ decimal l.first ∷ decimal l.last ∷ decimal l.sender
      ∷ codes "to" ∷ (heard_words l.who ++ codes "hex" ∷ word ∷ []))
      → IfSome state (λ state. (is_state_text (fields_at s.shape l.sender) word ≡ true)
      × (state ≡ read_text (fields_at s.shape l.sender) word))
      → IfSome (option_map what.State state) (SaysWhat l)
  state_told l word None is read = tt
  state_told l word (Some state) is read =
      λ who hear. lie_digits l word state who is hear read.0 read.1

  what_told : (l : LieSaid) (told : WhatSaid) → l.what ≡ told
      → line ≡ joined (codes "lie" ∷ lie_said l)
      → IfSome (what_of (fields_at s.shape l.sender) told) (SaysWhat l)
  what_told l noise same is = λ who hear. lie_text l what.Noise who is hear (ap told_words same)
  what_told l (copy w) same is =
      λ who hear. lie_text l (what.Copy w) who is hear (ap told_words same)
  what_told l (shift by) same is =
      λ who hear. lie_text l (what.Shift by) who is hear (ap told_words same)
  what_told l (digits word) same is =
      state_told l word (state_of_digits (fields_at s.shape l.sender) word)
      (is
      ∙ ap (λ (told : WhatSaid). joined (codes "lie" ∷ decimal l.first ∷ decimal l.last
      ∷ decimal l.sender ∷ codes "to" ∷ (heard_words l.who ++ told_words told))) same)
      (state_is (fields_at s.shape l.sender) word)

  lie_by : (l : LieSaid) (said_what : Option What) (who : Option Who)
      → SayLines s.shape said (middle s) → IfSome said_what (SaysWhat l)
      → IfSome who (λ w. heard_words l.who ≡ hearers s.groups w)
      → IfOk (with_lie s l said_what who) (λ t. SaysAfter (Some kind.Lie) t (said ++ line ∷ []))
  lie_by l None who h told heard = tt
  lie_by l (Some told_what) None h told heard = tt
  lie_by l (Some told_what) (Some who) h told heard =
      let lie : Lie = record {
        first = l.first;
        last = l.last;
        sender = l.sender;
        who = who;
        what = told_what;
      } in
      subst (SayLines s.shape (said ++ line ∷ [])) (with_one_lie s lie)
      (say_more s.shape said (middle s) line (lie_line s.groups s.shape lie) h (told who heard))

  pub of_lie : (found : Option LieSaid) → SayLines s.shape said (middle s)
      → IfSome found (λ l. line ≡ joined (codes "lie" ∷ lie_said l))
      → IfOk (lie_tested s found) (λ t. SaysAfter (Some kind.Lie) t (said ++ line ∷ []))
  of_lie None h is = tt
  of_lie (Some l) h is =
      let fields = fields_at s.shape l.sender in
      tested_keeps (λ t. SaysAfter (Some kind.Lie) t (said ++ line ∷ [])) (lie_tests s l)
      (with_lie s l (what_of fields l.what) (who_of s.groups l.who))
      (λ passed. lie_by l (what_of fields l.what) (who_of s.groups l.who) h
      (what_told l l.what refl is) (hearers_are s.groups l.who))

  -- `rounds R` and `show A B`
  pub of_rounds : (numbers : Option (List ℕ)) → SayLines s.shape said (middle s)
      → IfSome numbers (λ ns. line ≡ joined (codes "rounds" ∷ map decimal ns))
      → IfOk (rounds_tested s numbers) (λ t. SaysAfter (Some kind.Rounds) t (said ++ line ∷ []))
  of_rounds (Some (r ∷ [])) h is =
      tested_keeps (λ t. SaysAfter (Some kind.Rounds) t (said ++ line ∷ [])) (rounds_tests s r)
      (Ok (record s { rounds = r; first = 0; last = 0 }))
      (λ passed. says f s said line s.shape (middle s) (rounds_line r) h is)
  of_rounds other h is = tt

  pub of_show : (numbers : Option (List ℕ)) → SaysAfter (Some kind.Rounds) s said
      → IfSome numbers (λ ns. line ≡ joined (codes "show" ∷ map decimal ns))
      → IfOk (show_tested s numbers) (λ t. SaysAfter (Some kind.Show) t (said ++ line ∷ []))
  of_show (Some (a ∷ b ∷ [])) h is =
      tested_keeps (λ t. SaysAfter (Some kind.Show) t (said ++ line ∷ [])) (show_tests s a b)
      (Ok (record s { first = a; last = b }))
      (λ passed. says_as f s said line s.shape (middle s ++ rounds_line s.rounds ∷ [])
      (middle s ++ rounds_line s.rounds ∷ show_line a b ∷ []) (show_line a b) h is
      (append_assoc (middle s) (rounds_line s.rounds ∷ []) (show_line a b ∷ [])))
  of_show other h is = tt

  pub of_end : (words : List (List ℕ)) → SaysAfter (Some kind.Show) s said
      → line ≡ joined (codes "end" ∷ words)
      → IfOk (done s words) (λ t. SaysAfter (Some kind.End) t (said ++ line ∷ []))
  of_end words h is =
      none_left f s said line s kind.End words (λ none.
      says_as f s said line s.shape
      (middle s ++ rounds_line s.rounds ∷ show_line s.first s.last ∷ [])
      (middle s ++ last_lines s) end_line h
      (is ∙ ap (λ (ws : List (List ℕ)). joined (codes "end" ∷ ws)) none)
      (append_assoc (middle s) (rounds_line s.rounds ∷ show_line s.first s.last ∷ [])
      (end_line ∷ [])))

  -- what a list of words says, of its line
  pub words_said : {X : Type 0} (begins : List (List ℕ)) (words : List (List ℕ)) (found : Option X)
      (of : X → List (List ℕ)) → line ≡ joined (begins ++ words)
      → IfSome found (λ x. words ≡ of x) → IfSome found (λ x. line ≡ joined (begins ++ of x))
  words_said begins words None of is same = tt
  words_said begins words (Some x) of is same =
      is ∙ ap (λ (ws : List (List ℕ)). joined (begins ++ ws)) same

  pub only_said : (words : List (List ℕ)) → IfSome (only words) (λ w. words ≡ w ∷ [])
  only_said (word ∷ []) = refl
  only_said other = tt

  pub of_group_words : (words : List (List ℕ)) → SaysAfter (Some kind.Group) s said
      → line ≡ joined (codes "group" ∷ words)
      → IfOk (group_step s words) (λ t. SaysAfter (Some kind.Group) t (said ++ line ∷ []))
  of_group_words [] h is = tt
  of_group_words (name ∷ words) h is =
      of_group name (all_numbers words) h
      (words_said (codes "group" ∷ name ∷ []) words (all_numbers words) (map decimal) is
      (all_words_are words))
