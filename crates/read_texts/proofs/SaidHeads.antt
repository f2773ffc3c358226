-- What the lines of the head and of the starts say.
use Rattle.std.proofs.Common.{◌≡◌, inl, inr, ℕ, ◌-◌, Bool, true, false, List, [], ◌∷◌, ◌++◌}
use Rattle.std.proofs.Common.{Option, Some, None, Ok, Err, decimal, refl}
use Rattle.std.proofs.Common.{sym}
use Rattle.std.proofs.Common.{ap, ◌∙◌, subst, arith, ◌+◌}
use Rattle.std.specs.Prelude.{IfSome, IfOk, codes, if◌then◌else◌}
use Rattle.std.specs.Str.{bytes_eq}
use Rattle.std.proofs.lemmas.Fmt.{decimal_digit}
use Rattle.hex.specs.Hex.{encode_lower, decode_of}
use Rattle.texts.specs.Numbers.{number_of}
use Rattle.texts.specs.Words.{joined}
use Rattle.part_lines.proofs.ReadWords.{same_bytes, word_is}
use Rattle.sync_types.specs.declared.answers.Rule.TheVariants as rule
use Rattle.sync_types.specs.States.{State}
use Rattle.state_codec.specs.Shapes.{Shape, fields_at}
use Rattle.state_codec.specs.Texts.{is_state_text, read_text, written_text}
use Rattle.adversary_script.specs.declared.kinds.Kind.{Kind}
use Rattle.adversary_script.specs.declared.kinds.Kind.TheVariants as kind
use Rattle.adversary_script.specs.declared.lies.CommonStart.{CommonStart}
use Rattle.adversary_script.specs.declared.lies.Start.{Start}
use Rattle.adversary_script.specs.FaultySteps.{faulty_tests, faulty_tested}
use Rattle.adversary_script.specs.FaultySteps.{last_era}
use Rattle.adversary_script.specs.LieSteps.{state_of_digits}
use Rattle.adversary_script.specs.LieWords.{noise, digits}
use Rattle.read_texts.specs.ReadScripts.{SaysState, SaysKey}
use Rattle.read_texts.specs.ReadScripts.{SayLines}
use Rattle.adversary_script.specs.ScriptPart.{passed}
use Rattle.adversary_script.specs.ScriptTexts.{version_line, faulty_line, seed_lines, common_line}
use Rattle.adversary_script.specs.ScriptTexts.{start_line}
use Rattle.adversary_script.specs.Scripts.{Era, Script}
use Rattle.adversary_script.specs.StartSteps.{started, with_start, start_tests, start_tested}
use Rattle.adversary_script.specs.StartSteps.{start_step}
use Rattle.adversary_script.specs.Steps.{done, head_tested, key_of_digits, with_key, seed_tested}
use Rattle.adversary_script.specs.WordTests.{both}
use Rattle.read_texts.proofs.SaidOnce.{say_more, say_no_more}
use Rattle.read_texts.proofs.SaidSections.{middle, key_lines, head_whole, with_one_start}
use Rattle.read_texts.proofs.TakenWords.{front}
use Rattle.read_texts.proofs.TakenWords.{state_is, key_decoded}
use Rattle.adversary_script.proofs.Tested.{tested_keeps}
use Rattle.read_texts.proofs.SaidAfter.{zeros, IsOpen, SaysAfter}

-- ---- one more line, by its kind

module _ (f : ℕ) (s : Script) (said : List (List ℕ)) (line : List ℕ) where
  abbrev pub now : List (List ℕ)
  now = said ++ line ∷ []

  -- a line that is these words
  pub says : (shape : Shape) (before : List (List (List ℕ))) (words : List (List ℕ))
      → SayLines shape said before → line ≡ joined words
      → SayLines shape now (before ++ words ∷ [])
  says shape before words h is = say_more shape said before line words h (inl is)

  pub says_as : (shape : Shape) (before after : List (List (List ℕ))) (words : List (List ℕ))
      → SayLines shape said before → line ≡ joined words → before ++ words ∷ [] ≡ after
      → SayLines shape now after
  says_as shape before after words h is same =
      subst (SayLines shape now) same (says shape before words h is)

  -- `script 1` and `script 2`
  versioned : (version : ℕ) (word : List ℕ) → SaysAfter None s said
      → line ≡ joined (codes "script" ∷ word ∷ []) → word ≡ decimal version
      → SaysAfter (Some kind.Script) (record s { version = version }) now
  versioned version word h is same =
      let none : SayLines s.shape said [] = subst (λ ls. SayLines s.shape ls []) (sym h.0) refl in
      let whole : line ≡ joined (version_line version) =
      is ∙ ap (λ (w : List ℕ). joined (codes "script" ∷ w ∷ [])) same in
      (says s.shape [] (version_line version) none whole, h.1, h.2)

  pub headed : (word : Option (List ℕ)) → SaysAfter None s said
      → IfSome word (λ w. line ≡ joined (codes "script" ∷ w ∷ []))
      → IfOk (head_tested s word) (λ t. SaysAfter (Some kind.Script) t now)
  headed None h is = tt
  headed (Some word) h is =
      by (bytes_eq word (codes "1")) (bytes_eq word (codes "2")) refl refl where
        by : (one two : Bool) → bytes_eq word (codes "1") ≡ one → bytes_eq word (codes "2") ≡ two
            → IfOk (if one then Ok (record s { version = 1 })
            else if two then Ok (record s { version = 2 }) else Err rule.Form)
            (λ t. SaysAfter (Some kind.Script) t now)
        by true two e e' =
            versioned 1 word h is
            (same_bytes word (codes "1") e ∙ sym (decimal_digit 1 (omega arith)))
        by false true e e' =
            versioned 2 word h is
            (same_bytes word (codes "2") e' ∙ sym (decimal_digit 2 (omega arith)))
        by false false e e' = tt

  -- `faulty` and ids
  pub of_faulty : (ids : Option (List ℕ)) → SaysAfter (Some kind.Script) s said
      → IfSome ids (λ ids. line ≡ joined (faulty_line ids))
      → IfOk (faulty_tested f s ids) (λ t. SaysAfter (Some kind.Faulty) t now)
  of_faulty None h is = tt
  of_faulty (Some ids) h is =
      tested_keeps (λ t. SaysAfter (Some kind.Faulty) t now) (faulty_tests f s ids)
      (Ok (record s { faulty = ids }))
      (λ passed. (
        says s.shape (version_line s.version ∷ []) (faulty_line ids) h.0 is,
        h.1,
        h.2,
      ))

  -- `seed` and digits
  seeded : (key : List ℕ) (zero : Bool) → bytes_eq key zeros ≡ zero
      → SaysAfter (Some kind.Faulty) s said → SaysKey line key
      → SaysAfter (Some kind.Seed) (record s { key = key }) now
  seeded key true is h says_key =
      let same = same_bytes key zeros is in
      let none : key_lines (record s { key = key })
      ≡ version_line s.version ∷ faulty_line s.faulty ∷ [] =
      ap (λ (key : List ℕ). version_line s.version ∷ faulty_line s.faulty ∷ seed_lines key)
      same in (
        subst (SayLines s.shape now) (sym none)
            (say_no_more s.shape said (version_line s.version ∷ faulty_line s.faulty ∷ []) line h.0
            (subst (SaysKey line) same says_key)),
        h.2,
      )
  seeded key false is h says_key =
      let words = codes "seed" ∷ encode_lower key ∷ [] in
      let one : version_line s.version ∷ faulty_line s.faulty ∷ words ∷ []
      ≡ key_lines (record s { key = key }) =
      ap (λ (b : Bool). version_line s.version ∷ faulty_line s.faulty
      ∷ (if b then [] else words ∷ [])) (sym is) in (
        subst (SayLines s.shape now) one
            (say_more s.shape said (version_line s.version ∷ faulty_line s.faulty ∷ []) line words
            h.0
            (inr (inr (record { key = key; says = says_key; words_are = refl })))),
        h.2,
      )

  with_a_key : (key : Option (List ℕ)) → SaysAfter (Some kind.Faulty) s said
      → IfSome key (SaysKey line) → IfOk (with_key s key) (λ t. SaysAfter (Some kind.Seed) t now)
  with_a_key None h is = tt
  with_a_key (Some key) h is = seeded key (bytes_eq key zeros) refl h is

  key_said : (word : List ℕ) (key : Option (List ℕ)) → line ≡ joined (codes "seed" ∷ word ∷ [])
      → IfSome key (λ key. decode_of word ≡ Ok key) → IfSome key (SaysKey line)
  key_said word None is decoded = tt
  key_said word (Some key) is decoded =
      record { digits = word; line_is = is; decoded = decoded }

  pub of_seed : (word : Option (List ℕ)) → SaysAfter (Some kind.Faulty) s said
      → IfSome word (λ w. line ≡ joined (codes "seed" ∷ w ∷ []))
      → IfOk (seed_tested s word) (λ t. SaysAfter (Some kind.Seed) t now)
  of_seed None h is = tt
  of_seed (Some word) h is =
      with_a_key (key_of_digits word) h (key_said word (key_of_digits word) is (key_decoded word))

  -- `start zero` and `start noise`
  pub of_common : (start : CommonStart) → SaysAfter (Some kind.Seed) s said
      → line ≡ joined (common_line start)
      → SayLines s.shape now (middle (record s { common = start })) × IsOpen s
  of_common start h is = (
    says_as s.shape (key_lines s) (middle (record s { common = start })) (common_line start) h.0
        is (sym (head_whole (record s { common = start }) h.1.0 h.1.1 h.1.2 h.1.3)),
    (h.1.2, h.1.3),
  )

  pub none_left : (t : Script) (k : Kind) (words : List (List ℕ))
      → (words ≡ [] → SaysAfter (Some k) t now)
      → IfOk (done t words) (λ t. SaysAfter (Some k) t now)
  none_left t k [] h = h refl
  none_left t k (word ∷ words) h = tt

  one_started : (found : Option Era) (start : Start) → last_era s.eras ≡ found
      → SaysAfter (Some kind.StartNode) s said
      → SayLines s.shape now (middle s ++ start_line s.shape start ∷ [])
      → SaysAfter (Some kind.StartNode) (started s found start) now
  one_started None start is h one =
      (subst (SayLines s.shape now) (with_one_start s None start is h.1.0 h.1.1) one, h.1)
  one_started (Some era) start is h one =
      (subst (SayLines s.shape now) (with_one_start s (Some era) start is h.1.0 h.1.1) one, h.1)

  -- `start node V H`
  of_state : (v : ℕ) (word : List ℕ) (state : Option State)
      → SaysAfter (Some kind.StartNode) s said
      → line ≡ joined (codes "start" ∷ codes "node" ∷ decimal v ∷ word ∷ [])
      → IfSome state (λ state. (is_state_text (fields_at s.shape v) word ≡ true)
      × (state ≡ read_text (fields_at s.shape v) word))
      → IfOk (with_start s v state) (λ t. SaysAfter (Some kind.StartNode) t now)
  of_state v word None h is read = tt
  of_state v word (Some state) h is read =
      let start : Start = record { node = v; state = state } in
      let one : SaysState s.shape line (start_line s.shape start) = record {
        node = v;
        front = codes "start" ∷ codes "node" ∷ decimal v ∷ [];
        digits = word;
        before = inl refl;
        size = read.0;
        line_is = is;
        words_are =
            ap (λ (state : State). codes "start" ∷ codes "node" ∷ decimal v
            ∷ written_text (fields_at s.shape v) state ∷ []) read.1;
      } in
      one_started (last_era s.eras) start refl h
      (say_more s.shape said (middle s) line (start_line s.shape start) h.0 (inr (inl one)))

  of_start : (v : Option ℕ) (first word : List ℕ) → SaysAfter (Some kind.StartNode) s said
      → line ≡ joined (codes "start" ∷ codes "node" ∷ first ∷ word ∷ [])
      → IfSome v (λ v. first ≡ decimal v)
      → IfOk (start_tested s v word) (λ t. SaysAfter (Some kind.StartNode) t now)
  of_start None first word h is same = tt
  of_start (Some v) first word h is same =
      tested_keeps (λ t. SaysAfter (Some kind.StartNode) t now) (start_tests s v)
      (with_start s v (state_of_digits (fields_at s.shape v) word))
      (λ passed. of_state v word (state_of_digits (fields_at s.shape v) word) h
      (is ∙ ap (λ (w : List ℕ). joined (codes "start" ∷ codes "node" ∷ w ∷ word ∷ [])) same)
      (state_is (fields_at s.shape v) word))

  pub of_node : (words : List (List ℕ)) → SaysAfter (Some kind.StartNode) s said
      → line ≡ joined (codes "start" ∷ codes "node" ∷ words)
      → IfOk (start_step s (both words)) (λ t. SaysAfter (Some kind.StartNode) t now)
  of_node (first ∷ second ∷ []) h is =
      of_start (number_of first) first second h is (word_is first)
  of_node other h is = tt
