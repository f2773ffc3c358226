-- What each line of an attack's text makes of the script so far: what it says, or nothing.
use Rattle.std.proofs.Common.{◌≡◌, ℕ, Bool, List, [], ◌∷◌, ◌++◌}
use Rattle.std.proofs.Common.{Option, Some, None, refl, sym, ap, subst}
use Rattle.std.specs.Prelude.{IfOk, IfSome, decimal, codes, if◌then◌else◌}
use Rattle.std.specs.Option.{option_map}
use Rattle.std.specs.Str.{bytes_eq}
use Rattle.std.proofs.lemmas.Bool.{leb-false, not-false}
use Rattle.texts.specs.Numbers.{number_of}
use Rattle.sync_types.specs.States.{State}
use Rattle.state_codec.specs.Shapes.{Fields, Shape, shape_nodes, fields_at}
use Rattle.machines.specs.Machines.{Machine}
use Rattle.machine_runner.specs.Laws.{IsShapeOf}
use Rattle.adversary_script.specs.declared.lies.CommonStart.TheVariants as common
use Rattle.adversary_script.specs.declared.lies.Lie.{Lie}
use Rattle.adversary_script.specs.declared.lies.Start.{Start}
use Rattle.adversary_script.specs.declared.lies.Who.TheVariants as who
use Rattle.adversary_script.specs.declared.lies.What.{What}
use Rattle.adversary_script.specs.declared.lies.What.TheVariants as what
use Rattle.adversary_script.specs.FaultySteps.{faulty_tests, faulty_tested}
use Rattle.adversary_script.specs.LieWords.{WhoSaid, everyone, between, named, WhatSaid, noise}
use Rattle.adversary_script.specs.LieWords.{copy, digits, shift, LieSaid, who_by, what_words}
use Rattle.adversary_script.specs.LieWords.{with_what, with_who, with_numbers}
use Rattle.adversary_script.specs.LieSteps.{lie_tests, lie_tested, lie_step, what_of, with_lie}
use Rattle.adversary_script.specs.Scripts.{Script, empty_script, faulty_sets}
use Rattle.adversary_script.specs.StartSteps.{start_tests, start_tested, with_start}
use Rattle.adversary_script.specs.Steps.{rounds_tests, rounds_tested, show_tests, show_tested}
use Rattle.adversary_script.specs.Steps.{with_key}
use Rattle.adversary_script.proofs.SoundLines.{sender_below}
use Rattle.adversary_script.proofs.Tested.{tested_keeps}
use Rattle.attack.specs.declared.candidates.Say.{Say}
use Rattle.attack.specs.declared.candidates.Say.TheVariants as say
use Rattle.attack.specs.declared.candidates.StartLine.{StartLine}
use Rattle.attack.specs.declared.candidates.LieLine.{LieLine}
use Rattle.attack.specs.AttackTexts.{node_digits}
use Rattle.attack.specs.AttackScripts.{drawn_state, what_said, start_said, lie_said}
use Rattle.attack.proofs.AnyNumbers.{number_is, is_not_all}
use Rattle.attack.proofs.AttackWords.{say_words}
use Rattle.attack.proofs.AttackWords.{told_words, state_is}

-- ---- what single lines leave

pub faulty_leaves : (f : ℕ) (s : Script) (ids : List ℕ) (read : Option (List ℕ))
    → IfSome read (λ ns. ns ≡ ids)
    → IfOk (faulty_tested f s read) (λ t. t ≡ record s { faulty = ids })
faulty_leaves f s ids None is = tt
faulty_leaves f s ids (Some ns) is =
    tested_keeps (λ t. t ≡ record s { faulty = ids }) (faulty_tests f s ns) _
    (λ passed. ap (λ (ns : List ℕ). record s { faulty = ns }) is)

pub key_leaves : (s : Script) (key : List ℕ) (read : Option (List ℕ)) → read ≡ Some key
    → IfOk (with_key s read) (λ t. t ≡ record s { key = key })
key_leaves s key read is =
    subst (λ (read : Option (List ℕ)). IfOk (with_key s read) (λ t. t ≡ record s { key = key }))
    (sym is) refl

abbrev pub played : Script → (rounds first last : ℕ) → Script
played s rounds first last = record s { rounds = rounds; first = first; last = last }

pub rounds_leave : (s : Script) (r : ℕ) (read : Option (List ℕ)) → IfSome read (λ ns. ns ≡ r ∷ [])
    → IfOk (rounds_tested s read) (λ t. t ≡ played s r 0 0)
rounds_leave s r None is = tt
rounds_leave s r (Some ns) is =
    subst (λ (ns : List ℕ). IfOk (rounds_tested s (Some ns)) (λ t. t ≡ played s r 0 0)) (sym is)
    (tested_keeps (λ t. t ≡ played s r 0 0) (rounds_tests s r) _ (λ passed. refl))

pub show_leaves : (s : Script) (a b : ℕ) (read : Option (List ℕ))
    → IfSome read (λ ns. ns ≡ a ∷ b ∷ [])
    → IfOk (show_tested s read) (λ t. t ≡ played s s.rounds a b)
show_leaves s a b None is = tt
show_leaves s a b (Some ns) is =
    subst (λ (ns : List ℕ). IfOk (show_tested s (Some ns)) (λ t. t ≡ played s s.rounds a b))
    (sym is) (tested_keeps (λ t. t ≡ played s s.rounds a b) (show_tests s a b) _ (λ passed. refl))

-- ---- a start line, and a lie

module _ (machine : Machine) (shape : Shape) (shaped : IsShapeOf machine shape) (faulty : List ℕ)
    (key : List ℕ) where
  abbrev pub noisy : Script
  noisy = record (empty_script (shape_nodes shape) shape) {
    faulty = faulty;
    key = key;
    common = common.Noise;
  }

  abbrev pub with_starts : List Start → Script
  with_starts starts = record noisy { starts = starts }

  module _ (starts : List Start) (start : StartLine) where
    abbrev word : List ℕ
    word = node_digits machine start.node start.seed

    abbrev started : Script
    started = with_starts (starts ++ start_said shape start ∷ [])

    pub start_leaves : (read : Option ℕ) → IfSome read (λ v. v ≡ start.node)
        → IfOk (start_tested (with_starts starts) read word) (λ t. t ≡ started)
    start_leaves None is = tt
    start_leaves (Some v) is =
        subst (λ (v : ℕ).
        IfOk (start_tested (with_starts starts) (Some v) word) (λ t. t ≡ started)) (sym is)
        (tested_keeps (λ t. t ≡ started) (start_tests (with_starts starts) start.node) _
        (λ passed.
        subst (λ (state : Option State).
        IfOk (with_start (with_starts starts) start.node state) (λ t. t ≡ started))
        (sym (state_is machine shape shaped start.node start.seed
        (leb-false (shape_nodes shape) start.node passed.0))) refl))

  module _ (starts : List Start) where
    abbrev pub with_lies : List Lie → Script
    with_lies lies = record (with_starts starts) { lies = lies }

    module _ (lies : List Lie) (lie : LieLine) where
      abbrev s : Script
      s = with_lies lies

      -- with the lie, if it says that
      abbrev told : What → Script
      told what = with_lies (lies ++ record {
        first = lie.first;
        last = lie.last;
        sender = lie.sender;
        who = who.Ids lie.from lie.to;
        what = what;
      } ∷ [])

      abbrev fields : Fields
      fields = fields_at shape lie.sender

      abbrev line : WhoSaid → WhatSaid → LieSaid
      line who what = record {
        first = lie.first;
        last = lie.last;
        sender = lie.sender;
        who = who;
        what = what;
      }

      abbrev heard : WhatSaid → LieSaid
      heard what = line (between lie.from lie.to) what

      module _ (says : Say) where
        abbrev Leads : Script → Type 0
        Leads t = t ≡ told (what_said fields says)

        abbrev words : List (List ℕ)
        words = say_words machine lie.sender says

        no_who : (l : LieSaid) (said : Option What) → IfOk (with_lie s l said None) Leads
        no_who l None = tt
        no_who l (Some said) = tt

        -- a name is that of no group
        named_leaves : (name : List ℕ) (said : Option WhatSaid)
            → IfOk (lie_tested s (with_what lie.first lie.last lie.sender (named name) said)) Leads
        named_leaves name None = tt
        named_leaves name (Some said) =
            tested_keeps Leads (lie_tests s (line (named name) said)) _
            (λ passed. no_who (line (named name) said) (what_of fields said))

        module _ (said_leaves : IfOk (lie_tested s
            (with_what lie.first lie.last lie.sender (between lie.from lie.to)
            (what_words words))) Leads) where
          to_leaves : (read : Option ℕ) → IfSome read (λ q. q ≡ lie.to)
              → IfOk (lie_tested s (with_who lie.first lie.last lie.sender
              (option_map (λ q. (between lie.from q, words)) read))) Leads
          to_leaves None is = tt
          to_leaves (Some q) is =
              subst (λ (q : ℕ). IfOk (lie_tested s (with_who lie.first lie.last lie.sender
              (option_map (λ q. (between lie.from q, words)) (Some q)))) Leads) (sym is)
              said_leaves

          from_leaves : (read : Option ℕ) → IfSome read (λ p. p ≡ lie.from)
              → IfOk (lie_tested s (with_who lie.first lie.last lie.sender
              (who_by read (decimal lie.from) (decimal lie.to ∷ words)))) Leads
          from_leaves None is =
              named_leaves (decimal lie.from) (what_words (decimal lie.to ∷ words))
          from_leaves (Some p) is =
              subst (λ (p : ℕ). IfOk (lie_tested s (with_who lie.first lie.last lie.sender
              (who_by (Some p) (decimal lie.from) (decimal lie.to ∷ words)))) Leads) (sym is)
              (to_leaves (number_of (decimal lie.to)) (number_is lie.to))

          who_leaves : IfOk (lie_tested s (with_who lie.first lie.last lie.sender
              (if bytes_eq (decimal lie.from) (codes "all")
              then Some (everyone, decimal lie.to ∷ words)
              else who_by (number_of (decimal lie.from)) (decimal lie.from)
              (decimal lie.to ∷ words)))) Leads
          who_leaves =
              subst (λ (all : Bool). IfOk (lie_tested s (with_who lie.first lie.last lie.sender
              (if all then Some (everyone, decimal lie.to ∷ words)
              else who_by (number_of (decimal lie.from)) (decimal lie.from)
              (decimal lie.to ∷ words)))) Leads) (sym (is_not_all lie.from))
              (from_leaves (number_of (decimal lie.from)) (number_is lie.from))

          numbers_leave : (a b u : Option ℕ) → IfSome a (λ a. a ≡ lie.first)
              → IfSome b (λ b. b ≡ lie.last) → IfSome u (λ u. u ≡ lie.sender)
              → IfOk (lie_tested s (with_numbers a b u
              (decimal lie.from ∷ decimal lie.to ∷ words))) Leads
          numbers_leave None b u p q r = tt
          numbers_leave (Some a) None u p q r = tt
          numbers_leave (Some a) (Some b) None p q r = tt
          numbers_leave (Some a) (Some b) (Some u) p q r = rw (p, q, r) who_leaves

          all_leave : IfOk (lie_tested s (with_numbers (number_of (decimal lie.first))
              (number_of (decimal lie.last)) (number_of (decimal lie.sender))
              (decimal lie.from ∷ decimal lie.to ∷ words))) Leads
          all_leave =
              numbers_leave (number_of (decimal lie.first)) (number_of (decimal lie.last))
              (number_of (decimal lie.sender)) (number_is lie.first) (number_is lie.last)
              (number_is lie.sender)

      copy_leaves : (node : ℕ) (read : Option ℕ) → IfSome read (λ w. w ≡ node)
          → IfOk (lie_tested s (with_what lie.first lie.last lie.sender (between lie.from lie.to)
          (option_map copy read))) (λ t. t ≡ told (what.Copy node))
      copy_leaves node None is = tt
      copy_leaves node (Some w) is =
          tested_keeps (λ t. t ≡ told (what.Copy node)) (lie_tests s (heard (copy w))) _
          (λ passed. ap (λ (w : ℕ). told (what.Copy w)) is)

      shift_leaves : (by : ℕ) (read : Option ℕ) → IfSome read (λ d. d ≡ by)
          → IfOk (lie_tested s (with_what lie.first lie.last lie.sender (between lie.from lie.to)
          (option_map shift read))) (λ t. t ≡ told (what.Shift by))
      shift_leaves by None is = tt
      shift_leaves by (Some d) is =
          tested_keeps (λ t. t ≡ told (what.Shift by)) (lie_tests s (heard (shift d))) _
          (λ passed. ap (λ (d : ℕ). told (what.Shift d)) is)

      drawn_leaves : (seed : ℕ)
          → IfOk (lie_tested s (with_what lie.first lie.last lie.sender (between lie.from lie.to)
          (Some (digits (node_digits machine lie.sender seed)))))
          (λ t. t ≡ told (what.State (drawn_state fields seed)))
      drawn_leaves seed =
          let word = node_digits machine lie.sender seed in
          let goal : Script → Type 0 = λ t. t ≡ told (what.State (drawn_state fields seed)) in
          tested_keeps goal (lie_tests s (heard (digits word))) _ (λ passed.
          let lt = sender_below (shape_nodes shape) (faulty_sets s) (heard (digits word))
          (not-false _ passed.1.0) in
          subst (λ (state : Option State). IfOk (with_lie s (heard (digits word))
          (option_map what.State state) (Some (who.Ids lie.from lie.to))) goal)
          (sym (state_is machine shape shaped lie.sender seed lt)) refl)

      says_leave : (says : Say)
          → IfOk (lie_tested s (with_what lie.first lie.last lie.sender (between lie.from lie.to)
          (what_words (say_words machine lie.sender says))))
          (λ t. t ≡ told (what_said fields says))
      says_leave say.Noise =
          tested_keeps (λ t. t ≡ told what.Noise) (lie_tests s (heard noise)) _ (λ passed. refl)
      says_leave (say.Copy node) = copy_leaves node (number_of (decimal node)) (number_is node)
      says_leave (say.Drawn seed) = drawn_leaves seed
      says_leave (say.Shift by) = shift_leaves by (number_of (decimal by)) (number_is by)

      pub lie_leaves : IfOk (lie_step s (told_words machine lie lie.says))
          (λ t. t ≡ with_lies (lies ++ lie_said shape lie ∷ []))
      lie_leaves = all_leave lie.says (says_leave lie.says)
