-- The text of an attack is read as the attack's script, or as none.
use Rattle.std.proofs.Common.{◌≡◌, ℕ, List, [], ◌∷◌, ◌++◌, map}
use Rattle.std.proofs.Common.{Option, Some, None, refl, sym, subst, ◌∙◌, append_assoc}
use Rattle.std.specs.Prelude.{IfOk, decimal, codes}
use Rattle.std.specs.List.{flat_map, AllByRecursion}
use Rattle.std.proofs.lemmas.List.{append-nil}
use Rattle.texts.specs.Lines.{lines_of}
use Rattle.texts.specs.Numbers.{number_of}
use Rattle.texts.specs.Shapes.{all_numbers}
use Rattle.texts.specs.Words.{joined}
use Rattle.texts.proofs.LineWords.{IsWord, is_solid}
use Rattle.state_codec.specs.Shapes.{Shape, shape_nodes}
use Rattle.machines.specs.Machines.{Machine}
use Rattle.machine_runner.specs.Laws.{IsShapeOf}
use Rattle.adversary_script.specs.declared.kinds.Kind.{Kind}
use Rattle.adversary_script.specs.declared.kinds.Kind.TheVariants as kind
use Rattle.adversary_script.specs.declared.lies.Lie.{Lie}
use Rattle.adversary_script.specs.declared.lies.Start.{Start}
use Rattle.adversary_script.specs.Scripts.{Script, empty_script}
use Rattle.adversary_script.specs.ScriptPart.{part_for, script_for}
use Rattle.adversary_script.specs.Steps.{key_of_digits}
use Rattle.adversary_script.proofs.ReadOn.{line_counts, at}
use Rattle.attack.specs.declared.candidates.Say.{Say}
use Rattle.attack.specs.declared.candidates.Say.TheVariants as say
use Rattle.attack.specs.declared.candidates.StartLine.{StartLine}
use Rattle.attack.specs.declared.candidates.LieLine.{LieLine}
use Rattle.attack.specs.Attacks.{Attack}
use Rattle.attack.specs.AttackTexts.{key_text, start_text, lie_text, rounds_text}
use Rattle.attack.specs.AttackTexts.{attack_text}
use Rattle.attack.specs.AttackScripts.{key_bytes, start_said, lie_said}
use Rattle.attack.specs.AttackScripts.{attack_script}
use Rattle.attack.specs.Tried.{script_in}
use Rattle.attack.proofs.AnyNumbers.{number_is, numbers_are, number_solid}
use Rattle.attack.proofs.AnyNumbers.{numbers_solid}
use Rattle.attack.proofs.AttackWords.{head_lines, last_lines, start_words, start_is_line, say_words}
use Rattle.attack.proofs.AttackWords.{told_words, lie_is_line, node_solid, key_is}
use Rattle.attack.proofs.AttackWords.{key_solid}
use Rattle.attack.proofs.LinesLeave as leave
use Rattle.attack.proofs.SaysLines.{Says, step_says, end_says, alone_is}

-- ---- words of lines

script_solid : AllByRecursion IsWord (codes "script" ∷ codes "1" ∷ [])
unfolding is_solid
script_solid = (refl, (refl, tt))

faulty_solid : (ids : List ℕ) → AllByRecursion IsWord (codes "faulty" ∷ map decimal ids)
unfolding is_solid
faulty_solid ids = (refl, numbers_solid ids)

seed_solid : (key : ℕ) → AllByRecursion IsWord (codes "seed" ∷ key_text key ∷ [])
unfolding is_solid
seed_solid key = (refl, (key_solid key, tt))

noise_solid : AllByRecursion IsWord (codes "start" ∷ codes "noise" ∷ [])
unfolding is_solid
noise_solid = (refl, (refl, tt))

rounds_solid : (rounds : ℕ) → AllByRecursion IsWord (codes "rounds" ∷ decimal rounds ∷ [])
unfolding is_solid
rounds_solid rounds = (refl, (number_solid rounds, tt))

show_solid : (first last : ℕ)
    → AllByRecursion IsWord (codes "show" ∷ decimal first ∷ decimal last ∷ [])
unfolding is_solid
show_solid first last = (refl, (number_solid first, (number_solid last, tt)))

module _ (machine : Machine) where
  start_solid : (start : StartLine)
      → AllByRecursion IsWord (codes "start" ∷ codes "node" ∷ start_words machine start)
  unfolding is_solid
  start_solid start =
      (refl, (refl, (number_solid start.node, (node_solid machine start.node start.seed, tt))))

  say_solid : (sender : ℕ) (says : Say) → AllByRecursion IsWord (say_words machine sender says)
  unfolding is_solid
  say_solid sender say.Noise = (refl, tt)
  say_solid sender (say.Copy node) = (refl, (number_solid node, tt))
  say_solid sender (say.Drawn seed) = (refl, (node_solid machine sender seed, tt))
  say_solid sender (say.Shift by) = (refl, (number_solid by, tt))

  lie_solid : (lie : LieLine)
      → AllByRecursion IsWord (codes "lie" ∷ told_words machine lie lie.says)
  unfolding is_solid
  lie_solid lie = (
    refl,
    (
      number_solid lie.first,
      (
        number_solid lie.last,
        (
          number_solid lie.sender,
          (
            refl,
            (number_solid lie.from, (number_solid lie.to, say_solid lie.sender lie.says)),
          ),
        ),
      ),
    ),
  )

-- ---- the lines that may be many

module _ (machine : Machine) (shape : Shape) (shaped : IsShapeOf machine shape) (faulty : List ℕ)
    (key : List ℕ) (f : ℕ) (script : Script) where
  abbrev with_starts : List Start → Script
  with_starts starts = leave.with_starts machine shape shaped faulty key starts

  abbrev with_lies : List Start → List Lie → Script
  with_lies starts lies = leave.with_lies machine shape shaped faulty key starts lies

  starts_say : (starts : List Start) (more : List StartLine) (last : Option Kind)
      (rest : List ℕ)
      → ((next : Option Kind)
      → Says f script (at f next (with_starts (starts ++ map (start_said shape) more))) rest)
      → Says f script (at f last (with_starts starts)) (flat_map (start_text machine) more ++ rest)
  starts_say starts [] last rest says =
      subst (λ (starts : List Start). Says f script (at f last (with_starts starts)) rest)
      (append-nil starts) (says last)
  starts_say starts (start ∷ more) last rest says =
      let own = start_said shape start in
      let same : (starts ++ own ∷ []) ++ map (start_said shape) more
      ≡ starts ++ own ∷ map (start_said shape) more =
      append_assoc starts (own ∷ []) (map (start_said shape) more) in
      let words = start_words machine start in
      let behind = flat_map (start_text machine) more ++ rest in
      let text : flat_map (start_text machine) (start ∷ more) ++ rest
      ≡ joined (codes "start" ∷ codes "node" ∷ words) ++ 10 ∷ behind =
      append_assoc (start_text machine start) (flat_map (start_text machine) more) rest
      ∙ start_is_line machine start behind in
      subst (Says f script (at f last (with_starts starts))) (sym text)
      (step_says f script last (with_starts starts) (with_starts (starts ++ own ∷ []))
      kind.StartNode (codes "start") (codes "node" ∷ words) words behind
      (start_solid machine start) (line_counts 115 (codes "tart") (codes "node" ∷ words) refl)
      refl
      (leave.start_leaves machine shape shaped faulty key starts start
      (number_of (decimal start.node)) (number_is start.node))
      (λ u. refl)
      (starts_say (starts ++ own ∷ []) more (Some kind.StartNode) rest
      (λ next. subst (λ (starts : List Start). Says f script (at f next (with_starts starts)) rest)
      (sym same) (says next))))

  lies_say : (starts : List Start) (lies : List Lie) (more : List LieLine) (last : Option Kind)
      (rest : List ℕ)
      → ((next : Option Kind)
      → Says f script (at f next (with_lies starts (lies ++ map (lie_said shape) more))) rest)
      → Says f script (at f last (with_lies starts lies))
      (flat_map (lie_text machine) more ++ rest)
  lies_say starts lies [] last rest says =
      subst (λ (lies : List Lie). Says f script (at f last (with_lies starts lies)) rest)
      (append-nil lies) (says last)
  lies_say starts lies (lie ∷ more) last rest says =
      let own = lie_said shape lie in
      let same : (lies ++ own ∷ []) ++ map (lie_said shape) more
      ≡ lies ++ own ∷ map (lie_said shape) more =
      append_assoc lies (own ∷ []) (map (lie_said shape) more) in
      let words = told_words machine lie lie.says in
      let behind = flat_map (lie_text machine) more ++ rest in
      let text : flat_map (lie_text machine) (lie ∷ more) ++ rest
      ≡ joined (codes "lie" ∷ words) ++ 10 ∷ behind =
      append_assoc (lie_text machine lie) (flat_map (lie_text machine) more) rest
      ∙ lie_is_line machine lie behind in
      subst (Says f script (at f last (with_lies starts lies))) (sym text)
      (step_says f script last (with_lies starts lies) (with_lies starts (lies ++ own ∷ []))
      kind.Lie (codes "lie") words words behind (lie_solid machine lie)
      (line_counts 108 (codes "ie") words refl) refl
      (leave.lie_leaves machine shape shaped faulty key starts lies lie) (λ u. refl)
      (lies_say starts (lies ++ own ∷ []) more (Some kind.Lie) rest
      (λ next. subst (λ (lies : List Lie). Says f script (at f next (with_lies starts lies)) rest)
      (sym same) (says next))))

-- ---- the last lines

last_says : (f : ℕ) (script s : Script) (r a b : ℕ) (last : Option Kind)
    → leave.played s r a b ≡ script → Says f script (at f last s) (rounds_text r a b)
last_says f script s r a b last is =
    subst (Says f script (at f last s)) (sym (last_lines r a b))
    (step_says f script last s (leave.played s r 0 0) kind.Rounds (codes "rounds") (decimal r ∷ [])
    (decimal r ∷ []) (joined (codes "show" ∷ decimal a ∷ decimal b ∷ []) ++ 10 ∷ codes "end\n")
    (rounds_solid r) (line_counts 114 (codes "ounds") (decimal r ∷ []) refl) refl
    (leave.rounds_leave s r (all_numbers (decimal r ∷ [])) (numbers_are (r ∷ []))) (λ u. refl)
    (step_says f script (Some kind.Rounds) (leave.played s r 0 0) (leave.played s r a b) kind.Show
    (codes "show") (decimal a ∷ decimal b ∷ []) (decimal a ∷ decimal b ∷ []) (codes "end\n")
    (show_solid a b) (line_counts 115 (codes "how") (decimal a ∷ decimal b ∷ []) refl) refl
    (leave.show_leaves (leave.played s r 0 0) a b (all_numbers (decimal a ∷ decimal b ∷ []))
    (numbers_are (a ∷ b ∷ []))) (λ u. refl) (end_says f script (leave.played s r a b) is)))

-- ---- all lines

module _ (machine : Machine) (shape : Shape) (shaped : IsShapeOf machine shape) (attack : Attack)
  where
    abbrev f : ℕ
    f = machine.faults

    abbrev script : Script
    script = attack_script shape attack

    abbrev empty : Script
    empty = empty_script (shape_nodes shape) shape

    abbrev chosen : Script
    chosen = record empty { faulty = attack.faulty }

    abbrev keyed : Script
    keyed = record chosen { key = key_bytes attack.key }

    abbrev begun : Script
    begun = leave.noisy machine shape shaped attack.faulty (key_bytes attack.key)

    abbrev own_starts : List Start
    own_starts = map (start_said shape) attack.starts

    abbrev ending : List ℕ
    ending = rounds_text attack.rounds attack.first attack.last

    lines_say : Says f script (at f (Some kind.StartNoise) begun)
        (flat_map (start_text machine) attack.starts
        ++ (flat_map (lie_text machine) attack.lies ++ ending))
    lines_say =
        starts_say machine shape shaped attack.faulty (key_bytes attack.key) f script []
        attack.starts (Some kind.StartNoise)
        (flat_map (lie_text machine) attack.lies ++ ending) (λ next.
        lies_say machine shape shaped attack.faulty (key_bytes attack.key) f script own_starts []
        attack.lies next ending (λ last.
        last_says f script
        (leave.with_lies machine shape shaped attack.faulty (key_bytes attack.key)
        own_starts (map (lie_said shape) attack.lies)) attack.rounds attack.first attack.last last
        refl))

    text_says : Says f script (at f None empty) (attack_text machine attack)
    text_says =
        let key = key_text attack.key in
        let rest = flat_map (start_text machine) attack.starts
        ++ (flat_map (lie_text machine) attack.lies ++ ending) in
        let begins = joined (codes "start" ∷ codes "noise" ∷ []) ++ 10 ∷ rest in
        let seeds = joined (codes "seed" ∷ key ∷ []) ++ 10 ∷ begins in
        let names = map decimal attack.faulty in
        subst (Says f script (at f None empty)) (sym (head_lines attack.faulty key rest))
        (step_says f script None empty empty kind.Script (codes "script") (codes "1" ∷ [])
        (codes "1" ∷ []) (joined (codes "faulty" ∷ names) ++ 10 ∷ seeds) script_solid
        (line_counts 115 (codes "cript") (codes "1" ∷ []) refl) refl refl (λ u. refl)
        (step_says f script (Some kind.Script) empty chosen kind.Faulty (codes "faulty") names names
        seeds (faulty_solid attack.faulty) (line_counts 102 (codes "aulty") names refl) refl
        (leave.faulty_leaves f empty attack.faulty (all_numbers names) (numbers_are attack.faulty))
        (λ u. refl)
        (step_says f script (Some kind.Faulty) chosen keyed kind.Seed (codes "seed") (key ∷ [])
        (key ∷ []) begins (seed_solid attack.key) (line_counts 115 (codes "eed") (key ∷ []) refl)
        refl
        (leave.key_leaves chosen (key_bytes attack.key) (key_of_digits key) (key_is attack.key))
        (λ u. refl)
        (step_says f script (Some kind.Seed) keyed begun kind.StartNoise (codes "start")
        (codes "noise" ∷ []) [] rest noise_solid
        (line_counts 115 (codes "tart") (codes "noise" ∷ []) refl) refl refl (λ u. refl)
        lines_say))))

    pub attack_is_said : (first_line : ℕ)
        → IfOk (script_in machine shape first_line (attack_text machine attack))
        (λ s. s ≡ attack_script shape attack)
    unfolding script_for
    attack_is_said first_line =
        alone_is f script first_line
        (part_for (shape_nodes shape) f shape first_line (lines_of (attack_text machine attack)))
        (text_says 0 first_line)
