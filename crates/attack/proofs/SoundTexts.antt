-- The text of an attack is read as its script if no line of it is refused.
use Rattle.std.proofs.Common.{◌≡◌, ℕ, ◌^◌, ◌<◌, ◌≤◌, false, List, [], ◌∷◌, ◌++◌, length, map}
use Rattle.std.proofs.Common.{Option, Some, None, Ok, refl, sym, ap, ◌∙◌, append_assoc, arith, nat_lt}
use Rattle.std.specs.Prelude.{decimal, codes, true}
use Rattle.std.specs.List.{flat_map, AllByRecursion}
use Rattle.std.proofs.lemmas.Bool.{le-ltb}
use Rattle.std.proofs.lemmas.List.{append-nil, length-map}
use Rattle.std.proofs.lemmas.List.Elements.{All-nil, All-from_recursion}
use Rattle.texts.specs.Lines.{lines_of}
use Rattle.texts.specs.Words.{joined, text_of}
use Rattle.texts.proofs.NumberLines.{number_plain, number_short, number_read}
use Rattle.sync_types.specs.FaultSets.{is_in}
use Rattle.state_codec.specs.Shapes.{Shape, IsFields, shape_nodes, fields_at, bytes_in}
use Rattle.state_codec.proofs.Lows.{fields_limited}
use Rattle.state_codec.proofs.Ranged.{read_is_in_range}
use Rattle.machines.specs.Machines.{Machine}
use Rattle.machine_runner.specs.Laws.{IsShapeOf}
use Rattle.adversary_script.specs.declared.kinds.Kind.{Kind}
use Rattle.adversary_script.specs.declared.kinds.Kind.TheVariants as kind
use Rattle.adversary_script.specs.declared.lies.CommonStart.TheVariants as common
use Rattle.adversary_script.specs.declared.lies.Lie.{Lie}
use Rattle.adversary_script.specs.Scripts.{Script, IsLying, empty_script, most_rounds}
use Rattle.adversary_script.specs.FaultySteps.{last_first}
use Rattle.adversary_script.specs.ScriptPart.{IsTolerated, part_for, alone, script_for}
use Rattle.adversary_script.specs.ScriptTexts.{faulty_line, common_line, saying, lie_line}
use Rattle.adversary_script.specs.ScriptTexts.{rounds_line, show_line, end_line}
use Rattle.adversary_script.specs.Steps.{with_key, rounds_tested, show_tested}
use Rattle.adversary_script.specs.Writable.{FitsLines, IsGroup, AreGroups, IsSayable}
use Rattle.adversary_script.proofs.ReadOn.{Lines, End, IsLineOf, line_counts, lead_end, lead_line}
use Rattle.adversary_script.proofs.ReadOn.{at, end_here, goes_end}
use Rattle.adversary_script.proofs.WrittenHead.{faulty_leads}
use Rattle.adversary_script.proofs.WrittenLies.{IsLied, IsTold, lies_lead}
use Rattle.attack.specs.declared.candidates.Say.{Say}
use Rattle.attack.specs.declared.candidates.Say.TheVariants as say
use Rattle.attack.specs.declared.candidates.StartLine.{StartLine}
use Rattle.attack.specs.declared.candidates.LieLine.{LieLine}
use Rattle.attack.specs.Attacks.{Attack}
use Rattle.attack.specs.AttackTexts.{drawn_bytes, key_text, lie_text, rounds_text, attack_text}
use Rattle.attack.specs.AttackScripts.{key_bytes, what_said, lie_said, attack_script}
use Rattle.attack.specs.Tried.{script_in}
use Rattle.attack.proofs.AttackWords.{head_lines, last_lines, say_words, lie_is_line}
use Rattle.attack.proofs.AttackWords.{digits_are, key_is, key_text_plain, key_text_long}
use Rattle.attack.proofs.DrawnLies.{IsSaidOf, IsDrawnLie}

-- a lie of a faulty node, in order
pub record IsToldBy (n : ℕ) (ids : List ℕ) (lie : LieLine) : Type 0 where
  pub inside : lie.sender < n
  pub faulty : is_in ids lie.sender ≡ true
  pub drawn : IsDrawnLie n lie.sender lie

-- no line of such an attack is refused
pub record IsSoundAttack (n f : ℕ) (attack : Attack) : Type 0 where
  pub borne : IsTolerated n f attack.faulty
  pub starts : attack.starts ≡ []
  pub many : length attack.lies ≤ 256
  pub lies : AllByRecursion (IsToldBy n attack.faulty) attack.lies
  pub rounds : attack.rounds ≤ most_rounds
  pub order : attack.first ≤ attack.last
  pub shown : attack.last ≤ attack.rounds

-- a line with its newline before more
abbrev ended_by : (line rest : List ℕ) → List ℕ
ended_by line rest = (line ++ 10 ∷ []) ++ rest

-- ---- the last lines

rounds_pass : (s : Script) (r : ℕ) → nat_lt most_rounds r ≡ false → nat_lt r (last_first s) ≡ false
    → rounds_tested s (Some (r ∷ [])) ≡ Ok (record s { rounds = r; first = 0; last = 0 })
rounds_pass s r few reach = rw (few, reach) refl

show_passes : (s : Script) (a b : ℕ) → nat_lt b a ≡ false → nat_lt s.rounds b ≡ false
    → show_tested s (Some (a ∷ b ∷ [])) ≡ Ok (record s { first = a; last = b })
show_passes s a b order shown = rw (order, shown) refl

module _ (f : ℕ) (s : Script) (r a b : ℕ) (few : r ≤ most_rounds) (reach : last_first s ≤ r)
    (order : a ≤ b) (shown : b ≤ r) where
  abbrev played : Script
  played = record s { rounds = r; first = 0; last = 0 }

  abbrev over : Script
  over = record s { rounds = r; first = a; last = b }

  rounds_is : IsLineOf kind.Rounds (rounds_line r) (decimal r ∷ [])
  rounds_is = record {
    plain = (
      record { some = omega arith; above = refl },
      (number_plain r (omega (arith, few)), tt),
    );
    short = omega (arith, number_short r (omega (arith, few)));
    counted = line_counts 114 (codes "ounds") (decimal r ∷ []) refl;
    kind = refl;
  }

  first_fits : a < 10 ^ 15
  first_fits = omega (arith, few, order, shown)

  last_fits : b < 10 ^ 15
  last_fits = omega (arith, few, shown)

  show_is : IsLineOf kind.Show (show_line a b) (decimal a ∷ decimal b ∷ [])
  show_is = record {
    plain = (
      record { some = omega arith; above = refl },
      (number_plain a first_fits, (number_plain b last_fits, tt)),
    );
    short = omega (arith, number_short a first_fits, number_short b last_fits);
    counted = line_counts 115 (codes "how") (decimal a ∷ decimal b ∷ []) refl;
    kind = refl;
  }

  rounds_step : rounds_tested s (Some (r ∷ [])) ≡ Ok played
  rounds_step = rounds_pass s r (le-ltb most_rounds r few) (le-ltb r (last_first s) reach)

  show_step : show_tested played (Some (a ∷ b ∷ [])) ≡ Ok over
  show_step = show_passes played a b (le-ltb b a order) (le-ltb r b shown)

  last_end : (k : Option Kind) → IsLied k
      → End (at f k s) (rounds_line r ∷ show_line a b ∷ end_line ∷ []) over
  last_end k may =
      let rounds = lead_line f k s played kind.Rounds (rounds_line r) (decimal r ∷ []) rounds_is
      may.rounds (rw (number_read r (omega (arith, few))) rounds_step) refl in
      let shows = lead_line f (Some kind.Rounds) played over kind.Show (show_line a b)
      (decimal a ∷ decimal b ∷ []) show_is refl
      (rw (number_read a first_fits, number_read b last_fits) show_step) refl in
      lead_end (at f k s) (at f (Some kind.Rounds) played) over (rounds_line r ∷ [])
      (show_line a b ∷ end_line ∷ []) rounds
      (lead_end (at f (Some kind.Rounds) played) (at f (Some kind.Show) over) over
      (show_line a b ∷ []) (end_line ∷ []) shows (end_here f over))

-- ---- the attack

module _ (machine : Machine) (shape : Shape) (shaped : IsShapeOf machine shape)
    (fits : FitsLines (shape_nodes shape) shape) (few : shape_nodes shape ≤ 256)
    (attack : Attack) (sound : IsSoundAttack (shape_nodes shape) machine.faults attack) where
  abbrev n : ℕ
  n = shape_nodes shape

  abbrev f : ℕ
  f = machine.faults

  abbrev empty : Script
  empty = empty_script n shape

  abbrev chosen : Script
  chosen = record empty { faulty = attack.faulty }

  abbrev keyed : Script
  keyed = record chosen { key = key_bytes attack.key }

  abbrev begun : Script
  begun = record keyed { common = common.Noise }

  abbrev said : List Lie
  said = map (lie_said shape) attack.lies

  abbrev told : Script
  told = record begun { lies = said }

  limited : (v : ℕ) → IsFields (fields_at shape v)
  limited v = fields_limited shape v shaped.sound

  no_groups : AreGroups n []
  no_groups = record {
    many = omega arith;
    each = All-nil (IsGroup n);
    apart = λ i j lt. absurd (omega arith);
  }

  -- ---- lies

  lying : (sender : ℕ) (says : Say) → IsSaidOf n says
      → IsLying n (fields_at shape sender) (what_said (fields_at shape sender) says)
  lying sender say.Noise is = tt
  lying sender (say.Copy node) is = is
  lying sender (say.Drawn seed) is =
      read_is_in_range (fields_at shape sender)
      (drawn_bytes seed (bytes_in (fields_at shape sender))) (limited sender)
  lying sender (say.Shift by) is = tt

  sayable : (sender : ℕ) (says : Say) → IsSaidOf n says
      → IsSayable (what_said (fields_at shape sender) says)
  sayable sender say.Noise is = tt
  sayable sender (say.Copy node) is = tt
  sayable sender (say.Drawn seed) is = tt
  sayable sender (say.Shift by) is = is

  lie_told : (lie : LieLine) → IsToldBy n attack.faulty lie
      → IsTold f begun few no_groups fits limited (lie_said shape lie)
  lie_told lie is =
      let drawn = is.drawn in
      let most = drawn.most in
      record {
        sender = is.inside;
        lying = lying lie.sender lie.says drawn.says;
        is = record {
          faulty = rw is.faulty refl;
          order = drawn.rounds;
          last = omega (arith, most);
          who = (drawn.hearers, drawn.below);
          what = sayable lie.sender lie.says drawn.says;
        };
      }

  lies_told : (lies : List LieLine) → AllByRecursion (IsToldBy n attack.faulty) lies
      → AllByRecursion (IsTold f begun few no_groups fits limited) (map (lie_said shape) lies)
  lies_told [] all = tt
  lies_told (lie ∷ lies) all = (lie_told lie all.0, lies_told lies all.1)

  -- ---- lines

  abbrev script_words : List (List ℕ)
  script_words = codes "script" ∷ codes "1" ∷ []

  abbrev seed_words : List (List ℕ)
  seed_words = codes "seed" ∷ key_text attack.key ∷ []

  abbrev behind : Lines
  behind =
      map (lie_line [] shape) said
      ++ rounds_line attack.rounds ∷ show_line attack.first attack.last ∷ end_line ∷ []

  abbrev lines : Lines
  lines =
      script_words ∷ faulty_line attack.faulty ∷ seed_words ∷ common_line common.Noise ∷ behind

  script_is : IsLineOf kind.Script script_words (codes "1" ∷ [])
  script_is = record {
    plain = (
      record { some = omega arith; above = refl },
      (record { some = omega arith; above = refl }, tt),
    );
    short = omega arith;
    counted = refl;
    kind = refl;
  }

  noise_is : IsLineOf kind.StartNoise (common_line common.Noise) []
  noise_is = record {
    plain = (
      record { some = omega arith; above = refl },
      (record { some = omega arith; above = refl }, tt),
    );
    short = omega arith;
    counted = refl;
    kind = refl;
  }

  seed_is : IsLineOf kind.Seed seed_words (key_text attack.key ∷ [])
  seed_is = record {
    plain = (record { some = omega arith; above = refl }, (key_text_plain attack.key, tt));
    short = omega (arith, key_text_long attack.key);
    counted = line_counts 115 (codes "eed") (key_text attack.key ∷ []) refl;
    kind = refl;
  }

  lines_end : End (at f None empty) lines (record told {
    rounds = attack.rounds;
    first = attack.first;
    last = attack.last;
  })
  lines_end =
      let script : Script =
      record told { rounds = attack.rounds; first = attack.first; last = attack.last } in
      let borne = sound.borne in
      let many : length said ≤ 256 =
      omega (arith, length-map attack.lies (lie_said shape), sound.many) in
      let start = lead_line f None empty empty kind.Script script_words (codes "1" ∷ []) script_is
      refl refl refl in
      let faulty = faulty_leads f empty few attack.faulty borne.rising borne.ids borne.few in
      let seeds = lead_line f (Some kind.Faulty) chosen keyed kind.Seed seed_words
      (key_text attack.key ∷ []) seed_is refl (ap (with_key chosen) (key_is attack.key)) refl in
      let starts = lead_line f (Some kind.Seed) keyed begun kind.StartNoise
      (common_line common.Noise) [] noise_is refl refl refl in
      lead_end (at f None empty) (at f (Some kind.Script) empty) script (script_words ∷ [])
      (faulty_line attack.faulty ∷ seed_words ∷ common_line common.Noise ∷ behind) start
      (lead_end (at f (Some kind.Script) empty) (at f (Some kind.Faulty) chosen) script
      (faulty_line attack.faulty ∷ []) (seed_words ∷ common_line common.Noise ∷ behind) faulty
      (lead_end (at f (Some kind.Faulty) chosen) (at f (Some kind.Seed) keyed) script
      (seed_words ∷ []) (common_line common.Noise ∷ behind) seeds
      (lead_end (at f (Some kind.Seed) keyed) (at f (Some kind.StartNoise) begun) script
      (common_line common.Noise ∷ []) behind starts
      (goes_end f IsLied (at f (Some kind.StartNoise) begun) told script
      (map (lie_line [] shape) said)
      (rounds_line attack.rounds ∷ show_line attack.first attack.last ∷ end_line ∷ [])
      (lies_lead f begun few no_groups fits limited (Some kind.StartNoise)
      (record { lie = refl; rounds = refl }) [] said many
      (All-from_recursion (IsTold f begun few no_groups fits limited) said
      (lies_told attack.lies sound.lies)))
      (last_end f told attack.rounds attack.first attack.last sound.rounds (omega arith) sound.order
      sound.shown)))))

  -- ---- the text

  say_is : (sender : ℕ) (says : Say) → sender < n → say_words machine sender says
      ≡ saying (fields_at shape sender) (what_said (fields_at shape sender) says)
  say_is sender say.Noise lt = refl
  say_is sender (say.Copy node) lt = refl
  say_is sender (say.Drawn seed) lt =
      ap (λ (word : List ℕ). codes "hex" ∷ word ∷ [])
      (digits_are machine shape shaped sender seed lt)
  say_is sender (say.Shift by) lt = refl

  line_more : (line rest : List ℕ) → line ++ 10 ∷ rest ≡ (line ++ 10 ∷ []) ++ rest
  line_more line rest = sym (append_assoc line (10 ∷ []) rest)

  lies_are : (lies : List LieLine) (more : Lines)
      → AllByRecursion (IsToldBy n attack.faulty) lies
      → flat_map (lie_text machine) lies ++ text_of (map joined more)
      ≡ text_of (map joined (map (lie_line [] shape) (map (lie_said shape) lies) ++ more))
  lies_are [] more all = refl
  lies_are (lie ∷ lies) more all =
      let rest = flat_map (lie_text machine) lies ++ text_of (map joined more) in
      let own = lie_line [] shape (lie_said shape lie) in
      append_assoc (lie_text machine lie) (flat_map (lie_text machine) lies)
      (text_of (map joined more))
      ∙ lie_is_line machine lie rest
      ∙ ap (λ (words : List (List ℕ)).
      joined (codes "lie" ∷ decimal lie.first ∷ decimal lie.last ∷ decimal lie.sender ∷ codes "to"
      ∷ decimal lie.from ∷ decimal lie.to ∷ words) ++ 10 ∷ rest)
      (say_is lie.sender lie.says all.0.inside)
      ∙ line_more (joined own) rest
      ∙ ap (λ (text : List ℕ). (joined own ++ 10 ∷ []) ++ text) (lies_are lies more all.1)

  text_is : attack_text machine attack ≡ text_of (map joined lines)
  text_is =
      let r = attack.rounds in
      let key = key_text attack.key in
      let a = attack.first in
      let b = attack.last in
      let last : Lines = rounds_line r ∷ show_line a b ∷ end_line ∷ [] in
      let rest = flat_map (lie_text machine) attack.lies ++ rounds_text r a b in
      let noise = joined (common_line common.Noise) in
      let ends : rounds_text r a b ≡ text_of (map joined last) =
      last_lines r a b
      ∙ ap (λ (text : List ℕ). joined (rounds_line r) ++ 10 ∷ text)
      (line_more (joined (show_line a b)) (codes "end\n"))
      ∙ line_more (joined (rounds_line r)) (text_of (map joined (show_line a b ∷ end_line ∷ []))) in
      let tail : rest ≡ text_of (map joined behind) =
      ap (λ (text : List ℕ). flat_map (lie_text machine) attack.lies ++ text) ends
      ∙ lies_are attack.lies last sound.lies in
      ap (λ (starts : List StartLine).
      attack_text machine (record attack { starts = starts })) sound.starts
      ∙ head_lines attack.faulty key rest
      ∙ line_more (joined script_words) _
      ∙ ap (λ (text : List ℕ). ended_by (joined script_words) text)
      (line_more (joined (faulty_line attack.faulty)) _
      ∙ ap (λ (text : List ℕ). ended_by (joined (faulty_line attack.faulty)) text)
      (line_more (joined seed_words) _
      ∙ ap (λ (text : List ℕ). ended_by (joined seed_words) text)
      (line_more noise rest ∙ ap (λ (text : List ℕ). ended_by noise text) tail)))

  pub sound_is_read : (first_line : ℕ)
      → script_in machine shape first_line (attack_text machine attack)
      ≡ Ok (attack_script shape attack)
  unfolding script_for
  sound_is_read first_line =
      ap (λ (text : List ℕ). alone first_line (part_for n f shape first_line (lines_of text)))
      (text_is ∙ sym (append-nil (text_of (map joined lines))))
      ∙ ap (alone first_line) (lines_end 0 first_line [])
      ∙ ap (λ (starts : List StartLine).
      Ok (attack_script shape (record attack { starts = starts }))) (sym sound.starts)
