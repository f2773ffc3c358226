-- The lines of configurations in which the correct nodes count, by what they show.
use Rattle.std.proofs.Common.{◌≡◌, ℕ, ◌+◌, ◌-◌, ◌%◌, ◌<◌, ◌≤◌, Bool, true, false, cond, List, []}
use Rattle.std.proofs.Common.{◌∷◌, ◌++◌, decimal, refl, sym, ap, ap₂, ◌∙◌, subst, arith}
use Rattle.std.specs.Prelude.{codes, max, min}
use Rattle.std.specs.List.{concat, flat_map, range_with_len}
use Rattle.std.proofs.Math.Nat.{mod-add-mod}
use Rattle.sync_types.specs.FaultSets.{FaultIds}
use Rattle.sync_types.specs.States.{State}
use Rattle.construction.specs.Plans.{Plan, plan_nodes, plan_modulus}
use Rattle.construction.specs.Runs.{is_in, AllShow}
use Rattle.counter_core.specs.NoLayers.{no_layer}
use Rattle.adversary_script.specs.Scripts.{Script, IsScript}
use Rattle.adversary_script.specs.Eras.{era_of, end_of_era, faulty_of_era, faulty_at}
use Rattle.round_runner.specs.Known.{CountsOn}
use Rattle.machine_runner.proofs.Firsts.{in_era, era_from, era_within}
use Rattle.run_lines.specs.RunTexts.{word_or_star, words_of_nodes}
use Rattle.run_lines.specs.PlayedTexts.{line_of, scene_in, configuration_in, lines_between}
use Rattle.run_lines.specs.OutputTexts.{word_of_shown, output_wording, counted_line}
use Rattle.run_lines.proofs.Ranges.{same_texts, rest_in_place}

-- a word or a star, if the words are one
either : (b : Bool) (star x y : List ℕ) → (b ≡ false → x ≡ y) → cond b star x ≡ cond b star y
either true star x y same = refl
either false star x y same = same refl

-- what is said of an output is said of what each correct node shows
pub counted_words : (word : ℕ → ℕ → List ℕ) (plan : Plan) (faulty : List ℕ) (config : List State)
    (output : ℕ) → AllShow plan faulty config output
    → words_of_nodes plan (word_of_shown word plan config) faulty
    ≡ flat_map (word_or_star (word output) faulty) (range_with_len 0 (plan_nodes plan))
counted_words word plan faulty config output shows =
    same_texts (word_or_star (word_of_shown word plan config) faulty)
    (word_or_star (word output) faulty) (plan_nodes plan) 0
    (λ v lo hi. either (is_in faulty v) (codes " *") (word_of_shown word plan config v)
    (word output v) (λ correct. ap (λ (o : ℕ). word o v)
    (shows v (omega (arith, hi)) correct)))

-- the configurations from that one on and before the end are of its era
abbrev pub AreOfItsEra : Script → (at end : ℕ) → Type 0
AreOfItsEra script at end = (t : ℕ) → at ≤ t → t < end
    → (t < end_of_era script (era_of script at)) × (faulty_at script t ≡ faulty_at script at)

-- so it is if the end is not after that of the era
pub left_of_era : (script : Script) → IsScript script → (at end : ℕ)
    → end ≤ end_of_era script (era_of script at) → AreOfItsEra script at end
left_of_era script whole at end within = λ t lo hi.
    let rising = whole.formed.rising in
    let from = era_from script rising at in
    let same = in_era script rising (era_of script at) t (era_within script at)
    (omega (arith, from, lo)) (omega (arith, hi, within)) in
    (omega (arith, hi, within), ap (faulty_of_era script) same)

module _ (plan : Plan) (script : Script) (began : List (Unit {0})) (label : List ℕ)
    (word : ℕ → ℕ → List ℕ) (at end value : ℕ) (era : AreOfItsEra script at end)
    (counts : CountsOn plan script (configuration_in plan script no_layer began) at value) where
  abbrev faulty : FaultIds
  faulty = record { nodes = plan_nodes plan; ids = faulty_at script at }

  abbrev line : ℕ → List ℕ
  line t = line_of (output_wording label word) plan script t (scene_in plan script no_layer began t)

  line_is : (t output : ℕ) → at ≤ t → t < end
      → output ≡ (value + (t - at)) % plan_modulus plan
      → counted_line label word faulty t output ≡ line t
  line_is t output lo hi is =
      let config : List State = configuration_in plan script no_layer began t in
      let here = era t lo hi in
      let shows : AllShow plan (faulty_at script t) config output =
      subst (AllShow plan (faulty_at script t) config) (sym is) (counts t lo here.0) in
      ap (λ (words : List ℕ). concat ((label ++ decimal t) ∷ words ∷ codes "\n" ∷ []))
      (ap (λ (ids : List ℕ). flat_map (word_or_star (word output) ids)
      (range_with_len 0 (plan_nodes plan))) (sym here.1)
      ∙ sym (counted_words word plan (faulty_at script t) config output shows))

  -- the lines that are shown from there on
  pub counted_rest : (from count output : ℕ)
      → from ≡ max script.first at → count ≡ min (script.last + 1) end - from
      → output ≡ (value + (from - at)) % plan_modulus plan
      → flat_map (λ t. counted_line label word faulty t
      ((output + (t - from)) % plan_modulus plan)) (range_with_len from count)
      ≡ lines_between plan script no_layer began (output_wording label word) at end
  counted_rest from count output from_is count_is is =
      let n : ℕ = end - at in
      let all : count ≡ min (at + n) (script.last + 1) - max script.first at =
      omega (arith, from_is, count_is) in
      let rises : (t : ℕ) → from ≤ t → (output + (t - from)) % plan_modulus plan
      ≡ (value + (t - at)) % plan_modulus plan = λ t lo.
      let sum : value + (from - at) + (t - from) ≡ value + (t - at) =
      omega (arith, from_is, lo) in
      ap (λ (o : ℕ). (o + (t - from)) % plan_modulus plan) is
      ∙ (mod-add-mod (value + (from - at)) (plan_modulus plan) (t - from)
      ∙ ap (λ (x : ℕ). x % plan_modulus plan) sum) in
      same_texts (λ t. counted_line label word faulty t
      ((output + (t - from)) % plan_modulus plan)) line count from
      (λ t lo hi. line_is t ((output + (t - from)) % plan_modulus plan)
      (omega (arith, from_is, lo)) (omega (arith, count_is, lo, hi)) (rises t lo))
      ∙ (ap₂ (λ (a m : ℕ). flat_map line (range_with_len a m)) from_is all
      ∙ sym (rest_in_place line script.first script.last n at))
