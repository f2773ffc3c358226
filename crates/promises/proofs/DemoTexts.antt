-- The text of the word `demo` is a plan and a script, for every seed.
use Rattle.std.proofs.Common.{◌≡◌, ℕ, zero, suc, ◌/◌, ◌%◌, ◌<◌, ◌≤◌, Bool, true, false, List}
use Rattle.std.proofs.Common.{[], ◌∷◌, ◌++◌, length, Some, None, Result, Ok, Err, codes, refl, sym}
use Rattle.std.proofs.Common.{ap, ◌∙◌, subst, arith}
use Rattle.std.specs.Prelude.{◌==◌, ◌&&◌, if◌then◌else◌, nat_lt, replicate, slice_index}
use Rattle.std.specs.Prelude.{MatchResult}
use Rattle.std.specs.List.{concat, list_all}
use Rattle.std.specs.Fmt.{digits}
use Rattle.std.specs.Int.{w64, to_be_bytes, bytes_high_first}
use Rattle.std.proofs.Math.Nat.{add-mod_right}
use Rattle.std.proofs.lemmas.Bool.{eq-eqb}
use Rattle.std.proofs.lemmas.List.Sums.{AllPass-from_list_all}
use Rattle.hex.specs.Hex.{encode_with, encode_lower, lower_digits, decode_of, IsBytes}
use Rattle.hex.proofs.HexLemmas.{length-encode_with, decode_of-encode_lower}
use Rattle.texts.specs.Lines.{lines_of}
use Rattle.texts.specs.Parts.{At, Found, goes, with_skips, part_from}
use Rattle.texts.proofs.Printed.{joined, IsPlain, ArePlain, spaced_length, words_joined, counts}
use Rattle.texts.proofs.Printed.{goes_behind}
use Rattle.sync_types.specs.declared.answers.Rule.{Rule}
use Rattle.sync_types.specs.declared.answers.Rule.TheVariants.{Form}
use Rattle.sync_types.specs.declared.status.Status.TheVariants as status
use Rattle.state_codec.specs.Texts.{is_lower_digit}
use Rattle.state_codec.specs.Shapes.{shape_of}
use Rattle.adversary_script.specs.declared.kinds.Kind.TheVariants as kind
use Rattle.adversary_script.specs.Kinds.{kind_of}
use Rattle.adversary_script.specs.Scripts.{Script, empty_script}
use Rattle.adversary_script.specs.Steps.{decoded_bytes, key_of_digits, with_key}
use Rattle.adversary_script.specs.ScriptPart.{ScriptSoFar, passed, read_as, script_step, alone}
use Rattle.adversary_script.specs.ScriptPart.{script_for}
use Rattle.outcomes.specs.declared.demo.Liars.{Liars}
use Rattle.outcomes.specs.declared.refusals.Refusal.{Refusal}
use Rattle.outcomes.specs.Outcomes.{outcome_of}
use Rattle.outcomes.specs.declared.commands.Batch.TheVariants as batch
use Rattle.run_lines.specs.RowTexts.{run_text}
use Rattle.outcomes.specs.Inputs.{Scripted, with_script, scripted_of}
use Rattle.outcomes.specs.Answers.{text_by, answer_of}
use Rattle.outcomes.specs.DemoText.{liars_of, key_digits, lie_line, text_with, demo_text}
use Rattle.promises.specs.DemoLaws.{demo_plan, demo_key, IsDemo, DemoIsAccepted, DemoIsAnswered}
use Rattle.promises.specs.DemoLaws.{LiarsAreSpread}

-- ---- the digits of the key

-- bytes of a number are bytes
high_first_below : (k n : ℕ) → IsBytes (bytes_high_first k n)
high_first_below zero n i = omega arith
high_first_below (suc zero) n zero = omega arith
high_first_below (suc (suc k)) n zero = omega arith
high_first_below (suc k) n (suc i) = high_first_below k n i

-- the 32 bytes of the key
key_of : ℕ → List ℕ
key_of seed = demo_key seed

key_below : (seed : ℕ) → IsBytes (key_of seed)
unfolding key_of
key_below seed = behind (to_be_bytes w64 seed) (high_first_below 8 seed) where
  none : (n : ℕ) → IsBytes (replicate n 0)
  none zero i = omega arith
  none (suc n) zero = omega arith
  none (suc n) (suc i) = none n i

  behind : (bytes : List ℕ) → IsBytes bytes → IsBytes (bytes ++ replicate 24 0)
  behind [] h i = none 24 i
  behind (b ∷ bytes) h zero = h 0
  behind (b ∷ bytes) h (suc i) = behind bytes (λ j. h (suc j)) i

encoded_behind : (t xs ys : List ℕ)
    → encode_with t (xs ++ ys) ≡ encode_with t xs ++ encode_with t ys
unfolding encode_with
encoded_behind t [] ys = refl
encoded_behind t (x ∷ xs) ys =
    ap (λ more. slice_index t (x / 16) ∷ slice_index t (x % 16) ∷ more) (encoded_behind t xs ys)

-- they are the digits of the key
key_encoded : (seed : ℕ) → encode_lower (key_of seed) ≡ key_digits seed
unfolding key_of encode_with
key_encoded seed = encoded_behind lower_digits (to_be_bytes w64 seed) (replicate 24 0)

key_long : (seed : ℕ) → length (key_digits seed) ≡ 64
unfolding key_of
key_long seed = rw (← key_encoded seed) (length-encode_with lower_digits (key_of seed))

key_decoded : (seed : ℕ) → decode_of (key_digits seed) ≡ Ok (key_of seed)
key_decoded seed = rw (← key_encoded seed) (decode_of-encode_lower (key_of seed) (key_below seed))

-- what each of the sixteen digits passes, all digits of bytes pass
digit_passes : (p : ℕ → Bool) → list_all p lower_digits ≡ true → (d : ℕ) → d < 16
    → p (slice_index lower_digits d) ≡ true
digit_passes p all d h = AllPass-from_list_all p lower_digits all d 0 h

encoded_pass : (p : ℕ → Bool) → list_all p lower_digits ≡ true → (bytes : List ℕ) → IsBytes bytes
    → list_all p (encode_with lower_digits bytes) ≡ true
unfolding encode_with
encoded_pass p all [] h = refl
encoded_pass p all (b ∷ bytes) h =
    let byte : b < 256 = h 0 in
    let high : b / 16 < 16 = omega arith in
    let low : b % 16 < 16 = omega arith in
    rw (digit_passes p all (b / 16) high, digit_passes p all (b % 16) low)
    (encoded_pass p all bytes (λ i. h (suc i)))

key_passes : (p : ℕ → Bool) → list_all p lower_digits ≡ true → (seed : ℕ)
    → list_all p (key_digits seed) ≡ true
key_passes p all seed =
    rw (← key_encoded seed) (encoded_pass p all (key_of seed) (key_below seed))

key_plain : (seed : ℕ) → IsPlain (key_digits seed)
key_plain seed =
    let long = key_long seed in
    record { some = omega (arith, long); above = key_passes (nat_lt 32) refl seed }

chosen : {X : Type 0} (long lower : Bool) (a b : X) → long ≡ true → lower ≡ true
    → (if long && lower then a else b) ≡ a
chosen long lower a b p q = rw (p, q) refl

-- so the line of the seed has its key
key_known : (seed : ℕ) → key_of_digits (key_digits seed) ≡ Some (key_of seed)
key_known seed =
    chosen (length (key_digits seed) == 64) (list_all is_lower_digit (key_digits seed))
    (decoded_bytes (decode_of (key_digits seed))) None
    (eq-eqb _ _ (key_long seed)) (key_passes is_lower_digit refl seed)
    ∙ ap (λ r. decoded_bytes r) (key_decoded seed)

-- ---- the liars

-- by the seed modulo three
abbrev chosen_by : ℕ → Liars
chosen_by k =
    if k == 0 then record { first = 0; second = 4; third = 8 }
    else if k == 1 then record { first = 0; second = 1; third = 2 }
    else record { first = 3; second = 4; third = 5 }

-- what is so of each of the three choices is so of that of a seed
of_liars : (P : Liars → Type 0)
    → P (record { first = 0; second = 4; third = 8 })
    → P (record { first = 0; second = 1; third = 2 })
    → P (record { first = 3; second = 4; third = 5 })
    → (seed : ℕ) → P (liars_of seed)
of_liars P spread together divided seed = by (seed % 3 == 0) (seed % 3 == 1) where
  by : (zero one : Bool) → P (
      if zero then record { first = 0; second = 4; third = 8 }
      else if one then record { first = 0; second = 1; third = 2 }
      else record { first = 3; second = 4; third = 5 })
  by true one = spread
  by false true = together
  by false false = divided

-- a seed that is greater by three has the same
pub liars_are_spread : LiarsAreSpread
liars_are_spread = record {
  apart = refl;
  together = refl;
  divided = refl;
  again = λ seed. ap (λ k. chosen_by k) (add-mod_right seed 3);
}

-- ---- reading

-- the text after the line of the seed
behind_seed : Liars → List ℕ
behind_seed liars = concat (
    codes "start noise\n"
    ∷ lie_line liars.first ∷ lie_line liars.second ∷ lie_line liars.third
    ∷ codes "rounds 3364\nshow 3360 3364\nend\n" ∷ [])

module _ (word key : List ℕ) (plain : IsPlain word) (long : length word ≡ 64)
    (known : key_of_digits word ≡ Some key) where
  words_plain : ArePlain (codes "seed" ∷ word ∷ [])
  words_plain = (record { some = omega arith; above = refl }, (plain, tt))

  words_short : spaced_length (codes "seed" ∷ word ∷ []) ≤ 4096
  words_short = omega (arith, long)

  -- what was read before the line of the seed
  before : List ℕ → ScriptSoFar
  before ids = record {
    faults = 3;
    last = Some kind.Faulty;
    script = record (empty_script 12 (shape_of demo_plan)) { faulty = ids };
  }

  -- and with it
  after : List ℕ → ScriptSoFar
  after ids = record {
    faults = 3;
    last = Some kind.Seed;
    script = record (empty_script 12 (shape_of demo_plan)) { faulty = ids; key = key };
  }

  seed_step : (ids : List ℕ)
      → script_step (before ids) (joined (codes "seed" ∷ word ∷ [])) ≡ goes (after ids)
  unfolding before after
  seed_step ids =
      ap (λ words. read_as (before ids) (kind_of words))
      (words_joined (codes "seed") (word ∷ []) words_plain)
      ∙ ap (λ k. passed (before ids) kind.Seed (with_key (before ids).script k)) known

  read_from : ScriptSoFar → (taken number : ℕ) → List ℕ → Result (Found Script) (At Rule)
  read_from s taken number text =
      part_from (with_skips script_step Form) Form s taken number (lines_of text)

  seed_read : (ids rest : List ℕ)
      → read_from (before ids) 2 8 (joined (codes "seed" ∷ word ∷ []) ++ 10 ∷ rest)
      ≡ read_from (after ids) 3 9 rest
  unfolding read_from
  seed_read ids rest =
      goes_behind script_step Form (codes "seed") (word ∷ []) rest words_plain words_short
      (counts (joined (codes "seed" ∷ word ∷ [])) (omega arith) refl)
      (before ids) 2 8 (after ids) (seed_step ids)

  IsRead : Liars → Type 0
  IsRead liars =
      MatchResult (scripted_of (text_with liars word)) (IsDemo key liars) (λ refusal. ⊥)

  -- what is read is as meant, if the script's part is
  Meant : Liars → Result (Found Script) (At Rule) → Type 0
  Meant liars part =
      MatchResult (with_script demo_plan (alone 6 part)) (IsDemo key liars) (λ refusal. ⊥)

  spread : IsRead (record { first = 0; second = 4; third = 8 })
  unfolding IsRead Meant read_from before after behind_seed digits script_for
  spread =
      let liars : Liars = record { first = 0; second = 4; third = 8 } in
      subst (Meant liars) (sym (seed_read (0 ∷ 4 ∷ 8 ∷ []) (behind_seed liars)))
      (record {
        plan = refl;
        bound = refl;
        rounds = refl;
        first = refl;
        last = refl;
        faulty = refl;
        key = refl;
        noisy = refl;
        lies = refl;
      })

  together : IsRead (record { first = 0; second = 1; third = 2 })
  unfolding IsRead Meant read_from before after behind_seed digits script_for
  together =
      let liars : Liars = record { first = 0; second = 1; third = 2 } in
      subst (Meant liars) (sym (seed_read (0 ∷ 1 ∷ 2 ∷ []) (behind_seed liars)))
      (record {
        plan = refl;
        bound = refl;
        rounds = refl;
        first = refl;
        last = refl;
        faulty = refl;
        key = refl;
        noisy = refl;
        lies = refl;
      })

  divided : IsRead (record { first = 3; second = 4; third = 5 })
  unfolding IsRead Meant read_from before after behind_seed digits script_for
  divided =
      let liars : Liars = record { first = 3; second = 4; third = 5 } in
      subst (Meant liars) (sym (seed_read (3 ∷ 4 ∷ 5 ∷ []) (behind_seed liars)))
      (record {
        plan = refl;
        bound = refl;
        rounds = refl;
        first = refl;
        last = refl;
        faulty = refl;
        key = refl;
        noisy = refl;
        lies = refl;
      })

-- the text of every seed is a plan and a script
pub demo_is_accepted : DemoIsAccepted
unfolding IsRead key_of
demo_is_accepted seed =
    let word = key_digits seed in
    let key = key_of seed in
    of_liars (IsRead word key (key_plain seed) (key_long seed) (key_known seed))
    (spread word key (key_plain seed) (key_long seed) (key_known seed))
    (together word key (key_plain seed) (key_long seed) (key_known seed))
    (divided word key (key_plain seed) (key_long seed) (key_known seed)) seed

-- ---- the word

answered_by : (key : List ℕ) (liars : Liars) (scripted : Result Scripted Refusal)
    → MatchResult scripted (IsDemo key liars) (λ refusal. ⊥)
    → (outcome_of (text_by (λ (s : Scripted). run_text s.plan s.script) scripted)).status
    ≡ status.Ok
answered_by key liars (Ok scripted) h = refl
answered_by key liars (Err refusal) h = absurd h

-- so its answer is no refusal
pub demo_ends_well : (seed : ℕ)
    → (outcome_of (answer_of batch.Run (demo_text seed))).status ≡ status.Ok
demo_ends_well seed =
    answered_by (demo_key seed) (liars_of seed) (scripted_of (demo_text seed))
    (demo_is_accepted seed)

pub demo_is_answered : DemoIsAnswered
demo_is_answered seed input = demo_ends_well seed
