-- The first lines of a script's text are read: its version, who is faulty, the key, and how nodes
-- start.
use Rattle.std.proofs.Common.{◌≡◌, ℕ, ◌<◌, ◌≤◌, Bool, true, false, List, [], ◌∷◌, ◌++◌, length}
use Rattle.std.proofs.Common.{map, replicate, Option, Some, None, Ok, refl, sym, ap, ◌∙◌}
use Rattle.std.proofs.Common.{arith, ◌⊎◌, inl, inr, All}
use Rattle.std.specs.Prelude.{decimal, codes, if◌then◌else◌}
use Rattle.std.specs.List.Sorted.{IsStrictlyIncreasing}
use Rattle.std.specs.Str.{bytes_eq}
use Rattle.std.proofs.lemmas.Bool.{cases_lt, le-ltb}
use Rattle.std.proofs.lemmas.Slice.Eq.{bytes_eq-Decides}
use Rattle.std.proofs.lemmas.Fmt.{decimal_digit}
use Rattle.hex.specs.Hex.{encode_lower}
use Rattle.texts.proofs.NumberLines.{number_plain, number_short, numbers_plain, all_read}
use Rattle.sync_types.proofs.RisingIds.{count_below}
use Rattle.adversary_script.specs.declared.kinds.Kind.{Kind}
use Rattle.adversary_script.specs.declared.kinds.Kind.TheVariants as kind
use Rattle.adversary_script.specs.declared.lies.CommonStart.{CommonStart}
use Rattle.adversary_script.specs.declared.lies.CommonStart.TheVariants as common
use Rattle.adversary_script.specs.Kinds.{may_follow}
use Rattle.adversary_script.specs.Scripts.{Script}
use Rattle.adversary_script.specs.FaultySteps.{faulty_tested}
use Rattle.adversary_script.specs.Steps.{head_tested, with_key}
use Rattle.adversary_script.specs.ScriptTexts.{version_line, faulty_line, seed_lines, common_line}
use Rattle.adversary_script.specs.Writable.{IsKey}
use Rattle.adversary_script.proofs.WrittenWords.{ids_small, ids_short, ids_below, ids_rise}
use Rattle.adversary_script.proofs.WrittenWords.{key_long, key_plain, key_read}
use Rattle.adversary_script.proofs.ReadOn.{Lead, IsLineOf, line_counts, lead_then, at}
use Rattle.adversary_script.proofs.ReadOn.{lead_line, GoesTo}

-- after starts and eras there may be further ones, groups, lies, and the rounds
pub record IsStarted (last : Option Kind) : Type 0 where
  pub start : may_follow last kind.StartNode ≡ true
  pub era : may_follow last kind.Era ≡ true
  pub group : may_follow last kind.Group ≡ true
  pub lie : may_follow last kind.Lie ≡ true
  pub rounds : may_follow last kind.Rounds ≡ true

-- ---- the version

version_is : (version : ℕ) → version < 10 → IsLineOf kind.Script (version_line version)
    (decimal version ∷ [])
version_is version few =
    let plain = number_plain version (omega arith) in
    let short = number_short version (omega arith) in
    record {
      plain = (record { some = omega arith; above = refl }, (plain, tt));
      short = omega (arith, short);
      counted = line_counts 115 (codes "cript") (decimal version ∷ []) refl;
      kind = refl;
    }

one_or_two : (version : ℕ) → 1 ≤ version → version ≤ 2 → (version ≡ 1) ⊎ (version ≡ 2)
one_or_two version some few = elim (cases_lt version 2) [
  | inl lt ↦ inl (omega arith)
  | inr le ↦ inr (omega arith)
]

version_step : (s : Script) (version : ℕ) → (version ≡ 1) ⊎ (version ≡ 2)
    → head_tested s (Some (decimal version)) ≡ Ok (record s { version = version })
version_step s version (inl one) = rw (one, decimal_digit 1 (omega arith)) refl
version_step s version (inr two) = rw (two, decimal_digit 2 (omega arith)) refl

module _ (f : ℕ) (s : Script) where
  pub version_leads : (version : ℕ) → 1 ≤ version → version ≤ 2
      → Lead (at f None s) (version_line version ∷ [])
      (at f (Some kind.Script) (record s { version = version }))
  version_leads version some few =
      lead_line f None s (record s { version = version }) kind.Script (version_line version)
      (decimal version ∷ []) (version_is version (omega arith)) refl
      (version_step s version (one_or_two version some few)) refl

  -- ---- who is faulty

  module _ (nodes : s.nodes ≤ 256) (ids : List ℕ) (rising : IsStrictlyIncreasing ids)
      (below : All (λ id. id < s.nodes) ids) where
    faulty_is : IsLineOf kind.Faulty (faulty_line ids) (map decimal ids)
    faulty_is =
        let small = ids_small s.nodes nodes ids below in
        let few = count_below s.nodes ids rising below in
        let short = ids_short s.nodes nodes ids below in
        record {
          plain = (record { some = omega arith; above = refl }, numbers_plain ids small);
          short = omega (arith, nodes, few, short);
          counted = line_counts 102 (codes "aulty") (map decimal ids) refl;
          kind = refl;
        }

    faulty_passes : length ids ≤ f → faulty_tested f s (Some ids) ≡ Ok (record s { faulty = ids })
    faulty_passes borne =
        rw (ids_below s.nodes ids below, ids_rise ids rising, le-ltb f (length ids) borne) refl

    pub faulty_leads : length ids ≤ f
        → Lead (at f (Some kind.Script) s) (faulty_line ids ∷ [])
        (at f (Some kind.Faulty) (record s { faulty = ids }))
    faulty_leads borne =
        lead_line f (Some kind.Script) s (record s { faulty = ids }) kind.Faulty (faulty_line ids)
        (map decimal ids) faulty_is refl
        (ap (faulty_tested f s) (all_read ids (ids_small s.nodes nodes ids below))
        ∙ faulty_passes borne) refl

  -- ---- the key, and how nodes start

  seed_is : (key : List ℕ) → IsKey key
      → IsLineOf kind.Seed (codes "seed" ∷ encode_lower key ∷ []) (encode_lower key ∷ [])
  seed_is key is = record {
    plain = (record { some = omega arith; above = refl }, (key_plain key is, tt));
    short = omega (arith, key_long key is);
    counted = line_counts 115 (codes "eed") (encode_lower key ∷ []) refl;
    kind = refl;
  }

  common_leads : (last : Option Kind) (start : CommonStart)
      → may_follow last kind.StartZero ≡ true → may_follow last kind.StartNoise ≡ true
      → GoesTo f IsStarted (at f last s) (common_line start ∷ []) (record s { common = start })
  common_leads last common.Zero zero noise = record {
    last = Some kind.StartZero;
    so = record { start = refl; era = refl; group = refl; lie = refl; rounds = refl };
    lead = lead_line f last s (record s { common = common.Zero }) kind.StartZero
        (common_line common.Zero) []
        (record {
          plain = (
            record { some = omega arith; above = refl },
            (record { some = omega arith; above = refl }, tt),
          );
          short = omega arith;
          counted = refl;
          kind = refl;
        })
        zero refl refl;
  }
  common_leads last common.Noise zero noise = record {
    last = Some kind.StartNoise;
    so = record { start = refl; era = refl; group = refl; lie = refl; rounds = refl };
    lead = lead_line f last s (record s { common = common.Noise }) kind.StartNoise
        (common_line common.Noise) []
        (record {
          plain = (
            record { some = omega arith; above = refl },
            (record { some = omega arith; above = refl }, tt),
          );
          short = omega arith;
          counted = refl;
          kind = refl;
        })
        noise refl refl;
  }

-- the line of the key, if there is one, and the one after it
module _ (f : ℕ) (s : Script) (zeros : s.key ≡ replicate 32 0) (key : List ℕ) (is : IsKey key)
    (start : CommonStart) where
  abbrev keyed : Script
  keyed = record s { key = key }

  abbrev last_state : Script
  last_state = record s { key = key; common = start }

  key_leads : Lead (at f (Some kind.Faulty) s) ((codes "seed" ∷ encode_lower key ∷ []) ∷ [])
      (at f (Some kind.Seed) keyed)
  key_leads = lead_line f (Some kind.Faulty) s keyed kind.Seed
      (codes "seed" ∷ encode_lower key ∷ []) (encode_lower key ∷ []) (seed_is f s key is) refl
      (ap (with_key s) (key_read key is)) refl

  by_key : (zero : Bool) → bytes_eq key (replicate 32 0) ≡ zero
      → GoesTo f IsStarted (at f (Some kind.Faulty) s)
      ((if zero then [] else (codes "seed" ∷ encode_lower key ∷ []) ∷ []) ++ common_line start ∷ [])
      last_state
  by_key true same =
      let is_zeros = (bytes_eq-Decides key (replicate 32 0)).0 same in
      let old : s ≡ keyed = ap (λ k. record s { key = k }) (zeros ∙ sym is_zeros) in
      rw old (common_leads f keyed (Some kind.Faulty) start refl refl)
  by_key false other =
      let onward = common_leads f keyed (Some kind.Seed) start refl refl in
      record {
        last = onward.last;
        so = onward.so;
        lead =
            lead_then (at f (Some kind.Faulty) s) (at f (Some kind.Seed) keyed)
            (at f onward.last last_state) ((codes "seed" ∷ encode_lower key ∷ []) ∷ [])
            (common_line start ∷ []) key_leads onward.lead;
      }

  pub seed_leads : GoesTo f IsStarted (at f (Some kind.Faulty) s)
      (seed_lines key ++ common_line start ∷ []) last_state
  seed_leads = by_key (bytes_eq key (replicate 32 0)) refl
