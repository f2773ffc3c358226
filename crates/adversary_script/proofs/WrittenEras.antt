-- The lines of eras in a script's text are read, each with those of its starts.
use Rattle.std.proofs.Common.{◌≡◌, ℕ, ◌+◌, ◌-◌, ◌<◌, ◌≤◌, true, false}
use Rattle.std.proofs.Common.{List, [], ◌∷◌, ◌++◌, length, map, get_or, Option, Some, Ok}
use Rattle.std.proofs.Common.{refl, sym, ap, subst, ◌∙◌, append_assoc, arith, All, nat_le, nat_lt}
use Rattle.std.specs.Prelude.{decimal, codes, slice_set, ◌==◌, unwrap_or}
use Rattle.std.specs.Option.{option_map}
use Rattle.std.specs.List.{flat_map}
use Rattle.std.specs.List.Sorted.{IsStrictlyIncreasing}
use Rattle.std.proofs.lemmas.Bool.{lt-leb, le-ltb}
use Rattle.std.proofs.lemmas.List.{append-nil, length-append, length_push, get_or_at}
use Rattle.std.proofs.lemmas.List.{set_at}
use Rattle.std.proofs.lemmas.Option.{slice_get-get_or}
use Rattle.texts.proofs.NumberLines.{number_plain, number_short, number_read, numbers_plain}
use Rattle.texts.proofs.NumberLines.{all_read}
use Rattle.state_codec.specs.Shapes.{Shape, IsFields, fields_at, bytes_in}
use Rattle.sync_types.proofs.RisingIds.{count_below}
use Rattle.adversary_script.specs.declared.kinds.Kind.{Kind}
use Rattle.adversary_script.specs.declared.kinds.Kind.TheVariants as kind
use Rattle.adversary_script.specs.declared.lies.Start.{Start}
use Rattle.adversary_script.specs.WordTests.{are_below, is_rising}
use Rattle.adversary_script.specs.Scripts.{Era, Script, AreInRange, most_rounds}
use Rattle.adversary_script.specs.FaultySteps.{era_words, last_era, last_first, with_era}
use Rattle.adversary_script.specs.FaultySteps.{era_tested}
use Rattle.adversary_script.specs.StartSteps.{starts_in, started}
use Rattle.adversary_script.specs.ScriptPart.{IsTolerated}
use Rattle.adversary_script.specs.ScriptTexts.{start_line, era_line, era_lines}
use Rattle.adversary_script.specs.Writable.{AreStarts}
use Rattle.adversary_script.proofs.EraLists.{last_is, tail_rises}
use Rattle.adversary_script.proofs.WrittenWords.{ids_small, ids_short, ids_below, ids_rise}
use Rattle.adversary_script.proofs.ReadOn.{IsLineOf, line_counts, lead_none, lead_line, at, GoesTo}
use Rattle.adversary_script.proofs.ReadOn.{goes_then}
use Rattle.adversary_script.proofs.WrittenHead.{IsStarted}
use Rattle.adversary_script.proofs.WrittenStarts.{at_middle, IsOpen, starts_lead}

-- ---- the last era

last_pushed : (eras : List Era) (era : Era) → last_era (eras ++ era ∷ []) ≡ Some era
last_pushed eras era =
    let long = length_push eras era in
    let place : length eras ≡ length (eras ++ era ∷ []) - 1 = omega (arith, long) in
    slice_get-get_or (eras ++ era ∷ []) (length (eras ++ era ∷ []) - 1) era (omega (arith, long))
    ∙ ap Some (get_or_at eras era [] era (length (eras ++ era ∷ []) - 1) place)

set_last : (eras : List Era) (era new : Era)
    → slice_set (eras ++ era ∷ []) (length (eras ++ era ∷ []) - 1) new ≡ eras ++ new ∷ []
set_last eras era new =
    let long = length_push eras era in
    set_at eras era [] new (length (eras ++ era ∷ []) - 1) (omega (arith, long))

-- a script with these eras, and a last one with these starts
abbrev with_last : Script → List Era → Era → List Start → Script
with_last s eras era starts =
    record s { eras = eras ++ record era { starts = starts } ∷ [] }

open_last : (s : Script) (eras : List Era) (era : Era) (nodes : ℕ) (shape : Shape)
    → s.nodes ≡ nodes → s.shape ≡ shape → IsOpen (with_last s eras era) nodes shape
open_last s eras era nodes shape p q = record {
  nodes = λ xs. p;
  shape = λ xs. q;
  starts = λ xs. ap (starts_in (with_last s eras era xs))
      (last_pushed eras (record era { starts = xs }));
  adds = λ xs x.
      ap (λ (found : Option Era). started (with_last s eras era xs) found x)
      (last_pushed eras (record era { starts = xs }))
      ∙ ap (λ (all : List Era). record s { eras = all })
      (set_last eras (record era { starts = xs }) (record era { starts = xs ++ x ∷ [] }));
}

-- an era passes its tests
era_passes : (f : ℕ) (s : Script) (first : ℕ) (ids : List ℕ) → (s.version == 1) ≡ false
    → nat_le 16 (length s.eras) ≡ false → are_below s.nodes ids ≡ true
    → nat_le first (last_first s) ≡ false → is_rising ids ≡ true → nat_lt f (length ids) ≡ false
    → era_tested f s (Some (first, ids)) ≡ Ok (with_era s first ids)
era_passes f s first ids version room below above rising few =
    rw (version, room, below, above, rising, few) refl

-- an era begins above the last one before it
above_by : (a : ℕ) (done more : List Era) (era : Era)
    → IsStrictlyIncreasing (a ∷ map (λ (era : Era). era.first) (done ++ era ∷ more))
    → get_or (a ∷ map (λ (era : Era). era.first) done) (length done) 0 < era.first
above_by a [] more era rises = rises 0 (omega arith)
above_by a (d ∷ done) more era rises =
    above_by d.first done more era
    (tail_rises a (map (λ (era : Era). era.first) (d ∷ done ++ era ∷ more)) rises)

above_last : (done more : List Era) (era : Era)
    → IsStrictlyIncreasing (0 ∷ map (λ (era : Era). era.first) (done ++ era ∷ more))
    → unwrap_or (option_map (λ (era : Era). era.first) (last_era done)) 0 < era.first
above_last done more era rises =
    subst (λ last. last < era.first) (sym (last_is 0 done)) (above_by 0 done more era rises)

module _ (n f : ℕ) (shape : Shape) (few : n ≤ 256)
    (fits : (v : ℕ) → v < n → (1 ≤ bytes_in (fields_at shape v))
    × (bytes_in (fields_at shape v) ≤ 2000))
    (limited : (v : ℕ) → IsFields (fields_at shape v)) where
  -- what is asked of an era
  pub record IsEra (era : Era) : Type 0 where
    pub borne : IsTolerated n f era.faulty
    pub small : era.first ≤ most_rounds
    pub starts : AreStarts n era.starts
    pub range : AreInRange shape era.starts

  module _ (era : Era) (is : IsEra era) where
    abbrev behind : List (List ℕ)
    behind = decimal era.first ∷ codes "faulty" ∷ map decimal era.faulty

    line_is : IsLineOf kind.Era (era_line era.first era.faulty) behind
    line_is =
        let small = is.small in
        let number = number_short era.first (omega (arith, small)) in
        let many = count_below n era.faulty is.borne.rising is.borne.ids in
        let short = ids_short n few era.faulty is.borne.ids in
        record {
          plain = (
            record { some = omega arith; above = refl },
            (
              number_plain era.first (omega (arith, small)),
              (
                record { some = omega arith; above = refl },
                numbers_plain era.faulty (ids_small n few era.faulty is.borne.ids),
              ),
            ),
          );
          short = omega (arith, few, number, many, short);
          counted = line_counts 101 (codes "ra") behind refl;
          kind = refl;
        }

    words_are : era_words behind ≡ Some (era.first, era.faulty)
    words_are =
        let small = is.small in rw (
          number_read era.first (omega (arith, small)),
          all_read era.faulty (ids_small n few era.faulty is.borne.ids),
        ) refl

    module _ (s : Script) (nodes : s.nodes ≡ n) (same : s.shape ≡ shape) (version : s.version ≡ 2)
        (room : length s.eras < 16) (above : last_first s < era.first) where
      era_step : era_tested f s (era_words behind) ≡ Ok (with_era s era.first era.faulty)
      era_step =
          let below : are_below s.nodes era.faulty ≡ true =
          rw nodes (ids_below n era.faulty is.borne.ids) in
          ap (era_tested f s) words_are
          ∙ era_passes f s era.first era.faulty (ap (λ v. v == 1) version)
          (lt-leb 16 (length s.eras) room) below (lt-leb era.first (last_first s) above)
          (ids_rise era.faulty is.borne.rising) (le-ltb f (length era.faulty) is.borne.few)

      -- the line of an era, and those of its starts
      pub era_leads : (last : Option Kind) → IsStarted last
          → GoesTo f IsStarted (at f last s) (era_lines shape era)
          (record s { eras = s.eras ++ era ∷ [] })
      era_leads last may =
          goes_then f IsStarted IsStarted (at f last s) (with_era s era.first era.faulty)
          (record s { eras = s.eras ++ era ∷ [] }) (era_line era.first era.faulty ∷ [])
          (map (start_line shape) era.starts)
          (record {
            last = Some kind.Era;
            so = record { start = refl; era = refl; group = refl; lie = refl; rounds = refl };
            lead = lead_line f last s (with_era s era.first era.faulty) kind.Era
                (era_line era.first era.faulty) behind line_is may.era era_step refl;
          })
          (λ next so. starts_lead f n shape few fits limited (with_last s s.eras era)
          (open_last s s.eras era n shape nodes same) next so [] era.starts is.starts is.range)

  -- ---- all eras

  module _ (s : Script) (nodes : s.nodes ≡ n) (same : s.shape ≡ shape) where
    abbrev with_eras : List Era → Script
    with_eras eras = record s { eras = eras }

    pub eras_lead : (last : Option Kind) → IsStarted last → (done more : List Era)
        → length (done ++ more) ≤ 16 → (0 < length (done ++ more) → s.version ≡ 2)
        → IsStrictlyIncreasing (0 ∷ map (λ (era : Era). era.first) (done ++ more))
        → All IsEra (done ++ more)
        → GoesTo f IsStarted (at f last (with_eras done)) (flat_map (era_lines shape) more)
        (with_eras (done ++ more))
    eras_lead last may done [] many version rises are = record {
      last = last;
      so = may;
      lead = rw (append-nil done) (lead_none (at f last (with_eras done)));
    }
    eras_lead last may done (era ∷ more) many version rises are =
        let next : (done ++ era ∷ []) ++ more ≡ done ++ era ∷ more =
        append_assoc done (era ∷ []) more in
        let long : length (done ++ era ∷ more) ≡ length done + (length more + 1) =
        length-append done (era ∷ more) ∙ omega arith in
        let two = version (omega (arith, long)) in
        rw (← next) (goes_then f IsStarted IsStarted (at f last (with_eras done))
        (with_eras (done ++ era ∷ [])) (with_eras ((done ++ era ∷ []) ++ more))
        (era_lines shape era) (flat_map (era_lines shape) more)
        (era_leads era (at_middle IsEra done more era are) (with_eras done) nodes same two
        (omega (arith, many, long)) (above_last done more era rises) last may)
        (λ onward so. eras_lead onward so (done ++ era ∷ []) more
        (subst (λ (eras : List Era). length eras ≤ 16) (sym next) many)
        (λ some. two)
        (subst (λ (eras : List Era). IsStrictlyIncreasing (0 ∷ map (λ (era : Era). era.first) eras))
        (sym next) rises)
        (subst (All IsEra) (sym next) are)))
