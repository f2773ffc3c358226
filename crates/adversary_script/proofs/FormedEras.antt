-- The empty script is well formed, and one with one more era, or one more start in its last era, is
-- as well formed as before.
use Rattle.std.proofs.Common.{◌≡◌, ℕ, ◌-◌, ◌<◌, List, [], ◌∷◌, ◌++◌, length, Option, Some, None}
use Rattle.std.proofs.Common.{refl, sym, subst, arith}
use Rattle.std.specs.Prelude.{All}
use Rattle.std.specs.List.Sorted.{IsStrictlyIncreasing}
use Rattle.std.proofs.lemmas.List.{map-append, length-append, length-set}
use Rattle.std.proofs.lemmas.List.Elements.{All-cons, All-push, All-set}
use Rattle.std.proofs.lemmas.Option.{get_or_from_slice_get, slice_get_within}
use Rattle.state_codec.specs.Shapes.{Shape, fields_at}
use Rattle.state_codec.specs.Ranges.{InRange}
use Rattle.adversary_script.specs.declared.lies.Start.{Start}
use Rattle.adversary_script.specs.Scripts.{Era, Script, empty_script, faulty_sets, AreInRange}
use Rattle.adversary_script.specs.Scripts.{IsFormed}
use Rattle.adversary_script.specs.FaultySteps.{last_era, last_first, with_era}
use Rattle.adversary_script.specs.StartSteps.{started}
use Rattle.adversary_script.proofs.EraLists.{firsts_pushed, same_with_start}

pub empty_formed : (nodes : ℕ) (shape : Shape) → IsFormed (empty_script nodes shape)
empty_formed nodes shape = record {
  ids =
      All-cons (All (λ id. id < nodes)) [] [] (λ k d lt. absurd (omega arith))
      (λ k d lt. absurd (omega arith));
  senders = λ k d lt. absurd (omega arith);
  lies = λ k d lt. absurd (omega arith);
  starts = λ k d lt. absurd (omega arith);
  hits = λ k d lt. absurd (omega arith);
  many = omega arith;
  rising = λ k lt. absurd (omega arith);
  few = omega arith;
  order = omega arith;
  shown = omega arith;
}

module _ (s : Script) (f : IsFormed s) where
  -- a property of all faulty sets, with one more
  pub sets_pushed : (P : List ℕ → Type 0) (era : Era) → All P (faulty_sets s) → P era.faulty
      → All P (faulty_sets (record s { eras = s.eras ++ era ∷ [] }))
  sets_pushed P era all here =
      subst (λ xs. All P (s.faulty ∷ xs))
      (sym (map-append (λ (era : Era). era.faulty) s.eras (era ∷ [])))
      (All-push P (faulty_sets s) era.faulty all here)

  pub era_formed : (first : ℕ) (ids : List ℕ) → length s.eras < 16 → last_first s < first
      → All (λ id. id < s.nodes) ids → IsFormed (with_era s first ids)
  era_formed first ids room above below =
      let era : Era = record { first = first; faulty = ids; starts = [] } in
      record {
        ids = sets_pushed (All (λ id. id < s.nodes)) era f.ids below;
        senders = f.senders;
        lies = f.lies;
        starts = f.starts;
        hits =
            All-push (λ (era : Era). AreInRange s.shape era.starts) s.eras era f.hits
            (λ k d lt. absurd (omega arith));
        many = rw (length-append s.eras (era ∷ [])) (omega arith);
        rising = firsts_pushed s.eras era f.rising above;
        few = f.few;
        order = f.order;
        shown = f.shown;
      }

  -- a property of all faulty sets, with one more start
  pub sets_started : (P : List ℕ → Type 0) (era : Era) (start : Start) → last_era s.eras ≡ Some era
      → All P (faulty_sets s) → All P (faulty_sets (started s (Some era) start))
  sets_started P era start last all =
      subst (λ xs. All P (s.faulty ∷ xs))
      (sym (same_with_start (λ (era : Era). era.faulty) s.eras era
      (record era { starts = era.starts ++ start ∷ [] }) last refl)) all

  pub start_formed : (found : Option Era) (start : Start) → last_era s.eras ≡ found
      → InRange (fields_at s.shape start.node) start.state → IsFormed (started s found start)
  start_formed None start last range = record {
    ids = f.ids;
    senders = f.senders;
    lies = f.lies;
    starts =
        All-push (λ (start : Start). InRange (fields_at s.shape start.node) start.state) s.starts
        start f.starts range;
    hits = f.hits;
    many = f.many;
    rising = f.rising;
    few = f.few;
    order = f.order;
    shown = f.shown;
  }
  start_formed (Some era) start last range =
      let new : Era = record era { starts = era.starts ++ start ∷ [] } in
      let same = same_with_start (λ (era : Era). era.first) s.eras era new last refl in
      let inside : length s.eras - 1 < length s.eras =
      slice_get_within s.eras (length s.eras - 1) era last in
      let old : AreInRange s.shape era.starts =
      rw (get_or_from_slice_get s.eras (length s.eras - 1) era era last) at
      (f.hits (length s.eras - 1) era inside) in
      record {
        ids = sets_started (All (λ id. id < s.nodes)) era start last f.ids;
        senders = f.senders;
        lies = f.lies;
        starts = f.starts;
        hits =
            All-set (λ (era : Era). AreInRange s.shape era.starts) s.eras (length s.eras - 1) new
            (All-push (λ (start : Start). InRange (fields_at s.shape start.node) start.state)
            era.starts start old range) f.hits;
        many = rw (length-set s.eras (length s.eras - 1) new) f.many;
        rising = subst (λ xs. IsStrictlyIncreasing (0 ∷ xs)) (sym same) f.rising;
        few = f.few;
        order = f.order;
        shown = f.shown;
      }
