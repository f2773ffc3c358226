-- The parts of a draft that says nothing, and those after one more era or one more start.
use Rattle.std.proofs.Common.{◌≡◌, ℕ, ◌-◌, ◌<◌, List, [], ◌∷◌, ◌++◌, length, map, get_or, set, Bool}
use Rattle.std.proofs.Common.{true, false, if◌then◌else◌, Option, Some, None, Result, Ok, Err, refl}
use Rattle.std.proofs.Common.{sym, ap, subst, ◌∙◌, arith}
use Rattle.std.specs.Prelude.{All, IfOk, IfSome, is_ok}
use Rattle.std.proofs.lemmas.List.{map-append, map-set, length-map, get_or-map}
use Rattle.std.proofs.lemmas.List.Elements.{All-push}
use Rattle.std.proofs.lemmas.Option.{slice_get-get_or}
use Rattle.std.proofs.Math.Seq.{map-set_same}
use Rattle.sync_types.specs.FaultSets.{FaultIds}
use Rattle.state_codec.specs.Shapes.{Shape, fields_at}
use Rattle.state_codec.specs.Ranges.{InRange}
use Rattle.adversary_script.specs.declared.lies.Start.{Start}
use Rattle.adversary_script.specs.declared.parts.Era as kept
use Rattle.adversary_script.specs.declared.parts.Parts.{Parts}
use Rattle.adversary_script.specs.Scripts.{AreInRange, Era, Script, IsFormed, empty_script}
use Rattle.adversary_script.specs.Seen.{era_seen, script_seen, faulty_or_none, IsOver}
use Rattle.adversary_script.specs.FaultySteps.{last_era, last_first}
use Rattle.adversary_script.specs.StartSteps.{started}
use Rattle.adversary_script.proofs.FormedEras.{empty_formed, era_formed, start_formed}

-- a draft that says nothing keeps what drafts keep
pub nothing_kept : (shape : Shape) (nodes : ℕ) (faulty : Option FaultIds) (parts : Parts)
    → faulty ≡ None → script_seen shape (record { nodes = nodes; ids = [] }) parts ≡ empty_script
    nodes shape → parts.eras.items ≡ []
    → IsFormed (script_seen shape (faulty_or_none nodes faulty) parts) × IsOver nodes faulty parts
nothing_kept shape nodes faulty parts none says eras =
    let formed : IsFormed (script_seen shape (record { nodes = nodes; ids = [] }) parts) =
    subst IsFormed (sym says) (empty_formed nodes shape) in (
      subst (λ f. IsFormed (script_seen shape (faulty_or_none nodes f) parts)) (sym none) formed,
      record {
        first = subst (λ f. IfSome f (λ set. set.nodes ≡ nodes)) (sym none) tt;
        further =
            subst (λ eras. All (λ (era : kept.Era). era.faulty.nodes ≡ nodes) eras) (sym eras)
            (λ k d lt. absurd (omega arith));
      },
    )

-- the script with other eras
abbrev pub with_eras : Script → List Era → Script
with_eras s eras = record s { eras = eras }

module _ (s : Script) (f : IsFormed s) (eras : List kept.Era) (seen : s.eras ≡ map era_seen eras)
  where
    -- one more era, if there was memory
    pub pushed_formed : (ok : Bool) (era : kept.Era) (new : List kept.Era)
        → new ≡ (if ok then eras ++ era ∷ [] else eras) → era.starts.items ≡ [] → length s.eras < 16
        → last_first s < era.first → All (λ id. id < s.nodes) era.faulty.ids
        → IsFormed (with_eras s (map era_seen new))
    pushed_formed true era new is none room above below =
        let same : map era_seen new ≡ s.eras ++ record
        { first = era.first; faulty = era.faulty.ids; starts = [] } ∷ [] =
        ap (map era_seen) is ∙ map-append era_seen eras (era ∷ []) ∙ rw (seen, none) refl in
        subst (λ eras. IsFormed (with_eras s eras)) (sym same)
        (era_formed s f era.first era.faulty.ids room above below)
    pushed_formed false era new is none room above below =
        subst (λ eras. IsFormed (with_eras s eras)) (seen ∙ sym (ap (map era_seen) is)) f

    -- the last of the code's eras
    last_seen : (era : kept.Era) → 0 < length eras → era ≡ get_or eras (length eras - 1) era
        → last_era s.eras ≡ Some (era_seen era)
    last_seen era some at =
        let size : length s.eras ≡ length eras = ap length seen ∙ length-map eras era_seen in
        let here : get_or s.eras (length s.eras - 1) (era_seen era) ≡ era_seen era =
        rw (size, seen) (get_or-map era_seen eras (length eras - 1) era (era_seen era) (omega arith)
        ∙ ap era_seen (sym at)) in
        slice_get-get_or s.eras (length s.eras - 1) (era_seen era) (omega (arith, size))
        ∙ ap Some here

    -- the eras with one more start
    pub with_start_seen : (era new : kept.Era) (start : Start) → 0 < length eras
        → era ≡ get_or eras (length eras - 1) era → era_seen new ≡ record (era_seen era)
        { starts = era.starts.items ++ start ∷ [] }
        → with_eras s (map era_seen (set eras (length eras - 1) new)) ≡ started s (last_era s.eras)
        start
    with_start_seen era new start some at is =
        let size : length s.eras ≡ length eras = ap length seen ∙ length-map eras era_seen in
        rw (last_seen era some at)
        (ap (with_eras s) (map-set era_seen eras (length eras - 1) new
        ∙ rw (size, seen, is) refl))

    -- one more start in the last era, if there was memory
    pub started_formed : (ok : Bool) (era new : kept.Era) (start : Start) → 0 < length eras
        → era ≡ get_or eras (length eras - 1) era → new.first ≡ era.first → new.faulty ≡ era.faulty
        → new.starts.items ≡ (if ok then era.starts.items ++ start ∷ [] else era.starts.items)
        → InRange (fields_at s.shape start.node) start.state
        → IsFormed (with_eras s (map era_seen (set eras (length eras - 1) new)))
    started_formed true era new start some at first faulty starts range =
        let is : era_seen new ≡ record (era_seen era) { starts = era.starts.items ++ start ∷ [] } =
        rw (first, faulty, starts) refl in
        subst IsFormed (sym (with_start_seen era new start some at is))
        (start_formed s f (last_era s.eras) start refl range)
    started_formed false era new start some at first faulty starts range =
        let is : era_seen new ≡ era_seen era = rw (first, faulty, starts) refl in
        let same : map era_seen (set eras (length eras - 1) new) ≡ map era_seen eras =
        map-set_same era_seen eras (length eras - 1) new era (is ∙ ap era_seen at) in
        subst (λ eras. IsFormed (with_eras s eras)) (seen ∙ sym same) f

-- one more start in era 0, if there was memory
pub first_started : (s : Script) (start : Start) (ok : Bool) (new : List Start) → IsFormed s
    → new ≡ (if ok then s.starts ++ start ∷ [] else s.starts)
    → InRange (fields_at s.shape start.node) start.state
    → IsFormed (record s { starts = new })
first_started s start ok new f is range = record {
  ids = f.ids;
  senders = f.senders;
  lies = f.lies;
  starts = subst (AreInRange s.shape) (sym is) (by ok);
  hits = f.hits;
  many = f.many;
  rising = f.rising;
  few = f.few;
  order = f.order;
  shown = f.shown;
} where
  by : (ok : Bool) → AreInRange s.shape (if ok then s.starts ++ start ∷ [] else s.starts)
  by true =
      All-push (λ (start : Start). InRange (fields_at s.shape start.node) start.state) s.starts
      start f.starts range
  by false = f.starts

-- the further eras stay sets of as many nodes
pub pushed_over : (nodes : ℕ) (ok : Bool) (era : kept.Era) (eras new : List kept.Era)
    → new ≡ (if ok then eras ++ era ∷ [] else eras) → era.faulty.nodes ≡ nodes
    → All (λ (era : kept.Era). era.faulty.nodes ≡ nodes) eras
    → All (λ (era : kept.Era). era.faulty.nodes ≡ nodes) new
pushed_over nodes true era eras new is here all =
    subst (All (λ (era : kept.Era). era.faulty.nodes ≡ nodes)) (sym is)
    (All-push (λ (era : kept.Era). era.faulty.nodes ≡ nodes) eras era all here)
pushed_over nodes false era eras new is here all =
    subst (All (λ (era : kept.Era). era.faulty.nodes ≡ nodes)) (sym is) all

-- what holds if there was memory
pub if_ok : {X E A : Type 0} (r : Result X E) → (is_ok r ≡ true → A) → IfOk r (λ _. A)
if_ok (Ok x) h = h refl
if_ok (Err e) h = tt

-- the faulty nodes of a draft are a set of as many nodes
pub over_nodes : (nodes : ℕ) (faulty : Option FaultIds) → IfSome faulty (λ set. set.nodes ≡ nodes)
    → (faulty_or_none nodes faulty).nodes ≡ nodes
over_nodes nodes None is = refl
over_nodes nodes (Some set) is = is
