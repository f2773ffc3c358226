-- The lines of a node in a configuration of a script's run. If nothing is heard, what stands in the
-- places of what is heard does not show.
use Rattle.std.proofs.Common.{◌≡◌, ℕ, ◌-◌, ◌*◌, ◌/◌, ◌%◌, Bool, true, false, cond, ltb, List, []}
use Rattle.std.proofs.Common.{◌∷◌, ◌++◌, length, refl, ap, ◌∙◌}
use Rattle.std.specs.Prelude.{nat_lt}
use Rattle.sync_types.specs.FaultSets.{is_in}
use Rattle.sync_types.specs.States.{State}
use Rattle.construction.specs.Plans.{Level, Plan, nodes_of}
use Rattle.construction.specs.Steps.{state_of}
use Rattle.construction.specs.Votes.{block}
use Rattle.adversary_script.specs.Scripts.{Script}
use Rattle.adversary_script.specs.Eras.{faulty_at}
use Rattle.round_runner.specs.Played.{heard_at}
use Rattle.trace.specs.declared.headings.Heading.{Heading}
use Rattle.trace.specs.LevelTexts.{level_line, level_lines}
use Rattle.trace.specs.NodeTexts.{state_line, view_text, node_text}

module _ (h : Heading) (faulty : List ℕ) (config : List State) where
  deaf : (ls : List Level) (place : ℕ) (one other : List State)
      → level_lines h faulty config false ls place one
      ≡ level_lines h faulty config false ls place other
  deaf [] place one other = refl
  deaf (level ∷ below) place one other =
      let n : ℕ = nodes_of below in
      let line : List ℕ = level_line h faulty config false (length below) n level
      (h.node - place) one in
      ap (λ (x : List ℕ). cond (ltb place (level.blocks * n)) x [] ++ line)
      (deaf below (place % n) (block n (place / n) one) (block n (place / n) other))

  by_hearing : (hears : Bool) (ls : List Level) (place : ℕ) (one other : List State)
      → (hears ≡ true → one ≡ other)
      → level_lines h faulty config hears ls place one
      ≡ level_lines h faulty config hears ls place other
  by_hearing true ls place one other same =
      ap (λ (g : List State). level_lines h faulty config true ls place g) (same refl)
  by_hearing false ls place one other same = deaf ls place one other

abbrev heading_with : (at node : ℕ) → Bool → Heading
heading_with at node bad = record { at = at; node = node; faulty = bad }

module _ (plan : Plan) (script : Script) (t v : ℕ) (states : List State) where
  abbrev bad_here : Bool
  bad_here = is_in (faulty_at script t) v

  abbrev heading : Heading
  heading = heading_with t v bad_here

  pub view_is : (at : ℕ) (bad : Bool) (ids : List ℕ) (config : List State) (hears : Bool)
      (levels : List Level) (heard : List State) → at ≡ t → bad ≡ is_in (faulty_at script t) v
      → ids ≡ faulty_at script t → config ≡ states → hears ≡ nat_lt t script.rounds
      → levels ≡ plan.levels → (hears ≡ true → heard ≡ heard_at script t states v)
      → view_text (heading_with at v bad) ids config hears levels heard
      ≡ node_text plan script t states v
  view_is at bad ids config hears levels heard at_is bad_is ids_is config_is hears_is levels_is
      heard_is =
      ap (λ (n : ℕ). view_text (heading_with n v bad) ids config hears levels heard) at_is
      ∙ (ap (λ (b : Bool). view_text (heading_with t v b) ids config hears levels heard) bad_is
      ∙ (ap (λ (xs : List ℕ). view_text heading xs config hears levels heard) ids_is
      ∙ (ap (λ (xs : List State). view_text heading (faulty_at script t) xs hears levels heard)
      config_is
      ∙ (ap (λ (ls : List Level). view_text heading (faulty_at script t) states hears ls heard)
      levels_is
      ∙ (ap (λ (x : List ℕ). state_line heading plan.levels (state_of states v) ++ x)
      (by_hearing heading (faulty_at script t) states hears plan.levels v heard
      (heard_at script t states v) heard_is)
      ∙ ap (λ (b : Bool). view_text heading (faulty_at script t) states b plan.levels
      (heard_at script t states v)) hears_is)))))
