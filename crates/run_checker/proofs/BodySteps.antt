-- What the lines of eras and rows do.
use Rattle.std.proofs.Common.{◌≡◌, ℕ, Bool, true, false, cond, ◌&&◌, List, Option, Some}
use Rattle.std.proofs.Common.{None, Ok, refl, ap, ◌∙◌}
use Rattle.std.proofs.lemmas.Option.{same_Some}
use Rattle.edge_io.specs.Taking.{Takes}
use Rattle.texts.specs.Parts.{goes, ends, refuses}
use Rattle.construction.specs.Plans.{plan_nodes, plan_faults, plan_depth}
use Rattle.run_checker.specs.Items.{era_item, era_by}
use Rattle.run_checker.specs.Checking.{Stage, Onward, putting, telling, refused, step, step_by}
use Rattle.run_checker.specs.Checking.{renewed, is_borne, is_row, era_fits}
use Rattle.run_checker.specs.Bodies.{BodySeen, stage_of}
use Rattle.run_checker.specs.Stated.{same_rows, shown_row}
use Rattle.run_checker.specs.Sets.{borne_ids}
use Rattle.run_checker.specs.Rows.{row_compared}
use Rattle.run_checker.specs.declared.check_lines.Phase.{Phase}
use Rattle.run_checker.specs.Phases.{phase_seen, Enters}
use Rattle.run_checker.specs.Changes.{may_begin, era_more, played_into, marked_by, IsMarked, Marks}

-- ---- what an answer says

pub takes_on : (next : Onward) (new t : Stage) → next ≡ goes t → new ≡ t → Takes next new (Ok None)
takes_on next new t e is = rw e is

chosen : (b : Bool) (t : Stage) → b ≡ true → cond b (goes t) refused ≡ goes t
chosen true t e = refl
chosen false t e = absurd cc

and_of : (a b : Bool) → a ≡ true → b ≡ true → (a && b) ≡ true
and_of true b p q = q
and_of false b p q = p

-- ---- eras

module _ (b : BodySeen) (t : ℕ) where
  era_telling : (ids : List ℕ) → b.is_putting ≡ false → step (stage_of b) (era_item t ids)
      ≡ cond (era_fits b.known b.told t ids)
      (goes (putting (renewed b.known ids b.told) b.known.stand.faulty 0)) refused
  era_telling ids e =
      ap
      (λ (p : Bool). step (cond p (putting b.known b.unknown b.from) (telling b.known b.told))
      (era_item t ids))
      e

  era_parts : (ids : List ℕ)
      → era_fits b.known b.told t ids ≡ (may_begin b t && is_borne b.known.plan ids)
  era_parts ids = refl

  is_borne_one : (c : Bool) (ids found : List ℕ) → cond c (Some ids) None ≡ Some found
      → (c ≡ true) × (ids ≡ found)
  is_borne_one true ids found e = (refl, same_Some _ _ e)
  is_borne_one false ids found e = absurd cc

  pub era_taken : (said : Option (List ℕ)) (ids : List ℕ) (new : BodySeen) → b.is_putting ≡ false
      → may_begin b t ≡ true
      → borne_ids (plan_nodes b.known.plan) (plan_faults b.known.plan) said ≡ Some ids
      → new ≡ played_into (era_more b) ids
      → Takes (step_by (stage_of b) (era_by (Some t) said)) (stage_of new) (Ok None)
  era_taken None ids new e may borne is = absurd cc
  era_taken (Some said) ids new e may borne is =
      let h = is_borne_one (is_borne b.known.plan said) said ids borne in
      takes_on _ (stage_of new) (putting (renewed b.known ids b.told) b.known.stand.faulty 0)
      (era_telling said e ∙ chosen _ _ (era_parts said ∙ and_of _ _ may h.0)
      ∙ ap (λ (l : List ℕ). goes (putting (renewed b.known l b.told) b.known.stand.faulty 0)) h.1)
      (ap stage_of is)

-- ---- a row that was compared

-- what a row is compared to
row_marks_by : (b : BodySeen) (row : List (Option ℕ)) (same : Bool) (m : Bool)
    → is_row b.known.plan b.known.stand.faulty row ≡ m
    → Some same ≡ cond m (Some (same_rows row (shown_row b.known.plan b.known.stand))) None
    → IsMarked row b (marked_by b same)
row_marks_by b row same true e is = record {
  is_row = e;
  marked = ap (λ (r : Bool). marked_by b r) (same_Some _ _ is);
}
row_marks_by b row same false e is = absurd cc

pub row_marks : (b : BodySeen) (said : Option (List (Option ℕ))) (same : Bool)
    → Some same
    ≡ row_compared (plan_depth b.known.plan) b.known.stand.faulty b.known.stand.config
    (plan_nodes b.known.plan) said
    → Marks said b (marked_by b same) true
row_marks b None same is = absurd cc
row_marks b (Some row) same is =
    row_marks_by b row same (is_row b.known.plan b.known.stand.faulty row) refl is

-- ---- a line of the head

pub entered : (next : Onward) (new : Phase) → Enters next (Ok new)
    → Takes next (phase_seen new) (Ok None)
entered (goes stage) new h = h
entered (ends v) new h = absurd h
entered (refuses r) new h = absurd h
