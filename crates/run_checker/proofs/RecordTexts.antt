-- What is written of a script is the text of the certificate of its run.
use Rattle.std.proofs.Common.{◌≡◌, ℕ, zero, suc, ◌+◌, Bool, true, false, cond, not, List, [], ◌∷◌}
use Rattle.std.proofs.Common.{◌++◌, map, filter, codes, decimal, Option, Some, None, refl, sym, ap}
use Rattle.std.proofs.Common.{ap₂, ◌∙◌, append_assoc, append-nil}
use Rattle.std.specs.Prelude.{reverse}
use Rattle.std.specs.List.{concat, flat_map, range_with_len}
use Rattle.std.proofs.lemmas.Grind.{flat_map-append}
use Rattle.std.proofs.lemmas.List.Folds.{flat_map-map}
use Rattle.construction.specs.Plans.{Level, Plan, plan_nodes}
use Rattle.construction.specs.Steps.{state_of}
use Rattle.construction.specs.Runs.{is_in}
use Rattle.state_codec.specs.Shapes.{Shape, shape_of, fields_at}
use Rattle.state_codec.specs.Texts.{written_text}
use Rattle.adversary_script.specs.Scripts as scripts
use Rattle.adversary_script.specs.Scripts.{Script, IsScript}
use Rattle.adversary_script.specs.Eras.{faulty_at}
use Rattle.adversary_script.specs.Lies.{lie_of}
use Rattle.texts.specs.Words.{text_of}
use Rattle.round_runner.specs.Locks.{correct_nodes}
use Rattle.round_runner.specs.Played.{played_at}
use Rattle.run_checker.specs.Items.{Item, item_line, faulty_item, row_item}
use Rattle.run_checker.specs.Certificates.{level_of, start_of, era_items}
use Rattle.run_checker.specs.Certificates.{turns_items, items_of, certificate_text}
use Rattle.run_checker.specs.Certificates as certificates
use Rattle.run_checker.specs.Grammar.{pairs_of}
use Rattle.run_checker.specs.Stated.{shown_row}
use Rattle.run_checker.specs.Recorded.{stand_at, put_at, lie_at, is_put, puts_at, era_with}
use Rattle.run_checker.specs.Recorded.{era_at, turn_at, recorded_version, certificate_of}
use Rattle.run_checker.proofs.EraBegins.{found_faulty}
use Rattle.run_checker.specs.RunLines.{version_line, base_line, level_line, level_lines}
use Rattle.run_checker.specs.RunLines.{faulty_text, start_text, first_start, first_starts, lie_text}
use Rattle.run_checker.specs.RunLines.{lie_if, lies_from, lies_text, starts_text, era_text}
use Rattle.run_checker.specs.RunLines.{era_lines, row_text, turn_text, turns_text, record_text}
use Rattle.run_checker.proofs.LineTexts.{line_of, version_is, base_is, level_is, faulty_is, era_is}
use Rattle.run_checker.proofs.LineTexts.{row_is, start_is, lie_is, kept_lines, same_lines}
use Rattle.run_checker.proofs.LineTexts.{nested_lines}

-- the lines of items
abbrev pub lines : List Item → List ℕ
lines items = flat_map line_of items

pub lines_text : (items : List Item) → text_of (map item_line items) ≡ lines items
lines_text items = flat_map-map (λ line. line ++ 10 ∷ []) item_line items

mapped : {X : Type 0} (item : X → Item) (xs : List X)
    → lines (map item xs) ≡ flat_map (λ x. line_of (item x)) xs
mapped item xs = flat_map-map line_of item xs

module _ (plan : Plan) (s : Script) (whole : IsScript s) (shape : s.shape ≡ shape_of plan) where
  -- ---- states

  own_start : (t v : ℕ)
      → start_text s (played_at plan s t) v ≡ line_of (start_of (put_at plan s t v))
  own_start t v =
      ap
      (λ (sh : Shape). concat
      (codes "start " ∷ decimal v ∷ codes " "
      ∷ written_text (fields_at sh v) (state_of (played_at plan s t) v) ∷ codes "\n" ∷ []))
      shape
      ∙ start_is v (written_text (fields_at (shape_of plan) v) (state_of (played_at plan s t) v))

  started : (t : ℕ) (vs : List ℕ)
      → lines (map start_of (map (put_at plan s t) vs))
      ≡ flat_map (start_text s (played_at plan s t)) vs
  started t vs =
      mapped start_of (map (put_at plan s t) vs)
      ∙ flat_map-map (λ put. line_of (start_of put)) (put_at plan s t) vs
      ∙ sym
      (same_lines (start_text s (played_at plan s t))
      (λ v. line_of (start_of (put_at plan s t v))) (own_start t) vs)

  unless : (b : Bool) (l : List ℕ) → cond (not b) l [] ≡ cond b [] l
  unless true l = refl
  unless false l = refl

  first_are : lines
      (map start_of (map (put_at plan s 0) (correct_nodes (plan_nodes plan) (faulty_at s 0))))
      ≡ first_starts s (plan_nodes plan) (played_at plan s 0)
  first_are =
      started 0 (correct_nodes (plan_nodes plan) (faulty_at s 0))
      ∙ kept_lines (λ v. not (is_in (faulty_at s 0) v)) (start_text s (played_at plan s 0))
      (range_with_len 0 (plan_nodes plan))
      ∙ same_lines
      (λ v. cond (not (is_in (faulty_at s 0) v)) (start_text s (played_at plan s 0) v) [])
      (first_start s (played_at plan s 0))
      (λ v. unless (is_in (faulty_at s 0) v) (start_text s (played_at plan s 0) v))
      (range_with_len 0 (plan_nodes plan))

  starts_are : (t : ℕ)
      → lines (map start_of (puts_at plan s t)) ≡ starts_text plan s t (played_at plan s (t + 1))
  starts_are t =
      started (t + 1) (filter (is_put plan s t) (range_with_len 0 (plan_nodes plan)))
      ∙ kept_lines (is_put plan s t) (start_text s (played_at plan s (t + 1)))
      (range_with_len 0 (plan_nodes plan))

  -- ---- lies

  own_lie : (t u v : ℕ)
      → lie_text s t (played_at plan s t) u v
      ≡ line_of (certificates.lie_of (lie_at plan s t (u, v)))
  own_lie t u v =
      ap
      (λ (sh : Shape). concat
      (codes "lie " ∷ decimal u ∷ codes " " ∷ decimal v ∷ codes " "
      ∷ written_text (fields_at sh u) (lie_of s t u v (played_at plan s t)) ∷ codes "\n"
      ∷ []))
      shape
      ∙ lie_is u v
      (written_text (fields_at (shape_of plan) u) (lie_of s t u v (played_at plan s t)))

  told_by_one : (t u : ℕ)
      → flat_map (λ p. line_of (certificates.lie_of (lie_at plan s t p)))
      (map (λ v. (u, v)) (correct_nodes (plan_nodes plan) (faulty_at s t)))
      ≡ lies_from s (plan_nodes plan) t (played_at plan s t) u
  told_by_one t u =
      flat_map-map (λ p. line_of (certificates.lie_of (lie_at plan s t p))) (λ v. (u, v))
      (correct_nodes (plan_nodes plan) (faulty_at s t))
      ∙ kept_lines (λ v. not (is_in (faulty_at s t) v))
      (λ v. line_of (certificates.lie_of (lie_at plan s t (u, v))))
      (range_with_len 0 (plan_nodes plan))
      ∙ same_lines
      (λ v. cond (not (is_in (faulty_at s t) v))
      (line_of (certificates.lie_of (lie_at plan s t (u, v)))) [])
      (lie_if s t (played_at plan s t) u)
      (λ v. unless (is_in (faulty_at s t) v)
      (line_of (certificates.lie_of (lie_at plan s t (u, v))))
      ∙ ap (λ l. cond (is_in (faulty_at s t) v) [] l) (sym (own_lie t u v)))
      (range_with_len 0 (plan_nodes plan))

  lies_are : (t : ℕ)
      → lines (map certificates.lie_of (turn_at plan s t).lies)
      ≡ lies_text s (plan_nodes plan) t (played_at plan s t)
  lies_are t =
      mapped certificates.lie_of
      (map (lie_at plan s t) (pairs_of (plan_nodes plan) (faulty_at s t)))
      ∙ flat_map-map (λ lie. line_of (certificates.lie_of lie)) (lie_at plan s t)
      (pairs_of (plan_nodes plan) (faulty_at s t))
      ∙ nested_lines (λ p. line_of (certificates.lie_of (lie_at plan s t p)))
      (λ u. map (λ v. (u, v)) (correct_nodes (plan_nodes plan) (faulty_at s t))) (faulty_at s t)
      ∙ same_lines
      (λ u. flat_map (λ p. line_of (certificates.lie_of (lie_at plan s t p)))
      (map (λ v. (u, v)) (correct_nodes (plan_nodes plan) (faulty_at s t))))
      (lies_from s (plan_nodes plan) t (played_at plan s t)) (told_by_one t) (faulty_at s t)

  -- ---- eras

  era_are : (t : ℕ) (found : Option scripts.Era) → era_at plan s (t + 1) ≡ found
      → lines (era_items (t + 1) (era_with plan s t found))
      ≡ era_lines plan s t (played_at plan s (t + 1)) found
  era_are t None is = refl
  era_are t (Some era) is =
      ap₂ (λ a b. a ++ b)
      (sym (era_is (t + 1) era.faulty)
      ∙ ap (era_text (t + 1))
      (sym (found_faulty 0 (t + 1) s.faulty s.eras era whole.formed.rising is)))
      (starts_are t ∙ sym (append-nil (starts_text plan s t (played_at plan s (t + 1)))))

  -- ---- rounds

  one_turn : (t : ℕ) (more : List Item) → lines (map certificates.lie_of (turn_at plan s t).lies
      ++
      (era_items (t + 1) (turn_at plan s t).era
      ++ (row_item (t + 1) (turn_at plan s t).row ∷ more)))
      ≡ turn_text plan s t ++ lines more
  one_turn t more =
      let lies : List Item = map certificates.lie_of (turn_at plan s t).lies in
      let era : List Item = era_items (t + 1) (turn_at plan s t).era in
      let row : Item = row_item (t + 1) (turn_at plan s t).row in
      let a : List ℕ = lies_text s (plan_nodes plan) t (played_at plan s t) in
      let b : List ℕ = era_lines plan s t (played_at plan s (t + 1)) (era_at plan s (t + 1)) in
      let r : List ℕ = row_text plan (faulty_at s (t + 1)) (t + 1) (played_at plan s (t + 1)) in
      flat_map-append line_of lies (era ++ (row ∷ more))
      ∙ ap₂ (λ x y. x ++ y) (lies_are t)
      (flat_map-append line_of era (row ∷ more)
      ∙ ap₂ (λ x y. x ++ y) (era_are t (era_at plan s (t + 1)) refl)
      (ap (λ l. l ++ lines more)
      (sym (row_is plan (faulty_at s (t + 1)) (played_at plan s (t + 1)) (t + 1)))))
      ∙ regroup a b r (lines more) where
        regroup : (a b r m : List ℕ) → a ++ (b ++ (r ++ m)) ≡ (a ++ (b ++ (r ++ []))) ++ m
        regroup a b r m =
            ap (λ l. a ++ (b ++ (l ++ m))) (sym (append-nil r))
            ∙ ap (λ l. a ++ l) (sym (append_assoc b (r ++ []) m))
            ∙ sym (append_assoc a (b ++ (r ++ [])) m)

  turns_are : (k t : ℕ) → lines (turns_items (t + 1) (map (turn_at plan s) (range_with_len t k)))
      ≡ flat_map (turn_text plan s) (range_with_len t k) ++ codes "end\n"
  turns_are zero t = refl
  turns_are (suc k) t =
      one_turn t (turns_items (t + 1 + 1) (map (turn_at plan s) (range_with_len (t + 1) k)))
      ∙ ap (λ l. turn_text plan s t ++ l) (turns_are k (t + 1))
      ∙ sym
      (append_assoc (turn_text plan s t)
      (flat_map (turn_text plan s) (range_with_len (t + 1) k)) (codes "end\n"))

  -- ---- the head

  levels_are : (version : ℕ) (levels : List Level)
      → lines (map (level_of version) levels) ≡ flat_map (level_line version) levels
  levels_are version levels =
      mapped (level_of version) levels
      ∙ sym
      (same_lines (level_line version) (λ level. line_of (level_of version level))
      (level_is version) levels)

  pub record_is : certificate_text (certificate_of plan s) ≡ record_text plan s
  record_is =
      let version : ℕ = recorded_version plan s in
      let levels : List Level = reverse plan.levels in
      let starts : List Item = map start_of
      (map (put_at plan s 0) (correct_nodes (plan_nodes plan) (faulty_at s 0))) in
      let row : Item = row_item 0 (shown_row plan (stand_at plan s 0)) in
      let turns : List Item = turns_items 1 (map (turn_at plan s) (range_with_len 0 s.rounds)) in
      lines_text (items_of (certificate_of plan s))
      ∙ ap₂
      (λ v b. v
      ++ (b
      ++ lines
      (map (level_of version) levels
      ++ (faulty_item (faulty_at s 0) ∷ (starts ++ (row ∷ turns))))))
      (sym (version_is version)) (sym (base_is plan.base))
      ∙ ap (λ l. version_line version ++ (base_line plan.base ++ l))
      (flat_map-append line_of (map (level_of version) levels)
      (faulty_item (faulty_at s 0) ∷ (starts ++ (row ∷ turns)))
      ∙ ap₂ (λ x y. x ++ y) (levels_are version levels)
      (ap₂ (λ x y. x ++ y) (sym (faulty_is (faulty_at s 0)))
      (flat_map-append line_of starts (row ∷ turns)
      ∙ ap₂ (λ x y. x ++ y) first_are
      (ap₂ (λ x y. x ++ y) (sym (row_is plan (faulty_at s 0) (played_at plan s 0) 0))
      (turns_are s.rounds 0)))))
      ∙ regroup (version_line version) (base_line plan.base) (level_lines version plan.levels)
      (faulty_text (faulty_at s 0))
      (first_starts s (plan_nodes plan) (played_at plan s 0))
      (row_text plan (faulty_at s 0) 0 (played_at plan s 0)) (turns_text plan s) (codes "end\n")
    where
      regroup : (v b l f st r ts e : List ℕ) → v ++ (b ++ (l ++ (f ++ (st ++ (r ++ (ts ++ e))))))
          ≡ concat (concat (v ∷ b ∷ l ∷ f ∷ []) ∷ st ∷ r ∷ ts ∷ e ∷ [])
      regroup v b l f st r ts e =
          ap (λ x. v ++ (b ++ (l ++ (f ++ (st ++ (r ++ (ts ++ x))))))) (sym (append-nil e))
          ∙ sym (append_assoc v (b ++ (l ++ (f ++ []))) (st ++ (r ++ (ts ++ (e ++ []))))
          ∙ ap (λ x. v ++ x) (append_assoc b (l ++ (f ++ [])) (st ++ (r ++ (ts ++ (e ++ []))))
          ∙ ap (λ x. b ++ x) (append_assoc l (f ++ []) (st ++ (r ++ (ts ++ (e ++ []))))
          ∙ ap (λ x. l ++ x) (ap (λ y. y ++ (st ++ (r ++ (ts ++ (e ++ []))))) (append-nil f)))))
