-- The run that a recorded certificate states agrees with the played one at correct nodes.
use Rattle.std.proofs.Common.{◌≡◌, ℕ, zero, suc, ◌+◌, ◌<◌, Bool, true, false}
use Rattle.std.proofs.Common.{cond, eqb, not, ◌&&◌, ◌||◌, List, [], ◌∷◌, length, map, set}
use Rattle.std.proofs.Common.{Option, Some, None, find, unwrap_or, is_some, filter, refl, sym, ap}
use Rattle.std.proofs.Common.{◌∙◌, arith}
use Rattle.std.specs.List.{range_with_len}
use Rattle.std.proofs.lemmas.Bool.{and_from, eqb-true, eq-eqb}
use Rattle.std.proofs.lemmas.List.{length-set}
use Rattle.std.proofs.lemmas.List.FromFn.{length-map-range_with_len, get_or-map-range_with_len}
use Rattle.sync_types.specs.States.{State, zero_state}
use Rattle.construction.specs.Plans.{Plan, plan_nodes, plan_depth}
use Rattle.construction.specs.Steps.{state_of, step_of}
use Rattle.construction.specs.Runs.{is_in, heard_of, heard_by}
use Rattle.run_checker.specs.NodeFields.{fields_of}
use Rattle.state_codec.specs.Shapes.{IsFields, shape_of}
use Rattle.state_codec.specs.Texts.{read_text, written_text}
use Rattle.state_codec.proofs.Plans.{shape_of_accepted}
use Rattle.state_codec.proofs.Lows.{fields_limited}
use Rattle.adversary_script.specs.Scripts as scripts
use Rattle.adversary_script.specs.Scripts.{Script}
use Rattle.adversary_script.specs.Eras.{faulty_of_era, faulty_at}
use Rattle.adversary_script.specs.Lookup.{start_in, hit_at}
use Rattle.adversary_script.specs.Lies.{lie_of}
use Rattle.round_runner.specs.Laws.{IsReadFor}
use Rattle.round_runner.specs.Played.{lies_at, heard_at, played_at}
use Rattle.run_checker.proofs.EraBegins.{same_begun, found_faulty}
use Rattle.run_checker.proofs.PlayedStates.{played_in_range, told_in_range, borne_at}
use Rattle.state_codec.proofs.Digits.{text_reads_back}
use Rattle.round_runner.specs.Locks.{correct_nodes}
use Rattle.run_checker.specs.Certificates.{Put}
use Rattle.run_checker.specs.Grammar.{pairs_of, faulty_behind}
use Rattle.run_checker.specs.Stated.{Snapshot, Message, told_by, told_of, lies_table, unless_faulty}
use Rattle.run_checker.specs.Stated.{with_starts, starts_of, stepped, stand_behind}
use Rattle.run_checker.specs.Stated.{stands_behind, first_stand, shown_row, same_rows}
use Rattle.run_checker.specs.Stated.{differences, first_from, first_difference}
use Rattle.run_checker.specs.Recorded.{stand_at, put_at, lie_at, is_put, era_with, turn_at}
use Rattle.run_checker.specs.Recorded.{certificate_of}
use Rattle.std.specs.Prelude.{slice_index_or}
use Rattle.std.proofs.lemmas.List.{same_lists}
use Rattle.adversary_script.proofs.FaultyIds.{id_below}
use Rattle.std.specs.Option.{option_and_then}
use Rattle.std.proofs.Common.{add-one}
use Rattle.construction.specs.Shown.{shown}
use Rattle.run_checker.proofs.RecordedTellings.{Agrees, is_correct, is_in_filter}
use Rattle.run_checker.proofs.RecordedTellings.{is_in_range, map_map, paired, put_states}
use Rattle.run_checker.proofs.RecordedTellings.{told_state}

module _ (plan : Plan) (s : Script) (is : IsReadFor plan s) where
  limited : (v : ℕ) → IsFields (fields_of plan v)
  limited v =
      fields_limited (shape_of plan) v (shape_of_accepted plan is.accepted)

  -- what is written of a played state is read back
  reads_back : (t v : ℕ) → v < plan_nodes plan
      → read_text (fields_of plan v)
      (written_text (fields_of plan v) (state_of (played_at plan s t) v))
      ≡ state_of (played_at plan s t) v
  reads_back t v lt =
      text_reads_back (fields_of plan v) _ (limited v) (played_in_range plan s is t v lt)

  lie_reads_back : (t u v : ℕ) → u < plan_nodes plan
      → read_text (fields_of plan u)
      (written_text (fields_of plan u) (lie_of s t u v (played_at plan s t)))
      ≡ lie_of s t u v (played_at plan s t)
  lie_reads_back t u v lt =
      text_reads_back (fields_of plan u) _ (limited u) (told_in_range plan s is t u v lt)

  ids_below : (t u : ℕ) → is_in (faulty_at s t) u ≡ true → u < plan_nodes plan
  ids_below t u e =
      id_below (plan_nodes plan) u (faulty_at s t) (λ k d l. (borne_at plan s is t).ids k d l) e

  -- what is told is what the script lets a faulty node tell
  pub told_is : (t u v : ℕ) → v < plan_nodes plan → is_in (faulty_at s t) u ≡ true
      → is_in (faulty_at s t) v ≡ false
      → told_of plan (map (told_by plan) (turn_at plan s t).lies) u v
      ≡ lie_of s t u v (played_at plan s t)
  told_is t u v vlt f free =
      let faulty = faulty_at s t in
      let pairs = pairs_of (plan_nodes plan) faulty in
      ap (λ l. told_of plan l u v) (map_map (told_by plan) (lie_at plan s t) pairs)
      ∙ told_state plan (λ u v. read_text (fields_of plan u) (written_text (fields_of plan u)
      (lie_of s t u v (played_at plan s t)))) pairs u v
      (paired (plan_nodes plan) faulty faulty u v f
      (is_correct (plan_nodes plan) faulty v vlt free))
      ∙ lie_reads_back t u v (ids_below t u f)

  -- what v hears is the same
  heard_same : (t v : ℕ) (x : Snapshot) → v < plan_nodes plan → Agrees plan x (stand_at plan s t)
      → is_in (faulty_at s t) v ≡ false
      → heard_by (plan_nodes plan) x.faulty x.config
      (lies_table plan (map (told_by plan) (turn_at plan s t).lies)) v
      ≡ heard_at s t (played_at plan s t) v
  heard_same t v x vlt agree free =
      let n : ℕ = plan_nodes plan in
      let told : List Message = map (told_by plan) (turn_at plan s t).lies in
      same_lists _ _
      (length-map-range_with_len (heard_of x.faulty x.config (lies_table plan told) v) 0 n
      ∙ sym
      (length-map-range_with_len
      (heard_of (faulty_at s t) (played_at plan s t) (lies_at s t (played_at plan s t))
      v)
      0 s.nodes
      ∙ is.right.nodes))
      (λ u d l.
      let lt : u
      < n = omega (
        arith,
        length-map-range_with_len (heard_of x.faulty x.config (lies_table plan told) v) 0
            n,
      ) in
      get_or-map-range_with_len (heard_of x.faulty x.config (lies_table plan told) v) 0 n u u d lt
      (omega arith)
      ∙ ap (λ f. heard_of f x.config (lies_table plan told) v u) agree.faulty
      ∙ each_heard u lt
      ∙ sym
      (get_or-map-range_with_len
      (heard_of (faulty_at s t) (played_at plan s t) (lies_at s t (played_at plan s t)) v) 0
      s.nodes u u d (omega (arith, is.right.nodes)) (omega arith)))
    where
      each_heard : (u : ℕ) → u < plan_nodes plan
          → heard_of (faulty_at s t) x.config
          (lies_table plan (map (told_by plan) (turn_at plan s t).lies)) v u
          ≡ heard_of (faulty_at s t) (played_at plan s t) (lies_at s t (played_at plan s t)) v u
      each_heard u lt = by (eqb u v) (is_in (faulty_at s t) u) refl refl where
        by : (own liar : Bool) → eqb u v ≡ own → is_in (faulty_at s t) u ≡ liar
            → cond (own || not liar) (state_of x.config u)
            (state_of
            (slice_index_or (lies_table plan (map (told_by plan) (turn_at plan s t).lies)) u
            [])
            v)
            ≡ cond (own || not liar) (state_of (played_at plan s t) u)
            (state_of (slice_index_or (lies_at s t (played_at plan s t)) u []) v)
        by true liar o f =
            let here : u ≡ v = eqb-true u v o in
            agree.same u lt (ap (is_in (faulty_at s t)) here ∙ free)
        by false false o f = agree.same u lt f
        by false true o f =
            ap (λ row. state_of row v)
            (get_or-map-range_with_len
            (λ u. map (λ v. told_of plan (map (told_by plan) (turn_at plan s t).lies) u v)
            (range_with_len 0 (plan_nodes plan)))
            0 (plan_nodes plan) u u [] lt (omega arith))
            ∙ get_or-map-range_with_len
            (λ v. told_of plan (map (told_by plan) (turn_at plan s t).lies) u v) 0
            (plan_nodes plan) v v (zero_state 0) vlt (omega arith)
            ∙ told_is t u v vlt f free
            ∙ sym
            (ap (λ row. state_of row v)
            (get_or-map-range_with_len
            (λ u. map (λ v. lie_of s t u v (played_at plan s t))
            (range_with_len 0 s.nodes))
            0 s.nodes u u [] (omega (arith, is.right.nodes)) (omega arith))
            ∙ get_or-map-range_with_len (λ v. lie_of s t u v (played_at plan s t)) 0 s.nodes v v
            (zero_state 0) (omega (arith, is.right.nodes)) (omega arith))

  -- ---- the configuration after a round

  played_next : (t v : ℕ) → v < plan_nodes plan
      → state_of (played_at plan s (t + 1)) v
      ≡ unwrap_or (hit_at s (t + 1) v) (step_of plan v (heard_at s t (played_at plan s t) v))
  played_next t v lt =
      ap (λ k. state_of (played_at plan s k) v) (add-one t)
      ∙ (get_or-map-range_with_len
      (λ u. unwrap_or (hit_at s (t + 1) u) (step_of plan u (heard_at s t (played_at plan s t) u)))
      0 s.nodes v v (zero_state 0) (omega (arith, is.right.nodes)) (omega arith))

  stepped_at : (t v : ℕ) (new : List ℕ) (x : Snapshot) → v < plan_nodes plan
      → Agrees plan x (stand_at plan s t) → is_in new v ≡ false → is_in (faulty_at s t) v ≡ false
      → state_of (stepped plan new x (map (told_by plan) (turn_at plan s t).lies)) v
      ≡ step_of plan v (heard_at s t (played_at plan s t) v)
  stepped_at t v new x lt agree free before =
      get_or-map-range_with_len
      (λ u. cond (is_in new u) (zero_state (plan_depth plan))
      (step_of plan u
      (heard_by (plan_nodes plan) x.faulty x.config
      (lies_table plan (map (told_by plan) (turn_at plan s t).lies)) u)))
      0 (plan_nodes plan) v v (zero_state 0) lt (omega arith)
      ∙ ap
      (λ b. cond b (zero_state (plan_depth plan))
      (step_of plan v
      (heard_by (plan_nodes plan) x.faulty x.config
      (lies_table plan (map (told_by plan) (turn_at plan s t).lies)) v)))
      free
      ∙ ap (step_of plan v) (heard_same t v x lt agree before)

  length-stepped : (new : List ℕ) (x : Snapshot) (told : List Message)
      → length (stepped plan new x told) ≡ plan_nodes plan
  length-stepped new x told =
      length-map-range_with_len
      (λ v. cond (is_in new v) (zero_state (plan_depth plan))
      (step_of plan v (heard_by (plan_nodes plan) x.faulty x.config (lies_table plan told) v)))
      0 (plan_nodes plan)

  length-with_starts : (puts : List Put) (config : List State)
      → length (with_starts plan config puts) ≡ length config
  length-with_starts [] config = refl
  length-with_starts (put ∷ puts) config =
      length-with_starts puts (set config put.node (read_text (fields_of plan put.node) put.digits))
      ∙ length-set config put.node (read_text (fields_of plan put.node) put.digits)

  put_false : (b c : Bool) → (not false && (b || c)) ≡ false → (b ≡ false) × (c ≡ false)
  put_false false false e = (refl, refl)
  put_false true c e = absurd cc
  put_false false true e = absurd cc

  no_state : (o : Option State) (x : State) → is_some o ≡ false → unwrap_or o x ≡ x
  no_state None x e = refl
  no_state (Some y) x e = absurd cc

  agree_by : (t : ℕ) (x : Snapshot) (found : Option scripts.Era)
      → find (λ era. eqb era.first (t + 1)) s.eras ≡ found → Agrees plan x (stand_at plan s t)
      → Agrees plan
      (record {
        faulty = faulty_behind x.faulty (era_with plan s t found);
        config = with_starts plan
            (stepped plan (faulty_behind x.faulty (era_with plan s t found)) x
            (map (told_by plan) (turn_at plan s t).lies))
            (starts_of (era_with plan s t found));
      })
      (stand_at plan s (t + 1))
  agree_by t x None e agree =
      let same_faulty : faulty_at s (t + 1)
      ≡ faulty_at s t = ap (faulty_of_era s) (same_begun t s.eras e) in
      let no_hit : (v : ℕ) (y : State)
      → unwrap_or (hit_at s (t + 1) v) y
      ≡ y = λ v y. ap
      (λ o. unwrap_or (option_and_then (λ (era : scripts.Era). start_in era.starts v) o) y)
      e in
      record {
        faulty = agree.faulty ∙ sym same_faulty;
        size = length-stepped x.faulty x (map (told_by plan) (turn_at plan s t).lies);
        same = λ v lt free.
            let before : is_in (faulty_at s t) v ≡ false = ap (λ f. is_in f v) (sym same_faulty)
            ∙ free in
            stepped_at t v x.faulty x lt agree (ap (λ f. is_in f v) agree.faulty ∙ before) before
            ∙ sym
            (played_next t v lt
            ∙ no_hit v (step_of plan v (heard_at s t (played_at plan s t) v)));
      }
  agree_by t x (Some era) e agree =
      let same_faulty : faulty_at s (t + 1)
      ≡ era.faulty = found_faulty 0 (t + 1) s.faulty s.eras era is.whole.formed.rising e in
      let base : List State = stepped plan era.faulty x
      (map (told_by plan) (turn_at plan s t).lies) in
      let size : length base
      ≡ plan_nodes plan = length-stepped era.faulty x
      (map (told_by plan) (turn_at plan s t).lies) in
      let vs : List ℕ = filter (is_put plan s t) (range_with_len 0 (plan_nodes plan)) in
      record {
        faulty = sym same_faulty;
        size = length-with_starts (map (put_at plan s (t + 1)) vs) base ∙ size;
        same = λ v lt free.
            let in_list : is_in vs v
            ≡ is_put plan s t v = is_in_filter (is_put plan s t)
            (range_with_len 0 (plan_nodes plan)) v
            ∙ ap (λ b. is_put plan s t v && b) (is_in_range (plan_nodes plan) v lt)
            ∙ and_true (is_put plan s t v) in
            put_states plan (λ v. state_of (played_at plan s (t + 1)) v) vs base v
            (omega (arith, size))
            ∙ put_or_not t x v lt agree era.faulty free
            (ap (λ f. is_in f v) (sym same_faulty) ∙ free) (is_in vs v) (is_put plan s t v)
            in_list refl;
      } where
        and_true : (b : Bool) → (b && true) ≡ b
        and_true true = refl
        and_true false = refl

        put_or_not : (t : ℕ) (x : Snapshot) (v : ℕ) → v < plan_nodes plan
            → Agrees plan x (stand_at plan s t) → (new : List ℕ)
            → is_in (faulty_at s (t + 1)) v ≡ false → is_in new v ≡ false → (listed put : Bool)
            → listed ≡ put → is_put plan s t v ≡ put
            → cond listed
            (read_text (fields_of plan v)
            (written_text (fields_of plan v) (state_of (played_at plan s (t + 1)) v)))
            (state_of (stepped plan new x (map (told_by plan) (turn_at plan s t).lies)) v)
            ≡ state_of (played_at plan s (t + 1)) v
        put_or_not t x v lt agree new free here true put l p = reads_back (t + 1) v lt
        put_or_not t x v lt agree new free here false put l p =
            let none = put_false (is_in (faulty_at s t) v) (is_some (hit_at s (t + 1) v))
            (ap (λ b. not b && (is_in (faulty_at s t) v || is_some (hit_at s (t + 1) v)))
            (sym free)
            ∙ p ∙ sym l) in
            stepped_at t v new x lt agree here none.0
            ∙ sym
            (played_next t v lt
            ∙ no_state (hit_at s (t + 1) v)
            (step_of plan v (heard_at s t (played_at plan s t) v)) none.1)

  pub agree_next : (t : ℕ) (x : Snapshot) → Agrees plan x (stand_at plan s t)
      → Agrees plan (stand_behind plan x (turn_at plan s t)) (stand_at plan s (t + 1))
  agree_next t x agree = agree_by t x (find (λ era. eqb era.first (t + 1)) s.eras) refl agree

  -- ---- the whole run

  pub agree_first : Agrees plan (first_stand (certificate_of plan s)) (stand_at plan s 0)
  agree_first =
      let vs : List ℕ = correct_nodes (plan_nodes plan) (faulty_at s 0) in
      let base : List State = unless_faulty plan (faulty_at s 0)
      (λ v. zero_state (plan_depth plan)) in
      let size : length base
      ≡ plan_nodes plan = length-map-range_with_len
      (λ v. cond (is_in (faulty_at s 0) v) (zero_state (plan_depth plan))
      (zero_state (plan_depth plan)))
      0 (plan_nodes plan) in
      record {
        faulty = refl;
        size = length-with_starts (map (put_at plan s 0) vs) base ∙ size;
        same = λ v lt free.
            put_states plan (λ v. state_of (played_at plan s 0) v) vs base v (omega (arith, size))
            ∙ ap
            (λ b. cond b
            (read_text (fields_of plan v)
            (written_text (fields_of plan v) (state_of (played_at plan s 0) v)))
            (state_of base v))
            (is_correct (plan_nodes plan) (faulty_at s 0) v lt free)
            ∙ reads_back 0 v lt;
      }

  same_word : (faulty : List ℕ) (a b : List State) (v : ℕ)
      → (is_in faulty v ≡ false → state_of a v ≡ state_of b v)
      → cond (is_in faulty v) None (Some (shown (plan_depth plan) (state_of a v)))
      ≡ cond (is_in faulty v) None (Some (shown (plan_depth plan) (state_of b v)))
  same_word faulty a b v h = by (is_in faulty v) h where
    by : (liar : Bool) → (liar ≡ false → state_of a v ≡ state_of b v)
        → cond liar None (Some (shown (plan_depth plan) (state_of a v)))
        ≡ cond liar None (Some (shown (plan_depth plan) (state_of b v)))
    by true h = refl
    by false h = ap (λ x. Some (shown (plan_depth plan) x)) (h refl)

  -- configurations that agree show one row
  row_same : (a b : Snapshot) → Agrees plan a b → shown_row plan b ≡ shown_row plan a
  row_same a b agree =
      let word : Snapshot → ℕ
      → Option ℕ = λ x v. cond (is_in x.faulty v) None
      (Some (shown (plan_depth plan) (state_of x.config v))) in
      sym
      (same_lists _ _
      (length-map-range_with_len (word a) 0 (plan_nodes plan)
      ∙ sym (length-map-range_with_len (word b) 0 (plan_nodes plan)))
      (λ v d l.
      let lt : v
      < plan_nodes plan = omega
      (arith, length-map-range_with_len (word a) 0 (plan_nodes plan)) in
      get_or-map-range_with_len (word a) 0 (plan_nodes plan) v v d lt (omega arith)
      ∙ ap (λ f. cond (is_in f v) None (Some (shown (plan_depth plan) (state_of a.config v))))
      agree.faulty
      ∙ same_word b.faulty a.config b.config v (agree.same v lt)
      ∙ sym (get_or-map-range_with_len (word b) 0 (plan_nodes plan) v v d lt (omega arith))))

  same_rows_self : (row : List (Option ℕ)) → same_rows row row ≡ true
  same_rows_self [] = refl
  same_rows_self (None ∷ row) = same_rows_self row
  same_rows_self (Some a ∷ row) = and_from _ _ (eq-eqb a a refl) (same_rows_self row)

  same_here : (a b : Snapshot) → Agrees plan a b
      → not (same_rows (shown_row plan b) (shown_row plan a)) ≡ false
  same_here a b agree =
      ap not
      (ap (λ r. same_rows r (shown_row plan a)) (row_same a b agree)
      ∙ same_rows_self (shown_row plan a))

  -- no row differs
  none_differ : (k t n : ℕ) (x : Snapshot) → Agrees plan x (stand_at plan s t)
      → first_from (λ b. b) n
      (differences plan (map (λ turn. turn.row) (map (turn_at plan s) (range_with_len t k)))
      (stands_behind plan x (map (turn_at plan s) (range_with_len t k))))
      ≡ None
  none_differ zero t n x agree = refl
  none_differ (suc k) t n x agree =
      let next = agree_next t x agree in
      ap
      (λ b. cond b (Some n)
      (first_from (λ b. b) (n + 1)
      (differences plan
      (map (λ turn. turn.row) (map (turn_at plan s) (range_with_len (t + 1) k)))
      (stands_behind plan (stand_behind plan x (turn_at plan s t))
      (map (turn_at plan s) (range_with_len (t + 1) k))))))
      (same_here (stand_behind plan x (turn_at plan s t)) (stand_at plan s (t + 1)) next)
      ∙ none_differ k (t + 1) (n + 1) (stand_behind plan x (turn_at plan s t)) next

  pub no_difference : first_difference (certificate_of plan s) ≡ None
  no_difference =
      ap
      (λ b. cond b (Some 0)
      (first_from (λ b. b) 1
      (differences plan
      (map (λ turn. turn.row) (map (turn_at plan s) (range_with_len 0 s.rounds)))
      (stands_behind plan (first_stand (certificate_of plan s))
      (map (turn_at plan s) (range_with_len 0 s.rounds))))))
      (same_here (first_stand (certificate_of plan s)) (stand_at plan s 0) agree_first)
      ∙ none_differ s.rounds 0 1 (first_stand (certificate_of plan s)) agree_first
