-- What holds wherever the reading has come, and that it can go on to an end from there.
use Rattle.std.proofs.Common.{inl, inr, ⊎_elim, ◌≡◌, ℕ, zero, suc, ◌+◌, ◌<◌, ◌≤◌, ◌⊎◌, Bool, true}
use Rattle.std.proofs.Common.{false, cond, leb, ◌&&◌, List, [], ◌∷◌, ◌++◌, length, drop, codes}
use Rattle.std.proofs.Common.{decimal, Option, Some, None, refl, sym, ap, subst, ◌∙◌, arith}
use Rattle.std.specs.Prelude.{All, ⊤, ◌==◌, unwrap_or}
use Rattle.std.specs.Option.{is_some}
use Rattle.std.specs.List.{range_with_len, join_with_byte}
use Rattle.std.proofs.lemmas.Bool.{and_parts, ltb-true, leb-true, le-leb, not-true}
use Rattle.std.proofs.lemmas.List.{length_push, length-append}
use Rattle.std.proofs.lemmas.Fmt.{length-decimal-le}
use Rattle.run_checker.specs.NodeFields.{fields_of}
use Rattle.state_codec.specs.Texts.{read_text}
use Rattle.std.proofs.lemmas.List.Elements.{All-nil, All-cons}
use Rattle.texts.specs.Parts.{goes, ends, refuses}
use Rattle.sync_types.specs.States.{State}
use Rattle.construction.specs.Plans.{Level, Plan, plan_nodes, plan_faults}
use Rattle.plan_numbers.specs.Numbers.{line, with_level}
use Rattle.plan_numbers.specs.Premises.{base_premise, IsAccepted, FitsVersion}
use Rattle.run_checker.specs.Items.{Item, IsShort, HasLine, run_item, base_item, level_item}
use Rattle.run_checker.specs.Items.{faulty_item, start_item, row_item, lie_item, era_item}
use Rattle.run_checker.specs.Items.{end_item}
use Rattle.run_checker.specs.Grammar.{pairs_of, plan_version}
use Rattle.run_checker.specs.Checking.{Known, Stage, unread, begun, planned, putting, telling}
use Rattle.run_checker.specs.Checking.{Onward, refused, step, accepts, start_fits}
use Rattle.run_checker.specs.Checking.{first_row_fits, lie_fits, era_fits, next_row_fits}
use Rattle.run_checker.specs.Checking.{has_round, is_next, is_borne, level_fits, nothing_known}
use Rattle.run_checker.specs.Checking.{put_state, compared, moved, renewed}
use Rattle.run_checker.proofs.Complete.{passes}
use Rattle.run_checker.proofs.Tests.{borne_declared}
use Rattle.run_checker.proofs.Head.{none_is, back_by, least_plan, most_plan}
use Rattle.run_checker.proofs.Live.{Ends, IsAlive, end_after_row, end_in_round, end_in_starts}
use Rattle.run_checker.proofs.Whole.{reaches}
use Rattle.adversary_script.specs.Scripts.{most_rounds}

abbrev IsVersion : ℕ → Type 0
IsVersion version = (1 ≤ version) × (version ≤ 3)

abbrev pub IsGood : Stage → Type 0
IsGood unread = ⊤
IsGood (begun version) = IsVersion version
IsGood (planned version plan) =
    IsVersion version × IsAccepted plan × (plan.version ≡ plan_version version)
IsGood (putting k unknown from) = IsAlive k × (from ≤ plan_nodes k.plan)
IsGood (telling k told) =
    IsAlive k × (length told ≤ length (pairs_of (plan_nodes k.plan) k.stand.faulty))
    × ((told ≡ []) ⊎ (has_round k ≡ true))

-- a plan without levels
bare : (version base : ℕ) → Plan
bare version base = record { version = plan_version version; base = base; levels = [] }

bare_accepted : (version base : ℕ) → base_premise base ≡ None → IsAccepted (bare version base)
unfolding bare
bare_accepted version base none = record {
  oldest = least_plan (version == 3);
  newest = most_plan (version == 3);
  fits = All-nil (FitsVersion (plan_version version));
  levels = none;
}

-- ---- each step keeps it

onward : (b : Bool) (s t : Stage) → cond b (goes s) refused ≡ goes t → (b ≡ true) × (s ≡ t)
onward true s t e = (refl, goes_same s t e) where
  goes_same : (s t : Stage) → ◌≡◌ {A = Onward} (goes s) (goes t) → s ≡ t
  goes_same s t e =
      ap (λ (next : Onward). elim next as (λ _. Stage) [ goes u ↦ u | ends v ↦ s | refuses r ↦ s ])
      e
onward false s t e = absurd cc

onward_not : (b : Bool) (s t : Stage) → cond b refused (goes s) ≡ goes t → (b ≡ false) × (s ≡ t)
onward_not false s t e = (refl, (onward true s t e).1)
onward_not true s t e = absurd cc

next_there : (u v i : ℕ) (ps : List (ℕ × ℕ)) → is_next u v (drop i ps) ≡ true → i < length ps
next_there u v zero [] e = absurd cc
next_there u v zero (p ∷ ps) e = omega arith
next_there u v (suc i) [] e = absurd cc
next_there u v (suc i) (p ∷ ps) e = omega (arith, next_there u v i ps e)

alive_again : (k m : Known) → m.plan ≡ k.plan → m.stand.faulty ≡ k.stand.faulty → m.at ≤ most_rounds
    → IsAlive k → IsAlive m
alive_again k m p f a h = record {
  accepted = subst IsAccepted (sym p) h.accepted;
  ids =
      subst (λ q. All (λ id. id < plan_nodes q) m.stand.faulty) (sym p)
      (subst (All (λ id. id < plan_nodes k.plan)) (sym f) h.ids);
  most = a;
}

after_row : (k : Known) → IsAlive k → IsGood (telling k [])
after_row k h = (h, omega arith, inl refl)

next_round : (k : Known) → has_round k ≡ true → k.at + 1 ≤ most_rounds
next_round k h = let x : k.at < most_rounds = ltb-true _ _ h in omega arith

pub good_step : (stage : Stage) (item : Item) (t : Stage) → IsGood stage → step stage item ≡ goes t
    → IsGood t
unfolding bare
good_step unread (run_item version) t h e =
    let p = onward (leb 1 version && leb version 3) (begun version) t e in
    let q = and_parts _ _ p.0 in
    subst IsGood p.1 (leb-true _ _ q.0, leb-true _ _ q.1)
good_step (begun version) (base_item base) t h e =
    let p = onward_not (is_some (base_premise base)) (planned version (bare version base)) t e in
    subst IsGood p.1 (h, bare_accepted version base (none_is _ p.0), refl)
good_step (planned version plan) (level_item k f c spares) t h e =
    let level : Level = line k f c (unwrap_or spares 0) in
    let p = onward (level_fits version plan k f c spares) (planned version (with_level plan level))
    t e in
    let ok = and_parts _ _ p.0 in
    let said = back_by version (version == 3) spares refl ok.0 in
    let fits : FitsVersion plan.version level = λ one. said.1 (sym h.2 ∙ one) in
    subst IsGood p.1 (
      h.0,
      record {
        oldest = h.1.oldest;
        newest = h.1.newest;
        fits = All-cons (FitsVersion plan.version) level plan.levels fits h.1.fits;
        levels = (h.1.levels, none_is _ (not-true _ ok.1));
      },
      h.2,
    )
good_step (planned version plan) (faulty_item ids) t h e =
    let p = onward (is_borne plan ids)
    (putting (nothing_known version plan ids) (range_with_len 0 (plan_nodes plan)) 0) t e in
    subst IsGood p.1 (
      record { accepted = h.1; ids = (borne_declared plan ids p.0).ids; most = omega arith },
      omega arith,
    )
good_step (putting k unknown from) (start_item v digits) t h e =
    let p = onward (start_fits k unknown from v digits)
    (putting (put_state k v digits) unknown (v + 1)) t e in
    let below : v
    < plan_nodes k.plan = ltb-true _ _
    (and_parts _ _ (and_parts _ _ (and_parts _ _ (and_parts _ _ p.0).0).0).0).1 in
    subst IsGood p.1 (alive_again k (put_state k v digits) refl refl h.0.most h.0, omega arith)
good_step (putting k unknown from) (row_item n row) t h e =
    let p = onward (first_row_fits k unknown from n row) (telling (compared k row) []) t e in
    subst IsGood p.1
    (after_row (compared k row) (alive_again k (compared k row) refl refl h.0.most h.0))
good_step (telling k told) (lie_item u v digits) t h e =
    let state : State = read_text (fields_of k.plan u) digits in
    let p = onward (lie_fits k told u v digits) (telling k (told ++ state ∷ [])) t e in
    let q = and_parts _ _ (and_parts _ _ p.0).0 in
    let more : length told
    < length (pairs_of (plan_nodes k.plan) k.stand.faulty) = next_there u v (length told) _
    q.1 in
    subst IsGood p.1 (h.0, omega (arith, more, length_push told state), inr q.0)
good_step (telling k told) (era_item n ids) t h e =
    let p = onward (era_fits k told n ids) (putting (renewed k ids told) k.stand.faulty 0) t e in
    let a = and_parts _ _ p.0 in
    let all = and_parts _ _ (and_parts _ _ (and_parts _ _ a.0).0).0 in
    subst IsGood p.1 (
      record {
        accepted = h.0.accepted;
        ids = (borne_declared k.plan ids a.1).ids;
        most = next_round k all.0;
      },
      omega arith,
    )
good_step (telling k told) (row_item n row) t h e =
    let p = onward (next_row_fits k told n row)
    (telling (compared (moved k k.stand.faulty told) row) []) t e in
    let all = and_parts _ _ (and_parts _ _ p.0).0 in
    let next = compared (moved k k.stand.faulty told) row in
    subst IsGood p.1 (after_row next (alive_again k next refl refl (next_round k all.0) h.0))
good_step (telling k []) end_item t h e = absurd cc
good_step (telling k (state ∷ told)) end_item t h e = absurd cc
good_step stage item t h e = absurd cc

pub good_reach : (items : List Item) (stage t : Stage) → IsGood stage → reaches stage items ≡ Some t
    → IsGood t
good_reach [] stage t h e = let same : stage ≡ t = cc in subst IsGood same h
good_reach (item ∷ items) stage t h e =
    by (step stage item) refl e (λ next good more. good_reach items next t good more) where
      by : (next : Onward) → step stage item ≡ next
          → (elim next as (λ _. Option Stage)
          [ goes u ↦ reaches u items | ends v ↦ None | refuses r ↦ None ])
          ≡ Some t
          → ((u : Stage) → IsGood u → reaches u items ≡ Some t → IsGood t) → IsGood t
      by (goes u) s e more = more u (good_step stage item u h s) e
      by (ends v) s e more = absurd cc
      by (refuses r) s e more = absurd cc

-- ---- and from each an end can be read

ends_after : (stage next : Stage) (item : Item) → HasLine item
    → ((items : List Item) → accepts stage (item ∷ items) ≡ accepts next items) → Ends next
    → Ends stage
ends_after stage next item has same end =
    record {
      items = item ∷ end.items;
      verdict = end.verdict;
      read = same end.items
          ∙ end.read;
      lines = All-cons HasLine item end.items has end.lines;
    }

no_faulty_line : HasLine (faulty_item [])
no_faulty_line = record { words = All-nil IsShort; short = omega arith }

end_in_plan : (version : ℕ) (plan : Plan) → IsAccepted plan → Ends (planned version plan)
end_in_plan version plan h =
    let ids : List ℕ = range_with_len 0 (plan_nodes plan) in
    let first : Stage = putting (nothing_known version plan []) ids 0 in
    ends_after (planned version plan) first (faulty_item []) no_faulty_line
    (λ items. passes (is_borne plan []) first items (le-leb 0 (plan_faults plan) (omega arith)))
    (end_in_starts (nothing_known version plan []) ids 0
    (record { accepted = h; ids = All-nil (λ id. id < plan_nodes plan); most = omega arith })
    (omega arith))

digit_line : (key : List ℕ) → length (join_with_byte 32 (key ∷ decimal 2 ∷ [])) ≤ length key + 16
digit_line key =
    omega (
      arith,
      length-append key (32 ∷ decimal 2),
      length-decimal-le 15 2 (omega arith) (omega arith) (omega arith),
    )

end_in_base : (version : ℕ) → Ends (begun version)
unfolding bare
end_in_base version =
    ends_after (begun version) (planned version (bare version 2)) (base_item 2)
    (record { words = omega arith; short = omega (arith, digit_line (codes "base")) })
    (λ items. refl) (end_in_plan version (bare version 2) (bare_accepted version 2 refl))

end_in_head : Ends unread
end_in_head =
    ends_after unread (begun 2) (run_item 2)
    (record { words = omega arith; short = omega (arith, digit_line (codes "run")) })
    (λ items. refl) (end_in_base 2)

pub end_from : (stage : Stage) → IsGood stage → Ends stage
end_from unread h = end_in_head
end_from (begun version) h = end_in_base version
end_from (planned version plan) h = end_in_plan version plan h.1
end_from (putting k unknown from) h = end_in_starts k unknown from h.0 h.1
end_from (telling k told) h =
    ⊎_elim (λ none. subst (λ l. Ends (telling k l)) (sym none) (end_after_row k))
    (λ round. end_in_round k told h.0 round h.1) h.2
