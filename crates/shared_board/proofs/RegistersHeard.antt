-- What a level's senders say is what is heard if the lies stand in the order of the liars.
use Rattle.std.proofs.Common.{◌≡◌, ℕ, zero, suc, ◌+◌, ◌*◌, ◌<◌, ◌≤◌, Bool, true, false, not, cond}
use Rattle.std.proofs.Common.{if◌then◌else◌, List, ◌∷◌, length, map, take, refl, sym, ap, ap₂, ◌∙◌}
use Rattle.std.proofs.Common.{arith}
use Rattle.std.specs.List.{filter, range_with_len}
use Rattle.std.proofs.lemmas.List.{get_or-map, length-map}
use Rattle.std.proofs.lemmas.List.FromFn.{get_or-map-range_with_len, take-map-range_with_len}
use Rattle.std.proofs.lemmas.Simd.{map-map}
use Rattle.counting.proofs.Places.{same_places, shorter}
use Rattle.sync_types.specs.declared.states.Reg.{Reg}
use Rattle.sync_types.specs.FaultSets.{is_in}
use Rattle.sync_types.specs.States.{State, zero_state, zero_register, register_at}
use Rattle.construction.specs.Shown.{shown}
use Rattle.construction.specs.Steps.{state_of, register_after}
use Rattle.plan_numbers.specs.declared.numbers.LevelNums.{LevelNums}
use Rattle.plan_numbers.specs.Numbers.{level_of}
use Rattle.plan_numbers.specs.Sizes.{block_nodes}
use Rattle.plan_laws.specs.Stretches.{stretch}
use Rattle.shared_board.specs.Senders.{Sent, is_liar, output_of, register_of, correct_in}
use Rattle.shared_board.specs.Senders.{liars_below, liars_in, told_by, IsTold, output_heard}
use Rattle.shared_board.specs.Senders.{value_heard, outputs_heard, values_heard}
use Rattle.shared_board.specs.GroupVotes.{register_heard}
use Rattle.shared_board.specs.Sharing.{place_among, heard_at, heard_with, honest_in}
use Rattle.shared_board.specs.Groups.{register_for}
use Rattle.shared_board.proofs.GroupStretches.{stretch_of_range, same_range}
use Rattle.shared_board.proofs.Ids.{places_of_all}
use Rattle.shared_board.specs.Boards.{Board, sent_of, AreLiars}

-- tests that agree on a stretch keep the same of it
same_filter : (p q : ℕ → Bool) (n a : ℕ) → ((i : ℕ) → a ≤ i → i < a + n → p i ≡ q i)
    → filter p (range_with_len a n) ≡ filter q (range_with_len a n)
same_filter p q zero a same = refl
same_filter p q (suc n) a same =
    ap₂ (λ b xs. cond b (a ∷ xs) xs) (same a (omega arith) (omega arith))
    (same_filter p q n (a + 1) (λ i le lt. same i (omega arith) (omega arith)))

module _ (b : Board) (h : ℕ) where
  abbrev pub s : Sent
  s = sent_of b h

  abbrev pub nodes : ℕ
  nodes = length b.states

  pub liar_is : (u : ℕ) → u < nodes → is_liar s u ≡ is_in b.faulty u
  liar_is u lt = get_or-map-range_with_len (is_in b.faulty) 0 nodes u u false lt (omega arith)

  pub below_is : (u : ℕ) → u ≤ nodes → liars_below s u ≡ place_among b.faulty u
  below_is u le = same_places (is_liar s) (is_in b.faulty) u (λ i lt. liar_is i (omega arith))

  pub correct_are : (first count : ℕ) → first + count ≤ nodes
      → correct_in s first count ≡ honest_in b.faulty first count
  correct_are first count le =
      same_filter (λ u. not (is_liar s u)) (λ u. not (is_in b.faulty u)) count first
      (λ i from to. ap not (liar_is i (omega arith)))

  module _ (are : AreLiars nodes b.faulty) where
    pub all_below : liars_below s nodes ≡ length b.faulty
    all_below = below_is nodes (omega arith) ∙ places_of_all b.faulty nodes are.rising are.below

    pub told_is : (lies : List State) → length lies ≡ length b.faulty → IsTold s lies
    told_is lies long =
        let size = length-map b.states (register_at h) in
        long ∙ (sym all_below ∙ ap (liars_below s) (sym size))

    -- no stretch has more liars than there are
    pub few_in : (first count : ℕ) → first + count ≤ nodes
        → liars_in s first count ≤ length b.faulty
    few_in first count le =
        omega (arith, all_below, shorter (is_liar s) (first + count) nodes le)

  module _ (lies : List State) where
    told_at : (u : ℕ) → u < nodes → told_by s lies u ≡ state_of lies (place_among b.faulty u)
    told_at u lt = ap (state_of lies) (below_is u (omega arith))

    -- what is heard of a node
    choice : {X : Type 0} → (f : State → X) (x : X) (u : ℕ) → u < nodes
        → x ≡ f (state_of b.states u)
        → (if is_liar s u then f (told_by s lies u) else x) ≡ f (heard_at b.faulty lies b.states u)
    choice f x u lt e =
        ap (λ t. if t then f (told_by s lies u) else x) (liar_is u lt)
        ∙ (ap (λ y. if is_in b.faulty u then y else x) (ap f (told_at u lt))
        ∙ (ap (λ y. if is_in b.faulty u then f (state_of lies (place_among b.faulty u)) else y) e
        ∙ sym (of_choice f (is_in b.faulty u) (state_of lies (place_among b.faulty u))
        (state_of b.states u))))
      where
        of_choice : {X : Type 0} → (f : State → X) (t : Bool) (x y : State)
            → f (if t then x else y) ≡ (if t then f x else f y)
        of_choice f true x y = refl
        of_choice f false x y = refl

    pub outputs_are : (first count : ℕ) → first + count ≤ nodes → outputs_heard s lies first count
        ≡ map (λ u. shown h (heard_at b.faulty lies b.states u)) (range_with_len first count)
    outputs_are first count le =
        same_range (output_heard s lies)
        (λ u. shown h (heard_at b.faulty lies b.states u)) count first
        (λ u from to.
        let lt : u < nodes = omega arith in
        choice (shown h) (output_of s u) u lt (get_or-map (shown h) b.states u (zero_state 0) 0 lt))

    pub values_are : (first count : ℕ) → first + count ≤ nodes → values_heard s lies first count
        ≡ map (λ u. (register_at h (heard_at b.faulty lies b.states u)).a)
        (range_with_len first count)
    values_are first count le =
        same_range (value_heard s lies)
        (λ u. (register_at h (heard_at b.faulty lies b.states u)).a) count first
        (λ u from to.
        let lt : u < nodes = omega arith in
        choice (λ s. (register_at h s).a) (register_of s u).a u lt
        (ap (λ (r : Reg). r.a)
        (get_or-map (register_at h) b.states u (zero_state 0) zero_register lt)))

    -- a node hears its own state of itself, as far as the level goes
    pub own_is : (node : ℕ) → node < nodes
        → (is_in b.faulty node ≡ true
        → register_at h (state_of lies (place_among b.faulty node))
        ≡ register_at h (state_of b.states node))
        → register_of s node ≡ register_at h (state_of (heard_with b.faulty lies b.states) node)
    own_is node lt own =
        get_or-map (register_at h) b.states node (zero_state 0) zero_register lt
        ∙ (by (is_in b.faulty node) refl
        ∙ sym (ap (register_at h)
        (get_or-map-range_with_len (heard_at b.faulty lies b.states) 0 nodes node node
        (zero_state 0) lt (omega arith))))
      where
        by : (t : Bool) → is_in b.faulty node ≡ t
            → register_at h (state_of b.states node)
            ≡ register_at h (heard_at b.faulty lies b.states node)
        by true e = sym (ap (λ t. register_at h
            (if t then state_of lies (place_among b.faulty node) else state_of b.states node)) e
            ∙ own e)
        by false e = sym (ap (λ t. register_at h
            (if t then state_of lies (place_among b.faulty node) else state_of b.states node)) e)

    -- the register heard in a group is that of the group
    pub register_is : (nums : LevelNums) (first node : ℕ)
        → nums.nodes ≡ nums.blocks * block_nodes nums + nums.spares
        → first + nums.nodes ≤ nodes → node < nodes
        → (is_in b.faulty node ≡ true
        → register_at h (state_of lies (place_among b.faulty node))
        ≡ register_at h (state_of b.states node))
        → register_heard s nums first node lies
        ≡ register_for (record {
          level = level_of nums;
          below = h;
          block = block_nodes nums;
          first =
              first;
        }) (heard_with b.faulty lies b.states) node
    register_is nums first node whole le lt own =
        let n : ℕ = block_nodes nums in
        let all : ℕ = nums.blocks * n in
        let f : ℕ → State = heard_at b.faulty lies b.states in
        let heard : List State = heard_with b.faulty lies b.states in
        let mine : List State = stretch (all + nums.spares) first heard in
        let within : first + (all + nums.spares) ≤ nodes = omega (arith, le, whole) in
        let mine_is : mine ≡ map f (range_with_len first (all + nums.spares)) =
        stretch_of_range f first 0 nodes (all + nums.spares) within
        ∙ ap (λ a. map f (range_with_len a (all + nums.spares))) (omega arith) in
        let outs : outputs_heard s lies first all ≡ map (shown h) (take all mine) =
        outputs_are first all (omega (arith, within))
        ∙ (sym (map-map (shown h) f (range_with_len first all))
        ∙ ap (map (shown h)) (sym
        (ap (take all) mine_is
        ∙ take-map-range_with_len f first (all + nums.spares) all (omega arith)))) in
        let vals : values_heard s lies first nums.nodes ≡ map (λ s. (register_at h s).a) mine =
        ap (values_heard s lies first) whole
        ∙ (values_are first (all + nums.spares) within
        ∙ (sym (map-map (λ (s : State). (register_at h s).a) f
        (range_with_len first (all + nums.spares)))
        ∙ ap (map (λ s. (register_at h s).a)) (sym mine_is))) in
        ap (λ own. register_after n (level_of nums) own (outputs_heard s lies first all)
        (values_heard s lies first nums.nodes)) (own_is node lt own)
        ∙ (ap (λ os. register_after n (level_of nums) (register_at h (state_of heard node)) os
        (values_heard s lies first nums.nodes)) outs
        ∙ ap (register_after n (level_of nums) (register_at h (state_of heard node))
        (map (shown h) (take all mine))) vals)
