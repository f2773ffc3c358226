-- Columns of zeros.
use Rattle.std.proofs.Common.{◌≡◌, ℕ, zero, suc, ◌+◌, ◌<◌, ◌≤◌, List, [], ◌∷◌, length, map, get_or}
use Rattle.std.proofs.Common.{replicate, Bool, false, unwrap_or, refl, sym, ap, ap₂, ◌∙◌, subst}
use Rattle.std.proofs.Common.{arith}
use Rattle.std.specs.List.{range_with_len}
use Rattle.std.proofs.lemmas.List.{get_or-replicate, length-replicate}
use Rattle.counting.proofs.Places.{none_pass}
use Rattle.sync_types.specs.declared.states.Reg.{Reg}
use Rattle.sync_types.specs.FaultSets.{is_in}
use Rattle.sync_types.specs.States.{zero_state, zero_register}
use Rattle.shared_board.specs.Sharing.{place_among}
use Rattle.shared_board.specs.Boards.{IsBoard, board_of, state_by}

map-same : {X Y : Type 0} → (f : X → Y) (x : X) (n : ℕ) → map f (replicate n x) ≡ replicate n (f x)
map-same f x zero = refl
map-same f x (suc n) = ap (λ ys. f x ∷ ys) (map-same f x n)

const_range : {X : Type 0} → (f : ℕ → X) (x : X) → ((i : ℕ) → f i ≡ x) → (n a : ℕ)
    → map f (range_with_len a n) ≡ replicate n x
const_range f x same zero a = refl
const_range f x same (suc n) a = ap₂ (λ y ys. y ∷ ys) (same a) (const_range f x same n (a + 1))

default_of_same : {X : Type 0} → (n i : ℕ) (d : X) → get_or (replicate n d) i d ≡ d
default_of_same zero i d = refl
default_of_same (suc n) zero d = refl
default_of_same (suc n) (suc i) d = default_of_same n i d

none_before : (u : ℕ) → place_among [] u ≡ 0
none_before u = omega (arith, none_pass (is_in []) u (λ i lt. refl))

module _ (nodes depth : ℕ) where
  abbrev zero_shows : List (List ℕ)
  zero_shows = replicate (depth + 1) (replicate {A = ℕ} nodes 0)

  abbrev zero_columns : List (List Reg)
  zero_columns = replicate depth (replicate nodes zero_register)

  pub zero_board : (shows : List (List ℕ)) (columns : List (List Reg)) (ids : List ℕ)
      (marks : List Bool) (before : List ℕ) (room : ℕ) → shows ≡ zero_shows → columns ≡ zero_columns
      → ids ≡ [] → marks ≡ replicate nodes false → before ≡ replicate {A = ℕ} (nodes + 1) 0
      → nodes ≤ room
      → nodes ≤ 256 → IsBoard nodes shows columns ids marks before room
  zero_board shows columns ids marks before room s c i m b r le =
      let kept : IsBoard nodes zero_shows zero_columns [] (replicate nodes false)
      (replicate {A = ℕ} (nodes + 1) 0) room = record {
        most = le;
        many = length-replicate (depth + 1) (replicate {A = ℕ} nodes 0)
            ∙ ap (λ n. n + 1) (sym (length-replicate depth (replicate nodes zero_register)));
        outputs = λ k d lt. ap length
            (get_or-replicate (depth + 1) k (replicate {A = ℕ} nodes 0) d
            (omega (arith, lt, length-replicate (depth + 1) (replicate {A = ℕ} nodes 0))))
            ∙ length-replicate {A = ℕ} nodes 0;
        registers = λ k d lt. ap length
            (get_or-replicate depth k (replicate nodes zero_register) d
            (omega (arith, lt, length-replicate depth (replicate nodes zero_register))))
            ∙ length-replicate nodes zero_register;
        shown = λ l lt.
            let less : l < depth =
            omega (arith, lt, length-replicate depth (replicate nodes zero_register)) in
            get_or-replicate (depth + 1) (l + 1) (replicate {A = ℕ} nodes 0) []
            (omega (arith, less))
            ∙ sym (ap (map (λ r. unwrap_or r.a 0))
            (get_or-replicate depth l (replicate nodes zero_register) [] less)
            ∙ map-same (λ (r : Reg). unwrap_or r.a 0) zero_register nodes);
        liars = record {
          rising = λ k lt. absurd (omega (arith, lt));
          below =
              λ k d lt. absurd (omega (arith, lt));
        };
        marked = sym (const_range (is_in []) false (λ i. refl) nodes 0);
        counted = sym (const_range (place_among []) 0 none_before (nodes + 1) 0);
        has_room = r;
      } in
      subst (λ s. IsBoard nodes s columns ids marks before room) (sym s)
      (subst (λ c. IsBoard nodes zero_shows c ids marks before room) (sym c)
      (subst (λ i. IsBoard nodes zero_shows zero_columns i marks before room) (sym i)
      (subst (λ m. IsBoard nodes zero_shows zero_columns [] m before room) (sym m)
      (subst (λ b. IsBoard nodes zero_shows zero_columns [] (replicate nodes false) b room)
      (sym b) kept))))

  zero_state_by : (v : ℕ) → state_by zero_shows zero_columns v ≡ zero_state depth
  zero_state_by v =
      let first : get_or zero_shows 0 [] ≡ replicate {A = ℕ} nodes 0 =
      get_or-replicate (depth + 1) 0 (replicate {A = ℕ} nodes 0) [] (omega arith) in
      let x : get_or (get_or zero_shows 0 []) v 0 ≡ 0 = ap (λ xs. get_or xs v 0) first
      ∙ default_of_same nodes v 0 in
      let registers : map (λ column. get_or column v zero_register) zero_columns
      ≡ replicate depth zero_register =
      map-same (λ column. get_or column v zero_register) (replicate nodes zero_register) depth
      ∙ ap (replicate depth) (default_of_same nodes v zero_register) in
      ap (λ x. record {
        x = x;
        registers =
            map (λ column. get_or column v zero_register) zero_columns;
      }) x
      ∙ ap (λ rs. record { x = 0; registers = rs }) registers

  pub zero_view : (shows : List (List ℕ)) (columns : List (List Reg)) (ids : List ℕ)
      → shows ≡ zero_shows → columns ≡ zero_columns → ids ≡ [] → board_of nodes shows columns ids
      ≡ record { depth = depth; faulty = []; states = replicate nodes (zero_state depth) }
  zero_view shows columns ids s c i =
      ap (λ s. board_of nodes s columns ids) s
      ∙ (ap (λ c. board_of nodes zero_shows c ids) c
      ∙ (ap (board_of nodes zero_shows zero_columns) i
      ∙ (ap (λ d. record {
        depth = d;
        faulty = [];
        states =
            map (state_by zero_shows zero_columns) (range_with_len 0 nodes);
      })
      (length-replicate depth (replicate nodes zero_register))
      ∙ ap (λ ss. record { depth = depth; faulty = []; states = ss })
      (const_range (state_by zero_shows zero_columns)
      (zero_state depth) zero_state_by nodes 0))))
